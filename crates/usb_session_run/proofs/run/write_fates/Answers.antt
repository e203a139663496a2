use Rattle.std.proofs.Common.{◌∙◌, arith, refl}
use Rattle.std.proofs.lemmas.Result.{err_from_is_err_and}
use Rattle.usb_session_run.proofs.RunLemmas.{fates-start, fates-on, fates-cut}
use Rattle.usb_session_run.proofs.run.write_fates.Goals as goal

pub loop-ticket-init : goal.loop-ticket-init
loop-ticket-init g c = record { wrote = fates-start _ c.args.host.now; later = omega arith; quiet = refl }

pub returns-in_err-write_piece-clause-err : goal.returns-in_err-write_piece-clause-err
returns-in_err-write_piece-clause-err g c =
    let p = err_from_is_err_and c.from_residual-in_err-write_piece.result c.from_residual-in_err-write_piece.ensures.1 in
    rw p.1 (fates-cut (g.K.Sink.written c.write_piece.new.sink) c.args.host.now c.loop-ticket.ticket c.tickets-ticket-end.result c.as_bytes.result.now c.loop-ticket-test.true c.tickets-ticket-end.ensures.count (c.as_bytes.ensures.value ∙ (rw c.clear.ensures.bytes at c.in_ok-write_fate.ensures.line)) c.loop-ticket.invariant.wrote c.in_err-write_piece.ensures.err)

pub loop-ticket-preserved : goal.loop-ticket-preserved
loop-ticket-preserved g c = record {
  wrote = fates-on (g.K.Sink.written c.write_piece.new.sink) c.args.host.now c.loop-ticket.ticket c.tickets-ticket-end.result c.as_bytes.result.now c.loop-ticket-test.true c.tickets-ticket-end.ensures.count (c.as_bytes.ensures.value ∙ (rw c.clear.ensures.bytes at c.in_ok-write_fate.ensures.line)) c.loop-ticket.invariant.wrote c.in_ok-write_piece.ensures.ok;
  later = omega (arith, c.in_ok-write_piece.ensures.later);
  quiet = c.in_ok-write_piece.ensures.quiet ∙ c.loop-ticket.invariant.quiet;
}
