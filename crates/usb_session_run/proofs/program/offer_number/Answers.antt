use Rattle.std.proofs.Common.{◌++◌, [], decimal, refl}
use Rattle.std.proofs.lemmas.List.{append-nil}
use Rattle.std.proofs.lemmas.Result.{err_from_is_err_and, on_err_weaker}
use Rattle.usb_session_run.proofs.OutsideLemmas.{Wrote_none, Wrote_more, Wrote_prefix}
use Rattle.usb_session_run.proofs.program.offer_number.Goals as goal

pub returns-in_err-offer-clause-err : goal.returns-in_err-offer-clause-err
returns-in_err-offer-clause-err g c =
    let tail = decimal c.args.number ++ c.args.back.now in
    let p = err_from_is_err_and c.from_residual.result c.from_residual.ensures.1 in
    rw p.1 (Wrote_prefix (g.G.Sink.written c.offer.new.sink) c.args.front.now tail (Wrote_none (g.G.Sink.written c.args.diag.now) (c.args.front.now ++ tail)) c.in_err-offer.ensures.err refl)

pub returns-in_err-offer-2-clause-err : goal.returns-in_err-offer-2-clause-err
returns-in_err-offer-2-clause-err g c =
    let text = decimal c.args.number in
    let back = c.args.back.now in
    let p = err_from_is_err_and c.from_residual-in_err-offer-2.result c.from_residual-in_err-offer-2.ensures.1 in
    let first = Wrote_more (g.G.Sink.written c.offer.new.sink) c.args.front.now (text ++ back) (Wrote_none (g.G.Sink.written c.args.diag.now) (c.args.front.now ++ (text ++ back))) c.in_ok-offer.ensures.ok refl in
    let cut = rw (c.as_bytes.ensures.value, c.format.ensures.text) at c.in_err-offer-2.ensures.err in
    rw p.1 (Wrote_prefix (g.G.Sink.written c.offer-2.new.sink) text back first cut refl)

pub returns-clause-err : goal.returns-clause-err
returns-clause-err g c =
    let text = decimal c.args.number in
    let back = c.args.back.now in
    let first = Wrote_more (g.G.Sink.written c.offer.new.sink) c.args.front.now (text ++ back) (Wrote_none (g.G.Sink.written c.args.diag.now) (c.args.front.now ++ (text ++ back))) c.in_ok-offer.ensures.ok refl in
    let digits = rw (c.as_bytes.ensures.value, c.format.ensures.text) at c.in_ok-offer-2.ensures.ok in
    let second = Wrote_more (g.G.Sink.written c.offer-2.new.sink) text back first digits refl in
    on_err_weaker c.offer-3.result (λ cut. Wrote_prefix (g.G.Sink.written c.offer-3.new.sink) back [] second cut (append-nil back)) c.offer-3.ensures.err
