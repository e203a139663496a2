use Rattle.std.proofs.Common.{arith, ◌∙◌, [], length, sym, ap, refl}
use Rattle.std.proofs.lemmas.List.{length-take}
use Rattle.std.proofs.lemmas.Result.{err_from_is_err_and}
use Rattle.usb_io.proofs.ReaderLemmas.{along-same, along-trans}
use Rattle.usb_io.proofs.TurnLemmas.{settings-trans}
use Rattle.usb_msg.specs.Clients.{ClientState}
use Rattle.usb_msg.specs.Requests.{messaging}
use Rattle.usb_msg.proofs.PieceLemmas.{gathering-first, gathering-more, gather-failed}
use Rattle.usb_msg.proofs.KeepLemmas.{keeps-same, keeps-trans}
use Rattle.usb_msg.proofs.client.MsgClient.gather.Goals as goal

pub pieces-init : goal.pieces-init
pieces-init g c = record {
  gathering = gathering-first g.B.Bus.calls (messaging c.args.bus.now c.args.self.now);
  keeps = keeps-same (g.B.Bus.calls.state c.args.bus.now).past c.args.self.now;
  rest = refl;
  settings = record { n = refl; size = refl; timeout = refl };
  goes = along-same (g.B.Bus.calls.state c.args.bus.now) c.args.self.now.reader.endpoint c.requires.stands;
}

pub returns-in_err-read_piece-clause-failed : goal.returns-in_err-read_piece-clause-failed
returns-in_err-read_piece-clause-failed g c =
    let len = ap (λ (x : ClientState). length x.frame) (sym c.self.view_is) ∙ length-take c.self.inside.filled c.self.inside.frame.items in
    let test = c.pieces-test.true in
    let p = err_from_is_err_and c.from_residual.result c.from_residual.ensures.1 in
    rw (p.1, p.2) (gather-failed g.B.Bus.calls (messaging c.args.bus.now c.args.self.now) (messaging c.pieces.bus c.pieces.self) (messaging c.read_piece.new.bus c.read_piece.new.self) c.pieces.invariant.gathering (omega (arith, len, test)) c.in_err-read_piece.field-0.0 c.in_err-read_piece.ensures.failed)

pub returns-in_err-read_piece-clause-keeps : goal.returns-in_err-read_piece-clause-keeps
returns-in_err-read_piece-clause-keeps g c =
    keeps-trans (g.B.Bus.calls.state c.args.bus.now).past (g.B.Bus.calls.state c.pieces.bus).past (g.B.Bus.calls.state c.read_piece.new.bus).past c.args.self.now c.pieces.self c.read_piece.new.self [] [] c.read_piece.ensures.goes.goes_on.past c.pieces.invariant.keeps c.read_piece.ensures.keeps

pub returns-in_err-read_piece-clause-goes : goal.returns-in_err-read_piece-clause-goes
returns-in_err-read_piece-clause-goes g c =
    along-trans (g.B.Bus.calls.state c.args.bus.now) (g.B.Bus.calls.state c.pieces.bus) (g.B.Bus.calls.state c.read_piece.new.bus) c.args.self.now.reader.endpoint c.pieces.self.reader.endpoint c.read_piece.new.self.reader.endpoint c.pieces.invariant.goes c.read_piece.ensures.goes

pub returns-then-branch-eq0-clause-keeps : goal.returns-then-branch-eq0-clause-keeps
returns-then-branch-eq0-clause-keeps g c =
    keeps-trans (g.B.Bus.calls.state c.args.bus.now).past (g.B.Bus.calls.state c.pieces.bus).past (g.B.Bus.calls.state c.read_piece.new.bus).past c.args.self.now c.pieces.self c.read_piece.new.self [] [] c.read_piece.ensures.goes.goes_on.past c.pieces.invariant.keeps c.read_piece.ensures.keeps

pub returns-then-branch-eq0-clause-goes : goal.returns-then-branch-eq0-clause-goes
returns-then-branch-eq0-clause-goes g c =
    along-trans (g.B.Bus.calls.state c.args.bus.now) (g.B.Bus.calls.state c.pieces.bus) (g.B.Bus.calls.state c.read_piece.new.bus) c.args.self.now.reader.endpoint c.pieces.self.reader.endpoint c.read_piece.new.self.reader.endpoint c.pieces.invariant.goes c.read_piece.ensures.goes

pub pieces-preserved : goal.pieces-preserved
pieces-preserved g c =
    let len = ap (λ (x : ClientState). length x.frame) (sym c.self.view_is) ∙ length-take c.self.inside.filled c.self.inside.frame.items in
    let test = c.pieces-test.true in
    let some = c.if-branch-eq0.false in
    record {
      gathering = gathering-more g.B.Bus.calls (messaging c.args.bus.now c.args.self.now) (messaging c.pieces.bus c.pieces.self) (messaging c.read_piece.new.bus c.read_piece.new.self) c.pieces.invariant.gathering (omega (arith, len, test)) c.in_ok-read_piece.field-0 c.in_ok-read_piece.ensures.read c.in_ok-read_piece.ensures.count (omega (arith, some));
      keeps = keeps-trans (g.B.Bus.calls.state c.args.bus.now).past (g.B.Bus.calls.state c.pieces.bus).past (g.B.Bus.calls.state c.read_piece.new.bus).past c.args.self.now c.pieces.self c.read_piece.new.self [] [] c.read_piece.ensures.goes.goes_on.past c.pieces.invariant.keeps c.read_piece.ensures.keeps;
      rest = c.read_piece.ensures.rest ∙ ap (λ (x : ClientState). record x { reader = c.read_piece.new.self.reader; frame = c.read_piece.new.self.frame }) c.pieces.invariant.rest;
      settings = settings-trans c.args.self.now.reader c.pieces.self.reader c.read_piece.new.self.reader c.pieces.invariant.settings c.read_piece.ensures.settings;
      goes = along-trans (g.B.Bus.calls.state c.args.bus.now) (g.B.Bus.calls.state c.pieces.bus) (g.B.Bus.calls.state c.read_piece.new.bus) c.args.self.now.reader.endpoint c.pieces.self.reader.endpoint c.read_piece.new.self.reader.endpoint c.pieces.invariant.goes c.read_piece.ensures.goes;
    }
