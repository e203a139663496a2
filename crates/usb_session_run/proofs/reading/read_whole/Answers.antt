use Rattle.std.proofs.Common.{◌+◌, rules}
use Rattle.std.proofs.lemmas.Result.{err_from_is_err_and}
use Rattle.usb_session_run.proofs.OutsideLemmas.{took-more, took-kept}
use Rattle.usb_session_run.proofs.reading.read_whole.Goals as goal

pub returns-in_err-read_piece-clause-most : goal.returns-in_err-read_piece-clause-most
returns-in_err-read_piece-clause-most g c =
    let left = g.S.Source.left in
    took-more (left c.args.source.now) (left c.pieces.source) (left c.read_piece.new.source) c.pieces.bytes.items _ (c.args.most + 1) c.pieces.invariant.taken c.in_err-read_piece.ensures.few
    (search rules)

pub returns-in_err-read_piece-clause-spares : goal.returns-in_err-read_piece-clause-spares
returns-in_err-read_piece-clause-spares g c =
    let left = g.S.Source.left in
    let p = err_from_is_err_and c.from_residual.result c.from_residual.ensures.1 in
    λ fault. took-kept (left c.args.source.now) (left c.pieces.source) (left c.read_piece.new.source) c.pieces.bytes.items c.args.most c.pieces.invariant.taken (c.in_err-read_piece.ensures.untaken (cc (p.1, p.2)))
    (search rules)
