use Rattle.std.proofs.Common.{◌≡◌, Ok, Err, refl, ap}
use Rattle.std.proofs.lemmas.Result.{err_from_is_err_and}
use Rattle.usb_trace.proofs.Agree.{told-form}
use Rattle.usb_trace.proofs.Complete.{only-memory, only-yes}
use Rattle.usb_trace.proofs.check.check_trace.Goals as goal

pub returns-in_err-text-clause-complete : goal.returns-in_err-text-clause-complete
returns-in_err-text-clause-complete c = λ t.
    let p = err_from_is_err_and c.from_residual.result c.from_residual.ensures.1 in
    let first = p.1 in
    let second = p.2 in
    let is : c.from_residual.result ≡ Err c.in_err-text.field-0.0 = cc in
    only-memory c.from_residual.result c.in_err-text.field-0.0 c.args.bytes.now is (λ line e. c.in_err-text.ensures.malformed line (ap Err e)) t

pub returns-clause-form : goal.returns-clause-form
returns-clause-form c =
    let h = c.in_ok-text.ensures.text in
    rw h.is (told-form h.events c.in_ok-text.text.fates.items h.told h.fates)

pub returns-clause-complete : goal.returns-clause-complete
returns-clause-complete c = λ t.
    let h = c.in_ok-text.ensures.text in
    only-yes (Ok c.judge.result) c.judge.result c.args.bytes.now refl (λ line e. c.judge.ensures.no line e c.args.bytes.now h) t
