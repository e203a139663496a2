use Rattle.std.proofs.Common.{Some, refl, ap, ◌∙◌, arith}
use Rattle.usb_session_run.specs.Memory.{SureInput}
use Rattle.usb_core_c.proofs.AnswerLemmas.{answered_of, refused_of}
use Rattle.usb_core_c.proofs.session.answer.Goals as goal

pub returns-clause-ok : goal.returns-clause-ok
returns-clause-ok c =
    answered_of c.args.script.now _ _ _ c.run_session.result
    (ap Some (ap (λ (s : SureInput). s.rest) c.new-source.ensures.fresh ∙ c.in-Ok.ensures.items))
    (ap Some c.requires.empty) refl c.run_session.ensures.ok

pub returns-clause-err : goal.returns-clause-err
returns-clause-err c =
    refused_of c.args.script.now _ _ c.run_session.result
    (ap Some (ap (λ (s : SureInput). s.rest) c.new-source.ensures.fresh ∙ c.in-Ok.ensures.items))
    (λ rose. omega (arith, rose)) c.run_session.ensures.err
