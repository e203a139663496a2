use Rattle.std.proofs.Common.{◌≡◌, refl, ◌∙◌}
use Rattle.usb_session_run.specs.Live.{live_line}
use Rattle.usb_session_run.proofs.LiveLemmas.{all-taken}
use Rattle.usb_session_run.proofs.live.live.Goals as goal

pub returns-clause-wrote : goal.returns-clause-wrote
returns-clause-wrote g c =
    let run = c.in-Ok.run' in
    let patient = c.in-Ok.ensures.patient refl in
    let text : c.as_bytes.result.now ≡ live_line c.args.n =
    c.as_bytes.ensures.value ∙ (c.in-Ok-run_line.ensures.text ∙ all-taken c.args.n run.submitted run.taken run.dropped run.reclaimed patient.0 patient.1 c.in-Ok.ensures.each) in
    (c.in-Err.ensures.cause.one, rw text at c.in-Err.ensures.part)
