use Rattle.std.proofs.Common.{ap, ◌∙◌, ◌++◌, append_assoc}
use Rattle.std.specs.Prelude.{codes, decimal, string_bytes}
use Rattle.std.proofs.lemmas.Bool.{ne_eqb}
use Rattle.usb_session_text.proofs.settings.push_active_text.Goals as goal

-- src/settings.rt:24:1
pub returns : goal.returns
returns c =
    let value = c.args.error.now.configuration_value in
    let text = c.in_ok-push_number.ensures.text ∙ ap (λ text. text ++ decimal value) c.in_ok-push_str-2.ensures.bytes ∙ append_assoc (string_bytes c.args.out.now) (codes "no descriptor found for active configuration ") (decimal value) in
    record { text = rw (ne_eqb value 0 c.if-error-eq0.false) text }
