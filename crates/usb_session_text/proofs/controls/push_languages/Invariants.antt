use Rattle.std.proofs.Common.{◌≡◌, ◌++◌}
use Rattle.std.specs.Prelude.{string_bytes, flat_map}
use Rattle.usb_session_text.specs.Controls.{language_part}
use Rattle.usb_session_text.proofs.controls.push_languages.Given as goal

abbrev pub invariant-loop-language : goal.invariant-loop-language
invariant-loop-language l = string_bytes l.out ++ flat_map language_part l.language-iterator ≡ string_bytes l.initial.out ++ flat_map language_part l.initial.language-iterator
