use Rattle.std.proofs.Common.{◌≡◌, get_or, arith}
use Rattle.std.proofs.lemmas.Bool.Decides.{nat_tests}
use Rattle.std.proofs.lemmas.Grind.{common_steps}
use Rattle.usb_script_words.specs.Fields.{texts}
use Rattle.usb_script_lines.proofs.OtherLetters.{no_line}
use Rattle.usb_script_lines.proofs.by_letter.with_first_word.Goals as goal

pub returns-in_default-clause-value : goal.returns-in_default-clause-value
returns-in_default-clause-value c =
    let none : get_or c.args.name.now 0 0 ≡ 0 = grind (arith, common_steps) in
    no_line c.args.name.now (texts c.args.words.now) (grind (arith, nat_tests, none))

pub returns-in_default-letter-clause-value : goal.returns-in_default-letter-clause-value
returns-in_default-letter-clause-value c =
    no_line c.args.name.now (texts c.args.words.now) (grind (arith, nat_tests))
