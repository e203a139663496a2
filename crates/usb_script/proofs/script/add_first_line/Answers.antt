use Rattle.std.proofs.Common.{◌≡◌, ℕ, List, Bor, Some, Err, sym, ◌∙◌, rules}
use Rattle.usb_script_words.specs.Fields.{texts}
use Rattle.usb_script_words.specs.Lines.{lines_of, IsFirstSplit}
use Rattle.usb_script_words.specs.Outcome.{Gives}
use Rattle.usb_script.specs.Parse.{with_words}
use Rattle.usb_script.proofs.WordsLine.{first_read, first_not_read, first_skipped}
use Rattle.usb_script.proofs.script.add_first_line.Goals as goal

pub returns-in-Ok-clause-value : goal.returns-in-Ok-clause-value
returns-in-Ok-clause-value c =
    let words = texts c.split_first_line.new.words.items in
    let split : IsFirstSplit c.args.bytes.now words c.in-Some.after.now = search rules in
    let read : with_words c.args.items.now words ≡ Some c.add_words.new.items = search rules in
    first_read c.args.items.now c.add_words.new.items c.args.bytes.now words c.in-Some.after.now split read

pub returns-in-Err-clause-value : goal.returns-in-Err-clause-value
returns-in-Err-clause-value c =
    let words = texts c.split_first_line.new.words.items in
    let split : IsFirstSplit c.args.bytes.now words c.in-Some.after.now = search rules in
    let not_read : Gives {X = Unit {0}} (λ x. c.add_words.new.items) (Err c.in-Err.error) (with_words c.args.items.now words) = search rules in
    first_not_read {X = Bor (List ℕ)} (λ after. (c.add_words.new.items, lines_of after.now)) c.args.items.now c.add_words.new.items c.args.bytes.now words c.in-Some.after.now c.in-Err.error split not_read

pub returns-then-is_skipped-clause-value : goal.returns-then-is_skipped-clause-value
returns-then-is_skipped-clause-value c =
    first_skipped c.args.items.now c.args.bytes.now c.first_line.result.0.now c.first_line.result.1.now c.first_line.ensures.lines (sym c.is_skipped.ensures.value ∙ c.if-is_skipped.true)
