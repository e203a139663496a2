use Rattle.std.proofs.Common.{rules}
use Rattle.std.proofs.lemmas.List.{take_rest}
use Rattle.std.proofs.lemmas.Option.{IfSome_then}
use Rattle.usb_script_words.specs.Fields.{texts}
use Rattle.usb_script_words.proofs.FirstSplit.{first_split}
use Rattle.usb_script_words.proofs.words.split_first_line.Goals as goal

pub returns-clause-value : goal.returns-clause-value
returns-clause-value c =
    IfSome_then c.behind_end.result c.behind_end.ensures.value
    (λ after is. first_split c.args.bytes.now c.in_ok-len.len (texts c.split_printable.new.words.items) after.now (search rules) (search rules) (search rules) (rw (take_rest c.args.bytes.now c.in_ok-len.len) at is))
