-- The answers to several lines see no place of the kernel, and come one behind the other.
use Rattle.std.proofs.Common.{List, [], ap, append_assoc, refl, sym, ◌++◌, ◌∙◌, ◌∷◌, ◌≡◌}
use Rattle.usb_script_lines.specs.declared.item.Item.{Item}
use Rattle.usb_session.specs.Answers.{answer}
use Rattle.usb_session.specs.Fates.{fate_lines}
use Rattle.usb_session.specs.Output.{behind, last_host, output_from}
use Rattle.usb_session_beginnings.proofs.Lines.{line-blind}
use Rattle.usb_session_beginnings.proofs.States.{bare_state}
use Rattle.usb_session_beginnings.specs.Beginnings.{answers_from}
use Rattle.usb_session_calls.specs.Answer.{Answer}
use Rattle.usb_session_calls.specs.State.{State}

pub answers-blind : (items : List Item) (s : State) → answers_from (bare_state s) items ≡ answers_from s items
answers-blind [] s = refl
answers-blind (item ∷ items) s =
    ap (λ (a : Answer). a.line ++ answers_from a.state items) (line-blind item s)
    ∙ ap (λ rest. (answer s item).line ++ rest) (answers-blind items (answer s item).state)

pub answers-append : (before after : List Item) (s : State)
    → answers_from s (before ++ after) ≡ answers_from s before ++ answers_from (behind s before) after
answers-append [] after s = refl
answers-append (item ∷ before) after s =
    let a = answer s item in
    ap (λ rest. a.line ++ rest) (answers-append before after a.state)
    ∙ sym (append_assoc a.line (answers_from a.state before) (answers_from (behind a.state before) after))

pub output-splits : (items : List Item) (s : State) → output_from s items ≡ answers_from s items ++ fate_lines (last_host s items)
output-splits [] s = refl
output-splits (item ∷ items) s =
    let a = answer s item in
    ap (λ rest. a.line ++ rest) (output-splits items a.state)
    ∙ sym (append_assoc a.line (answers_from a.state items) (fate_lines (last_host a.state items)))
