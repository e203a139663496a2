-- What a run of a script keeps, whatever stops it.
use Rattle.std.specs.Prelude.{ℕ, ◌≡◌, true, List, [], ◌∷◌, ◌++◌, Some}
use Rattle.std.specs.declared.option.Option.{Option}
use Rattle.std.specs.Io.{StartsWith}
use Rattle.usb_kernel.specs.declared.event.Event.{Event}
use Rattle.usb_kernel.specs.Extends.{Extends}
use Rattle.usb_script_lines.specs.declared.item.Item.{Item}
use Rattle.usb_script_lines.specs.ItemKinds.{is_call}
use Rattle.usb_session.specs.AnswerLines.{answer_lines}
use Rattle.usb_session.specs.Output.{start, behind}
use Rattle.usb_session_run.specs.Causes.{WrotePrefix}

-- the first of the items were answered and the others were not, no more was written than those answers, and the journal behind
-- them is the beginning of this one
pub record StoppedBehind (old new : Option (List ℕ)) (items : List Item) (past : List Event) : Type 0 where
  pub done : List Item
  pub rest : List Item
  pub parts : done ++ rest ≡ items
  pub wrote : WrotePrefix old new (answer_lines (start items) done)
  pub journal : Extends (behind (start items) done).host.kernel.past past

-- of a sink that told its bytes before and after (`told`, and then what it got): where it got the whole answer of a call, with the
-- answers before it, the journal behind that call is the beginning of this one
abbrev pub KeepsAnswered : Option (List ℕ) → Option (List ℕ) → List Item → List Event → Type 0
KeepsAnswered old new items past =
    (told got : List ℕ) (front rest : List Item) (call : Item) → old ≡ Some told → new ≡ Some (told ++ got)
    → front ++ call ∷ rest ≡ items → is_call call ≡ true
    → StartsWith got (answer_lines (start items) (front ++ call ∷ []))
    → Extends (behind (start items) (front ++ call ∷ [])).host.kernel.past past
