-- The answers to the first lines of a script are the first of its answers.
use Rattle.std.specs.Prelude.{ℕ, ◌≡◌, ◌++◌, false, List, [], ◌∷◌, Ok}
use Rattle.usb_script_lines.specs.declared.item.Item.{Item}
use Rattle.usb_script_lines.specs.ItemKinds.{is_setup}
use Rattle.usb_script.specs.Parse.{script_of}
use Rattle.usb_session_calls.specs.State.{State}
use Rattle.usb_session.specs.Answers.{answer}
use Rattle.usb_session.specs.Fates.{fate_lines}
use Rattle.usb_session.specs.Output.{start, behind, output, final_host}

-- the answers to these items, from a state on. Fate lines are none of them
abbrev pub answers_from : State → List Item → List ℕ
answers_from state [] = []
answers_from state (item ∷ items) = (answer state item).line ++ answers_from (answer state item).state items

-- the answers to the items of a script
unfoldable pub answers_of : List Item → List ℕ
answers_of items = answers_from (start items) items

-- none of these items is a setup line
abbrev pub DeclareNothing : List Item → Type 0
DeclareNothing [] = Unit {0}
DeclareNothing (item ∷ items) = (is_setup item ≡ false) × DeclareNothing items

-- a text of whole lines, each ended by LF (10)
abbrev pub lined : List ℕ → List ℕ
lined text = text ++ 10 ∷ []

-- the output of a script is its answers, and then its fate lines; items that declare nothing change no answer before them. The first
-- lines of a script are a script, and a script that begins with the lines of another one is answered as that, and then goes on
pub record BeginningsAreAnsweredAlike : Type 0 where
  pub whole : (items : List Item) → output items ≡ answers_of items ++ fate_lines (final_host items)
  pub alike : (before after : List Item) → DeclareNothing after
      → answers_of (before ++ after) ≡ answers_of before ++ answers_from (behind (start (before ++ after)) before) after
  pub lines : (first rest : List ℕ) (items : List Item) → script_of (lined first ++ rest) ≡ Ok items
      → (before : List Item) × (script_of (lined first) ≡ Ok before)
  pub script : (first rest : List ℕ) (before items : List Item) → script_of (lined first) ≡ Ok before → script_of (lined first ++ rest) ≡ Ok items
      → (later : List ℕ) × (answers_of items ≡ answers_of before ++ later)
