-- The answers to a beginning are the beginning of the answers.
use Rattle.std.proofs.Common.{List, [], ap, inl, inr, refl, sym, true, ℕ, ◌++◌, ◌∙◌, ◌∷◌, ◌≡◌, ◌⊎◌}
use Rattle.std.proofs.lemmas.Bool.{and_parts}
use Rattle.std.specs.List.{list_all}
use Rattle.usb_script_lines.specs.ItemKinds.{is_setup}
use Rattle.usb_script_lines.specs.declared.item.Item.{Item}
use Rattle.usb_session.specs.Fates.{fate_lines}
use Rattle.usb_session.specs.Output.{behind, final_host, output, start}
use Rattle.usb_session_beginnings.proofs.Answers.{answers-append, answers-blind, output-splits}
use Rattle.usb_session_beginnings.proofs.Scripts.{Grows, script-grows, script-lines}
use Rattle.usb_session_beginnings.proofs.Starts.{setup-silent, starts-alike}
use Rattle.usb_session_beginnings.specs.Beginnings.{BeginningsAreAnsweredAlike, DeclareNothing, answers_from, answers_of}
use Rattle.usb_session_calls.specs.Answer.{Answer}
use Rattle.usb_session_calls.specs.State.{State}

alike-answers : (before after : List Item) → DeclareNothing after
    → answers_of (before ++ after) ≡ answers_of before ++ answers_from (behind (start (before ++ after)) before) after
unfolding answers_of
alike-answers before after nothing =
    let s = start (before ++ after) in
    answers-append before after s
    ∙ ap (λ front. front ++ answers_from (behind s before) after)
    (sym (answers-blind before s) ∙ (ap (λ t. answers_from t before) (starts-alike before after nothing) ∙ answers-blind before (start before)))

-- setup lines have no answers
setup-answers : (items : List Item) (s : State) → list_all is_setup items ≡ true → answers_from s items ≡ []
setup-answers [] s all = refl
setup-answers (item ∷ items) s all =
    let parts = and_parts (is_setup item) (list_all is_setup items) all in
    ap (λ (a : Answer). a.line ++ answers_from a.state items) (setup-silent item s parts.0) ∙ setup-answers items s parts.1

-- a script that begins with the lines of another one
script-answers : (before items : List Item) (g : Grows before items) → (later : List ℕ) × (answers_of items ≡ answers_of before ++ later)
unfolding answers_of
script-answers before items g = by g.begun
  where
    by : (list_all is_setup before ≡ true) ⊎ DeclareNothing g.after → (later : List ℕ) × (answers_of items ≡ answers_of before ++ later)
    by (inl all) = (answers_of items, sym (ap (λ front. front ++ answers_of items) (setup-answers before (start before) all)))
    by (inr nothing) = (answers_from (behind (start (before ++ g.after)) before) g.after, ap answers_of g.is ∙ alike-answers before g.after nothing)

whole-output : (items : List Item) → output items ≡ answers_of items ++ fate_lines (final_host items)
unfolding output final_host answers_of
whole-output items = output-splits items (start items)

pub beginnings_are_answered_alike : BeginningsAreAnsweredAlike
beginnings_are_answered_alike =
    record {
      whole = whole-output;
      alike = alike-answers;
      lines = script-lines;
      script = λ first rest before items alone along. script-answers before items (script-grows first rest before items alone along);
    }
