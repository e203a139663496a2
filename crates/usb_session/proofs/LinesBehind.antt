-- What each line of a script keeps is true behind its lines, where the journal is as it asks.
use Rattle.std.proofs.Common.{◌≡◌, List, [], ◌∷◌, ◌++◌, append-nil, append_assoc, refl, sym, subst}
use Rattle.usb_kernel.specs.declared.event.Event.{Event}
use Rattle.usb_kernel.specs.Extends.{Extends}
use Rattle.usb_kernel.proofs.Extends.{extends-same, extends-trans}
use Rattle.usb_device_host.specs.HostState.{HostState}
use Rattle.usb_script_lines.specs.declared.item.Item.{Item}
use Rattle.usb_session_calls.specs.State.{State}
use Rattle.usb_session.specs.Answers.{answer}
use Rattle.usb_session.specs.Ends.{ended}
use Rattle.usb_session.specs.Output.{start, behind, last_host, final_host}
use Rattle.usb_session.specs.Behind.{ScriptsGoOn}

abbrev pub past_of : State → List Event
past_of state = state.host.kernel.past

pub behind-push : (state : State) (before : List Item) (line : Item) → behind state (before ++ line ∷ []) ≡ (answer (behind state before) line).state
behind-push state [] line = refl
behind-push state (first ∷ before) line = behind-push (answer state first).state before line

last-is : (state : State) (items : List Item) → last_host state items ≡ ended (behind state items)
last-is state [] = refl
last-is state (line ∷ items) = last-is (answer state line).state items

final-is : (items : List Item) → final_host items ≡ ended (behind (start items) items)
unfolding final_host
final-is items = last-is (start items) items

-- the journal goes on
module _ (go : ScriptsGoOn) (items : List Item) where
  abbrev at : List Item → State
  at before = behind (start items) before

  pub line-extends : (before : List Item) (line : Item) → Extends (past_of (at before)) (past_of (at (before ++ line ∷ [])))
  line-extends before line = subst (λ (s : State). Extends (past_of (at before)) (past_of s)) (sym (behind-push (start items) before line)) (go.line items before line).journal

  pub behind-extends : (before more : List Item) → Extends (past_of (at before)) (past_of (at (before ++ more)))
  behind-extends before [] = subst (λ (l : List Item). Extends (past_of (at before)) (past_of (at l))) (sym (append-nil before)) (extends-same (past_of (at before)))
  behind-extends before (line ∷ more) =
      extends-trans (past_of (at before)) (past_of (at (before ++ line ∷ []))) (past_of (at (before ++ line ∷ more))) (line-extends before line)
      (subst (λ (l : List Item). Extends (past_of (at (before ++ line ∷ []))) (past_of (at l))) (append_assoc before (line ∷ []) more) (behind-extends (before ++ line ∷ []) more))

  pub final-extends : (before after : List Item) → before ++ after ≡ items → Extends (past_of (at before)) (final_host items).kernel.past
  final-extends before after all =
      extends-trans (past_of (at before)) (past_of (at items)) (final_host items).kernel.past (subst (λ (l : List Item). Extends (past_of (at before)) (past_of (at l))) all (behind-extends before after))
      (subst (λ (h : HostState). Extends (past_of (at items)) h.kernel.past) (sym (final-is items)) (go.end items items).journal)

-- what a journal is asked to be it was before, and a line keeps a property of states where the journal behind it is so
pub record LinesKeep (P : State → Type 0) (Legal : List Event → Type 0) : Type 0 where
  pub before : (old new : List Event) → Extends old new → Legal new → Legal old
  pub first : (items : List Item) → P (start items)
  pub line : (state : State) (line : Item) → Extends (past_of state) (past_of (answer state line).state) → Legal (past_of (answer state line).state) → P state → P (answer state line).state

module _ (P : State → Type 0) (Legal : List Event → Type 0) (keep : LinesKeep P Legal) (go : ScriptsGoOn) (items : List Item) where
  on-keeps : (before more : List Item) → Legal (past_of (behind (start items) (before ++ more))) → P (behind (start items) before) → P (behind (start items) (before ++ more))
  on-keeps before [] legal p = subst (λ (l : List Item). P (behind (start items) l)) (sym (append-nil before)) p
  on-keeps before (line ∷ more) legal p =
      let next = before ++ line ∷ [] in
      let same : next ++ more ≡ before ++ line ∷ more = append_assoc before (line ∷ []) more in
      let later : Legal (past_of (behind (start items) (next ++ more))) = subst (λ (l : List Item). Legal (past_of (behind (start items) l))) (sym same) legal in
      let here : Legal (past_of (behind (start items) next)) = keep.before (past_of (behind (start items) next)) (past_of (behind (start items) (next ++ more))) (behind-extends go items next more) later in
      let push = behind-push (start items) before line in
      let p' = keep.line (behind (start items) before) line (go.line items before line).journal (subst (λ (s : State). Legal (past_of s)) push here) p in
      subst (λ (l : List Item). P (behind (start items) l)) same (on-keeps next more later (subst P (sym push) p'))

  pub behind-keeps : (before : List Item) → Legal (past_of (behind (start items) before)) → P (behind (start items) before)
  behind-keeps before legal = on-keeps [] before legal (keep.first items)
