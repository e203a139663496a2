-- Two lists that are compared place by place.
use Rattle.std.proofs.Common.{◌≡◌, ◌≢◌, ℕ, ◌+◌, ◌<◌, ◌≤◌, zero, suc, List, [], ◌∷◌, ◌++◌, length, take, Some, None, slice_get, refl, sym, ap, ◌∙◌, arith}
use Rattle.std.proofs.lemmas.List.{take_all}
use Rattle.std.proofs.lemmas.Option.{slice_get_past}
use Rattle.usb_kernel.specs.declared.event.Event.{Event}
use Rattle.usb_kernel.specs.declared.submission.TicketInfo.{TicketInfo}
use Rattle.usb_kernel.specs.Info.{info_of}
use Rattle.usb_kernel.specs.Tickets.{tickets}
use Rattle.usb_trace_lines.specs.declared.fate_line.FateLine.{FateLine}
use Rattle.usb_trace_lines.specs.Fates.{fate_told, fates_of}
use Rattle.usb_trace_lines.proofs.FatesTold.{fate-at, length-fates}
use Rattle.usb_trace.specs.FirstOther.{IsFirstOther}

none_is_none : {A : Type 0} (x : A) → None ≡ Some x → ⊥
none_is_none x is = cc

take-at : {X : Type 0} (xs : List X) (i : ℕ) (x : X) → slice_get xs i ≡ Some x → take (suc i) xs ≡ take i xs ++ x ∷ []
take-at [] i x at = absurd (none_is_none x at)
take-at (y ∷ xs) zero x at = let here : y ≡ x = cc in rw here refl
take-at (y ∷ xs) (suc i) x at = ap (λ (l : List _). y ∷ l) (take-at xs i x at)

-- one place more is the same
pub take-more : {X : Type 0} (xs ys : List X) (i : ℕ) (x : X) → take i xs ≡ take i ys → slice_get xs i ≡ Some x → slice_get ys i ≡ Some x → take (i + 1) xs ≡ take (i + 1) ys
take-more {X = X} xs ys i x same here there =
    let next : i + 1 ≡ suc i = omega arith in
    rw next (take-at xs i x here ∙ ap (λ (l : List X). l ++ x ∷ []) same ∙ sym (take-at ys i x there))

-- the fate of a ticket
pub fate-here : (past : List Event) (t : ℕ) (info : TicketInfo) (f : FateLine) → info_of past t ≡ Some info → f ≡ fate_told t info → slice_get (fates_of past) t ≡ Some f
fate-here past t info f is told = fate-at past t info is ∙ ap Some (sym told)

-- a place at which the fates differ
pub other-at : (past : List Event) (fs : List FateLine) (t : ℕ) (info : TicketInfo) (f : FateLine) → t ≤ length fs → t < length (tickets past) → take t fs ≡ take t (fates_of past) → info_of past t ≡ Some info → f ≡ fate_told t info → slice_get fs t ≢ Some f → IsFirstOther fs (fates_of past) t
other-at past fs t info f within below same is told other =
    let count = length-fates past in
    record { within = within; inside = omega arith; same = same; apart = λ e. other (e ∙ fate-here past t info f is told) }

longer : {X : Type 0} (xs : List X) (i : ℕ) → i < length xs → slice_get xs i ≡ None → ⊥
longer [] i within none = omega arith
longer (x ∷ xs) zero within none = none_is_none x (sym none)
longer (x ∷ xs) (suc i) within none = longer xs i (omega arith) none

-- more fates than tickets
pub one-too-many : (past : List Event) (fs : List FateLine) (t : ℕ) → t ≡ length (tickets past) → t < length fs → take t fs ≡ take t (fates_of past) → IsFirstOther fs (fates_of past) t
one-too-many past fs t all more same =
    let count = length-fates past in
    let none = slice_get_past (fates_of past) t (omega arith) in
    record { within = omega arith; inside = omega arith; same = same; apart = λ e. longer fs t more (e ∙ none) }

-- all fates are the same
pub all-same : (past : List Event) (fs : List FateLine) (t : ℕ) → t ≡ length (tickets past) → length fs ≤ t → take t fs ≡ take t (fates_of past) → fs ≡ fates_of past
all-same past fs t all few same =
    let count = length-fates past in
    sym (take_all t fs few) ∙ same ∙ take_all t (fates_of past) (omega arith)
