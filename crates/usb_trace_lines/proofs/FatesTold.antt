-- The fates of a journal, one by one.
use Rattle.std.proofs.Common.{◌≡◌, ℕ, ◌+◌, ◌<◌, ◌≤◌, zero, suc, List, [], ◌∷◌, ◌++◌, length, drop, flat_map, reverse, Option, Some, None, slice_get, refl, sym, ap, ◌∙◌, arith}
use Rattle.std.specs.List.{enumerate_from}
use Rattle.std.specs.Option.{option_map}
use Rattle.std.proofs.lemmas.Option.{slice_get-map, get_or_from_slice_get}
use Rattle.std.proofs.lemmas.List.{drop_all, length-map}
use Rattle.usb_kernel.specs.declared.event.Event.{Event}
use Rattle.usb_kernel.specs.declared.submission.TicketInfo.{TicketInfo}
use Rattle.usb_kernel.specs.Fates.{Fate}
use Rattle.usb_kernel.specs.Info.{info_for, info_if, info_of}
use Rattle.usb_kernel.specs.Journal.{fate}
use Rattle.usb_kernel.specs.Tickets.{Ticket, tickets}
use Rattle.usb_trace_lines.specs.Fates.{fate_told, fates_of}
use Rattle.usb_trace_lines.specs.Texts.{first_line, event_text, fate_text, last_line, trace_text, trace}
use Rattle.usb_trace_lines.proofs.Going.{piece-left}

none_is_none : {A : Type 0} (x : A) → None ≡ Some x → ⊥
none_is_none x is = cc

enumerate-at : {X : Type 0} (k : ℕ) (xs : List X) (i : ℕ) (x : X) → slice_get xs i ≡ Some x → slice_get (enumerate_from k xs) i ≡ Some (k + i, x)
enumerate-at k [] i x at = absurd (none_is_none x at)
enumerate-at k (y ∷ xs) zero x at =
    let same : y ≡ x = cc in
    let none : k + 0 ≡ k = omega arith in
    rw (same, none) refl
enumerate-at k (y ∷ xs) (suc i) x at =
    let next : k + 1 + i ≡ k + suc i = omega arith in
    enumerate-at (k + 1) xs i x at ∙ ap (λ n. Some (n, x)) next

told_by : (t : ℕ) (f : Fate) (o : Option Ticket) (info : TicketInfo) → info_if o f ≡ Some info → (s : Ticket) × ((o ≡ Some s) × (info ≡ info_for s f))
told_by t f None info is = absurd (none_is_none info is)
told_by t f (Some s) info is = (s, (refl, let same : info ≡ info_for s f = cc in same))

pub fate-of : (past : List Event) (t : ℕ) (s : Ticket) → slice_get (tickets past) t ≡ Some s → slice_get (fates_of past) t ≡ Some (fate_told t (info_for s (fate past t)))
unfolding fates_of
fate-of past t s at =
    let none : 0 + t ≡ t = omega arith in
    let entry : slice_get (enumerate_from 0 (tickets past)) t ≡ Some (t, s) = enumerate-at 0 (tickets past) t s at ∙ ap (λ (n : ℕ). Some (n, s)) none in
    slice_get-map (λ (p : ℕ × Ticket). fate_told p.0 (info_for p.1 (fate past p.0))) (enumerate_from 0 (tickets past)) t
    ∙ ap (option_map (λ (p : ℕ × Ticket). fate_told p.0 (info_for p.1 (fate past p.0)))) entry

pub fate-at : (past : List Event) (t : ℕ) (info : TicketInfo) → info_of past t ≡ Some info → slice_get (fates_of past) t ≡ Some (fate_told t info)
fate-at past t info is =
    let found = told_by t (fate past t) (slice_get (tickets past) t) info is in
    fate-of past t found.0 found.1.0 ∙ ap (λ (i : TicketInfo). Some (fate_told t i)) (sym found.1.1)

length-enumerate : {X : Type 0} (k : ℕ) (xs : List X) → length (enumerate_from k xs) ≡ length xs
length-enumerate k [] = refl
length-enumerate k (x ∷ xs) = ap suc (length-enumerate (k + 1) xs)

pub length-fates : (past : List Event) → length (fates_of past) ≡ length (tickets past)
unfolding fates_of
length-fates past = length-map (enumerate_from 0 (tickets past)) _ ∙ length-enumerate 0 (tickets past)

-- the line of the next
pub fate-piece : (past : List Event) (t : ℕ) (info : TicketInfo) → t < length (tickets past) → info_of past t ≡ Some info → fate_text (fate_told t info) ++ flat_map fate_text (drop (t + 1) (fates_of past)) ≡ flat_map fate_text (drop t (fates_of past))
fate-piece past t info within is =
    let all = length-fates past in
    let at = sym (get_or_from_slice_get (fates_of past) t (fate_told t info) (fate_told t info) (fate-at past t info is)) in
    piece-left fate_text (fates_of past) t (fate_told t info) (omega (arith, all)) at

-- and behind the last there is none
pub fates-end : (past : List Event) (t : ℕ) → length (tickets past) ≤ t → flat_map fate_text (drop t (fates_of past)) ≡ []
fates-end past t all =
    let few = length-fates past in
    let none : drop t (fates_of past) ≡ [] = drop_all t (fates_of past) (omega (arith, few)) in
    rw none refl

-- the parts of a trace
pub trace-parts : (past : List Event) → first_line ++ (flat_map event_text (reverse past) ++ (flat_map fate_text (fates_of past) ++ last_line)) ≡ trace past
unfolding trace trace_text
trace-parts past = refl
