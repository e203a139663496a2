-- An endpoint with an open ticket has an oldest one.
use Rattle.std.proofs.Common.{◌≡◌, ℕ, ◌+◌, arith, List, [], ◌∷◌, Some, None, true, refl, slice_get, inl, inr, zero, suc}
use Rattle.std.specs.Prelude.{is_none, ◌==◌, ◌&&◌, map, filter}
use Rattle.std.specs.List.{enumerate_from}
use Rattle.std.proofs.lemmas.Option.{none-some, same_Some}
use Rattle.std.proofs.lemmas.Bool.{cases_Bool, eq-eqb, and_from}
use Rattle.usb_kernel.specs.declared.event.Event.{Event}
use Rattle.usb_kernel.specs.Tickets.{Ticket, tickets}
use Rattle.usb_kernel.specs.Fates.{Fate}
use Rattle.usb_kernel.specs.Journal.{fate, is_open, oldest}

some-oldest : (ts : List Ticket) (k : ℕ) (f : ℕ → Fate) (d e i : ℕ) (s : Ticket) → slice_get ts i ≡ Some s → s.device ≡ d → s.endpoint ≡ e → (f (k + i)).status ≡ None → (t : ℕ) × (slice_get (map {A = ℕ × Ticket} (λ p. p.0) (filter (is_open f d e) (enumerate_from k ts))) 0 ≡ Some t)
some-oldest [] k f d e i s at device endpoint none = absurd (none-some s at)
some-oldest (x ∷ ts) k f d e zero s at device endpoint none =
    let same : x ≡ s = same_Some x s at in
    let z : k + 0 ≡ k = omega arith in
    let o : is_none (f k).status ≡ true = rw (rw z at none) refl in
    let passes : is_open f d e (k, x) ≡ true = and_from (x.device == d) (x.endpoint == e && is_none (f k).status) (eq-eqb x.device d (rw same device)) (and_from (x.endpoint == e) (is_none (f k).status) (eq-eqb x.endpoint e (rw same endpoint)) o) in
    (k, rw passes refl)
some-oldest (x ∷ ts) k f d e (suc i) s at device endpoint none =
    elim (cases_Bool (is_open f d e (k, x))) [
      | inl passes ↦ (k, rw passes refl)
      | inr closed ↦
          let z : (k + 1) + i ≡ k + suc i = omega arith in
          let h = some-oldest ts (k + 1) f d e i s at device endpoint (rw z none) in
          (h.0, rw closed h.1)
    ]

pub oldest-some : (past : List Event) (d e u : ℕ) (s : Ticket) → slice_get (tickets past) u ≡ Some s → s.device ≡ d → s.endpoint ≡ e → (fate past u).status ≡ None → (t : ℕ) × (oldest past d e ≡ Some t)
oldest-some past d e u s at device endpoint none =
    let z : 0 + u ≡ u = omega arith in
    some-oldest (tickets past) 0 (fate past) d e u s at device endpoint (rw z none)
