use Rattle.std.proofs.Common.{◌∙◌, ◌≡◌, ℕ, ◌+◌, arith, List, [], ◌∷◌, length, Option, Some, None, true, false, refl, ap, slice_get, cond}
use Rattle.std.specs.Prelude.{is_some, is_none, ◌==◌}
use Rattle.std.specs.Prelude.{map, filter, ◌&&◌}
use Rattle.std.specs.List.{enumerate_from}
use Rattle.std.proofs.lemmas.Option.{none-some, same_Some}
use Rattle.std.proofs.lemmas.Bool.{cases_Bool, cases_eq, ne_eqb, and_parts}
use Rattle.std.proofs.Common.{inl, inr}
use Rattle.std.proofs.lemmas.Grind.{common_steps}
use Rattle.usb_kernel.specs.declared.event.Event.{Event}
use Rattle.usb_kernel.specs.declared.event.Event.TheVariants.{Submit, Refuse, Packet, Ack, Echo, Fail, Discard, Reap, Unplug}
use Rattle.usb_kernel.specs.Tickets.{Ticket, tickets}
use Rattle.usb_kernel.specs.Fates.{Fate, fresh, with_packet, with_ack, finish, reap, unplug}
use Rattle.usb_kernel.specs.Journal.{fate, is_open, oldest_among, at_ticket, at_oldest, change, oldest, echo_comes, ack_comes, taken_of}
use Rattle.usb_kernel.proofs.Fresh.{fate-fresh}
use Rattle.usb_kernel.specs.Laws.{ReapedIsFinal}

-- a finished and reaped fate
pub record IsFinal (f : Fate) : Type 0 where
  pub reaped : f.reaped ≡ true
  pub finished : is_some f.status ≡ true

finish-final : (n : ℕ) (f : Fate) → IsFinal f → finish n f ≡ f
finish-final n f final = grind (arith, common_steps)

reap-final : (s : Ticket) (f : Fate) → IsFinal f → reap s f ≡ f
reap-final s f final = grind (arith, common_steps)

fresh_final : (f : Fate) → IsFinal f → f ≡ fresh → ⊥
fresh_final f final same = let none : f.reaped ≡ false = ap (λ (x : Fate). x.reaped) same in grind (arith, common_steps)

-- the oldest open ticket is unfinished
pub oldest-unfinished : (ts : List Ticket) (k : ℕ) (f : ℕ → Fate) (d e t : ℕ) → slice_get (map (λ p. p.0) (filter (is_open f d e) (enumerate_from k ts))) 0 ≡ Some t → is_none (f t).status ≡ true
oldest-unfinished [] k f d e t at = absurd (none-some t at)
oldest-unfinished (x ∷ ts) k f d e t at =
    elim (cases_Bool (is_open f d e (k, x))) [
      | inl passes ↦
          let here : k ≡ t = same_Some k t (rw passes at at) in
          let parts = and_parts (x.device == d) (x.endpoint == e && is_none (f k).status) passes in
          let more = and_parts (x.endpoint == e) (is_none (f k).status) parts.1 in
          rw (← here) more.1
      | inr closed ↦ oldest-unfinished ts (k + 1) f d e t (rw closed at at)
    ]

unfinished_final : (f : Fate) → IsFinal f → is_none f.status ≡ true → ⊥
unfinished_final f final none = grind (arith, common_steps)

at_oldest-final : (o : Option ℕ) (step : Ticket → Fate → Fate) (ts : List Ticket) (f : ℕ → Fate) (u : ℕ) → IsFinal (f u) → ((t : ℕ) → o ≡ Some t → is_none (f t).status ≡ true) → at_oldest o step ts f u ≡ f u
at_oldest-final None step ts f u final unfinished = refl
at_oldest-final (Some t) step ts f u final unfinished =
    elim (cases_eq t u) [
      | inl same ↦ absurd (unfinished_final (f u) final (rw (← same) (unfinished t refl)))
      | inr apart ↦ rw (ne_eqb t u apart) refl
    ]

-- a step that leaves a final fate
change-final : (step : Ticket → Fate → Fate) (o : Option Ticket) (f : Fate) → ((s : Ticket) → step s f ≡ f) → change step o f ≡ f
change-final step None f stays = refl
change-final step (Some s) f stays = stays s

at_ticket-final : (t : ℕ) (step : Ticket → Fate → Fate) (ts : List Ticket) (f : ℕ → Fate) (u : ℕ) → ((s : Ticket) → step s (f u) ≡ f u) → at_ticket t step ts f u ≡ f u
at_ticket-final t step ts f u stays =
    elim (t == u) as (λ v. cond v (change step (slice_get ts u) (f u)) (f u) ≡ f u) [ true ↦ change-final step (slice_get ts u) (f u) stays | false ↦ refl ]

-- a fate that is reaped only where it is finished
abbrev IsSound : Fate → Type 0
IsSound f = f.reaped ≡ true → is_some f.status ≡ true

finish-sound : (n : ℕ) (f : Fate) → IsSound f → IsSound (finish n f)
finish-sound n f sound = λ r. finish-some n f r sound
  where
    finish-some : (n : ℕ) (f : Fate) → (finish n f).reaped ≡ true → IsSound f → is_some (finish n f).status ≡ true
    finish-some n f r sound = grind (arith, common_steps)

with_packet-sound : (s : Ticket) (b : List ℕ) (f : Fate) → IsSound f → IsSound (with_packet s b f)
with_packet-sound s b f sound = λ r. grind (arith, common_steps)

with_ack-sound : (s : Ticket) (f : Fate) → IsSound f → IsSound (with_ack s f)
with_ack-sound s f sound = λ r. grind (arith, common_steps)

reap-sound : (s : Ticket) (f : Fate) → IsSound f → IsSound (reap s f)
reap-sound s f sound = λ r. grind (arith, common_steps)

change-sound : (step : Ticket → Fate → Fate) (o : Option Ticket) (f : Fate) → IsSound f → ((s : Ticket) → IsSound (step s f)) → IsSound (change step o f)
change-sound step None f sound keeps = sound
change-sound step (Some s) f sound keeps = keeps s

at_ticket-sound : (t : ℕ) (step : Ticket → Fate → Fate) (ts : List Ticket) (f : ℕ → Fate) (u : ℕ) → IsSound (f u) → ((s : Ticket) → IsSound (step s (f u))) → IsSound (at_ticket t step ts f u)
at_ticket-sound t step ts f u sound keeps =
    elim (t == u) as (λ v. IsSound (cond v (change step (slice_get ts u) (f u)) (f u))) [ true ↦ change-sound step (slice_get ts u) (f u) sound keeps | false ↦ sound ]

at_oldest-sound : (o : Option ℕ) (step : Ticket → Fate → Fate) (ts : List Ticket) (f : ℕ → Fate) (u : ℕ) → IsSound (f u) → ((s : Ticket) → IsSound (step s (f u))) → IsSound (at_oldest o step ts f u)
at_oldest-sound None step ts f u sound keeps = sound
at_oldest-sound (Some t) step ts f u sound keeps = at_ticket-sound t step ts f u sound keeps

echo-sound : (o p : Option ℕ) (d a i : ℕ) (ts : List Ticket) (f : ℕ → Fate) (u : ℕ) → IsSound (f u) → IsSound (echo_comes o p d a i ts f u)
echo-sound None p d a i ts f u sound = sound
echo-sound (Some t) None d a i ts f u sound = sound
echo-sound (Some t) (Some j) d a i ts f u sound =
    let mid : IsSound (ack_comes d a ts f u) = at_oldest-sound (oldest_among ts f d a) with_ack ts f u sound (λ s. with_ack-sound s (f u) sound) in
    at_oldest-sound (oldest_among ts (ack_comes d a ts f) d i) (λ s. with_packet s (taken_of (slice_get ts t) (f t))) ts (ack_comes d a ts f) u mid (λ s. with_packet-sound s (taken_of (slice_get ts t) (f t)) (ack_comes d a ts f u) mid)

IsFinal-along : (f g : Fate) → f ≡ g → IsFinal g → IsFinal f
IsFinal-along f g same final = rw same final

echo-final : (o p : Option ℕ) (d a i : ℕ) (ts : List Ticket) (f : ℕ → Fate) (u : ℕ) → IsFinal (f u) → echo_comes o p d a i ts f u ≡ f u
echo-final None p d a i ts f u final = refl
echo-final (Some t) None d a i ts f u final = refl
echo-final (Some t) (Some j) d a i ts f u final =
    let first : ack_comes d a ts f u ≡ f u = at_oldest-final (oldest_among ts f d a) with_ack ts f u final (λ x at. oldest-unfinished ts 0 f d a x at) in
    at_oldest-final (oldest_among ts (ack_comes d a ts f) d i) (λ s. with_packet s (taken_of (slice_get ts t) (f t))) ts (ack_comes d a ts f) u (IsFinal-along (ack_comes d a ts f u) (f u) first final) (λ x at. oldest-unfinished ts 0 (ack_comes d a ts f) d i x at) ∙ first

unplug-sound : (d : ℕ) (s : Ticket) (f : Fate) → IsSound f → IsSound (unplug d s f)
unplug-sound d s f sound = λ r. grind (arith, common_steps)

unplug-final : (d : ℕ) (s : Ticket) (f : Fate) → IsFinal f → unplug d s f ≡ f
unplug-final d s f final = grind (arith, common_steps)

fate-sound : (past : List Event) (u : ℕ) → IsSound (fate past u)
fate-sound [] u = λ r. cc
fate-sound (Submit t d e m body room deadline ∷ past) u = fate-sound past u
fate-sound (Refuse t d e m body room errno ∷ past) u =
    elim (length (tickets past) == u) as (λ v. IsSound (cond v (record { packets = []; acks = 0; status = Some errno; reaped = true }) (fate past u))) [ true ↦ λ r. refl | false ↦ fate-sound past u ]
fate-sound (Packet d e b ∷ past) u = at_oldest-sound (oldest_among (tickets past) (fate past) d e) (λ s. with_packet s b) (tickets past) (fate past) u (fate-sound past u) (λ s. with_packet-sound s b (fate past u) (fate-sound past u))
fate-sound (Ack d e ∷ past) u = at_oldest-sound (oldest_among (tickets past) (fate past) d e) with_ack (tickets past) (fate past) u (fate-sound past u) (λ s. with_ack-sound s (fate past u) (fate-sound past u))
fate-sound (Echo d o i ∷ past) u = echo-sound (oldest past d o) (oldest past d i) d o i (tickets past) (fate past) u (fate-sound past u)
fate-sound (Fail d e errno ∷ past) u = at_oldest-sound (oldest_among (tickets past) (fate past) d e) (λ s. finish errno) (tickets past) (fate past) u (fate-sound past u) (λ s. finish-sound errno (fate past u) (fate-sound past u))
fate-sound (Discard t ∷ past) u = at_ticket-sound t (λ s. finish 2) (tickets past) (fate past) u (fate-sound past u) (λ s. finish-sound 2 (fate past u) (fate-sound past u))
fate-sound (Reap t ∷ past) u = at_ticket-sound t reap (tickets past) (fate past) u (fate-sound past u) (λ s. reap-sound s (fate past u) (fate-sound past u))
fate-sound (Unplug d ∷ past) u = change-sound (unplug d) (slice_get (tickets past) u) (fate past u) (fate-sound past u) (λ s. unplug-sound d s (fate past u) (fate-sound past u))

-- whatever comes after its reap, a fate stays
pub reaped_is_final : ReapedIsFinal
reaped_is_final past event t reaped = go past event t (record { reaped = reaped; finished = fate-sound past t reaped })
  where
    go : (past : List Event) (event : Event) (u : ℕ) → IsFinal (fate past u) → fate (event ∷ past) u ≡ fate past u
    go past (Submit t d e m body room deadline) u final = refl
    go past (Refuse t d e m body room errno) u final =
        elim (cases_eq (length (tickets past)) u) [
          | inl same ↦ absurd (fresh_final (fate past u) final (fate-fresh past u (omega arith)))
          | inr apart ↦ rw (ne_eqb (length (tickets past)) u apart) refl
        ]
    go past (Packet d e b) u final = at_oldest-final (oldest past d e) (λ s. with_packet s b) (tickets past) (fate past) u final (λ t at. oldest-unfinished (tickets past) 0 (fate past) d e t at)
    go past (Ack d e) u final = at_oldest-final (oldest past d e) with_ack (tickets past) (fate past) u final (λ t at. oldest-unfinished (tickets past) 0 (fate past) d e t at)
    go past (Echo d o i) u final = echo-final (oldest past d o) (oldest past d i) d o i (tickets past) (fate past) u final
    go past (Fail d e errno) u final = at_oldest-final (oldest past d e) (λ s. finish errno) (tickets past) (fate past) u final (λ t at. oldest-unfinished (tickets past) 0 (fate past) d e t at)
    go past (Discard t) u final = at_ticket-final t (λ s. finish 2) (tickets past) (fate past) u (λ s. finish-final 2 (fate past u) final)
    go past (Reap t) u final = at_ticket-final t reap (tickets past) (fate past) u (λ s. reap-final s (fate past u) final)
    go past (Unplug d) u final = change-final (unplug d) (slice_get (tickets past) u) (fate past u) (λ s. unplug-final d s (fate past u) final)
