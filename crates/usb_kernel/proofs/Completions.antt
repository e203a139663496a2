-- What an event makes of the completions.
use Rattle.std.proofs.Common.{◌≡◌, ◌≢◌, ℕ, ◌<◌, ◌≤◌, arith, List, [], ◌∷◌, length, Option, Some, None, true, false, cond, refl, ap, sym, ◌∙◌, slice_get}
use Rattle.std.specs.Prelude.{is_some, nat_le, nat_lt, ◌&&◌, ◌==◌}
use Rattle.std.proofs.Common.{inl, inr}
use Rattle.std.proofs.lemmas.Grind.{common_steps}
use Rattle.std.proofs.lemmas.Bool.{cases_Bool, cases_eq, cases_lt, eq-eqb, ne_eqb}
use Rattle.std.proofs.lemmas.Option.{slice_get_past}
use Rattle.usb_kernel.specs.declared.event.Event.{Event}
use Rattle.usb_kernel.specs.declared.event.Event.TheVariants.{Submit, Packet, Ack, Echo, Fail, Discard, Reap, Unplug}
use Rattle.usb_kernel.specs.declared.event.Body.{Body}
use Rattle.usb_kernel_devices.specs.declared.devices.DeviceState.{DeviceState}
use Rattle.usb_kernel.specs.declared.submission.Done.{Done}
use Rattle.usb_kernel.specs.declared.submission.Submission.{Submission}
use Rattle.usb_kernel_devices.specs.declared.step.KernelStep.{KernelStep}
use Rattle.usb_kernel_devices.specs.declared.step.KernelStep.TheVariants as step
use Rattle.usb_kernel.specs.Tickets.{Ticket, tickets}
use Rattle.usb_kernel.specs.Fates.{Fate, fresh, with_packet, with_ack, finish, reap, unplug}
use Rattle.usb_kernel.specs.Journal.{fate, oldest, oldest_among, at_ticket, at_oldest, change, taken_of, ack_comes, echo_comes}
use Rattle.usb_kernel.specs.Submissions.{refuse_event, refused_of}
use Rattle.usb_kernel.specs.Completions.{refused_done, completion, completion_if, completion_for, completed, done_if, reapable}
use Rattle.usb_kernel.specs.Steps.{after_packet, after_ack, after_echo, after_fail, after_unplug, after_reap, after_reap_of, reapable_of, reaped_by, after_discard, is_unfinished, stepped, step_done}
use Rattle.usb_kernel.specs.Timers.{due, discarded_in_order, timer_turned}
use Rattle.usb_kernel_devices.specs.Devices.{plugged_device}
use Rattle.usb_kernel.proofs.Places.{slice_get-append_left, slice_get-append_seam}
use Rattle.usb_kernel.proofs.Fresh.{fate-fresh}
use Rattle.usb_kernel.proofs.Final.{reaped_is_final}

finish-reaped : (n : ℕ) (f : Fate) → (finish n f).reaped ≡ f.reaped
finish-reaped n f = grind (arith, common_steps)

with_packet-reaped : (s : Ticket) (b : List ℕ) (f : Fate) → (with_packet s b f).reaped ≡ f.reaped
with_packet-reaped s b f = grind (arith, common_steps)

with_ack-reaped : (s : Ticket) (f : Fate) → (with_ack s f).reaped ≡ f.reaped
with_ack-reaped s f = grind (arith, common_steps)

unplug-reaped : (d : ℕ) (s : Ticket) (f : Fate) → (unplug d s f).reaped ≡ f.reaped
unplug-reaped d s f = grind (arith, common_steps)

change-reaped : (step : Ticket → Fate → Fate) (o : Option Ticket) (f : Fate) → ((s : Ticket) (g : Fate) → (step s g).reaped ≡ g.reaped) → (change step o f).reaped ≡ f.reaped
change-reaped step None f same = refl
change-reaped step (Some s) f same = same s f

at_ticket-reaped : (t : ℕ) (step : Ticket → Fate → Fate) (ts : List Ticket) (f : ℕ → Fate) (u : ℕ) → ((s : Ticket) (g : Fate) → (step s g).reaped ≡ g.reaped) → (at_ticket t step ts f u).reaped ≡ (f u).reaped
at_ticket-reaped t step ts f u same =
    elim (t == u) as (λ v. (cond v (change step (slice_get ts u) (f u)) (f u)).reaped ≡ (f u).reaped) [ true ↦ change-reaped step (slice_get ts u) (f u) same | false ↦ refl ]

at_oldest-reaped : (o : Option ℕ) (step : Ticket → Fate → Fate) (ts : List Ticket) (f : ℕ → Fate) (u : ℕ) → ((s : Ticket) (g : Fate) → (step s g).reaped ≡ g.reaped) → (at_oldest o step ts f u).reaped ≡ (f u).reaped
at_oldest-reaped None step ts f u same = refl
at_oldest-reaped (Some t) step ts f u same = at_ticket-reaped t step ts f u same

-- a fate that was not reaped, and is not, has no completion
completion-unreaped : (t : ℕ) (o : Option Ticket) (f : Fate) → f.reaped ≡ false → completion_if t o f ≡ None
completion-unreaped t None f none = refl
completion-unreaped t (Some s) f none = rw none refl

-- an event that reaps nothing keeps the completions
pub completion-kept : (past : List Event) (event : Event) (u : ℕ) → tickets (event ∷ past) ≡ tickets past → (fate (event ∷ past) u).reaped ≡ (fate past u).reaped → completion (event ∷ past) u ≡ completion past u
unfolding completion
completion-kept past event u same kept =
    elim (cases_Bool (fate past u).reaped) [
      | inl yes_ ↦ rw (same, reaped_is_final past event u yes_) refl
      | inr no_ ↦ rw same (completion-unreaped u (slice_get (tickets past) u) (fate (event ∷ past) u) (kept ∙ no_) ∙ sym (completion-unreaped u (slice_get (tickets past) u) (fate past u) no_))
    ]

pub completion-packet : (past : List Event) (d e : ℕ) (b : List ℕ) (u : ℕ) → completion (after_packet past d e b) u ≡ completion past u
completion-packet past d e b u =
    let here = completion-kept past (Packet d e b) u refl (at_oldest-reaped (oldest past d e) (λ s. with_packet s b) (tickets past) (fate past) u (λ s g. with_packet-reaped s b g)) in
    elim (nat_le 128 e && is_some (oldest past d e)) as (λ v. completion (cond v (Packet d e b ∷ past) past) u ≡ completion past u) [ true ↦ here | false ↦ refl ]

pub completion-ack : (past : List Event) (d e : ℕ) (u : ℕ) → completion (after_ack past d e) u ≡ completion past u
completion-ack past d e u =
    let here = completion-kept past (Ack d e) u refl (at_oldest-reaped (oldest past d e) with_ack (tickets past) (fate past) u with_ack-reaped) in
    elim (nat_lt e 128 && is_some (oldest past d e)) as (λ v. completion (cond v (Ack d e ∷ past) past) u ≡ completion past u) [ true ↦ here | false ↦ refl ]

echo-reaped : (x y : Option ℕ) (d o i : ℕ) (ts : List Ticket) (f : ℕ → Fate) (u : ℕ) → (echo_comes x y d o i ts f u).reaped ≡ (f u).reaped
echo-reaped None y d o i ts f u = refl
echo-reaped (Some t) None d o i ts f u = refl
echo-reaped (Some t) (Some j) d o i ts f u =
    let b = taken_of (slice_get ts t) (f t) in
    at_oldest-reaped (oldest_among ts (ack_comes d o ts f) d i) (λ s. with_packet s b) ts (ack_comes d o ts f) u (λ s g. with_packet-reaped s b g) ∙ at_oldest-reaped (oldest_among ts f d o) with_ack ts f u with_ack-reaped

pub completion-echo : (past : List Event) (d o i : ℕ) (u : ℕ) → completion (after_echo past d o i) u ≡ completion past u
completion-echo past d o i u =
    let here = completion-kept past (Echo d o i) u refl (echo-reaped (oldest past d o) (oldest past d i) d o i (tickets past) (fate past) u) in
    elim (nat_lt o 128 && nat_le 128 i && is_some (oldest past d o) && is_some (oldest past d i)) as (λ v. completion (cond v (Echo d o i ∷ past) past) u ≡ completion past u) [ true ↦ here | false ↦ refl ]

pub completion-fail : (past : List Event) (d e errno : ℕ) (u : ℕ) → completion (after_fail past d e errno) u ≡ completion past u
completion-fail past d e errno u =
    let here = completion-kept past (Fail d e errno) u refl (at_oldest-reaped (oldest past d e) (λ s. finish errno) (tickets past) (fate past) u (λ s g. finish-reaped errno g)) in
    elim (is_some (oldest past d e)) as (λ v. completion (cond v (Fail d e errno ∷ past) past) u ≡ completion past u) [ true ↦ here | false ↦ refl ]

pub completion-unplug : (devices : List DeviceState) (past : List Event) (d : ℕ) (u : ℕ) → completion (after_unplug devices past d) u ≡ completion past u
completion-unplug devices past d u =
    let here = completion-kept past (Unplug d) u refl (change-reaped (unplug d) (slice_get (tickets past) u) (fate past u) (unplug-reaped d)) in
    elim (is_some (plugged_device devices d)) as (λ v. completion (cond v (Unplug d ∷ past) past) u ≡ completion past u) [ true ↦ here | false ↦ refl ]

pub completion-discard : (past : List Event) (t : ℕ) (u : ℕ) → completion (after_discard past t) u ≡ completion past u
completion-discard past t u =
    let here = completion-kept past (Discard t) u refl (at_ticket-reaped t (λ s. finish 2) (tickets past) (fate past) u (λ s g. finish-reaped 2 g)) in
    elim (is_unfinished past t) as (λ v. completion (cond v (Discard t ∷ past) past) u ≡ completion past u) [ true ↦ here | false ↦ refl ]

-- what is reapable gets its completion by the reap
reapable-completion : (t : ℕ) (s : Ticket) (f : Fate) (done : Done) → done_if t f s ≡ Some done → (completion_for t s (reap s f) ≡ Some done) × (done.ticket ≡ t)
reapable-completion t s f done some = grind (arith, common_steps)

reapable-completion-if : (t : ℕ) (o : Option Ticket) (past : List Event) (done : Done) → slice_get (tickets past) t ≡ o → reapable past t ≡ Some done → (completion (Reap t ∷ past) t ≡ Some done) × (done.ticket ≡ t)
unfolding completion
reapable-completion-if t None past done at some = let no_ : None ≡ Some done = rw at at some in cc
reapable-completion-if t (Some s) past done at some =
    let here : done_if t (fate past t) s ≡ Some done = rw at at some in
    let both = reapable-completion t s (fate past t) done here in
    (rw (eq-eqb t t refl, at) both.0, both.1)

completion-reap-other : (past : List Event) (t u : ℕ) → t ≢ u → completion (Reap t ∷ past) u ≡ completion past u
unfolding completion
completion-reap-other past t u apart = rw (ne_eqb t u apart) refl

completion-reap-at : (past : List Event) (t u : ℕ) (o : Option Done) → reapable past t ≡ o → completion (cond (is_some o) (Reap t ∷ past) past) u ≡ completed o (completion past) u
completion-reap-at past t u None is = refl
completion-reap-at past t u (Some done) is =
    let both = reapable-completion-if t (slice_get (tickets past) t) past done refl is in
    elim (cases_eq t u) [
      | inl same ↦ rw (eq-eqb done.ticket u (both.1 ∙ same)) (ap (completion (Reap t ∷ past)) (sym same) ∙ both.0)
      | inr apart ↦ rw (ne_eqb done.ticket u (λ is_u. apart (sym both.1 ∙ is_u))) (completion-reap-other past t u apart)
    ]

pub completion-reap : (past : List Event) (t : ℕ) (u : ℕ) → completion (after_reap past t) u ≡ completed (reapable past t) (completion past) u
completion-reap past t u = completion-reap-at past t u (reapable past t) refl

pub completion-reap_of : (past : List Event) (ticket : Option ℕ) (u : ℕ) → completion (after_reap_of past ticket) u ≡ completed (reapable_of past ticket) (completion past) u
completion-reap_of past None u = refl
completion-reap_of past (Some t) u = completion-reap past t u

pub tickets-reap : (past : List Event) (t : ℕ) → tickets (after_reap past t) ≡ tickets past
tickets-reap past t = elim (is_some (reapable past t)) as (λ v. tickets (cond v (Reap t ∷ past) past) ≡ tickets past) [ true ↦ refl | false ↦ refl ]

pub tickets-discard : (past : List Event) (t : ℕ) → tickets (after_discard past t) ≡ tickets past
tickets-discard past t = elim (is_unfinished past t) as (λ v. tickets (cond v (Discard t ∷ past) past) ≡ tickets past) [ true ↦ refl | false ↦ refl ]

-- the turn of the timer submits nothing
tickets-discarded_in_order : (past : List Event) (ts : List ℕ) → tickets (discarded_in_order past ts) ≡ tickets past
tickets-discarded_in_order past [] = refl
tickets-discarded_in_order past (t ∷ ts) = tickets-discarded_in_order (after_discard past t) ts ∙ tickets-discard past t

pub tickets-turned : (clock : ℕ) (past : List Event) → tickets (timer_turned clock past) ≡ tickets past
unfolding timer_turned
tickets-turned clock past = tickets-discarded_in_order past (due past clock)

-- and reaps nothing
completion-discarded_in_order : (past : List Event) (ts : List ℕ) (u : ℕ) → completion (discarded_in_order past ts) u ≡ completion past u
completion-discarded_in_order past [] u = refl
completion-discarded_in_order past (t ∷ ts) u = completion-discarded_in_order (after_discard past t) ts u ∙ completion-discard past t u

pub completion-turned : (clock : ℕ) (past : List Event) (u : ℕ) → completion (timer_turned clock past) u ≡ completion past u
unfolding timer_turned
completion-turned clock past u = completion-discarded_in_order past (due past clock) u

-- what a step makes of the completions
pub completion-step : (devices : List DeviceState) (clock : ℕ) (past : List Event) (s : KernelStep) (u : ℕ) → completion (stepped devices clock past s) u ≡ completed (step_done past s) (completion past) u
completion-step devices clock past (step.Packet d e b) u = completion-packet past d e b u
completion-step devices clock past (step.Ack d e) u = completion-ack past d e u
completion-step devices clock past (step.Echo d o i) u = completion-echo past d o i u
completion-step devices clock past (step.Fail d e errno) u = completion-fail past d e errno u
completion-step devices clock past (step.Unplug d) u = completion-unplug devices past d u
completion-step devices clock past (step.Clock to) u = refl
completion-step devices clock past step.Timer u = completion-turned clock past u
completion-step devices clock past (step.Reap ticket) u = completion-reap_of past (reaped_by past ticket) u
completion-step devices clock past (step.Refuse d call errno) u = refl

-- a step submits nothing
pub tickets-reap_of : (past : List Event) (ticket : Option ℕ) → tickets (after_reap_of past ticket) ≡ tickets past
tickets-reap_of past None = refl
tickets-reap_of past (Some t) = tickets-reap past t

pub tickets-step : (devices : List DeviceState) (clock : ℕ) (past : List Event) (s : KernelStep) → tickets (stepped devices clock past s) ≡ tickets past
tickets-step devices clock past (step.Packet d e b) = elim (nat_le 128 e && is_some (oldest past d e)) as (λ v. tickets (cond v (Packet d e b ∷ past) past) ≡ tickets past) [ true ↦ refl | false ↦ refl ]
tickets-step devices clock past (step.Ack d e) = elim (nat_lt e 128 && is_some (oldest past d e)) as (λ v. tickets (cond v (Ack d e ∷ past) past) ≡ tickets past) [ true ↦ refl | false ↦ refl ]
tickets-step devices clock past (step.Echo d o i) = elim (nat_lt o 128 && nat_le 128 i && is_some (oldest past d o) && is_some (oldest past d i)) as (λ v. tickets (cond v (Echo d o i ∷ past) past) ≡ tickets past) [ true ↦ refl | false ↦ refl ]
tickets-step devices clock past (step.Fail d e errno) = elim (is_some (oldest past d e)) as (λ v. tickets (cond v (Fail d e errno ∷ past) past) ≡ tickets past) [ true ↦ refl | false ↦ refl ]
tickets-step devices clock past (step.Unplug d) = elim (is_some (plugged_device devices d)) as (λ v. tickets (cond v (Unplug d ∷ past) past) ≡ tickets past) [ true ↦ refl | false ↦ refl ]
tickets-step devices clock past (step.Clock to) = refl
tickets-step devices clock past step.Timer = tickets-turned clock past
tickets-step devices clock past (step.Reap ticket) = tickets-reap_of past (reaped_by past ticket)
tickets-step devices clock past (step.Refuse d call errno) = refl

-- a submission
pub completion-submit : (past : List Event) (t d e m : ℕ) (body : Body) (room : ℕ) (deadline : Option ℕ) (u : ℕ) → completion (Submit t d e m body room deadline ∷ past) u ≡ completion past u
unfolding completion
completion-submit past t d e m body room deadline u =
    elim (cases_lt u (length (tickets past))) [
      | inl within ↦ rw (slice_get-append_left (tickets past) (new ∷ []) u within) refl
      | inr beyond ↦ rw (fate-fresh past u beyond) (completion-unreaped u _ fresh refl ∙ sym (completion-unreaped u _ fresh refl))
    ]
  where
    new : Ticket
    new = record { device = d; endpoint = e; maximum = m; body = body; capacity = room; refused = false; deadline = deadline }

pub completion-fresh : (past : List Event) (u : ℕ) → length (tickets past) ≤ u → completion past u ≡ None
unfolding completion
completion-fresh past u beyond = rw (slice_get_past (tickets past) u beyond) refl

-- a refused submission has its completion at once
pub completion-refuse : (past : List Event) (s : Submission) (t errno u : ℕ) → u < length (tickets past) → completion (refuse_event t s errno ∷ past) u ≡ completion past u
unfolding completion
completion-refuse past s t errno u within =
    let apart : length (tickets past) ≢ u = (λ same. omega arith) in
    rw (slice_get-append_left (tickets past) (refused_of s ∷ []) u within, ne_eqb (length (tickets past)) u apart) refl

pub completion-refused : (past : List Event) (s : Submission) (t errno : ℕ) → completion (refuse_event t s errno ∷ past) (length (tickets past)) ≡ Some (refused_done (length (tickets past)) s errno)
unfolding completion
completion-refused past s t errno =
    rw (slice_get-append_seam (tickets past) (refused_of s), eq-eqb (length (tickets past)) (length (tickets past)) refl) refl
