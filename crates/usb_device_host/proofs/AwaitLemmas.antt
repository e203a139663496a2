-- The wait for a control transfer, turn by turn.
use Rattle.std.proofs.Common.{ℕ, zero, suc, ◌≡◌, ◌≤◌, ◌<◌, ◌+◌, ◌*◌, Bool, true, false, cond, List, [], ◌∷◌, length, Option, Some, None, IsSome, slice_get, refl, sym, ◌∙◌, ap, subst, arith, inl, inr}
use Rattle.std.specs.Prelude.{is_some, max, option_and_then}
use Rattle.std.proofs.lemmas.Bool.{cases_Bool}
use Rattle.std.proofs.lemmas.Grind.{common_steps}
use Rattle.std.proofs.lemmas.Option.{none-some, slice_get_within}
use Rattle.usb_kernel.specs.declared.event.Event.{Event}
use Rattle.usb_kernel.specs.declared.event.Event.TheVariants.{Reap}
use Rattle.usb_kernel_devices.specs.declared.step.KernelStep.{KernelStep}
use Rattle.usb_kernel.specs.Tickets.{Ticket, tickets}
use Rattle.usb_kernel.specs.Journal.{fate}
use Rattle.usb_kernel.specs.Completions.{completion, completion_for, reapable, waiting, lowest}
use Rattle.usb_kernel.specs.Steps.{after_reap}
use Rattle.usb_kernel.proofs.Extends.{extends-if}
use Rattle.usb_kernel.proofs.Completions.{tickets-reap, tickets-discard, tickets-step, tickets-turned}
use Rattle.usb_kernel.proofs.Waiting.{finished-reapable, lowest-some, lowest-reapable, waiting-one_less, waiting-few}
use Rattle.usb_kernel.proofs.Deadlines.{timer-finishes, stays-finished}
use Rattle.std.specs.Option.{option_map}
use Rattle.usb_device_endpoint.specs.BusState.{BusState}
use Rattle.usb_kernel.specs.TransferCompletions.{transfer_completion, completion_of}
use Rattle.usb_device_endpoint.specs.Waits.{time_is_up, is_reaped}
use Rattle.usb_device_ledger.specs.Entries.{Hold}
use Rattle.usb_device_host.specs.HostState.{HostState}
use Rattle.usb_device_host.specs.HostTurns.{host_stepped, host_reaped, host_turned, host_turn}
use Rattle.usb_device_host.specs.HostCalls.{host_discarded, host_idled, host_calls}
use Rattle.usb_device_host.specs.HostAwaits.{deadline_of, host_turned_until, awaited_from, host_awaited}
use Rattle.usb_device_host.specs.HostBus.{hold_at}
use Rattle.usb_device_host.specs.HostFrames.{HostGoesOn}
use Rattle.usb_device_host.proofs.BusLemmas.{bus_of-stepped}
use Rattle.usb_device_host.proofs.HostFrames.{uses-reaped, uses-stepped}
use Rattle.usb_device_host.proofs.TurnKeeps.{IsKept, kept-until}
use Rattle.usb_device_host.proofs.TurnLemmas.{reaped-past, turn-nil, turned-nil, turn-step, turned-step}
use Rattle.usb_device_host.proofs.WaitFrames.{went-until}

-- no ticket is added
abbrev SameTickets : HostState → HostState → Type 0
SameTickets old new = tickets new.kernel.past ≡ tickets old.kernel.past

stepped-tickets : (h : HostState) (s : KernelStep) (ss : List KernelStep) → SameTickets h (host_stepped (record h { steps = ss }) s)
stepped-tickets h s ss =
    ap tickets (ap (λ (b : BusState). b.past) (bus_of-stepped (record h { steps = ss }) s)) ∙ tickets-step h.kernel.devices h.kernel.clock h.kernel.past s

reaped-tickets : (h : HostState) (u : ℕ) → SameTickets h (host_reaped h u)
reaped-tickets h u = ap tickets (reaped-past h u) ∙ tickets-reap h.kernel.past u

discarded-tickets : (h : HostState) (u : ℕ) → SameTickets h (host_discarded h u)
unfolding host_discarded
discarded-tickets h u = tickets-discard h.kernel.past u

tickets-until : (h : HostState) (d : ℕ) → SameTickets h (host_turned_until h d)
tickets-until h d = kept-until SameTickets kept h d
  where
    kept : IsKept SameTickets
    kept =
        record {
          same = λ h. refl;
          more = λ a b c first second. second ∙ first;
          step = λ h s ss is. stepped-tickets h s ss;
          reap = reaped-tickets;
          discard = discarded-tickets;
          idle = λ h until. tickets-turned (max h.kernel.clock until) h.kernel.past;
        }

module _ (t : ℕ) where
  -- time is up
  record IsUp (h : HostState) : Type 0 where
    steps : h.steps ≡ []
    none_waits : lowest h.kernel.past ≡ None

  up-nil : (h : HostState) (o : Option ℕ) → h.steps ≡ [] → lowest h.kernel.past ≡ o → time_is_up (host_turn h) ≡ true → IsUp h
  up-nil h None nil lo up = record { steps = nil; none_waits = lo }
  up-nil h (Some u) nil lo up = let no_ : false ≡ true = sym (turn-nil h (Some u) nil lo) ∙ up in cc

  up-by : (h : HostState) (ss : List KernelStep) → h.steps ≡ ss → time_is_up (host_turn h) ≡ true → IsUp h
  up-by h [] nil up = up-nil h (lowest h.kernel.past) nil refl up
  up-by h (s ∷ ss) same up = let no_ : false ≡ true = sym (turn-step h s ss same) ∙ up in cc

  is-up : (h : HostState) → time_is_up (host_turn h) ≡ true → IsUp h
  is-up h up = up-by h h.steps refl up

  up-turned : (h : HostState) → time_is_up (host_turn h) ≡ true → host_turned h ≡ h
  up-turned h up = let u = is-up h up in turned-nil h None u.steps u.none_waits

  -- a finished ticket that is not found waits for its reap
  unreaped : (past : List Event) (s : Ticket) → slice_get (tickets past) t ≡ Some s → is_some (transfer_completion past t) ≡ false → IsSome (fate past t).status → (fate past t).reaped ≡ false
  unfolding transfer_completion completion
  unreaped past s at none finished =
      elim (cases_Bool (fate past t).reaped) [
        | inl reaped ↦ absurd (let here : is_some (completion_for t s (fate past t)) ≡ true = grind (arith, common_steps) in grind (arith, common_steps, at))
        | inr open_ ↦ open_
      ]

  waits : (past : List Event) (s : Ticket) → slice_get (tickets past) t ≡ Some s → is_some (transfer_completion past t) ≡ false → IsSome (fate past t).status → IsSome (lowest past)
  waits past s at none finished =
      lowest-some past t (finished-reapable past t (slice_get_within (tickets past) t s at) finished (unreaped past s at none finished))

  -- the wait ends: each turn leaves less. A ticket that is not finished may have the raise of the clock, and reaps of all before it
  abbrev later_if : Option ℕ → ℕ → ℕ
  later_if None n = n + 1
  later_if (Some errno) n = 0

  -- the turns that are left when these steps are left, beside one for each of them
  abbrev reaps_left : List KernelStep → List Event → ℕ
  reaps_left [] past = later_if (fate past t).status (length (tickets past)) + length (waiting past)
  reaps_left (s ∷ ss) past = 2 * length (tickets past) + 1

  abbrev pub left_until : HostState → ℕ
  left_until h = length h.steps + reaps_left h.steps h.kernel.past

  later-most : (o : Option ℕ) (n : ℕ) → later_if o n ≤ n + 1
  later-most None n = omega arith
  later-most (Some errno) n = omega arith

  later-none : (o : Option ℕ) (n : ℕ) → IsSome o → later_if o n ≡ 0
  later-none None n some = absurd (cc)
  later-none (Some errno) n some = refl

  later-falls : (a b : Option ℕ) (m n : ℕ) → n ≡ m → (IsSome a → IsSome b) → later_if b n ≤ later_if a m
  later-falls None b m n same stays = let most = later-most b n in omega (arith, most, same)
  later-falls (Some errno) b m n same stays = rw (later-none b n (stays refl)) (omega arith)

  reaps-most : (ss : List KernelStep) (past : List Event) → reaps_left ss past ≤ 2 * length (tickets past) + 1
  reaps-most [] past = omega (arith, later-most (fate past t).status (length (tickets past)), waiting-few past)
  reaps-most (s ∷ ss) past = omega arith

  falls-step : (h : HostState) (s : KernelStep) (ss : List KernelStep) → h.steps ≡ s ∷ ss → left_until (host_stepped (record h { steps = ss }) s) < left_until h
  falls-step h s ss same =
      let g : HostState = host_stepped (record h { steps = ss }) s in
      let line : g.steps ≡ ss = (uses-stepped (record h { steps = ss }) s).steps in
      let count : length (tickets g.kernel.past) ≡ length (tickets h.kernel.past) = ap length (stepped-tickets h s ss) in
      let most = reaps-most ss g.kernel.past in
      rw (line, same) (omega (arith, most, count))

  -- a reap on the way
  waits-one_more : (h : HostState) (u : ℕ) → lowest h.kernel.past ≡ Some u → length (waiting h.kernel.past) ≡ suc (length (waiting (host_reaped h u).kernel.past))
  waits-one_more h u lo =
      let some = lowest-reapable h.kernel.past u lo in
      let less = waiting-one_less h.kernel.past u some in
      let is : (host_reaped h u).kernel.past ≡ after_reap h.kernel.past u = reaped-past h u in
      rw is (rw some (omega (arith, less)))

  reaped-finished : (h : HostState) (u : ℕ) → IsSome (fate h.kernel.past t).status → IsSome (fate (host_reaped h u).kernel.past t).status
  reaped-finished h u finished =
      rw (reaped-past h u) (stays-finished h.kernel.past (after_reap h.kernel.past u) t (extends-if (is_some (reapable h.kernel.past u)) h.kernel.past (Reap u)) finished)

  nil-falls : (ss rest : List KernelStep) (old new : List Event) → ss ≡ [] → rest ≡ [] → reaps_left [] new < reaps_left [] old → length rest + reaps_left rest new < length ss + reaps_left ss old
  nil-falls ss rest old new nil line less = rw (nil, line) (omega (arith, less))

  falls-reap : (h : HostState) (u : ℕ) → h.steps ≡ [] → lowest h.kernel.past ≡ Some u → left_until (host_reaped h u) < left_until h
  falls-reap h u nil lo =
      let g : HostState = host_reaped h u in
      let line : g.steps ≡ [] = (uses-reaped h u).steps ∙ nil in
      let count : length (tickets g.kernel.past) ≡ length (tickets h.kernel.past) = ap length (reaped-tickets h u) in
      let less = later-falls (fate h.kernel.past t).status (fate g.kernel.past t).status (length (tickets h.kernel.past)) (length (tickets g.kernel.past)) count (reaped-finished h u) in
      let fewer = waits-one_more h u lo in
      nil-falls h.steps g.steps h.kernel.past g.kernel.past nil line (omega (arith, less, fewer))

  falls-nil : (h : HostState) (o : Option ℕ) → h.steps ≡ [] → lowest h.kernel.past ≡ o → time_is_up (host_turn h) ≡ false → left_until (host_turned h) < left_until h
  falls-nil h None nil lo more = let up : true ≡ false = sym (turn-nil h None nil lo) ∙ more in absurd (cc)
  falls-nil h (Some u) nil lo more = rw (turned-nil h (Some u) nil lo) (falls-reap h u nil lo)

  falls-turned : (h : HostState) (ss : List KernelStep) → h.steps ≡ ss → time_is_up (host_turn h) ≡ false → left_until (host_turned h) < left_until h
  falls-turned h [] nil more = falls-nil h (lowest h.kernel.past) nil refl more
  falls-turned h (s ∷ ss) same more = rw (turned-step h s ss same) (falls-step h s ss same)

  none-wait : (past : List Event) → lowest past ≡ None → length (waiting past) ≡ 0
  none-wait past lo = none-first (waiting past) lo
    where
      none-first : (xs : List ℕ) → slice_get xs 0 ≡ None → length xs ≡ 0
      none-first [] none = refl
      none-first (x ∷ xs) none = absurd (none-some x (sym none))

  open-status : (past : List Event) (s : Ticket) (o : Option ℕ) → (fate past t).status ≡ o → slice_get (tickets past) t ≡ Some s → is_some (transfer_completion past t) ≡ false → lowest past ≡ None → later_if o (length (tickets past)) ≡ length (tickets past) + 1
  open-status past s None is at none lo = refl
  open-status past s (Some errno) is at none lo =
      let some : IsSome (lowest past) = waits past s at none (ap is_some is) in let no_ : false ≡ true = ap is_some (sym lo) ∙ some in cc

  module _ (h : HostState) (d : ℕ) (s : Ticket) (at : slice_get (tickets h.kernel.past) t ≡ Some s) (is : s.deadline ≡ Some d) (none : is_reaped host_calls t h ≡ false) where
    -- where time is up the ticket is not finished; at its deadline it is
    falls-idle : IsUp h → left_until (host_idled h d) < left_until h
    falls-idle up =
        let g : HostState = host_idled h d in
        let count : length (tickets g.kernel.past) ≡ length (tickets h.kernel.past) = ap length (tickets-turned (max h.kernel.clock d) h.kernel.past) in
        let open_ : later_if (fate h.kernel.past t).status (length (tickets h.kernel.past)) ≡ length (tickets h.kernel.past) + 1 = open-status h.kernel.past s (fate h.kernel.past t).status refl at none up.none_waits in
        let finished = timer-finishes h.kernel.past (max h.kernel.clock d) t d s at is (omega arith) in
        let closed : later_if (fate g.kernel.past t).status (length (tickets g.kernel.past)) ≡ 0 = later-none (fate g.kernel.past t).status (length (tickets g.kernel.past)) finished in
        let few = waiting-few g.kernel.past in
        rw (up.steps, open_, closed) (omega (arith, few, count))

    until-by : (v : Bool) → time_is_up (host_turn h) ≡ v → left_until (cond v (host_idled (host_turned h) d) (host_turned h)) < left_until h
    until-by true up = rw (up-turned h up) (falls-idle (is-up h up))
    until-by false more = falls-turned h h.steps refl more

    falls-until : left_until (host_turned_until h d) < left_until h
    falls-until = until-by (time_is_up (host_turn h)) refl

-- a ticket with a deadline
ticket-with : (o : Option Ticket) (d : ℕ) → option_and_then (λ (s : Ticket). s.deadline) o ≡ Some d → (s : Ticket) × (o ≡ Some s) × (s.deadline ≡ Some d)
ticket-with None d is = absurd (none-some d is)
ticket-with (Some s) d is = (s, refl, is)

-- whether a ticket is found
some-mapped : {X Y : Type 0} (f : X → Y) (o : Option X) → is_some (option_map f o) ≡ is_some o
some-mapped f None = refl
some-mapped f (Some x) = refl

pub found-completion : (h : HostState) (t : ℕ) → is_reaped host_calls t h ≡ is_some (completion h.kernel.past t)
unfolding transfer_completion
found-completion h t = some-mapped completion_of (completion h.kernel.past t)

-- who holds a ticket
held-owner : (o : Option Hold) → is_some (option_map (λ (hold : Hold). hold.key) o) ≡ is_some o
held-owner o = some-mapped (λ (hold : Hold). hold.key) o

pub held-went : (old new : HostState) (t : ℕ) → HostGoesOn old new → IsSome (hold_at old.tickets t) → IsSome (hold_at new.tickets t)
held-went old new t went held =
    sym (held-owner (hold_at new.tickets t)) ∙ (ap (λ (owner : ℕ → Option ℕ). is_some (owner t)) went.later.owner ∙ (held-owner (hold_at old.tickets t) ∙ held))

-- the turns so far of a wait that began at a host (first): what is left of it is a wait from here (h), which has turns enough
pub record Awaits (t d : ℕ) (first h : HostState) : Type 0 where
  pub left : ℕ
  pub enough : left_until t h < left
  pub is : host_awaited first t d ≡ awaited_from t d left h

pub awaits-first : (t d : ℕ) (h : HostState) → Awaits t d h h
unfolding host_awaited
awaits-first t d h =
    let most = reaps-most t h.steps h.kernel.past in
    record { left = length h.steps + 2 * length (tickets h.kernel.past) + 2; enough = omega (arith, most); is = refl }

from-found : (t d n : ℕ) (h : HostState) → is_reaped host_calls t h ≡ true → awaited_from t d n h ≡ h
from-found t d zero h found = refl
from-found t d (suc n) h found = rw found refl

pub awaits-found : (t d : ℕ) (first h : HostState) → Awaits t d first h → is_reaped host_calls t h ≡ true → host_awaited first t d ≡ h
awaits-found t d first h awaits found = awaits.is ∙ from-found t d awaits.left h found

from-more : (t d n m : ℕ) (h : HostState) → m < n → is_reaped host_calls t h ≡ false → (l : ℕ) × (n ≡ suc l) × (awaited_from t d n h ≡ awaited_from t d l (host_turned_until h d))
from-more t d zero m h some none = absurd (omega arith)
from-more t d (suc n) m h some none = (n, refl, rw none refl)

awaits-more : (t d : ℕ) (first h : HostState) → Awaits t d first h → is_reaped host_calls t h ≡ false → left_until t (host_turned_until h d) < left_until t h → Awaits t d first (host_turned_until h d)
awaits-more t d first h awaits none falls =
    let more = from-more t d awaits.left (left_until t h) h awaits.enough none in
    let enough = awaits.enough in
    let one = more.1 in
    record { left = more.0; enough = omega (arith, enough, falls, one); is = awaits.is ∙ more.2 }

-- what a turn of the wait keeps, and that it leaves less
pub record KeepsWaiting (t d : ℕ) (first h g : HostState) : Type 0 where
  pub awaits : Awaits t d first g
  pub less : left_until t g < left_until t h
  pub due : deadline_of g.kernel.past t ≡ Some d
  pub went : HostGoesOn h g

pub until-keeps : (t d : ℕ) (first h g : HostState) → g ≡ host_turned_until h d → is_reaped host_calls t h ≡ false → deadline_of h.kernel.past t ≡ Some d → Awaits t d first h → KeepsWaiting t d first h g
until-keeps t d first h g is none due awaits =
    let s = ticket-with (slice_get (tickets h.kernel.past) t) d due in
    let less = falls-until t h d s.0 s.1 s.2 none in
    rw is (record {
      awaits = awaits-more t d first h awaits none less;
      less = less;
      due = ap (λ (ts : List Ticket). option_and_then (λ (s : Ticket). s.deadline) (slice_get ts t)) (tickets-until h d) ∙ due;
      went = went-until h d;
    })

-- so the wait goes on until the ticket is found
awaits-finds : (t d n : ℕ) (first h : HostState) → left_until t h < n → (is_reaped host_calls t h ≡ false → deadline_of h.kernel.past t ≡ Some d) → Awaits t d first h → is_reaped host_calls t (host_awaited first t d) ≡ true
awaits-finds t d zero first h few due awaits = absurd (omega arith)
awaits-finds t d (suc n) first h few due awaits =
    elim (cases_Bool (is_reaped host_calls t h)) [
      | inl found ↦ subst (λ g. is_reaped host_calls t g ≡ true) (sym (awaits-found t d first h awaits found)) found
      | inr none ↦
          let g = host_turned_until h d in
          let keeps = until-keeps t d first h g refl none (due none) awaits in
          let less = keeps.less in
          awaits-finds t d n first g (omega (arith, less, few)) (λ open_. keeps.due) keeps.awaits
    ]

pub awaited-finds : (t d : ℕ) (h : HostState) → (is_reaped host_calls t h ≡ false → deadline_of h.kernel.past t ≡ Some d) → is_reaped host_calls t (host_awaited h t d) ≡ true
awaited-finds t d h due = awaits-finds t d (suc (left_until t h)) h h (omega arith) due (awaits-first t d h)
