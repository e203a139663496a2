-- What a poll of an endpoint and a wait for the front of its queue come to, on any bus.
use Rattle.std.specs.Prelude.{ℕ, zero, suc, ◌≡◌, ◌<◌, ◌⊎◌, ◌-◌, Bool, true, false, List, [], ◌∷◌, Option, Some, None, is_some, IsSome, nat_le}
use Rattle.usb_xfer.specs.declared.transfer.Completion.{Completion}
use Rattle.usb_kernel.specs.Completions.{lowest}
use Rattle.usb_device_endpoint.specs.declared.route.Turn.{Turn}
use Rattle.usb_device_endpoint.specs.declared.route.Turn.TheVariants.{Stepped, Reaped, TimeUp}
use Rattle.usb_device_endpoint.specs.BusState.{BusState}
use Rattle.usb_device_endpoint.specs.BusCalls.{BusCalls}
use Rattle.usb_device_endpoint.specs.Later.{IsLater}
use Rattle.usb_kernel.specs.TransferCompletions.{transfer_completion}
use Rattle.usb_device_endpoint.specs.EndpointState.{EndpointState}

-- the completion of the front, if it came, and what is left of the bus and of the endpoint
pub record Polled (S : Type 0) : Type 0 where
  pub completion : Option Completion
  pub bus : S
  pub endpoint : EndpointState

abbrev pub front_found : {S : Type 0} → Option Completion → S → EndpointState → Polled S
front_found completion bus endpoint = record { completion = completion; bus = bus; endpoint = endpoint }

-- the front is taken where the journal has its completion
abbrev pub taken_if : {S : Type 0} → BusCalls S → S → EndpointState → ℕ → List ℕ →
    Option Completion → Polled S
taken_if k s e front others None = front_found None s e
taken_if k s e front others (Some c) =
    front_found (Some c) (k.taken s front) (record e { pending = others })

abbrev pub polled_of : {S : Type 0} → BusCalls S → S → EndpointState → List ℕ → Polled S
polled_of k s e [] = front_found None s e
polled_of k s e (front ∷ others) =
    taken_if k s e front others (transfer_completion (k.state s).past front)

-- a poll
abbrev pub polled : {S : Type 0} → BusCalls S → S → EndpointState → Polled S
polled k s e = polled_of k s e e.pending

abbrev pub front_of : List ℕ → ℕ
front_of [] = 0
front_of (t ∷ ts) = t

abbrev pub time_is_up : Turn → Bool
time_is_up Stepped = false
time_is_up Reaped = false
time_is_up TimeUp = true

-- whether a ticket is reaped, and so found by a wait for it
abbrev pub is_reaped : {S : Type 0} → BusCalls S → ℕ → S → Bool
is_reaped k t s = is_some (transfer_completion (k.state s).past t)

-- what is left where all is done, and else what comes next. (What comes next is computed only where
-- it is used, so the numbers that end the recursions below may be large)
abbrev pub unless : {S : Type 0} → Bool → S → (S → S) → S
unless true s next = s
unless false s next = next s

-- A look at the ticket, then at the clock, then a turn, and so on: the bus where the ticket is
-- reaped, the time since the start is over, or time is up. The last number only ends the recursion.
abbrev pub waited_from : {S : Type 0} → BusCalls S → ℕ → ℕ → ℕ → ℕ → S → S
waited_from k t timeout start zero s = s
waited_from k t timeout start (suc n) s =
    unless (is_reaped k t s) s (λ s.
    unless (nat_le timeout ((k.state s).clock - start)) s (λ s.
    unless (time_is_up (k.turn_of s)) (k.turned s) (waited_from k t timeout start n)))

-- the bus after a wait for a ticket that starts now. Each turn but the last lowers the number of
-- turns that are left, so the number of looks is never used up
unfoldable pub waited : {S : Type 0} → BusCalls S → ℕ → ℕ → S → S
waited k t timeout s =
    waited_from k t timeout (k.state s).clock (suc (k.state s).turns_left) s

-- a wait for the front of an endpoint
abbrev pub wait_next : {S : Type 0} → BusCalls S → ℕ → S → EndpointState → Polled S
wait_next k timeout s e = polled k (waited k (front_of e.pending) timeout s) e

-- at some moment the ticket was not reaped, and no ticket was finished and not reaped
pub record TimeWasUp (old : BusState) (t : ℕ) : Type 0 where
  pub at : BusState
  pub later : IsLater old at
  pub not_come : transfer_completion at.past t ≡ None
  pub none_waits : lowest at.past ≡ None

-- why a wait ended without its ticket
abbrev pub EndedWhy : BusState → BusState → ℕ → ℕ → Type 0
EndedWhy old new t timeout = TimeWasUp old t ⊎ (0 < timeout → new.turns_left < old.turns_left)

-- why a wait found its ticket: it was reaped already, or a turn was made
abbrev pub FoundWhy : BusState → BusState → ℕ → Type 0
FoundWhy old new t = IsSome (transfer_completion old.past t) ⊎ (new.turns_left < old.turns_left)
