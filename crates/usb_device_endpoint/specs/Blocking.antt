-- How a blocking transfer goes, on any bus.
use Rattle.std.specs.Prelude.{ℕ, zero, suc, ◌≡◌, List, [], ◌∷◌, length, Some, None, slice_get}
use Rattle.usb_xfer.specs.BufferState.{BufferState}
use Rattle.usb_kernel.specs.declared.event.Event.{Event}
use Rattle.usb_kernel.specs.Tickets.{Ticket, tickets}
use Rattle.usb_kernel.specs.Journal.{fate}
use Rattle.usb_device_endpoint.specs.BusCalls.{BusCalls}
use Rattle.usb_device_endpoint.specs.EndpointState.{EndpointState}
use Rattle.usb_device_endpoint.specs.Submits.{entered}
use Rattle.usb_device_endpoint.specs.Waits.{Polled, polled, is_reaped, unless, waited}

-- a ticket that is finished
pub record IsFinished (past : List Event) (t : ℕ) : Type 0 where
  pub ticket : Ticket
  pub is : slice_get (tickets past) t ≡ Some ticket
  pub errno : ℕ
  pub status : (fate past t).status ≡ Some errno

-- what is left where a ticket is reaped, and else what comes next
abbrev pub or_next : {S : Type 0} → BusCalls S → ℕ → (S → S) → S → S
or_next k t next s = unless (is_reaped k t s) s next

-- waits of a second (10^9 nanoseconds), each with a start of its own, until one finds the ticket
abbrev pub seconds_from : {S : Type 0} → BusCalls S → ℕ → ℕ → S → S
seconds_from k t zero s = s
seconds_from k t (suc n) s =
    or_next k t (seconds_from k t n) (waited k t 1000000000 s)

-- a wait in vain for a ticket that is finished has made a turn, so the number of waits is never
-- used up
unfoldable pub waited_by_seconds : {S : Type 0} → BusCalls S → ℕ → S → S
waited_by_seconds k t s = seconds_from k t (suc (k.state s).turns_left) s

-- a wait for a ticket; after one in vain the ticket is discarded, and waited for by seconds
abbrev pub blocked : {S : Type 0} → BusCalls S → ℕ → ℕ → S → S
blocked k t timeout s =
    or_next k t (λ mid. waited_by_seconds k t (k.discarded mid t)) (waited k t timeout s)

-- a buffer becomes the next ticket, which is waited for and taken, at an endpoint with nothing pending
abbrev pub transferred : {S : Type 0} → BusCalls S → ℕ → S → EndpointState → BufferState → Polled S
transferred k timeout s e b =
    polled k (blocked k (length (tickets (k.state s).past)) timeout (entered k s e None b))
    (record e { pending = length (tickets (k.state s).past) ∷ [] })
