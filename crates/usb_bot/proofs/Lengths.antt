-- How long the transfers of a command are.
use Rattle.std.proofs.Common.{◌≡◌, ℕ, ◌<◌, ◌≤◌, ◌^◌, arith, List, [], length, Option, Some, None, Bool, true, false, cond, ap, subst}
use Rattle.std.specs.Option.{option_map}
use Rattle.usb_xfer.specs.BufferState.{BufferState}
use Rattle.usb_xfer.specs.declared.transfer.Completion.{Completion}
use Rattle.usb_kernel.specs.declared.event.Event.{Event}
use Rattle.usb_kernel.specs.declared.event.Body.{Body}
use Rattle.usb_kernel.specs.declared.event.Body.TheVariants.{Wanted, Sent}
use Rattle.usb_kernel.specs.Tickets.{Ticket}
use Rattle.usb_kernel.specs.Fates.{Fate, count_for, received}
use Rattle.usb_kernel.specs.Journal.{fate}
use Rattle.usb_kernel.specs.Completions.{buffer_for, done_of, finished, completion_if, completion}
use Rattle.usb_kernel.specs.TransferCompletions.{completion_of, transfer_completion}
use Rattle.usb_device_endpoint.specs.BusCalls.{BusCalls}
use Rattle.usb_device_endpoint.specs.EndpointState.{EndpointState}
use Rattle.usb_device_endpoint.specs.Waits.{front_found, taken_if}
use Rattle.usb_device_endpoint.specs.Blocking.{transferred}
use Rattle.usb_bot.specs.Commands.{status_length}

-- 13 bytes in whole packets are few
pub status_small : (maximum : ℕ) → 0 < maximum → maximum < 2 ^ 11 → status_length maximum < 2 ^ 31
status_small maximum some small = grind arith

-- no more bytes went over than the buffer has
abbrev CountsWithin : Option Completion → Type 0
CountsWithin None = Unit {0}
CountsWithin (Some c) = c.actual_len ≤ length c.buffer.bytes

counted : (body : Body) (m room : ℕ) (got : List ℕ) (acks : ℕ) → count_for body m got acks ≤ length (buffer_for body room got).bytes
counted (Wanted n) m room got acks = omega arith
counted (Sent bytes) m room got acks = omega arith

finished-within : (t : ℕ) (s : Ticket) (f : Fate) (errno : Option ℕ) → CountsWithin (option_map completion_of (option_map (λ errno. done_of t s f errno) errno))
finished-within t s f None = tt
finished-within t s f (Some errno) = counted s.body s.maximum s.capacity (received f) f.acks

reaped-within : (t : ℕ) (s : Ticket) (f : Fate) (reaped : Bool) → CountsWithin (option_map completion_of (cond reaped (finished t s f) None))
reaped-within t s f true = finished-within t s f f.status
reaped-within t s f false = tt

ticket-within : (t : ℕ) (s : Option Ticket) (f : Fate) → CountsWithin (option_map completion_of (completion_if t s f))
ticket-within t None f = tt
ticket-within t (Some s) f = reaped-within t s f f.reaped

completion-within : (past : List Event) (t : ℕ) → CountsWithin (transfer_completion past t)
unfolding transfer_completion completion
completion-within past t = ticket-within t _ (fate past t)

taken-within : {S : Type 0} (k : BusCalls S) (s : S) (e : EndpointState) (t : ℕ) (others : List ℕ) (o : Option Completion) → CountsWithin o → CountsWithin (taken_if k s e t others o).completion
taken-within k s e t others None within = tt
taken-within k s e t others (Some c) within = within

-- so it is of a blocking transfer
pub transferred-within : {S : Type 0} (k : BusCalls S) (timeout : ℕ) (s : S) (e : EndpointState) (b : BufferState) (c : Completion) (s' : S) (e' : EndpointState) → transferred k timeout s e b ≡ front_found (Some c) s' e' → c.actual_len ≤ length c.buffer.bytes
transferred-within k timeout s e b c s' e' is =
    subst CountsWithin (ap (λ p. p.completion) is) (taken-within k _ _ _ [] _ (completion-within _ _))
