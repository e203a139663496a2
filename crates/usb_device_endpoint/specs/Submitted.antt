-- What a submission does to a bus.
use Rattle.std.specs.Prelude.{ℕ, ◌≡◌, ◌∷◌, length, Option, Some, None, IfSome}
use Rattle.usb_xfer.specs.BufferState.{BufferState}
use Rattle.usb_xfer.specs.declared.transfer.Held.{Held}
use Rattle.usb_xfer.specs.Transfers.{buffer_held}
use Rattle.usb_kernel.specs.Tickets.{tickets}
use Rattle.usb_kernel.specs.Submits.{submit_or_refuse}
use Rattle.usb_kernel_devices.specs.Errnos.{IsErrno}
use Rattle.usb_device_endpoint.specs.declared.route.Route.{Route}
use Rattle.usb_device_endpoint.specs.Routes.{submission_of}
use Rattle.usb_device_endpoint.specs.BusState.{BusState, with_owner}

-- a buffer became the next ticket, with this deadline or none where it was not refused with this errno. The endpoint of the
-- route's key holds it
pub record Entered (old new : BusState) (to : Route) (deadline : Option ℕ) (b : BufferState) (refusal : Option ℕ) : Type 0 where
  pub past : new.past ≡ submit_or_refuse (length (tickets old.past)) (submission_of to deadline b) refusal ∷ old.past
  pub clock : new.clock ≡ old.clock
  pub owner : new.owner ≡ with_owner old.owner (length (tickets old.past)) to.key
  pub keys : new.keys ≡ old.keys
  pub errno : IfSome refusal IsErrno

-- the buffer of a transfer was submitted, with a deadline or none, or refused by the kernel
abbrev pub IsSubmitted : BusState → BusState → Route → Option ℕ → Held → Type 0
IsSubmitted old new to deadline held = (b : BufferState) → buffer_held held ≡ Some b → (refusal : Option ℕ) × Entered old new to deadline b refusal

-- it was refused with this errno
abbrev pub IsRefused : BusState → BusState → Route → Held → ℕ → Type 0
IsRefused old new to held errno = (b : BufferState) → buffer_held held ≡ Some b → Entered old new to None b (Some errno)
