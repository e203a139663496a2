-- What calls on a reader hand over of the transfers that they take, at a host.
use Rattle.std.specs.Prelude.{ℕ, ◌≡◌, ◌-◌, List, ◌++◌, All, IsSome}
use Rattle.std.specs.List.{flat_map}
use Rattle.std.specs.Option.{option_map}
use Rattle.usb_xfer.specs.declared.transfer.Completion.{Completion}
use Rattle.usb_kernel.specs.declared.event.Event.{Event}
use Rattle.usb_kernel.specs.TransferCompletions.{transfer_completion}
use Rattle.usb_device_host.specs.HostState.{HostState}
use Rattle.usb_io.specs.Readers.{bytes_in}
use Rattle.usb_io.specs.Reads.{Reading, pending_of}
use Rattle.usb_session_streams.specs.Numbers.{numbers_from}
use Rattle.usb_session_streams.specs.Framed.{ticket_count}
use Rattle.usb_session_streams.specs.ReaderCalls.{ReaderCall, read_by, handed_by}

-- the bytes of the completions that a journal has of these tickets, joined
abbrev pub completed_bytes : List Event → List ℕ → List ℕ
completed_bytes past ts =
    flat_map (λ t. bytes_in (option_map (λ (c : Completion). c.buffer) (transfer_completion past t))) ts

-- of the tickets that were pending and those that came, the first were taken, each with its
-- completion, and the others are pending. What was unread, and then the bytes of these
-- completions, is what was handed over, and then what is unread
pub record HandsOver (old new : Reading HostState) (given : List ℕ) : Type 0 where
  pub taken : List ℕ
  pub tickets : pending_of old ++ numbers_from (ticket_count old) (ticket_count new - ticket_count old)
      ≡ taken ++ pending_of new
  pub complete : All (λ t. IsSome (transfer_completion new.bus.kernel.past t)) taken
  pub bytes : old.reader.unread ++ completed_bytes new.bus.kernel.past taken ≡ given ++ new.reader.unread

-- so it is of each call
abbrev pub CallsHandOver : Type 0
CallsHandOver = (call : ReaderCall) (w : Reading HostState) → HandsOver w (read_by call w).left (handed_by call w)
