-- What calls on a framed reader, one that ends at each short packet, keep at a host.
use Rattle.std.specs.Prelude.{ℕ, ◌≡◌, ◌≤◌, ◌-◌, true, List, [], ◌++◌, length, map, Ok}
use Rattle.usb_kernel.specs.Tickets.{tickets}
use Rattle.usb_kernel.specs.Legal.{IsLawful}
use Rattle.usb_device_host.specs.HostState.{HostState}
use Rattle.usb_io.specs.Readers.{is_end}
use Rattle.usb_io.specs.Reads.{Reading, pending_of}
use Rattle.usb_io.specs.Streams.{Byte}
use Rattle.usb_io.specs.Following.{History, Follows}
use Rattle.usb_session_streams.specs.Numbers.{numbers_from}
use Rattle.usb_session_streams.specs.ReaderCalls.{ReaderCall, read_by, handed_by, is_framed, asks_some}

-- how many tickets there are
abbrev pub ticket_count : Reading HostState → ℕ
ticket_count w = length (tickets w.bus.kernel.past)

-- of the tickets that were pending and those that came, the first were taken and the others are pending; and with those that
-- were taken, and these bytes consumed, the reader follows its stream
pub record GoesOnToFollow (old new : Reading HostState) (h : History) (bytes : List ℕ) : Type 0 where
  pub taken : List ℕ
  pub came : pending_of old ++ numbers_from (ticket_count old) (ticket_count new - ticket_count old) ≡ taken ++ pending_of new
  pub follows : Follows new.bus.kernel.past new.reader (record { taken = h.taken ++ taken; consumed = h.consumed ++ map Byte bytes })

-- so it is where the reader's endpoint is an IN endpoint, the reader followed its stream before, and the journal is lawful
-- behind the call
abbrev pub KeepsToStream : Reading HostState → Reading HostState → List ℕ → Type 0
KeepsToStream old new bytes =
    128 ≤ old.reader.endpoint.address → IsLawful new.bus.kernel.past → (h : History) →
    Follows old.bus.kernel.past old.reader h → GoesOnToFollow old new h bytes

-- of each call that goes no further than a short packet, with the bytes that it hands over
abbrev pub FramedCallsFollow : Type 0
FramedCallsFollow =
    (call : ReaderCall) (w : Reading HostState) → is_framed call ≡ true →
    KeepsToStream w (read_by call w).left (handed_by call w)

-- and where it asks for a byte and gives none, it leaves an end that stands
abbrev pub EmptyCallsLeaveEnd : Type 0
EmptyCallsLeaveEnd =
    (call : ReaderCall) (w : Reading HostState) → is_framed call ≡ true → asks_some call ≡ true →
    (read_by call w).answer ≡ Ok [] → is_end (read_by call w).left.reader ≡ true
