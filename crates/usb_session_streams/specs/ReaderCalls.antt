-- The calls on a reader at a host as values, and what each keeps.
use Rattle.std.specs.Prelude.{ℕ, ◌≡◌, Bool, true, false, List, [], Result, Ok, Err, nat_le}
use Rattle.usb_kernel.specs.Extends.{Extends}
use Rattle.usb_device_host.specs.HostState.{HostState}
use Rattle.usb_device_host.specs.HostBus.{key_at}
use Rattle.usb_device_host.specs.HostCalls.{host_halt_result, host_halt_cleared, host_calls}
use Rattle.usb_device_host.specs.HostFrames.{LineGoesOn}
use Rattle.usb_io.specs.Answered.{answered}
use Rattle.usb_io.specs.Readers.{ReaderState, without_error}
use Rattle.usb_io.specs.Reads.{Reading, reading, KeepsSettings, pending_of, filled_to}
use Rattle.usb_io.specs.Answers.{Read as ReadAnswer, fill_came, read_came}
use Rattle.usb_io.specs.declared.fault.ReadFault.{ReadFault}
use Rattle.usb_session_streams.specs.Accounts.{KeepsAccountsOf}

-- a reader behind the kernel's answer to the clearing of its endpoint's halt: the error that lasted
-- is gone, or, where the kernel refused, nothing has changed
abbrev pub halt_left : Result (Unit {0}) ℕ → ReaderState → ReaderState
halt_left (Ok done) r = without_error r
halt_left (Err errno) r = r

-- the host that was asked for it, and the reader
abbrev pub halt_came : Reading HostState → Reading HostState
halt_came w =
    let e = w.reader.endpoint in
    reading (host_halt_cleared w.bus e.device e.address) (halt_left (host_halt_result w.bus e.device e.address) w.reader)

-- a call that lends the bytes that stand, and a read of at most so many: of the reader, or until a short packet, with a timeout in
-- nanoseconds; submissions until so many are pending; and the clearing of the halt of the endpoint
pub data ReaderCall : Type 0 where
  Fill : (until_short : Bool) (timeout : ℕ) → ReaderCall
  Read : (until_short : Bool) (timeout most : ℕ) → ReaderCall
  Submit : (goal : ℕ) → ReaderCall
  ClearHalt : ReaderCall

-- the bytes that it answers, or the fault, and what it leaves
abbrev pub read_by : ReaderCall → Reading HostState → ReadAnswer HostState
read_by (Fill until_short timeout) w = fill_came host_calls until_short timeout w
read_by (Read until_short timeout most) w = read_came host_calls until_short timeout most w
read_by (Submit goal) w = answered (Ok []) (filled_to host_calls goal w)
read_by ClearHalt w = answered (Ok []) (halt_came w)

-- the bytes that an answer gives
abbrev pub given_by : Result (List ℕ) ReadFault → List ℕ
given_by (Ok bytes) = bytes
given_by (Err fault) = []

-- those that a call hands over: only a read does
abbrev pub handed_by : ReaderCall → Reading HostState → List ℕ
handed_by (Fill until_short timeout) w = []
handed_by (Read until_short timeout most) w = given_by (read_came host_calls until_short timeout most w).answer
handed_by (Submit goal) w = []
handed_by ClearHalt w = []

-- whether it goes no further than a short packet
abbrev pub is_framed : ReaderCall → Bool
is_framed (Fill until_short timeout) = until_short
is_framed (Read until_short timeout most) = until_short
is_framed (Submit goal) = true
is_framed ClearHalt = true

-- whether it asks for a byte
abbrev pub asks_some : ReaderCall → Bool
asks_some (Fill until_short timeout) = true
asks_some (Read until_short timeout most) = nat_le 1 most
asks_some (Submit goal) = false
asks_some ClearHalt = false

-- steps were taken from the front of the line alone, and what is open stays open; the journal went
-- on; the reader has the same endpoint, with other tickets pending, and the same settings; and while
-- that is open the accounts are kept
pub record ReaderGoesOn (old new : Reading HostState) : Type 0 where
  pub line : LineGoesOn old.bus new.bus
  pub past : Extends old.bus.kernel.past new.bus.kernel.past
  pub endpoint : new.reader.endpoint
      ≡ record old.reader.endpoint { pending = new.reader.endpoint.pending }
  pub settings : KeepsSettings old.reader new.reader
  pub accounts : key_at old.bus.endpoints old.reader.endpoint.key ≡ true →
      KeepsAccountsOf old.bus new.bus old.reader.endpoint.key (pending_of old) (pending_of new)

-- so it is with each call
abbrev pub ReaderCallsGoOn : Type 0
ReaderCallsGoOn = (call : ReaderCall) (w : Reading HostState) → ReaderGoesOn w (read_by call w).left
