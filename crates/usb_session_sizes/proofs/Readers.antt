-- A host and a reader stay bounded over the reader's calls.
use Rattle.std.proofs.Common.{ℕ, ◌≤◌, arith, Bool, false, None, Result, Ok, Err}
use Rattle.usb_device_host.specs.HostState.{HostState}
use Rattle.usb_device_host.specs.HostCalls.{host_calls, host_halt_result}
use Rattle.usb_io.specs.Answers.{fill_came, read_came}
use Rattle.usb_io.specs.Reads.{Reading, submit_one, filled_to}
use Rattle.usb_io.specs.Readers.{ReaderState, fresh_buffer}
use Rattle.usb_io.proofs.ReadKeeps.{Keeps, KeepsRead, fill-keeps, read-keeps, filled-keeps}
use Rattle.usb_session_streams.specs.ReaderCalls.{halt_left, halt_came}
use Rattle.usb_session_sizes.proofs.Hosts.{IsHostBounded, entered-bounded, waited-bounded, taken-bounded, halt-bounded}
use Rattle.usb_session_sizes.proofs.Sizes.{small-size}

-- a reader of an endpoint whose packets have fewer than 2048 bytes, with transfers of a size that a trace tells
abbrev pub IsReaderSized : ReaderState → Type 0
IsReaderSized r = (r.endpoint.maximum ≤ 2047) × (r.size ≤ 67582)

-- with a bounded host
abbrev pub IsReadingBounded : Reading HostState → Type 0
IsReadingBounded w = IsHostBounded w.bus × IsReaderSized w.reader

one-bounded : (w : Reading HostState) → IsReadingBounded w → IsReadingBounded (submit_one host_calls w)
one-bounded w is =
    (entered-bounded w.bus w.reader.endpoint None (fresh_buffer w.reader.size) (small-size w.reader.endpoint.maximum is.1.0) (record { requested = is.1.1; bytes = omega arith }) is.0, is.1)

bounded-kept : (us : Bool) (timeout : ℕ) → Keeps host_calls us timeout IsReadingBounded
bounded-kept us timeout = record {
  submission = one-bounded;
  end = λ w goes is. (is.0, is.1);
  wait = λ w front others was is. (waited-bounded w.bus front timeout is.0, is.1);
  taking = λ w front others c was goes come is. (taken-bounded w.bus front is.0, is.1);
}

read-kept : KeepsRead IsReadingBounded
read-kept w n is = (is.0, is.1)

-- calls that lend bytes, reads and submissions
pub fill-bounded : (us : Bool) (timeout : ℕ) (w : Reading HostState) → IsReadingBounded w → IsReadingBounded (fill_came host_calls us timeout w).left
fill-bounded us timeout w is = fill-keeps host_calls us timeout IsReadingBounded (bounded-kept us timeout) w is

pub read-bounded : (us : Bool) (timeout most : ℕ) (w : Reading HostState) → IsReadingBounded w → IsReadingBounded (read_came host_calls us timeout most w).left
read-bounded us timeout most w is = read-keeps host_calls us timeout IsReadingBounded (bounded-kept us timeout) most w read-kept is

pub filled-bounded : (goal : ℕ) (w : Reading HostState) → IsReadingBounded w → IsReadingBounded (filled_to host_calls goal w)
filled-bounded goal w is = filled-keeps host_calls false 0 IsReadingBounded (bounded-kept false 0) goal w is

-- and the clearing of a halt
left-sized : (answer : Result (Unit {0}) ℕ) (r : ReaderState) → IsReaderSized r → IsReaderSized (halt_left answer r)
left-sized (Ok done) r is = is
left-sized (Err errno) r is = is

pub halted-bounded : (w : Reading HostState) → IsReadingBounded w → IsReadingBounded (halt_came w)
halted-bounded w is =
    let e = w.reader.endpoint in
    (halt-bounded w.bus e.device e.address is.0, left-sized (host_halt_result w.bus e.device e.address) w.reader is.1)
