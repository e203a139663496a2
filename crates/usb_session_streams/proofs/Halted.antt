-- A reader behind the kernel's answer to the clearing of its endpoint's halt.
use Rattle.std.proofs.Common.{◌≡◌, ℕ, ◌-◌, arith, List, ◌++◌, append-nil, Result, Ok, Err, refl, ap, sym, ◌∙◌}
use Rattle.usb_kernel.specs.declared.event.Event.{Event}
use Rattle.usb_kernel.specs.Calls.{called}
use Rattle.usb_device_endpoint.specs.EndpointState.{EndpointState}
use Rattle.usb_device_host.specs.HostState.{HostState}
use Rattle.usb_device_host.specs.HostCalls.{host_halt_result}
use Rattle.usb_io.specs.Readers.{ReaderState}
use Rattle.usb_io.specs.Reads.{Reading, KeepsSettings, pending_of}
use Rattle.usb_io.specs.Following.{History, Follows}
use Rattle.usb_io.proofs.Following.{halting_follows}
use Rattle.usb_session_streams.specs.Numbers.{numbers_from}
use Rattle.usb_session_streams.specs.Framed.{ticket_count}
use Rattle.usb_session_streams.specs.ReaderCalls.{halt_left, halt_came}

-- what it keeps
pub halted-rest : (answer : Result (Unit {0}) ℕ) (r : ReaderState) → (halt_left answer r).endpoint ≡ r.endpoint
halted-rest (Ok done) r = refl
halted-rest (Err errno) r = refl

pub halted-settings : (answer : Result (Unit {0}) ℕ) (r : ReaderState) → KeepsSettings r (halt_left answer r)
halted-settings (Ok done) r = record { n = refl; size = refl; timeout = refl }
halted-settings (Err errno) r = record { n = refl; size = refl; timeout = refl }

pub halted-unread : (answer : Result (Unit {0}) ℕ) (r : ReaderState) → (halt_left answer r).unread ≡ r.unread
halted-unread (Ok done) r = refl
halted-unread (Err errno) r = refl

pub halted-follows : (answer : Result (Unit {0}) ℕ) (past : List Event) (r : ReaderState) (h : History) → Follows past r h → Follows past (halt_left answer r) h
halted-follows (Ok done) past r h f = halting_follows past r h f
halted-follows (Err errno) past r h f = f

-- no ticket came, and none was taken
pub halted-tickets : (w : Reading HostState) → pending_of w ++ numbers_from (ticket_count w) (ticket_count (halt_came w) - ticket_count w) ≡ pending_of (halt_came w)
unfolding called
halted-tickets w =
    let answer = host_halt_result w.bus w.reader.endpoint.device w.reader.endpoint.address in
    let none : ticket_count w - ticket_count w ≡ 0 = omega arith in
    ap (λ (n : ℕ). pending_of w ++ numbers_from (ticket_count w) n) none ∙ append-nil (pending_of w)
    ∙ sym (ap (λ (e : EndpointState). e.pending) (halted-rest answer w.reader))
