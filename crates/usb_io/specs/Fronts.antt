-- How a writer takes the fronts of its queue, on any bus.
use Rattle.std.specs.Prelude.{ℕ, Bool, true, false, List, [], ◌∷◌, length, Option, Some, None, Ok, Err, is_none, nat_le, nat_lt, ◌&&◌}
use Rattle.usb_xfer.specs.declared.transfer.Completion.{Completion}
use Rattle.usb_device_endpoint.specs.BusCalls.{BusCalls}
use Rattle.usb_device_endpoint.specs.EndpointState.{EndpointState}
use Rattle.usb_device_endpoint.specs.Waits.{Polled, wait_next}
use Rattle.usb_io.specs.declared.fault.WriteFault.{WriteFault}
use Rattle.usb_io.specs.declared.fault.WriteFault.TheVariants.{Transfer, TimedOut}
use Rattle.usb_io.specs.declared.fronts.Taken.{Taken}
use Rattle.usb_io.specs.declared.fronts.Taken.TheVariants.{Took, NotCome}
use Rattle.usb_io.specs.Answered.{Answered, answered}
use Rattle.usb_io.specs.Writers.{WriterState, Writing, writing, with_taken}

-- a wait took the front, or was in vain
abbrev pub front_kept : {S : Type 0} → WriterState → S → EndpointState → Option Completion → Taken × Writing S
front_kept w bus endpoint None = (NotCome, writing bus (record w { endpoint = endpoint }))
front_kept w bus endpoint (Some c) = (Took c.status, writing bus (with_taken c endpoint.pending (record w { endpoint = endpoint })))

abbrev pub wait_kept : {S : Type 0} → WriterState → Polled S → Taken × Writing S
wait_kept w p = front_kept w p.bus p.endpoint p.completion

-- a wait for the front
abbrev pub taken_once : {S : Type 0} → BusCalls S → ℕ → Writing S → Taken × Writing S
taken_once k timeout w = wait_kept w.writer (wait_next k timeout w.bus w.writer.endpoint)

-- whether fronts are to be taken: by a flushing call while any is pending, by a write while no
-- buffer stands and at least as many as are to be are pending
abbrev pub waits_on : Bool → WriterState → Bool
waits_on true w = nat_lt 0 (length w.endpoint.pending)
waits_on false w = is_none w.buffer && nat_le w.n (length w.endpoint.pending)

-- what calls answer that take fronts, which give nothing
abbrev pub Drained : Type 0 → Type 0
Drained S = Answered (Unit {0}) WriteFault (Writing S)

-- a front that went well was taken, and the call goes on (further); else that is the answer
abbrev pub after_front : {S : Type 0} → Taken → Writing S → (Writing S → Drained S) → Drained S
after_front (Took (Ok u)) w further = further w
after_front (Took (Err e)) w further = answered (Err (Transfer e)) w
after_front NotCome w further = answered (Err TimedOut) w

-- a front is taken, where any is to be. (It is computed only where it is)
abbrev pub drained_if : {S : Type 0} → Bool → (Writing S → Drained S) → Writing S → Drained S
drained_if false next w = answered (Ok tt) w
drained_if true next w = next w

-- front after front of these, which are pending
abbrev pub drained_of : {S : Type 0} → BusCalls S → Bool → ℕ → List ℕ → Writing S → Drained S
drained_of k flushing timeout [] w = answered (Ok tt) w
drained_of k flushing timeout (front ∷ others) w =
    drained_if (waits_on flushing w.writer)
    (λ w. after_front (taken_once k timeout w).0 (taken_once k timeout w).1 (drained_of k flushing timeout others)) w

-- fronts are taken while any are to be, until one fails or is not there: by a flushing call, or by a
-- write, with a timeout in nanoseconds. A poll is one with no time, and is pending where this
-- answers `TimedOut`
unfoldable pub drained : {S : Type 0} → BusCalls S → Bool → ℕ → Writing S → Drained S
drained k flushing timeout w = drained_of k flushing timeout w.writer.endpoint.pending w
