-- Control transfers on their way at a host.
use Rattle.std.specs.Prelude.{ℕ, ◌≡◌, true, false, List, [], length, Option, Some, None, Result, Ok, Err, option_and_then}
use Rattle.std.specs.Option.{ForSome, option_map}
use Rattle.usb_desc.specs.Fields.{direction_of_address}
use Rattle.usb_desc.specs.declared.types.Direction.{Direction}
use Rattle.usb_desc.specs.declared.types.Direction.TheVariants.{Out, In}
use Rattle.usb_xfer.specs.declared.error.TransferError.{TransferError}
use Rattle.usb_xfer.specs.declared.transfer.Completion.{Completion}
use Rattle.usb_kernel.specs.Tickets.{tickets}
use Rattle.usb_kernel.specs.TransferCompletions.{transfer_completion}
use Rattle.usb_xfer.specs.declared.transfer.TransferData.{TransferData}
use Rattle.usb_device_endpoint.specs.Waits.{is_reaped}
use Rattle.usb_device_host.specs.HostState.{HostState}
use Rattle.usb_device_host.specs.HostBus.{owner_at, key_at}
use Rattle.usb_device_host.specs.HostCalls.{host_left, host_calls}
use Rattle.usb_device_host.specs.HostAwaits.{deadline_of, host_awaited}
use Rattle.usb_device_host.specs.TicketEnds.{host_taken, host_abandoned}
use Rattle.usb_kernel.specs.Timers.{deadline_after}

-- a future: the key of its control endpoint, the ticket that this holds, or nothing once a poll has
-- taken it, the ticket's deadline, and where the data go
pub record FutureState : Type 0 where
  pub key : ℕ
  pub ticket : Option ℕ
  pub deadline : ℕ
  pub direction : Direction

-- its ticket is on its way: its endpoint is open and holds it, and while it is not reaped its
-- deadline is this one (a refused ticket is reaped at once)
pub record IsOnItsWay (h : HostState) (f : FutureState) (t : ℕ) : Type 0 where
  pub key_is_open : key_at h.endpoints f.key ≡ true
  pub held : owner_at h.tickets t ≡ Some f.key
  pub due : is_reaped host_calls t h ≡ false → deadline_of h.kernel.past t ≡ Some f.deadline

-- a future stands where its ticket, if it has one still, is on its way
pub record StandsFuture (h : HostState) (f : FutureState) : Type 0 where
  pub on_its_way : ForSome f.ticket (IsOnItsWay h f)

-- that of a control transfer that is handed in now
abbrev pub fresh_future : HostState → TransferData → ℕ → FutureState
fresh_future h request timeout =
    record {
      key = length h.endpoints;
      ticket = Some (length (tickets h.kernel.past));
      deadline = deadline_after h.kernel.clock timeout;
      direction = direction_of_address request.endpoint;
    }

-- one that has given its answer
abbrev pub spent_future : FutureState → FutureState
spent_future f = record f { ticket = None }

-- its completion was taken, and its endpoint is closed
abbrev pub taken_by : HostState → ℕ → Option ℕ → HostState
taken_by h key None = h
taken_by h key (Some t) = host_left (host_taken h t) key

abbrev pub future_taken : HostState → FutureState → HostState
future_taken h f = taken_by h f.key f.ticket

-- it was closed: its ticket is given up, and its endpoint is closed. Nothing is discarded
abbrev pub closed_by : HostState → ℕ → Option ℕ → HostState
closed_by h key None = h
closed_by h key (Some t) = host_left (host_abandoned h t) key

abbrev pub future_closed : HostState → FutureState → HostState
future_closed h f = closed_by h f.key f.ticket

-- a wait went on until its completion was there
abbrev pub awaited_by : HostState → ℕ → Option ℕ → HostState
awaited_by h deadline None = h
awaited_by h deadline (Some t) = host_awaited h t deadline

abbrev pub future_awaited : HostState → FutureState → HostState
future_awaited h f = awaited_by h f.deadline f.ticket

-- the bytes that came, and none where bytes were sent
abbrev pub bytes_received : Direction → List ℕ → List ℕ
bytes_received In bytes = bytes
bytes_received Out bytes = []

-- what a completion answers: by its status, these bytes or why it failed
abbrev pub answer_by : Result (Unit {0}) TransferError → List ℕ → Result (List ℕ) TransferError
answer_by (Ok done) bytes = Ok bytes
answer_by (Err error) bytes = Err error

abbrev pub control_answer : Direction → Completion → Result (List ℕ) TransferError
control_answer direction c = answer_by c.status (bytes_received direction c.buffer.bytes)

-- what a future answers, once its ticket is reaped
abbrev pub future_answer : HostState → FutureState → Option (Result (List ℕ) TransferError)
future_answer h f =
    option_map (control_answer f.direction)
    (option_and_then (transfer_completion h.kernel.past) f.ticket)
