-- A host stays bounded over control transfers.
use Rattle.std.proofs.Common.{ℕ, ◌≤◌, Option, Some, None}
use Rattle.usb_xfer.specs.Transfers.{data_held}
use Rattle.usb_xfer.specs.declared.transfer.TransferData.{TransferData}
use Rattle.usb_device_host.specs.HostState.{HostState}
use Rattle.usb_device_host.specs.Controls.{request_started}
use Rattle.usb_device_host.specs.TicketEnds.{host_taken, host_abandoned}
use Rattle.usb_device.specs.Futures.{FutureState, taken_by, closed_by, awaited_by, fresh_future, future_taken, future_closed, future_awaited}
use Rattle.usb_device.specs.ControlCalls.{controlled}
use Rattle.usb_session_sizes.proofs.Journals.{IsBufferSized}
use Rattle.usb_session_sizes.proofs.Hosts.{StaysBounded, taken-bounded, abandoned-bounded, left-bounded, awaited-bounded, started-bounded}

taken_by-bounded : (h : HostState) (key : ℕ) (o : Option ℕ) → StaysBounded h (taken_by h key o)
taken_by-bounded h key None is = is
taken_by-bounded h key (Some t) is = left-bounded (host_taken h t) key (taken-bounded h t is)

closed_by-bounded : (h : HostState) (key : ℕ) (o : Option ℕ) → StaysBounded h (closed_by h key o)
closed_by-bounded h key None is = is
closed_by-bounded h key (Some t) is = left-bounded (host_abandoned h t) key (abandoned-bounded h t is)

awaited_by-bounded : (h : HostState) (deadline : ℕ) (o : Option ℕ) → StaysBounded h (awaited_by h deadline o)
awaited_by-bounded h deadline None is = is
awaited_by-bounded h deadline (Some t) is = awaited-bounded h t deadline is

pub future_taken-bounded : (h : HostState) (f : FutureState) → StaysBounded h (future_taken h f)
future_taken-bounded h f = taken_by-bounded h f.key f.ticket

pub future_closed-bounded : (h : HostState) (f : FutureState) → StaysBounded h (future_closed h f)
future_closed-bounded h f = closed_by-bounded h f.key f.ticket

pub future_awaited-bounded : (h : HostState) (f : FutureState) → StaysBounded h (future_awaited h f)
future_awaited-bounded h f = awaited_by-bounded h f.deadline f.ticket

pub controlled-bounded : (h : HostState) (device : ℕ) (request : TransferData) (timeout : ℕ) → (data_held request.held).requested ≤ 65536 → IsBufferSized (data_held request.held) → StaysBounded h (controlled h device request timeout)
controlled-bounded h device request timeout maximum sized is =
    let f = fresh_future h request timeout in
    let started = request_started h device request timeout in
    future_taken-bounded (future_awaited started f) f (future_awaited-bounded started f (started-bounded h device request timeout maximum sized is))
