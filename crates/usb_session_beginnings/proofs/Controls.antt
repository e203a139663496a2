-- Control transfers see no place of the kernel.
use Rattle.std.proofs.Common.{Bool, None, Option, Some, ap, false, length, refl, suc, true, zero, ℕ, ◌*◌, ◌+◌, ◌∙◌, ◌≡◌}
use Rattle.std.specs.Prelude.{if◌then◌else◌}
use Rattle.usb_device.specs.ControlCalls.{control_answered, controlled, request_awaited}
use Rattle.usb_device.specs.Futures.{FutureState, awaited_by, closed_by, fresh_future, future_answer, future_awaited, future_closed, future_taken, taken_by}
use Rattle.usb_device_endpoint.specs.Waits.{is_reaped, time_is_up}
use Rattle.usb_device_host.specs.Controls.{host_started, request_started}
use Rattle.usb_device_host.specs.HostAwaits.{awaited_from, host_awaited, host_turned_until}
use Rattle.usb_device_host.specs.HostCalls.{host_calls, host_idled, host_left}
use Rattle.usb_device_host.specs.HostState.{HostState}
use Rattle.usb_device_host.specs.HostTurns.{host_turn, host_turned}
use Rattle.usb_device_host.specs.TicketEnds.{host_abandoned, host_taken}
use Rattle.usb_kernel.specs.Tickets.{tickets}
use Rattle.usb_session_beginnings.proofs.Hosts.{IsBlind, abandoned-blind, bare, left-blind, taken-blind, turned-blind, unless-blind}
use Rattle.usb_xfer.specs.declared.transfer.TransferData.{TransferData}

pub started-blind : (device : ℕ) (request : TransferData) (timeout : ℕ) → IsBlind (λ h. request_started h device request timeout)
unfolding host_started
started-blind device request timeout h = refl

-- waits
until_if-blind : (h : HostState) (up : Bool) (deadline : ℕ)
    → (if up then host_idled (bare h) deadline else bare h) ≡ bare (if up then host_idled h deadline else h)
until_if-blind h true deadline = refl
until_if-blind h false deadline = refl

until-blind : (deadline : ℕ) → IsBlind (λ h. host_turned_until h deadline)
unfolding host_turn
until-blind deadline h =
    ap (λ g. if time_is_up (host_turn h) then host_idled g deadline else g) (turned-blind h)
    ∙ until_if-blind (host_turned h) (time_is_up (host_turn h)) deadline

awaited_from-blind : (t deadline n : ℕ) → IsBlind (awaited_from t deadline n)
awaited_from-blind t deadline zero h = refl
awaited_from-blind t deadline (suc n) h =
    unless-blind (is_reaped host_calls t h) h (λ h. awaited_from t deadline n (host_turned_until h deadline))
    (λ h. ap (awaited_from t deadline n) (until-blind deadline h) ∙ awaited_from-blind t deadline n (host_turned_until h deadline))

awaited-blind : (t deadline : ℕ) → IsBlind (λ h. host_awaited h t deadline)
unfolding host_awaited
awaited-blind t deadline h = awaited_from-blind t deadline (length h.steps + 2 * length (tickets h.kernel.past) + 2) h

-- futures
awaited_by-blind : (deadline : ℕ) (o : Option ℕ) → IsBlind (λ h. awaited_by h deadline o)
awaited_by-blind deadline None h = refl
awaited_by-blind deadline (Some t) h = awaited-blind t deadline h

pub future_awaited-blind : (f : FutureState) → IsBlind (λ h. future_awaited h f)
future_awaited-blind f = awaited_by-blind f.deadline f.ticket

taken_by-blind : (key : ℕ) (o : Option ℕ) → IsBlind (λ h. taken_by h key o)
taken_by-blind key None h = refl
taken_by-blind key (Some t) h = ap (λ g. host_left g key) (taken-blind t h) ∙ left-blind key (host_taken h t)

pub future_taken-blind : (f : FutureState) → IsBlind (λ h. future_taken h f)
future_taken-blind f = taken_by-blind f.key f.ticket

closed_by-blind : (key : ℕ) (o : Option ℕ) → IsBlind (λ h. closed_by h key o)
closed_by-blind key None h = refl
closed_by-blind key (Some t) h = ap (λ g. host_left g key) (abandoned-blind t h) ∙ left-blind key (host_abandoned h t)

pub future_closed-blind : (f : FutureState) → IsBlind (λ h. future_closed h f)
future_closed-blind f = closed_by-blind f.key f.ticket

-- transfers that are waited for
request_awaited-blind : (device : ℕ) (request : TransferData) (timeout : ℕ) → IsBlind (λ h. request_awaited h device request timeout)
request_awaited-blind device request timeout h =
    ap (λ g. future_awaited g (fresh_future h request timeout)) (started-blind device request timeout h)
    ∙ future_awaited-blind (fresh_future h request timeout) (request_started h device request timeout)

pub controlled-blind : (device : ℕ) (request : TransferData) (timeout : ℕ) → IsBlind (λ h. controlled h device request timeout)
controlled-blind device request timeout h =
    ap (λ g. future_taken g (fresh_future h request timeout)) (request_awaited-blind device request timeout h)
    ∙ future_taken-blind (fresh_future h request timeout) (request_awaited h device request timeout)

pub answered-blind : (h : HostState) (device : ℕ) (request : TransferData) (timeout : ℕ)
    → control_answered (bare h) device request timeout ≡ control_answered h device request timeout
answered-blind h device request timeout =
    ap (λ g. future_answer g (fresh_future h request timeout)) (request_awaited-blind device request timeout h)
