-- A control transfer of a device or of an interface that a session has open under a name.
use Rattle.std.specs.Prelude.{ℕ, ◌≡◌, ◌-◌, true, List, ◌++◌, length, Option, Some, None, Result, Ok, Err, OnOk, String, string_bytes, option_and_then, if◌then◌else◌}
use Rattle.std.specs.Option.{option_map}
use Rattle.std.specs.declared.alloc.Global.{Global}
use Rattle.usb_desc.specs.declared.error.Fail.{Fail}
use Rattle.usb_desc.specs.declared.error.Fail.TheVariants.{Cause}
use Rattle.usb_device_tables.specs.History.{value_at}
use Rattle.usb_kernel_devices.specs.declared.step.KernelStep.{KernelStep}
use Rattle.usb_kernel.specs.Extends.{Extends}
use Rattle.usb_device_endpoint.specs.EndpointState.{EndpointState}
use Rattle.usb_device_endpoint.specs.Handles.{Stands}
use Rattle.usb_device_ledger.specs.declared.opened.OpenDevice.{OpenDevice}
use Rattle.usb_device_ledger.specs.Entries.{ClaimedInterface}
use Rattle.usb_xfer.specs.declared.transfer.TransferData.{TransferData}
use Rattle.usb_device_host.specs.HostState.{HostState}
use Rattle.usb_device_host.specs.HostBus.{bus_of, key_at}
use Rattle.usb_device_host.specs.HostFrames.{ClaimsGoOn}
use Rattle.usb_device_host.specs.Controls.{request_started}
use Rattle.usb_device_host.specs.HandleStates.{InterfaceState, StandsDevice, StandsInterface}
use Rattle.usb_device.specs.Futures.{FutureState, fresh_future}
use Rattle.usb_script_words.specs.declared.control.ControlTarget.{ControlTarget}
use Rattle.usb_script_words.specs.declared.control.ControlTarget.TheVariants.{Device, Interface}
use Rattle.usb_session_text.specs.Calls.{condition_line}
use Rattle.usb_session_streams.specs.Accounts.{KeepsAccounts}
use Rattle.usb_session_calls.specs.Names.{named}
use Rattle.usb_session_calls.specs.Controls.{bars_control}

-- each handle that is open under a name stands in the host
abbrev pub DevicesStand : HostState → List (Option ℕ) → Type 0
DevicesStand h devices = (d key : ℕ) → named devices d ≡ Some key → StandsDevice h key

abbrev pub InterfacesStand : HostState → List (Option InterfaceState) → Type 0
InterfacesStand h interfaces = (i : ℕ) (f : InterfaceState) → named interfaces i ≡ Some f → StandsInterface h f

-- the kernel's number of the device that is open under this name, or whose interface is
abbrev pub number_of_target : HostState → List (Option ℕ) → List (Option InterfaceState) → ControlTarget → Option ℕ
number_of_target h devices interfaces (Device d) =
    option_map (λ (o : OpenDevice). o.device) (option_and_then (λ key. value_at h.devices key) (named devices d))
number_of_target h devices interfaces (Interface i) =
    option_map (λ (c : ClaimedInterface). c.device) (option_and_then (λ (f : InterfaceState). value_at h.interfaces f.key) (named interfaces i))

-- steps are taken from the front of the line alone, each of which used a place of the kernel; the journal goes on, what stands
-- stays, no endpoint is open that wasn't open before, and the accounts are kept
pub record KeepsHandles (old new : HostState) : Type 0 where
  pub front : List KernelStep
  pub steps : old.steps ≡ front ++ new.steps
  pub spare : new.kernel.spare ≡ old.kernel.spare - length front
  pub devices : new.devices ≡ old.devices
  pub interfaces : ClaimsGoOn old.interfaces new.interfaces
  pub past : Extends old.kernel.past new.kernel.past
  pub stands : (h : EndpointState) → Stands (bus_of old) h → Stands (bus_of new) h
  pub opened : (key : ℕ) → key_at new.endpoints key ≡ true → key_at old.endpoints key ≡ true
  pub accounts : KeepsAccounts old new

-- the host behind a call on the device of a number, where it is open and the call is not barred
abbrev pub called_host : (HostState → ℕ → HostState) → HostState → Option ℕ → HostState
called_host after h None = h
called_host after h (Some device) = if bars_control h.kernel.past then h else after h device

-- and what is printed
abbrev pub called_line : (HostState → ℕ → List ℕ) → HostState → Option ℕ → List ℕ
called_line print h None = condition_line
called_line print h (Some device) = if bars_control h.kernel.past then condition_line else print h device

pub record TargetAnswered (old new : HostState) (before text : List ℕ) (after : HostState → ℕ → HostState) (print : HostState → ℕ → List ℕ) (number : Option ℕ) : Type 0 where
  pub host : new ≡ called_host after old number
  pub line : text ≡ before ++ called_line print old number

-- so it was called, where memory was not wanting
abbrev pub TargetAnswers : {E : Type 0} → HostState → HostState → String Global → String Global → Result Unit E → (HostState → ℕ → HostState) → (HostState → ℕ → List ℕ) → Option ℕ → Type 0
TargetAnswers old new before text result after print number =
    OnOk result (TargetAnswered old new (string_bytes before) (string_bytes text) after print number)

-- an answer, as of a call that may lack memory
abbrev pub as_tried : {A E : Type 0} → Result A E → Result A (Fail E)
as_tried (Ok x) = Ok x
as_tried (Err error) = Err (Cause error)

-- the host once a request was handed in to the device of a number, where there is one
abbrev pub started_host : HostState → TransferData → ℕ → Option ℕ → HostState
started_host h request timeout None = h
started_host h request timeout (Some device) = request_started h device request timeout

-- and its future
abbrev pub started_future : HostState → TransferData → ℕ → Option ℕ → Option FutureState
started_future h request timeout number = option_map (λ device. fresh_future h request timeout) number
