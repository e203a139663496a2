-- Calls on an open device. They are barred where it is not open. The host is what the call left, whatever it answers.
use Rattle.std.specs.Prelude.{ℕ, List, Result, Ok, Err}
use Rattle.usb_desc.specs.Fields.{configuration_value}
use Rattle.usb_error.specs.declared.active.ActiveConfigurationError.{ActiveConfigurationError}
use Rattle.usb_device_host.specs.HostState.{HostState}
use Rattle.usb_device_host.specs.EndpointOpens.{as_asked, host_asked}
use Rattle.usb_device_host.specs.OnDevices.{active_of, speed_tried, host_speed_asked, set_configuration_tried, host_configured, reset_tried, host_reset, detach_tried, host_detached, attach_tried, host_attached}
use Rattle.usb_session_text.specs.Calls.{result_line}
use Rattle.usb_session_text.specs.Descriptors.{descriptors_line}
use Rattle.usb_session_text.specs.Devices.{device_line}
use Rattle.usb_session_text.specs.Settings.{configuration_line, no_configuration_line, speed_line}
use Rattle.usb_session_calls.specs.declared.call.DeviceCall.{DeviceCall}
use Rattle.usb_session_calls.specs.declared.call.DeviceCall.TheVariants.{Descriptor, Descriptors, ActiveConfiguration, Speed, SetConfiguration, Reset, DetachDriver, AttachDriver}
use Rattle.usb_session_calls.specs.State.{State}
use Rattle.usb_session_calls.specs.OpenAt.{DeviceAt, device_at}
use Rattle.usb_session_calls.specs.Answer.{Answer, HostAnswer, left, at_host, condition_answer, if_open}

-- the value of the active configuration, or why there is none
abbrev pub active_line : Result (List ℕ) ActiveConfigurationError → List ℕ
active_line (Ok configuration) = configuration_line (configuration_value configuration)
active_line (Err error) = no_configuration_line error

-- each call at a device that is open (x)
abbrev pub device_called : DeviceCall → HostState → DeviceAt → HostAnswer
device_called Descriptor h x = left h (device_line x.opened.device_descriptor)
device_called Descriptors h x = left h (descriptors_line x.opened.descriptors)
device_called ActiveConfiguration h x = left (host_asked h x.key) (active_line (active_of (as_asked h.kernel x.opened)))
device_called Speed h x = left (host_speed_asked h x.key) (speed_line (speed_tried h x.opened))
device_called (SetConfiguration value) h x = left (host_configured h x.key value) (result_line (set_configuration_tried h x.opened value))
device_called Reset h x = left (host_reset h x.key) (result_line (reset_tried h x.opened))
device_called (DetachDriver number) h x = left (host_detached h x.key number) (result_line (detach_tried h x.opened number))
device_called (AttachDriver number) h x = left (host_attached h x.key number) (result_line (attach_tried h x.opened number))

-- by the device's name
unfoldable pub on_device : State → ℕ → DeviceCall → Answer
on_device state d call = if_open (device_at state d) (λ x. at_host state (device_called call state.host x)) (condition_answer state)

-- how many places of the kernel a call may use
abbrev pub device_places : DeviceCall → ℕ
device_places Reset = 1
device_places call = 0
