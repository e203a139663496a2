-- Calls on a claimed interface. They are barred where it is not open. The host is what the call left, whatever it answers.
use Rattle.std.specs.Prelude.{ℕ}
use Rattle.usb_device_host.specs.HostState.{HostState}
use Rattle.usb_device_host.specs.EndpointOpens.{host_asked}
use Rattle.usb_device_host.specs.OnInterfaces.{alt_setting_tried, alt_setting_set, current_setting}
use Rattle.usb_session_text.specs.Calls.{result_line}
use Rattle.usb_session_text.specs.Settings.{alt_setting_line, interface_line}
use Rattle.usb_session_calls.specs.declared.call.InterfaceCall.{InterfaceCall}
use Rattle.usb_session_calls.specs.declared.call.InterfaceCall.TheVariants.{SetAltSetting, GetAltSetting, Descriptor}
use Rattle.usb_session_calls.specs.State.{State}
use Rattle.usb_session_calls.specs.OpenAt.{InterfaceAt, interface_at}
use Rattle.usb_session_calls.specs.Answer.{Answer, HostAnswer, left, at_host, condition_answer, if_open}

-- `asked` is the host once the kernel was asked for the configuration: the current setting is looked for there
abbrev pub setting_told : InterfaceAt → HostState → HostAnswer
setting_told x asked = left asked (interface_line (current_setting asked x.claimed))

-- each call at an interface that is claimed (x)
abbrev pub interface_called : InterfaceCall → HostState → InterfaceAt → HostAnswer
interface_called (SetAltSetting setting) h x =
    left (alt_setting_set h x.handle.key setting) (result_line (alt_setting_tried h x.handle.key x.claimed setting))
interface_called GetAltSetting h x = left h (alt_setting_line x.claimed.setting)
interface_called Descriptor h x = setting_told x (host_asked h x.claimed.opened)

-- by the interface's name
unfoldable pub on_interface : State → ℕ → InterfaceCall → Answer
on_interface state i call = if_open (interface_at state i) (λ x. at_host state (interface_called call state.host x)) (condition_answer state)
