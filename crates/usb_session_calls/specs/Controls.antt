-- Control transfers, whose lines are barred where what they name is not open, or where 1,024 tickets are unreaped.
use Rattle.std.specs.Prelude.{ℕ, nat_le, Bool, List, [], length, Option, if◌then◌else◌}
use Rattle.std.specs.Option.{option_map, option_map_or}
use Rattle.usb_desc.specs.declared.types.Direction.TheVariants as direction
use Rattle.usb_desc.specs.declared.types.TransferType.TheVariants.{Control}
use Rattle.usb_desc.specs.Setup.{packet, request_type}
use Rattle.usb_xfer.specs.declared.transfer.Held.TheVariants.{Request}
use Rattle.usb_kernel.specs.declared.event.Event.{Event}
use Rattle.usb_kernel.specs.Info.{unreaped}
use Rattle.usb_error.specs.Outcomes.{result_map}
use Rattle.usb_xfer.specs.declared.transfer.TransferData.{TransferData}
use Rattle.usb_device_host.specs.HostState.{HostState}
use Rattle.usb_xfer.specs.Transfers.{request_in}
use Rattle.usb_device.specs.ControlCalls.{controlled, control_answered}
use Rattle.usb_device.specs.DescriptorCalls.{descriptor_request, descriptor_asked, descriptor_answered, languages_answered, text_answered}
use Rattle.usb_script_words.specs.declared.control.Setup.{Setup}
use Rattle.usb_script_words.specs.declared.control.ControlTarget.{ControlTarget}
use Rattle.usb_script_words.specs.declared.control.ControlTarget.TheVariants.{Device, Interface}
use Rattle.usb_script_words.specs.Controls.{control_in_of}
use Rattle.usb_session_text.specs.Controls.{received_line, sent_line, descriptor_line, languages_line, string_line}
use Rattle.usb_session_calls.specs.declared.call.ControlCall.{ControlCall}
use Rattle.usb_session_calls.specs.declared.call.ControlCall.TheVariants.{In, Out, Descriptor, Languages, Text}
use Rattle.usb_session_calls.specs.OpenAt.{DeviceAt, InterfaceAt, device_at, interface_at}
use Rattle.usb_session_calls.specs.State.{State}
use Rattle.usb_session_calls.specs.Answer.{Answer, HostAnswer, left, at_host, condition_answer, if_open}

-- the kernel's number of the device that is open under this name, or whose interface is
abbrev pub device_of_target : State → ControlTarget → Option ℕ
device_of_target state (Device d) = option_map (λ (x : DeviceAt). x.opened.device) (device_at state d)
device_of_target state (Interface i) = option_map (λ (x : InterfaceAt). x.claimed.device) (interface_at state i)

abbrev pub bars_control : List Event → Bool
bars_control past = nat_le 1024 (unreaped past)

-- the request of a line for so many bytes
abbrev pub request_for : Setup → ℕ → TransferData
request_for setup wanted = request_in (control_in_of setup wanted)

-- and that of one that sends these bytes
abbrev pub request_with : Setup → List ℕ → TransferData
request_with setup bytes =
    record {
      endpoint = 0;
      kind = Control;
      held = Request (packet (request_type direction.Out setup.control_type setup.recipient) setup.request setup.value setup.index (length bytes)) (record { bytes = bytes; requested = length bytes; room = length bytes });
    }

-- what is printed of an answer that came. (It always comes)
abbrev pub came_line : {A : Type 0} → (A → List ℕ) → Option A → List ℕ
came_line line came = option_map_or line came []

-- what each transfer is made on
abbrev pub target_of : ControlCall → ControlTarget
target_of (In target setup wanted timeout) = target
target_of (Out target setup bytes timeout) = target
target_of (Descriptor d kind index language timeout) = Device d
target_of (Languages d timeout) = Device d
target_of (Text d index language timeout) = Device d

-- each transfer at the device of a number (n): its request is handed in and awaited, and the answer printed
abbrev pub control_called : ControlCall → HostState → ℕ → HostAnswer
control_called (In target setup wanted timeout) h n =
    left (controlled h n (request_for setup wanted) timeout) (came_line received_line (control_answered h n (request_for setup wanted) timeout))
control_called (Out target setup bytes timeout) h n =
    left (controlled h n (request_with setup bytes) timeout)
    (came_line (λ r. sent_line (result_map (λ _. tt) r)) (control_answered h n (request_with setup bytes) timeout))
control_called (Descriptor d kind index language timeout) h n =
    left (descriptor_asked h n (descriptor_request kind index language) timeout)
    (came_line descriptor_line (descriptor_answered h n (descriptor_request kind index language) timeout))
control_called (Languages d timeout) h n =
    left (descriptor_asked h n (descriptor_request 3 0 0) timeout)
    (came_line languages_line (languages_answered h n (descriptor_request 3 0 0) timeout))
control_called (Text d index language timeout) h n =
    left (descriptor_asked h n (descriptor_request 3 index language) timeout)
    (came_line string_line (text_answered h n (descriptor_request 3 index language) timeout))

-- at the device of a number
abbrev pub control_on : ControlCall → State → ℕ → Answer
control_on call state n =
    if bars_control state.host.kernel.past then condition_answer state
    else at_host state (control_called call state.host n)

-- by the name of what it is made on
unfoldable pub on_control : State → ControlCall → Answer
on_control state call = if_open (device_of_target state (target_of call)) (control_on call state) (condition_answer state)
