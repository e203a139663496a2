-- What each call answers where the session isn't crowded. A call that may wait has the steps of its line.
use Rattle.usb_session_text.specs.Completions.{now_line}
use Rattle.usb_script_lines.specs.declared.item.Item.{Item}
use Rattle.usb_session_calls.specs.declared.call.Call.{Call}
use Rattle.usb_session_calls.specs.declared.call.Call.TheVariants.{Setup, Steps, Now, Tree, Open, Close, Device, Interface, Endpoint, Reader, Writer, Client, Control, Future}
use Rattle.usb_session_calls.specs.State.{State}
use Rattle.usb_session_calls.specs.Answer.{Answer, answer_with, silent}
use Rattle.usb_session_calls.specs.Steps.{along_steps, stepped_all}
use Rattle.usb_session_calls.specs.Calls.{call_of}
use Rattle.usb_session.specs.TreeCalls.{on_tree}
use Rattle.usb_session.specs.NameCalls.{on_open, on_close}
use Rattle.usb_session_calls.specs.DeviceCalls.{on_device}
use Rattle.usb_session_calls.specs.InterfaceCalls.{on_interface}
use Rattle.usb_session_calls.specs.EndpointCalls.{on_endpoint}
use Rattle.usb_session_calls.specs.CalledReaders.{on_reader}
use Rattle.usb_session_calls.specs.CalledWriters.{on_writer}
use Rattle.usb_session_calls.specs.CalledClients.{on_client}
use Rattle.usb_session_calls.specs.Controls.{on_control}
use Rattle.usb_session.specs.Futures.{on_future}

unfoldable pub call_answer : State → Call → Answer
call_answer state Setup = silent state
call_answer state (Steps steps) = silent (stepped_all state steps)
call_answer state Now = answer_with state (now_line state.host.kernel.clock)
call_answer state (Tree call) = on_tree state call
call_answer state (Open call) = on_open state call
call_answer state (Close call) = on_close state call
call_answer state (Device d call) = on_device state d call
call_answer state (Interface i call) = on_interface state i call
call_answer state (Endpoint e call steps) = along_steps state steps (λ s. on_endpoint s e call)
call_answer state (Reader r call steps) = along_steps state steps (λ s. on_reader s r call)
call_answer state (Writer w call steps) = along_steps state steps (λ s. on_writer s w call)
call_answer state (Client m call steps) = along_steps state steps (λ s. on_client s m call)
call_answer state (Control call steps) = along_steps state steps (λ s. on_control s call)
call_answer state (Future n call) = on_future state n call

-- and so each line
abbrev pub line_answer : State → Item → Answer
line_answer state item = call_answer state (call_of item)
