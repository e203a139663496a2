-- What is opened under a name that is free, and what is closed.
use Rattle.usb_script_words.specs.EndpointKinds.{transfer_type_of, direction_of}
use Rattle.usb_session_calls.specs.declared.call.OpenCall.{OpenCall}
use Rattle.usb_session_calls.specs.declared.call.OpenCall.TheVariants as opens
use Rattle.usb_session_calls.specs.declared.call.CloseCall.{CloseCall}
use Rattle.usb_session_calls.specs.declared.call.CloseCall.TheVariants as closes
use Rattle.usb_session_calls.specs.State.{State}
use Rattle.usb_session_calls.specs.Answer.{Answer}
use Rattle.usb_session.specs.Opens.{open_answer, open_path_answer}
use Rattle.usb_session_calls.specs.Clones.{clone_device_answer, clone_interface_answer}
use Rattle.usb_session.specs.Claims.{claim_answer}
use Rattle.usb_session_calls.specs.Endpoints.{endpoint_answer}
use Rattle.usb_session_calls.specs.Readers.{reader_answer, inner_answer, close_reader_answer}
use Rattle.usb_session_calls.specs.Writers.{writer_answer, writer_inner_answer, close_writer_answer}
use Rattle.usb_session_calls.specs.Clients.{client_answer, close_client_answer}
use Rattle.usb_session_calls.specs.Controls.{request_for, request_with}
use Rattle.usb_session.specs.Futures.{start_answer}
use Rattle.usb_session_calls.specs.Closes.{close_answer, close_future_answer, close_device_answer, close_interface_answer, release_answer}

abbrev pub on_open : State → OpenCall → Answer
on_open state (opens.Device d bus address) = open_answer state d bus address
on_open state (opens.Path d path) = open_path_answer state d path
on_open state (opens.CloneDevice name d) = clone_device_answer state name d
on_open state (opens.Claim d number i detach) = claim_answer state d number i detach
on_open state (opens.CloneInterface name i) = clone_interface_answer state name i
on_open state (opens.Endpoint e i address kind) = endpoint_answer state e i address (transfer_type_of kind) (direction_of kind)
on_open state (opens.Reader r e size) = reader_answer state r e size
on_open state (opens.ReaderInner e r) = inner_answer state e r
on_open state (opens.Writer w e size) = writer_answer state w e size
on_open state (opens.WriterInner e w) = writer_inner_answer state e w
on_open state (opens.Client m out inp) = client_answer state m out inp
on_open state (opens.ControlIn n target setup wanted timeout) = start_answer state n target (request_for setup wanted) timeout
on_open state (opens.ControlOut n target setup bytes timeout) = start_answer state n target (request_with setup bytes) timeout

abbrev pub on_close : State → CloseCall → Answer
on_close state (closes.Device d) = close_device_answer state d
on_close state (closes.Interface i) = close_interface_answer state i
on_close state (closes.Release i) = release_answer state i
on_close state (closes.Endpoint e) = close_answer state e
on_close state (closes.Reader r) = close_reader_answer state r
on_close state (closes.Writer w) = close_writer_answer state w
on_close state (closes.Client m) = close_client_answer state m
on_close state (closes.Future n) = close_future_answer state n
