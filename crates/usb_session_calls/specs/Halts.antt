-- `halt`: the halt of an endpoint is cleared, by its own name or by its reader's. It is barred where that is not open.
use Rattle.std.specs.Prelude.{ℕ, List, []}
use Rattle.usb_error.specs.Errors.{clear_halt_error}
use Rattle.usb_device_endpoint.specs.CallErrors.{or_error}
use Rattle.usb_device_endpoint.specs.EndpointState.{EndpointState}
use Rattle.usb_device_host.specs.HostState.{HostState}
use Rattle.usb_device_host.specs.HostCalls.{host_halt_result, host_halt_cleared}
use Rattle.usb_io.specs.Reads.{reading}
use Rattle.usb_session_streams.specs.ReaderCalls.{halt_came}
use Rattle.usb_session_text.specs.Calls.{result_line}
use Rattle.usb_session_calls.specs.State.{State, Endpoint, Reader, with_host}
use Rattle.usb_session_calls.specs.Answer.{Answer, answer_with}
use Rattle.usb_session_calls.specs.Readers.{called}

-- what is printed of it
abbrev pub halt_line : HostState → EndpointState → List ℕ
halt_line host h = result_line (or_error clear_halt_error (host_halt_result host h.device h.address))

-- on an endpoint that is open (h)
abbrev pub halt_cleared : State → Endpoint → Answer
halt_cleared state h = answer_with (with_host state (host_halt_cleared state.host h.state.device h.state.address)) (halt_line state.host h.state)

-- on a reader that is open (x)
abbrev pub reader_halt_cleared : State → ℕ → Reader → Answer
reader_halt_cleared state r x =
    answer_with (called state r x.consumed [] (halt_came (reading state.host x.state))) (halt_line state.host x.state.endpoint)
