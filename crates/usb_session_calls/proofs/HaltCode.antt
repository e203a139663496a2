-- What the clear of a halt answers.
use Rattle.std.proofs.Common.{◌≡◌, ◌∙◌, ◌++◌, Result, ap, sym, String, string_bytes}
use Rattle.std.specs.Prelude.{OnOk}
use Rattle.std.specs.declared.alloc.Global.{Global}
use Rattle.usb_device_endpoint.specs.EndpointState.{EndpointState}
use Rattle.usb_device_host.specs.HostState.{HostState}
use Rattle.usb_device_host.specs.HostCalls.{host_halt_cleared}
use Rattle.usb_session_calls.specs.State.{State, with_host}
use Rattle.usb_session_calls.specs.Answer.{Answer, answer_with}
use Rattle.usb_session_calls.specs.Halts.{halt_line, halt_cleared}
use Rattle.usb_session_calls.specs.OpenCalls.{CallAnswers}
use Rattle.usb_session_calls.proofs.Queue.{call-host}

abbrev halt_seen : State → HostState → EndpointState → Answer
halt_seen state h x = answer_with (with_host state (host_halt_cleared h x.device x.address)) (halt_line h x)

pub halt-made : {E : Type 0} (host now : HostState) (x y : EndpointState) (before text : String Global) (result : Result Unit E) → now ≡ host_halt_cleared host x.device x.address → y ≡ x → OnOk result (string_bytes text ≡ string_bytes before ++ halt_line host x) → CallAnswers host now x y before text result (λ state e h. halt_cleared state h)
halt-made host now x y before text result bus same_y printed =
    call-host host now x y before text result (halt_line host x) (λ state e h. halt_cleared state h) same_y printed
    (λ state e h host_was same.
    ap (λ (z : EndpointState). halt_seen state state.host z) same ∙ ap (λ (g : HostState). halt_seen state g x) host_was
    ∙ ap (λ (g : HostState). answer_with (with_host state g) (halt_line host x)) (sym bus))
