-- `wait`: the oldest pending transfer is waited for, with the steps of the line, and taken where it is found reaped.
use Rattle.std.specs.Prelude.{ℕ, Option, Some, None}
use Rattle.usb_kernel.specs.TransferCompletions.{transfer_completion}
use Rattle.usb_device_endpoint.specs.Waits.{waited}
use Rattle.usb_device_host.specs.HostState.{HostState}
use Rattle.usb_device_host.specs.HostCalls.{host_calls}
use Rattle.usb_session_text.specs.Completions.{waited_line}
use Rattle.usb_session_calls.specs.State.{State, with_host}
use Rattle.usb_session_calls.specs.Answer.{Answer, condition_answer}
use Rattle.usb_session_calls.specs.Polls.{took}

-- the wait left this host: the ticket is taken where it is reaped there
abbrev pub wait_ended : State → ℕ → ℕ → HostState → Answer
wait_ended state e t host = took waited_line (with_host state host) e t (transfer_completion host.kernel.past t)

-- a wait is barred where nothing is pending
abbrev pub wait_on : State → ℕ → ℕ → Option ℕ → Answer
wait_on state e timeout None = condition_answer state
wait_on state e timeout (Some t) = wait_ended state e t (waited host_calls t timeout state.host)
