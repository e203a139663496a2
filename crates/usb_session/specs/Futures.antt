-- Control transfers on their way: `fin`, `fout`, `fpoll` and `fwait`.
use Rattle.std.specs.Prelude.{ℕ, List, Option, Some, None, Result, if◌then◌else◌}
use Rattle.usb_xfer.specs.declared.error.TransferError.{TransferError}
use Rattle.usb_xfer.specs.declared.transfer.TransferData.{TransferData}
use Rattle.usb_device_host.specs.HostState.{HostState}
use Rattle.usb_device_host.specs.Controls.{request_started}
use Rattle.usb_device.specs.Futures.{FutureState, fresh_future, future_taken, future_awaited, future_answer}
use Rattle.usb_script_words.specs.declared.control.ControlTarget.{ControlTarget}
use Rattle.usb_session_text.specs.Controls.{pending_line, received_line}
use Rattle.usb_session_calls.specs.Names.{named, is_free, freed, set_name}
use Rattle.usb_session_calls.specs.declared.call.FutureCall.{FutureCall}
use Rattle.usb_session_calls.specs.declared.call.FutureCall.TheVariants.{Poll, Wait}
use Rattle.usb_session_calls.specs.State.{State}
use Rattle.usb_session_calls.specs.Answer.{Answer, answer_with, condition_answer, ok_answer, if_open}
use Rattle.usb_session_calls.specs.Controls.{device_of_target, bars_control, came_line}
use Rattle.usb_session_calls.specs.Steps.{along_steps}

-- a request is handed in to a device, and its future is open under a name
abbrev pub with_future : State → ℕ → TransferData → ℕ → ℕ → State
with_future state n request timeout device =
    record state {
      host = request_started state.host device request timeout;
      futures = set_name state.futures n (fresh_future state.host request timeout);
    }

abbrev pub start_on : State → ℕ → TransferData → ℕ → ℕ → Answer
start_on state n request timeout device =
    if bars_control state.host.kernel.past then condition_answer state else ok_answer (with_future state n request timeout device)

-- `fin` and `fout` are barred where the name of the future is in use, and where a control transfer is
unfoldable pub start_answer : State → ℕ → ControlTarget → TransferData → ℕ → Answer
start_answer state n target request timeout =
    if_open (device_of_target state target) (λ device. if is_free state.futures n then start_on state n request timeout device else condition_answer state) (condition_answer state)

-- the future has given its answer, and its name is free
abbrev pub without_answered : State → HostState → ℕ → FutureState → State
without_answered state host n f = record state { host = future_taken host f; futures = freed state.futures n }

-- where the ticket is reaped its answer is taken; else nothing changes
abbrev pub future_polled : State → ℕ → FutureState → Option (Result (List ℕ) TransferError) → Answer
future_polled state n f None = answer_with state pending_line
future_polled state n f (Some r) = answer_with (without_answered state state.host n f) (received_line r)

-- a wait goes on until the ticket is reaped
abbrev pub future_waited : State → ℕ → FutureState → Answer
future_waited state n f =
    answer_with (without_answered state (future_awaited state.host f) n f) (came_line received_line (future_answer (future_awaited state.host f) f))

-- by the future's name
unfoldable pub on_future : State → ℕ → FutureCall → Answer
on_future state n Poll = if_open (named state.futures n) (λ f. future_polled state n f (future_answer state.host f)) (condition_answer state)
on_future state n (Wait steps) =
    along_steps state steps (λ s. if_open (named s.futures n) (future_waited s n) (condition_answer s))
