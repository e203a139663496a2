-- `poll`: the oldest pending transfer is taken, where it is reaped.
use Rattle.std.specs.Prelude.{ℕ, List, [], ◌∷◌, ◌++◌, drop, Option, Some, None}
use Rattle.usb_xfer.specs.declared.transfer.Completion.{Completion}
use Rattle.usb_kernel.specs.TransferCompletions.{transfer_completion}
use Rattle.usb_device_host.specs.TicketEnds.{host_taken}
use Rattle.usb_session_text.specs.Completions.{polled_line}
use Rattle.usb_session_calls.specs.Names.{change_named}
use Rattle.usb_session_calls.specs.State.{State, Endpoint}
use Rattle.usb_session_calls.specs.Answer.{Answer, answer_with, condition_answer}

-- an endpoint whose oldest pending ticket (t) was taken
abbrev pub front_taken : ℕ → Endpoint → Endpoint
front_taken t h = record h { state = record h.state { pending = drop 1 h.state.pending }; taken = h.taken ++ t ∷ [] }

-- it is taken from what is open under a name
abbrev pub taken_from : State → ℕ → ℕ → State
taken_from state e t =
    record state { host = host_taken state.host t; endpoints = change_named (front_taken t) state.endpoints e }

-- the answer for a ticket: where it has a completion it is taken, and the line prints that; else nothing changes, and the line says so
abbrev pub took : (Option Completion → List ℕ) → State → ℕ → ℕ → Option Completion → Answer
took line state e t None = answer_with state (line None)
took line state e t (Some completion) = answer_with (taken_from state e t) (line (Some completion))

-- a poll is barred where nothing is pending
abbrev pub poll_on : State → ℕ → Option ℕ → Answer
poll_on state e None = condition_answer state
poll_on state e (Some t) = took polled_line state e t (transfer_completion state.host.kernel.past t)
