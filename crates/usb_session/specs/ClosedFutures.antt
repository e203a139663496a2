-- The futures that a script closes, or that the end of its session closes: each with its ticket, and the journal right before.
use Rattle.std.specs.Prelude.{ℕ, List, [], ◌∷◌, ◌++◌, map, Option, Some, None}
use Rattle.usb_kernel.specs.declared.event.Event.{Event}
use Rattle.usb_device.specs.Futures.{FutureState}
use Rattle.usb_session_calls.specs.Names.{named}
use Rattle.usb_script_lines.specs.declared.item.Item.{Item}
use Rattle.usb_session_calls.specs.declared.call.Call.{Call}
use Rattle.usb_session_calls.specs.declared.call.Call.TheVariants.{Close}
use Rattle.usb_session_calls.specs.declared.call.CloseCall.TheVariants as closes
use Rattle.usb_session_calls.specs.Calls.{call_of}
use Rattle.usb_session_calls.specs.State.{State}
use Rattle.usb_session_calls.specs.Answer.{Answer}
use Rattle.usb_session.specs.Answers.{answer}
use Rattle.usb_session.specs.Below.{given_below}
use Rattle.usb_session.specs.Ends.{streams_closed, endpoints_closed, future_closed_under}
use Rattle.usb_session.specs.Output.{start}
use Rattle.usb_session.specs.ControlAnswers.{listed, future_gone}

-- a future that is closed: its ticket, and the journal right before
pub record ClosedFuture : Type 0 where
  pub ticket : ℕ
  pub past : List Event

-- a future that is closed now, if there is one
abbrev pub future_closed_as : List Event → Option FutureState → List ClosedFuture
future_closed_as past None = []
future_closed_as past (Some f) = map (λ t. record { ticket = t; past = past }) (listed f.ticket)

-- the future that the answer of a call closes
abbrev pub future_closed_by : State → Call → Answer → List ClosedFuture
future_closed_by state (Close (closes.Future n)) a = future_closed_as state.host.kernel.past (future_gone state a.state n)
future_closed_by state call a = []

-- those that the end of the session closes, of the names below k in order
abbrev pub futures_at_end : State → ℕ → List ClosedFuture
futures_at_end = given_below future_closed_under (λ s k. future_closed_as s.host.kernel.past (named s.futures k))

-- those that these items close, and then the end of the session
abbrev pub closed_futures_from : State → List Item → List ClosedFuture
closed_futures_from state [] = futures_at_end (endpoints_closed (streams_closed state) 64) 64
closed_futures_from state (item ∷ items) = future_closed_by state (call_of item) (answer state item) ++ closed_futures_from (answer state item).state items

-- those of a script
unfoldable pub closed_futures : List Item → List ClosedFuture
closed_futures items = closed_futures_from (start items) items
