-- What writers write, over a script.
use Rattle.std.specs.Prelude.{ℕ, ◌≡◌, List, ◌++◌, unwrap_or, Some, []}
use Rattle.usb_kernel.specs.declared.event.Event.{Event}
use Rattle.usb_script_lines.specs.declared.item.Item.{Item}
use Rattle.usb_io.specs.Writes.{Written, written}
use Rattle.usb_io.specs.Carried.{AllCarry}
use Rattle.usb_session_streams.specs.Told.{WriterCalls, failures_at}
use Rattle.usb_session_calls.specs.Names.{named}
use Rattle.usb_session_calls.specs.State.{State, Writer, tickets_at, endpoint_of_writer}
use Rattle.usb_session.specs.Output.{start, behind}

-- what the accepted calls of a writer submit, and what they leave
abbrev pub written_by : Writer → WriterCalls → Written
written_by x c = written x.state.endpoint.maximum x.state.size c.accepted

-- the tickets of a writer's endpoint carry, one each and in order, the transfers of its accepted calls; the rest of what was
-- accepted stands in its buffer; and the failed ones of the tickets that were taken are, in order, what its calls answered,
-- which is one each at most
pub record IsWritten (past : List Event) (x : Writer) (c : WriterCalls) : Type 0 where
  pub transfers : AllCarry past x.state.endpoint.device x.state.endpoint.address x.state.endpoint.maximum (tickets_at (endpoint_of_writer x)) (written_by x c).transfers
  pub standing : unwrap_or x.state.buffer [] ≡ (written_by x c).standing
  pub failures : failures_at past x.taken ≡ c.failures

-- so it is of each open writer that alone used its endpoint
abbrev pub WritersTell : State → Type 0
WritersTell state =
    (w : ℕ) (x : Writer) (c : WriterCalls) → named state.writers w ≡ Some x → x.calls ≡ Some c →
    IsWritten state.host.kernel.past x c

-- before the first line of a script and behind each
abbrev pub WritersAreTold : List Item → Type 0
WritersAreTold items = (before after : List Item) → before ++ after ≡ items → WritersTell (behind (start items) before)

-- the law: so it is of each script
abbrev pub ScriptsAreWritten : Type 0
ScriptsAreWritten = (items : List Item) → WritersAreTold items
