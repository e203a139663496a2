-- What readers hand over of the completions of their tickets, over a script.
use Rattle.std.specs.Prelude.{ℕ, ◌≡◌, List, ◌++◌, All, Some}
use Rattle.usb_kernel.specs.declared.event.Event.{Event}
use Rattle.usb_script_lines.specs.declared.item.Item.{Item}
use Rattle.usb_session_streams.specs.Handed.{completed_bytes}
use Rattle.usb_session_streams.specs.Told.{IsComplete}
use Rattle.usb_session_calls.specs.Names.{named}
use Rattle.usb_session_calls.specs.State.{State, Reader}
use Rattle.usb_session.specs.Output.{start, behind}

-- each ticket that a reader took has its completion. What the reader handed over, and then what is unread, are the bytes of these
-- completions, in order, also of those that failed or were cancelled. So what it handed over is a prefix of the bytes of all
-- completions that the tickets that it took and those that are pending have
pub record IsHandedOver (past : List Event) (x : Reader) : Type 0 where
  pub complete : All (IsComplete past) x.taken
  pub bytes : completed_bytes past x.taken ≡ x.given ++ x.state.unread
  pub prefix : (rest : List ℕ) × (x.given ++ rest ≡ completed_bytes past (x.taken ++ x.state.endpoint.pending))

-- so it is of each open reader, whether its calls are plain ones or end at short packets
abbrev pub ReadersHandOver : State → Type 0
ReadersHandOver state = (r : ℕ) (x : Reader) → named state.readers r ≡ Some x → IsHandedOver state.host.kernel.past x

-- before the first line of a script and behind each
abbrev pub BytesAreHandedOver : List Item → Type 0
BytesAreHandedOver items = (before after : List Item) → before ++ after ≡ items → ReadersHandOver (behind (start items) before)

-- the law: so it is of each script
abbrev pub ScriptsHandOver : Type 0
ScriptsHandOver = (items : List Item) → BytesAreHandedOver items
