-- What is true of every kernel.
use Rattle.std.specs.Prelude.{ℕ, ◌≡◌, ◌+◌, ◌*◌, length, ◌≤◌, true, false, List, is_some, reverse, vec_len, vec_capacity, sum_by}
use Rattle.std.specs.List.{All}
use Rattle.usb_kernel.specs.declared.event.Event.{Event}
use Rattle.usb_kernel.specs.declared.kernel.Kernel.TheInside.{Inside}
use Rattle.usb_kernel.specs.Tickets.{tickets}
use Rattle.usb_kernel.specs.Legal.{IsLawful}
use Rattle.usb_kernel.specs.Acts.{is_gone, EachActs}
use Rattle.usb_kernel_devices.specs.declared.devices.DeviceState.{DeviceState}
use Rattle.usb_kernel_devices.specs.Devices.{plugged_device}
use Rattle.usb_kernel_devices.specs.Refusals.{HasArmedErrno}
use Rattle.usb_kernel.specs.Rows.{Agrees, owed}
use Rattle.usb_kernel.specs.Deadlines.{KeepsDeadlines}

-- a device that is gone by a journal is not plugged
abbrev pub GoneAreUnplugged : List Event → List DeviceState → Type 0
GoneAreUnplugged past devices = (d : ℕ) → is_gone past d ≡ true → is_some (plugged_device devices d) ≡ false

-- the journal is lawful, each event of it acts, and no device that is gone is plugged; the table is what the journal says, the
-- deadlines of the tickets that are not finished are listed, and there is room for the steps to come and for what the tickets may
-- still need.
-- `four`: the journal's memory has four places for each ticket, so four times a ticket's number, plus 3, is a 64-bit number, and
-- so the word of a cell (usb_live) is one
pub record IsKept (k : Inside) : Type 0 where
  pub lawful : IsLawful (reverse k.journal.items)
  pub acts : EachActs (reverse k.journal.items)
  pub gone : GoneAreUnplugged (reverse k.journal.items) k.devices.items
  pub agrees : Agrees (reverse k.journal.items) k.tickets.rows
  pub timed : KeepsDeadlines (reverse k.journal.items) k.deadlines.keys
  pub owes : k.owed ≡ sum_by owed k.tickets.rows
  pub space : vec_len k.journal + k.spare + k.owed ≤ vec_capacity k.journal
  pub four : 4 * length (tickets (reverse k.journal.items)) ≤ vec_capacity k.journal
  pub errnos : All HasArmedErrno k.armed.armed
  pub places : k.spare ≤ k.armed.room
