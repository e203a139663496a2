-- How the table of tickets is kept.
use Rattle.std.specs.Prelude.{ℕ, ◌-◌, min, vec_len, vec_capacity}
use Rattle.usb_kernel.specs.declared.table.TicketTable.TheInside.{Inside}
use Rattle.usb_kernel.specs.TableState.{TableState}
use Rattle.usb_kernel.specs.Listed.{AreListed, rows_of}

-- there is room for as many more tickets as there is for records, and for numbers of those that are finished
abbrev pub room_of : Inside → ℕ
room_of t =
    min (vec_capacity t.tickets.records - vec_len t.tickets.records) (vec_capacity t.lists.finished - t.lists.count)

abbrev pub table_state : Inside → TableState
table_state t = record { rows = rows_of t.tickets.records.items; room = room_of t; queues = t.lists.queues.ends.entries }

abbrev pub IsTable : Inside → Type 0
IsTable t = AreListed t.tickets.records.items t.lists
