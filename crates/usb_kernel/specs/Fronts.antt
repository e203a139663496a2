-- What stands at the front of an endpoint: its oldest unfinished ticket, and what that takes next.
use Rattle.std.specs.Prelude.{ℕ, List, Option, None, nat_lt, slice_get, position, if◌then◌else◌}
use Rattle.std.specs.Option.{option_map, option_and_then}
use Rattle.usb_kernel.specs.declared.event.Event.{Event}
use Rattle.usb_kernel.specs.declared.slot.TicketRow.{TicketRow}
use Rattle.usb_kernel.specs.Tickets.{Ticket, tickets}
use Rattle.usb_kernel.specs.Journal.{fate, oldest, taken_of}
use Rattle.usb_kernel.specs.Rows.{is_open_row}

-- the packet that the next acknowledgement on an OUT endpoint takes
abbrev pub front_packet : List Event → ℕ → ℕ → Option (List ℕ)
front_packet past d e =
    if nat_lt e 128
    then option_map (λ t. taken_of (slice_get (tickets past) t) (fate past t)) (oldest past d e)
    else None

-- the maximum packet size of the oldest unfinished ticket
abbrev pub front_maximum : List Event → ℕ → ℕ → Option ℕ
front_maximum past d e =
    option_and_then
    (λ t. option_map (λ (s : Ticket). s.maximum) (slice_get (tickets past) t)) (oldest past d e)

-- the row of the oldest unfinished ticket, as the table has it
abbrev pub front_row : List TicketRow → ℕ → ℕ → Option TicketRow
front_row rows d e = option_and_then (slice_get rows) (position (is_open_row d e) rows)
