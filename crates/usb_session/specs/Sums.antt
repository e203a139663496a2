-- The counts of a session.
use Rattle.std.specs.Prelude.{ℕ, ◌+◌, ◌≡◌, Bool, true, false, List, length, slice_get}
use Rattle.std.specs.List.{count_by}
use Rattle.std.specs.Option.{option_map_or}
use Rattle.usb_script_lines.specs.declared.item.Item.{Item}
use Rattle.usb_script_lines.specs.ItemKinds.{is_call}
use Rattle.usb_device_ledger.specs.declared.ends.TicketEnd.{TicketEnd}
use Rattle.usb_device_ledger.specs.declared.ends.TicketEnd.TheVariants.{Taken, Dropped, Reclaimed}
use Rattle.usb_device_ledger.specs.Entries.{HostTicket, HeldBy, Abandoned, Ended}
use Rattle.usb_device_host.specs.HostState.{HostState}
use Rattle.usb_device_host.specs.Finishes.{HasEnds}
use Rattle.usb_session.specs.declared.summary.Summary.{Summary}
use Rattle.usb_session.specs.Output.{final_host}

-- whether two ends are the same
abbrev pub is_same_end : TicketEnd → TicketEnd → Bool
is_same_end Taken Taken = true
is_same_end Dropped Dropped = true
is_same_end Reclaimed Reclaimed = true
is_same_end a b = false

-- whether a ticket has this end
abbrev pub has_end : TicketEnd → HostTicket → Bool
has_end end (HeldBy hold) = false
has_end end (Abandoned key) = false
has_end end (Ended its) = is_same_end its end

-- whether the ticket of a number has this end
abbrev pub ticket_has : List HostTicket → ℕ → TicketEnd → Bool
ticket_has tickets t end = option_map_or (has_end end) (slice_get tickets t) false

-- so many calls, the tickets of a host, and how many of them were taken, dropped and reclaimed
unfoldable pub counts_of : ℕ → HostState → Summary
counts_of calls h =
    record {
      calls = calls;
      tickets = length h.tickets;
      taken = count_by (has_end Taken) h.tickets;
      dropped = count_by (has_end Dropped) h.tickets;
      reclaimed = count_by (has_end Reclaimed) h.tickets;
    }

-- what a script comes to: its call lines are counted, and the tickets of the host at its end
abbrev pub sum_of : List Item → Summary
sum_of items = counts_of (count_by is_call items) (final_host items)

-- where each ticket has an end, each has one of the three
abbrev pub OneEndEach : Type 0
OneEndEach = (calls : ℕ) (h : HostState) → HasEnds h.tickets → (counts_of calls h).taken + (counts_of calls h).dropped + (counts_of calls h).reclaimed ≡ (counts_of calls h).tickets
