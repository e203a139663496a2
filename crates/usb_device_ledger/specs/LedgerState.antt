-- The claimed interfaces, their endpoints, and the tickets of these, with the data of their
-- transfers.
use Rattle.std.specs.Prelude.{ℕ, Bool, true, false, ◌≡◌, List, map, Option, Some, None}
use Rattle.std.specs.Option.{option_map_or}
use Rattle.std.specs.List.{count_by}
use Rattle.usb_device_tables.specs.History.{value_at}
use Rattle.usb_xfer.specs.declared.transfer.TransferData.{TransferData}
use Rattle.usb_xfer.specs.declared.transfer.Held.TheVariants.{Complete}
use Rattle.usb_kernel.specs.declared.submission.Done.{Done}
use Rattle.usb_kernel.specs.TransferCompletions.{completion_of}
use Rattle.usb_device_ledger.specs.declared.ends.TicketEnd.TheVariants.{Reclaimed}
use Rattle.usb_device_ledger.specs.TicketStates.{TicketState}
use Rattle.usb_device_ledger.specs.TicketStates as slot
use Rattle.usb_device_ledger.specs.declared.owners.EndedClaim.{EndedClaim}
use Rattle.usb_device_ledger.specs.declared.owners.EndpointRow.{EndpointRow}
use Rattle.usb_device_ledger.specs.Entries.{HostTicket, HostEndpoint, ClaimedInterface, HeldBy, Abandoned, Ended}
use Rattle.usb_device_ledger.specs.Owners.{is_ticket_of}
use Rattle.usb_device_ledger.specs.Releases.{claim_of, interface_at, without_claim, endpoints_left}

-- what became of the ticket of a slot
abbrev pub host_ticket : TicketState → HostTicket
host_ticket (slot.HeldBy key transfer) =
    HeldBy (record { key = key; endpoint = transfer.endpoint; kind = transfer.kind })
host_ticket (slot.Abandoned key) = Abandoned key
host_ticket (slot.Ended end) = Ended end

-- room: how many more tickets there is a place for. claim_capacity: how many interfaces there is
-- memory for at once. slot_count: how many slots there are for tickets without an end
pub record LedgerState : Type 0 where
  pub interfaces : List (Option ClaimedInterface)
  pub endpoints : List (Option HostEndpoint)
  pub slots : List TicketState
  pub room : ℕ
  pub claim_capacity : ℕ
  pub slot_count : ℕ

abbrev pub tickets_in : LedgerState → List HostTicket
tickets_in l = map host_ticket l.slots

-- the key of the endpoint of a ticket that has no end
abbrev pub ticket_key : HostTicket → Option ℕ
ticket_key (HeldBy hold) = Some hold.key
ticket_key (Abandoned key) = Some key
ticket_key (Ended end) = None

-- the transfer that a slot has
abbrev pub slot_data : TicketState → Option TransferData
slot_data (slot.HeldBy key transfer) = Some transfer
slot_data (slot.Abandoned key) = None
slot_data (slot.Ended end) = None

-- a slot whose ticket has its completion: that of a ticket that was given up is reclaimed
abbrev pub slot_with : Done → TicketState → TicketState
slot_with done (slot.HeldBy key transfer) =
    slot.HeldBy key (record transfer { held = Complete (completion_of done) })
slot_with done (slot.Abandoned key) = slot.Ended Reclaimed
slot_with done (slot.Ended end) = slot.Ended end

-- a slot that keeps the completion, where an endpoint holds the ticket
abbrev pub slot_kept : Done → TicketState → TicketState
slot_kept done (slot.HeldBy key transfer) =
    slot.HeldBy key (record transfer { held = Complete (completion_of done) })
slot_kept done (slot.Abandoned key) = slot.Abandoned key
slot_kept done (slot.Ended end) = slot.Ended end

-- a slot whose ticket its endpoint gives up: nothing of the transfer is kept, and what was given up or has its end stays so
abbrev pub slot_without : TicketState → TicketState
slot_without (slot.HeldBy key transfer) = slot.Abandoned key
slot_without (slot.Abandoned key) = slot.Abandoned key
slot_without (slot.Ended end) = slot.Ended end

-- the claim that ends with a ticket of the endpoint of a key
abbrev pub ended_with : LedgerState → Option ℕ → Option EndedClaim
ended_with l None = None
ended_with l (Some key) = claim_of l.interfaces (tickets_in l) l.endpoints key

-- the ledger without the entry of that claim, and without that of the endpoint if it lives no more
abbrev pub left_with : LedgerState → Option ℕ → LedgerState
left_with l None = l
left_with l (Some key) =
    record l {
      interfaces = without_claim l.interfaces (interface_at l.endpoints key)
          (claim_of l.interfaces (tickets_in l) l.endpoints key);
      endpoints = endpoints_left (tickets_in l) l.endpoints key;
    }

-- the key of the endpoint that gave a ticket up
abbrev pub abandoned_key : TicketState → Option ℕ
abandoned_key (slot.HeldBy key transfer) = None
abandoned_key (slot.Abandoned key) = Some key
abandoned_key (slot.Ended end) = None

abbrev pub is_given_up : TicketState → Bool
is_given_up (slot.HeldBy key transfer) = false
is_given_up (slot.Abandoned key) = true
is_given_up (slot.Ended end) = false

-- how many tickets without an end the row of a key counts
abbrev pub tickets_at : List (Option EndpointRow) → ℕ → ℕ
tickets_at rows k = option_map_or (λ (e : EndpointRow). e.tickets) (value_at rows k) 0

-- the rows count the tickets without an end, of which each is one of a row that is there
abbrev pub Tied : List (Option EndpointRow) → List HostTicket → Type 0
Tied rows tickets = (k : ℕ) → tickets_at rows k ≡ count_by (is_ticket_of k) tickets
