-- The calls of a host, by its parts.
use Rattle.std.proofs.Common.{ℕ, zero, suc, ◌≡◌, ◌<◌, true, false, List, [], ◌∷◌, length, map, set, slice_get, Option, Some, None, inl, inr, refl, sym, ◌∙◌, ap, length-set}
use Rattle.std.specs.Prelude.{is_some, IsSome, option_and_then}
use Rattle.std.specs.Option.{option_map}
use Rattle.std.proofs.lemmas.Option.{slice_get_within}
use Rattle.std.proofs.lemmas.List.{map-set}
use Rattle.usb_xfer.specs.declared.transfer.Completion.{Completion}
use Rattle.usb_xfer.specs.declared.transfer.TransferData.{TransferData}
use Rattle.usb_xfer.specs.declared.transfer.Held.{Held as HeldData}
use Rattle.usb_xfer.specs.Transfers.{completion_held}
use Rattle.usb_kernel.specs.declared.event.Event.{Event}
use Rattle.usb_kernel_devices.specs.declared.step.KernelStep.{KernelStep}
use Rattle.usb_kernel.specs.declared.submission.Done.{Done}
use Rattle.usb_kernel.specs.Value.{KernelState}
use Rattle.usb_kernel.specs.Completions.{completion, lowest}
use Rattle.usb_kernel.specs.Steps.{after_step, step_done}
use Rattle.usb_device_endpoint.specs.declared.route.Turn.TheVariants.{Stepped}
use Rattle.usb_kernel.specs.TransferCompletions.{completion_of, transfer_completion}
use Rattle.usb_kernel.specs.Holds.{held_of}
use Rattle.usb_kernel.specs.Holds.{transfer_with}
use Rattle.usb_device_endpoint.specs.Turns.{reap_turn}
use Rattle.usb_device_tables.specs.History.{value_at}
use Rattle.usb_device_ledger.specs.declared.ends.TicketEnd.{TicketEnd}
use Rattle.usb_device_ledger.specs.declared.ends.TicketEnd.TheVariants.{Dropped}
use Rattle.usb_device_ledger.specs.declared.opened.OpenDevice.{OpenDevice}
use Rattle.usb_device_ledger.specs.declared.owners.EndedClaim.{EndedClaim}
use Rattle.usb_device_ledger.specs.TicketStates.{TicketState}
use Rattle.usb_device_ledger.specs.TicketStates as slot
use Rattle.usb_device_ledger.specs.Entries.{HostTicket, HostEndpoint, Hold, HeldBy, Abandoned, Ended}
use Rattle.usb_device_host.specs.HostState.{HostState}
use Rattle.usb_device_host.specs.HostBus.{hold_at, held_as, host_value, key_at}
use Rattle.usb_device_host.specs.HostFacts.{TicketsAgree, host_made}
use Rattle.usb_device_host.specs.HostCalls.{host_left}
use Rattle.usb_device_ledger.specs.LedgerState.{LedgerState, host_ticket, slot_data, ended_with, left_with}
use Rattle.usb_device_ledger.specs.Releases.{claim_of}
use Rattle.usb_device_host.specs.Releases.{without_ended, endpoint_left, settled}
use Rattle.usb_device_host.specs.HostTurns.{host_turned, host_turn, turned_of, reaped_of, turn_for, host_stepped, host_rest, all_stepped}
use Rattle.usb_device_host.specs.TicketEnds.{host_ended, host_abandoned, reclaimed_if, came}
use Rattle.usb_device_ledger.proofs.ListLemmas.{slice_get-set}
use Rattle.usb_device_ledger.proofs.LedgerLemmas.{ticket-at}
use Rattle.usb_device_host.proofs.KernelFrames.{released-as}

-- the slot of a ticket that an endpoint holds
pub record HeldSlot (slots : List TicketState) (t : ℕ) : Type 0 where
  pub key : ℕ
  pub transfer : TransferData
  pub at : slice_get slots t ≡ Some (slot.HeldBy key transfer)

pub held-slot : (slots : List TicketState) (t : ℕ) → IsSome (hold_at (map host_ticket slots) t) → HeldSlot slots t
held-slot [] t some = absurd (cc)
held-slot (slot.HeldBy key transfer ∷ ss) zero some = record { key = key; transfer = transfer; at = refl }
held-slot (slot.Abandoned key ∷ ss) zero some = absurd (cc)
held-slot (slot.Ended end ∷ ss) zero some = absurd (cc)
held-slot (s ∷ ss) (suc t) some = let w = held-slot ss t some in record { key = w.key; transfer = w.transfer; at = w.at }

pub held-within : (slots : List TicketState) (t : ℕ) → IsSome (hold_at (map host_ticket slots) t) → t < length slots
held-within slots t some = let w = held-slot slots t some in slice_get_within slots t (slot.HeldBy w.key w.transfer) w.at

some-held : (o : Option Completion) → is_some (completion_held (held_of o)) ≡ is_some o
some-held None = refl
some-held (Some c) = refl

some-transfer : (o : Option Done) → is_some (option_map completion_of o) ≡ is_some o
some-transfer None = refl
some-transfer (Some done) = refl

-- whether it is reaped
pub come-reaped : (past : List Event) (slots : List TicketState) (t : ℕ) (w : HeldSlot slots t) → TicketsAgree past slots → is_some (completion_held w.transfer.held) ≡ is_some (completion past t)
unfolding transfer_completion
come-reaped past slots t w agree =
    let fits : w.transfer.held ≡ held_of (transfer_completion past t) = agree.each t (slot.HeldBy w.key w.transfer) w.at in
    ap (λ h. is_some (completion_held h)) fits ∙ some-held (transfer_completion past t) ∙ some-transfer (completion past t)

pub hold-of : (slots : List TicketState) (t : ℕ) (w : HeldSlot slots t) → hold_at (map host_ticket slots) t ≡ Some (record { key = w.key; endpoint = w.transfer.endpoint; kind = w.transfer.kind })
hold-of slots t w = ap (option_and_then held_as) (ticket-at slots t (slot.HeldBy w.key w.transfer) w.at)

-- the transfer that is given back
value-at : (transfer : TransferData) (key : ℕ) (o : Option Completion) → transfer.held ≡ held_of o → IsSome (option_map (transfer_with (record { key = key; endpoint = transfer.endpoint; kind = transfer.kind })) o)
    → Some transfer ≡ option_map (transfer_with (record { key = key; endpoint = transfer.endpoint; kind = transfer.kind })) o
value-at transfer key None held some = absurd (cc)
value-at transfer key (Some c) held some = ap (λ (h : HeldData). Some (record transfer { held = h })) held

pub value-slot : (k : KernelState) (devices : List (Option OpenDevice)) (l : LedgerState) (steps : List KernelStep) (t : ℕ) (w : HeldSlot l.slots t) → TicketsAgree k.past l.slots → IsSome (host_value (host_made k devices l steps) t)
    → slot_data (slot.HeldBy w.key w.transfer) ≡ host_value (host_made k devices l steps) t
value-slot k devices l steps t w agree some =
    let fits : w.transfer.held ≡ held_of (transfer_completion k.past t) = agree.each t (slot.HeldBy w.key w.transfer) w.at in
    let here = ap (option_and_then (λ (hold : Hold). option_map (transfer_with hold) (transfer_completion k.past t))) (hold-of l.slots t w) in
    value-at w.transfer w.key (transfer_completion k.past t) fits (rw here at some) ∙ sym here

-- a ticket ends
module _ (k : KernelState) (devices : List (Option OpenDevice)) (l : LedgerState) (steps : List KernelStep) (t : ℕ) (w : HeldSlot l.slots t) where
  ended-made : (end : TicketEnd) → host_ended (host_made k devices l steps) t end ≡ settled (record (host_made k devices l steps) { tickets = set (map host_ticket l.slots) t (Ended end) }) w.key
  unfolding host_ended
  ended-made end = rw (ticket-at l.slots t (slot.HeldBy w.key w.transfer) w.at) refl

  pub ended-slot : (end : TicketEnd) (l' : LedgerState) (ended : Option EndedClaim) (k' : KernelState) → l' ≡ left_with (record l { slots = set l.slots t (slot.Ended end) }) (Some w.key) → ended ≡ ended_with (record l { slots = set l.slots t (slot.Ended end) }) (Some w.key) → k' ≡ without_ended k ended
      → host_made k' devices l' steps ≡ host_ended (host_made k devices l steps) t end
  unfolding settled endpoint_left
  ended-slot end l' ended k' is claim kernel = rw (ended-made end, released-as k k' ended kernel, claim, is, map-set host_ticket l.slots t (slot.Ended end)) refl

  -- it is given up
  pub abandoned-slot : (l' : LedgerState) → is_some (completion k.past t) ≡ false → l' ≡ record l { slots = set l.slots t (slot.Abandoned w.key) } → host_made k devices l' steps ≡ host_abandoned (host_made k devices l steps) t
  unfolding host_abandoned
  abandoned-slot l' open_ is = rw (open_, ticket-at l.slots t (slot.HeldBy w.key w.transfer) w.at, is, map-set host_ticket l.slots t (slot.Abandoned w.key)) refl

pub TicketsAgree-end : (past : List Event) (slots : List TicketState) (t : ℕ) (end : TicketEnd) → TicketsAgree past slots → TicketsAgree past (set slots t (slot.Ended end))
TicketsAgree-end past slots t end agree =
    record {
      count = length-set slots t (slot.Ended end) ∙ agree.count;
      each = λ u x here. elim (slice_get-set slots t u (slot.Ended end) x here) [ inl w ↦ rw w.1 tt | inr w ↦ agree.each u x w.1 ];
    }

pub TicketsAgree-abandon : (past : List Event) (slots : List TicketState) (t key : ℕ) → TicketsAgree past slots → completion past t ≡ None → TicketsAgree past (set slots t (slot.Abandoned key))
TicketsAgree-abandon past slots t key agree none =
    record {
      count = length-set slots t (slot.Abandoned key) ∙ agree.count;
      each = λ u x here. elim (slice_get-set slots t u (slot.Abandoned key) x here) [ inl w ↦ rw (w.1, w.0) none | inr w ↦ agree.each u x w.1 ];
    }

pub none-not : (o : Option Done) → is_some o ≡ false → o ≡ None
none-not None is = refl
none-not (Some done) is = absurd (cc)

-- the endpoint of an open key
pub record OpenEndpoint (endpoints : List (Option HostEndpoint)) (k : ℕ) : Type 0 where
  pub e : HostEndpoint
  pub at : value_at endpoints k ≡ Some e
  pub is_open : e.is_open ≡ true

pub open-at : (endpoints : List (Option HostEndpoint)) (k : ℕ) → key_at endpoints k ≡ true → OpenEndpoint endpoints k
open-at [] k open_ = absurd (cc)
open-at (None ∷ es) zero open_ = absurd (cc)
open-at (Some e ∷ es) zero open_ = record { e = e; at = refl; is_open = open_ }
open-at (e ∷ es) (suc k) open_ = let w = open-at es k open_ in record { e = w.e; at = w.at; is_open = w.is_open }

-- it is left
pub left-made : (k : KernelState) (devices : List (Option OpenDevice)) (l : LedgerState) (steps : List KernelStep) (key : ℕ) (w : OpenEndpoint l.endpoints key) (l' : LedgerState) (ended : Option EndedClaim) (k' : KernelState)
    → l' ≡ left_with (record l { endpoints = set l.endpoints key (Some (record w.e { is_open = false })) }) (Some key) → ended ≡ claim_of l.interfaces (map host_ticket l.slots) (set l.endpoints key (Some (record w.e { is_open = false }))) key → k' ≡ without_ended k ended → host_made k' devices l' steps ≡ host_left (host_made k devices l steps) key
unfolding host_left settled endpoint_left
left-made k devices l steps key w l' ended k' is claim kernel = rw (w.at, released-as k k' ended kernel, claim, is) refl

pub dropped : (h : HostState) (t : ℕ) → is_some (completion h.kernel.past t) ≡ true → host_abandoned h t ≡ host_ended h t Dropped
unfolding host_abandoned
dropped h t reaped = rw reaped refl

-- a turn
pub turned-more : (h : HostState) (s : KernelStep) (ss : List KernelStep) → h.steps ≡ s ∷ ss → host_turned h ≡ host_stepped (record h { steps = ss }) s
unfolding host_turned
turned-more h s ss is = ap (turned_of h) is

pub turned-none : (h : HostState) (o : Option ℕ) → h.steps ≡ [] → lowest h.kernel.past ≡ o → host_turned h ≡ reaped_of h o
unfolding host_turned
turned-none h o nil is = ap (turned_of h) nil ∙ ap (reaped_of h) is

pub turn-more : (h : HostState) (s : KernelStep) (ss : List KernelStep) → h.steps ≡ s ∷ ss → host_turn h ≡ Stepped
unfolding host_turn
turn-more h s ss is = ap (turn_for h.kernel.past) is

pub turn-none : (h : HostState) (o : Option ℕ) → h.steps ≡ [] → lowest h.kernel.past ≡ o → host_turn h ≡ reap_turn o
unfolding host_turn
turn-none h o nil is = ap (turn_for h.kernel.past) nil ∙ ap reap_turn is

-- a step leaves the steps that are left
reclaimed-steps : (h : HostState) (t : ℕ) (o : Option HostTicket) (ss : List KernelStep) → slice_get h.tickets t ≡ o → record (reclaimed_if h t o) { steps = ss } ≡ reclaimed_if (record h { steps = ss }) t o
unfolding host_ended settled endpoint_left
reclaimed-steps h t None ss at = refl
reclaimed-steps h t (Some (HeldBy hold)) ss at = refl
reclaimed-steps h t (Some (Abandoned key)) ss at = rw at refl
reclaimed-steps h t (Some (Ended end)) ss at = refl

reclaimed-same : (h : HostState) (t : ℕ) (o : Option HostTicket) → slice_get h.tickets t ≡ o → (reclaimed_if h t o).steps ≡ h.steps
unfolding host_ended settled endpoint_left
reclaimed-same h t None at = refl
reclaimed-same h t (Some (HeldBy hold)) at = refl
reclaimed-same h t (Some (Abandoned key)) at = rw at refl
reclaimed-same h t (Some (Ended end)) at = refl

came-steps : (h : HostState) (o : Option Done) (ss : List KernelStep) → record (came h o) { steps = ss } ≡ came (record h { steps = ss }) o
unfolding came
came-steps h None ss = refl
came-steps h (Some done) ss = reclaimed-steps h done.ticket (slice_get h.tickets done.ticket) ss refl

came-same : (h : HostState) (o : Option Done) → (came h o).steps ≡ h.steps
unfolding came
came-same h None = refl
came-same h (Some done) = reclaimed-same h done.ticket (slice_get h.tickets done.ticket) refl

pub stepped-steps : (h : HostState) (s : KernelStep) (ss : List KernelStep) → record (host_stepped h s) { steps = ss } ≡ host_stepped (record h { steps = ss }) s
unfolding host_stepped
stepped-steps h s ss = came-steps (record h { kernel = after_step h.kernel s }) (step_done h.kernel.past s) ss

pub stepped-same : (h : HostState) (s : KernelStep) → (host_stepped h s).steps ≡ h.steps
unfolding host_stepped
stepped-same h s = came-same (record h { kernel = after_step h.kernel s }) (step_done h.kernel.past s)

-- the steps that are left
pub rest-more : (h : HostState) (s : KernelStep) (ss : List KernelStep) → h.steps ≡ s ∷ ss → host_rest (host_stepped (record h { steps = ss }) s) ≡ host_rest h
rest-more h s ss is =
    ap (all_stepped (record (host_stepped (record h { steps = ss }) s) { steps = [] })) (stepped-same (record h { steps = ss }) s)
    ∙ ap (λ g. all_stepped g ss) (stepped-steps (record h { steps = ss }) s [])
    ∙ ap (all_stepped (record h { steps = [] })) (sym is)

pub rest-none : (h : HostState) → h.steps ≡ [] → host_rest h ≡ h
rest-none h is = ap (all_stepped (record h { steps = [] })) is ∙ ap (λ ss. record h { steps = ss }) (sym is)
