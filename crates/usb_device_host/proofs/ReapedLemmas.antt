-- What is lent of tickets that are reaped and have no end.
use Rattle.std.proofs.Common.{ℕ, zero, suc, ◌≡◌, ◌≤◌, Bool, true, false, List, [], ◌∷◌, length, map, slice_get, Option, Some, None, refl, sym, ◌∙◌, ap, arith}
use Rattle.std.specs.Prelude.{◌&&◌, is_some, is_none, option_and_then, if◌then◌else◌}
use Rattle.std.specs.Option.{option_map}
use Rattle.std.proofs.lemmas.Option.{none-some, slice_get-map}
use Rattle.usb_xfer.specs.declared.transfer.Completion.{Completion}
use Rattle.usb_xfer.specs.declared.transfer.TransferData.{TransferData}
use Rattle.usb_xfer.specs.declared.transfer.Held.{Held as HeldData}
use Rattle.usb_xfer.specs.declared.transfer.Held.TheVariants as held
use Rattle.usb_xfer.specs.Transfers.{completion_held}
use Rattle.usb_kernel.specs.declared.event.Event.{Event}
use Rattle.usb_kernel_devices.specs.declared.step.KernelStep.{KernelStep}
use Rattle.usb_kernel.specs.Value.{KernelState}
use Rattle.usb_kernel.specs.Completions.{completion}
use Rattle.usb_kernel.proofs.Completions.{completion-fresh}
use Rattle.usb_kernel.specs.TransferCompletions.{transfer_completion}
use Rattle.usb_kernel.specs.Holds.{held_of, transfer_with, value_for}
use Rattle.usb_device_ledger.specs.declared.opened.OpenDevice.{OpenDevice}
use Rattle.usb_device_ledger.specs.EndedTickets.{end_at, ended_at}
use Rattle.usb_device_ledger.specs.TicketStates.{TicketState}
use Rattle.usb_device_ledger.specs.TicketStates as slot
use Rattle.usb_device_ledger.specs.LedgerState.{LedgerState, host_ticket, slot_data}
use Rattle.usb_device_host.specs.HostBus.{held_as, host_value}
use Rattle.usb_device_host.specs.HostFacts.{TicketsAgree, host_made}
use Rattle.usb_device_host.proofs.HostCallLemmas.{come-reaped}

-- what is lent of a transfer: itself, once it has its completion
abbrev pub lent_of : TransferData → Option TransferData
lent_of transfer = if is_some (completion_held transfer.held) then Some transfer else None

abbrev pub lent_at : List TicketState → ℕ → Option TransferData
lent_at slots t = option_and_then lent_of (option_and_then slot_data (slice_get slots t))

pub lent-some : (transfer : TransferData) (c : Completion) → transfer.held ≡ held.Complete c → lent_of transfer ≡ Some transfer
lent-some transfer c is = ap (λ h. if is_some (completion_held h) then Some transfer else None) is

pub lent-none : (transfer : TransferData) → ((c : Completion) → transfer.held ≡ held.Complete c → ⊥) → lent_of transfer ≡ None
lent-none transfer other = by transfer.held refl
  where
    by : (h : HeldData) → transfer.held ≡ h → lent_of transfer ≡ None
    by held.Nothing is = ap (λ h. if is_some (completion_held h) then Some transfer else None) is
    by (held.Filled buffer) is = ap (λ h. if is_some (completion_held h) then Some transfer else None) is
    by (held.Request setup buffer) is = ap (λ h. if is_some (completion_held h) then Some transfer else None) is
    by (held.Complete c) is = absurd (other c is)

lent-held : (key : ℕ) (transfer : TransferData) (o : Option Completion) → transfer.held ≡ held_of o → lent_of transfer ≡ option_map (transfer_with (record { key = key; endpoint = transfer.endpoint; kind = transfer.kind })) o
lent-held key transfer None is = ap (λ h. if is_some (completion_held h) then Some transfer else None) is
lent-held key transfer (Some c) is = lent-some transfer c is ∙ ap (λ (h : HeldData). Some (record transfer { held = h })) is

-- it is the value of the ticket
pub lent-value : (k : KernelState) (devices : List (Option OpenDevice)) (l : LedgerState) (steps : List KernelStep) (t : ℕ) → TicketsAgree k.past l.slots → lent_at l.slots t ≡ host_value (host_made k devices l steps) t
lent-value k devices l steps t agree =
    by (slice_get l.slots t) refl ∙ ap (λ o. value_for (transfer_completion k.past t) (option_and_then held_as o)) (sym (slice_get-map host_ticket l.slots t))
  where
    by : (o : Option TicketState) → slice_get l.slots t ≡ o → option_and_then lent_of (option_and_then slot_data o) ≡ value_for (transfer_completion k.past t) (option_and_then held_as (option_map host_ticket o))
    by None at = refl
    by (Some (slot.HeldBy key transfer)) at = lent-held key transfer (transfer_completion k.past t) (agree.each t (slot.HeldBy key transfer) at)
    by (Some (slot.Abandoned key)) at = refl
    by (Some (slot.Ended end)) at = refl

is_lent : (transfer : TransferData) → is_some (lent_of transfer) ≡ is_some (completion_held transfer.held)
is_lent transfer = by (is_some (completion_held transfer.held))
  where
    by : (b : Bool) → ◌≡◌ {A = Bool} (is_some (if b then Some transfer else None)) b
    by true = refl
    by false = refl

past-end : {X : Type 0} (xs : List X) (t : ℕ) → slice_get xs t ≡ None → length xs ≤ t
past-end [] t none = omega arith
past-end (x ∷ xs) zero none = absurd (none-some x (sym none))
past-end (x ∷ xs) (suc t) none = let IH = past-end xs t none in omega arith

and-true : (b : Bool) → (b && true) ≡ b
and-true true = refl
and-true false = refl

and-false : (b : Bool) → (b && false) ≡ false
and-false true = refl
and-false false = refl

-- and is there exactly where the ticket is reaped and has no end
pub lent-there : (past : List Event) (slots : List TicketState) (t : ℕ) → TicketsAgree past slots → is_some (lent_at slots t) ≡ (is_some (completion past t) && is_none (end_at (map host_ticket slots) t))
lent-there past slots t agree =
    by (slice_get slots t) refl ∙ ap (λ o. is_some (completion past t) && is_none (option_and_then ended_at o)) (sym (slice_get-map host_ticket slots t))
  where
    by : (o : Option TicketState) → slice_get slots t ≡ o → is_some (option_and_then lent_of (option_and_then slot_data o)) ≡ (is_some (completion past t) && is_none (option_and_then ended_at (option_map host_ticket o)))
    by None at =
        let beyond = past-end slots t at in
        let none = completion-fresh past t (omega (arith, agree.count, beyond)) in
        rw none refl
    by (Some (slot.HeldBy key transfer)) at = is_lent transfer ∙ come-reaped past slots t (record { key = key; transfer = transfer; at = at }) agree ∙ sym (and-true (is_some (completion past t)))
    by (Some (slot.Abandoned key)) at = let none : completion past t ≡ None = agree.each t (slot.Abandoned key) at in rw none refl
    by (Some (slot.Ended end)) at = sym (and-false (is_some (completion past t)))
