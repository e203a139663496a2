-- Control transfers that start at a host.
use Rattle.std.proofs.Common.{ℕ, zero, suc, arith, ◌≡◌, true, false, cond, List, [], ◌∷◌, ◌++◌, length, is_some, Option, Some, None, refl, ap, ◌∙◌}
use Rattle.std.specs.Prelude.{nat_le, option_and_then}
use Rattle.std.specs.Option.{option_map, option_map_or}
use Rattle.std.proofs.lemmas.List.{map-append}
use Rattle.std.proofs.lemmas.Option.{none-some}
use Rattle.usb_xfer.specs.declared.transfer.Held.{Held as HeldData}
use Rattle.usb_kernel_devices.specs.declared.step.KernelStep.{KernelStep}
use Rattle.usb_kernel.specs.declared.event.Event.{Event}
use Rattle.usb_kernel.specs.declared.event.Body.TheVariants.{Wanted, Sent}
use Rattle.usb_kernel.specs.declared.submission.Submission.{Submission}
use Rattle.usb_kernel.specs.Value.{KernelState}
use Rattle.usb_kernel.specs.Tickets.{Ticket, tickets}
use Rattle.usb_kernel.specs.Extends.{Extends}
use Rattle.usb_kernel.specs.Submissions.{IsWhole, WantsWhole, ticket_of}
use Rattle.usb_kernel.specs.Submits.{submit_refusal, submit_or_refuse, kernel_submitted}
use Rattle.usb_kernel.proofs.Places.{slice_get-append_seam}
use Rattle.usb_kernel.proofs.Completions.{completion-refused}
use Rattle.usb_kernel.proofs.Extends.{extends-event}
use Rattle.usb_kernel.specs.TransferCompletions.{transfer_completion}
use Rattle.usb_device_endpoint.specs.Handles.{KeepsOthers}
use Rattle.usb_device_endpoint.proofs.Frames.{keeps_others}
use Rattle.usb_device_endpoint.specs.Waits.{is_reaped}
use Rattle.usb_device_ledger.specs.declared.opened.OpenDevice.{OpenDevice}
use Rattle.usb_device_ledger.specs.TicketStates as slot
use Rattle.usb_device_ledger.specs.Entries.{Hold, HostTicket, HeldBy, HostEndpoint, control_endpoint}
use Rattle.usb_device_ledger.specs.Slots.{slots_with}
use Rattle.usb_device_ledger.specs.LedgerState.{LedgerState, tickets_in}
use Rattle.usb_device_tables.proofs.ValueLemmas.{value-last}
use Rattle.usb_device_host.specs.HostState.{HostState}
use Rattle.usb_device_host.specs.HostBus.{bus_of, held_as, owner_at, key_at}
use Rattle.usb_device_host.specs.HostCalls.{host_calls}
use Rattle.usb_device_host.specs.HostFacts.{host_made}
use Rattle.usb_device_host.specs.HostAwaits.{deadline_of}
use Rattle.usb_device_host.specs.Controls.{host_started}
use Rattle.usb_device_host.proofs.HostKeeps.{KeepsLine}
use Rattle.usb_device_host.proofs.EndpointLemmas.{key-kept}

-- what is asked for is the maximum, once
pub whole-once : (s : Submission) → s.maximum ≡ s.buffer.requested → IsWhole s
whole-once s asked =
    elim (nat_le 128 s.endpoint) as (λ v. WantsWhole s.maximum (cond v (Wanted s.buffer.requested) (Sent s.buffer.bytes))) [ true ↦ (0, omega (arith, asked)) | false ↦ tt ]

-- the host when one has started
pub started-made : (k k' : KernelState) (devices : List (Option OpenDevice)) (l l' : LedgerState) (steps : List KernelStep) (s : Submission) (held : HeldData) (room : ℕ) → k' ≡ kernel_submitted k s
    → l' ≡ record l { endpoints = l.endpoints ++ Some (control_endpoint s.endpoint) ∷ []; slots = l.slots ++ slot.HeldBy (length l.endpoints) (record { endpoint = s.endpoint; kind = s.kind; held = held }) ∷ []; room = room; slot_count = slots_with (tickets_in l) l.slot_count }
    → host_made k' devices l' steps ≡ host_started (host_made k devices l steps) s
unfolding host_started
started-made k k' devices l l' steps s held room kernel ledger = rw (kernel, ledger, map-append) refl

-- its endpoint is open
pub started-key : (h : HostState) (s : Submission) → key_at (host_started h s).endpoints (length h.endpoints) ≡ true
unfolding host_started
started-key h s = ap (λ (o : Option HostEndpoint). option_map_or (λ (e : HostEndpoint). e.is_open) o false) (value-last h.endpoints (Some (control_endpoint s.endpoint)))

-- and holds its ticket
pub started-held : (h : HostState) (s : Submission) → owner_at (host_started h s).tickets (length h.tickets) ≡ Some (length h.endpoints)
unfolding host_started
started-held h s =
    let hold : Hold = record { key = length h.endpoints; endpoint = s.endpoint; kind = s.kind } in
    ap (λ (o : Option HostTicket). option_map (λ (held : Hold). held.key) (option_and_then held_as o)) (slice_get-append_seam h.tickets (HeldBy hold))

-- which has the deadline, unless it was refused
entered-due : (past : List Event) (s : Submission) (refusal : Option ℕ) (d : ℕ) → s.deadline ≡ Some d → is_some (transfer_completion (submit_or_refuse (length (tickets past)) s refusal ∷ past) (length (tickets past))) ≡ false
    → deadline_of (submit_or_refuse (length (tickets past)) s refusal ∷ past) (length (tickets past)) ≡ Some d
unfolding transfer_completion
entered-due past s None d due none = ap (option_and_then (λ (t : Ticket). t.deadline)) (slice_get-append_seam (tickets past) (ticket_of s)) ∙ due
entered-due past s (Some errno) d due none = let x = rw (completion-refused past s (length (tickets past)) errno) at none in absurd (cc)

pub started-due : (h : HostState) (s : Submission) (d : ℕ) → s.deadline ≡ Some d → is_reaped host_calls (length (tickets h.kernel.past)) (host_started h s) ≡ false → deadline_of (host_started h s).kernel.past (length (tickets h.kernel.past)) ≡ Some d
unfolding host_started
started-due h s d due none = entered-due h.kernel.past s (submit_refusal h.kernel.devices h.kernel.armed s.device) d due none

-- what it leaves as it was
pub started-line : (h : HostState) (s : Submission) → KeepsLine h (host_started h s)
unfolding host_started
started-line h s = record { steps = refl; spare = refl; devices = refl }

pub started-interfaces : (h : HostState) (s : Submission) → (host_started h s).interfaces ≡ h.interfaces
unfolding host_started
started-interfaces h s = refl

pub started-past : (h : HostState) (s : Submission) → Extends h.kernel.past (host_started h s).kernel.past
unfolding host_started
started-past h s = extends-event h.kernel.past (submit_or_refuse (length (tickets h.kernel.past)) s (submit_refusal h.kernel.devices h.kernel.armed s.device))

owner-push : (ts : List HostTicket) (x : HostTicket) (t k : ℕ) → owner_at ts t ≡ Some k → owner_at (ts ++ x ∷ []) t ≡ Some k
owner-push [] x t k held = absurd (none-some k held)
owner-push (y ∷ ys) x zero k held = held
owner-push (y ∷ ys) x (suc t) k held = owner-push ys x t k held

pub started-others : (h : HostState) (s : Submission) (key : ℕ) → KeepsOthers (bus_of h) (bus_of (host_started h s)) key
unfolding host_started
started-others h s key =
    keeps_others (bus_of h) (bus_of (host_started h s)) key
    (λ t k other held. owner-push h.tickets _ t k held)
    (λ k other open_. key-kept h.endpoints (control_endpoint s.endpoint) k open_)
