-- Tickets that come to a host.
use Rattle.std.proofs.Common.{ℕ, arith, ◌≡◌, ◌<◌, ◌+◌, List, [], ◌∷◌, ◌++◌, length, Option, Some, None, inl, inr, refl, ◌∙◌, length-append}
use Rattle.std.proofs.lemmas.List.{map-append}
use Rattle.std.proofs.lemmas.Option.{slice_get_within}
use Rattle.usb_xfer.specs.BufferState.{BufferState}
use Rattle.usb_xfer.specs.declared.transfer.TransferData.{TransferData}
use Rattle.usb_xfer.specs.declared.transfer.Held.{Held as HeldData}
use Rattle.usb_xfer.specs.Transfers.{buffer_held}
use Rattle.usb_kernel.specs.declared.event.Event.{Event}
use Rattle.usb_kernel_devices.specs.declared.step.KernelStep.{KernelStep}
use Rattle.usb_kernel.specs.declared.submission.Submission.{Submission}
use Rattle.usb_kernel.specs.Value.{KernelState}
use Rattle.usb_kernel.specs.Tickets.{tickets}
use Rattle.usb_kernel.specs.Completions.{completion}
use Rattle.usb_kernel.specs.Submissions.{body_of}
use Rattle.usb_kernel.specs.Submits.{submit_or_refuse, queued_or_refused, after_submit, armed_after_submit, after_refuse}
use Rattle.usb_kernel.proofs.Completions.{completion-submit, completion-fresh, completion-refuse, completion-refused}
use Rattle.usb_device_endpoint.specs.declared.route.Route.{Route}
use Rattle.usb_device_endpoint.specs.Routes.{submission_of}
use Rattle.usb_kernel.specs.TransferCompletions.{transfer_completion}
use Rattle.usb_kernel.specs.Holds.{held_of}
use Rattle.usb_kernel.specs.Holds.{held_at_once}
use Rattle.usb_device_ledger.specs.declared.opened.OpenDevice.{OpenDevice}
use Rattle.usb_device_ledger.specs.TicketStates.{TicketState}
use Rattle.usb_device_ledger.specs.TicketStates as slot
use Rattle.usb_device_host.specs.HostCalls.{host_submitted, host_refused}
use Rattle.usb_device_host.specs.HostFacts.{TicketsAgree, host_made}
use Rattle.usb_device_ledger.specs.Slots.{slots_with}
use Rattle.usb_device_ledger.specs.LedgerState.{LedgerState, tickets_in}
use Rattle.usb_device_ledger.proofs.ListLemmas.{slice_get-push}
use Rattle.usb_device_host.proofs.ArrivalLemmas.{Fits-same}

entered-count : (past : List Event) (n : ℕ) (s : Submission) (refusal : Option ℕ) → length (tickets (submit_or_refuse n s refusal ∷ past)) ≡ length (tickets past) + 1
entered-count past n s None = length-append (tickets past) _
entered-count past n s (Some errno) = length-append (tickets past) _

entered-others : (past : List Event) (s : Submission) (refusal : Option ℕ) (t : ℕ) → t < length (tickets past) → completion (submit_or_refuse (length (tickets past)) s refusal ∷ past) t ≡ completion past t
entered-others past s None t within = completion-submit past (length (tickets past)) s.device s.endpoint s.maximum (body_of s.endpoint s.buffer) s.buffer.room s.deadline t
entered-others past s (Some errno) t within = completion-refuse past s (length (tickets past)) errno t within

entered-held : (past : List Event) (s : Submission) (refusal : Option ℕ) → held_at_once (queued_or_refused (length (tickets past)) s refusal) ≡ held_of (transfer_completion (submit_or_refuse (length (tickets past)) s refusal ∷ past) (length (tickets past)))
unfolding transfer_completion
entered-held past s None =
    let none : completion (submit_or_refuse (length (tickets past)) s None ∷ past) (length (tickets past)) ≡ None = completion-submit past (length (tickets past)) s.device s.endpoint s.maximum (body_of s.endpoint s.buffer) s.buffer.room s.deadline (length (tickets past)) ∙ completion-fresh past (length (tickets past)) (omega arith) in
    rw none refl
entered-held past s (Some errno) = rw (completion-refused past s (length (tickets past)) errno) refl

-- there is a slot for the new ticket
pub TicketsAgree-enter : (past : List Event) (slots : List TicketState) (s : Submission) (refusal : Option ℕ) (key : ℕ) (transfer : TransferData) → TicketsAgree past slots → transfer.held ≡ held_at_once (queued_or_refused (length (tickets past)) s refusal)
    → TicketsAgree (submit_or_refuse (length (tickets past)) s refusal ∷ past) (slots ++ slot.HeldBy key transfer ∷ [])
TicketsAgree-enter past slots s refusal key transfer agree held =
    let next : List Event = submit_or_refuse (length (tickets past)) s refusal ∷ past in
    record {
      count = length-append slots (slot.HeldBy key transfer ∷ []) ∙ omega (arith, agree.count, entered-count past (length (tickets past)) s refusal);
      each = λ t x here.
          elim (slice_get-push slots (slot.HeldBy key transfer) x t here) [
            | inl w ↦ rw (w.1, w.0, agree.count) (held ∙ entered-held past s refusal)
            | inr w ↦
                let within = slice_get_within slots t x w in
                Fits-same past next t x (entered-others past s refusal t (omega (arith, agree.count))) (agree.each t x w)
          ];
    }

-- the host then
pub submitted-made : (k k' : KernelState) (devices : List (Option OpenDevice)) (l l' : LedgerState) (steps : List KernelStep) (to : Route) (deadline : Option ℕ) (t : TransferData) (b : BufferState) (held : HeldData) (room : ℕ) → buffer_held t.held ≡ Some b
    → k' ≡ record k { past = after_submit k.devices k.armed k.past (submission_of to deadline b); armed = armed_after_submit k.devices k.armed (submission_of to deadline b) }
    → l' ≡ record l { slots = l.slots ++ slot.HeldBy to.key (record t { held = held }) ∷ []; room = room; slot_count = slots_with (tickets_in l) l.slot_count } → host_made k' devices l' steps ≡ host_submitted (host_made k devices l steps) to deadline t
unfolding host_submitted
submitted-made k k' devices l l' steps to deadline t b held room some kernel ledger = rw (some, kernel, ledger, map-append) refl

pub refused-made : (k k' : KernelState) (devices : List (Option OpenDevice)) (l l' : LedgerState) (steps : List KernelStep) (to : Route) (t : TransferData) (errno : ℕ) (b : BufferState) (held : HeldData) (room : ℕ) → buffer_held t.held ≡ Some b
    → k' ≡ record k { past = after_refuse k.past (submission_of to None b) errno }
    → l' ≡ record l { slots = l.slots ++ slot.HeldBy to.key (record t { held = held }) ∷ []; room = room; slot_count = slots_with (tickets_in l) l.slot_count } → host_made k' devices l' steps ≡ host_refused (host_made k devices l steps) to t errno
unfolding host_refused
refused-made k k' devices l l' steps to t errno b held room some kernel ledger = rw (some, kernel, ledger, map-append) refl
