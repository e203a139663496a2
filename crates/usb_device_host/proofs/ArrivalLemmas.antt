-- Completions that arrive at a host.
use Rattle.std.proofs.Common.{ℕ, ◌≡◌, List, length, map, set, slice_get, Option, Some, None, inl, inr, refl, sym, ◌∙◌, ap, length-set}
use Rattle.std.proofs.lemmas.Bool.{eq-eqb, ne_eqb}
use Rattle.std.proofs.lemmas.Option.{none-some}
use Rattle.std.proofs.lemmas.List.{map-set}
use Rattle.usb_kernel.specs.declared.event.Event.{Event}
use Rattle.usb_kernel_devices.specs.declared.step.KernelStep.{KernelStep}
use Rattle.usb_kernel.specs.declared.submission.Done.{Done}
use Rattle.usb_kernel_devices.specs.declared.devices.DeviceState.{DeviceState}
use Rattle.usb_kernel.specs.Value.{KernelState}
use Rattle.usb_kernel.specs.Completions.{completion, reapable}
use Rattle.usb_kernel.specs.Timers.{timer_turned}
use Rattle.usb_kernel.specs.Steps.{stepped, step_done, after_reap, after_discard}
use Rattle.usb_kernel.proofs.Completions.{tickets-turned, completion-turned, completion-step, tickets-step, completion-reap, tickets-reap, completion-discard, tickets-discard}
use Rattle.usb_kernel.specs.TransferCompletions.{transfer_completion}
use Rattle.usb_kernel.specs.TransferCompletions.{CompletesOnly}
use Rattle.usb_device_ledger.specs.declared.ends.TicketEnd.TheVariants.{Reclaimed}
use Rattle.usb_device_ledger.specs.declared.opened.OpenDevice.{OpenDevice}
use Rattle.usb_device_ledger.specs.declared.owners.EndedClaim.{EndedClaim}
use Rattle.usb_device_ledger.specs.TicketStates.{TicketState}
use Rattle.usb_device_ledger.specs.TicketStates as slot
use Rattle.usb_device_ledger.specs.Entries.{Ended}
use Rattle.usb_device_host.specs.HostState.{HostState}
use Rattle.usb_device_host.specs.HostFacts.{TicketsAgree, Fits, host_made}
use Rattle.usb_device_ledger.specs.LedgerState.{LedgerState, host_ticket, slot_with, abandoned_key, ended_with, left_with}
use Rattle.usb_device_host.specs.Releases.{without_ended, endpoint_left, settled}
use Rattle.usb_device_host.specs.TicketEnds.{came, host_ended}
use Rattle.usb_device_ledger.proofs.ListLemmas.{slice_get-set}
use Rattle.usb_device_ledger.proofs.LedgerLemmas.{ticket-at, tickets-same}
use Rattle.usb_device_host.proofs.KernelFrames.{released-as}

pub Fits-same : (past next : List Event) (t : ℕ) (s : TicketState) → completion next t ≡ completion past t → Fits past t s → Fits next t s
unfolding transfer_completion
Fits-same past next t (slot.HeldBy key transfer) same fits = rw same fits
Fits-same past next t (slot.Abandoned key) same fits = same ∙ fits
Fits-same past next t (slot.Ended end) same fits = tt

Fits-with : (next : List Event) (done : Done) (t : ℕ) (s : TicketState) → completion next t ≡ Some done → Fits next t (slot_with done s)
unfolding transfer_completion
Fits-with next done t (slot.HeldBy key transfer) has = rw has refl
Fits-with next done t (slot.Abandoned key) has = tt
Fits-with next done t (slot.Ended end) has = tt

pub TicketsAgree-none : (past next : List Event) (slots : List TicketState) → TicketsAgree past slots → CompletesOnly past next None → TicketsAgree next slots
TicketsAgree-none past next slots agree comes =
    record { count = agree.count ∙ sym comes.count; each = λ t s at. Fits-same past next t s (comes.each t) (agree.each t s at) }

pub TicketsAgree-some : (past next : List Event) (slots : List TicketState) (done : Done) (s : TicketState) → TicketsAgree past slots → CompletesOnly past next (Some done) → slice_get slots done.ticket ≡ Some s → TicketsAgree next (set slots done.ticket (slot_with done s))
TicketsAgree-some past next slots done s agree comes at =
    record {
      count = length-set slots done.ticket (slot_with done s) ∙ agree.count ∙ sym comes.count;
      each = λ t x here.
          elim (slice_get-set slots done.ticket t (slot_with done s) x here) [
            | inl w ↦
                let has : completion next t ≡ Some done = comes.each t ∙ rw (eq-eqb done.ticket t (sym w.0)) refl in
                rw w.1 (Fits-with next done t s has)
            | inr w ↦
                let same : completion next t ≡ completion past t = comes.each t ∙ rw (ne_eqb done.ticket t (λ z. w.0 (sym z))) refl in
                Fits-same past next t x same (agree.each t x w.1)
          ];
    }

-- a host at which a completion arrives
module _ (k : KernelState) (devices : List (Option OpenDevice)) (l : LedgerState) (steps : List KernelStep) (done : Done) where
  came-held : (key : ℕ) (s : TicketState) → slice_get l.slots done.ticket ≡ Some s → abandoned_key s ≡ None → came (host_made k devices l steps) (Some done) ≡ host_made k devices l steps
  unfolding came
  came-held key (slot.HeldBy j transfer) at none = rw (ticket-at l.slots done.ticket (slot.HeldBy j transfer) at) refl
  came-held key (slot.Abandoned j) at none = absurd (none-some j (sym none))
  came-held key (slot.Ended end) at none = rw (ticket-at l.slots done.ticket (slot.Ended end) at) refl

  came-reclaimed : (key : ℕ) → slice_get l.slots done.ticket ≡ Some (slot.Abandoned key)
      → came (host_made k devices l steps) (Some done) ≡ settled (record (host_made k devices l steps) { tickets = set (map host_ticket l.slots) done.ticket (Ended Reclaimed) }) key
  unfolding came host_ended
  came-reclaimed key at = rw (ticket-at l.slots done.ticket (slot.Abandoned key) at, ticket-at l.slots done.ticket (slot.Abandoned key) at) refl

  pub came-slot : (s : TicketState) (l' : LedgerState) (ended : Option EndedClaim) (k' : KernelState) → slice_get l.slots done.ticket ≡ Some s → l' ≡ left_with (record l { slots = set l.slots done.ticket (slot_with done s) }) (abandoned_key s) → ended ≡ ended_with (record l { slots = set l.slots done.ticket (slot_with done s) }) (abandoned_key s) → k' ≡ without_ended k ended
      → host_made k' devices l' steps ≡ came (host_made k devices l steps) (Some done)
  unfolding settled endpoint_left
  came-slot (slot.HeldBy key transfer) l' ended k' at is claim kernel =
      let same = tickets-same l.slots done.ticket (slot.HeldBy key transfer) (slot_with done (slot.HeldBy key transfer)) at refl in
      rw (released-as k k' ended kernel, claim, is, same) (sym (came-held key (slot.HeldBy key transfer) at refl))
  came-slot (slot.Abandoned key) l' ended k' at is claim kernel =
      rw (came-reclaimed key at, released-as k k' ended kernel, claim, is, map-set host_ticket l.slots done.ticket (slot.Ended Reclaimed)) refl
  came-slot (slot.Ended end) l' ended k' at is claim kernel =
      let same = tickets-same l.slots done.ticket (slot.Ended end) (slot_with done (slot.Ended end)) at refl in
      rw (released-as k k' ended kernel, claim, is, same) (sym (came-held 0 (slot.Ended end) at refl))

-- an entry that goes leaves the slots
pub left-slots : (l : LedgerState) (o : Option ℕ) → (left_with l o).slots ≡ l.slots
left-slots l None = refl
left-slots l (Some key) = refl

pub came-none : (h : HostState) → came h None ≡ h
unfolding came
came-none h = refl

-- kernels with the same parts are the same
pub kernel-same : (a b : KernelState) → a.past ≡ b.past → a.devices ≡ b.devices → a.clock ≡ b.clock → a.armed ≡ b.armed → a.spare ≡ b.spare → a ≡ b
kernel-same a b past devices clock armed spare =
    ap (λ x. record a { past = x }) past
    ∙ ap (λ x. record a { past = b.past; devices = x }) devices
    ∙ ap (λ x. record a { past = b.past; devices = b.devices; clock = x }) clock
    ∙ ap (λ x. record a { past = b.past; devices = b.devices; clock = b.clock; armed = x }) armed
    ∙ ap (λ x. record b { spare = x }) spare

-- the completions of a step, of a reap and of a discard
pub CompletesOnly-step : (devices : List DeviceState) (clock : ℕ) (past : List Event) (s : KernelStep) → CompletesOnly past (stepped devices clock past s) (step_done past s)
CompletesOnly-step devices clock past s = record { count = ap length (tickets-step devices clock past s); each = completion-step devices clock past s }

pub CompletesOnly-timer : (clock : ℕ) (past : List Event) → CompletesOnly past (timer_turned clock past) None
CompletesOnly-timer clock past = record { count = ap length (tickets-turned clock past); each = completion-turned clock past }

pub CompletesOnly-reap : (past : List Event) (t : ℕ) → CompletesOnly past (after_reap past t) (reapable past t)
CompletesOnly-reap past t = record { count = ap length (tickets-reap past t); each = completion-reap past t }

pub CompletesOnly-discard : (past : List Event) (t : ℕ) → CompletesOnly past (after_discard past t) None
CompletesOnly-discard past t = record { count = ap length (tickets-discard past t); each = completion-discard past t }

pub TicketsAgree-at : (past next : List Event) (slots : List TicketState) → next ≡ past → TicketsAgree past slots → TicketsAgree next slots
TicketsAgree-at past next slots same agree = rw same agree
