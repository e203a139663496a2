-- The end of a ticket leaves a device ready for submissions, and so do reaps.
use Rattle.std.proofs.Common.{◌≡◌, ℕ, Bool, true, false, cond, List, [], ◌∷◌, Option, Some, None, refl, sym, ap, ◌∙◌}
use Rattle.std.specs.Prelude.{is_some, slice_get, find}
use Rattle.std.specs.Option.{option_map}
use Rattle.std.proofs.lemmas.Option.{none-some}
use Rattle.usb_kernel_devices.specs.declared.devices.DeviceState.{DeviceState}
use Rattle.usb_kernel_devices.specs.declared.step.Armed.{Armed}
use Rattle.usb_kernel_devices.specs.declared.step.KernelCall.TheVariants as call
use Rattle.usb_kernel_devices.specs.Devices.{plugged_device}
use Rattle.usb_kernel_devices.specs.Refusals.{armed_errno, is_armed_for, disarmed, armed_left}
use Rattle.usb_kernel_devices.specs.Calls.{attach_rules, with_driver}
use Rattle.usb_kernel.specs.declared.submission.Done.{Done}
use Rattle.usb_kernel.specs.Completions.{reapable}
use Rattle.usb_kernel.specs.Steps.{after_reap}
use Rattle.usb_kernel.specs.Value.{KernelState}
use Rattle.usb_kernel.specs.Calls.{called}
use Rattle.usb_kernel.specs.Submits.{submit_refusal}
use Rattle.usb_device_ledger.specs.declared.owners.EndedClaim.{EndedClaim}
use Rattle.usb_device_ledger.specs.declared.ends.TicketEnd.{TicketEnd}
use Rattle.usb_device_ledger.specs.declared.ends.TicketEnd.TheVariants.{Taken, Reclaimed}
use Rattle.usb_device_ledger.specs.Entries.{HostTicket, HeldBy, Abandoned, Ended}
use Rattle.usb_device_ledger.specs.Releases.{claim_of}
use Rattle.usb_device_host.specs.HostState.{HostState}
use Rattle.usb_device_host.specs.Releases.{released, without_ended, endpoint_left, settled}
use Rattle.usb_device_host.specs.TicketEnds.{with_ticket, ended_as, host_ended, host_taken, reclaimed_if, came}
use Rattle.usb_device_host.specs.HostTurns.{with_past, host_reaped}
use Rattle.usb_bot_law.proofs.ReadyLemmas.{ready-released, ready-attached}

-- with what a submission to a device is refused at a kernel
abbrev pub refusal_at : KernelState → ℕ → Option ℕ
refusal_at k d = submit_refusal k.devices k.armed d

-- the end of a claim
reattached-same : (k : KernelState) (claim : EndedClaim) (d : ℕ) (b : Bool) →
    refusal_at (cond b (called (released k claim) claim.device call.Attach (attach_rules claim.number) (with_driver claim.number)) (released k claim)) d ≡ refusal_at k d
reattached-same k claim d true = ready-attached (released k claim) claim.device claim.number d ∙ ready-released k.devices k.armed claim.device claim.number d
reattached-same k claim d false = ready-released k.devices k.armed claim.device claim.number d

ended-same : (k : KernelState) (o : Option EndedClaim) (d : ℕ) → refusal_at (without_ended k o) d ≡ refusal_at k d
ended-same k None d = refl
ended-same k (Some claim) d = reattached-same k claim d claim.reattach

settled-same : (h : HostState) (key d : ℕ) → refusal_at (settled h key).kernel d ≡ refusal_at h.kernel d
unfolding settled endpoint_left
settled-same h key d = ended-same h.kernel (claim_of h.interfaces h.tickets h.endpoints key) d

ended_as-same : (h : HostState) (t : ℕ) (end : TicketEnd) (o : Option HostTicket) (d : ℕ) → refusal_at (ended_as h t end o).kernel d ≡ refusal_at h.kernel d
ended_as-same h t end None d = refl
ended_as-same h t end (Some (HeldBy hold)) d = settled-same (with_ticket h t (Ended end)) hold.key d
ended_as-same h t end (Some (Abandoned key)) d = settled-same (with_ticket h t (Ended end)) key d
ended_as-same h t end (Some (Ended before)) d = refl

reclaimed-same : (h : HostState) (t : ℕ) (o : Option HostTicket) (d : ℕ) → refusal_at (reclaimed_if h t o).kernel d ≡ refusal_at h.kernel d
unfolding host_ended
reclaimed-same h t None d = refl
reclaimed-same h t (Some (HeldBy hold)) d = refl
reclaimed-same h t (Some (Abandoned key)) d = ended_as-same h t Reclaimed (slice_get h.tickets t) d
reclaimed-same h t (Some (Ended end)) d = refl

came-same : (h : HostState) (o : Option Done) (d : ℕ) → refusal_at (came h o).kernel d ≡ refusal_at h.kernel d
unfolding came
came-same h None d = refl
came-same h (Some done) d = reclaimed-same h done.ticket (slice_get h.tickets done.ticket) d

-- a reap
pub reaped-same : (h : HostState) (u d : ℕ) → refusal_at (host_reaped h u).kernel d ≡ refusal_at h.kernel d
unfolding host_reaped
reaped-same h u d = came-same (with_past h (after_reap h.kernel.past u)) (reapable h.kernel.past u) d

-- a completion that an endpoint takes
pub taken-same : (h : HostState) (t d : ℕ) → refusal_at (host_taken h t).kernel d ≡ refusal_at h.kernel d
unfolding host_taken host_ended
taken-same h t d = ended_as-same h t Taken (slice_get h.tickets t) d

-- a submission that is not refused uses nothing up
unarmed : (armed : List Armed) (d : ℕ) → find (is_armed_for d call.Submit) armed ≡ None → disarmed armed d call.Submit ≡ armed
unarmed [] d none = refl
unarmed (a ∷ others) d none = by (is_armed_for d call.Submit a) none (unarmed others d)
  where
    by : (v : Bool) → cond v (Some a) (find (is_armed_for d call.Submit) others) ≡ None → (find (is_armed_for d call.Submit) others ≡ None → disarmed others d call.Submit ≡ others) → cond v others (a ∷ disarmed others d call.Submit) ≡ a ∷ others
    by true some rest = absurd (none-some a (sym some))
    by false none rest = ap (λ (xs : List Armed). a ∷ xs) (rest none)

no-errno : (o : Option Armed) → option_map (λ (a : Armed). a.errno) o ≡ None → o ≡ None
no-errno None none = refl
no-errno (Some a) none = absurd (none-some a.errno (sym none))

pub submitted-same : (devices : List DeviceState) (armed : List Armed) (d : ℕ) → submit_refusal devices armed d ≡ None → armed_left devices armed d call.Submit ≡ armed
submitted-same devices armed d = by (is_some (plugged_device devices d))
  where
    by : (v : Bool) → cond v (armed_errno armed d call.Submit) (Some 19) ≡ None → cond v (disarmed armed d call.Submit) armed ≡ armed
    by true none = unarmed armed d (no-errno (find (is_armed_for d call.Submit) armed) none)
    by false some = refl
