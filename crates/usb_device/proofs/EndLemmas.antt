-- A ticket that has an end keeps it.
use Rattle.std.proofs.Common.{ℕ, zero, suc, arith, ◌≡◌, ◌<◌, Bool, true, false, cond, List, [], ◌∷◌, ◌++◌, length, set, slice_get, Option, Some, None, Result, Ok, Err, inl, inr, refl, sym, ◌∙◌, ap}
use Rattle.std.specs.Prelude.{is_some, option_and_then}
use Rattle.std.proofs.lemmas.Bool.{cases_eq}
use Rattle.std.proofs.lemmas.Option.{none-some}
use Rattle.usb_xfer.specs.BufferState.{BufferState}
use Rattle.usb_xfer.specs.declared.transfer.TransferData.{TransferData}
use Rattle.usb_xfer.specs.Transfers.{buffer_held}
use Rattle.usb_error.specs.ErrorState.{ErrorState}
use Rattle.usb_kernel_devices.specs.declared.step.KernelStep.{KernelStep}
use Rattle.usb_kernel.specs.declared.submission.Done.{Done}
use Rattle.usb_kernel.specs.Tickets.{tickets}
use Rattle.usb_kernel.specs.declared.submission.Submission.{Submission}
use Rattle.usb_kernel.specs.Completions.{completion, reapable}
use Rattle.usb_kernel.specs.Steps.{after_step, step_done, after_reap}
use Rattle.usb_kernel.proofs.Places.{slice_get-append_left, slice_get-set_other}
use Rattle.usb_device_endpoint.specs.declared.route.Route.{Route}
use Rattle.usb_device_ledger.specs.declared.ends.TicketEnd.{TicketEnd}
use Rattle.usb_device_ledger.specs.declared.ends.TicketEnd.TheVariants.{Taken, Dropped, Reclaimed}
use Rattle.usb_device_tables.specs.History.{value_at}
use Rattle.usb_device_ledger.specs.declared.opened.OpenDevice.{OpenDevice}
use Rattle.usb_device_ledger.specs.Entries.{HostTicket, HostEndpoint, ClaimedInterface, fresh_interface, HeldBy, Abandoned, Ended}
use Rattle.usb_device_host.specs.HostState.{HostState}
use Rattle.usb_device_ledger.specs.EndedTickets.{end_at, ended_at}
use Rattle.usb_device_host.proofs.TurnKeeps.{IsKept, kept-turned, kept-awaited}
use Rattle.usb_device.specs.EndLaws.{KeepsEnds, EndsStay}
use Rattle.usb_device_host.specs.Releases.{endpoint_left, settled, owner_gone}
use Rattle.usb_device_host.specs.TicketEnds.{ended_as, host_ended, host_taken, given_up, host_abandoned, reclaimed_if, came}
use Rattle.usb_device_host.specs.HostTurns.{host_stepped, host_reaped, host_turned, all_stepped, host_rest}
use Rattle.usb_device_host.specs.HostAwaits.{host_awaited}
use Rattle.usb_device_host.specs.Controls.{host_started}
use Rattle.usb_device_host.specs.HostCalls.{submitted_with, host_submitted, refused_with, host_refused, host_discarded, closed_if, host_left}
use Rattle.usb_device_host.specs.Finishes.{discarded_below, reaped_below, finished}
use Rattle.usb_device_host.specs.Handles.{handle_added, handle_cloned, handle_gone, handle_closed}
use Rattle.usb_device_ledger.specs.Owners.{has_living}
use Rattle.usb_device_host.specs.OnDevices.{detached_on, host_detached, attached_on, host_attached, reset_on, host_reset, configured_on, host_configured, speed_asked_on, host_speed_asked}
use Rattle.usb_device_host.specs.OnInterfaces.{alt_setting_asked, alt_setting_on, alt_setting_set}
use Rattle.usb_device_host.specs.Opens.{open_tried, opened_by, host_opened}
use Rattle.usb_device_host.specs.InterfaceClaims.{claim_tried, kernel_claimed, claimed_by, claimed_on, host_claimed}
use Rattle.usb_device_host.specs.EndpointOpens.{asked_on, host_asked}

same : (h : HostState) → KeepsEnds h h
same h t end at = at

then : (first second third : HostState) → KeepsEnds first second → KeepsEnds second third → KeepsEnds first third
then first second third a b t end at = b t end (a t end at)

-- a write of a ticket that has none, and a new ticket
ends-set : (tickets : List HostTicket) (u : ℕ) (x y : HostTicket) → slice_get tickets u ≡ Some x → ended_at x ≡ None → (t : ℕ) (end : TicketEnd) → end_at tickets t ≡ Some end → end_at (set tickets u y) t ≡ Some end
ends-set tickets u x y here none t end at =
    elim (cases_eq t u) [
      | inl is ↦ absurd (none-some end (sym none ∙ sym (ap (option_and_then ended_at) here) ∙ (ap (end_at tickets) (sym is) ∙ at)))
      | inr apart ↦ ap (option_and_then ended_at) (slice_get-set_other tickets u t y apart) ∙ at
    ]

end-within : (tickets : List HostTicket) (t : ℕ) (end : TicketEnd) → end_at tickets t ≡ Some end → t < length tickets
end-within [] t end at = absurd (none-some end at)
end-within (x ∷ xs) zero end at = omega arith
end-within (x ∷ xs) (suc t) end at = let IH = end-within xs t end at in omega arith

ends-push : (tickets : List HostTicket) (x : HostTicket) (t : ℕ) (end : TicketEnd) → end_at tickets t ≡ Some end → end_at (tickets ++ x ∷ []) t ≡ Some end
ends-push tickets x t end at = ap (option_and_then ended_at) (slice_get-append_left tickets (x ∷ []) t (end-within tickets t end at)) ∙ at

-- tickets that end
ended_as-ends : (h : HostState) (u : ℕ) (end : TicketEnd) (o : Option HostTicket) → slice_get h.tickets u ≡ o → KeepsEnds h (ended_as h u end o)
unfolding settled endpoint_left
ended_as-ends h u end None here = same h
ended_as-ends h u end (Some (HeldBy hold)) here = ends-set h.tickets u (HeldBy hold) (Ended end) here refl
ended_as-ends h u end (Some (Abandoned key)) here = ends-set h.tickets u (Abandoned key) (Ended end) here refl
ended_as-ends h u end (Some (Ended before)) here = same h

ended-ends : (h : HostState) (u : ℕ) (end : TicketEnd) → KeepsEnds h (host_ended h u end)
unfolding host_ended
ended-ends h u end = ended_as-ends h u end (slice_get h.tickets u) refl

taken-ends : (h : HostState) (t : ℕ) → KeepsEnds h (host_taken h t)
unfolding host_taken
taken-ends h t = ended-ends h t Taken

given_up-ends : (h : HostState) (u : ℕ) (o : Option HostTicket) → slice_get h.tickets u ≡ o → KeepsEnds h (given_up h u o)
given_up-ends h u None here = same h
given_up-ends h u (Some (HeldBy hold)) here = ends-set h.tickets u (HeldBy hold) (Abandoned hold.key) here refl
given_up-ends h u (Some (Abandoned key)) here = same h
given_up-ends h u (Some (Ended before)) here = same h

abandoned-by : (h : HostState) (t : ℕ) (b : Bool) → KeepsEnds h (cond b (host_ended h t Dropped) (given_up h t (slice_get h.tickets t)))
abandoned-by h t true = ended-ends h t Dropped
abandoned-by h t false = given_up-ends h t (slice_get h.tickets t) refl

abandoned-ends : (h : HostState) (t : ℕ) → KeepsEnds h (host_abandoned h t)
unfolding host_abandoned
abandoned-ends h t = abandoned-by h t (is_some (completion h.kernel.past t))

-- completions that come, steps and turns
reclaimed-ends : (h : HostState) (t : ℕ) (o : Option HostTicket) → KeepsEnds h (reclaimed_if h t o)
reclaimed-ends h t None = same h
reclaimed-ends h t (Some (HeldBy hold)) = same h
reclaimed-ends h t (Some (Abandoned key)) = ended-ends h t Reclaimed
reclaimed-ends h t (Some (Ended before)) = same h

came-ends : (h : HostState) (o : Option Done) → KeepsEnds h (came h o)
unfolding came
came-ends h None = same h
came-ends h (Some done) = reclaimed-ends h done.ticket (slice_get h.tickets done.ticket)

stepped-ends : (h : HostState) (s : KernelStep) → KeepsEnds h (host_stepped h s)
unfolding host_stepped
stepped-ends h s = came-ends (record h { kernel = after_step h.kernel s }) (step_done h.kernel.past s)

reaped-ends : (h : HostState) (t : ℕ) → KeepsEnds h (host_reaped h t)
unfolding host_reaped
reaped-ends h t = came-ends (record h { kernel = record h.kernel { past = after_reap h.kernel.past t } }) (reapable h.kernel.past t)

all_stepped-ends : (h : HostState) (steps : List KernelStep) → KeepsEnds h (all_stepped h steps)
all_stepped-ends h [] = same h
all_stepped-ends h (s ∷ ss) = then h (host_stepped h s) (all_stepped (host_stepped h s) ss) (stepped-ends h s) (all_stepped-ends (host_stepped h s) ss)

rest-ends : (h : HostState) → KeepsEnds h (host_rest h)
rest-ends h = all_stepped-ends (record h { steps = [] }) h.steps

-- a control transfer that starts
started-ends : (h : HostState) (s : Submission) → KeepsEnds h (host_started h s)
unfolding host_started
started-ends h s = ends-push h.tickets (HeldBy (record { key = length h.endpoints; endpoint = s.endpoint; kind = s.kind }))

-- calls of endpoints
submitted-by : (h : HostState) (to : Route) (deadline : Option ℕ) (t : TransferData) (o : Option BufferState) → KeepsEnds h (submitted_with h to deadline t o)
submitted-by h to deadline t None = same h
submitted-by h to deadline t (Some b) = ends-push h.tickets (HeldBy (record { key = to.key; endpoint = t.endpoint; kind = t.kind }))

submitted-ends : (h : HostState) (to : Route) (deadline : Option ℕ) (t : TransferData) → KeepsEnds h (host_submitted h to deadline t)
unfolding host_submitted
submitted-ends h to deadline t = submitted-by h to deadline t (buffer_held t.held)

refused-by : (h : HostState) (to : Route) (t : TransferData) (errno : ℕ) (o : Option BufferState) → KeepsEnds h (refused_with h to t errno o)
refused-by h to t errno None = same h
refused-by h to t errno (Some b) = ends-push h.tickets (HeldBy (record { key = to.key; endpoint = t.endpoint; kind = t.kind }))

refused-ends : (h : HostState) (to : Route) (t : TransferData) (errno : ℕ) → KeepsEnds h (host_refused h to t errno)
unfolding host_refused
refused-ends h to t errno = refused-by h to t errno (buffer_held t.held)

discarded-ends : (h : HostState) (t : ℕ) → KeepsEnds h (host_discarded h t)
unfolding host_discarded
discarded-ends h t u end at = at

-- turns, and a wait for a control transfer
ends_kept : IsKept KeepsEnds
ends_kept =
    record {
      same = same;
      more = then;
      step = λ h s ss is. stepped-ends (record h { steps = ss }) s;
      reap = reaped-ends;
      discard = discarded-ends;
      idle = λ h until. same h;
    }

turned-ends : (h : HostState) → KeepsEnds h (host_turned h)
turned-ends h = kept-turned KeepsEnds ends_kept h

awaited-ends : (h : HostState) (t deadline : ℕ) → KeepsEnds h (host_awaited h t deadline)
awaited-ends h t deadline = kept-awaited KeepsEnds ends_kept h t deadline

closed-by : (h : HostState) (k : ℕ) (o : Option HostEndpoint) → KeepsEnds h (closed_if h k o)
unfolding settled endpoint_left
closed-by h k None = same h
closed-by h k (Some e) = λ t end at. at

left-ends : (h : HostState) (k : ℕ) → KeepsEnds h (host_left h k)
unfolding host_left
left-ends h k = closed-by h k (value_at h.endpoints k)

-- calls of devices and interfaces
opened-by-ends : (h : HostState) (r : Result OpenDevice ErrorState) → KeepsEnds h (opened_by h r)
opened-by-ends h (Err error) = same h
opened-by-ends h (Ok o) = λ t end at. at

opened-ends : (h : HostState) (bus address : ℕ) → KeepsEnds h (host_opened h bus address)
unfolding host_opened
opened-ends h bus address = let step = open_tried bus address h.kernel in opened-by-ends (record h { kernel = step.kernel }) step.answer

claimed_by-ends : (h : HostState) (c : ClaimedInterface) (r : Result (Unit {0}) ErrorState) → KeepsEnds h (claimed_by h c r)
claimed_by-ends h c (Err error) = same h
claimed_by-ends h c (Ok done) = λ t end at. at

claimed-by : (h : HostState) (key number : ℕ) (reattach : Bool) (o : Option OpenDevice) → KeepsEnds h (claimed_on h key number reattach o)
claimed-by h key number reattach None = same h
claimed-by h key number reattach (Some o) = claimed_by-ends (record h { kernel = kernel_claimed h.kernel o number reattach }) (fresh_interface key o.device number reattach) (claim_tried h o number reattach)

claimed-ends : (h : HostState) (key number : ℕ) (reattach : Bool) → KeepsEnds h (host_claimed h key number reattach)
unfolding host_claimed
claimed-ends h key number reattach = claimed-by h key number reattach (value_at h.devices key)

handle-by : (h : HostState) (i : ℕ) (o : Option ClaimedInterface) → KeepsEnds h (handle_gone h i o)
unfolding owner_gone
handle-by h i None = same h
handle-by h i (Some c) = λ t end at. at

handle-ends : (h : HostState) (i : ℕ) → KeepsEnds h (handle_closed h i)
unfolding handle_closed
handle-ends h i = handle-by h i (value_at h.interfaces i)

cloned-by : (h : HostState) (i : ℕ) (o : Option ClaimedInterface) → KeepsEnds h (handle_added h i o)
cloned-by h i None = same h
cloned-by h i (Some c) = λ t end at. at

cloned-ends : (h : HostState) (i : ℕ) → KeepsEnds h (handle_cloned h i)
unfolding handle_cloned
cloned-ends h i = cloned-by h i (value_at h.interfaces i)

setting-unless : (h : HostState) (i setting : ℕ) (c : ClaimedInterface) (living : Bool) → KeepsEnds h (cond living h (alt_setting_asked h i setting c))
setting-unless h i setting c true = same h
setting-unless h i setting c false = λ t end at. at

setting-by : (h : HostState) (i setting : ℕ) (o : Option ClaimedInterface) → KeepsEnds h (alt_setting_on h i setting o)
setting-by h i setting None = same h
setting-by h i setting (Some c) = setting-unless h i setting c (has_living h.tickets h.endpoints i)

setting-ends : (h : HostState) (i setting : ℕ) → KeepsEnds h (alt_setting_set h i setting)
unfolding alt_setting_set
setting-ends h i setting = setting-by h i setting (value_at h.interfaces i)

configured-by : (h : HostState) (key value : ℕ) (o : Option OpenDevice) → KeepsEnds h (configured_on h key value o)
configured-by h key value None = same h
configured-by h key value (Some o) = λ t end at. at

configured-ends : (h : HostState) (key value : ℕ) → KeepsEnds h (host_configured h key value)
unfolding host_configured
configured-ends h key value = configured-by h key value (value_at h.devices key)

reset-by : (h : HostState) (o : Option OpenDevice) → KeepsEnds h (reset_on h o)
reset-by h None = same h
reset-by h (Some o) = λ t end at. at

reset-ends : (h : HostState) (key : ℕ) → KeepsEnds h (host_reset h key)
unfolding host_reset
reset-ends h key = reset-by h (value_at h.devices key)

detached-by : (h : HostState) (number : ℕ) (o : Option OpenDevice) → KeepsEnds h (detached_on h number o)
detached-by h number None = same h
detached-by h number (Some o) = λ t end at. at

detached-ends : (h : HostState) (key number : ℕ) → KeepsEnds h (host_detached h key number)
unfolding host_detached
detached-ends h key number = detached-by h number (value_at h.devices key)

attached-by : (h : HostState) (number : ℕ) (o : Option OpenDevice) → KeepsEnds h (attached_on h number o)
attached-by h number None = same h
attached-by h number (Some o) = λ t end at. at

attached-ends : (h : HostState) (key number : ℕ) → KeepsEnds h (host_attached h key number)
unfolding host_attached
attached-ends h key number = attached-by h number (value_at h.devices key)

speed-by : (h : HostState) (o : Option OpenDevice) → KeepsEnds h (speed_asked_on h o)
speed-by h None = same h
speed-by h (Some o) = λ t end at. at

speed-ends : (h : HostState) (key : ℕ) → KeepsEnds h (host_speed_asked h key)
unfolding host_speed_asked
speed-ends h key = speed-by h (value_at h.devices key)

asked-by : (h : HostState) (key : ℕ) (o : Option OpenDevice) → KeepsEnds h (asked_on h key o)
asked-by h key None = same h
asked-by h key (Some o) = λ t end at. at

asked-ends : (h : HostState) (key : ℕ) → KeepsEnds h (host_asked h key)
unfolding host_asked
asked-ends h key = asked-by h key (value_at h.devices key)

-- the end
discarded_below-ends : (h : HostState) (n : ℕ) → KeepsEnds h (discarded_below h n)
discarded_below-ends h zero = same h
discarded_below-ends h (suc n) = then h (discarded_below h n) (host_discarded (discarded_below h n) n) (discarded_below-ends h n) (discarded-ends (discarded_below h n) n)

reaped_below-ends : (h : HostState) (n : ℕ) → KeepsEnds h (reaped_below h n)
reaped_below-ends h zero = same h
reaped_below-ends h (suc n) = then h (reaped_below h n) (host_reaped (reaped_below h n) n) (reaped_below-ends h n) (reaped-ends (reaped_below h n) n)

finished-ends : (h : HostState) → KeepsEnds h (finished h)
unfolding finished
finished-ends h =
    let n = length (tickets h.kernel.past) in
    then h (discarded_below h n) (reaped_below (discarded_below h n) n) (discarded_below-ends h n) (reaped_below-ends (discarded_below h n) n)

pub ends_stay : EndsStay
ends_stay =
    record {
      step = stepped-ends;
      rest = rest-ends;
      turn = turned-ends;
      reap = reaped-ends;
      timer = λ h t end at. at;
      idle = λ h until t end at. at;
      submit = submitted-ends;
      refuse = refused-ends;
      start_control = started-ends;
      await_ticket = awaited-ends;
      discard = discarded-ends;
      take = taken-ends;
      abandon = abandoned-ends;
      leave = left-ends;
      open_device = opened-ends;
      clone_device = λ h device t end at. at;
      close_device = λ h device t end at. at;
      claim = claimed-ends;
      clone_handle = cloned-ends;
      close_handle = handle-ends;
      set_alt_setting = setting-ends;
      set_configuration = configured-ends;
      reset = reset-ends;
      detach = detached-ends;
      attach = attached-ends;
      ask_speed = speed-ends;
      clear_halt = λ h device endpoint t end at. at;
      ask = asked-ends;
      open_endpoint = λ h interface address t end at. at;
      finish = finished-ends;
    }
