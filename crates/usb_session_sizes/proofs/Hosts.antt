-- A host stays bounded over its turns, over the calls of endpoints, and over those of handles.
use Rattle.std.proofs.Common.{ℕ, zero, suc, ◌≤◌, ◌≡◌, List, [], ◌∷◌, length, Option, Some, None, ap, sym, subst}
use Rattle.std.specs.Prelude.{max}
use Rattle.std.proofs.lemmas.Bool.{cond_both}
use Rattle.usb_xfer.specs.BufferState.{BufferState}
use Rattle.usb_xfer.specs.Transfers.{data_held}
use Rattle.usb_xfer.specs.declared.transfer.TransferData.{TransferData}
use Rattle.usb_kernel_devices.specs.Claims.{no_rules}
use Rattle.usb_kernel_devices.specs.Devices.{unplugged}
use Rattle.usb_kernel_devices.specs.declared.step.KernelCall.TheVariants as call
use Rattle.usb_kernel_devices.specs.declared.step.KernelStep.{KernelStep}
use Rattle.usb_kernel.specs.declared.submission.Done.{Done}
use Rattle.usb_kernel.specs.Calls.{called, errno_of, reset_by, after_reset}
use Rattle.usb_kernel.specs.Completions.{reapable}
use Rattle.usb_kernel.specs.Steps.{after_step, after_reap, step_done}
use Rattle.usb_kernel.specs.Submits.{submit_refusal}
use Rattle.usb_kernel.specs.Tickets.{tickets}
use Rattle.usb_kernel.specs.Value.{KernelState}
use Rattle.usb_device_tables.specs.History.{value_at}
use Rattle.usb_device_endpoint.specs.BusState.{BusState}
use Rattle.usb_device_endpoint.specs.EndpointState.{EndpointState, route_of}
use Rattle.usb_device_endpoint.specs.Routes.{submission_of}
use Rattle.usb_device_endpoint.specs.Submits.{is_valid, transfer_by, entered}
use Rattle.usb_device_endpoint.specs.Closes.{all_discarded, all_abandoned, after_close}
use Rattle.usb_device_endpoint.specs.Waits.{waited}
use Rattle.usb_device_endpoint.specs.Blocking.{blocked}
use Rattle.usb_device_ledger.specs.declared.opened.OpenDevice.{OpenDevice}
use Rattle.usb_device_host.specs.HostState.{HostState}
use Rattle.usb_device_host.specs.TicketEnds.{host_taken, host_abandoned, came}
use Rattle.usb_device_host.specs.HostTurns.{with_past, host_stepped, host_reaped, all_stepped, host_rest}
use Rattle.usb_device_host.specs.HostCalls.{host_submitted, host_refused, host_discarded, host_idled, host_left, host_halt_cleared, host_calls}
use Rattle.usb_device_host.specs.HostAwaits.{host_awaited}
use Rattle.usb_device_host.specs.Controls.{control_submission, host_started, request_started}
use Rattle.usb_device_host.specs.Finishes.{discarded_below, reaped_below, finished}
use Rattle.usb_device_host.specs.OnDevices.{host_reset, reset_on}
use Rattle.usb_device_host.proofs.HostFrames.{came-is}
use Rattle.usb_device_host.proofs.CallFrames.{bus-taken, bus-abandoned, bus-left, keeps-taken, keeps-abandoned, line-left}
use Rattle.usb_device_host.proofs.TurnKeeps.{IsKept, kept-waited, kept-blocked, kept-awaited}
use Rattle.usb_session_sizes.specs.Bounds.{AreBounded}
use Rattle.usb_session_sizes.proofs.Journals.{IsBufferSized, IsStepBounded, discard-bounded, reap-bounded, timer-bounded, step-bounded, submission-bounded}

-- the steps of a line are so
abbrev pub AreStepsSized : List KernelStep → Type 0
AreStepsSized [] = Unit {0}
AreStepsSized (s ∷ ss) = IsStepBounded s × AreStepsSized ss

-- the journal of a host is bounded, and so are the steps of the line that are left
abbrev pub IsHostBounded : HostState → Type 0
IsHostBounded h = AreBounded h.kernel.past × AreStepsSized h.steps

-- so it stays
abbrev pub StaysBounded : HostState → HostState → Type 0
StaysBounded old new = IsHostBounded old → IsHostBounded new

-- where journal and steps are as they were
pub aside : (old new : HostState) → new.kernel.past ≡ old.kernel.past → new.steps ≡ old.steps → StaysBounded old new
aside old new past steps is = (subst AreBounded (sym past) is.0, subst AreStepsSized (sym steps) is.1)

pub past-of : {a b : BusState} → a ≡ b → a.past ≡ b.past
past-of same = ap (λ (b : BusState). b.past) same

-- a completion comes
came-bounded : (h : HostState) (o : Option Done) → StaysBounded h (came h o)
came-bounded h o = aside h (came h o) (ap (λ (g : HostState). g.kernel.past) (came-is h o)) (ap (λ (g : HostState). g.steps) (came-is h o))

-- steps and reaps, discards, and the turn of the timer
stepped-bounded : (h : HostState) (s : KernelStep) → IsStepBounded s → StaysBounded h (host_stepped h s)
unfolding host_stepped
stepped-bounded h s sized is =
    came-bounded (record h { kernel = after_step h.kernel s }) (step_done h.kernel.past s)
    (step-bounded h.kernel.devices h.kernel.clock h.kernel.past s sized is.0, is.1)

reaped-bounded : (h : HostState) (t : ℕ) → StaysBounded h (host_reaped h t)
unfolding host_reaped
reaped-bounded h t is =
    came-bounded (with_past h (after_reap h.kernel.past t)) (reapable h.kernel.past t)
    (reap-bounded h.kernel.past t is.0, is.1)

pub discarded-bounded : (h : HostState) (t : ℕ) → StaysBounded h (host_discarded h t)
unfolding host_discarded
discarded-bounded h t is = (discard-bounded h.kernel.past t is.0, is.1)

idled-bounded : (h : HostState) (until : ℕ) → StaysBounded h (host_idled h until)
idled-bounded h until is = (timer-bounded (max h.kernel.clock until) h.kernel.past is.0, is.1)

all_stepped-bounded : (h : HostState) (ss : List KernelStep) → AreStepsSized ss → StaysBounded h (all_stepped h ss)
all_stepped-bounded h [] sized is = is
all_stepped-bounded h (s ∷ ss) sized is = all_stepped-bounded (host_stepped h s) ss sized.1 (stepped-bounded h s sized.0 is)

pub rest-bounded : (h : HostState) → StaysBounded h (host_rest h)
rest-bounded h is = all_stepped-bounded (record h { steps = [] }) h.steps is.1 (is.0, tt)

-- a turn takes the first step of the line
turn-bounded : (h : HostState) (s : KernelStep) (ss : List KernelStep) → h.steps ≡ s ∷ ss → StaysBounded h (host_stepped (record h { steps = ss }) s)
turn-bounded h s ss at is =
    let sized = subst AreStepsSized at is.1 in
    stepped-bounded (record h { steps = ss }) s sized.0 (is.0, sized.1)

stays : IsKept StaysBounded
stays =
    record {
      same = λ h is. is;
      more = λ a b c first second is. second (first is);
      step = turn-bounded;
      reap = reaped-bounded;
      discard = discarded-bounded;
      idle = idled-bounded;
    }

-- waits
pub waited-bounded : (h : HostState) (t timeout : ℕ) → StaysBounded h (waited host_calls t timeout h)
waited-bounded h t timeout = kept-waited StaysBounded stays h t timeout

pub blocked-bounded : (h : HostState) (t timeout : ℕ) → StaysBounded h (blocked host_calls t timeout h)
blocked-bounded h t timeout = kept-blocked StaysBounded stays h t timeout

-- a submission, by its maximum and its buffer
pub entered-bounded : (h : HostState) (e : EndpointState) (deadline : Option ℕ) (b : BufferState) → e.maximum ≤ 65536 → IsBufferSized b → StaysBounded h (entered host_calls h e deadline b)
unfolding host_submitted host_refused
entered-bounded h e deadline b maximum sized is =
    let to = route_of e in
    let n = length (tickets h.kernel.past) in
    cond_both (is_valid e b) (host_submitted h to deadline (transfer_by to b)) (host_refused h to (transfer_by to b) 22) IsHostBounded
    (λ yes_. ((submission-bounded n (submission_of to deadline b) (submit_refusal h.kernel.devices h.kernel.armed to.device) maximum sized, is.0), is.1))
    (λ no_. ((submission-bounded n (submission_of to None b) (Some 22) maximum sized, is.0), is.1))

-- the ends of tickets and of endpoints
pub taken-bounded : (h : HostState) (t : ℕ) → StaysBounded h (host_taken h t)
taken-bounded h t = aside h (host_taken h t) (past-of (bus-taken h t)) (keeps-taken h t).line.steps

pub abandoned-bounded : (h : HostState) (t : ℕ) → StaysBounded h (host_abandoned h t)
abandoned-bounded h t = aside h (host_abandoned h t) (past-of (bus-abandoned h t)) (keeps-abandoned h t).line.steps

pub left-bounded : (h : HostState) (k : ℕ) → StaysBounded h (host_left h k)
left-bounded h k = aside h (host_left h k) (past-of (bus-left h k)) (line-left h k).steps

pub discards-bounded : (h : HostState) (ts : List ℕ) → StaysBounded h (all_discarded host_discarded h ts)
discards-bounded h [] is = is
discards-bounded h (t ∷ ts) is = discarded-bounded (all_discarded host_discarded h ts) t (discards-bounded h ts is)

abandons-bounded : (h : HostState) (ts : List ℕ) → StaysBounded h (all_abandoned host_abandoned h ts)
abandons-bounded h [] is = is
abandons-bounded h (t ∷ ts) is = abandons-bounded (host_abandoned h t) ts (abandoned-bounded h t is)

pub close-bounded : (h : HostState) (e : EndpointState) → StaysBounded h (after_close host_calls h e)
close-bounded h e is =
    let discarded = all_discarded host_discarded h e.pending in
    left-bounded (all_abandoned host_abandoned discarded e.pending) e.key (abandons-bounded discarded e.pending (discards-bounded h e.pending is))

-- the end of a session
below-bounded : (h : HostState) (n : ℕ) → StaysBounded h (discarded_below h n)
below-bounded h zero is = is
below-bounded h (suc n) is = discarded-bounded (discarded_below h n) n (below-bounded h n is)

reaps-bounded : (h : HostState) (n : ℕ) → StaysBounded h (reaped_below h n)
reaps-bounded h zero is = is
reaps-bounded h (suc n) is = reaped-bounded (reaped_below h n) n (reaps-bounded h n is)

pub finished-bounded : (h : HostState) → StaysBounded h (finished h)
unfolding finished
finished-bounded h is =
    let n = length (tickets h.kernel.past) in
    reaps-bounded (discarded_below h n) n (below-bounded h n is)

-- a control transfer, whose maximum is what it asks for
pub started-bounded : (h : HostState) (device : ℕ) (request : TransferData) (timeout : ℕ) → (data_held request.held).requested ≤ 65536 → IsBufferSized (data_held request.held) → StaysBounded h (request_started h device request timeout)
unfolding host_started
started-bounded h device request timeout maximum sized is =
    ((submission-bounded (length (tickets h.kernel.past)) (control_submission h device request timeout) (submit_refusal h.kernel.devices h.kernel.armed device) maximum sized, is.0), is.1)

pub awaited-bounded : (h : HostState) (t deadline : ℕ) → StaysBounded h (host_awaited h t deadline)
awaited-bounded h t deadline = kept-awaited StaysBounded stays h t deadline

-- a halt is cleared, and a device is reset
pub halt-bounded : (h : HostState) (device endpoint : ℕ) → StaysBounded h (host_halt_cleared h device endpoint)
unfolding called
halt-bounded h device endpoint is = (is.0, is.1)

reset_by-bounded : (h : HostState) (k : KernelState) (d : ℕ) (o : Option ℕ) → AreBounded k.past → AreStepsSized h.steps → IsHostBounded (record h { kernel = reset_by k d o })
reset_by-bounded h k d (Some errno) all sized = (all, sized)
reset_by-bounded h k d None all sized = ((tt, all), sized)

reset_on-bounded : (h : HostState) (o : Option OpenDevice) → StaysBounded h (reset_on h o)
unfolding after_reset called
reset_on-bounded h None is = is
reset_on-bounded h (Some o) is = reset_by-bounded h (called h.kernel o.device call.Reset no_rules unplugged) o.device (errno_of h.kernel o.device call.Reset no_rules) is.0 is.1

pub reset-bounded : (h : HostState) (key : ℕ) → StaysBounded h (host_reset h key)
unfolding host_reset
reset-bounded h key = reset_on-bounded h (value_at h.devices key)
