-- The bus over a kernel alone, as a bus.
use Rattle.std.proofs.Common.{ℕ, zero, suc, arith, ◌≡◌, ◌≤◌, List, [], ◌∷◌, ◌++◌, length, Option, Some, None, refl, ◌∙◌, ap}
use Rattle.std.specs.Prelude.{is_some, IfSome}
use Rattle.usb_kernel_devices.specs.Errnos.{IsErrno}
use Rattle.std.proofs.Math.Path.{fun_ext}
use Rattle.std.proofs.Math.Dec.{eqb-suc-zero, eqb-zero-suc, eqb-suc-suc}
use Rattle.usb_xfer.specs.BufferState.{BufferState}
use Rattle.usb_xfer.specs.declared.transfer.TransferData.{TransferData}
use Rattle.usb_xfer.specs.Transfers.{buffer_held}
use Rattle.usb_kernel.specs.declared.event.Event.{Event}
use Rattle.usb_kernel.specs.declared.event.Event.TheVariants.{Reap}
use Rattle.usb_kernel.specs.declared.submission.Submission.{Submission}
use Rattle.usb_kernel.specs.Tickets.{tickets}
use Rattle.usb_kernel.specs.Completions.{reapable, waiting, lowest}
use Rattle.usb_kernel.specs.Submits.{submit_or_refuse, submit_refusal, after_submit, after_refuse, kernel_refused}
use Rattle.usb_kernel.proofs.Extends.{extends-same, extends-if}
use Rattle.usb_kernel.proofs.Waiting.{waiting-submit, waiting-refuse, waiting-one_less, lowest-reapable}
use Rattle.usb_device_endpoint.specs.declared.route.Route.{Route}
use Rattle.usb_device_endpoint.specs.declared.route.Turn.{Turn}
use Rattle.usb_device_endpoint.specs.BusState.{with_owner, without_owner}
use Rattle.usb_device_endpoint.specs.Routes.{submission_of}
use Rattle.usb_device_endpoint.specs.Submitted.{Entered}
use Rattle.usb_device_endpoint.specs.Later.{IsLater}
use Rattle.usb_device_endpoint.specs.Turns.{Falls, reap_turn}
use Rattle.usb_device_endpoint.specs.KernelBusState.{KernelBusState}
use Rattle.usb_kernel.specs.Holds.{Hold}
use Rattle.usb_device_endpoint.specs.KernelBusCalls.{bus_of, owner_at, bus_entered, hold_for, bus_submitted, bus_refused, bus_without, bus_turned, bus_turn, reaped_of}
use Rattle.usb_device_endpoint.specs.KernelBusLaws.{bus_of-without_owner}

-- nobody holds the ticket any more
pub state-without_owner : (old new : KernelBusState) (t u : ℕ) → new ≡ bus_without old t → t ≡ u → bus_of new ≡ record (bus_of old) { owner = without_owner (owner_at old.holds) u }
state-without_owner old new t u is same = ap bus_of is ∙ (bus_of-without_owner old t ∙ ap (λ (n : ℕ). record (bus_of old) { owner = without_owner (owner_at old.holds) n }) same)

-- a turn
later-reaped : (h : KernelBusState) (o : Option ℕ) → IsLater (bus_of h) (bus_of (reaped_of h o))
later-reaped h None = record { past = extends-same h.kernel.past; clock = omega arith; owner = refl; keys = refl }
later-reaped h (Some t) = record { past = extends-if (is_some (reapable h.kernel.past t)) h.kernel.past (Reap t); clock = omega arith; owner = refl; keys = refl }

pub later-turned : (old new : KernelBusState) → new ≡ bus_turned old → IsLater (bus_of old) (bus_of new)
later-turned old new is = rw is (later-reaped old (lowest old.kernel.past))

falls-reaped : (h : KernelBusState) (o : Option ℕ) → lowest h.kernel.past ≡ o → Falls (reap_turn o) (length (waiting h.kernel.past)) (length (waiting (reaped_of h o).kernel.past))
falls-reaped h None is = omega arith
falls-reaped h (Some t) is =
    let some = lowest-reapable h.kernel.past t is in
    let less = waiting-one_less h.kernel.past t some in
    rw some (omega arith)

pub falls-turned : (old new : KernelBusState) (turn : Turn) → new ≡ bus_turned old → turn ≡ bus_turn old → Falls turn (length (waiting old.kernel.past)) (length (waiting new.kernel.past))
falls-turned old new turn is gives = rw (is, gives) (falls-reaped old (lowest old.kernel.past) refl)

-- one more place
owner_at-push : (holds : List (Option Hold)) (p : Hold) (u : ℕ) → owner_at (holds ++ Some p ∷ []) u ≡ with_owner (owner_at holds) (length holds) p.key u
owner_at-push [] p zero = refl
owner_at-push [] p (suc u) = rw (eqb-zero-suc u) refl
owner_at-push (o ∷ os) p zero = rw (eqb-suc-zero (length os)) refl
owner_at-push (o ∷ os) p (suc u) = rw (eqb-suc-suc (length os) u) (owner_at-push os p u)

owner-after : (holds : List (Option Hold)) (p : Hold) (n : ℕ) → length holds ≡ n → owner_at (holds ++ Some p ∷ []) ≡ with_owner (owner_at holds) n p.key
owner-after holds p n count = rw (← count) (fun_ext (owner_at-push holds p))

-- the next ticket leaves those that wait
waiting-entered : (past : List Event) (sub : Submission) (refusal : Option ℕ) (n : ℕ) → waiting (submit_or_refuse n sub refusal ∷ past) ≡ waiting past
waiting-entered past sub None n = waiting-submit past n sub.device sub.endpoint sub.maximum _ sub.buffer.room sub.deadline
waiting-entered past sub (Some errno) n = waiting-refuse past n sub.device sub.endpoint sub.maximum _ sub.buffer.room errno

submitted-some : (h : KernelBusState) (to : Route) (deadline : Option ℕ) (t : TransferData) (b : BufferState) → buffer_held t.held ≡ Some b → bus_submitted h to deadline t ≡ bus_entered h (submission_of to deadline b) (hold_for to t)
submitted-some h to deadline t b is = rw is refl

refused-some : (h : KernelBusState) (to : Route) (t : TransferData) (errno : ℕ) (b : BufferState) → buffer_held t.held ≡ Some b → bus_refused h to t errno ≡ record h { kernel = kernel_refused h.kernel (submission_of to None b) errno; holds = h.holds ++ Some (hold_for to t) ∷ [] }
refused-some h to t errno b is = rw is refl

-- a submission, and a refusal
pub submitted-state : (old new : KernelBusState) (to : Route) (deadline : Option ℕ) (t : TransferData) (b : BufferState) → length old.holds ≡ length (tickets old.kernel.past) → new ≡ bus_submitted old to deadline t → buffer_held t.held ≡ Some b → IfSome (submit_refusal old.kernel.devices old.kernel.armed to.device) IsErrno → (refusal : Option ℕ) × Entered (bus_of old) (bus_of new) to deadline b refusal
submitted-state old new to deadline t b count is some known =
    let after = is ∙ submitted-some old to deadline t b some in
    (submit_refusal old.kernel.devices old.kernel.armed to.device, rw after (record { past = refl; clock = refl; owner = owner-after old.holds (hold_for to t) (length (tickets old.kernel.past)) count; keys = refl; errno = known }))

pub refused-state : (old new : KernelBusState) (to : Route) (t : TransferData) (errno : ℕ) (b : BufferState) → length old.holds ≡ length (tickets old.kernel.past) → new ≡ bus_refused old to t errno → buffer_held t.held ≡ Some b → IsErrno errno → Entered (bus_of old) (bus_of new) to None b (Some errno)
refused-state old new to t errno b count is some known =
    let after = is ∙ refused-some old to t errno b some in
    rw after (record { past = refl; clock = refl; owner = owner-after old.holds (hold_for to t) (length (tickets old.kernel.past)) count; keys = refl; errno = known })

entered-waiting : (old new : KernelBusState) (sub : Submission) (refusal : Option ℕ) (n : ℕ) → new.kernel.past ≡ submit_or_refuse n sub refusal ∷ old.kernel.past → length (waiting new.kernel.past) ≤ length (waiting old.kernel.past)
entered-waiting old new sub refusal n is = rw (is, waiting-entered old.kernel.past sub refusal n) (omega arith)

pub submitted-left : (old new : KernelBusState) (to : Route) (deadline : Option ℕ) (t : TransferData) (o : Option BufferState) → buffer_held t.held ≡ o → new ≡ bus_submitted old to deadline t → length (waiting new.kernel.past) ≤ length (waiting old.kernel.past)
submitted-left old new to deadline t None some is =
    let same : bus_submitted old to deadline t ≡ old = rw some refl in
    rw (is ∙ same) (omega arith)
submitted-left old new to deadline t (Some b) some is =
    let past : new.kernel.past ≡ after_submit old.kernel.devices old.kernel.armed old.kernel.past (submission_of to deadline b) = ap (λ (h : KernelBusState). h.kernel.past) (is ∙ submitted-some old to deadline t b some) in
    entered-waiting old new (submission_of to deadline b) (submit_refusal old.kernel.devices old.kernel.armed to.device) (length (tickets old.kernel.past)) past

pub refused-left : (old new : KernelBusState) (to : Route) (t : TransferData) (errno : ℕ) (o : Option BufferState) → buffer_held t.held ≡ o → new ≡ bus_refused old to t errno → length (waiting new.kernel.past) ≤ length (waiting old.kernel.past)
refused-left old new to t errno None some is =
    let same : bus_refused old to t errno ≡ old = rw some refl in
    rw (is ∙ same) (omega arith)
refused-left old new to t errno (Some b) some is =
    let past : new.kernel.past ≡ after_refuse old.kernel.past (submission_of to None b) errno = ap (λ (h : KernelBusState). h.kernel.past) (is ∙ refused-some old to t errno b some) in
    entered-waiting old new (submission_of to None b) (Some errno) (length (tickets old.kernel.past)) past
