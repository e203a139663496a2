-- Laws of journals.
use Rattle.std.specs.Prelude.{ℕ, ◌+◌, ◌<◌, ◌≤◌, ◌≡◌, ◌≢◌, ◌⊎◌, ◌==◌, true, false, not, List, [], ◌∷◌, ◌++◌, length, drop, filter, Option, Some, None, IsSome, slice_get}
use Rattle.usb_kernel.specs.declared.event.Event.{Event}
use Rattle.usb_kernel.specs.declared.event.Event.TheVariants.{Submit, Refuse, Packet, Ack, Echo, Fail, Discard, Reap, Unplug}
use Rattle.usb_kernel.specs.declared.event.Body.{Body}
use Rattle.usb_kernel_devices.specs.declared.devices.DeviceState.{DeviceState}
use Rattle.usb_kernel_devices.specs.declared.step.Armed.{Armed}
use Rattle.usb_kernel_devices.specs.declared.step.KernelStep.{KernelStep}
use Rattle.usb_kernel.specs.declared.submission.Done.{Done}
use Rattle.usb_kernel.specs.declared.submission.Submission.{Submission}
use Rattle.usb_kernel.specs.Tickets.{Ticket, tickets}
use Rattle.usb_kernel.specs.Journal.{fate, oldest, open_tickets, taken_of}
use Rattle.usb_kernel.specs.Completions.{completion, reapable, waiting, lowest}
use Rattle.usb_kernel.specs.Submits.{after_submit, after_refuse}
use Rattle.usb_kernel.specs.Steps.{after_discard, after_reap, stepped}
use Rattle.usb_kernel.specs.Timers.{timer_turned}
use Rattle.usb_kernel.specs.Value.{KernelState}
use Rattle.usb_kernel.specs.Calls.{after_reset}
use Rattle.usb_kernel.specs.Extends.{Extends}
use Rattle.usb_kernel.specs.Ahead.{IsAhead, IsUntouched}
use Rattle.usb_kernel.specs.Openings.{IsOtherEndpoint, open_after_service}
use Rattle.usb_kernel.specs.Waits.{reaps}

-- whatever comes after its reap, a ticket's fate stays
abbrev pub ReapedIsFinal : Type 0
ReapedIsFinal = (past : List Event) (event : Event) (t : ℕ) → (fate past t).reaped ≡ true → fate (event ∷ past) t ≡ fate past t

-- and so does its completion
abbrev pub CompletionIsFinal : Type 0
CompletionIsFinal = (past : List Event) (event : Event) (t : ℕ) (done : Done) → completion past t ≡ Some done → completion (event ∷ past) t ≡ Some done

-- a journal goes on by an event, and by each call that may leave one
abbrev pub EventExtends : Type 0
EventExtends = (past : List Event) (event : Event) → Extends past (event ∷ past)

abbrev pub SubmitExtends : Type 0
SubmitExtends = (devices : List DeviceState) (armed : List Armed) (past : List Event) (s : Submission) → Extends past (after_submit devices armed past s)

abbrev pub StepExtends : Type 0
StepExtends = (devices : List DeviceState) (clock : ℕ) (past : List Event) (step : KernelStep) → Extends past (stepped devices clock past step)

abbrev pub TimerExtends : Type 0
TimerExtends = (clock : ℕ) (past : List Event) → Extends past (timer_turned clock past)

abbrev pub RefuseExtends : Type 0
RefuseExtends = (past : List Event) (s : Submission) (errno : ℕ) → Extends past (after_refuse past s errno)

abbrev pub DiscardExtends : Type 0
DiscardExtends = (past : List Event) (t : ℕ) → Extends past (after_discard past t)

abbrev pub ReapExtends : Type 0
ReapExtends = (past : List Event) (t : ℕ) → Extends past (after_reap past t)

abbrev pub ResetExtends : Type 0
ResetExtends = (k : KernelState) (d : ℕ) → Extends k.past (after_reset k d).past

-- a journal goes on to itself, and goes on in turn
abbrev pub ExtendsItself : Type 0
ExtendsItself = (past : List Event) → Extends past past

abbrev pub ExtendsInTurn : Type 0
ExtendsInTurn = (first second third : List Event) → Extends first second → Extends second third → Extends first third

-- while a journal goes on, a ticket stays what it was
abbrev pub TicketStays : Type 0
TicketStays = (old new : List Event) (t : ℕ) (s : Ticket) → Extends old new → slice_get (tickets old) t ≡ Some s → slice_get (tickets new) t ≡ Some s

-- a finished ticket stays finished, with its errno
abbrev pub StatusStays : Type 0
StatusStays = (old new : List Event) (t errno : ℕ) → Extends old new → (fate old t).status ≡ Some errno → (fate new t).status ≡ Some errno

-- a reaped ticket keeps its fate
abbrev pub ReapedStays : Type 0
ReapedStays = (old new : List Event) (t : ℕ) → Extends old new → (fate old t).reaped ≡ true → fate new t ≡ fate old t

-- and its completion
abbrev pub CompletionStays : Type 0
CompletionStays = (old new : List Event) (t : ℕ) (done : Done) → Extends old new → completion old t ≡ Some done → completion new t ≡ Some done

-- while a ticket is open, nothing has come to the later ones of its endpoint
abbrev pub LaterAreUntouched : Type 0
LaterAreUntouched = (past : List Event) (t u : ℕ) → IsAhead past t u → IsUntouched (fate past u)

-- a submission opens the next ticket, on its own endpoint
abbrev pub SubmitOpens : Type 0
SubmitOpens =
    (past : List Event) (t d e m : ℕ) (body : Body) (room : ℕ) (deadline : Option ℕ) →
    open_tickets (Submit t d e m body room deadline ∷ past) d e ≡ open_tickets past d e ++ length (tickets past) ∷ []

-- and none on others
abbrev pub SubmitSparesOthers : Type 0
SubmitSparesOthers =
    (past : List Event) (t d e m : ℕ) (body : Body) (room : ℕ) (deadline : Option ℕ) (d' e' : ℕ) →
    IsOtherEndpoint d e d' e' → open_tickets (Submit t d e m body room deadline ∷ past) d' e' ≡ open_tickets past d' e'

-- a refused submission opens none
abbrev pub RefuseOpensNone : Type 0
RefuseOpensNone =
    (past : List Event) (t d e m : ℕ) (body : Body) (room errno d' e' : ℕ) →
    open_tickets (Refuse t d e m body room errno ∷ past) d' e' ≡ open_tickets past d' e'

-- a packet closes the oldest ticket of its endpoint where it finishes it, and no other
abbrev pub PacketServesOldest : Type 0
PacketServesOldest =
    (past : List Event) (d e : ℕ) (b : List ℕ) →
    open_tickets (Packet d e b ∷ past) d e ≡ open_after_service past (Packet d e b) d e

abbrev pub PacketSparesOthers : Type 0
PacketSparesOthers =
    (past : List Event) (d e : ℕ) (b : List ℕ) (d' e' : ℕ) →
    IsOtherEndpoint d e d' e' → open_tickets (Packet d e b ∷ past) d' e' ≡ open_tickets past d' e'

-- so does an acknowledgement
abbrev pub AckServesOldest : Type 0
AckServesOldest = (past : List Event) (d e : ℕ) → open_tickets (Ack d e ∷ past) d e ≡ open_after_service past (Ack d e) d e

abbrev pub AckSparesOthers : Type 0
AckSparesOthers =
    (past : List Event) (d e d' e' : ℕ) →
    IsOtherEndpoint d e d' e' → open_tickets (Ack d e ∷ past) d' e' ≡ open_tickets past d' e'

-- a failure always closes the oldest
abbrev pub FailTakesOldest : Type 0
FailTakesOldest = (past : List Event) (d e errno : ℕ) → open_tickets (Fail d e errno ∷ past) d e ≡ drop 1 (open_tickets past d e)

abbrev pub FailSparesOthers : Type 0
FailSparesOthers =
    (past : List Event) (d e errno d' e' : ℕ) →
    IsOtherEndpoint d e d' e' → open_tickets (Fail d e errno ∷ past) d' e' ≡ open_tickets past d' e'

-- a discard closes its ticket alone
abbrev pub DiscardCloses : Type 0
DiscardCloses = (past : List Event) (t d e : ℕ) → open_tickets (Discard t ∷ past) d e ≡ filter (λ u. not (u == t)) (open_tickets past d e)

-- a reap closes none
abbrev pub ReapClosesNone : Type 0
ReapClosesNone = (past : List Event) (t d e : ℕ) → open_tickets (Reap t ∷ past) d e ≡ open_tickets past d e

-- an unplug closes all of its device, and none of others
abbrev pub UnplugCloses : Type 0
UnplugCloses = (past : List Event) (d e : ℕ) → open_tickets (Unplug d ∷ past) d e ≡ []

abbrev pub UnplugSparesOthers : Type 0
UnplugSparesOthers = (past : List Event) (d d' e : ℕ) → d ≢ d' → open_tickets (Unplug d ∷ past) d' e ≡ open_tickets past d' e

-- an echo between an open OUT ticket t and an open IN ticket is an acknowledgement, and then the packet that it takes
abbrev pub EchoIsAckAndPacket : Type 0
EchoIsAckAndPacket =
    (past : List Event) (d o i t j u : ℕ) → oldest past d o ≡ Some t → oldest past d i ≡ Some j →
    fate (Echo d o i ∷ past) u ≡ fate (Packet d i (taken_of (slice_get (tickets past) t) (fate past t)) ∷ (Ack d o ∷ past)) u

abbrev pub EchoClosesAsBoth : Type 0
EchoClosesAsBoth =
    (past : List Event) (d o i t j d' e' : ℕ) → oldest past d o ≡ Some t → oldest past d i ≡ Some j →
    open_tickets (Echo d o i ∷ past) d' e' ≡ open_tickets (Packet d i (taken_of (slice_get (tickets past) t) (fate past t)) ∷ (Ack d o ∷ past)) d' e'

-- and without one of them it is nothing
abbrev pub EchoNeedsBoth : Type 0
EchoNeedsBoth = (past : List Event) (d o i u : ℕ) → (oldest past d o ≡ None) ⊎ (oldest past d i ≡ None) → fate (Echo d o i ∷ past) u ≡ fate past u

abbrev pub EchoClosesNone : Type 0
EchoClosesNone =
    (past : List Event) (d o i d' e' : ℕ) → (oldest past d o ≡ None) ⊎ (oldest past d i ≡ None) →
    open_tickets (Echo d o i ∷ past) d' e' ≡ open_tickets past d' e'

-- after its discard a ticket is finished
abbrev pub DiscardFinishes : Type 0
DiscardFinishes = (past : List Event) (t : ℕ) → t < length (tickets past) → IsSome (fate (after_discard past t) t).status

-- a ticket that is finished and not reaped can be reaped
abbrev pub FinishedIsReapable : Type 0
FinishedIsReapable =
    (past : List Event) (t : ℕ) → t < length (tickets past) → IsSome (fate past t).status → (fate past t).reaped ≡ false → IsSome (reapable past t)

-- where one can be reaped, there is a lowest one
abbrev pub ReapableHasLowest : Type 0
ReapableHasLowest = (past : List Event) (t : ℕ) → IsSome (reapable past t) → IsSome (lowest past)

-- which can be reaped itself
abbrev pub LowestIsReapable : Type 0
LowestIsReapable = (past : List Event) (t : ℕ) → lowest past ≡ Some t → IsSome (reapable past t)

-- and is the least
abbrev pub LowestIsLeast : Type 0
LowestIsLeast = (past : List Event) (t u : ℕ) → lowest past ≡ Some t → IsSome (reapable past u) → t ≤ u

-- only tickets wait to be reaped
abbrev pub WaitingAreTickets : Type 0
WaitingAreTickets = (past : List Event) → length (waiting past) ≤ length (tickets past)

-- a reap ends the waiting of its ticket alone
abbrev pub ReapEndsWaiting : Type 0
ReapEndsWaiting = (past : List Event) (t : ℕ) → waiting (Reap t ∷ past) ≡ filter (λ u. not (u == t)) (waiting past)

abbrev pub ReapLeavesOneLess : Type 0
ReapLeavesOneLess = (past : List Event) (t : ℕ) → IsSome (reapable past t) → length (waiting (Reap t ∷ past)) + 1 ≡ length (waiting past)

-- a submission, refused or not, leaves those that wait
abbrev pub SubmitLeavesWaiting : Type 0
SubmitLeavesWaiting =
    (past : List Event) (t d e m : ℕ) (body : Body) (room : ℕ) (deadline : Option ℕ) →
    waiting (Submit t d e m body room deadline ∷ past) ≡ waiting past

abbrev pub RefuseLeavesWaiting : Type 0
RefuseLeavesWaiting =
    (past : List Event) (t d e m : ℕ) (body : Body) (room errno : ℕ) →
    waiting (Refuse t d e m body room errno ∷ past) ≡ waiting past

-- and every event but a reap adds to them, or leaves them
abbrev pub OthersAddWaiting : Type 0
OthersAddWaiting = (past : List Event) (event : Event) → reaps event ≡ false → length (waiting past) ≤ length (waiting (event ∷ past))
