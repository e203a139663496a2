-- Laws of endpoints.
use Rattle.std.specs.Prelude.{ℕ, ◌≡◌, ◌≢◌, List, [], ◌∷◌, ◌++◌, Option, None, Some, set, false, slice_get}
use Rattle.usb_xfer.specs.BufferState.{BufferState}
use Rattle.usb_device_endpoint.specs.declared.route.Route.{Route}
use Rattle.usb_device_endpoint.specs.BusState.{BusState, without_owner}
use Rattle.usb_device_endpoint.specs.Later.{IsLater}
use Rattle.usb_device_endpoint.specs.Submitted.{Entered}
use Rattle.usb_device_endpoint.specs.EndpointState.{EndpointState}
use Rattle.usb_device_endpoint.specs.Handles.{Stands, KeepsOthers}
use Rattle.usb_device_endpoint.specs.AllStand.{AllStand}
use Rattle.usb_device_endpoint.specs.Histories.{HandleCall, Submitted, Taken, submitted_by, taken_by, Leads}
use Rattle.usb_device_endpoint.specs.Ends.{HasEnded, Moved}

-- from a handle with nothing pending, the transfers that were taken are the first of those that
-- were submitted, in their order, and the pending ones are the rest
abbrev pub TakenInOrder : Type 0
TakenInOrder =
    (calls : List HandleCall) (pending : List ℕ) → Leads [] calls pending →
    submitted_by calls ≡ taken_by calls ++ pending

-- a submission that adds its ticket to the pending ones, and a poll that takes the front, are such
-- calls
abbrev pub SubmissionLeads : Type 0
SubmissionLeads =
    (e next : EndpointState) (t : ℕ) → next ≡ record e { pending = e.pending ++ t ∷ [] } →
    Leads e.pending (Submitted t ∷ []) next.pending

abbrev pub PollLeads : Type 0
PollLeads =
    (e next : EndpointState) (t : ℕ) (others : List ℕ) → e.pending ≡ t ∷ others →
    next ≡ record e { pending = others } → Leads e.pending (Taken t ∷ []) next.pending

-- and calls one after another
abbrev pub CallsCompose : Type 0
CallsCompose =
    (first second : List HandleCall) (before between after : List ℕ) → Leads before first between →
    Leads between second after → Leads before (first ++ second) after

-- a ticket that was taken or given up has ended
abbrev pub EndEnds : Type 0
EndEnds = (b : BusState) (t : ℕ) → without_owner b.owner t t ≡ None

-- and has no other end: whatever comes, no endpoint holds it again
abbrev pub EndedStays : Type 0
EndedStays = (old new : BusState) (t : ℕ) → Moved old new → HasEnded old t → HasEnded new t

-- a submission, the bus's own steps and an end are such moves
abbrev pub EnteredMoves : Type 0
EnteredMoves =
    (old new : BusState) (to : Route) (deadline : Option ℕ) (b : BufferState) (refusal : Option ℕ) →
    Entered old new to deadline b refusal → Moved old new

abbrev pub LaterMoves : Type 0
LaterMoves = (old new : BusState) → IsLater old new → Moved old new

abbrev pub EndMoves : Type 0
EndMoves =
    (old new : BusState) (t : ℕ) → new ≡ record old { owner = without_owner old.owner t } → Moved old new

-- an endpoint of another key stands as before
abbrev pub OthersStand : Type 0
OthersStand =
    (old new : BusState) (key : ℕ) (e : EndpointState) → KeepsOthers old new key → e.key ≢ key →
    Stands old e → Stands new e

-- of many endpoints, all stand after a call on one
abbrev pub AllStandAfterCall : Type 0
AllStandAfterCall =
    (old new : BusState) (es : List EndpointState) (i : ℕ) (e next : EndpointState) →
    AllStand old es → slice_get es i ≡ Some e → Stands new next → next.key ≡ e.key →
    KeepsOthers old new e.key → AllStand new (set es i next)

-- after the bus went on by itself
abbrev pub AllStandLater : Type 0
AllStandLater =
    (old new : BusState) (es : List EndpointState) → AllStand old es → IsLater old new →
    AllStand new es

-- and after one more was opened, with a key of its own
abbrev pub AllStandAfterOpening : Type 0
AllStandAfterOpening =
    (old new : BusState) (es : List EndpointState) (next : EndpointState) →
    AllStand old es → Stands new next → old.keys next.key ≡ false → KeepsOthers old new next.key →
    AllStand new (es ++ next ∷ [])

-- and after one of them was closed
abbrev pub AllStandAfterClose : Type 0
AllStandAfterClose =
    (old new : BusState) (front others : List EndpointState) (e : EndpointState) →
    AllStand old (front ++ e ∷ others) → KeepsOthers old new e.key → AllStand new (front ++ others)
