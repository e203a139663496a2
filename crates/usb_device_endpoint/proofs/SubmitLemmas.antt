-- A buffer that is handed to a bus.
use Rattle.std.proofs.Common.{ℕ, ◌≤◌, ◌≡◌, ◌≢◌, Bool, true, List, [], ◌∷◌, ◌++◌, length, Option, Some, None, Result, Ok, Err, OnOk, refl, sym, ◌∙◌, ap, subst}
use Rattle.usb_xfer.specs.BufferState.{BufferState}
use Rattle.std.specs.Prelude.{nat_le}
use Rattle.std.proofs.lemmas.Bool.{le-leb}
use Rattle.usb_xfer.specs.declared.transfer.Held.{Held}
use Rattle.usb_kernel.specs.Submissions.{IsWhole}
use Rattle.usb_kernel.proofs.Wholes.{whole-in, whole-times}
use Rattle.usb_device_endpoint.specs.Routes.{submission_of}
use Rattle.usb_kernel.specs.Tickets.{tickets}
use Rattle.usb_device_endpoint.specs.declared.route.Route.{Route}
use Rattle.usb_device_endpoint.specs.BusState.{BusState, with_owner}
use Rattle.usb_device_endpoint.specs.Submitted.{Entered, IsRefused}
use Rattle.usb_device_endpoint.specs.EndpointState.{EndpointState, route_of}
use Rattle.usb_device_endpoint.specs.Handles.{IsApart, AreHeld, Stands, KeepsOthers}
use Rattle.usb_device_endpoint.proofs.Frames.{keeps_others}
use Rattle.usb_kernel.specs.WholePackets.{is_whole}
use Rattle.usb_device_endpoint.specs.Submits.{HandsOver, is_valid}
use Rattle.usb_device_endpoint.proofs.HandleLemmas.{free-ne, with_owner-other, with_owner-same}

-- a refused ticket has no deadline, whatever was asked for
entered-refused : (old new : BusState) (to : Route) (deadline : Option ℕ) (b : BufferState) (errno : ℕ) → Entered old new to None b (Some errno) → Entered old new to deadline b (Some errno)
entered-refused old new to deadline b errno is = record { past = is.past; clock = is.clock; owner = is.owner; keys = is.keys; errno = is.errno }

pub HandsOver-refused : {A E : Type 0} (r : Result A E) (old new : BusState) (to : Route) (deadline : Option ℕ) (held : Held) (valid : Bool) → OnOk r (IsRefused old new to held 22) → OnOk r (HandsOver old new to deadline held valid)
HandsOver-refused (Ok x) old new to deadline held valid refused = λ b is. record { refusal = Some 22; ticket = entered-refused old new to deadline b 22 (refused b is); invalid = λ _. refl }
HandsOver-refused (Err e) old new to deadline held valid refused = tt

pub IsApart-append : (t u : ℕ) (us : List ℕ) → IsApart t us → t ≢ u → IsApart t (us ++ u ∷ [])
IsApart-append t u [] all ne = (ne, tt)
IsApart-append t u (v ∷ us) all ne = (all.0, IsApart-append t u us all.1 ne)

-- a new ticket
pub AreHeld-append : (owner : ℕ → Option ℕ) (k t : ℕ) (ts : List ℕ) → owner t ≡ None → AreHeld owner k ts → AreHeld (with_owner owner t k) k (ts ++ t ∷ [])
AreHeld-append owner k t [] free held = (with_owner-same owner t k, tt, tt)
AreHeld-append owner k t (u ∷ us) free held =
    let ne : t ≢ u = free-ne owner t u k free held.0 in
    (with_owner-other owner t k u ne ∙ held.0, IsApart-append u t us held.1 (λ e. ne (sym e)), AreHeld-append owner k t us free held.2)

pub Stands-entered : (old new : BusState) (e next : EndpointState) (deadline : Option ℕ) (b : BufferState) (refusal : Option ℕ) → Stands old e → old.owner (length (tickets old.past)) ≡ None → Entered old new (route_of e) deadline b refusal
    → next ≡ record e { pending = e.pending ++ length (tickets old.past) ∷ [] } → Stands new next
Stands-entered old new e next deadline b refusal stands free done after =
    rw after (record {
      key_is_open = ap (λ (f : ℕ → Bool). f e.key) done.keys ∙ stands.key_is_open;
      held = subst (λ (f : ℕ → Option ℕ). AreHeld f e.key (e.pending ++ length (tickets old.past) ∷ [])) (sym done.owner) (AreHeld-append old.owner e.key (length (tickets old.past)) e.pending free stands.held);
    })

pub others-entered : (old new : BusState) (to : Route) (deadline : Option ℕ) (b : BufferState) (refusal : Option ℕ) (key : ℕ) → old.owner (length (tickets old.past)) ≡ None → Entered old new to deadline b refusal → KeepsOthers old new key
others-entered old new to deadline b refusal key free done =
    let n = length (tickets old.past) in
    keeps_others old new key
    (λ t k other own.
    let ne : n ≢ t = free-ne old.owner n t k free own in
    ap (λ (f : ℕ → Option ℕ). f t) done.owner ∙ with_owner-other old.owner n to.key t ne ∙ own)
    (λ k other is. ap (λ (f : ℕ → Bool). f k) done.keys ∙ is)

valid-in : (e : EndpointState) (b : BufferState) → is_valid e b ≡ true → 128 ≤ e.address → is_whole e.maximum b.requested ≡ true
valid-in e b valid le = let in_ : nat_le 128 e.address ≡ true = le-leb 128 e.address le in rw in_ at valid

-- what the bus asks of a submission
pub IsWhole-valid : (e : EndpointState) (b : BufferState) → is_valid e b ≡ true → IsWhole (submission_of (route_of e) None b)
IsWhole-valid e b valid = whole-in (submission_of (route_of e) None b) (λ le. whole-times e.maximum b.requested (valid-in e b valid le))
