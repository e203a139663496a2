-- What a handle holds stays held.
use Rattle.std.proofs.Common.{ℕ, zero, suc, arith, ◌<◌, get_or, ◌≡◌, ◌≢◌, List, [], ◌∷◌, length, Option, Some, None, refl, sym, ◌∙◌, ap, subst}
use Rattle.std.proofs.lemmas.Bool.{eq-eqb, ne_eqb}
use Rattle.std.proofs.lemmas.Option.{same_Some}
use Rattle.usb_device_endpoint.specs.BusState.{BusState, with_owner, without_owner}
use Rattle.usb_device_endpoint.specs.EndpointState.{EndpointState}
use Rattle.usb_device_endpoint.specs.Handles.{IsApart, AreHeld, Stands, KeepsOthers}
use Rattle.usb_device_endpoint.proofs.Frames.{keeps_others}

-- a ticket that nobody holds is not one that is held
pub free-ne : (owner : ℕ → Option ℕ) (t u k : ℕ) → owner t ≡ None → owner u ≡ Some k → t ≢ u
free-ne owner t u k free own = λ e. let x : owner t ≡ owner u = ap owner e in cc

pub with_owner-other : (owner : ℕ → Option ℕ) (t k u : ℕ) → t ≢ u → with_owner owner t k u ≡ owner u
with_owner-other owner t k u ne = rw (ne_eqb t u ne) refl

pub with_owner-same : (owner : ℕ → Option ℕ) (t k : ℕ) → with_owner owner t k t ≡ Some k
with_owner-same owner t k = rw (eq-eqb t t refl) refl

pub without_owner-other : (owner : ℕ → Option ℕ) (t u : ℕ) → t ≢ u → without_owner owner t u ≡ owner u
without_owner-other owner t u ne = rw (ne_eqb t u ne) refl

-- each ticket of a queue is held
pub AreHeld-at : (owner : ℕ → Option ℕ) (key : ℕ) (ts : List ℕ) (k d : ℕ) → k < length ts → AreHeld owner key ts → owner (get_or ts k d) ≡ Some key
AreHeld-at owner key [] k d lt held = absurd (omega arith)
AreHeld-at owner key (t ∷ ts) zero d lt held = held.0
AreHeld-at owner key (t ∷ ts) (suc k) d lt held = AreHeld-at owner key ts k d (omega arith) held.2

-- the front has ended
pub AreHeld-without_owner : (owner : ℕ → Option ℕ) (k t : ℕ) (ts : List ℕ) → IsApart t ts → AreHeld owner k ts → AreHeld (without_owner owner t) k ts
AreHeld-without_owner owner k t [] apart held = tt
AreHeld-without_owner owner k t (u ∷ us) apart held = (without_owner-other owner t u apart.0 ∙ held.0, held.1, AreHeld-without_owner owner k t us apart.1 held.2)

pub Stands-taken : (old new : BusState) (e next : EndpointState) (t : ℕ) (ts : List ℕ) → Stands old e → e.pending ≡ t ∷ ts → new ≡ record old { owner = without_owner old.owner t } → next ≡ record e { pending = ts } → Stands new next
Stands-taken old new e next t ts stands is after same =
    let held = rw is at stands.held in
    rw (after, same) (record { key_is_open = stands.key_is_open; held = AreHeld-without_owner old.owner e.key t ts held.1 held.2 })

-- a ticket of this handle has ended
pub KeepsOthers-end : (old mid new : BusState) (key t : ℕ) → KeepsOthers old mid key → mid.owner t ≡ Some key → new ≡ record mid { owner = without_owner mid.owner t } → KeepsOthers old new key
KeepsOthers-end old mid new key t kept own after =
    rw after (keeps_others old (record mid { owner = without_owner mid.owner t }) key
    (λ u k other was.
    let now = kept.tickets u k other was in
    let ne : t ≢ u = λ e. other (same_Some k key (sym now ∙ ap mid.owner (sym e) ∙ own)) in
    without_owner-other mid.owner t u ne ∙ now)
    kept.keys)

-- nothing of what a handle stands on has changed
pub Stands-left : (old new : BusState) (e next : EndpointState) → Stands old e → new ≡ old → next.key ≡ e.key → next.pending ≡ e.pending → Stands new next
Stands-left old new e next stands same key pending =
    rw same (record {
      key_is_open = ap old.keys key ∙ stands.key_is_open;
      held = subst (λ (k : ℕ). AreHeld old.owner k next.pending) (sym key) (subst (λ (ts : List ℕ). AreHeld old.owner e.key ts) (sym pending) stands.held);
    })

pub others_in_turn : (old mid new : BusState) (key : ℕ) → KeepsOthers old mid key → KeepsOthers mid new key → KeepsOthers old new key
others_in_turn old mid new key first second =
    record {
      tickets = λ t k other own. second.tickets t k other (first.tickets t k other own);
      keys = λ k other is. second.keys k other (first.keys k other is);
      stand = λ e other stands. second.stand e other (first.stand e other stands);
    }
