-- What a call on one endpoint leaves of another.
use Rattle.std.specs.Prelude.{ℕ, ◌≡◌, ◌≢◌, Bool, true, List, [], ◌∷◌, Option, Some}
use Rattle.std.proofs.Common.{ap, ◌∙◌, sym, subst}
use Rattle.usb_device_endpoint.specs.BusState.{BusState}
use Rattle.usb_device_endpoint.specs.Later.{IsLater}
use Rattle.usb_device_endpoint.specs.EndpointState.{EndpointState}
use Rattle.usb_device_endpoint.specs.Handles.{AreHeld, Stands, KeepsOthers}

AreHeld-other : (old new : BusState) (k : ℕ) →
    ((t : ℕ) → old.owner t ≡ Some k → new.owner t ≡ Some k) →
    (ts : List ℕ) → AreHeld old.owner k ts → AreHeld new.owner k ts
AreHeld-other old new k keeps [] held = tt
AreHeld-other old new k keeps (t ∷ ts) held =
    (keeps t held.0, held.1, AreHeld-other old new k keeps ts held.2)

-- where no ticket and no key of the others has ended, they stand as before
pub keeps_others : (old new : BusState) (key : ℕ) →
    ((t k : ℕ) → k ≢ key → old.owner t ≡ Some k → new.owner t ≡ Some k) →
    ((k : ℕ) → k ≢ key → old.keys k ≡ true → new.keys k ≡ true) → KeepsOthers old new key
keeps_others old new key tickets keys =
    record {
      tickets = tickets;
      keys = keys;
      stand = λ e other stands. record {
        key_is_open = keys e.key other stands.key_is_open;
        held = AreHeld-other old new e.key (λ t held. tickets t e.key other held) e.pending
            stands.held;
      };
    }

-- over what ends no ticket and no key
pub others-same : (old new : BusState) (key : ℕ) → new.owner ≡ old.owner → new.keys ≡ old.keys →
    KeepsOthers old new key
others-same old new key owner keys =
    keeps_others old new key
    (λ t k other held. ap (λ (f : ℕ → Option ℕ). f t) owner ∙ held)
    (λ k other is. ap (λ (f : ℕ → Bool). f k) keys ∙ is)

-- an endpoint of another key stands as before
pub Stands-other : (old new : BusState) (key : ℕ) (e : EndpointState) → KeepsOthers old new key →
    e.key ≢ key → Stands old e → Stands new e
Stands-other old new key e keeps other stands = keeps.stand e other stands

-- each endpoint stands in a bus that went on by itself
pub Stands-later : (old new : BusState) (e : EndpointState) → Stands old e → IsLater old new →
    Stands new e
Stands-later old new e stands later =
    record {
      key_is_open = ap (λ (f : ℕ → Bool). f e.key) later.keys ∙ stands.key_is_open;
      held = subst (λ (f : ℕ → Option ℕ). AreHeld f e.key e.pending) (sym later.owner) stands.held;
    }
