-- What a handle's calls ask of a bus, and what they keep true.
use Rattle.std.specs.Prelude.{ℕ, ◌≡◌, ◌≢◌, true, List, [], ◌∷◌, Option, Some}
use Rattle.usb_device_endpoint.specs.BusState.{BusState}
use Rattle.usb_device_endpoint.specs.EndpointState.{EndpointState}

-- a ticket is none of these
abbrev pub IsApart : ℕ → List ℕ → Type 0
IsApart t [] = Unit {0}
IsApart t (u ∷ us) = (t ≢ u) × IsApart t us

-- the tickets are held by the endpoint of this key, and no two are the same
abbrev pub AreHeld : (ℕ → Option ℕ) → ℕ → List ℕ → Type 0
AreHeld owner k [] = Unit {0}
AreHeld owner k (t ∷ ts) = (owner t ≡ Some k) × IsApart t ts × AreHeld owner k ts

-- the endpoint stands in the bus: its key is open, and it holds its pending tickets
pub record Stands (b : BusState) (e : EndpointState) : Type 0 where
  pub key_is_open : b.keys e.key ≡ true
  pub held : AreHeld b.owner e.key e.pending

-- what endpoints of other keys hold has not ended, and those that stood stand
pub record KeepsOthers (old new : BusState) (key : ℕ) : Type 0 where
  pub tickets : (t k : ℕ) → k ≢ key → old.owner t ≡ Some k → new.owner t ≡ Some k
  pub keys : (k : ℕ) → k ≢ key → old.keys k ≡ true → new.keys k ≡ true
  pub stand : (e : EndpointState) → e.key ≢ key → Stands old e → Stands new e
