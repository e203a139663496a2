-- That an endpoint holds its pending tickets, as a fact with one proof at most.
use Rattle.std.specs.Prelude.{ℕ, List, [], ◌∷◌, Option, Some}
use Rattle.std.specs.Coded.{×_prop, →_prop, Unit-prop, Coded-set, coded_option, coded_ℕ}
use mathlib.Core.HLevel.{×₃_prop}
use Rattle.usb_device_endpoint.specs.BusState.{BusState}
use Rattle.usb_device_endpoint.specs.EndpointState.{EndpointState}
use Rattle.usb_device_endpoint.specs.Handles.{IsApart, AreHeld}

none-prop : IsProp ⊥
none-prop = elim [ ]

pub IsApart-prop : (t : ℕ) (us : List ℕ) → IsProp (IsApart t us)
IsApart-prop t [] = Unit-prop
IsApart-prop t (u ∷ us) = ×_prop (→_prop none-prop) (IsApart-prop t us)

pub AreHeld-prop : (owner : ℕ → Option ℕ) (k : ℕ) (ts : List ℕ) → IsProp (AreHeld owner k ts)
AreHeld-prop owner k [] = Unit-prop
AreHeld-prop owner k (t ∷ ts) = ×₃_prop (Coded-set (coded_option coded_ℕ) (owner t) (Some k)) (IsApart-prop t ts) (AreHeld-prop owner k ts)

-- the endpoint holds its pending tickets
abbrev pub IsHeld : BusState → EndpointState → Type 0
IsHeld b e = AreHeld b.owner e.key e.pending

pub IsHeld-prop : (b : BusState) (e : EndpointState) → IsProp (IsHeld b e)
IsHeld-prop b e = AreHeld-prop b.owner e.key e.pending
