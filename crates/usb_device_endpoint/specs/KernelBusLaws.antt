-- What the bus over a kernel alone owes as a bus: its owners after a write, and the values of its tickets.
use Rattle.std.specs.Prelude.{ℕ, ◌≡◌, true, false, set, List, [], ◌∷◌, Option, Some, None, IsSome, ◌==◌, refl}
use Rattle.std.specs.Option.{option_map}
use Rattle.std.proofs.Common.{cond, zero, suc}
use Rattle.std.proofs.Math.Path.{fun_ext}
use Rattle.std.proofs.Math.Dec.{eqb-suc-zero, eqb-zero-suc, eqb-suc-suc}
use Rattle.usb_xfer.specs.declared.transfer.Completion.{Completion}
use Rattle.usb_kernel.specs.declared.event.Event.{Event}
use Rattle.usb_device_endpoint.specs.BusState.{without_owner}
use Rattle.usb_kernel.specs.TransferCompletions.{transfer_completion}
use Rattle.usb_device_endpoint.specs.Values.{HoldsCompletion}
use Rattle.usb_kernel.specs.Holds.{Hold, value_for}
use Rattle.usb_device_endpoint.specs.KernelBusState.{KernelBusState}
use Rattle.usb_device_endpoint.specs.KernelBusCalls.{hold_at, owner_at, bus_of, bus_without, bus_value}

-- a write of one place ends that ticket alone
owner_at-set : (holds : List (Option Hold)) (t u : ℕ) → owner_at (set holds t None) u ≡ without_owner (owner_at holds) t u
owner_at-set [] t u = elim (t == u) as (λ v. ◌≡◌ {A = Option ℕ} None (cond v None None)) [ true ↦ refl | false ↦ refl ]
owner_at-set (o ∷ os) zero zero = refl
owner_at-set (o ∷ os) zero (suc u) = rw (eqb-zero-suc u) refl
owner_at-set (o ∷ os) (suc t) zero = rw (eqb-suc-zero t) refl
owner_at-set (o ∷ os) (suc t) (suc u) = rw (eqb-suc-suc t u) (owner_at-set os t u)

pub bus_of-without_owner : (h : KernelBusState) (t : ℕ) → bus_of (bus_without h t) ≡ record (bus_of h) { owner = without_owner (owner_at h.holds) t }
bus_of-without_owner h t = let e : owner_at (set h.holds t None) ≡ without_owner (owner_at h.holds) t = fun_ext (owner_at-set h.holds t) in cc

-- the value of a ticket that is held has come exactly where the journal gives its completion
value-holds : (past : List Event) (t : ℕ) (come : Option Completion) (o : Option Hold) → come ≡ transfer_completion past t → IsSome (option_map (λ (p : Hold). p.key) o) → HoldsCompletion past t (value_for come o)
value-holds past t come None is some = cc
value-holds past t None (Some p) is some = rw (← is) refl
value-holds past t (Some c) (Some p) is some = rw (← is) refl

pub bus_value-holds : (h : KernelBusState) (t : ℕ) → IsSome (owner_at h.holds t) → HoldsCompletion h.kernel.past t (bus_value h t)
bus_value-holds h t some = value-holds h.kernel.past t (transfer_completion h.kernel.past t) (hold_at h.holds t) refl some
