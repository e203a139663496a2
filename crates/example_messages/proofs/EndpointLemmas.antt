-- The two endpoints as they are closed.
use Rattle.std.proofs.Common.{◌≡◌, ◌∙◌, ℕ, Bool, true, false, Ok, Err, refl, ap, inr, Result}
use Rattle.std.specs.Prelude.{◌==◌, if◌then◌else◌, IfErr}
use Rattle.std.proofs.lemmas.Bool.{eq-eqb}
use Rattle.usb_error.specs.ErrorState.{ErrorState}
use Rattle.usb_device_endpoint.specs.BusState.{without_key}
use Rattle.usb_device_endpoint.specs.EndpointState.{EndpointState}
use Rattle.usb_device_host.specs.HostState.{HostState}
use Rattle.usb_device_host.specs.HostBus.{key_at}
use Rattle.example_messages.specs.Restarts.{ClearsHalt, OneRefused}
use Rattle.example_messages.specs.Endpoints.{BothClosed}

-- an endpoint that is closed is not open, and does not open again
closed-own : (keys keys' : ℕ → Bool) (k j : ℕ) → keys' ≡ without_key keys k → k ≡ j → keys' j ≡ false
closed-own keys keys' k j is same =
    ap (λ (f : ℕ → Bool). f j) is ∙ ap (λ b. if b then false else keys j) (eq-eqb k j same)

stays-closed : (keys keys' : ℕ → Bool) (k j : ℕ) → keys' ≡ without_key keys k → keys j ≡ false → keys' j ≡ false
stays-closed keys keys' k j is closed =
    ap (λ (f : ℕ → Bool). f j) is ∙ by (k == j)
  where
    by : (b : Bool) → (if b then false else keys j) ≡ false
    by true = refl
    by false = closed

pub both-closed : (x y z : HostState) (source target : EndpointState) → key_at y.endpoints ≡ without_key (key_at x.endpoints) source.key →
    key_at z.endpoints ≡ without_key (key_at y.endpoints) target.key → BothClosed z source target
both-closed x y z source target one two = record {
  input = stays-closed (key_at y.endpoints) (key_at z.endpoints) target.key source.key two
      (closed-own (key_at x.endpoints) (key_at y.endpoints) source.key source.key one refl);
  output = closed-own (key_at y.endpoints) (key_at z.endpoints) target.key target.key two refl;
}

-- the halt of the other endpoint is not cleared
pub target-refused : (new : HostState) (source target : EndpointState) (r : Result (Unit {0}) ErrorState) → ClearsHalt new target r →
    IfErr r (OneRefused source target)
target-refused new source target (Ok u) clears = tt
target-refused new source target (Err error) clears = record { host = new; refused = inr clears }
