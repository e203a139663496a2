-- A handle of a device is turned into one of an interface, and that into an endpoint.
use Rattle.std.proofs.Common.{ℕ, ◌≡◌, ◌+◌, ◌-◌, arith, Bool, true, false, cond, length, Some, None, refl, ap, sym, ◌∙◌, subst, inl, inr, Result, Ok, Err}
use Rattle.std.specs.Prelude.{IsSome, IfOk, nat_lt, ◌||◌}
use Rattle.std.proofs.lemmas.Bool.{cases_eq}
use Rattle.std.proofs.lemmas.Grind.{common_steps}
use Rattle.usb_desc.specs.declared.error.Fail.{Fail}
use Rattle.usb_error.specs.ErrorState.{ErrorState}
use Rattle.usb_device_tables.specs.History.{value_at}
use Rattle.usb_device_tables.proofs.ValueLemmas.{some-of, is-some}
use Rattle.usb_device_endpoint.specs.BusState.{BusState}
use Rattle.usb_device_endpoint.specs.EndpointState.{EndpointState}
use Rattle.usb_device_endpoint.specs.Handles.{Stands}
use Rattle.usb_device_ledger.specs.declared.opened.OpenDevice.{OpenDevice}
use Rattle.usb_device_ledger.specs.Devices.{is_held, handle_less, interface_more}
use Rattle.usb_device_ledger.proofs.DeviceLemmas.{changed-at, changed-other, held-interface_more}
use Rattle.usb_device_host.specs.HostState.{HostState}
use Rattle.usb_device_host.specs.HostBus.{bus_of}
use Rattle.usb_device_host.specs.Handles.{device_closed, handle_closed}
use Rattle.usb_device_host.specs.InterfaceClaims.{claimed_key, claim_tried, host_claimed}
use Rattle.usb_device_host.proofs.OpeningLemmas.{claimed-at}
use Rattle.usb_device_host.proofs.InterfaceFrames.{bus-handle_closed}
use Rattle.usb_device.specs.HandleCalls.{ClaimsInterface}
use Rattle.usb_device_host.specs.HandleStates.{InterfaceState, StandsInterface}

-- an interface is claimed, and then the handle of its device closed: the interface stands
claim_then : (h new : HostState) (key number : ℕ) (reattach : Bool) (o : OpenDevice) (f : InterfaceState) (next : ℕ) → value_at h.devices key ≡ Some o → claimed_key next (claim_tried h o number reattach) ≡ Ok f.key → new ≡ host_claimed h key number reattach → StandsInterface new f → StandsInterface (device_closed new key) f
claim_then h new key number reattach o f next at tried is stands =
    let made = is ∙ claimed-at h key number reattach o tt at (claim_ok next f.key (claim_tried h o number reattach) tried) in
    let counted : value_at new.devices key ≡ Some (interface_more o) = ap (λ (g : HostState). value_at g.devices key) made ∙ changed-at h.devices key interface_more o at ∙ ap (λ (b : Bool). cond b (Some (interface_more o)) None) (held-interface_more o) in
    let less = handle_less (interface_more o) in
    let held : is_held less ≡ true = still (nat_lt 0 (o.handles - 1)) o.interfaces in
    record {
      claim = stands.claim;
      at = stands.at;
      number = stands.number;
      open_handle = stands.open_handle;
      device = elim (cases_eq key stands.claim.opened) [
        | inl same ↦ subst (λ (n : ℕ). IsSome (value_at (device_closed new key).devices n)) same (is-some _ less (changed-at new.devices key handle_less (interface_more o) counted ∙ ap (λ (b : Bool). cond b (Some less) None) held))
        | inr apart ↦
            let p = some-of (value_at new.devices stands.claim.opened) stands.device in
            is-some _ p.0 (changed-other new.devices key stands.claim.opened handle_less apart ∙ p.1)
      ];
    }
  where
    still : (b : Bool) (n : ℕ) → (b || nat_lt 0 (n + 1)) ≡ true
    still true n = refl
    still false n = grind (arith, common_steps)

    claim_ok : (next key : ℕ) (r : Result (Unit {0}) ErrorState) → claimed_key next r ≡ Ok key → r ≡ Ok tt
    claim_ok next key (Err error) is = absurd (cc)
    claim_ok next key (Ok done) is = refl

pub claimed_closed : (h new after : HostState) (key number : ℕ) (reattach : Bool) (r : Result InterfaceState (Fail ErrorState)) → ClaimsInterface h new key number reattach r → IfOk r (StandsInterface new) → after ≡ device_closed new key → IfOk r (StandsInterface after)
claimed_closed h new after key number reattach (Err error) claims stands is = tt
claimed_closed h new after key number reattach (Ok f) claims stands is =
    subst (λ (g : HostState). StandsInterface g f) (sym is) (claim_then h new key number reattach claims.device f (length h.interfaces) claims.at claims.tried claims.host stands)

-- an endpoint stands when a handle of an interface is closed
pub opened_closed : (h after : HostState) (key : ℕ) (r : Result EndpointState (Fail ErrorState)) → IfOk r (Stands (bus_of h)) → after ≡ handle_closed h key → IfOk r (Stands (bus_of after))
opened_closed h after key r stands is =
    subst (λ (b : BusState). IfOk r (Stands b)) (sym (ap bus_of is ∙ bus-handle_closed h key)) stands
