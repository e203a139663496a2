-- Handles stand over the calls of a host.
use Rattle.std.proofs.Common.{ℕ, ◌≡◌, Bool, List, [], ◌∷◌, ◌++◌, length, Option, Some, None, refl, ◌∙◌, ap, arith, Result, Ok, Err, subst, sym, inl, inr, cond}
use Rattle.usb_device_tables.specs.History.{value_at}
use Rattle.usb_device_ledger.specs.declared.opened.OpenDevice.{OpenDevice}
use Rattle.usb_device_ledger.specs.Entries.{ClaimedInterface, fresh_interface}
use Rattle.usb_device_host.specs.HostState.{HostState}
use Rattle.usb_device_host.specs.InterfaceClaims.{claim_tried, kernel_claimed, claimed_by, claimed_on, host_claimed, claimed_key}
use Rattle.usb_device_host.specs.EndpointOpens.{host_asked, with_endpoint}
use Rattle.usb_device_host.specs.HandleStates.{InterfaceState, StandsInterface, StandsDevice}
use Rattle.usb_error.specs.ErrorState.{ErrorState}
use Rattle.usb_device_host.specs.Opens.{open_tried, opened_by, host_opened, open_key, with_key}
use Rattle.usb_device_ledger.specs.Devices.{device_changed, interface_more}
use Rattle.usb_device_ledger.proofs.DeviceLemmas.{held-interface_more, counts-there, changed-at, changed-other}
use Rattle.std.specs.Prelude.{IsSome}
use Rattle.usb_device_host.proofs.InterfaceFrames.{asked-is, asked-counts, claimed-there, claimed_on-stays, claimed_on-there}
use Rattle.usb_desc.specs.declared.error.Fail.{Fail}
use Rattle.usb_device_tables.proofs.ValueLemmas.{is-some, value-last}
use Rattle.std.proofs.lemmas.Bool.{cases_eq}
use Rattle.usb_device_host.specs.CallErrors.{Leaves}
use Rattle.usb_device_host.proofs.Left.{left}
use Rattle.usb_device_host.proofs.TryLemmas.{open-counts}
use Rattle.usb_device_host.proofs.OpeningLemmas.{claimed-at}

-- each handle stands over a claim
pub StandsInterface-claimed : (h : HostState) (key number : ℕ) (reattach : Bool) (f : InterfaceState) → StandsInterface h f → StandsInterface (host_claimed h key number reattach) f
unfolding host_claimed
StandsInterface-claimed h key number reattach f stands =
    record {
      claim = stands.claim;
      at = claimed_on-stays h key number f.key reattach stands.claim (value_at h.devices key) stands.at;
      number = stands.number;
      open_handle = stands.open_handle;
      device = claimed_on-there h key number reattach (value_at h.devices key) stands.claim.opened stands.device;
    }

-- and when an endpoint is opened, or the kernel asked for the configuration
pub endpoint-interface : (h new : HostState) (i : InterfaceState) (device address : ℕ) → StandsInterface h i → new ≡ with_endpoint (host_asked h device) i.key address → StandsInterface new i
endpoint-interface h new i device address stands is =
    record {
      claim = stands.claim;
      at = ap (λ (x : HostState). value_at x.interfaces i.key) (is ∙ ap (λ x. with_endpoint x i.key address) (asked-is h device)) ∙ stands.at;
      number = stands.number;
      open_handle = stands.open_handle;
      device = subst (λ (ds : List (Option OpenDevice)). IsSome (value_at ds stands.claim.opened)) (sym (ap (λ (x : HostState). x.devices) is)) (counts-there h.devices (host_asked h device).devices (asked-counts h device) stands.claim.opened stands.device);
    }

pub asked-interface : (h new : HostState) (i : InterfaceState) (device : ℕ) → StandsInterface h i → new ≡ host_asked h device → StandsInterface new i
asked-interface h new i device stands is =
    record {
      claim = stands.claim;
      at = ap (λ (x : HostState). value_at x.interfaces i.key) (is ∙ asked-is h device) ∙ stands.at;
      number = stands.number;
      open_handle = stands.open_handle;
      device = subst (λ (ds : List (Option OpenDevice)). IsSome (value_at ds stands.claim.opened)) (sym (ap (λ (x : HostState). x.devices) is)) (counts-there h.devices (host_asked h device).devices (asked-counts h device) stands.claim.opened stands.device);
    }

-- the handle of a device that was opened stands
opened-new : (h : HostState) (tried : Result OpenDevice ErrorState) (key : ℕ) → ((o : OpenDevice) → tried ≡ Ok o → o.handles ≡ 1) → with_key (length h.devices) tried ≡ Ok key → StandsDevice (opened_by h tried) key
opened-new h (Err error) key one is = absurd (cc)
opened-new h (Ok o) key one is =
    let same : length h.devices ≡ key = cc in
    record { device = o; at = ap (value_at (h.devices ++ Some o ∷ [])) (sym same) ∙ value-last h.devices (Some o); open_handle = omega (arith, one o refl) }

pub opened-stands : (h : HostState) (bus address key : ℕ) → open_key h bus address ≡ Ok key → StandsDevice (host_opened h bus address) key
unfolding open_key host_opened
opened-stands h bus address key is =
    let step = open_tried bus address h.kernel in
    opened-new (record h { kernel = step.kernel }) step.answer key (λ o made. (open-counts bus address h.kernel o made).0) is

-- and that of an interface that was claimed
pub claimed-next : (next key : ℕ) (tried : Result (Unit {0}) ErrorState) → claimed_key next tried ≡ Ok key → (key ≡ next) × (tried ≡ Ok tt)
claimed-next next key (Err error) is = absurd (cc)
claimed-next next key (Ok done) is = (cc, refl)

pub claimed-stands : (h new : HostState) (device number key : ℕ) (reattach : Bool) (o : OpenDevice) → value_at h.devices device ≡ Some o → StandsDevice h device → claimed_key (length h.interfaces) (claim_tried h o number reattach) ≡ Ok key → new ≡ host_claimed h device number reattach → StandsInterface new (record { key = key; number = number })
claimed-stands h new device number key reattach o at stands is made =
    let next = claimed-next (length h.interfaces) key (claim_tried h o number reattach) is in
    let after = made ∙ claimed-at h device number reattach o tt at next.1 in
    let claim : ClaimedInterface = fresh_interface device o.device number reattach in
    record {
      claim = claim;
      at = ap (λ (x : HostState). value_at x.interfaces key) after ∙ ap (value_at (h.interfaces ++ Some claim ∷ [])) next.0 ∙ value-last h.interfaces (Some claim);
      number = refl;
      open_handle = omega arith;
      device = subst (λ (x : HostState). IsSome (value_at x.devices device)) (sym made) (claimed-there h device number reattach device (is-some (value_at h.devices device) stands.device stands.at));
    }

-- the handles of devices stand as before
claimed_by-stands : (h : HostState) (c : ClaimedInterface) (r : Result (Unit {0}) ErrorState) (d : ℕ) → StandsDevice h d → StandsDevice (claimed_by h c r) d
claimed_by-stands h c (Err error) d stands = stands
claimed_by-stands h c (Ok done) d stands =
    elim (cases_eq c.opened d) [
      | inl same ↦
          let at : value_at h.devices c.opened ≡ Some stands.device = ap (value_at h.devices) same ∙ stands.at in
          let there = changed-at h.devices c.opened interface_more stands.device at ∙ ap (λ (b : Bool). cond b (Some (interface_more stands.device)) None) (held-interface_more stands.device) in
          record { device = interface_more stands.device; at = ap (value_at (device_changed h.devices c.opened interface_more)) (sym same) ∙ there; open_handle = stands.open_handle }
      | inr apart ↦ record { device = stands.device; at = changed-other h.devices c.opened d interface_more apart ∙ stands.at; open_handle = stands.open_handle }
    ]

claimed_on-stands : (h : HostState) (key number : ℕ) (reattach : Bool) (o : Option OpenDevice) (d : ℕ) → StandsDevice h d → StandsDevice (claimed_on h key number reattach o) d
claimed_on-stands h key number reattach None d stands = stands
claimed_on-stands h key number reattach (Some o) d stands =
    claimed_by-stands (record h { kernel = kernel_claimed h.kernel o number reattach }) (fresh_interface key o.device number reattach) (claim_tried h o number reattach) d
    (record { device = stands.device; at = stands.at; open_handle = stands.open_handle })

pub claimed-stands_device : (h : HostState) (key number : ℕ) (reattach : Bool) (d : ℕ) → StandsDevice h d → StandsDevice (host_claimed h key number reattach) d
unfolding host_claimed
claimed-stands_device h key number reattach d stands = claimed_on-stands h key number reattach (value_at h.devices key) d stands

pub claimed-device : {A : Type 0} (h new : HostState) (device number : ℕ) (reattach : Bool) (r : Result A (Fail ErrorState)) → StandsDevice h device → Leaves r new (host_claimed h device number reattach) h → StandsDevice new device
claimed-device h new device number reattach r stands is =
    left (λ (g : HostState). StandsDevice g device) r new (host_claimed h device number reattach) h is (claimed-stands_device h device number reattach device stands) stands
