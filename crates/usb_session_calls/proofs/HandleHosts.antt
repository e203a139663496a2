-- Hosts after calls on handles of interfaces.
use Rattle.std.proofs.Common.{◌≡◌, ℕ, ◌<◌, ◌+◌, ◌-◌, Bool, [], ◌∷◌, ◌++◌, length, set, Option, Some, None, Result, Ok, Err, refl, ap, sym, ◌∙◌, subst, inl, inr}
use Rattle.std.proofs.lemmas.Bool.{cases_Bool, cases_eq}
use Rattle.std.proofs.lemmas.Option.{same_Some}
use Rattle.usb_device_tables.specs.History.{value_at}
use Rattle.usb_kernel_devices.specs.declared.step.KernelCall.TheVariants as call
use Rattle.usb_kernel_devices.specs.Calls.{same, set_interface_rules}
use Rattle.usb_kernel.specs.Value.{KernelState}
use Rattle.usb_kernel.proofs.Answered.{called-is}
use Rattle.usb_error.specs.ErrorState.{ErrorState}
use Rattle.usb_device_ledger.specs.declared.opened.OpenDevice.{OpenDevice}
use Rattle.usb_device_ledger.specs.Entries.{ClaimedInterface, fresh_interface}
use Rattle.usb_device_host.specs.HostState.{HostState}
use Rattle.usb_device_host.specs.HostBus.{bus_of}
use Rattle.usb_device_host.specs.HandleStates.{InterfaceState, StandsInterface}
use Rattle.usb_device_host.specs.Releases.{owner_gone}
use Rattle.usb_device_ledger.specs.Owners.{has_living}
use Rattle.usb_device_host.specs.Handles.{handle_added, handle_cloned, handle_gone, handle_closed}
use Rattle.usb_device_host.specs.InterfaceClaims.{claim_tried, kernel_claimed, claimed_by, claimed_on, host_claimed, claimed_key}
use Rattle.usb_device_host.specs.OnInterfaces.{setting_unless, alt_setting_asked, alt_setting_set}
use Rattle.usb_device_tables.proofs.ValueLemmas.{value-set_same, value-set_other}
use Rattle.usb_device_host.specs.HostFrames.{ClaimsGoOn}
use Rattle.usb_device_host.proofs.ClaimFrames.{goes-same, goes-ended}
use Rattle.usb_device_host.proofs.HostKeeps.{KeepsSteps}
use Rattle.usb_device_ledger.proofs.DeviceLemmas.{KeepsOpened, opened-same}
use Rattle.usb_device_host.proofs.HeldDevices.{opened-claimed, opened-handle_closed}
use Rattle.usb_device_host.specs.DeviceLaws.{DevicesAreHeld}
use Rattle.usb_kernel.specs.Tickets.{tickets}
use Rattle.usb_device_host.proofs.CountLemmas.{KeepsCount, count-same, claimed-count, handle_closed-count}
use Rattle.usb_session_calls.proofs.SoundDevices.{stands-held}
use Rattle.usb_device_host.proofs.InterfaceFrames.{bus-claimed, line-claimed, bus-handle_closed, line-handle_closed}
use Rattle.usb_device_host.proofs.CalledHosts.{setting-in_use, setting-asked}

-- beside its interfaces a host is as it was to a session, with as many tickets, and each open device has as many handles
pub record KeepsBeside (old new : HostState) : Type 0 where
  pub line : KeepsSteps old new
  pub devices : KeepsOpened old.devices new.devices
  pub bus : bus_of new ≡ bus_of old
  pub count : KeepsCount old new

pub claimed-keeps : (h : HostState) (key number : ℕ) (reattach : Bool) → KeepsBeside h (host_claimed h key number reattach)
claimed-keeps h key number reattach = record { line = line-claimed h key number reattach; devices = opened-claimed h key number reattach; bus = bus-claimed h key number reattach; count = claimed-count h key number reattach }

pub closed-keeps : (h : HostState) (i : ℕ) → KeepsBeside h (handle_closed h i)
closed-keeps h i = record { line = line-handle_closed h i; devices = opened-handle_closed h i; bus = bus-handle_closed h i; count = handle_closed-count h i }

same-keeps : (h : HostState) → KeepsBeside h h
same-keeps h = record { line = record { steps = refl; spare = refl }; devices = opened-same h.devices h.devices refl; bus = refl; count = count-same h }

added-keeps : (h : HostState) (i : ℕ) (o : Option ClaimedInterface) → KeepsBeside h (handle_added h i o)
added-keeps h i None = same-keeps h
added-keeps h i (Some c) = record { line = record { steps = refl; spare = refl }; devices = opened-same h.devices h.devices refl; bus = refl; count = record { count = refl; past = refl } }

pub cloned-keeps : (h : HostState) (i : ℕ) → KeepsBeside h (handle_cloned h i)
unfolding handle_cloned
cloned-keeps h i = added-keeps h i (value_at h.interfaces i)

-- an alternate setting that is set changes interfaces, devices of the kernel and what is armed there
setting_asked-is : (h : HostState) (i setting : ℕ) (c : ClaimedInterface) →
    alt_setting_asked h i setting c ≡
    record h {
      kernel = record h.kernel { devices = (alt_setting_asked h i setting c).kernel.devices; armed = (alt_setting_asked h i setting c).kernel.armed };
      interfaces = (alt_setting_asked h i setting c).interfaces;
    }
setting_asked-is h i setting c =
    ap (λ (k : KernelState). record h { kernel = k; interfaces = (alt_setting_asked h i setting c).interfaces }) (called-is h.kernel c.device call.Alt (set_interface_rules c.number setting) same)

setting_asked-keeps : (h : HostState) (i setting : ℕ) (c : ClaimedInterface) → KeepsBeside h (alt_setting_asked h i setting c)
setting_asked-keeps h i setting c =
    let is = setting_asked-is h i setting c in
    record {
      line = record { steps = ap (λ (g : HostState). g.steps) is; spare = ap (λ (g : HostState). g.kernel.spare) is };
      devices = opened-same h.devices _ (ap (λ (g : HostState). g.devices) is);
      bus = ap bus_of is;
      count = record { count = ap (λ (g : HostState). length g.tickets) is; past = ap (λ (g : HostState). length (tickets g.kernel.past)) is };
    }

pub setting-keeps : (h : HostState) (i setting : ℕ) (c : ClaimedInterface) → value_at h.interfaces i ≡ Some c → KeepsBeside h (alt_setting_set h i setting)
setting-keeps h i setting c at =
    elim (cases_Bool (has_living h.tickets h.endpoints i)) [
      | inl living ↦ subst (KeepsBeside h) (sym (setting-in_use h i setting c at living)) (same-keeps h)
      | inr none ↦ subst (KeepsBeside h) (sym (setting-asked h i setting c at none)) (setting_asked-keeps h i setting c)
    ]

-- the interfaces of a host are as they were, but for this one, which is like this or gone
pub record WritesOne (h now : HostState) (i : ℕ) (c d : ClaimedInterface) : Type 0 where
  pub at : value_at h.interfaces i ≡ Some c
  pub goes : ClaimsGoOn (set h.interfaces i (Some d)) now.interfaces
  pub number : d.number ≡ c.number

-- one handle less
abbrev pub fewer : ClaimedInterface → ClaimedInterface
fewer c = record c { handles = c.handles - 1 }

-- and one more
abbrev pub more : ClaimedInterface → ClaimedInterface
more c = record c { handles = c.handles + 1 }

pub closed-writes : (h : HostState) (i : ℕ) (c : ClaimedInterface) → value_at h.interfaces i ≡ Some c → WritesOne h (handle_closed h i) i c (fewer c)
unfolding handle_closed owner_gone
closed-writes h i c at =
    record {
      at = at;
      goes = subst (λ (o : Option ClaimedInterface). ClaimsGoOn (set h.interfaces i (Some (fewer c))) (handle_gone h i o).interfaces) (sym at) (goes-ended (set h.interfaces i (Some (fewer c))) h.tickets h.endpoints i);
      number = refl;
    }

cloned-interfaces : (h : HostState) (i : ℕ) (c : ClaimedInterface) → value_at h.interfaces i ≡ Some c → (handle_cloned h i).interfaces ≡ set h.interfaces i (Some (more c))
unfolding handle_cloned
cloned-interfaces h i c at = ap (λ o. (handle_added h i o).interfaces) at

pub cloned-writes : (h : HostState) (i : ℕ) (c : ClaimedInterface) → value_at h.interfaces i ≡ Some c → WritesOne h (handle_cloned h i) i c (more c)
cloned-writes h i c at = record { at = at; goes = goes-same (set h.interfaces i (Some (more c))) (handle_cloned h i).interfaces (cloned-interfaces h i c at); number = refl }

-- a handle stands where the others do, if one is open
pub stands-written : (h now : HostState) (i : ℕ) (c d : ClaimedInterface) (f : InterfaceState) → WritesOne h now i c d → DevicesAreHeld now → ((e : ClaimedInterface) → value_at (set h.interfaces i (Some d)) f.key ≡ Some e → 0 < e.handles) → StandsInterface h f → StandsInterface now f
stands-written h now i c d f writes held open_ stands =
    elim (cases_eq i f.key) [
      | inl here ↦
          let written : value_at (set h.interfaces i (Some d)) f.key ≡ Some d = ap (value_at (set h.interfaces i (Some d))) (sym here) ∙ value-set_same h.interfaces i c (Some d) writes.at in
          let some = open_ d written in
          let claim : stands.claim ≡ c = same_Some stands.claim c (sym stands.at ∙ ap (value_at h.interfaces) (sym here) ∙ writes.at) in
          stands-held now f d held (writes.goes.stays f.key d written some) (writes.number ∙ sym (ap (λ (z : ClaimedInterface). z.number) claim) ∙ stands.number) some
      | inr apart ↦
          let endpoint_state = value-set_other h.interfaces i f.key (Some d) apart ∙ stands.at in
          stands-held now f stands.claim held (writes.goes.stays f.key stands.claim endpoint_state stands.open_handle) stands.number stands.open_handle
    ]

-- a setting that was set
pub setting_unless-like : (h now : HostState) (i setting : ℕ) (c : ClaimedInterface) (errno : Option ℕ) → value_at h.interfaces i ≡ Some c → now.interfaces ≡ set h.interfaces i (Some (setting_unless c setting errno)) → WritesOne h now i c (setting_unless c setting errno)
setting_unless-like h now i setting c None at is = record { at = at; goes = goes-same (set h.interfaces i (Some (record c { setting = setting }))) now.interfaces is; number = refl }
setting_unless-like h now i setting c (Some errno) at is = record { at = at; goes = goes-same (set h.interfaces i (Some c)) now.interfaces is; number = refl }

pub setting_unless-handles : (c : ClaimedInterface) (setting : ℕ) (errno : Option ℕ) → (setting_unless c setting errno).handles ≡ c.handles
setting_unless-handles c setting None = refl
setting_unless-handles c setting (Some errno) = refl

-- what a claim leaves of the interfaces
claimed-at : (h : HostState) (key number : ℕ) (reattach : Bool) (o : OpenDevice) → value_at h.devices key ≡ Some o →
    host_claimed h key number reattach ≡ claimed_by (record h { kernel = kernel_claimed h.kernel o number reattach }) (fresh_interface key o.device number reattach) (claim_tried h o number reattach)
unfolding host_claimed
claimed-at h key number reattach o at = ap (claimed_on h key number reattach) at

by-refused : (h : HostState) (c : ClaimedInterface) (next : ℕ) (t : Result (Unit {0}) ErrorState) (error : ErrorState) → claimed_key next t ≡ Err error → (claimed_by h c t).interfaces ≡ h.interfaces
by-refused h c next (Err other) error tried = refl
by-refused h c next (Ok done) error tried = absurd (cc)

by-claimed : (h : HostState) (c : ClaimedInterface) (next key : ℕ) (t : Result (Unit {0}) ErrorState) → claimed_key next t ≡ Ok key → (claimed_by h c t).interfaces ≡ h.interfaces ++ Some c ∷ []
by-claimed h c next key (Err error) tried = absurd (cc)
by-claimed h c next key (Ok done) tried = refl

pub claim-refused_interfaces : (h : HostState) (key number : ℕ) (reattach : Bool) (o : OpenDevice) (next : ℕ) (error : ErrorState) → value_at h.devices key ≡ Some o → claimed_key next (claim_tried h o number reattach) ≡ Err error → (host_claimed h key number reattach).interfaces ≡ h.interfaces
claim-refused_interfaces h key number reattach o next error at tried =
    ap (λ (g : HostState). g.interfaces) (claimed-at h key number reattach o at)
    ∙ by-refused (record h { kernel = kernel_claimed h.kernel o number reattach }) (fresh_interface key o.device number reattach) next (claim_tried h o number reattach) error tried

pub claim-interfaces : (h : HostState) (key number : ℕ) (reattach : Bool) (o : OpenDevice) (next k : ℕ) → value_at h.devices key ≡ Some o → claimed_key next (claim_tried h o number reattach) ≡ Ok k → (host_claimed h key number reattach).interfaces ≡ h.interfaces ++ Some (fresh_interface key o.device number reattach) ∷ []
claim-interfaces h key number reattach o next k at tried =
    ap (λ (g : HostState). g.interfaces) (claimed-at h key number reattach o at)
    ∙ by-claimed (record h { kernel = kernel_claimed h.kernel o number reattach }) (fresh_interface key o.device number reattach) next k (claim_tried h o number reattach) tried

-- the places for steps stay
pub spare-beside : (h now host : HostState) → now ≡ host → KeepsBeside h host → now.kernel.spare ≡ h.kernel.spare
spare-beside h now host is keeps = ap (λ (g : HostState). g.kernel.spare) is ∙ keeps.line.spare
