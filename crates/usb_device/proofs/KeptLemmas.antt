-- Which handles stand over the calls of devices, of interfaces and of futures.
use Rattle.std.proofs.Common.{ℕ, suc, arith, ◌≡◌, ◌≢◌, ◌+◌, ◌-◌, ◌<◌, Bool, List, length, set, Option, Some, None, inl, inr, refl, sym, ap, ◌∙◌, subst}
use Rattle.std.specs.Prelude.{IsSome, IfSome, IfNone, true}
use Rattle.std.specs.Option.{ForSome}
use Rattle.usb_desc.specs.declared.types.Direction.{Direction}
use Rattle.std.proofs.lemmas.Bool.{cases_eq, cond_both}
use Rattle.std.proofs.lemmas.Option.{none-some, same_Some}
use Rattle.usb_kernel.specs.Extends.{Extends}
use Rattle.usb_kernel.specs.Calls.{called}
use Rattle.usb_kernel.proofs.Extends.{extends-same, extends-reset}
use Rattle.usb_xfer.specs.declared.transfer.TransferData.{TransferData}
use Rattle.usb_device_endpoint.specs.BusState.{BusState}
use Rattle.usb_device_endpoint.specs.EndpointState.{EndpointState}
use Rattle.usb_device_endpoint.specs.Handles.{Stands, KeepsOthers}
use Rattle.usb_device_endpoint.proofs.Frames.{Stands-later, Stands-other, keeps_others, others-same}
use Rattle.usb_device_tables.specs.History.{value_at}
use Rattle.usb_device_tables.proofs.ValueLemmas.{value-set_same, value-set_other}
use Rattle.usb_device_tables.proofs.SerialLemmas.{cases_Option}
use Rattle.usb_device_ledger.specs.Entries.{ClaimedInterface, HostEndpoint}
use Rattle.usb_device_ledger.specs.Owners.{has_living}
use Rattle.usb_device_ledger.specs.declared.opened.OpenDevice.{OpenDevice}
use Rattle.usb_device_ledger.specs.Devices.{handle_more}
use Rattle.usb_device_ledger.proofs.DeviceLemmas.{KeepsThere, there-same, counts-same, counts-there, counts-set, counts_of, changed-there, held-handle_more}
use Rattle.usb_device_host.specs.HostState.{HostState}
use Rattle.usb_device_host.specs.HostBus.{bus_of}
use Rattle.usb_device_host.specs.HostFrames.{ClaimsGoOn, HostGoesOn}
use Rattle.usb_device_host.specs.Handles.{device_cloned, device_closed, handle_added, handle_cloned, handle_gone, handle_closed}
use Rattle.usb_device_host.specs.Releases.{owner_gone}
use Rattle.usb_device_host.specs.Opens.{host_opened}
use Rattle.usb_device_host.specs.InterfaceClaims.{host_claimed}
use Rattle.usb_device_host.specs.EndpointOpens.{host_asked, with_endpoint}
use Rattle.usb_device_host.specs.OnDevices.{host_detached, detached_on, host_attached, attached_on, host_configured, configured_on, configured_unless, set_configuration_errno, host_speed_asked, speed_asked_on, host_reset, reset_on}
use Rattle.usb_device_host.specs.OnInterfaces.{alt_setting_errno, setting_unless, alt_setting_asked, alt_setting_on, alt_setting_set}
use Rattle.usb_device_host.specs.HostCalls.{host_left}
use Rattle.usb_device_host.specs.TicketEnds.{host_taken}
use Rattle.usb_device_host.specs.Controls.{request_started}
use Rattle.usb_device_host.proofs.ClaimFrames.{goes-same, goes-ended}
use Rattle.usb_device_host.proofs.EndpointLemmas.{key-kept}
use Rattle.usb_device_host.proofs.InterfaceFrames.{bus-handle_closed, bus-claimed, claimed_on-stays, claimed-there, asked-is, asked-counts, opened-is, opened-there}
use Rattle.usb_device_host.specs.DeviceLaws.{DevicesAreHeld}
use Rattle.usb_device.specs.HeldLaws.{KeepsDevices, KeepsHeld}
use Rattle.usb_device_host.specs.HandleStates.{InterfaceState, StandsDevice, StandsInterface}
use Rattle.usb_device.specs.Futures.{FutureState, StandsFuture, future_taken, future_closed, future_awaited}
use Rattle.usb_device.specs.KeptHandles.{HandlesStand, StandBesideDevice, StandBesideInterface, StandBesideKey}
use Rattle.usb_device.proofs.FreshKeys.{endpoint-within}
use Rattle.usb_device.proofs.FutureFrames.{HandlesStay, stays-started, others-started, device-started, interface-started, future-started, went-future, others-none, stays-taken, others-taken, stays-closed, others-closed, future-stays, future-went, future-same, future-within}
use Rattle.usb_device_host.proofs.HeldDevices.{held-goes}
use Rattle.usb_device.proofs.HeldLaw.{devices_stay_held}
use Rattle.usb_device_host.proofs.LeftDevices.{device-stays, interface-stays}

-- an interface with an open handle keeps one, with its number and its device
record KeepsClaim (new : List (Option ClaimedInterface)) (i : ℕ) (c : ClaimedInterface) : Type 0 where
  pub claim : ClaimedInterface
  pub at : value_at new i ≡ Some claim
  pub number : claim.number ≡ c.number
  pub opened : claim.opened ≡ c.opened
  pub open_handle : 0 < claim.handles

abbrev KeepClaims : List (Option ClaimedInterface) → List (Option ClaimedInterface) → Type 0
KeepClaims old new = (i : ℕ) (c : ClaimedInterface) → value_at old i ≡ Some c → 0 < c.handles → KeepsClaim new i c

claims-go : (old new : List (Option ClaimedInterface)) → ClaimsGoOn old new → KeepClaims old new
claims-go old new goes i c at some = record { claim = c; at = goes.stays i c at some; number = refl; opened = refl; open_handle = some }

claims-same : (old new : List (Option ClaimedInterface)) → new ≡ old → KeepClaims old new
claims-same old new same = claims-go old new (goes-same old new same)

claims-set : (xs : List (Option ClaimedInterface)) (k : ℕ) (c d : ClaimedInterface) → value_at xs k ≡ Some c → d.number ≡ c.number → d.opened ≡ c.opened → (0 < c.handles → 0 < d.handles) → KeepClaims xs (set xs k (Some d))
claims-set xs k c d at number opened more i e there some =
    elim (cases_eq k i) [
      | inl same ↦
          let e_is : c ≡ e = same_Some c e (sym at ∙ ap (value_at xs) same ∙ there) in
          record {
            claim = d;
            at = ap (value_at (set xs k (Some d))) (sym same) ∙ value-set_same xs k c (Some d) at;
            number = number ∙ ap (λ (x : ClaimedInterface). x.number) e_is;
            opened = opened ∙ ap (λ (x : ClaimedInterface). x.opened) e_is;
            open_handle = more (subst (λ (x : ClaimedInterface). 0 < x.handles) (sym e_is) some);
          }
      | inr apart ↦ record { claim = e; at = value-set_other xs k i (Some d) apart ∙ there; number = refl; opened = refl; open_handle = some }
    ]

-- handles stand where these do
device-kept : (h g : HostState) (d : ℕ) → KeepsDevices h.devices g.devices → StandsDevice h d → StandsDevice g d
device-kept h g d keeps stands =
    let k = keeps d stands.device stands.at stands.open_handle in
    record { device = k.device; at = k.at; open_handle = omega (arith, k.more, stands.open_handle) }

interface-kept : (h g : HostState) (i : InterfaceState) → KeepClaims h.interfaces g.interfaces → KeepsThere h.devices g.devices → StandsInterface h i → StandsInterface g i
interface-kept h g i claims there stands =
    let k = claims i.key stands.claim stands.at stands.open_handle in
    record {
      claim = k.claim;
      at = k.at;
      number = k.number ∙ stands.number;
      open_handle = k.open_handle;
      device = subst (λ (n : ℕ). IsSome (value_at g.devices n)) (sym k.opened) (there stands.claim.opened stands.device);
    }

endpoint-kept : (h g : HostState) (e : EndpointState) → ((key : ℕ) → KeepsOthers (bus_of h) (bus_of g) key) → Stands (bus_of h) e → Stands (bus_of g) e
endpoint-kept h g e others stands = Stands-other (bus_of h) (bus_of g) (suc e.key) e (others (suc e.key)) (λ same. absurd (omega (arith, same))) stands

future-kept : (h g : HostState) (f : FutureState) → ((key : ℕ) → KeepsOthers (bus_of h) (bus_of g) key) → Extends h.kernel.past g.kernel.past → StandsFuture h f → StandsFuture g f
future-kept h g f others past stands = future-stays h g f (suc f.key) (λ same. absurd (omega (arith, same))) (others (suc f.key)) past stands

stand-by : (h g : HostState) → KeepsHeld h g → KeepsThere h.devices g.devices → KeepClaims h.interfaces g.interfaces → ((key : ℕ) → KeepsOthers (bus_of h) (bus_of g) key) → Extends h.kernel.past g.kernel.past → HandlesStand h g
stand-by h g keeps there claims others past =
    record {
      devices = λ d stands. device-kept h g d keeps.devices stands;
      interfaces = λ i stands. interface-kept h g i claims there stands;
      endpoints = λ e stands. endpoint-kept h g e others stands;
      futures = λ f stands. future-kept h g f others past stands;
      held = keeps.held;
    }

-- and where the bus stays
stand-same : (h g : HostState) → KeepsHeld h g → KeepsThere h.devices g.devices → KeepClaims h.interfaces g.interfaces → bus_of g ≡ bus_of h → HandlesStand h g
stand-same h g keeps there claims same =
    stand-by h g keeps there claims (λ key. subst (λ (b : BusState). KeepsOthers (bus_of h) b key) (sym same) (others-none (bus_of h) key))
    (subst (λ (b : BusState). Extends h.kernel.past b.past) (sym same) (extends-same h.kernel.past))

-- nothing changes, and one call after another
pub stand-none : (h : HostState) → HandlesStand h h
stand-none h = record { devices = λ d stands. stands; interfaces = λ i stands. stands; endpoints = λ e stands. stands; futures = λ f stands. stands; held = λ own. own }

pub stand-trans : (a b c : HostState) → HandlesStand a b → HandlesStand b c → HandlesStand a c
stand-trans a b c first second =
    record {
      devices = λ d stands. second.devices d (first.devices d stands);
      interfaces = λ i stands. second.interfaces i (first.interfaces i stands);
      endpoints = λ e stands. second.endpoints e (first.endpoints e stands);
      futures = λ f stands. second.futures f (first.futures f stands);
      held = λ own. second.held (first.held own);
    }

-- a device is opened, and a handle of it cloned
pub stand-opened : (h : HostState) (bus address : ℕ) → HandlesStand h (host_opened h bus address)
stand-opened h bus address =
    let is = opened-is h bus address in
    stand-same h (host_opened h bus address) (devices_stay_held.open_device h bus address) (opened-there h bus address) (claims-same h.interfaces (host_opened h bus address).interfaces (ap (λ (g : HostState). g.interfaces) is)) (ap bus_of is)

pub stand-device_cloned : (h : HostState) (key : ℕ) → StandsDevice h key → HandlesStand h (device_cloned h key)
stand-device_cloned h key stands =
    stand-same h (device_cloned h key) (devices_stay_held.clone_device h key stands) (λ k there. changed-there h.devices key k handle_more held-handle_more there) (claims-same h.interfaces h.interfaces refl) refl

-- the kernel is asked for the configuration
pub stand-asked : (h : HostState) (key : ℕ) → HandlesStand h (host_asked h key)
stand-asked h key =
    let is = asked-is h key in
    stand-same h (host_asked h key) (devices_stay_held.ask h key) (counts-there h.devices (host_asked h key).devices (asked-counts h key)) (claims-same h.interfaces (host_asked h key).interfaces (ap (λ (g : HostState). g.interfaces) is)) (ap bus_of is)

-- calls on open devices
record KeepsFound (old new : HostState) : Type 0 where
  pub there : KeepsThere old.devices new.devices
  pub interfaces : new.interfaces ≡ old.interfaces
  pub bus : bus_of new ≡ bus_of old

found-same : (h : HostState) → KeepsFound h h
found-same h = record { there = there-same h.devices h.devices refl; interfaces = refl; bus = refl }

stand-found : (h g : HostState) → KeepsHeld h g → KeepsFound h g → HandlesStand h g
stand-found h g keeps found = stand-same h g keeps found.there (claims-same h.interfaces g.interfaces found.interfaces) found.bus

detached_on-found : (h : HostState) (number : ℕ) (o : Option OpenDevice) → KeepsFound h (detached_on h number o)
unfolding called
detached_on-found h number None = found-same h
detached_on-found h number (Some o) = record { there = there-same h.devices h.devices refl; interfaces = refl; bus = refl }

pub stand-detached : (h : HostState) (key number : ℕ) → HandlesStand h (host_detached h key number)
unfolding host_detached
stand-detached h key number = stand-found h (host_detached h key number) (devices_stay_held.detach h key number) (detached_on-found h number (value_at h.devices key))

attached_on-found : (h : HostState) (number : ℕ) (o : Option OpenDevice) → KeepsFound h (attached_on h number o)
unfolding called
attached_on-found h number None = found-same h
attached_on-found h number (Some o) = record { there = there-same h.devices h.devices refl; interfaces = refl; bus = refl }

pub stand-attached : (h : HostState) (key number : ℕ) → HandlesStand h (host_attached h key number)
unfolding host_attached
stand-attached h key number = stand-found h (host_attached h key number) (devices_stay_held.attach h key number) (attached_on-found h number (value_at h.devices key))

speed_on-found : (h : HostState) (o : Option OpenDevice) → KeepsFound h (speed_asked_on h o)
unfolding called
speed_on-found h None = found-same h
speed_on-found h (Some o) = record { there = there-same h.devices h.devices refl; interfaces = refl; bus = refl }

pub stand-speed : (h : HostState) (key : ℕ) → HandlesStand h (host_speed_asked h key)
unfolding host_speed_asked
stand-speed h key = stand-found h (host_speed_asked h key) (devices_stay_held.ask_speed h key) (speed_on-found h (value_at h.devices key))

configured-counts : (o : OpenDevice) (value : ℕ) (errno : Option ℕ) → counts_of (configured_unless o value errno) ≡ counts_of o
configured-counts o value None = refl
configured-counts o value (Some errno) = refl

configured_on-found : (h : HostState) (key value : ℕ) (o : Option OpenDevice) → value_at h.devices key ≡ o → KeepsFound h (configured_on h key value o)
unfolding called
configured_on-found h key value None at = found-same h
configured_on-found h key value (Some o) at =
    let set_is = configured_unless o value (set_configuration_errno h o value) in
    record {
      there = counts-there h.devices (set h.devices key (Some set_is)) (counts-set h.devices key o set_is at (configured-counts o value (set_configuration_errno h o value)));
      interfaces = refl;
      bus = refl;
    }

pub stand-configured : (h : HostState) (key value : ℕ) → HandlesStand h (host_configured h key value)
unfolding host_configured
stand-configured h key value = stand-found h (host_configured h key value) (devices_stay_held.set_configuration h key value) (configured_on-found h key value (value_at h.devices key) refl)

-- a reset, whose unplug goes into the journal
reset_on-stand : (h : HostState) (o : Option OpenDevice) → KeepsHeld h (reset_on h o) → HandlesStand h (reset_on h o)
reset_on-stand h None keeps = stand-none h
reset_on-stand h (Some o) keeps =
    stand-by h (reset_on h (Some o)) keeps (there-same h.devices h.devices refl) (claims-same h.interfaces h.interfaces refl) (λ key. others-same (bus_of h) (bus_of (reset_on h (Some o))) key refl refl) (extends-reset h.kernel o.device)

pub stand-reset : (h : HostState) (key : ℕ) → HandlesStand h (host_reset h key)
unfolding host_reset
stand-reset h key = reset_on-stand h (value_at h.devices key) (devices_stay_held.reset h key)

-- an interface is claimed, and a handle of it cloned
claimed-claims : (h : HostState) (key number : ℕ) (reattach : Bool) → KeepClaims h.interfaces (host_claimed h key number reattach).interfaces
unfolding host_claimed
claimed-claims h key number reattach i c at some = record { claim = c; at = claimed_on-stays h key number i reattach c (value_at h.devices key) at; number = refl; opened = refl; open_handle = some }

pub stand-claimed : (h : HostState) (key number : ℕ) (reattach : Bool) → HandlesStand h (host_claimed h key number reattach)
stand-claimed h key number reattach =
    stand-same h (host_claimed h key number reattach) (devices_stay_held.claim h key number reattach) (claimed-there h key number reattach) (claimed-claims h key number reattach) (bus-claimed h key number reattach)

added-stand : (h : HostState) (i : ℕ) (o : Option ClaimedInterface) → value_at h.interfaces i ≡ o → KeepsHeld h (handle_added h i o) → HandlesStand h (handle_added h i o)
added-stand h i None at keeps = stand-none h
added-stand h i (Some c) at keeps =
    stand-same h (handle_added h i (Some c)) keeps (there-same h.devices h.devices refl) (claims-set h.interfaces i c (record c { handles = c.handles + 1 }) at refl refl (λ some. omega arith)) refl

pub stand-handle_cloned : (h : HostState) (f : InterfaceState) → StandsInterface h f → HandlesStand h (handle_cloned h f.key)
unfolding handle_cloned
stand-handle_cloned h f stands = added-stand h f.key (value_at h.interfaces f.key) refl (devices_stay_held.clone_handle h f stands)

-- a setting is set
setting-claims : (h : HostState) (i setting : ℕ) (c : ClaimedInterface) (errno : Option ℕ) → value_at h.interfaces i ≡ Some c → KeepClaims h.interfaces (set h.interfaces i (Some (setting_unless c setting errno)))
setting-claims h i setting c None at = claims-set h.interfaces i c (record c { setting = setting }) at refl refl (λ some. some)
setting-claims h i setting c (Some errno) at = claims-set h.interfaces i c c at refl refl (λ some. some)

setting-asked : (h : HostState) (i setting : ℕ) (c : ClaimedInterface) → value_at h.interfaces i ≡ Some c → KeepsHeld h (alt_setting_asked h i setting c) → HandlesStand h (alt_setting_asked h i setting c)
unfolding called
setting-asked h i setting c at keeps =
    stand-same h (alt_setting_asked h i setting c) keeps (there-same h.devices h.devices refl) (setting-claims h i setting c (alt_setting_errno h c setting) at) refl

setting-on : (h : HostState) (i setting : ℕ) (o : Option ClaimedInterface) → value_at h.interfaces i ≡ o → KeepsHeld h (alt_setting_on h i setting o) → HandlesStand h (alt_setting_on h i setting o)
setting-on h i setting None at keeps = stand-none h
setting-on h i setting (Some c) at keeps =
    cond_both (has_living h.tickets h.endpoints i) h (alt_setting_asked h i setting c) (λ (g : HostState). KeepsHeld h g → HandlesStand h g) (λ yes_ keeps. stand-none h) (λ no_ keeps. setting-asked h i setting c at keeps) keeps

pub stand-setting : (h : HostState) (i setting : ℕ) → HandlesStand h (alt_setting_set h i setting)
unfolding alt_setting_set
stand-setting h i setting = setting-on h i setting (value_at h.interfaces i) refl (devices_stay_held.set_alt_setting h i setting)

-- an endpoint is opened
with-stand : (h : HostState) (i address : ℕ) → HandlesStand h (with_endpoint h i address)
with-stand h i address =
    let e : HostEndpoint = record { interface = Some i; address = address; is_open = true } in
    stand-by h (with_endpoint h i address) (devices_stay_held.open_endpoint h i address) (there-same h.devices h.devices refl) (claims-same h.interfaces h.interfaces refl) (λ key. keeps_others (bus_of h) (bus_of (with_endpoint h i address)) key (λ t k other held. held) (λ k other open_. key-kept h.endpoints e k open_)) (extends-same h.kernel.past)

pub stand-endpoint : (h : HostState) (device i address : ℕ) → HandlesStand h (with_endpoint (host_asked h device) i address)
stand-endpoint h device i address = let asked = host_asked h device in stand-trans h asked (with_endpoint asked i address) (stand-asked h device) (with-stand asked i address)

-- what an interface with an open handle was claimed on is there
interface-held : (g : HostState) (i : InterfaceState) (c : ClaimedInterface) → value_at g.interfaces i.key ≡ Some c → c.number ≡ i.number → 0 < c.handles → DevicesAreHeld g → StandsInterface g i
interface-held g i c at number some own = record { claim = c; at = at; number = number; open_handle = some; device = own.there i.key c at some }

-- a handle of a device is closed
pub beside-device_closed : (h : HostState) (key : ℕ) → StandsDevice h key → StandBesideDevice h (device_closed h key) key
beside-device_closed h key closed =
    let g = device_closed h key in
    record {
      devices = λ d apart stands.
          let k = devices_stay_held.close_other_devices h key d stands.device (λ same. apart (sym same)) stands.at stands.open_handle in
          record { device = k.device; at = k.at; open_handle = omega (arith, k.more, stands.open_handle) };
      interfaces = λ own i stands. interface-held g i stands.claim stands.at stands.number stands.open_handle (devices_stay_held.close_device h key closed own);
      endpoints = λ e stands. stands;
      futures = λ f stands. future-same h g f refl stands;
      held = devices_stay_held.close_device h key closed;
    }

-- and one of an interface
gone-at : (h : HostState) (f : InterfaceState) (c : ClaimedInterface) (i : ℕ) (d : ClaimedInterface) → i ≢ f.key → value_at h.interfaces i ≡ Some d → 0 < d.handles → value_at (handle_gone h f.key (Some c)).interfaces i ≡ Some d
unfolding owner_gone
gone-at h f c i d apart at some =
    let less : ClaimedInterface = record c { handles = c.handles - 1 } in
    let goes = goes-ended (set h.interfaces f.key (Some less)) h.tickets h.endpoints f.key in
    goes.stays i d (value-set_other h.interfaces f.key i (Some less) (λ same. apart (sym same)) ∙ at) some

closed-at : (h : HostState) (f : InterfaceState) (i : ℕ) (d : ClaimedInterface) → StandsInterface h f → i ≢ f.key → value_at h.interfaces i ≡ Some d → 0 < d.handles → value_at (handle_closed h f.key).interfaces i ≡ Some d
unfolding handle_closed
closed-at h f i d closed apart at some =
    subst (λ (o : Option ClaimedInterface). value_at (handle_gone h f.key o).interfaces i ≡ Some d) (sym closed.at) (gone-at h f closed.claim i d apart at some)

pub beside-handle_closed : (h : HostState) (f : InterfaceState) → StandsInterface h f → StandBesideInterface h (handle_closed h f.key) f.key
beside-handle_closed h f closed =
    let g = handle_closed h f.key in
    let keeps = devices_stay_held.close_handle h f closed in
    let same = bus-handle_closed h f.key in
    record {
      devices = λ d stands. device-kept h g d keeps.devices stands;
      interfaces = λ own i apart stands. interface-held g i stands.claim (closed-at h f i.key stands.claim closed apart stands.at stands.open_handle) stands.number stands.open_handle (keeps.held own);
      endpoints = λ e stands. subst (λ (b : BusState). Stands b e) (sym same) stands;
      futures = λ f stands. future-same h g f same stands;
      held = keeps.held;
    }

-- a handle is closed behind another call
pub beside-device : (a b c : HostState) (key : ℕ) → HandlesStand a b → StandBesideDevice b c key → StandBesideDevice a c key
beside-device a b c key first second =
    record {
      devices = λ d apart stands. second.devices d apart (first.devices d stands);
      interfaces = λ own i stands. second.interfaces (first.held own) i (first.interfaces i stands);
      endpoints = λ e stands. second.endpoints e (first.endpoints e stands);
      futures = λ f stands. second.futures f (first.futures f stands);
      held = λ own. second.held (first.held own);
    }

pub beside-interface : (a b c : HostState) (key : ℕ) → HandlesStand a b → StandBesideInterface b c key → StandBesideInterface a c key
beside-interface a b c key first second =
    record {
      devices = λ d stands. second.devices d (first.devices d stands);
      interfaces = λ own i apart stands. second.interfaces (first.held own) i apart (first.interfaces i stands);
      endpoints = λ e stands. second.endpoints e (first.endpoints e stands);
      futures = λ f stands. second.futures f (first.futures f stands);
      held = λ own. second.held (first.held own);
    }

pub beside-none : (h : HostState) (key : ℕ) → StandBesideInterface h h key
beside-none h key = record { devices = λ d stands. stands; interfaces = λ own i apart stands. stands; endpoints = λ e stands. stands; futures = λ f stands. stands; held = λ own. own }

-- a host goes on by itself
pub stand-went : (h g : HostState) → HostGoesOn h g → HandlesStand h g
stand-went h g went =
    record {
      devices = λ d stands. device-stays h g d went.line.devices stands;
      interfaces = λ i stands. interface-stays h g i went.line.interfaces went.line.devices stands;
      endpoints = λ e stands. Stands-later (bus_of h) (bus_of g) e stands went.later;
      futures = λ f stands. future-went h g f went stands;
      held = held-goes h g (counts-same h.devices g.devices went.line.devices) went.line.interfaces;
    }

-- a control transfer starts
pub stand-started : (h : HostState) (device : ℕ) (request : TransferData) (timeout : ℕ) → HandlesStand h (request_started h device request timeout)
stand-started h device request timeout =
    let g = request_started h device request timeout in
    let stays = stays-started h device request timeout in
    record {
      devices = λ d stands. device-started h device d request timeout stands;
      interfaces = λ i stands. interface-started h device i request timeout stands;
      endpoints = λ e stands. endpoint-kept h g e (λ key. others-started h device request timeout key) stands;
      futures = λ f stands. future-started h device request timeout f stands;
      held = held-goes h g (counts-same h.devices g.devices stays.line.devices) stays.interfaces;
    }

-- a future ends
beside-stays : (h g : HostState) (key : ℕ) → HandlesStay h g → KeepsOthers (bus_of h) (bus_of g) key → StandBesideKey h g key
beside-stays h g key stays others =
    record {
      devices = λ d stands. device-stays h g d stays.line.devices stands;
      interfaces = λ i stands. interface-stays h g i stays.interfaces stays.line.devices stands;
      endpoints = λ e apart stands. Stands-other (bus_of h) (bus_of g) key e others apart stands;
      futures = λ f apart stands. future-stays h g f key apart others stays.past stands;
      held = held-goes h g (counts-same h.devices g.devices stays.line.devices) stays.interfaces;
    }

pub beside-key : (a b c : HostState) (key : ℕ) → HandlesStand a b → StandBesideKey b c key → StandBesideKey a c key
beside-key a b c key first second =
    record {
      devices = λ d stands. second.devices d (first.devices d stands);
      interfaces = λ i stands. second.interfaces i (first.interfaces i stands);
      endpoints = λ e apart stands. second.endpoints e apart (first.endpoints e stands);
      futures = λ f apart stands. second.futures f apart (first.futures f stands);
      held = λ own. second.held (first.held own);
    }

pub beside-stand : (h g : HostState) (key : ℕ) → HandlesStand h g → StandBesideKey h g key
beside-stand h g key stand =
    record { devices = stand.devices; interfaces = stand.interfaces; endpoints = λ e apart stands. stand.endpoints e stands; futures = λ f apart stands. stand.futures f stands; held = stand.held }

pub beside-taken : (h : HostState) (f : FutureState) → StandsFuture h f → StandBesideKey h (future_taken h f) f.key
beside-taken h f stands = beside-stays h (future_taken h f) f.key (stays-taken h f) (others-taken h f stands)

-- or looked for
pub beside-polled : {A : Type 0} (o : Option A) (h g : HostState) (key deadline : ℕ) (direction : Direction) (p : Option ℕ) → IfSome o (λ _. ForSome p (λ t. g ≡ host_left (host_taken h t) key)) → IfNone o (g ≡ h) → IsSome p
    → StandsFuture h (record { key = key; ticket = p; deadline = deadline; direction = direction }) → StandBesideKey h g key
beside-polled None h g key deadline direction p taken same some stands = subst (λ (k : HostState). StandBesideKey h k key) (sym same) (beside-stand h h key (stand-none h))
beside-polled (Some x) h g key deadline direction None taken same some stands = absurd (cc)
beside-polled (Some x) h g key deadline direction (Some t) taken same some stands =
    subst (λ (k : HostState). StandBesideKey h k key) (sym (taken t refl)) (beside-taken h (record { key = key; ticket = Some t; deadline = deadline; direction = direction }) stands)

pub beside-closed : (h : HostState) (f : FutureState) → StandsFuture h f → StandBesideKey h (future_closed h f) f.key
beside-closed h f stands = beside-stays h (future_closed h f) f.key (stays-closed h f) (others-closed h f stands)

pub beside-waited : (h : HostState) (f : FutureState) → StandsFuture h f → StandBesideKey h (future_taken (future_awaited h f) f) f.key
beside-waited h f stands =
    let g = future_awaited h f in
    let went = went-future h f in
    beside-key h g (future_taken g f) f.key (stand-went h g went) (beside-taken g f (future-went h g f went stands))

-- of two calls the first starts a future, and the second ends it: it is not among those that stood
spent-stands : (g : HostState) (f : FutureState) → f.ticket ≡ None → StandsFuture g f
spent-stands g f none = record { on_its_way = λ t is. absurd (none-some t (sym none ∙ is)) }

pub stand-fresh : (h g k : HostState) (key : ℕ) → key ≡ length h.endpoints → HandlesStand h g → StandBesideKey g k key → HandlesStand h k
stand-fresh h g k key fresh first second =
    record {
      devices = λ d stands. second.devices d (first.devices d stands);
      interfaces = λ i stands. second.interfaces i (first.interfaces i stands);
      endpoints = λ e stands. second.endpoints e (λ same. absurd (omega (arith, same, fresh, endpoint-within h e stands))) (first.endpoints e stands);
      futures = λ f stands. elim (cases_Option f.ticket) [
        | inl none ↦ spent-stands k f none
        | inr some ↦ second.futures f (λ same. absurd (omega (arith, same, fresh, future-within h f some.0 (stands.on_its_way some.0 some.1)))) (first.futures f stands)
      ];
      held = λ own. second.held (first.held own);
    }
