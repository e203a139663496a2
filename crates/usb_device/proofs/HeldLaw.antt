-- The open devices of a host over all calls.
use Rattle.std.proofs.Common.{ℕ, zero, suc, ◌≡◌, arith, Bool, cond, List, length, Option, Some, None, refl, ap, sym, ◌∙◌, Result, Ok, Err, inl, inr}
use Rattle.std.specs.Prelude.{nat_lt}
use Rattle.std.proofs.lemmas.Bool.{cond_both, cases_eq}
use Rattle.usb_kernel.specs.Tickets.{tickets}
use Rattle.usb_error.specs.ErrorState.{ErrorState}
use Rattle.usb_device_endpoint.specs.Waits.{waited}
use Rattle.usb_device_endpoint.specs.Blocking.{blocked}
use Rattle.usb_device_tables.specs.History.{value_at}
use Rattle.usb_device_tables.proofs.ValueLemmas.{value-push}
use Rattle.usb_device_ledger.specs.Entries.{ClaimedInterface}
use Rattle.usb_device_ledger.specs.declared.opened.OpenDevice.{OpenDevice}
use Rattle.usb_device_ledger.specs.Devices.{device_changed, handle_more, handle_less}
use Rattle.usb_device_ledger.specs.Owners.{has_living}
use Rattle.usb_device_host.specs.HostState.{HostState}
use Rattle.usb_device_host.specs.HostFrames.{ClaimsGoOn, HostGoesOn}
use Rattle.usb_device_host.specs.TicketEnds.{host_ended, host_taken, host_abandoned}
use Rattle.usb_device_host.specs.HostTurns.{host_stepped, host_reaped, host_turned, host_rest}
use Rattle.usb_device_host.specs.HostCalls.{host_submitted, host_refused, host_discarded, host_left, host_timed, host_idled, host_calls}
use Rattle.usb_device_host.specs.HostAwaits.{host_awaited}
use Rattle.usb_device_host.specs.Controls.{host_started}
use Rattle.usb_device_host.specs.Finishes.{discarded_below, reaped_below, finished}
use Rattle.usb_device_host.specs.HandleStates.{InterfaceState, StandsDevice, StandsInterface}
use Rattle.usb_device_host.specs.Handles.{device_cloned, device_closed, handle_added, handle_cloned, handle_closed}
use Rattle.usb_device_host.specs.Opens.{open_tried, opened_by, host_opened}
use Rattle.usb_device_host.specs.InterfaceClaims.{host_claimed}
use Rattle.usb_device_host.specs.EndpointOpens.{host_asked}
use Rattle.usb_device_host.specs.OnDevices.{host_detached, detached_on, host_attached, attached_on, host_configured, configured_on, configured_unless, set_configuration_errno, host_speed_asked, speed_asked_on, host_reset, reset_on}
use Rattle.usb_device_host.specs.OnInterfaces.{alt_setting_errno, setting_unless, alt_setting_asked, alt_setting_on, alt_setting_set}
use Rattle.usb_device.specs.HeldLaws.{KeepsDevices, KeepsOtherDevices, KeepsHeld, DevicesStayHeld}
use Rattle.usb_device_host.proofs.ClaimFrames.{goes-same, goes-refl}
use Rattle.usb_device_host.proofs.CallFrames.{keeps-submitted, keeps-refused}
use Rattle.usb_device_host.proofs.WaitFrames.{went-rest, went-turned, went-waited, went-blocked, went-awaited}
use Rattle.usb_device_host.proofs.ControlLemmas.{started-line, started-interfaces}
use Rattle.usb_device_host.proofs.InterfaceFrames.{asked-is, asked-counts}
use Rattle.usb_device_ledger.proofs.DeviceLemmas.{KeepsCounts, KeepsOpened, counts_of, counts-same, counts-set, counted-new, changed-at, changed-other, held-handle_more}
use Rattle.usb_device_host.proofs.HeldDevices.{held-goes, held-written, held-start, held-opened, held-device_cloned, held-device_closed, held-claimed, held-handle_cloned, held-handle_closed, opened-claimed, opened-handle_closed}
use Rattle.usb_device_host.proofs.LeftDevices.{LeavesDevices, leaves-refl, leaves-trans, leaves-open, stepped-leaves, reaped-leaves, discarded-leaves, taken-leaves, abandoned-leaves, left-leaves, timed-leaves, idled-leaves, line-leaves, ended-leaves}

-- devices stay that keep their counts
kept-counts : (old new : List (Option OpenDevice)) → KeepsCounts old new → KeepsDevices old new
kept-counts old new keeps key o at some = let c = counted-new old new key o keeps at in record { device = c.device; at = c.at; more = omega (arith, c.handles) }

kept-opened : (old new : List (Option OpenDevice)) → KeepsOpened old new → KeepsDevices old new
kept-opened old new keeps key o at some = let c = keeps.stays key o at some in record { device = c.device; at = c.at; more = omega (arith, c.handles) }

counts-held : (old new : HostState) → KeepsCounts old.devices new.devices → ClaimsGoOn old.interfaces new.interfaces → KeepsHeld old new
counts-held old new keeps goes = record { held = held-goes old new keeps goes; devices = kept-counts old.devices new.devices keeps }

leaves-held : (old new : HostState) → LeavesDevices old new → KeepsHeld old new
leaves-held old new leaves = counts-held old new (counts-same old.devices new.devices leaves.devices) leaves.interfaces

same-held : (old new : HostState) → new.devices ≡ old.devices → new.interfaces ≡ old.interfaces → KeepsHeld old new
same-held old new devices interfaces = leaves-held old new (record { devices = devices; interfaces = goes-same old.interfaces new.interfaces interfaces })

went-held : (old new : HostState) → HostGoesOn old new → KeepsHeld old new
went-held old new went = leaves-held old new (line-leaves old new went.line)

-- the end
discarded_below-leaves : (h : HostState) (k : ℕ) → LeavesDevices h (discarded_below h k)
discarded_below-leaves h zero = leaves-refl h
discarded_below-leaves h (suc k) = let before = discarded_below h k in leaves-trans h before (host_discarded before k) (discarded_below-leaves h k) (discarded-leaves before k)

reaped_below-leaves : (h : HostState) (k : ℕ) → LeavesDevices h (reaped_below h k)
reaped_below-leaves h zero = leaves-refl h
reaped_below-leaves h (suc k) = let before = reaped_below h k in leaves-trans h before (host_reaped before k) (reaped_below-leaves h k) (reaped-leaves before k)

finished-leaves : (h : HostState) → LeavesDevices h (finished h)
unfolding finished
finished-leaves h =
    let count = length (tickets h.kernel.past) in
    let before = discarded_below h count in
    leaves-trans h before (reaped_below before count) (discarded_below-leaves h count) (reaped_below-leaves before count)

-- a device is opened, and handles of it are cloned and closed
opened_by-kept : (devices : List (Option OpenDevice)) (h : HostState) (r : Result OpenDevice ErrorState) → h.devices ≡ devices → KeepsDevices devices (opened_by h r).devices
opened_by-kept devices h (Err error) is key o at some = record { device = o; at = ap (λ ds. value_at ds key) is ∙ at; more = omega arith }
opened_by-kept devices h (Ok new) is key o at some = record { device = o; at = value-push h.devices (Some new) key o (ap (λ ds. value_at ds key) is ∙ at); more = omega arith }

opened-kept : (h : HostState) (bus address : ℕ) → KeepsDevices h.devices (host_opened h bus address).devices
unfolding host_opened
opened-kept h bus address = let step = open_tried bus address h.kernel in opened_by-kept h.devices (record h { kernel = step.kernel }) step.answer refl

cloned-kept : (h : HostState) (key : ℕ) → StandsDevice h key → KeepsDevices h.devices (device_cloned h key).devices
cloned-kept h key stands k o at some =
    elim (cases_eq key k) [
      | inl same ↦
          let here : value_at h.devices key ≡ Some o = ap (value_at h.devices) same ∙ at in
          let changed = changed-at h.devices key handle_more o here in
          let after : value_at (device_changed h.devices key handle_more) key ≡ Some (handle_more o) = changed ∙ ap (λ (b : Bool). cond b (Some (handle_more o)) None) (held-handle_more o) in
          record { device = handle_more o; at = ap (value_at (device_changed h.devices key handle_more)) (sym same) ∙ after; more = omega arith }
      | inr apart ↦ record { device = o; at = changed-other h.devices key k handle_more apart ∙ at; more = omega arith }
    ]

closed-kept : (h : HostState) (key : ℕ) → KeepsOtherDevices h.devices (device_closed h key).devices key
closed-kept h key k o apart at some = record { device = o; at = changed-other h.devices key k handle_less apart ∙ at; more = omega arith }

-- claims and handles of interfaces
added-devices : (h : HostState) (i : ℕ) (o : Option ClaimedInterface) → (handle_added h i o).devices ≡ h.devices
added-devices h i None = refl
added-devices h i (Some c) = refl

cloned_handle-held : (h : HostState) (f : InterfaceState) → StandsInterface h f → KeepsHeld h (handle_cloned h f.key)
unfolding handle_cloned
cloned_handle-held h f stands =
    record {
      held = held-handle_cloned h f.key stands.claim stands.at stands.open_handle;
      devices = kept-counts h.devices (handle_added h f.key (value_at h.interfaces f.key)).devices (counts-same h.devices _ (added-devices h f.key (value_at h.interfaces f.key)));
    }

closed_handle-held : (h : HostState) (f : InterfaceState) → StandsInterface h f → KeepsHeld h (handle_closed h f.key)
closed_handle-held h f stands =
    record {
      held = λ own. held-handle_closed h f.key stands.claim stands.at stands.open_handle own;
      devices = kept-opened h.devices (handle_closed h f.key).devices (opened-handle_closed h f.key);
    }

unless-opened : (c : ClaimedInterface) (setting : ℕ) (errno : Option ℕ) → (setting_unless c setting errno).opened ≡ c.opened
unless-opened c setting None = refl
unless-opened c setting (Some e) = refl

unless-handles : (c : ClaimedInterface) (setting : ℕ) (errno : Option ℕ) → nat_lt 0 (setting_unless c setting errno).handles ≡ nat_lt 0 c.handles
unless-handles c setting None = refl
unless-handles c setting (Some e) = refl

setting-asked : (h : HostState) (i setting : ℕ) (c : ClaimedInterface) → value_at h.interfaces i ≡ Some c → KeepsHeld h (alt_setting_asked h i setting c)
setting-asked h i setting c at =
    let errno = alt_setting_errno h c setting in
    let same = counts-same h.devices h.devices refl in
    record {
      held = held-written h (alt_setting_asked h i setting c) i c (setting_unless c setting errno) same at refl (unless-opened c setting errno) (unless-handles c setting errno);
      devices = kept-counts h.devices h.devices same;
    }

setting-held : (h : HostState) (i setting : ℕ) (o : Option ClaimedInterface) → value_at h.interfaces i ≡ o → KeepsHeld h (alt_setting_on h i setting o)
setting-held h i setting None at = leaves-held h h (leaves-refl h)
setting-held h i setting (Some c) at = cond_both (has_living h.tickets h.endpoints i) h (alt_setting_asked h i setting c) (KeepsHeld h) (λ yes_. leaves-held h h (leaves-refl h)) (λ no_. setting-asked h i setting c at)

set-held : (h : HostState) (i setting : ℕ) → KeepsHeld h (alt_setting_set h i setting)
unfolding alt_setting_set
set-held h i setting = setting-held h i setting (value_at h.interfaces i) refl

-- calls on open devices
asked-held : (h : HostState) (key : ℕ) → KeepsHeld h (host_asked h key)
asked-held h key = counts-held h (host_asked h key) (asked-counts h key) (goes-same h.interfaces (host_asked h key).interfaces (ap (λ (g : HostState). g.interfaces) (asked-is h key)))

configured-kept : (o : OpenDevice) (value : ℕ) (errno : Option ℕ) → counts_of (configured_unless o value errno) ≡ counts_of o
configured-kept o value None = refl
configured-kept o value (Some errno) = refl

configured_on-held : (h : HostState) (key value : ℕ) (o : Option OpenDevice) → value_at h.devices key ≡ o → KeepsHeld h (configured_on h key value o)
configured_on-held h key value None at = leaves-held h h (leaves-refl h)
configured_on-held h key value (Some o) at =
    let errno = set_configuration_errno h o value in
    counts-held h (configured_on h key value (Some o)) (counts-set h.devices key o (configured_unless o value errno) at (configured-kept o value errno)) (goes-refl h.interfaces)

configured-held : (h : HostState) (key value : ℕ) → KeepsHeld h (host_configured h key value)
unfolding host_configured
configured-held h key value = configured_on-held h key value (value_at h.devices key) refl

detached_on-held : (h : HostState) (number : ℕ) (o : Option OpenDevice) → KeepsHeld h (detached_on h number o)
detached_on-held h number None = leaves-held h h (leaves-refl h)
detached_on-held h number (Some o) = same-held h (detached_on h number (Some o)) refl refl

detached-held : (h : HostState) (key number : ℕ) → KeepsHeld h (host_detached h key number)
unfolding host_detached
detached-held h key number = detached_on-held h number (value_at h.devices key)

attached_on-held : (h : HostState) (number : ℕ) (o : Option OpenDevice) → KeepsHeld h (attached_on h number o)
attached_on-held h number None = leaves-held h h (leaves-refl h)
attached_on-held h number (Some o) = same-held h (attached_on h number (Some o)) refl refl

attached-held : (h : HostState) (key number : ℕ) → KeepsHeld h (host_attached h key number)
unfolding host_attached
attached-held h key number = attached_on-held h number (value_at h.devices key)

speed_on-held : (h : HostState) (o : Option OpenDevice) → KeepsHeld h (speed_asked_on h o)
speed_on-held h None = leaves-held h h (leaves-refl h)
speed_on-held h (Some o) = same-held h (speed_asked_on h (Some o)) refl refl

speed-held : (h : HostState) (key : ℕ) → KeepsHeld h (host_speed_asked h key)
unfolding host_speed_asked
speed-held h key = speed_on-held h (value_at h.devices key)

reset_on-held : (h : HostState) (o : Option OpenDevice) → KeepsHeld h (reset_on h o)
reset_on-held h None = leaves-held h h (leaves-refl h)
reset_on-held h (Some o) = same-held h (reset_on h (Some o)) refl refl

reset-held : (h : HostState) (key : ℕ) → KeepsHeld h (host_reset h key)
unfolding host_reset
reset-held h key = reset_on-held h (value_at h.devices key)

pub devices_stay_held : DevicesStayHeld
devices_stay_held =
    record {
      start = held-start;
      step = λ h s. leaves-held h (host_stepped h s) (stepped-leaves h s);
      reap = λ h t. leaves-held h (host_reaped h t) (reaped-leaves h t);
      rest = λ h. went-held h (host_rest h) (went-rest h);
      turn = λ h. went-held h (host_turned h) (went-turned h);
      timer = λ h. leaves-held h (host_timed h) (timed-leaves h);
      idle = λ h until. leaves-held h (host_idled h until) (idled-leaves h until);
      wait = λ h t timeout. went-held h (waited host_calls t timeout h) (went-waited h t timeout);
      block = λ h t timeout. went-held h (blocked host_calls t timeout h) (went-blocked h t timeout);
      await_ticket = λ h t deadline. went-held h (host_awaited h t deadline) (went-awaited h t deadline);
      submit = λ h to deadline t. leaves-held h (host_submitted h to deadline t) (leaves-open h (host_submitted h to deadline t) (keeps-submitted h to deadline t));
      refuse = λ h to t errno. leaves-held h (host_refused h to t errno) (leaves-open h (host_refused h to t errno) (keeps-refused h to t errno));
      start_control = λ h s. same-held h (host_started h s) (started-line h s).devices (started-interfaces h s);
      discard = λ h t. leaves-held h (host_discarded h t) (discarded-leaves h t);
      end_ticket = λ h t end. leaves-held h (host_ended h t end) (ended-leaves h t end);
      take = λ h t. leaves-held h (host_taken h t) (taken-leaves h t);
      abandon = λ h t. leaves-held h (host_abandoned h t) (abandoned-leaves h t);
      leave = λ h key. leaves-held h (host_left h key) (left-leaves h key);
      open_device = λ h bus address. record { held = held-opened h bus address; devices = opened-kept h bus address };
      clone_device = λ h key stands. record { held = held-device_cloned h key stands; devices = cloned-kept h key stands };
      close_device = held-device_closed;
      close_other_devices = closed-kept;
      claim = λ h device number reattach. record { held = held-claimed h device number reattach; devices = kept-opened h.devices (host_claimed h device number reattach).devices (opened-claimed h device number reattach) };
      clone_handle = cloned_handle-held;
      close_handle = closed_handle-held;
      set_alt_setting = set-held;
      ask = asked-held;
      open_endpoint = λ h interface address. same-held h _ refl refl;
      set_configuration = configured-held;
      reset = reset-held;
      detach = detached-held;
      attach = attached-held;
      ask_speed = speed-held;
      clear_halt = λ h device endpoint. same-held h _ refl refl;
      finish = λ h. leaves-held h (finished h) (finished-leaves h);
    }
