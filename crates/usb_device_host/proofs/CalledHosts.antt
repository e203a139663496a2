-- Hosts after calls on open devices that go down to the kernel.
use Rattle.std.proofs.Common.{ℕ, zero, suc, ◌≡◌, ◌≤◌, ◌-◌, arith, List, [], ◌∷◌, set, true, false, Option, Some, None, Ok, Err, ◌+◌, slice_get, refl, ap, sym, ◌∙◌}
use Rattle.std.specs.Prelude.{Result, OnOk}
use Rattle.std.specs.Option.{ForSome}
use Rattle.std.proofs.lemmas.Option.{none-some, same_Some}
use Rattle.usb_kernel_devices.specs.declared.devices.DeviceState.{DeviceState}
use Rattle.usb_kernel_devices.specs.declared.step.KernelCall.{KernelCall}
use Rattle.usb_kernel_devices.specs.declared.step.KernelCall.TheVariants as call
use Rattle.usb_kernel_devices.specs.declared.step.KernelStep.{KernelStep}
use Rattle.usb_kernel_devices.specs.declared.step.KernelStep.TheVariants as step
use Rattle.usb_kernel.specs.Value.{KernelState}
use Rattle.usb_kernel_devices.specs.Claims.{ok_unless, no_rules}
use Rattle.usb_kernel_devices.specs.Calls.{same, set_configuration_rules, with_configuration, detach_rules, without_driver, attach_rules, with_driver, set_interface_rules}
use Rattle.usb_kernel.specs.Calls.{errno_of, called, after_reset}
use Rattle.usb_kernel.specs.Steps.{after_step}
use Rattle.usb_kernel.proofs.CallsKept.{reset-unplug, refused-reset}
use Rattle.usb_device_tables.specs.History.{value_at}
use Rattle.usb_device_tables.proofs.ValueLemmas.{set-value_same}
use Rattle.usb_device_host.specs.declared.host.Host.TheInside.{Inside}
use Rattle.usb_device_ledger.specs.declared.opened.OpenDevice.{OpenDevice}
use Rattle.usb_device_ledger.specs.TicketStates.{TicketState}
use Rattle.usb_device_ledger.specs.Entries.{ClaimedInterface}
use Rattle.usb_device_host.specs.HostState.{HostState}
use Rattle.usb_device_host.specs.HostFacts.{IsMatched, TicketsAgree, host_made}
use Rattle.usb_device_ledger.specs.LedgerState.{LedgerState}
use Rattle.usb_desc.specs.declared.error.NoMemory.{NoMemory}
use Rattle.usb_device_host.specs.Handles.{handle_added, handle_cloned}
use Rattle.usb_device_ledger.specs.Owners.{has_living}
use Rattle.usb_device_host.specs.OnDevices.{detached_on, host_detached, attached_on, host_attached, reset_on, host_reset, set_configuration_errno, configured_unless, configured_on, host_configured, speed_asked_on, host_speed_asked}
use Rattle.usb_device_host.specs.OnInterfaces.{alt_setting_errno, setting_unless, alt_setting_asked, alt_setting_set}
use Rattle.usb_device_host.proofs.ArrivalLemmas.{TicketsAgree-none, CompletesOnly-step}

-- a host is matched where its journal, its places, its slots and its steps are
pub matched-next : (h next : Inside) → IsMatched h → next.kernel.past ≡ h.kernel.past → next.kernel.spare ≡ h.kernel.spare → next.ledger.slots ≡ h.ledger.slots → next.steps ≡ h.steps → IsMatched next
matched-next h next is past spare slots steps =
    record {
      agree = rw (slots, past) is.agree;
      room = rw (spare, steps) is.room;
      errnos = rw steps is.errnos;
    }

-- a call leaves the journal and its places
module _ (k : KernelState) (d : ℕ) (c : KernelCall) (rows : DeviceState → Option ℕ) (change : DeviceState → DeviceState) where
  pub called-past : (called k d c rows change).past ≡ k.past
  unfolding called
  called-past = refl

  pub called-spare : (called k d c rows change).spare ≡ k.spare
  unfolding called
  called-spare = refl

-- a reset completes no ticket, and uses a place at most
pub reset-agree : (k : KernelState) (d : ℕ) (slots : List TicketState) → TicketsAgree k.past slots → TicketsAgree (after_reset k d).past slots
reset-agree k d slots agree = by (errno_of k d call.Reset no_rules) refl
  where
    by : (o : Option ℕ) → errno_of k d call.Reset no_rules ≡ o → TicketsAgree (after_reset k d).past slots
    by None is = rw (reset-unplug k d is) (TicketsAgree-none k.past (after_step k (step.Unplug d)).past slots agree (CompletesOnly-step k.devices k.clock k.past (step.Unplug d)))
    by (Some errno) is = rw (refused-reset k d errno is) agree

pub reset-spare : (k : KernelState) (d : ℕ) → k.spare - 1 ≤ (after_reset k d).spare
reset-spare k d = by (errno_of k d call.Reset no_rules) refl
  where
    by : (o : Option ℕ) → errno_of k d call.Reset no_rules ≡ o → k.spare - 1 ≤ (after_reset k d).spare
    by None is = rw (reset-unplug k d is) (omega arith)
    by (Some errno) is = rw (refused-reset k d errno is) (omega arith)

-- a host with another kernel
pub kernel-put : (k : KernelState) (devices : List (Option OpenDevice)) (l : LedgerState) (steps : List KernelStep) (h : HostState) (after next : KernelState) → host_made k devices l steps ≡ h → after ≡ next → host_made after devices l steps ≡ record h { kernel = next }
kernel-put k devices l steps h after next is kernel = ap (λ (x : KernelState). host_made x devices l steps) kernel ∙ ap (λ (g : HostState). record g { kernel = next }) is

-- what the kernel answers tells its errno
pub errno-of_err : (o : Option ℕ) (errno : ℕ) → Err errno ≡ ok_unless o → o ≡ Some errno
errno-of_err None errno is = absurd (cc)
errno-of_err (Some e) errno is = cc

pub errno-of_ok : (o : Option ℕ) (done : Unit {0}) → Ok done ≡ ok_unless o → o ≡ None
errno-of_ok None done is = refl
errno-of_ok (Some e) done is = absurd (cc)

set-same : {X : Type 0} (xs : List X) (i : ℕ) (x : X) → slice_get xs i ≡ Some x → set xs i x ≡ xs
set-same [] i x at = absurd (none-some x at)
set-same (y ∷ ys) zero x at = ap (λ z. z ∷ ys) (sym (same_Some y x at))
set-same (y ∷ ys) (suc i) x at = ap (λ zs. y ∷ zs) (set-same ys i x at)

-- the calls on an open device
module _ (h : HostState) (key : ℕ) (o : OpenDevice) (at : value_at h.devices key ≡ Some o) where
  pub detached-at : (i : ℕ) → host_detached h key i ≡ record h { kernel = called h.kernel o.device call.Detach (detach_rules i) (without_driver i) }
  unfolding host_detached
  detached-at i = ap (detached_on h i) at

  pub attached-at : (i : ℕ) → host_attached h key i ≡ record h { kernel = called h.kernel o.device call.Attach (attach_rules i) (with_driver i) }
  unfolding host_attached
  attached-at i = ap (attached_on h i) at

  pub reset-at : host_reset h key ≡ record h { kernel = after_reset h.kernel o.device }
  unfolding host_reset
  reset-at = ap (reset_on h) at

  pub speed-at : host_speed_asked h key ≡ record h { kernel = called h.kernel o.device call.Speed no_rules same }
  unfolding host_speed_asked
  speed-at = ap (speed_asked_on h) at

  pub configured-refused : (value errno : ℕ) → set_configuration_errno h o value ≡ Some errno → host_configured h key value ≡ record h { kernel = called h.kernel o.device call.SetConfig (set_configuration_rules value) (with_configuration value) }
  unfolding host_configured
  configured-refused value errno is =
      let next = called h.kernel o.device call.SetConfig (set_configuration_rules value) (with_configuration value) in
      ap (configured_on h key value) at
      ∙ ap (λ e. record h { kernel = next; devices = set h.devices key (Some (configured_unless o value e)) }) is
      ∙ ap (λ (xs : List (Option OpenDevice)). record h { kernel = next; devices = xs }) (set-value_same h.devices key o at)

  pub configured-at : (value : ℕ) → set_configuration_errno h o value ≡ None → host_configured h key value ≡ record h { kernel = called h.kernel o.device call.SetConfig (set_configuration_rules value) (with_configuration value); devices = set h.devices key (Some (record o { configuration = value })) }
  unfolding host_configured
  configured-at value is =
      let next = called h.kernel o.device call.SetConfig (set_configuration_rules value) (with_configuration value) in
      ap (configured_on h key value) at ∙ ap (λ e. record h { kernel = next; devices = set h.devices key (Some (configured_unless o value e)) }) is

-- and on a claimed interface
module _ (h : HostState) (i setting : ℕ) (c : ClaimedInterface) (at : value_at h.interfaces i ≡ Some c) where
  pub setting-in_use : has_living h.tickets h.endpoints i ≡ true → alt_setting_set h i setting ≡ h
  unfolding alt_setting_set
  setting-in_use living = rw (at, living) refl

  pub setting-asked : has_living h.tickets h.endpoints i ≡ false → alt_setting_set h i setting ≡ alt_setting_asked h i setting c
  unfolding alt_setting_set
  setting-asked living = rw (at, living) refl

  pub setting-refused : (errno : ℕ) → has_living h.tickets h.endpoints i ≡ false → alt_setting_errno h c setting ≡ Some errno → alt_setting_set h i setting ≡ record h { kernel = called h.kernel c.device call.Alt (set_interface_rules c.number setting) same }
  setting-refused errno living is =
      let next = called h.kernel c.device call.Alt (set_interface_rules c.number setting) same in
      setting-asked living
      ∙ ap (λ e. record h { kernel = next; interfaces = set h.interfaces i (Some (setting_unless c setting e)) }) is
      ∙ ap (λ (xs : List (Option ClaimedInterface)). record h { kernel = next; interfaces = xs }) (set-value_same h.interfaces i c at)

  pub setting-set : has_living h.tickets h.endpoints i ≡ false → alt_setting_errno h c setting ≡ None → alt_setting_set h i setting ≡ record h { kernel = called h.kernel c.device call.Alt (set_interface_rules c.number setting) same; interfaces = set h.interfaces i (Some (record c { setting = setting })) }
  setting-set living is =
      let next = called h.kernel c.device call.Alt (set_interface_rules c.number setting) same in
      setting-asked living ∙ ap (λ e. record h { kernel = next; interfaces = set h.interfaces i (Some (setting_unless c setting e)) }) is

-- one more handle
pub cloned-made :
    (k : KernelState) (devices : List (Option OpenDevice)) (l : LedgerState) (steps : List KernelStep) (i : ℕ) (c : ClaimedInterface) (after : LedgerState) (now : HostState) (r : Result (Unit {0}) NoMemory) → value_at l.interfaces i ≡ Some c → host_made k devices l steps ≡ now
    → OnOk r (ForSome (value_at l.interfaces i) (λ c. after ≡ record l { interfaces = set l.interfaces i (Some (record c { handles = c.handles + 1 })) })) → OnOk r (host_made k devices after steps ≡ handle_cloned now i)
unfolding handle_cloned
cloned-made k devices l steps i c after now (Ok done) at is ok =
    ap (λ (x : LedgerState). host_made k devices x steps) (ok c at) ∙ sym (ap (handle_added (host_made k devices l steps) i) at) ∙ ap (λ (h : HostState). handle_cloned h i) is
cloned-made k devices l steps i c after now (Err error) at is ok = tt
