-- The calls on open devices and on claimed interfaces see no place of the kernel.
use Rattle.std.proofs.Common.{Bool, Err, List, None, Ok, Option, Result, Some, ap, false, find, length, refl, set, true, ℕ, ◌-◌, ◌∙◌, ◌≡◌}
use Rattle.std.specs.Prelude.{if◌then◌else◌}
use Rattle.usb_desc.specs.Configurations.{device_of}
use Rattle.usb_device_endpoint.specs.CallErrors.{or_error}
use Rattle.usb_device_host.specs.EndpointOpens.{asked_on, host_asked}
use Rattle.usb_device_host.specs.Handles.{devices_left, handle_added, handle_cloned, handle_closed, handle_gone}
use Rattle.usb_device_host.specs.HostState.{HostState}
use Rattle.usb_device_host.specs.InterfaceClaims.{claim_tried, claimed_by, claimed_on, host_claimed, kernel_claimed}
use Rattle.usb_device_host.specs.OnDevices.{attached_on, configured_on, detached_on, host_attached, host_configured, host_detached, host_reset, host_speed_asked, reset_on, speed_asked_on}
use Rattle.usb_device_host.specs.OnInterfaces.{alt_setting_asked, alt_setting_on, alt_setting_set}
use Rattle.usb_device_host.specs.Opens.{configuration_tried, descriptors_tried, device_tried, host_opened, open_key, open_tried, opened_by, opened_on, with_key}
use Rattle.usb_device_host.specs.Tries.{Attempt, giving, going_on, present, ◌>>=◌}
use Rattle.usb_device_ledger.specs.Entries.{ClaimedInterface, fresh_interface}
use Rattle.usb_device_ledger.specs.Owners.{has_living}
use Rattle.usb_device_ledger.specs.declared.opened.OpenDevice.{OpenDevice}
use Rattle.usb_device_tables.specs.History.{value_at}
use Rattle.usb_error.specs.ErrorState.{ErrorState}
use Rattle.usb_error.specs.Errors.{invalid_device_descriptor_error, open_error}
use Rattle.usb_kernel.specs.Calls.{after_open_by, after_reset, called, errno_of, open_by, reset_by}
use Rattle.usb_kernel.specs.Value.{KernelState}
use Rattle.usb_kernel_devices.specs.Claims.{is_at, no_rules}
use Rattle.usb_kernel_devices.specs.Devices.{unplugged}
use Rattle.usb_kernel_devices.specs.declared.devices.DeviceState.{DeviceState}
use Rattle.usb_session_beginnings.proofs.Hosts.{IsBlind, bare, bare_kernel, owner_gone-blind}
use Rattle.usb_kernel_devices.specs.declared.step.KernelCall.TheVariants as call

-- what answers the same on a kernel with no place left, and leaves the same but for the places
abbrev bare_attempt : {A : Type 0} → Attempt A → Attempt A
bare_attempt a = record a { kernel = bare_kernel a.kernel }

abbrev TriesBlind : {A : Type 0} → (KernelState → Attempt A) → Type 0
TriesBlind try = (k : KernelState) → try (bare_kernel k) ≡ bare_attempt (try k)

going-blind : {A B : Type 0} (next : A → KernelState → Attempt B) → ((x : A) → TriesBlind (next x)) → (k : KernelState) (r : Result A ErrorState)
    → going_on next (bare_kernel k) r ≡ bare_attempt (going_on next k r)
going-blind next blind k (Ok x) = blind x k
going-blind next blind k (Err error) = refl

then-blind : {A B : Type 0} (first : KernelState → Attempt A) (next : A → KernelState → Attempt B) → TriesBlind first → ((x : A) → TriesBlind (next x))
    → TriesBlind (first >>= next)
then-blind {A} first next before behind k =
    ap (λ (a : Attempt A). going_on next a.kernel a.answer) (before k) ∙ going-blind next behind (first k).kernel (first k).answer

-- the opening of a device
abbrev device_by : KernelState → Option DeviceState → Attempt ℕ
device_by k o = record { answer = or_error open_error (open_by k o); kernel = after_open_by k o }

device_by-blind : (k : KernelState) (o : Option DeviceState) → device_by (bare_kernel k) o ≡ bare_attempt (device_by k o)
device_by-blind k None = refl
device_by-blind k (Some d) = refl

descriptors-blind : (device : ℕ) → TriesBlind (descriptors_tried device)
unfolding descriptors_tried called
descriptors-blind device k = refl

configuration-blind : (device : ℕ) → TriesBlind (configuration_tried device)
unfolding called
configuration-blind device k = refl

-- what is tried behind each answer of it
abbrev with_value : ℕ → List ℕ → List ℕ → ℕ → KernelState → Attempt OpenDevice
with_value device bytes device_descriptor value =
    giving (record {
      device = device;
      configuration = value;
      device_descriptor = device_descriptor;
      descriptors = bytes;
      handles = 1;
      interfaces = 0;
    })

abbrev with_descriptor : ℕ → List ℕ → List ℕ → KernelState → Attempt OpenDevice
with_descriptor device bytes device_descriptor = configuration_tried device >>= with_value device bytes device_descriptor

abbrev with_bytes : ℕ → List ℕ → KernelState → Attempt OpenDevice
with_bytes device bytes = present invalid_device_descriptor_error (device_of bytes) >>= with_descriptor device bytes

abbrev with_device : ℕ → KernelState → Attempt OpenDevice
with_device device = descriptors_tried device >>= with_bytes device

open_tried-blind : (bus address : ℕ) → TriesBlind (open_tried bus address)
unfolding open_tried
open_tried-blind bus address =
    then-blind (device_tried bus address) with_device (λ k. device_by-blind k (find (is_at bus address) k.devices)) (λ device.
    then-blind (descriptors_tried device) (with_bytes device) (descriptors-blind device) (λ bytes.
    then-blind (present invalid_device_descriptor_error (device_of bytes)) (with_descriptor device bytes) (λ k. refl) (λ device_descriptor.
    then-blind (configuration_tried device) (with_value device bytes device_descriptor) (configuration-blind device) (λ value k. refl))))

opened_by-blind : (h : HostState) (r : Result OpenDevice ErrorState) → opened_by (bare h) r ≡ bare (opened_by h r)
opened_by-blind h (Ok o) = refl
opened_by-blind h (Err error) = refl

pub opened-blind : (bus address : ℕ) → IsBlind (λ h. host_opened h bus address)
unfolding host_opened
opened-blind bus address h =
    let a = open_tried bus address h.kernel in
    ap (opened_on h) (open_tried-blind bus address h.kernel) ∙ opened_by-blind (record h { kernel = a.kernel }) a.answer

pub key-blind : (h : HostState) (bus address : ℕ) → open_key (bare h) bus address ≡ open_key h bus address
unfolding open_key
key-blind h bus address = ap (λ (a : Attempt OpenDevice). with_key (length h.devices) a.answer) (open_tried-blind bus address h.kernel)

-- the calls on an open device
asked_on-blind : (key : ℕ) (o : Option OpenDevice) → IsBlind (λ h. asked_on h key o)
unfolding called
asked_on-blind key None h = refl
asked_on-blind key (Some o) h = refl

pub asked-blind : (key : ℕ) → IsBlind (λ h. host_asked h key)
unfolding host_asked
asked-blind key h = asked_on-blind key (value_at h.devices key) h

speed_on-blind : (o : Option OpenDevice) → IsBlind (λ h. speed_asked_on h o)
unfolding called
speed_on-blind None h = refl
speed_on-blind (Some o) h = refl

pub speed-blind : (key : ℕ) → IsBlind (λ h. host_speed_asked h key)
unfolding host_speed_asked
speed-blind key h = speed_on-blind (value_at h.devices key) h

configured_on-blind : (key value : ℕ) (o : Option OpenDevice) → IsBlind (λ h. configured_on h key value o)
unfolding called
configured_on-blind key value None h = refl
configured_on-blind key value (Some o) h = refl

pub configured-blind : (key value : ℕ) → IsBlind (λ h. host_configured h key value)
unfolding host_configured
configured-blind key value h = configured_on-blind key value (value_at h.devices key) h

reset_by-blind : (k : KernelState) (d : ℕ) (o : Option ℕ) → reset_by (bare_kernel k) d o ≡ bare_kernel (reset_by k d o)
reset_by-blind k d None = refl
reset_by-blind k d (Some errno) = refl

reset_on-blind : (o : Option OpenDevice) → IsBlind (λ h. reset_on h o)
unfolding after_reset called
reset_on-blind None h = refl
reset_on-blind (Some o) h =
    ap (λ k. record h { kernel = k }) (reset_by-blind (called h.kernel o.device call.Reset no_rules unplugged) o.device
    (errno_of h.kernel o.device call.Reset no_rules))

pub reset-blind : (key : ℕ) → IsBlind (λ h. host_reset h key)
unfolding host_reset
reset-blind key h = reset_on-blind (value_at h.devices key) h

detached_on-blind : (number : ℕ) (o : Option OpenDevice) → IsBlind (λ h. detached_on h number o)
unfolding called
detached_on-blind number None h = refl
detached_on-blind number (Some o) h = refl

pub detached-blind : (key number : ℕ) → IsBlind (λ h. host_detached h key number)
unfolding host_detached
detached-blind key number h = detached_on-blind number (value_at h.devices key) h

attached_on-blind : (number : ℕ) (o : Option OpenDevice) → IsBlind (λ h. attached_on h number o)
unfolding called
attached_on-blind number None h = refl
attached_on-blind number (Some o) h = refl

pub attached-blind : (key number : ℕ) → IsBlind (λ h. host_attached h key number)
unfolding host_attached
attached-blind key number h = attached_on-blind number (value_at h.devices key) h

-- claims, and the calls on a claimed interface
pub tried-blind : (h : HostState) (o : OpenDevice) (number : ℕ) (reattach : Bool)
    → claim_tried (bare h) o number reattach ≡ claim_tried h o number reattach
tried-blind h o number true = refl
tried-blind h o number false = refl

claimed_by-blind : (h : HostState) (c : ClaimedInterface) (r : Result (Unit {0}) ErrorState) → claimed_by (bare h) c r ≡ bare (claimed_by h c r)
claimed_by-blind h c (Ok done) = refl
claimed_by-blind h c (Err error) = refl

kernel_claimed-blind : (k : KernelState) (o : OpenDevice) (number : ℕ) (reattach : Bool)
    → kernel_claimed (bare_kernel k) o number reattach ≡ bare_kernel (kernel_claimed k o number reattach)
unfolding called
kernel_claimed-blind k o number true = refl
kernel_claimed-blind k o number false = refl

claimed_on-blind : (key number : ℕ) (reattach : Bool) (o : Option OpenDevice) → IsBlind (λ h. claimed_on h key number reattach o)
claimed_on-blind key number reattach None h = refl
claimed_on-blind key number reattach (Some o) h =
    let c = fresh_interface key o.device number reattach in
    ap (λ k. claimed_by (record h { kernel = k }) c (claim_tried (bare h) o number reattach)) (kernel_claimed-blind h.kernel o number reattach)
    ∙ (ap (claimed_by (record h { kernel = bare_kernel (kernel_claimed h.kernel o number reattach) }) c) (tried-blind h o number reattach)
    ∙ claimed_by-blind (record h { kernel = kernel_claimed h.kernel o number reattach }) c (claim_tried h o number reattach))

pub claimed-blind : (key number : ℕ) (reattach : Bool) → IsBlind (λ h. host_claimed h key number reattach)
unfolding host_claimed
claimed-blind key number reattach h = claimed_on-blind key number reattach (value_at h.devices key) h

setting_if-blind : (i setting : ℕ) (c : ClaimedInterface) (lives : Bool) → IsBlind (λ h. if lives then h else alt_setting_asked h i setting c)
unfolding called
setting_if-blind i setting c true h = refl
setting_if-blind i setting c false h = refl

setting_on-blind : (i setting : ℕ) (o : Option ClaimedInterface) → IsBlind (λ h. alt_setting_on h i setting o)
setting_on-blind i setting None h = refl
setting_on-blind i setting (Some c) h = setting_if-blind i setting c (has_living h.tickets h.endpoints i) h

pub setting-blind : (i setting : ℕ) → IsBlind (λ h. alt_setting_set h i setting)
unfolding alt_setting_set
setting-blind i setting h = setting_on-blind i setting (value_at h.interfaces i) h

-- handles are cloned and closed
handle_added-blind : (i : ℕ) (o : Option ClaimedInterface) → IsBlind (λ h. handle_added h i o)
handle_added-blind i None h = refl
handle_added-blind i (Some c) h = refl

pub handle_cloned-blind : (i : ℕ) → IsBlind (λ h. handle_cloned h i)
unfolding handle_cloned
handle_cloned-blind i h = handle_added-blind i (value_at h.interfaces i) h

handle_gone-blind : (i : ℕ) (o : Option ClaimedInterface) → IsBlind (λ h. handle_gone h i o)
handle_gone-blind i None h = refl
handle_gone-blind i (Some c) h =
    owner_gone-blind i (record h {
      devices = devices_left h.devices c;
      interfaces = set h.interfaces i (Some (record c { handles = c.handles - 1 }));
    })

pub handle_closed-blind : (i : ℕ) → IsBlind (λ h. handle_closed h i)
unfolding handle_closed
handle_closed-blind i h = handle_gone-blind i (value_at h.interfaces i) h
