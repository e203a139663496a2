-- What the steps of an open leave of the kernel.
use Rattle.std.proofs.Common.{◌≡◌, ℕ, List, Result, Ok, Err, refl, sym, ap, ◌∙◌}
use Rattle.usb_desc.specs.Configurations.{device_of}
use Rattle.usb_kernel_devices.specs.declared.devices.DeviceState.{DeviceState}
use Rattle.usb_kernel_devices.specs.declared.step.KernelCall.TheVariants as call
use Rattle.usb_kernel_devices.specs.Claims.{no_rules}
use Rattle.usb_kernel.specs.Calls.{open_answer, asked}
use Rattle.usb_kernel.specs.Value.{KernelState}
use Rattle.usb_kernel.proofs.Answered.{asked-uses_none, opens-use_none, asks-is, opens-is}
use Rattle.usb_error.specs.ErrorState.{ErrorState}
use Rattle.usb_error.specs.Errors.{open_error, read_descriptors_error, configuration_error, invalid_device_descriptor_error}
use Rattle.usb_device_ledger.specs.declared.opened.OpenDevice.{OpenDevice}
use Rattle.usb_device_endpoint.specs.CallErrors.{or_error}
use Rattle.usb_device_host.specs.Tries.{Attempt, ◌>>=◌, going_on, present, giving}
use Rattle.usb_device_host.specs.Opens.{device_tried, descriptors_tried, configuration_tried, open_tried}

-- a step that leaves the kernel as it was where it answers, and one that only changes what is armed
abbrev UsesNone : {A : Type 0} → (KernelState → Attempt A) → Type 0
UsesNone {A} try = (k : KernelState) (x : A) → (try k).answer ≡ Ok x → (try k).kernel ≡ k

abbrev Arms : {A : Type 0} → (KernelState → Attempt A) → Type 0
Arms try = (k : KernelState) → (try k).kernel ≡ record k { armed = (try k).kernel.armed }

then-uses_none : {A B : Type 0} (first : KernelState → Attempt A) (next : A → KernelState → Attempt B) → UsesNone first → ((x : A) → UsesNone (next x)) → UsesNone (first >>= next)
then-uses_none {A} first next before behind k x is = by (first k).answer refl is
  where
    by : (r : Result A ErrorState) → (first k).answer ≡ r → (going_on next (first k).kernel r).answer ≡ Ok x → (going_on next (first k).kernel r).kernel ≡ k
    by (Ok y) here is = behind y (first k).kernel x is ∙ before k y here
    by (Err error) here is = absurd (cc)

then-arms : {A B : Type 0} (first : KernelState → Attempt A) (next : A → KernelState → Attempt B) → Arms first → ((x : A) → Arms (next x)) → Arms (first >>= next)
then-arms {A} first next before behind k = by (first k).answer
  where
    by : (r : Result A ErrorState) → (going_on next (first k).kernel r).kernel ≡ record k { armed = (going_on next (first k).kernel r).kernel.armed }
    by (Ok y) = behind y (first k).kernel ∙ ap (λ (g : KernelState). record g { armed = (next y (first k).kernel).kernel.armed }) (before k)
    by (Err error) = before k

-- the steps of an open
answered : {X : Type 0} (error : ℕ → ErrorState) (r : Result X ℕ) (x : X) → or_error error r ≡ Ok x → r ≡ Ok x
answered error (Ok y) x is = cc
answered error (Err errno) x is = absurd (cc)

device-uses_none : (bus address : ℕ) → UsesNone (device_tried bus address)
device-uses_none bus address k x is = opens-use_none k bus address x (answered open_error (open_answer k bus address) x is)

descriptors-uses_none : (device : ℕ) → UsesNone (descriptors_tried device)
unfolding descriptors_tried
descriptors-uses_none device k x is =
    asked-uses_none k device call.ReadDesc no_rules (λ (d : DeviceState). d.bytes) x (answered read_descriptors_error (asked k device call.ReadDesc no_rules (λ (d : DeviceState). d.bytes)) x is)

configuration-uses_none : (device : ℕ) → UsesNone (configuration_tried device)
configuration-uses_none device k x is =
    asked-uses_none k device call.GetConfig no_rules (λ (d : DeviceState). d.configuration) x (answered (λ errno. configuration_error) (asked k device call.GetConfig no_rules (λ (d : DeviceState). d.configuration)) x is)

descriptors-arms : (device : ℕ) → Arms (descriptors_tried device)
unfolding descriptors_tried
descriptors-arms device k = asks-is k device call.ReadDesc no_rules

-- what is tried behind each answer of an open
abbrev with_value : ℕ → List ℕ → List ℕ → ℕ → KernelState → Attempt OpenDevice
with_value device bytes device_descriptor value = giving (record { device = device; configuration = value; device_descriptor = device_descriptor; descriptors = bytes; handles = 1; interfaces = 0 })

abbrev with_descriptor : ℕ → List ℕ → List ℕ → KernelState → Attempt OpenDevice
with_descriptor device bytes device_descriptor = configuration_tried device >>= with_value device bytes device_descriptor

abbrev with_bytes : ℕ → List ℕ → KernelState → Attempt OpenDevice
with_bytes device bytes = present invalid_device_descriptor_error (device_of bytes) >>= with_descriptor device bytes

abbrev with_device : ℕ → KernelState → Attempt OpenDevice
with_device device = descriptors_tried device >>= with_bytes device

pub open-uses_none : (bus address : ℕ) (k : KernelState) (o : OpenDevice) → (open_tried bus address k).answer ≡ Ok o → (open_tried bus address k).kernel ≡ k
unfolding open_tried
open-uses_none bus address =
    then-uses_none (device_tried bus address) with_device (device-uses_none bus address) (λ device.
    then-uses_none (descriptors_tried device) (with_bytes device) (descriptors-uses_none device) (λ bytes.
    then-uses_none (present invalid_device_descriptor_error (device_of bytes)) (with_descriptor device bytes) (λ k x is. refl) (λ device_descriptor.
    then-uses_none (configuration_tried device) (with_value device bytes device_descriptor) (configuration-uses_none device) (λ value k x is. refl))))

pub open-arms : (bus address : ℕ) (k : KernelState) → (open_tried bus address k).kernel ≡ record k { armed = (open_tried bus address k).kernel.armed }
unfolding open_tried
open-arms bus address =
    then-arms (device_tried bus address) with_device (λ k. opens-is k bus address) (λ device.
    then-arms (descriptors_tried device) (with_bytes device) (descriptors-arms device) (λ bytes.
    then-arms (present invalid_device_descriptor_error (device_of bytes)) (with_descriptor device bytes) (λ k. refl) (λ device_descriptor.
    then-arms (configuration_tried device) (with_value device bytes device_descriptor) (λ k. asks-is k device call.GetConfig no_rules) (λ value k. refl))))

-- an open device begins with one handle, and no interface
abbrev Begins : (KernelState → Attempt OpenDevice) → Type 0
Begins try = (k : KernelState) (o : OpenDevice) → (try k).answer ≡ Ok o → (o.handles ≡ 1) × (o.interfaces ≡ 0)

then-begins : {A : Type 0} (first : KernelState → Attempt A) (next : A → KernelState → Attempt OpenDevice) → ((x : A) → Begins (next x)) → Begins (first >>= next)
then-begins {A} first next behind k o = by (first k).answer
  where
    by : (r : Result A ErrorState) → (going_on next (first k).kernel r).answer ≡ Ok o → (o.handles ≡ 1) × (o.interfaces ≡ 0)
    by (Ok y) is = behind y (first k).kernel o is
    by (Err error) is = absurd (cc)

value-begins : (device : ℕ) (bytes device_descriptor : List ℕ) (value : ℕ) → Begins (with_value device bytes device_descriptor value)
value-begins device bytes device_descriptor value k o is =
    let made : OpenDevice = record { device = device; configuration = value; device_descriptor = device_descriptor; descriptors = bytes; handles = 1; interfaces = 0 } in
    let same : made ≡ o = cc in
    (sym (ap (λ (x : OpenDevice). x.handles) same), sym (ap (λ (x : OpenDevice). x.interfaces) same))

pub open-counts : (bus address : ℕ) (k : KernelState) (o : OpenDevice) → (open_tried bus address k).answer ≡ Ok o → (o.handles ≡ 1) × (o.interfaces ≡ 0)
unfolding open_tried
open-counts bus address =
    then-begins (device_tried bus address) with_device (λ device.
    then-begins (descriptors_tried device) (with_bytes device) (λ bytes.
    then-begins (present invalid_device_descriptor_error (device_of bytes)) (with_descriptor device bytes) (λ device_descriptor.
    then-begins (configuration_tried device) (with_value device bytes device_descriptor) (value-begins device bytes device_descriptor))))
