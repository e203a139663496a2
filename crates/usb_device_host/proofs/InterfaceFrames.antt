-- What the close of a handle, a claim, an opening and a look at the configuration leave of a host.
use Rattle.std.proofs.Common.{ℕ, ◌≡◌, Bool, [], ◌∷◌, ◌++◌, Option, Some, None, refl, ◌∙◌, ap, Result, Ok, Err}
use Rattle.usb_device_tables.specs.History.{value_at}
use Rattle.usb_device_ledger.specs.declared.opened.OpenDevice.{OpenDevice}
use Rattle.usb_device_ledger.specs.Entries.{ClaimedInterface}
use Rattle.usb_device_host.specs.HostState.{HostState}
use Rattle.usb_device_host.specs.HostBus.{bus_of}
use Rattle.usb_device_host.specs.Releases.{owner_gone}
use Rattle.usb_device_host.specs.Handles.{handle_gone, handle_closed}
use Rattle.usb_kernel_devices.specs.declared.step.KernelCall.TheVariants as call
use Rattle.usb_kernel_devices.specs.Claims.{no_rules}
use Rattle.usb_kernel.specs.Value.{KernelState}
use Rattle.usb_kernel.proofs.Answered.{asks-is}
use Rattle.usb_device_host.specs.InterfaceClaims.{claim_tried, kernel_claimed, claimed_by, claimed_on, host_claimed}
use Rattle.usb_device_ledger.specs.Entries.{fresh_interface}
use Rattle.usb_device_host.specs.EndpointOpens.{asked_on, host_asked}
use Rattle.usb_error.specs.ErrorState.{ErrorState}
use Rattle.usb_device_host.specs.Opens.{open_tried, opened_by, host_opened}
use Rattle.usb_device_ledger.specs.Devices.{device_changed, interface_more}
use Rattle.usb_device_ledger.proofs.DeviceLemmas.{KeepsThere, KeepsCounts, counts-same, counts-set, changed-there, held-interface_more, there-push}
use Rattle.usb_device_tables.proofs.ValueLemmas.{value-push}
use Rattle.usb_device_host.proofs.HostKeeps.{KeepsSteps}
use Rattle.usb_device_host.proofs.KernelFrames.{kernel_claimed-is}
use Rattle.usb_device_host.proofs.TryLemmas.{open-arms}

-- the close of a handle changes open devices, interfaces, devices of the kernel and what is armed there
handle_gone-is : (h : HostState) (i : ℕ) (o : Option ClaimedInterface) → handle_gone h i o ≡ record h { kernel = record h.kernel { devices = (handle_gone h i o).kernel.devices; armed = (handle_gone h i o).kernel.armed }; devices = (handle_gone h i o).devices; interfaces = (handle_gone h i o).interfaces }
unfolding owner_gone
handle_gone-is h i None = refl
handle_gone-is h i (Some c) = refl

pub bus-handle_closed : (h : HostState) (i : ℕ) → bus_of (handle_closed h i) ≡ bus_of h
unfolding handle_closed
bus-handle_closed h i = ap bus_of (handle_gone-is h i (value_at h.interfaces i))

pub line-handle_closed : (h : HostState) (i : ℕ) → KeepsSteps h (handle_closed h i)
unfolding handle_closed
line-handle_closed h i =
    let is = handle_gone-is h i (value_at h.interfaces i) in
    record { steps = ap (λ (g : HostState). g.steps) is; spare = ap (λ (g : HostState). g.kernel.spare) is }

-- a claim adds an interface, and changes its open device, devices of the kernel and what is armed there
claimed_by-is : (h : HostState) (k : KernelState) (c : ClaimedInterface) (r : Result (Unit {0}) ErrorState) → k ≡ record h.kernel { devices = k.devices; armed = k.armed }
    → claimed_by (record h { kernel = k }) c r ≡ record h { kernel = record h.kernel { devices = (claimed_by (record h { kernel = k }) c r).kernel.devices; armed = (claimed_by (record h { kernel = k }) c r).kernel.armed }; devices = (claimed_by (record h { kernel = k }) c r).devices; interfaces = (claimed_by (record h { kernel = k }) c r).interfaces }
claimed_by-is h k c (Err error) is = ap (λ (x : KernelState). record h { kernel = x }) is
claimed_by-is h k c (Ok done) is = ap (λ (x : KernelState). record h { kernel = x; devices = device_changed h.devices c.opened interface_more; interfaces = h.interfaces ++ Some c ∷ [] }) is

claimed_on-is : (h : HostState) (key number : ℕ) (reattach : Bool) (o : Option OpenDevice) → claimed_on h key number reattach o ≡ record h { kernel = record h.kernel { devices = (claimed_on h key number reattach o).kernel.devices; armed = (claimed_on h key number reattach o).kernel.armed }; devices = (claimed_on h key number reattach o).devices; interfaces = (claimed_on h key number reattach o).interfaces }
claimed_on-is h key number reattach None = refl
claimed_on-is h key number reattach (Some o) =
    claimed_by-is h (kernel_claimed h.kernel o number reattach) (fresh_interface key o.device number reattach) (claim_tried h o number reattach) (kernel_claimed-is h.kernel o number reattach)

pub bus-claimed : (h : HostState) (key number : ℕ) (reattach : Bool) → bus_of (host_claimed h key number reattach) ≡ bus_of h
unfolding host_claimed
bus-claimed h key number reattach = ap bus_of (claimed_on-is h key number reattach (value_at h.devices key))

pub line-claimed : (h : HostState) (key number : ℕ) (reattach : Bool) → KeepsSteps h (host_claimed h key number reattach)
unfolding host_claimed
line-claimed h key number reattach =
    let is = claimed_on-is h key number reattach (value_at h.devices key) in
    record { steps = ap (λ (g : HostState). g.steps) is; spare = ap (λ (g : HostState). g.kernel.spare) is }

claimed_by-stays : (h : HostState) (d : ClaimedInterface) (r : Result (Unit {0}) ErrorState) (k : ℕ) (c : ClaimedInterface) → value_at h.interfaces k ≡ Some c → value_at (claimed_by h d r).interfaces k ≡ Some c
claimed_by-stays h d (Err error) k c at = at
claimed_by-stays h d (Ok done) k c at = value-push h.interfaces (Some d) k c at

pub claimed_on-stays : (h : HostState) (key number k : ℕ) (reattach : Bool) (c : ClaimedInterface) (o : Option OpenDevice) → value_at h.interfaces k ≡ Some c → value_at (claimed_on h key number reattach o).interfaces k ≡ Some c
claimed_on-stays h key number k reattach c None at = at
claimed_on-stays h key number k reattach c (Some o) at = claimed_by-stays (record h { kernel = kernel_claimed h.kernel o number reattach }) (fresh_interface key o.device number reattach) (claim_tried h o number reattach) k c at

-- what is open is so over a claim
claimed_by-there : (h : HostState) (d : ClaimedInterface) (r : Result (Unit {0}) ErrorState) → KeepsThere h.devices (claimed_by h d r).devices
claimed_by-there h d (Err error) k there = there
claimed_by-there h d (Ok done) k there = changed-there h.devices d.opened k interface_more held-interface_more there

pub claimed_on-there : (h : HostState) (key number : ℕ) (reattach : Bool) (o : Option OpenDevice) → KeepsThere h.devices (claimed_on h key number reattach o).devices
claimed_on-there h key number reattach None k there = there
claimed_on-there h key number reattach (Some o) k there = claimed_by-there (record h { kernel = kernel_claimed h.kernel o number reattach }) (fresh_interface key o.device number reattach) (claim_tried h o number reattach) k there

pub claimed-there : (h : HostState) (key number : ℕ) (reattach : Bool) → KeepsThere h.devices (host_claimed h key number reattach).devices
unfolding host_claimed
claimed-there h key number reattach = claimed_on-there h key number reattach (value_at h.devices key)

-- a look at the active configuration changes what the open device keeps of it, and what is armed
abbrev pub armed_as : KernelState → KernelState → KernelState
armed_as k left = record k { armed = left.armed }

asked_on-is : (h : HostState) (key : ℕ) (o : Option OpenDevice) → asked_on h key o ≡ record h { kernel = armed_as h.kernel (asked_on h key o).kernel; devices = (asked_on h key o).devices }
asked_on-is h key None = refl
asked_on-is h key (Some o) = ap (λ (k : KernelState). record h { kernel = k; devices = (asked_on h key (Some o)).devices }) (asks-is h.kernel o.device call.GetConfig no_rules)

pub asked-is : (h : HostState) (key : ℕ) → host_asked h key ≡ record h { kernel = armed_as h.kernel (host_asked h key).kernel; devices = (host_asked h key).devices }
unfolding host_asked
asked-is h key = asked_on-is h key (value_at h.devices key)

asked_on-counts : (h : HostState) (key : ℕ) (o : Option OpenDevice) → value_at h.devices key ≡ o → KeepsCounts h.devices (asked_on h key o).devices
asked_on-counts h key None at = counts-same h.devices h.devices refl
asked_on-counts h key (Some o) at = counts-set h.devices key o _ at refl

pub asked-counts : (h : HostState) (key : ℕ) → KeepsCounts h.devices (host_asked h key).devices
unfolding host_asked
asked-counts h key = asked_on-counts h key (value_at h.devices key) refl

-- a device that is opened is one more, and nothing else changes but what is armed
opened_by-is : (h : HostState) (r : Result OpenDevice ErrorState) → opened_by h r ≡ record h { devices = (opened_by h r).devices }
opened_by-is h (Err error) = refl
opened_by-is h (Ok o) = refl

pub opened-is : (h : HostState) (bus address : ℕ) → host_opened h bus address ≡ record h { kernel = armed_as h.kernel (open_tried bus address h.kernel).kernel; devices = (host_opened h bus address).devices }
unfolding host_opened
opened-is h bus address =
    let step = open_tried bus address h.kernel in
    opened_by-is (record h { kernel = step.kernel }) step.answer
    ∙ ap (λ (k : KernelState). record h { kernel = k; devices = (opened_by (record h { kernel = step.kernel }) step.answer).devices }) (open-arms bus address h.kernel)

opened_by-there : (h : HostState) (r : Result OpenDevice ErrorState) → KeepsThere h.devices (opened_by h r).devices
opened_by-there h (Err error) k there = there
opened_by-there h (Ok o) k there = there-push h.devices o k there

pub opened-there : (h : HostState) (bus address : ℕ) → KeepsThere h.devices (host_opened h bus address).devices
unfolding host_opened
opened-there h bus address = let step = open_tried bus address h.kernel in opened_by-there (record h { kernel = step.kernel }) step.answer
