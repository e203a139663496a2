-- A device is opened at its bus and address.
use Rattle.std.specs.Prelude.{ℕ, List, [], ◌∷◌, ◌++◌, length, Some, Result, Ok, Err}
use Rattle.usb_desc.specs.Configurations.{device_of}
use Rattle.usb_kernel_devices.specs.declared.step.KernelCall.TheVariants as call
use Rattle.usb_kernel_devices.specs.Claims.{no_rules}
use Rattle.usb_kernel_devices.specs.Calls.{same}
use Rattle.usb_kernel.specs.Calls.{open_answer, after_open, asked, called}
use Rattle.usb_kernel.specs.Value.{KernelState}
use Rattle.usb_error.specs.ErrorState.{ErrorState}
use Rattle.usb_error.specs.Errors.{open_error, read_descriptors_error, configuration_error, invalid_device_descriptor_error}
use Rattle.usb_device_ledger.specs.declared.opened.OpenDevice.{OpenDevice}
use Rattle.usb_device_host.specs.HostState.{HostState}
use Rattle.usb_device_host.specs.Tries.{Attempt, ◌>>=◌, asking, present, giving}

-- the kernel opens the first plugged device at an address of a bus
abbrev pub device_tried : ℕ → ℕ → KernelState → Attempt ℕ
device_tried bus address =
    asking open_error (λ k. open_answer k bus address) (λ k. after_open k bus address)

-- it gives all descriptors of a device
unfoldable pub descriptors_tried : ℕ → KernelState → Attempt (List ℕ)
descriptors_tried device =
    asking read_descriptors_error
    (λ k. asked k device call.ReadDesc no_rules (λ d. d.bytes))
    (λ k. called k device call.ReadDesc no_rules same)

-- it gives the value of the active configuration
abbrev pub configuration_tried : ℕ → KernelState → Attempt ℕ
configuration_tried device =
    asking (λ errno. configuration_error)
    (λ k. asked k device call.GetConfig no_rules (λ d. d.configuration))
    (λ k. called k device call.GetConfig no_rules same)

-- the kernel opens the device and gives its descriptors, of which the first has to be a device
-- descriptor, and its active configuration. It has one handle
unfoldable pub open_tried : ℕ → ℕ → KernelState → Attempt OpenDevice
open_tried bus address = do
  device ← device_tried bus address
  bytes ← descriptors_tried device
  device_descriptor ← present invalid_device_descriptor_error (device_of bytes)
  value ← configuration_tried device
  giving (record {
    device = device;
    configuration = value;
    device_descriptor = device_descriptor;
    descriptors = bytes;
    handles = 1;
    interfaces = 0;
  })

-- one more device is open, where it was not refused
abbrev pub with_opened : HostState → OpenDevice → HostState
with_opened h o = record h { devices = h.devices ++ Some o ∷ [] }

abbrev pub opened_by : HostState → Result OpenDevice ErrorState → HostState
opened_by h (Err error) = h
opened_by h (Ok o) = with_opened h o

-- the host after an open for which there was memory enough: what is left of the kernel, and the open device
abbrev pub opened_on : HostState → Attempt OpenDevice → HostState
opened_on h step = opened_by (record h { kernel = step.kernel }) step.answer

unfoldable pub host_opened : HostState → ℕ → ℕ → HostState
host_opened h bus address = opened_on h (open_tried bus address h.kernel)

-- the device has the next key
abbrev pub with_key : ℕ → Result OpenDevice ErrorState → Result ℕ ErrorState
with_key key (Err error) = Err error
with_key key (Ok o) = Ok key

unfoldable pub open_key : HostState → ℕ → ℕ → Result ℕ ErrorState
open_key h bus address = with_key (length h.devices) (open_tried bus address h.kernel).answer
