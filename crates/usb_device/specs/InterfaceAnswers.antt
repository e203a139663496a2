-- What the opening of a device answers, and then the claim of one of its interfaces.
use Rattle.std.specs.Prelude.{ℕ, Bool, Result}
use Rattle.usb_error.specs.ErrorState.{ErrorState}
use Rattle.usb_error.specs.Outcomes.{◌>>=◌}
use Rattle.usb_device_ledger.specs.declared.opened.OpenDevice.{OpenDevice}
use Rattle.usb_device_host.specs.HostState.{HostState}
use Rattle.usb_device_host.specs.Opens.{open_tried, host_opened}
use Rattle.usb_device_host.specs.InterfaceClaims.{claim_tried}

-- the device at an address of a bus
abbrev pub device_answer : HostState → ℕ → ℕ → Result OpenDevice ErrorState
device_answer h bus address = (open_tried bus address h.kernel).answer

-- and its interface of this number, whose kernel driver is detached or not. The first that is
-- refused is the error
unfoldable pub interface_answer : HostState → ℕ → ℕ → ℕ → Bool → Result (Unit {0}) ErrorState
interface_answer h bus address number detach =
    device_answer h bus address
    >>= λ device. claim_tried (host_opened h bus address) device number detach
