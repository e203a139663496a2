-- What opening the keyboard's endpoint answers.
use Rattle.std.specs.Prelude.{ℕ, true, length, Result, Ok}
use Rattle.usb_desc.specs.declared.types.Direction.TheVariants.{In}
use Rattle.usb_desc.specs.declared.types.TransferType.TheVariants.{Interrupt}
use Rattle.usb_error.specs.ErrorState.{ErrorState}
use Rattle.usb_error.specs.Outcomes.{◌>>=◌}
use Rattle.usb_device_ledger.specs.Entries.{ClaimedInterface, fresh_interface}
use Rattle.usb_device_ledger.specs.declared.opened.OpenDevice.{OpenDevice}
use Rattle.usb_device_host.specs.HostState.{HostState}
use Rattle.usb_device_host.specs.Opens.{host_opened}
use Rattle.usb_device_host.specs.Handles.{device_closed}
use Rattle.usb_device_host.specs.InterfaceClaims.{claim_tried, host_claimed}
use Rattle.usb_device_host.specs.EndpointOpens.{host_asked, host_tries}
use Rattle.usb_device.specs.InterfaceAnswers.{device_answer}

-- the claim of interface 0 of an open device, whose kernel driver is detached
abbrev pub claim_answer : HostState → OpenDevice → Result (Unit {0}) ErrorState
claim_answer h device = claim_tried h device 0 true

-- the host behind that claim, when the handle of the device of this key is closed
abbrev pub interface_left : HostState → ℕ → HostState
interface_left h key = device_closed (host_claimed h key 0 true) key

-- the endpoint 0x81 of the claimed interface of a key, for interrupt transfers in. The kernel is
-- asked for the active configuration first
abbrev pub endpoint_answer : HostState → ℕ → ClaimedInterface → Result ℕ ErrorState
endpoint_answer h key interface =
    host_tries (host_asked h interface.opened) key interface 129 Interrupt In

-- all three, of which the first that is refused is the error
unfoldable pub keyboard_answer : HostState → ℕ → ℕ → Result (Unit {0}) ErrorState
keyboard_answer h bus address =
    let opened = host_opened h bus address in
    let key = length h.devices in
    do
      device ← device_answer h bus address
      claimed ← claim_answer opened device
      packet_size ← endpoint_answer (interface_left opened key) (length opened.interfaces)
          (fresh_interface key device.device 0 true)
      Ok tt
