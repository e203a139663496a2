-- The host that the rounds begin at, and what is opened on it.
use Rattle.std.specs.Prelude.{ℕ, false, List, [], ◌∷◌}
use Rattle.usb_desc.specs.declared.types.TransferType.TheVariants.{Bulk}
use Rattle.usb_kernel_devices.specs.declared.devices.SimDevice.{SimDevice}
use Rattle.usb_kernel_devices.specs.Devices.{fresh_device}
use Rattle.usb_kernel.specs.Value.{KernelState}
use Rattle.usb_device_endpoint.specs.EndpointState.{EndpointState}
use Rattle.usb_device_host.specs.HostState.{HostState, host_of}
use Rattle.usb_device_host.specs.HandleStates.{InterfaceState}
use Rattle.usb_device_host.specs.Opens.{host_opened}
use Rattle.usb_device_host.specs.InterfaceClaims.{host_claimed}
use Rattle.usb_device_host.specs.EndpointOpens.{host_asked, with_endpoint}
use Rattle.usb_device_host.specs.Handles.{device_closed, handle_closed}

-- the descriptors of the device: one configuration with one interface, a bulk IN endpoint 129 (0x81)
-- and a bulk OUT endpoint 2 of packets of 64 bytes
abbrev pub descriptors : List ℕ
descriptors =
    18 ∷ 1 ∷ 0 ∷ 2 ∷ 0 ∷ 0 ∷ 0 ∷ 64 ∷ 170 ∷ 170 ∷ 187 ∷ 187 ∷ 0 ∷ 1 ∷ 0 ∷ 0 ∷ 0 ∷ 1 ∷
    9 ∷ 2 ∷ 32 ∷ 0 ∷ 1 ∷ 1 ∷ 0 ∷ 128 ∷ 50 ∷
    9 ∷ 4 ∷ 0 ∷ 0 ∷ 2 ∷ 255 ∷ 0 ∷ 0 ∷ 0 ∷
    7 ∷ 5 ∷ 129 ∷ 2 ∷ 64 ∷ 0 ∷ 0 ∷ 7 ∷ 5 ∷ 2 ∷ 2 ∷ 64 ∷ 0 ∷ 0 ∷ []

-- the device, at address 6 of bus 1, of high speed, in the configuration of value 1, with no kernel
-- driver
abbrev pub first_device : SimDevice
first_device = record { bus = 1; address = 6; speed = 3; config = 1; bytes = descriptors; drivers = [] }

-- a kernel with one device alone, whose number is 0
abbrev pub kernel_with : SimDevice → KernelState
kernel_with device =
    record { past = []; devices = fresh_device (0, device) ∷ []; clock = 0; armed = []; spare = 0 }

-- the host at first: nothing is open
unfoldable pub first_host : HostState
first_host = host_of (kernel_with first_device)

-- the device was opened
unfoldable pub held_host : HostState
held_host = host_opened first_host 1 6

-- its interface was claimed, and the handle of the device was closed
unfoldable pub claimed_host : HostState
claimed_host = device_closed (host_claimed held_host 0 0 false) 0

-- then the IN endpoint was opened
unfoldable pub listening_host : HostState
listening_host = with_endpoint (host_asked claimed_host 0) 0 129

-- and then the OUT endpoint, and the handle of the interface was closed
unfoldable pub opened_host : HostState
opened_host = handle_closed (with_endpoint (host_asked listening_host 0) 0 2) 0

-- the handle of the interface
abbrev pub first_interface : InterfaceState
first_interface = record { key = 0; number = 0 }

-- the endpoints, with nothing pending
abbrev pub inp : EndpointState
inp = record { device = 0; address = 129; kind = Bulk; maximum = 64; key = 0; pending = [] }

abbrev pub out : EndpointState
out = record { device = 0; address = 2; kind = Bulk; maximum = 64; key = 1; pending = [] }
