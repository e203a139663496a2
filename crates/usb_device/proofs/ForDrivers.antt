-- For proofs of drivers: keys of their own, and what stands where no clause `handles` says it.
use Rattle.std.proofs.Common.{arith, length, Bool, Result, Ok, Err, ℕ, ◌≡◌, ◌≢◌, ap}
use Rattle.std.specs.Prelude.{IfOk}
use Rattle.usb_desc.specs.declared.types.Direction.{Direction}
use Rattle.usb_desc.specs.declared.types.TransferType.{TransferType}
use Rattle.usb_device_endpoint.specs.EndpointState.{EndpointState}
use Rattle.usb_device_endpoint.specs.Handles.{Stands, KeepsOthers}
use Rattle.usb_device_endpoint.proofs.Frames.{Stands-other}
use Rattle.usb_device_tables.proofs.ValueLemmas.{value-within}
use Rattle.usb_device_host.specs.HostState.{HostState}
use Rattle.usb_device_host.specs.HostBus.{bus_of}
use Rattle.usb_device_host.specs.HostFrames.{HostGoesOn}
use Rattle.usb_device_host.specs.HandleStates.{InterfaceState, StandsDevice, StandsInterface}
use Rattle.usb_device_host.specs.DeviceHandles.{DeviceHandlesStand}
use Rattle.usb_device_host.specs.Opens.{open_key}
use Rattle.usb_device_host.specs.InterfaceClaims.{claim_tried}
use Rattle.usb_device_host.specs.EndpointOpens.{OpensEndpoint}
use Rattle.usb_device_host.proofs.HeldDevices.{opens-one}
use Rattle.usb_device_host.proofs.LeftDevices.{leaves-stand, line-leaves}
use Rattle.usb_device.specs.Futures.{FutureState, StandsFuture}
use Rattle.usb_device.specs.HandleCalls.{ClaimsInterface, ClaimsAndCloses}
use Rattle.usb_device.proofs.FreshKeys.{stands-within, endpoint-within}
use Rattle.usb_device.proofs.StandLemmas.{claimed-next}
use Rattle.usb_device.proofs.FutureFrames.{future-went}

-- what was opened or claimed has a key of its own
pub device_apart : (h : HostState) (bus address key d : ℕ) → open_key h bus address ≡ Ok key → StandsDevice h d → d ≢ key
device_apart h bus address key d is stands = λ same.
    let within = value-within h.devices d stands.device stands.at in
    let fresh = (opens-one h bus address key is).key_is in
    absurd (omega (arith, same, within, fresh))

pub interface_apart : (h g : HostState) (key number : ℕ) (reattach : Bool) (new i : InterfaceState) → ClaimsInterface h g key number reattach (Ok new) → StandsInterface h i → i.key ≢ new.key
interface_apart h g key number reattach new i claims stands = λ same.
    let within = stands-within h i stands in
    let fresh = (claimed-next (length h.interfaces) new.key (claim_tried h claims.device number reattach) claims.tried).0 in
    absurd (omega (arith, same, within, fresh))

pub into_interface_apart : (h g : HostState) (key number : ℕ) (reattach : Bool) (new i : InterfaceState) → ClaimsAndCloses h g key number reattach (Ok new) → StandsInterface h i → i.key ≢ new.key
into_interface_apart h g key number reattach new i into stands = interface_apart h into.between key number reattach new i into.claims stands

pub endpoint_apart : (h g : HostState) (key address : ℕ) (kind : TransferType) (direction : Direction) (new e : EndpointState) → OpensEndpoint h g key address kind direction (Ok new) → Stands (bus_of h) e → e.key ≢ new.key
endpoint_apart h g key address kind direction new e opens stands = λ same.
    let within = endpoint-within h e stands in
    let fresh : new.key ≡ length h.endpoints = ap (λ (x : EndpointState). x.key) opens.endpoint in
    absurd (omega (arith, same, within, fresh))

-- endpoints of other keys stand
pub endpoint_stands : (h g : HostState) (key : ℕ) (e : EndpointState) → KeepsOthers (bus_of h) (bus_of g) key → e.key ≢ key → Stands (bus_of h) e → Stands (bus_of g) e
endpoint_stands h g key e keeps apart stands = Stands-other (bus_of h) (bus_of g) key e keeps apart stands

-- handles of devices and of interfaces while the host goes on by itself
pub handles_stand : (h g : HostState) → HostGoesOn h g → DeviceHandlesStand h g
handles_stand h g went = leaves-stand h g (line-leaves h g went.line)

-- and futures
pub future_stands : (h g : HostState) (f : FutureState) → HostGoesOn h g → StandsFuture h f → StandsFuture g f
future_stands h g f went stands = future-went h g f went stands

-- what is true of a value that a call gave stays so
pub ok_kept : {A E : Type 0} (P Q : A → Type 0) (r : Result A E) → ((x : A) → P x → Q x) → IfOk r P → IfOk r Q
ok_kept P Q (Ok x) keeps is = keeps x is
ok_kept P Q (Err error) keeps is = tt
