-- A claim gives a handle of an interface, and a release takes one or hands it back. A handle of a device is
-- turned into one of an interface, and that into an endpoint.
use Rattle.std.specs.Prelude.{ℕ, ◌≡◌, Bool, true, false, length, Result, Ok, Err, OnOk, OnErr, IfOk, Some}
use Rattle.usb_desc.specs.declared.error.Fail.{Fail}
use Rattle.usb_desc.specs.declared.types.Direction.{Direction}
use Rattle.usb_desc.specs.declared.types.TransferType.{TransferType}
use Rattle.usb_device_endpoint.specs.EndpointState.{EndpointState}
use Rattle.usb_error.specs.ErrorState.{ErrorState}
use Rattle.usb_error.specs.Errors.{interface_in_use_error}
use Rattle.usb_error.specs.Outcomes.{Tried, result_map}
use Rattle.usb_device_tables.specs.History.{value_at}
use Rattle.usb_device_ledger.specs.declared.opened.OpenDevice.{OpenDevice}
use Rattle.usb_device_ledger.specs.Entries.{ClaimedInterface}
use Rattle.usb_device_host.specs.HostState.{HostState}
use Rattle.usb_device_host.specs.Owners.{is_shared}
use Rattle.usb_device_host.specs.CallErrors.{Leaves}
use Rattle.usb_device_host.specs.Handles.{device_closed, handle_closed}
use Rattle.usb_device_host.specs.EndpointOpens.{OpensEndpoint}
use Rattle.usb_device_host.specs.InterfaceClaims.{claimed_key, claim_tried, host_claimed}
use Rattle.usb_device_host.specs.HandleStates.{InterfaceState}

-- an interface of the open device of this key is claimed, or the kernel refuses
pub record ClaimsInterface (old new : HostState) (key interface : ℕ) (reattach : Bool)
    (result : Result InterfaceState (Fail ErrorState)) : Type 0 where
  pub device : OpenDevice
  pub at : value_at old.devices key ≡ Some device
  pub tried : Tried (result_map (λ (i : InterfaceState). i.key) result)
      (claimed_key (length old.interfaces) (claim_tried old device interface reattach))
  pub number : IfOk result (λ i. i.number ≡ interface)
  pub host : Leaves result new (host_claimed old key interface reattach) old

-- and then the handle of the device is closed
pub record ClaimsAndCloses (old new : HostState) (key interface : ℕ) (reattach : Bool)
    (result : Result InterfaceState (Fail ErrorState)) : Type 0 where
  pub between : HostState
  pub claims : ClaimsInterface old between key interface reattach result
  pub closed : new ≡ device_closed between key

-- an endpoint of the claimed interface of this key is opened, or it is refused, and then the handle
-- of the interface is closed
pub record OpensAndCloses (old new : HostState) (key address : ℕ) (kind : TransferType)
    (direction : Direction) (result : Result EndpointState (Fail ErrorState)) : Type 0 where
  pub between : HostState
  pub opens : OpensEndpoint old between key address kind direction result
  pub closed : new ≡ handle_closed between key

-- the answer to a release: where the interface has another owner, the handle comes back
abbrev pub release_answer : InterfaceState → Bool → Result (Unit {0}) (InterfaceState × ErrorState)
release_answer handle true = Err (handle, interface_in_use_error)
release_answer handle false = Ok tt

-- a handle that is released is closed, and one that comes back leaves all as it was
pub record ReleasesInterface (old new : HostState) (handle : InterfaceState)
    (result : Result (Unit {0}) (InterfaceState × ErrorState)) : Type 0 where
  pub claim : ClaimedInterface
  pub at : value_at old.interfaces handle.key ≡ Some claim
  pub answer : result ≡ release_answer handle (is_shared old handle.key claim)
  pub ok : OnOk result (new ≡ handle_closed old handle.key)
  pub err : OnErr result (new ≡ old)
