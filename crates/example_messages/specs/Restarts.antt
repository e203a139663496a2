-- That the halts of two endpoints are cleared, or why one is not.
use Rattle.std.specs.Prelude.{◌≡◌, ◌⊎◌, Result, Ok, Err}
use Rattle.usb_error.specs.ErrorState.{ErrorState}
use Rattle.usb_error.specs.Errors.{clear_halt_error}
use Rattle.usb_device_endpoint.specs.CallErrors.{or_error}
use Rattle.usb_device_endpoint.specs.EndpointState.{EndpointState}
use Rattle.usb_device_host.specs.HostState.{HostState}
use Rattle.usb_device_host.specs.HostCalls.{host_calls}

-- the last call of a host asked the kernel to clear the halt of an endpoint, which answered this
pub record ClearsHalt (new : HostState) (e : EndpointState)
    (result : Result (Unit {0}) ErrorState) : Type 0 where
  pub before : HostState
  pub host : new ≡ host_calls.halt_cleared before e.device e.address
  pub answer :
      result ≡ or_error clear_halt_error (host_calls.halt_result before e.device e.address)

-- the halts of both are cleared: of one first, and of the other by the last call
pub record BothCleared (new : HostState) (source target : EndpointState) : Type 0 where
  pub between : HostState
  pub input : ClearsHalt between source (Ok tt)
  pub output : ClearsHalt new target (Ok tt)

-- that of one of them was refused with this error
pub record OneRefused (source target : EndpointState) (error : ErrorState) : Type 0 where
  pub host : HostState
  pub refused : ClearsHalt host source (Err error) ⊎ ClearsHalt host target (Err error)
