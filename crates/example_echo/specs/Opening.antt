-- What opening both endpoints answers.
use Rattle.std.specs.Prelude.{ℕ, false, Option, Some, None, Result, Ok, Err}
use Rattle.usb_desc.specs.declared.types.Direction.TheVariants.{Out, In}
use Rattle.usb_desc.specs.declared.types.TransferType.TheVariants.{Bulk}
use Rattle.usb_error.specs.ErrorState.{ErrorState}
use Rattle.usb_error.specs.Errors.{no_endpoint_error}
use Rattle.usb_error.specs.Outcomes.{◌>>=◌}
use Rattle.usb_device_tables.specs.History.{value_at}
use Rattle.usb_device_ledger.specs.Entries.{ClaimedInterface}
use Rattle.usb_device_host.specs.HostState.{HostState}
use Rattle.usb_device_host.specs.EndpointOpens.{host_asked, host_tries, with_endpoint}
use Rattle.usb_device.specs.InterfaceAnswers.{interface_answer}
use Rattle.example_echo.specs.Claims.{claimed, claimed_as}

-- an endpoint of a claimed interface, by the interface's key. The kernel is asked for the active
-- configuration first
abbrev pub out_answer : HostState → ℕ → ClaimedInterface → Result ℕ ErrorState
out_answer h key c = host_tries (host_asked h c.opened) key c 2 Bulk Out

abbrev pub in_answer : HostState → ℕ → ClaimedInterface → Result ℕ ErrorState
in_answer h key c = host_tries (host_asked h c.opened) key c 129 Bulk In

-- the IN endpoint 0x81 and then the OUT endpoint 0x02 of the claimed interface of a key
abbrev pub endpoints_answer : HostState → ℕ → Option ClaimedInterface → Result (Unit {0}) ErrorState
endpoints_answer h key None = Err no_endpoint_error
endpoints_answer h key (Some c) =
    do
      in_size ← in_answer h key c
      out_size ← out_answer (with_endpoint (host_asked h c.opened) key 129) key c
      Ok tt

-- the device, its interface 0, and both endpoints, of which the first that is refused is the error
unfoldable pub echo_answer : HostState → ℕ → ℕ → Result (Unit {0}) ErrorState
echo_answer h bus address =
    let host = claimed h bus address in
    let key = claimed_as h bus address in
    do
      done ← interface_answer h bus address 0 false
      endpoints_answer host key (value_at host.interfaces key)
