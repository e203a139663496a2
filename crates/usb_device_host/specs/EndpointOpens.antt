-- An endpoint of a claimed interface is opened.
use Rattle.std.specs.Prelude.{ℕ, ◌≡◌, true, set, List, [], ◌∷◌, ◌++◌, length, Result, Ok, Err, OnOk, OnErr, IfOk, Option, Some, None, find, option_and_then}
use Rattle.std.specs.Result.{result_unwrap_or}
use Rattle.usb_desc.specs.declared.types.Direction.{Direction}
use Rattle.usb_desc.specs.declared.types.TransferType.{TransferType}
use Rattle.usb_desc.specs.Configurations.{configurations, alt_settings, endpoints}
use Rattle.usb_desc.specs.Lookups.{has_value, has_setting, has_address}
use Rattle.usb_kernel_devices.specs.declared.step.KernelCall.TheVariants as call
use Rattle.usb_kernel_devices.specs.Claims.{no_rules}
use Rattle.usb_kernel_devices.specs.Calls.{same}
use Rattle.usb_kernel.specs.Calls.{asked, called}
use Rattle.usb_kernel.specs.Value.{KernelState}
use Rattle.usb_desc.specs.declared.error.Fail.{Fail}
use Rattle.usb_error.specs.ErrorState.{ErrorState}
use Rattle.usb_device_endpoint.specs.declared.route.Route.{Route}
use Rattle.usb_device_endpoint.specs.EndpointState.{EndpointState}
use Rattle.usb_device_tables.specs.History.{value_at}
use Rattle.usb_device_ledger.specs.declared.opened.OpenDevice.{OpenDevice}
use Rattle.usb_device_ledger.specs.Entries.{ClaimedInterface}
use Rattle.usb_device_host.specs.HostState.{HostState}
use Rattle.usb_device_host.specs.Owners.{is_in_use}
use Rattle.usb_device_host.specs.EndpointRefusals.{endpoint_tried}
use Rattle.usb_error.specs.Outcomes.{Tried, result_map}

-- the value of the active configuration: the kernel's, or the one that the open device keeps where
-- the kernel refuses
abbrev pub active_value : KernelState → OpenDevice → ℕ
active_value k o =
    result_unwrap_or (asked k o.device call.GetConfig no_rules (λ d. d.configuration))
    o.configuration

-- the kernel was asked for it, and the open device keeps what it gave
abbrev pub as_asked : KernelState → OpenDevice → OpenDevice
as_asked k o = record o { configuration = active_value k o }

abbrev pub asked_on : HostState → ℕ → Option OpenDevice → HostState
asked_on h key None = h
asked_on h key (Some o) =
    record h {
      kernel = called h.kernel o.device call.GetConfig no_rules same;
      devices = set h.devices key (Some (as_asked h.kernel o));
    }

unfoldable pub host_asked : HostState → ℕ → HostState
host_asked h key = asked_on h key (value_at h.devices key)

-- the descriptors of a setting of an interface, in the configuration that the open device keeps
abbrev pub setting_in : OpenDevice → ℕ → ℕ → Option (List ℕ)
setting_in o number setting =
    option_and_then
    (λ configuration. find (has_setting number setting) (alt_settings configuration))
    (find (has_value o.configuration) (configurations o.descriptors))

-- the descriptor of an endpoint there
unfoldable pub endpoint_of_setting : OpenDevice → ℕ → ℕ → ℕ → Option (List ℕ)
endpoint_of_setting o number setting address =
    option_and_then
    (λ setting. find (has_address address) (endpoints setting))
    (setting_in o number setting)

-- that of an endpoint of a claimed interface, in its current setting
abbrev pub endpoint_in : ClaimedInterface → ℕ → Option OpenDevice → Option (List ℕ)
endpoint_in c address None = None
endpoint_in c address (Some o) = endpoint_of_setting o c.number c.setting address

-- the maximum packet size of an endpoint that may be opened, or why it may not
unfoldable pub host_tries : HostState → ℕ → ClaimedInterface → ℕ → TransferType → Direction →
    Result ℕ ErrorState
host_tries h i c address kind direction =
    endpoint_tried (endpoint_in c address (value_at h.devices c.opened)) address kind direction
    (is_in_use h i address)

-- one more endpoint is open
abbrev pub with_endpoint : HostState → ℕ → ℕ → HostState
with_endpoint h i address =
    record h {
      endpoints =
          h.endpoints
          ++ Some (record { interface = Some i; address = address; is_open = true }) ∷ [];
    }

-- the route of its transfers
abbrev pub endpoint_route : ClaimedInterface → ℕ → TransferType → ℕ → ℕ → Route
endpoint_route c address kind maximum key =
    record { device = c.device; endpoint = address; kind = kind; maximum = maximum; key = key }

abbrev pub maximum_tried : Result Route (Fail ErrorState) → Result ℕ (Fail ErrorState)
maximum_tried (Ok route) = Ok route.maximum
maximum_tried (Err error) = Err error

-- a handle of the endpoint, with nothing pending
abbrev pub fresh_endpoint : ClaimedInterface → ℕ → TransferType → ℕ → ℕ → EndpointState
fresh_endpoint c address kind maximum key =
    record {
      device = c.device;
      address = address;
      kind = kind;
      maximum = maximum;
      key = key;
      pending = [];
    }

-- an endpoint of the claimed interface of this key is opened, or it is refused. The kernel is asked
-- for the active configuration first, also where the endpoint is not opened
pub record OpensEndpoint (old new : HostState) (key address : ℕ) (kind : TransferType)
    (direction : Direction) (result : Result EndpointState (Fail ErrorState)) : Type 0 where
  pub interface : ClaimedInterface
  pub at : value_at old.interfaces key ≡ Some interface
  pub tried : Tried (result_map (λ (e : EndpointState). e.maximum) result)
      (host_tries (host_asked old interface.opened) key interface address kind direction)
  pub endpoint : IfOk result
      (λ e. e ≡ fresh_endpoint interface address kind e.maximum (length old.endpoints))
  pub ok : OnOk result (new ≡ with_endpoint (host_asked old interface.opened) key address)
  pub err : OnErr result (new ≡ host_asked old interface.opened)
