-- Calls on a claimed interface: what they answer, and what they leave.
use Rattle.std.specs.Prelude.{ℕ, List, [], set, find, Result, Err, Option, Some, None, option_and_then, if◌then◌else◌}
use Rattle.std.specs.Option.{option_map_or}
use Rattle.usb_desc.specs.Configurations.{configurations, alt_settings}
use Rattle.usb_desc.specs.Interfaces.{settings_of}
use Rattle.usb_desc.specs.Lookups.{has_value}
use Rattle.usb_kernel_devices.specs.declared.step.KernelCall.TheVariants as call
use Rattle.usb_kernel_devices.specs.Claims.{ok_unless}
use Rattle.usb_kernel_devices.specs.Calls.{same, set_interface_rules}
use Rattle.usb_kernel.specs.Calls.{errno_of, called}
use Rattle.usb_error.specs.ErrorState.{ErrorState}
use Rattle.usb_error.specs.Errors.{settings_in_use_error, alt_setting_error}
use Rattle.usb_device_endpoint.specs.CallErrors.{or_error}
use Rattle.usb_device_tables.specs.History.{value_at}
use Rattle.usb_device_ledger.specs.declared.opened.OpenDevice.{OpenDevice}
use Rattle.usb_device_ledger.specs.Entries.{ClaimedInterface}
use Rattle.usb_device_host.specs.HostState.{HostState}
use Rattle.usb_device_ledger.specs.Owners.{has_living}
use Rattle.usb_device_host.specs.EndpointOpens.{setting_in}

-- `set_alt_setting`: refused while an endpoint of the interface lives, before the kernel is asked;
-- a setting that the kernel does not refuse is the current one
abbrev pub alt_setting_errno : HostState → ClaimedInterface → ℕ → Option ℕ
alt_setting_errno h c setting =
    errno_of h.kernel c.device call.Alt (set_interface_rules c.number setting)

abbrev pub alt_setting_tried : HostState → ℕ → ClaimedInterface → ℕ →
    Result (Unit {0}) ErrorState
alt_setting_tried h i c setting =
    if has_living h.tickets h.endpoints i then Err settings_in_use_error
    else or_error alt_setting_error (ok_unless (alt_setting_errno h c setting))

abbrev pub setting_unless : ClaimedInterface → ℕ → Option ℕ → ClaimedInterface
setting_unless c setting None = record c { setting = setting }
setting_unless c setting (Some errno) = c

abbrev pub alt_setting_asked : HostState → ℕ → ℕ → ClaimedInterface → HostState
alt_setting_asked h i setting c =
    record h {
      kernel = called h.kernel c.device call.Alt (set_interface_rules c.number setting) same;
      interfaces = set h.interfaces i
          (Some (setting_unless c setting (alt_setting_errno h c setting)));
    }

abbrev pub alt_setting_on : HostState → ℕ → ℕ → Option ClaimedInterface → HostState
alt_setting_on h i setting None = h
alt_setting_on h i setting (Some c) =
    if has_living h.tickets h.endpoints i then h else alt_setting_asked h i setting c

unfoldable pub alt_setting_set : HostState → ℕ → ℕ → HostState
alt_setting_set h i setting = alt_setting_on h i setting (value_at h.interfaces i)

-- `descriptors`: the settings of an interface in the configuration with the value that its open
-- device keeps, which the kernel is asked for by `ask_configuration` (EndpointOpens.antt); none
-- where there is no such configuration
abbrev pub settings_in : OpenDevice → ℕ → List (List ℕ)
settings_in o number =
    option_map_or (λ configuration. settings_of (alt_settings configuration) number)
    (find (has_value o.configuration) (configurations o.descriptors)) []

-- `descriptor`: the current setting among these
abbrev pub current_setting : HostState → ClaimedInterface → Option (List ℕ)
current_setting h c =
    option_and_then (λ o. setting_in o c.number c.setting) (value_at h.devices c.opened)

-- `descriptors`: all its settings
abbrev pub all_settings : HostState → ClaimedInterface → List (List ℕ)
all_settings h c = option_map_or (λ o. settings_in o c.number) (value_at h.devices c.opened) []
