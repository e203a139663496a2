-- Calls on an open device that go down to the kernel: what they answer, and what they leave.
use Rattle.std.specs.Prelude.{ℕ, List, set, find, Result, Ok, Err, Option, Some, None}
use Rattle.usb_desc.specs.Configurations.{configurations}
use Rattle.usb_desc.specs.Lookups.{has_value}
use Rattle.usb_kernel_devices.specs.declared.step.KernelCall.TheVariants as call
use Rattle.usb_kernel_devices.specs.Claims.{ok_unless, no_rules}
use Rattle.usb_kernel_devices.specs.Calls.{same, set_configuration_rules, with_configuration, detach_rules, without_driver, attach_rules, with_driver}
use Rattle.usb_kernel.specs.Calls.{errno_of, asked, called, after_reset}
use Rattle.usb_enum_sysfs.specs.declared.speed.Speed.{Speed}
use Rattle.usb_error.specs.ErrorState.{ErrorState}
use Rattle.usb_error.specs.Errors.{set_configuration_error, detach_error, attach_error, reset_error}
use Rattle.usb_error.specs.declared.active.ActiveConfigurationError.{ActiveConfigurationError}
use Rattle.usb_device_endpoint.specs.CallErrors.{or_error, or_missing}
use Rattle.usb_device_tables.specs.History.{value_at}
use Rattle.usb_device_ledger.specs.declared.opened.OpenDevice.{OpenDevice}
use Rattle.usb_device_host.specs.HostState.{HostState}
use Rattle.usb_device_host.specs.Speeds.{speed_of_code}

-- `detach_kernel_driver`: the driver of an interface is bound no more
abbrev pub detach_tried : HostState → OpenDevice → ℕ → Result (Unit {0}) ErrorState
detach_tried h o number =
    or_error detach_error (ok_unless (errno_of h.kernel o.device call.Detach (detach_rules number)))

abbrev pub detached_on : HostState → ℕ → Option OpenDevice → HostState
detached_on h number None = h
detached_on h number (Some o) =
    record h {
      kernel = called h.kernel o.device call.Detach (detach_rules number) (without_driver number);
    }

unfoldable pub host_detached : HostState → ℕ → ℕ → HostState
host_detached h key number = detached_on h number (value_at h.devices key)

-- `attach_kernel_driver`: it is bound again
abbrev pub attach_tried : HostState → OpenDevice → ℕ → Result (Unit {0}) ErrorState
attach_tried h o number =
    or_error attach_error (ok_unless (errno_of h.kernel o.device call.Attach (attach_rules number)))

abbrev pub attached_on : HostState → ℕ → Option OpenDevice → HostState
attached_on h number None = h
attached_on h number (Some o) =
    record h {
      kernel = called h.kernel o.device call.Attach (attach_rules number) (with_driver number);
    }

unfoldable pub host_attached : HostState → ℕ → ℕ → HostState
host_attached h key number = attached_on h number (value_at h.devices key)

-- `reset`: the device is gone, as if it were unplugged
abbrev pub reset_tried : HostState → OpenDevice → Result (Unit {0}) ErrorState
reset_tried h o =
    or_error reset_error (ok_unless (errno_of h.kernel o.device call.Reset no_rules))

abbrev pub reset_on : HostState → Option OpenDevice → HostState
reset_on h None = h
reset_on h (Some o) = record h { kernel = after_reset h.kernel o.device }

unfoldable pub host_reset : HostState → ℕ → HostState
host_reset h key = reset_on h (value_at h.devices key)

-- `set_configuration`: the open device keeps the value of a configuration that is not refused
abbrev pub set_configuration_errno : HostState → OpenDevice → ℕ → Option ℕ
set_configuration_errno h o value =
    errno_of h.kernel o.device call.SetConfig (set_configuration_rules value)

abbrev pub set_configuration_tried : HostState → OpenDevice → ℕ → Result (Unit {0}) ErrorState
set_configuration_tried h o value =
    or_error set_configuration_error (ok_unless (set_configuration_errno h o value))

abbrev pub configured_unless : OpenDevice → ℕ → Option ℕ → OpenDevice
configured_unless o value None = record o { configuration = value }
configured_unless o value (Some errno) = o

abbrev pub configured_on : HostState → ℕ → ℕ → Option OpenDevice → HostState
configured_on h key value None = h
configured_on h key value (Some o) =
    record h {
      kernel = called h.kernel o.device call.SetConfig (set_configuration_rules value)
          (with_configuration value);
      devices = set h.devices key
          (Some (configured_unless o value (set_configuration_errno h o value)));
    }

unfoldable pub host_configured : HostState → ℕ → ℕ → HostState
host_configured h key value = configured_on h key value (value_at h.devices key)

-- `speed`: that of the code which the kernel gives, if it gives one
abbrev pub speed_given : Result ℕ ℕ → Option Speed
speed_given (Ok code) = speed_of_code code
speed_given (Err errno) = None

abbrev pub speed_tried : HostState → OpenDevice → Option Speed
speed_tried h o = speed_given (asked h.kernel o.device call.Speed no_rules (λ d. d.speed))

abbrev pub speed_asked_on : HostState → Option OpenDevice → HostState
speed_asked_on h None = h
speed_asked_on h (Some o) =
    record h { kernel = called h.kernel o.device call.Speed no_rules same }

unfoldable pub host_speed_asked : HostState → ℕ → HostState
host_speed_asked h key = speed_asked_on h (value_at h.devices key)

-- `active_configuration`: the first configuration with the value that the open device keeps. The
-- kernel is asked for that value by `ask_configuration` (`host_asked`: EndpointOpens.antt)
abbrev pub active_of : OpenDevice → Result (List ℕ) ActiveConfigurationError
active_of o =
    or_missing (record { configuration_value = o.configuration })
    (find (has_value o.configuration) (configurations o.descriptors))
