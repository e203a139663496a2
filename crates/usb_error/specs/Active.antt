-- The active configuration has no descriptor: what is printed, and which error it is. Where its
-- value is 0 the device is not configured.
use Rattle.std.specs.Prelude.{ℕ, List, ◌++◌, codes, decimal, nat_eq, if◌then◌else◌}
use Rattle.usb_error.specs.declared.kind.ErrorKind.TheVariants.{Other}
use Rattle.usb_error.specs.declared.message.Message.TheVariants.{DeviceIsNotConfigured, NoActiveDescriptor}
use Rattle.usb_error.specs.declared.active.ActiveConfigurationError.{ActiveConfigurationError}
use Rattle.usb_error.specs.ErrorState.{ErrorState, plain}

abbrev pub active_text : ActiveConfigurationError → List ℕ
active_text e =
    if nat_eq e.configuration_value 0
    then codes "device is not configured"
    else codes "no descriptor found for active configuration " ++ decimal e.configuration_value

-- the error of a call that needs it
abbrev pub active_error : ActiveConfigurationError → ErrorState
active_error e =
    if nat_eq e.configuration_value 0
    then plain Other DeviceIsNotConfigured
    else plain Other NoActiveDescriptor
