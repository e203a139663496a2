-- The calls with rules of their own that change no journal, as one enumeration.
use Rattle.std.specs.Prelude.{ℕ, Option}
use Rattle.usb_kernel_devices.specs.declared.calls.DeviceCall.{DeviceCall}
use Rattle.usb_kernel_devices.specs.declared.calls.DeviceCall.TheVariants.{SetConfiguration, Claim, DetachAndClaim, Detach, Attach, SetInterface}
use Rattle.usb_kernel_devices.specs.declared.devices.DeviceState.{DeviceState}
use Rattle.usb_kernel_devices.specs.declared.step.KernelCall.{KernelCall}
use Rattle.usb_kernel_devices.specs.declared.step.KernelCall.TheVariants as call
use Rattle.usb_kernel_devices.specs.Claims.{claim_rules, with_claim}
use Rattle.usb_kernel_devices.specs.Calls.{same, set_configuration_rules, with_configuration, detach_and_claim_rules, with_claimed_only, detach_rules, without_driver, attach_rules, with_driver, set_interface_rules}

-- the kind of a call, by which refusals are armed for it
abbrev pub kind_of : DeviceCall → KernelCall
kind_of (SetConfiguration value) = call.SetConfig
kind_of (Claim i) = call.Claim
kind_of (DetachAndClaim i) = call.DetachClaim
kind_of (Detach i) = call.Detach
kind_of (Attach i) = call.Attach
kind_of (SetInterface i setting) = call.Alt

-- the rules of a call
abbrev pub call_rules : DeviceCall → DeviceState → Option ℕ
call_rules (SetConfiguration value) = set_configuration_rules value
call_rules (Claim i) = claim_rules i
call_rules (DetachAndClaim i) = detach_and_claim_rules i
call_rules (Detach i) = detach_rules i
call_rules (Attach i) = attach_rules i
call_rules (SetInterface i setting) = set_interface_rules i setting

-- what a call that is not refused makes of the device
abbrev pub call_change : DeviceCall → DeviceState → DeviceState
call_change (SetConfiguration value) = with_configuration value
call_change (Claim i) = with_claim i
call_change (DetachAndClaim i) = with_claimed_only i
call_change (Detach i) = without_driver i
call_change (Attach i) = with_driver i
call_change (SetInterface i setting) = same
