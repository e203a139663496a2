-- Calls on a device of one configuration of value 1 with interface 0, whose driver is bound, computed.
use Rattle.std.specs.Prelude.{◌≡◌, refl, ℕ, true, List, [], ◌∷◌, Some, None, Err}
use Rattle.usb_desc.specs.Chain.{chain}
use Rattle.usb_desc.specs.Groups.{groups}
use Rattle.usb_desc.specs.Configurations.{concatenated, configurations}
use Rattle.usb_kernel_devices.specs.declared.step.Armed.{Armed}
use Rattle.usb_kernel_devices.specs.declared.step.KernelCall.TheVariants as call
use Rattle.usb_kernel.specs.Value.{KernelState}
use Rattle.usb_kernel_devices.specs.Interfaces.{set_of}
use Rattle.usb_kernel_devices.specs.Calls.{same, set_configuration_rules, with_configuration, detach_and_claim_rules, with_claimed_only, detach_rules, without_driver, attach_rules, with_driver, set_interface_rules}
use Rattle.usb_kernel.specs.Calls.{errno_of, called, open_answer, after_reset}
use Rattle.usb_kernel_devices.specs.Claims.{claim_rules, with_claim, after_release}

abbrev bytes : List ℕ
bytes =
    18 ∷ 1 ∷ 0 ∷ 2 ∷ 0 ∷ 0 ∷ 0 ∷ 64 ∷ 170 ∷ 170 ∷ 187 ∷ 187 ∷ 0 ∷ 1 ∷ 0 ∷ 0 ∷ 0 ∷ 1 ∷
    9 ∷ 2 ∷ 18 ∷ 0 ∷ 1 ∷ 1 ∷ 0 ∷ 128 ∷ 50 ∷ 9 ∷ 4 ∷ 0 ∷ 0 ∷ 0 ∷ 255 ∷ 0 ∷ 0 ∷ 0 ∷ []

abbrev start : List Armed → List ℕ → KernelState
start armed drivers =
    record {
      past = [];
      devices = record { number = 0; bus = 1; address = 6; speed = 3; configuration = 1; bytes = bytes; plugged = true; claimed = []; bound = set_of drivers } ∷ [];
      clock = 0;
      armed = armed;
      spare = 1;
    }

-- with a driver a claim is refused, detach_and_claim isn't, and an attach is refused while the interface is claimed
abbrev bound : KernelState
bound = start [] (0 ∷ [])

pub claim_of_bound : errno_of bound 0 call.Claim (claim_rules 0) ≡ Some 16
unfolding chain groups concatenated configurations
claim_of_bound = refl

abbrev taken : KernelState
taken = called bound 0 call.DetachClaim (detach_and_claim_rules 0) (with_claimed_only 0)

pub attach_of_claimed : errno_of taken 0 call.Attach (attach_rules 0) ≡ Some 16
unfolding called chain groups concatenated configurations
attach_of_claimed = refl

-- when the claim ends and the driver is attached again, a claim is refused again
abbrev given_back : KernelState
given_back = called (record taken { devices = after_release taken.devices 0 0 }) 0 call.Attach (attach_rules 0) (with_driver 0)

pub claim_of_given_back : errno_of given_back 0 call.Claim (claim_rules 0) ≡ Some 16
unfolding called chain groups concatenated configurations
claim_of_given_back = refl

-- a driver is detached once
abbrev detached : KernelState
detached = called given_back 0 call.Detach (detach_rules 0) (without_driver 0)

pub detach_twice : (errno_of given_back 0 call.Detach (detach_rules 0) ≡ None) × (errno_of detached 0 call.Detach (detach_rules 0) ≡ Some 61)
unfolding called chain groups concatenated configurations
detach_twice = (refl, refl)

-- configurations: 7 is not there, 0 leaves no interface to claim
abbrev plain : KernelState
plain = start [] []

abbrev unconfigured : KernelState
unconfigured = called plain 0 call.SetConfig (set_configuration_rules 0) (with_configuration 0)

pub configurations_set :
    (errno_of plain 0 call.SetConfig (set_configuration_rules 7) ≡ Some 22)
    × (errno_of plain 0 call.SetConfig (set_configuration_rules 0) ≡ None)
    × (errno_of unconfigured 0 call.Claim (claim_rules 0) ≡ Some 2)
unfolding called chain groups concatenated configurations
configurations_set = (refl, refl, refl)

-- an interface that is claimed keeps the configuration
pub configuration_of_claimed : errno_of (called plain 0 call.Claim (claim_rules 0) (with_claim 0)) 0 call.SetConfig (set_configuration_rules 0) ≡ Some 16
unfolding called chain groups concatenated configurations
configuration_of_claimed = refl

-- a reset that succeeds unplugs: then a claim is refused with 19, and an open with 2
pub reset_unplugs : (errno_of (after_reset plain 0) 0 call.Claim (claim_rules 0) ≡ Some 19) × (open_answer (after_reset plain 0) 1 6 ≡ Err 2)
unfolding after_reset called chain groups concatenated configurations
reset_unplugs = (refl, refl)

-- an armed refusal is used once, and only by its own call
abbrev armed : KernelState
armed = start (record { device = 0; call = call.Alt; errno = 71 } ∷ []) []

pub refused_once :
    (errno_of armed 0 call.Claim (claim_rules 0) ≡ None)
    × (errno_of armed 0 call.Alt (set_interface_rules 0 0) ≡ Some 71)
    × (errno_of (called armed 0 call.Alt (set_interface_rules 0 0) same) 0 call.Alt (set_interface_rules 0 0) ≡ None)
    × (errno_of (called armed 0 call.Alt (set_interface_rules 0 0) same) 0 call.Alt (set_interface_rules 0 1) ≡ Some 22)
unfolding called chain groups concatenated configurations
refused_once = (refl, refl, refl, refl)
