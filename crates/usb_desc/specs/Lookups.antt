-- Tests by which one descriptor is looked up among others.
use Rattle.std.specs.Prelude.{ℕ, Bool, ◌&&◌, ◌==◌, List}
use Rattle.usb_desc.specs.Fields.{configuration_value, interface_number, alternate_setting, address}

-- a configuration with this value
abbrev pub has_value : ℕ → List ℕ → Bool
has_value value configuration = configuration_value configuration == value

-- a setting of the interface with this number
abbrev pub has_number : ℕ → List ℕ → Bool
has_number number setting = interface_number setting == number

-- this setting of the interface with this number
abbrev pub has_setting : ℕ → ℕ → List ℕ → Bool
has_setting number alternate setting =
    interface_number setting == number && alternate_setting setting == alternate

-- an endpoint with this address
abbrev pub has_address : ℕ → List ℕ → Bool
has_address wanted endpoint = address endpoint == wanted
