-- The interfaces of a configuration: USB 2.0, section 9.6.5. Settings with one interface number
-- are alternate settings of one interface.
use Rattle.std.specs.Prelude.{ℕ, Bool, true, false, List, [], ◌∷◌, filter, map, slice_index_or}
use Rattle.std.specs.List.{range_with_len}
use Rattle.usb_desc.specs.Configurations.{alt_settings}
use Rattle.usb_desc.specs.Fields.{interface_number}
use Rattle.usb_desc.specs.Lookups.{has_number}

-- an interface has a setting
abbrev pub has_any : List (List ℕ) → Bool
has_any [] = false
has_any (setting ∷ settings) = true

-- the settings of the interface with this number, in the order in which they stand
abbrev pub settings_of : List (List ℕ) → ℕ → List (List ℕ)
settings_of settings number = filter (has_number number) settings

-- the interfaces with these numbers, as far as there are settings of them
abbrev pub interfaces_with : List ℕ → List (List ℕ) → List (List (List ℕ))
interfaces_with numbers settings = filter has_any (map (settings_of settings) numbers)

-- the interfaces among settings, by rising number from 0 to 255
unfoldable pub interfaces_among : List (List ℕ) → List (List (List ℕ))
interfaces_among settings = interfaces_with (range_with_len 0 256) settings

-- the interfaces of a configuration
abbrev pub interfaces : List ℕ → List (List (List ℕ))
interfaces configuration = interfaces_among (alt_settings configuration)

-- the number of an interface is that of its first setting
abbrev pub number_of : List (List ℕ) → ℕ
number_of settings = interface_number (slice_index_or settings 0 [])
