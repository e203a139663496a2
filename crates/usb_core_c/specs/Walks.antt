-- The settings and endpoints of the configuration at the front of some bytes: USB 2.0, section 9.6.
use Rattle.std.specs.Prelude.{ℕ, List, [], Option, Some, None}
use Rattle.std.specs.List.{slice_get}
use Rattle.usb_desc.specs.Configurations.{alt_settings, configuration_of, endpoints}

-- the settings of a configuration; none where there is no configuration
abbrev pub settings_in : Option (List ℕ) → List (List ℕ)
settings_in None = []
settings_in (Some configuration) = alt_settings configuration

-- the settings of the configuration at the front of these bytes
abbrev pub settings_of : List ℕ → List (List ℕ)
settings_of bytes = settings_in (configuration_of bytes)

-- the endpoints of a setting; none where there is no setting
abbrev pub endpoints_in : Option (List ℕ) → List (List ℕ)
endpoints_in None = []
endpoints_in (Some setting) = endpoints setting

-- the endpoints of the setting with this index
abbrev pub endpoints_of : List ℕ → ℕ → List (List ℕ)
endpoints_of bytes index = endpoints_in (slice_get (settings_of bytes) index)
