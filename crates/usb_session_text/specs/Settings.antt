-- The lines of what is set on a device or an interface: the active configuration, the speed, and the alternate setting.
use Rattle.std.specs.Prelude.{ℕ, List, [], ◌∷◌, ◌++◌, codes, Option, Some, None}
use Rattle.std.specs.Fmt.{decimal}
use Rattle.usb_enum_sysfs.specs.declared.speed.Speed.{Speed}
use Rattle.usb_enum_sysfs.specs.declared.speed.Speed.TheVariants.{Low, Full, High, Super, SuperPlus}
use Rattle.usb_error.specs.declared.active.ActiveConfigurationError.{ActiveConfigurationError}
use Rattle.usb_error.specs.Active.{active_text}
use Rattle.usb_session_text.specs.Words.{line_of}
use Rattle.usb_session_text.specs.Descriptors.{setting_words}

-- the value of the active configuration
unfoldable pub configuration_line : ℕ → List ℕ
configuration_line value = line_of (codes "config") (decimal value ∷ [])

-- or why there is none
unfoldable pub no_configuration_line : ActiveConfigurationError → List ℕ
no_configuration_line error = line_of (codes "noconfig") (active_text error ∷ [])

abbrev pub speed_word : Option Speed → List ℕ
speed_word None = codes "none"
speed_word (Some Low) = codes "Low"
speed_word (Some Full) = codes "Full"
speed_word (Some High) = codes "High"
speed_word (Some Super) = codes "Super"
speed_word (Some SuperPlus) = codes "SuperPlus"

unfoldable pub speed_line : Option Speed → List ℕ
speed_line speed = line_of (codes "speed") (speed_word speed ∷ [])

-- the number of the current alternate setting
unfoldable pub alt_setting_line : ℕ → List ℕ
alt_setting_line setting = line_of (codes "alt") (decimal setting ∷ [])

-- its descriptor, and its endpoints, if there is one
abbrev pub interface_line : Option (List ℕ) → List ℕ
interface_line None = line_of (codes "none") []
interface_line (Some setting) = setting_words setting ++ 10 ∷ []
