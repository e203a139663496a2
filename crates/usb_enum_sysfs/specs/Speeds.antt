-- Speeds of devices, by the words and the numbers of megabits that name them.
use Rattle.std.specs.Prelude.{ℕ, List, codes, Option, Some, None, ◌||◌, if◌then◌else◌}
use Rattle.std.specs.Option.{option_and_then}
use Rattle.std.specs.Str.{bytes_eq}
use Rattle.usb_enum_sysfs.specs.Attributes.{string}
use Rattle.usb_enum_sysfs.specs.Tree.{Tree}
use Rattle.usb_enum_sysfs.specs.declared.speed.Speed.{Speed}
use Rattle.usb_enum_sysfs.specs.declared.speed.Speed.TheVariants.{Low, Full, High, Super, SuperPlus}

-- the speed that a word or a number names
unfoldable pub speed_of : List ℕ → Option Speed
speed_of text =
    if bytes_eq text (codes "low") || bytes_eq text (codes "1.5") then Some Low
    else if bytes_eq text (codes "full") || bytes_eq text (codes "12") then Some Full
    else if bytes_eq text (codes "high") || bytes_eq text (codes "480") then Some High
    else if bytes_eq text (codes "super") || bytes_eq text (codes "5000") then Some Super
    else if bytes_eq text (codes "super+") || bytes_eq text (codes "10000") then Some SuperPlus
    else None

-- the speed of the device with this folder
abbrev pub speed : Tree → List ℕ → Option Speed
speed t folder = option_and_then speed_of (string t folder (codes "speed"))
