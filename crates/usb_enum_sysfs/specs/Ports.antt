-- The chain of ports on the way from a root hub to a device (USB 2.0, section 11.1).
use Rattle.std.specs.Prelude.{ℕ, ◌==◌, List, [], ◌∷◌, codes, Option, Some, if◌then◌else◌, unwrap_or}
use Rattle.std.specs.Option.{option_and_then, option_map_or}
use Rattle.std.specs.Str.{bytes_eq}
use Rattle.std.specs.List.{slice_split}
use Rattle.usb_enum_sysfs.specs.Attributes.{string}
use Rattle.usb_enum_sysfs.specs.Numbers.{decimal_byte}
use Rattle.usb_enum_sysfs.specs.Tree.{Tree}

-- decimal numbers of 8 bits, where each part is one
abbrev pub all_bytes : List (List ℕ) → Option (List ℕ)
all_bytes [] = Some []
all_bytes (part ∷ parts) = option_and_then (λ n. option_and_then (λ ns. Some (n ∷ ns)) (all_bytes parts)) (decimal_byte part)

-- the ports of a text, cut at each dot: none of a root hub's, and none where one part is no number
abbrev pub ports_of : List ℕ → List ℕ
ports_of text = if bytes_eq text (codes "0") then [] else unwrap_or (all_bytes (slice_split (λ b. b == 46) text)) []

-- the ports of the device with this folder
abbrev pub ports : Tree → List ℕ → List ℕ
ports t folder = option_map_or ports_of (string t folder (codes "devpath")) []
