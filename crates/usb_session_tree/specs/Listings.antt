-- The line of a listing of devices.
use Rattle.std.specs.Prelude.{ℕ, List, [], ◌∷◌, ◌++◌, length, codes, flat_map}
use Rattle.std.specs.Fmt.{decimal}
use Rattle.usb_enum.specs.Devices.{DeviceFacts}
use Rattle.usb_session_text.specs.Words.{part}
use Rattle.usb_session_tree.specs.Parts.{with_colons}

-- a device by its bus and its address
abbrev pub address_part : DeviceFacts → List ℕ
address_part d = part (with_colons (decimal d.numbers.busnum) (decimal d.numbers.address ∷ []))

-- how many devices there are, and each of them in order
unfoldable pub devices_line : List DeviceFacts → List ℕ
devices_line devices = codes "list" ++ part (decimal (length devices)) ++ flat_map address_part devices ++ 10 ∷ []
