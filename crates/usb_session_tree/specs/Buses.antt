-- The line of a listing of buses.
use Rattle.std.specs.Prelude.{ℕ, List, [], ◌∷◌, ◌++◌, length, codes, flat_map, Option, Some, None}
use Rattle.std.specs.Fmt.{decimal}
use Rattle.usb_enum.specs.Buses.{BusFacts}
use Rattle.usb_enum.specs.declared.controller.UsbControllerType.{UsbControllerType}
use Rattle.usb_enum.specs.declared.controller.UsbControllerType.TheVariants.{XHCI, EHCI, OHCI, UHCI, VHCI}
use Rattle.usb_session_text.specs.Words.{part}
use Rattle.usb_session_tree.specs.Parts.{with_colons, string_word, name_word}

abbrev pub controller_word : Option UsbControllerType → List ℕ
controller_word None = codes "none"
controller_word (Some XHCI) = codes "XHCI"
controller_word (Some EHCI) = codes "EHCI"
controller_word (Some OHCI) = codes "OHCI"
controller_word (Some UHCI) = codes "UHCI"
controller_word (Some VHCI) = codes "VHCI"

-- a bus: its number, the kind of its controller, the name of the controller's driver, and the product string of its root hub
unfoldable pub bus_word : BusFacts → List ℕ
bus_word b =
    with_colons (decimal b.hub.numbers.busnum) (controller_word b.controller ∷ name_word b.driver ∷ string_word b.hub.product ∷ [])

abbrev pub bus_part : BusFacts → List ℕ
bus_part b = part (bus_word b)

-- how many buses there are, and each of them in order
unfoldable pub buses_line : List BusFacts → List ℕ
buses_line buses = codes "buses" ++ part (decimal (length buses)) ++ flat_map bus_part buses ++ 10 ∷ []
