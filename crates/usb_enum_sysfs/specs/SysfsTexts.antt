-- What an error of an attribute prints.
use Rattle.std.specs.Prelude.{ℕ, List, [], ◌∷◌, ◌++◌, codes, decimal}
use Rattle.hex.specs.Hex.{encode_lower}
use Rattle.usb_enum_sysfs.specs.declared.sysfs.SysfsError.{SysfsError}
use Rattle.usb_enum_sysfs.specs.declared.sysfs.SysfsErrorKind.{SysfsErrorKind}
use Rattle.usb_enum_sysfs.specs.declared.sysfs.SysfsErrorKind.TheVariants.{Io, Parse}

-- bytes as hexadecimal digits in lower case, or a dash for none
abbrev pub hex_text : List ℕ → List ℕ
hex_text [] = codes "-"
hex_text (b ∷ bytes) = encode_lower (b ∷ bytes)

abbrev pub kind_text : SysfsErrorKind → List ℕ
kind_text (Io errno) = codes "io " ++ decimal errno
kind_text (Parse text) = codes "parse " ++ hex_text text

abbrev pub error_text : SysfsError → List ℕ
error_text e = e.path ++ codes " " ++ kind_text e.kind
