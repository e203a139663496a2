-- The readings of attributes, computed on texts with answers worked out by hand.
use Rattle.std.proofs.Common.{◌≡◌, ℕ, List, [], ◌∷◌, Some, None, Ok, Err, refl}
use Rattle.std.specs.Prelude.{codes}
use Rattle.std.specs.Str.{is_utf8, chars, trim_start, trim_end}
use lib.Utf8.{encode}
use Rattle.usb_enum_sysfs.specs.Attributes.{attribute}
use Rattle.usb_enum_sysfs.specs.Numbers.{number, decimal_byte, hex_byte, version_word}
use Rattle.usb_enum_sysfs.specs.Tree.{Tree, bare}
use Rattle.usb_enum_sysfs.specs.declared.sysfs.SysfsErrorKind.TheVariants.{Io, Parse}
use Rattle.usb_enum_sysfs.specs.declared.tree.Attribute.TheVariants.{Content}

version_of_3_10 : version_word (codes "3.10") ≡ Some 784
unfolding number
version_of_3_10 = refl

version_with_an_empty_part : version_word (codes "2..0") ≡ None
unfolding number
version_with_an_empty_part = refl

prefixes : (hex_byte (codes "0x+2a") ≡ Some 42) × (hex_byte (codes "+0x2a") ≡ None) × (hex_byte (codes "0X2a") ≡ None) × (hex_byte (codes "0x") ≡ None)
unfolding number
prefixes = (refl, refl, refl, refl)

a_byte_at_most : decimal_byte (codes "256") ≡ None
unfolding number
a_byte_at_most = refl

-- white space at the ends is not read, and the text of an error is as it stands
busnum_with : List ℕ → Tree
busnum_with bytes = record bare { attributes = (codes "/d/busnum", Content bytes) ∷ [] }

trimmed : attribute decimal_byte (busnum_with (codes " 7\n")) (codes "/d") (codes "busnum") ≡ Ok 7
unfolding busnum_with number is_utf8 chars trim_start trim_end encode
trimmed = refl

not_read : attribute decimal_byte (busnum_with (codes " 256")) (codes "/d") (codes "busnum") ≡ Err (record { path = codes "/d/busnum"; kind = Parse (codes " 256") })
unfolding busnum_with number is_utf8 chars trim_start trim_end encode
not_read = refl

missing : attribute decimal_byte bare (codes "/d") (codes "busnum") ≡ Err (record { path = codes "/d/busnum"; kind = Io 2 })
missing = refl
