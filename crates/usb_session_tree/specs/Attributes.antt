-- The lines of a probed folder beside that of its device: whether the device matches, or the attribute that gave no value.
use Rattle.std.specs.Prelude.{ℕ, Bool, true, false, List, [], ◌∷◌, codes}
use Rattle.usb_enum_sysfs.specs.SysfsTexts.{error_text}
use Rattle.usb_enum_sysfs.specs.declared.sysfs.SysfsError.{SysfsError}
use Rattle.usb_session_text.specs.Words.{line_of}

-- the attribute, and why it gave no value
unfoldable pub sysfs_line : SysfsError → List ℕ
sysfs_line error = line_of (codes "sysfs") (error_text error ∷ [])

abbrev pub truth_word : Bool → List ℕ
truth_word true = codes "true"
truth_word false = codes "false"

unfoldable pub match_line : Bool → List ℕ
match_line is_match = line_of (codes "match") (truth_word is_match ∷ [])
