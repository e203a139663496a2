-- Attributes of a folder, and why one gives no value.
use Rattle.std.specs.Prelude.{ℕ, List, Option, Some, None, Result, Ok, Err}
use Rattle.std.specs.Str.{trim}
use Rattle.std.specs.Result.{result_ok}
use Rattle.usb_enum_sysfs.specs.Tree.{Tree, text_at}
use Rattle.usb_enum_sysfs.specs.Paths.{path_in}
use Rattle.usb_enum_sysfs.specs.declared.sysfs.SysfsError.{SysfsError}
use Rattle.usb_enum_sysfs.specs.declared.sysfs.SysfsErrorKind.TheVariants.{Io, Parse}

-- what the text reads as, or that it does not
abbrev pub value_or : {A : Type 0} → List ℕ → List ℕ → Option A → Result A SysfsError
value_or path text (Some value) = Ok value
value_or path text None = Err (record { path = path; kind = Parse text })

-- a text is read without the white space at its ends
abbrev pub value_of : {A : Type 0} → (List ℕ → Option A) → List ℕ → Result (List ℕ) ℕ → Result A SysfsError
value_of parse path (Ok text) = value_or path text (parse (trim text))
value_of parse path (Err errno) = Err (record { path = path; kind = Io errno })

-- the value of an attribute of a folder
abbrev pub attribute : {A : Type 0} → (List ℕ → Option A) → Tree → List ℕ → List ℕ → Result A SysfsError
attribute parse t folder name = value_of parse (path_in folder name) (text_at t (path_in folder name))

-- the text of an attribute, where it reads
abbrev pub string : Tree → List ℕ → List ℕ → Option (List ℕ)
string t folder name = result_ok (attribute (λ text. Some text) t folder name)
