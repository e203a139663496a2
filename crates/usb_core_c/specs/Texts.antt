-- The text of a string descriptor, as a caller in C sees it: USB 2.0, section 9.6.7.
use Rattle.std.specs.Prelude.{ℕ, ◌≡◌, ◌<◌, ◌⊎◌, List, length, true}
use Rattle.usb_desc.specs.Strings.{is_string, text}

-- a string descriptor, and its text in UTF-8
pub record IsText (bytes written : List ℕ) : Type 0 where
  pub valid : is_string bytes ≡ true
  pub text_is : written ≡ text bytes

-- a string descriptor, whose text has so many bytes, more than there is room for
pub record IsLongerText (bytes : List ℕ) (room len : ℕ) : Type 0 where
  pub valid : is_string bytes ≡ true
  pub count : len ≡ length (text bytes)
  pub longer : room < len

-- written, no string descriptor, longer than the room, or without memory
abbrev pub IsTextStatus : ℕ → Type 0
IsTextStatus status = (status ≡ 0) ⊎ (status ≡ 3) ⊎ (status ≡ 6) ⊎ (status ≡ 7)
