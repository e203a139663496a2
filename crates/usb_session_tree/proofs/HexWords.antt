-- One definition for the word of bytes in lines and in texts of errors.
use Rattle.std.proofs.Common.{◌≡◌, ℕ, List, [], ◌∷◌, refl}
use Rattle.usb_enum_sysfs.specs.SysfsTexts.{hex_text}
use Rattle.usb_session_text.specs.Words.{hex_word}

pub hex_word_is : (bytes : List ℕ) → hex_word bytes ≡ hex_text bytes
unfolding hex_word
hex_word_is [] = refl
hex_word_is (b ∷ bytes) = refl
