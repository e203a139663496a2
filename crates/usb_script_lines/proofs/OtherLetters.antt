-- The letters that lines begin with.
use Rattle.std.proofs.Common.{◌≡◌, ℕ, ◌==◌, false, List, [], ◌∷◌, get_or, codes, None, refl}
use Rattle.std.specs.List.{list_any}
use Rattle.usb_script_words.specs.Fields.{Word}
use Rattle.usb_script_words.specs.Tables.{begins}
use Rattle.usb_script_words.proofs.TableLemmas.{not_read}
use Rattle.usb_script_lines.specs.Forms.{forms, named_of}

-- the first letters of the table
abbrev pub letters : List ℕ
letters = codes "!abcdefghilmnoprstuwx"

-- a word whose first letter is none of them begins with none of them
begins_not : (name : Word) → list_any (λ letter. get_or name 0 0 == letter) letters ≡ false → begins letters name ≡ false
begins_not [] other = refl
begins_not (b ∷ name) other = other

-- and no line has it as its first word
pub no_line : (name : Word) (words : List Word) → list_any (λ letter. get_or name 0 0 == letter) letters ≡ false → named_of name words ≡ None
unfolding named_of forms
no_line name words other = not_read letters forms name words (begins_not name other)
