-- Words that name a place of a tree of attributes, and what is set there.
use Rattle.std.specs.Prelude.{ℕ, ◌==◌, ◌&&◌, ◌||◌, Bool, false, not, List, [], ◌∷◌, codes, Option, Some, None, if◌then◌else◌}
use Rattle.std.specs.List.{list_all, list_any, slice_split}
use Rattle.std.specs.Str.{bytes_eq, is_utf8}
use Rattle.usb_script_words.specs.Lines.{is_word}
use Rattle.usb_script_words.specs.Words.{bytes_of}

abbrev pub is_slash : ℕ → Bool
is_slash b = b == 47

-- a name in a path: neither empty, nor the folder itself, nor the one above it (a step of a path, not of a script)
abbrev pub is_step : List ℕ → Bool
is_step name = is_word name && not (bytes_eq name (codes ".")) && not (bytes_eq name (codes ".."))

-- `/`, or names with a slash before each
abbrev pub is_path : List ℕ → Bool
is_path [] = false
is_path (b ∷ bytes) = is_slash b && (not (is_word bytes) || list_all is_step (slice_split is_slash bytes))

-- the name of a file in a folder
abbrev pub is_file_name : List ℕ → Bool
is_file_name name = is_word name && not (list_any is_slash name)

-- bytes that are text
abbrev pub utf8_of : List ℕ → Option (List ℕ)
utf8_of word = if is_utf8 word then Some word else None

-- a word that is text of this form
abbrev pub text_with : (List ℕ → Bool) → List ℕ → Option (List ℕ)
text_with is_of_form word = if is_of_form word then utf8_of word else None

-- PATH: the path of a folder
unfoldable pub path_of : List ℕ → Option (List ℕ)
path_of word = text_with is_path word

-- NAME: the name of an attribute, a sub-folder, a link or an entry
unfoldable pub file_name_of : List ℕ → Option (List ℕ)
file_name_of word = text_with is_file_name word

-- TEXT: the target of a link
unfoldable pub target_of : List ℕ → Option (List ℕ)
target_of word = text_with is_word word

-- VALUE: what stands behind an equals sign, or BYTES
unfoldable pub value_of : List ℕ → Option (List ℕ)
value_of [] = bytes_of []
value_of (b ∷ bytes) = if b == 61 then Some bytes else bytes_of (b ∷ bytes)
