-- What a line gives.
use Rattle.std.specs.Prelude.{ℕ, List, [], ◌∷◌, Option, Some, None, if◌then◌else◌}
use Rattle.std.specs.List.{list_all}
use Rattle.usb_script_lines.specs.declared.item.Item.{Item}
use Rattle.usb_script_lines.specs.declared.reading.Reading.{Reading}
use Rattle.usb_script_lines.specs.declared.reading.Reading.TheVariants.{Skipped, Read}
use Rattle.usb_script_words.specs.Lines.{words_of, is_printable, without_cr, is_skipped}
use Rattle.usb_script_words.specs.Words.{◌>>=◌}
use Rattle.usb_script_words.specs.Fields.{Word}
use Rattle.usb_script_lines.specs.Forms.{named_of}

-- the item of these words
unfoldable pub form_of : List Word → Option Item
form_of [] = None
form_of (name ∷ words) = named_of name words

-- the item of a line
unfoldable pub item_of : List ℕ → Option Item
item_of line = form_of (words_of line)

-- what reading a line gives (`Reading`: src/reading.rt): one item, where it isn't skipped
unfoldable pub item_reading_of : List ℕ → Option Reading
item_reading_of line = if list_all is_printable line then (item_of line >>= λ item. Some (Read item)) else None

-- what a line without its CR gives
unfoldable pub own_reading_of : List ℕ → Option Reading
own_reading_of line = if is_skipped line then Some Skipped else item_reading_of line

-- what a line gives, or nothing where it is outside the grammar
unfoldable pub reading_of : List ℕ → Option Reading
reading_of line = own_reading_of (without_cr line)
