-- SEL: what devices are looked for by, as criteria in order.
use Rattle.std.specs.Prelude.{ℕ, zero, suc, List, [], ◌∷◌, length, take, drop, codes, Option, Some, None, if◌then◌else◌}
use Rattle.std.specs.Str.{bytes_eq}
use Rattle.usb_script_words.specs.Fields.{Word, one, two, three}
use Rattle.usb_script_words.specs.Places.{utf8_of, value_of}
use Rattle.usb_script_words.specs.Words.{◌>>=◌, hex_byte_of, hex_word_of}
use Rattle.usb_script_words.specs.declared.selector.Criterion.{Criterion}
use Rattle.usb_script_words.specs.declared.selector.Criterion.TheVariants.{Vendor, Product, Class, Subclass, Protocol, Serial}

-- a value that is text
abbrev pub serial_of : Word → Option (List ℕ)
serial_of word = value_of word >>= utf8_of

-- what the first n words make, and the words behind them
abbrev pub front : ℕ → (List Word → Option Criterion) → List Word → Option (Criterion × List Word)
front n read words = do
  criterion ← read (take n words)
  Some (criterion, drop n words)

-- a criterion of the class by its name: `class HH`, `classsub HH HH`, `classsubproto HH HH HH`
unfoldable pub class_criterion : Word → List Word → Option (Criterion × List Word)
class_criterion name words =
    if bytes_eq name (codes "class") then front 1 (one Class hex_byte_of) words
    else if bytes_eq name (codes "classsub") then front 2 (two Subclass hex_byte_of hex_byte_of) words
    else if bytes_eq name (codes "classsubproto") then front 3 (three Protocol hex_byte_of hex_byte_of hex_byte_of) words
    else None

-- a criterion by its name: `vid HHHH`, `vidpid HHHH HHHH`, `serial VALUE`, and those of the class
unfoldable pub named_criterion : Word → List Word → Option (Criterion × List Word)
named_criterion name words =
    if bytes_eq name (codes "vid") then front 1 (one Vendor hex_word_of) words
    else if bytes_eq name (codes "vidpid") then front 2 (two Product hex_word_of hex_word_of) words
    else if bytes_eq name (codes "serial") then front 1 (one Serial serial_of) words
    else class_criterion name words

-- the criteria that these words spell one behind another, of which there are at most so many
abbrev pub criteria_of : ℕ → List Word → Option (List Criterion)
criteria_of most [] = Some []
criteria_of zero (name ∷ words) = None
criteria_of (suc most) (name ∷ words) = do
  first ← named_criterion name words
  rest ← criteria_of most first.1
  Some (first.0 ∷ rest)

-- each criterion has a word of its own
unfoldable pub selector_of : List Word → Option (List Criterion)
selector_of words = criteria_of (length words) words
