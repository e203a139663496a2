-- Bytes and words of a descriptor by their offset: USB 2.0, section 8.1 (words are little-endian).
use Rattle.std.specs.Prelude.{ℕ, ◌+◌, ◌*◌, List, slice_index}

-- the byte at an offset, and 0 past the end
abbrev pub byte_at : List ℕ → ℕ → ℕ
byte_at bytes offset = slice_index bytes offset

-- the two bytes at an offset as a little-endian number
abbrev pub word_at : List ℕ → ℕ → ℕ
word_at bytes offset = byte_at bytes offset + 256 * byte_at bytes (offset + 1)

-- bLength, the first byte of every descriptor (section 9.5)
abbrev pub length_field : List ℕ → ℕ
length_field bytes = byte_at bytes 0

-- bDescriptorType, the second byte of every descriptor (section 9.5)
abbrev pub type_field : List ℕ → ℕ
type_field bytes = byte_at bytes 1
