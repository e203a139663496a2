-- The lines of a script, and the words of a line.
use Rattle.std.specs.Prelude.{◌≡◌, ℕ, ◌-◌, ◌==◌, ◌&&◌, nat_le, Bool, true, false, not, List, [], ◌∷◌, length, take, slice_index, filter, find, Option, Some, None, if◌then◌else◌}
use Rattle.std.specs.List.{list_all, slice_split}

-- a byte before the first of these lines
abbrev pub onto_line : ℕ → List (List ℕ) → List (List ℕ)
onto_line b [] = (b ∷ []) ∷ []
onto_line b (line ∷ lines) = (b ∷ line) ∷ lines

-- the lines of a script: each ends with LF (10), which the last may lack
abbrev pub lines_of : List ℕ → List (List ℕ)
lines_of [] = []
lines_of (b ∷ bytes) = if b == 10 then [] ∷ lines_of bytes else onto_line b (lines_of bytes)

-- the space, 32 in ASCII
abbrev pub is_space : ℕ → Bool
is_space b = b == 32

-- a word has a byte at least
abbrev pub is_word : List ℕ → Bool
is_word [] = false
is_word (b ∷ bytes) = true

-- the words of a line: what stands between its spaces
abbrev pub words_of : List ℕ → List (List ℕ)
words_of line = filter is_word (slice_split is_space line)

-- the bytes that a line may hold: the space and the visible characters of ASCII
abbrev pub is_printable : ℕ → Bool
is_printable b = nat_le 32 b && nat_le b 126

-- a line's own bytes: one CR (13) at its end is none of them
abbrev pub without_cr : List ℕ → List ℕ
without_cr line = if slice_index line (length line - 1) == 13 then take (length line - 1) line else line

-- by the first byte that isn't a space: there is none, or it is the `#` (35) of a comment
abbrev pub is_skipped_by : Option ℕ → Bool
is_skipped_by None = true
is_skipped_by (Some b) = b == 35

-- whether a line is skipped: a comment, whatever it holds, a line of spaces or an empty one
abbrev pub is_skipped : List ℕ → Bool
is_skipped line = is_skipped_by (find (λ b. not (is_space b)) line)

-- what stands behind an LF at the front
abbrev pub behind_lf : List ℕ → Option (List ℕ)
behind_lf [] = None
behind_lf (b ∷ bytes) = if b == 10 then Some bytes else None

-- what stands behind the end of a line at the front: an LF, or a CR and an LF
abbrev pub behind_end : List ℕ → Option (List ℕ)
behind_end [] = None
behind_end (b ∷ bytes) = if b == 13 then behind_lf bytes else behind_lf (b ∷ bytes)

-- the first line of these bytes is no comment, may hold each of its own bytes, and has these words; behind it stand the others
pub record IsFirstSplit (bytes : List ℕ) (words : List (List ℕ)) (after : List ℕ) : Type 0 where
  pub line : List ℕ
  pub lines : lines_of bytes ≡ line ∷ lines_of after
  pub printable : list_all is_printable (without_cr line) ≡ true
  pub spelled : words ≡ words_of (without_cr line)
  pub skipped : is_skipped (without_cr line) ≡ (length words == 0)
