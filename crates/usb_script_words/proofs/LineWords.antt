-- The words of a line that is read byte by byte.
use Rattle.std.proofs.Common.{◌≡◌, ℕ, ◌<◌, ◌≤◌, ◌+◌, ◌-◌, List, [], ◌∷◌, ◌++◌, length, take, drop, get_or, eqb, false, refl, ap, ◌∙◌, sym, arith, filter, append_assoc, append-nil}
use Rattle.std.specs.List.{slice_split}
use Rattle.std.proofs.lemmas.Bool.{ne_eqb}
use Rattle.std.proofs.lemmas.List.{take_more, length-take-le, drop-append-le, drop_all, drop-take, take_all, take_rest}
use Rattle.usb_script_words.specs.Lines.{words_of, is_space, is_word}

abbrev NoSpace : List ℕ → Type 0
NoSpace [] = Unit {0}
NoSpace (b ∷ word) = (b ≡ 32 → ⊥) × NoSpace word

-- the bytes so far: their closed words, and the bytes of the word that is open, which may be none
pub record Open (line : List ℕ) (words : List (List ℕ)) (word : List ℕ) : Type 0 where
  pub visible : NoSpace word
  pub on : (more : List ℕ) → words ++ words_of (word ++ more) ≡ words_of (line ++ more)

all_push : (word : List ℕ) (b : ℕ) → NoSpace word → (b ≡ 32 → ⊥) → NoSpace (word ++ b ∷ [])
all_push [] b all other = (other, tt)
all_push (a ∷ word) b all other = (all.0, all_push word b all.1 other)

split_at_space : (word more : List ℕ) → NoSpace word → slice_split is_space (word ++ 32 ∷ more) ≡ word ∷ slice_split is_space more
split_at_space [] more all = refl
split_at_space (b ∷ word) more all =
    let letter : eqb b 32 ≡ false = ne_eqb b 32 all.0 in
    rw (letter, split_at_space word more all.1) refl

split_last : (word : List ℕ) → NoSpace word → slice_split is_space word ≡ word ∷ []
split_last [] all = refl
split_last (b ∷ word) all =
    let letter : eqb b 32 ≡ false = ne_eqb b 32 all.0 in
    rw (letter, split_last word all.1) refl

word_at_space : (word more : List ℕ) → NoSpace word → words_of (word ++ 32 ∷ more) ≡ filter is_word (word ∷ []) ++ words_of more
word_at_space [] more all = refl
word_at_space (b ∷ word) more all = ap (filter is_word) (split_at_space (b ∷ word) more all)

last_word : (word : List ℕ) → NoSpace word → words_of word ≡ filter is_word (word ∷ [])
last_word [] all = refl
last_word (b ∷ word) all = ap (filter is_word) (split_last (b ∷ word) all)

-- before the first byte
pub open_none : Open [] [] []
open_none = record { visible = tt; on = λ more. refl }

-- one more byte of a word
pub open_byte : (line : List ℕ) (words : List (List ℕ)) (word : List ℕ) (b : ℕ) → Open line words word → (b ≡ 32 → ⊥) → Open (line ++ b ∷ []) words (word ++ b ∷ [])
open_byte line words word b open_word other = record {
  visible = all_push word b open_word.visible other;
  on = λ more. rw (append_assoc word (b ∷ []) more, append_assoc line (b ∷ []) more) (open_word.on (b ∷ more));
}

-- a space closes a word, which may be none
pub open_space : (line : List ℕ) (words : List (List ℕ)) (word : List ℕ) → Open line words word → Open (line ++ 32 ∷ []) (words ++ filter is_word (word ∷ [])) []
open_space line words word open_word = record {
  visible = tt;
  on = λ more.
      append_assoc words (filter is_word (word ∷ [])) (words_of more)
      ∙ ap (λ (w : List (List ℕ)). words ++ w) (sym (word_at_space word more open_word.visible))
      ∙ open_word.on (32 ∷ more)
      ∙ ap words_of (sym (append_assoc line (32 ∷ []) more));
}

-- the end behind a word, which may be none
pub closed : (line : List ℕ) (words : List (List ℕ)) (word : List ℕ) → Open line words word → words ++ filter is_word (word ∷ []) ≡ words_of line
closed line words word open_word =
    ap (λ (w : List (List ℕ)). words ++ w) (sym (last_word word open_word.visible))
    ∙ ap (λ (w : List ℕ). words ++ words_of w) (sym (append-nil word))
    ∙ open_word.on []
    ∙ ap words_of (append-nil line)

-- a byte of a word at this place
pub open_next : (bytes : List ℕ) (words : List (List ℕ)) (start i : ℕ) → i < length bytes → start ≤ i → Open (take i bytes) words (drop start (take i bytes)) → (get_or bytes i 0 ≡ 32 → ⊥) → Open (take (i + 1) bytes) words (drop start (take (i + 1) bytes))
open_next bytes words start i within order open_word other =
    let long : start ≤ length (take i bytes) = omega (arith, length-take-le i bytes (omega arith)) in
    let more = take_more bytes i 0 within in
    rw (more, drop-append-le start (take i bytes) (get_or bytes i 0 ∷ []) long)
    (open_byte (take i bytes) words (drop start (take i bytes)) (get_or bytes i 0) open_word other)

-- a space at this place
pub space_next : (bytes : List ℕ) (words : List (List ℕ)) (start i : ℕ) → i < length bytes → Open (take i bytes) words (drop start (take i bytes)) → get_or bytes i 0 ≡ 32 → Open (take (i + 1) bytes) (words ++ filter is_word (drop start (take i bytes) ∷ [])) (drop (i + 1) (take (i + 1) bytes))
space_next bytes words start i within open_word space =
    let more = take_more bytes i 0 within in
    let none : drop (i + 1) (take (i + 1) bytes) ≡ [] = drop_all (i + 1) (take (i + 1) bytes) (omega (arith, length-take-le (i + 1) bytes (omega arith))) in
    rw (none, more, space)
    (open_space (take i bytes) words (drop start (take i bytes)) open_word)

-- the bytes from one place to another
part : (bytes : List ℕ) (start i : ℕ) → start ≤ i → take (i - start) (drop start bytes) ≡ drop start (take i bytes)
part bytes start i order =
    let whole : start + (i - start) ≡ i = omega (arith, order) in
    sym (drop-take start (i - start) bytes) ∙ ap (λ (n : ℕ). drop start (take n bytes)) whole

-- the words before this place, where the last of them is pushed
pub closed_at : (bytes : List ℕ) (words pushed : List (List ℕ)) (start i : ℕ) → start ≤ i → Open (take i bytes) words (drop start (take i bytes)) → pushed ≡ words ++ filter is_word (take (i - start) (drop start bytes) ∷ []) → pushed ≡ words_of (take i bytes)
closed_at bytes words pushed start i order open_word is =
    is ∙ ap (λ (w : List ℕ). words ++ filter is_word (w ∷ [])) (part bytes start i order) ∙ closed (take i bytes) words (drop start (take i bytes)) open_word

-- the words of all bytes, where the last of them is pushed
pub closed_whole : (bytes : List ℕ) (words pushed : List (List ℕ)) (start i : ℕ) → length bytes ≤ i → Open (take i bytes) words (drop start (take i bytes)) → pushed ≡ words ++ filter is_word (take (length bytes - start) (drop start bytes) ∷ []) → pushed ≡ words_of bytes
closed_whole bytes words pushed start i end open_word is =
    let whole = take_all i bytes end in
    is ∙ ap (λ (w : List ℕ). words ++ filter is_word (w ∷ [])) (take_rest bytes start) ∙ closed bytes words (drop start bytes) (rw (sym whole) open_word)

-- a space at this place, where the word before it is pushed
pub space_at : (bytes : List ℕ) (words pushed : List (List ℕ)) (start i : ℕ) → i < length bytes → start ≤ i → Open (take i bytes) words (drop start (take i bytes)) → get_or bytes i 0 ≡ 32 → pushed ≡ words ++ filter is_word (take (i - start) (drop start bytes) ∷ []) → Open (take (i + 1) bytes) pushed (drop (i + 1) (take (i + 1) bytes))
space_at bytes words pushed start i within order open_word space is =
    rw (is, part bytes start i order) (space_next bytes words start i within open_word space)
