-- Ports, as far as they are read.
use Rattle.std.proofs.Common.{◌≡◌, ℕ, ◌+◌, ◌≤◌, ◌<◌, false, List, [], ◌∷◌, ◌++◌, length, drop, get_or, Option, Some, None, refl, sym, ap, ◌∙◌, append_assoc, append-nil}
use Rattle.std.specs.Prelude.{◌==◌, codes, unwrap_or}
use Rattle.std.specs.Str.{bytes_eq}
use Rattle.std.specs.List.{slice_split}
use Rattle.std.specs.Option.{option_and_then}
use Rattle.std.proofs.lemmas.List.{at_drop_more, at_drop_all}
use Rattle.usb_enum_sysfs.specs.Numbers.{decimal_byte}
use Rattle.usb_enum_sysfs.specs.Ports.{all_bytes, ports_of}

-- the numbers read so far, and the rest
abbrev pub onto : List ℕ → Option (List ℕ) → Option (List ℕ)
onto done None = None
onto done (Some rest) = Some (done ++ rest)

abbrev with_first : Option (List ℕ) → Option ℕ → Option (List ℕ)
with_first rest first = option_and_then (λ n. option_and_then (λ ns. Some (n ∷ ns)) rest) first

bytes_turn : (parts : List (List ℕ)) (i : ℕ) (part : List ℕ) → (i < length parts) × (part ≡ get_or parts i part) → all_bytes (drop i parts) ≡ with_first (all_bytes (drop (i + 1) parts)) (decimal_byte part)
bytes_turn parts i part at = at_drop_more all_bytes parts i part at.0 ∙ ap (λ p. with_first (all_bytes (drop (i + 1) parts)) (decimal_byte p)) (sym at.1)

pub bytes_refused : (parts : List (List ℕ)) (done : List ℕ) (i : ℕ) (part : List ℕ) → (i < length parts) × (part ≡ get_or parts i part) → decimal_byte part ≡ None → onto done (all_bytes (drop i parts)) ≡ None
bytes_refused parts done i part at none = ap (onto done) (bytes_turn parts i part at ∙ ap (with_first (all_bytes (drop (i + 1) parts))) none)

onto_more : (done : List ℕ) (n : ℕ) (rest : Option (List ℕ)) → onto (done ++ n ∷ []) rest ≡ onto done (with_first rest (Some n))
onto_more done n None = refl
onto_more done n (Some rest) = ap Some (append_assoc done (n ∷ []) rest)

pub bytes_go : (parts : List (List ℕ)) (done : List ℕ) (i : ℕ) (part : List ℕ) (n j : ℕ) → (i < length parts) × (part ≡ get_or parts i part) → decimal_byte part ≡ Some n → j ≡ i + 1 → onto (done ++ n ∷ []) (all_bytes (drop j parts)) ≡ onto done (all_bytes (drop i parts))
bytes_go parts done i part n j at some is_more =
    ap (λ k. onto (done ++ n ∷ []) (all_bytes (drop k parts))) is_more
    ∙ onto_more done n (all_bytes (drop (i + 1) parts))
    ∙ sym (ap (onto done) (bytes_turn parts i part at ∙ ap (with_first (all_bytes (drop (i + 1) parts))) some))

pub bytes_end : (parts : List (List ℕ)) (done : List ℕ) (i : ℕ) → length parts ≤ i → onto done (all_bytes (drop i parts)) ≡ Some done
bytes_end parts done i past = ap (onto done) (at_drop_all all_bytes parts i past) ∙ ap Some (append-nil done)

-- the ports of a text that is no root hub's
pub ports_listed : (text : List ℕ) (bytes : Option (List ℕ)) → bytes_eq text (codes "0") ≡ false → all_bytes (slice_split (λ b. b == 46) text) ≡ bytes → ports_of text ≡ unwrap_or bytes []
ports_listed text bytes no_hub listed = rw (no_hub, listed)
