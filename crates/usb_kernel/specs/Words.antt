-- The number of a ticket, or that there is none, in one word.
use Rattle.std.specs.Prelude.{ℕ, zero, suc, ◌≡◌, Option, Some, None, refl}
use Rattle.usb_kernel.specs.declared.record.Neighbour.TheInside.{Inside}

-- the ticket that a word names: none is 0, and a ticket one more than its number
abbrev pub ticket_in : ℕ → Option ℕ
ticket_in zero = None
ticket_in (suc n) = Some n

-- the word that names it
abbrev pub word_for : Option ℕ → ℕ
word_for None = zero
word_for (Some n) = suc n

abbrev pub inside_for : Option ℕ → Inside
inside_for ticket = record { word = word_for ticket }

-- no two words name the same
pub inside_back : (n : Inside) → inside_for (ticket_in n.word) ≡ n
inside_back n = back n.word
  where
    back : (w : ℕ) → inside_for (ticket_in w) ≡ record { word = w }
    back zero = refl
    back (suc w) = refl
