-- Commands one after another, and their tallies.
use Rattle.std.proofs.Common.{◌≡◌, ℕ, ◌+◌, List, [], ◌∷◌, ◌++◌, length, refl, sym, ap, ◌∙◌, arith, Bool}
use Rattle.std.specs.List.{count_by, filter, range_with_len}
use Rattle.std.proofs.lemmas.List.{append-nil, length-append, map-id}
use Rattle.std.proofs.lemmas.List.Sums.{sum_by-append, length-filter}
use Rattle.std.proofs.lemmas.List.Elements.{filter-append}
use Rattle.std.proofs.lemmas.List.FromFn.{map-range_with_len_more}
use Rattle.std.proofs.lemmas.Grind.{flat_map-append}
use Rattle.usb_bot_rounds.specs.Plain.{PlainCommand, PlainAnswer, plain_answer, plain_answers, list_behind, list_behind_all}
use Rattle.usb_bot_rounds.specs.Rounds.{is_written, is_read, is_failed, sum_read, tally_of, added, round_commands, commands_of_rounds, zeros, rounds_tally}

counted-append : {X : Type 0} (p : X → Bool) (xs ys : List X) → count_by p (xs ++ ys) ≡ count_by p xs + count_by p ys
counted-append p xs ys =
    sym (length-filter p (xs ++ ys)) ∙ ap length (filter-append p xs ys) ∙ length-append (filter p xs) (filter p ys) ∙ rw (length-filter p xs, length-filter p ys) refl

-- the tally of answers behind others
pub tally-append : (xs ys : List PlainAnswer) → tally_of (xs ++ ys) ≡ added (tally_of xs) (tally_of ys)
tally-append xs ys =
    rw (counted-append is_written xs ys, counted-append is_read xs ys, counted-append is_failed xs ys, sum_by-append sum_read xs ys) refl

-- the answers to commands behind others
pub answers-append : (blocks : List ℕ) (xs ys : List PlainCommand) → plain_answers blocks (xs ++ ys) ≡ plain_answers blocks xs ++ plain_answers (list_behind_all blocks xs) ys
answers-append blocks [] ys = refl
answers-append blocks (x ∷ xs) ys = ap (λ rest. plain_answer blocks x ∷ rest) (answers-append (list_behind blocks x) xs ys)

pub list-append : (blocks : List ℕ) (xs ys : List PlainCommand) → list_behind_all blocks (xs ++ ys) ≡ list_behind_all (list_behind_all blocks xs) ys
list-append blocks [] ys = refl
list-append blocks (x ∷ xs) ys = list-append (list_behind blocks x) xs ys

-- one round more
numbers-more : (n : ℕ) → range_with_len 0 (n + 1) ≡ range_with_len 0 n ++ n ∷ []
numbers-more n =
    sym (map-id (range_with_len 0 (n + 1))) ∙ map-range_with_len_more (λ i. i) 0 n n (omega arith) ∙ ap (λ ns. ns ++ n ∷ []) (map-id (range_with_len 0 n))

pub commands-more : (n : ℕ) → commands_of_rounds (n + 1) ≡ commands_of_rounds n ++ round_commands n
commands-more n = rw (numbers-more n) (flat_map-append round_commands (range_with_len 0 n) (n ∷ []) ∙ ap (λ cs. commands_of_rounds n ++ cs) (append-nil (round_commands n)))

-- the list behind n rounds
abbrev pub list_behind_rounds : ℕ → List ℕ
list_behind_rounds n = list_behind_all zeros (commands_of_rounds n)

pub list-more : (n : ℕ) → list_behind_rounds (n + 1) ≡ list_behind_all (list_behind_rounds n) (round_commands n)
list-more n = rw (commands-more n) (list-append zeros (commands_of_rounds n) (round_commands n))

pub tally-more : (n : ℕ) → rounds_tally (n + 1) ≡ added (rounds_tally n) (tally_of (plain_answers (list_behind_rounds n) (round_commands n)))
unfolding rounds_tally
tally-more n =
    rw (commands-more n) (ap tally_of (answers-append zeros (commands_of_rounds n) (round_commands n)) ∙ tally-append (plain_answers zeros (commands_of_rounds n)) (plain_answers (list_behind_rounds n) (round_commands n)))
