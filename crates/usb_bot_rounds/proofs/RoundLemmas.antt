-- Each round reads what it wrote.
use Rattle.std.proofs.Common.{◌≡◌, ℕ, ◌+◌, ◌*◌, ◌%◌, ◌≤◌, Bool, true, false, nat_le, List, [], ◌∷◌, ◌++◌, length, take, drop, refl, sym, ap, subst, ◌∙◌, arith, zero, suc}
use Rattle.std.proofs.Math.Seq.{take-append_seam, drop-append_seam}
use Rattle.std.proofs.lemmas.List.{length-take-le, append_assoc, length-replicate}
use Rattle.std.proofs.lemmas.List.FromFn.{length-map-range_with_len}
use Rattle.std.proofs.lemmas.Bool.{leb-true}
use Rattle.usb_bot_rounds.specs.declared.tally.Tally.{Tally}
use Rattle.usb_bot_disk.specs.Blocks.{overwritten, blocks_at}
use Rattle.usb_bot_rounds.specs.Plain.{PlainAnswer, Wrote, Gave, Refused, has_room, plain_answers, list_behind_all}
use Rattle.usb_bot_rounds.specs.Rounds.{round_block, round_count, round_bytes, round_commands, zeros, tally_of, added, rounds_tally}
use Rattle.usb_bot_disk.proofs.BlockLemmas.{written-length}
use Rattle.usb_bot_rounds.proofs.TallyLemmas.{list_behind_rounds, list-more, tally-more}

pub round-length : (j : ℕ) → length (round_bytes j) ≡ 512 * round_count j
unfolding round_bytes
round-length j = length-map-range_with_len (λ i. (j + i) % 256) 0 (512 * round_count j)

-- what was written from a place on is what stands there
read-back : (disk xs : List ℕ) (at : ℕ) → at + length xs ≤ length disk → take (length xs) (drop at (overwritten disk at xs)) ≡ xs
read-back disk xs at within =
    let front : length (take at disk) ≡ at = length-take-le at disk (omega (arith, within)) in
    let rest = drop (at + length xs) disk in
    let shape : overwritten disk at xs ≡ take at disk ++ (xs ++ rest) = append_assoc (take at disk) xs rest in
    ap (λ n. take (length xs) (drop n (overwritten disk at xs))) (sym front)
    ∙ ap (λ d. take (length xs) (drop (length (take at disk)) d)) shape
    ∙ ap (take (length xs)) (drop-append_seam (take at disk) (xs ++ rest))
    ∙ take-append_seam xs rest

-- whether the blocks of a round are all there
abbrev pub round_fits : ℕ → Bool
round_fits j = nat_le (512 * round_block j + 512 * round_count j) (512 * 256)

-- what a plain list answers to a round
abbrev pub round_answers : ℕ → Bool → List PlainAnswer
round_answers j true = Wrote ∷ Gave (round_bytes j) ∷ []
round_answers j false = Refused ∷ Refused ∷ []

-- the tallies of the rounds, each by itself
abbrev pub tally_of_rounds : ℕ → Tally
tally_of_rounds zero = record { writes = 0; reads = 0; failed = 0; sum = 0 }
tally_of_rounds (suc n) = added (tally_of_rounds n) (tally_of (round_answers n (round_fits n)))

module _ (blocks : List ℕ) (long : length blocks ≡ 512 * 256) (j : ℕ) where
  abbrev pub behind : List ℕ
  behind = overwritten blocks (512 * round_block j) (round_bytes j)

  room-is : has_room blocks (round_block j) (length (round_bytes j)) ≡ round_fits j
  room-is = ap (λ n. nat_le (512 * round_block j + n) (length blocks)) (round-length j) ∙ ap (nat_le (512 * round_block j + 512 * round_count j)) long

  within : round_fits j ≡ true → 512 * round_block j + length (round_bytes j) ≤ length blocks
  within fits = let e = round-length j in let f = leb-true (512 * round_block j + 512 * round_count j) (512 * 256) fits in omega arith

  pub long-behind : round_fits j ≡ true → length behind ≡ 512 * 256
  long-behind fits = written-length blocks (round_bytes j) (512 * round_block j) (within fits) ∙ long

  back : round_fits j ≡ true → blocks_at behind (round_block j) (round_count j) ≡ round_bytes j
  back fits =
      ap (λ n. take n (drop (512 * round_block j) behind)) (sym (round-length j))
      ∙ read-back blocks (round_bytes j) (512 * round_block j) (within fits)

  pub fitting : round_fits j ≡ true → plain_answers blocks (round_commands j) ≡ Wrote ∷ Gave (round_bytes j) ∷ []
  fitting fits =
      let again : has_room behind (round_block j) (512 * round_count j) ≡ true = ap (nat_le (512 * round_block j + 512 * round_count j)) (long-behind fits) ∙ fits in
      rw (room-is ∙ fits) (rw again (ap (λ b. Wrote ∷ Gave b ∷ []) (back fits)))

  pub passing : round_fits j ≡ false → plain_answers blocks (round_commands j) ≡ Refused ∷ Refused ∷ []
  passing passes =
      let again : has_room blocks (round_block j) (512 * round_count j) ≡ false = ap (nat_le (512 * round_block j + 512 * round_count j)) long ∙ passes in
      rw (room-is ∙ passes) (rw again refl)

  pub list-fitting : round_fits j ≡ true → list_behind_all blocks (round_commands j) ≡ behind
  list-fitting fits = rw (room-is ∙ fits) refl

  pub list-passing : round_fits j ≡ false → list_behind_all blocks (round_commands j) ≡ blocks
  list-passing passes = rw (room-is ∙ passes) refl

  pub answers-round : (fits : Bool) → round_fits j ≡ fits → plain_answers blocks (round_commands j) ≡ round_answers j fits
  answers-round true fits = fitting fits
  answers-round false passes = passing passes

  pub long-round : (fits : Bool) → round_fits j ≡ fits → length (list_behind_all blocks (round_commands j)) ≡ 512 * 256
  long-round true fits = ap length (list-fitting fits) ∙ long-behind fits
  long-round false passes = ap length (list-passing passes) ∙ long

next : (n : ℕ) → n + 1 ≡ suc n
next n = omega arith

-- the list is as long as at first
pub long-rounds : (n : ℕ) → length (list_behind_rounds n) ≡ 512 * 256
unfolding zeros
long-rounds zero = length-replicate {A = ℕ} (512 * 256) 0
long-rounds (suc n) =
    subst (λ m. length (list_behind_rounds m) ≡ 512 * 256) (next n) (ap length (list-more n) ∙ long-round (list_behind_rounds n) (long-rounds n) n (round_fits n) refl)

-- the tally of rounds is that of each round by itself
pub tally-rounds : (n : ℕ) → rounds_tally n ≡ tally_of_rounds n
unfolding rounds_tally
tally-rounds zero = refl
tally-rounds (suc n) =
    subst (λ m. rounds_tally m ≡ tally_of_rounds (suc n)) (next n) (
    tally-more n ∙ ap (λ t. added t (tally_of (plain_answers (list_behind_rounds n) (round_commands n)))) (tally-rounds n)
    ∙ ap (λ answers. added (tally_of_rounds n) (tally_of answers)) (answers-round (list_behind_rounds n) (long-rounds n) n (round_fits n) refl)
    )
