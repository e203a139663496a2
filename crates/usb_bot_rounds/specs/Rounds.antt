-- The rounds at a disk of 256 blocks: their commands, and what these come to.
use Rattle.std.specs.Prelude.{ℕ, ◌+◌, ◌*◌, ◌%◌, Bool, true, false, List, [], ◌∷◌, map, replicate}
use Rattle.std.specs.List.{range_with_len, flat_map, sum, sum_by, count_by}
use Rattle.usb_bot_rounds.specs.declared.tally.Tally.{Tally}
use Rattle.usb_bot_rounds.specs.Plain.{PlainCommand, Writes, Reads, PlainAnswer, Wrote, Gave, Refused, plain_answers}

-- the first block of round j, counted from 0, how many it has, and what is written to them
abbrev pub round_block : ℕ → ℕ
round_block j = (37 * j) % 256

abbrev pub round_count : ℕ → ℕ
round_count j = j % 4 + 1

unfoldable pub round_bytes : ℕ → List ℕ
round_bytes j = map (λ i. (j + i) % 256) (range_with_len 0 (512 * round_count j))

-- a round writes its blocks, and reads them again
abbrev pub round_commands : ℕ → List PlainCommand
round_commands j = Writes (round_block j) (round_bytes j) ∷ Reads (round_block j) (round_count j) ∷ []

-- of the first n rounds
abbrev pub commands_of_rounds : ℕ → List PlainCommand
commands_of_rounds n = flat_map round_commands (range_with_len 0 n)

-- the disk holds zeros at first
unfoldable pub zeros : List ℕ
zeros = replicate (512 * 256) 0

-- whether an answer is that of a write, of a read, or of a command that failed
abbrev pub is_written : PlainAnswer → Bool
is_written Wrote = true
is_written (Gave bytes) = false
is_written Refused = false

abbrev pub is_read : PlainAnswer → Bool
is_read Wrote = false
is_read (Gave bytes) = true
is_read Refused = false

abbrev pub is_failed : PlainAnswer → Bool
is_failed Wrote = false
is_failed (Gave bytes) = false
is_failed Refused = true

-- the sum of the bytes that were read
abbrev pub sum_read : PlainAnswer → ℕ
sum_read Wrote = 0
sum_read (Gave bytes) = sum bytes
sum_read Refused = 0

-- the tally of answers
abbrev pub tally_of : List PlainAnswer → Tally
tally_of answers =
    record {
      writes = count_by is_written answers;
      reads = count_by is_read answers;
      failed = count_by is_failed answers;
      sum = sum_by sum_read answers;
    }

-- and of n rounds at a plain list of 256 blocks
unfoldable pub rounds_tally : ℕ → Tally
rounds_tally n = tally_of (plain_answers zeros (commands_of_rounds n))

-- two tallies together
abbrev pub added : Tally → Tally → Tally
added a b =
    record {
      writes = a.writes + b.writes;
      reads = a.reads + b.reads;
      failed = a.failed + b.failed;
      sum = a.sum + b.sum;
    }
