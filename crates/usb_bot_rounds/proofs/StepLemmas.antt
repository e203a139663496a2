-- One round more, as a step of the list and of the tally.
use Rattle.std.proofs.Common.{◌≡◌, ℕ, ◌+◌, List, refl, sym, ap, subst, ◌∙◌, arith}
use Rattle.usb_bot.specs.Clients.{ClientState}
use Rattle.usb_bot_disk.specs.DiskState.{DiskState}
use Rattle.usb_bot_law.specs.Serving.{Serves}
use Rattle.usb_bot_rounds.specs.declared.tally.Tally.{Tally}
use Rattle.usb_bot_rounds.specs.Plain.{plain_answers, list_behind_all}
use Rattle.usb_bot_rounds.specs.Rounds.{round_commands, tally_of, added, rounds_tally}
use Rattle.usb_bot_rounds.specs.Runs.{IsWithin}
use Rattle.usb_bot_rounds.proofs.TallyLemmas.{list_behind_rounds, list-more, tally-more}

pub serves-more : (b : DiskState) (k : ClientState) (disk : List ℕ) (n : ℕ) → disk ≡ list_behind_rounds n → Serves b k (list_behind_all disk (round_commands n)) → Serves b k (list_behind_rounds (n + 1))
serves-more b k disk n is serves =
    subst (Serves b k) (ap (λ d. list_behind_all d (round_commands n)) is ∙ sym (list-more n)) serves

pub tally-next : (disk : List ℕ) (n : ℕ) (t next : Tally) → disk ≡ list_behind_rounds n → t ≡ rounds_tally n → next ≡ added t (tally_of (plain_answers disk (round_commands n))) → next ≡ rounds_tally (n + 1)
tally-next disk n t next is so-far more =
    more ∙ ap (λ u. added u (tally_of (plain_answers disk (round_commands n)))) so-far
    ∙ ap (λ d. added (rounds_tally n) (tally_of (plain_answers d (round_commands n)))) is ∙ sym (tally-more n)

-- the tally of no round
abbrev pub no_tally : Tally
no_tally = record { writes = 0; reads = 0; failed = 0; sum = 0 }

pub first-tally : no_tally ≡ rounds_tally 0
unfolding rounds_tally
first-tally = refl

pub first-within : (t : Tally) → t ≡ no_tally → IsWithin 0 t
first-within t is = subst (IsWithin 0) (sym is) (record { writes = omega arith; reads = omega arith; failed = omega arith; sum = omega arith })
