-- What a status says of its command.
use Rattle.std.proofs.Common.{◌≡◌, ◌∙◌, ℕ, List, Option, Some, None, Bool, true, false, cond, refl, ap, sym}
use Rattle.std.specs.Prelude.{◌==◌, not, nat_lt}
use Rattle.std.proofs.lemmas.Bool.{eqb-true, and_parts}
use Rattle.std.proofs.lemmas.Option.{none-some}
use Rattle.usb_xfer.specs.declared.transfer.Completion.{Completion}
use Rattle.usb_bot.specs.declared.error.BotError.{BotError}
use Rattle.usb_bot.specs.declared.error.BotError.TheVariants as error
use Rattle.usb_bot.specs.declared.wrapper.Command.{Command}
use Rattle.usb_bot.specs.declared.wrapper.Status.{Status}
use Rattle.usb_bot.specs.Wrappers.{data_length, status_in}
use Rattle.usb_bot.specs.Statuses.{is_all, error_by, error_of, status_error}
use Rattle.usb_bot.specs.Commands.{judged, unless_error}

pub judged-as : (c : Command) (d t : Completion) (bytes : List ℕ) (o : Option BotError) → o ≡ status_error c d.actual_len bytes → bytes ≡ t.buffer.bytes → judged c d t ≡ unless_error o d.buffer.bytes
judged-as c d t bytes o is same = ap (λ (e : Option BotError). unless_error e d.buffer.bytes) (ap (λ (xs : List ℕ). status_error c d.actual_len xs) (sym same) ∙ sym is)

-- the last of several errors is none only where the others are none
not-first : (b : Bool) (e : BotError) (rest : Option BotError) → cond b (Some e) rest ≡ None → rest ≡ None
not-first true e rest is = absurd (none-some e (sym is))
not-first false e rest is = is

passes : (b : Bool) (e : BotError) → cond b None (Some e) ≡ None → b ≡ true
passes true e is = refl
passes false e is = absurd (none-some e (sym is))

only-all : (b1 b2 b3 b4 b : Bool) (e1 e2 e3 e4 e : BotError) → cond b1 (Some e1) (cond b2 (Some e2) (cond b3 (Some e3) (cond b4 (Some e4) (cond b None (Some e))))) ≡ None → b ≡ true
only-all b1 b2 b3 b4 b e1 e2 e3 e4 e is =
    passes b e (not-first b4 e4 _ (not-first b3 e3 _ (not-first b2 e2 _ (not-first b1 e1 _ is))))

all-moved : (c : Command) (moved : ℕ) (s : Status) → error_by c moved s ≡ None → moved ≡ data_length c
all-moved c moved s is =
    let all = only-all (not (s.tag == c.tag)) (nat_lt 2 s.outcome) (s.outcome == 1) (s.outcome == 2) (is_all c moved s) error.BadStatus error.BadStatus (error.Failed s.residue) error.Phase (error.Length moved s.residue) is in
    eqb-true moved (data_length c) (and_parts (moved == data_length c) (s.residue == 0) all).0

all-moved-if : (c : Command) (moved : ℕ) (s : Option Status) → error_of c moved s ≡ None → moved ≡ data_length c
all-moved-if c moved None is = absurd (none-some _ (sym is))
all-moved-if c moved (Some s) is = all-moved c moved s is

-- a command that passed moved all its data
pub passed-moved : (c : Command) (moved : ℕ) (bytes : List ℕ) → None ≡ status_error c moved bytes → moved ≡ data_length c
passed-moved c moved bytes is = all-moved-if c moved (status_in bytes) (sym is)
