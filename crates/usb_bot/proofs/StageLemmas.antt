-- How the stages of a command follow one another.
use Rattle.std.proofs.Common.{◌≡◌, ◌∙◌, ℕ, List, Option, None, Result, Ok, Err, refl, ap, sym, subst, inl, inr}
use Rattle.std.specs.Prelude.{IfOk, IfErr}
use Rattle.usb_xfer.specs.BufferState.{BufferState}
use Rattle.usb_xfer.specs.declared.transfer.Completion.{Completion}
use Rattle.usb_device_endpoint.specs.BusCalls.{BusCalls}
use Rattle.usb_bot.specs.declared.error.BotError.{BotError}
use Rattle.usb_bot.specs.declared.error.BotError.TheVariants as error
use Rattle.usb_bot.specs.declared.wrapper.Command.{Command}
use Rattle.usb_bot.specs.Wrappers.{command_bytes}
use Rattle.usb_bot.specs.Errors.{breaks}
use Rattle.usb_bot.specs.Clients.{ClientState}
use Rattle.usb_bot.specs.Commands.{commanding, Outcome, outcome, and_then, asks, sends, staged, status_length, data_endpoint, judged, status_staged, data_staged, counted, behind, all_staged, unless_broken, commanded}
use Rattle.usb_bot.specs.Shortages.{StageFails, WrapperFails, LaterFails, unstaged, CommandFails}

then-ok : {A B W : Type 0} (o : Outcome A W) (a : A) (w : W) (next : A → W → Outcome B W) → o ≡ outcome (Ok a) w → and_then o next ≡ next a w
then-ok {A = A} {W = W} o a w next is = ap (λ (x : Outcome A W). and_then x next) is

then-err : {A B W : Type 0} (o : Outcome A W) (e : BotError) (w : W) (next : A → W → Outcome B W) → o ≡ outcome (Err e) w → and_then o next ≡ outcome (Err e) w
then-err {A = A} {W = W} o e w next is = ap (λ (x : Outcome A W). and_then x next) is

module _ {S : Type 0} (k : BusCalls S) (client : ClientState) (c : Command) (b : BufferState) where
  -- the status came, and is judged
  pub later-came : (old mid new : S) (d t : Completion) (a : Result (List ℕ) BotError)
      → staged k (data_endpoint c.operation client) b old ≡ outcome (Ok d) mid
      → staged k client.inp (asks (status_length client.inp.maximum)) mid ≡ outcome (Ok t) new
      → judged c d t ≡ a → data_staged k client c b (status_staged k client c) old ≡ outcome a new
  later-came old mid new d t a first second is =
      then-ok (staged k (data_endpoint c.operation client) b old) d mid (status_staged k client c) first
      ∙ then-ok (staged k client.inp (asks (status_length client.inp.maximum)) mid) t new (λ t s. outcome (judged c d t) s) second
      ∙ ap (λ (x : Result (List ℕ) BotError). outcome x new) is

  -- whichever way it is judged
  pub later-passed : (old mid new : S) (d t : Completion)
      → staged k (data_endpoint c.operation client) b old ≡ outcome (Ok d) mid
      → staged k client.inp (asks (status_length client.inp.maximum)) mid ≡ outcome (Ok t) new
      → (r : Result BufferState BotError) → IfOk r (λ buffer. judged c d t ≡ Ok buffer.bytes)
      → IfOk r (λ buffer. data_staged k client c b (status_staged k client c) old ≡ outcome (Ok buffer.bytes) new)
  later-passed old mid new d t first second (Ok buffer) is = later-came old mid new d t (Ok buffer.bytes) first second is
  later-passed old mid new d t first second (Err e) is = tt

  pub later-failed : (old mid new : S) (d t : Completion)
      → staged k (data_endpoint c.operation client) b old ≡ outcome (Ok d) mid
      → staged k client.inp (asks (status_length client.inp.maximum)) mid ≡ outcome (Ok t) new
      → (r : Result BufferState BotError) → IfErr r (λ e. judged c d t ≡ Err e)
      → IfErr r (LaterFails k client c b old new)
  later-failed old mid new d t first second (Ok buffer) is = tt
  later-failed old mid new d t first second (Err e) is = inl (later-came old mid new d t (Err e) first second is)

  pub data-fails : (old new : S) (e : BotError) → StageFails k (data_endpoint c.operation client) b old new e → LaterFails k client c b old new e
  data-fails old new (error.Transfer why) fails = inl (then-err (staged k (data_endpoint c.operation client) b old) (error.Transfer why) new (status_staged k client c) fails)
  data-fails old new error.Memory fails = inr (refl, inl fails)
  data-fails old new error.BadStatus fails = absurd fails
  data-fails old new (error.Failed residue) fails = absurd fails
  data-fails old new error.Phase fails = absurd fails
  data-fails old new (error.Length got residue) fails = absurd fails

  pub status-fails : (old mid new : S) (d : Completion) (e : BotError)
      → staged k (data_endpoint c.operation client) b old ≡ outcome (Ok d) mid
      → StageFails k client.inp (asks (status_length client.inp.maximum)) mid new e → LaterFails k client c b old new e
  status-fails old mid new d (error.Transfer why) first fails =
      inl (then-ok (staged k (data_endpoint c.operation client) b old) d mid (status_staged k client c) first
      ∙ then-err (staged k client.inp (asks (status_length client.inp.maximum)) mid) (error.Transfer why) new (λ t s. outcome (judged c d t) s) fails)
  status-fails old mid new d error.Memory first fails =
      inr (refl, inr (then-ok (staged k (data_endpoint c.operation client) b old) d mid (λ d s. unstaged s) first ∙ ap (λ (s : S). unstaged s) (sym fails)))
  status-fails old mid new d error.BadStatus first fails = absurd fails
  status-fails old mid new d (error.Failed residue) first fails = absurd fails
  status-fails old mid new d error.Phase first fails = absurd fails
  status-fails old mid new d (error.Length got residue) first fails = absurd fails

  -- a client that goes on
  goes-on : (s : S) → client.ended ≡ None → commanded k c b (commanding s client) ≡ all_staged k c b (commanding s client)
  goes-on s goes = ap (λ (e : Option BotError). unless_broken e (commanding s client) (all_staged k c b (commanding s client))) goes

  -- all behind the wrapper came to an answer
  pub command-came : (old mid new : S) (w : Completion) (a : Result (List ℕ) BotError) → client.ended ≡ None
      → staged k client.out (sends (command_bytes c)) old ≡ outcome (Ok w) mid
      → data_staged k client c b (status_staged k client c) mid ≡ outcome a new
      → commanded k c b (commanding old client) ≡ outcome a (commanding new (counted (breaks a) client))
  command-came old mid new w a goes first later =
      goes-on old goes
      ∙ ap (λ (o : Outcome (List ℕ) S). behind client o)
      (then-ok (staged k client.out (sends (command_bytes c)) old) w mid (λ w s. data_staged k client c b (status_staged k client c) s) first ∙ later)

  pub command-passed : (old mid new : S) (w : Completion) → client.ended ≡ None
      → staged k client.out (sends (command_bytes c)) old ≡ outcome (Ok w) mid
      → (r : Result BufferState BotError) → IfOk r (λ buffer. data_staged k client c b (status_staged k client c) mid ≡ outcome (Ok buffer.bytes) new)
      → IfOk r (λ buffer. commanded k c b (commanding old client) ≡ outcome (Ok buffer.bytes) (commanding new (counted (breaks r) client)))
  command-passed old mid new w goes first (Ok buffer) is = command-came old mid new w (Ok buffer.bytes) goes first is
  command-passed old mid new w goes first (Err e) is = tt

  pub wrapper-fails : (old new : S) (client' : ClientState) (e : BotError) → client.ended ≡ None
      → WrapperFails k (sends (command_bytes c)) (commanding old client) (commanding new client') e
      → CommandFails k c b (commanding old client) (commanding new client') e
  wrapper-fails old new client' (error.Transfer why) goes fails =
      inl (goes-on old goes
      ∙ ap (λ (o : Outcome (List ℕ) S). behind client o)
      (then-err (staged k client.out (sends (command_bytes c)) old) (error.Transfer why) new (λ w s. data_staged k client c b (status_staged k client c) s) fails.0)
      ∙ ap (λ (x : ClientState). outcome (Err (error.Transfer why)) (commanding new x)) (sym fails.1))
  wrapper-fails old new client' error.Memory goes fails = inr (refl, (goes, inl fails))
  wrapper-fails old new client' error.BadStatus goes fails = absurd fails
  wrapper-fails old new client' (error.Failed residue) goes fails = absurd fails
  wrapper-fails old new client' error.Phase goes fails = absurd fails
  wrapper-fails old new client' (error.Length got residue) goes fails = absurd fails

  pub later-fails : (old mid new : S) (w : Completion) (e : BotError) → client.ended ≡ None
      → staged k client.out (sends (command_bytes c)) old ≡ outcome (Ok w) mid
      → LaterFails k client c b mid new e
      → CommandFails k c b (commanding old client) (commanding new (counted (breaks {A = List ℕ} (Err e)) client)) e
  later-fails old mid new w e goes first (inl is) = inl (command-came old mid new w (Err e) goes first is)
  later-fails old mid new w e goes first (inr (memory, inl same)) =
      inr (
        memory,
        (
          goes,
          inr (inl (
              ap (λ (o : Outcome (List ℕ) S). behind client o) (then-ok (staged k client.out (sends (command_bytes c)) old) w mid (λ w s. unstaged s) first)
              ∙ ap (λ (s : S). behind client (unstaged s)) (sym same)
              ∙ ap (λ (x : BotError). outcome (Err error.Memory) (commanding new (counted (breaks {A = List ℕ} (Err x)) client))) (sym memory))),
        ),
      )
  later-fails old mid new w e goes first (inr (memory, inr is)) =
      inr (
        memory,
        (
          goes,
          inr (inr (
              ap (λ (o : Outcome (List ℕ) S). behind client o)
              (then-ok (staged k client.out (sends (command_bytes c)) old) w mid (λ w s. data_staged k client c b (λ d s. unstaged s) s) first ∙ is)
              ∙ ap (λ (x : BotError). outcome (Err error.Memory) (commanding new (counted (breaks {A = List ℕ} (Err x)) client))) (sym memory))),
        ),
      )

  broken : (A B : Type 0) (e : BotError) → breaks {A = A} (Err e) ≡ breaks {A = B} (Err e)
  broken A B (error.Transfer why) = refl
  broken A B error.BadStatus = refl
  broken A B (error.Failed residue) = refl
  broken A B error.Phase = refl
  broken A B (error.Length got residue) = refl
  broken A B error.Memory = refl

  pub command-failed : (old mid new : S) (w : Completion) → client.ended ≡ None
      → staged k client.out (sends (command_bytes c)) old ≡ outcome (Ok w) mid
      → (r : Result BufferState BotError) → IfErr r (LaterFails k client c b mid new)
      → IfErr r (CommandFails k c b (commanding old client) (commanding new (counted (breaks r) client)))
  command-failed old mid new w goes first (Ok buffer) is = tt
  command-failed old mid new w goes first (Err e) is =
      subst (λ (x : Option BotError). CommandFails k c b (commanding old client) (commanding new (counted x client)) e) (broken (List ℕ) BufferState e)
      (later-fails old mid new w e goes first is)

-- the two later stages went well, and the second at what the first left of the client (mid)
module _ {S : Type 0} (k : BusCalls S) (client kept : ClientState) (c : Command) (b status : BufferState) (same : kept ≡ client) (asked : status ≡ asks (status_length client.inp.maximum)) where
  pub told : (at new : S) (a : Result Completion BotError) → staged k kept.inp status at ≡ outcome a new → staged k client.inp (asks (status_length client.inp.maximum)) at ≡ outcome a new
  told at new a is =
      ap (λ (x : BufferState). staged k client.inp x at) (sym asked)
      ∙ subst (λ (x : ClientState). staged k x.inp status at ≡ outcome a new) same is

  pub told-fails : (at new : S) (e : BotError) → StageFails k kept.inp status at new e → StageFails k client.inp (asks (status_length client.inp.maximum)) at new e
  told-fails at new e fails =
      subst (λ (x : BufferState). StageFails k client.inp x at new e) asked
      (subst (λ (x : ClientState). StageFails k x.inp status at new e) same fails)
