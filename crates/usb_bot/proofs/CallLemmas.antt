-- What a command's outcome says of a read or a write.
use Rattle.std.proofs.Common.{◌≡◌, ◌∙◌, ℕ, ◌/◌, List, length, ap, sym, subst, inl, inr}
use Rattle.usb_xfer.specs.BufferState.{BufferState}
use Rattle.usb_device_endpoint.specs.BusCalls.{BusCalls}
use Rattle.usb_bot.specs.declared.error.BotError.{BotError}
use Rattle.usb_bot.specs.declared.wrapper.Command.{Command}
use Rattle.usb_bot.specs.declared.wrapper.Operation.TheVariants.{Write}
use Rattle.usb_bot.specs.Commands.{Commanding, Outcome, sends, next_command, written, commanded}
use Rattle.usb_bot.specs.Shortages.{CommandFails, WriteFails}

pub same-came : {S : Type 0} (k : BusCalls S) (c c' : Command) (b b' : BufferState) (w : Commanding S) (o : Outcome (List ℕ) (Commanding S)) → c ≡ c' → b ≡ b' → commanded k c b w ≡ o → commanded k c' b' w ≡ o
same-came k c c' b b' w o command buffer is =
    ap (λ (x : Command). commanded k x b' w) (sym command) ∙ ap (λ (x : BufferState). commanded k c x w) (sym buffer) ∙ is

pub same-fails : {S : Type 0} (k : BusCalls S) (c c' : Command) (b b' : BufferState) (old new : Commanding S) (e : BotError) → c ≡ c' → b ≡ b' → CommandFails k c b old new e → CommandFails k c' b' old new e
same-fails k c c' b b' old new e command buffer fails =
    subst (λ (x : Command). CommandFails k x b' old new e) command (subst (λ (x : BufferState). CommandFails k c x old new e) buffer fails)

pub write-fails : {S : Type 0} (k : BusCalls S) (block : ℕ) (bytes : List ℕ) (old new : Commanding S) (e : BotError) → CommandFails k (next_command Write block (length bytes / 512) old.client) (sends bytes) old new e → WriteFails k block bytes old new e
write-fails k block bytes old new e (inl is) = inl (ap written is)
write-fails k block bytes old new e (inr lacks) = inr lacks
