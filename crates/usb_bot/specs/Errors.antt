-- Why a command failed, as text, and what that does to the client.
use Rattle.std.specs.Prelude.{ℕ, List, ◌++◌, codes, decimal, Option, Some, None, Result, Ok, Err}
use Rattle.usb_xfer.specs.TransferTexts.{transfer_error_text}
use Rattle.usb_bot.specs.declared.error.BotError.{BotError}
use Rattle.usb_bot.specs.declared.error.BotError.TheVariants as error

-- each error breaks a client, but that its command failed: the device has ended that command in order
-- (Bulk-Only Transport, section 6.6)
abbrev pub breaks : {A : Type 0} → Result A BotError → Option BotError
breaks (Ok done) = None
breaks (Err (error.Failed residue)) = None
breaks (Err e) = Some e

-- what an error prints
abbrev pub command_error_text : BotError → List ℕ
command_error_text (error.Transfer e) = transfer_error_text e
command_error_text error.BadStatus = codes "status is none of the command"
command_error_text (error.Failed residue) = codes "command failed with " ++ decimal residue ++ codes " bytes not moved"
command_error_text error.Phase = codes "device has a phase error"
command_error_text (error.Length got residue) = codes "command moved " ++ (decimal got ++ (codes " bytes and left a residue of " ++ decimal residue))
command_error_text error.Memory = codes "out of memory"
