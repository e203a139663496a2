-- What a status says of its command: Bulk-Only Transport, sections 5.2 and 6.3.
use Rattle.std.specs.Prelude.{ℕ, Bool, List, Option, Some, None, ◌==◌, ◌&&◌, nat_lt, not, if◌then◌else◌}
use Rattle.usb_bot.specs.declared.error.BotError.{BotError}
use Rattle.usb_bot.specs.declared.error.BotError.TheVariants as error
use Rattle.usb_bot.specs.declared.wrapper.Command.{Command}
use Rattle.usb_bot.specs.declared.wrapper.Status.{Status}
use Rattle.usb_bot.specs.Wrappers.{data_length, status_in}

-- all data of a command moved: so many bytes as it asked for went over, and the device counts none
-- that did not
abbrev pub is_all : Command → ℕ → Status → Bool
is_all c moved s = moved == data_length c && s.residue == 0

-- the error that a status (s) is to its command (c), of whose data so many bytes moved. The first
-- that fits counts
abbrev pub error_by : Command → ℕ → Status → Option BotError
error_by c moved s =
    if not (s.tag == c.tag) then Some error.BadStatus
    else if nat_lt 2 s.outcome then Some error.BadStatus
    else if s.outcome == 1 then Some (error.Failed s.residue)
    else if s.outcome == 2 then Some error.Phase
    else if is_all c moved s then None
    else Some (error.Length moved s.residue)

abbrev pub error_of : Command → ℕ → Option Status → Option BotError
error_of c moved None = Some error.BadStatus
error_of c moved (Some s) = error_by c moved s

-- the error that the bytes of a status are
abbrev pub status_error : Command → ℕ → List ℕ → Option BotError
status_error c moved bytes = error_of c moved (status_in bytes)
