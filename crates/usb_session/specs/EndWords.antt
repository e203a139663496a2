-- The word for an end.
use Rattle.std.specs.Prelude.{ℕ, List, [], Option, Some, None}
use Rattle.usb_device_ledger.specs.declared.ends.TicketEnd.{TicketEnd}
use Rattle.usb_session.specs.Fates.{end_word}

-- of a ticket that may have none
abbrev pub word_of : Option TicketEnd → List ℕ
word_of None = []
word_of (Some end) = end_word end
