-- The tickets of a journal. A journal is read from its latest event: in `event ∷ before`, `before` are the events before it.
use Rattle.std.specs.Prelude.{ℕ, Bool, true, false, List, [], ◌∷◌, ◌++◌, Option, None}
use Rattle.usb_kernel.specs.declared.event.Event.{Event}
use Rattle.usb_kernel.specs.declared.event.Event.TheVariants.{Submit, Refuse}
use Rattle.usb_kernel.specs.declared.event.Body.{Body}

-- what was submitted, refused or not: where it goes, the maximum packet size, how many bytes are wanted or which are sent (`Body`:
-- src/event.rt), and the capacity of its buffer. A refused ticket has no deadline
pub record Ticket : Type 0 where
  pub device : ℕ
  pub endpoint : ℕ
  pub maximum : ℕ
  pub body : Body
  pub capacity : ℕ
  pub refused : Bool
  pub deadline : Option ℕ

-- the tickets in the order of their numbers: each submission, refused or not, gets the next number from 0
abbrev pub tickets : List Event → List Ticket
tickets [] = []
tickets (Submit t d e m body room deadline ∷ before) =
    tickets before ++ record { device = d; endpoint = e; maximum = m; body = body; capacity = room; refused = false; deadline = deadline } ∷ []
tickets (Refuse t d e m body room errno ∷ before) =
    tickets before ++ record { device = d; endpoint = e; maximum = m; body = body; capacity = room; refused = true; deadline = None } ∷ []
tickets (_ ∷ before) = tickets before
