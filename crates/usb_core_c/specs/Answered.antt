-- What a whole script comes to, as a caller in C sees it.
use Rattle.std.specs.Prelude.{ℕ, ◌≡◌, ◌<◌, ◌⊎◌, List, length, take, Ok, Err, Some}
use Rattle.usb_script_lines.specs.declared.item.Item.{Item}
use Rattle.usb_script.specs.declared.error.SessionError.{SessionError}
use Rattle.usb_script.specs.declared.error.SessionError.TheVariants.{Malformed, TooLong, ReadFault, WriteFault, Memory}
use Rattle.usb_script.specs.Parse.{script_of}
use Rattle.usb_session.specs.Output.{output}
use Rattle.usb_session.specs.Sums.{sum_of}
use Rattle.usb_session.specs.declared.summary.Summary.{Summary}
use Rattle.usb_session_run.specs.Session.{Streams, IsAnswered}
use Rattle.usb_core_c.specs.declared.session.Told.{Told}

-- a script is valid, these bytes are its whole output, and the summary is its sum; and all is so that a session promises which reads the
-- script from a source and writes these bytes to a sink
pub record IsAnswer (script bytes : List ℕ) (summary : Summary) : Type 0 where
  pub items : List Item
  pub valid : script_of script ≡ Ok items
  pub output_is : bytes ≡ output items
  pub summed : summary ≡ sum_of items
  pub before : Streams
  pub after : Streams
  pub given : before.left ≡ Some script
  pub written : after.written ≡ Some bytes
  pub answered : IsAnswered before after summary

-- why a script in memory is not answered: it does not parse, or memory was lacking
abbrev pub IsRefusal : List ℕ → SessionError → Type 0
IsRefusal script (Malformed line) = script_of script ≡ Err (Malformed line)
IsRefusal script TooLong = script_of script ≡ Err TooLong
IsRefusal script ReadFault = ⊥
IsRefusal script WriteFault = Unit {0}
IsRefusal script Memory = Unit {0}

-- the counts of a session
abbrev pub summary_of : Told → Summary
summary_of told =
    record {
      calls = told.calls;
      tickets = told.tickets;
      taken = told.taken;
      dropped = told.dropped;
      reclaimed = told.reclaimed;
    }

-- a valid script, whose whole output stands at the front of these bytes
abbrev pub IsWhole : List ℕ → List ℕ → Told → Type 0
IsWhole script out told = IsAnswer script (take told.len out) (summary_of told)

-- a valid script, whose output has so many bytes, more than there is room for
pub record IsLonger (script : List ℕ) (room len : ℕ) : Type 0 where
  pub items : List Item
  pub valid : script_of script ≡ Ok items
  pub count : len ≡ length (output items)
  pub longer : room < len

-- answered, malformed, too long, longer than the room, or without memory
abbrev pub IsStatus : ℕ → Type 0
IsStatus status = (status ≡ 0) ⊎ (status ≡ 3) ⊎ (status ≡ 4) ⊎ (status ≡ 6) ⊎ (status ≡ 7)
