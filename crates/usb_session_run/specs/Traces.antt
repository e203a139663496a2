-- What the program answers to the word `trace`.
use Rattle.std.specs.Prelude.{ℕ, Bool, false, List, [], ◌∷◌, codes, Result, Ok, Err}
use Rattle.std.specs.Str.{bytes_eq}
use Rattle.std.specs.declared.option.Option.{Option}
use Rattle.std.specs.Io.KnownBytes.{Appends, Keeps}
use Rattle.usb_script_lines.specs.declared.item.Item.{Item}
use Rattle.usb_script.specs.declared.error.SessionError.{SessionError}
use Rattle.usb_script.specs.declared.error.SessionError.TheVariants.{Malformed, TooLong, ReadFault, WriteFault, Memory}
use Rattle.usb_session.specs.Output.{final_host}
use Rattle.usb_trace_lines.specs.Texts.{trace}
use Rattle.usb_trace.specs.Verdicts.{IsTrace}
use Rattle.usb_session_run.specs.Causes.{Rose, TookTooMany, WrotePart}
use Rattle.usb_session_run.specs.Session.{Streams, ReadAs}

-- whether the words ask for a trace: there is `trace` alone
abbrev pub is_trace : List (List ℕ) → Bool
is_trace [] = false
is_trace (word ∷ []) = bytes_eq word (codes "trace")
is_trace (word ∷ next ∷ words) = false

-- the trace of a script's run: that of the last journal
abbrev pub script_trace : List Item → List ℕ
script_trace items = trace (final_host items).kernel.past

-- a valid script was read, and its whole trace was written
pub record IsTraced (old new : Streams) : Type 0 where
  pub items : List Item
  pub script : ReadAs old new (Ok items)
  pub wrote : Appends old.written new.written (script_trace items)

-- a valid script was read, and a part of its trace was written, and not all
pub record IsCutTrace (old new : Streams) : Type 0 where
  pub items : List Item
  pub script : ReadAs old new (Ok items)
  pub wrote : WrotePart old.written new.written (script_trace items)

-- why there is no trace, and what was written: nothing, but where writing failed
abbrev pub IsUntraced : Streams → Streams → SessionError → Type 0
IsUntraced old new (Malformed line) = ReadAs old new (Err (Malformed line)) × Keeps old.written new.written
IsUntraced old new TooLong = TookTooMany 1048576 old.left new.left × Keeps old.written new.written
IsUntraced old new ReadFault = Rose old.read_faults new.read_faults × Keeps old.written new.written
IsUntraced old new WriteFault = Rose old.write_faults new.write_faults × IsCutTrace old new
IsUntraced old new Memory = Keeps old.written new.written

-- a run for its trace that gave this answer
abbrev pub IsTracing : Streams → Streams → Result (Unit {0}) SessionError → Type 0
IsTracing old new (Ok done) = IsTraced old new
IsTracing old new (Err e) = IsUntraced old new e

-- what was written is the trace of a journal in which each event acts
pub record WroteTrace (old new : Option (List ℕ)) : Type 0 where
  pub text : List ℕ
  pub right : IsTrace text
  pub wrote : Appends old new text
