-- What a line of a writer prints, and what it leaves of the host and the writer.
use Rattle.std.specs.Prelude.{ℕ, ◌≡◌, ◌++◌, Bool, true, false, List, Result, Ok, Err, OnOk, String, string_bytes}
use Rattle.std.specs.declared.alloc.Global.{Global}
use Rattle.usb_kernel.specs.Extends.{Extends}
use Rattle.usb_device_endpoint.specs.Handles.{Stands, KeepsOthers}
use Rattle.usb_device_host.specs.HostState.{HostState}
use Rattle.usb_device_host.specs.HostBus.{bus_of}
use Rattle.usb_device_host.specs.HostFrames.{LineGoesOn}
use Rattle.usb_io.specs.Writers.{Writing, KeepsWriter}
use Rattle.usb_io.specs.declared.fault.WriteFault.{WriteFault}
use Rattle.usb_io.specs.declared.fault.WriteFault.TheVariants.{TimedOut}
use Rattle.usb_io.specs.Answered.{Answered, answered}
use Rattle.usb_session_text.specs.Calls.{ok_line, condition_line}
use Rattle.usb_session_text.specs.Controls.{pending_line}
use Rattle.usb_session_streams.specs.Accounts.{KeepsAccountsOf}
use Rattle.usb_session_streams.specs.Faults.{write_fault_line}
use Rattle.usb_session_streams.specs.Writes.{wrote_line}

-- how many bytes a write accepted, or why it accepted none
abbrev pub written_line : Result ℕ WriteFault → List ℕ
written_line (Ok count) = wrote_line count
written_line (Err fault) = write_fault_line fault

-- that a call is done that gives no value, or why it failed
abbrev pub flushed_line : Result (Unit {0}) WriteFault → List ℕ
flushed_line (Ok done) = ok_line
flushed_line (Err fault) = write_fault_line fault

-- a poll is pending where the time was up
abbrev pub poll_line : {A : Type 0} → (Result A WriteFault → List ℕ) → Result A WriteFault → List ℕ
poll_line line (Err TimedOut) = pending_line
poll_line line answer = line answer

-- a submission that has its memory does not fail
abbrev pub submitted_to : Writing HostState → Answered (Unit {0}) WriteFault (Writing HostState)
submitted_to left = answered (Ok tt) left

-- a barred call changed nothing; any other printed its line, and left host and writer so
abbrev pub CameTo : Bool → List ℕ → Writing HostState → List ℕ → List ℕ → Writing HostState →
    Writing HostState → Type 0
CameTo true line left before after old new = (after ≡ before ++ condition_line) × (new ≡ old)
CameTo false line left before after old new = (after ≡ before ++ line) × (new ≡ left)

-- so is it of a call that answers so; of want of memory nothing is said
abbrev pub Prints : {A E : Type 0} → Bool → (Result A WriteFault → List ℕ) →
    Answered A WriteFault (Writing HostState) →
    String Global → String Global → Writing HostState → Writing HostState → Result Unit E → Type 0
Prints barred line a before after old new result =
    OnOk result
    (CameTo barred (line a.answer) a.left (string_bytes before) (string_bytes after) old new)

-- what is open stays open, steps are taken from the front of the line alone, the journal goes on,
-- the writer keeps its settings and stands under its key, what endpoints of other keys hold has not
-- ended, and the accounts are kept
pub record CallKeeps (old new : Writing HostState) : Type 0 where
  pub line : LineGoesOn old.bus new.bus
  pub past : Extends old.bus.kernel.past new.bus.kernel.past
  pub settings : KeepsWriter old.writer new.writer
  pub stands : Stands (bus_of new.bus) new.writer.endpoint
  pub others : KeepsOthers (bus_of old.bus) (bus_of new.bus) old.writer.endpoint.key
  pub accounts : KeepsAccountsOf old.bus new.bus old.writer.endpoint.key
      old.writer.endpoint.pending new.writer.endpoint.pending
