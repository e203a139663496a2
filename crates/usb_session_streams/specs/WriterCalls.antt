-- What each call on a writer at a host keeps.
use Rattle.std.specs.Prelude.{◌≡◌, true}
use Rattle.usb_kernel.specs.Extends.{Extends}
use Rattle.usb_device_host.specs.HostState.{HostState}
use Rattle.usb_device_host.specs.HostBus.{key_at}
use Rattle.usb_device_host.specs.HostFrames.{LineGoesOn}
use Rattle.usb_io.specs.Writers.{Writing, KeepsWriter}
use Rattle.usb_session_streams.specs.Accounts.{KeepsAccountsOf}
use Rattle.usb_session_streams.specs.Told.{WriterCall, left_by}

-- steps were taken from the front of the line alone, and what is open stays open; the journal went
-- on; the writer has the same endpoint, with other tickets pending, and the same settings; and while
-- that is open the accounts are kept
pub record WriterGoesOn (old new : Writing HostState) : Type 0 where
  pub line : LineGoesOn old.bus new.bus
  pub past : Extends old.bus.kernel.past new.bus.kernel.past
  pub settings : KeepsWriter old.writer new.writer
  pub accounts : key_at old.bus.endpoints old.writer.endpoint.key ≡ true →
      KeepsAccountsOf old.bus new.bus old.writer.endpoint.key old.writer.endpoint.pending
      new.writer.endpoint.pending

abbrev pub WriterCallsGoOn : Type 0
WriterCallsGoOn = (call : WriterCall) (w : Writing HostState) → WriterGoesOn w (left_by call w)
