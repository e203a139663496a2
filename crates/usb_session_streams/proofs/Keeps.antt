-- What a call on a writer keeps, by what its own clauses and the laws of calls at a host say.
use Rattle.usb_device_endpoint.specs.Handles.{Stands}
use Rattle.usb_device_host.specs.HostState.{HostState}
use Rattle.usb_device_host.specs.HostBus.{bus_of}
use Rattle.usb_io.specs.Along.{WritesAlong}
use Rattle.usb_io.specs.Writers.{Writing}
use Rattle.usb_session_streams.specs.WriterCalls.{WriterGoesOn}
use Rattle.usb_session_streams.specs.Printed.{CallKeeps}

pub call_keeps : (old new : Writing HostState) → Stands (bus_of old.bus) old.writer.endpoint → WriterGoesOn old new → WritesAlong (bus_of old.bus) (bus_of new.bus) old.writer.endpoint new.writer.endpoint → CallKeeps old new
call_keeps old new was goes along =
    record {
      line = goes.line;
      past = goes.past;
      settings = goes.settings;
      stands = along.stands;
      others = along.others;
      accounts = goes.accounts was.key_is_open;
    }
