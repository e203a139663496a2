-- A session by its parts.
use Rattle.std.specs.Prelude.{ℕ, List, Option}
use Rattle.usb_enum_sysfs.specs.Tree.{Tree}
use Rattle.usb_enum.specs.declared.hotplug.UdevPacket.{UdevPacket}
use Rattle.usb_device_endpoint.specs.EndpointState.{EndpointState}
use Rattle.usb_device_host.specs.HostState.{HostState}
use Rattle.usb_device_host.specs.HandleStates.{InterfaceState}
use Rattle.usb_device.specs.Futures.{FutureState}
use Rattle.usb_io.specs.Readers.{ReaderState}
use Rattle.usb_io.specs.Writers.{WriterState}
use Rattle.usb_msg.specs.Clients.{ClientState}
use Rattle.usb_session_calls.specs.SessionState.{SessionState}

abbrev pub session_made : Tree → List UdevPacket → HostState → List (Option ℕ) →
    List (Option InterfaceState) → List (Option EndpointState) → List (Option ReaderState) →
    List (Option WriterState) → List (Option ClientState) → List (Option FutureState) → SessionState
session_made tree packets host devices interfaces endpoints readers writers clients futures =
    record {
      host = host;
      devices = devices;
      interfaces = interfaces;
      endpoints = endpoints;
      readers = readers;
      writers = writers;
      clients = clients;
      futures = futures;
      tree = tree;
      packets = packets;
    }
