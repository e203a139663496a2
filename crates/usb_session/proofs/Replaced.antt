-- Sessions in which another endpoint, reader or writer is open under one name, or none any more.
use Rattle.std.proofs.Common.{◌≡◌, ℕ, List, Option, Some, refl}
use Rattle.std.specs.Option.{option_map}
use Rattle.usb_device_endpoint.specs.EndpointState.{EndpointState}
use Rattle.usb_io.specs.Readers.{ReaderState}
use Rattle.usb_io.specs.Writers.{WriterState}
use Rattle.usb_msg.specs.Clients.{ClientState}
use Rattle.usb_session_calls.specs.Names.{named, change_named}
use Rattle.usb_session_calls.specs.declared.call.ClientCall.{ClientCall}
use Rattle.usb_session_calls.specs.ClientCalls.{called_endpoint, other_endpoint}
use Rattle.usb_session_calls.specs.EndpointNames.{EndpointName, Own, OfReader, OfWriter}
use Rattle.usb_session_calls.specs.SessionState.{SessionState, open_under}
use Rattle.usb_session_calls.proofs.Called.{SameCounts, with_open, own-open, reader-open, writer-open}
use Rattle.usb_session_calls.proofs.EndpointNameLemmas.{Changed, ChangedAt}
use Rattle.usb_session_calls.proofs.NameLemmas.{length-change_named}
use Rattle.usb_session_calls.proofs.ClientNames.{called_name, called-changes}

-- the endpoint of a reader and of a writer, and those of a client
abbrev pub reader_endpoint : ReaderState → EndpointState
reader_endpoint x = x.endpoint

abbrev pub writer_endpoint : WriterState → EndpointState
writer_endpoint x = x.endpoint

abbrev pub client_writer_endpoint : ClientState → EndpointState
client_writer_endpoint x = x.writer.endpoint

abbrev pub client_reader_endpoint : ClientState → EndpointState
client_reader_endpoint x = x.reader.endpoint

-- there are as many names as before, and under this one there is o
pub record Replaces (s : SessionState) (es : List (Option EndpointState)) (rs : List (Option ReaderState)) (ws : List (Option WriterState)) (cs : List (Option ClientState)) (e : EndpointName) (o : Option EndpointState) : Type 0 where
  pub counts : SameCounts s es rs ws cs
  pub changed : Changed (open_under s) (open_under (with_open s s.host es rs ws cs)) e o

module _ (s : SessionState) (n : ℕ) where
  pub own-replaces : (after : List (Option EndpointState)) (o : Option EndpointState) → ChangedAt s.endpoints after n o → Replaces s after s.readers s.writers s.clients (Own n) o
  own-replaces after o change =
      record {
        counts = record { endpoints = change.length; readers = refl; writers = refl; clients = refl };
        changed = own-open s s.host n after o change;
      }

  pub reader-replaces : (after : List (Option ReaderState)) (o : Option ReaderState) → ChangedAt s.readers after n o → Replaces s s.endpoints after s.writers s.clients (OfReader n) (option_map reader_endpoint o)
  reader-replaces after o change =
      record {
        counts = record { endpoints = refl; readers = change.length; writers = refl; clients = refl };
        changed = reader-open s s.host n after o change;
      }

  pub writer-replaces : (after : List (Option WriterState)) (o : Option WriterState) → ChangedAt s.writers after n o → Replaces s s.endpoints s.readers after s.clients (OfWriter n) (option_map writer_endpoint o)
  writer-replaces after o change =
      record {
        counts = record { endpoints = refl; readers = refl; writers = change.length; clients = refl };
        changed = writer-open s s.host n after o change;
      }

-- or another client, one of whose endpoints was called
module _ (s : SessionState) (n : ℕ) (x y : ClientState) (was : named s.clients n ≡ Some x) (call : ClientCall) (same : other_endpoint call y ≡ other_endpoint call x) where
  pub client-replaces : Replaces s s.endpoints s.readers s.writers (change_named (λ z. y) s.clients n) (called_name call n) (Some (called_endpoint call y))
  client-replaces =
      record {
        counts = record { endpoints = refl; readers = refl; writers = refl; clients = length-change_named (λ z. y) s.clients n };
        changed = called-changes s s.host n x y was call same;
      }
