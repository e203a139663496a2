-- The names under which endpoints are open: their own, or that of the reader, the writer or the client that holds them.
use Rattle.std.specs.Prelude.{ℕ, List, Option}
use Rattle.std.specs.Option.{option_map}
use Rattle.usb_session_calls.specs.Names.{named}
use Rattle.usb_session_calls.specs.State.{State, Endpoint, endpoint_of_reader, endpoint_of_writer, endpoint_of_client_writer, endpoint_of_client_reader}

-- a client has two: that of its writer, and that of its reader
pub data EndpointName : Type 0 where
  Own : ℕ → EndpointName
  OfReader : ℕ → EndpointName
  OfWriter : ℕ → EndpointName
  OfClientWriter : ℕ → EndpointName
  OfClientReader : ℕ → EndpointName

-- what is open under a name, by the endpoints, readers, writers and clients that are, and what each of the latter holds
abbrev pub held_under : {E R W C : Type 0} → (R → E) → (W → E) → (C → E) → (C → E) → List (Option E) → List (Option R) → List (Option W) → List (Option C) → EndpointName → Option E
held_under of_reader of_writer of_client_writer of_client_reader endpoints readers writers clients (Own e) = named endpoints e
held_under of_reader of_writer of_client_writer of_client_reader endpoints readers writers clients (OfReader r) = option_map of_reader (named readers r)
held_under of_reader of_writer of_client_writer of_client_reader endpoints readers writers clients (OfWriter w) = option_map of_writer (named writers w)
held_under of_reader of_writer of_client_writer of_client_reader endpoints readers writers clients (OfClientWriter m) = option_map of_client_writer (named clients m)
held_under of_reader of_writer of_client_writer of_client_reader endpoints readers writers clients (OfClientReader m) = option_map of_client_reader (named clients m)

-- the endpoint that is open under a name
abbrev pub endpoint_under : State → EndpointName → Option Endpoint
endpoint_under state =
    held_under endpoint_of_reader endpoint_of_writer endpoint_of_client_writer endpoint_of_client_reader
    state.endpoints state.readers state.writers state.clients
