-- Of which state of the definitions a session is what the code keeps.
use Rattle.std.specs.Prelude.{◌≡◌, map}
use Rattle.std.specs.Option.{option_map}
use Rattle.usb_session_calls.specs.SessionState.{SessionState}
use Rattle.usb_session_calls.specs.State.{State, Endpoint, Reader, Writer, Client}

-- what a session keeps of a state: endpoints, readers, writers and clients as their calls see them
abbrev pub session_of : State → SessionState
session_of state =
    record {
      host = state.host;
      devices = state.devices;
      interfaces = state.interfaces;
      endpoints = map (option_map (λ (x : Endpoint). x.state)) state.endpoints;
      readers = map (option_map (λ (x : Reader). x.state)) state.readers;
      writers = map (option_map (λ (x : Writer). x.state)) state.writers;
      clients = map (option_map (λ (x : Client). x.state)) state.clients;
      futures = state.futures;
      tree = state.tree;
      packets = state.packets;
    }

-- a session stands for a state
abbrev pub Represents : SessionState → State → Type 0
Represents s state = s ≡ session_of state
