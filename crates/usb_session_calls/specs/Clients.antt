-- `msg` and `close` of a client of messages. `close` is barred where it is not open, and `msg` where its name is in use, or where
-- an endpoint is not open, has not its direction, or has a transfer pending.
use Rattle.std.specs.Prelude.{ℕ, ◌==◌, ◌&&◌, Bool, [], length, Option, Some, None, if◌then◌else◌}
use Rattle.usb_desc.specs.declared.types.Direction.{Direction}
use Rattle.usb_desc.specs.declared.types.Direction.TheVariants.{In, Out}
use Rattle.usb_device_endpoint.specs.EndpointState.{EndpointState}
use Rattle.usb_device_endpoint.specs.Closes.{after_close}
use Rattle.usb_device_host.specs.HostCalls.{host_calls}
use Rattle.usb_msg.specs.Clients.{fresh_client}
use Rattle.usb_session_calls.specs.Names.{named, is_free, freed, set_name}
use Rattle.usb_session_calls.specs.State.{State, Endpoint, Client}
use Rattle.usb_session_calls.specs.Answer.{Answer, condition_answer, ok_answer, if_open}
use Rattle.usb_session_calls.specs.Submits.{has_direction}

-- whether an endpoint has this direction, and nothing is pending at it
abbrev pub is_idle : Direction → EndpointState → Bool
is_idle direction h = has_direction direction h && length h.pending == 0

-- a client of two endpoints that took nothing, and asked and answered nothing
abbrev pub new_client : Endpoint → Endpoint → Client
new_client out inp =
    record {
      state = fresh_client out.state inp.state;
      before_out = out.taken;
      sent = [];
      before_in = inp.taken;
      received = [];
      requests = [];
      responses = [];
    }

-- the endpoints of the names a and b become a client's, and these names are free
abbrev pub with_client : State → ℕ → ℕ → ℕ → Endpoint → Endpoint → State
with_client state m a b out inp =
    record state {
      endpoints = freed (freed state.endpoints a) b;
      clients = set_name state.clients m (new_client out inp);
    }

-- of two endpoints that are open
abbrev pub client_on : State → ℕ → ℕ → ℕ → Endpoint → Endpoint → Answer
client_on state m a b out inp =
    if is_free state.clients m && (is_idle Out out.state && is_idle In inp.state)
    then ok_answer (with_client state m a b out inp) else condition_answer state

-- `msg`: a client is made of an OUT and an IN endpoint
unfoldable pub client_answer : State → ℕ → ℕ → ℕ → Answer
client_answer state m a b =
    if_open (named state.endpoints a)
    (λ out. if_open (named state.endpoints b) (client_on state m a b out) (condition_answer state))
    (condition_answer state)

-- a client is closed as its writer's endpoint is, and then its reader's, and its name is free
abbrev pub closed_client : State → ℕ → Client → State
closed_client state m x =
    let host = after_close host_calls state.host x.state.writer.endpoint in
    record state {
      host = after_close host_calls host x.state.reader.endpoint;
      clients = freed state.clients m;
    }

-- `close`
unfoldable pub close_client_answer : State → ℕ → Answer
close_client_answer state m =
    if_open (named state.clients m) (λ x. ok_answer (closed_client state m x)) (condition_answer state)

-- what is open under a name is closed, if anything is
abbrev pub client_closed_at : State → ℕ → Option Client → State
client_closed_at state m None = state
client_closed_at state m (Some x) = closed_client state m x

-- the same, with the name looked up
unfoldable pub client_closed : State → ℕ → State
client_closed state m = client_closed_at state m (named state.clients m)
