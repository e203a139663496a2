-- What the tickets of a client of messages at a host say of its requests and responses.
use Rattle.std.specs.Prelude.{ℕ, ◌≡◌, ◌≤◌, ◌<◌, ◌-◌, false, List, [], ◌++◌, length}
use Rattle.usb_kernel.specs.declared.event.Event.{Event}
use Rattle.usb_kernel.specs.Extends.{Extends}
use Rattle.usb_kernel.specs.Legal.{IsLawful}
use Rattle.usb_kernel.specs.Tickets.{tickets}
use Rattle.usb_device_endpoint.specs.EndpointState.{EndpointState}
use Rattle.usb_device_host.specs.HostState.{HostState}
use Rattle.usb_msg.specs.Clients.{ClientState, IsClient, fresh_client}
use Rattle.usb_msg.specs.Requests.{Messaging}
use Rattle.usb_msg.specs.Histories.{ClientHistory, Keeps}
use Rattle.usb_session_streams.specs.Numbers.{numbers_from}
use Rattle.usb_session_streams.specs.ClientCalls.{ClientCall, Request, Response, left_by_client, bars_client, asked_by, told_by}

-- what is true of each client: its endpoints are an OUT and an IN endpoint, and it has room for a
-- byte more than a frame
pub record IsMessaging (c : ClientState) : Type 0 where
  pub out : c.writer.endpoint.address < 128
  pub inp : 128 ≤ c.reader.endpoint.address
  pub client : IsClient c.writer c.reader c.requests c.responses 4101 (length c.frame) c.ended

-- its tickets say what it did: it took these of its writer's endpoint (sent) and these of its
-- reader's (received), and these bodies were asked and these told
pub record KeepsTaking (past : List Event) (c : ClientState) (sent received : List ℕ)
    (asked told : List (List ℕ)) : Type 0 where
  pub is : IsMessaging c
  pub history : ClientHistory
  pub sent_is : history.written.taken ≡ sent
  pub received_is : history.read.taken ≡ received
  pub asked_is : history.requests ≡ asked
  pub told_is : history.responses ≡ told
  pub keeps : Keeps past c history

-- a new client over endpoints with nothing pending did nothing
abbrev pub FreshClientsKeep : Type 0
FreshClientsKeep =
    (past : List Event) (out inp : EndpointState) → out.pending ≡ [] → inp.pending ≡ [] →
    out.address < 128 → 128 ≤ inp.address → 0 < out.maximum →
    KeepsTaking past (fresh_client out inp) [] [] [] []

-- whatever comes
abbrev pub LaterClientsKeep : Type 0
LaterClientsKeep =
    (old new : List Event) (c : ClientState) (sent received : List ℕ)
    (asked told : List (List ℕ)) → Extends old new →
    KeepsTaking old c sent received asked told → KeepsTaking new c sent received asked told

-- the endpoint that a call is on
abbrev pub called_endpoint : ClientCall → ClientState → EndpointState
called_endpoint (Request body) c = c.writer.endpoint
called_endpoint Response c = c.reader.endpoint

-- a client that took these tickets more of that one
abbrev pub KeepsTakingMore : ClientCall → Messaging HostState → List ℕ → List ℕ → List ℕ →
    List (List ℕ) → List (List ℕ) → Type 0
KeepsTakingMore (Request body) w taken sent received asked told =
    KeepsTaking w.bus.kernel.past w.client (sent ++ taken) received asked told
KeepsTakingMore Response w taken sent received asked told =
    KeepsTaking w.bus.kernel.past w.client sent (received ++ taken) asked told

-- how many tickets there are
abbrev pub count_at : Messaging HostState → ℕ
count_at w = length (tickets w.bus.kernel.past)

-- of the tickets that were pending at the endpoint that a call is on, and then those that came to
-- the journal, the first were taken and the others are pending; and with those that were taken the
-- tickets say what the client did, with all these bodies asked and told
pub record TakesOn (call : ClientCall) (old new : Messaging HostState) (sent received : List ℕ)
    (asked told : List (List ℕ)) : Type 0 where
  pub taken : List ℕ
  pub tickets : taken ++ (called_endpoint call new.client).pending
      ≡ (called_endpoint call old.client).pending
      ++ numbers_from (count_at old) (count_at new - count_at old)
  pub keeps : KeepsTakingMore call new taken sent received asked told

-- so it is of each call that is not barred, with what it asked and told behind what was before,
-- where the journal behind it is lawful
abbrev pub ClientCallsKeep : Type 0
ClientCallsKeep =
    (call : ClientCall) (w : Messaging HostState) (sent received : List ℕ)
    (asked told : List (List ℕ)) → bars_client call w ≡ false →
    IsLawful (left_by_client call w).bus.kernel.past →
    KeepsTaking w.bus.kernel.past w.client sent received asked told →
    TakesOn call w (left_by_client call w) sent received (asked ++ asked_by call w)
    (told ++ told_by call w)
