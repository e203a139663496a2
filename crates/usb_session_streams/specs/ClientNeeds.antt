-- When a call on a client of messages is barred.
use Rattle.std.specs.Prelude.{ℕ, ◌+◌, ◌-◌, ◌^◌, ◌||◌, nat_le, nat_lt, Bool, true, List, length}
use Rattle.usb_device_host.specs.HostState.{HostState}
use Rattle.usb_msg.specs.Clients.{ClientState, request_need}
use Rattle.usb_msg.specs.Requests.{Messaging}
use Rattle.usb_session_streams.specs.Needs.{bars_need}
use Rattle.usb_session_streams.specs.ReadNeeds.{read_need}

-- a body is too long for a frame, too many responses are to come, or no tag is left
abbrev pub bars_body : List ℕ → ClientState → Bool
bars_body body c =
    nat_lt 4096 (length body)
    || (nat_le 16 (c.requests - c.responses) || nat_le (2 ^ 32 - 1) c.requests)

-- or a request with it may need too many submissions
abbrev pub bars_request : List ℕ → Messaging HostState → Bool
bars_request body w =
    let e = w.client.writer.endpoint in
    bars_body body w.client
    || bars_need w.bus.kernel.past (length e.pending) (request_need e.maximum (4 + length body))

-- no response is to come, or the reads of one may need too many
abbrev pub bars_response : Messaging HostState → Bool
bars_response w =
    let r = w.client.reader in
    nat_le w.client.requests w.client.responses
    || bars_need w.bus.kernel.past (length r.endpoint.pending) (read_need true r)
