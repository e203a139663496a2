-- What a call on a client of messages at a host leaves, whatever it answered.
use Rattle.std.proofs.Common.{◌≡◌, ℕ, true, List, [], ◌∷◌, Result, Ok, Err, refl, ap, sym, subst, inl, inr}
use Rattle.std.specs.Prelude.{IfOk, IfErr}
use Rattle.usb_desc.specs.declared.error.Fail.TheVariants as fail
use Rattle.usb_device_endpoint.proofs.Frames.{others-same}
use Rattle.usb_device_host.specs.HostState.{HostState}
use Rattle.usb_device_host.specs.HostBus.{bus_of}
use Rattle.usb_device_host.specs.HostCalls.{host_calls}
use Rattle.usb_io.specs.Along.{ReadsAlong, WritesAlong}
use Rattle.usb_io.specs.Answered.{Answered, answered}
use Rattle.usb_io.specs.Writers.{Writing}
use Rattle.usb_io.specs.declared.fault.ReadFault.{ReadFault}
use Rattle.usb_io.specs.declared.fault.WriteFault.{WriteFault}
use Rattle.usb_msg.specs.Clients.{StandBoth}
use Rattle.usb_msg.specs.Frames.{framed}
use Rattle.usb_msg.specs.Requests.{Messaging, Message, writing_of, requested, FrameShort, FrameEndShort, RequestShort, RequestFails}
use Rattle.usb_msg.specs.Responses.{reading_of, responded, PiecesRead, PieceShort, ResponseShort, ResponseFails}
use Rattle.usb_msg.specs.declared.error.MsgError.{MsgError}
use Rattle.usb_msg.proofs.Responding.{gathered-keeps}
use Rattle.usb_msg.proofs.Standing.{both-written, both-read}
use Rattle.usb_session_streams.specs.WriterCalls.{WriterGoesOn}
use Rattle.usb_session_streams.specs.ClientCalls.{Request, Response, ClientGoesOn}
use Rattle.usb_session_streams.specs.Clients.{ClientKeeps}
use Rattle.usb_session_streams.proofs.ClientsGoOn.{start-goes, piece-goes, client_calls-go_on}
use Rattle.usb_session_streams.proofs.ReadsGoOn.{read-goes, call-trans as read-trans}
use Rattle.usb_session_streams.proofs.WritesGoOn.{call-same, call-trans, write_goes_on}
use Rattle.usb_session_streams.proofs.WritesLeave.{call-write_short, call-end_short}

-- a request
module _ (body : List ℕ) (old new : Messaging HostState) where
  requested-goes : (r : Result ℕ MsgError) → requested host_calls body old ≡ answered r new → ClientGoesOn (Request body) old new
  requested-goes r is = subst (λ (a : Message ℕ HostState). ClientGoesOn (Request body) old a.left) is (client_calls-go_on (Request body) old)

  frame-goes : FrameShort host_calls body old new → ClientGoesOn (Request body) old new
  frame-goes lacks =
      subst (ClientGoesOn (Request body) old) (sym lacks.left)
      (refl, call-write_short old.client.writer.timeout (framed old.client.requests body) (writing_of old) lacks.mid lacks.short)

  end-goes : FrameEndShort host_calls body old new → ClientGoesOn (Request body) old new
  end-goes lacks =
      let c = old.client in
      let wrote = subst (λ (a : Answered ℕ WriteFault (Writing HostState)). WriterGoesOn (writing_of old) a.left) lacks.written (write_goes_on c.writer.timeout (framed c.requests body) (writing_of old)) in
      subst (ClientGoesOn (Request body) old) (sym lacks.left) (refl, call-trans (writing_of old) lacks.mid lacks.end wrote (call-end_short lacks.mid lacks.end lacks.short))

  request-lacks : RequestShort host_calls body old new → ClientGoesOn (Request body) old new
  request-lacks (inl same) = subst (ClientGoesOn (Request body) old) (sym same.1) (refl, call-same (writing_of old))
  request-lacks (inr (inl lacks)) = frame-goes lacks
  request-lacks (inr (inr lacks)) = end-goes lacks

  pub request-goes : (r : Result ℕ MsgError) → IfOk r (λ tag. requested host_calls body old ≡ answered (Ok tag) new) → IfErr r (RequestFails host_calls body old new) → ClientGoesOn (Request body) old new
  request-goes (Ok tag) is fails = requested-goes (Ok tag) is
  request-goes (Err e) is (inl fails) = requested-goes (Err e) fails
  request-goes (Err e) is (inr lacks) = request-lacks lacks.1

-- a response
pieces-go : (ws : List (Messaging HostState)) (old last : Messaging HostState) → PiecesRead host_calls ws old last → ClientGoesOn Response old last
pieces-go [] old last is = subst (ClientGoesOn Response old) (sym is) (start-goes old)
pieces-go (w ∷ ws) old last are =
    subst (λ (a : Answered (List ℕ) ReadFault (Messaging HostState)). ClientGoesOn Response old a.left) are.1.came (piece-goes old w are.1.few (pieces-go ws old w are.0))

module _ (old new : Messaging HostState) where
  responded-goes : (r : Result (List ℕ) MsgError) → responded host_calls old ≡ answered r new → ClientGoesOn Response old new
  responded-goes r is = subst (λ (a : Message (List ℕ) HostState). ClientGoesOn Response old a.left) is (client_calls-go_on Response old)

  piece-lacks : (last : Messaging HostState) → ClientGoesOn Response old last → PieceShort host_calls last new → ClientGoesOn Response old new
  piece-lacks last so_far lacks =
      let on = read-goes true (reading_of last) (reading_of new) last.client.reader.timeout 0 (λ n. []) (Err fail.Memory) tt lacks.short in
      subst (ClientGoesOn Response old) (sym lacks.left) (so_far.0, read-trans (reading_of old) (reading_of last) (reading_of new) so_far.1 on)

  response-lacks : ResponseShort host_calls old new → ClientGoesOn Response old new
  response-lacks (inl same) = subst (ClientGoesOn Response old) (sym same.1) (start-goes old)
  response-lacks (inr lacks) = elim lacks.1 [
    | inl short ↦ piece-lacks short.last (pieces-go short.ws old short.last short.are) short.short
    | inr ended ↦ subst (ClientGoesOn Response old) (ap (λ a. a.left) ended) (gathered-keeps host_calls (ClientGoesOn Response old) (piece-goes old) old (start-goes old))
  ]

  pub response-goes : (B : Type 0) (bytes : B → List ℕ) (r : Result B MsgError) → IfOk r (λ body. responded host_calls old ≡ answered (Ok (bytes body)) new) → IfErr r (ResponseFails host_calls old new) → ClientGoesOn Response old new
  response-goes B bytes (Ok body) is fails = responded-goes (Ok (bytes body)) is
  response-goes B bytes (Err e) is (inl fails) = responded-goes (Err e) fails
  response-goes B bytes (Err e) is (inr lacks) = response-lacks lacks.1

-- what each keeps
pub request-keeps : (body : List ℕ) (old new : Messaging HostState) → StandBoth (bus_of old.bus) old.client → ClientGoesOn (Request body) old new → WritesAlong (bus_of old.bus) (bus_of new.bus) old.client.writer.endpoint new.client.writer.endpoint
    → ClientKeeps old new old.client.writer.endpoint new.client.writer.endpoint
request-keeps body old new both goes along =
    record {
      line = goes.1.line;
      past = goes.1.past;
      stand = both-written (bus_of old.bus) (bus_of new.bus) old.client new.client along goes.0 both;
      endpoint = along.endpoint;
      others = along.others;
      accounts = goes.1.accounts both.out.key_is_open;
    }

pub response-keeps : (old new : Messaging HostState) → StandBoth (bus_of old.bus) old.client → ClientGoesOn Response old new → ReadsAlong (bus_of old.bus) (bus_of new.bus) old.client.reader.endpoint new.client.reader.endpoint
    → ClientKeeps old new old.client.reader.endpoint new.client.reader.endpoint
response-keeps old new both goes along =
    record {
      line = goes.1.line;
      past = goes.1.past;
      stand = both-read (bus_of old.bus) (bus_of new.bus) old.client new.client along goes.0 both;
      endpoint = along.endpoint;
      others = along.others;
      accounts = goes.1.accounts both.inp.key_is_open;
    }

-- a barred call keeps all
pub barred-keeps : (w : Messaging HostState) → StandBoth (bus_of w.bus) w.client → (ClientKeeps w w w.client.writer.endpoint w.client.writer.endpoint) × (ClientKeeps w w w.client.reader.endpoint w.client.reader.endpoint)
barred-keeps w both =
    let write = call-same (writing_of w) in
    let read = start-goes w in (
      record {
        line = write.line;
        past = write.past;
        stand = both;
        endpoint = refl;
        others = others-same (bus_of w.bus) (bus_of w.bus) w.client.writer.endpoint.key refl refl;
        accounts = write.accounts both.out.key_is_open;
      },
      record {
        line = read.1.line;
        past = read.1.past;
        stand = both;
        endpoint = refl;
        others = others-same (bus_of w.bus) (bus_of w.bus) w.client.reader.endpoint.key refl refl;
        accounts = read.1.accounts both.inp.key_is_open;
      },
    )
