-- The endpoints of a client of messages among those that a session has open.
use Rattle.std.proofs.Common.{◌≡◌, ◌≢◌, ℕ, Option, Some, None, true, refl, ap, sym, ◌∙◌, inl, inr}
use Rattle.std.specs.Option.{option_map}
use Rattle.usb_device_endpoint.specs.EndpointState.{EndpointState}
use Rattle.usb_device_host.specs.HostState.{HostState}
use Rattle.usb_device_host.specs.HostBus.{bus_of}
use Rattle.usb_msg.specs.Clients.{ClientState, StandBoth}
use Rattle.usb_session_calls.specs.declared.call.ClientCall.{ClientCall}
use Rattle.usb_session_calls.specs.declared.call.ClientCall.TheVariants.{Request, Response, Outstanding}
use Rattle.usb_session_calls.specs.Names.{named, change_named, is_free, freed, set_name}
use Rattle.usb_session_calls.specs.EndpointNames.{EndpointName, Own, OfReader, OfWriter, OfClientWriter, OfClientReader}
use Rattle.usb_session_calls.specs.SessionState.{SessionState, IsSound, open_under}
use Rattle.usb_session_calls.specs.ClientCalls.{ClientCallKeeps, with_client_called, called_endpoint, other_endpoint}
use Rattle.usb_session_calls.proofs.EndpointNameLemmas.{Changed, ChangedAt, ChangedBoth, cases_name, number_of, put_under, under-changes, second-changes, first-alone, second-alone, change-changes, freed-changes, set-changes}
use Rattle.usb_session_calls.proofs.NameLemmas.{length-change_named, length-freed, length-set_name, free-none}
use Rattle.usb_session_calls.proofs.NamedKeys.{OpensNone}
use Rattle.usb_session_calls.proofs.Called.{KeepsSession, client-open, sound-put, sound-over, over-gone}
use Rattle.usb_session_calls.proofs.SoundOver.{over-session}
use Rattle.usb_session_calls.proofs.FutureSessions.{LeavesKey}
use Rattle.usb_session_calls.proofs.Moved.{Moves, over-moved}

-- the names of a client's endpoints differ
pub client-apart : (m : ℕ) → OfClientWriter m ≢ OfClientReader m
client-apart m same = absurd (cc)

-- both stand
pub client-stands : (s : SessionState) (m : ℕ) (x : ClientState) → IsSound s → named s.clients m ≡ Some x → StandBoth (bus_of s.host) x
client-stands s m x sound was =
    let out : open_under s (OfClientWriter m) ≡ Some x.writer.endpoint = ap (option_map (λ (c : ClientState). c.writer.endpoint)) was in
    let inp : open_under s (OfClientReader m) ≡ Some x.reader.endpoint = ap (option_map (λ (c : ClientState). c.reader.endpoint)) was in
    record {
      out = sound.endpoints_stand (OfClientWriter m) x.writer.endpoint out;
      inp = sound.endpoints_stand (OfClientReader m) x.reader.endpoint inp;
      apart = sound.endpoints_differ (OfClientWriter m) (OfClientReader m) x.writer.endpoint x.reader.endpoint out inp (client-apart m);
    }

-- the name of the endpoint that a call is on
abbrev pub called_name : ClientCall → ℕ → EndpointName
called_name (Request body) m = OfClientWriter m
called_name Response m = OfClientReader m
called_name Outstanding m = OfClientReader m

-- what is open once a client was called
module _ (s : SessionState) (now : HostState) (m : ℕ) (x y : ClientState) (was : named s.clients m ≡ Some x) where
  both-changed : ChangedBoth (open_under s) (open_under (with_client_called s m now y)) (OfClientWriter m) (OfClientReader m) (Some y.writer.endpoint) (Some y.reader.endpoint)
  both-changed = client-open s now m (change_named (λ z. y) s.clients m) (Some y) (change-changes (λ z. y) s.clients m x was)

  abbrev out_was : open_under s (OfClientWriter m) ≡ Some x.writer.endpoint
  out_was = ap (option_map (λ (c : ClientState). c.writer.endpoint)) was

  abbrev in_was : open_under s (OfClientReader m) ≡ Some x.reader.endpoint
  in_was = ap (option_map (λ (c : ClientState). c.reader.endpoint)) was

  pub called-was : (call : ClientCall) → open_under s (called_name call m) ≡ Some (called_endpoint call x)
  called-was (Request body) = out_was
  called-was Response = in_was
  called-was Outstanding = in_was

  pub called-changes : (call : ClientCall) → other_endpoint call y ≡ other_endpoint call x → Changed (open_under s) (open_under (with_client_called s m now y)) (called_name call m) (Some (called_endpoint call y))
  called-changes (Request body) same = first-alone _ _ _ _ _ _ both-changed (in_was ∙ ap (λ z. Some z) (sym same))
  called-changes Response same = second-alone _ _ _ _ _ _ both-changed (out_was ∙ ap (λ z. Some z) (sym same))
  called-changes Outstanding same = second-alone _ _ _ _ _ _ both-changed (out_was ∙ ap (λ z. Some z) (sym same))

  -- the session is sound again
  pub client-sound : (call : ClientCall) → IsSound s → ClientCallKeeps call s.host now x y → KeepsSession s.host now → OpensNone s.host.endpoints now.endpoints → IsSound (with_client_called s m now y)
  client-sound call sound keeps session none =
      sound-put s now s.endpoints s.readers s.writers (change_named (λ z. y) s.clients m) (called_name call m) (called_endpoint call x) sound (called-was call)
      (record { endpoints = refl; readers = refl; writers = refl; clients = length-change_named (λ z. y) s.clients m })
      session keeps.called.others none (called_endpoint call y) (called-changes call keeps.other) keeps.called.stands keeps.called.key keeps.called.maximum keeps.called.accounts

-- two endpoints become a client's: the one is its writer's, and then the other its reader's
module _ (s : SessionState) (m a b : ℕ) (y : ClientState) (apart : a ≢ b) (out : named s.endpoints a ≡ Some y.writer.endpoint) (inp : named s.endpoints b ≡ Some y.reader.endpoint) (free : is_free s.clients m ≡ true) where
  abbrev pub made : SessionState
  made = record s { endpoints = freed (freed s.endpoints a) b; clients = set_name s.clients m y }

  -- what is open once the one is taken out, the writer has it, and the other is taken out
  abbrev out_gone : EndpointName → Option EndpointState
  out_gone = put_under (open_under s) (Own a) None

  abbrev pub out_moved : EndpointName → Option EndpointState
  out_moved = put_under out_gone (OfClientWriter m) (Some y.writer.endpoint)

  abbrev in_gone : EndpointName → Option EndpointState
  in_gone = put_under out_moved (Own b) None

  gone : Changed (open_under s) out_gone (Own a) None
  gone = under-changes (open_under s) (Own a) None

  put : Changed out_gone out_moved (OfClientWriter m) (Some y.writer.endpoint)
  put = under-changes out_gone (OfClientWriter m) (Some y.writer.endpoint)

  shut : Changed out_moved in_gone (Own b) None
  shut = under-changes out_moved (Own b) None

  client : ChangedAt s.clients (set_name s.clients m y) m (Some y)
  client = set-changes s.clients m y free

  first : ChangedAt s.endpoints (freed s.endpoints a) a None
  first = freed-changes s.endpoints a

  second : ChangedAt (freed s.endpoints a) (freed (freed s.endpoints a) b) b None
  second = freed-changes (freed s.endpoints a) b

  -- the other names have what they had
  rest-was : (d : EndpointName) → d ≢ Own a → d ≢ Own b → d ≢ OfClientWriter m → open_under s d ≡ in_gone d
  rest-was d nota notb notm = sym (gone.others d nota) ∙ sym (put.others d notm) ∙ sym (shut.others d notb)

  rest-own : (k : ℕ) → open_under made (Own k) ≡ in_gone (Own k)
  rest-own k =
      elim (cases_name (Own k) (Own b)) [
        | inl same ↦ ap (open_under made) same ∙ second.here ∙ sym shut.here ∙ sym (ap in_gone same)
        | inr notb ↦
            let there : open_under made (Own k) ≡ named (freed s.endpoints a) k = second.others k (λ is. notb (ap Own is)) in
            elim (cases_name (Own k) (Own a)) [
              | inl same ↦
                  there ∙ ap (named (freed s.endpoints a)) (ap number_of same) ∙ first.here ∙ sym gone.here ∙ ap out_gone (sym same)
                  ∙ sym (put.others (Own k) (λ is. absurd (cc))) ∙ sym (shut.others (Own k) notb)
              | inr nota ↦ there ∙ first.others k (λ is. nota (ap Own is)) ∙ rest-was (Own k) nota notb (λ is. absurd (cc))
            ]
      ]

  rest-writer : (k : ℕ) → open_under made (OfClientWriter k) ≡ in_gone (OfClientWriter k)
  rest-writer k =
      elim (cases_name (OfClientWriter k) (OfClientWriter m)) [
        | inl same ↦
            ap (open_under made) same ∙ ap (option_map (λ (c : ClientState). c.writer.endpoint)) client.here ∙ sym put.here ∙ ap out_moved (sym same)
            ∙ sym (shut.others (OfClientWriter k) (λ is. absurd (cc)))
        | inr notm ↦
            ap (option_map (λ (c : ClientState). c.writer.endpoint)) (client.others k (λ is. notm (ap OfClientWriter is)))
            ∙ rest-was (OfClientWriter k) (λ is. absurd (cc)) (λ is. absurd (cc)) notm
      ]

  rest-of : (d : EndpointName) → d ≢ OfClientReader m → open_under made d ≡ in_gone d
  rest-of (Own k) notm = rest-own k
  rest-of (OfReader k) notm = rest-was (OfReader k) (λ is. absurd (cc)) (λ is. absurd (cc)) (λ is. absurd (cc))
  rest-of (OfWriter k) notm = rest-was (OfWriter k) (λ is. absurd (cc)) (λ is. absurd (cc)) (λ is. absurd (cc))
  rest-of (OfClientWriter k) notm = rest-writer k
  rest-of (OfClientReader k) notm =
      ap (option_map (λ (c : ClientState). c.reader.endpoint)) (client.others k (λ is. notm (ap OfClientReader is)))
      ∙ rest-was (OfClientReader k) (λ is. absurd (cc)) (λ is. absurd (cc)) (λ is. absurd (cc))

  none-client : named s.clients m ≡ None
  none-client = free-none s.clients m free

  pub writer-moves : Moves (open_under s) out_moved (Own a) (OfClientWriter m) y.writer.endpoint
  writer-moves =
      record {
        mid = out_gone;
        was = out;
        gone = gone;
        free = gone.others (OfClientWriter m) (λ is. absurd (cc)) ∙ ap (option_map (λ (c : ClientState). c.writer.endpoint)) none-client;
        put = put;
      }

  pub reader-moves : Moves out_moved (open_under made) (Own b) (OfClientReader m) y.reader.endpoint
  reader-moves =
      record {
        mid = in_gone;
        was = put.others (Own b) (λ is. absurd (cc)) ∙ gone.others (Own b) (λ is. apart (sym (ap number_of is))) ∙ inp;
        gone = shut;
        free = sym (rest-was (OfClientReader m) (λ is. absurd (cc)) (λ is. absurd (cc)) (λ is. absurd (cc))) ∙ ap (option_map (λ (c : ClientState). c.reader.endpoint)) none-client;
        put = record { here = ap (option_map (λ (c : ClientState). c.reader.endpoint)) client.here; others = rest-of };
      }

  -- the session is sound again
  pub made-sound : IsSound s → IsSound made
  made-sound sound =
      sound-over s s.host (freed (freed s.endpoints a) b) s.readers s.writers (set_name s.clients m y) sound
      (record { endpoints = length-freed (freed s.endpoints a) b ∙ length-freed s.endpoints a; readers = refl; writers = refl; clients = length-set_name s.clients m y })
      (over-moved out_moved (open_under made) (Own b) (OfClientReader m) y.reader.endpoint reader-moves s s.host
      (over-moved (open_under s) out_moved (Own a) (OfClientWriter m) y.writer.endpoint writer-moves s s.host (over-session s sound)))

-- a client is closed: its writer's endpoint is open no more, and then its reader's
module _ (s : SessionState) (mid now : HostState) (m : ℕ) (x : ClientState) (was : named s.clients m ≡ Some x) where
  both-gone : ChangedBoth (open_under s) (open_under (record s { host = now; clients = freed s.clients m })) (OfClientWriter m) (OfClientReader m) None None
  both-gone = client-open s now m (freed s.clients m) None (freed-changes s.clients m)

  abbrev writer_gone : EndpointName → Option EndpointState
  writer_gone = put_under (open_under s) (OfClientWriter m) None

  pub closed-sound : IsSound s → LeavesKey s.host mid x.writer.endpoint.key x.writer.endpoint.pending → LeavesKey mid now x.reader.endpoint.key x.reader.endpoint.pending → IsSound (record s { host = now; clients = freed s.clients m })
  closed-sound sound out inp =
      let first = under-changes (open_under s) (OfClientWriter m) None in
      let over =
      over-gone s s.host mid (open_under s) writer_gone (OfClientWriter m) x.writer.endpoint (over-session s sound) (ap (option_map (λ (c : ClientState). c.writer.endpoint)) was)
      out.session out.others out.none first out.closed out.accounts in
      sound-over s now s.endpoints s.readers s.writers (freed s.clients m) sound
      (record { endpoints = refl; readers = refl; writers = refl; clients = length-freed s.clients m })
      (over-gone s mid now writer_gone (open_under (record s { host = now; clients = freed s.clients m })) (OfClientReader m) x.reader.endpoint over
      (first.others (OfClientReader m) (λ same. client-apart m (sym same)) ∙ ap (option_map (λ (c : ClientState). c.reader.endpoint)) was)
      inp.session inp.others inp.none (second-changes _ _ _ _ _ _ both-gone) inp.closed inp.accounts)
