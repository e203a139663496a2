-- An endpoint becomes a reader's, or comes back.
use Rattle.std.proofs.Common.{◌≡◌, ◌≢◌, ℕ, List, [], Option, Some, None, true, false, refl, ap, sym, ◌∙◌}
use Rattle.std.specs.Option.{option_map}
use Rattle.usb_desc.specs.declared.types.Direction.TheVariants.{In}
use Rattle.usb_desc.specs.Fields.{direction_of_address}
use Rattle.usb_device_endpoint.specs.EndpointState.{EndpointState}
use Rattle.usb_io.specs.Readers.{ReaderState, fresh_reader}
use Rattle.usb_session_text.specs.Calls.{condition_line, ok_line}
use Rattle.usb_session_calls.specs.Names.{named, is_free, freed, set_name}
use Rattle.usb_session_calls.specs.EndpointNames.{Own, OfReader}
use Rattle.usb_session_calls.specs.State.{State, Endpoint, Reader, tickets_at, endpoint_of_reader}
use Rattle.usb_session_calls.specs.Readers.{nothing_consumed, with_reader, reader_answer, without_reader, inner_answer}
use Rattle.usb_session_calls.specs.Submits.{has_direction}
use Rattle.usb_session_calls.specs.Answer.{ok_answer}
use Rattle.usb_session_calls.specs.SessionState.{SessionState, IsSound, open_under}
use Rattle.usb_session_calls.specs.Relation.{Represents}
use Rattle.usb_session_calls.proofs.Answering.{Gives, barred-gives}
use Rattle.usb_session_calls.proofs.EndpointNameLemmas.{set-changes, freed-changes}
use Rattle.usb_session_calls.proofs.NameLemmas.{free-none, length-freed, length-set_name, map-freed, map-set}
use Rattle.usb_session_calls.proofs.Called.{own-open, reader-open, endpoints_kept, readers_kept}
use Rattle.usb_session.proofs.KeptNames.{kept-at, kept-none, kept-free}
use Rattle.usb_session.proofs.Replaced.{reader_endpoint}
use Rattle.usb_session_calls.proofs.Moved.{Moves}
use Rattle.usb_session.proofs.Moves.{sound-moved, is-direction, not-direction, barred-used, barred-direction}

-- a reader is open in place of an endpoint, and an endpoint in place of a reader
represents-made : (s : SessionState) (state : State) (e r : ℕ) (x : Reader) → Represents s state → Represents (record s { endpoints = freed s.endpoints e; readers = set_name s.readers r x.state }) (record state { endpoints = freed state.endpoints e; readers = set_name state.readers r x })
represents-made s state e r x is = rw (is, map-freed (λ (z : Endpoint). z.state) state.endpoints e, map-set (λ (z : Reader). z.state) state.readers r x) refl

represents-given_back : (s : SessionState) (state : State) (e r : ℕ) (h : Endpoint) → Represents s state → Represents (record s { endpoints = set_name s.endpoints e h.state; readers = freed s.readers r }) (record state { endpoints = set_name state.endpoints e h; readers = freed state.readers r })
represents-given_back s state e r h is = rw (is, map-set (λ (z : Endpoint). z.state) state.endpoints e h, map-freed (λ (z : Reader). z.state) state.readers r) refl

-- the endpoint of the name e, and the reader of the name r
module _ (s : SessionState) (e r : ℕ) where
  -- what was open under the one is open under the other
  made : (y : ReaderState) → named s.endpoints e ≡ Some y.endpoint → is_free s.readers r ≡ true → Moves (open_under s) (open_under (record s { endpoints = freed s.endpoints e; readers = set_name s.readers r y })) (Own e) (OfReader r) y.endpoint
  made y was free =
      let mid : SessionState = record s { endpoints = freed s.endpoints e } in
      record {
        mid = open_under mid;
        was = was;
        gone = own-open s s.host e (freed s.endpoints e) None (freed-changes s.endpoints e);
        free = ap (option_map reader_endpoint) (free-none s.readers r free);
        put = reader-open mid s.host r (set_name s.readers r y) (Some y) (set-changes s.readers r y free);
      }

  given_back : (y : ReaderState) → named s.readers r ≡ Some y → is_free s.endpoints e ≡ true → Moves (open_under s) (open_under (record s { endpoints = set_name s.endpoints e y.endpoint; readers = freed s.readers r })) (OfReader r) (Own e) y.endpoint
  given_back y was free =
      let mid : SessionState = record s { readers = freed s.readers r } in
      record {
        mid = open_under mid;
        was = ap (option_map reader_endpoint) was;
        gone = reader-open s s.host r (freed s.readers r) None (freed-changes s.readers r);
        free = free-none s.endpoints e free;
        put = own-open mid s.host e (set_name s.endpoints e y.endpoint) (Some y.endpoint) (set-changes s.endpoints e y.endpoint free);
      }

  -- a reader is made
  module _ (es : List (Option EndpointState)) (xs : List (Option ReaderState)) (x : EndpointState) (y : ReaderState) (was : named s.endpoints e ≡ Some x) (free : is_free s.readers r ≡ true) (rest : es ≡ freed s.endpoints e) (put : xs ≡ set_name s.readers r y) where
    pub made-sound : IsSound s → y.endpoint ≡ x → IsSound (record s { endpoints = es; readers = xs })
    made-sound sound same =
        rw (rest, put)
        (sound-moved s (freed s.endpoints e) (set_name s.readers r y) s.writers (Own e) (OfReader r) y.endpoint sound
        (record { endpoints = length-freed s.endpoints e; readers = length-set_name s.readers r y; writers = refl; clients = refl }) (made y (was ∙ ap (λ z. Some z) (sym same)) free))

    pub reader-gives : (size : ℕ) → y ≡ fresh_reader x size → direction_of_address x.address ≡ In → (state : State) → Represents s state → Gives (record s { endpoints = es; readers = xs }) ok_line (reader_answer state r e size)
    unfolding reader_answer
    reader-gives size fresh direction state is =
        let k = kept-at _ _ _ (endpoints_kept s state is) e x was in
        let h = k.entry in
        let new : Reader = record { state = fresh_reader h.state size; before = h.taken; taken = []; given = []; consumed = nothing_consumed (tickets_at h) } in
        let there : is_free state.readers r ≡ true = kept-free _ _ _ (readers_kept s state is) r ∙ free in
        let same : new.state ≡ y = ap (λ (z : EndpointState). fresh_reader z size) k.same ∙ sym fresh in
        let input : has_direction In h.state ≡ true = ap (has_direction In) k.same ∙ is-direction In x direction in
        rw (k.is, there, input, rest, put, ← same)
        (record { state = represents-made s state e r new is; same = refl })

  -- or its name is in use, nothing is open under the endpoint's, or that is not an IN endpoint
  pub reader-used : (size : ℕ) (state : State) → is_free s.readers r ≡ false → Represents s state → Gives s condition_line (reader_answer state r e size)
  unfolding reader_answer
  reader-used size state used is =
      barred-used s state (named state.endpoints e) (is_free state.readers r) _ is (kept-free _ _ _ (readers_kept s state is) r ∙ used)

  pub reader-none : (size : ℕ) (state : State) → named s.endpoints e ≡ None → Represents s state → Gives s condition_line (reader_answer state r e size)
  unfolding reader_answer
  reader-none size state none is = rw (kept-none _ _ _ (endpoints_kept s state is) e none) (barred-gives s state is)

  pub reader-out : (size : ℕ) (x : EndpointState) (state : State) → named s.endpoints e ≡ Some x → direction_of_address x.address ≢ In → Represents s state → Gives s condition_line (reader_answer state r e size)
  unfolding reader_answer
  reader-out size x state was other is =
      let k = kept-at _ _ _ (endpoints_kept s state is) e x was in
      let direction : has_direction In k.entry.state ≡ false = ap (has_direction In) k.same ∙ not-direction In x other in
      rw (k.is, direction) (barred-direction s state (is_free state.readers r) (ok_answer (with_reader state r e size k.entry)) is)

  -- the endpoint of a reader comes back
  module _ (es : List (Option EndpointState)) (xs : List (Option ReaderState)) (x : EndpointState) (y : ReaderState) (was : named s.readers r ≡ Some y) (free : is_free s.endpoints e ≡ true) (same : x ≡ y.endpoint) (put : es ≡ set_name s.endpoints e x) (rest : xs ≡ freed s.readers r) where
    pub given-sound : IsSound s → IsSound (record s { endpoints = es; readers = xs })
    given-sound sound =
        rw (put, rest, same)
        (sound-moved s (set_name s.endpoints e y.endpoint) (freed s.readers r) s.writers (OfReader r) (Own e) y.endpoint sound
        (record { endpoints = length-set_name s.endpoints e y.endpoint; readers = length-freed s.readers r; writers = refl; clients = refl }) (given_back y was free))

    pub inner-gives : (state : State) → Represents s state → Gives (record s { endpoints = es; readers = xs }) ok_line (inner_answer state e r)
    unfolding inner_answer
    inner-gives state is =
        let k = kept-at _ _ _ (readers_kept s state is) r y was in
        let own : is_free state.endpoints e ≡ true = kept-free _ _ _ (endpoints_kept s state is) e ∙ free in
        let seen : k.entry.state.endpoint ≡ x = ap reader_endpoint k.same ∙ sym same in
        rw (k.is, own, put, rest, ← seen)
        (record { state = represents-given_back s state e r (endpoint_of_reader k.entry) is; same = refl })

  -- or its name is in use, or no reader is open under that name
  pub inner-used : (state : State) → is_free s.endpoints e ≡ false → Represents s state → Gives s condition_line (inner_answer state e r)
  unfolding inner_answer
  inner-used state used is =
      barred-used s state (named state.readers r) (is_free state.endpoints e) (λ x. ok_answer (without_reader state e r x)) is (kept-free _ _ _ (endpoints_kept s state is) e ∙ used)

  pub inner-none : (state : State) → named s.readers r ≡ None → Represents s state → Gives s condition_line (inner_answer state e r)
  unfolding inner_answer
  inner-none state none is = rw (kept-none _ _ _ (readers_kept s state is) r none) (barred-gives s state is)
