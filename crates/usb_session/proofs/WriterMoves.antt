-- An endpoint becomes a writer's, or comes back.
use Rattle.std.proofs.Common.{◌≡◌, ◌≢◌, ℕ, List, Option, Some, None, true, false, refl, ap, sym, ◌∙◌}
use Rattle.std.specs.Option.{option_map}
use Rattle.usb_desc.specs.declared.types.Direction.TheVariants.{Out}
use Rattle.usb_desc.specs.Fields.{direction_of_address}
use Rattle.usb_device_endpoint.specs.EndpointState.{EndpointState}
use Rattle.usb_io.specs.Writers.{WriterState, fresh_writer}
use Rattle.usb_session_text.specs.Calls.{condition_line, ok_line}
use Rattle.usb_session_calls.specs.Names.{named, is_free, freed, set_name}
use Rattle.usb_session_calls.specs.EndpointNames.{Own, OfWriter}
use Rattle.usb_session_calls.specs.State.{State, Endpoint, Writer, tickets_at, endpoint_of_writer}
use Rattle.usb_session_calls.specs.Writers.{nothing_called, with_writer, writer_answer, without_writer, writer_inner_answer}
use Rattle.usb_session_calls.specs.Submits.{has_direction}
use Rattle.usb_session_calls.specs.Answer.{ok_answer}
use Rattle.usb_session_calls.specs.SessionState.{SessionState, IsSound, open_under}
use Rattle.usb_session_calls.specs.Relation.{Represents}
use Rattle.usb_session_calls.proofs.Answering.{Gives, barred-gives}
use Rattle.usb_session_calls.proofs.EndpointNameLemmas.{set-changes, freed-changes}
use Rattle.usb_session_calls.proofs.NameLemmas.{free-none, length-freed, length-set_name, map-freed, map-set}
use Rattle.usb_session_calls.proofs.Called.{own-open, writer-open, endpoints_kept, writers_kept}
use Rattle.usb_session.proofs.KeptNames.{kept-at, kept-none, kept-free}
use Rattle.usb_session.proofs.Replaced.{writer_endpoint}
use Rattle.usb_session_calls.proofs.Moved.{Moves}
use Rattle.usb_session.proofs.Moves.{sound-moved, is-direction, not-direction, barred-used, barred-direction}

-- a writer is open in place of an endpoint, and an endpoint in place of a writer
represents-made : (s : SessionState) (state : State) (e w : ℕ) (x : Writer) → Represents s state → Represents (record s { endpoints = freed s.endpoints e; writers = set_name s.writers w x.state }) (record state { endpoints = freed state.endpoints e; writers = set_name state.writers w x })
represents-made s state e w x is = rw (is, map-freed (λ (z : Endpoint). z.state) state.endpoints e, map-set (λ (z : Writer). z.state) state.writers w x) refl

represents-given_back : (s : SessionState) (state : State) (e w : ℕ) (h : Endpoint) → Represents s state → Represents (record s { endpoints = set_name s.endpoints e h.state; writers = freed s.writers w }) (record state { endpoints = set_name state.endpoints e h; writers = freed state.writers w })
represents-given_back s state e w h is = rw (is, map-set (λ (z : Endpoint). z.state) state.endpoints e h, map-freed (λ (z : Writer). z.state) state.writers w) refl

-- the endpoint of the name e, and the writer of the name w
module _ (s : SessionState) (e w : ℕ) where
  -- what was open under the one is open under the other
  made : (y : WriterState) → named s.endpoints e ≡ Some y.endpoint → is_free s.writers w ≡ true → Moves (open_under s) (open_under (record s { endpoints = freed s.endpoints e; writers = set_name s.writers w y })) (Own e) (OfWriter w) y.endpoint
  made y was free =
      let mid : SessionState = record s { endpoints = freed s.endpoints e } in
      record {
        mid = open_under mid;
        was = was;
        gone = own-open s s.host e (freed s.endpoints e) None (freed-changes s.endpoints e);
        free = ap (option_map writer_endpoint) (free-none s.writers w free);
        put = writer-open mid s.host w (set_name s.writers w y) (Some y) (set-changes s.writers w y free);
      }

  given_back : (y : WriterState) → named s.writers w ≡ Some y → is_free s.endpoints e ≡ true → Moves (open_under s) (open_under (record s { endpoints = set_name s.endpoints e y.endpoint; writers = freed s.writers w })) (OfWriter w) (Own e) y.endpoint
  given_back y was free =
      let mid : SessionState = record s { writers = freed s.writers w } in
      record {
        mid = open_under mid;
        was = ap (option_map writer_endpoint) was;
        gone = writer-open s s.host w (freed s.writers w) None (freed-changes s.writers w);
        free = free-none s.endpoints e free;
        put = own-open mid s.host e (set_name s.endpoints e y.endpoint) (Some y.endpoint) (set-changes s.endpoints e y.endpoint free);
      }

  -- a writer is made
  module _ (es : List (Option EndpointState)) (xs : List (Option WriterState)) (x : EndpointState) (y : WriterState) (was : named s.endpoints e ≡ Some x) (free : is_free s.writers w ≡ true) (rest : es ≡ freed s.endpoints e) (put : xs ≡ set_name s.writers w y) where
    pub made-sound : IsSound s → y.endpoint ≡ x → IsSound (record s { endpoints = es; writers = xs })
    made-sound sound same =
        rw (rest, put)
        (sound-moved s (freed s.endpoints e) s.readers (set_name s.writers w y) (Own e) (OfWriter w) y.endpoint sound
        (record { endpoints = length-freed s.endpoints e; readers = refl; writers = length-set_name s.writers w y; clients = refl }) (made y (was ∙ ap (λ z. Some z) (sym same)) free))

    pub writer-gives : (size : ℕ) → y ≡ fresh_writer x size → direction_of_address x.address ≡ Out → (state : State) → Represents s state → Gives (record s { endpoints = es; writers = xs }) ok_line (writer_answer state w e size)
    unfolding writer_answer
    writer-gives size fresh direction state is =
        let k = kept-at _ _ _ (endpoints_kept s state is) e x was in
        let h = k.entry in
        let new : Writer = record { state = fresh_writer h.state size; taken = h.taken; calls = nothing_called (tickets_at h) } in
        let there : is_free state.writers w ≡ true = kept-free _ _ _ (writers_kept s state is) w ∙ free in
        let same : new.state ≡ y = ap (λ (z : EndpointState). fresh_writer z size) k.same ∙ sym fresh in
        let input : has_direction Out h.state ≡ true = ap (has_direction Out) k.same ∙ is-direction Out x direction in
        rw (k.is, there, input, rest, put, ← same)
        (record { state = represents-made s state e w new is; same = refl })

  -- or its name is in use, nothing is open under the endpoint's, or that is not an OUT endpoint
  pub writer-used : (size : ℕ) (state : State) → is_free s.writers w ≡ false → Represents s state → Gives s condition_line (writer_answer state w e size)
  unfolding writer_answer
  writer-used size state used is =
      barred-used s state (named state.endpoints e) (is_free state.writers w) _ is (kept-free _ _ _ (writers_kept s state is) w ∙ used)

  pub writer-none : (size : ℕ) (state : State) → named s.endpoints e ≡ None → Represents s state → Gives s condition_line (writer_answer state w e size)
  unfolding writer_answer
  writer-none size state none is = rw (kept-none _ _ _ (endpoints_kept s state is) e none) (barred-gives s state is)

  pub writer-in : (size : ℕ) (x : EndpointState) (state : State) → named s.endpoints e ≡ Some x → direction_of_address x.address ≢ Out → Represents s state → Gives s condition_line (writer_answer state w e size)
  unfolding writer_answer
  writer-in size x state was other is =
      let k = kept-at _ _ _ (endpoints_kept s state is) e x was in
      let direction : has_direction Out k.entry.state ≡ false = ap (has_direction Out) k.same ∙ not-direction Out x other in
      rw (k.is, direction) (barred-direction s state (is_free state.writers w) (ok_answer (with_writer state w e size k.entry)) is)

  -- the endpoint of a writer comes back
  module _ (es : List (Option EndpointState)) (xs : List (Option WriterState)) (x : EndpointState) (y : WriterState) (was : named s.writers w ≡ Some y) (free : is_free s.endpoints e ≡ true) (same : x ≡ y.endpoint) (put : es ≡ set_name s.endpoints e x) (rest : xs ≡ freed s.writers w) where
    pub given-sound : IsSound s → IsSound (record s { endpoints = es; writers = xs })
    given-sound sound =
        rw (put, rest, same)
        (sound-moved s (set_name s.endpoints e y.endpoint) s.readers (freed s.writers w) (OfWriter w) (Own e) y.endpoint sound
        (record { endpoints = length-set_name s.endpoints e y.endpoint; readers = refl; writers = length-freed s.writers w; clients = refl }) (given_back y was free))

    pub inner-gives : (state : State) → Represents s state → Gives (record s { endpoints = es; writers = xs }) ok_line (writer_inner_answer state e w)
    unfolding writer_inner_answer
    inner-gives state is =
        let k = kept-at _ _ _ (writers_kept s state is) w y was in
        let own : is_free state.endpoints e ≡ true = kept-free _ _ _ (endpoints_kept s state is) e ∙ free in
        let seen : k.entry.state.endpoint ≡ x = ap writer_endpoint k.same ∙ sym same in
        rw (k.is, own, put, rest, ← seen)
        (record { state = represents-given_back s state e w (endpoint_of_writer k.entry) is; same = refl })

  -- or its name is in use, or no writer is open under that name
  pub inner-used : (state : State) → is_free s.endpoints e ≡ false → Represents s state → Gives s condition_line (writer_inner_answer state e w)
  unfolding writer_inner_answer
  inner-used state used is =
      barred-used s state (named state.writers w) (is_free state.endpoints e) (λ x. ok_answer (without_writer state e w x)) is (kept-free _ _ _ (endpoints_kept s state is) e ∙ used)

  pub inner-none : (state : State) → named s.writers w ≡ None → Represents s state → Gives s condition_line (writer_inner_answer state e w)
  unfolding writer_inner_answer
  inner-none state none is = rw (kept-none _ _ _ (writers_kept s state is) w none) (barred-gives s state is)
