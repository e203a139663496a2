-- Two endpoints become a client's, or may not.
use Rattle.std.proofs.Common.{◌≡◌, ◌≢◌, ◌<◌, ℕ, arith, List, [], ◌∷◌, length, map, Option, Some, None, Bool, true, false, inl, inr, refl, ap, sym, ◌∙◌}
use Rattle.std.specs.Prelude.{◌==◌, ◌&&◌, ◌^◌, if◌then◌else◌}
use Rattle.std.specs.Option.{option_map}
use Rattle.std.proofs.lemmas.Bool.{cases_eq, and_from, and_left, and_right, and_parts, eqb-true}
use Rattle.std.proofs.lemmas.Option.{none-some, same_Some}
use Rattle.usb_desc.specs.declared.types.Direction.{Direction}
use Rattle.usb_desc.specs.declared.types.Direction.TheVariants.{In, Out}
use Rattle.usb_desc.specs.Fields.{direction_of_address}
use Rattle.usb_device_endpoint.specs.EndpointState.{EndpointState}
use Rattle.usb_device_host.specs.EndpointRefusals.{same_direction}
use Rattle.usb_msg.specs.Clients.{ClientState, fresh_client}
use Rattle.usb_session_text.specs.Calls.{ok_line, condition_line}
use Rattle.usb_session_calls.specs.Names.{named, is_free, freed, set_name}
use Rattle.usb_session_calls.specs.State.{State, Endpoint, Client}
use Rattle.usb_session_calls.specs.Submits.{has_direction}
use Rattle.usb_session_calls.specs.Clients.{is_idle, new_client, with_client, client_on, client_answer}
use Rattle.usb_session_calls.specs.Answer.{condition_answer, ok_answer, if_open}
use Rattle.usb_session_calls.specs.SessionState.{SessionState, IsSound}
use Rattle.usb_session_calls.specs.Relation.{Represents}
use Rattle.usb_session_calls.proofs.Answering.{Gives, barred-gives}
use Rattle.usb_session_calls.proofs.Called.{endpoints_kept, clients_kept, names-freed}
use Rattle.usb_session_calls.proofs.ClientNames.{made-sound}
use Rattle.usb_session_calls.proofs.NameLemmas.{put-back, named-freed_other, map-freed, map-set}
use Rattle.usb_session.proofs.KeptNames.{seen, kept-at, kept-free}
use Rattle.usb_session.proofs.Moves.{is-direction}

-- what is idle has its direction, and nothing pending
direction-is : (d e : Direction) → same_direction d e ≡ true → d ≡ e
direction-is In In is = refl
direction-is In Out is = absurd (let wrong : true ≡ false = sym is in cc)
direction-is Out In is = absurd (let wrong : true ≡ false = sym is in cc)
direction-is Out Out is = refl

none-of : (l : List ℕ) → (length l == 0) ≡ true → l ≡ []
none-of [] is = refl
none-of (t ∷ ts) is = absurd (let some : length (t ∷ ts) ≡ 0 = eqb-true (length (t ∷ ts)) 0 is in cc)

is-idle : (d : Direction) (x : EndpointState) → direction_of_address x.address ≡ d → x.pending ≡ [] → is_idle d x ≡ true
is-idle d x direction none = and_from (has_direction d x) (length x.pending == 0) (is-direction d x direction) (ap (λ (l : List ℕ). length l == 0) none)

record Idle (d : Direction) (x : EndpointState) : Type 0 where
  direction : direction_of_address x.address ≡ d
  none : x.pending ≡ []

idle-is : (d : Direction) (x : EndpointState) → is_idle d x ≡ true → Idle d x
idle-is d x is =
    let parts = and_parts (has_direction d x) (length x.pending == 0) is in
    record { direction = direction-is (direction_of_address x.address) d parts.0; none = none-of x.pending parts.1 }

-- it is barred where no two endpoints may become one
barred-by : (s : SessionState) (state : State) (free : Bool) (o p : Option Endpoint) (made : Endpoint → Endpoint → State) → Represents s state
    → ((out inp : Endpoint) → o ≡ Some out → p ≡ Some inp → (free && (is_idle Out out.state && is_idle In inp.state)) ≡ false)
    → Gives s condition_line (if_open o (λ out. if_open p (λ inp. if free && (is_idle Out out.state && is_idle In inp.state) then ok_answer (made out inp) else condition_answer state) (condition_answer state)) (condition_answer state))
barred-by s state free None p made r bars = barred-gives s state r
barred-by s state free (Some out) None made r bars = barred-gives s state r
barred-by s state free (Some out) (Some inp) made r bars = let barred = bars out inp refl refl in rw barred (barred-gives s state r)

not-true : (b : Bool) → (b ≡ true → ⊥) → b ≡ false
not-true true no_ = absurd (no_ refl)
not-true false no_ = refl

-- two endpoints become a client's
represents-made : (s : SessionState) (state : State) (m a b : ℕ) (x : Client) → Represents s state → Represents (record s { endpoints = freed (freed s.endpoints a) b; clients = set_name s.clients m x.state }) (record state { endpoints = freed (freed state.endpoints a) b; clients = set_name state.clients m x })
represents-made s state m a b x is =
    rw (is, map-freed (λ (z : Endpoint). z.state) (freed state.endpoints a) b, map-freed (λ (z : Endpoint). z.state) state.endpoints a, map-set (λ (z : Client). z.state) state.clients m x) refl

-- the endpoints of the names a and b, and the client of the name m
module _ (s : SessionState) (m a b : ℕ) where
  -- the second was open beside the first
  both : (inp : EndpointState) → named (freed s.endpoints a) b ≡ Some inp → (b ≢ a) × (named s.endpoints b ≡ Some inp)
  both inp there = names-freed s.endpoints (freed s.endpoints a) a b inp refl there

  -- a client is made
  module _ (es : List (Option EndpointState)) (cs : List (Option ClientState)) (out inp : EndpointState) (y : ClientState) (here : named s.endpoints a ≡ Some out) (there : named (freed s.endpoints a) b ≡ Some inp) (free : is_free s.clients m ≡ true)
      (made : y ≡ fresh_client out inp) (rest : es ≡ freed (freed s.endpoints a) b) (put : cs ≡ set_name s.clients m y) where
    pub client-made-sound : IsSound s → IsSound (record s { endpoints = es; clients = cs })
    client-made-sound sound =
        rw (rest, put)
        (made-sound s m a b y (λ same. (both inp there).0 (sym same)) (here ∙ ap (λ (c : ClientState). Some c.writer.endpoint) (sym made)) ((both inp there).1 ∙ ap (λ (c : ClientState). Some c.reader.endpoint) (sym made)) free sound)

    pub client-gives : direction_of_address out.address ≡ Out → direction_of_address inp.address ≡ In → out.pending ≡ [] → inp.pending ≡ [] → (state : State) → Represents s state → Gives (record s { endpoints = es; clients = cs }) ok_line (client_answer state m a b)
    unfolding client_answer
    client-gives output input none_out none_in state is =
        let k = kept-at _ _ _ (endpoints_kept s state is) a out here in
        let l = kept-at _ _ _ (endpoints_kept s state is) b inp (both inp there).1 in
        let new = new_client k.entry l.entry in
        let open_ : is_free state.clients m ≡ true = kept-free _ _ _ (clients_kept s state is) m ∙ free in
        let first : is_idle Out k.entry.state ≡ true = ap (is_idle Out) k.same ∙ is-idle Out out output none_out in
        let second : is_idle In l.entry.state ≡ true = ap (is_idle In) l.same ∙ is-idle In inp input none_in in
        let may : (is_free state.clients m && (is_idle Out k.entry.state && is_idle In l.entry.state)) ≡ true = and_from _ _ open_ (and_from _ _ first second) in
        let same : new.state ≡ y = ap (λ (x : EndpointState). fresh_client x l.entry.state) k.same ∙ ap (fresh_client out) l.same ∙ sym made in
        rw (k.is, l.is, may, rest, put, ← same)
        (record {
          state = represents-made s state m a b new is;
          same = refl;
        })

  -- or its name is in use
  pub client-used : (state : State) → is_free s.clients m ≡ false → Represents s state → Gives s condition_line (client_answer state m a b)
  unfolding client_answer
  client-used state used is =
      barred-by s state (is_free state.clients m) (named state.endpoints a) (named state.endpoints b) (with_client state m a b) is
      (λ out inp here there. and_left (is_free state.clients m) (is_idle Out out.state && is_idle In inp.state) (kept-free _ _ _ (clients_kept s state is) m ∙ used))

  -- what is open in a state is so in its session
  in-session : (state : State) → Represents s state → (e : ℕ) (x : Endpoint) → named state.endpoints e ≡ Some x → named s.endpoints e ≡ Some x.state
  in-session state is e x here = sym (seen _ _ _ (endpoints_kept s state is) e) ∙ ap (option_map (λ (z : Endpoint). z.state)) here

  -- or the one is no OUT endpoint that is idle
  pub client-not_out : (state : State) → ((e : EndpointState) → named s.endpoints a ≡ Some e → e.pending ≡ [] → direction_of_address e.address ≡ Out → ⊥) → Represents s state → Gives s condition_line (client_answer state m a b)
  unfolding client_answer
  client-not_out state other is =
      barred-by s state (is_free state.clients m) (named state.endpoints a) (named state.endpoints b) (with_client state m a b) is
      (λ out inp here there.
      and_right (is_free state.clients m) (is_idle Out out.state && is_idle In inp.state)
      (and_left (is_idle Out out.state) (is_idle In inp.state) (not-true (is_idle Out out.state) (λ idle.
      let i = idle-is Out out.state idle in other out.state (in-session state is a out here) i.none i.direction))))

  -- or the other no IN endpoint that is
  pub client-not_in : (state : State) (out : EndpointState) → named s.endpoints a ≡ Some out → direction_of_address out.address ≡ Out
      → ((e : EndpointState) → named (freed s.endpoints a) b ≡ Some e → e.pending ≡ [] → direction_of_address e.address ≡ In → ⊥) → Represents s state → Gives s condition_line (client_answer state m a b)
  unfolding client_answer
  client-not_in state out first output other is =
      barred-by s state (is_free state.clients m) (named state.endpoints a) (named state.endpoints b) (with_client state m a b) is
      (λ o inp here there.
      and_right (is_free state.clients m) (is_idle Out o.state && is_idle In inp.state)
      (and_right (is_idle Out o.state) (is_idle In inp.state) (not-true (is_idle In inp.state) (λ idle.
      let i = idle-is In inp.state idle in
      let is_there = in-session state is b inp there in
      elim (cases_eq b a) [
        | inl same ↦
            let one_ : out ≡ inp.state = same_Some out inp.state (sym first ∙ ap (named s.endpoints) (sym same) ∙ is_there) in
            let wrong : Out ≡ In = sym output ∙ ap (λ (x : EndpointState). direction_of_address x.address) one_ ∙ i.direction in
            absurd (cc)
        | inr apart ↦ other inp.state (named-freed_other s.endpoints a b apart ∙ is_there) i.none i.direction
      ]))))

-- what was taken out is put back, the other first
pub both-back : {X : Type 0} (xs mid last : List (Option X)) (a b : ℕ) (x y : X) → named xs a ≡ Some x → named (freed xs a) b ≡ Some y → mid ≡ set_name (freed (freed xs a) b) b y → last ≡ set_name mid a x → last ≡ xs
both-back xs mid last a b x y first second put last_is =
    let one_ : mid ≡ freed xs a = put ∙ put-back (freed xs a) b y second in
    last_is ∙ ap (λ l. set_name l a x) one_ ∙ put-back xs a x first
