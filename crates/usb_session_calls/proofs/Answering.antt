-- Answers of a session, from what the code's parts do and from what it keeps of a state.
use Rattle.std.proofs.Common.{◌≡◌, ℕ, List, ◌++◌, Option, Some, None, Result, Ok, Err, refl, ap, sym, ◌∙◌, subst}
use Rattle.std.specs.Prelude.{OnOk}
use Rattle.std.specs.Option.{option_map}
use Rattle.usb_session_text.specs.Calls.{condition_line}
use Rattle.usb_session_calls.specs.Names.{is_free}
use Rattle.usb_io.specs.Readers.{ReaderState}
use Rattle.usb_io.specs.Writers.{WriterState}
use Rattle.usb_msg.specs.Clients.{ClientState}
use Rattle.usb_session_calls.specs.State.{State, Endpoint, Reader, Writer, Client, endpoint_of_reader, endpoint_of_writer, endpoint_of_client_writer, endpoint_of_client_reader}
use Rattle.usb_session_calls.specs.EndpointNames.{EndpointName, endpoint_under}
use Rattle.usb_session_calls.proofs.EndpointNameLemmas.{held-seen}
use Rattle.usb_session_calls.specs.Answer.{Answer, answer_with, condition_answer, if_open}
use Rattle.usb_session_calls.specs.Answered.{Answered}
use Rattle.usb_session_calls.specs.SessionState.{SessionState, open_under}
use Rattle.usb_session_calls.specs.Relation.{Represents}
use Rattle.usb_session_calls.proofs.NameLemmas.{is_free-map}

-- a session stands for the state behind an answer, which prints this line
pub record Gives (s : SessionState) (line : List ℕ) (a : Answer) : Type 0 where
  pub state : Represents s a.state
  pub same : a.line ≡ line

-- the line is printed, and the session went on
pub answers : {E : Type 0} {whole s now : SessionState} {line : List ℕ} {f : State → Answer} (before after : List ℕ) (r : Result Unit E) → s ≡ whole → OnOk r (after ≡ before ++ line) → ((state : State) → Represents s state → Gives now line (f state)) → OnOk r ((state : State) → Represents whole state → Answered now before after (f state))
answers {s = s} before after (Ok done) view text gives = λ state r.
    let g = gives state (subst (λ (v : SessionState). Represents v state) (sym view) r) in
    record { state = g.state; line = text ∙ ap (λ l. before ++ l) (sym g.same) }
answers before after (Err error) view text gives = tt

-- or is as it was
pub answers-same : {E : Type 0} {whole s : SessionState} {line : List ℕ} {f : State → Answer} (before after : List ℕ) (r : Result Unit E) → s ≡ whole → OnOk r (after ≡ before ++ line) → ((state : State) → Represents s state → Gives s line (f state)) → OnOk r ((state : State) → Represents whole state → Answered whole before after (f state))
answers-same {line = line} {f = f} before after r view text gives =
    answers before after r view text (λ state is. subst (λ (v : SessionState). Gives v line (f state)) view (gives state is))

-- a barred call
pub barred-gives : (s : SessionState) (state : State) → Represents s state → Gives s condition_line (condition_answer state)
barred-gives s state r = record { state = r; same = refl }

-- what was asked is told, or the call is barred
pub told-answered : (s : SessionState) (state : State) (before after line : List ℕ) → Represents s state → after ≡ before ++ line → Answered s before after (answer_with state line)
told-answered s state before after line r is = record { state = r; line = is }

-- nothing is open under the name, or something is
pub answered-none : {X : Type 0} (s : SessionState) (before after : List ℕ) (o : Option X) (call : X → Answer) (otherwise : Answer) → o ≡ None → Answered s before after otherwise → Answered s before after (if_open o call otherwise)
answered-none s before after o call otherwise none is = subst (λ p. Answered s before after (if_open p call otherwise)) (sym none) is

pub answered-some : {X : Type 0} (s : SessionState) (before after : List ℕ) (o : Option X) (x : X) (call : X → Answer) (otherwise : Answer) → o ≡ Some x → Answered s before after (call x) → Answered s before after (if_open o call otherwise)
answered-some s before after o x call otherwise some is = subst (λ p. Answered s before after (if_open p call otherwise)) (sym some) is

-- the host is the state's
pub host_is : (s : SessionState) (state : State) → Represents s state → s.host ≡ state.host
host_is s state r = ap (λ (v : SessionState). v.host) r

-- a name is free in both, or in none
pub free_kept : (s : SessionState) (state : State) (e : ℕ) → Represents s state → is_free s.endpoints e ≡ is_free state.endpoints e
free_kept s state e r = ap (λ (v : SessionState). is_free v.endpoints e) r ∙ is_free-map (λ (x : Endpoint). x.state) state.endpoints e

-- of an endpoint that is open the session keeps what its calls see
pub under_kept : (s : SessionState) (state : State) (e : EndpointName) → Represents s state → open_under s e ≡ option_map (λ (x : Endpoint). x.state) (endpoint_under state e)
under_kept s state e r =
    ap (λ (v : SessionState). open_under v e) r
    ∙ held-seen (λ (x : Endpoint). x.state) (λ (x : Reader). x.state) (λ (x : Writer). x.state) (λ (x : Client). x.state)
    endpoint_of_reader endpoint_of_writer endpoint_of_client_writer endpoint_of_client_reader
    (λ (x : ReaderState). x.endpoint) (λ (x : WriterState). x.endpoint) (λ (x : ClientState). x.writer.endpoint) (λ (x : ClientState). x.reader.endpoint)
    (λ x. refl) (λ x. refl) (λ x. refl) (λ x. refl) state.endpoints state.readers state.writers state.clients e
