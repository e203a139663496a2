-- An answer that takes a ticket prints its completion, and a completion is printed only by one that does.
use Rattle.std.proofs.Common.{◌≡◌, ◌≢◌, ℕ, Bool, List, [], ◌∷◌, ◌++◌, Option, Some, None, true, false, refl, ap, sym, ◌∙◌, subst, inl, inr}
use Rattle.std.specs.Option.{option_map_or}
use Rattle.std.proofs.lemmas.Option.{same_Some}
use Rattle.usb_xfer.specs.declared.transfer.Completion.{Completion}
use Rattle.usb_kernel.specs.Extends.{Extends}
use Rattle.usb_kernel.specs.TransferCompletions.{transfer_completion}
use Rattle.usb_device_host.specs.HostState.{HostState}
use Rattle.usb_device_host.specs.TicketEnds.{host_taken}
use Rattle.usb_device_host.proofs.FollowLemmas.{taken-past}
use Rattle.usb_session_text.specs.Completions.{done_line}
use Rattle.usb_script_lines.specs.declared.item.Item.{Item}
use Rattle.usb_session_calls.specs.EndpointNames.{EndpointName, Own, endpoint_under}
use Rattle.usb_session_calls.specs.State.{State, Endpoint}
use Rattle.usb_session_calls.specs.Answer.{Answer}
use Rattle.usb_session_calls.specs.Submits.{with_submission}
use Rattle.usb_session_calls.specs.Polls.{front_taken}
use Rattle.usb_session.specs.Answers.{answer}
use Rattle.usb_session.specs.Served.{ClosedEndpoint}
use Rattle.usb_session.specs.Places.{CompletionsAreTaken}
use Rattle.usb_session_calls.proofs.EndpointNameLemmas.{cases_name, changed-back, changed-gone}
use Rattle.usb_session.proofs.Views.{View, view_of, tickets_seen, hosted, future_started, without_future_of, taken_in, streamed_in}
use Rattle.usb_session.proofs.Does.{Quiet, Changes, IsStream, ControlMove, Acts, Settles, says_done, goes, opens, submits, reads, starts, controls, frees, takes, settles, still, closes, moves}
use Rattle.usb_session.proofs.EveryLine.{answer-does}
use Rattle.usb_session.proofs.PrintLemmas.{transfer-stays, taken-of, read-under, Takes, none, next}
use Rattle.usb_session.proofs.StepLemmas.{Inv, step-quiet, step-open, step-push, step-take, step-close, step-move, step-start, step-control, step-free, answer-step}

-- the tickets that were taken
abbrev pub taken_by : Option Endpoint → List ℕ
taken_by o = option_map_or (λ (h : Endpoint). h.taken) o []

abbrev read_by : Option Endpoint → Bool
read_by o = option_map_or (λ (h : Endpoint). h.was_streamed) o false

-- of what is open under a name no ticket more was taken, and a reader or writer that was made of it was so before
pub record TakesNone (old new : View) (e : EndpointName) : Type 0 where
  pub read : streamed_in new e ≡ false → streamed_in old e ≡ false
  pub taken : taken_in new e ≡ taken_in old e

none-then : {a b c : View} {e : EndpointName} → TakesNone a b e → TakesNone b c e → TakesNone a c e
none-then first second = record { read = λ none_read. first.read (second.read none_read); taken = second.taken ∙ first.taken }

pub none-same : (old new : View) (e : EndpointName) → new.opened e ≡ old.opened e → TakesNone old new e
none-same old new e same = record { read = λ none_read. ap read_by (sym same) ∙ none_read; taken = ap taken_by same }

pub none-quiet : {old new : View} (e : EndpointName) → Quiet old new → TakesNone old new e
none-quiet {old} {new} e quiet = none-same old new e (quiet.endpoints e)

none-other : {old new : View} {host : HostState} {e : EndpointName} {o : Option Endpoint} (d : EndpointName) → d ≢ e → Changes old new host e o → TakesNone old new d
none-other {old} {new} d apart changes = none-same old new d (changes.endpoints.others d apart)

pub none-opened : {state next : View} (e : EndpointName) (x : Endpoint) → state.opened e ≡ None → x.taken ≡ [] → Changes state next state.host e (Some x) → (d : EndpointName) → TakesNone state next d
none-opened {state} {next} e x free fresh changes d =
    elim (cases_name d e) [
      | inl same ↦ subst (TakesNone state next) (sym same) record { read = λ none_read. ap read_by free; taken = ap taken_by changes.endpoints.here ∙ (fresh ∙ sym (ap taken_by free)) }
      | inr apart ↦ none-other d apart changes
    ]

pub none-submitted : {state next : View} {host : HostState} (e : EndpointName) (n : ℕ) (h : Endpoint) → state.opened e ≡ Some h → Changes state next host e (Some (with_submission n h)) → (d : EndpointName) → TakesNone state next d
none-submitted {state} {next} e n h here changes d =
    let now = changes.endpoints.here in
    elim (cases_name d e) [
      | inl same ↦ subst (TakesNone state next) (sym same) record { read = λ none_read. ap read_by here ∙ (sym (ap read_by now) ∙ none_read); taken = ap taken_by now ∙ sym (ap taken_by here) }
      | inr apart ↦ none-other d apart changes
    ]

-- what was taken before
takes-before : {old new : View} {a : Answer} {e : EndpointName} {g : Endpoint} → TakesNone old new e → Takes new a e g → Takes old a e g
takes-before before (none none_read same) = none (before.read none_read) (same ∙ before.taken)
takes-before before (next t c none_read same came line) = next t c (before.read none_read) (same ∙ ap (λ l. l ++ t ∷ []) before.taken) came line

takes-none : (v : View) (a : Answer) (e : EndpointName) (g : Endpoint) → TakesNone v (view_of a.state) e → endpoint_under a.state e ≡ Some g → g.was_streamed ≡ false → Takes v a e g
takes-none v a e g before is unread = none (before.read (read-under (view_of a.state) e g is ∙ unread)) (sym (taken-of (view_of a.state) e g is) ∙ before.taken)

-- a ticket is taken
pub take-extends : {state mid last : View} {e : EndpointName} {o : Option Endpoint} (t : ℕ) → Changes state mid (host_taken state.host t) e o → Quiet mid last → Extends state.host.kernel.past last.host.kernel.past
take-extends {state} {mid} {last} t changes quiet =
    subst (λ p. Extends p last.host.kernel.past) (ap (λ (h : HostState). h.kernel.past) changes.host_is ∙ taken-past state.host t) quiet.keeps.past

takes-next : (state mid : View) (a : Answer) (e : EndpointName) (t : ℕ) (h g : Endpoint) (c : Completion) → state.opened e ≡ Some h → transfer_completion state.host.kernel.past t ≡ Some c → a.line ≡ done_line c
    → Changes state mid (host_taken state.host t) e (Some (front_taken t h)) → Quiet mid (view_of a.state) → endpoint_under a.state e ≡ Some g → g.was_streamed ≡ false → Takes state a e g
takes-next state mid a e t h g c here came line changes quiet is unread =
    let entry : front_taken t h ≡ g = same_Some (front_taken t h) g (sym changes.endpoints.here ∙ (sym (quiet.endpoints e) ∙ is)) in
    next t c (read-under state e h here ∙ (ap (λ (x : Endpoint). x.was_streamed) entry ∙ unread))
    (ap (λ (x : Endpoint). x.taken) (sym entry) ∙ ap (λ l. l ++ t ∷ []) (sym (taken-of state e h here)))
    (transfer-stays state.host.kernel.past a.state.host.kernel.past t c (take-extends t changes quiet) came) line

-- so it is of the endpoint of a reader or a writer
both-reads : (g : Endpoint) → g.was_streamed ≡ true → g.was_streamed ≡ false → ⊥
both-reads g yes_ no_ = let wrong : true ≡ false = sym yes_ ∙ no_ in cc

-- what is left at the end leaves of such an endpoint no ticket more taken
settles-keep : {last v : View} {closed : List ClosedEndpoint} → Settles last v closed → Inv v → (d : EndpointName) (g : Endpoint) → last.opened d ≡ Some g → g.was_streamed ≡ false → v.opened d ≡ Some g
settles-keep (still quiet) inv d g is unread = sym (quiet.endpoints d) ∙ is
settles-keep {v = v} (closes {next = mid} e h lines here changes rest) inv d g is unread =
    (changed-gone v.opened mid.opened e d g changes.endpoints (settles-keep rest (step-close e h lines inv here changes).inv d g is unread)).1
settles-keep {v = v} (moves {next = mid} from to h x here free same read moved rest) inv d g is unread =
    elim (changed-back moved.mid.opened mid.opened to d g x moved.put.endpoints (settles-keep rest (step-move from to h x inv here free same read moved).inv d g is unread)) [
      | inl there ↦ absurd (both-reads g (ap (λ (y : Endpoint). y.was_streamed) there.1 ∙ read (inv.read from h here)) unread)
      | inr apart ↦ (changed-gone v.opened moved.mid.opened from d g moved.gone.endpoints apart.1).1
    ]

acts-takes : {a : Answer} {v : View} {closed : List ClosedEndpoint} {handed : List ControlMove} → Inv (view_of a.state) → Acts a v closed handed → Inv v → (d : EndpointName) (g : Endpoint) → endpoint_under a.state d ≡ Some g → g.was_streamed ≡ false → Takes v a d g
acts-takes last (goes quiet rest) inv d g is unread = takes-before (none-quiet d quiet) (acts-takes last rest (step-quiet inv quiet).inv d g is unread)
acts-takes last (opens e x free empty fresh some changes rest) inv d g is unread =
    takes-before (none-opened (Own e) x free fresh changes d) (acts-takes last rest (step-open e x inv free empty fresh some changes).inv d g is unread)
acts-takes {v = v} last (submits e deadline b h here changes rest) inv d g is unread =
    takes-before (none-submitted e (tickets_seen v) h here changes d) (acts-takes last rest (step-push e deadline b h inv here changes).inv d g is unread)
acts-takes last (reads e t ts h stream here front other changes rest) inv d g is unread =
    elim (cases_name d e) [
      | inl same ↦ absurd (both-reads g (last.read d g is (subst IsStream (sym same) stream)) unread)
      | inr apart ↦ takes-before (none-other d apart changes) (acts-takes last rest (step-take e t ts h inv here front changes).inv d g is unread)
    ]
acts-takes {v = v} last (starts n request timeout device free rest) inv d g is unread =
    takes-before (none-same v (future_started v n request timeout device) d refl) (acts-takes last rest (step-start v n request timeout device inv free).inv d g is unread)
acts-takes {v = v} last (controls host one adds rest) inv d g is unread =
    takes-before (none-same v (hosted v host) d refl) (acts-takes last rest (step-control v host inv one (adds inv.count)).inv d g is unread)
acts-takes {v = v} last (frees n f host here parts rest) inv d g is unread =
    takes-before (none-same v (without_future_of v host n) d refl) (acts-takes last rest (step-free v n f host inv here parts).inv d g is unread)
acts-takes {a} {v} last (takes {next = mid} e t ts h c here front came line changes quiet) inv d g is unread =
    elim (cases_name d e) [
      | inl same ↦ subst (λ n. Takes v a n g) (sym same) (takes-next v mid a e t h g c here came line changes quiet (ap (endpoint_under a.state) (sym same) ∙ is) unread)
      | inr apart ↦ takes-none v a d g (none-then (none-other d apart changes) (none-quiet d quiet)) is unread
    ]
acts-takes {a} {v} last (settles other rest) inv d g is unread =
    takes-none v a d g (none-same v (view_of a.state) d (is ∙ sym (settles-keep rest inv d g is unread))) is unread

pub answer-takes : (state : State) (item : Item) → Inv (view_of state) → (e : EndpointName) (g : Endpoint) → endpoint_under (answer state item).state e ≡ Some g → g.was_streamed ≡ false → Takes (view_of state) (answer state item) e g
answer-takes state item inv = acts-takes (answer-step state (λ e. []) item inv).inv (answer-does state (λ e. []) item) inv

-- a line with a completion is printed only where a ticket is taken
pub not-done : (line : List ℕ) (c : Completion) → says_done line ≡ false → line ≡ done_line c → ⊥
unfolding done_line
not-done line c other is = let wrong : true ≡ false = sym (ap says_done is) ∙ other in cc

-- an answer takes a ticket from what is open under some name
abbrev TakesOneOf : View → Answer → Type 0
TakesOneOf v a = (e : EndpointName) × (t : ℕ) × (taken_in (view_of a.state) e ≡ taken_in v e ++ t ∷ [])

one-before : (old new : View) (a : Answer) → ((e : EndpointName) → TakesNone old new e) → TakesOneOf new a → TakesOneOf old a
one-before old new a before one = (one.0, one.1, one.2 ∙ ap (λ l. l ++ one.1 ∷ []) (before one.0).taken)

acts-done : {a : Answer} {v : View} {closed : List ClosedEndpoint} {handed : List ControlMove} → Acts a v closed handed → (c : Completion) → a.line ≡ done_line c → TakesOneOf v a
acts-done {a} {v} (goes {next = mid} quiet rest) c is = one-before v mid a (λ d. none-quiet d quiet) (acts-done rest c is)
acts-done {a} (reads e t ts h stream here front other changes rest) c is = absurd (not-done a.line c other is)
acts-done {a} {v} (opens {next = mid} e x free empty fresh some changes rest) c is = one-before v mid a (none-opened (Own e) x free fresh changes) (acts-done rest c is)
acts-done {a} {v} (submits {next = mid} e deadline b h here changes rest) c is = one-before v mid a (none-submitted e (tickets_seen v) h here changes) (acts-done rest c is)
acts-done {a} {v} (starts n request timeout device free rest) c is = one-before v (future_started v n request timeout device) a (λ d. none-same v (future_started v n request timeout device) d refl) (acts-done rest c is)
acts-done {a} {v} (controls host one adds rest) c is = one-before v (hosted v host) a (λ d. none-same v (hosted v host) d refl) (acts-done rest c is)
acts-done {a} {v} (frees n f host here parts rest) c is = one-before v (without_future_of v host n) a (λ d. none-same v (without_future_of v host n) d refl) (acts-done rest c is)
acts-done {v = v} (takes e t ts h c here front came line changes quiet) _ is =
    (e, t, ap taken_by (quiet.endpoints e ∙ changes.endpoints.here) ∙ ap (λ l. l ++ t ∷ []) (sym (taken-of v e h here)))
acts-done {a} (settles other rest) c is = absurd (not-done a.line c other is)

pub completions-taken : CompletionsAreTaken
completions-taken state item = acts-done (answer-does state (λ e. []) item)
