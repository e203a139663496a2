-- What lines print of the tickets that they take.
use Rattle.std.proofs.Common.{◌≡◌, ◌≢◌, ℕ, List, [], ◌∷◌, ◌++◌, Some, refl, ap, sym, ◌∙◌}
use Rattle.usb_xfer.specs.declared.transfer.Completion.{Completion}
use Rattle.usb_kernel.specs.declared.event.Event.{Event}
use Rattle.usb_kernel.specs.Extends.{Extends}
use Rattle.usb_kernel.specs.TransferCompletions.{transfer_completion}
use Rattle.usb_device_host.specs.TicketEnds.{host_taken}
use Rattle.usb_session_text.specs.Completions.{done_line}
use Rattle.usb_session_calls.specs.EndpointNames.{EndpointName, Own, endpoint_under}
use Rattle.usb_session_calls.specs.State.{State, Endpoint, tickets_of, with_host}
use Rattle.usb_session_calls.specs.Answer.{Answer}
use Rattle.usb_session_calls.specs.Polls.{front_taken}
use Rattle.usb_session.specs.Futures.{with_future}
use Rattle.usb_session.specs.Answers.{answer}
use Rattle.usb_session.specs.Output.{start, behind, final_host}
use Rattle.usb_session.specs.Served.{ClosedEndpoint}
use Rattle.usb_session.specs.Printed.{TookAndPrinted, ScriptsPrintCompletions}
use Rattle.usb_session.proofs.Views.{View, view_of, tickets_seen, hosted, future_started, without_future_of, taken_in}
use Rattle.usb_session.proofs.Does.{Quiet, Changes, ControlMove, Acts, goes, opens, submits, reads, starts, controls, frees, takes, settles}
use Rattle.usb_session.proofs.EveryLine.{answer-does}
use Rattle.usb_session.proofs.PrintLemmas.{transfer-stays, taken-of}
use Rattle.usb_session.proofs.TakeLemmas.{TakesNone, taken_by, none-quiet, none-same, none-opened, none-submitted, take-extends, not-done}
use Rattle.usb_session.proofs.HandleLemmas.{goes-last}

-- the same of what acts change of a state
record TookOf (last : List Event) (before : View) (a : Answer) : Type 0 where
  name : EndpointName
  entry : Endpoint
  ticket : ℕ
  completion : Completion
  open_behind : endpoint_under a.state name ≡ Some entry
  taken : entry.taken ≡ taken_in before name ++ ticket ∷ []
  others : (d : EndpointName) → d ≢ name → taken_in (view_of a.state) d ≡ taken_in before d
  came : transfer_completion last ticket ≡ Some completion
  printed : a.line ≡ done_line completion

-- what was taken before is the same
took-before : (last : List Event) (old new : View) (a : Answer) → ((d : EndpointName) → TakesNone old new d) → TookOf last new a → TookOf last old a
took-before last old new a before p =
    record {
      name = p.name;
      entry = p.entry;
      ticket = p.ticket;
      completion = p.completion;
      open_behind = p.open_behind;
      taken = p.taken ∙ ap (λ l. l ++ p.ticket ∷ []) (before p.name).taken;
      others = λ d apart. p.others d apart ∙ (before d).taken;
      came = p.came;
      printed = p.printed;
    }

-- a ticket is taken, and its completion printed
took-now : {next : View} (last : List Event) (a : Answer) (v : View) (e : EndpointName) (t : ℕ) (h : Endpoint) (c : Completion) → v.opened e ≡ Some h → transfer_completion v.host.kernel.past t ≡ Some c → a.line ≡ done_line c
    → Changes v next (host_taken v.host t) e (Some (front_taken t h)) → Quiet next (view_of a.state) → Extends a.state.host.kernel.past last → TookOf last v a
took-now last a v e t h c here came line changes quiet goes_on =
    let past = a.state.host.kernel.past in
    record {
      name = e;
      entry = front_taken t h;
      ticket = t;
      completion = c;
      open_behind = quiet.endpoints e ∙ changes.endpoints.here;
      taken = ap (λ l. l ++ t ∷ []) (sym (taken-of v e h here));
      others = λ d apart. ap taken_by (quiet.endpoints d ∙ changes.endpoints.others d apart);
      came = transfer-stays past last t c goes_on (transfer-stays v.host.kernel.past past t c (take-extends t changes quiet) came);
      printed = line;
    }

acts-printed : {a : Answer} {v : View} {closed : List ClosedEndpoint} {handed : List ControlMove} (last : List Event) → Extends a.state.host.kernel.past last → Acts a v closed handed → (c : Completion) → a.line ≡ done_line c → TookOf last v a
acts-printed {a} {v} last on (goes {next = mid} quiet rest) c is = took-before last v mid a (λ d. none-quiet d quiet) (acts-printed last on rest c is)
acts-printed {a} last on (reads e t ts h stream here front other changes rest) c is = absurd (not-done a.line c other is)
acts-printed {a} {v} last on (opens {next = mid} e x free empty fresh some changes rest) c is = took-before last v mid a (none-opened (Own e) x free fresh changes) (acts-printed last on rest c is)
acts-printed {a} {v} last on (submits {next = mid} e deadline b h here changes rest) c is = took-before last v mid a (none-submitted e (tickets_seen v) h here changes) (acts-printed last on rest c is)
acts-printed {a} {v} last on (starts n request timeout device free rest) c is = took-before last v (future_started v n request timeout device) a (λ d. none-same v (future_started v n request timeout device) d refl) (acts-printed last on rest c is)
acts-printed {a} {v} last on (controls host one adds rest) c is = took-before last v (hosted v host) a (λ d. none-same v (hosted v host) d refl) (acts-printed last on rest c is)
acts-printed {a} {v} last on (frees n f host here parts rest) c is = took-before last v (without_future_of v host n) a (λ d. none-same v (without_future_of v host n) d refl) (acts-printed last on rest c is)
acts-printed {a} {v} last on (takes e t ts h c here front came line changes quiet) _ is = took-now last a v e t h c here came line changes quiet on
acts-printed {a} last on (settles other rest) c is = absurd (not-done a.line c other is)

took-of : (last : List Event) (state : State) (a : Answer) → TookOf last (view_of state) a → TookAndPrinted last state a
took-of last state a p =
    record {
      name = p.name;
      entry = p.entry;
      ticket = p.ticket;
      completion = p.completion;
      open_behind = p.open_behind;
      taken = p.taken;
      others = p.others;
      came = p.came;
      printed = p.printed;
    }

pub scripts-print : ScriptsPrintCompletions
scripts-print items before after item c is line =
    let state = behind (start items) before in
    took-of (final_host items).kernel.past state (answer state item) (acts-printed (final_host items).kernel.past (goes-last items before after item is).past (answer-does state (λ e. []) item) c line)
