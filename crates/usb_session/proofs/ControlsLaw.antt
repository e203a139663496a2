-- The control transfers of a whole script.
use Rattle.std.proofs.Common.{◌≡◌, ◌≢◌, ℕ, ◌<◌, ◌+◌, zero, suc, arith, List, [], ◌∷◌, ◌++◌, map, length, Option, Some, None, refl, ap, sym, ◌∙◌, append-nil, inl, inr}
use Rattle.std.specs.Prelude.{All, option_and_then, slice_get}
use Rattle.std.proofs.lemmas.Bool.{cases_eq, cases_lt}
use Rattle.std.proofs.lemmas.List.{length-replicate, map-append}
use Rattle.std.proofs.lemmas.List.Elements.{All-append, All-nil}
use Rattle.std.proofs.lemmas.Option.{none-some}
use Rattle.usb_kernel.proofs.Extends.{extends-same}
use Rattle.usb_device.specs.Futures.{FutureState}
use Rattle.usb_device_ledger.specs.EndedTickets.{ended_at}
use Rattle.usb_device_host.specs.HostState.{HostState}
use Rattle.usb_device_host.specs.Finishes.{HasEnds}
use Rattle.usb_session_calls.specs.Names.{named, freed}
use Rattle.usb_session_calls.proofs.NameLemmas.{named-freed, named-freed_other, named-past}
use Rattle.usb_script_lines.specs.declared.item.Item.{Item}
use Rattle.usb_session_calls.specs.State.{State}
use Rattle.usb_session_calls.specs.Calls.{call_of}
use Rattle.usb_session.specs.Answers.{answer}
use Rattle.usb_session_calls.specs.EndpointNames.{EndpointName}
use Rattle.usb_session_calls.specs.Closes.{closed}
use Rattle.usb_session_calls.specs.Readers.{reader_closed}
use Rattle.usb_session_calls.specs.Writers.{writer_closed}
use Rattle.usb_session_calls.specs.Clients.{client_closed}
use Rattle.usb_session.specs.Below.{below}
use Rattle.usb_session.specs.Ends.{clients_closed, readers_closed, writers_closed, endpoints_closed, future_closed_at, future_closed_under, futures_closed, ended, all_closed}
use Rattle.usb_session.specs.Output.{start, behind, last_host, final_host}
use Rattle.usb_session.specs.Served.{ClosedEndpoint, client_closed_under, control_ticket, control_tickets_from, control_tickets}
use Rattle.usb_session.specs.ControlAnswers.{ControlAnswer, listed, answered_by, control_answers_from, control_answers}
use Rattle.usb_session.specs.ClosedFutures.{ClosedFuture, future_closed_as, future_closed_by, futures_at_end, closed_futures_from, closed_futures}
use Rattle.usb_session.specs.ControlsServed.{IsAnsweredAsItCame, IsGivenUp, tickets_parted, ScriptsServeControls}
use Rattle.usb_session.proofs.Views.{view_of}
use Rattle.usb_session.proofs.Does.{Closing, Parted, handed_of, parted_of, parted-handed, parted-parted}
use Rattle.usb_session.proofs.ControlLines.{future_parted, parted_by, control_moves, moves_parting, future_closed_under-does}
use Rattle.usb_session.proofs.EndpointLines.{closed-does}
use Rattle.usb_session.proofs.ReaderDoes.{reader_closed-does}
use Rattle.usb_session.proofs.WriterDoes.{writer_closed-does}
use Rattle.usb_session.proofs.ClientDoes.{client_closed-does}
use Rattle.usb_session.proofs.EveryLine.{answer-does}
use Rattle.usb_session.proofs.OrderLemmas.{goes-keeps, ended-given, given-within}
use Rattle.usb_session.proofs.TimesLemmas.{times, times-append, counts-times, times_awaited, awaited-none}
use Rattle.usb_session.proofs.StepLemmas.{Inv, below-step, answer-step, handed-moves, none-handed, future_closed-step}
use Rattle.usb_session.proofs.HandleLemmas.{readers_shut, writers_shut, own_shut, clients-step, readers-step, writers-step, ends-step, futures-step, end-quiet, inv-start, inv-of, runs-go}
use Rattle.usb_session.proofs.RunLemmas.{no-future_start}
use Rattle.usb_session.proofs.FuturesAwaited.{AllAwait, Parting, parting-then, parting-same, acts-parting}
use Rattle.usb_session.proofs.ControlCame.{tickets_told, tickets_closed, future-given, both_by, both-parted, Came, came-on, Gave, gave-on, answer-tells, answer-came, answer-gives, closed_under-gives}

told-append : (t : ℕ) (xs ys : List ControlAnswer) → times t (tickets_told (xs ++ ys)) ≡ times t (tickets_told xs) + times t (tickets_told ys)
told-append t xs ys = ap (times t) (map-append (λ (x : ControlAnswer). x.ticket) xs ys) ∙ times-append t (tickets_told xs) (tickets_told ys)

closed-append : (t : ℕ) (xs ys : List ClosedFuture) → times t (tickets_closed (xs ++ ys)) ≡ times t (tickets_closed xs) + times t (tickets_closed ys)
closed-append t xs ys = ap (times t) (map-append (λ (x : ClosedFuture). x.ticket) xs ys) ∙ times-append t (tickets_closed xs) (tickets_closed ys)

-- over a line
line-parting : (state : State) (line : Item) → Inv (view_of state) → AllAwait (view_of state) → Parting (view_of state) (view_of (answer state line).state) (control_moves state (call_of line) (answer state line))
line-parting state line inv all = acts-parting (answer-does state (λ e. []) line) inv all

line-adds : (state : State) (line : Item) (t : ℕ) → Inv (view_of state) → AllAwait (view_of state)
    → times t (tickets_told (answered_by state (call_of line) (answer state line))) + times t (tickets_closed (future_closed_by state (call_of line) (answer state line))) + times_awaited t (answer state line).state.futures ≡ times_awaited t state.futures + times t (control_ticket state line)
line-adds state line t inv all =
    let a = answer state line in
    let call = call_of line in
    let parting = (line-parting state line inv all).adds t in
    let parted : times t (parted_of (control_moves state call a)) ≡ times t (parted_by state call a) = ap (times t) (parted-handed (control_ticket state line) (map Parted (parted_by state call a)) ∙ parted-parted (parted_by state call a)) in
    let handed : times t (handed_of (control_moves state call a)) ≡ times t (control_ticket state line) = ap (times t) (handed-moves state call a) in
    let both : times t (both_by state call a) ≡ times t (parted_by state call a) = ap (times t) (both-parted state call a) in
    let parts = times-append t (tickets_told (answered_by state call a)) (tickets_closed (future_closed_by state call a)) in
    omega arith

-- the end closes clients, readers, writers and endpoints
below-parting : (act : State → ℕ → State) (shut : State → (EndpointName → List (List ℕ)) → ℕ → List ClosedEndpoint) → Closing act shut → (state : State) (k : ℕ) → Inv (view_of state) → AllAwait (view_of state) → Parting (view_of state) (view_of (below act state k)) []
below-parting act shut closing state zero inv all = parting-same (view_of state) (view_of state) refl (extends-same state.host.kernel.past) all
below-parting act shut closing state (suc k) inv all =
    let first = below-parting act shut closing state k inv all in
    parting-then first (acts-parting (closing (below act state k) k (λ e. [])) (below-step act shut closing state (λ e. []) k inv).inv first.awaits)

-- and then the futures
record FuturesEnd (state : State) (k : ℕ) : Type 0 where
  awaits : AllAwait (view_of (futures_closed state k))
  adds : (t : ℕ) → times t (tickets_closed (futures_at_end state k)) + times_awaited t (futures_closed state k).futures ≡ times_awaited t state.futures
  names : length (futures_closed state k).futures ≡ length state.futures
  gives : All (Gave (futures_closed state k).host) (futures_at_end state k)

moves-parted : (o : Option FutureState) → parted_of (moves_parting o) ≡ future_parted o
moves-parted None = refl
moves-parted (Some f) = ap parted_of (append-nil (map Parted (listed f.ticket))) ∙ parted-parted (listed f.ticket)

futures-end : (state : State) (k : ℕ) → Inv (view_of state) → AllAwait (view_of state) → FuturesEnd state k
futures-end state zero inv all = record { awaits = all; adds = λ t. omega arith; names = refl; gives = All-nil (Gave state.host) }
futures-end state (suc k) inv all =
    let first = futures-end state k inv all in
    let now = futures_closed state k in
    let next = future_closed_under now k in
    let inv_now = (futures-step state k inv).inv in
    let gone = future_closed_as now.host.kernel.past (named now.futures k) in
    let parting = acts-parting (future_closed_under-does now k) inv_now first.awaits in
    record {
      awaits = parting.awaits;
      adds = λ t.
          let before = first.adds t in
          let here = parting.adds t in
          let parted : times t (parted_of (moves_parting (named now.futures k))) ≡ times t (tickets_closed gone) = ap (times t) (moves-parted (named now.futures k) ∙ sym (future-given now.host.kernel.past (named now.futures k))) in
          let handed : times t (handed_of (moves_parting (named now.futures k))) ≡ 0 = ap (times t) (none-handed (named now.futures k)) in
          let all_ = closed-append t (futures_at_end state k) gone in omega arith;
      names = parting.names ∙ first.names;
      gives = All-append (Gave next.host) (futures_at_end state k) gone (gave-on now.host next.host (futures_at_end state k) (future_closed-step now k inv_now).goes first.gives) (closed_under-gives now k inv_now);
    }

-- which leaves none open
closed_at-none : (state : State) (n m : ℕ) (o : Option FutureState) → named state.futures n ≡ o → (m ≢ n → named state.futures m ≡ None) → named (future_closed_at state n o).futures m ≡ None
closed_at-none state n m None here others = elim (cases_eq m n) [ inl same ↦ ap (named state.futures) same ∙ here | inr apart ↦ others apart ]
closed_at-none state n m (Some f) here others =
    elim (cases_eq m n) [
      | inl same ↦ ap (named (freed state.futures n)) same ∙ named-freed state.futures n
      | inr apart ↦ named-freed_other state.futures n m apart ∙ others apart
    ]

none-future : (state : State) (k n : ℕ) → n < k → named (futures_closed state k).futures n ≡ None
unfolding future_closed_under
none-future state zero n below = absurd (omega arith)
none-future state (suc k) n below =
    let now = futures_closed state k in
    closed_at-none now k n (named now.futures k) refl (λ apart. none-future state k n (lower k n apart below))
  where
    lower : (k n : ℕ) → n ≢ k → n < suc k → n < k
    lower k n apart small = omega arith

-- what these items and the end of the session make of control transfers
record ControlRun (state : State) (items : List Item) : Type 0 where
  adds : (t : ℕ) → times t (tickets_told (control_answers_from state items)) + times t (tickets_closed (closed_futures_from state items)) ≡ times_awaited t state.futures + times t (control_tickets_from state items)
  came : All (Came (last_host state items)) (control_answers_from state items)
  gives : All (Gave (last_host state items)) (closed_futures_from state items)

control-end : (state : State) → Inv (view_of state) → AllAwait (view_of state) → length state.futures ≡ 64 → ControlRun state []
unfolding ended all_closed
control-end state inv all names =
    let messaged = clients_closed state 64 in
    let read = readers_closed messaged 64 in
    let written = writers_closed read 64 in
    let mid = endpoints_closed written 64 in
    let last = futures_closed mid 64 in
    let zero_ = below-parting client_closed client_closed_under client_closed-does state 64 inv all in
    let inv_messaged = (clients-step state (λ e. []) 64 inv).inv in
    let one_ = parting-then zero_ (below-parting reader_closed readers_shut reader_closed-does messaged 64 inv_messaged zero_.awaits) in
    let inv_read = (readers-step messaged (λ e. []) 64 inv_messaged).inv in
    let two = parting-then one_ (below-parting writer_closed writers_shut writer_closed-does read 64 inv_read one_.awaits) in
    let inv_written = (writers-step read (λ e. []) 64 inv_read).inv in
    let three = parting-then two (below-parting closed own_shut closed-does written 64 inv_written two.awaits) in
    let inv_mid = (ends-step written (λ e. []) 64 inv_written).inv in
    let futures = futures-end mid 64 inv_mid three.awaits in
    record {
      adds = λ t.
          let before = three.adds t in
          let here = futures.adds t in
          let none = awaited-none t last.futures (λ n. elim (cases_lt n 64) [
            | inl below ↦ none-future mid 64 n below
            | inr beyond ↦ named-past last.futures n (omega (arith, beyond, futures.names, three.names, names))
          ]) in omega arith;
      came = All-nil (Came (last_host state []));
      gives = gave-on last.host (last_host state []) (futures_at_end mid 64) (goes-keeps last.host (last_host state []) (end-quiet last).keeps) futures.gives;
    }

control-runs : (state : State) (items : List Item) → Inv (view_of state) → AllAwait (view_of state) → length state.futures ≡ 64 → ControlRun state items
control-runs state [] inv all names = control-end state inv all names
control-runs state (line ∷ items) inv all names =
    let a = answer state line in
    let next = a.state in
    let step = answer-step state (λ e. []) line inv in
    let parting = line-parting state line inv all in
    let rest = control-runs next items step.inv parting.awaits (parting.names ∙ names) in
    let last = last_host next items in
    let goes = runs-go next items step.inv in
    let told_now = answered_by state (call_of line) a in
    let given_now = future_closed_by state (call_of line) a in
    record {
      adds = λ t.
          let here = line-adds state line t inv all in
          let later = rest.adds t in
          let told_all = told-append t told_now (control_answers_from next items) in
          let given_all = closed-append t given_now (closed_futures_from next items) in
          let handed = times-append t (control_ticket state line) (control_tickets_from next items) in omega arith;
      came = All-append (Came last) told_now (control_answers_from next items) (λ k d below. came-on next.host last _ goes (answer-came state line inv all k d below)) rest.came;
      gives = All-append (Gave last) given_now (closed_futures_from next items) (gave-on next.host last given_now goes (answer-gives state line inv)) rest.gives;
    }

-- before the first line no future is open
pub none-await : (items : List Item) → AllAwait (view_of (start items))
none-await items n f is = absurd (none-some f (sym (no-future_start items n) ∙ is))

start-futures : (items : List Item) → length (start items).futures ≡ 64
unfolding start
start-futures items = length-replicate {A = Option FutureState} 64 None

pub await-behind : (state : State) (items : List Item) → Inv (view_of state) → AllAwait (view_of state) → AllAwait (view_of (behind state items))
await-behind state [] inv all = all
await-behind state (line ∷ items) inv all = await-behind (answer state line).state items (answer-step state (λ e. []) line inv).inv (line-parting state line inv all).awaits

came-last : (last : HostState) (x : ControlAnswer) → Came last x → IsAnsweredAsItCame last x
came-last last x was = record { completion = was.completion; came = was.came; told = was.told_; taken = ap (option_and_then ended_at) was.taken }

given-last : (last : HostState) (x : ClosedFuture) → HasEnds last.tickets → Gave last x → IsGivenUp last x
given-last last x ends was = ended-given x.past x.ticket (slice_get last.tickets x.ticket) (ends x.ticket (given-within x.past last.tickets x.ticket was)) was

pub scripts-serve_controls : ScriptsServeControls
unfolding control_answers closed_futures control_tickets final_host
scripts-serve_controls items ends =
    let run = control-runs (start items) items (inv-start items) (none-await items) (start-futures items) in
    let last = last_host (start items) items in
    let answers = control_answers_from (start items) items in
    let closed = closed_futures_from (start items) items in
    record {
      answered = λ k d below. came-last last _ (run.came k d below);
      closed = λ k d below. given-last last _ ends (run.gives k d below);
      once = λ t.
          let all = run.adds t in
          let none = awaited-none t (start items).futures (no-future_start items) in
          let parts = times-append t (tickets_told answers) (tickets_closed closed) in
          let same : times t (tickets_parted answers closed) ≡ times t (control_tickets_from (start items) items) = omega arith in
          counts-times t (tickets_parted answers closed) ∙ (same ∙ sym (counts-times t (control_tickets_from (start items) items)));
      others = λ before after line is answers_ none. (answer-tells (behind (start items) before) line (inv-of items before) (await-behind (start items) before (inv-start items) (none-await items)) answers_).others none;
    }
