-- What a call makes of the order of tickets and of their places.
use Rattle.std.proofs.Common.{ℕ, zero, suc, arith, ◌≡◌, ◌<◌, ◌≢◌, ◌≤◌, ◌+◌, true, List, [], ◌∷◌, ◌++◌, map, length, slice_get, Option, Some, None, inl, inr, refl, sym, ◌∙◌, ap, subst, append-nil}
use Rattle.std.specs.Prelude.{All}
use Rattle.std.specs.List.Sorted.{IsStrictlyIncreasing}
use Rattle.std.proofs.lemmas.Bool.{cases_eq}
use Rattle.std.proofs.lemmas.Option.{none-some, same_Some}
use Rattle.std.proofs.lemmas.List.Concat.{flat_map-append}
use Rattle.std.proofs.lemmas.List.Elements.{All-append, All-nil, All-cons}
use Rattle.usb_xfer.specs.BufferState.{BufferState}
use Rattle.usb_kernel.specs.Tickets.{tickets}
use Rattle.usb_device_endpoint.specs.Submits.{entered}
use Rattle.usb_xfer.specs.declared.transfer.TransferData.{TransferData}
use Rattle.usb_device_host.specs.HostState.{HostState}
use Rattle.usb_device_host.specs.Controls.{control_submission, request_started}
use Rattle.usb_device_host.specs.HostCalls.{host_calls}
use Rattle.usb_device_host.specs.TicketEnds.{host_taken}
use Rattle.usb_device_host.proofs.CountLemmas.{KeepsCount, CountsOneMore, taken-count, closed-count, entered-count}
use Rattle.usb_device_host.proofs.FollowLemmas.{KeepsTickets, on-same, adds-entered, taken-others}
use Rattle.usb_device_host.proofs.StartedLemmas.{Parts, AddsTaken, adds-started, started-count}
use Rattle.usb_device.specs.Futures.{FutureState, fresh_future}
use Rattle.usb_script_lines.specs.declared.item.Item.{Item}
use Rattle.usb_session_calls.specs.declared.call.Call.{Call}
use Rattle.usb_session_calls.specs.Calls.{call_of}
use Rattle.usb_session_calls.specs.Names.{named, is_free, freed, set_name}
use Rattle.usb_session_calls.specs.EndpointNames.{EndpointName, Own}
use Rattle.usb_session_calls.specs.State.{State, Endpoint, tickets_at}
use Rattle.usb_session_calls.specs.Answer.{Answer}
use Rattle.usb_session_calls.specs.Polls.{front_taken}
use Rattle.usb_session_calls.specs.Submits.{with_submission}
use Rattle.usb_session.specs.Below.{below, given_below}
use Rattle.usb_session.specs.Ends.{future_closed_under}
use Rattle.usb_session.specs.Answers.{answer}
use Rattle.usb_session.specs.ControlAnswers.{listed}
use Rattle.usb_session.specs.Served.{ClosedEndpoint, tickets_of_all, closed_under, closed_by, control_ticket_by, control_ticket}
use Rattle.usb_session_calls.proofs.NameLemmas.{named-freed, named-freed_other, named-set, named-set_other}
use Rattle.usb_session_calls.proofs.EndpointNameLemmas.{Changed, changed-back, changed-gone}
use Rattle.usb_session.proofs.TimesLemmas.{one, times, times-append, among, among-once, times_open, times_awaited, listed-once, listed-apart, open-change, open-put, open-same, open-one, open-two, awaited-freed, awaited-set, awaited-one}
use Rattle.usb_session.proofs.OrderLemmas.{IsTaken, IsHeld, Stays, held-stays, stays-keeps, leaves-is, leaves-held, InOrder, times-parts, order-stays, order-keeps, order-fresh, order-push, order-within, order-takes, front-tickets, front-held, front-stands, stays-same, left_by, LeavesTickets, goes-keeps, goes-then, goes-taken, goes-left, IsClosed, closed-goes, closed-order, left-stays}
use Rattle.usb_session.proofs.Views.{View, view_of, tickets_seen, hosted, future_started, without_future_of}
use Rattle.usb_session.proofs.Does.{Quiet, quiet-same, Changes, MovesTo, IsStream, Closing, ControlMove, Handed, Parted, handed_of, handed-append, handed-handed, handed-parted, Acts, Settles, SameTickets, at-host, goes, opens, submits, reads, starts, controls, frees, takes, settles, still, closes, moves}
use Rattle.usb_session.proofs.ControlLines.{parted_by, control_moves, moves_parting, future_closed_under-does}
use Rattle.usb_session.proofs.EveryLine.{answer-does}

-- each open endpoint is in order, and has packets of some bytes; each ticket stands at one place at most, and that of a future is held. (Of what a reader, a
-- writer or a client holds one was made before)
pub record Inv (state : View) : Type 0 where
  pub order : (e : EndpointName) (h : Endpoint) → state.opened e ≡ Some h → InOrder state.host h
  pub once : (t : ℕ) → times_open t state + times_awaited t state.futures ≤ among t (tickets_seen state)
  pub waits : (n : ℕ) (f : FutureState) (t : ℕ) → named state.futures n ≡ Some f → f.ticket ≡ Some t → IsHeld state.host t
  pub count : length state.host.tickets ≡ tickets_seen state
  pub names : state.names ≡ record { own = 64; readers = 64; writers = 64; clients = 64 }
  pub read : (e : EndpointName) (h : Endpoint) → state.opened e ≡ Some h → IsStream e → h.was_streamed ≡ true
  pub some : (e : EndpointName) (h : Endpoint) → state.opened e ≡ Some h → 0 < h.state.maximum

-- a change of the state, the endpoints that it closes, and the tickets of the control transfers that it hands in
pub record Step (state next : View) (closed : List ClosedEndpoint) (handed : List ℕ) : Type 0 where
  pub goes : LeavesTickets state.host next.host
  pub inv : Inv next
  pub adds : (t : ℕ) → times t (tickets_of_all closed) + times t handed + times_open t next + among t (tickets_seen state) ≡ times_open t state + among t (tickets_seen next)
  pub closes : All (λ (c : ClosedEndpoint). IsClosed next.host c.endpoint c.past) closed

abbrev pub Closes : HostState → ClosedEndpoint → Type 0
Closes h c = IsClosed h c.endpoint c.past

pub closes-on : (old new : HostState) (xs : List ClosedEndpoint) → LeavesTickets old new → All (Closes old) xs → All (Closes new) xs
closes-on old new xs leaves all k d below = closed-goes old new _ _ leaves (all k d below)

pub all-tickets : (t : ℕ) (xs ys : List ClosedEndpoint) → times t (tickets_of_all (xs ++ ys)) ≡ times t (tickets_of_all xs) + times t (tickets_of_all ys)
all-tickets t xs ys = ap (times t) (flat_map-append (λ (h : ClosedEndpoint). tickets_at h.endpoint) xs ys) ∙ times-append t (tickets_of_all xs) (tickets_of_all ys)

pub step-then : {a b c : View} {xs ys : List ClosedEndpoint} {us vs : List ℕ} → Step a b xs us → Step b c ys vs → Step a c (xs ++ ys) (us ++ vs)
step-then {a} {b} {c} {xs} {ys} {us} {vs} first second =
    record {
      goes = goes-then a.host b.host c.host first.goes second.goes;
      inv = second.inv;
      adds = λ t. let one_ = first.adds t in let two = second.adds t in let parts = all-tickets t xs ys in let handed = times-append t us vs in omega arith;
      closes = All-append (Closes c.host) xs ys (closes-on b.host c.host xs second.goes first.closes) second.closes;
    }

pub step-after : {a b c : View} {xs : List ClosedEndpoint} {us : List ℕ} → Step a b xs us → Step b c [] [] → Step a c xs us
step-after {a} {c} {xs} {us} first second =
    subst (λ l. Step a c l us) (append-nil xs) (subst (Step a c (xs ++ [])) (append-nil us) (step-then first second))

among-kept : {old new : HostState} → KeepsCount old new → (t : ℕ) → among t (length (tickets new.kernel.past)) ≡ among t (length (tickets old.kernel.past))
among-kept count t = ap (among t) count.past

-- the tickets of futures stand in the lists of no endpoint, and of no other future
awaited-apart : (state : View) (n : ℕ) (f : FutureState) (t : ℕ) → Inv state → named state.futures n ≡ Some f → f.ticket ≡ Some t → times_open t state ≡ 0
awaited-apart state n f t inv is ticket =
    let here = listed-once f.ticket t ticket in
    let most = awaited-one t state.futures n f is in let all = inv.once t in let few = among-once t (tickets_seen state) in omega arith

waits-keeps : (state : View) (host : HostState) → Inv state → KeepsTickets state.host host → (n : ℕ) (f : FutureState) (t : ℕ) → named state.futures n ≡ Some f → f.ticket ≡ Some t → IsHeld host t
waits-keeps state host inv keeps n f t is ticket = held-stays state.host host t (stays-keeps state.host host t keeps) (inv.waits n f t is ticket)

-- each ticket stands once at most
stands-once : (state : View) (e : EndpointName) (h : Endpoint) (t : ℕ) → Inv state → state.opened e ≡ Some h → times t (tickets_at h) ≤ 1
stands-once state e h t inv here =
    let most = open-one t state e h here in let all = inv.once t in let few = among-once t (tickets_seen state) in omega arith

apart-two : (state : View) (d e : EndpointName) (g h : Endpoint) (t : ℕ) → Inv state → d ≢ e → state.opened d ≡ Some g → state.opened e ≡ Some h → times t (tickets_at g) + times t (tickets_at h) ≤ 1
apart-two state d e g h t inv apart first second =
    let most = open-two t state d e g h apart first second in let all = inv.once t in let few = among-once t (tickets_seen state) in omega arith

-- a change that leaves the futures
step-by : {state next : View} {closed : List ClosedEndpoint} {handed : List ℕ} → Inv state → next.futures ≡ state.futures → next.names ≡ state.names → LeavesTickets state.host next.host
    → ((e : EndpointName) (h : Endpoint) → next.opened e ≡ Some h → InOrder next.host h) → ((e : EndpointName) (h : Endpoint) → next.opened e ≡ Some h → IsStream e → h.was_streamed ≡ true)
    → ((e : EndpointName) (h : Endpoint) → next.opened e ≡ Some h → 0 < h.state.maximum)
    → ((n : ℕ) (f : FutureState) (t : ℕ) → named state.futures n ≡ Some f → f.ticket ≡ Some t → IsHeld next.host t) → length next.host.tickets ≡ tickets_seen next
    → ((t : ℕ) → times t (tickets_of_all closed) + times t handed + times_open t next + among t (tickets_seen state) ≡ times_open t state + among t (tickets_seen next))
    → All (Closes next.host) closed → Step state next closed handed
step-by {state} {next} inv futures names leaves order read some waits count adds shut =
    record {
      goes = leaves;
      inv = record {
        order = order;
        once = λ t. let was = inv.once t in let all = adds t in let f : times_awaited t next.futures ≡ times_awaited t state.futures = ap (times_awaited t) futures in omega arith;
        waits = λ n f t is ticket. waits n f t (ap (λ (l : List (Option FutureState)). named l n) (sym futures) ∙ is) ticket;
        count = count;
        names = names ∙ inv.names;
        read = read;
        some = some;
      };
      adds = adds;
      closes = shut;
    }

-- what is so of what is open under each name, once something was changed under one
put-all : {old new : EndpointName → Option Endpoint} {e : EndpointName} {y : Endpoint} (P : EndpointName → Endpoint → Type 0) → Changed old new e (Some y) → P e y → ((d : EndpointName) (g : Endpoint) → d ≢ e → old d ≡ Some g → P d g) → (d : EndpointName) (g : Endpoint) → new d ≡ Some g → P d g
put-all {old} {new} {e} {y} P changed here others d g is =
    elim (changed-back old new e d g y changed is) [
      | inl at ↦ subst (λ n. P n g) (sym at.0) (subst (λ (x : Endpoint). P e x) (sym at.1) here)
      | inr away ↦ others d g away.0 away.1
    ]

gone-all : {old new : EndpointName → Option Endpoint} {e : EndpointName} (P : EndpointName → Endpoint → Type 0) → Changed old new e None → ((d : EndpointName) (g : Endpoint) → d ≢ e → old d ≡ Some g → P d g) → (d : EndpointName) (g : Endpoint) → new d ≡ Some g → P d g
gone-all {old} {new} {e} P gone others d g is = let was = changed-gone old new e d g gone is in others d g was.0 was.1

abbrev Ordered : HostState → EndpointName → Endpoint → Type 0
Ordered host e h = InOrder host h

abbrev WasRead : EndpointName → Endpoint → Type 0
WasRead e h = IsStream e → h.was_streamed ≡ true

abbrev HasPackets : EndpointName → Endpoint → Type 0
HasPackets e h = 0 < h.state.maximum

-- the host goes on
pub step-quiet : {state next : View} → Inv state → Quiet state next → Step state next [] []
step-quiet {state} {next} inv quiet =
    step-by inv quiet.futures quiet.names (goes-keeps state.host next.host quiet.keeps)
    (λ e h is. order-keeps state.host next.host h quiet.keeps (inv.order e h (sym (quiet.endpoints e) ∙ is)))
    (λ e h is. inv.read e h (sym (quiet.endpoints e) ∙ is)) (λ e h is. inv.some e h (sym (quiet.endpoints e) ∙ is))
    (waits-keeps state next.host inv quiet.keeps) (quiet.count.count ∙ inv.count ∙ sym quiet.count.past)
    (λ t. let same = open-same t state next quiet.names quiet.endpoints in let b = among-kept quiet.count t in omega arith) (All-nil (Closes next.host))

-- an endpoint is opened
pub step-open : {state next : View} (e : ℕ) (x : Endpoint) → Inv state → state.opened (Own e) ≡ None → x.state.pending ≡ [] → x.taken ≡ [] → 0 < x.state.maximum → Changes state next state.host (Own e) (Some x) → Step state next [] []
step-open {state} e x inv free none fresh some changes =
    at-host (λ s. Step state s [] []) changes
    (step-by inv changes.futures changes.names (goes-keeps state.host state.host (on-same state.host))
    (put-all (Ordered state.host) changes.endpoints (order-fresh state.host x none fresh) (λ d g apart is. inv.order d g is))
    (put-all WasRead changes.endpoints (λ stream. absurd stream) (λ d g apart is. inv.read d g is))
    (put-all HasPackets changes.endpoints some (λ d g apart is. inv.some d g is))
    inv.waits inv.count
    (λ t. let put = open-put t changes x free refl in let parts = times-parts x t in let first : times t x.taken ≡ 0 = ap (times t) fresh in let rest : times t x.state.pending ≡ 0 = ap (times t) none in omega arith) (All-nil (Closes state.host)))

-- a ticket is submitted
pub step-push : {state next : View} (e : EndpointName) (deadline : Option ℕ) (b : BufferState) (h : Endpoint) → Inv state → state.opened e ≡ Some h → Changes state next (entered host_calls state.host h.state deadline b) e (Some (with_submission (tickets_seen state) h)) → Step state next [] []
step-push {state} e deadline b h inv here changes =
    let n = tickets_seen state in
    let host = entered host_calls state.host h.state deadline b in
    let adds = adds-entered state.host h.state deadline b in
    let count = entered-count state.host h.state deadline b in
    let many : length (tickets host.kernel.past) ≡ suc n = omega (arith, count.past) in
    let new : IsHeld host n = record { hold = adds.hold; is = ap (slice_get host.tickets) (sym inv.count) ∙ adds.last } in
    at-host (λ s. Step state s [] []) changes
    (step-by inv changes.futures changes.names (goes-keeps state.host host adds.goes)
    (put-all (Ordered host) changes.endpoints
    (order-push host h n (subst (λ m. All (λ u. u < m) (tickets_at h)) inv.count (order-within state.host h (inv.order e h here))) new (order-keeps state.host host h adds.goes (inv.order e h here)))
    (λ d g apart is. order-keeps state.host host g adds.goes (inv.order d g is)))
    (put-all WasRead changes.endpoints (inv.read e h here) (λ d g apart is. inv.read d g is))
    (put-all HasPackets changes.endpoints (inv.some e h here) (λ d g apart is. inv.some d g is))
    (waits-keeps state host inv adds.goes) (count.count ∙ omega (arith, inv.count, many))
    (λ t.
    let change = open-change t changes h here in
    let parts = times-parts h t in
    let now = times-parts (with_submission n h) t in
    let pushed = times-append t h.state.pending (n ∷ []) in
    let below : among t (length (tickets host.kernel.past)) ≡ one t n + among t n = ap (among t) many in omega arith) (All-nil (Closes host)))

-- the oldest pending ticket is taken
pub step-take : {state next : View} (e : EndpointName) (t : ℕ) (ts : List ℕ) (h : Endpoint) → Inv state → state.opened e ≡ Some h → h.state.pending ≡ t ∷ ts → Changes state next (host_taken state.host t) e (Some (front_taken t h)) → Step state next [] []
step-take {state} e t ts h inv here front changes =
    let host = host_taken state.host t in
    let count = taken-count state.host t in
    let stands = front-stands h t ts front in
    at-host (λ s. Step state s [] []) changes
    (step-by inv changes.futures changes.names (goes-taken state.host t (front-held state.host h t ts (inv.order e h here) front))
    (put-all (Ordered host) changes.endpoints (order-takes state.host h t ts (stands-once state e h t inv here) front (inv.order e h here))
    (λ d g apart is.
    let few = apart-two state d e g h t inv apart is here in
    order-stays state.host host g (λ u there. stays-same state.host host u (taken-others state.host t u (λ same. let moved : times u (tickets_at g) ≡ times t (tickets_at g) = ap (λ v. times v (tickets_at g)) same in absurd (omega arith)))) (inv.order d g is)))
    (put-all WasRead changes.endpoints (inv.read e h here) (λ d g apart is. inv.read d g is))
    (put-all HasPackets changes.endpoints (inv.some e h here) (λ d g apart is. inv.some d g is))
    (λ n f u is ticket.
    held-stays state.host host u (stays-same state.host host u (taken-others state.host t u (λ same.
    let none = awaited-apart state n f u inv is ticket in
    let moved : times u (tickets_at h) ≡ times t (tickets_at h) = ap (λ v. times v (tickets_at h)) same in
    let most = open-one u state e h here in absurd (omega arith)))) (inv.waits n f u is ticket))
    (count.count ∙ inv.count ∙ sym count.past)
    (λ u. let change = open-change u changes h here in let same = ap (times u) (front-tickets h t ts front) in let b = among-kept count u in omega arith) (All-nil (Closes host)))

-- an endpoint is closed
pub step-close : {state next : View} (e : EndpointName) (h : Endpoint) (lines : List (List ℕ)) → Inv state → state.opened e ≡ Some h → Changes state next (left_by state.host h.state) e None → Step state next (record { endpoint = h; past = state.host.kernel.past; lines = lines } ∷ []) []
step-close {state} e h lines inv here changes =
    let host = left_by state.host h.state in
    let count = closed-count state.host h.state in
    let handle : ClosedEndpoint = record { endpoint = h; past = state.host.kernel.past; lines = lines } in
    at-host (λ s. Step state s (handle ∷ []) []) changes
    (step-by inv changes.futures changes.names (goes-left state.host h.state (inv.order e h here).held)
    (gone-all (Ordered host) changes.endpoints (λ d g apart is.
    order-stays state.host host g (λ u there.
    let few = apart-two state d e g h u inv apart is here in
    let parts = times-parts h u in
    left-stays state.host h.state u (omega arith)) (inv.order d g is)))
    (gone-all WasRead changes.endpoints (λ d g apart is. inv.read d g is))
    (gone-all HasPackets changes.endpoints (λ d g apart is. inv.some d g is))
    (λ n f u is ticket.
    let none = awaited-apart state n f u inv is ticket in
    let most = open-one u state e h here in
    let parts = times-parts h u in
    held-stays state.host host u (left-stays state.host h.state u (omega arith)) (inv.waits n f u is ticket))
    (count.count ∙ inv.count ∙ sym count.past)
    (λ u.
    let change = open-change u changes h here in
    let b = among-kept count u in
    let whole : times u (tickets_of_all (handle ∷ [])) ≡ times u (tickets_at h) = ap (times u) (append-nil (tickets_at h)) in omega arith)
    (All-cons (Closes host) handle [] (closed-order state.host h (λ u. stands-once state e h u inv here) (inv.order e h here)) (All-nil (Closes host))))

-- a control transfer is handed in, and its future is open under a name
pub step-start : (state : View) (n : ℕ) (request : TransferData) (timeout device : ℕ) → Inv state → is_free state.futures n ≡ true → Step state (future_started state n request timeout device) [] (tickets_seen state ∷ [])
step-start state n request timeout device inv free =
    let m = tickets_seen state in
    let s = control_submission state.host device request timeout in
    let host = request_started state.host device request timeout in
    let x = fresh_future state.host request timeout in
    let fs = set_name state.futures n x in
    let adds = adds-started state.host s in
    let count = started-count state.host s in
    let many : length (tickets host.kernel.past) ≡ suc m = omega (arith, count.past) in
    let new : IsHeld host m = record { hold = adds.hold; is = ap (slice_get host.tickets) (sym inv.count) ∙ adds.last } in
    let lists : (t : ℕ) → times_awaited t fs ≡ times_awaited t state.futures + one t m = λ t. let set = awaited-set t state.futures n x free in omega arith in
    let below : (t : ℕ) → among t (length (tickets host.kernel.past)) ≡ one t m + among t m = λ t. ap (among t) many in
    record {
      goes = goes-keeps state.host host adds.goes;
      inv = record {
        order = λ e h is. order-keeps state.host host h adds.goes (inv.order e h is);
        once = λ t. let was = inv.once t in let l = lists t in let c = below t in omega arith;
        waits = λ k g t is ticket. elim (cases_eq k n) [
          | inl same ↦
              let entry : x ≡ g = same_Some x g (sym (named-set state.futures n x free) ∙ (ap (named fs) (sym same) ∙ is)) in
              subst (IsHeld host) (same_Some m t (ap (λ (f : FutureState). f.ticket) entry ∙ ticket)) new
          | inr apart ↦ waits-keeps state host inv adds.goes k g t (sym (named-set_other state.futures n k x apart) ∙ is) ticket
        ];
        count = count.count ∙ omega (arith, inv.count, many);
        names = inv.names;
        read = inv.read;
        some = inv.some;
      };
      adds = λ t. let c = below t in omega arith;
      closes = All-nil (Closes host);
    }

-- it is awaited, and its ticket taken at once
pub step-control : (state : View) (host : HostState) → Inv state → CountsOneMore state.host host → AddsTaken state.host host → Step state (hosted state host) [] (tickets_seen state ∷ [])
step-control state host inv count adds =
    let m = tickets_seen state in
    let many : length (tickets host.kernel.past) ≡ suc m = omega (arith, count.past) in
    step-by inv refl refl (goes-keeps state.host host adds.goes) (λ e h is. order-keeps state.host host h adds.goes (inv.order e h is)) inv.read inv.some
    (waits-keeps state host inv adds.goes) (count.count ∙ omega (arith, inv.count, many))
    (λ t. let below : among t (length (tickets host.kernel.past)) ≡ one t m + among t m = ap (among t) many in omega arith) (All-nil (Closes host))

-- the host parts with the ticket of a future, whose name is free then
goes-parts : (old new : HostState) (ticket : Option ℕ) → ((t : ℕ) → ticket ≡ Some t → IsHeld old t) → Parts old new ticket → LeavesTickets old new
goes-parts old new None held parts =
    record { past = parts.past; tickets = λ u. leaves-is (slice_get old.tickets u) (slice_get new.tickets u) (parts.others u (none-some u)) }
goes-parts old new (Some t) held parts =
    record {
      past = parts.past;
      tickets = λ u. elim (cases_eq u t) [
        | inl same ↦ let was = held t refl in leaves-held (slice_get old.tickets u) (slice_get new.tickets u) was.hold (ap (slice_get old.tickets) same ∙ was.is)
        | inr apart ↦ leaves-is (slice_get old.tickets u) (slice_get new.tickets u) (parts.others u (λ is. apart (sym (same_Some t u is))))
      ];
    }

pub step-free : (state : View) (n : ℕ) (f : FutureState) (host : HostState) → Inv state → named state.futures n ≡ Some f → Parts state.host host f.ticket → Step state (without_future_of state host n) [] []
step-free state n f host inv here parts =
    let fs = freed state.futures n in
    let lists = λ (u : ℕ). awaited-freed u state.futures n f here in
    let stays : (u : ℕ) → times u (listed f.ticket) ≡ 0 → Stays state.host host u = λ u none. stays-same state.host host u (parts.others u (listed-apart f.ticket u none)) in
    record {
      goes = goes-parts state.host host f.ticket (λ t is. inv.waits n f t here is) parts;
      inv = record {
        order = λ d g is. order-stays state.host host g (λ u there. stays u (
            let most = open-one u state d g is in
            let few = awaited-one u state.futures n f here in
            let all = inv.once u in let one_ = among-once u (tickets_seen state) in omega arith
            )) (inv.order d g is);
        once = λ u. let was = inv.once u in let l = lists u in let b = among-kept parts.count u in omega arith;
        waits = λ m g u is ticket. elim (cases_eq m n) [
          | inl same ↦ absurd (none-some g (sym (named-freed state.futures n) ∙ (ap (named fs) (sym same) ∙ is)))
          | inr apart ↦
              let was : named state.futures m ≡ Some g = sym (named-freed_other state.futures n m apart) ∙ is in
              let most = awaited-one u fs m g is in
              let once_ = listed-once g.ticket u ticket in
              let l = lists u in let all = inv.once u in let one_ = among-once u (tickets_seen state) in
              held-stays state.host host u (stays u (omega arith)) (inv.waits m g u was ticket)
        ];
        count = parts.count.count ∙ inv.count ∙ sym parts.count.past;
        names = inv.names;
        read = inv.read;
        some = inv.some;
      };
      adds = λ u. let b = among-kept parts.count u in omega arith;
      closes = All-nil (Closes host);
    }

-- an endpoint goes to another name, which was free
same-tickets : (h g : Endpoint) → SameTickets h g → tickets_at g ≡ tickets_at h
same-tickets h g same = ap (λ ts. ts ++ g.state.pending) same.taken ∙ ap (λ ts. h.taken ++ ts) same.pending

order-same : (host : HostState) (h g : Endpoint) → SameTickets h g → InOrder host h → InOrder host g
order-same host h g same i =
    record {
      taken = subst (λ ts. All (IsTaken host) ts) (sym same.taken) i.taken;
      held = subst (λ ts. All (IsHeld host) ts) (sym same.pending) i.held;
      rising = subst IsStrictlyIncreasing (sym (same-tickets h g same)) i.rising;
    }

pub step-move : {state next : View} (from to : EndpointName) (h g : Endpoint) → Inv state → state.opened from ≡ Some h → state.opened to ≡ None → SameTickets h g → ((IsStream from → h.was_streamed ≡ true) → g.was_streamed ≡ true) → MovesTo state next from to g → Step state next [] []
step-move {state} from to h g inv here free same read moved =
    let host = state.host in
    let apart : to ≢ from = λ is. none-some h (sym free ∙ (ap state.opened is ∙ here)) in
    at-host (λ s. Step state s [] []) moved.put
    (step-by inv (moved.put.futures ∙ moved.gone.futures) (moved.put.names ∙ moved.gone.names) (goes-keeps host host (on-same host))
    (put-all (Ordered host) moved.put.endpoints (order-same host h g same (inv.order from h here)) (λ d x away. gone-all (Ordered host) moved.gone.endpoints (λ c y off is. inv.order c y is) d x))
    (put-all WasRead moved.put.endpoints (λ stream. read (inv.read from h here)) (λ d x away. gone-all WasRead moved.gone.endpoints (λ c y off is. inv.read c y is) d x))
    (put-all HasPackets moved.put.endpoints (subst (λ n. 0 < n) (sym same.maximum) (inv.some from h here)) (λ d x away. gone-all HasPackets moved.gone.endpoints (λ c y off is. inv.some c y is) d x))
    inv.waits inv.count
    (λ t.
    let gone = open-change t moved.gone h here in
    let put = open-put t moved.put g (moved.gone.endpoints.others to apart ∙ free) refl in
    let all : times t (tickets_at g) ≡ times t (tickets_at h) = ap (times t) (same-tickets h g same) in omega arith) (All-nil (Closes host)))

-- so is what is left for an answer to do, and all that it does
settles-step : {last v : View} {closed : List ClosedEndpoint} → Settles last v closed → Inv v → Step v last closed []
settles-step (still quiet) inv = step-quiet inv quiet
settles-step (closes e h lines here changes rest) inv = let first = step-close e h lines inv here changes in step-then first (settles-step rest first.inv)
settles-step (moves from to h g here free same read moved rest) inv = let first = step-move from to h g inv here free same read moved in step-then first (settles-step rest first.inv)

pub acts-step : {a : Answer} {v : View} {closed : List ClosedEndpoint} {handed : List ControlMove} → Acts a v closed handed → Inv v → Step v (view_of a.state) closed (handed_of handed)
acts-step (goes quiet rest) inv = let first = step-quiet inv quiet in step-then first (acts-step rest first.inv)
acts-step (reads e t ts h stream here front other changes rest) inv = let first = step-take e t ts h inv here front changes in step-then first (acts-step rest first.inv)
acts-step (opens e x free none fresh some changes rest) inv = let first = step-open e x inv free none fresh some changes in step-then first (acts-step rest first.inv)
acts-step (submits e deadline b h here changes rest) inv = let first = step-push e deadline b h inv here changes in step-then first (acts-step rest first.inv)
acts-step {v = v} (starts n request timeout device free rest) inv = let first = step-start v n request timeout device inv free in step-then first (acts-step rest first.inv)
acts-step {v = v} (controls host one adds rest) inv = let first = step-control v host inv one (adds inv.count) in step-then first (acts-step rest first.inv)
acts-step {a} {v} {closed} (frees {handed = moves_} n f host here parts rest) inv =
    let first = step-free v n f host inv here parts in
    subst (Step v (view_of a.state) closed) (sym (handed-parted (listed f.ticket) moves_)) (step-then first (acts-step rest first.inv))
acts-step (takes e t ts h c here front came line changes quiet) inv = let first = step-take e t ts h inv here front changes in step-after first (step-quiet first.inv quiet)
acts-step (settles other rest) inv = settles-step rest inv

pub handed-moves : (state : State) (call : Call) (a : Answer) → handed_of (control_moves state call a) ≡ control_ticket_by state call a
handed-moves state call a =
    let none : handed_of (map Parted (parted_by state call a)) ≡ [] = ap handed_of (sym (append-nil (map Parted (parted_by state call a)))) ∙ handed-parted (parted_by state call a) [] in
    handed-append (map Handed (control_ticket_by state call a)) (map Parted (parted_by state call a))
    ∙ (ap (λ ts. handed_of (map Handed (control_ticket_by state call a)) ++ ts) none ∙ (append-nil (handed_of (map Handed (control_ticket_by state call a))) ∙ handed-handed (control_ticket_by state call a)))

pub answer-step : (state : State) (lines : EndpointName → List (List ℕ)) (item : Item) → Inv (view_of state) → Step (view_of state) (view_of (answer state item).state) (closed_by state lines item) (control_ticket state item)
answer-step state lines item inv =
    let a = answer state item in
    subst (Step (view_of state) (view_of a.state) (closed_by state lines item)) (handed-moves state (call_of item) a) (acts-step (answer-does state lines item) inv)

pub none-handed : (o : Option FutureState) → handed_of (moves_parting o) ≡ []
none-handed None = refl
none-handed (Some f) = handed-parted (listed f.ticket) []

pub future_closed-step : (state : State) (n : ℕ) → Inv (view_of state) → Step (view_of state) (view_of (future_closed_under state n)) [] []
future_closed-step state n inv =
    subst (Step (view_of state) (view_of (future_closed_under state n)) []) (none-handed (named state.futures n)) (acts-step (future_closed_under-does state n) inv)

-- and what the end does below a number
pub below-step : (act : State → ℕ → State) (shut : State → (EndpointName → List (List ℕ)) → ℕ → List ClosedEndpoint) → Closing act shut → (state : State) (lines : EndpointName → List (List ℕ)) (k : ℕ) → Inv (view_of state)
    → Step (view_of state) (view_of (below act state k)) (given_below act (λ s n. shut s lines n) state k) []
below-step act shut closing state lines zero inv = step-quiet inv (quiet-same state)
below-step act shut closing state lines (suc k) inv =
    let first = below-step act shut closing state lines k inv in
    step-then first (acts-step (closing (below act state k) k lines) first.inv)
