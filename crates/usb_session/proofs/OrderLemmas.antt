-- The order in which an endpoint's tickets are taken, at a host.
use Rattle.std.proofs.Common.{ℕ, zero, suc, arith, ◌≡◌, ◌≢◌, ◌<◌, ◌≤◌, ◌+◌, ◌⊎◌, true, false, List, [], ◌∷◌, ◌++◌, length, drop, get_or, slice_get, Option, Some, None, inl, inr, refl, sym, ◌∙◌, ap, subst, append_assoc}
use Rattle.std.specs.Prelude.{is_some, All, IsSome, option_and_then}
use Rattle.std.specs.List.Sorted.{IsStrictlyIncreasing}
use Rattle.std.proofs.lemmas.Bool.{cases_eq, cases_lt}
use Rattle.std.proofs.lemmas.Option.{slice_get_within}
use Rattle.std.proofs.lemmas.List.{length-append}
use Rattle.std.proofs.lemmas.List.Elements.{All-nil, All-append, All-head, All-tail, All-push}
use Rattle.usb_kernel.specs.declared.event.Event.{Event}
use Rattle.usb_kernel.specs.declared.submission.Done.{Done}
use Rattle.usb_kernel.specs.Extends.{Extends}
use Rattle.usb_kernel.specs.Completions.{completion}
use Rattle.usb_kernel.proofs.Extends.{extends-trans}
use Rattle.usb_device_endpoint.specs.EndpointState.{EndpointState}
use Rattle.usb_device_endpoint.specs.Closes.{all_discarded, all_abandoned, after_close}
use Rattle.usb_device_tables.specs.History.{value_at}
use Rattle.usb_device_ledger.specs.declared.ends.TicketEnd.TheVariants.{Taken, Dropped, Reclaimed}
use Rattle.usb_device_ledger.specs.Entries.{HostTicket, Hold, HeldBy, Abandoned, Ended}
use Rattle.usb_device_host.specs.HostState.{HostState}
use Rattle.usb_device_ledger.specs.EndedTickets.{end_at, ended_at}
use Rattle.usb_device_host.specs.Finishes.{HasEnds}
use Rattle.usb_device_host.specs.TicketEnds.{host_taken, host_abandoned}
use Rattle.usb_device_host.specs.HostCalls.{host_discarded, host_left, host_calls}
use Rattle.usb_device_host.proofs.CloseLemmas.{discards-tickets, discards-completion, abandoned-past, abandoned-others, left-tickets}
use Rattle.usb_device_host.proofs.FollowLemmas.{Follows, KeepsTickets, on-all_discarded, on-left, taken-past, taken-others, taken-here, GivenUp, dropped, waits, abandoned-here}
use Rattle.usb_session_calls.specs.State.{Endpoint, tickets_at}
use Rattle.usb_session_calls.specs.Polls.{front_taken}
use Rattle.usb_session.specs.Served.{end_given_up}
use Rattle.usb_session_calls.specs.Submits.{with_submission}
use Rattle.usb_session.proofs.TimesLemmas.{one, one-same, one-apart, times, times-append, apart-all, stands}

-- a ticket that was taken
abbrev pub IsTaken : HostState → ℕ → Type 0
IsTaken h t = slice_get h.tickets t ≡ Some (Ended Taken)

-- a ticket that an endpoint holds
pub record IsHeld (h : HostState) (t : ℕ) : Type 0 where
  pub hold : Hold
  pub is : slice_get h.tickets t ≡ Some (HeldBy hold)

-- an open endpoint holds its pending tickets, and the others were taken
pub record InOrder (h : HostState) (e : Endpoint) : Type 0 where
  pub taken : All (IsTaken h) e.taken
  pub held : All (IsHeld h) e.state.pending
  pub rising : IsStrictlyIncreasing (tickets_at e)

-- how often a number stands in each part
pub times-parts : (e : Endpoint) (t : ℕ) → times t (tickets_at e) ≡ times t e.taken + times t e.state.pending
times-parts e t = times-append t e.taken e.state.pending

-- a held or taken ticket is so still
pub record Stays (old new : HostState) (t : ℕ) : Type 0 where
  pub held : (hold : Hold) → slice_get old.tickets t ≡ Some (HeldBy hold) → slice_get new.tickets t ≡ Some (HeldBy hold)
  pub taken : slice_get old.tickets t ≡ Some (Ended Taken) → slice_get new.tickets t ≡ Some (Ended Taken)

pub stays-same : (old new : HostState) (t : ℕ) → slice_get new.tickets t ≡ slice_get old.tickets t → Stays old new t
stays-same old new t same = record { held = λ hold is. same ∙ is; taken = λ is. same ∙ is }

pub stays-keeps : (old new : HostState) (t : ℕ) → KeepsTickets old new → Stays old new t
stays-keeps old new t keeps =
    record { held = λ hold is. rw is at (keeps.tickets t); taken = λ is. rw is at (keeps.tickets t) }

pub held-stays : (old new : HostState) (t : ℕ) → Stays old new t → IsHeld old t → IsHeld new t
held-stays old new t stays was = record { hold = was.hold; is = stays.held was.hold was.is }

-- so the order stays where all tickets of the endpoint do
pub order-stays : (old new : HostState) (e : Endpoint) → ((t : ℕ) → 1 ≤ times t (tickets_at e) → Stays old new t) → InOrder old e → InOrder new e
order-stays old new e stays i =
    record {
      taken = λ k d below. let t = get_or e.taken k d in (stays t (omega (arith, times-parts e t, stands e.taken k d below))).taken (i.taken k d below);
      held = λ k d below. let t = get_or e.state.pending k d in held-stays old new t (stays t (omega (arith, times-parts e t, stands e.state.pending k d below))) (i.held k d below);
      rising = i.rising;
    }

pub order-keeps : (old new : HostState) (e : Endpoint) → KeepsTickets old new → InOrder old e → InOrder new e
order-keeps old new e keeps i = order-stays old new e (λ t stands_. stays-keeps old new t keeps) i

-- an endpoint with no ticket
pub order-fresh : (h : HostState) (e : Endpoint) → e.state.pending ≡ [] → e.taken ≡ [] → InOrder h e
order-fresh h e none fresh =
    record {
      taken = subst (λ ts. All (IsTaken h) ts) (sym fresh) (All-nil (IsTaken h));
      held = subst (λ ts. All (IsHeld h) ts) (sym none) (All-nil (IsHeld h));
      rising = subst IsStrictlyIncreasing (sym (ap (λ ts. ts ++ e.state.pending) fresh ∙ none)) (λ k within. absurd (omega arith));
    }

-- all tickets of an endpoint are of the host
pub order-within : (h : HostState) (e : Endpoint) → InOrder h e → All (λ t. t < length h.tickets) (tickets_at e)
order-within h e i =
    All-append (λ t. t < length h.tickets) e.taken e.state.pending
    (λ k d below. slice_get_within h.tickets (get_or e.taken k d) (Ended Taken) (i.taken k d below))
    (λ k d below. let was = i.held k d below in slice_get_within h.tickets (get_or e.state.pending k d) (HeldBy was.hold) was.is)

rising-push : (xs : List ℕ) (n : ℕ) → All (λ t. t < n) xs → IsStrictlyIncreasing xs → IsStrictlyIncreasing (xs ++ n ∷ [])
rising-push xs n small rising k within =
    let all = length-append xs (n ∷ []) in
    let first : get_or (xs ++ n ∷ []) k 0 ≡ get_or xs k 0 = get_or-append_left xs (n ∷ []) k 0 (omega arith) in
    elim (cases_lt (k + 1) (length xs)) [
      | inl inside ↦
          let second : get_or (xs ++ n ∷ []) (k + 1) 0 ≡ get_or xs (k + 1) 0 = get_or-append_left xs (n ∷ []) (k + 1) 0 inside in
          let less = rising k inside in omega arith
      | inr outside ↦
          let last : k + 1 ≡ length xs = omega arith in
          let second : get_or (xs ++ n ∷ []) (k + 1) 0 ≡ n = ap (λ j. get_or (xs ++ n ∷ []) j 0) last ∙ get_or-seam xs n 0 in
          let less = small k 0 (omega arith) in omega arith
    ]
  where
    get_or-append_left : (xs ys : List ℕ) (k d : ℕ) → k < length xs → get_or (xs ++ ys) k d ≡ get_or xs k d
    get_or-append_left [] ys k d below = absurd (omega arith)
    get_or-append_left (x ∷ xs) ys zero d below = refl
    get_or-append_left (x ∷ xs) ys (suc k) d below = get_or-append_left xs ys k d (omega arith)

    get_or-seam : (xs : List ℕ) (n d : ℕ) → get_or (xs ++ n ∷ []) (length xs) d ≡ n
    get_or-seam [] n d = refl
    get_or-seam (x ∷ xs) n d = get_or-seam xs n d

-- one more ticket
pub order-push : (h : HostState) (e : Endpoint) (n : ℕ) → All (λ t. t < n) (tickets_at e) → IsHeld h n → InOrder h e → InOrder h (with_submission n e)
order-push h e n small new i =
    record {
      taken = i.taken;
      held = All-push (IsHeld h) e.state.pending n i.held new;
      rising = subst IsStrictlyIncreasing (append_assoc e.taken e.state.pending (n ∷ [])) (rising-push (tickets_at e) n small i.rising);
    }

-- the oldest pending ticket is taken
pub front-tickets : (e : Endpoint) (t : ℕ) (ts : List ℕ) → e.state.pending ≡ t ∷ ts → tickets_at (front_taken t e) ≡ tickets_at e
front-tickets e t ts front =
    append_assoc e.taken (t ∷ []) (drop 1 e.state.pending) ∙ (ap (λ us. e.taken ++ t ∷ drop 1 us) front ∙ sym (ap (λ us. e.taken ++ us) front))

pub front-held : (h : HostState) (e : Endpoint) (t : ℕ) (ts : List ℕ) → InOrder h e → e.state.pending ≡ t ∷ ts → IsHeld h t
front-held h e t ts i front = All-head (IsHeld h) t ts (subst (λ us. All (IsHeld h) us) front i.held)

-- it stands once in the list, and so it is neither among those that were taken nor among the rest
front-once : (e : Endpoint) (t : ℕ) (ts : List ℕ) → e.state.pending ≡ t ∷ ts → times t (tickets_at e) ≡ times t e.taken + (1 + times t ts)
front-once e t ts front = times-parts e t ∙ ap (λ us. times t e.taken + times t us) front ∙ ap (λ n. times t e.taken + (n + times t ts)) (one-same t)

pub front-stands : (e : Endpoint) (t : ℕ) (ts : List ℕ) → e.state.pending ≡ t ∷ ts → 1 ≤ times t (tickets_at e)
front-stands e t ts front = let once = front-once e t ts front in omega arith

others-stay : (h : HostState) (t u : ℕ) → u ≢ t → Stays h (host_taken h t) u
others-stay h t u apart = stays-same h (host_taken h t) u (taken-others h t u apart)

pub order-takes : (h : HostState) (e : Endpoint) (t : ℕ) (ts : List ℕ) → times t (tickets_at e) ≤ 1 → e.state.pending ≡ t ∷ ts → InOrder h e → InOrder (host_taken h t) (front_taken t e)
order-takes h e t ts once front i =
    let last = host_taken h t in
    let parts = front-once e t ts front in
    let was = front-held h e t ts i front in
    let before = apart-all t e.taken (omega arith) in
    let behind = apart-all t ts (omega arith) in
    let rest = All-tail (IsHeld h) t ts (subst (λ us. All (IsHeld h) us) front i.held) in
    record {
      taken = All-push (IsTaken last) e.taken t (λ k d below. (others-stay h t (get_or e.taken k d) (before k d below)).taken (i.taken k d below)) (taken-here h t was.hold was.is);
      held = subst (λ us. All (IsHeld last) (drop 1 us)) (sym front) (λ k d below. held-stays h last (get_or ts k d) (others-stay h t (get_or ts k d) (behind k d below)) (rest k d below));
      rising = subst IsStrictlyIncreasing (sym (front-tickets e t ts front)) i.rising;
    }

-- the close of an endpoint: its pending tickets are given up, and all others stay
abandons-apart : (g : HostState) (ts : List ℕ) (u : ℕ) → times u ts ≡ 0 → slice_get (all_abandoned host_abandoned g ts).tickets u ≡ slice_get g.tickets u
abandons-apart g [] u none = refl
abandons-apart g (t ∷ ts) u none =
    let apart : u ≢ t = λ same. let here : one u t ≡ 1 = ap (one u) (sym same) ∙ one-same u in absurd (omega arith) in
    abandons-apart (host_abandoned g t) ts u (omega arith) ∙ abandoned-others g t u apart

abandons-past : (g : HostState) (ts : List ℕ) → (all_abandoned host_abandoned g ts).kernel.past ≡ g.kernel.past
abandons-past g [] = refl
abandons-past g (t ∷ ts) = abandons-past (host_abandoned g t) ts ∙ abandoned-past g t

given-past : (past next : List Event) (t : ℕ) (o : Option HostTicket) → completion next t ≡ completion past t → GivenUp next t o → GivenUp past t o
given-past past next t o same (dropped reaped is) = dropped (sym (ap (λ (d : Option Done). is_some d) same) ∙ reaped) is
given-past past next t o same (waits key open_ is) = waits key (sym (ap (λ (d : Option Done). is_some d) same) ∙ open_) is

abandons-given : (g : HostState) (ts : List ℕ) (u : ℕ) (hold : Hold) → times u ts ≡ 1 → slice_get g.tickets u ≡ Some (HeldBy hold) → GivenUp g.kernel.past u (slice_get (all_abandoned host_abandoned g ts).tickets u)
abandons-given g [] u hold once at = absurd (omega arith)
abandons-given g (t ∷ ts) u hold once at =
    elim (cases_eq t u) [
      | inl same ↦
          let here : one u t ≡ 1 = ap (one u) same ∙ one-same u in
          subst (GivenUp g.kernel.past u) (sym (abandons-apart (host_abandoned g t) ts u (omega arith))) (subst (λ v. GivenUp g.kernel.past u (slice_get (host_abandoned g v).tickets u)) (sym same) (abandoned-here g u hold at))
      | inr apart ↦
          let here = one-apart u t apart in
          subst (λ (past : List Event). GivenUp past u (slice_get (all_abandoned host_abandoned (host_abandoned g t) ts).tickets u)) (abandoned-past g t)
          (abandons-given (host_abandoned g t) ts u hold (omega arith) (abandoned-others g t u (λ same. apart (sym same)) ∙ at))
    ]

-- what a closed endpoint left: its tickets were discarded, and then given up
abbrev discarded_by : HostState → EndpointState → HostState
discarded_by h e = all_discarded host_discarded h e.pending

abbrev given_up_by : HostState → EndpointState → HostState
given_up_by h e = all_abandoned host_abandoned (discarded_by h e) e.pending

abbrev pub left_by : HostState → EndpointState → HostState
left_by h e = after_close host_calls h e

pub before-past : (h : HostState) (e : EndpointState) → Extends h.kernel.past (given_up_by h e).kernel.past
before-past h e =
    subst (λ (past : List Event). Extends h.kernel.past past) (sym (abandons-past (discarded_by h e) e.pending)) (on-all_discarded h e.pending).past

pub left-past : (h : HostState) (e : EndpointState) → Extends h.kernel.past (left_by h e).kernel.past
left-past h e =
    extends-trans h.kernel.past (discarded_by h e).kernel.past (left_by h e).kernel.past (on-all_discarded h e.pending).past
    (subst (λ (past : List Event). Extends past (left_by h e).kernel.past) (abandons-past (discarded_by h e) e.pending) (on-left (given_up_by h e) e.key).past)

at-left : (h : HostState) (e : EndpointState) (u : ℕ) → slice_get (left_by h e).tickets u ≡ slice_get (given_up_by h e).tickets u
unfolding host_left
at-left h e u = ap (λ (l : List HostTicket). slice_get l u) (left-tickets (given_up_by h e) e.key (value_at (given_up_by h e).endpoints e.key))

at-discards : (h : HostState) (e : EndpointState) (u : ℕ) → slice_get (discarded_by h e).tickets u ≡ slice_get h.tickets u
at-discards h e u = ap (λ (l : List HostTicket). slice_get l u) (discards-tickets h e.pending)

pub left-apart : (h : HostState) (e : EndpointState) (u : ℕ) → times u e.pending ≡ 0 → slice_get (left_by h e).tickets u ≡ slice_get h.tickets u
left-apart h e u none = at-left h e u ∙ (abandons-apart (discarded_by h e) e.pending u none ∙ at-discards h e u)

left-given : (h : HostState) (e : EndpointState) (u : ℕ) (hold : Hold) → times u e.pending ≡ 1 → slice_get h.tickets u ≡ Some (HeldBy hold) → GivenUp h.kernel.past u (slice_get (left_by h e).tickets u)
left-given h e u hold once at =
    given-past h.kernel.past (discarded_by h e).kernel.past u (slice_get (left_by h e).tickets u) (discards-completion h e.pending u)
    (subst (GivenUp (discarded_by h e).kernel.past u) (sym (at-left h e u)) (abandons-given (discarded_by h e) e.pending u hold once (at-discards h e u ∙ at)))

-- a ticket that has its end keeps it, and one that was given up may be reclaimed
abbrev pub Leaves : Option HostTicket → Option HostTicket → Type 0
Leaves None now = Unit {0}
Leaves (Some (HeldBy hold)) now = Unit {0}
Leaves (Some (Abandoned key)) now = (now ≡ Some (Abandoned key)) ⊎ (now ≡ Some (Ended Reclaimed))
Leaves (Some (Ended end)) now = now ≡ Some (Ended end)

-- so does each ticket of a host, and the journal goes on
pub record LeavesTickets (old new : HostState) : Type 0 where
  pub past : Extends old.kernel.past new.kernel.past
  pub tickets : (t : ℕ) → Leaves (slice_get old.tickets t) (slice_get new.tickets t)

leaves-follows : (o p : Option HostTicket) → Follows o p → Leaves o p
leaves-follows None p follows = tt
leaves-follows (Some (HeldBy hold)) p follows = tt
leaves-follows (Some (Abandoned key)) p follows = follows
leaves-follows (Some (Ended end)) p follows = follows

pub leaves-is : (o p : Option HostTicket) → p ≡ o → Leaves o p
leaves-is None p is = tt
leaves-is (Some (HeldBy hold)) p is = tt
leaves-is (Some (Abandoned key)) p is = inl is
leaves-is (Some (Ended end)) p is = is

leaves-then : (a b c : Option HostTicket) → Leaves a b → Leaves b c → Leaves a c
leaves-then None b c first second = tt
leaves-then (Some (HeldBy hold)) b c first second = tt
leaves-then (Some (Ended end)) b c first second = rw first at second
leaves-then (Some (Abandoned key)) b c first second = elim first [ inl still ↦ rw still at second | inr gone ↦ inr (rw gone at second) ]

pub goes-keeps : (old new : HostState) → KeepsTickets old new → LeavesTickets old new
goes-keeps old new keeps = record { past = keeps.past; tickets = λ t. leaves-follows (slice_get old.tickets t) (slice_get new.tickets t) (keeps.tickets t) }

pub goes-then : (a b c : HostState) → LeavesTickets a b → LeavesTickets b c → LeavesTickets a c
goes-then a b c first second =
    record {
      past = extends-trans a.kernel.past b.kernel.past c.kernel.past first.past second.past;
      tickets = λ t. leaves-then (slice_get a.tickets t) (slice_get b.tickets t) (slice_get c.tickets t) (first.tickets t) (second.tickets t);
    }

pub leaves-held : (o p : Option HostTicket) (hold : Hold) → o ≡ Some (HeldBy hold) → Leaves o p
leaves-held o p hold is = rw is tt

pub goes-taken : (h : HostState) (t : ℕ) → IsHeld h t → LeavesTickets h (host_taken h t)
goes-taken h t was =
    record {
      past = record { more = []; is = taken-past h t };
      tickets = λ u. elim (cases_eq u t) [
        | inl same ↦ leaves-held (slice_get h.tickets u) (slice_get (host_taken h t).tickets u) was.hold (ap (slice_get h.tickets) same ∙ was.is)
        | inr apart ↦ leaves-is (slice_get h.tickets u) (slice_get (host_taken h t).tickets u) (taken-others h t u apart)
      ];
    }

held-among : (h : HostState) (ts : List ℕ) (u : ℕ) → 1 ≤ times u ts → All (IsHeld h) ts → IsHeld h u
held-among h [] u here held = absurd (omega arith)
held-among h (t ∷ ts) u here held =
    elim (cases_eq t u) [
      | inl same ↦ subst (IsHeld h) same (All-head (IsHeld h) t ts held)
      | inr apart ↦ let none = one-apart u t apart in held-among h ts u (omega arith) (All-tail (IsHeld h) t ts held)
    ]

pub goes-left : (h : HostState) (e : EndpointState) → All (IsHeld h) e.pending → LeavesTickets h (left_by h e)
goes-left h e held =
    record {
      past = left-past h e;
      tickets = λ u. elim (cases_eq (times u e.pending) 0) [
        | inl none ↦ leaves-is (slice_get h.tickets u) (slice_get (left_by h e).tickets u) (left-apart h e u none)
        | inr some ↦ let was = held-among h e.pending u (omega arith) held in leaves-held (slice_get h.tickets u) (slice_get (left_by h e).tickets u) was.hold was.is
      ];
    }

-- a ticket that was given up while the journal was this one
abbrev pub WasGiven : List Event → ℕ → Option HostTicket → Type 0
WasGiven past t o = GivenUp past t o ⊎ ((is_some (completion past t) ≡ false) × (o ≡ Some (Ended Reclaimed)))

-- of an endpoint that was closed the pending tickets were given up, and the others taken
pub record IsClosed (h : HostState) (e : Endpoint) (past : List Event) : Type 0 where
  pub taken : All (IsTaken h) e.taken
  pub given : All (λ t. WasGiven past t (slice_get h.tickets t)) e.state.pending
  pub rising : IsStrictlyIncreasing (tickets_at e)

pub taken-goes : (o p : Option HostTicket) → Leaves o p → o ≡ Some (Ended Taken) → p ≡ Some (Ended Taken)
taken-goes o p leaves is = rw is at leaves

pub given-goes : (past : List Event) (t : ℕ) (o p : Option HostTicket) → Leaves o p → WasGiven past t o → WasGiven past t p
given-goes past t o p leaves (inl (dropped reaped is)) = inl (dropped reaped (rw is at leaves))
given-goes past t o p leaves (inl (waits key open_ is)) =
    elim (rw is at leaves) [ inl still ↦ inl (waits key open_ still) | inr gone ↦ inr (open_, gone) ]
given-goes past t o p leaves (inr reclaimed) = inr (reclaimed.0, rw reclaimed.1 at leaves)

pub closed-goes : (old new : HostState) (e : Endpoint) (past : List Event) → LeavesTickets old new → IsClosed old e past → IsClosed new e past
closed-goes old new e past goes c =
    record {
      taken = λ k d below. let t = get_or e.taken k d in taken-goes (slice_get old.tickets t) (slice_get new.tickets t) (goes.tickets t) (c.taken k d below);
      given = λ k d below. let t = get_or e.state.pending k d in given-goes past t (slice_get old.tickets t) (slice_get new.tickets t) (goes.tickets t) (c.given k d below);
      rising = c.rising;
    }

pub closed-order : (h : HostState) (e : Endpoint) → ((t : ℕ) → times t (tickets_at e) ≤ 1) → InOrder h e → IsClosed (left_by h e.state) e h.kernel.past
closed-order h e once i =
    record {
      taken = λ k d below. let t = get_or e.taken k d in left-apart h e.state t (omega (arith, once t, times-parts e t, stands e.taken k d below)) ∙ i.taken k d below;
      given = λ k d below.
          let t = get_or e.state.pending k d in
          let was = i.held k d below in
          inl (left-given h e.state t was.hold (omega (arith, once t, times-parts e t, stands e.state.pending k d below)) was.is);
      rising = i.rising;
    }

-- a ticket that stands in another list
pub left-stays : (h : HostState) (e : EndpointState) (t : ℕ) → times t e.pending ≡ 0 → Stays h (left_by h e) t
left-stays h e t none = stays-same h (left_by h e) t (left-apart h e t none)

-- at the end each ticket has its end
pub ended-given : (past : List Event) (t : ℕ) (o : Option HostTicket) → IsSome (option_and_then ended_at o) → WasGiven past t o → option_and_then ended_at o ≡ Some (end_given_up past t)
ended-given past t o some (inl (dropped reaped is)) = rw (is, reaped) refl
ended-given past t o some (inl (waits key open_ is)) = let none : false ≡ true = rw is at some in absurd (cc)
ended-given past t o some (inr reclaimed) = rw (reclaimed.1, reclaimed.0) refl

pub given-within : (past : List Event) (ts : List HostTicket) (t : ℕ) → WasGiven past t (slice_get ts t) → t < length ts
given-within past ts t (inl (dropped reaped is)) = slice_get_within ts t (Ended Dropped) is
given-within past ts t (inl (waits key open_ is)) = slice_get_within ts t (Abandoned key) is
given-within past ts t (inr reclaimed) = slice_get_within ts t (Ended Reclaimed) reclaimed.1

pub closed-taken : (h : HostState) (e : Endpoint) (past : List Event) → IsClosed h e past → All (λ t. end_at h.tickets t ≡ Some Taken) e.taken
closed-taken h e past c k d below = ap (option_and_then ended_at) (c.taken k d below)

pub closed-others : (h : HostState) (e : Endpoint) (past : List Event) → HasEnds h.tickets → IsClosed h e past → All (λ t. end_at h.tickets t ≡ Some (end_given_up past t)) e.state.pending
closed-others h e past ends c k d below =
    let t = get_or e.state.pending k d in
    let was = c.given k d below in
    ended-given past t (slice_get h.tickets t) (ends t (given-within past h.tickets t was)) was
