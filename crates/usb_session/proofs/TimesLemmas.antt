-- How often a ticket stands in the lists of what is open.
use Rattle.std.proofs.Common.{ℕ, zero, suc, arith, ◌≡◌, ◌≢◌, ◌<◌, ◌≤◌, ◌+◌, true, List, [], ◌∷◌, ◌++◌, length, get_or, Option, Some, None, inl, inr, refl, sym, ◌∙◌, ap, subst}
use Rattle.std.specs.Prelude.{◌==◌, if◌then◌else◌, count_by, All}
use Rattle.std.proofs.lemmas.Bool.{cases_eq, eq-eqb, ne_eqb}
use Rattle.std.proofs.lemmas.Option.{none-some}
use Rattle.std.proofs.lemmas.List.Sums.{sum_by-cons}
use Rattle.std.proofs.lemmas.List.Elements.{All-nil, All-cons}
use Rattle.usb_device_host.specs.HostState.{HostState}
use Rattle.usb_device.specs.Futures.{FutureState}
use Rattle.usb_session_calls.specs.Names.{named, is_free, freed, set_name}
use Rattle.usb_session_calls.specs.State.{Endpoint, tickets_at}
use Rattle.usb_session_calls.specs.EndpointNames.{EndpointName, Own, OfReader, OfWriter, OfClientWriter, OfClientReader}
use Rattle.usb_session.specs.ControlAnswers.{listed}
use Rattle.usb_session_calls.proofs.NameLemmas.{free-none, free-within}
use Rattle.usb_session_calls.proofs.EndpointNameLemmas.{ChangedAt, number_of, set-changes, freed-changes}
use Rattle.usb_session.proofs.Views.{NameCounts, IsAmong, View, named-within, with_open}
use Rattle.usb_session.proofs.Does.{Changes, open-changes}

abbrev pub one : ℕ → ℕ → ℕ
one t u = if u == t then 1 else 0

pub one-same : (t : ℕ) → one t t ≡ 1
one-same t = rw (eq-eqb t t refl) refl

pub one-apart : (t u : ℕ) → u ≢ t → one t u ≡ 0
one-apart t u apart = rw (ne_eqb u t apart) refl

-- how often a number stands in a list
abbrev pub times : ℕ → List ℕ → ℕ
times t [] = 0
times t (u ∷ us) = one t u + times t us

pub times-append : (t : ℕ) (xs ys : List ℕ) → times t (xs ++ ys) ≡ times t xs + times t ys
times-append t [] ys = omega arith
times-append t (x ∷ xs) ys = let IH = times-append t xs ys in omega arith

pub counts-times : (t : ℕ) (xs : List ℕ) → count_by (λ u. u == t) xs ≡ times t xs
counts-times t [] = refl
counts-times t (x ∷ xs) = sum_by-cons (λ u. if u == t then 1 else 0) x xs ∙ ap (λ n. one t x + n) (counts-times t xs)

pub apart-all : (t : ℕ) (xs : List ℕ) → times t xs ≡ 0 → All (λ u. u ≢ t) xs
apart-all t [] none = All-nil (λ u. u ≢ t)
apart-all t (x ∷ xs) none =
    All-cons (λ u. u ≢ t) x xs (λ same. let here : one t x ≡ 1 = ap (one t) same ∙ one-same t in absurd (omega arith)) (apart-all t xs (omega arith))

-- each element of a list stands in it
pub stands : (xs : List ℕ) (k d : ℕ) → k < length xs → 1 ≤ times (get_or xs k d) xs
stands [] k d below = absurd (omega arith)
stands (x ∷ xs) zero d below = let here = one-same x in omega arith
stands (x ∷ xs) (suc k) d below = let IH = stands xs k d (omega arith) in omega arith

lower : (n t : ℕ) → n ≢ t → t < suc n → t < n
lower n t apart small = omega arith

-- how often a number is below n, which is once or never
abbrev pub among : ℕ → ℕ → ℕ
among t zero = 0
among t (suc n) = one t n + among t n

pub among-beyond : (t n : ℕ) → n ≤ t → among t n ≡ 0
among-beyond t zero beyond = refl
among-beyond t (suc n) beyond =
    let here = one-apart t n (λ same. absurd (omega arith)) in
    let IH = among-beyond t n (omega arith) in omega arith

pub among-once : (t n : ℕ) → among t n ≤ 1
among-once t zero = omega arith
among-once t (suc n) =
    elim (cases_eq n t) [
      | inl same ↦ let below = among-beyond t n (omega arith) in let here : one t n ≡ 1 = ap (one t) same ∙ one-same t in omega arith
      | inr apart ↦ let here = one-apart t n apart in let IH = among-once t n in omega arith
    ]

pub among-within : (t n : ℕ) → t < n → among t n ≡ 1
among-within t zero within = absurd (omega arith)
among-within t (suc n) within =
    elim (cases_eq n t) [
      | inl same ↦ let below = among-beyond t n (omega arith) in let here : one t n ≡ 1 = ap (one t) same ∙ one-same t in omega arith
      | inr apart ↦ let here = one-apart t n apart in let IH = among-within t n (lower n t apart within) in omega arith
    ]

-- the sum over the numbers below n
abbrev pub sum_below : (ℕ → ℕ) → ℕ → ℕ
sum_below f zero = 0
sum_below f (suc n) = f n + sum_below f n

sum-same : (f g : ℕ → ℕ) (n : ℕ) → ((k : ℕ) → k < n → g k ≡ f k) → sum_below g n ≡ sum_below f n
sum-same f g zero same = refl
sum-same f g (suc n) same = let here = same n (omega arith) in let IH = sum-same f g n (λ k below. same k (omega arith)) in omega arith

sum-none : (f : ℕ → ℕ) (n : ℕ) → ((k : ℕ) → f k ≡ 0) → sum_below f n ≡ 0
sum-none f zero none = refl
sum-none f (suc n) none = let here = none n in let IH = sum-none f n none in omega arith

-- where one of them changed
sum-change : (f g : ℕ → ℕ) (n e : ℕ) → e < n → ((k : ℕ) → k ≢ e → g k ≡ f k) → sum_below g n + f e ≡ sum_below f n + g e
sum-change f g zero e within others = absurd (omega arith)
sum-change f g (suc n) e within others =
    elim (cases_eq n e) [
      | inl same ↦
          let below = sum-same f g n (λ k less. others k (λ is. absurd (omega arith))) in
          let old : f n ≡ f e = ap f same in
          let new : g n ≡ g e = ap g same in omega arith
      | inr apart ↦ let here = others n apart in let IH = sum-change f g n e (lower n e apart within) others in omega arith
    ]

sum-one : (f : ℕ → ℕ) (n e : ℕ) → e < n → f e ≤ sum_below f n
sum-one f zero e within = absurd (omega arith)
sum-one f (suc n) e within =
    elim (cases_eq n e) [
      | inl same ↦ let here : f n ≡ f e = ap f same in omega arith
      | inr apart ↦ let IH = sum-one f n e (lower n e apart within) in omega arith
    ]

-- among the tickets of what may be open
abbrev pub times_in : {X : Type 0} → (X → List ℕ) → ℕ → Option X → ℕ
times_in its t None = 0
times_in its t (Some x) = times t (its x)

abbrev pub ticket_in : FutureState → List ℕ
ticket_in f = listed f.ticket

-- of the endpoints that are open under the first names of a kind
abbrev of_kind : ℕ → (EndpointName → Option Endpoint) → (ℕ → EndpointName) → ℕ → ℕ
of_kind t opened name n = sum_below (λ k. times_in tickets_at t (opened (name k))) n

-- and under so many names of each kind
abbrev times_under : ℕ → NameCounts → (EndpointName → Option Endpoint) → ℕ
times_under t c opened =
    of_kind t opened Own c.own + of_kind t opened OfReader c.readers + of_kind t opened OfWriter c.writers
    + of_kind t opened OfClientWriter c.clients + of_kind t opened OfClientReader c.clients

abbrev pub times_open : ℕ → View → ℕ
times_open t v = times_under t v.names v.opened

-- and of the futures that are
abbrev pub times_awaited : ℕ → List (Option FutureState) → ℕ
times_awaited t fs = sum_below (λ n. times_in ticket_in t (named fs n)) (length fs)

pub listed-once : (o : Option ℕ) (t : ℕ) → o ≡ Some t → times t (listed o) ≡ 1
listed-once o t is = let here = one-same t in rw is (omega arith)

pub listed-apart : (o : Option ℕ) (t : ℕ) → times t (listed o) ≡ 0 → o ≢ Some t
listed-apart o t none is = let here = listed-once o t is in absurd (omega arith)

-- where what is open was changed under one name, or under none
module _ (t : ℕ) (old new : EndpointName → Option Endpoint) where
  kind-same : (name : ℕ → EndpointName) (n : ℕ) → ((k : ℕ) → new (name k) ≡ old (name k)) → of_kind t new name n ≡ of_kind t old name n
  kind-same name n same =
      sum-same (λ k. times_in tickets_at t (old (name k))) (λ k. times_in tickets_at t (new (name k))) n (λ k below. ap (times_in tickets_at t) (same k))

  kind-change : (name : ℕ → EndpointName) (n k : ℕ) → k < n → ((j : ℕ) → j ≢ k → new (name j) ≡ old (name j)) → of_kind t new name n + times_in tickets_at t (old (name k)) ≡ of_kind t old name n + times_in tickets_at t (new (name k))
  kind-change name n k within others =
      sum-change (λ j. times_in tickets_at t (old (name j))) (λ j. times_in tickets_at t (new (name j))) n k within (λ j apart. ap (times_in tickets_at t) (others j apart))

  same-under : (c : NameCounts) → ((e : EndpointName) → new e ≡ old e) → times_under t c new ≡ times_under t c old
  same-under c same =
      let own = kind-same Own c.own (λ k. same (Own k)) in
      let readers = kind-same OfReader c.readers (λ k. same (OfReader k)) in
      let writers = kind-same OfWriter c.writers (λ k. same (OfWriter k)) in
      let client_writers = kind-same OfClientWriter c.clients (λ k. same (OfClientWriter k)) in
      let client_readers = kind-same OfClientReader c.clients (λ k. same (OfClientReader k)) in omega arith

  changed-under : (c : NameCounts) (e : EndpointName) → IsAmong c e → ((d : EndpointName) → d ≢ e → new d ≡ old d) → times_under t c new + times_in tickets_at t (old e) ≡ times_under t c old + times_in tickets_at t (new e)
  changed-under c (Own e) within others =
      let own = kind-change Own c.own e within (λ k apart. others (Own k) (λ same. apart (ap number_of same))) in
      let readers = kind-same OfReader c.readers (λ k. others (OfReader k) (λ same. absurd (cc))) in
      let writers = kind-same OfWriter c.writers (λ k. others (OfWriter k) (λ same. absurd (cc))) in
      let client_writers = kind-same OfClientWriter c.clients (λ k. others (OfClientWriter k) (λ same. absurd (cc))) in
      let client_readers = kind-same OfClientReader c.clients (λ k. others (OfClientReader k) (λ same. absurd (cc))) in omega arith
  changed-under c (OfReader r) within others =
      let own = kind-same Own c.own (λ k. others (Own k) (λ same. absurd (cc))) in
      let readers = kind-change OfReader c.readers r within (λ k apart. others (OfReader k) (λ same. apart (ap number_of same))) in
      let writers = kind-same OfWriter c.writers (λ k. others (OfWriter k) (λ same. absurd (cc))) in
      let client_writers = kind-same OfClientWriter c.clients (λ k. others (OfClientWriter k) (λ same. absurd (cc))) in
      let client_readers = kind-same OfClientReader c.clients (λ k. others (OfClientReader k) (λ same. absurd (cc))) in omega arith
  changed-under c (OfWriter w) within others =
      let own = kind-same Own c.own (λ k. others (Own k) (λ same. absurd (cc))) in
      let readers = kind-same OfReader c.readers (λ k. others (OfReader k) (λ same. absurd (cc))) in
      let writers = kind-change OfWriter c.writers w within (λ k apart. others (OfWriter k) (λ same. apart (ap number_of same))) in
      let client_writers = kind-same OfClientWriter c.clients (λ k. others (OfClientWriter k) (λ same. absurd (cc))) in
      let client_readers = kind-same OfClientReader c.clients (λ k. others (OfClientReader k) (λ same. absurd (cc))) in omega arith
  changed-under c (OfClientWriter m) within others =
      let own = kind-same Own c.own (λ k. others (Own k) (λ same. absurd (cc))) in
      let readers = kind-same OfReader c.readers (λ k. others (OfReader k) (λ same. absurd (cc))) in
      let writers = kind-same OfWriter c.writers (λ k. others (OfWriter k) (λ same. absurd (cc))) in
      let client_writers = kind-change OfClientWriter c.clients m within (λ k apart. others (OfClientWriter k) (λ same. apart (ap number_of same))) in
      let client_readers = kind-same OfClientReader c.clients (λ k. others (OfClientReader k) (λ same. absurd (cc))) in omega arith
  changed-under c (OfClientReader m) within others =
      let own = kind-same Own c.own (λ k. others (Own k) (λ same. absurd (cc))) in
      let readers = kind-same OfReader c.readers (λ k. others (OfReader k) (λ same. absurd (cc))) in
      let writers = kind-same OfWriter c.writers (λ k. others (OfWriter k) (λ same. absurd (cc))) in
      let client_writers = kind-same OfClientWriter c.clients (λ k. others (OfClientWriter k) (λ same. absurd (cc))) in
      let client_readers = kind-change OfClientReader c.clients m within (λ k apart. others (OfClientReader k) (λ same. apart (ap number_of same))) in omega arith

-- by what a state had open there, or has there now
module _ {old new : View} {host : HostState} {e : EndpointName} {o : Option Endpoint} (t : ℕ) (changes : Changes old new host e o) where
  open-by : IsAmong old.names e → times_open t new + times_in tickets_at t (old.opened e) ≡ times_open t old + times_in tickets_at t o
  open-by within =
      ap (λ c. times_under t c new.opened + times_in tickets_at t (old.opened e)) changes.names
      ∙ changed-under t old.opened new.opened old.names e within changes.endpoints.others
      ∙ ap (λ p. times_open t old + times_in tickets_at t p) changes.endpoints.here

  pub open-change : (h : Endpoint) → old.opened e ≡ Some h → times_open t new + times t (tickets_at h) ≡ times_open t old + times_in tickets_at t o
  open-change h was = ap (λ p. times_open t new + times_in tickets_at t p) (sym was) ∙ open-by (old.within e h was)

  pub open-put : (h : Endpoint) → old.opened e ≡ None → o ≡ Some h → times_open t new ≡ times_open t old + times t (tickets_at h)
  open-put h none some =
      let within = subst (λ c. IsAmong c e) changes.names (new.within e h (changes.endpoints.here ∙ some)) in
      let was : times_in tickets_at t (old.opened e) ≡ 0 = ap (times_in tickets_at t) none in
      let now : times_in tickets_at t o ≡ times t (tickets_at h) = ap (times_in tickets_at t) some in
      let all = open-by within in omega arith

pub open-same : (t : ℕ) (old new : View) → new.names ≡ old.names → ((e : EndpointName) → new.opened e ≡ old.opened e) → times_open t new ≡ times_open t old
open-same t old new names same = ap (λ c. times_under t c new.opened) names ∙ same-under t old.opened new.opened old.names same

-- what is open under one name, and under two
one-under : (t : ℕ) (c : NameCounts) (opened : EndpointName → Option Endpoint) (e : EndpointName) → IsAmong c e → times_in tickets_at t (opened e) ≤ times_under t c opened
one-under t c opened (Own e) within = let most = sum-one (λ k. times_in tickets_at t (opened (Own k))) c.own e within in omega arith
one-under t c opened (OfReader r) within = let most = sum-one (λ k. times_in tickets_at t (opened (OfReader k))) c.readers r within in omega arith
one-under t c opened (OfWriter w) within = let most = sum-one (λ k. times_in tickets_at t (opened (OfWriter k))) c.writers w within in omega arith
one-under t c opened (OfClientWriter m) within = let most = sum-one (λ k. times_in tickets_at t (opened (OfClientWriter k))) c.clients m within in omega arith
one-under t c opened (OfClientReader m) within = let most = sum-one (λ k. times_in tickets_at t (opened (OfClientReader k))) c.clients m within in omega arith

pub open-one : (t : ℕ) (v : View) (e : EndpointName) (h : Endpoint) → v.opened e ≡ Some h → times t (tickets_at h) ≤ times_open t v
open-one t v e h is = subst (λ p. times_in tickets_at t p ≤ times_open t v) is (one-under t v.names v.opened e (v.within e h is))

-- nothing is open under a name any more
emptied : View → EndpointName → View
emptied v e = with_open v v.host e None (λ x some. absurd (none-some x some))

emptied-changes : (v : View) (e : EndpointName) → Changes v (emptied v e) v.host e None
unfolding emptied
emptied-changes v e = open-changes v v.host e None (λ x some. absurd (none-some x some))

pub open-two : (t : ℕ) (v : View) (d e : EndpointName) (g h : Endpoint) → d ≢ e → v.opened d ≡ Some g → v.opened e ≡ Some h → times t (tickets_at g) + times t (tickets_at h) ≤ times_open t v
open-two t v d e g h apart first second =
    let gone = emptied-changes v e in
    let change = open-change t gone h second in
    let most = open-one t (emptied v e) d g (gone.endpoints.others d apart ∙ first) in omega arith

-- names under which nothing is open
pub open-none : (t : ℕ) (v : View) → ((e : EndpointName) → v.opened e ≡ None) → times_open t v ≡ 0
open-none t v none =
    let c = v.names in
    let kind : (name : ℕ → EndpointName) (n : ℕ) → of_kind t v.opened name n ≡ 0 = λ name n. sum-none (λ k. times_in tickets_at t (v.opened (name k))) n (λ k. ap (times_in tickets_at t) (none (name k))) in
    omega (arith, kind Own c.own, kind OfReader c.readers, kind OfWriter c.writers, kind OfClientWriter c.clients, kind OfClientReader c.clients)

-- so with futures
awaited-by : (t : ℕ) (fs after : List (Option FutureState)) (n : ℕ) (o : Option FutureState) → ChangedAt fs after n o → n < length fs → times_awaited t after + times_in ticket_in t (named fs n) ≡ times_awaited t fs + times_in ticket_in t o
awaited-by t fs after n o changed within =
    ap (λ m. sum_below (λ k. times_in ticket_in t (named after k)) m + times_in ticket_in t (named fs n)) changed.length
    ∙ sum-change (λ k. times_in ticket_in t (named fs k)) (λ k. times_in ticket_in t (named after k)) (length fs) n within (λ k apart. ap (times_in ticket_in t) (changed.others k apart))
    ∙ ap (λ p. times_awaited t fs + times_in ticket_in t p) changed.here

pub awaited-freed : (t : ℕ) (fs : List (Option FutureState)) (n : ℕ) (f : FutureState) → named fs n ≡ Some f → times_awaited t (freed fs n) + times t (listed f.ticket) ≡ times_awaited t fs
awaited-freed t fs n f is =
    let was : times_in ticket_in t (named fs n) ≡ times t (listed f.ticket) = ap (times_in ticket_in t) is in
    let change = awaited-by t fs (freed fs n) n None (freed-changes fs n) (named-within fs n f is) in omega arith

pub awaited-set : (t : ℕ) (fs : List (Option FutureState)) (n : ℕ) (f : FutureState) → is_free fs n ≡ true → times_awaited t (set_name fs n f) ≡ times_awaited t fs + times t (listed f.ticket)
awaited-set t fs n f free =
    let was : times_in ticket_in t (named fs n) ≡ 0 = ap (times_in ticket_in t) (free-none fs n free) in
    let change = awaited-by t fs (set_name fs n f) n (Some f) (set-changes fs n f free) (free-within fs n free) in omega arith

pub awaited-one : (t : ℕ) (fs : List (Option FutureState)) (n : ℕ) (f : FutureState) → named fs n ≡ Some f → times t (listed f.ticket) ≤ times_awaited t fs
awaited-one t fs n f is =
    subst (λ p. times_in ticket_in t p ≤ times_awaited t fs) is (sum-one (λ k. times_in ticket_in t (named fs k)) (length fs) n (named-within fs n f is))

pub awaited-none : (t : ℕ) (fs : List (Option FutureState)) → ((n : ℕ) → named fs n ≡ None) → times_awaited t fs ≡ 0
awaited-none t fs none = sum-none (λ n. times_in ticket_in t (named fs n)) (length fs) (λ n. ap (times_in ticket_in t) (none n))
