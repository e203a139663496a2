-- Deadlines while a journal goes on.
use Rattle.std.proofs.Common.{◌≡◌, ℕ, ◌+◌, ◌<◌, ◌≤◌, arith, List, [], ◌∷◌, length, Option, Some, None, Bool, true, false, cond, refl, ap, sym, subst, ◌∙◌, inl, inr, slice_get, get_or, ◌⊎◌, Ordering, IsSome}
use Rattle.std.specs.Prelude.{filter, map, is_some, is_none, nat_lt, ◌&&◌, ◌≢◌, option_and_then}
use Rattle.std.specs.List.{All}
use Rattle.std.specs.List.Sorted.{IsStrictlySortedBy}
use Rattle.std.specs.Cmp.{IsTotalOrder}
use Rattle.std.specs.declared.cmp.Ordering.TheVariants.{Less, Equal, Greater}
use Rattle.std.specs.Ordering.{match_ordering}
use Rattle.std.proofs.lemmas.Option.{none-some, same_Some, slice_get_within}
use Rattle.usb_kernel.proofs.Rules.{slice_get-push}
use Rattle.std.specs.BTreeSet.{insert_key}
use Rattle.std.proofs.Common.{length-append}
use Rattle.std.proofs.lemmas.Cmp.{then_total, on_total, nat_cmp_total}
use Rattle.std.proofs.lemmas.List.Elements.{All-weaker}
use Rattle.std.proofs.lemmas.Map.Views.{All-insert_key}
use Rattle.usb_kernel.specs.declared.event.Body.{Body}
use Rattle.usb_kernel.specs.declared.submission.Submission.{Submission}
use Rattle.usb_kernel.specs.Submissions.{submit_event, body_of}
use Rattle.std.specs.BTreeMap.{is_at}
use Rattle.std.specs.BTreeMap.Range.{IsLeBy}
use Rattle.std.specs.Set.{remove_key}
use Rattle.std.proofs.lemmas.List.Elements.{All-nil, All-head, All-tail}
use Rattle.std.proofs.lemmas.Map.Views.{All-remove_key}
use Rattle.std.proofs.lemmas.Bool.{le-leb, lt-ltb, ltb-true, ne_eqb, and_parts}
use Rattle.usb_kernel.proofs.Waiting.{discard-finishes, reapable-parts, event-spares, discard-spares, reap-spares}
use Rattle.usb_kernel.proofs.Places.{slice_get-append_seam}
use Rattle.usb_kernel.proofs.KeptEntries.{deadline-within, entry-stays, equal-entries, without-apart}
use Rattle.usb_kernel.proofs.Completions.{tickets-discard}
use Rattle.usb_kernel.proofs.Fresh.{fate-fresh}
use Rattle.usb_kernel.proofs.InOrder.{sorted-insert, sorted-remove, filter-insert}
use Rattle.std.proofs.lemmas.Grind.{common_steps}
use Rattle.std.proofs.lemmas.Bool.{cases_Bool}
use Rattle.usb_kernel.specs.declared.event.Event.{Event}
use Rattle.usb_kernel.specs.declared.event.Event.TheVariants.{Submit, Refuse, Packet, Ack, Echo, Fail, Discard, Reap, Unplug}
use Rattle.usb_kernel.specs.Tickets.{Ticket, tickets}
use Rattle.usb_kernel.specs.Journal.{fate}
use Rattle.usb_kernel.specs.Steps.{after_discard, is_unfinished}
use Rattle.usb_kernel.specs.Timers.{deadline_of, by_deadline, with_deadline, without_deadline, deadlines, is_open_entry, is_up, discarded_in_order, timer_turned}
use Rattle.usb_kernel.specs.Overdue.{is_discard_of, is_discarded}
use Rattle.usb_kernel.specs.Fates.{Fate, waits}
use Rattle.usb_kernel.specs.Completions.{reapable}
use Rattle.usb_kernel.specs.Waits.{reaps}
use Rattle.usb_kernel.specs.declared.submission.Done.{Done}
use Rattle.usb_kernel.specs.Deadlines.{IsKeptEntry, KeepsDeadlines, moves_deadline}
use Rattle.usb_kernel.specs.Extends.{Extends}
use Rattle.usb_kernel.proofs.Extends.{extends-event, extends-same, extends-discard, extends-discarded_in_order, extends-trans, status-stays}

-- a filter that lets less through needs to see only what a wider one lets through
filter-twice : {X : Type 0} (p q : X → Bool) (xs : List X) → ((x : X) → p x ≡ false → q x ≡ false) → filter q (filter p xs) ≡ filter q xs
filter-twice p q [] less = refl
filter-twice p q (x ∷ xs) less =
    elim (cases_Bool (p x)) [
      | inl yes_ ↦ rw yes_ (elim (q x) as (λ v. cond v (x ∷ filter q (filter p xs)) (filter q (filter p xs)) ≡ cond v (x ∷ filter q xs) (filter q xs)) [ true ↦ ap (λ ys. x ∷ ys) (filter-twice p q xs less) | false ↦ filter-twice p q xs less ])
      | inr no_ ↦ rw (no_, less x no_) (filter-twice p q xs less)
    ]

filter-narrow : {X : Type 0} (p q : X → Bool) (xs ys : List X) → ((x : X) → p x ≡ false → q x ≡ false) → filter p xs ≡ filter p ys → filter q xs ≡ filter q ys
filter-narrow p q xs ys less same = sym (filter-twice p q xs less) ∙ (ap (filter q) same ∙ filter-twice p q ys less)

-- what is finished stays so
closed-stays : (old new : List Event) (p : ℕ × ℕ) → Extends old new → is_open_entry old p ≡ false → is_open_entry new p ≡ false
closed-stays old new p goes closed = closed-by (fate old p.1).status refl
  where
    closed-by : (o : Option ℕ) → (fate old p.1).status ≡ o → is_open_entry new p ≡ false
    closed-by None is = let no_ : true ≡ false = rw is at closed in cc
    closed-by (Some errno) is = rw (status-stays old new p.1 errno goes is) refl

deadlines-event : (past : List Event) (event : Event) → moves_deadline event ≡ false → deadlines (event ∷ past) ≡ deadlines past
deadlines-event past (Submit t d e m body room deadline) none = cc
deadlines-event past (Refuse t d e m body room errno) none = refl
deadlines-event past (Packet d e b) none = refl
deadlines-event past (Ack d e) none = refl
deadlines-event past (Echo d o i) none = refl
deadlines-event past (Fail d e errno) none = refl
deadlines-event past (Discard t) none = refl
deadlines-event past (Reap t) none = refl
deadlines-event past (Unplug d) none = refl

tickets-longer : (past : List Event) (event : Event) → length (tickets past) ≤ length (tickets (event ∷ past))
tickets-longer past (Submit t d e m body room deadline) = omega (arith, length-append {A = Ticket})
tickets-longer past (Refuse t d e m body room errno) = omega (arith, length-append {A = Ticket})
tickets-longer past (Packet d e b) = omega arith
tickets-longer past (Ack d e) = omega arith
tickets-longer past (Echo d o i) = omega arith
tickets-longer past (Fail d e errno) = omega arith
tickets-longer past (Discard t) = omega arith
tickets-longer past (Reap t) = omega arith
tickets-longer past (Unplug d) = omega arith

-- what an event that moves no deadline is not
no-reap : (event : Event) → moves_deadline event ≡ false → reaps event ≡ false
no-reap (Submit t d e m body room deadline) none = refl
no-reap (Refuse t d e m body room errno) none = refl
no-reap (Packet d e b) none = refl
no-reap (Ack d e) none = refl
no-reap (Echo d o i) none = refl
no-reap (Fail d e errno) none = refl
no-reap (Discard t) none = refl
no-reap (Reap t) none = cc
no-reap (Unplug d) none = refl

no-discard : (event : Event) (t : ℕ) → moves_deadline event ≡ false → is_discard_of t event ≡ false
no-discard (Submit t d e m body room deadline) u none = refl
no-discard (Refuse t d e m body room errno) u none = refl
no-discard (Packet d e b) u none = refl
no-discard (Ack d e) u none = refl
no-discard (Echo d o i) u none = refl
no-discard (Fail d e errno) u none = refl
no-discard (Discard t) u none = cc
no-discard (Reap t) u none = refl
no-discard (Unplug d) u none = refl

-- what is kept before any event
pub keeps-none : KeepsDeadlines [] []
unfolding IsStrictlySortedBy
keeps-none = record { same = refl; ordered = tt; each = All-nil (IsKeptEntry []); coming = λ t beyond. refl }

-- an event that moves no deadline leaves them as they were
pub keeps-event : (past : List Event) (event : Event) (ds : List (ℕ × ℕ)) → moves_deadline event ≡ false → KeepsDeadlines past ds → KeepsDeadlines (event ∷ past) ds
keeps-event past event ds none kept =
    record {
      same = rw (deadlines-event past event none) (filter-narrow (is_open_entry past) (is_open_entry (event ∷ past)) ds (deadlines past) (λ p closed. closed-stays past (event ∷ past) p (extends-event past event) closed) kept.same);
      ordered = kept.ordered;
      each = All-weaker (IsKeptEntry past) (IsKeptEntry (event ∷ past)) still ds kept.each;
      coming = λ t beyond. rw (no-discard event t none) (kept.coming t (omega (arith, tickets-longer past event)));
    }
  where
    still : (p : ℕ × ℕ) → IsKeptEntry past p → IsKeptEntry (event ∷ past) p
    still p entry = entry-stays past event p (event-spares past event p.1 (deadline-within past p.1 p.0 entry.deadline) (no-reap event none)) (no-discard event p.1 none) entry

by_deadline-total : IsTotalOrder by_deadline
by_deadline-total = then_total (on_total (λ (p : ℕ × ℕ). p.0) nat_cmp_total) (on_total (λ (p : ℕ × ℕ). p.1) nat_cmp_total)

same_number : (a b : ℕ × ℕ) → by_deadline a b ≡ Equal → a.1 ≡ b.1
same_number a b same = grind (arith, common_steps)

deadlines-sorted-with : (ds : List (ℕ × ℕ)) (o : Option ℕ) (t : ℕ) → IsStrictlySortedBy by_deadline ds → IsStrictlySortedBy by_deadline (with_deadline ds o t)
deadlines-sorted-with ds None t up = up
deadlines-sorted-with ds (Some n) t up = sorted-insert by_deadline by_deadline-total (n, t) ds up

pub deadlines-sorted : (past : List Event) → IsStrictlySortedBy by_deadline (deadlines past)
unfolding IsStrictlySortedBy
deadlines-sorted [] = tt
deadlines-sorted (Submit t d e m body room deadline ∷ past) = deadlines-sorted-with (deadlines past) deadline (length (tickets past)) (deadlines-sorted past)
deadlines-sorted (Refuse t d e m body room errno ∷ past) = deadlines-sorted past
deadlines-sorted (Packet d e b ∷ past) = deadlines-sorted past
deadlines-sorted (Ack d e ∷ past) = deadlines-sorted past
deadlines-sorted (Echo d o i ∷ past) = deadlines-sorted past
deadlines-sorted (Fail d e errno ∷ past) = deadlines-sorted past
deadlines-sorted (Discard t ∷ past) = deadlines-sorted past
deadlines-sorted (Reap t ∷ past) = deadlines-sorted past
deadlines-sorted (Unplug d ∷ past) = deadlines-sorted past

-- the new ticket is open
open-new : (past : List Event) (n : ℕ) → is_open_entry past (n, length (tickets past)) ≡ true
open-new past n = rw (fate-fresh past (length (tickets past)) (omega arith)) refl

open-same : (past : List Event) (a b : ℕ × ℕ) → is_open_entry past a ≡ true → by_deadline a b ≡ Equal → is_open_entry past b ≡ true
open-same past a b here same = rw (sym (same_number a b same)) here

-- an entry of a new ticket
new-entry : (past : List Event) (t d e m : ℕ) (body : Body) (room n : ℕ) → is_discarded past (length (tickets past)) ≡ false → IsKeptEntry (Submit t d e m body room (Some n) ∷ past) (n, length (tickets past))
new-entry past t d e m body room n never =
    record {
      deadline = ap (option_and_then (λ (s : Ticket). s.deadline)) (slice_get-append_seam (tickets past) _);
      unreaped = ap (λ (f : Fate). f.reaped) (fate-fresh past (length (tickets past)) (omega arith));
      undiscarded = never;
    }

-- a submission with a deadline adds it at its place
pub keeps-submit : (past : List Event) (t d e m : ℕ) (body : Body) (room : ℕ) (deadline : Option ℕ) (ds : List (ℕ × ℕ)) → KeepsDeadlines past ds → KeepsDeadlines (Submit t d e m body room deadline ∷ past) (with_deadline ds deadline (length (tickets past)))
keeps-submit past t d e m body room None ds kept =
    let later : List Event = Submit t d e m body room None ∷ past in
    record {
      same = kept.same;
      ordered = kept.ordered;
      each = All-weaker (IsKeptEntry past) (IsKeptEntry later) (λ p entry. entry-stays past (Submit t d e m body room None) p refl refl entry) ds kept.each;
      coming = λ u beyond. kept.coming u (omega (arith, length-append {A = Ticket}));
    }
keeps-submit past t d e m body room (Some n) ds kept =
    let later : List Event = Submit t d e m body room (Some n) ∷ past in
    let place = filter-insert by_deadline by_deadline-total (is_open_entry past) (n, length (tickets past)) in
    let same = λ (x : ℕ × ℕ) (h : by_deadline (n, length (tickets past)) x ≡ Equal). open-same past (n, length (tickets past)) x (open-new past n) h in
    let still : All (IsKeptEntry later) ds = All-weaker (IsKeptEntry past) (IsKeptEntry later) (λ p entry. entry-stays past (Submit t d e m body room (Some n)) p refl refl entry) ds kept.each in
    let never : is_discarded past (length (tickets past)) ≡ false = kept.coming (length (tickets past)) (omega arith) in
    record {
      same = place ds (open-new past n) same kept.ordered ∙ (ap (λ xs. insert_key by_deadline xs (n, length (tickets past))) kept.same ∙ sym (place (deadlines past) (open-new past n) same (deadlines-sorted past)));
      ordered = sorted-insert by_deadline by_deadline-total (n, length (tickets past)) ds kept.ordered;
      each = All-insert_key by_deadline (n, length (tickets past)) (IsKeptEntry later) ds still (new-entry past t d e m body room n never);
      coming = λ u beyond. kept.coming u (omega (arith, length-append {A = Ticket}));
    }

-- a discard of a ticket that is finished leaves no event
discard-finished : (past : List Event) (t : ℕ) → is_open_entry past (0, t) ≡ false → after_discard past t ≡ past
discard-finished past t closed = rw closed (elim (nat_lt t (length (tickets past))) as (λ v. cond (v && false) (Discard t ∷ past) past ≡ past) [ true ↦ refl | false ↦ refl ])

-- tickets that are finished may be passed over
pub passes-finished : (past now : List Event) (xs : List (ℕ × ℕ)) → Extends past now → discarded_in_order now (map (λ p. p.1) (filter (is_open_entry past) xs)) ≡ discarded_in_order now (map (λ p. p.1) xs)
passes-finished past now [] goes = refl
passes-finished past now (x ∷ xs) goes =
    elim (cases_Bool (is_open_entry past x)) [
      | inl yes_ ↦ rw yes_ (passes-finished past (after_discard now x.1) xs (extends-trans past now (after_discard now x.1) goes (extends-discard now x.1)))
      | inr no_ ↦ rw no_ (passes-finished past now xs goes ∙ ap (λ (then : List Event). discarded_in_order then (map (λ p. p.1) xs)) (sym (discard-finished now x.1 (closed-stays past now x goes no_))))
    ]

filter-swap : {X : Type 0} (p q : X → Bool) (xs : List X) → filter p (filter q xs) ≡ filter q (filter p xs)
filter-swap p q [] = refl
filter-swap p q (x ∷ xs) =
    elim (cases_Bool (p x)) [
      | inl yes_ ↦ elim (cases_Bool (q x)) [ inl also ↦ rw (also, yes_, also) (ap (λ ys. x ∷ ys) (filter-swap p q xs)) | inr no_ ↦ rw (no_, yes_, no_) (filter-swap p q xs) ]
      | inr no_ ↦ elim (cases_Bool (q x)) [ inl yes_ ↦ rw (yes_, no_) (filter-swap p q xs) | inr neither ↦ rw (neither, no_) (filter-swap p q xs) ]
    ]

-- the turn is a discard of each ticket whose kept deadline is up
pub turned-kept : (past : List Event) (clock : ℕ) (ds : List (ℕ × ℕ)) → KeepsDeadlines past ds → timer_turned clock past ≡ discarded_in_order past (map (λ p. p.1) (filter (is_up clock) ds))
unfolding timer_turned
turned-kept past clock ds kept =
    ap (λ xs. discarded_in_order past (map (λ p. p.1) (filter (is_up clock) xs))) (sym kept.same)
    ∙ (ap (λ xs. discarded_in_order past (map (λ p. p.1) xs)) (filter-swap (is_up clock) (is_open_entry past) ds)
    ∙ passes-finished past past (filter (is_up clock) ds) (extends-same past))

-- what a submission adds
pub keeps-added : (past : List Event) (s : Submission) (deadline : Option ℕ) (t : ℕ) (old new : List (ℕ × ℕ)) → new ≡ with_deadline old deadline t → s.deadline ≡ deadline → t ≡ length (tickets past) → KeepsDeadlines past old → KeepsDeadlines (submit_event (length (tickets past)) s ∷ past) new
keeps-added past s deadline t old new is has number kept =
    let same : new ≡ with_deadline old s.deadline (length (tickets past)) = is ∙ (ap (with_deadline old deadline) number ∙ ap (λ o. with_deadline old o (length (tickets past))) (sym has)) in
    rw same (keeps-submit past (length (tickets past)) s.device s.endpoint s.maximum (body_of s.endpoint s.buffer) s.buffer.room s.deadline old kept)

-- what is taken out with a ticket that is finished
filter-removed : {X : Type 0} (p q : X → Bool) (xs : List X) → ((x : X) → p x ≡ true → q x ≡ false) → filter q (remove_key p xs) ≡ filter q xs
filter-removed p q [] apart = refl
filter-removed p q (x ∷ xs) apart =
    elim (cases_Bool (p x)) [
      | inl yes_ ↦ rw (yes_, apart x yes_) refl
      | inr no_ ↦ rw no_ (elim (q x) as (λ v. cond v (x ∷ filter q (remove_key p xs)) (filter q (remove_key p xs)) ≡ cond v (x ∷ filter q xs) (filter q xs)) [ true ↦ ap (λ ys. x ∷ ys) (filter-removed p q xs apart) | false ↦ filter-removed p q xs apart ])
    ]

closed-same : (past : List Event) (a b : ℕ × ℕ) → is_open_entry past (0, a.1) ≡ false → is_at (by_deadline a) b ≡ true → is_open_entry past b ≡ false
closed-same past a b closed at = let number : b.1 ≡ a.1 = grind (arith, common_steps) in rw number closed

filter-without : (past : List Event) (o : Option ℕ) (t : ℕ) (ds : List (ℕ × ℕ)) → is_open_entry past (0, t) ≡ false → filter (is_open_entry past) (without_deadline ds o t) ≡ filter (is_open_entry past) ds
filter-without past None t ds closed = refl
filter-without past (Some n) t ds closed = filter-removed (is_at (by_deadline (n, t))) (is_open_entry past) ds (λ x at. closed-same past (n, t) x closed at)

sorted-without : (o : Option ℕ) (t : ℕ) (ds : List (ℕ × ℕ)) → IsStrictlySortedBy by_deadline ds → IsStrictlySortedBy by_deadline (without_deadline ds o t)
sorted-without None t ds up = up
sorted-without (Some n) t ds up = sorted-remove by_deadline by_deadline-total (is_at (by_deadline (n, t))) ds up

All-without : (P : ℕ × ℕ → Type 0) (o : Option ℕ) (t : ℕ) (ds : List (ℕ × ℕ)) → All P ds → All P (without_deadline ds o t)
All-without P None t ds all = all
All-without P (Some n) t ds all = All-remove_key (is_at (by_deadline (n, t))) P ds all

-- an event that reaps or discards one ticket, which is finished then, takes its deadline out
record TakesOut (past : List Event) (event : Event) (t : ℕ) : Type 0 where
  deadlines : deadlines (event ∷ past) ≡ deadlines past
  within : t < length (tickets past)
  closed : is_open_entry (event ∷ past) (0, t) ≡ false
  spares : (u : ℕ) → u ≢ t → (fate (event ∷ past) u).reaped ≡ (fate past u).reaped
  others : (u : ℕ) → u ≢ t → is_discard_of u event ≡ false

keeps-taken : (past : List Event) (event : Event) (t : ℕ) (ds : List (ℕ × ℕ)) → TakesOut past event t → KeepsDeadlines past ds → KeepsDeadlines (event ∷ past) (without_deadline ds (deadline_of past t) t)
keeps-taken past event t ds takes kept =
    let o = deadline_of past t in
    let apart = without-apart past t ds kept.ordered kept.each in
    let all = All-without (IsKeptEntry past) o t ds kept.each in
    record {
      same =
          filter-without (event ∷ past) o t ds takes.closed
          ∙ rw takes.deadlines (filter-narrow (is_open_entry past) (is_open_entry (event ∷ past)) ds (deadlines past) (λ p closed. closed-stays past (event ∷ past) p (extends-event past event) closed) kept.same);
      ordered = sorted-without o t ds kept.ordered;
      each = λ k d within. still (get_or (without_deadline ds o t) k d) (apart k d within) (all k d within);
      coming = λ u beyond. rw (takes.others u (later u beyond)) (kept.coming u (omega (arith, tickets-longer past event)));
    }
  where
    still : (p : ℕ × ℕ) → p.1 ≢ t → IsKeptEntry past p → IsKeptEntry (event ∷ past) p
    still p apart entry = entry-stays past event p (takes.spares p.1 apart) (takes.others p.1 apart) entry

    later : (u : ℕ) → length (tickets (event ∷ past)) ≤ u → u ≢ t
    later u beyond same = omega (arith, takes.within, tickets-longer past event)

-- a reap does
pub keeps-reaped : (past : List Event) (t : ℕ) (done : Done) (ds : List (ℕ × ℕ)) → reapable past t ≡ Some done → KeepsDeadlines past ds → KeepsDeadlines (Reap t ∷ past) (without_deadline ds (deadline_of past t) t)
keeps-reaped past t done ds some kept =
    let there = reapable-parts t past (slice_get (tickets past) t) refl (rw some refl) in
    keeps-taken past (Reap t) t ds
    (record {
      deadlines = refl;
      within = slice_get_within (tickets past) t there.0 there.1;
      closed = closed-stays past (Reap t ∷ past) (0, t) (extends-event past (Reap t)) (waits-closed (fate past t) there.2);
      spares = reap-spares past t;
      others = λ u apart. refl;
    })
    kept
  where
    waits-closed : (f : Fate) → waits f ≡ true → is_none f.status ≡ false
    waits-closed f w = grind (arith, common_steps)

-- a ticket that was discarded is finished
closed-discarded : (past : List Event) (n t : ℕ) → t < length (tickets past) → is_open_entry (after_discard past t) (n, t) ≡ false
closed-discarded past n t within = grind (arith, common_steps, discard-finishes past t within)

unfinished-within : (past : List Event) (t : ℕ) → is_unfinished past t ≡ true → t < length (tickets past)
unfinished-within past t some = ltb-true t (length (tickets past)) (and_parts (nat_lt t (length (tickets past))) (is_none (fate past t).status) some).0

-- and a discard that acts
pub keeps-dropped : (past : List Event) (t : ℕ) (ds : List (ℕ × ℕ)) → is_unfinished past t ≡ true → KeepsDeadlines past ds → KeepsDeadlines (after_discard past t) (without_deadline ds (deadline_of past t) t)
keeps-dropped past t ds some kept =
    let within = unfinished-within past t some in
    rw some
    (keeps-taken past (Discard t) t ds
    (record {
      deadlines = refl;
      within = within;
      closed = rw some at (closed-discarded past 0 t within);
      spares = λ u apart. discard-spares past t u;
      others = λ u apart. ne_eqb u t apart;
    })
    kept)

-- one that does not act leaves the deadlines that are kept
pub keeps-undropped : (past : List Event) (t : ℕ) (ds : List (ℕ × ℕ)) → is_unfinished past t ≡ false → KeepsDeadlines past ds → KeepsDeadlines (after_discard past t) ds
keeps-undropped past t ds none kept = rw none kept

-- the entry of a ticket that is finished may be taken out too
keeps-popped : (past : List Event) (x : ℕ × ℕ) (xs : List (ℕ × ℕ)) → is_open_entry past x ≡ false → KeepsDeadlines past (x ∷ xs) → KeepsDeadlines past xs
unfolding IsStrictlySortedBy
keeps-popped past x xs closed kept =
    record {
      same = sym (ap (λ v. cond v (x ∷ filter (is_open_entry past) xs) (filter (is_open_entry past) xs)) closed) ∙ kept.same;
      ordered = kept.ordered.1;
      each = All-tail (IsKeptEntry past) x xs kept.each;
      coming = kept.coming;
    }

without-first : (n t : ℕ) (xs : List (ℕ × ℕ)) (o : Option ℕ) → o ≡ Some n → without_deadline ((n, t) ∷ xs) o t ≡ xs
without-first n t xs o is = rw (is, equal-entries (n, t) (n, t) refl refl) refl

-- a turn takes the first out, and then discards its ticket
pub keeps-discarded : (past : List Event) (n t : ℕ) (old new : List (ℕ × ℕ)) → old ≡ (n, t) ∷ new → KeepsDeadlines past old → KeepsDeadlines (after_discard past t) new
keeps-discarded past n t old new is kept =
    let first : KeepsDeadlines past ((n, t) ∷ new) = rw is at kept in
    let entry : IsKeptEntry past (n, t) = All-head (IsKeptEntry past) (n, t) new first.each in
    let within : t < length (tickets past) = deadline-within past t n entry.deadline in
    elim (cases_Bool (is_unfinished past t)) [
      | inl some ↦ subst (KeepsDeadlines (after_discard past t)) (without-first n t new (deadline_of past t) entry.deadline) (keeps-dropped past t ((n, t) ∷ new) some first)
      | inr none ↦ keeps-undropped past t new none (keeps-popped past (n, t) new (shut within none) first)
    ]
  where
    shut : t < length (tickets past) → is_unfinished past t ≡ false → is_open_entry past (n, t) ≡ false
    shut within none = rw (lt-ltb t (length (tickets past)) within) at none

-- where the first deadline is not up, none is
pub none-up : (clock : ℕ) (first : ℕ × ℕ) (ds : List (ℕ × ℕ)) → clock < first.0 → All (IsLeBy by_deadline first) ds → filter (is_up clock) ds ≡ []
none-up clock first [] later all = refl
none-up clock first (x ∷ xs) later all =
    let here : IsLeBy by_deadline first x = All-head (IsLeBy by_deadline first) x xs all in
    let closed : is_up clock x ≡ false = grind (arith, common_steps) in
    rw closed (none-up clock first xs later (All-tail (IsLeBy by_deadline first) x xs all))

-- a turn goes on with the first deadline that is up
pub turn-goes_on : (past : List Event) (clock n t : ℕ) (old new : List (ℕ × ℕ)) → old ≡ (n, t) ∷ new → n ≤ clock → discarded_in_order past (map (λ p. p.1) (filter (is_up clock) old)) ≡ discarded_in_order (after_discard past t) (map (λ p. p.1) (filter (is_up clock) new))
turn-goes_on past clock n t old new is up = rw (is, le-leb n clock up) refl

pub tickets-submit : (past : List Event) (s : Submission) (t : ℕ) → length (tickets (submit_event t s ∷ past)) ≡ length (tickets past) + 1
tickets-submit past s t = omega (arith, length-append {A = Ticket})

-- a ticket with a deadline is among the deadlines
abbrev Has : ℕ × ℕ → List (ℕ × ℕ) → Type 0
Has k [] = ⊥
Has k (x ∷ xs) = (x ≡ k) ⊎ Has k xs

same_pair : (a b : ℕ × ℕ) → by_deadline a b ≡ Equal → b ≡ a
same_pair a b same =
    let first : b.0 ≡ a.0 = grind (arith, common_steps) in
    let second : b.1 ≡ a.1 = sym (same_number a b same) in
    ap (λ n. (n, b.1)) first ∙ ap (λ t. (a.0, t)) second

has-inserted-by : (k x : ℕ × ℕ) (xs : List (ℕ × ℕ)) (v : Ordering) → by_deadline k x ≡ v → Has k (insert_key by_deadline xs k) → Has k (match_ordering v (k ∷ x ∷ xs) (x ∷ xs) (x ∷ insert_key by_deadline xs k))
has-inserted-by k x xs Less is further = inl refl
has-inserted-by k x xs Equal is further = inl (same_pair k x is)
has-inserted-by k x xs Greater is further = inr further

has-inserted : (k : ℕ × ℕ) (xs : List (ℕ × ℕ)) → Has k (insert_key by_deadline xs k)
has-inserted k [] = inl refl
has-inserted k (x ∷ xs) = has-inserted-by k x xs (by_deadline k x) refl (has-inserted k xs)

has-still : (y k : ℕ × ℕ) (xs : List (ℕ × ℕ)) → Has y xs → Has y (insert_key by_deadline xs k)
has-still y k [] has = elim has [ ]
has-still y k (x ∷ xs) (inl here) =
    elim (by_deadline k x) as (λ v. Has y (match_ordering v (k ∷ x ∷ xs) (x ∷ xs) (x ∷ insert_key by_deadline xs k))) [ Less ↦ inr (inl here) | Equal ↦ inl here | Greater ↦ inl here ]
has-still y k (x ∷ xs) (inr there) =
    elim (by_deadline k x) as (λ v. Has y (match_ordering v (k ∷ x ∷ xs) (x ∷ xs) (x ∷ insert_key by_deadline xs k))) [ Less ↦ inr (inr there) | Equal ↦ inr there | Greater ↦ inr (has-still y k xs there) ]

has-with : (y : ℕ × ℕ) (ds : List (ℕ × ℕ)) (o : Option ℕ) (t : ℕ) → Has y ds → Has y (with_deadline ds o t)
has-with y ds None t has = has
has-with y ds (Some n) t has = has-still y (n, t) ds has

pub has-deadline : (past : List Event) (t n : ℕ) (s : Ticket) → slice_get (tickets past) t ≡ Some s → s.deadline ≡ Some n → Has (n, t) (deadlines past)
has-deadline [] t n s at is = absurd (none-some s at)
has-deadline (Submit u d e m body room deadline ∷ past) t n s at is =
    elim (slice_get-push (tickets past) _ t s at) [
      | inl before ↦ has-with (n, t) (deadlines past) deadline (length (tickets past)) (has-deadline past t n s before is)
      | inr last ↦ has-new deadline (ap (λ (x : Ticket). x.deadline) last.1 ∙ is) last.0
    ]
  where
    has-new : (o : Option ℕ) → o ≡ Some n → t ≡ length (tickets past) → Has (n, t) (with_deadline (deadlines past) o (length (tickets past)))
    has-new None some at = absurd (none-some n some)
    has-new (Some m) some at = rw (same_Some m n some, at) (has-inserted (n, length (tickets past)) (deadlines past))
has-deadline (Refuse u d e m body room errno ∷ past) t n s at is =
    elim (slice_get-push (tickets past) _ t s at) [
      | inl before ↦ has-deadline past t n s before is
      | inr last ↦ absurd (none-some n (ap (λ (x : Ticket). x.deadline) last.1 ∙ is))
    ]
has-deadline (Packet d e b ∷ past) t n s at is = has-deadline past t n s at is
has-deadline (Ack d e ∷ past) t n s at is = has-deadline past t n s at is
has-deadline (Echo d o i ∷ past) t n s at is = has-deadline past t n s at is
has-deadline (Fail d e b ∷ past) t n s at is = has-deadline past t n s at is
has-deadline (Discard u ∷ past) t n s at is = has-deadline past t n s at is
has-deadline (Reap u ∷ past) t n s at is = has-deadline past t n s at is
has-deadline (Unplug d ∷ past) t n s at is = has-deadline past t n s at is

pub stays-finished : (old new : List Event) (t : ℕ) → Extends old new → IsSome (fate old t).status → IsSome (fate new t).status
stays-finished old new t goes some = finished-by (fate old t).status refl some
  where
    finished-by : (o : Option ℕ) → (fate old t).status ≡ o → IsSome o → IsSome (fate new t).status
    finished-by (Some errno) is some = ap is_some (status-stays old new t errno goes is)
    finished-by None is some = cc

finishes-in : (past : List Event) (clock n t : ℕ) (ds : List (ℕ × ℕ)) → n ≤ clock → t < length (tickets past) → Has (n, t) ds → IsSome (fate (discarded_in_order past (map (λ p. p.1) (filter (is_up clock) ds))) t).status
finishes-in past clock n t [] up within has = elim has [ ]
finishes-in past clock n t (x ∷ xs) up within (inl here) =
    rw (here, le-leb n clock up)
    (stays-finished (after_discard past t) (discarded_in_order (after_discard past t) (map (λ p. p.1) (filter (is_up clock) xs))) t (extends-discarded_in_order (after_discard past t) (map (λ p. p.1) (filter (is_up clock) xs))) (discard-finishes past t within))
finishes-in past clock n t (x ∷ xs) up within (inr there) =
    elim (is_up clock x) as (λ v. IsSome (fate (discarded_in_order past (map (λ p. p.1) (cond v (x ∷ filter (is_up clock) xs) (filter (is_up clock) xs)))) t).status) [
      | true ↦ finishes-in (after_discard past x.1) clock n t xs up (rw (tickets-discard past x.1) within) there
      | false ↦ finishes-in past clock n t xs up within there
    ]

-- after the turn of the timer a ticket whose deadline is at most the clock is finished
pub timer-finishes : (past : List Event) (clock t n : ℕ) (s : Ticket) → slice_get (tickets past) t ≡ Some s → s.deadline ≡ Some n → n ≤ clock → IsSome (fate (timer_turned clock past) t).status
unfolding timer_turned
timer-finishes past clock t n s at is up =
    rw (filter-swap (is_up clock) (is_open_entry past) (deadlines past), passes-finished past past (filter (is_up clock) (deadlines past)) (extends-same past))
    (finishes-in past clock n t (deadlines past) up (slice_get_within (tickets past) t s at) (has-deadline past t n s at is))
