-- A queue keeps its links when a refusal comes and when one is used.
use Rattle.std.proofs.Common.{◌≡◌, ◌≢◌, ℕ, zero, suc, ◌+◌, ◌*◌, replicate, get_or, is_some, ◌<◌, Bool, true, false, List, [], ◌∷◌, ◌++◌, length, set, slice_get, Option, Some, None, refl, sym, ap, ◌∙◌, inl, inr, arith, ◌⊎◌, length-append, length-set}
use Rattle.std.specs.Prelude.{◌==◌}
use Rattle.std.specs.Option.{option_map, option_map_or, unwrap_or}
use Rattle.std.proofs.lemmas.Bool.{cases_eq, cases_lt, cases_Bool, eq-eqb, ne_eqb}
use Rattle.std.proofs.lemmas.Option.{none-some, same_Some, slice_get_within, slice_get-get_or}
use Rattle.std.proofs.lemmas.List.{length-replicate}
use Rattle.usb_kernel_devices.specs.declared.step.Armed.{Armed}
use Rattle.usb_kernel_devices.specs.declared.refusals.Arming.{Arming}
use Rattle.usb_kernel_devices.specs.declared.refusals.Queue.{Queue}
use Rattle.usb_kernel_devices.specs.Queues.{kind_of, unused, is_queued, queued_at, fresh_arming, next_set, linked_behind, IsFirst, IsLast, IsLinked}
use Rattle.usb_kernel_devices.proofs.Firsts.{first-same, last-same, first-more_none, first-more_some, last-more, first-less, last-less}
use Rattle.usb_kernel_devices.proofs.QueueLemmas.{queued-within, queued-end, queued-fresh_arming, queued-before, queued-set, queued-set_other, queued-next_set, get-before, get-end, unused-next_set, unused-none, unused-first, disarmed-none, disarmed-first}
use Rattle.usb_kernel_devices.specs.declared.step.KernelCall.{KernelCall}
use Rattle.std.specs.Prelude.{find}
use Rattle.std.specs.List.{All}
use Rattle.std.proofs.Common.{subst}
use Rattle.usb_kernel_devices.specs.Errnos.{IsErrno}
use Rattle.usb_kernel_devices.specs.Refusals.{call_number, is_armed_for, armed_errno, disarmed, HasArmedErrno}

no : (b : Bool) → b ≡ true → b ≡ false → ⊥
no b yes_ no_ = absurd (cc)

-- an element after a write
get-written : {X : Type 0} (xs : List X) (i t : ℕ) (r x : X) → slice_get (set xs i r) t ≡ Some x → ((t ≡ i) × (x ≡ r)) ⊎ ((t ≢ i) × (slice_get xs t ≡ Some x))
get-written [] i t r x at = absurd (none-some x at)
get-written (y ∷ ys) zero zero r x at = inl (refl, sym (same_Some r x at))
get-written (y ∷ ys) zero (suc t) r x at = inr (λ z. absurd (omega arith), at)
get-written (y ∷ ys) (suc i) zero r x at = inr (λ z. absurd (omega arith), at)
get-written (y ∷ ys) (suc i) (suc t) r x at = elim (get-written ys i t r x at) [ inl w ↦ inl (ap suc w.0, w.1) | inr w ↦ inr (λ z. w.0 (omega arith), w.1) ]

-- what queued_at at a place
queued-entry : (k : ℕ) (log : List Arming) (i : ℕ) (x : Arming) → slice_get log i ≡ Some x → x.is_used ≡ false → kind_of x.refusal ≡ k → queued_at k log i ≡ true
queued-entry k log i x at unused same = rw (at, unused, eq-eqb (kind_of x.refusal) k same) refl

pub record Entry (k : ℕ) (log : List Arming) (i : ℕ) : Type 0 where
  pub x : Arming
  pub at : slice_get log i ≡ Some x
  pub unused : x.is_used ≡ false
  pub kind : kind_of x.refusal ≡ k

waiting-parts : (k : ℕ) (x : Arming) → is_queued k x ≡ true → (x.is_used ≡ false) × (kind_of x.refusal ≡ k)
waiting-parts k x yes_ =
    elim (cases_Bool x.is_used) [
      | inl used ↦ absurd (let z = rw used at yes_ in cc)
      | inr fresh_ ↦ (
        fresh_,
        elim (cases_eq (kind_of x.refusal) k) [
          | inl same ↦ same
          | inr other ↦ absurd (let z = rw (fresh_, ne_eqb (kind_of x.refusal) k other) at yes_ in cc)
        ],
      )
    ]

entry-by : (k : ℕ) (log : List Arming) (i : ℕ) (o : Option Arming) → slice_get log i ≡ o → option_map_or (is_queued k) o false ≡ true → Entry k log i
entry-by k log i None at yes_ = absurd (cc)
entry-by k log i (Some x) at yes_ = let p = waiting-parts k x yes_ in record { x = x; at = at; unused = p.0; kind = p.1 }

pub entry-of : (k : ℕ) (log : List Arming) (i : ℕ) → queued_at k log i ≡ true → Entry k log i
entry-of k log i yes_ = entry-by k log i (slice_get log i) refl yes_

length-next_set : (log : List Arming) (l place : ℕ) (o : Option Arming) → length (next_set log l place o) ≡ length log
length-next_set log l place None = refl
length-next_set log l place (Some x) = length-set log l (record x { next = Some place })

pub length-behind : (log : List Arming) (o : Option ℕ) (last place : ℕ) → length (linked_behind log o last place) ≡ length log
length-behind log None last place = refl
length-behind log (Some f) last place = length-next_set log last place (slice_get log last)

queued-behind : (k : ℕ) (log : List Arming) (o : Option ℕ) (last place : ℕ) (i : ℕ) → queued_at k (linked_behind log o last place) i ≡ queued_at k log i
queued-behind k log None last place i = refl
queued-behind k log (Some f) last place i = queued-next_set k log last place (slice_get log last) refl i

abbrev first_or : Option ℕ → ℕ → ℕ
first_or None place = place
first_or (Some f) place = f

module _ (queues : List Queue) (log : List Arming) (a : Armed) (q : Queue) (linked : IsLinked queues log) (get : slice_get queues (kind_of a) ≡ Some q) where
  abbrev behind : List Arming
  behind = linked_behind log q.first q.last (length log)

  abbrev longer : List Arming
  longer = behind ++ fresh_arming a ∷ []

  here : (k : ℕ) → queued_at k longer (length log) ≡ (kind_of a == k)
  here k = rw (length-behind log q.first q.last (length log)) at (queued-fresh_arming k behind a)

  others : (k : ℕ) (i : ℕ) → i ≢ length log → queued_at k longer i ≡ queued_at k log i
  others k i other = queued-before k behind a i (λ z. other (z ∙ length-behind log q.first q.last (length log))) ∙ queued-behind k log q.first q.last (length log) i

  own : queued_at (kind_of a) longer (length log) ≡ true
  own = here (kind_of a) ∙ eq-eqb (kind_of a) (kind_of a) refl

  foreign : (k : ℕ) → k ≢ kind_of a → (i : ℕ) → queued_at k longer i ≡ queued_at k log i
  foreign k other i =
      elim (cases_eq i (length log)) [
        | inl same ↦ rw same (here k ∙ ne_eqb (kind_of a) k (λ z. other (sym z)) ∙ sym (queued-end k log (length log) (omega arith)))
        | inr apart ↦ others k i apart
      ]

  first-own : (o : Option ℕ) → IsFirst (queued_at (kind_of a) log) 0 o → IsFirst (queued_at (kind_of a) longer) 0 (Some (first_or o (length log)))
  first-own None first = first-more_none (queued_at (kind_of a) longer) (queued_at (kind_of a) log) (length log) own (others (kind_of a)) (queued-end (kind_of a) log) 0 (omega arith) first
  first-own (Some j) first = first-more_some (queued_at (kind_of a) longer) (queued_at (kind_of a) log) (length log) own (others (kind_of a)) (queued-end (kind_of a) log) 0 j first

  -- the next of one that was there, where its queue has others
  next-own : (i : ℕ) (x : Arming) (o : Option ℕ) (l : ℕ) → i ≢ l → queued_at (kind_of a) log l ≡ true → ((m : ℕ) → l < m → queued_at (kind_of a) log m ≡ false) → queued_at (kind_of a) log i ≡ true → IsFirst (queued_at (kind_of a) log) (suc i) o → IsFirst (queued_at (kind_of a) longer) (suc i) o
  next-own i x None l apart last none waits_ first =
      elim (cases_lt i l) [
        | inl before ↦ absurd (no (queued_at (kind_of a) log l) last (first l (omega (arith, before))))
        | inr past ↦ absurd (no (queued_at (kind_of a) log i) waits_ (none i (omega (arith, past, apart))))
      ]
  next-own i x (Some j) l apart last none waits_ first =
      first-more_some (queued_at (kind_of a) longer) (queued_at (kind_of a) log) (length log) own (others (kind_of a)) (queued-end (kind_of a) log) (suc i) j first

  next-old : (i : ℕ) (x : Arming) → slice_get log i ≡ Some x → x.is_used ≡ false → (queued_at (kind_of a) log i ≡ true → IsFirst (queued_at (kind_of a) log) (suc i) x.next → IsFirst (queued_at (kind_of a) longer) (suc i) x.next) → IsFirst (queued_at (kind_of x.refusal) longer) (suc i) x.next
  next-old i x at unused own_kind =
      elim (cases_eq (kind_of x.refusal) (kind_of a)) [
        | inl same ↦ rw same (own_kind (queued-entry (kind_of a) log i x at unused same) (rw same at (linked.next i x at unused)))
        | inr other ↦ first-same (queued_at (kind_of x.refusal) longer) (queued_at (kind_of x.refusal) log) (suc i) x.next (λ m after. foreign (kind_of x.refusal) other m) (linked.next i x at unused)
      ]

  next-behind : (o : Option ℕ) → q.first ≡ o → IsFirst (queued_at (kind_of a) log) 0 o → IsLast (queued_at (kind_of a) log) o q.last → (i : ℕ) (x : Arming) → slice_get (linked_behind log o q.last (length log)) i ≡ Some x → x.is_used ≡ false → IsFirst (queued_at (kind_of x.refusal) longer) (suc i) x.next
  next-behind None is first last i x at unused =
      next-old i x at unused (λ waits_ next. absurd (no (queued_at (kind_of a) log i) waits_ (first i (omega arith))))
  next-behind (Some j) is first last i x at unused =
      let e = entry-of (kind_of a) log q.last last.0 in
      let at2 : slice_get (set log q.last (record (e.x) { next = Some (length log) })) i ≡ Some x = rw e.at at at in
      elim (get-written log q.last i (record (e.x) { next = Some (length log) }) x at2) [
        | inl w ↦
            let kind : kind_of x.refusal ≡ kind_of a = ap (λ (y : Arming). kind_of y.refusal) w.1 ∙ e.kind in
            let next : x.next ≡ Some (length log) = ap (λ (y : Arming). y.next) w.1 in
            let within = queued-within (kind_of a) log q.last last.0 in
            rw (kind, next, w.0) (first-more_none (queued_at (kind_of a) longer) (queued_at (kind_of a) log) (length log) own (others (kind_of a)) (queued-end (kind_of a) log) (suc q.last) (omega (arith, within)) (λ m after. last.1 m (omega (arith, after))))
        | inr w ↦ next-old i x w.1 unused (λ waits_ next. next-own i x x.next q.last w.0 last.0 last.1 waits_ next)
      ]

  next-longer : (i : ℕ) (x : Arming) → slice_get longer i ≡ Some x → x.is_used ≡ false → IsFirst (queued_at (kind_of x.refusal) longer) (suc i) x.next
  next-longer i x at unused =
      let len = length-behind log q.first q.last (length log) in
      elim (cases_eq i (length behind)) [
        | inl same ↦
            let is : fresh_arming a ≡ x = same_Some (fresh_arming a) x (sym (get-end behind (fresh_arming a)) ∙ ap (slice_get longer) (sym same) ∙ at) in
            let next : x.next ≡ None = ap (λ (y : Arming). y.next) (sym is) in
            rw next (λ m after. queued-end (kind_of x.refusal) longer m (omega (arith, after, same, length-append behind (fresh_arming a ∷ []))))
        | inr other ↦ next-behind q.first refl (linked.first (kind_of a) q get) (linked.last (kind_of a) q get) i x (sym (get-before behind (fresh_arming a) i other) ∙ at) unused
      ]

  pub enqueued : IsLinked (set queues (kind_of a) (record { first = Some (first_or q.first (length log)); last = length log })) longer
  enqueued =
      let new : Queue = record { first = Some (first_or q.first (length log)); last = length log } in
      record {
        count = length-set queues (kind_of a) new ∙ linked.count;
        first = λ k p there. elim (get-written queues (kind_of a) k new p there) [
          | inl w ↦ rw (w.0, w.1) (first-own q.first (linked.first (kind_of a) q get))
          | inr w ↦ first-same (queued_at k longer) (queued_at k log) 0 p.first (λ m after. foreign k w.0 m) (linked.first k p w.1)
        ];
        last = λ k p there. elim (get-written queues (kind_of a) k new p there) [
          | inl w ↦ rw (w.0, w.1) (last-more (queued_at (kind_of a) longer) (queued_at (kind_of a) log) (length log) own (others (kind_of a)) (queued-end (kind_of a) log) (first_or q.first (length log)))
          | inr w ↦ last-same (queued_at k longer) (queued_at k log) p.first p.last (foreign k w.0) (linked.last k p w.1)
        ];
        next = next-longer;
      }

module _ (queues : List Queue) (log : List Arming) (kind j : ℕ) (q : Queue) (x : Arming) (linked : IsLinked queues log) (get : slice_get queues kind ≡ Some q) (is : q.first ≡ Some j) (at : slice_get log j ≡ Some x) where
  abbrev shorter : List Arming
  shorter = set log j (record x { is_used = true })

  pub first-j : IsFirst (queued_at kind log) 0 (Some j)
  first-j = rw is at (linked.first kind q get)

  x-parts : (x.is_used ≡ false) × (kind_of x.refusal ≡ kind)
  x-parts =
      let e = entry-of kind log j first-j.1 in
      let same : e.x ≡ x = same_Some (e.x) x (sym e.at ∙ at) in
      (ap (λ (y : Arming). y.is_used) (sym same) ∙ e.unused, ap (λ (y : Arming). kind_of y.refusal) (sym same) ∙ e.kind)

  gone : (k : ℕ) → queued_at k shorter j ≡ false
  gone k = queued-set k log j (record x { is_used = true }) (slice_get_within log j x at)

  kept : (k : ℕ) (i : ℕ) → i ≢ j → queued_at k shorter i ≡ queued_at k log i
  kept k i other = queued-set_other k log j (record x { is_used = true }) i other

  untouched : (k : ℕ) → k ≢ kind → (i : ℕ) → queued_at k shorter i ≡ queued_at k log i
  untouched k other i =
      elim (cases_eq i j) [
        | inl same ↦ rw same (gone k ∙ sym (rw (at, x-parts.0, ne_eqb (kind_of x.refusal) k (λ z. other (sym z ∙ x-parts.1))) refl))
        | inr apart ↦ kept k i apart
      ]

  later : IsFirst (queued_at kind log) (suc j) x.next
  later = rw x-parts.1 at (linked.next j x at x-parts.0)

  pub dequeued : IsLinked (set queues kind (record { first = x.next; last = q.last })) shorter
  dequeued =
      let new : Queue = record { first = x.next; last = q.last } in
      record {
        count = length-set queues kind new ∙ linked.count;
        first = λ k p there. elim (get-written queues kind k new p there) [
          | inl w ↦ rw (w.0, w.1) (first-less (queued_at kind shorter) (queued_at kind log) j (gone kind) (kept kind) first-j x.next later)
          | inr w ↦ first-same (queued_at k shorter) (queued_at k log) 0 p.first (λ m after. untouched k w.0 m) (linked.first k p w.1)
        ];
        last = λ k p there. elim (get-written queues kind k new p there) [
          | inl w ↦ rw (w.0, w.1) (last-less (queued_at kind shorter) (queued_at kind log) j (gone kind) (kept kind) first-j x.next q.last later (rw is at (linked.last kind q get)))
          | inr w ↦ last-same (queued_at k shorter) (queued_at k log) p.first p.last (untouched k w.0) (linked.last k p w.1)
        ];
        next = λ i y there unused. elim (get-written log j i (record x { is_used = true }) y there) [
          | inl w ↦ absurd (no true refl (ap (λ (z : Arming). z.is_used) (sym w.1) ∙ unused))
          | inr w ↦ elim (cases_eq (kind_of y.refusal) kind) [
            | inl same ↦
                let waits_ = queued-entry kind log i y w.1 unused same in
                let behind : j < i = elim (cases_lt i j) [ inl before ↦ absurd (no (queued_at kind log i) waits_ (first-j.2 i (omega arith) before)) | inr past ↦ omega (arith, past, w.0) ] in
                rw same (first-same (queued_at kind shorter) (queued_at kind log) (suc i) y.next (λ m after. kept kind m (λ z. absurd (omega (arith, z, after, behind)))) (rw same at (linked.next i y w.1 unused)))
            | inr other ↦ first-same (queued_at (kind_of y.refusal) shorter) (queued_at (kind_of y.refusal) log) (suc i) y.next (λ m after. untouched (kind_of y.refusal) other m) (linked.next i y w.1 unused)
          ]
        ];
      }

-- what the code reads
queue-at : {X : Type 0} (xs : List X) (i : ℕ) (x : X) → i < length xs → x ≡ get_or xs i x → slice_get xs i ≡ Some x
queue-at xs i x within at = slice_get-get_or xs i x within ∙ ap Some (sym at)

first_or-unwrap : (o : Option ℕ) (place : ℕ) → unwrap_or o place ≡ first_or o place
first_or-unwrap None place = refl
first_or-unwrap (Some f) place = refl

pub enqueued-code : (queues : List Queue) (log new : List Arming) (at place first : ℕ) (a : Armed) (q : Queue) → at ≡ kind_of a → at < 3328 → place ≡ length log → first ≡ unwrap_or q.first place → new ≡ linked_behind log q.first q.last place ++ fresh_arming a ∷ [] → IsLinked queues log → q ≡ get_or queues at q → IsLinked (set queues at (record { first = Some first; last = place })) new
enqueued-code queues log new at place first a q is small end one made linked read =
    let get : slice_get queues (kind_of a) ≡ Some q = rw is at (queue-at queues at q (omega (arith, small, linked.count)) read) in
    let e = enqueued queues log a q linked get in
    let f : first ≡ first_or q.first (length log) = one ∙ first_or-unwrap q.first place ∙ ap (first_or q.first) end in
    rw (made, f, end, is) e

pub last-within : (queues : List Queue) (log : List Arming) (at : ℕ) (q : Queue) → at < 3328 → IsLinked queues log → q ≡ get_or queues at q → is_some q.first ≡ true → q.last < length log
last-within queues log at q small linked read some =
    by q.first refl (linked.last at q (queue-at queues at q (omega (arith, small, linked.count)) read))
  where
    by : (o : Option ℕ) → q.first ≡ o → IsLast (queued_at at log) o q.last → q.last < length log
    by None is last = absurd (let z = rw is at some in cc)
    by (Some j) is last = queued-within at log q.last last.0

pub first-within : (queues : List Queue) (log : List Arming) (at j : ℕ) (q : Queue) → at < 3328 → IsLinked queues log → q ≡ get_or queues at q → q.first ≡ Some j → j < length log
first-within queues log at j q small linked read is =
    let first = rw is at (linked.first at q (queue-at queues at q (omega (arith, small, linked.count)) read)) in
    queued-within at log j first.1

pub dequeued-code : (queues : List Queue) (log : List Arming) (at j : ℕ) (q : Queue) (x : Arming) → at < 3328 → IsLinked queues log → q ≡ get_or queues at q → q.first ≡ Some j → x ≡ get_or log j x → IsLinked (set queues at (record { first = x.next; last = q.last })) (set log j (record x { is_used = true }))
dequeued-code queues log at j q x small linked read is here =
    dequeued queues log at j q x linked (queue-at queues at q (omega (arith, small, linked.count)) read) is (queue-at log j x (first-within queues log at j q small linked read is) here)

module _ (queues : List Queue) (log : List Arming) (d : ℕ) (call : KernelCall) (at : ℕ) (q : Queue) (is_at : at ≡ d * 13 + call_number call) (small : at < 3328) (linked : IsLinked queues log) (read : q ≡ get_or queues at q) where
  first-read : IsFirst (queued_at (d * 13 + call_number call) log) 0 q.first
  first-read = rw is_at at (linked.first at q (queue-at queues at q (omega (arith, small, linked.count)) read))

  pub none-armed : q.first ≡ None → armed_errno (unused log) d call ≡ None
  none-armed none = ap (option_map (λ (a : Armed). a.errno)) (unused-none d call log (λ i. (rw none at first-read) i (omega arith)))

  pub none-disarmed : q.first ≡ None → disarmed (unused log) d call ≡ unused log
  none-disarmed none = disarmed-none d call log (λ i. (rw none at first-read) i (omega arith))

  module _ (j : ℕ) (x : Arming) (is : q.first ≡ Some j) (here : x ≡ get_or log j x) where
    x-at : slice_get log j ≡ Some x
    x-at = queue-at log j x (first-within queues log at j q small linked read is) here

    first-is : IsFirst (queued_at (d * 13 + call_number call) log) 0 (Some j)
    first-is = rw is at first-read

    pub first-armed : armed_errno (unused log) d call ≡ Some x.refusal.errno
    first-armed = ap (option_map (λ (a : Armed). a.errno)) (unused-first d call log j x x-at first-is.1 (λ i before. first-is.2 i (omega arith) before))

    pub first-disarmed : unused (set log j (record x { is_used = true })) ≡ disarmed (unused log) d call
    first-disarmed = disarmed-first d call log j x x-at first-is.1 (λ i before. first-is.2 i (omega arith) before)

-- the queues at the start
get-replicate : {X : Type 0} (n i : ℕ) (x y : X) → slice_get (replicate n x) i ≡ Some y → y ≡ x
get-replicate zero i x y at = absurd (none-some y at)
get-replicate (suc n) zero x y at = sym (same_Some x y at)
get-replicate (suc n) (suc i) x y at = get-replicate n i x y at

pub unlinked : (queues : List Queue) (log : List Arming) → queues ≡ replicate 3328 (record { first = None; last = 0 }) → log ≡ [] → IsLinked queues log
unlinked queues log made none =
    let empty : Queue = record { first = None; last = 0 } in
    let first : (k : ℕ) (q : Queue) → slice_get queues k ≡ Some q → q.first ≡ None = λ k q at. ap (λ (q : Queue). q.first) (get-replicate 3328 k (record { first = None; last = 0 }) q (rw made at at)) in
    record {
      count = ap length made ∙ length-replicate 3328 empty;
      first = λ k q at. rw (first k q at) (λ i after. queued-end k log i (rw none (omega arith)));
      last = λ k q at. rw (first k q at) tt;
      next = λ i x at used. absurd (none-some x (rw none at at));
    }

pub unused-behind : (log : List Arming) (o : Option ℕ) (last place : ℕ) → unused (linked_behind log o last place) ≡ unused log
unused-behind log None last place = refl
unused-behind log (Some f) last place = unused-next_set log last place (slice_get log last) refl

-- the errnos of those that are armed
all-cons : {X : Type 0} (P : X → Type 0) (x : X) (xs : List X) → P x → All P xs → All P (x ∷ xs)
all-cons P x xs p all zero d inside = p
all-cons P x xs p all (suc k) d inside = all k d (omega arith)

all-tail : {X : Type 0} (P : X → Type 0) (x : X) (xs : List X) → All P (x ∷ xs) → All P xs
all-tail P x xs all = λ k d inside. all (suc k) d (omega arith)

pub All-disarmed : (armed : List Armed) (d : ℕ) (call : KernelCall) → All HasArmedErrno armed → All HasArmedErrno (disarmed armed d call)
All-disarmed [] d call all = all
All-disarmed (a ∷ others) d call all =
    let rest = all-tail HasArmedErrno a others all in
    elim (cases_Bool (is_armed_for d call a)) [
      | inl here ↦ rw here rest
      | inr apart ↦ rw apart (all-cons HasArmedErrno a (disarmed others d call) (all 0 a (omega arith)) (All-disarmed others d call rest))
    ]

All-find : {X : Type 0} (P : X → Type 0) (p : X → Bool) (xs : List X) (x : X) → All P xs → find p xs ≡ Some x → P x
All-find P p [] x all at = absurd (none-some x at)
All-find P p (y ∷ ys) x all at =
    elim (cases_Bool (p y)) [
      | inl passes ↦ subst P (same_Some y x (rw passes at at)) (all 0 y (omega arith))
      | inr fails ↦ All-find P p ys x (all-tail P y ys all) (rw fails at at)
    ]

errno-by : (armed : List Armed) (d : ℕ) (call : KernelCall) (o : Option Armed) (errno : ℕ) → find (is_armed_for d call) armed ≡ o → option_map (λ (a : Armed). a.errno) o ≡ Some errno → All HasArmedErrno armed → IsErrno errno
errno-by armed d call None errno at is all = absurd (none-some errno is)
errno-by armed d call (Some a) errno at is all = rw (same_Some a.errno errno is) at (All-find HasArmedErrno (is_armed_for d call) armed a all at)

pub errno-known : (armed : List Armed) (d : ℕ) (call : KernelCall) (errno : ℕ) → armed_errno armed d call ≡ Some errno → All HasArmedErrno armed → IsErrno errno
errno-known armed d call errno is all = errno-by armed d call (find (is_armed_for d call) armed) errno refl is all

pub unarmed : (armed : List Armed) (d : ℕ) (call : KernelCall) → armed_errno armed d call ≡ None → disarmed armed d call ≡ armed
unarmed [] d call none = refl
unarmed (x ∷ others) d call none =
    elim (cases_Bool (is_armed_for d call x)) [
      | inl here ↦ absurd (none-some x.errno (sym (rw here at none)))
      | inr apart ↦ rw apart (ap (λ ys. x ∷ ys) (unarmed others d call (rw apart at none)))
    ]
