-- Tickets in slots.
use Rattle.std.proofs.Common.{◌≡◌, ◌≢◌, ℕ, ◌+◌, ◌≤◌, zero, suc, Bool, true, false, cond, List, [], ◌∷◌, ◌++◌, length, map, set, get_or, Option, Some, None, slice_get, inl, inr, refl, sym, ap, ◌∙◌, arith, subst}
use Rattle.std.specs.Prelude.{IsSome, option_and_then, min, ◌==◌, if◌then◌else◌}
use Rattle.std.specs.Option.{option_map, option_map_or}
use Rattle.std.specs.List.{count_by}
use Rattle.std.proofs.lemmas.Option.{none-some, same_Some, slice_get_within, slice_get-map, get_or_from_slice_get}
use Rattle.std.proofs.lemmas.Bool.{cases_eq}
use Rattle.std.proofs.lemmas.List.{map-set, map-append, set-set, length-set, length-append}
use Rattle.std.proofs.lemmas.List.Sums.{sum_by-cons}
use Rattle.usb_device_ledger.specs.declared.ends.TicketEnd.{TicketEnd}
use Rattle.usb_device_ledger.specs.declared.ends.TicketEnd.TheVariants.{Taken}
use Rattle.usb_device_ledger.specs.declared.pool.SlotKey.{SlotKey}
use Rattle.usb_device_ledger.specs.declared.standing.Standing.{Standing}
use Rattle.usb_device_ledger.specs.declared.standing.Standing.TheVariants as standing
use Rattle.usb_device_ledger.specs.declared.place.TicketPlace.{TicketPlace}
use Rattle.usb_device_ledger.specs.declared.place.TicketPlace.TheVariants.{At, Over}
use Rattle.usb_device_ledger.specs.Entries.{is_unended}
use Rattle.usb_device_ledger.specs.EndedTickets.{end_at, ended_at}
use Rattle.usb_device_ledger.specs.Pools.{PoolState, kept_count, value_of, replaced, removed}
use Rattle.usb_device_ledger.specs.Places.{TicketsState, place_key, place_end, is_at, state_in}
use Rattle.usb_device_ledger.specs.Slots.{IsUnended, HaveSlots, slots_with}
use Rattle.usb_device_ledger.specs.TicketStates.{TicketState, Ended, state_of, standing_of, standing_at}
use Rattle.usb_device_ledger.specs.LedgerState.{host_ticket}
use Rattle.usb_device_ledger.proofs.ListLemmas.{slice_get-set, slice_get-push, count-less, count-push}
use Rattle.usb_device_ledger.proofs.PoolLemmas.{slot-there, removed-is, removed-others, removed-kept, replaced-is, replaced-others, replaced-value}

pub both-below : (n a b : ℕ) → n ≤ min a b → (n ≤ a) × (n ≤ b)
both-below n a b below = (grind arith, grind arith)

-- lists whose elements are mapped in two ways
map-same : {X Y : Type 0} (f g : X → Y) (xs : List X) → ((u : ℕ) (x : X) → slice_get xs u ≡ Some x → f x ≡ g x) → map f xs ≡ map g xs
map-same f g [] each = refl
map-same f g (x ∷ xs) each = rw (each 0 x refl, map-same f g xs (λ u y at. each (suc u) y at)) refl

map-changed : {X Y : Type 0} (f g : X → Y) (xs : List X) (t : ℕ) (x : X) → slice_get xs t ≡ Some x → ((u : ℕ) (y : X) → u ≢ t → slice_get xs u ≡ Some y → f y ≡ g y) → map f xs ≡ set (map g xs) t (f x)
map-changed f g [] t x at each = absurd (none-some x at)
map-changed f g (y ∷ ys) zero x at each =
    let others : map f ys ≡ map g ys = map-same f g ys (λ u z there. each (suc u) z (λ w. absurd (omega arith)) there) in
    rw (others, same_Some y x at) refl
map-changed f g (y ∷ ys) (suc t) x at each =
    let here : f y ≡ g y = each 0 y (λ w. absurd (omega arith)) refl in
    let others = map-changed f g ys t x at (λ u z apart there. each (suc u) z (λ w. apart (omega arith)) there) in
    rw (here, others) refl

-- the ticket of a place
standing-of : (s : Standing) → standing_of (state_of s) ≡ Some s
standing-of (standing.HeldBy key transfer) = refl
standing-of (standing.Abandoned key) = refl

unended-of : (s : Standing) → is_unended (host_ticket (state_of s)) ≡ true
unended-of (standing.HeldBy key transfer) = refl
unended-of (standing.Abandoned key) = refl

standing-in : (pool : PoolState Standing) (x : TicketPlace) → standing_of (state_in pool x) ≡ option_and_then (value_of pool) (place_key x)
standing-in pool (At key) = by (value_of pool key)
  where
    by : (o : Option Standing) → standing_of (option_map_or state_of o (Ended Taken)) ≡ o
    by None = refl
    by (Some s) = standing-of s
standing-in pool (Over end) = refl

pub standing-places : (pool : PoolState Standing) (places : List TicketPlace) (t : ℕ) → standing_at (map (state_in pool) places) t ≡ option_and_then (value_of pool) (option_and_then place_key (slice_get places t))
standing-places pool places t = ap (option_and_then standing_of) (slice_get-map (state_in pool) places t) ∙ by (slice_get places t)
  where
    by : (o : Option TicketPlace) → option_and_then standing_of (option_map (state_in pool) o) ≡ option_and_then (value_of pool) (option_and_then place_key o)
    by None = refl
    by (Some x) = standing-in pool x

-- a place with a key
pub place-of : (o : Option TicketPlace) (key : SlotKey) → option_and_then place_key o ≡ Some key → o ≡ Some (At key)
place-of None key is = absurd (none-some key is)
place-of (Some (At k)) key is = ap (λ (x : SlotKey). Some (At x)) (same_Some k key is)
place-of (Some (Over end)) key is = absurd (none-some key is)

same-key : (k key : SlotKey) → At k ≡ At key → k ≡ key
same-key k key same = same_Some k key (ap place_key same)

at-over : (key : SlotKey) (end : TicketEnd) → At key ≡ Over end → ⊥
at-over key end same = none-some key (sym (ap place_key same))

-- the key of a ticket that has no end
pub some-standing : (pool : PoolState Standing) (places : List TicketPlace) (t : ℕ) → IsSome (standing_at (map (state_in pool) places) t) → IsSome (option_and_then place_key (slice_get places t))
some-standing pool places t some = by (option_and_then place_key (slice_get places t)) (subst IsSome (standing-places pool places t) some)
  where
    by : (o : Option SlotKey) → IsSome (option_and_then (value_of pool) o) → IsSome o
    by None is = is
    by (Some key) is = refl

pub value-there : (o : Option Standing) → IsSome o → (s : Standing) × (o ≡ Some s)
value-there None is = absurd (cc)
value-there (Some s) is = (s, refl)

-- a ticket keeps its state where the value of its key does
state-kept : (old new : PoolState Standing) (x : TicketPlace) → ((key : SlotKey) → x ≡ At key → value_of new key ≡ value_of old key) → state_in new x ≡ state_in old x
state-kept old new (At key) same = ap (λ o. option_map_or state_of o (Ended Taken)) (same key refl)
state-kept old new (Over end) same = refl

-- the tickets without an end stand in a pool, with their numbers for generations
abbrev pub Stand : PoolState Standing → List TicketPlace → Type 0
Stand pool places = (t : ℕ) (k : SlotKey) → slice_get places t ≡ Some (At k) → IsSome (value_of pool k) × (k.generation ≡ t)

unended-place : (pool : PoolState Standing) (x : TicketPlace) → ((k : SlotKey) → x ≡ At k → IsSome (value_of pool k)) → is_unended (host_ticket (state_in pool x)) ≡ is_at x
unended-place pool (At key) each = by (value_of pool key) (each key refl)
  where
    by : (o : Option Standing) → IsSome o → is_unended (host_ticket (option_map_or state_of o (Ended Taken))) ≡ true
    by None is = absurd (cc)
    by (Some s) is = unended-of s
unended-place pool (Over end) each = refl

count-same_by : {X Y : Type 0} (f : X → Y) (p : Y → Bool) (q : X → Bool) (xs : List X) → ((u : ℕ) (x : X) → slice_get xs u ≡ Some x → p (f x) ≡ q x) → count_by p (map f xs) ≡ count_by q xs
count-same_by f p q [] each = refl
count-same_by f p q (x ∷ xs) each =
    let here : ◌≡◌ {A = ℕ} (cond (p (f x)) 1 0) (cond (q x) 1 0) = ap (λ b. cond b 1 0) (each 0 x refl) in
    let others = count-same_by f p q xs (λ u y at. each (suc u) y at) in
    omega (arith, here, others, sum_by-cons (λ y. cond (p y) 1 0) (f x) (map f xs), sum_by-cons (λ y. cond (q y) 1 0) x xs)

count-unended : (pool : PoolState Standing) (places : List TicketPlace) → Stand pool places → count_by is_unended (map host_ticket (map (state_in pool) places)) ≡ count_by is_at places
count-unended pool places stand =
    count-same_by host_ticket is_unended (λ s. is_unended (host_ticket s)) (map (state_in pool) places) (λ u x at. refl)
    ∙ count-same_by (state_in pool) (λ s. is_unended (host_ticket s)) is_at places (λ u x at. unended-place pool x (λ k is. (stand u k (at ∙ ap (λ (y : TicketPlace). Some y) is)).0))

-- how many slots there are once one more has come
pub raised-slots : (pool : PoolState Standing) (places : List TicketPlace) → Stand pool places → kept_count pool ≡ count_by is_at places
    → (if kept_count pool == length pool.slots then length pool.slots + 1 else length pool.slots) ≡ slots_with (map host_ticket (map (state_in pool) places)) (length pool.slots)
unfolding slots_with
raised-slots pool places stand kept = ap (λ n. if n == length pool.slots then length pool.slots + 1 else length pool.slots) (kept ∙ sym (count-unended pool places stand))

-- the slot of each ticket without an end
abbrev slot_at : List TicketPlace → ℕ → ℕ
slot_at places t = option_map_or (λ (k : SlotKey). k.slot) (option_and_then place_key (slice_get places t)) 0

record Placed (pool : PoolState Standing) (places : List TicketPlace) (t : ℕ) : Type 0 where
  key : SlotKey
  value : Standing
  slot : slot_at places t ≡ key.slot
  there : slice_get pool.slots key.slot ≡ Some (t, Some value)

placed : (pool : PoolState Standing) (places : List TicketPlace) → Stand pool places → (t : ℕ) → IsUnended (map host_ticket (map (state_in pool) places)) t → Placed pool places t
placed pool places stand t unended =
    by (slice_get places t) refl (ap (λ o. option_map_or is_unended o false) (sym (slice_get-map host_ticket (map (state_in pool) places) t ∙ ap (option_map host_ticket) (slice_get-map (state_in pool) places t))) ∙ unended)
  where
    by : (o : Option TicketPlace) → slice_get places t ≡ o → option_map_or is_unended (option_map host_ticket (option_map (state_in pool) o)) false ≡ true → Placed pool places t
    by None at is = absurd (cc)
    by (Some (Over end)) at is = absurd (cc)
    by (Some (At key)) at is =
        let stands = stand t key at in
        let value = value-there (value_of pool key) stands.0 in
        record {
          key = key;
          value = value.0;
          slot = ap (λ (o : Option TicketPlace). option_map_or (λ (k : SlotKey). k.slot) (option_and_then place_key o) 0) at;
          there = slot-there pool key value.0 value.1 ∙ ap (λ (n : ℕ). Some (n, Some value.0)) stands.1;
        }

same-ticket : (t u : ℕ) (v w : Standing) → ◌≡◌ {A = Option (ℕ × Option Standing)} (Some (t, Some v)) (Some (u, Some w)) → t ≡ u
same-ticket t u v w same = ap (λ (x : ℕ × Option Standing). x.0) (same_Some (t, Some v) (u, Some w) same)

pub have-slots : (pool : PoolState Standing) (places : List TicketPlace) → Stand pool places → HaveSlots (map host_ticket (map (state_in pool) places)) (length pool.slots)
have-slots pool places stand = (
  slot_at places,
  (λ t unended.
      let p = placed pool places stand t unended in
      omega (arith, p.slot, slice_get_within pool.slots p.key.slot (t, Some p.value) p.there)),
  (λ t u first second same.
      let p = placed pool places stand t first in
      let q = placed pool places stand u second in
      same-ticket t u p.value q.value (sym p.there ∙ ap (slice_get pool.slots) (sym p.slot ∙ same ∙ q.slot) ∙ q.there)),
)

-- the value of a key is replaced
module _ (pool : PoolState Standing) (places : List TicketPlace) (stand : Stand pool places) (t : ℕ) (key : SlotKey) (at : slice_get places t ≡ Some (At key)) (was : Standing) (there : value_of pool key ≡ Some was) where
  other : (u : ℕ) (k : SlotKey) → u ≢ t → slice_get places u ≡ Some (At k) → k.generation ≢ key.generation
  other u k apart here = λ same. apart (sym (stand u k here).1 ∙ same ∙ (stand t key at).1)

  pub stand-replaced : (s : Standing) → Stand (replaced pool key s) places
  stand-replaced s u k here =
      elim (cases_eq u t) [
        | inl same ↦
            let is : k ≡ key = same-key k key (same_Some (At k) (At key) (sym here ∙ ap (slice_get places) same ∙ at)) in
            (rw (is, replaced-value pool key s was there) refl, (stand u k here).1)
        | inr apart ↦ (rw (replaced-others pool key s was there k (other u k apart here)) (stand u k here).0, (stand u k here).1)
      ]

  slots-replaced : (s : Standing) → map (state_in (replaced pool key s)) places ≡ set (map (state_in pool) places) t (state_of s)
  slots-replaced s =
      map-changed (state_in (replaced pool key s)) (state_in pool) places t (At key) at (λ u x apart here. state-kept pool (replaced pool key s) x (λ k is. replaced-others pool key s was there k (other u k apart (here ∙ ap (λ (y : TicketPlace). Some y) is))))
      ∙ ap (λ o. set (map (state_in pool) places) t (option_map_or state_of o (Ended Taken))) (replaced-value pool key s was there)

  slots-length-replaced : (s : Standing) → length (replaced pool key s).slots ≡ length pool.slots
  slots-length-replaced s = ap (λ (p : PoolState Standing). length p.slots) (replaced-is pool key s was there) ∙ length-set pool.slots key.slot (key.generation, Some s)

  room-replaced : (s : Standing) → (replaced pool key s).room ≡ pool.room
  room-replaced s = ap (λ (p : PoolState Standing). p.room) (replaced-is pool key s was there)

  pub count-replaced : (s : Standing) → (replaced pool key s).count ≡ pool.count
  count-replaced s = ap (λ (p : PoolState Standing). p.count) (replaced-is pool key s was there)

  pub state-replaced : (s : Standing) (spare : ℕ)
      → ◌≡◌ {A = TicketsState} (record { slots = map (state_in (replaced pool key s)) places; room = min spare (replaced pool key s).room; slot_count = length (replaced pool key s).slots })
      (record { slots = set (map (state_in pool) places) t (state_of s); room = min spare pool.room; slot_count = length pool.slots })
  state-replaced s spare = rw (slots-replaced s, room-replaced s, slots-length-replaced s) refl

  -- the ticket has its end
  pub stand-removed : (end : TicketEnd) → Stand (removed pool key) (set places t (Over end))
  stand-removed end u k here =
      elim (slice_get-set places t u (Over end) (At k) here) [
        | inl same ↦ absurd (at-over k end same.1)
        | inr kept ↦ (rw (removed-others pool key was there k (other u k kept.0 kept.1)) (stand u k kept.1).0, (stand u k kept.1).1)
      ]

  slots-removed : (end : TicketEnd) → map (state_in (removed pool key)) (set places t (Over end)) ≡ set (map (state_in pool) places) t (Ended end)
  slots-removed end =
      map-set (state_in (removed pool key)) places t (Over end)
      ∙ ap (λ (xs : List TicketState). set xs t (Ended end)) (map-changed (state_in (removed pool key)) (state_in pool) places t (At key) at (λ u x apart here. state-kept pool (removed pool key) x (λ k is. removed-others pool key was there k (other u k apart (here ∙ ap (λ (y : TicketPlace). Some y) is)))))
      ∙ set-set (map (state_in pool) places) t (state_in (removed pool key) (At key)) (Ended end)

  slots-length-removed : length (removed pool key).slots ≡ length pool.slots
  slots-length-removed = ap (λ (p : PoolState Standing). length p.slots) (removed-is pool key was there) ∙ length-set pool.slots key.slot (key.generation, None)

  room-removed : (removed pool key).room ≡ pool.room
  room-removed = ap (λ (p : PoolState Standing). p.room) (removed-is pool key was there)

  pub count-removed : (removed pool key).count ≡ pool.count
  count-removed = ap (λ (p : PoolState Standing). p.count) (removed-is pool key was there)

  pub state-removed : (end : TicketEnd) (spare : ℕ)
      → ◌≡◌ {A = TicketsState} (record { slots = map (state_in (removed pool key)) (set places t (Over end)); room = min spare (removed pool key).room; slot_count = length (removed pool key).slots })
      (record { slots = set (map (state_in pool) places) t (Ended end); room = min spare pool.room; slot_count = length pool.slots })
  state-removed end spare = rw (slots-removed end, room-removed, slots-length-removed) refl

  pub kept-removed : (end : TicketEnd) → kept_count pool ≡ count_by is_at places → kept_count (removed pool key) ≡ count_by is_at (set places t (Over end))
  kept-removed end kept =
      let read : At key ≡ get_or places t (At key) = sym (get_or_from_slice_get places t (At key) (At key) at) in
      omega (arith, kept, removed-kept pool key was there, count-less is_at places t (At key) (Over end) (slice_get_within places t (At key) at) read refl refl)

-- one more ticket has no end
module _ (old new : PoolState Standing) (places : List TicketPlace) (stand : Stand old places) (counted : old.count ≡ length places) (others : (k : SlotKey) → k.generation ≢ old.count → value_of new k ≡ value_of old k) (key : SlotKey) (generation : key.generation ≡ old.count) (s : Standing) (value : value_of new key ≡ Some s) where
  earlier : (u : ℕ) (k : SlotKey) → slice_get places u ≡ Some (At k) → k.generation ≢ old.count
  earlier u k here = λ same. absurd (omega (arith, same, (stand u k here).1, counted, slice_get_within places u (At k) here))

  pub stand-added : Stand new (places ++ At key ∷ [])
  stand-added u k here =
      elim (slice_get-push places (At key) (At k) u here) [
        | inl last ↦ let is : k ≡ key = same-key k key last.1 in (rw (is, value) refl, ap (λ (x : SlotKey). x.generation) is ∙ generation ∙ counted ∙ sym last.0)
        | inr before ↦ (rw (others k (earlier u k before)) (stand u k before).0, (stand u k before).1)
      ]

  pub slots-added : map (state_in new) (places ++ At key ∷ []) ≡ map (state_in old) places ++ state_of s ∷ []
  slots-added =
      let before : map (state_in new) places ≡ map (state_in old) places = map-same (state_in new) (state_in old) places (λ u x here. state-kept old new x (λ k is. others k (earlier u k (here ∙ ap (λ (y : TicketPlace). Some y) is)))) in
      let last : state_in new (At key) ≡ state_of s = ap (λ o. option_map_or state_of o (Ended Taken)) value in
      map-append (state_in new) places (At key ∷ []) ∙ rw (before, last) refl

pub count-added : (old new : PoolState Standing) (places : List TicketPlace) → old.count ≡ length places → new.count ≡ old.count + 1 → (key : SlotKey) → new.count ≡ length (places ++ At key ∷ [])
count-added old new places counted more key = omega (arith, counted, more, length-append places (At key ∷ []))

pub kept-added : (old new : PoolState Standing) (places : List TicketPlace) → kept_count old ≡ count_by is_at places → kept_count new ≡ kept_count old + 1 → (key : SlotKey) → kept_count new ≡ count_by is_at (places ++ At key ∷ [])
kept-added old new places kept more key = omega (arith, kept, more, count-push is_at places (At key))

-- the end of a ticket is that of its place
pub end-places : (pool : PoolState Standing) (places : List TicketPlace) → Stand pool places → (t : ℕ) → end_at (map host_ticket (map (state_in pool) places)) t ≡ option_and_then place_end (slice_get places t)
end-places pool places stand t =
    ap (option_and_then ended_at) (slice_get-map host_ticket (map (state_in pool) places) t ∙ ap (option_map host_ticket) (slice_get-map (state_in pool) places t))
    ∙ by (slice_get places t) refl
  where
    none : (o : Option Standing) → IsSome o → ended_at (host_ticket (option_map_or state_of o (Ended Taken))) ≡ None
    none None is = absurd (cc)
    none (Some (standing.HeldBy key transfer)) is = refl
    none (Some (standing.Abandoned key)) is = refl

    by : (o : Option TicketPlace) → slice_get places t ≡ o → option_and_then ended_at (option_map host_ticket (option_map (state_in pool) o)) ≡ option_and_then place_end o
    by None at = refl
    by (Some (Over end)) at = refl
    by (Some (At key)) at = none (value_of pool key) (stand t key at).0
