-- The lists follow the records.
use Rattle.std.proofs.Common.{◌≡◌, ◌≢◌, ℕ, ◌<◌, ◌≤◌, Bool, true, false, List, [], length, set, get_or, Option, Some, None, slice_get, refl, sym, ap, ◌∙◌, arith, inl, inr, cond, Vec, Global, vec_len, vec_capacity}
use Rattle.std.specs.Prelude.{position, IsSome, is_some, is_none, ◌==◌, ◌&&◌, if◌then◌else◌, unwrap_or}
use Rattle.std.specs.Option.{option_map, option_map_or}
use Rattle.std.specs.List.{count_by}
use Rattle.std.proofs.lemmas.Option.{none-some, slice_get_within, get_or_from_slice_get, slice_get-map, slice_get-get_or}
use Rattle.std.proofs.lemmas.List.{length-set, map-set, length-map}
use Rattle.std.proofs.lemmas.List.Quantifiers.{position-Some}
use Rattle.std.specs.List.{position_or_len}
use Rattle.std.proofs.lemmas.List.Sums.{sum_by-set, fails_before_first}
use Rattle.std.proofs.lemmas.Bool.{cases_eq, cases_lt, cases_Bool, and_parts, eqb-true, eq-eqb, false≢true}
use Rattle.std.proofs.lemmas.Grind.{common_steps}
use Rattle.usb_kernel.specs.declared.slot.TicketRow.{TicketRow}
use Rattle.usb_kernel.specs.declared.record.Link.{Link}
use Rattle.usb_kernel.specs.declared.record.Ends.{Ends}
use Rattle.usb_kernel.specs.declared.record.Record.{Record}
use Rattle.usb_kernel.specs.declared.record.Chain.{Chain}
use Rattle.usb_kernel.specs.declared.record.Chain.TheVariants.{Queue, Unreaped}
use Rattle.usb_kernel.specs.declared.lists.TicketLists.{TicketLists}
use Rattle.usb_kernel.specs.declared.queues.Queues.{Queues}
use Rattle.usb_kernel.specs.Links.{link_of}
use Rattle.usb_kernel.specs.Rows.{is_open_row, is_unreaped_row}
use Rattle.usb_kernel.specs.Unreaped.{finished_numbers, Finishes}
use Rattle.usb_kernel.specs.Queues.{ends_at, no_ends, has_queue, queue_at}
use Rattle.usb_kernel.specs.Chains.{IsChained, IsFirst, IsWithout, links, row_passes}
use Rattle.usb_kernel.specs.Listed.{AreListed, GoesOn, rows_of}
use Rattle.usb_kernel.proofs.Places.{slice_get-set_same, slice_get-set_other}
use Rattle.usb_kernel.proofs.Unreaped.{numbers-open, numbers-fewer}
use Rattle.usb_kernel.proofs.LinkLemmas.{record_or}
use Rattle.usb_kernel.proofs.ChainLemmas.{none_or, chained-pop, chained-same}

-- of the row that a record has
pub row_at : (records : List Record) (t : ℕ) (r : Record) → slice_get records t ≡ Some r → slice_get (rows_of records) t ≡ Some r.row
row_at records t r at = slice_get-map (λ (x : Record). x.row) records t ∙ ap (option_map (λ (x : Record). x.row)) at

pub passes-at : (p : TicketRow → Bool) (records : List Record) (t : ℕ) (r : Record) → slice_get records t ≡ Some r → row_passes p records t ≡ p r.row
passes-at p records t r at = ap (λ o. option_map_or (λ (x : Record). p x.row) o false) at

blank : TicketRow
blank = record { device = 0; endpoint = 0; maximum = 0; refused = false; count = 0; status = None; deadline = None; buffer = None }

pub past_none : (records : List Record) (i : ℕ) → slice_get records i ≡ None → length records ≤ i
past_none records i none = elim (cases_lt i (length records)) [
  | inl inside ↦ absurd (none-some _ (sym none ∙ slice_get-get_or records i (record { row = blank; queue = record { before = None; after = None }; unreaped = record { before = None; after = None } }) inside))
  | inr past ↦ past
]

row_passing : (p : TicketRow → Bool) (records : List Record) (j : ℕ) → row_passes p records j ≡ true → (r : Record) × (slice_get (rows_of records) j ≡ Some r.row) × (p r.row ≡ true)
row_passing p records j passes = elim (record_or (slice_get records j)) [
  | inl none ↦ absurd (false≢true (sym (ap (λ o. option_map_or (λ (x : Record). p x.row) o false) none) ∙ passes))
  | inr r ↦ (r.0, row_at records j r.0 r.1, sym (passes-at p records j r.0 r.1) ∙ passes)
]

position-None : (p : TicketRow → Bool) (rows : List TicketRow) → position p rows ≡ None → (k : ℕ) (r : TicketRow) → slice_get rows k ≡ Some r → p r ≡ false
position-None p rows none k r at =
    let beyond : length rows ≤ position_or_len p rows = grind (arith, common_steps) in
    let inside = slice_get_within rows k r at in
    ap p (sym (get_or_from_slice_get rows k r r at)) ∙ fails_before_first p rows k r (omega (arith, beyond, inside))

-- the first number that passes is where the rows have the first row that passes
pub first-position : (p : TicketRow → Bool) (records : List Record) (o : Option ℕ) → IsFirst (row_passes p records) 0 o → o ≡ position p (rows_of records)
first-position p records o first = elim (none_or (position p (rows_of records))) [
  | inl none ↦ elim (none_or o) [
    | inl empty ↦ empty ∙ sym none
    | inr some ↦
        let there = row_passing p records some.0 (first.passes some.0 some.1).1 in
        absurd (false≢true (sym (position-None p (rows_of records) none some.0 there.0.row there.1) ∙ there.2))
  ]
  | inr here ↦
      let i = here.0 in
      elim (record_or (slice_get records i)) [
        | inl none ↦ absurd (omega (arith, past_none records i none, length-map records (λ (r : Record). r.row), (position-Some p (rows_of records) i blank here.1).0))
        | inr r ↦
            let at = row_at records i r.0 r.1 in
            let is = get_or_from_slice_get (rows_of records) i r.0.row r.0.row at in
            let facts = position-Some p (rows_of records) i r.0.row here.1 in
            let least = first.least i (omega arith) (passes-at p records i r.0 r.1 ∙ (ap p (sym is) ∙ facts.1)) in
            let there = row_passing p records least.0 (first.passes least.0 least.1).1 in
            let same : least.0 ≡ i = elim (cases_lt least.0 i) [
              | inl under ↦ absurd (false≢true (sym (facts.2 least.0 under) ∙ (ap p (get_or_from_slice_get (rows_of records) least.0 there.0.row r.0.row there.1) ∙ there.2)))
              | inr over ↦ omega (arith, over, least.2)
            ] in
            least.1 ∙ (ap (λ (n : ℕ). Some n) same ∙ sym here.1)
      ]
]

abbrev pub number_if : Bool → ℕ
number_if b = cond b 1 0

-- a record is written
module _ (records : List Record) (t : ℕ) (was next : Record) (at : slice_get records t ≡ Some was) where
  pub written-here : slice_get (set records t next) t ≡ Some next
  written-here = slice_get-set_same records t next (slice_get_within records t was at)

  pub written-passes : (p : TicketRow → Bool) → row_passes p (set records t next) t ≡ p next.row
  written-passes p = passes-at p (set records t next) t next written-here

  pub others-pass : (p : TicketRow → Bool) (k : ℕ) → k ≢ t → row_passes p (set records t next) k ≡ row_passes p records k
  others-pass p k apart = ap (λ o. option_map_or (λ (x : Record). p x.row) o false) (slice_get-set_other records t k next apart)

  pub passes-same : (p : TicketRow → Bool) → p next.row ≡ p was.row → (k : ℕ) → row_passes p (set records t next) k ≡ row_passes p records k
  passes-same p same k = elim (cases_eq k t) [
    | inl is ↦ ap (row_passes p (set records t next)) is ∙ (written-passes p ∙ (same ∙ (sym (passes-at p records t was at) ∙ sym (ap (row_passes p records) is))))
    | inr other ↦ others-pass p k other
  ]

  pub links-same : (chain : Chain) → link_of chain next ≡ link_of chain was → (k : ℕ) → links chain (set records t next) k ≡ links chain records k
  links-same chain same k = elim (cases_eq k t) [
    | inl is ↦ ap (links chain (set records t next)) is ∙ (ap (option_map (link_of chain)) written-here ∙ (ap (λ (l : Link). Some l) same ∙ (sym (ap (option_map (link_of chain)) at) ∙ sym (ap (links chain records) is))))
    | inr other ↦ ap (option_map (link_of chain)) (slice_get-set_other records t k next other)
  ]

  pub length-written : length (set records t next) ≡ length records
  length-written = length-set records t next

  pub rows-written : rows_of (set records t next) ≡ set (rows_of records) t next.row
  rows-written = map-set (λ (r : Record). r.row) records t next

  pub count-same : (p : TicketRow → Bool) → p next.row ≡ p was.row → count_by p (rows_of (set records t next)) ≡ count_by p (rows_of records)
  count-same p same =
      let here = get_or_from_slice_get (rows_of records) t was.row was.row (row_at records t was at) in
      let sums = sum_by-set (λ (r : TicketRow). cond (p r) 1 0) (rows_of records) t next.row was.row (slice_get_within (rows_of records) t was.row (row_at records t was at)) in
      let e : number_if (p next.row) ≡ number_if (p (get_or (rows_of records) t was.row)) = ap number_if (same ∙ sym (ap p here)) in
      ap (count_by p) rows-written ∙ omega (arith, sums, e)

-- an open ticket of an endpoint, and of another one
pub open_there : (r : TicketRow) → r.status ≡ None → is_open_row r.device r.endpoint r ≡ true
open_there r none = rw (eq-eqb r.device r.device refl, eq-eqb r.endpoint r.endpoint refl, none) refl

pub finished_not_open : (d e : ℕ) (r : TicketRow) → IsSome r.status → is_open_row d e r ≡ false
finished_not_open d e r some = grind (arith, common_steps)

pub not_there : (x y : ℕ) (r : TicketRow) (d e : ℕ) → d ≡ r.device → e ≡ r.endpoint → (d == x && e == y) ≡ false → is_open_row x y r ≡ false
not_there x y r d e device endpoint apart = rw (← device, ← endpoint) (both-off (d == x) (e == y) (is_none r.status) apart)
  where
    both-off : (a b c : Bool) → (a && b) ≡ false → a && (b && c) ≡ false
    both-off true true c off = absurd (false≢true (sym off))
    both-off true false c off = refl
    both-off false b c off = refl

-- there is no ticket
pub chained-empty : (p : TicketRow → Bool) (chain : Chain) → IsChained (row_passes p []) (links chain []) 0 no_ends
chained-empty p chain = record {
  first = record { least = λ i from passes. absurd (false≢true passes); passes = λ j is. absurd (none-some j is) };
  last = λ i below passes. absurd (false≢true passes);
  after = λ k l passes here. absurd (false≢true passes);
  before = λ k l passes here. absurd (false≢true passes);
  within = λ k passes. absurd (false≢true passes);
}

-- an open ticket is finished, and its number has a place
pub goes_on-finishes : (records : List Record) (t : ℕ) (next : Record) → GoesOn records t next → IsSome next.row.status → Finishes (rows_of records) t next.row
goes_on-finishes records t next g some = record { row = g.was.row; at = row_at records t g.was g.at; unfinished = g.unfinished; finished = some; waiting = g.waits }

pub goes_on-room : (records : List Record) (lists : TicketLists) (t : ℕ) (next : Record) → AreListed records lists → GoesOn records t next → vec_len lists.finished < vec_capacity lists.finished
goes_on-room records lists t next listed g =
    let fewer = numbers-fewer (rows_of records) t g.was.row (row_at records t g.was g.at) g.unfinished g.waiting in
    omega (arith, fewer, lists.finished.ok.0, ap length listed.finished, listed.count, listed.room)

-- an open ticket stays open
pub listed-open : (records : List Record) (lists : TicketLists) (t : ℕ) (next : Record) → AreListed records lists → GoesOn records t next → next.row.status ≡ None → AreListed (set records t next) lists
listed-open records lists t next listed g none =
    let same : (d e : ℕ) → is_open_row d e next.row ≡ is_open_row d e g.was.row = λ d e. rw (g.device, g.endpoint, none, g.unfinished) refl in
    let buffer : is_unreaped_row next.row ≡ is_unreaped_row g.was.row = g.waits ∙ sym g.waiting in
    record {
      queues = λ d e. rw (length-written records t g.was next g.at) (chained-same _ _ _ _ _ _ (listed.queues d e) (passes-same records t g.was next g.at (is_open_row d e) (same d e)) (links-same records t g.was next g.at Queue g.queue));
      unreaped = rw (length-written records t g.was next g.at) (chained-same _ _ _ _ _ _ listed.unreaped (passes-same records t g.was next g.at is_unreaped_row buffer) (links-same records t g.was next g.at Unreaped g.unreaped));
      count = listed.count ∙ sym (count-same records t g.was next g.at is_unreaped_row buffer);
      finished = listed.finished ∙ sym (ap finished_numbers (rows-written records t g.was next g.at) ∙ numbers-open (rows_of records) t g.was.row next.row (row_at records t g.was g.at) g.unfinished none);
      room = listed.room;
    }

-- an endpoint whose list begins with a ticket has an entry
pub has-queue : (q : Queues) (d e t : ℕ) → (ends_at q d e).first ≡ Some t → has_queue q d e ≡ true
has-queue q d e t first = has_entry (queue_at q d e) t first
  where
    has_entry : (o : Option Ends) (t : ℕ) → (unwrap_or o no_ends).first ≡ Some t → is_some o ≡ true
    has_entry None t first = absurd (none-some t first)
    has_entry (Some x) t first = refl

pub none_unless : (o : Option ℕ) → is_some o ≡ false → o ≡ None
none_unless o said = grind (arith, common_steps)

-- the ends of an endpoint when those of one change
abbrev pub ends_now : TicketLists → ℕ → ℕ → Ends → ℕ → ℕ → Ends
ends_now lists d e ends x y = if d == x && e == y then ends else ends_at lists.queues x y

-- the first open ticket of its endpoint is finished
module _ (records : List Record) (lists : TicketLists) (t : ℕ) (next : Record) (listed : AreListed records lists) (g : GoesOn records t next) (some : IsSome next.row.status) where
  abbrev pub open_test : ℕ → ℕ → ℕ → Bool
  open_test d e = row_passes (is_open_row d e) records

  pub was_open : open_test next.row.device next.row.endpoint t ≡ true
  was_open = passes-at (is_open_row next.row.device next.row.endpoint) records t g.was g.at ∙ rw (g.device, g.endpoint) (open_there g.was.row g.unfinished)

  pub without-it : IsWithout (open_test next.row.device next.row.endpoint) (row_passes (is_open_row next.row.device next.row.endpoint) (set records t next)) t
  without-it = record {
    there = was_open;
    gone = written-passes records t g.was next g.at (is_open_row next.row.device next.row.endpoint) ∙ finished_not_open next.row.device next.row.endpoint next.row some;
    others = λ k apart. others-pass records t g.was next g.at (is_open_row next.row.device next.row.endpoint) k apart;
  }

  -- at another endpoint nothing changes
  pub others-same : (x y : ℕ) → (next.row.device == x && next.row.endpoint == y) ≡ false → is_open_row x y next.row ≡ is_open_row x y g.was.row
  others-same x y apart = finished_not_open x y next.row some ∙ sym (not_there x y g.was.row next.row.device next.row.endpoint g.device g.endpoint apart)

  pub unreaped-same : IsChained (row_passes is_unreaped_row (set records t next)) (links Unreaped (set records t next)) (length (set records t next)) lists.unreaped
  unreaped-same = rw (length-written records t g.was next g.at) (chained-same _ _ _ _ _ _ listed.unreaped (passes-same records t g.was next g.at is_unreaped_row (g.waits ∙ sym g.waiting)) (links-same records t g.was next g.at Unreaped g.unreaped))

  pub listed-front : (queues : Queues) (finished : Vec ℕ Global) → (ends_at lists.queues next.row.device next.row.endpoint).first ≡ Some t → ((x y : ℕ) → ends_at queues x y ≡ ends_now lists next.row.device next.row.endpoint (record (ends_at lists.queues next.row.device next.row.endpoint) { first = next.queue.after }) x y) → finished.items ≡ finished_numbers (set (rows_of records) t next.row) → vec_capacity lists.finished ≤ vec_capacity finished → AreListed (set records t next) (record lists { queues = queues; finished = finished })
  listed-front queues finished first set_to numbers more =
      let d = next.row.device in
      let e = next.row.endpoint in
      let link_at : links Queue records t ≡ Some next.queue = ap (option_map (link_of Queue)) g.at ∙ ap (λ (l : Link). Some l) (sym g.queue) in
      let popped = chained-pop (open_test d e) (row_passes (is_open_row d e) (set records t next)) t without-it (links Queue records) (length records) (ends_at lists.queues d e) next.queue (listed.queues d e) link_at first in
      record {
        queues = λ x y. elim (cases_Bool (d == x && e == y)) [
          | inl same ↦
              let parts = and_parts (d == x) (e == y) same in
              let dx : d ≡ x = eqb-true d x parts.0 in
              let ey : e ≡ y = eqb-true e y parts.1 in
              rw (← dx, ← ey, length-written records t g.was next g.at, set_to d e, eq-eqb d d refl, eq-eqb e e refl)
              (chained-same _ _ _ _ _ _ popped (λ k. refl) (links-same records t g.was next g.at Queue g.queue))
          | inr other ↦
              rw (length-written records t g.was next g.at, set_to x y, other)
              (chained-same _ _ _ _ _ _ (listed.queues x y) (passes-same records t g.was next g.at (is_open_row x y) (others-same x y other)) (links-same records t g.was next g.at Queue g.queue))
        ];
        unreaped = unreaped-same;
        count = listed.count ∙ sym (count-same records t g.was next g.at is_unreaped_row (g.waits ∙ sym g.waiting));
        finished = numbers ∙ sym (ap finished_numbers (rows-written records t g.was next g.at));
        room = omega (arith, listed.room, more);
      }
