-- Tickets go out of the lists.
use Rattle.std.proofs.Common.{◌≡◌, ℕ, ◌+◌, ◌-◌, ◌<◌, ◌≤◌, true, false, List, length, set, get_or, Some, slice_get, refl, sym, ap, ◌∙◌, arith, inl, inr, Vec, Global, vec_len, vec_capacity}
use Rattle.std.specs.Prelude.{IsSome, is_some, is_none, ◌==◌, ◌&&◌, if◌then◌else◌}
use Rattle.std.specs.Option.{option_map, option_map_or}
use Rattle.std.specs.List.{count_by}
use Rattle.std.proofs.lemmas.Option.{slice_get_within, get_or_from_slice_get}
use Rattle.std.proofs.lemmas.List.Sums.{sum_by-set}
use Rattle.std.proofs.lemmas.Bool.{cases_eq, cases_Bool, and_parts, and_from, eqb-true, eq-eqb, false≢true}
use Rattle.usb_kernel.specs.declared.slot.TicketRow.{TicketRow}
use Rattle.usb_kernel.specs.declared.record.Link.{Link}
use Rattle.usb_kernel.specs.declared.record.Ends.{Ends}
use Rattle.usb_kernel.specs.declared.record.Record.{Record}
use Rattle.usb_kernel.specs.declared.record.Chain.TheVariants.{Queue, Unreaped}
use Rattle.usb_kernel.specs.declared.lists.TicketLists.{TicketLists}
use Rattle.usb_kernel.specs.declared.queues.Queues.{Queues}
use Rattle.usb_kernel.specs.Links.{link_of, unlinked, ends_without, is_first, IsWithin}
use Rattle.usb_kernel.specs.Rows.{is_open_row, is_unreaped_row}
use Rattle.usb_kernel.specs.Unreaped.{finished_numbers, Finishes, Reaps}
use Rattle.usb_kernel.specs.Queues.{ends_at, has_queue}
use Rattle.usb_kernel.specs.Chains.{IsChained, IsWithout, links, row_passes}
use Rattle.usb_kernel.specs.Listed.{AreListed, GoesOn, IsReaped, IsFinishing, IsReaping, rows_of}
use Rattle.usb_kernel.proofs.LinkLemmas.{record_or}
use Rattle.usb_kernel.proofs.ChainLemmas.{chained-same}
use Rattle.usb_kernel.proofs.ListedLemmas.{row_at, passes-at, written-here, written-passes, others-pass, passes-same, links-same, length-written, rows-written, count-same, open_test, without-it, others-same, unreaped-same, was_open, has-queue, ends_now, finished_not_open, number_if, goes_on-finishes, goes_on-room}
use Rattle.usb_kernel.proofs.UnlinkLemmas.{unlinked-rows, unlinked-length, unlinked-chained, unlinked-other, unlinked-links, unlinked-within, rows-pass}

-- a row is an open ticket of one endpoint alone
pub one_endpoint : (d e x y : ℕ) (r : TicketRow) → (d == x && e == y) ≡ false → is_open_row x y r ≡ true → is_open_row d e r ≡ false
one_endpoint d e x y r apart opens =
    let parts = and_parts (r.device == x) (r.endpoint == y && is_none r.status) opens in
    let more = and_parts (r.endpoint == y) (is_none r.status) parts.1 in
    let dx : r.device ≡ x = eqb-true r.device x parts.0 in
    let ey : r.endpoint ≡ y = eqb-true r.endpoint y more.0 in
    elim (cases_Bool (is_open_row d e r)) [
      | inl both ↦
          let these = and_parts (r.device == d) (r.endpoint == e && is_none r.status) both in
          let those = and_parts (r.endpoint == e) (is_none r.status) these.1 in
          let dd : d ≡ x = sym (eqb-true r.device d these.0) ∙ dx in
          let ee : e ≡ y = sym (eqb-true r.endpoint e those.0) ∙ ey in
          absurd (false≢true (sym apart ∙ and_from (d == x) (e == y) (eq-eqb d x dd) (eq-eqb e y ee)))
      | inr closed ↦ closed
    ]

-- a ticket is finished, and may stand anywhere in the list of its endpoint
module _ (records : List Record) (lists : TicketLists) (t : ℕ) (next : Record) (listed : AreListed records lists) (g : GoesOn records t next) (some : IsSome next.row.status) where
  abbrev pub written : List Record
  written = set records t next

  abbrev pub ends_there : Ends
  ends_there = ends_at lists.queues next.row.device next.row.endpoint

  abbrev pub left : List Record
  left = unlinked Queue t next.queue ends_there written

  old_tests : IsChained (open_test records lists t next listed g some next.row.device next.row.endpoint) (links Queue written) (length records) ends_there
  old_tests = chained-same _ _ _ _ _ _ (listed.queues next.row.device next.row.endpoint) (λ k. refl) (links-same records t g.was next g.at Queue g.queue)

  link_at : links Queue written t ≡ Some next.queue
  link_at = ap (option_map (link_of Queue)) (written-here records t g.was next g.at)

  rows_left : rows_of left ≡ rows_of written
  rows_left = unlinked-rows Queue t next.queue ends_there written

  length_left : length left ≡ length records
  length_left = unlinked-length Queue t next.queue ends_there written ∙ length-written records t g.was next g.at

  -- neither of its neighbours is past the records
  pub finish-within : is_first ends_there t ≡ false → IsWithin next.queue (length written)
  finish-within other = rw (length-written records t g.was next g.at) (unlinked-within Queue (open_test records lists t next listed g some next.row.device next.row.endpoint) t next.queue ends_there written (length records) old_tests link_at (row_passes (is_open_row next.row.device next.row.endpoint) written) (without-it records lists t next listed g some) other)

  apart_tests : (x y : ℕ) → (next.row.device == x && next.row.endpoint == y) ≡ false → (k : ℕ) → row_passes (is_open_row x y) written k ≡ true → open_test records lists t next listed g some next.row.device next.row.endpoint k ≡ false
  apart_tests x y apart k passes = elim (cases_eq k t) [
    | inl is ↦
        absurd (false≢true (sym (finished_not_open x y next.row some) ∙ (sym (written-passes records t g.was next g.at (is_open_row x y)) ∙ (ap (row_passes (is_open_row x y) written) (sym is) ∙ passes))))
    | inr other ↦ elim (record_or (slice_get records k)) [
      | inl none ↦ ap (λ o. option_map_or (λ (r : Record). is_open_row next.row.device next.row.endpoint r.row) o false) none
      | inr r ↦
          let opens = sym (passes-at (is_open_row x y) records k r.0 r.1) ∙ (sym (others-pass records t g.was next g.at (is_open_row x y) k other) ∙ passes) in
          passes-at (is_open_row next.row.device next.row.endpoint) records k r.0 r.1 ∙ one_endpoint next.row.device next.row.endpoint x y r.0.row apart opens
    ]
  ]

  pub listed-finish : (queues : Queues) (finished : Vec ℕ Global) → ((x y : ℕ) → ends_at queues x y ≡ ends_now lists next.row.device next.row.endpoint (ends_without t next.queue ends_there) x y) → finished.items ≡ finished_numbers (set (rows_of records) t next.row) → vec_capacity lists.finished ≤ vec_capacity finished → AreListed left (record lists { queues = queues; finished = finished })
  listed-finish queues finished set_to numbers more =
      let d = next.row.device in
      let e = next.row.endpoint in
      let own = unlinked-chained Queue (open_test records lists t next listed g some d e) t next.queue ends_there written (length records) old_tests link_at (row_passes (is_open_row d e) written) (without-it records lists t next listed g some) in
      record {
        queues = λ x y. elim (cases_Bool (d == x && e == y)) [
          | inl same ↦
              let parts = and_parts (d == x) (e == y) same in
              let dx : d ≡ x = eqb-true d x parts.0 in
              let ey : e ≡ y = eqb-true e y parts.1 in
              rw (← dx, ← ey, length_left, set_to d e, eq-eqb d d refl, eq-eqb e e refl)
              (chained-same _ _ _ _ _ _ own (rows-pass (is_open_row d e) written left rows_left) (λ k. refl))
          | inr other ↦
              let these = chained-same _ _ _ _ _ _ (listed.queues x y) (passes-same records t g.was next g.at (is_open_row x y) (others-same records lists t next listed g some x y other)) (links-same records t g.was next g.at Queue g.queue) in
              rw (length_left, set_to x y, other)
              (chained-same _ _ _ _ _ _ (unlinked-other Queue (open_test records lists t next listed g some d e) t next.queue ends_there written (length records) old_tests link_at (row_passes (is_open_row d e) written) (row_passes (is_open_row x y) written) (ends_at lists.queues x y) (without-it records lists t next listed g some) these (apart_tests x y other)) (rows-pass (is_open_row x y) written left rows_left) (λ k. refl))
        ];
        unreaped = rw (length_left ∙ sym (length-written records t g.was next g.at)) (chained-same _ _ _ _ _ _ (unreaped-same records lists t next listed g some) (rows-pass is_unreaped_row written left rows_left) (unlinked-links Queue Unreaped t next.queue ends_there written (λ l r. refl)));
        count = listed.count ∙ (sym (count-same records t g.was next g.at is_unreaped_row (g.waits ∙ sym g.waiting)) ∙ ap (count_by is_unreaped_row) (sym rows_left));
        finished = numbers ∙ ap finished_numbers (sym (rows_left ∙ rows-written records t g.was next g.at));
        room = omega (arith, listed.room, more);
      }

-- a ticket is reaped
module _ (records : List Record) (lists : TicketLists) (t : ℕ) (next : Record) (listed : AreListed records lists) (g : IsReaped records t next) where
  abbrev pub marked : List Record
  marked = set records t next

  abbrev pub rest : List Record
  rest = unlinked Unreaped t next.unreaped lists.unreaped marked

  gone_test : IsWithout (row_passes is_unreaped_row records) (row_passes is_unreaped_row marked) t
  gone_test = record {
    there = passes-at is_unreaped_row records t g.was g.at ∙ g.waiting;
    gone = written-passes records t g.was next g.at is_unreaped_row ∙ ap is_some g.reaped;
    others = λ k apart. others-pass records t g.was next g.at is_unreaped_row k apart;
  }

  marked_chain : IsChained (row_passes is_unreaped_row records) (links Unreaped marked) (length records) lists.unreaped
  marked_chain = chained-same _ _ _ _ _ _ listed.unreaped (λ k. refl) (links-same records t g.was next g.at Unreaped g.unreaped)

  marked_at : links Unreaped marked t ≡ Some next.unreaped
  marked_at = ap (option_map (link_of Unreaped)) (written-here records t g.was next g.at)

  rows_rest : rows_of rest ≡ rows_of marked
  rows_rest = unlinked-rows Unreaped t next.unreaped lists.unreaped marked

  length_rest : length rest ≡ length records
  length_rest = unlinked-length Unreaped t next.unreaped lists.unreaped marked ∙ length-written records t g.was next g.at

  pub reap-within : is_first lists.unreaped t ≡ false → IsWithin next.unreaped (length marked)
  reap-within other = rw (length-written records t g.was next g.at) (unlinked-within Unreaped (row_passes is_unreaped_row records) t next.unreaped lists.unreaped marked (length records) marked_chain marked_at (row_passes is_unreaped_row marked) gone_test other)

  pub one-less : count_by is_unreaped_row (rows_of rest) + 1 ≡ lists.count
  one-less =
      let here = get_or_from_slice_get (rows_of records) t g.was.row g.was.row (row_at records t g.was g.at) in
      let sums = sum_by-set (λ (r : TicketRow). number_if (is_unreaped_row r)) (rows_of records) t next.row g.was.row (slice_get_within (rows_of records) t g.was.row (row_at records t g.was g.at)) in
      let one : number_if (is_unreaped_row (get_or (rows_of records) t g.was.row)) ≡ 1 = ap (λ (r : TicketRow). number_if (is_unreaped_row r)) here ∙ ap number_if g.waiting in
      let none : number_if (is_unreaped_row next.row) ≡ 0 = ap (λ b. number_if (is_some b)) g.reaped in
      let same : count_by is_unreaped_row (rows_of rest) ≡ count_by is_unreaped_row (set (rows_of records) t next.row) = ap (count_by is_unreaped_row) (rows_rest ∙ rows-written records t g.was next g.at) in
      omega (arith, sums, one, none, same, listed.count)

  stays_closed : (x y : ℕ) → is_open_row x y next.row ≡ is_open_row x y g.was.row
  stays_closed x y = finished_not_open x y next.row (ap is_some g.still ∙ g.finished) ∙ sym (finished_not_open x y g.was.row g.finished)

  pub listed-reaped : (count : ℕ) (finished : Vec ℕ Global) → count + 1 ≡ lists.count → finished.items ≡ finished_numbers (set (rows_of records) t next.row) → vec_capacity lists.finished ≤ vec_capacity finished → AreListed rest (record lists { unreaped = ends_without t next.unreaped lists.unreaped; count = count; finished = finished })
  listed-reaped count finished less numbers more = record {
    queues = λ x y.
        let kept = chained-same _ _ _ _ _ _ (listed.queues x y) (passes-same records t g.was next g.at (is_open_row x y) (stays_closed x y)) (links-same records t g.was next g.at Queue g.queue) in
        rw length_rest (chained-same _ _ _ _ _ _ kept (rows-pass (is_open_row x y) marked rest rows_rest) (unlinked-links Unreaped Queue t next.unreaped lists.unreaped marked (λ l r. refl)));
    unreaped =
        let own = unlinked-chained Unreaped (row_passes is_unreaped_row records) t next.unreaped lists.unreaped marked (length records) marked_chain marked_at (row_passes is_unreaped_row marked) gone_test in
        rw length_rest (chained-same _ _ _ _ _ _ own (rows-pass is_unreaped_row marked rest rows_rest) (λ k. refl));
    count = omega (arith, one-less, less);
    finished = numbers ∙ ap finished_numbers (sym (rows_rest ∙ rows-written records t g.was next g.at));
    room = omega (arith, listed.room, less, more);
  }

-- as the lists' functions ask for it
module _ (items : List Record) (lists : TicketLists) (t d e : ℕ) (link : Link) (f : IsFinishing items lists t d e link) where
  pub finishing-within : is_first (ends_at lists.queues d e) t ≡ false → IsWithin link (length items)
  finishing-within other = rw (f.is, ← f.queue) (finish-within f.records lists t f.next f.listed f.goes_on f.finished (rw (f.device, f.endpoint) other))

  pub finishing-has : has_queue lists.queues d e ≡ true
  finishing-has =
      let opens = was_open f.records lists t f.next f.listed f.goes_on f.finished in
      let least = (f.listed.queues f.next.row.device f.next.row.endpoint).first.least t (omega arith) opens in
      rw (← f.device, ← f.endpoint) (has-queue lists.queues f.next.row.device f.next.row.endpoint least.0 least.1)

  pub finishing-finishes : Finishes (rows_of f.records) t f.next.row
  finishing-finishes = goes_on-finishes f.records t f.next f.goes_on f.finished

  pub finishing-room : vec_len lists.finished < vec_capacity lists.finished
  finishing-room = goes_on-room f.records lists t f.next f.listed f.goes_on

  pub finishing-listed : (queues : Queues) (finished : Vec ℕ Global) → ((x y : ℕ) → ends_at queues x y ≡ (if d == x && e == y then ends_without t link (ends_at lists.queues d e) else ends_at lists.queues x y)) → finished.items ≡ finished_numbers (set (rows_of f.records) t f.next.row) → vec_capacity lists.finished ≤ vec_capacity finished → AreListed (unlinked Queue t link (ends_at lists.queues d e) items) (record lists { queues = queues; finished = finished })
  finishing-listed queues finished set_to numbers more =
      rw (f.is, ← f.device, ← f.endpoint, ← f.queue) (listed-finish f.records lists t f.next f.listed f.goes_on f.finished queues finished (rw (f.device, f.endpoint, f.queue) set_to) numbers more)

module _ (items : List Record) (lists : TicketLists) (t : ℕ) (link : Link) (f : IsReaping items lists t link) where
  pub reaping-within : is_first lists.unreaped t ≡ false → IsWithin link (length items)
  reaping-within other = rw (f.is, ← f.unreaped) (reap-within f.records lists t f.next f.listed f.reaped other)

  pub reaping-some : 1 ≤ lists.count
  reaping-some = omega (arith, one-less f.records lists t f.next f.listed f.reaped)

  pub reaping-reaps : Reaps (rows_of f.records) t f.next.row
  reaping-reaps =
      let r = f.reaped in
      record { row = r.was.row; at = row_at f.records t r.was r.at; finished = r.finished; waiting = r.waiting; still = r.still; reaped = r.reaped }

  pub reaping-listed : (finished : Vec ℕ Global) → finished.items ≡ finished_numbers (set (rows_of f.records) t f.next.row) → vec_capacity lists.finished ≤ vec_capacity finished → AreListed (unlinked Unreaped t link lists.unreaped items) (record lists { unreaped = ends_without t link lists.unreaped; count = lists.count - 1; finished = finished })
  reaping-listed finished numbers more =
      rw (f.is, ← f.unreaped) (listed-reaped f.records lists t f.next f.listed f.reaped (lists.count - 1) finished (omega (arith, reaping-some)) numbers more)
