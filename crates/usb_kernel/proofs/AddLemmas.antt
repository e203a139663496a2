-- One more ticket.
use Rattle.std.proofs.Common.{◌≡◌, ◌≢◌, ℕ, ◌+◌, ◌<◌, ◌≤◌, zero, suc, Bool, true, false, List, [], ◌∷◌, ◌++◌, length, Option, Some, None, slice_get, refl, sym, ap, ◌∙◌, arith, inl, inr, subst, vec_capacity}
use Rattle.std.specs.Prelude.{IsSome, is_some, is_none, ◌==◌, ◌&&◌, if◌then◌else◌}
use Rattle.std.specs.Option.{option_map, option_map_or}
use Rattle.std.specs.List.{count_by}
use Rattle.std.proofs.lemmas.Option.{none-some, same_Some}
use Rattle.std.proofs.lemmas.List.{length-map, length-append, map-append}
use Rattle.std.proofs.lemmas.List.Sums.{sum_by-append, sum_by-cons}
use Rattle.std.proofs.lemmas.Bool.{cases_Bool, and_parts, eqb-true, eq-eqb, false≢true}
use Rattle.usb_kernel.specs.declared.slot.TicketRow.{TicketRow}
use Rattle.usb_kernel.specs.declared.record.Link.{Link}
use Rattle.usb_kernel.specs.declared.record.Ends.{Ends}
use Rattle.usb_kernel.specs.declared.record.Record.{Record}
use Rattle.usb_kernel.specs.declared.record.Chain.{Chain}
use Rattle.usb_kernel.specs.declared.record.Chain.TheVariants.{Queue, Unreaped}
use Rattle.usb_kernel.specs.declared.lists.TicketLists.{TicketLists}
use Rattle.usb_kernel.specs.declared.queues.Queues.{Queues}
use Rattle.usb_kernel.specs.Links.{link_of, with_link, with_after, changed, last_linked, ends_with, link_behind}
use Rattle.usb_kernel.specs.Rows.{is_open_row, is_unreaped_row}
use Rattle.usb_kernel.specs.Unreaped.{finished_numbers}
use Rattle.usb_kernel.specs.Queues.{ends_at}
use Rattle.usb_kernel.specs.Chains.{IsChained, links, row_passes}
use Rattle.usb_kernel.specs.Listed.{AreListed, rows_of}
use Rattle.usb_kernel.proofs.Places.{slice_get-set_other, slice_get-append_seam}
use Rattle.usb_kernel.proofs.Unreaped.{numbers-add, numbers-refused}
use Rattle.usb_kernel.proofs.ChangedLemmas.{changed-here, changed-none}
use Rattle.usb_kernel.proofs.FinishLemmas.{one_endpoint}
use Rattle.usb_kernel.proofs.LinkLemmas.{record_or, changed-absent, link_there, changed-read, length-changed, link-after, row-after}
use Rattle.usb_kernel.proofs.ChainLemmas.{some_or, none_or, chained-same, chained-longer, chained-alone, chained-more}
use Rattle.usb_kernel.proofs.ListedLemmas.{passes-at, number_if, finished_not_open, not_there, open_there}
use Rattle.usb_kernel.proofs.UnlinkLemmas.{changed-rows, changed-links, rows-pass}

pub pushed-other : {X : Type 0} (xs : List X) (x : X) (k : ℕ) → k ≢ length xs → slice_get (xs ++ x ∷ []) k ≡ slice_get xs k
pushed-other [] x zero apart = absurd (apart refl)
pushed-other [] x (suc k) apart = refl
pushed-other (y ∷ xs) x zero apart = refl
pushed-other (y ∷ xs) x (suc k) apart = pushed-other xs x k (λ z. apart (omega (arith, z)))

module _ (p : TicketRow → Bool) (chain : Chain) (records xs : List Record) (r : Record) (ends : Ends) (c : IsChained (row_passes p records) (links chain records) (length records) ends) (rows : rows_of xs ≡ rows_of records) where
  same_length : length xs ≡ length records
  same_length = sym (length-map xs (λ (x : Record). x.row)) ∙ (ap length rows ∙ length-map records (λ (x : Record). x.row))

  at_end : row_passes p (xs ++ r ∷ []) (length records) ≡ p r.row
  at_end = ap (row_passes p (xs ++ r ∷ [])) (sym same_length) ∙ passes-at p (xs ++ r ∷ []) (length xs) r (slice_get-append_seam xs r)

  elsewhere : (k : ℕ) → k ≢ length records → row_passes p (xs ++ r ∷ []) k ≡ row_passes p records k
  elsewhere k apart = ap (λ o. option_map_or (λ (x : Record). p x.row) o false) (pushed-other xs r k (λ z. apart (z ∙ same_length))) ∙ rows-pass p records xs rows k

  link_end : links chain (xs ++ r ∷ []) (length records) ≡ Some (link_of chain r)
  link_end = ap (links chain (xs ++ r ∷ [])) (sym same_length) ∙ ap (option_map (link_of chain)) (slice_get-append_seam xs r)

  pub tail-other : p r.row ≡ false → ((k : ℕ) → row_passes p records k ≡ true → links chain xs k ≡ links chain records k) → IsChained (row_passes p (xs ++ r ∷ [])) (links chain (xs ++ r ∷ [])) (length records + 1) ends
  tail-other closed same = chained-longer (row_passes p records) (row_passes p (xs ++ r ∷ [])) (links chain records) (links chain (xs ++ r ∷ [])) (length records) ends c (at_end ∙ closed) elsewhere (λ k passes.
      let apart : k ≢ length records = λ z. absurd (omega (arith, z, c.within k passes)) in
      ap (option_map (link_of chain)) (pushed-other xs r k (λ z. apart (z ∙ same_length))) ∙ same k passes)

  pub tail-own : p r.row ≡ true → link_of chain r ≡ link_behind ends → ((k : ℕ) → links chain xs k ≡ links chain (last_linked chain (length records) ends records) k) → IsChained (row_passes p (xs ++ r ∷ [])) (links chain (xs ++ r ∷ [])) (length records + 1) (ends_with (length records) ends)
  tail-own opens link linked = elim (none_or ends.first) [
    | inl none ↦ rw none (chained-alone (row_passes p records) (row_passes p (xs ++ r ∷ [])) (links chain records) (links chain (xs ++ r ∷ [])) (length records) ends (link_of chain r) c none (at_end ∙ opens) elsewhere link_end (ap (λ (l : Link). l.after) link))
    | inr some ↦
        let n = length records in
        rw some.1 (rw some.1 at (chained-more (row_passes p records) (row_passes p (xs ++ r ∷ [])) (links chain records) (links chain (xs ++ r ∷ [])) n ends (link_of chain r) c (λ none. none-some some.0 (sym none ∙ some.1)) (at_end ∙ opens) elsewhere link_end (ap (λ (l : Link). l.after) link) (ap (λ (l : Link). l.before) link) (λ k l' apart here.
        let there : links chain (changed (with_after chain (Some n)) records ends.last) k ≡ Some l' = sym (ap (λ (b : Bool). links chain (if b then records else changed (with_after chain (Some n)) records ends.last) k) (ap is_none some.1)) ∙ (sym (linked k) ∙ (sym (ap (option_map (link_of chain)) (pushed-other xs r k (λ z. apart (z ∙ same_length)))) ∙ here)) in
        let now = link_there chain (changed (with_after chain (Some n)) records ends.last) k l' there in
        let was = changed-read (with_after chain (Some n)) records ends.last k now.0 now.1 in (
          link_of chain was.0,
          ap (option_map (link_of chain)) was.1,
          sym (ap (λ (l : Link). l.before) now.2) ∙ elim (some_or ends.last k) [
            | inl hit ↦ ap (λ (x : Record). (link_of chain x).before) (was.2 hit) ∙ ap (λ (l : Link). l.before) (link-after chain (Some n) was.0)
            | inr miss ↦ ap (λ (x : Record). (link_of chain x).before) (was.3 miss)
          ],
          λ hit. sym (ap (λ (l : Link). l.after) now.2) ∙ (ap (λ (x : Record). (link_of chain x).after) (was.2 hit) ∙ ap (λ (l : Link). l.after) (link-after chain (Some n) was.0)),
          λ miss. sym (ap (λ (l : Link). l.after) now.2) ∙ ap (λ (x : Record). (link_of chain x).after) (was.3 miss),
        ))))
  ]

-- a record that was not changed
changed-miss : (f : Record → Record) (records : List Record) (o : Option ℕ) (k : ℕ) → o ≢ Some k → slice_get (changed f records o) k ≡ slice_get records k
changed-miss f records None k miss = ap (λ rs. slice_get rs k) (changed-none f records)
changed-miss f records (Some t) k miss = elim (record_or (slice_get records t)) [
  | inl none ↦ ap (λ rs. slice_get rs k) (changed-absent f records t none)
  | inr some ↦ ap (λ rs. slice_get rs k) (changed-here f records t some.0 some.1) ∙ slice_get-set_other records t k (f some.0) (λ z. miss (ap (λ (n : ℕ). Some n) (sym z)))
]

module _ (chain : Chain) (n : ℕ) (ends : Ends) (records : List Record) where
  pub last-rows : rows_of (last_linked chain n ends records) ≡ rows_of records
  last-rows = elim (cases_Bool (is_none ends.first)) [
    | inl none ↦ rw none refl
    | inr some ↦ rw some (changed-rows (with_after chain (Some n)) records ends.last (row-after chain (Some n)))
  ]

  pub last-length : length (last_linked chain n ends records) ≡ length records
  last-length = elim (cases_Bool (is_none ends.first)) [
    | inl none ↦ rw none refl
    | inr some ↦ rw some (length-changed (with_after chain (Some n)) records ends.last)
  ]

  pub last-links : (other : Chain) → ((l : Link) (r : Record) → link_of other (with_link chain l r) ≡ link_of other r) → (k : ℕ) → links other (last_linked chain n ends records) k ≡ links other records k
  last-links other kept k = elim (cases_Bool (is_none ends.first)) [
    | inl none ↦ rw none refl
    | inr some ↦ rw some (changed-links other (with_after chain (Some n)) records ends.last (λ r. kept _ r) k)
  ]

  pub last-miss : (k : ℕ) → (is_none ends.first ≡ false → ends.last ≢ Some k) → links chain (last_linked chain n ends records) k ≡ links chain records k
  last-miss k miss = elim (cases_Bool (is_none ends.first)) [
    | inl none ↦ rw none refl
    | inr some ↦ rw some (ap (option_map (link_of chain)) (changed-miss (with_after chain (Some n)) records ends.last k (miss some)))
  ]

some_of : (o : Option ℕ) → is_none o ≡ false → (a : ℕ) × (o ≡ Some a)
some_of None some = absurd (false≢true (sym some))
some_of (Some a) some = (a, refl)

-- the last ticket of a list that is not empty is one of it
pub last-there : (p : ℕ → Bool) (L : ℕ → Option Link) (n : ℕ) (ends : Ends) → IsChained p L n ends → is_none ends.first ≡ false → (t : ℕ) → ends.last ≡ Some t → (t < n) × (p t ≡ true)
last-there p L n ends c some t is =
    let first = some_of ends.first some in
    let passes = (c.first.passes first.0 first.1).1 in
    let last = c.last first.0 (c.within first.0 passes) passes in
    let same = same_Some last.0 t (sym last.1 ∙ is) in
    (omega (arith, last.3, same), ap p (sym same) ∙ last.4)

count-end : (p : TicketRow → Bool) (rows : List TicketRow) (r : TicketRow) → count_by p (rows ++ r ∷ []) ≡ count_by p rows + number_if (p r)
count-end p rows r =
    let all = sum_by-append (λ (x : TicketRow). number_if (p x)) rows (r ∷ []) in
    let one = sum_by-cons (λ (x : TicketRow). number_if (p x)) r [] in
    omega (arith, all, one)

module _ (records : List Record) (lists : TicketLists) (listed : AreListed records lists) (r : Record) where
  -- one more ticket, refused
  pub listed-refused : IsSome r.row.status → r.row.buffer ≡ None → AreListed (records ++ r ∷ []) lists
  listed-refused finished reaped =
      let long : length (records ++ r ∷ []) ≡ length records + 1 = length-append records (r ∷ []) in
      record {
        queues = λ x y. rw long (tail-other (is_open_row x y) Queue records records r (ends_at lists.queues x y) (listed.queues x y) refl (finished_not_open x y r.row finished) (λ k passes. refl));
        unreaped = rw long (tail-other is_unreaped_row Unreaped records records r lists.unreaped listed.unreaped refl (ap is_some reaped) (λ k passes. refl));
        count =
            let rows : rows_of (records ++ r ∷ []) ≡ rows_of records ++ r.row ∷ [] = map-append (λ (x : Record). x.row) records (r ∷ []) in
            let none : number_if (is_unreaped_row r.row) ≡ 0 = ap (λ b. number_if (is_some b)) reaped in
            let all : count_by is_unreaped_row (rows_of (records ++ r ∷ [])) ≡ count_by is_unreaped_row (rows_of records) + number_if (is_unreaped_row r.row) = ap (count_by is_unreaped_row) rows ∙ count-end is_unreaped_row (rows_of records) r.row in
            omega (arith, all, none, listed.count);
        finished = listed.finished ∙ sym (ap finished_numbers (map-append (λ (x : Record). x.row) records (r ∷ [])) ∙ numbers-refused (rows_of records) r.row reaped);
        room = listed.room;
      }

  abbrev pub queue_linked : List Record
  queue_linked = last_linked Queue (length records) (ends_at lists.queues r.row.device r.row.endpoint) records

  abbrev pub both_linked : List Record
  both_linked = last_linked Unreaped (length records) lists.unreaped queue_linked

  rows_both : rows_of both_linked ≡ rows_of records
  rows_both = last-rows Unreaped (length records) lists.unreaped queue_linked ∙ last-rows Queue (length records) (ends_at lists.queues r.row.device r.row.endpoint) records

  -- one more ticket, open
  pub listed-add : (queues : Queues) → r.row.status ≡ None → IsSome r.row.buffer → r.queue ≡ link_behind (ends_at lists.queues r.row.device r.row.endpoint) → r.unreaped ≡ link_behind lists.unreaped → ((x y : ℕ) → ends_at queues x y ≡ (if r.row.device == x && r.row.endpoint == y then ends_with (length records) (ends_at lists.queues r.row.device r.row.endpoint) else ends_at lists.queues x y)) → lists.count + 1 ≤ vec_capacity lists.finished → AreListed (both_linked ++ r ∷ []) (record lists { queues = queues; unreaped = ends_with (length records) lists.unreaped; count = lists.count + 1 })
  listed-add queues unfinished waiting queue unreaped set_to places =
      let n = length records in
      let d = r.row.device in
      let e = r.row.endpoint in
      let ends = ends_at lists.queues d e in
      let shorter : length both_linked ≡ n = last-length Unreaped n lists.unreaped queue_linked ∙ last-length Queue n ends records in
      let long : length (both_linked ++ r ∷ []) ≡ n + 1 = length-append both_linked (r ∷ []) ∙ ap (λ m. m + 1) shorter in
      let other_links : (k : ℕ) → links Queue both_linked k ≡ links Queue queue_linked k = last-links Unreaped n lists.unreaped queue_linked Queue (λ l x. refl) in
      let queue_length : length queue_linked ≡ n = last-length Queue n ends records in
      let queue_rows : rows_of queue_linked ≡ rows_of records = last-rows Queue n ends records in
      let unreaped_chain : IsChained (row_passes is_unreaped_row queue_linked) (links Unreaped queue_linked) (length queue_linked) lists.unreaped =
      rw queue_length (chained-same _ _ _ _ _ _ listed.unreaped (rows-pass is_unreaped_row records queue_linked queue_rows) (last-links Queue n ends records Unreaped (λ l x. refl))) in
      record {
        queues = λ x y. elim (cases_Bool (d == x && e == y)) [
          | inl same ↦
              let parts = and_parts (d == x) (e == y) same in
              let dx : d ≡ x = eqb-true d x parts.0 in
              let ey : e ≡ y = eqb-true e y parts.1 in
              rw (← dx, ← ey, long, set_to d e, eq-eqb d d refl, eq-eqb e e refl)
              (tail-own (is_open_row d e) Queue records both_linked r ends (listed.queues d e) rows_both (open_there r.row unfinished) queue other_links)
          | inr other ↦
              rw (long, set_to x y, other)
              (tail-other (is_open_row x y) Queue records both_linked r (ends_at lists.queues x y) (listed.queues x y) rows_both (not_there x y r.row d e refl refl other) (λ k passes.
              other_links k ∙ last-miss Queue n ends records k (λ some is. false≢true (sym (apart_row x y other k passes) ∙ (last-there _ _ n ends (listed.queues d e) some k is).1))))
        ];
        unreaped =
            let own : IsChained (row_passes is_unreaped_row (both_linked ++ r ∷ [])) (links Unreaped (both_linked ++ r ∷ [])) (length queue_linked + 1) (ends_with (length queue_linked) lists.unreaped) =
            tail-own is_unreaped_row Unreaped queue_linked both_linked r lists.unreaped unreaped_chain (last-rows Unreaped n lists.unreaped queue_linked) waiting unreaped (λ k. ap (λ m. links Unreaped (last_linked Unreaped m lists.unreaped queue_linked) k) (sym queue_length)) in
            rw long (subst (λ m. IsChained (row_passes is_unreaped_row (both_linked ++ r ∷ [])) (links Unreaped (both_linked ++ r ∷ [])) (m + 1) (ends_with m lists.unreaped)) queue_length own);
        count =
            let rows : rows_of (both_linked ++ r ∷ []) ≡ rows_of records ++ r.row ∷ [] = map-append (λ (x : Record). x.row) both_linked (r ∷ []) ∙ ap (λ xs. xs ++ r.row ∷ []) rows_both in
            let one : number_if (is_unreaped_row r.row) ≡ 1 = ap number_if waiting in
            let all : count_by is_unreaped_row (rows_of (both_linked ++ r ∷ [])) ≡ count_by is_unreaped_row (rows_of records) + number_if (is_unreaped_row r.row) = ap (count_by is_unreaped_row) rows ∙ count-end is_unreaped_row (rows_of records) r.row in
            omega (arith, all, one, listed.count);
        finished =
            let rows : rows_of (both_linked ++ r ∷ []) ≡ rows_of records ++ r.row ∷ [] = map-append (λ (x : Record). x.row) both_linked (r ∷ []) ∙ ap (λ xs. xs ++ r.row ∷ []) rows_both in
            listed.finished ∙ sym (ap finished_numbers rows ∙ numbers-add (rows_of records) r.row unfinished);
        room = places;
      }
    where
      apart_row : (x y : ℕ) → (r.row.device == x && r.row.endpoint == y) ≡ false → (k : ℕ) → row_passes (is_open_row x y) records k ≡ true → row_passes (is_open_row r.row.device r.row.endpoint) records k ≡ false
      apart_row x y apart k passes = elim (record_or (slice_get records k)) [
        | inl none ↦ ap (λ o. option_map_or (λ (z : Record). is_open_row r.row.device r.row.endpoint z.row) o false) none
        | inr s ↦ passes-at (is_open_row r.row.device r.row.endpoint) records k s.0 s.1 ∙ one_endpoint r.row.device r.row.endpoint x y s.0.row apart (sym (passes-at (is_open_row x y) records k s.0 s.1) ∙ passes)
      ]
