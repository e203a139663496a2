-- The rows of endpoints and their tickets.
use Rattle.std.proofs.Common.{ℕ, zero, suc, arith, ◌≡◌, ◌≢◌, ◌<◌, ◌+◌, ◌-◌, Bool, true, false, cond, List, [], ◌∷◌, ◌++◌, length, map, set, take, get_or, length-append, slice_get, Option, Some, None, inl, inr, refl, sym, ◌∙◌, ap, subst}
use Rattle.std.specs.Prelude.{◌||◌, ◌&&◌, ◌==◌, nat_lt, option_and_then, Result, Ok, Err, OnOk, OnErr, IsSome}
use Rattle.std.specs.List.{count_by, list_any, enumerate_from}
use Rattle.std.specs.Option.{option_map, option_map_or}
use Rattle.std.proofs.lemmas.Bool.{cases_Bool, cases_eq, eq-eqb, ne_eqb}
use Rattle.std.proofs.lemmas.Option.{none-some, same_Some, slice_get_within, slice_get-map, get_or_from_slice_get}
use Rattle.std.proofs.lemmas.List.{map-set, length-map, take-map}
use Rattle.std.proofs.lemmas.Grind.{common_steps}
use Rattle.usb_device_tables.specs.History.{value_at}
use Rattle.usb_device_tables.proofs.ValueLemmas.{last-of, take-others, value-set_same, value-set_other, value-last, value-pushed, value-past, value-map, set-value_same}
use Rattle.usb_device_tables.specs.declared.registry.Key.{Key}
use Rattle.usb_device_ledger.specs.declared.ends.TicketEnd.{TicketEnd}
use Rattle.usb_device_ledger.specs.declared.owners.EndpointRow.{EndpointRow}
use Rattle.usb_device_ledger.specs.declared.owners.EndedClaim.{EndedClaim}
use Rattle.usb_device_ledger.specs.Entries.{HostTicket, HostEndpoint, ClaimedInterface, HeldBy, Abandoned, Ended}
use Rattle.usb_device_ledger.specs.Owners.{is_of, is_ticket_of, if_there, lives, lives_on, uses_bit, shares_bit, is_used_among, is_owned_among}
use Rattle.usb_device_ledger.specs.Releases.{claim_ended, claim_of, interface_at, endpoints_left}
use Rattle.usb_device_ledger.specs.OwnerRows.{endpoint_of, row_interface, interface_of_row, is_alive, is_alive_on, uses_row, one_if, is_counted, rows_left, row_gone, claim_gone}
use Rattle.usb_device_ledger.specs.TicketStates.{TicketState}
use Rattle.usb_device_ledger.specs.TicketStates as slot
use Rattle.usb_kernel.specs.declared.submission.Done.{Done}
use Rattle.usb_device_ledger.specs.declared.ends.TicketEnd.TheVariants.{Reclaimed}
use Rattle.usb_device_ledger.specs.LedgerState.{Tied, tickets_at, ticket_key, host_ticket, slot_without, slot_with, slot_kept, is_given_up, abandoned_key}
use Rattle.usb_device_ledger.proofs.ListLemmas.{count-same, count-less, count-push, count-some, any-count, any-enumerated}

-- the element of a place, read by an index
read : {X : Type 0} (xs : List X) (i : ℕ) (x : X) → slice_get xs i ≡ Some x → x ≡ get_or xs i x
read xs i x at = sym (get_or_from_slice_get xs i x x at)

is_ticket-key : (k key : ℕ) (x : HostTicket) → ticket_key x ≡ Some key → is_ticket_of k x ≡ (key == k)
is_ticket-key k key (HeldBy hold) is = rw (same_Some hold.key key is) refl
is_ticket-key k key (Abandoned j) is = rw (same_Some j key is) refl
is_ticket-key k key (Ended end) is = absurd (none-some key is)

is_ticket-same : (k : ℕ) (x y : HostTicket) (key : ℕ) → ticket_key x ≡ Some key → ticket_key y ≡ Some key → is_ticket_of k y ≡ is_ticket_of k x
is_ticket-same k x y key is also = is_ticket-key k key y also ∙ sym (is_ticket-key k key x is)

-- the row of a key counts its tickets
pub counts-at : (rows : List (Option EndpointRow)) (tickets : List HostTicket) (k : ℕ) (e : EndpointRow) → Tied rows tickets → value_at rows k ≡ Some e → e.tickets ≡ count_by (is_ticket_of k) tickets
counts-at rows tickets k e tied at = sym (ap (λ (o : Option EndpointRow). option_map_or (λ (r : EndpointRow). r.tickets) o 0) at) ∙ tied k

one-counted : (tickets : List HostTicket) (t key : ℕ) (x : HostTicket) → slice_get tickets t ≡ Some x → ticket_key x ≡ Some key → 0 < count_by (is_ticket_of key) tickets
one-counted tickets t key x at is = count-some (is_ticket_of key) tickets t x at (is_ticket-key key key x is ∙ eq-eqb key key refl)

counted-row : (rows : List (Option EndpointRow)) (k : ℕ) → 0 < tickets_at rows k → IsSome (value_at rows k)
counted-row rows k some = by (value_at rows k) some
  where
    by : (o : Option EndpointRow) → 0 < option_map_or (λ (r : EndpointRow). r.tickets) o 0 → IsSome o
    by None some = absurd (omega (arith, some))
    by (Some e) some = refl

-- the row of a ticket without an end is there
pub key-there : (rows : List (Option EndpointRow)) (tickets : List HostTicket) (t key : ℕ) (x : HostTicket) → Tied rows tickets → slice_get tickets t ≡ Some x → ticket_key x ≡ Some key → IsSome (value_at rows key)
key-there rows tickets t key x tied at is = counted-row rows key (omega (arith, tied key, one-counted tickets t key x at is))

-- it is counted there
pub counted-some : (rows : List (Option EndpointRow)) (tickets : List HostTicket) (t key : ℕ) (x : HostTicket) (e : EndpointRow) → Tied rows tickets → slice_get tickets t ≡ Some x → ticket_key x ≡ Some key → value_at rows key ≡ Some e → 0 < e.tickets
counted-some rows tickets t key x e tied at is there = omega (arith, counts-at rows tickets key e tied there, one-counted tickets t key x at is)

-- what the row of a key counts, when it is written
tickets-set_same : (rows : List (Option EndpointRow)) (key : ℕ) (e next : EndpointRow) → value_at rows key ≡ Some e → tickets_at (set rows key (Some next)) key ≡ next.tickets
tickets-set_same rows key e next there = ap (λ (o : Option EndpointRow). option_map_or (λ (r : EndpointRow). r.tickets) o 0) (value-set_same rows key e (Some next) there)

tickets-set_other : (rows : List (Option EndpointRow)) (key k : ℕ) (o : Option EndpointRow) → key ≢ k → tickets_at (set rows key o) k ≡ tickets_at rows k
tickets-set_other rows key k o apart = ap (λ (o : Option EndpointRow). option_map_or (λ (r : EndpointRow). r.tickets) o 0) (value-set_other rows key k o apart)

tickets-none : (rows : List (Option EndpointRow)) (key : ℕ) → tickets_at (set rows key None) key ≡ 0
tickets-none [] key = refl
tickets-none (r ∷ rs) zero = refl
tickets-none (r ∷ rs) (suc key) = tickets-none rs key

-- a ticket ends
pub Tied-end : (rows : List (Option EndpointRow)) (tickets : List HostTicket) (t key : ℕ) (x : HostTicket) (e : EndpointRow) (end : TicketEnd) → Tied rows tickets → slice_get tickets t ≡ Some x → ticket_key x ≡ Some key → value_at rows key ≡ Some e
    → Tied (set rows key (Some (record e { tickets = e.tickets - 1 }))) (set tickets t (Ended end))
Tied-end rows tickets t key x e end tied at is there = λ k.
    let within = slice_get_within tickets t x at in
    let next : EndpointRow = record e { tickets = e.tickets - 1 } in
    elim (cases_eq key k) [
      | inl same ↦
          let passes : is_ticket_of key x ≡ true = is_ticket-key key key x is ∙ eq-eqb key key refl in
          let less = count-less (is_ticket_of key) tickets t x (Ended end) within (read tickets t x at) passes refl in
          rw (sym same) (tickets-set_same rows key e next there ∙ omega (arith, counts-at rows tickets key e tied there, less))
      | inr apart ↦
          let other : is_ticket_of k x ≡ false = is_ticket-key k key x is ∙ ne_eqb key k apart in
          tickets-set_other rows key k (Some next) apart ∙ tied k ∙ sym (count-same (is_ticket_of k) tickets t x (Ended end) within (read tickets t x at) (sym other))
    ]

-- a ticket stays one of its endpoint
pub Tied-kept : (rows : List (Option EndpointRow)) (tickets : List HostTicket) (t key : ℕ) (x y : HostTicket) → Tied rows tickets → slice_get tickets t ≡ Some x → ticket_key x ≡ Some key → ticket_key y ≡ Some key → Tied rows (set tickets t y)
Tied-kept rows tickets t key x y tied at is also = λ k.
    tied k ∙ sym (count-same (is_ticket_of k) tickets t x y (slice_get_within tickets t x at) (read tickets t x at) (is_ticket-same k x y key is also))

-- a ticket comes to an endpoint
pub Tied-add : (rows : List (Option EndpointRow)) (tickets : List HostTicket) (x : HostTicket) (key : ℕ) (e next : EndpointRow) → Tied rows tickets → ticket_key x ≡ Some key → value_at rows key ≡ Some e → next.tickets ≡ e.tickets + 1 → Tied (set rows key (Some next)) (tickets ++ x ∷ [])
Tied-add rows tickets x key e next tied is there more = λ k.
    elim (cases_eq key k) [
      | inl same ↦
          let new : one_if (is_ticket_of key x) ≡ 1 = ap one_if (is_ticket-key key key x is ∙ eq-eqb key key refl) in
          rw (sym same) (tickets-set_same rows key e next there ∙ omega (arith, counts-at rows tickets key e tied there, count-push (is_ticket_of key) tickets x, new, more))
      | inr apart ↦
          let new : one_if (is_ticket_of k x) ≡ 0 = ap one_if (is_ticket-key k key x is ∙ ne_eqb key k apart) in
          tickets-set_other rows key k (Some next) apart ∙ omega (arith, tied k, count-push (is_ticket_of k) tickets x, new)
    ]

-- the handle of an endpoint is closed
pub Tied-row : (rows : List (Option EndpointRow)) (tickets : List HostTicket) (key : ℕ) (e next : EndpointRow) → Tied rows tickets → value_at rows key ≡ Some e → next.tickets ≡ e.tickets → Tied (set rows key (Some next)) tickets
Tied-row rows tickets key e next tied there same = λ k.
    elim (cases_eq key k) [
      | inl is ↦ rw (sym is) (tickets-set_same rows key e next there ∙ same ∙ counts-at rows tickets key e tied there)
      | inr apart ↦ tickets-set_other rows key k (Some next) apart ∙ tied k
    ]

or-none : (b : Bool) (n : ℕ) → (b || nat_lt 0 n) ≡ false → n ≡ 0
or-none true n is = absurd (cc)
or-none false n is = grind (arith, common_steps)

-- a row that lives no more has no ticket, and goes
pub Tied-left : (rows : List (Option EndpointRow)) (tickets : List HostTicket) (key : ℕ) → Tied rows tickets → Tied (rows_left rows key) tickets
unfolding rows_left
Tied-left rows tickets key tied = by (value_at rows key) refl
  where
    taken : tickets_at rows key ≡ 0 → Tied (set rows key None) tickets
    taken none = λ k.
        elim (cases_eq key k) [
          | inl is ↦ rw (sym is) (tickets-none rows key ∙ sym none ∙ tied key)
          | inr apart ↦ tickets-set_other rows key k None apart ∙ tied k
        ]

    by : (o : Option EndpointRow) → value_at rows key ≡ o → Tied (cond (option_map_or is_alive o false) rows (set rows key None)) tickets
    by None at = taken (ap (λ (o : Option EndpointRow). option_map_or (λ (r : EndpointRow). r.tickets) o 0) at)
    by (Some e) at =
        elim (cases_Bool (is_alive e)) [
          | inl lives_ ↦ rw lives_ tied
          | inr dead ↦ rw dead (taken (ap (λ (o : Option EndpointRow). option_map_or (λ (r : EndpointRow). r.tickets) o 0) at ∙ or-none e.is_open e.tickets dead))
        ]

-- an endpoint that is new has no ticket
pub Tied-open : (rows : List (Option EndpointRow)) (tickets : List HostTicket) (e : EndpointRow) → Tied rows tickets → e.tickets ≡ 0 → Tied (rows ++ Some e ∷ []) tickets
Tied-open rows tickets e tied none = λ k.
    elim (cases_eq k (length rows)) [
      | inl same ↦
          let new : value_at (rows ++ Some e ∷ []) k ≡ Some e = ap (value_at (rows ++ Some e ∷ [])) same ∙ value-last rows (Some e) in
          let old : value_at rows k ≡ None = value-past rows k (omega (arith, same)) in
          let counted : option_map_or (λ (r : EndpointRow). r.tickets) (value_at (rows ++ Some e ∷ []) k) 0 ≡ e.tickets = ap (λ (o : Option EndpointRow). option_map_or (λ (r : EndpointRow). r.tickets) o 0) new in
          let before : option_map_or (λ (r : EndpointRow). r.tickets) (value_at rows k) 0 ≡ 0 = ap (λ (o : Option EndpointRow). option_map_or (λ (r : EndpointRow). r.tickets) o 0) old in
          counted ∙ none ∙ sym before ∙ tied k
      | inr apart ↦ ap (λ (o : Option EndpointRow). option_map_or (λ (r : EndpointRow). r.tickets) o 0) (value-pushed rows (Some e) k apart) ∙ tied k
    ]

abbrev ended : ClaimedInterface → EndedClaim
ended c = record { device = c.device; number = c.number; reattach = c.reattach }

-- the interface of an endpoint is that of its row
pub interface-row : (rows : List (Option EndpointRow)) (k : ℕ) → interface_at (map (option_map endpoint_of) rows) k ≡ interface_of_row rows k
interface-row rows k = rw (value-map endpoint_of rows k) (by (value_at rows k))
  where
    by : (o : Option EndpointRow) → option_and_then (λ (e : HostEndpoint). e.interface) (option_map endpoint_of o) ≡ option_and_then row_interface o
    by None = refl
    by (Some e) = refl

-- a row that is written keeps its interface
pub interface-set : (rows : List (Option EndpointRow)) (k : ℕ) (e next : EndpointRow) → value_at rows k ≡ Some e → next.interface ≡ e.interface → interface_of_row (set rows k (Some next)) k ≡ interface_of_row rows k
interface-set rows k e next at same = ap (option_and_then row_interface) (value-set_same rows k e (Some next) at) ∙ ap (option_map (λ (key : Key). key.serial)) same ∙ sym (ap (option_and_then row_interface) at)

-- what the rows count is what the tickets say
module _ (rows : List (Option EndpointRow)) (tickets : List HostTicket) (tied : Tied rows tickets) where
  pub lives-row : (k : ℕ) (e : EndpointRow) → value_at rows k ≡ Some e → lives tickets (k, endpoint_of e) ≡ is_alive e
  lives-row k e at = ap (λ b. e.is_open || b) (any-count (is_ticket_of k) tickets ∙ ap (nat_lt 0) (sym (counts-at rows tickets k e tied at)))

  pub lives_on-row : (i k : ℕ) (e : EndpointRow) → value_at rows k ≡ Some e → lives_on tickets i (k, endpoint_of e) ≡ is_alive_on i (Some e)
  lives_on-row i k e at = ap (λ b. is_of i (row_interface e) && b) (lives-row k e at)

  uses-row : (i address k : ℕ) (e : EndpointRow) → value_at rows k ≡ Some e → uses_bit tickets i address (k, endpoint_of e) ≡ uses_row i address (Some e)
  uses-row i address k e at = ap (λ b. b && shares_bit e.address address) (lives_on-row i k e at)

  zero_more : (k : ℕ) → 0 + k ≡ k
  zero_more k = omega arith

  pub any-rows : (p : ℕ × HostEndpoint → Bool) (q : Option EndpointRow → Bool) → q None ≡ false → ((k : ℕ) (e : EndpointRow) → value_at rows k ≡ Some e → p (k, endpoint_of e) ≡ q (Some e)) → list_any (if_there p) (enumerate_from 0 (map (option_map endpoint_of) rows)) ≡ list_any q rows
  any-rows p q none each = any-enumerated (option_map endpoint_of) (if_there p) q 0 rows (λ k o at. rw (zero_more k) (by k o at))
    where
      by : (k : ℕ) (o : Option EndpointRow) → slice_get rows k ≡ Some o → if_there p (k, option_map endpoint_of o) ≡ q o
      by k None at = sym none
      by k (Some e) at = each k e (ap (option_and_then (λ (o : Option EndpointRow). o)) at)

  pub is_used-rows : (i address : ℕ) → is_used_among tickets (map (option_map endpoint_of) rows) i address ≡ list_any (uses_row i address) rows
  unfolding is_used_among
  is_used-rows i address = any-rows (uses_bit tickets i address) (uses_row i address) refl (uses-row i address)

  pub is_owned-rows : (i : ℕ) (c : ClaimedInterface) → is_owned_among tickets (map (option_map endpoint_of) rows) i c ≡ is_counted rows i c
  unfolding is_owned_among
  is_owned-rows i c = ap (λ b. nat_lt 0 c.handles || b) (any-rows (lives_on tickets i) (is_alive_on i) refl (lives_on-row i) ∙ any-count (is_alive_on i) rows)

  pub claim_ended-rows : (interfaces : List (Option ClaimedInterface)) (i : ℕ) → claim_ended interfaces tickets (map (option_map endpoint_of) rows) i ≡ claim_gone interfaces rows i
  unfolding claim_ended claim_gone
  claim_ended-rows interfaces i = by (value_at interfaces i)
    where
      by : (o : Option ClaimedInterface) → option_and_then (λ (c : ClaimedInterface). cond (is_owned_among tickets (map (option_map endpoint_of) rows) i c) None (Some (ended c))) o ≡ option_and_then (λ (c : ClaimedInterface). cond (is_counted rows i c) None (Some (ended c))) o
      by None = refl
      by (Some c) = rw (is_owned-rows i c) refl

  pub claim_of-rows : (interfaces : List (Option ClaimedInterface)) (k : ℕ) → claim_of interfaces tickets (map (option_map endpoint_of) rows) k ≡ row_gone interfaces rows k
  unfolding claim_of row_gone
  claim_of-rows interfaces k = rw (interface-row rows k) (at (interface_of_row rows k))
    where
      at : (o : Option ℕ) → option_and_then (claim_ended interfaces tickets (map (option_map endpoint_of) rows)) o ≡ option_and_then (claim_gone interfaces rows) o
      at None = refl
      at (Some i) = claim_ended-rows interfaces i

  -- an endpoint stays where its row does
  pub left-rows : (k : ℕ) → endpoints_left tickets (map (option_map endpoint_of) rows) k ≡ map (option_map endpoint_of) (rows_left rows k)
  unfolding endpoints_left rows_left
  left-rows k = rw (value-map endpoint_of rows k) (by (value_at rows k) refl)
    where
      by : (o : Option EndpointRow) → value_at rows k ≡ o → cond (if_there (lives tickets) (k, option_map endpoint_of o)) (map (option_map endpoint_of) rows) (set (map (option_map endpoint_of) rows) k None) ≡ map (option_map endpoint_of) (cond (option_map_or is_alive o false) rows (set rows k None))
      by None at = sym (map-set (option_map endpoint_of) rows k None)
      by (Some e) at =
          elim (cases_Bool (is_alive e)) [
            | inl yes_ ↦ rw (lives-row k e at, yes_) refl
            | inr no_ ↦ rw (lives-row k e at, no_) (sym (map-set (option_map endpoint_of) rows k None))
          ]

-- one that is opened next has no ticket yet
pub none-next : (rows : List (Option EndpointRow)) (tickets : List HostTicket) → Tied rows tickets → count_by (is_ticket_of (length (map (option_map endpoint_of) rows))) tickets ≡ 0
none-next rows tickets tied =
    let n : length (map (option_map endpoint_of) rows) ≡ length rows = length-map rows (option_map endpoint_of) in
    rw n (sym (tied (length rows)) ∙ ap (λ (o : Option EndpointRow). option_map_or (λ (r : EndpointRow). r.tickets) o 0) (value-past rows (length rows) (omega arith)))

-- the last one is taken back, which has none
pub Tied-taken_back : (rows : List (Option EndpointRow)) (tickets : List HostTicket) → 0 < length rows → Tied rows tickets → count_by (is_ticket_of (length rows - 1)) tickets ≡ 0 → Tied (take (length rows - 1) rows) tickets
Tied-taken_back rows tickets some tied none =
    let r = last-of rows some in
    by r.0 r.1 r.2
  where
    by : (xs : List (Option EndpointRow)) (x : Option EndpointRow) → rows ≡ xs ++ x ∷ [] → Tied (take (length rows - 1) rows) tickets
    by xs x is = λ k.
        let others : take (length rows - 1) rows ≡ xs = ap (λ ys. take (length ys - 1) ys) is ∙ take-others xs x in
        let n : length rows - 1 ≡ length xs = omega (arith, ap length is, length-append xs (x ∷ [])) in
        ap (λ ys. tickets_at ys k) others
        ∙ elim (cases_eq k (length xs)) [
          | inl same ↦ ap (λ (o : Option EndpointRow). option_map_or (λ (r : EndpointRow). r.tickets) o 0) (value-past xs k (omega (arith, same))) ∙ (sym none ∙ ap (λ j. count_by (is_ticket_of j) tickets) (n ∙ sym same))
          | inr apart ↦ ap (λ (o : Option EndpointRow). option_map_or (λ (r : EndpointRow). r.tickets) o 0) (sym (value-pushed xs x k apart)) ∙ (ap (λ ys. tickets_at ys k) (sym is) ∙ tied k)
        ]

pub endpoint-at : (rows : List (Option EndpointRow)) (k : ℕ) (e : EndpointRow) → value_at rows k ≡ Some e → value_at (map (option_map endpoint_of) rows) k ≡ Some (endpoint_of e)
endpoint-at rows k e at = value-map endpoint_of rows k ∙ ap (option_map endpoint_of) at

-- the row of an endpoint that is there
pub row-there : (rows : List (Option EndpointRow)) (k : ℕ) → IsSome (value_at (map (option_map endpoint_of) rows) k) → IsSome (value_at rows k)
row-there rows k there = by (value_at rows k) (subst IsSome (value-map endpoint_of rows k) there)
  where
    by : (o : Option EndpointRow) → IsSome (option_map endpoint_of o) → IsSome o
    by None some = some
    by (Some e) some = refl

-- the endpoints without the last
pub endpoints-others : (rows : List (Option EndpointRow)) → map (option_map endpoint_of) (take (length rows - 1) rows) ≡ take (length (map (option_map endpoint_of) rows) - 1) (map (option_map endpoint_of) rows)
endpoints-others rows = rw (length-map rows (option_map endpoint_of)) (sym (take-map (option_map endpoint_of) (length rows - 1) rows))

-- an endpoint is the same with another count
pub endpoints-kept : (rows : List (Option EndpointRow)) (k : ℕ) (e next : EndpointRow) → value_at rows k ≡ Some e → endpoint_of next ≡ endpoint_of e → map (option_map endpoint_of) (set rows k (Some next)) ≡ map (option_map endpoint_of) rows
endpoints-kept rows k e next at same =
    map-set (option_map endpoint_of) rows k (Some next)
    ∙ ap (λ (s : HostEndpoint). set (map (option_map endpoint_of) rows) k (Some s)) same
    ∙ set-value_same (map (option_map endpoint_of) rows) k (endpoint_of e) (endpoint-at rows k e at)

-- the ticket of a slot
pub ticket-at : (slots : List TicketState) (t : ℕ) (s : TicketState) → slice_get slots t ≡ Some s → slice_get (map host_ticket slots) t ≡ Some (host_ticket s)
ticket-at slots t s at = slice_get-map host_ticket slots t ∙ ap (option_map host_ticket) at

-- a result is one or the other
pub either : {A E G : Type 0} (r : Result A E) (P Q : Type 0) → OnOk r P → OnErr r Q → (P → G) → (Q → G) → G
either (Ok a) P Q ok err f g = f ok
either (Err e) P Q ok err f g = g err

-- a slot when its completion comes
pub given-with : (done : Done) (s : TicketState) → is_given_up s ≡ true → slot_with done s ≡ slot.Ended Reclaimed
given-with done (slot.HeldBy k transfer) is = absurd (cc)
given-with done (slot.Abandoned k) is = refl
given-with done (slot.Ended end) is = absurd (cc)

pub kept-with : (done : Done) (s : TicketState) → is_given_up s ≡ false → slot_with done s ≡ slot_kept done s
kept-with done (slot.HeldBy k transfer) is = refl
kept-with done (slot.Abandoned k) is = absurd (cc)
kept-with done (slot.Ended end) is = refl

pub kept-key : (s : TicketState) → is_given_up s ≡ false → abandoned_key s ≡ None
kept-key (slot.HeldBy k transfer) is = refl
kept-key (slot.Abandoned k) is = absurd (cc)
kept-key (slot.Ended end) is = refl

pub kept-ticket : (done : Done) (s : TicketState) → host_ticket (slot_kept done s) ≡ host_ticket s
kept-ticket done (slot.HeldBy k transfer) = refl
kept-ticket done (slot.Abandoned k) = refl
kept-ticket done (slot.Ended end) = refl

pub tickets-same : (slots : List TicketState) (t : ℕ) (s next : TicketState) → slice_get slots t ≡ Some s → host_ticket next ≡ host_ticket s → map host_ticket (set slots t next) ≡ map host_ticket slots
tickets-same [] t s next at same = refl
tickets-same (x ∷ xs) zero s next at same = ap (λ (y : HostTicket). y ∷ map host_ticket xs) (same ∙ ap host_ticket (sym (same_Some x s at)))
tickets-same (x ∷ xs) (suc t) s next at same = ap (λ (ys : List HostTicket). host_ticket x ∷ ys) (tickets-same xs t s next at same)
