use Rattle.std.proofs.Common.{◌≡◌, ℕ, Bool, List, Option, Some, None, true, false, set, map, refl, sym, ap, ◌∙◌}
use Rattle.std.specs.Prelude.{option_and_then}
use Rattle.std.specs.Option.{option_map}
use Rattle.std.proofs.lemmas.Option.{none-some}
use Rattle.usb_device_tables.specs.History.{RegistryState, value_at}
use Rattle.usb_device_tables.specs.declared.registry.Key.{Key}
use Rattle.usb_device_tables.proofs.ValueLemmas.{some-of, value-set_same, set-set}
use Rattle.usb_device_ledger.specs.declared.owners.Claim.{Claim}
use Rattle.usb_device_ledger.specs.declared.owners.EndpointRow.{EndpointRow}
use Rattle.usb_device_ledger.specs.Releases.{without_claim}
use Rattle.usb_device_ledger.specs.OwnerRows.{OwnersState, AreAlive, CountsOf, row_interface, interface_of_row, claim_state, claim_if, is_alive}
use Rattle.usb_device_ledger.proofs.OwnerLemmas.{Like, CountsOf-dropped, CountsOf-taken, alive-put, alive-taken, rows_left-alive, rows_left-dead, row_gone-control, CountsOf-kept, CountsOf-gone, CountsOf-ended, owned-ended, some-living, lost-living, placed-e, with_row-at, row_gone-alive, row_gone-dead, state-at, states-kept, states-without}
use Rattle.usb_device_ledger.proofs.owners.Owners.change.Goals as goal

-- the row of an endpoint that is open or not, and has this many tickets without an end
abbrev changed : EndpointRow → Bool → ℕ → EndpointRow
changed e o n = record e { is_open = o; tickets = n }

-- a row as it was, and as it is written
record Row (rows : List (Option EndpointRow)) (key : ℕ) (e next : EndpointRow) : Type 0 where
  at : value_at rows key ≡ Some e
  was : is_alive e ≡ true
  like : Like e next
  written : value_at (set rows key (Some next)) key ≡ Some next

row : (rows : List (Option EndpointRow)) (key : ℕ) (e : EndpointRow) (o : Bool) (n : ℕ) → AreAlive rows → value_at rows key ≡ Some e → Row rows key e (changed e o n)
row rows key e o n alive at =
    record { at = at; was = alive key e at; like = record { interface = refl; address = refl }; written = value-set_same rows key e (Some (changed e o n)) at }

-- the key of its interface
on_interface : {i : Option Key} {key : Key} → i ≡ Some key → option_map (λ (k : Key). k.serial) i ≡ Some key.serial
on_interface is = ap (option_map (λ (k : Key). k.serial)) is

pub invariant_of-self : goal.invariant_of-self
invariant_of-self c =
    let rows = c.self.inside.rows in
    let key = c.args.key in
    let e = c.row-row.result in
    let next = changed e c.args.is_open c.args.tickets in
    let r = row rows key e c.args.is_open c.args.tickets c.self.invariant.alive (ap (λ (s : OwnersState). value_at s.rows key) c.self.view_is ∙ c.row-row.ensures.row) in
    let lives_ : is_alive next ≡ true = sym c.is_alive.ensures.alive ∙ c.if-is_alive.true in
    record {
      counts = rw c.replace.ensures.replaced (CountsOf-kept c.self.inside.claims.values rows key e next c.self.invariant.counts r.at r.was r.like lives_);
      owned = c.self.invariant.owned;
      alive = rw c.replace.ensures.replaced (alive-put rows key next c.self.invariant.alive lives_);
    }

pub returns-then-is_alive-clause-rows : goal.returns-then-is_alive-clause-rows
returns-then-is_alive-clause-rows c =
    let rows = c.self.inside.rows in
    let key = c.args.key in
    let e = c.row-row.result in
    let next = changed e c.args.is_open c.args.tickets in
    let r = row rows key e c.args.is_open c.args.tickets c.self.invariant.alive (ap (λ (s : OwnersState). value_at s.rows key) c.self.view_is ∙ c.row-row.ensures.row) in
    let left = rows_left-alive (set rows key (Some next)) key next r.written (sym c.is_alive.ensures.alive ∙ c.if-is_alive.true) in
    rw (← c.self.view_is) (rw (c.replace.ensures.replaced, with_row-at rows key e c.args.is_open c.args.tickets r.at, left) refl)

pub returns-then-is_alive-clause-gone : goal.returns-then-is_alive-clause-gone
returns-then-is_alive-clause-gone c =
    let rows = c.self.inside.rows in
    let key = c.args.key in
    let e = c.row-row.result in
    let next = changed e c.args.is_open c.args.tickets in
    let r = row rows key e c.args.is_open c.args.tickets c.self.invariant.alive (ap (λ (s : OwnersState). value_at s.rows key) c.self.view_is ∙ c.row-row.ensures.row) in
    let gone = row_gone-alive (map (option_map claim_state) c.self.inside.claims.values) (set rows key (Some next)) key next r.written (sym c.is_alive.ensures.alive ∙ c.if-is_alive.true) in
    rw (← c.self.view_is) (rw (with_row-at rows key e c.args.is_open c.args.tickets r.at) (sym gone))

-- a control endpoint, which has no interface
pub invariant_of-self-in_default : goal.invariant_of-self-in_default
invariant_of-self-in_default c =
    let rows = c.self.inside.rows in
    let key = c.args.key in
    let e = c.row-row.result in
    let next = changed e c.args.is_open c.args.tickets in
    let r = row rows key e c.args.is_open c.args.tickets c.self.invariant.alive (ap (λ (s : OwnersState). value_at s.rows key) c.self.view_is ∙ c.row-row.ensures.row) in
    let dropped = CountsOf-dropped c.self.inside.claims.values rows key e next c.self.invariant.counts r.at r.was r.like (ap (option_map (λ (k : Key). k.serial)) c.in_default.is) in
    record {
      counts = rw (c.remove.ensures.rest ∙ sym (set-set rows key (Some next) None)) (CountsOf-taken c.self.inside.claims.values (set rows key (Some next)) key next dropped r.written (sym c.is_alive.ensures.alive ∙ c.if-is_alive.false));
      owned = c.self.invariant.owned;
      alive = rw c.remove.ensures.rest (alive-taken rows key c.self.invariant.alive);
    }

pub returns-in_default-clause-rows : goal.returns-in_default-clause-rows
returns-in_default-clause-rows c =
    let rows = c.self.inside.rows in
    let key = c.args.key in
    let e = c.row-row.result in
    let next = changed e c.args.is_open c.args.tickets in
    let r = row rows key e c.args.is_open c.args.tickets c.self.invariant.alive (ap (λ (s : OwnersState). value_at s.rows key) c.self.view_is ∙ c.row-row.ensures.row) in
    let left = rows_left-dead (set rows key (Some next)) key next r.written (sym c.is_alive.ensures.alive ∙ c.if-is_alive.false) in
    rw (← c.self.view_is) (rw (c.remove.ensures.rest ∙ sym (set-set rows key (Some next) None), with_row-at rows key e c.args.is_open c.args.tickets r.at, left) refl)

pub returns-in_default-clause-gone : goal.returns-in_default-clause-gone
returns-in_default-clause-gone c =
    let rows = c.self.inside.rows in
    let key = c.args.key in
    let e = c.row-row.result in
    let next = changed e c.args.is_open c.args.tickets in
    let r = row rows key e c.args.is_open c.args.tickets c.self.invariant.alive (ap (λ (s : OwnersState). value_at s.rows key) c.self.view_is ∙ c.row-row.ensures.row) in
    let gone = row_gone-control (map (option_map claim_state) c.self.inside.claims.values) (set rows key (Some next)) key next r.written (ap (option_map (λ (k : Key). k.serial)) c.in_default.is) in
    rw (← c.self.view_is) (rw (with_row-at rows key e c.args.is_open c.args.tickets r.at) (sym gone))

-- the interface of an endpoint that lives is there
there : {A : Type 0} (claims : List (Option Claim)) (rows : List (Option EndpointRow)) (key : ℕ) (e next : EndpointRow) (i : ℕ) → CountsOf claims rows → Row rows key e next → row_interface e ≡ Some i → value_at claims i ≡ None → A
there claims rows key e next i counts r on none =
    let some = some-of (value_at claims i) (placed-e claims rows key e next counts r.at r.was r.like i on) in
    absurd (none-some some.0 (sym none ∙ some.1))

pub invariant_of-self-in_default-get_mut : goal.invariant_of-self-in_default-get_mut
invariant_of-self-in_default-get_mut c =
    let rows = c.self.inside.rows in
    let key = c.args.key in
    let e = c.row-row.result in
    let next = changed e c.args.is_open c.args.tickets in
    let r = row rows key e c.args.is_open c.args.tickets c.self.invariant.alive (ap (λ (s : OwnersState). value_at s.rows key) c.self.view_is ∙ c.row-row.ensures.row) in
    there c.self.inside.claims.values rows key e next c.in-Some.interface.serial c.self.invariant.counts r (on_interface c.in-Some.is) (sym c.in_default-get_mut.ensures.value)

pub returns-in_default-get_mut-clause-rows : goal.returns-in_default-get_mut-clause-rows
returns-in_default-get_mut-clause-rows c =
    let rows = c.self.inside.rows in
    let key = c.args.key in
    let e = c.row-row.result in
    let next = changed e c.args.is_open c.args.tickets in
    let r = row rows key e c.args.is_open c.args.tickets c.self.invariant.alive (ap (λ (s : OwnersState). value_at s.rows key) c.self.view_is ∙ c.row-row.ensures.row) in
    there c.self.inside.claims.values rows key e next c.in-Some.interface.serial c.self.invariant.counts r (on_interface c.in-Some.is) (sym c.in_default-get_mut.ensures.value)

pub returns-in_default-get_mut-clause-gone : goal.returns-in_default-get_mut-clause-gone
returns-in_default-get_mut-clause-gone c =
    let rows = c.self.inside.rows in
    let key = c.args.key in
    let e = c.row-row.result in
    let next = changed e c.args.is_open c.args.tickets in
    let r = row rows key e c.args.is_open c.args.tickets c.self.invariant.alive (ap (λ (s : OwnersState). value_at s.rows key) c.self.view_is ∙ c.row-row.ensures.row) in
    there c.self.inside.claims.values rows key e next c.in-Some.interface.serial c.self.invariant.counts r (on_interface c.in-Some.is) (sym c.in_default-get_mut.ensures.value)

pub lose-requires : goal.lose-requires
lose-requires c =
    let rows = c.self.inside.rows in
    let key = c.args.key in
    let e = c.row-row.result in
    let next = changed e c.args.is_open c.args.tickets in
    let r = row rows key e c.args.is_open c.args.tickets c.self.invariant.alive (ap (λ (s : OwnersState). value_at s.rows key) c.self.view_is ∙ c.row-row.ensures.row) in
    record { some = some-living c.self.inside.claims.values rows key e next c.self.invariant.counts r.at r.was r.like c.in-Some.interface.serial (on_interface c.in-Some.is) c.in-Some-get_mut.claim.now (sym c.in-Some-get_mut.ensures.value) (sym c.is_alive.ensures.alive ∙ c.if-is_alive.false) }

pub invariant_of-self-2 : goal.invariant_of-self-2
invariant_of-self-2 c =
    let rows = c.self.inside.rows in
    let key = c.args.key in
    let e = c.row-row.result in
    let next = changed e c.args.is_open c.args.tickets in
    let r = row rows key e c.args.is_open c.args.tickets c.self.invariant.alive (ap (λ (s : OwnersState). value_at s.rows key) c.self.view_is ∙ c.row-row.ensures.row) in
    let claims = c.self.inside.claims.values in
    let i = c.in-Some.interface.serial in
    let claim = c.in-Some-get_mut.claim.now in
    let here : value_at claims i ≡ Some claim = sym c.in-Some-get_mut.ensures.value in
    let lost = c.lose.new.self in
    let put : value_at (set claims i (Some lost)) i ≡ Some lost = value-set_same claims i claim (Some lost) here in
    let ended : c.end_claim.result ≡ claim_if lost = c.end_claim.ensures.ended ∙ ap (option_and_then claim_if) put in
    let left : c.end_claim.new.claims.values ≡ without_claim (set claims i (Some lost)) (Some i) (claim_if lost) = ap (λ (r : RegistryState Claim). r.values) c.end_claim.ensures.gone ∙ ap (without_claim (set claims i (Some lost)) (Some i)) ended in
    let taken : c.remove.new.self ≡ set (set rows key (Some next)) key None = c.remove.ensures.rest ∙ sym (set-set rows key (Some next) None) in
    let dead : is_alive next ≡ false = sym c.is_alive.ensures.alive ∙ c.if-is_alive.false in
    let counts = CountsOf-gone claims rows key e next c.self.invariant.counts r.at r.was r.like i (on_interface c.in-Some.is) claim lost here (ap (λ (x : Claim). x.living) c.lose.ensures.rest) c.lose.ensures.bits dead in
    let fewer_rows = CountsOf-taken (set claims i (Some lost)) (set rows key (Some next)) key next counts r.written dead in
    record {
      counts = rw (left, taken) (CountsOf-ended (set claims i (Some lost)) (set (set rows key (Some next)) key None) i lost fewer_rows put);
      owned = rw left (owned-ended claims i lost c.self.invariant.owned);
      alive = rw c.remove.ensures.rest (alive-taken rows key c.self.invariant.alive);
    }

pub returns-clause-rows : goal.returns-clause-rows
returns-clause-rows c =
    let rows = c.self.inside.rows in
    let key = c.args.key in
    let e = c.row-row.result in
    let next = changed e c.args.is_open c.args.tickets in
    let r = row rows key e c.args.is_open c.args.tickets c.self.invariant.alive (ap (λ (s : OwnersState). value_at s.rows key) c.self.view_is ∙ c.row-row.ensures.row) in
    let claims = c.self.inside.claims.values in
    let i = c.in-Some.interface.serial in
    let claim = c.in-Some-get_mut.claim.now in
    let here : value_at claims i ≡ Some claim = sym c.in-Some-get_mut.ensures.value in
    let lost = c.lose.new.self in
    let kept : map (option_map claim_state) (set claims i (Some lost)) ≡ map (option_map claim_state) claims = states-kept claims i claim lost here (ap claim_state c.lose.ensures.rest) in
    let left : c.end_claim.new.claims.values ≡ without_claim (set claims i (Some lost)) (Some i) c.end_claim.result = ap (λ (r : RegistryState Claim). r.values) c.end_claim.ensures.gone in
    let room : c.end_claim.new.claims.capacity ≡ c.self.inside.claims.capacity = ap (λ (r : RegistryState Claim). r.capacity) c.end_claim.ensures.gone in
    let interface : interface_of_row rows key ≡ Some i = ap (option_and_then row_interface) r.at ∙ on_interface c.in-Some.is in
    let dead = rows_left-dead (set rows key (Some next)) key next r.written (sym c.is_alive.ensures.alive ∙ c.if-is_alive.false) in
    rw (← c.self.view_is) (rw (c.remove.ensures.rest ∙ sym (set-set rows key (Some next) None), with_row-at rows key e c.args.is_open c.args.tickets r.at, dead, left, room, states-without (set claims i (Some lost)) (Some i) c.end_claim.result, kept, interface) refl)

pub returns-clause-gone : goal.returns-clause-gone
returns-clause-gone c =
    let rows = c.self.inside.rows in
    let key = c.args.key in
    let e = c.row-row.result in
    let next = changed e c.args.is_open c.args.tickets in
    let r = row rows key e c.args.is_open c.args.tickets c.self.invariant.alive (ap (λ (s : OwnersState). value_at s.rows key) c.self.view_is ∙ c.row-row.ensures.row) in
    let claims = c.self.inside.claims.values in
    let i = c.in-Some.interface.serial in
    let claim = c.in-Some-get_mut.claim.now in
    let here : value_at claims i ≡ Some claim = sym c.in-Some-get_mut.ensures.value in
    let lost = c.lose.new.self in
    let put : value_at (set claims i (Some lost)) i ≡ Some lost = value-set_same claims i claim (Some lost) here in
    let ended : c.end_claim.result ≡ claim_if lost = c.end_claim.ensures.ended ∙ ap (option_and_then claim_if) put in
    let on = on_interface c.in-Some.is in
    let living = lost-living claims rows key e next c.self.invariant.counts r.at r.was r.like i on claim lost here (ap (λ (x : Claim). x.living) c.lose.ensures.rest) c.lose.ensures.bits (sym c.is_alive.ensures.alive ∙ c.if-is_alive.false) in
    let state : value_at (map (option_map claim_state) claims) i ≡ Some (claim_state lost) = state-at claims i claim here ∙ ap (λ s. Some s) (sym (ap claim_state c.lose.ensures.rest)) in
    let gone = row_gone-dead (map (option_map claim_state) claims) (set rows key (Some next)) key next i lost r.written on state living in
    rw (← c.self.view_is) (rw (with_row-at rows key e c.args.is_open c.args.tickets r.at) (ended ∙ sym gone))
