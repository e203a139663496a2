use Rattle.std.proofs.Common.{Some, set, sym, ap, ◌∙◌}
use Rattle.std.specs.Prelude.{Result, Ok, Err, IfOk, OnOk}
use Rattle.usb_device_tables.specs.History.{RegistryState, value_at}
use Rattle.usb_device_tables.proofs.EntryLemmas.{state, value-found, value-absent, sound-written, history-written}
use Rattle.usb_device_tables.proofs.registry.Registry.replace.Goals as goal

if_ok : {A E : Type 0} (P Q : A → Type 0) (r : Result A E) → ((x : A) → P x → Q x) → IfOk r P → IfOk r Q
if_ok P Q (Ok x) to p = to x p
if_ok P Q (Err e) to p = tt

on_ok : {A E : Type 0} (P : Type 0) (r : Result A E) → P → OnOk r P
on_ok P (Ok x) p = p
on_ok P (Err e) p = tt

pub invariant_of-self : goal.invariant_of-self
invariant_of-self g c =
    let h = c.in-Some.ensures.found in
    sound-written c.self.inside.entries c.write_at_place.new.entries c.in-Some.place c.self.inside.next c.args.key.serial c.args.value c.self.invariant h (c.write_at_place.ensures.updates h.entry h.at).1

pub returns-in-Some-clause-was : goal.returns-in-Some-clause-was
returns-in-Some-clause-was g c =
    let at = value-found c.self.inside.entries.slots c.self.inside.next c.args.key.serial c.in-Some.place c.self.invariant c.in-Some.ensures.found ∙ ap (λ (r : RegistryState _). value_at r.values c.args.key.serial) c.self.view_is in
    if_ok _ _ c.write_at_place.result (λ was there. sym at ∙ there) c.write_at_place.ensures.was

pub returns-in-Some-clause-ok : goal.returns-in-Some-clause-ok
returns-in-Some-clause-ok g c =
    let h = c.in-Some.ensures.found in
    let values = history-written c.self.inside.entries c.write_at_place.new.entries c.in-Some.place c.self.inside.next c.args.key.serial c.args.value c.self.invariant h (c.write_at_place.ensures.updates h.entry h.at).1 in
    let new = state values c.write_at_place.ensures.capacity ∙ ap (λ (r : RegistryState _). record r { values = set r.values c.args.key.serial (Some c.args.value) }) c.self.view_is in
    on_ok _ c.write_at_place.result new

pub returns-in-None-clause-gone : goal.returns-in-None-clause-gone
returns-in-None-clause-gone g c =
    ap (λ (r : RegistryState _). value_at r.values c.args.key.serial) (sym c.self.view_is) ∙ value-absent c.self.inside.entries.slots c.self.inside.next c.args.key.serial c.self.invariant c.in-None.ensures.absent
