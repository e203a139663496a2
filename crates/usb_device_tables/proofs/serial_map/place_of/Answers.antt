use Rattle.std.proofs.Common.{rules, ◌≡◌, slice_get, Option, Some, None, sym, ap, ◌∙◌}
use Rattle.std.specs.Prelude.{IfNone}
use Rattle.std.proofs.lemmas.Option.{none-some, same_Some, slice_get_past, slice_get_read}
use Rattle.usb_device_tables.specs.declared.entry.Entry.{Entry}
use Rattle.usb_device_tables.proofs.PlaceLemmas.{listed, entry-listed}
use Rattle.usb_device_tables.proofs.serial_map.place_of.Goals as goal

if_none : {A : Type 0} (r : Option A) (P : Type 0) → P → IfNone r P
if_none None P p = p
if_none (Some x) P p = tt

pub returns-in_err-place-clause-absent : goal.returns-in_err-place-clause-absent
returns-in_err-place-clause-absent g c =
    let none : slice_get c.args.places.now c.args.serial ≡ None = search (rules, slice_get_past) in
    if_none c.from_residual.result _ (λ place h. none-some place (sym none ∙ listed c.args.entries.now.slots c.args.places.now c.args.serial place c.requires.placed h))

pub returns-in_err-entry-clause-absent : goal.returns-in_err-entry-clause-absent
returns-in_err-entry-clause-absent g c =
    let place : slice_get c.args.places.now c.args.serial ≡ Some c.in_ok-place.field-0.now = search (rules, slice_get_read) in
    if_none c.from_residual-in_err-entry.result _ (λ at h. none-some h.entry (c.in_err-entry.ensures ∙ entry-listed c.args.entries.now c.args.places.now c.args.serial c.in_ok-place.field-0.now c.requires.placed place at h))

pub returns-then-entry-serial-clause-found : goal.returns-then-entry-serial-clause-found
returns-then-entry-serial-clause-found g c = record { entry = c.in_ok-entry.entry.now; at = sym c.in_ok-entry.ensures; serial_is = c.if-entry-serial.true }

pub returns-else-entry-serial-clause-absent : goal.returns-else-entry-serial-clause-absent
returns-else-entry-serial-clause-absent g c = λ at h.
    let place : slice_get c.args.places.now c.args.serial ≡ Some c.in_ok-place.field-0.now = search (rules, slice_get_read) in
    let same = same_Some c.in_ok-entry.entry.now h.entry (c.in_ok-entry.ensures ∙ entry-listed c.args.entries.now c.args.places.now c.args.serial c.in_ok-place.field-0.now c.requires.placed place at h) in
    c.if-entry-serial.false (ap (λ (e : Entry _). e.serial) same ∙ h.serial_is)
