use Rattle.std.proofs.Common.{◌≡◌, ◌+◌, ◌++◌, ◌∷◌, [], Some, length, subst, sym, ap, ◌∙◌, arith, length-append}
use Rattle.slab.specs.Slab.{Slab}
use Rattle.usb_device_tables.specs.declared.entry.Entry.{Entry}
use Rattle.usb_device_tables.specs.Entries.{find_serial, history, IsPlaced}
use Rattle.usb_device_tables.proofs.SerialLemmas.{length-below}
use Rattle.usb_device_tables.proofs.EntryLemmas.{history-inserted}
use Rattle.usb_device_tables.proofs.PlaceLemmas.{sound-placed, placed-inserted}
use Rattle.usb_device_tables.proofs.serial_map.SerialMap.insert.Goals as goal

pub invariant_of-self-2 : goal.invariant_of-self-2
invariant_of-self-2 g c =
    let slots = ap (λ (s : Slab (Entry _)). s.slots) c.reserve-2.ensures.rest_kept in
    let placed = subst (λ s. IsPlaced s c.reserve.new.self.items) (sym slots) (subst (IsPlaced c.self.inside.entries.slots) (sym c.reserve.ensures.items) c.self.invariant) in
    let next : c.len-serial.result ≡ length c.reserve.new.self.items = omega (arith, c.len-serial.ensures, c.reserve.new.self.ok.0) in
    subst (IsPlaced c.insert_reserved-place.new.self.slots) (sym c.push_reserved.ensures.items) (placed-inserted c.reserve-2.new.self c.insert_reserved-place.new.self c.reserve.new.self.items c.insert_reserved-place.result _ placed c.insert_reserved-place.ensures.updates next)

pub returns-clause-serial : goal.returns-clause-serial
returns-clause-serial g c =
    let number = length-below (find_serial c.self.inside.entries.slots) (length c.self.inside.places.items) in
    omega (arith, c.len-serial.ensures, c.reserve.new.self.ok.0, ap length c.reserve.ensures.items, number, ap length c.self.view_is)

pub returns-clause-ok : goal.returns-clause-ok
returns-clause-ok g c =
    let old = c.reserve-2.new.self in
    let new = c.insert_reserved-place.new.self in
    let places = c.reserve.new.self.items in
    let slots = ap (λ (s : Slab (Entry _)). s.slots) c.reserve-2.ensures.rest_kept in
    let placed = subst (λ s. IsPlaced s places) (sym slots) (subst (IsPlaced c.self.inside.entries.slots) (sym c.reserve.ensures.items) c.self.invariant) in
    let next : c.len-serial.result ≡ length places = omega (arith, c.len-serial.ensures, c.reserve.new.self.ok.0) in
    let more : length c.push_reserved.new.self.items ≡ length places + 1 = ap length c.push_reserved.ensures.items ∙ length-append places (c.insert_reserved-place.result ∷ []) in
    let sound = sound-placed old.slots places placed in
    let before = ap (λ s. history s (length places)) slots ∙ ap (λ xs. history c.self.inside.entries.slots (length xs)) c.reserve.ensures.items ∙ c.self.view_is in
    history-inserted old new c.insert_reserved-place.result (length places) (length c.push_reserved.new.self.items) _ sound c.insert_reserved-place.ensures.updates c.insert_reserved-place.ensures.was_vacant next (omega (arith, more)) ∙ ap (λ values. values ++ Some c.args.value ∷ []) before
