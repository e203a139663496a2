use Rattle.std.proofs.Common.{◌≡◌, ℕ, ◌-◌, ◌<◌, ◌++◌, ◌∷◌, [], List, Option, None, Some, set, length, subst, sym, ap, ◌∙◌, arith}
use Rattle.std.specs.Prelude.{IsSome, vec_len}
use Rattle.std.specs.Option.{option_to_list}
use Rattle.std.proofs.lemmas.List.{length-set}
use Rattle.usb_device_tables.specs.Entries.{find_serial, history, IsPlaced}
use Rattle.usb_device_tables.proofs.SerialLemmas.{length-below}
use Rattle.usb_device_tables.proofs.PlaceLemmas.{placed-taken_back, history-taken_back}
use Rattle.usb_device_tables.proofs.serial_map.SerialMap.take_back.Goals as goal

popped : (old new : List ℕ) (place : Option ℕ) → old ≡ new ++ option_to_list place → IsSome place → (p : ℕ) × (old ≡ new ++ p ∷ [])
popped old new None items some = absurd (cc)
popped old new (Some place) items some = (place, items)

pub invariant_of-self : goal.invariant_of-self
invariant_of-self g c =
    let before = c.args.self.now in
    let slots = c.self-2.inside.entries.slots in
    let places = c.self-2.inside.places.items in
    let last : c.len-serial.result - 1 ≡ length before - 1 = omega (arith, c.len-serial.ensures, c.self.inside.places.ok.0, length-below (find_serial c.self.inside.entries.slots) (length c.self.inside.places.items), ap length c.self.view_is) in
    let kept = c.self-2.view_is ∙ c.remove.ensures.rest ∙ ap (λ n. set before n None) last in
    let some : 0 < vec_len c.self-2.inside.places = omega (arith, c.requires.some, c.self-2.inside.places.ok.0, length-below (find_serial slots) (length places), ap length kept, length-set before (length before - 1) None) in
    let p = popped places c.pop.new.self.items c.pop.result c.pop.ensures.items (c.pop.ensures.variant.1 some) in
    placed-taken_back slots c.pop.new.self.items p.0 before (subst (IsPlaced slots) p.1 c.self-2.invariant) (ap (λ xs. history slots (length xs)) (sym p.1) ∙ kept)

pub returns : goal.returns
returns g c =
    let before = c.args.self.now in
    let slots = c.self-2.inside.entries.slots in
    let places = c.self-2.inside.places.items in
    let last : c.len-serial.result - 1 ≡ length before - 1 = omega (arith, c.len-serial.ensures, c.self.inside.places.ok.0, length-below (find_serial c.self.inside.entries.slots) (length c.self.inside.places.items), ap length c.self.view_is) in
    let kept = c.self-2.view_is ∙ c.remove.ensures.rest ∙ ap (λ n. set before n None) last in
    let some : 0 < vec_len c.self-2.inside.places = omega (arith, c.requires.some, c.self-2.inside.places.ok.0, length-below (find_serial slots) (length places), ap length kept, length-set before (length before - 1) None) in
    let p = popped places c.pop.new.self.items c.pop.result c.pop.ensures.items (c.pop.ensures.variant.1 some) in
    record { rest = history-taken_back slots c.pop.new.self.items p.0 before (subst (IsPlaced slots) p.1 c.self-2.invariant) (ap (λ xs. history slots (length xs)) (sym p.1) ∙ kept) }
