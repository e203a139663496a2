use Rattle.std.proofs.Common.{ℕ, Option, None, Some, set, length, refl, sym, ap, ◌∙◌}
use Rattle.std.specs.Prelude.{IsSome, IfNone}
use Rattle.usb_device_tables.specs.History.{value_at}
use Rattle.usb_device_tables.proofs.EntryLemmas.{some-none, value-absent, history-lent}
use Rattle.usb_device_tables.proofs.PlaceLemmas.{sound-placed}
use Rattle.usb_device_tables.proofs.serial_map.SerialMap.replace.Goals as goal

is-found : (place : Option ℕ) (Absent : Type 0) → IfNone place Absent → (Absent → ⊥) → IsSome place
is-found None Absent absent there = absurd (there absent)
is-found (Some place) Absent absent there = refl

pub unwrap-place-requires : goal.unwrap-place-requires
unwrap-place-requires g c =
    let slots = c.self.inside.entries.slots in
    let places = c.self.inside.places.items in
    let sound = sound-placed slots places c.self.invariant in
    is-found c.place_of.result _ c.place_of.ensures.absent (λ absent.
    some-none _ c.requires.there (ap (λ values. value_at values c.args.serial) (sym c.self.view_is) ∙ value-absent slots (length places) c.args.serial sound absent))

pub returns : goal.returns
returns g c =
    let slots = c.self.inside.entries.slots in
    let places = c.self.inside.places.items in
    let sound = sound-placed slots places c.self.invariant in
    let found = rw c.unwrap-place.ensures at c.place_of.ensures.found in
    record { replaced = history-lent c.self.inside.entries c.unwrap-place.result (length places) c.args.serial c.args.value sound found c.index_mut.result.now c.index_mut.ensures.value ∙ ap (λ values. set values c.args.serial (Some c.args.value)) c.self.view_is }
