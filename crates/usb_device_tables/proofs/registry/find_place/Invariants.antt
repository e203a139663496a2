use Rattle.std.proofs.Common.{◌≡◌, ℕ, Some, Contains}
use Rattle.slab.specs.Slab.{get}
use Rattle.usb_device_tables.specs.declared.entry.Entry.{Entry}
use Rattle.usb_device_tables.proofs.registry.find_place.Given as goal

-- each entry with the serial number is among those that are left, and each that is left is one of the slab's
abbrev pub invariant-loop-place : goal.invariant-loop-place
invariant-loop-place g l =
    (goal.iterator-loop-place g).can_next l.place-iterator ×
    (goal.iterator-loop-place g).is_finite l.place-iterator ×
    ((place : ℕ) (e : Entry g.row.T.Denot) → get l.entries place ≡ Some e → e.serial ≡ l.key.serial → Contains l.place-iterator (place, e)) ×
    ((place : ℕ) (e : Entry g.row.T.Denot) → Contains l.place-iterator (place, e) → get l.entries place ≡ Some e)
