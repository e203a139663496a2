-- What a registry ends as, where a `&mut` to one of its values is returned.
use Rattle.std.specs.Prelude.{ℕ, Option, Some, set}
use Rattle.std.specs.Borrow.{Lends, LendsIf, Fml, RattleType, MutBor}
use Rattle.usb_device_tables.specs.History.{RegistryState}
use Rattle.usb_device_tables.specs.contracts.registry.Registry.{the_row}

module _ (T : RattleType) (r : MutBor (RegistryState T.Denot)) (serial : ℕ) where
  -- another value has a serial number
  abbrev pub with_value : T.Denot → RegistryState T.Denot
  with_value v = record r.now { values = set r.now.values serial (Some v) }

  -- once the borrow ends, the serial number has the last value that was written through it
  abbrev pub lends_value : MutBor T.Denot → Fml
  lends_value x = Lends (the_row T) T r x with_value

  -- the same of an x that may be there; at `None` the registry stays as it is
  abbrev pub lends_get : Option (MutBor T.Denot) → Fml
  lends_get x = LendsIf (the_row T) T r x with_value r.now
