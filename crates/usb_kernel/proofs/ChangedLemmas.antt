-- Records of which one changes.
use Rattle.std.proofs.Common.{◌≡◌, ℕ, List, set, Some, None, slice_get, refl}
use Rattle.usb_kernel.specs.declared.record.Record.{Record}
use Rattle.usb_kernel.specs.Links.{changed}

pub changed-here : (f : Record → Record) (records : List Record) (t : ℕ) (r : Record) → slice_get records t ≡ Some r → changed f records (Some t) ≡ set records t (f r)
unfolding changed
changed-here f records t r at = rw at refl

pub changed-none : (f : Record → Record) (records : List Record) → changed f records None ≡ records
unfolding changed
changed-none f records = refl
