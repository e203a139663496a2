-- What a value at hand ends as, where a `&mut` to it is returned.
use Rattle.std.specs.Borrow.{Lends, MutBor, Fml, RattleType}
use Rattle.usb_xfer.specs.contracts.slots.Idle.{the_row}

-- the value is what was written last
abbrev pub LendsValue : (P : RattleType) → MutBor P.Denot → MutBor P.Denot → Fml
LendsValue P idle r = Lends (the_row P) P idle r (λ w. w)
