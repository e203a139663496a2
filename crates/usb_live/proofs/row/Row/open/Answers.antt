use Rattle.std.proofs.Common.{sym, subst, refl, ap, arith}
use Rattle.atomic_table.specs.Table.{Splits}
use Rattle.usb_live.specs.declared.view.View.{View}
use Rattle.usb_live.specs.Rows.{Rowed, owner_first, handler_first}
use Rattle.usb_live.proofs.Kept.{starts, splits}
use Rattle.usb_live.proofs.row.Row.open.Goals as goal

pub vacant-requires : goal.vacant-requires
vacant-requires c = starts _ refl

pub split_seat-handler-requires : goal.split_seat-handler-requires
split_seat-handler-requires c = let e = c.in_ok-table.ensures in (
  e.2,
  omega (arith, e.0),
  subst (λ (v : View). Splits Rowed c.in_ok-table.owner.id v owner_first handler_first) (sym (ap (λ m. m.0) e.4)) (splits c.in_ok-table.owner.id),
)
