use Rattle.std.proofs.Common.{refl}
use Rattle.std.specs.List.{sum_by}
use Rattle.usb_kernel.specs.Rows.{owed}
use Rattle.usb_kernel.proofs.Freed.{no_more}
use Rattle.usb_kernel.proofs.Kept.{has_spare, kept-quiet, less-spare}
use Rattle.usb_kernel.proofs.kernel.Kernel.clock.Goals as goal

pub overflow_sub-self : goal.overflow_sub-self
overflow_sub-self c = has_spare c.self.inside c.self.view_is c.requires.spare

pub invariant_of-self : goal.invariant_of-self
invariant_of-self c = kept-quiet c.self.inside _ c.self.invariant refl c.self.invariant.gone c.self.invariant.agrees refl (no_more (sum_by owed c.self.inside.tickets.rows)) refl (less-spare c.self.inside.spare) refl
