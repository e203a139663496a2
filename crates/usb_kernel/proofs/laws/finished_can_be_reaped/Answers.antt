use Rattle.usb_kernel.proofs.Waiting.{discard-finishes, finished-reapable, lowest-some, lowest-reapable, lowest-least}
use Rattle.usb_kernel.proofs.laws.finished_can_be_reaped.Goals as goal

pub returns : goal.returns
returns c = record {
  discarded = discard-finishes;
  reapable = finished-reapable;
  some = lowest-some;
  lowest = lowest-reapable;
  least = lowest-least;
}
