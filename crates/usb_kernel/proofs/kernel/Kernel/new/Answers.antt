use Rattle.std.proofs.Common.{arith, refl}
use Rattle.std.proofs.lemmas.Bool.{false≢true}
use Rattle.usb_kernel_devices.specs.Refusals.{HasArmedErrno}
use Rattle.usb_kernel.proofs.Fresh.{Agrees-none, All-none}
use Rattle.usb_kernel.proofs.Deadlines.{keeps-none}
use Rattle.usb_kernel.proofs.kernel.Kernel.new.Goals as goal

pub invariant_of-result : goal.invariant_of-result
invariant_of-result c = record {
  lawful = rw c.new.ensures.items tt;
  acts = rw c.new.ensures.items tt;
  gone = λ d gone. absurd (false≢true (rw c.new.ensures.items at gone));
  agrees = rw (c.new.ensures.items, c.new-2.ensures.rows) Agrees-none;
  timed = rw (c.new.ensures.items, c.new-4.ensures.empty) keeps-none;
  owes = rw c.new-2.ensures.rows refl;
  space = rw c.new.ensures.len (omega arith);
  four = rw c.new.ensures.items (omega arith);
  errnos = rw c.in_ok-new.ensures.none (All-none HasArmedErrno);
  places = omega arith;
}
