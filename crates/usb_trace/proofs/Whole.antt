-- Bodies that want whole packets.
use Rattle.std.proofs.Common.{◌≡◌, ℕ, eqb, Bool, true, false, ◌||◌, refl, arith}
use Rattle.std.proofs.lemmas.Bool.{eqb-true}
use Rattle.usb_kernel.specs.declared.event.Body.{Body}
use Rattle.usb_kernel.specs.declared.event.Body.TheVariants.{Wanted, Sent}
use Rattle.usb_kernel.specs.Submissions.{WantsWhole}
use Rattle.usb_kernel.specs.WholePackets.{is_whole}
use Rattle.usb_kernel.proofs.Wholes.{whole-times}
use Rattle.usb_kernel.specs.Acts.{wants_whole}

by_equal : (t : Bool) (m n : ℕ) → eqb n m ≡ t → (t || is_whole m n) ≡ true → WantsWhole m (Wanted n)
by_equal true m n same wants = (0, let is : n ≡ m = eqb-true n m same in rw is (omega arith))
by_equal false m n same wants = whole-times m n wants

pub whole-wants : (m : ℕ) (body : Body) → wants_whole m body ≡ true → WantsWhole m body
whole-wants m (Wanted n) wants = by_equal (eqb n m) m n refl wants
whole-wants m (Sent bytes) wants = tt
