-- What a submission gets, by whether its device is plugged and what is armed.
use Rattle.std.proofs.Common.{arith, ◌≡◌, List, reverse, Option, Some, None, Result, Ok, Err, true, false, refl, sym, ap, ◌∙◌, Bor}
use Rattle.std.specs.Prelude.{is_some, OnOk, OnErr}
use Rattle.std.specs.Option.{option_copied}
use Rattle.std.specs.Result.{is_ok}
use Rattle.std.proofs.lemmas.Bool.{false≢true}
use Rattle.usb_kernel_devices.specs.declared.devices.DeviceState.{DeviceState}
use Rattle.usb_kernel_devices.specs.declared.step.Armed.{Armed}
use Rattle.usb_kernel.specs.declared.event.Event.{Event}
use Rattle.usb_kernel.specs.declared.kernel.Kernel.TheInside.{Inside}
use Rattle.usb_kernel.specs.contracts.kernel.Kernel.{the_view}
use Rattle.usb_kernel_devices.specs.Errnos.{IsErrno}
use Rattle.usb_kernel.specs.Value.{KernelState}

pub plugged-none : (o : Option (Bor DeviceState)) (p : Option DeviceState) → option_copied o ≡ p → is_some o ≡ false → is_some p ≡ false
plugged-none None p is none = rw (← is) refl
plugged-none (Some b) p is none = absurd (false≢true (sym none))

pub plugged-some : (o : Option (Bor DeviceState)) (p : Option DeviceState) → option_copied o ≡ p → is_some o ≡ true → is_some p ≡ true
plugged-some None p is some = absurd (false≢true some)
plugged-some (Some b) p is some = rw (← is) refl

-- the errno of a device that is gone
pub nodev : IsErrno 19
nodev = (omega arith, omega arith)

-- what is so in any case
pub on_ok : {A E : Type 0} {P : Type 0} (r : Result A E) → P → OnOk r P
on_ok (Ok a) p = p
on_ok (Err e) p = tt

-- and what is so where it succeeded, or failed
pub on_ok-err : {A E : Type 0} (P : Type 0) (r : Result A E) → false ≡ is_ok r → OnOk r P
on_ok-err P (Ok a) failed = absurd (false≢true failed)
on_ok-err P (Err e) failed = tt

pub on_err-ok : {A E : Type 0} (P : Type 0) (r : Result A E) → true ≡ is_ok r → OnErr r P
on_err-ok P (Ok a) went = tt
on_err-ok P (Err e) went = absurd (false≢true (sym went))

-- where only the past is another, the armed refusals are the same
pub rest-both : (a b : KernelState) → a ≡ record b { past = a.past } → a ≡ record b { past = a.past; armed = a.armed }
rest-both a b rest = rest ∙ ap (λ (xs : List Armed). record b { past = a.past; armed = xs }) (sym (ap (λ (k : KernelState). k.armed) rest))

pub rest-disarmed : (k : Inside) (n s : KernelState) (armed : List Armed) → the_view k ≡ n → n ≡ record s { past = n.past } → ◌≡◌ {A = KernelState} (record { past = reverse k.journal.items; devices = k.devices.items; clock = k.clock; armed = armed; spare = k.spare }) (record s { past = reverse k.journal.items; armed = armed })
rest-disarmed k n s armed is rest = ap (λ (x : KernelState). record x { past = reverse k.journal.items; armed = armed }) (is ∙ rest)

-- an event came, and no refusal was used up
pub rest-filed : (k : Inside) {s : KernelState} (past : List Event) → the_view k ≡ s → ◌≡◌ {A = KernelState} (record { past = past; devices = k.devices.items; clock = k.clock; armed = k.armed.armed; spare = k.spare }) (record s { past = past; armed = k.armed.armed })
rest-filed k past is = rw (← is) refl
