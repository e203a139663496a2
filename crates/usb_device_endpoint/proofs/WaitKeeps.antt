-- What each turn of a bus keeps, a wait keeps.
use Rattle.std.proofs.Common.{ℕ, zero, suc, ◌-◌, Bool, true, false}
use Rattle.std.specs.Prelude.{nat_le}
use Rattle.usb_device_endpoint.specs.BusCalls.{BusCalls}
use Rattle.usb_device_endpoint.specs.Waits.{time_is_up, is_reaped, unless, waited_from, waited}
use Rattle.usb_device_endpoint.specs.Blocking.{seconds_from, waited_by_seconds, blocked}

module _ {S : Type 0} (k : BusCalls S) (P : S → Type 0) (turns : (s : S) → P s → P (k.turned s)) (t : ℕ) where
  next-keeps : (b : Bool) (s : S) (next : S → S) → P s → P (next s) → P (unless b s next)
  next-keeps true s next here on = here
  next-keeps false s next here on = on

  from-keeps : (timeout start n : ℕ) (s : S) → P s → P (waited_from k t timeout start n s)
  from-keeps timeout start zero s holds = holds
  from-keeps timeout start (suc n) s holds =
      let turned = turns s holds in
      next-keeps (is_reaped k t s) s (λ s. unless (nat_le timeout ((k.state s).clock - start)) s (λ s. unless (time_is_up (k.turn_of s)) (k.turned s) (waited_from k t timeout start n))) holds
      (next-keeps (nat_le timeout ((k.state s).clock - start)) s (λ s. unless (time_is_up (k.turn_of s)) (k.turned s) (waited_from k t timeout start n)) holds
      (next-keeps (time_is_up (k.turn_of s)) (k.turned s) (waited_from k t timeout start n) turned (from-keeps timeout start n (k.turned s) turned)))

  pub waited-keeps : (timeout : ℕ) (s : S) → P s → P (waited k t timeout s)
  unfolding waited
  waited-keeps timeout s holds = from-keeps timeout (k.state s).clock (suc (k.state s).turns_left) s holds

  seconds-keeps : (n : ℕ) (s : S) → P s → P (seconds_from k t n s)
  seconds-keeps zero s holds = holds
  seconds-keeps (suc n) s holds =
      let waits = waited-keeps 1000000000 s holds in
      next-keeps (is_reaped k t (waited k t 1000000000 s)) (waited k t 1000000000 s) (seconds_from k t n) waits (seconds-keeps n (waited k t 1000000000 s) waits)

  pub by_seconds-keeps : (s : S) → P s → P (waited_by_seconds k t s)
  unfolding waited_by_seconds
  by_seconds-keeps s holds = seconds-keeps (suc (k.state s).turns_left) s holds

  -- and a blocking transfer, where a discard keeps it too
  pub blocked-keeps : ((s : S) → P s → P (k.discarded s t)) → (timeout : ℕ) (s : S) → P s → P (blocked k t timeout s)
  blocked-keeps discards timeout s holds =
      let waits = waited-keeps timeout s holds in
      next-keeps (is_reaped k t (waited k t timeout s)) (waited k t timeout s) (λ mid. waited_by_seconds k t (k.discarded mid t)) waits (by_seconds-keeps (k.discarded (waited k t timeout s) t) (discards (waited k t timeout s) waits))
