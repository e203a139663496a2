-- A wait at a bus whose turns keep a state of affairs until the ticket is reaped.
use Rattle.std.proofs.Common.{ℕ, zero, suc, ◌≡◌, ◌<◌, ◌≤◌, ◌-◌, true, false, [], ◌∷◌, length, Option, Some, None, refl, sym, ap, subst, arith, inl, inr}
use Rattle.std.specs.Prelude.{nat_le}
use Rattle.std.proofs.lemmas.Bool.{cases_Bool}
use Rattle.usb_xfer.specs.BufferState.{BufferState}
use Rattle.usb_xfer.specs.declared.transfer.Completion.{Completion}
use Rattle.usb_kernel.specs.Tickets.{tickets}
use Rattle.usb_kernel.specs.TransferCompletions.{transfer_completion}
use Rattle.usb_device_endpoint.specs.BusCalls.{BusCalls}
use Rattle.usb_device_endpoint.specs.EndpointState.{EndpointState}
use Rattle.usb_device_endpoint.specs.Submits.{entered}
use Rattle.usb_device_endpoint.specs.Waits.{time_is_up, is_reaped, unless, waited_from, waited, taken_if}
use Rattle.usb_device_endpoint.specs.Blocking.{waited_by_seconds, blocked}
use Rattle.usb_bot.specs.Commands.{longest, outcome, passed, stage_of, staged}

-- while the ticket is not reaped, time is not over and the next turn finds something to do, what is
-- so stays so, and a number falls
pub record GoesOnTo {S : Type 0} (k : BusCalls S) (t timeout start : ℕ) (P : S → Type 0) (m : S → ℕ) : Type 0 where
  pub early : (s : S) → P s → nat_le timeout ((k.state s).clock - start) ≡ false
  pub turns : (s : S) → P s → is_reaped k t s ≡ false → time_is_up (k.turn_of s) ≡ false
  pub stays : (s : S) → P s → is_reaped k t s ≡ false → P (k.turned s)
  pub falls : (s : S) → P s → is_reaped k t s ≡ false → m (k.turned s) < m s

-- the ticket is reaped, and all is so
pub record Finds {S : Type 0} (k : BusCalls S) (t : ℕ) (P : S → Type 0) (s : S) : Type 0 where
  pub is : P s
  pub found : is_reaped k t s ≡ true

module _ {S : Type 0} (k : BusCalls S) (t timeout start : ℕ) (P : S → Type 0) (m : S → ℕ) (on : GoesOnTo k t timeout start P m) where
  from-found : (n : ℕ) (s : S) → is_reaped k t s ≡ true → waited_from k t timeout start (suc n) s ≡ s
  from-found n s found = rw found refl

  from-more : (n : ℕ) (s : S) → is_reaped k t s ≡ false → nat_le timeout ((k.state s).clock - start) ≡ false → time_is_up (k.turn_of s) ≡ false
      → waited_from k t timeout start (suc n) s ≡ waited_from k t timeout start n (k.turned s)
  from-more n s none soon up = rw (none, soon, up) refl

  -- then the wait finds it
  pub from-finds : (n : ℕ) (s : S) → P s → m s < n → Finds k t P (waited_from k t timeout start n s)
  from-finds zero s here few = absurd (omega arith)
  from-finds (suc n) s here few =
      elim (cases_Bool (is_reaped k t s)) [
        | inl found ↦ subst (Finds k t P) (sym (from-found n s found)) (record { is = here; found = found })
        | inr none ↦
            let less = on.falls s here none in
            subst (Finds k t P) (sym (from-more n s none (on.early s here) (on.turns s here none)))
            (from-finds n (k.turned s) (on.stays s here none) (omega (arith, less, few)))
      ]

module _ {S : Type 0} (k : BusCalls S) (t timeout : ℕ) (P : S → Type 0) (m : S → ℕ) where
  pub waited-finds : (s : S) → GoesOnTo k t timeout (k.state s).clock P m → P s → m s ≤ (k.state s).turns_left → Finds k t P (waited k t timeout s)
  unfolding waited
  waited-finds s on here few = from-finds k t timeout (k.state s).clock P m on (suc (k.state s).turns_left) s here (omega (arith, few))

  -- and so does a blocking transfer, which then discards nothing
  pub blocked-finds : (s : S) → GoesOnTo k t timeout (k.state s).clock P m → P s → m s ≤ (k.state s).turns_left → Finds k t P (blocked k t timeout s)
  blocked-finds s on here few =
      let w = waited-finds s on here few in
      subst (Finds k t P) (sym (ap (λ v. unless v (waited k t timeout s) (λ mid. waited_by_seconds k t (k.discarded mid t))) w.found)) w

-- a stage whose ticket is found reaped
pub record StageFinds {S : Type 0} (k : BusCalls S) (e : EndpointState) (b : BufferState) (s : S) (t : ℕ) (P : S → Type 0) : Type 0 where
  pub mid : S
  pub finds : Finds k t P mid
  pub is : (c : Completion) → transfer_completion (k.state mid).past t ≡ Some c → staged k e b s ≡ outcome (passed c c.status) (k.taken mid t)

pub stage-finds : {S : Type 0} (k : BusCalls S) (e : EndpointState) (b : BufferState) (s : S) (P : S → Type 0) (m : S → ℕ)
    → GoesOnTo k (length (tickets (k.state s).past)) longest (k.state (entered k s e None b)).clock P m
    → P (entered k s e None b) → m (entered k s e None b) ≤ (k.state (entered k s e None b)).turns_left
    → StageFinds k e b s (length (tickets (k.state s).past)) P
stage-finds k e b s P m on here few =
    let t = length (tickets (k.state s).past) in
    let sent = entered k s e None b in
    let mid = blocked k t longest sent in
    record {
      mid = mid;
      finds = blocked-finds k t longest P m sent on here few;
      is = λ c came.
          ap (λ (o : Option Completion). outcome (stage_of (taken_if k mid (record e { pending = t ∷ [] }) t [] o).completion) (taken_if k mid (record e { pending = t ∷ [] }) t [] o).bus) came;
    }
