-- The queues of armed refusals.
use Rattle.std.proofs.Common.{◌≡◌, ◌≢◌, ℕ, zero, suc, ◌+◌, ◌*◌, ◌<◌, ◌≤◌, Bool, true, false, List, [], ◌∷◌, ◌++◌, length, set, slice_get, Option, Some, None, refl, ap, inl, inr, arith}
use Rattle.std.specs.Prelude.{◌==◌, find}
use Rattle.std.proofs.lemmas.Bool.{cases_eq, cases_lt, cases_Bool, eq-eqb, ne_eqb}
use Rattle.std.proofs.lemmas.Option.{none-some, same_Some, slice_get_past, slice_get_within}
use Rattle.usb_kernel_devices.specs.declared.step.Armed.{Armed}
use Rattle.usb_kernel_devices.specs.declared.step.KernelCall.{KernelCall}
use Rattle.usb_kernel_devices.specs.declared.step.KernelCall.TheVariants.{OpenDevice, ReadDesc, GetConfig, SetConfig, Reset, Claim, DetachClaim, Detach, Attach, Alt, Halt, Speed, Submit}
use Rattle.usb_kernel_devices.specs.declared.refusals.Arming.{Arming}
use Rattle.usb_kernel_devices.specs.Refusals.{call_number, is_armed_for, disarmed}
use Rattle.usb_kernel_devices.specs.Queues.{kind_of, unused, is_queued, queued_at, fresh_arming, next_set}

call-small : (c : KernelCall) → call_number c < 13
call-small OpenDevice = omega arith
call-small ReadDesc = omega arith
call-small GetConfig = omega arith
call-small SetConfig = omega arith
call-small Reset = omega arith
call-small Claim = omega arith
call-small DetachClaim = omega arith
call-small Detach = omega arith
call-small Attach = omega arith
call-small Alt = omega arith
call-small Halt = omega arith
call-small Speed = omega arith
call-small Submit = omega arith

-- a refusal is for a call on a device where it has the place of its queue
pub by-kind : (d : ℕ) (call : KernelCall) (a : Armed) → is_armed_for d call a ≡ (kind_of a == d * 13 + call_number call)
by-kind d call a =
    elim (cases_eq (kind_of a) (d * 13 + call_number call)) [
      | inl same ↦
          let dev : a.device ≡ d = omega (arith, same, call-small a.call, call-small call) in
          let num : call_number a.call ≡ call_number call = omega (arith, same, call-small a.call, call-small call) in
          rw (eq-eqb (kind_of a) (d * 13 + call_number call) same, eq-eqb a.device d dev, eq-eqb (call_number a.call) (call_number call) num) refl
      | inr other ↦
          rw (ne_eqb (kind_of a) (d * 13 + call_number call) other)
          (elim (cases_eq a.device d) [
            | inl dev ↦ rw (eq-eqb a.device d dev, ne_eqb (call_number a.call) (call_number call) (λ z. other (omega (arith, dev, z)))) refl
            | inr apart ↦ rw (ne_eqb a.device d apart) refl
          ])
    ]

-- how many places the log has
queued-past : (k : ℕ) (log : List Arming) (i : ℕ) → length log ≤ i → queued_at k log i ≡ false
queued-past k log i past = rw (slice_get_past log i past) refl

pub queued-within : (k : ℕ) (log : List Arming) (i : ℕ) → queued_at k log i ≡ true → i < length log
queued-within k log i yes_ =
    elim (cases_lt i (length log)) [
      | inl below ↦ below
      | inr past ↦ let no_ = queued-past k log i past in absurd (cc)
    ]

pub queued-end : (k : ℕ) (log : List Arming) (i : ℕ) → length log ≤ i → queued_at k log i ≡ false
queued-end = queued-past

-- what queued_at after a push
pub get-end : (log : List Arming) (x : Arming) → slice_get (log ++ x ∷ []) (length log) ≡ Some x
get-end [] x = refl
get-end (y ∷ ys) x = get-end ys x

pub get-before : (log : List Arming) (x : Arming) (i : ℕ) → i ≢ length log → slice_get (log ++ x ∷ []) i ≡ slice_get log i
get-before [] x zero other = absurd (other refl)
get-before [] x (suc i) other = refl
get-before (y ∷ ys) x zero other = refl
get-before (y ∷ ys) x (suc i) other = get-before ys x i (λ z. other (omega (arith, z)))

pub queued-fresh_arming : (k : ℕ) (log : List Arming) (a : Armed) → queued_at k (log ++ fresh_arming a ∷ []) (length log) ≡ (kind_of a == k)
queued-fresh_arming k log a = rw (get-end log (fresh_arming a)) refl

pub queued-before : (k : ℕ) (log : List Arming) (a : Armed) (i : ℕ) → i ≢ length log → queued_at k (log ++ fresh_arming a ∷ []) i ≡ queued_at k log i
queued-before k log a i other = rw (get-before log (fresh_arming a) i other) refl

-- what queued_at after a write
get-set : (log : List Arming) (j : ℕ) (x : Arming) → j < length log → slice_get (set log j x) j ≡ Some x
get-set [] j x within = absurd (omega (arith, within))
get-set (y ∷ ys) zero x within = refl
get-set (y ∷ ys) (suc j) x within = get-set ys j x (omega (arith, within))

pub get-set_other : (log : List Arming) (j : ℕ) (x : Arming) (i : ℕ) → i ≢ j → slice_get (set log j x) i ≡ slice_get log i
get-set_other [] j x i other = refl
get-set_other (y ∷ ys) zero x zero other = absurd (other refl)
get-set_other (y ∷ ys) zero x (suc i) other = refl
get-set_other (y ∷ ys) (suc j) x zero other = refl
get-set_other (y ∷ ys) (suc j) x (suc i) other = get-set_other ys j x i (λ z. other (omega (arith, z)))

pub queued-set_other : (k : ℕ) (log : List Arming) (j : ℕ) (x : Arming) (i : ℕ) → i ≢ j → queued_at k (set log j x) i ≡ queued_at k log i
queued-set_other k log j x i other = rw (get-set_other log j x i other) refl

pub queued-set : (k : ℕ) (log : List Arming) (j : ℕ) (x : Arming) → j < length log → queued_at k (set log j x) j ≡ is_queued k x
queued-set k log j x within = rw (get-set log j x within) refl

-- a link changes nothing else
pub queued-next_set : (k : ℕ) (log : List Arming) (j place : ℕ) (o : Option Arming) → slice_get log j ≡ o → (i : ℕ) → queued_at k (next_set log j place o) i ≡ queued_at k log i
queued-next_set k log j place None at i = refl
queued-next_set k log j place (Some x) at i =
    elim (cases_eq i j) [
      | inl same ↦ rw (same, at) (queued-set k log j (record x { next = Some place }) (slice_get_within log j x at))
      | inr other ↦ queued-set_other k log j (record x { next = Some place }) i other
    ]

unused-set_next : (log : List Arming) (j : ℕ) (x : Arming) (o : Option ℕ) → slice_get log j ≡ Some x → unused (set log j (record x { next = o })) ≡ unused log
unused-set_next [] j x o at = absurd (none-some x at)
unused-set_next (y ∷ ys) zero x o at = let same : y ≡ x = same_Some y x at in rw same refl
unused-set_next (y ∷ ys) (suc j) x o at = rw (unused-set_next ys j x o at) refl

pub unused-next_set : (log : List Arming) (j place : ℕ) (o : Option Arming) → slice_get log j ≡ o → unused (next_set log j place o) ≡ unused log
unused-next_set log j place None at = refl
unused-next_set log j place (Some x) at = unused-set_next log j x (Some place) at

pub unused-append : (log : List Arming) (a : Armed) → unused (log ++ fresh_arming a ∷ []) ≡ unused log ++ a ∷ []
unused-append [] a = refl
unused-append (x ∷ others) a =
    elim (cases_Bool x.is_used) [
      | inl yes_ ↦ rw yes_ (unused-append others a)
      | inr no_ ↦ rw no_ (ap (λ xs. x.refusal ∷ xs) (unused-append others a))
    ]

-- the refusals of a kind
abbrev of_kind : ℕ → Armed → Bool
of_kind k a = kind_of a == k

-- the first that queued_at is the first of its kind that is not used
module _ (d : ℕ) (call : KernelCall) where
  for-kind : (a : Armed) → is_armed_for d call a ≡ of_kind (d * 13 + call_number call) a
  for-kind a = by-kind d call a

  pub unused-none : (log : List Arming) → ((i : ℕ) → queued_at (d * 13 + call_number call) log i ≡ false) → find (is_armed_for d call) (unused log) ≡ None
  unused-none [] none = refl
  unused-none (x ∷ others) none =
      let IH = unused-none others (λ i. none (suc i)) in
      elim (cases_Bool x.is_used) [
        | inl yes_ ↦ rw yes_ IH
        | inr no_ ↦
            let here = rw no_ at (none zero) in
            rw (no_, for-kind x.refusal, here) IH
      ]

  pub disarmed-none : (log : List Arming) → ((i : ℕ) → queued_at (d * 13 + call_number call) log i ≡ false) → disarmed (unused log) d call ≡ unused log
  disarmed-none [] none = refl
  disarmed-none (x ∷ others) none =
      let IH = disarmed-none others (λ i. none (suc i)) in
      elim (cases_Bool x.is_used) [
        | inl yes_ ↦ rw yes_ IH
        | inr no_ ↦
            let here = rw no_ at (none zero) in
            rw (no_, for-kind x.refusal, here) (ap (λ xs. x.refusal ∷ xs) IH)
      ]

  pub unused-first : (log : List Arming) (j : ℕ) (x : Arming) → slice_get log j ≡ Some x → queued_at (d * 13 + call_number call) log j ≡ true → ((i : ℕ) → i < j → queued_at (d * 13 + call_number call) log i ≡ false) → find (is_armed_for d call) (unused log) ≡ Some x.refusal
  unused-first [] j x at here before = absurd (none-some x at)
  unused-first (y ∷ ys) zero x at here before =
      let same : y ≡ x = same_Some y x at in
      elim (cases_Bool x.is_used) [
        | inl yes_ ↦ let h : is_queued (d * 13 + call_number call) x ≡ true = rw same at here in absurd (let z = rw yes_ at h in cc)
        | inr no_ ↦
            let h : is_queued (d * 13 + call_number call) x ≡ true = rw same at here in
            let k = rw no_ at h in
            rw (same, no_, for-kind x.refusal, k) refl
      ]
  unused-first (y ∷ ys) (suc j) x at here before =
      let IH = unused-first ys j x at here (λ i lower. before (suc i) (omega (arith, lower))) in
      elim (cases_Bool y.is_used) [
        | inl yes_ ↦ rw yes_ IH
        | inr no_ ↦
            let first = rw no_ at (before zero (omega arith)) in
            rw (no_, for-kind y.refusal, first) IH
      ]

  pub disarmed-first : (log : List Arming) (j : ℕ) (x : Arming) → slice_get log j ≡ Some x → queued_at (d * 13 + call_number call) log j ≡ true → ((i : ℕ) → i < j → queued_at (d * 13 + call_number call) log i ≡ false) → unused (set log j (record x { is_used = true })) ≡ disarmed (unused log) d call
  disarmed-first [] j x at here before = absurd (none-some x at)
  disarmed-first (y ∷ ys) zero x at here before =
      let same : y ≡ x = same_Some y x at in
      elim (cases_Bool x.is_used) [
        | inl yes_ ↦ let h : is_queued (d * 13 + call_number call) x ≡ true = rw same at here in absurd (let z = rw yes_ at h in cc)
        | inr no_ ↦
            let h : is_queued (d * 13 + call_number call) x ≡ true = rw same at here in
            let k = rw no_ at h in
            rw (same, no_, for-kind x.refusal, k) refl
      ]
  disarmed-first (y ∷ ys) (suc j) x at here before =
      let IH = disarmed-first ys j x at here (λ i lower. before (suc i) (omega (arith, lower))) in
      elim (cases_Bool y.is_used) [
        | inl yes_ ↦ rw yes_ IH
        | inr no_ ↦
            let first = rw no_ at (before zero (omega arith)) in
            rw (no_, for-kind y.refusal, first) (ap (λ xs. y.refusal ∷ xs) IH)
      ]
