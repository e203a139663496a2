-- Waits by seconds, and blocking transfers.
use Rattle.std.proofs.Common.{ℕ, zero, suc, arith, ◌≡◌, ◌<◌, true, false, [], ◌∷◌, length, Some, None, refl, sym, ◌∙◌, ap}
use Rattle.usb_xfer.specs.BufferState.{BufferState}
use Rattle.usb_xfer.specs.declared.transfer.Completion.{Completion}
use Rattle.usb_kernel.specs.Tickets.{tickets}
use Rattle.usb_device_endpoint.specs.BusCalls.{BusCalls}
use Rattle.usb_device_endpoint.specs.EndpointState.{EndpointState}
use Rattle.usb_device_endpoint.specs.Submits.{entered}
use Rattle.usb_device_endpoint.specs.Waits.{Polled, front_found, polled, front_of, is_reaped, waited, wait_next}
use Rattle.usb_device_endpoint.specs.Blocking.{or_next, seconds_from, waited_by_seconds, transferred}
use Rattle.usb_device_endpoint.proofs.WaitLemmas.{wait-found, wait-vain}

-- the waits so far: what is left of them is waits from here (s), which are enough
pub record Seconds {S : Type 0} (k : BusCalls S) (t : ℕ) (first s : S) : Type 0 where
  pub left : ℕ
  pub enough : (k.state s).turns_left < left
  pub is : waited_by_seconds k t first ≡ seconds_from k t left s

pub seconds-first : {S : Type 0} (k : BusCalls S) (t : ℕ) (s : S) → Seconds k t s s
unfolding waited_by_seconds
seconds-first k t s = record { left = suc (k.state s).turns_left; enough = omega arith; is = refl }

-- the ticket that a wait is for, where the endpoint is what it was
pub wait-same : {S : Type 0} (k : BusCalls S) (timeout : ℕ) (s : S) (e first : EndpointState) (p : Polled S) → e ≡ first → wait_next k timeout s e ≡ p → wait_next k timeout s first ≡ p
wait-same k timeout s e first p same is = rw (← same) is

or_next-found : {S : Type 0} (k : BusCalls S) (t : ℕ) (next : S → S) (s : S) → is_reaped k t s ≡ true → or_next k t next s ≡ s
or_next-found k t next s found = rw found refl

or_next-vain : {S : Type 0} (k : BusCalls S) (t : ℕ) (next : S → S) (s : S) → is_reaped k t s ≡ false → or_next k t next s ≡ next s
or_next-vain k t next s vain = rw vain refl

found-at : {S : Type 0} (k : BusCalls S) (t : ℕ) (s : S) (n m : ℕ) → m < n → is_reaped k t (waited k t 1000000000 s) ≡ true → seconds_from k t n s ≡ waited k t 1000000000 s
found-at k t s zero m some found = absurd (omega arith)
found-at k t s (suc n) m some found = or_next-found k t (seconds_from k t n) (waited k t 1000000000 s) found

vain-at : {S : Type 0} (k : BusCalls S) (t : ℕ) (s : S) (n m : ℕ) → m < n → is_reaped k t (waited k t 1000000000 s) ≡ false → (l : ℕ) × (n ≡ suc l) × (seconds_from k t n s ≡ seconds_from k t l (waited k t 1000000000 s))
vain-at k t s zero m some vain = absurd (omega arith)
vain-at k t s (suc n) m some vain = (n, refl, or_next-vain k t (seconds_from k t n) (waited k t 1000000000 s) vain)

module _ {S : Type 0} (k : BusCalls S) (first s s' : S) (e e' : EndpointState) (seconds : Seconds k (front_of e.pending) first s) where
  -- the wait that finds the ticket is the last
  pub seconds-found : (c : Completion) → wait_next k 1000000000 s e ≡ front_found (Some c) s' e' → polled k (waited_by_seconds k (front_of e.pending) first) e ≡ front_found (Some c) s' e'
  seconds-found c is =
      ap (λ x. polled k x e) (seconds.is ∙ found-at k (front_of e.pending) s seconds.left _ seconds.enough (wait-found k 1000000000 s s' e e' c is)) ∙ is

  -- and after one in vain they go on
  pub seconds-more : 0 < length e.pending → wait_next k 1000000000 s e ≡ front_found None s' e' → (k.state s').turns_left < (k.state s).turns_left → Seconds k (front_of e.pending) first s'
  seconds-more some is falls =
      let vain = wait-vain k 1000000000 s s' e e' some is in
      let more = vain-at k (front_of e.pending) s seconds.left _ seconds.enough vain.2 in
      let enough = seconds.enough in
      let one = more.1 in
      record { left = more.0; enough = omega (arith, enough, falls, one); is = seconds.is ∙ more.2 ∙ ap (seconds_from k (front_of e.pending) more.0) (sym vain.0) }

pub seconds-same : {S : Type 0} (k : BusCalls S) (s : S) (e first : EndpointState) (p : Polled S) → e ≡ first → polled k (waited_by_seconds k (front_of e.pending) s) e ≡ p → polled k (waited_by_seconds k (front_of first.pending) s) first ≡ p
seconds-same k s e first p same is = rw (← same) is

-- an endpoint with its first ticket
pub submitted-some : (e old : EndpointState) (t : ℕ) → e ≡ record old { pending = t ∷ [] } → 0 < length e.pending
submitted-some e old t is = rw is (omega arith)

-- a transfer that its first wait found
pub transferred-found : {S : Type 0} (k : BusCalls S) (timeout : ℕ) (s sent s' : S) (e one e' : EndpointState) (b : BufferState) (c : Completion)
    → sent ≡ entered k s e None b → one ≡ record e { pending = length (tickets (k.state s).past) ∷ [] } → wait_next k timeout sent one ≡ front_found (Some c) s' e'
    → transferred k timeout s e b ≡ front_found (Some c) s' e'
transferred-found k timeout s sent s' e one e' b c is same found =
    let next = length (tickets (k.state s).past) in
    let single = record e { pending = next ∷ [] } in
    let wait : wait_next k timeout (entered k s e None b) single ≡ front_found (Some c) s' e' = ap (λ x. wait_next k timeout x single) (sym is) ∙ ap (λ x. wait_next k timeout sent x) (sym same) ∙ found in
    ap (λ x. polled k x single) (or_next-found k next (λ mid. waited_by_seconds k next (k.discarded mid next)) (waited k next timeout (entered k s e None b)) (wait-found k timeout (entered k s e None b) s' single e' c wait)) ∙ wait

-- or one that was discarded then
pub transferred-later : {S : Type 0} (k : BusCalls S) (timeout : ℕ) (s sent mid next s' : S) (e one left e' : EndpointState) (b : BufferState) (c : Completion)
    → sent ≡ entered k s e None b → one ≡ record e { pending = length (tickets (k.state s).past) ∷ [] } → wait_next k timeout sent one ≡ front_found None mid left
    → next ≡ k.discarded mid (length (tickets (k.state s).past)) → polled k (waited_by_seconds k (length (tickets (k.state s).past)) next) (record e { pending = length (tickets (k.state s).past) ∷ [] }) ≡ front_found (Some c) s' e'
    → transferred k timeout s e b ≡ front_found (Some c) s' e'
transferred-later k timeout s sent mid next s' e one left e' b c is same vain discarded found =
    let t = length (tickets (k.state s).past) in
    let single = record e { pending = t ∷ [] } in
    let wait : wait_next k timeout (entered k s e None b) single ≡ front_found None mid left = ap (λ x. wait_next k timeout x single) (sym is) ∙ ap (λ x. wait_next k timeout sent x) (sym same) ∙ vain in
    let in_vain = wait-vain k timeout (entered k s e None b) mid single left (omega arith) wait in
    let after : next ≡ k.discarded (waited k t timeout (entered k s e None b)) t = discarded ∙ ap (λ x. k.discarded x t) in_vain.0 in
    ap (λ x. polled k x single) (or_next-vain k t (λ mid. waited_by_seconds k t (k.discarded mid t)) (waited k t timeout (entered k s e None b)) in_vain.2 ∙ ap (waited_by_seconds k t) (sym after)) ∙ found
