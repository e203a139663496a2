-- The turns of a wait.
use Rattle.std.proofs.Common.{ℕ, zero, suc, arith, ◌≡◌, ◌≤◌, ◌<◌, ◌-◌, true, false, [], ◌++◌, length, Some, None, refl, sym, ◌∙◌, ap, append_assoc, inl, inr}
use Rattle.std.proofs.lemmas.Bool.{le-leb}
use Rattle.std.proofs.lemmas.Bool.Decides.{leb_tells}
use Rattle.std.specs.Prelude.{nat_le}
use Rattle.usb_xfer.specs.declared.transfer.Completion.{Completion}
use Rattle.usb_device_endpoint.specs.declared.route.Turn.{Turn}
use Rattle.usb_device_endpoint.specs.declared.route.Turn.TheVariants.{Stepped, Reaped, TimeUp}
use Rattle.usb_device_endpoint.specs.BusState.{BusState}
use Rattle.usb_device_endpoint.specs.BusCalls.{BusCalls}
use Rattle.usb_device_endpoint.specs.Turns.{Falls}
use Rattle.usb_device_endpoint.specs.Later.{IsLater, GoesOn}
use Rattle.usb_device_endpoint.specs.EndpointState.{EndpointState}
use Rattle.usb_device_endpoint.specs.Waits.{Polled, front_found, polled, front_of, time_is_up, is_reaped, waited_from, waited, wait_next}
use Rattle.usb_device_endpoint.proofs.PollLemmas.{found-reaped, none-found}

-- the looks so far of a wait that began on a bus (first): what is left of it is a wait from here (s), which has looks enough
pub record Looks {S : Type 0} (k : BusCalls S) (t timeout : ℕ) (first s : S) : Type 0 where
  pub left : ℕ
  pub enough : (k.state s).turns_left < left
  pub is : waited k t timeout first ≡ waited_from k t timeout (k.state first).clock left s

pub looks-first : {S : Type 0} (k : BusCalls S) (t timeout : ℕ) (s : S) → Looks k t timeout s s
unfolding waited
looks-first k t timeout s = record { left = suc (k.state s).turns_left; enough = omega arith; is = refl }

module _ {S : Type 0} (k : BusCalls S) (t timeout start : ℕ) (s : S) where
  found-at : (n m : ℕ) → m < n → is_reaped k t s ≡ true → waited_from k t timeout start n s ≡ s
  found-at zero m some found = absurd (omega arith)
  found-at (suc n) m some found = rw found refl

  late-at : (n m : ℕ) → m < n → is_reaped k t s ≡ false → nat_le timeout ((k.state s).clock - start) ≡ true → waited_from k t timeout start n s ≡ s
  late-at zero m some none late = absurd (omega arith)
  late-at (suc n) m some none late = rw (none, late) refl

  up-at : (n m : ℕ) → m < n → is_reaped k t s ≡ false → nat_le timeout ((k.state s).clock - start) ≡ false → time_is_up (k.turn_of s) ≡ true → waited_from k t timeout start n s ≡ k.turned s
  up-at zero m some none early up = absurd (omega arith)
  up-at (suc n) m some none early up = rw (none, early, up) refl

  more-at : (n m : ℕ) → m < n → is_reaped k t s ≡ false → nat_le timeout ((k.state s).clock - start) ≡ false → time_is_up (k.turn_of s) ≡ false → (l : ℕ) × (n ≡ suc l) × (waited_from k t timeout start n s ≡ waited_from k t timeout start l (k.turned s))
  more-at zero m some none early on = absurd (omega arith)
  more-at (suc n) m some none early on = (n, refl, rw (none, early, on) refl)

module _ {S : Type 0} (k : BusCalls S) (t timeout : ℕ) (first s : S) (looks : Looks k t timeout first s) where
  pub waited-found : is_reaped k t s ≡ true → waited k t timeout first ≡ s
  waited-found found = looks.is ∙ found-at k t timeout (k.state first).clock s looks.left _ looks.enough found

  pub waited-late : is_reaped k t s ≡ false → nat_le timeout ((k.state s).clock - (k.state first).clock) ≡ true → waited k t timeout first ≡ s
  waited-late none late = looks.is ∙ late-at k t timeout (k.state first).clock s looks.left _ looks.enough none late

  pub waited-up : is_reaped k t s ≡ false → nat_le timeout ((k.state s).clock - (k.state first).clock) ≡ false → time_is_up (k.turn_of s) ≡ true → waited k t timeout first ≡ k.turned s
  waited-up none early up = looks.is ∙ up-at k t timeout (k.state first).clock s looks.left _ looks.enough none early up

  pub looks-more : is_reaped k t s ≡ false → nat_le timeout ((k.state s).clock - (k.state first).clock) ≡ false → time_is_up (k.turn_of s) ≡ false → (k.state (k.turned s)).turns_left < (k.state s).turns_left
      → Looks k t timeout first (k.turned s)
  looks-more none early on falls =
      let more = more-at k t timeout (k.state first).clock s looks.left _ looks.enough none early on in
      let enough = looks.enough in
      let one = more.1 in
      record { left = more.0; enough = omega (arith, enough, falls, one); is = looks.is ∙ more.2 }

-- on the bus after the turn, whatever it is called
pub Looks-at : {S : Type 0} (k : BusCalls S) (t timeout : ℕ) (first s s' : S) → s' ≡ k.turned s → ((k.state (k.turned s)).turns_left < (k.state s).turns_left → Looks k t timeout first (k.turned s)) → (k.state s').turns_left < (k.state s).turns_left
    → Looks k t timeout first s'
Looks-at k t timeout first s s' after looks falls = rw after (looks (rw after at falls))

-- a wait that ended on this bus (s), and then the poll
pub wait_next-is : {S : Type 0} (k : BusCalls S) (timeout : ℕ) (first s : S) (e : EndpointState) (p : Polled S) → waited k (front_of e.pending) timeout first ≡ s → polled k s e ≡ p → wait_next k timeout first e ≡ p
wait_next-is k timeout first s e p ended is = ap (λ x. polled k x e) ended ∙ is

-- the poll that a wait ends with: it took the front, or left all as it was
pub wait-found : {S : Type 0} (k : BusCalls S) (timeout : ℕ) (s s' : S) (e e' : EndpointState) (c : Completion) → wait_next k timeout s e ≡ front_found (Some c) s' e' → is_reaped k (front_of e.pending) (waited k (front_of e.pending) timeout s) ≡ true
wait-found k timeout s s' e e' c is = found-reaped k (waited k (front_of e.pending) timeout s) s' e e' c is

pub wait-vain : {S : Type 0} (k : BusCalls S) (timeout : ℕ) (s s' : S) (e e' : EndpointState) → 0 < length e.pending → wait_next k timeout s e ≡ front_found None s' e'
    → (s' ≡ waited k (front_of e.pending) timeout s) × (e' ≡ e) × (is_reaped k (front_of e.pending) (waited k (front_of e.pending) timeout s) ≡ false)
wait-vain k timeout s s' e e' some is = none-found k (waited k (front_of e.pending) timeout s) s' e e' some is

pub IsLater-same : (a : BusState) → IsLater a a
IsLater-same a = record { past = record { more = []; is = refl }; clock = omega arith; owner = refl; keys = refl }

pub IsLater-trans : (a b c : BusState) → IsLater a b → IsLater b c → IsLater a c
IsLater-trans a b c x y =
    record {
      past = record { more = y.past.more ++ x.past.more; is = y.past.is ∙ ap (λ l. y.past.more ++ l) x.past.is ∙ sym (append_assoc y.past.more x.past.more a.past) };
      clock = omega arith;
      owner = y.owner ∙ x.owner;
      keys = y.keys ∙ x.keys;
    }

pub GoesOn-trans : (a b c : BusState) → GoesOn a b → GoesOn b c → GoesOn a c
GoesOn-trans a b c x y =
    record {
      past = record { more = y.past.more ++ x.past.more; is = y.past.is ∙ ap (λ l. y.past.more ++ l) x.past.is ∙ sym (append_assoc y.past.more x.past.more a.past) };
      clock = omega arith;
      left = omega arith;
    }

pub GoesOn-same : (a : BusState) → GoesOn a a
GoesOn-same a = record { past = record { more = []; is = refl }; clock = omega arith; left = omega arith }

Falls-le : (turn : Turn) (old new : ℕ) → Falls turn old new → new ≤ old
Falls-le Stepped old new less = omega arith
Falls-le Reaped old new less = omega arith
Falls-le TimeUp old new le = le

pub GoesOn-turn : (turn : Turn) (old new : BusState) → IsLater old new → Falls turn old.turns_left new.turns_left → GoesOn old new
GoesOn-turn turn old new later falls = record { past = later.past; clock = later.clock; left = Falls-le turn old.turns_left new.turns_left falls }

-- what a look at the clock tells
pub late_if : (t a b now now' start : ℕ) → t ≤ now - start → now ≡ now' → now' ≡ a → start ≡ b → nat_le t (a - b) ≡ true
late_if t a b now now' start late x y z = le-leb t (a - b) (omega arith)

pub early_if : (t a b now now' start : ℕ) → now - start < t → now ≡ now' → now' ≡ a → start ≡ b → nat_le t (a - b) ≡ false
early_if t a b now now' start early x y z = elim (leb_tells t (a - b)) [ inl w ↦ (let le : t ≤ a - b = w.1 in absurd (omega arith)) | inr w ↦ w.0 ]

pub Falls-strict : (turn : Turn) (old new : ℕ) → time_is_up turn ≡ false → Falls turn old new → new < old
Falls-strict Stepped old new is less = less
Falls-strict Reaped old new is less = less
Falls-strict TimeUp old new is le = absurd (cc)

pub up-is : (turn : Turn) → time_is_up turn ≡ true → turn ≡ TimeUp
up-is Stepped is = absurd (cc)
up-is Reaped is = absurd (cc)
up-is TimeUp is = refl

pub moved_if : (t now now' a start s : ℕ) → t ≤ now - start → now ≡ now' → now' ≡ a → start ≡ s → 0 < t → s < a
moved_if t now now' a start s late x y z some = omega arith
