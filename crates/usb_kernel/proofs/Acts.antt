-- Events that act.
use Rattle.std.proofs.Common.{◌≡◌, ℕ, zero, suc, ◌+◌, ◌*◌, ◌<◌, Bool, true, false, ◌||◌, List, [], ◌∷◌, length, Some, if◌then◌else◌, refl, ap, inl, inr, arith}
use Rattle.std.specs.Prelude.{◌==◌, is_some}
use Rattle.std.proofs.Math.Nat.{mul-mod_left}
use Rattle.std.proofs.lemmas.Bool.{cases_Bool, eq-eqb, lt-ltb}
use Rattle.usb_kernel_devices.specs.declared.devices.DeviceState.{DeviceState}
use Rattle.usb_kernel_devices.specs.Devices.{plugged_device}
use Rattle.usb_kernel.specs.declared.event.Event.{Event}
use Rattle.usb_kernel.specs.declared.event.Event.TheVariants.{Reap, Unplug}
use Rattle.usb_kernel.specs.declared.event.Body.{Body}
use Rattle.usb_kernel.specs.declared.event.Body.TheVariants.{Wanted, Sent}
use Rattle.usb_kernel.specs.declared.submission.Submission.{Submission}
use Rattle.usb_kernel.specs.declared.submission.Done.{Done}
use Rattle.usb_kernel.specs.Tickets.{tickets}
use Rattle.usb_kernel.specs.Submissions.{body_of, submit_event, refuse_event, WantsWhole, IsWhole}
use Rattle.usb_kernel.specs.Discards.{is_unfinished, after_discard}
use Rattle.usb_kernel.specs.Completions.{reapable}
use Rattle.usb_kernel.specs.WholePackets.{is_whole}
use Rattle.usb_kernel.specs.Timers.{due, discarded_in_order, timer_turned}
use Rattle.usb_kernel.specs.Acts.{wants_whole, acts, EachActs}
use Rattle.usb_kernel.specs.KernelFacts.{GoneAreUnplugged}
use Rattle.usb_kernel.proofs.Gone.{here-not_gone}

-- where an event was appended, what it is appended for was so
pub was-so : (b : Bool) (event : Event) (past : List Event) → (if b then event ∷ past else past) ≡ event ∷ past → b ≡ true
was-so true event past more = refl
was-so false event past more = absurd (let longer : length past ≡ length (event ∷ past) = ap length more in omega arith)

-- a body that wants whole packets
multiple : (m more : ℕ) → 0 < m → is_whole m ((more + 1) * m) ≡ true
multiple m more some = rw (lt-ltb 0 m some, lt-ltb 0 ((more + 1) * m) (omega arith), mul-mod_left (more + 1) m) refl

wants-multiple : (m n more : ℕ) → (more + 1) * m ≡ n → (n == m || is_whole m n) ≡ true
wants-multiple zero n more is = let none : n ≡ 0 = omega (arith, is) in rw none refl
wants-multiple (suc m) n more is =
    rw (← is, multiple (suc m) more (omega arith)) (elim ((more + 1) * suc m == suc m) as (λ v. (v || true) ≡ true) [ true ↦ refl | false ↦ refl ])

wants-whole : (m : ℕ) (body : Body) → WantsWhole m body → wants_whole m body ≡ true
wants-whole m (Wanted n) wants = wants-multiple m n wants.0 wants.1
wants-whole m (Sent bytes) wants = refl

-- the next submission, refused or not, acts
pub submit-acts : (past : List Event) (ds : List DeviceState) (s : Submission) → GoneAreUnplugged past ds → is_some (plugged_device ds s.device) ≡ true → IsWhole s → acts past (submit_event (length (tickets past)) s) ≡ true
submit-acts past ds s kept here whole =
    rw (eq-eqb (length (tickets past)) (length (tickets past)) refl, here-not_gone past ds s.device kept here, wants-whole s.maximum (body_of s.endpoint s.buffer) whole) refl

pub refuse-acts : (past : List Event) (s : Submission) (errno : ℕ) → acts past (refuse_event (length (tickets past)) s errno) ≡ true
refuse-acts past s errno = eq-eqb (length (tickets past)) (length (tickets past)) refl

-- and so does a reap of a ticket that has a completion, and an unplug of a plugged device
pub reap-acts : (past : List Event) (t : ℕ) (done : Done) → reapable past t ≡ Some done → acts past (Reap t) ≡ true
reap-acts past t done some = rw some refl

pub unplug-acts : (past : List Event) (ds : List DeviceState) (d : ℕ) → GoneAreUnplugged past ds → is_some (plugged_device ds d) ≡ true → acts past (Unplug d) ≡ true
unplug-acts past ds d kept here = rw (here-not_gone past ds d kept here) refl

-- a discard leaves a journal of which each event acts, and the turn of the timer too
pub acts-discard : (past : List Event) (t : ℕ) → EachActs past → EachActs (after_discard past t)
acts-discard past t each =
    elim (cases_Bool (is_unfinished past t)) [
      | inl some ↦ rw some (some, each)
      | inr none ↦ rw none each
    ]

acts-in_order : (past : List Event) (ts : List ℕ) → EachActs past → EachActs (discarded_in_order past ts)
acts-in_order past [] each = each
acts-in_order past (t ∷ ts) each = acts-in_order (after_discard past t) ts (acts-discard past t each)

pub acts-turn : (clock : ℕ) (past : List Event) → EachActs past → EachActs (timer_turned clock past)
unfolding timer_turned
acts-turn clock past each = acts-in_order past (due past clock) each
