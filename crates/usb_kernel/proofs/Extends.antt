-- What stays while a journal goes on.
use Rattle.std.proofs.Common.{◌≡◌, ◌∙◌, ℕ, List, [], ◌∷◌, ◌++◌, Bool, true, false, cond, Option, Some, None, refl, ap, sym, subst, append_assoc, slice_get, length, inl, inr}
use Rattle.std.specs.Prelude.{is_some, nat_le, nat_lt, ◌&&◌}
use Rattle.std.proofs.lemmas.Option.{none-some}
use Rattle.std.proofs.lemmas.Bool.{cases_Bool, cases_lt}
use Rattle.usb_kernel.specs.declared.event.Event.{Event}
use Rattle.usb_kernel.specs.declared.event.Event.TheVariants.{Packet, Ack, Echo, Fail, Discard, Reap, Unplug}
use Rattle.usb_kernel_devices.specs.declared.devices.DeviceState.{DeviceState}
use Rattle.usb_kernel_devices.specs.declared.step.KernelStep.{KernelStep}
use Rattle.usb_kernel_devices.specs.declared.step.KernelStep.TheVariants as step
use Rattle.usb_kernel.specs.declared.submission.Done.{Done}
use Rattle.usb_kernel.specs.Tickets.{Ticket, tickets}
use Rattle.usb_kernel.specs.Fates.{Fate, finish, reap}
use Rattle.usb_kernel.specs.Journal.{fate, oldest}
use Rattle.usb_kernel.specs.Completions.{completion, completion_if, reapable}
use Rattle.usb_kernel_devices.specs.declared.step.KernelCall.TheVariants as call
use Rattle.usb_kernel_devices.specs.Devices.{plugged_device, unplugged}
use Rattle.usb_kernel_devices.specs.Claims.{no_rules}
use Rattle.usb_kernel.specs.Calls.{errno_of, called, reset_by, after_reset}
use Rattle.usb_kernel.specs.Value.{KernelState}
use Rattle.usb_kernel.specs.Steps.{stepped, after_reap_of, reaped_by, after_discard, is_unfinished}
use Rattle.usb_kernel.specs.Timers.{due, discarded_in_order, timer_turned}
use Rattle.usb_kernel.specs.Extends.{Extends}
use Rattle.usb_kernel.proofs.Final.{reaped_is_final}
use Rattle.usb_kernel.proofs.Fresh.{fate-fresh}
use Rattle.usb_kernel.proofs.Rules.{KeepsAlways, event-keeps-always, slice_get-here}
use Rattle.usb_kernel.proofs.Order.{tickets-stay}

pub extends-same : (past : List Event) → Extends past past
extends-same past = record { more = []; is = refl }

pub extends-event : (past : List Event) (event : Event) → Extends past (event ∷ past)
extends-event past event = record { more = event ∷ []; is = refl }

pub extends-if : (b : Bool) (past : List Event) (event : Event) → Extends past (cond b (event ∷ past) past)
extends-if true past event = extends-event past event
extends-if false past event = extends-same past

extends-reap_of : (past : List Event) (o : Option ℕ) → Extends past (after_reap_of past o)
extends-reap_of past None = extends-same past
extends-reap_of past (Some t) = extends-if (is_some (reapable past t)) past (Reap t)

pub extends-trans : (a b c : List Event) → Extends a b → Extends b c → Extends a c
extends-trans a b c first second =
    record { more = second.more ++ first.more; is = second.is ∙ (ap (λ past. second.more ++ past) first.is ∙ sym (append_assoc second.more first.more a)) }

pub extends-discard : (past : List Event) (t : ℕ) → Extends past (after_discard past t)
extends-discard past t = extends-if (is_unfinished past t) past (Discard t)

pub extends-discarded_in_order : (past : List Event) (ts : List ℕ) → Extends past (discarded_in_order past ts)
extends-discarded_in_order past [] = extends-same past
extends-discarded_in_order past (t ∷ ts) = extends-trans past (after_discard past t) (discarded_in_order (after_discard past t) ts) (extends-discard past t) (extends-discarded_in_order (after_discard past t) ts)

pub extends-turned : (clock : ℕ) (past : List Event) → Extends past (timer_turned clock past)
unfolding timer_turned
extends-turned clock past = extends-discarded_in_order past (due past clock)

pub extends-step : (devices : List DeviceState) (clock : ℕ) (past : List Event) (s : KernelStep) → Extends past (stepped devices clock past s)
extends-step devices clock past (step.Packet d e b) = extends-if (nat_le 128 e && is_some (oldest past d e)) past (Packet d e b)
extends-step devices clock past (step.Ack d e) = extends-if (nat_lt e 128 && is_some (oldest past d e)) past (Ack d e)
extends-step devices clock past (step.Echo d o i) = extends-if (nat_lt o 128 && nat_le 128 i && is_some (oldest past d o) && is_some (oldest past d i)) past (Echo d o i)
extends-step devices clock past (step.Fail d e errno) = extends-if (is_some (oldest past d e)) past (Fail d e errno)
extends-step devices clock past (step.Unplug d) = extends-if (is_some (plugged_device devices d)) past (Unplug d)
extends-step devices clock past (step.Clock to) = extends-same past
extends-step devices clock past step.Timer = extends-turned clock past
extends-step devices clock past (step.Reap ticket) = extends-reap_of past (reaped_by past ticket)
extends-step devices clock past (step.Refuse d call errno) = extends-same past

pub extends-reset : (k : KernelState) (d : ℕ) → Extends k.past (after_reset k d).past
unfolding after_reset called
extends-reset k d =
    elim (errno_of k d call.Reset no_rules) as (λ e. Extends k.past (reset_by (called k d call.Reset no_rules unplugged) d e).past) [
      | Some errno ↦ extends-same k.past
      | None ↦ extends-event k.past (Unplug d)
    ]

-- what each event keeps, stays
pub kept-along : (Q : List Event → Type 0) → ((past : List Event) (event : Event) → Q past → Q (event ∷ past)) → (old new : List Event) → Extends old new → Q old → Q new
kept-along Q keeps old new extends q = subst Q (sym extends.is) (all extends.more)
  where
    all : (more : List Event) → Q (more ++ old)
    all [] = q
    all (event ∷ more) = keeps (more ++ old) event (all more)

pub ticket-stays : (old new : List Event) (t : ℕ) (s : Ticket) → Extends old new → slice_get (tickets old) t ≡ Some s → slice_get (tickets new) t ≡ Some s
ticket-stays old new t s extends at =
    kept-along (λ past. slice_get (tickets past) t ≡ Some s) (λ past event here. tickets-stay past event t s here) old new extends at

-- an errno stays
HasErrno-keeps : (errno : ℕ) (s : Ticket) → KeepsAlways (λ f. f.status ≡ Some errno) s
HasErrno-keeps errno s = record {
  packet = λ f b none some. absurd (none-some errno (sym none ∙ some));
  ack = λ f none some. absurd (none-some errno (sym none ∙ some));
  ends = λ f n any some. finish-errno n f some;
  reaps = λ f some. reap-errno s f some;
}
  where
    finish-errno : (n : ℕ) (f : Fate) → f.status ≡ Some errno → (finish n f).status ≡ Some errno
    finish-errno n f some = rw some refl

    reap-errno : (s : Ticket) (f : Fate) → f.status ≡ Some errno → (reap s f).status ≡ Some errno
    reap-errno s f some = rw some refl

status-after : (past : List Event) (event : Event) (t errno : ℕ) (o : Option Ticket) → slice_get (tickets past) t ≡ o → (fate past t).status ≡ Some errno → (fate (event ∷ past) t).status ≡ Some errno
status-after past event t errno (Some s) at some = event-keeps-always (λ f. f.status ≡ Some errno) past event t s at (HasErrno-keeps errno s) some
status-after past event t errno None at some =
    elim (cases_lt t (length (tickets past))) [
      | inl within ↦ let here = slice_get-here (tickets past) t within in absurd (none-some here.0 (sym at ∙ here.1))
      | inr beyond ↦ absurd (none-some errno (sym (ap (λ (f : Fate). f.status) (fate-fresh past t beyond)) ∙ some))
    ]

pub status-stays : (old new : List Event) (t errno : ℕ) → Extends old new → (fate old t).status ≡ Some errno → (fate new t).status ≡ Some errno
status-stays old new t errno extends some =
    kept-along (λ past. (fate past t).status ≡ Some errno) (λ past event here. status-after past event t errno (slice_get (tickets past) t) refl here) old new extends some

pub reaped-stays : (old new : List Event) (t : ℕ) → Extends old new → (fate old t).reaped ≡ true → fate new t ≡ fate old t
reaped-stays old new t extends reaped =
    kept-along (λ past. fate past t ≡ fate old t) (λ past event same. reaped_is_final past event t (ap (λ (f : Fate). f.reaped) same ∙ reaped) ∙ same) old new extends refl

-- what has a completion is a reaped ticket
completion-of : (t : ℕ) (o : Option Ticket) (f : Fate) (done : Done) → completion_if t o f ≡ Some done → (s : Ticket) × (o ≡ Some s) × (f.reaped ≡ true)
completion-of t None f done some = absurd (none-some done some)
completion-of t (Some s) f done some =
    elim (cases_Bool f.reaped) [ inl reaped ↦ (s, refl, reaped) | inr not_yet ↦ absurd (none-some done (rw not_yet at some)) ]

pub completion-event : (past : List Event) (event : Event) (t : ℕ) (done : Done) → completion past t ≡ Some done → completion (event ∷ past) t ≡ Some done
unfolding completion
completion-event past event t done some =
    let is = completion-of t (slice_get (tickets past) t) (fate past t) done some in
    rw (tickets-stay past event t is.0 is.1, reaped_is_final past event t is.2) (rw is.1 at some)

pub completion-stays : (old new : List Event) (t : ℕ) (done : Done) → Extends old new → completion old t ≡ Some done → completion new t ≡ Some done
completion-stays old new t done extends some =
    kept-along (λ past. completion past t ≡ Some done) (λ past event here. completion-event past event t done here) old new extends some
