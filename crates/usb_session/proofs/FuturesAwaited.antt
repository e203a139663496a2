-- Futures that are open under a name: each has its ticket, and its deadline is the ticket's.
use Rattle.std.proofs.Common.{◌≡◌, ℕ, arith, ◌+◌, true, false, List, [], ◌∷◌, ◌++◌, map, length, Option, Some, inl, inr, refl, ap, sym, ◌∙◌, subst, append-nil}
use Rattle.std.proofs.lemmas.Bool.{cases_eq}
use Rattle.std.proofs.lemmas.Option.{none-some, same_Some}
use Rattle.usb_kernel.specs.Extends.{Extends}
use Rattle.usb_xfer.specs.declared.transfer.TransferData.{TransferData}
use Rattle.usb_device_endpoint.specs.Waits.{is_reaped}
use Rattle.usb_device_host.specs.HostState.{HostState}
use Rattle.usb_device_host.specs.Controls.{control_submission}
use Rattle.usb_kernel.specs.Timers.{deadline_after}
use Rattle.usb_device_host.specs.HostAwaits.{deadline_of}
use Rattle.usb_device_host.specs.HostCalls.{host_calls}
use Rattle.usb_device_host.proofs.ControlLemmas.{started-due}
use Rattle.usb_device_host.proofs.StartedLemmas.{Parts}
use Rattle.usb_device.specs.Futures.{FutureState, fresh_future}
use Rattle.usb_session_calls.specs.Names.{named, is_free, freed, set_name}
use Rattle.usb_session_calls.proofs.NameLemmas.{named-freed, named-freed_other, named-set, named-set_other, length-freed, length-set_name}
use Rattle.usb_session_calls.specs.Answer.{Answer}
use Rattle.usb_session.specs.Served.{ClosedEndpoint}
use Rattle.usb_session.specs.ControlAnswers.{listed}
use Rattle.usb_session_calls.proofs.FutureLemmas.{deadline-stays, unfound}
use Rattle.usb_session.proofs.TimesLemmas.{one, times, times-append, times_awaited, awaited-freed, awaited-set}
use Rattle.usb_session.proofs.Views.{View, view_of, tickets_seen, hosted, future_started, without_future_of}
use Rattle.usb_session.proofs.Does.{ControlMove, Handed, Parted, handed_of, parted_of, handed-append, parted-append, handed-parted, parted-parted, Acts, Settles, goes, opens, submits, reads, starts, controls, frees, takes, settles, still, closes, moves}
use Rattle.usb_session.proofs.StepLemmas.{Inv, step-quiet, step-open, step-push, step-take, step-close, step-move, step-start, step-control, step-free}

-- a future has its ticket, and while that is not reaped its deadline
pub record Awaits (h : HostState) (f : FutureState) : Type 0 where
  pub ticket : ℕ
  pub is : f.ticket ≡ Some ticket
  pub due : is_reaped host_calls ticket h ≡ false → deadline_of h.kernel.past ticket ≡ Some f.deadline

pub awaits-on : (old new : HostState) (f : FutureState) → Extends old.kernel.past new.kernel.past → Awaits old f → Awaits new f
awaits-on old new f later was =
    record {
      ticket = was.ticket;
      is = was.is;
      due = λ none. deadline-stays old.kernel.past new.kernel.past was.ticket f.deadline later (was.due (unfound old.kernel.past new.kernel.past was.ticket later none));
    }

-- each that is open
abbrev pub AllAwait : View → Type 0
AllAwait state = (n : ℕ) (f : FutureState) → named state.futures n ≡ Some f → Awaits state.host f

-- over a change of the state: each that is open has its ticket; of those that were open or handed in each is open still, or parted with
pub record Parting (state next : View) (ms : List ControlMove) : Type 0 where
  pub awaits : AllAwait next
  pub adds : (t : ℕ) → times t (parted_of ms) + times_awaited t next.futures ≡ times_awaited t state.futures + times t (handed_of ms)
  pub names : length next.futures ≡ length state.futures

pub parting-then : {a b c : View} {ms ns : List ControlMove} → Parting a b ms → Parting b c ns → Parting a c (ms ++ ns)
parting-then {a} {b} {c} {ms} {ns} first second =
    record {
      awaits = second.awaits;
      adds = λ t.
          let one_ = first.adds t in
          let two = second.adds t in
          let parted : times t (parted_of (ms ++ ns)) ≡ times t (parted_of ms) + times t (parted_of ns) = ap (times t) (parted-append ms ns) ∙ times-append t (parted_of ms) (parted_of ns) in
          let handed : times t (handed_of (ms ++ ns)) ≡ times t (handed_of ms) + times t (handed_of ns) = ap (times t) (handed-append ms ns) ∙ times-append t (handed_of ms) (handed_of ns) in
          omega arith;
      names = second.names ∙ first.names;
    }

pub parting-same : (state next : View) → next.futures ≡ state.futures → Extends state.host.kernel.past next.host.kernel.past → AllAwait state → Parting state next []
parting-same state next same later all =
    record {
      awaits = λ n f is. awaits-on state.host next.host f later (all n f (sym (ap (λ (l : List (Option FutureState)). named l n) same) ∙ is));
      adds = λ t. let futures : times_awaited t next.futures ≡ times_awaited t state.futures = ap (times_awaited t) same in omega arith;
      names = ap (λ (l : List (Option FutureState)). length l) same;
    }

-- a control transfer is handed in, and its future is open under a name that was free
parting-start : (state : View) (n : ℕ) (request : TransferData) (timeout device : ℕ) → Inv state → is_free state.futures n ≡ true → AllAwait state → Parting state (future_started state n request timeout device) (Handed (tickets_seen state) ∷ [])
parting-start state n request timeout device inv free all =
    let m = tickets_seen state in
    let next = future_started state n request timeout device in
    let x = fresh_future state.host request timeout in
    let fs = set_name state.futures n x in
    let later = (step-start state n request timeout device inv free).goes.past in
    let now : Awaits next.host x = record { ticket = m; is = refl; due = λ none. started-due state.host (control_submission state.host device request timeout) (deadline_after state.host.kernel.clock timeout) refl none } in
    record {
      awaits = λ k g is. elim (cases_eq k n) [
        | inl same ↦
            let entry : x ≡ g = same_Some x g (sym (named-set state.futures n x free) ∙ (ap (named fs) (sym same) ∙ is)) in
            subst (Awaits next.host) entry now
        | inr apart ↦ awaits-on state.host next.host g later (all k g (sym (named-set_other state.futures n k x apart) ∙ is))
      ];
      adds = λ t. let set = awaited-set t state.futures n x free in omega arith;
      names = length-set_name state.futures n x;
    }

-- it is awaited, and its ticket taken at once
parting-control : (state next : View) (t : ℕ) → next.futures ≡ state.futures → Extends state.host.kernel.past next.host.kernel.past → AllAwait state → Parting state next (Handed t ∷ Parted t ∷ [])
parting-control state next t same later all =
    let keeps = parting-same state next same later all in
    record { awaits = keeps.awaits; adds = λ u. let adds = keeps.adds u in omega arith; names = keeps.names }

-- the host parts with the ticket of a future
parting-free : (state : View) (n : ℕ) (f : FutureState) (host : HostState) → named state.futures n ≡ Some f → Parts state.host host f.ticket → AllAwait state → Parting state (without_future_of state host n) (map Parted (listed f.ticket))
parting-free state n f host here parts all =
    let fs = freed state.futures n in
    record {
      awaits = λ m g is. elim (cases_eq m n) [
        | inl same ↦ absurd (none-some g (sym (named-freed state.futures n) ∙ (ap (named fs) (sym same) ∙ is)))
        | inr apart ↦ awaits-on state.host host g parts.past (all m g (sym (named-freed_other state.futures n m apart) ∙ is))
      ];
      adds = λ u.
          let freed_one = awaited-freed u state.futures n f here in
          let parted : times u (parted_of (map Parted (listed f.ticket))) ≡ times u (listed f.ticket) = ap (times u) (parted-parted (listed f.ticket)) in
          let handed : times u (handed_of (map Parted (listed f.ticket))) ≡ 0 = ap (λ ms. times u (handed_of ms)) (sym (append-nil (map Parted (listed f.ticket)))) ∙ ap (times u) (handed-parted (listed f.ticket) []) in
          omega arith;
      names = length-freed state.futures n;
    }

-- so over what is left for an answer to do, and over all that it does
settles-parting : {last v : View} {closed : List ClosedEndpoint} → Settles last v closed → Inv v → AllAwait v → Parting v last []
settles-parting {last} {v} (still quiet) inv all = parting-same v last quiet.futures quiet.keeps.past all
settles-parting {last} {v} (closes {next = next} e h lines here changes rest) inv all =
    let step = step-close e h lines inv here changes in
    let first = parting-same v next changes.futures step.goes.past all in
    parting-then first (settles-parting rest step.inv first.awaits)
settles-parting {last} {v} (moves {next = next} from to h g here free same read moved rest) inv all =
    let step = step-move from to h g inv here free same read moved in
    let first = parting-same v next (moved.put.futures ∙ moved.gone.futures) step.goes.past all in
    parting-then first (settles-parting rest step.inv first.awaits)

pub acts-parting : {a : Answer} {v : View} {closed : List ClosedEndpoint} {ms : List ControlMove} → Acts a v closed ms → Inv v → AllAwait v → Parting v (view_of a.state) ms
acts-parting {a} {v} (goes {next = mid} quiet rest) inv all =
    let first = parting-same v mid quiet.futures quiet.keeps.past all in
    parting-then first (acts-parting rest (step-quiet inv quiet).inv first.awaits)
acts-parting {a} {v} (reads {next = mid} e t ts h stream here front other changes rest) inv all =
    let step = step-take e t ts h inv here front changes in
    let first = parting-same v mid changes.futures step.goes.past all in
    parting-then first (acts-parting rest step.inv first.awaits)
acts-parting {a} {v} (opens {next = mid} e x free none fresh some changes rest) inv all =
    let step = step-open e x inv free none fresh some changes in
    let first = parting-same v mid changes.futures step.goes.past all in
    parting-then first (acts-parting rest step.inv first.awaits)
acts-parting {a} {v} (submits {next = mid} e deadline b h here changes rest) inv all =
    let step = step-push e deadline b h inv here changes in
    let first = parting-same v mid changes.futures step.goes.past all in
    parting-then first (acts-parting rest step.inv first.awaits)
acts-parting {a} {v} (starts n request timeout device free rest) inv all =
    let step = step-start v n request timeout device inv free in
    let first = parting-start v n request timeout device inv free all in
    parting-then first (acts-parting rest step.inv first.awaits)
acts-parting {a} {v} (controls host one adds rest) inv all =
    let step = step-control v host inv one (adds inv.count) in
    let first = parting-control v (hosted v host) (tickets_seen v) refl step.goes.past all in
    parting-then first (acts-parting rest step.inv first.awaits)
acts-parting {a} {v} (frees n f host here parts rest) inv all =
    let step = step-free v n f host inv here parts in
    let first = parting-free v n f host here parts all in
    parting-then first (acts-parting rest step.inv first.awaits)
acts-parting {a} {v} (takes {next = mid} e t ts h c here front came line changes quiet) inv all =
    let step = step-take e t ts h inv here front changes in
    let first = parting-same v mid changes.futures step.goes.past all in
    parting-then first (parting-same mid (view_of a.state) quiet.futures quiet.keeps.past first.awaits)
acts-parting {a} {v} (settles other rest) inv all = settles-parting rest inv all
