-- A packet that is asked for and waited for is one ticket.
use Rattle.std.proofs.Common.{ℕ, arith, ◌≡◌, ◌≢◌, ◌∙◌, ◌+◌, ◌<◌, ◌≤◌, ◌⊎◌, inl, inr, Bool, true, false, List, [], ◌∷◌, ◌++◌, length, ap, sym, subst, refl, Option, Some, None}
use Rattle.std.specs.Prelude.{is_ok, IsOk, IsSome, IfSome}
use Rattle.std.specs.Option.{option_map}
use Rattle.std.proofs.lemmas.Option.{none-some, same_Some}
use Rattle.std.proofs.lemmas.Bool.{ne_eqb}
use Rattle.usb_xfer.specs.BufferState.{BufferState}
use Rattle.usb_xfer.specs.declared.transfer.Completion.{Completion}
use Rattle.usb_xfer.specs.TransferStatus.{status_of}
use Rattle.usb_kernel_devices.specs.Errnos.{IsErrno}
use Rattle.usb_kernel.specs.declared.event.Event.{Event}
use Rattle.usb_kernel.specs.declared.submission.Done.{Done}
use Rattle.usb_kernel.specs.declared.submission.Submission.{Submission}
use Rattle.usb_kernel.specs.Tickets.{tickets}
use Rattle.usb_kernel.specs.Extends.{Extends}
use Rattle.usb_kernel.specs.Completions.{completion}
use Rattle.usb_kernel.specs.Submits.{submit_or_refuse}
use Rattle.usb_kernel.specs.TransferCompletions.{completion_of, transfer_completion}
use Rattle.usb_kernel.proofs.Extends.{extends-trans, completion-stays}
use Rattle.usb_kernel.proofs.Completions.{completion-submit, completion-fresh, completion-refused}
use Rattle.usb_device_endpoint.specs.BusState.{BusState}
use Rattle.usb_device_endpoint.specs.EndpointState.{EndpointState, route_of}
use Rattle.usb_device_endpoint.specs.Routes.{submission_of}
use Rattle.usb_device_endpoint.specs.Submits.{Enters, entered}
use Rattle.usb_device_endpoint.specs.Later.{GoesOn}
use Rattle.usb_device_endpoint.specs.Waits.{Polled, front_found, front_of, taken_if, polled_of, polled, waited, wait_next, FoundWhy}
use Rattle.usb_device_host.specs.HostState.{HostState}
use Rattle.usb_device_host.specs.HostBus.{bus_of}
use Rattle.usb_device_host.specs.HostCalls.{host_calls}
use Rattle.usb_device_host.proofs.CallFrames.{bus-taken}
use Rattle.usb_device_host.proofs.CountLemmas.{entered-count, waited-count}
use Rattle.example_keyboard.specs.Reading.{BringsOne}

-- a completion that has come stays
stays-at : (old new : List Event) (t : ℕ) (o : Option Done) → Extends old new → completion old t ≡ o → IsSome (option_map completion_of o) →
    option_map completion_of (completion new t) ≡ option_map completion_of o
stays-at old new t None extends at some = absurd (cc)
stays-at old new t (Some done) extends at some = ap (option_map completion_of) (completion-stays old new t done extends at)

pub completion-lasts : (old new : List Event) (t : ℕ) → Extends old new → IsSome (transfer_completion old t) →
    transfer_completion new t ≡ transfer_completion old t
unfolding transfer_completion
completion-lasts old new t extends some = stays-at old new t (completion old t) extends refl some

-- what the poll behind a wait leaves of the journal, and finds in it
record Finds (mid new : HostState) (t : ℕ) (found : Option Completion) : Type 0 where
  past : new.kernel.past ≡ mid.kernel.past
  completion : transfer_completion new.kernel.past t ≡ found

finds-at : (mid new : HostState) (t : ℕ) (found : Option Completion) → new.kernel.past ≡ mid.kernel.past →
    transfer_completion mid.kernel.past t ≡ found → Finds mid new t found
finds-at mid new t found past at =
    record { past = past; completion = ap (λ (past : List Event). transfer_completion past t) past ∙ at }

finds-if : (mid new : HostState) (e e' : EndpointState) (t : ℕ) (found o : Option Completion) →
    transfer_completion mid.kernel.past t ≡ o → taken_if host_calls mid e t [] o ≡ front_found found new e' → Finds mid new t found
finds-if mid new e e' t found None at is =
    finds-at mid new t found (ap (λ (p : Polled HostState). p.bus.kernel.past) (sym is))
    (at ∙ ap (λ (p : Polled HostState). p.completion) is)
finds-if mid new e e' t found (Some c) at is =
    finds-at mid new t found
    (ap (λ (p : Polled HostState). p.bus.kernel.past) (sym is) ∙ ap (λ (b : BusState). b.past) (bus-taken mid t))
    (at ∙ ap (λ (p : Polled HostState). p.completion) is)

finds : (mid new : HostState) (e e' : EndpointState) (t : ℕ) (found : Option Completion) → e.pending ≡ t ∷ [] →
    polled host_calls mid e ≡ front_found found new e' → Finds mid new t found
finds mid new e e' t found one is =
    finds-if mid new e e' t found (transfer_completion mid.kernel.past t) refl
    (subst (λ (ts : List ℕ). polled_of host_calls mid e ts ≡ front_found found new e') one is)

-- a ticket whose completion comes with it was refused, and did not go well
refused-fails : (errno : ℕ) → 1 ≤ errno → IsOk (status_of true errno) → ⊥
refused-fails errno some ok =
    let apart : errno ≢ 0 = λ same. omega arith in
    let failed : is_ok (status_of true errno) ≡ false = rw (ne_eqb errno 0 apart) refl in
    cc (failed, ok)

at_once-fails : (past : List Event) (s : Submission) (refusal : Option ℕ) (c : Completion) → IfSome refusal IsErrno →
    transfer_completion (submit_or_refuse (length (tickets past)) s refusal ∷ past) (length (tickets past)) ≡ Some c → IsOk c.status → ⊥
unfolding transfer_completion
at_once-fails past s None c known at ok =
    let none : completion (submit_or_refuse (length (tickets past)) s None ∷ past) (length (tickets past)) ≡ None =
    completion-submit past _ _ _ _ _ _ _ (length (tickets past)) ∙ completion-fresh past (length (tickets past)) (omega arith) in
    none-some c (sym (ap (option_map completion_of) none) ∙ at)
at_once-fails past s (Some errno) c known at ok =
    let same = same_Some _ c (sym (ap (option_map completion_of) (completion-refused past s (length (tickets past)) errno)) ∙ at) in
    refused-fails errno known.0 (ap (λ (c : Completion). is_ok c.status) same ∙ ok)

-- so where it went well a turn was made
turn-made : (before mid new : List Event) (s : Submission) (refusal : Option ℕ) (few many : ℕ) (found : Option Completion) →
    IfSome refusal IsErrno → mid ≡ submit_or_refuse (length (tickets before)) s refusal ∷ before → Extends mid new →
    transfer_completion new (length (tickets before)) ≡ found →
    IfSome found (λ _. IsSome (transfer_completion mid (length (tickets before))) ⊎ (few < many)) →
    IfSome found (λ c. IsOk c.status → few < many)
turn-made before mid new s refusal few many None known is extends at why = tt
turn-made before mid new s refusal few many (Some c) known is extends at why = λ ok.
    elim why [
      | inl there ↦
          let same : transfer_completion mid (length (tickets before)) ≡ Some c =
          sym (completion-lasts mid new (length (tickets before)) extends there) ∙ at in
          absurd (at_once-fails before s refusal c known (ap (λ (past : List Event). transfer_completion past (length (tickets before))) (sym is) ∙ same) ok)
      | inr fewer ↦ fewer
    ]

more-turns : (found : Option Completion) (few mid many : ℕ) → mid ≤ many →
    IfSome found (λ c. IsOk c.status → few < mid) → IfSome found (λ c. IsOk c.status → few < many)
more-turns None few mid many le made = tt
more-turns (Some c) few mid many le made = λ ok. let fewer = made ok in omega arith

why-front : (old new : BusState) (t u : ℕ) (found : Option Completion) → t ≡ u → IfSome found (λ _. FoundWhy old new t) → IfSome found (λ _. FoundWhy old new u)
why-front old new t u found same why = subst (λ (t : ℕ). IfSome found (λ _. FoundWhy old new t)) same why

pub brings : (first mid new : HostState) (e e' e'' : EndpointState) (b : BufferState) (valid : Bool) (timeout : ℕ) (found : Option Completion) →
    e.pending ≡ [] → e' ≡ record e { pending = e.pending ++ length (tickets first.kernel.past) ∷ [] } →
    mid ≡ entered host_calls first e None b → Enters (bus_of first) (bus_of mid) (route_of e) None b valid →
    (bus_of mid).turns_left ≤ (bus_of first).turns_left →
    wait_next host_calls timeout mid e' ≡ front_found found new e'' →
    IfSome found (λ _. FoundWhy (bus_of mid) (bus_of new) (front_of e'.pending)) →
    GoesOn (bus_of mid) (bus_of new) → BringsOne first new found
brings first mid new e e' e'' b valid timeout found none next is enters left waits why goes =
    let t = length (tickets first.kernel.past) in
    let one : e'.pending ≡ t ∷ [] = ap (λ (e : EndpointState). e.pending) next ∙ ap (λ ts. ts ++ t ∷ []) none in
    let at = waited host_calls (front_of e'.pending) timeout mid in
    let found_at = finds at new e' e'' t found one waits in
    let added : length (tickets mid.kernel.past) ≡ t + 1 = ap (λ (h : HostState). length (tickets h.kernel.past)) is ∙ (entered-count first e None b).past in
    let waited_on = (waited-count mid (front_of e'.pending) timeout).past in
    record {
      past = extends-trans first.kernel.past mid.kernel.past new.kernel.past
          (record { more = _ ∷ []; is = enters.ticket.past }) goes.past;
      ticket = ap (λ (past : List Event). length (tickets past)) found_at.past ∙ (waited_on ∙ added);
      completion = found_at.completion;
      turn = more-turns found (bus_of new).turns_left (bus_of mid).turns_left (bus_of first).turns_left left
          (turn-made first.kernel.past mid.kernel.past new.kernel.past (submission_of (route_of e) None b) enters.refusal
          (bus_of new).turns_left (bus_of mid).turns_left found enters.ticket.errno enters.ticket.past goes.past found_at.completion
          (why-front (bus_of mid) (bus_of new) (front_of e'.pending) t found (ap front_of one) why));
    }
