-- What a poll came to.
use Rattle.std.proofs.Common.{ℕ, arith, ◌<◌, ◌≡◌, ◌∙◌, true, false, List, [], ◌∷◌, length, Option, Some, None, refl, sym, ap}
use Rattle.std.proofs.lemmas.Option.{none-some, same_Some}
use Rattle.std.specs.Prelude.{is_some}
use Rattle.std.specs.Option.{option_map}
use Rattle.futures.specs.declared.task.Poll.{Poll}
use Rattle.usb_xfer.specs.declared.transfer.Completion.{Completion}
use Rattle.usb_xfer.specs.declared.transfer.TransferData.{TransferData}
use Rattle.usb_xfer.specs.Transfers.{completion_held}
use Rattle.usb_kernel.specs.declared.event.Event.{Event}
use Rattle.usb_device_endpoint.specs.BusCalls.{BusCalls}
use Rattle.usb_device_endpoint.specs.Values.{HoldsCompletion}
use Rattle.usb_kernel.specs.TransferCompletions.{transfer_completion}
use Rattle.usb_device_endpoint.specs.EndpointState.{EndpointState}
use Rattle.usb_device_endpoint.specs.Polls.{in_poll}
use Rattle.usb_device_endpoint.specs.Waits.{Polled, front_found, taken_if, polled_of, polled, front_of, is_reaped}

-- by what the journal has of the front
pub polled-took : {S : Type 0} (k : BusCalls S) (s s' : S) (e e' : EndpointState) (front : ℕ) (others : List ℕ) (c : Completion)
    → e.pending ≡ front ∷ others → transfer_completion (k.state s).past front ≡ Some c → s' ≡ k.taken s front → e' ≡ record e { pending = others }
    → polled k s e ≡ front_found (Some c) s' e'
polled-took k s s' e e' front others c was is bus endpoint = rw (bus, endpoint, was, is) refl

polled-left_as : {S : Type 0} (k : BusCalls S) (s s' : S) (e e' : EndpointState) (front : ℕ) (others : List ℕ)
    → e.pending ≡ front ∷ others → transfer_completion (k.state s).past front ≡ None → s' ≡ s → e' ≡ e
    → polled k s e ≡ front_found None s' e'
polled-left_as k s s' e e' front others was none bus endpoint = rw (bus, endpoint, was, none) refl

pub polled-left : {S : Type 0} (k : BusCalls S) (s s' : S) (e e' : EndpointState) (front : ℕ) (others : List ℕ)
    → e.pending ≡ front ∷ others → transfer_completion (k.state s).past front ≡ None → s' ≡ s → e' ≡ record e { pending = e'.pending } → e'.pending ≡ e.pending
    → polled k s e ≡ front_found None s' e'
polled-left k s s' e e' front others was none bus rest queue =
    polled-left_as k s s' e e' front others was none bus (rest ∙ ap (λ ts. record e { pending = ts }) queue)

came-of : (o : Option Completion) (value : Option TransferData) (v : TransferData) (c : Completion) → option_map (λ (v : TransferData). completion_held v.held) value ≡ option_map Some o → value ≡ Some v → completion_held v.held ≡ Some c → o ≡ Some c
came-of None value v c holds is held = absurd (none-some (completion_held v.held) (sym holds ∙ ap (option_map (λ (v : TransferData). completion_held v.held)) is))
came-of (Some d) value v c holds is held = same_Some (Some d) (completion_held v.held) (sym holds ∙ ap (option_map (λ (v : TransferData). completion_held v.held)) is) ∙ held

-- the value of a ticket that came is the completion that the journal has
pub value-came : (past : List Event) (t : ℕ) (value : Option TransferData) (v : TransferData) (c : Completion) → HoldsCompletion past t value → value ≡ Some v → completion_held v.held ≡ Some c → transfer_completion past t ≡ Some c
value-came past t value v c holds is held = came-of (transfer_completion past t) value v c holds is held

none-of : (o : Option Completion) (value : Option TransferData) → option_map (λ (v : TransferData). completion_held v.held) value ≡ option_map Some o → value ≡ None → o ≡ None
none-of None value holds none = refl
none-of (Some d) value holds none = absurd (none-some (Some d) (sym (sym holds ∙ ap (option_map (λ (v : TransferData). completion_held v.held)) none)))

pub value-none : (past : List Event) (t : ℕ) (value : Option TransferData) → HoldsCompletion past t value → value ≡ None → transfer_completion past t ≡ None
value-none past t value holds none = none-of (transfer_completion past t) value holds none

-- a poll that answered so
pub poll-is : {S : Type 0} (k : BusCalls S) (s s' : S) (e first e' : EndpointState) (r : Poll Completion) (o : Option Completion) → e ≡ first → polled k s e ≡ front_found o s' e' → in_poll r ≡ o → polled k s first ≡ front_found (in_poll r) s' e'
poll-is k s s' e first e' r o same is answer = ap (polled k s) (sym same) ∙ is ∙ ap (λ (o : Option Completion). front_found o s' e') (sym answer)

-- the poll of an endpoint that is what it was
pub polled-same : {S : Type 0} (k : BusCalls S) (s : S) (e first : EndpointState) (p : Polled S) → e ≡ first → polled k s e ≡ p → polled k s first ≡ p
polled-same k s e first p same is = rw (← same) is

none-taken : {S : Type 0} (k : BusCalls S) (s : S) (e : EndpointState) (front : ℕ) (others : List ℕ) (o : Option Completion) → is_some o ≡ false → taken_if k s e front others o ≡ front_found None s e
none-taken k s e front others None none = refl
none-taken k s e front others (Some c) none = absurd (cc)

none-polled : {S : Type 0} (k : BusCalls S) (s : S) (e : EndpointState) (ts : List ℕ) → is_reaped k (front_of ts) s ≡ false → polled_of k s e ts ≡ front_found None s e
none-polled k s e [] none = refl
none-polled k s e (t ∷ ts) none = none-taken k s e t ts (transfer_completion (k.state s).past t) none

-- where the front is not reaped nothing happens
pub polled-unreaped : {S : Type 0} (k : BusCalls S) (s : S) (e : EndpointState) → is_reaped k (front_of e.pending) s ≡ false → polled k s e ≡ front_found None s e
polled-unreaped k s e none = none-polled k s e e.pending none

-- whatever the endpoint is called then
pub polled-left_at : {S : Type 0} (k : BusCalls S) (s : S) (e e' : EndpointState) → is_reaped k (front_of e.pending) s ≡ false → e' ≡ e → polled k s e ≡ front_found None s e'
polled-left_at k s e e' none same = rw same (polled-unreaped k s e none)

taken-some : {S : Type 0} (k : BusCalls S) (s s' : S) (e e' : EndpointState) (front : ℕ) (others : List ℕ) (o : Option Completion) (c : Completion) → taken_if k s e front others o ≡ front_found (Some c) s' e' → is_some o ≡ true
taken-some k s s' e e' front others None c is = absurd (none-some c (ap (λ (p : Polled _). p.completion) is))
taken-some k s s' e e' front others (Some d) c is = refl

some-polled : {S : Type 0} (k : BusCalls S) (s s' : S) (e e' : EndpointState) (ts : List ℕ) (c : Completion) → polled_of k s e ts ≡ front_found (Some c) s' e' → is_reaped k (front_of ts) s ≡ true
some-polled k s s' e e' [] c is = absurd (none-some c (ap (λ (p : Polled _). p.completion) is))
some-polled k s s' e e' (t ∷ ts) c is = taken-some k s s' e e' t ts (transfer_completion (k.state s).past t) c is

-- a poll that took the front found it reaped
pub found-reaped : {S : Type 0} (k : BusCalls S) (s s' : S) (e e' : EndpointState) (c : Completion) → polled k s e ≡ front_found (Some c) s' e' → is_reaped k (front_of e.pending) s ≡ true
found-reaped k s s' e e' c is = some-polled k s s' e e' e.pending c is

taken-none : {S : Type 0} (k : BusCalls S) (s s' : S) (e e' : EndpointState) (front : ℕ) (others : List ℕ) (o : Option Completion) → taken_if k s e front others o ≡ front_found None s' e' → (s' ≡ s) × (e' ≡ e) × (is_some o ≡ false)
taken-none k s s' e e' front others None is = (sym (ap (λ (p : Polled _). p.bus) is), sym (ap (λ (p : Polled _). p.endpoint) is), refl)
taken-none k s s' e e' front others (Some d) is = absurd (none-some d (sym (ap (λ (p : Polled _). p.completion) is)))

nothing-polled : {S : Type 0} (k : BusCalls S) (s s' : S) (e e' : EndpointState) (ts : List ℕ) → 0 < length ts → polled_of k s e ts ≡ front_found None s' e' → (s' ≡ s) × (e' ≡ e) × (is_reaped k (front_of ts) s ≡ false)
nothing-polled k s s' e e' [] some is = absurd (omega arith)
nothing-polled k s s' e e' (t ∷ ts) some is = taken-none k s s' e e' t ts (transfer_completion (k.state s).past t) is

-- a poll that took nothing left all as it was
pub none-found : {S : Type 0} (k : BusCalls S) (s s' : S) (e e' : EndpointState) → 0 < length e.pending → polled k s e ≡ front_found None s' e' → (s' ≡ s) × (e' ≡ e) × (is_reaped k (front_of e.pending) s ≡ false)
none-found k s s' e e' some is = nothing-polled k s s' e e' e.pending some is

taken-one : {S : Type 0} (k : BusCalls S) (s s' : S) (e e' : EndpointState) (front : ℕ) (others : List ℕ) (o : Option Completion) (c : Completion) → taken_if k s e front others o ≡ front_found (Some c) s' e' → e' ≡ record e { pending = others }
taken-one k s s' e e' front others None c is = absurd (none-some c (ap (λ (p : Polled _). p.completion) is))
taken-one k s s' e e' front others (Some d) c is = sym (ap (λ (p : Polled _). p.endpoint) is)

-- where one was pending none is left
pub found-one : {S : Type 0} (k : BusCalls S) (s s' : S) (e e' : EndpointState) (t : ℕ) (c : Completion) → e.pending ≡ [] → polled k s (record e { pending = t ∷ [] }) ≡ front_found (Some c) s' e' → e' ≡ e
found-one k s s' e e' t c none is =
    taken-one k s s' (record e { pending = t ∷ [] }) e' t [] (transfer_completion (k.state s).past t) c is ∙ sym (ap (λ ts. record e { pending = ts }) none)

-- what is not there
pub option-none : {A : Type 0} (o : Option A) → is_some o ≡ false → o ≡ None
option-none None none = refl
option-none (Some x) none = absurd (cc)

-- what a poll that took the front says of it
pub record TookNext {S : Type 0} (k : BusCalls S) (old : S) (e : EndpointState) (c : Completion) (new : S) (next : EndpointState) : Type 0 where
  pub front : ℕ
  pub others : List ℕ
  pub was : e.pending ≡ front ∷ others
  pub completion_is : transfer_completion (k.state old).past front ≡ Some c
  pub next_is : next ≡ record e { pending = others }
  pub rest : new ≡ k.taken old front

took-at : {S : Type 0} (k : BusCalls S) (s s' : S) (e e' : EndpointState) (front : ℕ) (others : List ℕ) (o : Option Completion) (c : Completion) → e.pending ≡ front ∷ others → transfer_completion (k.state s).past front ≡ o
    → taken_if k s e front others o ≡ front_found (Some c) s' e' → TookNext k s e c s' e'
took-at k s s' e e' front others None c was at is = absurd (none-some c (ap (λ (p : Polled _). p.completion) is))
took-at k s s' e e' front others (Some d) c was at is =
    record {
      front = front;
      others = others;
      was = was;
      completion_is = at ∙ ap (λ (p : Polled _). p.completion) is;
      next_is = sym (ap (λ (p : Polled _). p.endpoint) is);
      rest = sym (ap (λ (p : Polled _). p.bus) is);
    }

took-of : {S : Type 0} (k : BusCalls S) (s s' : S) (e e' : EndpointState) (ts : List ℕ) (c : Completion) → e.pending ≡ ts → polled_of k s e ts ≡ front_found (Some c) s' e' → TookNext k s e c s' e'
took-of k s s' e e' [] c was is = absurd (none-some c (ap (λ (p : Polled _). p.completion) is))
took-of k s s' e e' (t ∷ ts) c was is = took-at k s s' e e' t ts (transfer_completion (k.state s).past t) c was refl is

pub took-next : {S : Type 0} (k : BusCalls S) (s s' : S) (e e' : EndpointState) (c : Completion) → polled k s e ≡ front_found (Some c) s' e' → TookNext k s e c s' e'
took-next k s s' e e' c is = took-of k s s' e e' e.pending c refl is
