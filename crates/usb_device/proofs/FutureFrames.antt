-- Futures, and handles of all kinds over the calls of futures.
use Rattle.std.proofs.Common.{ℕ, suc, arith, ◌≡◌, ◌≢◌, ◌<◌, Bool, true, false, List, length, is_some, Option, Some, None, inl, inr, refl, sym, ap, ◌∙◌, subst}
use Rattle.std.specs.Prelude.{IfSome, IfNone, option_and_then, slice_get}
use Rattle.usb_desc.specs.declared.types.Direction.{Direction}
use Rattle.std.specs.Option.{ForSome, option_map}
use Rattle.std.proofs.lemmas.Bool.{ne_eqb}
use Rattle.std.proofs.lemmas.Option.{none-some, same_Some}
use Rattle.usb_kernel.specs.declared.event.Event.{Event}
use Rattle.usb_kernel.specs.declared.submission.Done.{Done}
use Rattle.usb_kernel.specs.Extends.{Extends}
use Rattle.usb_kernel.specs.Tickets.{Ticket, tickets}
use Rattle.usb_kernel.specs.Completions.{completion}
use Rattle.usb_kernel.proofs.Extends.{extends-same, ticket-stays, completion-stays}
use Rattle.usb_device_endpoint.specs.BusState.{BusState, without_owner, without_key}
use Rattle.usb_kernel.specs.TransferCompletions.{completion_of, transfer_completion}
use Rattle.usb_device_endpoint.specs.Handles.{KeepsOthers}
use Rattle.usb_device_endpoint.proofs.Frames.{keeps_others, others-same}
use Rattle.usb_device_endpoint.specs.Waits.{is_reaped}
use Rattle.usb_device_tables.proofs.SerialLemmas.{cases_Option}
use Rattle.usb_xfer.specs.declared.transfer.TransferData.{TransferData}
use Rattle.usb_device_host.specs.HostState.{HostState}
use Rattle.usb_device_host.specs.HostBus.{bus_of, owner_at, key_at}
use Rattle.usb_device_host.specs.HostCalls.{host_left, host_calls}
use Rattle.usb_device_host.specs.HostFrames.{ClaimsGoOn, HostGoesOn}
use Rattle.usb_device_host.specs.HostAwaits.{deadline_of}
use Rattle.usb_device_host.specs.HandleStates.{InterfaceState, StandsDevice, StandsInterface}
use Rattle.usb_device_host.specs.TicketEnds.{host_taken, host_abandoned}
use Rattle.usb_device_host.specs.Controls.{control_submission, host_started, request_started}
use Rattle.usb_kernel.specs.Timers.{deadline_after}
use Rattle.usb_device.specs.Futures.{FutureState, IsOnItsWay, StandsFuture, fresh_future, future_taken, taken_by, future_closed, closed_by, future_awaited, awaited_by}
use Rattle.usb_device.specs.ControlCalls.{request_awaited, controlled}
use Rattle.usb_device_host.proofs.ClaimFrames.{goes-refl, goes-same, goes-trans}
use Rattle.usb_device_host.proofs.HostKeeps.{KeepsLine}
use Rattle.usb_device_host.proofs.CallFrames.{bus-taken, bus-abandoned, bus-left, keeps-taken, keeps-abandoned, line-left, interfaces-left}
use Rattle.usb_device.proofs.FreshKeys.{key-within}
use Rattle.usb_device_host.proofs.WaitFrames.{went-nowhere, went-awaited}
use Rattle.usb_device_host.proofs.ControlLemmas.{started-key, started-held, started-due, started-line, started-interfaces, started-past, started-others}
use Rattle.usb_device_host.proofs.LeftDevices.{device-stays, interface-stays}

-- what a call of a future leaves as it was: the line, the open devices, the claimed interfaces with
-- an open handle, and the journal, which goes on
pub record HandlesStay (old new : HostState) : Type 0 where
  pub line : KeepsLine old new
  pub interfaces : ClaimsGoOn old.interfaces new.interfaces
  pub past : Extends old.kernel.past new.kernel.past

-- a start
pub stays-started : (h : HostState) (device : ℕ) (request : TransferData) (timeout : ℕ) → HandlesStay h (request_started h device request timeout)
stays-started h device request timeout =
    let s = control_submission h device request timeout in
    record { line = started-line h s; interfaces = goes-same h.interfaces (host_started h s).interfaces (started-interfaces h s); past = started-past h s }

pub others-started : (h : HostState) (device : ℕ) (request : TransferData) (timeout key : ℕ) → KeepsOthers (bus_of h) (bus_of (request_started h device request timeout)) key
others-started h device request timeout key = started-others h (control_submission h device request timeout) key

pub device-started : (h : HostState) (device key : ℕ) (request : TransferData) (timeout : ℕ) → StandsDevice h key → StandsDevice (request_started h device request timeout) key
device-started h device key request timeout stands = device-stays h (request_started h device request timeout) key (stays-started h device request timeout).line.devices stands

pub interface-started : (h : HostState) (device : ℕ) (i : InterfaceState) (request : TransferData) (timeout : ℕ) → StandsInterface h i → StandsInterface (request_started h device request timeout) i
interface-started h device i request timeout stands =
    let stays = stays-started h device request timeout in
    interface-stays h (request_started h device request timeout) i stays.interfaces stays.line.devices stands

-- its future stands
pub started-stands : (h : HostState) (device : ℕ) (request : TransferData) (timeout : ℕ) → length h.tickets ≡ length (tickets h.kernel.past) → StandsFuture (request_started h device request timeout) (fresh_future h request timeout)
started-stands h device request timeout count =
    let s = control_submission h device request timeout in
    let n = length (tickets h.kernel.past) in
    let on_its_way : IsOnItsWay (host_started h s) (fresh_future h request timeout) n = record {
      key_is_open = started-key h s;
      held = ap (owner_at (host_started h s).tickets) (sym count) ∙ started-held h s;
      due = λ none. started-due h s (deadline_after h.kernel.clock timeout) refl none;
    } in
    record { on_its_way = λ t is. subst (IsOnItsWay (host_started h s) (fresh_future h request timeout)) (same_Some n t is) on_its_way }

-- a wait
awaited_by-went : (h : HostState) (deadline : ℕ) (o : Option ℕ) → HostGoesOn h (awaited_by h deadline o)
awaited_by-went h deadline None = went-nowhere h
awaited_by-went h deadline (Some t) = went-awaited h t deadline

pub went-future : (h : HostState) (f : FutureState) → HostGoesOn h (future_awaited h f)
went-future h f = awaited_by-went h f.deadline f.ticket

-- a ticket that ends, and the close of its endpoint
module _ (h mid : HostState) (t key : ℕ) (bus : bus_of mid ≡ record (bus_of h) { owner = without_owner (owner_at h.tickets) t }) where
  others-ended : owner_at h.tickets t ≡ Some key → KeepsOthers (bus_of h) (bus_of (host_left mid key)) key
  others-ended held =
      keeps_others (bus_of h) (bus_of (host_left mid key)) key
      (λ u k other here.
      ap (λ (b : BusState). b.owner u) (bus-left mid key) ∙ (ap (λ (b : BusState). b.owner u) bus ∙ (without-other u k (λ same. other (sym (same_Some key k (sym held ∙ (ap (owner_at h.tickets) same ∙ here))))) ∙ here)))
      (λ k other open_.
      ap (λ (b : BusState). b.keys k) (bus-left mid key) ∙ (keys-other k (λ same. other (sym same)) ∙ (ap (λ (b : BusState). b.keys k) bus ∙ open_)))
    where
      without-other : (u k : ℕ) → t ≢ u → without_owner (owner_at h.tickets) t u ≡ owner_at h.tickets u
      without-other u k apart = rw (ne_eqb t u apart) refl

      keys-other : (k : ℕ) → key ≢ k → without_key (key_at mid.endpoints) key k ≡ key_at mid.endpoints k
      keys-other k apart = rw (ne_eqb key k apart) refl

  stays-ended : KeepsLine h mid → ClaimsGoOn h.interfaces mid.interfaces → HandlesStay h (host_left mid key)
  stays-ended line interfaces =
      let left = line-left mid key in
      let past : (host_left mid key).kernel.past ≡ h.kernel.past = ap (λ (b : BusState). b.past) (bus-left mid key) ∙ ap (λ (b : BusState). b.past) bus in
      record {
        line = record { steps = left.steps ∙ line.steps; spare = left.spare ∙ line.spare; devices = left.devices ∙ line.devices };
        interfaces = goes-trans h.interfaces mid.interfaces (host_left mid key).interfaces interfaces (interfaces-left mid key);
        past = subst (Extends h.kernel.past) (sym past) (extends-same h.kernel.past);
      }

-- the answer of a future is taken
stays-none : (h : HostState) → HandlesStay h h
stays-none h = record { line = record { steps = refl; spare = refl; devices = refl }; interfaces = goes-refl h.interfaces; past = extends-same h.kernel.past }

pub others-none : (b : BusState) (key : ℕ) → KeepsOthers b b key
others-none b key = others-same b b key refl refl

taken_by-stays : (h : HostState) (key : ℕ) (o : Option ℕ) → HandlesStay h (taken_by h key o)
taken_by-stays h key None = stays-none h
taken_by-stays h key (Some t) = let keeps = keeps-taken h t in stays-ended h (host_taken h t) t key (bus-taken h t) keeps.line keeps.interfaces

pub stays-taken : (h : HostState) (f : FutureState) → HandlesStay h (future_taken h f)
stays-taken h f = taken_by-stays h f.key f.ticket

taken_by-others : (h : HostState) (key : ℕ) (o : Option ℕ) → ForSome o (λ t. owner_at h.tickets t ≡ Some key) → KeepsOthers (bus_of h) (bus_of (taken_by h key o)) key
taken_by-others h key None held = others-none (bus_of h) key
taken_by-others h key (Some t) held = others-ended h (host_taken h t) t key (bus-taken h t) (held t refl)

pub others-taken : (h : HostState) (f : FutureState) → StandsFuture h f → KeepsOthers (bus_of h) (bus_of (future_taken h f)) f.key
others-taken h f stands = taken_by-others h f.key f.ticket (λ t is. (stands.on_its_way t is).held)

-- a poll leaves a future that stands
pub polled-stands : {A : Type 0} (o : Option A) (h g : HostState) (key deadline : ℕ) (direction : Direction) (p q : Option ℕ) → IfSome o (λ _. q ≡ None) → IfNone o (g ≡ h) → IfNone o (q ≡ p)
    → StandsFuture h (record { key = key; ticket = p; deadline = deadline; direction = direction }) → StandsFuture g (record { key = key; ticket = q; deadline = deadline; direction = direction })
polled-stands None h g key deadline direction p q spent same waits stands = rw (same, waits) stands
polled-stands (Some x) h g key deadline direction p q spent same waits stands = record { on_its_way = λ t is. absurd (none-some t (sym spent ∙ is)) }

-- a future is closed
closed_by-stays : (h : HostState) (key : ℕ) (o : Option ℕ) → HandlesStay h (closed_by h key o)
closed_by-stays h key None = stays-none h
closed_by-stays h key (Some t) = let keeps = keeps-abandoned h t in stays-ended h (host_abandoned h t) t key (bus-abandoned h t) keeps.line keeps.interfaces

pub stays-closed : (h : HostState) (f : FutureState) → HandlesStay h (future_closed h f)
stays-closed h f = closed_by-stays h f.key f.ticket

closed_by-others : (h : HostState) (key : ℕ) (o : Option ℕ) → ForSome o (λ t. owner_at h.tickets t ≡ Some key) → KeepsOthers (bus_of h) (bus_of (closed_by h key o)) key
closed_by-others h key None held = others-none (bus_of h) key
closed_by-others h key (Some t) held = others-ended h (host_abandoned h t) t key (bus-abandoned h t) (held t refl)

pub others-closed : (h : HostState) (f : FutureState) → StandsFuture h f → KeepsOthers (bus_of h) (bus_of (future_closed h f)) f.key
others-closed h f stands = closed_by-others h f.key f.ticket (λ t is. (stands.on_its_way t is).held)

-- a control transfer that is started and awaited
pub controlled-devices : (h : HostState) (device : ℕ) (request : TransferData) (timeout : ℕ) → (controlled h device request timeout).devices ≡ h.devices
controlled-devices h device request timeout =
    let f = fresh_future h request timeout in
    let g = request_awaited h device request timeout in
    (stays-taken g f).line.devices ∙ ((went-future (request_started h device request timeout) f).line.devices ∙ (stays-started h device request timeout).line.devices)

pub controlled-interfaces : (h : HostState) (device : ℕ) (request : TransferData) (timeout : ℕ) → ClaimsGoOn h.interfaces (controlled h device request timeout).interfaces
controlled-interfaces h device request timeout =
    let f = fresh_future h request timeout in
    let s = request_started h device request timeout in
    let g = request_awaited h device request timeout in
    goes-trans h.interfaces s.interfaces (controlled h device request timeout).interfaces (stays-started h device request timeout).interfaces
    (goes-trans s.interfaces g.interfaces (future_taken g f).interfaces (went-future s f).line.interfaces (stays-taken g f).interfaces)

pub device-controlled : (h : HostState) (device key : ℕ) (request : TransferData) (timeout : ℕ) → StandsDevice h key → StandsDevice (controlled h device request timeout) key
device-controlled h device key request timeout stands = device-stays h (controlled h device request timeout) key (controlled-devices h device request timeout) stands

pub interface-controlled : (h : HostState) (device : ℕ) (i : InterfaceState) (request : TransferData) (timeout : ℕ) → StandsInterface h i → StandsInterface (controlled h device request timeout) i
interface-controlled h device i request timeout stands =
    interface-stays h (controlled h device request timeout) i (controlled-interfaces h device request timeout) (controlled-devices h device request timeout) stands

-- a future over any call that keeps what others hold
mapped-none : {A B : Type 0} (f : A → B) (o : Option A) → is_some (option_map f o) ≡ false → o ≡ None
mapped-none f None is = refl
mapped-none f (Some x) is = absurd (cc)

found-none : (h g : HostState) (t : ℕ) → Extends h.kernel.past g.kernel.past → is_reaped host_calls t g ≡ false → is_reaped host_calls t h ≡ false
unfolding transfer_completion
found-none h g t goes none =
    elim (cases_Option (completion h.kernel.past t)) [
      | inl nothing ↦ ap (λ (o : Option Done). is_some (option_map completion_of o)) nothing
      | inr some ↦ absurd (none-some some.0 (sym (mapped-none completion_of (completion g.kernel.past t) none) ∙ completion-stays h.kernel.past g.kernel.past t some.0 goes some.1))
    ]

deadline-stays : (old new : List Event) (t d : ℕ) (o : Option Ticket) → Extends old new → slice_get (tickets old) t ≡ o → option_and_then (λ (s : Ticket). s.deadline) o ≡ Some d → deadline_of new t ≡ Some d
deadline-stays old new t d None goes at due = absurd (none-some d due)
deadline-stays old new t d (Some s) goes at due = ap (option_and_then (λ (s : Ticket). s.deadline)) (ticket-stays old new t s goes at) ∙ due

future-kept : (h g : HostState) (f : FutureState) → (key_at h.endpoints f.key ≡ true → key_at g.endpoints f.key ≡ true) → ((t : ℕ) → owner_at h.tickets t ≡ Some f.key → owner_at g.tickets t ≡ Some f.key) → Extends h.kernel.past g.kernel.past
    → StandsFuture h f → StandsFuture g f
future-kept h g f keys owner goes stands =
    record {
      on_its_way = λ t is.
          let way = stands.on_its_way t is in
          record {
            key_is_open = keys way.key_is_open;
            held = owner t way.held;
            due = λ none. deadline-stays h.kernel.past g.kernel.past t f.deadline (slice_get (tickets h.kernel.past) t) goes refl (way.due (found-none h g t goes none));
          };
    }

pub future-stays : (h g : HostState) (f : FutureState) (key : ℕ) → f.key ≢ key → KeepsOthers (bus_of h) (bus_of g) key → Extends h.kernel.past g.kernel.past → StandsFuture h f → StandsFuture g f
future-stays h g f key other keeps goes stands = future-kept h g f (λ open_. keeps.keys f.key other open_) (λ t held. keeps.tickets t f.key other held) goes stands

-- while the host goes on by itself
pub future-went : (h g : HostState) (f : FutureState) → HostGoesOn h g → StandsFuture h f → StandsFuture g f
future-went h g f went stands =
    future-kept h g f (λ open_. ap (λ (keys : ℕ → Bool). keys f.key) went.later.keys ∙ open_) (λ t held. ap (λ (owner : ℕ → Option ℕ). owner t) went.later.owner ∙ held)
    (record { more = went.later.past.more; is = went.later.past.is }) stands

-- where the bus stays
pub future-same : (h g : HostState) (f : FutureState) → bus_of g ≡ bus_of h → StandsFuture h f → StandsFuture g f
future-same h g f same stands =
    future-kept h g f (λ open_. ap (λ (b : BusState). b.keys f.key) same ∙ open_) (λ t held. ap (λ (b : BusState). b.owner t) same ∙ held)
    (subst (Extends h.kernel.past) (sym (ap (λ (b : BusState). b.past) same)) (extends-same h.kernel.past)) stands

-- and over the start of another, whose key comes after
pub future-within : (h : HostState) (f : FutureState) (t : ℕ) → IsOnItsWay h f t → f.key < length h.endpoints
future-within h f t way = key-within h.endpoints f.key way.key_is_open

pub future-started : (h : HostState) (device : ℕ) (request : TransferData) (timeout : ℕ) (f : FutureState) → StandsFuture h f → StandsFuture (request_started h device request timeout) f
future-started h device request timeout f stands =
    let g = request_started h device request timeout in
    future-stays h g f (suc f.key) (λ same. absurd (omega (arith, same))) (others-started h device request timeout (suc f.key)) (stays-started h device request timeout).past stands
