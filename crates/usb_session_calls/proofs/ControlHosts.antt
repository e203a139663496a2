-- What a control transfer leaves of a host, from its start until its answer is taken.
use Rattle.std.proofs.Common.{◌≡◌, ◌≢◌, ℕ, ◌≤◌, ◌+◌, ◌-◌, arith, Bool, true, false, List, [], ◌++◌, length, length-append, Option, Some, None, Result, Ok, Err, refl, ap, sym, ◌∙◌, subst, inl, inr}
use Rattle.std.specs.Prelude.{IsSome}
use Rattle.std.proofs.lemmas.Bool.{cases_eq, eq-eqb, ne_eqb}
use Rattle.usb_kernel_devices.specs.declared.step.KernelStep.{KernelStep}
use Rattle.usb_desc.specs.declared.error.Fail.{Fail}
use Rattle.usb_desc.specs.declared.error.Fail.TheVariants.{Cause, Memory}
use Rattle.usb_kernel.specs.Tickets.{tickets}
use Rattle.usb_kernel.proofs.Extends.{extends-same, extends-trans}
use Rattle.usb_device_endpoint.specs.BusState.{BusState, without_key}
use Rattle.usb_device_endpoint.specs.EndpointState.{EndpointState}
use Rattle.usb_device_endpoint.specs.Handles.{Stands, KeepsOthers}
use Rattle.usb_device_endpoint.proofs.Frames.{Stands-later, Stands-other, keeps_others}
use Rattle.usb_device_ledger.specs.Entries.{control_endpoint}
use Rattle.usb_device_ledger.proofs.DeviceLemmas.{counts-same}
use Rattle.usb_xfer.specs.declared.transfer.TransferData.{TransferData}
use Rattle.usb_device_host.specs.HostState.{HostState}
use Rattle.usb_device_host.specs.HostBus.{bus_of, key_at}
use Rattle.usb_device_host.specs.HostCalls.{host_left}
use Rattle.usb_device_host.specs.HostFrames.{HostGoesOn}
use Rattle.usb_device_host.specs.HostTurns.{host_rest}
use Rattle.usb_device_host.specs.TicketEnds.{host_taken}
use Rattle.usb_device_host.specs.CallErrors.{Leaves}
use Rattle.usb_device_host.specs.Controls.{control_submission, request_started}
use Rattle.usb_device_host.proofs.CallFrames.{bus-left, bus-taken}
use Rattle.usb_device_host.proofs.ClaimFrames.{goes-refl, goes-trans}
use Rattle.usb_device_host.proofs.Left.{left}
use Rattle.usb_device_host.proofs.StartFrames.{started-endpoints}
use Rattle.usb_device_host.proofs.WaitFrames.{went-rest, rest-steps}
use Rattle.usb_device.specs.Futures.{FutureState, StandsFuture, fresh_future, future_taken, taken_by, future_awaited}
use Rattle.usb_device.specs.ControlCalls.{controlled}
use Rattle.usb_device.specs.DescriptorCalls.{LeavesEither}
use Rattle.usb_device.proofs.FreshKeys.{endpoint-within}
use Rattle.usb_device.proofs.FutureFrames.{stays-started, others-started, started-stands, went-future, future-went, stays-taken, others-taken, controlled-devices, controlled-interfaces}
use Rattle.std.specs.List.{cons_option}
use Rattle.usb_session_streams.specs.Accounts.{KeepsAccountsOf}
use Rattle.usb_session_streams.proofs.AccountLemmas.{accounts-same, accounts-of, of-then, of-lent}
use Rattle.usb_session_calls.specs.TargetCalls.{KeepsHandles}
use Rattle.usb_session_calls.proofs.FutureAccounts.{accounts-future_awaited, of-future_taken, accounts-controlled}
use Rattle.usb_session_calls.proofs.Called.{KeepsSession}
use Rattle.usb_session_calls.proofs.FutureSessions.{LeavesKey}
use Rattle.usb_session_calls.proofs.NamedKeys.{key-before}

-- nothing was called
pub keeps-same : (h : HostState) → KeepsHandles h h
keeps-same h =
    record {
      front = [];
      steps = refl;
      spare = omega arith;
      devices = refl;
      interfaces = goes-refl h.interfaces;
      past = extends-same h.kernel.past;
      stands = λ x stands. stands;
      opened = λ key open_. open_;
      accounts = accounts-same h;
    }

-- the keys that are open once an answer is taken
taken-keys : (h : HostState) (key t k : ℕ) → key_at (host_left (host_taken h t) key).endpoints k ≡ without_key (key_at h.endpoints) key k
taken-keys h key t k =
    ap (λ (b : BusState). b.keys k) (bus-left (host_taken h t) key) ∙ ap (λ (b : BusState). without_key b.keys key k) (bus-taken h t)

without_key-here : (keys : ℕ → Bool) (key : ℕ) → without_key keys key key ≡ false
without_key-here keys key = rw (eq-eqb key key refl) refl

without_key-other : (keys : ℕ → Bool) (key k : ℕ) → without_key keys key k ≡ true → (k ≢ key) × (keys k ≡ true)
without_key-other keys key k open_ =
    elim (cases_eq key k) [
      | inl same ↦
          let no_ : false ≡ true = sym (without_key-here keys key) ∙ ap (without_key keys key) same ∙ open_ in
          absurd (cc)
      | inr apart ↦
          let is : without_key keys key k ≡ keys k = rw (ne_eqb key k apart) refl in
          (λ same. apart (sym same), sym is ∙ open_)
    ]

-- a transfer was started, awaited and taken
module _ (h : HostState) (device : ℕ) (request : TransferData) (timeout : ℕ) where
  abbrev future : FutureState
  future = fresh_future h request timeout

  abbrev begun : HostState
  begun = request_started h device request timeout

  abbrev awaited : HostState
  awaited = future_awaited begun future

  abbrev over : HostState
  over = future_taken awaited future

  went : HostGoesOn begun awaited
  went = went-future begun future

  apart-new : (x : EndpointState) → Stands (bus_of h) x → x.key ≢ length h.endpoints
  apart-new x stands = λ same. absurd (omega (arith, same, endpoint-within h x stands))

  stands-over : length h.tickets ≡ length (tickets h.kernel.past) → (x : EndpointState) → Stands (bus_of h) x → Stands (bus_of over) x
  stands-over count x stands =
      let apart = apart-new x stands in
      let key = length h.endpoints in
      let first = Stands-other (bus_of h) (bus_of begun) key x (others-started h device request timeout key) apart stands in
      let then_ = Stands-later (bus_of begun) (bus_of awaited) x first went.later in
      Stands-other (bus_of awaited) (bus_of over) key x (others-taken awaited future (future-went begun awaited future went (started-stands h device request timeout count))) apart then_

  opened-over : (key : ℕ) → key_at over.endpoints key ≡ true → key_at h.endpoints key ≡ true
  opened-over key open_ =
      let was = without_key-other (key_at awaited.endpoints) future.key key (sym (taken-keys awaited future.key (length (tickets h.kernel.past)) key) ∙ open_) in
      key-before h.endpoints begun.endpoints (control_endpoint (control_submission h device request timeout).endpoint) key (started-endpoints h (control_submission h device request timeout)) was.0
      (sym (ap (λ (keys : ℕ → Bool). keys key) went.later.keys) ∙ was.1)

  pub keeps-controlled : length h.tickets ≡ length (tickets h.kernel.past) → KeepsHandles h (controlled h device request timeout)
  keeps-controlled count =
      let start = stays-started h device request timeout in
      let taken = stays-taken awaited future in
      record {
        front = went.line.front;
        steps = sym start.line.steps ∙ went.line.steps ∙ ap (λ (ss : List KernelStep). went.line.front ++ ss) (sym taken.line.steps);
        spare = taken.line.spare ∙ went.line.spare ∙ ap (λ k. k - length went.line.front) start.line.spare;
        devices = controlled-devices h device request timeout;
        interfaces = controlled-interfaces h device request timeout;
        past = extends-trans h.kernel.past begun.kernel.past over.kernel.past start.past (extends-trans begun.kernel.past awaited.kernel.past over.kernel.past went.later.past taken.past);
        stands = stands-over count;
        opened = opened-over;
        accounts = accounts-controlled h device request timeout count;
      }

  -- or memory was wanting
  pub keeps-left : {A E : Type 0} (r : Result A (Fail E)) (new : HostState) → length h.tickets ≡ length (tickets h.kernel.past) → Leaves r new (controlled h device request timeout) h → KeepsHandles h new
  keeps-left r new count leaves = left (KeepsHandles h) r new (controlled h device request timeout) h leaves (keeps-controlled count) (keeps-same h)

  pub keeps-either : {A B E F : Type 0} (r : Result A (Fail E)) (came : Option (Result B F)) (new : HostState) → length h.tickets ≡ length (tickets h.kernel.past) → LeavesEither r came new (controlled h device request timeout) h → KeepsHandles h new
  keeps-either (Ok x) came new count is = subst (KeepsHandles h) (sym is) (keeps-controlled count)
  keeps-either (Err (Cause error)) came new count is = subst (KeepsHandles h) (sym is) (keeps-controlled count)
  keeps-either (Err Memory) came new count (inl text) = subst (KeepsHandles h) (sym text.2) (keeps-controlled count)
  keeps-either (Err Memory) came new count (inr is) = subst (KeepsHandles h) (sym is) (keeps-same h)

-- each step of the line used a place
pub spare-rested : (old now : HostState) (front : List KernelStep) → old.steps ≡ front ++ now.steps → now.kernel.spare ≡ old.kernel.spare - length front → length old.steps ≤ old.kernel.spare → (host_rest now).kernel.spare + length old.steps ≡ old.kernel.spare
spare-rested old now front steps spare room =
    let rest = (went-rest now).line in
    let none : length (host_rest now).steps ≡ 0 = ap (λ (ss : List KernelStep). length ss) (rest-steps now) in
    let all : length old.steps ≡ length front + length now.steps = ap (λ (ss : List KernelStep). length ss) steps ∙ length-append front now.steps in
    let others : length now.steps ≡ length rest.front + length (host_rest now).steps = ap (λ (ss : List KernelStep). length ss) rest.steps ∙ length-append rest.front (host_rest now).steps in
    omega (arith, none, all, others, spare, rest.spare, room)

-- the answer of a future was taken
future-keys : (h : HostState) (f : FutureState) (k : ℕ) → IsSome f.ticket → key_at (future_taken h f).endpoints k ≡ without_key (key_at h.endpoints) f.key k
future-keys h f k some = by f.ticket some
  where
    by : (o : Option ℕ) → IsSome o → key_at (taken_by h f.key o).endpoints k ≡ without_key (key_at h.endpoints) f.key k
    by None some = absurd (cc)
    by (Some t) some = taken-keys h f.key t k

pub leaves-taken : (h : HostState) (f : FutureState) → h.steps ≡ [] → IsSome f.ticket → StandsFuture h f → LeavesKey h (future_taken h f) f.key (cons_option f.ticket [])
leaves-taken h f idle some stands =
    let stays = stays-taken h f in
    record {
      session = record {
        idle = stays.line.steps ∙ idle;
        past = stays.past;
        devices = counts-same h.devices (future_taken h f).devices stays.line.devices;
        interfaces = stays.interfaces;
      };
      others = others-taken h f stands;
      none = λ k open_. (without_key-other (key_at h.endpoints) f.key k (sym (future-keys h f k some) ∙ open_)).1;
      closed = future-keys h f f.key some ∙ without_key-here (key_at h.endpoints) f.key;
      accounts = of-future_taken h f stands;
    }

-- so it was after a wait with the steps of a line
module _ (host : HostState) (steps : List KernelStep) (f : FutureState) (some : IsSome f.ticket) (stands : StandsFuture host f) where
  abbrev with_steps : HostState
  with_steps = record host { steps = steps }

  abbrev ready : HostState
  ready = future_awaited with_steps f

  abbrev gone : HostState
  gone = future_taken ready f

  pub stands-lent_host : StandsFuture (record host { steps = steps }) f
  stands-lent_host = record { on_its_way = λ t is. let way = stands.on_its_way t is in record { key_is_open = way.key_is_open; held = way.held; due = way.due } }

  waited : HostGoesOn with_steps ready
  waited = went-future with_steps f

  waited-session : KeepsSession host (host_rest gone)
  waited-session =
      let stays = stays-taken ready f in
      let rest = went-rest gone in
      record {
        idle = rest-steps gone;
        past = extends-trans host.kernel.past ready.kernel.past (host_rest gone).kernel.past waited.later.past (extends-trans ready.kernel.past gone.kernel.past (host_rest gone).kernel.past stays.past rest.later.past);
        devices = counts-same host.devices (host_rest gone).devices (rest.line.devices ∙ stays.line.devices ∙ waited.line.devices);
        interfaces = goes-trans host.interfaces ready.interfaces (host_rest gone).interfaces waited.line.interfaces (goes-trans ready.interfaces gone.interfaces (host_rest gone).interfaces stays.interfaces rest.line.interfaces);
      }

  waited-others : KeepsOthers (bus_of host) (bus_of (host_rest gone)) f.key
  waited-others =
      let others = others-taken ready f (future-went with_steps ready f waited stands-lent_host) in
      let later = (went-rest gone).later in
      keeps_others (bus_of host) (bus_of (host_rest gone)) f.key
      (λ t k apart is. ap (λ (o : ℕ → Option ℕ). o t) later.owner ∙ others.tickets t k apart (ap (λ (o : ℕ → Option ℕ). o t) waited.later.owner ∙ is))
      (λ k apart is. ap (λ (keys : ℕ → Bool). keys k) later.keys ∙ others.keys k apart (ap (λ (keys : ℕ → Bool). keys k) waited.later.keys ∙ is))

  waited-keys : (k : ℕ) → key_at (host_rest gone).endpoints k ≡ without_key (key_at host.endpoints) f.key k
  waited-keys k =
      ap (λ (keys : ℕ → Bool). keys k) (went-rest gone).later.keys ∙ future-keys ready f k some
      ∙ ap (λ (keys : ℕ → Bool). without_key keys f.key k) waited.later.keys

  waited-accounts : KeepsAccountsOf with_steps gone f.key (cons_option f.ticket []) []
  waited-accounts =
      of-then with_steps ready gone f.key (cons_option f.ticket []) (cons_option f.ticket []) [] (accounts-of with_steps ready f.key (cons_option f.ticket []) (accounts-future_awaited with_steps f))
      (of-future_taken ready f (future-went with_steps ready f waited stands-lent_host))

  pub leaves-waited : LeavesKey host (host_rest (future_taken (future_awaited (record host { steps = steps }) f) f)) f.key (cons_option f.ticket [])
  leaves-waited =
      record {
        session = waited-session;
        others = waited-others;
        none = λ k open_. (without_key-other (key_at host.endpoints) f.key k (sym (waited-keys k) ∙ open_)).1;
        closed = waited-keys f.key ∙ without_key-here (key_at host.endpoints) f.key;
        accounts = of-lent host gone steps f.key (cons_option f.ticket []) [] waited-accounts;
      }

  pub spare-waited : length steps ≤ host.kernel.spare → (host_rest (future_taken (future_awaited (record host { steps = steps }) f) f)).kernel.spare + length steps ≡ host.kernel.spare
  spare-waited room =
      let stays = stays-taken ready f in
      spare-rested with_steps gone waited.line.front (waited.line.steps ∙ ap (λ (ss : List KernelStep). waited.line.front ++ ss) (sym stays.line.steps)) (stays.line.spare ∙ waited.line.spare) room
