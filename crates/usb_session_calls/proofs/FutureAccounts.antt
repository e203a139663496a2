-- The accounts of a host over control transfers: one starts, is awaited, and is taken.
use Rattle.std.proofs.Common.{◌≡◌, ℕ, true, [], ◌∷◌, length, Option, Some, None, refl, sym, ◌∙◌, subst, inl, inr}
use Rattle.std.specs.List.{Contains, cons_option}
use Rattle.std.specs.Option.{ForSome}
use Rattle.std.proofs.lemmas.List.Elements.{Contains-push}
use Rattle.usb_kernel.specs.Tickets.{tickets}
use Rattle.usb_xfer.specs.declared.transfer.TransferData.{TransferData}
use Rattle.usb_device_host.specs.HostState.{HostState}
use Rattle.usb_device_host.specs.HostBus.{key_at}
use Rattle.usb_device_host.specs.HostCalls.{host_left}
use Rattle.usb_device_host.specs.TicketEnds.{host_taken}
use Rattle.usb_device_host.specs.Controls.{control_submission, request_started}
use Rattle.usb_device_host.proofs.CallFrames.{keeps-taken}
use Rattle.usb_device_host.proofs.StartedLemmas.{started-count, started-owner, controlled-count, controlled-adds}
use Rattle.usb_device.specs.Futures.{FutureState, StandsFuture, fresh_future, future_taken, taken_by, future_awaited, awaited_by}
use Rattle.usb_device.specs.ControlCalls.{controlled}
use Rattle.usb_device.proofs.OwnerLaw.{claims_stay_owned}
use Rattle.usb_device.proofs.FutureFrames.{started-stands, went-future, future-went}
use Rattle.usb_session_streams.specs.Accounts.{TicketsAreCounted, KeepsAccounts, KeepsAccountsOf}
use Rattle.usb_session_streams.proofs.AccountLemmas.{accounts-same, accounts-of, accounts-awaited, accounts-left, of-same, of-then, of-taken, owned-then, counted-more, key-goes}
use Rattle.usb_session_calls.proofs.NamedTickets.{no-element}

-- a request is handed in: the endpoint of the next key holds the next ticket
pub of-started : (h : HostState) (device : ℕ) (request : TransferData) (timeout : ℕ) → KeepsAccountsOf h (request_started h device request timeout) (length h.endpoints) [] (length (tickets h.kernel.past) ∷ [])
of-started h device request timeout =
    let s = control_submission h device request timeout in
    let n = length (tickets h.kernel.past) in
    record {
      claims = (claims_stay_owned.start_control h s).kept;
      count = counted-more h (request_started h device request timeout) (started-count h s);
      others = λ t k apart own. elim (started-owner h s t k own) [ inl new ↦ absurd (apart new.1) | inr old ↦ old ];
      own = λ counted only t own. elim (started-owner h s t (length h.endpoints) own) [
        | inl new ↦ subst (λ (u : ℕ). Contains (n ∷ []) u) (sym (new.0 ∙ counted)) (Contains-push [] n)
        | inr old ↦ absurd (no-element t (only t old))
      ];
    }

-- it is awaited
awaited_by-accounts : (h : HostState) (deadline : ℕ) (o : Option ℕ) → KeepsAccounts h (awaited_by h deadline o)
awaited_by-accounts h deadline None = accounts-same h
awaited_by-accounts h deadline (Some t) = accounts-awaited h t deadline

pub accounts-future_awaited : (h : HostState) (f : FutureState) → KeepsAccounts h (future_awaited h f)
accounts-future_awaited h f = awaited_by-accounts h f.deadline f.ticket

-- its answer is taken
taken_by-accounts : (h : HostState) (key : ℕ) (o : Option ℕ) → ForSome o (λ t. key_at h.endpoints key ≡ true) → KeepsAccountsOf h (taken_by h key o) key (cons_option o []) []
taken_by-accounts h key None open_ = of-same h key []
taken_by-accounts h key (Some t) open_ =
    let mid = host_taken h t in
    of-then h mid (host_left mid key) key (t ∷ []) [] [] (of-taken h t [] key)
    (accounts-of mid (host_left mid key) key [] (accounts-left mid key (key-goes h.endpoints mid.endpoints key (keeps-taken h t).endpoints (open_ t refl))))

pub of-future_taken : (h : HostState) (f : FutureState) → StandsFuture h f → KeepsAccountsOf h (future_taken h f) f.key (cons_option f.ticket []) []
of-future_taken h f stands = taken_by-accounts h f.key f.ticket (λ t is. (stands.on_its_way t is).key_is_open)

-- all at once
pub accounts-controlled : (h : HostState) (device : ℕ) (request : TransferData) (timeout : ℕ) → TicketsAreCounted h → KeepsAccounts h (controlled h device request timeout)
accounts-controlled h device request timeout counted =
    let s = control_submission h device request timeout in
    let f = fresh_future h request timeout in
    let begun = request_started h device request timeout in
    let awaited = future_awaited begun f in
    let stands = future-went begun awaited f (went-future begun f) (started-stands h device request timeout counted) in
    let waits = accounts-future_awaited begun f in
    let over = controlled h device request timeout in
    record {
      claims = owned-then h begun over (of-started h device request timeout).claims (owned-then begun awaited over waits.claims (of-future_taken awaited f stands).claims);
      count = counted-more h over (controlled-count h s f.deadline f.key);
      held = (controlled-adds h s f.deadline f.key counted).held;
    }
