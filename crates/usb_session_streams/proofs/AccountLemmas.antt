-- The accounts of a host over its own calls, and over what the calls of endpoints make of it.
use Rattle.std.proofs.Common.{◌≡◌, ◌≢◌, ℕ, arith, true, false, List, [], ◌∷◌, ◌++◌, length, Option, Some, None, refl, ap, sym, ◌∙◌, subst, inl, inr}
use Rattle.std.specs.List.{Contains}
use Rattle.std.specs.Option.{option_map_or}
use Rattle.std.proofs.lemmas.Bool.{cond_both}
use Rattle.std.proofs.lemmas.List.Elements.{Contains-append_left, Contains-push}
use Rattle.usb_xfer.specs.BufferState.{BufferState}
use Rattle.usb_kernel_devices.specs.declared.step.KernelStep.{KernelStep}
use Rattle.usb_kernel.specs.declared.event.Event.{Event}
use Rattle.usb_kernel.specs.Tickets.{tickets}
use Rattle.usb_kernel.specs.Calls.{called}
use Rattle.usb_device_tables.specs.History.{value_at}
use Rattle.usb_device_endpoint.specs.BusState.{BusState}
use Rattle.usb_device_endpoint.specs.EndpointState.{EndpointState, route_of}
use Rattle.usb_device_endpoint.specs.Waits.{waited}
use Rattle.usb_device_endpoint.specs.Blocking.{blocked}
use Rattle.usb_device_endpoint.specs.Submits.{is_valid, transfer_by, entered}
use Rattle.usb_device_endpoint.specs.Closes.{all_discarded, all_abandoned, after_close}
use Rattle.usb_device_ledger.specs.Entries.{HostTicket, HostEndpoint}
use Rattle.usb_device_host.specs.HostState.{HostState}
use Rattle.usb_device_host.specs.HostBus.{bus_of, owner_at, key_at}
use Rattle.usb_device_host.specs.HostFrames.{EndpointsGoOn, LineGoesOn, HostGoesOn}
use Rattle.usb_device_host.specs.HostAwaits.{host_awaited}
use Rattle.usb_device_host.specs.HostTurns.{host_rest}
use Rattle.usb_device_host.specs.TicketEnds.{host_taken, host_abandoned}
use Rattle.usb_device_host.specs.HostCalls.{host_submitted, host_refused, host_discarded, host_left, host_halt_cleared, host_calls}
use Rattle.usb_device_host.proofs.CountLemmas.{KeepsCount, CountsOneMore, taken-count, abandoned-count, discarded-count, rest-count, waited-count, blocked-count, left-count, entered-count}
use Rattle.usb_device_host.proofs.StartedLemmas.{awaited-count}
use Rattle.usb_device_host.proofs.EndpointCalls.{keeps-all_discarded, keeps-all_abandoned}
use Rattle.usb_device_host.proofs.CallFrames.{bus-left}
use Rattle.usb_device_host.proofs.HeldLemmas.{holds-bus, holds-went, taken-held, abandoned-held, Contains-behind, entered-held}
use Rattle.usb_device_host.proofs.WaitFrames.{went-waited, went-blocked, went-awaited, went-rest}
use Rattle.usb_device.specs.OwnerLaws.{KeepsOwned, KeepsClaims}
use Rattle.usb_device.proofs.OwnerLaw.{claims_stay_owned}
use Rattle.usb_device.proofs.OwnerLawTurns.{steps-owned}
use Rattle.usb_session_streams.specs.Accounts.{TicketsAreCounted, KeepsAccounts, KeepsAccountsOf}

-- claims that stay owned
pub owned-same : (h : HostState) → KeepsOwned h h
owned-same h = record { owned = λ own. own; tidy = λ own. own; ended = λ i e. e }

pub owned-then : (a b c : HostState) → KeepsOwned a b → KeepsOwned b c → KeepsOwned a c
owned-then a b c first second =
    record {
      owned = λ own. second.owned (first.owned own);
      tidy = λ own. second.tidy (first.tidy own);
      ended = λ i e. second.ended i (first.ended i e);
    }

-- tickets that stay counted
pub counted-kept : (old new : HostState) → KeepsCount old new → TicketsAreCounted old → TicketsAreCounted new
counted-kept old new keeps counted = keeps.count ∙ counted ∙ sym keeps.past

pub counted-more : (old new : HostState) → CountsOneMore old new → TicketsAreCounted old → TicketsAreCounted new
counted-more old new one counted = omega (arith, one.count, one.past, counted)

-- calls on no endpoint
pub accounts-same : (h : HostState) → KeepsAccounts h h
accounts-same h = record { claims = owned-same h; count = λ counted. counted; held = λ t k own. own }

pub accounts-then : (a b c : HostState) → KeepsAccounts a b → KeepsAccounts b c → KeepsAccounts a c
accounts-then a b c first second =
    record {
      claims = owned-then a b c first.claims second.claims;
      count = λ counted. second.count (first.count counted);
      held = λ t k own. first.held t k (second.held t k own);
    }

-- tickets and journal are as they were
pub accounts-kept : (old new : HostState) → KeepsOwned old new → new.tickets ≡ old.tickets → new.kernel.past ≡ old.kernel.past → KeepsAccounts old new
accounts-kept old new claims same past =
    record {
      claims = claims;
      count = λ counted. ap (λ (ts : List HostTicket). length ts) same ∙ counted ∙ sym (ap (λ (p : List Event). length (tickets p)) past);
      held = λ t k own. ap (λ (ts : List HostTicket). owner_at ts t) (sym same) ∙ own;
    }

-- the bus is as it was
pub accounts-bus : (old new : HostState) → KeepsOwned old new → KeepsCount old new → bus_of new ≡ bus_of old → KeepsAccounts old new
accounts-bus old new claims count bus = record { claims = claims; count = counted-kept old new count; held = holds-bus old new bus }

-- the host went on by itself
accounts-went : (old new : HostState) → KeepsClaims old new → KeepsCount old new → HostGoesOn old new → KeepsAccounts old new
accounts-went old new claims count went = record { claims = claims.kept; count = counted-kept old new count; held = holds-went old new went }

pub accounts-waited : (h : HostState) (t timeout : ℕ) → KeepsAccounts h (waited host_calls t timeout h)
accounts-waited h t timeout = accounts-went h (waited host_calls t timeout h) (claims_stay_owned.wait h t timeout) (waited-count h t timeout) (went-waited h t timeout)

pub accounts-blocked : (h : HostState) (t timeout : ℕ) → KeepsAccounts h (blocked host_calls t timeout h)
accounts-blocked h t timeout = accounts-went h (blocked host_calls t timeout h) (claims_stay_owned.block h t timeout) (blocked-count h t timeout) (went-blocked h t timeout)

pub accounts-rest : (h : HostState) → KeepsAccounts h (host_rest h)
accounts-rest h = accounts-went h (host_rest h) (claims_stay_owned.rest h) (rest-count h) (went-rest h)

pub accounts-awaited : (h : HostState) (t deadline : ℕ) → KeepsAccounts h (host_awaited h t deadline)
accounts-awaited h t deadline = accounts-went h (host_awaited h t deadline) (claims_stay_owned.await_ticket h t deadline) (awaited-count h t deadline) (went-awaited h t deadline)

accounts-steps : (h : HostState) (steps : List KernelStep) → KeepsAccounts h (record h { steps = steps })
accounts-steps h steps = accounts-kept h (record h { steps = steps }) (steps-owned h steps).kept refl refl

-- the steps of a line were lent to it, and what is left of them is applied
pub accounts-lent : (host now : HostState) (steps : List KernelStep) → KeepsAccounts (record host { steps = steps }) now → KeepsAccounts host (host_rest now)
accounts-lent host now steps keeps =
    let lent = record host { steps = steps } in
    accounts-then host lent (host_rest now) (accounts-steps host steps) (accounts-then lent now (host_rest now) keeps (accounts-rest now))

-- discards, the clear of a halt, and the close of an endpoint
pub accounts-discarded : (h : HostState) (t : ℕ) → KeepsAccounts h (host_discarded h t)
unfolding host_discarded
accounts-discarded h t =
    record { claims = (claims_stay_owned.discard h t).kept; count = counted-kept h (host_discarded h t) (discarded-count h t); held = λ u k own. own }

pub accounts-all_discarded : (h : HostState) (ts : List ℕ) → KeepsAccounts h (all_discarded host_discarded h ts)
accounts-all_discarded h [] = accounts-same h
accounts-all_discarded h (t ∷ ts) =
    let mid = all_discarded host_discarded h ts in accounts-then h mid (host_discarded mid t) (accounts-all_discarded h ts) (accounts-discarded mid t)

pub accounts-halt : (h : HostState) (device endpoint : ℕ) → KeepsAccounts h (host_halt_cleared h device endpoint)
unfolding called
accounts-halt h device endpoint = accounts-kept h (host_halt_cleared h device endpoint) (claims_stay_owned.clear_halt h device endpoint).kept refl refl

pub accounts-left : (h : HostState) (key : ℕ) → key_at h.endpoints key ≡ true → KeepsAccounts h (host_left h key)
accounts-left h key open_ =
    record {
      claims = (claims_stay_owned.leave h key open_).kept;
      count = counted-kept h (host_left h key) (left-count h key);
      held = λ t k own. sym (ap (λ (b : BusState). b.owner t) (bus-left h key)) ∙ own;
    }

-- they are calls on any endpoint that leave its tickets pending
pub accounts-of : (old new : HostState) (key : ℕ) (ts : List ℕ) → KeepsAccounts old new → KeepsAccountsOf old new key ts ts
accounts-of old new key ts keeps =
    record {
      claims = keeps.claims;
      count = keeps.count;
      others = λ t k apart own. keeps.held t k own;
      own = λ counted only t own. only t (keeps.held t key own);
    }

pub of-same : (h : HostState) (key : ℕ) (ts : List ℕ) → KeepsAccountsOf h h key ts ts
of-same h key ts = accounts-of h h key ts (accounts-same h)

pub of-then : (a b c : HostState) (key : ℕ) (xs ys zs : List ℕ) → KeepsAccountsOf a b key xs ys → KeepsAccountsOf b c key ys zs → KeepsAccountsOf a c key xs zs
of-then a b c key xs ys zs first second =
    record {
      claims = owned-then a b c first.claims second.claims;
      count = λ counted. second.count (first.count counted);
      others = λ t k apart own. first.others t k apart (second.others t k apart own);
      own = λ counted only. second.own (first.count counted) (first.own counted only);
    }

pub of-is : (old mid new : HostState) (key : ℕ) (xs ys zs : List ℕ) → new ≡ mid → zs ≡ ys → KeepsAccountsOf old mid key xs ys → KeepsAccountsOf old new key xs zs
of-is old mid new key xs ys zs is same keeps =
    subst (λ (ts : List ℕ). KeepsAccountsOf old new key xs ts) (sym same) (subst (λ (h : HostState). KeepsAccountsOf old h key xs ys) (sym is) keeps)

pub of-lent : (host now : HostState) (steps : List KernelStep) (key : ℕ) (xs ys : List ℕ) → KeepsAccountsOf (record host { steps = steps }) now key xs ys → KeepsAccountsOf host (host_rest now) key xs ys
of-lent host now steps key xs ys keeps =
    let lent = record host { steps = steps } in
    of-then host lent (host_rest now) key xs xs ys (accounts-of host lent key xs (accounts-steps host steps))
    (of-then lent now (host_rest now) key xs ys ys keeps (accounts-of now (host_rest now) key ys (accounts-rest now)))

-- an endpoint that is open stays open
pub key-goes : (old new : List (Option HostEndpoint)) (key : ℕ) → EndpointsGoOn old new → key_at old key ≡ true → key_at new key ≡ true
key-goes old new key goes open_ = by (value_at old key) refl open_
  where
    by : (o : Option HostEndpoint) → value_at old key ≡ o → option_map_or (λ (e : HostEndpoint). e.is_open) o false ≡ true → key_at new key ≡ true
    by None at open_ = absurd (cc)
    by (Some e) at open_ = ap (λ (o : Option HostEndpoint). option_map_or (λ (e : HostEndpoint). e.is_open) o false) (goes.stays key e at open_) ∙ open_

-- the endpoint is the same, and open still, behind a call whose line goes on
pub of-on : (a b c : HostState) (key now : ℕ) (xs ys zs : List ℕ) → now ≡ key → LineGoesOn a b → key_at a.endpoints key ≡ true → KeepsAccountsOf a b key xs ys → (key_at b.endpoints now ≡ true → KeepsAccountsOf b c now ys zs) → KeepsAccountsOf a c key xs zs
of-on a b c key now xs ys zs same line open_ first second =
    let at_b : key_at b.endpoints now ≡ true = ap (key_at b.endpoints) same ∙ key-goes a.endpoints b.endpoints key line.endpoints open_ in
    of-then a b c key xs ys zs first (subst (λ (k : ℕ). KeepsAccountsOf b c k ys zs) same (second at_b))

-- one more ticket is pending
entered-owned : (h : HostState) (e : EndpointState) (deadline : Option ℕ) (b : BufferState) → key_at h.endpoints e.key ≡ true → KeepsClaims h (entered host_calls h e deadline b)
entered-owned h e deadline b open_ =
    let to = route_of e in
    let t = transfer_by to b in
    cond_both (is_valid e b) (host_submitted h to deadline t) (host_refused h to t 22) (KeepsClaims h)
    (λ yes_. claims_stay_owned.submit h to deadline t open_) (λ no_. claims_stay_owned.refuse h to t 22 open_)

pub of-entered : (h : HostState) (e : EndpointState) (deadline : Option ℕ) (b : BufferState) → key_at h.endpoints e.key ≡ true → KeepsAccountsOf h (entered host_calls h e deadline b) e.key e.pending (e.pending ++ length (tickets h.kernel.past) ∷ [])
of-entered h e deadline b open_ =
    let n = length (tickets h.kernel.past) in
    record {
      claims = (entered-owned h e deadline b open_).kept;
      count = counted-more h (entered host_calls h e deadline b) (entered-count h e deadline b);
      others = λ t k apart own. elim (entered-held h e deadline b t k own) [ inl new ↦ absurd (apart new.1) | inr old ↦ old ];
      own = λ counted only t own. elim (entered-held h e deadline b t e.key own) [
        | inl new ↦ subst (λ (u : ℕ). Contains (e.pending ++ n ∷ []) u) (sym (new.0 ∙ counted)) (Contains-push e.pending n)
        | inr old ↦ Contains-append_left e.pending (n ∷ []) t (only t old)
      ];
    }

-- the first is taken, or given up
of-parted : (h now : HostState) (t : ℕ) (ts : List ℕ) (key : ℕ) → KeepsClaims h now → KeepsCount h now → ((u k : ℕ) → owner_at now.tickets u ≡ Some k → (u ≢ t) × (owner_at h.tickets u ≡ Some k)) → KeepsAccountsOf h now key (t ∷ ts) ts
of-parted h now t ts key claims count held =
    record {
      claims = claims.kept;
      count = counted-kept h now count;
      others = λ u k apart own. (held u k own).1;
      own = λ counted only u own.
          let was = held u key own in
          Contains-behind t ts u (λ same. was.0 (sym same)) (only u was.1);
    }

pub of-taken : (h : HostState) (t : ℕ) (ts : List ℕ) (key : ℕ) → KeepsAccountsOf h (host_taken h t) key (t ∷ ts) ts
of-taken h t ts key = of-parted h (host_taken h t) t ts key (claims_stay_owned.take h t) (taken-count h t) (taken-held h t)

pub of-abandoned : (h : HostState) (t : ℕ) (ts : List ℕ) (key : ℕ) → KeepsAccountsOf h (host_abandoned h t) key (t ∷ ts) ts
of-abandoned h t ts key = of-parted h (host_abandoned h t) t ts key (claims_stay_owned.abandon h t) (abandoned-count h t) (abandoned-held h t)

of-all_abandoned : (h : HostState) (ts : List ℕ) (key : ℕ) → KeepsAccountsOf h (all_abandoned host_abandoned h ts) key ts []
of-all_abandoned h [] key = of-same h key []
of-all_abandoned h (t ∷ ts) key =
    let mid = host_abandoned h t in
    of-then h mid (all_abandoned host_abandoned mid ts) key (t ∷ ts) ts [] (of-abandoned h t ts key) (of-all_abandoned mid ts key)

-- all are given up, and the endpoint is closed
pub of-closed : (h : HostState) (e : EndpointState) → key_at h.endpoints e.key ≡ true → KeepsAccountsOf h (after_close host_calls h e) e.key e.pending []
of-closed h e open_ =
    let first = all_discarded host_discarded h e.pending in
    let second = all_abandoned host_abandoned first e.pending in
    let last = host_left second e.key in
    let at_first = key-goes h.endpoints first.endpoints e.key (keeps-all_discarded h e.pending).endpoints open_ in
    let at_second = key-goes first.endpoints second.endpoints e.key (keeps-all_abandoned first e.pending).endpoints at_first in
    of-then h first last e.key e.pending e.pending [] (accounts-of h first e.key e.pending (accounts-all_discarded h e.pending))
    (of-then first second last e.key e.pending [] [] (of-all_abandoned first e.pending e.key) (accounts-of second last e.key [] (accounts-left second e.key at_second)))
