-- While reports are read nothing is opened, and the close of the endpoint closes it.
use Rattle.std.proofs.Common.{ℕ, ◌≡◌, ◌≢◌, ◌∙◌, Bool, true, false, List, [], ◌∷◌, ap, sym, subst, refl, inl, inr, Option, Some, None}
use Rattle.std.specs.Option.{option_map_or}
use Rattle.std.proofs.lemmas.Bool.{cond_both, cases_eq, eq-eqb, ne_eqb}
use Rattle.usb_xfer.specs.BufferState.{BufferState}
use Rattle.usb_xfer.specs.declared.transfer.Completion.{Completion}
use Rattle.usb_kernel.specs.TransferCompletions.{transfer_completion}
use Rattle.usb_device_tables.specs.History.{value_at}
use Rattle.usb_device_ledger.specs.Entries.{ClaimedInterface, HostEndpoint}
use Rattle.usb_device_endpoint.specs.BusState.{without_key}
use Rattle.usb_device_endpoint.specs.EndpointState.{EndpointState, route_of}
use Rattle.usb_device_endpoint.specs.Submits.{is_valid, transfer_by, entered}
use Rattle.usb_device_endpoint.specs.Closes.{all_discarded, all_abandoned, after_close}
use Rattle.usb_device_endpoint.specs.Waits.{Polled, front_found, front_of, taken_if, polled_of, waited, wait_next}
use Rattle.usb_device_host.specs.HostState.{HostState}
use Rattle.usb_device_host.specs.HostBus.{bus_of, key_at}
use Rattle.usb_device_host.specs.HostFrames.{EndpointsGoOn, ClaimsGoOn}
use Rattle.usb_device_host.specs.TicketEnds.{host_abandoned}
use Rattle.usb_device_host.specs.HostCalls.{host_calls, host_submitted, host_refused, host_discarded, host_left}
use Rattle.usb_device_host.proofs.HostKeeps.{KeepsOpen}
use Rattle.usb_device_host.proofs.CallFrames.{keeps-open, keeps-submitted, keeps-refused, keeps-taken, keeps-abandoned, line-left, interfaces-left}
use Rattle.usb_device_host.proofs.WaitFrames.{went-waited}
use Rattle.example_keyboard.specs.Closing.{NoMoreDevices, NoMoreInterfaces, LeavesNoneOpen, LeavesOneOpen}
use Rattle.example_keyboard.proofs.HandleCounts.{more-goes, more-same, more-trans}
use Rattle.example_keyboard.proofs.OpenHandles.{device_count, claim_count, none-refl, none-trans}

-- an endpoint that is open was open
abbrev is_open_in : Option HostEndpoint → Bool
is_open_in o = option_map_or (λ (e : HostEndpoint). e.is_open) o false

key-was : (es es' : List (Option HostEndpoint)) → EndpointsGoOn es es' → (k : ℕ) → key_at es' k ≡ true → key_at es k ≡ true
key-was es es' goes k there = by (value_at es' k) refl
  where
    by : (o : Option HostEndpoint) → value_at es' k ≡ o → key_at es k ≡ true
    by None none = absurd (let gone : key_at es' k ≡ false = ap is_open_in none in cc (gone, there))
    by (Some e) at = ap is_open_in (goes.was k e at) ∙ (sym (ap is_open_in at) ∙ there)

none-of : (old new : HostState) → new.devices ≡ old.devices → ClaimsGoOn old.interfaces new.interfaces → EndpointsGoOn old.endpoints new.endpoints →
    LeavesNoneOpen old new
none-of old new devices interfaces endpoints =
    record {
      devices = more-same device_count old.devices new.devices devices;
      interfaces = more-goes claim_count (λ (c : ClaimedInterface). _) old.interfaces new.interfaces interfaces;
      endpoints = key-was old.endpoints new.endpoints endpoints;
    }

none-kept : (old new : HostState) → KeepsOpen old new → LeavesNoneOpen old new
none-kept old new keeps = none-of old new keeps.line.devices keeps.interfaces keeps.endpoints

-- a submission, a wait and a poll
none-entered : (h : HostState) (e : EndpointState) (b : BufferState) → LeavesNoneOpen h (entered host_calls h e None b)
none-entered h e b =
    let transfer = transfer_by (route_of e) b in
    none-kept h (entered host_calls h e None b)
    (cond_both (is_valid e b) (host_submitted h (route_of e) None transfer) (host_refused h (route_of e) transfer 22) (KeepsOpen h)
    (λ valid. keeps-submitted h (route_of e) None transfer) (λ other. keeps-refused h (route_of e) transfer 22))

none-waited : (h : HostState) (t timeout : ℕ) → LeavesNoneOpen h (waited host_calls t timeout h)
none-waited h t timeout =
    let line = (went-waited h t timeout).line in
    none-of h (waited host_calls t timeout h) line.devices line.interfaces line.endpoints

kept-same : (h new : HostState) → new ≡ h → KeepsOpen h new
kept-same h new same = subst (KeepsOpen h) (sym same) (keeps-open h)

kept-if : (h new : HostState) (e e' : EndpointState) (t : ℕ) (ts : List ℕ) (found o : Option Completion) →
    taken_if host_calls h e t ts o ≡ front_found found new e' → KeepsOpen h new
kept-if h new e e' t ts found None is = kept-same h new (ap (λ (p : Polled HostState). p.bus) (sym is))
kept-if h new e e' t ts found (Some c) is =
    subst (KeepsOpen h) (ap (λ (p : Polled HostState). p.bus) is) (keeps-taken h t)

kept-of : (h new : HostState) (e e' : EndpointState) (ts : List ℕ) (found : Option Completion) →
    polled_of host_calls h e ts ≡ front_found found new e' → KeepsOpen h new
kept-of h new e e' [] found is = kept-same h new (ap (λ (p : Polled HostState). p.bus) (sym is))
kept-of h new e e' (t ∷ ts) found is = kept-if h new e e' t ts found (transfer_completion h.kernel.past t) is

pub none-packet : (first mid new : HostState) (e e' e'' : EndpointState) (b : BufferState) (timeout : ℕ) (found : Option Completion) →
    mid ≡ entered host_calls first e None b → wait_next host_calls timeout mid e' ≡ front_found found new e'' → LeavesNoneOpen first new
none-packet first mid new e e' e'' b timeout found is waits =
    let at = waited host_calls (front_of e'.pending) timeout mid in
    none-trans first mid new (subst (LeavesNoneOpen first) (sym is) (none-entered first e b))
    (none-trans mid at new (none-waited mid (front_of e'.pending) timeout)
    (none-kept at new (kept-of at new e' e'' e'.pending found waits)))

-- the close of the endpoint
none-discarded : (h : HostState) (ts : List ℕ) → LeavesNoneOpen h (all_discarded host_discarded h ts)
unfolding host_discarded
none-discarded h [] = none-refl h
none-discarded h (t ∷ ts) =
    let before = none-discarded h ts in
    record { devices = before.devices; interfaces = before.interfaces; endpoints = before.endpoints }

none-abandoned : (h : HostState) (ts : List ℕ) → LeavesNoneOpen h (all_abandoned host_abandoned h ts)
none-abandoned h [] = none-refl h
none-abandoned h (t ∷ ts) =
    let next = host_abandoned h t in
    none-trans h next (all_abandoned host_abandoned next ts) (none-kept h next (keeps-abandoned h t)) (none-abandoned next ts)

keys-gone : (keys : ℕ → Bool) (key k : ℕ) → without_key keys key k ≡ true → (key ≢ k) × (keys k ≡ true)
keys-gone keys key k there =
    elim (cases_eq key k) [
      | inl same ↦ absurd (let gone : without_key keys key k ≡ false = rw (eq-eqb key k same) refl in cc (gone, there))
      | inr apart ↦ (apart, let kept : without_key keys key k ≡ keys k = rw (ne_eqb key k apart) refl in sym kept ∙ there)
    ]

-- what was left open before is closed
pub one-closes : (first old new : HostState) (key : ℕ) (e : EndpointState) → LeavesOneOpen first old key → e.key ≡ key →
    new ≡ after_close host_calls old e → (bus_of new).keys ≡ without_key (bus_of old).keys e.key → LeavesNoneOpen first new
one-closes first old new key e one same is keys =
    let discarded = all_discarded host_discarded old e.pending in
    let given_up = all_abandoned host_abandoned discarded e.pending in
    let before = none-trans old discarded given_up (none-discarded old e.pending) (none-abandoned discarded e.pending) in
    let closed = host_left given_up e.key in
    record {
      devices = more-trans device_count first.devices old.devices new.devices one.devices
          (subst (λ (h : HostState). NoMoreDevices old h) (sym is)
          (more-trans device_count old.devices given_up.devices closed.devices before.devices
          (more-same device_count given_up.devices closed.devices (line-left given_up e.key).devices)));
      interfaces = more-trans claim_count first.interfaces old.interfaces new.interfaces one.interfaces
          (subst (λ (h : HostState). NoMoreInterfaces old h) (sym is)
          (more-trans claim_count old.interfaces given_up.interfaces closed.interfaces before.interfaces
          (more-goes claim_count (λ (c : ClaimedInterface). _) given_up.interfaces closed.interfaces (interfaces-left given_up e.key))));
      endpoints = λ k there.
          let gone = keys-gone (bus_of old).keys e.key k (sym (ap (λ (keys : ℕ → Bool). keys k) keys) ∙ there) in
          one.endpoints k (λ z. gone.0 (same ∙ z)) gone.1;
    }

-- what is read in between opens nothing
pub one-kept : (first old new : HostState) (key : ℕ) → LeavesOneOpen first old key → LeavesNoneOpen old new → LeavesOneOpen first new key
one-kept first old new key one none =
    record {
      devices = more-trans device_count first.devices old.devices new.devices one.devices none.devices;
      interfaces = more-trans claim_count first.interfaces old.interfaces new.interfaces one.interfaces none.interfaces;
      endpoints = λ k apart there. one.endpoints k apart (none.endpoints k there);
    }
