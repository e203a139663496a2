-- Sessions in which futures and their names change together.
use Rattle.std.proofs.Common.{◌≡◌, ◌≢◌, ℕ, ◌<◌, arith, List, [], ◌∷◌, ◌++◌, length, Bool, true, false, Option, Some, None, refl, ap, sym, ◌∙◌, subst, inl, inr}
use Rattle.std.specs.Prelude.{IsSome, ◌==◌}
use Rattle.std.proofs.lemmas.Bool.{cond_both, eq-eqb, eqb-true}
use Rattle.usb_kernel.specs.Extends.{Extends}
use Rattle.usb_device_endpoint.specs.BusState.{BusState, without_owner, without_key}
use Rattle.usb_device_endpoint.specs.EndpointState.{EndpointState}
use Rattle.usb_device_endpoint.specs.Handles.{KeepsOthers}
use Rattle.usb_device_endpoint.proofs.Frames.{Stands-other, keeps_others, others-same}
use Rattle.usb_device_endpoint.proofs.HandleLemmas.{KeepsOthers-end}
use Rattle.usb_device_ledger.specs.Entries.{HostEndpoint}
use Rattle.usb_device_host.specs.HostState.{HostState}
use Rattle.usb_device_host.specs.HostBus.{bus_of, owner_at, key_at}
use Rattle.usb_device_host.specs.HostCalls.{host_left}
use Rattle.usb_device_host.specs.TicketEnds.{host_abandoned}
use Rattle.usb_device.specs.Futures.{FutureState, StandsFuture, closed_by, future_closed}
use Rattle.usb_device_host.proofs.ClaimFrames.{goes-trans}
use Rattle.usb_device_host.proofs.CallFrames.{keeps-abandoned, line-left, interfaces-left, bus-left, bus-abandoned}
use Rattle.usb_device_host.proofs.CloseLemmas.{abandoned-past}
use Rattle.usb_device_ledger.proofs.DeviceLemmas.{counts-same, counts-there, opened-counts}
use Rattle.usb_device_host.proofs.DeviceLemmas.{counts-stands}
use Rattle.usb_device_host.proofs.FollowLemmas.{on-left}
use Rattle.usb_device.proofs.FreshKeys.{endpoint-within}
use Rattle.usb_device_host.proofs.HeldDevices.{held-goes}
use Rattle.usb_device_host.proofs.HostKeeps.{KeepsOpen}
use Rattle.std.specs.List.{cons_option}
use Rattle.usb_session_streams.specs.Accounts.{KeepsAccountsOf}
use Rattle.usb_session_streams.proofs.AccountLemmas.{accounts-of, accounts-left, of-then, of-abandoned, key-goes}
use Rattle.usb_session_calls.specs.Names.{named, is_free, freed, set_name}
use Rattle.usb_session_calls.specs.EndpointNames.{EndpointName}
use Rattle.usb_session_calls.specs.SessionState.{SessionState, IsSound, open_under}
use Rattle.usb_session_calls.proofs.Called.{KeepsSession, names-freed}
use Rattle.usb_session_calls.proofs.CountedNames.{counted-goes}
use Rattle.usb_session_calls.proofs.CountedDevices.{devices-kept}
use Rattle.usb_session_calls.proofs.FutureLemmas.{control_with, future-goes, future-within}
use Rattle.usb_session_calls.proofs.NameLemmas.{length-freed, length-set_name, names-set}
use Rattle.usb_session_calls.proofs.NamedTickets.{tickets-future_gone, tickets-future_opened}
use Rattle.usb_session_calls.proofs.NamedKeys.{OpensNone, none-goes, named-future_closed, named-future_opened}
use Rattle.usb_device_host.proofs.LeftDevices.{StandsInterface-same}

-- what a session stands on is kept, and the endpoint of a key, at which these were pending, is open no more
pub record LeavesKey (old new : HostState) (key : ℕ) (pending : List ℕ) : Type 0 where
  pub session : KeepsSession old new
  pub others : KeepsOthers (bus_of old) (bus_of new) key
  pub none : OpensNone old.endpoints new.endpoints
  pub closed : key_at new.endpoints key ≡ false
  pub accounts : KeepsAccountsOf old new key pending []

-- its ticket has ended (`mid`), and then it was left
module _ (h mid : HostState) (key t : ℕ) (keeps : KeepsOpen h mid) where
  left-others : bus_of mid ≡ record (bus_of h) { owner = without_owner (owner_at h.tickets) t } → owner_at h.tickets t ≡ Some key → KeepsOthers (bus_of h) (bus_of (host_left mid key)) key
  left-others ended held =
      let gone = KeepsOthers-end (bus_of h) (bus_of h) (bus_of mid) key t (others-same (bus_of h) (bus_of h) key refl refl) held ended in
      keeps_others (bus_of h) (bus_of (host_left mid key)) key
      (λ u k other own. ap (λ (b : BusState). b.owner u) (bus-left mid key) ∙ gone.tickets u k other own)
      (λ k other is. ap (λ (b : BusState). b.keys k) (bus-left mid key) ∙ kept_key (key_at mid.endpoints) k other (gone.keys k other is))
    where
      kept_key : (keys : ℕ → Bool) (k : ℕ) → k ≢ key → keys k ≡ true → without_key keys key k ≡ true
      kept_key keys k other is = cond_both (key == k) false (keys k) (λ b. b ≡ true) (λ same. absurd (other (sym (eqb-true key k same)))) (λ no_. is)

  left-session : h.steps ≡ [] → mid.kernel.past ≡ h.kernel.past → KeepsSession h (host_left mid key)
  left-session idle past =
      let line = line-left mid key in
      record {
        idle = line.steps ∙ keeps.line.steps ∙ idle;
        past = subst (λ p. Extends p (host_left mid key).kernel.past) past (on-left mid key).past;
        devices = λ k. counts-same mid.devices _ line.devices k ∙ counts-same h.devices _ keeps.line.devices k;
        interfaces = goes-trans h.interfaces mid.interfaces (host_left mid key).interfaces keeps.interfaces (interfaces-left mid key);
      }

  left-open : (k : ℕ) → key_at (host_left mid key).endpoints k ≡ without_key (key_at mid.endpoints) key k
  left-open k = ap (λ (b : BusState). b.keys k) (bus-left mid key)

  left-none : OpensNone h.endpoints (host_left mid key).endpoints
  left-none k open_ = none-goes h.endpoints mid.endpoints keeps.endpoints k (before (key_at mid.endpoints) (sym (left-open k) ∙ open_))
    where
      before : (keys : ℕ → Bool) → without_key keys key k ≡ true → keys k ≡ true
      before keys is = cond_both (key == k) false (keys k) (λ b. b ≡ true → keys k ≡ true) (λ same no_. absurd (cc)) (λ other was. was) is

  pub leaves-key : h.steps ≡ [] → mid.kernel.past ≡ h.kernel.past → bus_of mid ≡ record (bus_of h) { owner = without_owner (owner_at h.tickets) t } → owner_at h.tickets t ≡ Some key → key_at h.endpoints key ≡ true → KeepsAccountsOf h mid key (t ∷ []) [] → LeavesKey h (host_left mid key) key (t ∷ [])
  leaves-key idle past ended held open_ accounts =
      record {
        session = left-session idle past;
        others = left-others ended held;
        none = left-none;
        closed = left-open key ∙ rw (eq-eqb key key refl) refl;
        accounts = of-then h mid (host_left mid key) key (t ∷ []) [] [] accounts (accounts-of mid (host_left mid key) key [] (accounts-left mid key (key-goes h.endpoints mid.endpoints key keeps.endpoints open_)));
      }

-- so it is of the close of a future that stands and has its ticket still
pub leaves-closed : (h : HostState) (f : FutureState) → h.steps ≡ [] → IsSome f.ticket → StandsFuture h f → LeavesKey h (future_closed h f) f.key (cons_option f.ticket [])
leaves-closed h f idle some stands = by f.ticket refl some
  where
    by : (o : Option ℕ) → f.ticket ≡ o → IsSome o → LeavesKey h (closed_by h f.key o) f.key (cons_option o [])
    by None at some = absurd (cc)
    by (Some t) at some =
        let way = stands.on_its_way t at in
        leaves-key h (host_abandoned h t) f.key t (keeps-abandoned h t) idle (abandoned-past h t) (bus-abandoned h t) way.held way.key_is_open (of-abandoned h t [] f.key)

-- a future is open no more, and its name is free
pub sound-future_freed : (s : SessionState) (now : HostState) (after : List (Option FutureState)) (n : ℕ) (x : FutureState) → IsSound s → named s.futures n ≡ Some x → after ≡ freed s.futures n → LeavesKey s.host now x.key (cons_option x.ticket []) → IsSound (record s { host = now; futures = after })
sound-future_freed s now after n x sound was rest leaves =
    let keeps = leaves.session in
    let before : (m : ℕ) (f : FutureState) → named after m ≡ Some f → (m ≢ n) × (named s.futures m ≡ Some f) = λ m f is. names-freed s.futures after n m f rest is in
    record {
      idle = keeps.idle;
      device_names = sound.device_names;
      interface_names = sound.interface_names;
      endpoint_names = sound.endpoint_names;
      reader_names = sound.reader_names;
      writer_names = sound.writer_names;
      client_names = sound.client_names;
      devices_stand = λ d k is. counts-stands s.host now k keeps.devices (sound.devices_stand d k is);
      devices_counted = devices-kept s.host.devices now.devices s.devices (opened-counts s.host.devices now.devices keeps.devices) sound.devices_counted;
      devices_held = held-goes s.host now keeps.devices keeps.interfaces sound.devices_held;
      interfaces_stand = λ i f is. StandsInterface-same s.host now f keeps.interfaces (counts-there s.host.devices now.devices keeps.devices) (sound.interfaces_stand i f is);
      interfaces_counted = counted-goes s.host.interfaces now.interfaces s.interfaces keeps.interfaces sound.interfaces_counted;
      endpoints_stand = λ e h is. Stands-other (bus_of s.host) (bus_of now) x.key h leaves.others (sound.futures_apart e n h x is was) (sound.endpoints_stand e h is);
      endpoints_small = sound.endpoints_small;
      endpoints_differ = sound.endpoints_differ;
      future_names = ap (λ (l : List (Option FutureState)). length l) rest ∙ length-freed s.futures n ∙ sound.future_names;
      futures_wait = λ m f is. sound.futures_wait m f (before m f is).1;
      futures_stand = λ m f is.
          let there = before m f is in
          future-goes s.host now f (λ t. Stands-other (bus_of s.host) (bus_of now) x.key (control_with f.key t) leaves.others (sound.futures_differ m n f x there.1 was there.0)) keeps.past (sound.futures_stand m f there.1);
      futures_differ = λ m k f g isf isg apart. sound.futures_differ m k f g (before m f isf).1 (before k g isg).1 apart;
      futures_apart = λ e m h f ish isf. sound.futures_apart e m h f ish (before m f isf).1;
      keys_named = named-future_closed s.host.endpoints now.endpoints (open_under s) s.futures after n x leaves.none leaves.closed was rest sound.keys_named;
      tickets_named = tickets-future_gone s sound now after n x was rest leaves.accounts;
      tickets_counted = leaves.accounts.count sound.tickets_counted;
      claims_owned = leaves.accounts.claims.owned sound.claims_owned;
    }

-- a future is open under a name that was free
pub sound-future_opened : (s : SessionState) (now : HostState) (after : List (Option FutureState)) (n : ℕ) (x : FutureState) (h : HostEndpoint) → IsSound s → is_free s.futures n ≡ true → after ≡ set_name s.futures n x → x.key ≡ length s.host.endpoints → IsSome x.ticket → StandsFuture now x
    → KeepsSession s.host now → KeepsOthers (bus_of s.host) (bus_of now) x.key → now.endpoints ≡ s.host.endpoints ++ Some h ∷ [] → KeepsAccountsOf s.host now x.key [] (cons_option x.ticket []) → IsSound (record s { host = now; futures = after })
sound-future_opened s now after n x h sound free put key some stands keeps others more accounts =
    let old : (f : FutureState) (m : ℕ) → named s.futures m ≡ Some f → f.key ≢ x.key = λ f m at. apart f.key (future-within s.host f (sound.futures_wait m f at) (sound.futures_stand m f at)) in
    let older : (g : EndpointState) (e : EndpointName) → open_under s e ≡ Some g → g.key ≢ x.key = λ g e at. apart g.key (endpoint-within s.host g (sound.endpoints_stand e g at)) in
    record {
      idle = keeps.idle;
      device_names = sound.device_names;
      interface_names = sound.interface_names;
      endpoint_names = sound.endpoint_names;
      reader_names = sound.reader_names;
      writer_names = sound.writer_names;
      client_names = sound.client_names;
      devices_stand = λ d k is. counts-stands s.host now k keeps.devices (sound.devices_stand d k is);
      devices_counted = devices-kept s.host.devices now.devices s.devices (opened-counts s.host.devices now.devices keeps.devices) sound.devices_counted;
      devices_held = held-goes s.host now keeps.devices keeps.interfaces sound.devices_held;
      interfaces_stand = λ i f is. StandsInterface-same s.host now f keeps.interfaces (counts-there s.host.devices now.devices keeps.devices) (sound.interfaces_stand i f is);
      interfaces_counted = counted-goes s.host.interfaces now.interfaces s.interfaces keeps.interfaces sound.interfaces_counted;
      endpoints_stand = λ e g is. Stands-other (bus_of s.host) (bus_of now) x.key g others (older g e is) (sound.endpoints_stand e g is);
      endpoints_small = sound.endpoints_small;
      endpoints_differ = sound.endpoints_differ;
      future_names = ap (λ (l : List (Option FutureState)). length l) put ∙ length-set_name s.futures n x ∙ sound.future_names;
      futures_wait = λ m f is. elim (names-set s.futures after n m x f free put is) [
        | inl here ↦ subst (λ (z : FutureState). IsSome z.ticket) (sym here.1) some
        | inr there ↦ sound.futures_wait m f there.1
      ];
      futures_stand = λ m f is. elim (names-set s.futures after n m x f free put is) [
        | inl here ↦ subst (StandsFuture now) (sym here.1) stands
        | inr there ↦
            future-goes s.host now f (λ t. Stands-other (bus_of s.host) (bus_of now) x.key (control_with f.key t) others (old f m there.1)) keeps.past (sound.futures_stand m f there.1)
      ];
      futures_differ = λ m k f g isf isg apart. elim (names-set s.futures after n m x f free put isf) [
        | inl herem ↦ elim (names-set s.futures after n k x g free put isg) [
          | inl herek ↦ absurd (apart (herem.0 ∙ sym herek.0))
          | inr therek ↦ λ same. old g k therek.1 (sym same ∙ ap (λ (z : FutureState). z.key) herem.1)
        ]
        | inr therem ↦ elim (names-set s.futures after n k x g free put isg) [
          | inl herek ↦ λ same. old f m therem.1 (same ∙ ap (λ (z : FutureState). z.key) herek.1)
          | inr therek ↦ sound.futures_differ m k f g therem.1 therek.1 apart
        ]
      ];
      futures_apart = λ e m g f isg isf. elim (names-set s.futures after n m x f free put isf) [
        | inl here ↦ λ same. older g e isg (same ∙ ap (λ (z : FutureState). z.key) here.1)
        | inr there ↦ sound.futures_apart e m g f isg there.1
      ];
      keys_named = named-future_opened s.host.endpoints now.endpoints (open_under s) s.futures after n h x more key free put sound.keys_named;
      tickets_named = tickets-future_opened s sound now after n x free put (λ e g at. older g e at) (λ m f at. old f m at) accounts;
      tickets_counted = accounts.count sound.tickets_counted;
      claims_owned = accounts.claims.owned sound.claims_owned;
    }
  where
    apart : (k : ℕ) → k < length s.host.endpoints → k ≢ x.key
    apart k less = λ same. absurd (omega (arith, less, same, key))
