-- Calls on what a session has open: what they keep.
use Rattle.std.proofs.Common.{◌≡◌, ◌≢◌, ℕ, ◌<◌, List, [], length, map, Option, Some, None, false, refl, ap, sym, ◌∙◌, subst, inl, inr}
use Rattle.std.specs.Option.{option_map}
use Rattle.std.proofs.lemmas.Bool.{cases_eq}
use Rattle.std.proofs.lemmas.Option.{none-some, same_Some}
use Rattle.usb_device_endpoint.specs.EndpointState.{EndpointState}
use Rattle.usb_device_endpoint.specs.Handles.{Stands, KeepsOthers}
use Rattle.usb_device_endpoint.proofs.Frames.{Stands-other}
use Rattle.usb_kernel.specs.Extends.{Extends}
use Rattle.usb_device_host.specs.HostState.{HostState}
use Rattle.usb_device_host.specs.HostBus.{bus_of, key_at}
use Rattle.usb_device_host.specs.HostFrames.{ClaimsGoOn}
use Rattle.usb_device.specs.Futures.{FutureState, StandsFuture}
use Rattle.usb_device_ledger.proofs.DeviceLemmas.{KeepsCounts, counts-there, opened-counts}
use Rattle.usb_device_host.proofs.DeviceLemmas.{counts-stands}
use Rattle.usb_device_host.proofs.HeldDevices.{held-goes}
use Rattle.usb_session_streams.specs.Accounts.{KeepsAccounts, KeepsAccountsOf}
use Rattle.usb_session_calls.specs.Names.{named, change_named, freed, set_name}
use Rattle.usb_io.specs.Readers.{ReaderState}
use Rattle.usb_io.specs.Writers.{WriterState}
use Rattle.usb_msg.specs.Clients.{ClientState}
use Rattle.usb_session_calls.specs.EndpointNames.{EndpointName, Own, OfReader, OfWriter, OfClientWriter, OfClientReader}
use Rattle.usb_session_calls.specs.State.{State, Endpoint, Reader, Writer, Client}
use Rattle.usb_session_calls.specs.SessionState.{SessionState, IsSound, open_under}
use Rattle.usb_session_calls.specs.Relation.{Represents}
use Rattle.usb_session_calls.proofs.EndpointNameLemmas.{Changed, ChangedBoth, ChangedAt, changed-back, changed-gone, own-changed, reader-changed, writer-changed, client-changed}
use Rattle.usb_session_calls.proofs.SoundOver.{SoundOver, over-session}
use Rattle.usb_session_calls.proofs.CountedNames.{counted-goes}
use Rattle.usb_session_calls.proofs.CountedDevices.{devices-kept}
use Rattle.usb_session_calls.proofs.NamedKeys.{OpensNone, named-goes, named-put, named-closed}
use Rattle.usb_session_calls.proofs.NamedTickets.{tickets-goes, tickets-put, tickets-gone}
use Rattle.usb_session_calls.proofs.FutureLemmas.{control_with, future-goes}
use Rattle.usb_session_calls.proofs.NameLemmas.{named-freed, named-freed_other, map-freed, map-set, map-change_named}
use Rattle.usb_device_host.proofs.LeftDevices.{StandsInterface-same}

-- what is kept between lines
pub record KeepsSession (old new : HostState) : Type 0 where
  pub idle : new.steps ≡ []
  pub past : Extends old.kernel.past new.kernel.past
  pub devices : KeepsCounts old.devices new.devices
  pub interfaces : ClaimsGoOn old.interfaces new.interfaces

-- what is open under a name once it was freed
pub names-freed : {X : Type 0} (xs after : List (Option X)) (n m : ℕ) (z : X) → after ≡ freed xs n → named after m ≡ Some z → (m ≢ n) × (named xs m ≡ Some z)
names-freed xs after n m z rest is =
    elim (cases_eq m n) [
      | inl same ↦ absurd (none-some z (sym (named-freed xs n) ∙ sym (ap (named (freed xs n)) same) ∙ sym (ap (λ l. named l m) rest) ∙ is))
      | inr apart ↦ (apart, sym (named-freed_other xs n m apart) ∙ sym (ap (λ l. named l m) rest) ∙ is)
    ]

-- a session with another host, and other endpoints, readers, writers and clients
abbrev pub with_open : SessionState → HostState → List (Option EndpointState) → List (Option ReaderState) → List (Option WriterState) → List (Option ClientState) → SessionState
with_open s host endpoints readers writers clients =
    record s { host = host; endpoints = endpoints; readers = readers; writers = writers; clients = clients }

-- it has as many names as before
pub record SameCounts (s : SessionState) (es : List (Option EndpointState)) (rs : List (Option ReaderState)) (ws : List (Option WriterState)) (cs : List (Option ClientState)) : Type 0 where
  pub endpoints : length es ≡ length s.endpoints
  pub readers : length rs ≡ length s.readers
  pub writers : length ws ≡ length s.writers
  pub clients : length cs ≡ length s.clients

-- the endpoints of a reader and of a writer, and those of a client
abbrev of_reader : ReaderState → EndpointState
of_reader x = x.endpoint

abbrev of_writer : WriterState → EndpointState
of_writer x = x.endpoint

abbrev of_client_writer : ClientState → EndpointState
of_client_writer x = x.writer.endpoint

abbrev of_client_reader : ClientState → EndpointState
of_client_reader x = x.reader.endpoint

-- what becomes of its endpoints where the names of one kind changed
module _ (s : SessionState) (now : HostState) (n : ℕ) where
  pub own-open : (after : List (Option EndpointState)) (o : Option EndpointState) → ChangedAt s.endpoints after n o → Changed (open_under s) (open_under (record s { host = now; endpoints = after })) (Own n) o
  own-open after o c = own-changed of_reader of_writer of_client_writer of_client_reader s.endpoints s.readers s.writers s.clients after n o c

  pub reader-open : (after : List (Option ReaderState)) (o : Option ReaderState) → ChangedAt s.readers after n o → Changed (open_under s) (open_under (record s { host = now; readers = after })) (OfReader n) (option_map of_reader o)
  reader-open after o c = reader-changed of_reader of_writer of_client_writer of_client_reader s.endpoints s.readers s.writers s.clients after n o c

  pub writer-open : (after : List (Option WriterState)) (o : Option WriterState) → ChangedAt s.writers after n o → Changed (open_under s) (open_under (record s { host = now; writers = after })) (OfWriter n) (option_map of_writer o)
  writer-open after o c = writer-changed of_reader of_writer of_client_writer of_client_reader s.endpoints s.readers s.writers s.clients after n o c

  pub client-open : (after : List (Option ClientState)) (o : Option ClientState) → ChangedAt s.clients after n o
      → ChangedBoth (open_under s) (open_under (record s { host = now; clients = after })) (OfClientWriter n) (OfClientReader n) (option_map of_client_writer o) (option_map of_client_reader o)
  client-open after o c = client-changed of_reader of_writer of_client_writer of_client_reader s.endpoints s.readers s.writers s.clients after n o c

-- futures stand over a call on an endpoint
futures-other : (s : SessionState) (h now : HostState) (opened : EndpointName → Option EndpointState) (e : EndpointName) (x : EndpointState) → SoundOver s h opened → opened e ≡ Some x → KeepsSession h now → KeepsOthers (bus_of h) (bus_of now) x.key
    → (n : ℕ) (f : FutureState) → named s.futures n ≡ Some f → StandsFuture now f
futures-other s h now opened e x sound was keeps others n f is =
    future-goes h now f (λ t. Stands-other (bus_of h) (bus_of now) x.key (control_with f.key t) others (λ same. sound.futures_apart e n x f was is (sym same))) keeps.past (sound.futures_stand n f is)

-- an endpoint that is open under a name was called, and is another now, or was closed
module _ (s : SessionState) (h now : HostState) (opened after : EndpointName → Option EndpointState) (e : EndpointName) (x : EndpointState) (sound : SoundOver s h opened) (was : opened e ≡ Some x)
    (keeps : KeepsSession h now) (others : KeepsOthers (bus_of h) (bus_of now) x.key) (none : OpensNone h.endpoints now.endpoints) where
  differ-put : (y : EndpointState) → Changed opened after e (Some y) → y.key ≡ x.key → (c d : EndpointName) (g z : EndpointState) → after c ≡ Some g → after d ≡ Some z → c ≢ d → g.key ≢ z.key
  differ-put y put key c d g z isg isz apart =
      elim (changed-back opened after e c g y put isg) [
        | inl herec ↦ elim (changed-back opened after e d z y put isz) [
          | inl hered ↦ absurd (apart (herec.0 ∙ sym hered.0))
          | inr thered ↦ λ same. sound.endpoints_differ e d x z was thered.1 (λ q. thered.0 (sym q)) (sym key ∙ sym (ap (λ (v : EndpointState). v.key) herec.1) ∙ same)
        ]
        | inr therec ↦ elim (changed-back opened after e d z y put isz) [
          | inl hered ↦ λ same. sound.endpoints_differ c e g x therec.1 was therec.0 (same ∙ ap (λ (v : EndpointState). v.key) hered.1 ∙ key)
          | inr thered ↦ sound.endpoints_differ c d g z therec.1 thered.1 apart
        ]
      ]

  pub over-put : (y : EndpointState) → Changed opened after e (Some y) → Stands (bus_of now) y → y.key ≡ x.key → y.maximum ≡ x.maximum → KeepsAccountsOf h now x.key x.pending y.pending → SoundOver s now after
  over-put y put stands key maximum accounts =
      record {
        idle = keeps.idle;
        devices_stand = λ d k is. counts-stands h now k keeps.devices (sound.devices_stand d k is);
        devices_counted = devices-kept h.devices now.devices s.devices (opened-counts h.devices now.devices keeps.devices) sound.devices_counted;
        devices_held = held-goes h now keeps.devices keeps.interfaces sound.devices_held;
        interfaces_stand = λ i f is. StandsInterface-same h now f keeps.interfaces (counts-there h.devices now.devices keeps.devices) (sound.interfaces_stand i f is);
        interfaces_counted = counted-goes h.interfaces now.interfaces s.interfaces keeps.interfaces sound.interfaces_counted;
        endpoints_stand = λ d z is. elim (changed-back opened after e d z y put is) [
          | inl here ↦ subst (Stands (bus_of now)) (sym here.1) stands
          | inr there ↦ Stands-other (bus_of h) (bus_of now) x.key z others (sound.endpoints_differ d e z x there.1 was there.0) (sound.endpoints_stand d z there.1)
        ];
        endpoints_small = λ d z is. elim (changed-back opened after e d z y put is) [
          | inl here ↦ subst (λ (n : ℕ). n < 2048) (sym (ap (λ (v : EndpointState). v.maximum) here.1 ∙ maximum)) (sound.endpoints_small e x was)
          | inr there ↦ sound.endpoints_small d z there.1
        ];
        endpoints_differ = differ-put y put key;
        keys_named = named-put h.endpoints now.endpoints opened after s.futures e x y none was put key sound.keys_named;
        tickets_named = tickets-put s h opened sound now after e x was y put key accounts;
        tickets_counted = accounts.count sound.tickets_counted;
        claims_owned = accounts.claims.owned sound.claims_owned;
        futures_stand = futures-other s h now opened e x sound was keeps others;
        futures_apart = λ d n z f isz isf. elim (changed-back opened after e d z y put isz) [
          | inl here ↦ λ same. sound.futures_apart e n x f was isf (sym key ∙ sym (ap (λ (v : EndpointState). v.key) here.1) ∙ same)
          | inr there ↦ sound.futures_apart d n z f there.1 isf
        ];
      }

  pub over-gone : Changed opened after e None → key_at now.endpoints x.key ≡ false → KeepsAccountsOf h now x.key x.pending [] → SoundOver s now after
  over-gone gone closed accounts =
      record {
        idle = keeps.idle;
        devices_stand = λ d k is. counts-stands h now k keeps.devices (sound.devices_stand d k is);
        devices_counted = devices-kept h.devices now.devices s.devices (opened-counts h.devices now.devices keeps.devices) sound.devices_counted;
        devices_held = held-goes h now keeps.devices keeps.interfaces sound.devices_held;
        interfaces_stand = λ i f is. StandsInterface-same h now f keeps.interfaces (counts-there h.devices now.devices keeps.devices) (sound.interfaces_stand i f is);
        interfaces_counted = counted-goes h.interfaces now.interfaces s.interfaces keeps.interfaces sound.interfaces_counted;
        endpoints_stand = λ d z is.
            let there = changed-gone opened after e d z gone is in
            Stands-other (bus_of h) (bus_of now) x.key z others (sound.endpoints_differ d e z x there.1 was there.0) (sound.endpoints_stand d z there.1);
        endpoints_small = λ d z is. sound.endpoints_small d z (changed-gone opened after e d z gone is).1;
        endpoints_differ = λ c d g z isg isz apart. sound.endpoints_differ c d g z (changed-gone opened after e c g gone isg).1 (changed-gone opened after e d z gone isz).1 apart;
        keys_named = named-closed h.endpoints now.endpoints opened after s.futures e x none closed was gone sound.keys_named;
        tickets_named = tickets-gone s h opened sound now after e x was gone accounts;
        tickets_counted = accounts.count sound.tickets_counted;
        claims_owned = accounts.claims.owned sound.claims_owned;
        futures_stand = futures-other s h now opened e x sound was keeps others;
        futures_apart = λ d n z f isz isf. sound.futures_apart d n z f (changed-gone opened after e d z gone isz).1 isf;
      }

-- the session with the host and the lists that have them
pub sound-over : (s : SessionState) (now : HostState) (es : List (Option EndpointState)) (rs : List (Option ReaderState)) (ws : List (Option WriterState)) (cs : List (Option ClientState)) → IsSound s → SameCounts s es rs ws cs → SoundOver s now (open_under (with_open s now es rs ws cs)) → IsSound (with_open s now es rs ws cs)
sound-over s now es rs ws cs sound counts over =
    record {
      idle = over.idle;
      device_names = sound.device_names;
      interface_names = sound.interface_names;
      endpoint_names = counts.endpoints ∙ sound.endpoint_names;
      reader_names = counts.readers ∙ sound.reader_names;
      writer_names = counts.writers ∙ sound.writer_names;
      client_names = counts.clients ∙ sound.client_names;
      devices_stand = over.devices_stand;
      devices_counted = over.devices_counted;
      devices_held = over.devices_held;
      interfaces_stand = over.interfaces_stand;
      interfaces_counted = over.interfaces_counted;
      endpoints_stand = over.endpoints_stand;
      endpoints_small = over.endpoints_small;
      endpoints_differ = over.endpoints_differ;
      keys_named = over.keys_named;
      tickets_named = over.tickets_named;
      tickets_counted = over.tickets_counted;
      claims_owned = over.claims_owned;
      future_names = sound.future_names;
      futures_wait = sound.futures_wait;
      futures_stand = over.futures_stand;
      futures_differ = sound.futures_differ;
      futures_apart = over.futures_apart;
    }

-- an endpoint that is open under a name of a session was called, and is another now, or was closed
module _ (s : SessionState) (now : HostState) (es : List (Option EndpointState)) (rs : List (Option ReaderState)) (ws : List (Option WriterState)) (cs : List (Option ClientState)) (e : EndpointName) (x : EndpointState) (sound : IsSound s) (was : open_under s e ≡ Some x)
    (counts : SameCounts s es rs ws cs) (keeps : KeepsSession s.host now) (others : KeepsOthers (bus_of s.host) (bus_of now) x.key) (none : OpensNone s.host.endpoints now.endpoints) where
  abbrev after : EndpointName → Option EndpointState
  after = open_under (with_open s now es rs ws cs)

  pub sound-put : (y : EndpointState) → Changed (open_under s) after e (Some y) → Stands (bus_of now) y → y.key ≡ x.key → y.maximum ≡ x.maximum → KeepsAccountsOf s.host now x.key x.pending y.pending → IsSound (with_open s now es rs ws cs)
  sound-put y put stands key maximum accounts =
      sound-over s now es rs ws cs sound counts
      (over-put s s.host now (open_under s) after e x (over-session s sound) was keeps others none y put stands key maximum accounts)

  pub sound-gone : Changed (open_under s) after e None → key_at now.endpoints x.key ≡ false → KeepsAccountsOf s.host now x.key x.pending [] → IsSound (with_open s now es rs ws cs)
  sound-gone gone closed accounts =
      sound-over s now es rs ws cs sound counts
      (over-gone s s.host now (open_under s) after e x (over-session s sound) was keeps others none gone closed accounts)

-- a host that went on by itself
pub sound-host : (s : SessionState) (now : HostState) → IsSound s → KeepsSession s.host now → ((h : EndpointState) → Stands (bus_of s.host) h → Stands (bus_of now) h) → OpensNone s.host.endpoints now.endpoints → KeepsAccounts s.host now → IsSound (record s { host = now })
sound-host s now sound keeps stands none accounts =
    record {
      idle = keeps.idle;
      device_names = sound.device_names;
      interface_names = sound.interface_names;
      endpoint_names = sound.endpoint_names;
      reader_names = sound.reader_names;
      writer_names = sound.writer_names;
      client_names = sound.client_names;
      devices_stand = λ d k is. counts-stands s.host now k keeps.devices (sound.devices_stand d k is);
      devices_counted = devices-kept s.host.devices now.devices s.devices (opened-counts s.host.devices now.devices keeps.devices) sound.devices_counted;
      devices_held = held-goes s.host now keeps.devices keeps.interfaces sound.devices_held;
      interfaces_stand = λ i f is. StandsInterface-same s.host now f keeps.interfaces (counts-there s.host.devices now.devices keeps.devices) (sound.interfaces_stand i f is);
      interfaces_counted = counted-goes s.host.interfaces now.interfaces s.interfaces keeps.interfaces sound.interfaces_counted;
      endpoints_stand = λ e h is. stands h (sound.endpoints_stand e h is);
      endpoints_small = sound.endpoints_small;
      endpoints_differ = sound.endpoints_differ;
      keys_named = named-goes s.host.endpoints now.endpoints (open_under s) s.futures none sound.keys_named;
      tickets_named = tickets-goes s.host now (open_under s) s.futures accounts sound.tickets_named;
      tickets_counted = accounts.count sound.tickets_counted;
      claims_owned = accounts.claims.owned sound.claims_owned;
      future_names = sound.future_names;
      futures_wait = sound.futures_wait;
      futures_stand = λ n f is. future-goes s.host now f (λ t. stands (control_with f.key t)) keeps.past (sound.futures_stand n f is);
      futures_differ = sound.futures_differ;
      futures_apart = sound.futures_apart;
    }

-- a state with another host, and other endpoints, readers, writers and clients
abbrev pub state_with : State → HostState → List (Option Endpoint) → List (Option Reader) → List (Option Writer) → List (Option Client) → State
state_with state host endpoints readers writers clients =
    record state { host = host; endpoints = endpoints; readers = readers; writers = writers; clients = clients }

-- a session stands for a state, where each list is what it keeps of the state's
pub represents-open : (s : SessionState) (state : State) (now : HostState) (es : List (Option EndpointState)) (rs : List (Option ReaderState)) (ws : List (Option WriterState)) (cs : List (Option ClientState)) (endpoints : List (Option Endpoint)) (readers : List (Option Reader)) (writers : List (Option Writer)) (clients : List (Option Client)) → Represents s state
    → es ≡ map (option_map (λ (x : Endpoint). x.state)) endpoints → rs ≡ map (option_map (λ (x : Reader). x.state)) readers → ws ≡ map (option_map (λ (x : Writer). x.state)) writers → cs ≡ map (option_map (λ (x : Client). x.state)) clients
    → Represents (with_open s now es rs ws cs) (state_with state now endpoints readers writers clients)
represents-open s state now es rs ws cs endpoints readers writers clients r kept_es kept_rs kept_ws kept_cs = rw (r, kept_es, kept_rs, kept_ws, kept_cs) refl

-- the lists of a session are what it keeps of the state's
pub endpoints_kept : (s : SessionState) (state : State) → Represents s state → s.endpoints ≡ map (option_map (λ (x : Endpoint). x.state)) state.endpoints
endpoints_kept s state r = ap (λ (v : SessionState). v.endpoints) r

pub readers_kept : (s : SessionState) (state : State) → Represents s state → s.readers ≡ map (option_map (λ (x : Reader). x.state)) state.readers
readers_kept s state r = ap (λ (v : SessionState). v.readers) r

pub writers_kept : (s : SessionState) (state : State) → Represents s state → s.writers ≡ map (option_map (λ (x : Writer). x.state)) state.writers
writers_kept s state r = ap (λ (v : SessionState). v.writers) r

pub clients_kept : (s : SessionState) (state : State) → Represents s state → s.clients ≡ map (option_map (λ (x : Client). x.state)) state.clients
clients_kept s state r = ap (λ (v : SessionState). v.clients) r

-- what is open under a name was changed, seen through a function
pub change-kept : {X Y : Type 0} (v : X → Y) (f : X → X) (xs : List (Option X)) (ys : List (Option Y)) (n : ℕ) (x : X) (y : Y) → ys ≡ map (option_map v) xs → named xs n ≡ Some x → v (f x) ≡ y → change_named (λ z. y) ys n ≡ map (option_map v) (change_named f xs n)
change-kept v f xs ys n x y kept was same =
    ap (λ l. change_named (λ z. y) l n) kept
    ∙ sym (map-change_named v f (λ z. y) xs n (λ z is. ap (λ w. v (f w)) (same_Some z x (sym is ∙ was)) ∙ same))

pub freed-kept : {X Y : Type 0} (v : X → Y) (xs : List (Option X)) (ys : List (Option Y)) (n : ℕ) → ys ≡ map (option_map v) xs → freed ys n ≡ map (option_map v) (freed xs n)
freed-kept v xs ys n kept = ap (λ l. freed l n) kept ∙ sym (map-freed v xs n)

pub set-kept : {X Y : Type 0} (v : X → Y) (xs : List (Option X)) (ys : List (Option Y)) (n : ℕ) (x : X) → ys ≡ map (option_map v) xs → set_name ys n (v x) ≡ map (option_map v) (set_name xs n x)
set-kept v xs ys n x kept = ap (λ l. set_name l n (v x)) kept ∙ sym (map-set v xs n x)

-- an endpoint was called and put back
pub represents-put : (s : SessionState) (state : State) (now : HostState) (f : Endpoint → Endpoint) (e : ℕ) (h : Endpoint) (y : EndpointState) → Represents s state → named state.endpoints e ≡ Some h → (f h).state ≡ y
    → Represents (record s { host = now; endpoints = change_named (λ z. y) s.endpoints e }) (record state { host = now; endpoints = change_named f state.endpoints e })
represents-put s state now f e h y r was same =
    represents-open s state now (change_named (λ z. y) s.endpoints e) s.readers s.writers s.clients (change_named f state.endpoints e) state.readers state.writers state.clients r
    (change-kept (λ (x : Endpoint). x.state) f state.endpoints s.endpoints e h y (endpoints_kept s state r) was same) (readers_kept s state r) (writers_kept s state r) (clients_kept s state r)

-- or opened
pub represents-set : (s : SessionState) (state : State) (now : HostState) (e : ℕ) (h : Endpoint) → Represents s state
    → Represents (record s { host = now; endpoints = set_name s.endpoints e h.state }) (record state { host = now; endpoints = set_name state.endpoints e h })
represents-set s state now e h r =
    represents-open s state now (set_name s.endpoints e h.state) s.readers s.writers s.clients (set_name state.endpoints e h) state.readers state.writers state.clients r
    (set-kept (λ (x : Endpoint). x.state) state.endpoints s.endpoints e h (endpoints_kept s state r)) (readers_kept s state r) (writers_kept s state r) (clients_kept s state r)

-- a reader was called and put back
pub represents-reader : (s : SessionState) (state : State) (now : HostState) (f : Reader → Reader) (n : ℕ) (x : Reader) (y : ReaderState) → Represents s state → named state.readers n ≡ Some x → (f x).state ≡ y
    → Represents (record s { host = now; readers = change_named (λ z. y) s.readers n }) (record state { host = now; readers = change_named f state.readers n })
represents-reader s state now f n x y r was same =
    represents-open s state now s.endpoints (change_named (λ z. y) s.readers n) s.writers s.clients state.endpoints (change_named f state.readers n) state.writers state.clients r
    (endpoints_kept s state r) (change-kept (λ (x : Reader). x.state) f state.readers s.readers n x y (readers_kept s state r) was same) (writers_kept s state r) (clients_kept s state r)

-- a writer was called and put back
pub represents-writer : (s : SessionState) (state : State) (now : HostState) (f : Writer → Writer) (n : ℕ) (x : Writer) (y : WriterState) → Represents s state → named state.writers n ≡ Some x → (f x).state ≡ y
    → Represents (record s { host = now; writers = change_named (λ z. y) s.writers n }) (record state { host = now; writers = change_named f state.writers n })
represents-writer s state now f n x y r was same =
    represents-open s state now s.endpoints s.readers (change_named (λ z. y) s.writers n) s.clients state.endpoints state.readers (change_named f state.writers n) state.clients r
    (endpoints_kept s state r) (readers_kept s state r) (change-kept (λ (x : Writer). x.state) f state.writers s.writers n x y (writers_kept s state r) was same) (clients_kept s state r)

-- a client was called and put back
pub represents-client : (s : SessionState) (state : State) (now : HostState) (f : Client → Client) (n : ℕ) (x : Client) (y : ClientState) → Represents s state → named state.clients n ≡ Some x → (f x).state ≡ y
    → Represents (record s { host = now; clients = change_named (λ z. y) s.clients n }) (record state { host = now; clients = change_named f state.clients n })
represents-client s state now f n x y r was same =
    represents-open s state now s.endpoints s.readers s.writers (change_named (λ z. y) s.clients n) state.endpoints state.readers state.writers (change_named f state.clients n) r
    (endpoints_kept s state r) (readers_kept s state r) (writers_kept s state r) (change-kept (λ (x : Client). x.state) f state.clients s.clients n x y (clients_kept s state r) was same)

-- an endpoint was closed, or a reader, a writer or a client
pub represents-freed : (s : SessionState) (state : State) (now : HostState) (e : ℕ) → Represents s state → Represents (record s { host = now; endpoints = freed s.endpoints e }) (record state { host = now; endpoints = freed state.endpoints e })
represents-freed s state now e r =
    represents-open s state now (freed s.endpoints e) s.readers s.writers s.clients (freed state.endpoints e) state.readers state.writers state.clients r
    (freed-kept (λ (x : Endpoint). x.state) state.endpoints s.endpoints e (endpoints_kept s state r)) (readers_kept s state r) (writers_kept s state r) (clients_kept s state r)

pub represents-reader_freed : (s : SessionState) (state : State) (now : HostState) (n : ℕ) → Represents s state → Represents (record s { host = now; readers = freed s.readers n }) (record state { host = now; readers = freed state.readers n })
represents-reader_freed s state now n r =
    represents-open s state now s.endpoints (freed s.readers n) s.writers s.clients state.endpoints (freed state.readers n) state.writers state.clients r
    (endpoints_kept s state r) (freed-kept (λ (x : Reader). x.state) state.readers s.readers n (readers_kept s state r)) (writers_kept s state r) (clients_kept s state r)

pub represents-writer_freed : (s : SessionState) (state : State) (now : HostState) (n : ℕ) → Represents s state → Represents (record s { host = now; writers = freed s.writers n }) (record state { host = now; writers = freed state.writers n })
represents-writer_freed s state now n r =
    represents-open s state now s.endpoints s.readers (freed s.writers n) s.clients state.endpoints state.readers (freed state.writers n) state.clients r
    (endpoints_kept s state r) (readers_kept s state r) (freed-kept (λ (x : Writer). x.state) state.writers s.writers n (writers_kept s state r)) (clients_kept s state r)

pub represents-client_freed : (s : SessionState) (state : State) (now : HostState) (n : ℕ) → Represents s state → Represents (record s { host = now; clients = freed s.clients n }) (record state { host = now; clients = freed state.clients n })
represents-client_freed s state now n r =
    represents-open s state now s.endpoints s.readers s.writers (freed s.clients n) state.endpoints state.readers state.writers (freed state.clients n) r
    (endpoints_kept s state r) (readers_kept s state r) (writers_kept s state r) (freed-kept (λ (x : Client). x.state) state.clients s.clients n (clients_kept s state r))

-- only the host went on
pub represents-host : (s : SessionState) (state : State) (now : HostState) → Represents s state → Represents (record s { host = now }) (record state { host = now })
represents-host s state now r = ap (λ (v : SessionState). record v { host = now }) r
