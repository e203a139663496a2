-- Endpoints of claimed interfaces are opened.
use Rattle.std.proofs.Common.{◌≡◌, ◌≢◌, ℕ, ◌<◌, arith, List, [], ◌∷◌, ◌++◌, length, Option, Some, None, Result, Ok, Err, Bool, true, false, refl, ap, sym, ◌∙◌, subst, inl, inr}
use Rattle.std.specs.Prelude.{not, ◌==◌, if◌then◌else◌}
use Rattle.std.proofs.Math.Nat.{mod-lt}
use Rattle.usb_device_tables.specs.History.{value_at}
use Rattle.usb_desc.specs.declared.types.Direction.{Direction}
use Rattle.usb_desc.specs.declared.types.TransferType.{TransferType}
use Rattle.usb_error.specs.ErrorState.{ErrorState}
use Rattle.usb_session_text.specs.Calls.{ok_line, condition_line, error_line}
use Rattle.usb_kernel.specs.Extends.{Extends}
use Rattle.usb_device_endpoint.specs.BusState.{BusState}
use Rattle.usb_device_endpoint.specs.EndpointState.{EndpointState}
use Rattle.usb_device_endpoint.specs.Handles.{Stands, KeepsOthers}
use Rattle.usb_device_endpoint.proofs.Frames.{Stands-other}
use Rattle.usb_device_ledger.specs.Entries.{HostEndpoint, ClaimedInterface}
use Rattle.usb_device_host.specs.HostState.{HostState}
use Rattle.usb_device_host.specs.HostBus.{bus_of}
use Rattle.usb_device_host.specs.HandleStates.{InterfaceState, StandsInterface}
use Rattle.usb_device.specs.Futures.{FutureState}
use Rattle.usb_desc.specs.Fields.{direction_of_address, transfer_type, max_packet_size, max_packet_size_raw}
use Rattle.usb_error.specs.Errors.{wrong_direction_error, wrong_type_error, no_packet_size_error, endpoint_in_use_error}
use Rattle.usb_device_host.specs.Owners.{is_in_use}
use Rattle.usb_device_host.specs.EndpointRefusals.{same_direction, is_type, endpoint_tried}
use Rattle.usb_device_host.specs.EndpointOpens.{host_asked, host_tries, with_endpoint, fresh_endpoint, endpoint_in}
use Rattle.usb_device_host.proofs.InterfaceFrames.{asked-is, asked-counts}
use Rattle.usb_device.proofs.FreshKeys.{endpoint-within}
use Rattle.std.proofs.lemmas.Option.{same_Some}
use Rattle.usb_device.specs.OwnerLaws.{IsOwned}
use Rattle.usb_device.proofs.OwnerLaw.{claims_stay_owned}
use Rattle.usb_device_host.proofs.CountLemmas.{asked-count}
use Rattle.usb_session_streams.specs.Accounts.{KeepsAccounts}
use Rattle.usb_session_streams.proofs.AccountLemmas.{accounts-kept, accounts-bus, accounts-then}
use Rattle.usb_session_calls.specs.Names.{named, is_free, set_name}
use Rattle.usb_session_calls.specs.State.{State, Endpoint, with_host}
use Rattle.usb_session_calls.specs.OpenAt.{InterfaceAt}
use Rattle.usb_session_calls.specs.Endpoints.{new_endpoint, endpoint_as, endpoint_answer}
use Rattle.usb_session_calls.specs.EndpointNames.{EndpointName, Own}
use Rattle.usb_session_calls.specs.SessionState.{SessionState, IsSound, open_under}
use Rattle.usb_session_calls.specs.Relation.{Represents, session_of}
use Rattle.usb_device_ledger.proofs.DeviceLemmas.{KeepsCounts, counts-there, opened-counts}
use Rattle.usb_device_host.proofs.DeviceLemmas.{counts-stands}
use Rattle.usb_device_host.specs.HostFrames.{ClaimsGoOn}
use Rattle.usb_device_host.proofs.ClaimFrames.{goes-same, handles-own}
use Rattle.usb_device_host.proofs.HeldDevices.{held-goes}
use Rattle.usb_session_calls.proofs.CountedDevices.{devices-kept}
use Rattle.usb_session_calls.proofs.CountedNames.{counted-goes}
use Rattle.usb_session_calls.proofs.NameLemmas.{length-set_name, is_free-map, free-none}
use Rattle.usb_session_calls.proofs.Called.{KeepsSession, sound-host, represents-host, represents-set, own-open}
use Rattle.usb_session_calls.proofs.EndpointNameLemmas.{Changed, ChangedAt, changed-back, set-changes}
use Rattle.usb_session_calls.proofs.Answering.{Gives, barred-gives, free_kept}
use Rattle.usb_session_calls.proofs.NamedKeys.{none-bus, named-opened}
use Rattle.usb_session_calls.proofs.NamedTickets.{tickets-opened}
use Rattle.usb_session_calls.proofs.FutureLemmas.{control_with, future-goes, future-within, past-same}
use Rattle.usb_device_host.proofs.LeftDevices.{StandsInterface-same}

-- a look at the active configuration
asked-keeps : (h now : HostState) (key : ℕ) → h.steps ≡ [] → now ≡ host_asked h key → KeepsSession h now
asked-keeps h now key idle is =
    let made = is ∙ asked-is h key in
    record {
      idle = ap (λ (g : HostState). g.steps) made ∙ idle;
      past = past-same h now (ap bus_of made);
      devices = subst (λ (g : HostState). KeepsCounts h.devices g.devices) (sym is) (asked-counts h key);
      interfaces = goes-same h.interfaces now.interfaces (ap (λ (g : HostState). g.interfaces) made);
    }

asked-bus : (h now : HostState) (key : ℕ) → now ≡ host_asked h key → bus_of now ≡ bus_of h
asked-bus h now key is = ap bus_of (is ∙ asked-is h key)

asked-accounts : (h now : HostState) (key : ℕ) → now ≡ host_asked h key → KeepsAccounts h now
asked-accounts h now key is =
    subst (KeepsAccounts h) (sym is) (accounts-bus h (host_asked h key) (claims_stay_owned.ask h key).kept (asked-count h key) (asked-bus h (host_asked h key) key refl))

pub asked-sound : (s : SessionState) (now : HostState) (key : ℕ) → IsSound s → now ≡ host_asked s.host key → IsSound (record s { host = now })
asked-sound s now key sound is =
    sound-host s now sound (asked-keeps s.host now key sound.idle is) (λ h stands. subst (λ (b : BusState). Stands b h) (sym (asked-bus s.host now key is)) stands)
    (none-bus s.host now (asked-bus s.host now key is)) (asked-accounts s.host now key is)

pub asked-spare : (h now : HostState) (key : ℕ) → now ≡ host_asked h key → now.kernel.spare ≡ h.kernel.spare
asked-spare h now key is = ap (λ (g : HostState). g.kernel.spare) (is ∙ asked-is h key)

-- and an endpoint more
opened-keeps : (h now : HostState) (key i address : ℕ) → h.steps ≡ [] → now ≡ with_endpoint (host_asked h key) i address → KeepsSession h now
opened-keeps h now key i address idle is =
    let asked = asked-keeps h (host_asked h key) key idle refl in
    record {
      idle = ap (λ (g : HostState). g.steps) is ∙ asked.idle;
      past = subst (λ (g : HostState). Extends h.kernel.past g.kernel.past) (sym is) asked.past;
      devices = subst (λ (g : HostState). KeepsCounts h.devices g.devices) (sym is) asked.devices;
      interfaces = subst (λ (g : HostState). ClaimsGoOn h.interfaces g.interfaces) (sym is) asked.interfaces;
    }

-- on an interface that has an owner
pub stands-owned : (h : HostState) (f : InterfaceState) → StandsInterface h f → IsOwned h f.key
stands-owned h f stands c at =
    let claim : stands.claim ≡ c = same_Some stands.claim c (sym stands.at ∙ at) in
    handles-own h.tickets h.endpoints f.key c (subst (λ (d : ClaimedInterface). 0 < d.handles) claim stands.open_handle)

opened-accounts : (h now : HostState) (key i address : ℕ) → IsOwned h i → now ≡ with_endpoint (host_asked h key) i address → KeepsAccounts h now
opened-accounts h now key i address owned is =
    let asked = host_asked h key in
    let there = subst (λ (g : HostState). IsOwned g i) (sym (asked-is h key)) owned in
    subst (KeepsAccounts h) (sym is)
    (accounts-then h asked (with_endpoint asked i address) (asked-accounts h asked key refl)
    (accounts-kept asked (with_endpoint asked i address) (claims_stay_owned.open_endpoint asked i address there).kept refl refl))

-- which is the last
opened-endpoints : (h now : HostState) (key i address : ℕ) → now ≡ with_endpoint (host_asked h key) i address → now.endpoints ≡ h.endpoints ++ Some (record { interface = Some i; address = address; is_open = true }) ∷ []
opened-endpoints h now key i address is =
    let e : HostEndpoint = record { interface = Some i; address = address; is_open = true } in
    ap (λ (g : HostState). g.endpoints) is ∙ ap (λ (es : List (Option HostEndpoint)). es ++ Some e ∷ []) (ap (λ (g : HostState). g.endpoints) (asked-is h key))

pub opened-spare : (h now : HostState) (key i address : ℕ) → now ≡ with_endpoint (host_asked h key) i address → now.kernel.spare ≡ h.kernel.spare
opened-spare h now key i address is = ap (λ (g : HostState). g.kernel.spare) is ∙ asked-spare h (host_asked h key) key refl

apart-next : (a b l : ℕ) → a < l → b ≡ l → a ≢ b
apart-next a b l less is = λ same. absurd (omega (arith, less, is, same))

-- the maximum packet size of an endpoint that may be opened is that of its descriptor, which has 11 bits
tried-small : (o : Option (List ℕ)) (address : ℕ) (kind : TransferType) (direction : Direction) (used : Bool) (m : ℕ) → endpoint_tried o address kind direction used ≡ Ok m → m < 2048
tried-small None address kind direction used m is = absurd (cc)
tried-small (Some d) address kind direction used m is =
    by (not (same_direction (direction_of_address address) direction)) (not (is_type (transfer_type d) kind)) (max_packet_size d == 0) used is
  where
    by : (a b c e : Bool) → (if a then Err wrong_direction_error else if b then Err wrong_type_error else if c then Err no_packet_size_error else if e then Err endpoint_in_use_error else Ok (max_packet_size d)) ≡ Ok m → m < 2048
    by true b c e is = absurd (cc)
    by false true c e is = absurd (cc)
    by false false true e is = absurd (cc)
    by false false false true is = absurd (cc)
    by false false false false is =
        let same : max_packet_size d ≡ m = cc in
        let some : 0 < 2048 = omega arith in
        subst (λ n. n < 2048) same (mod-lt (max_packet_size_raw d) some)

pub maximum-small : (h : HostState) (i : ℕ) (c : ClaimedInterface) (address : ℕ) (kind : TransferType) (direction : Direction) (m : ℕ) → host_tries h i c address kind direction ≡ Ok m → m < 2048
unfolding host_tries
maximum-small h i c address kind direction m is =
    tried-small (endpoint_in c address (value_at h.devices c.opened)) address kind direction (is_in_use h i address) m is

-- a session in which one more endpoint is open
pub endpoint-sound : (s : SessionState) (now : HostState) (after : List (Option EndpointState)) (e i address : ℕ) (y : EndpointState) (c : ClaimedInterface) → IsSound s → now ≡ with_endpoint (host_asked s.host c.opened) i address → y.key ≡ length s.host.endpoints → y.maximum < 2048 → Stands (bus_of now) y → KeepsOthers (bus_of s.host) (bus_of now) y.key → is_free s.endpoints e ≡ true → after ≡ set_name s.endpoints e y → IsOwned s.host i → IsSound (record s { host = now; endpoints = after })
endpoint-sound s now after e i address y c sound is key small stands others free put owned =
    let accounts = opened-accounts s.host now c.opened i address owned is in
    let keeps = opened-keeps s.host now c.opened i address sound.idle is in
    let opened : Changed (open_under s) (open_under (record s { host = now; endpoints = after })) (Own e) (Some y) = own-open s now e after (Some y) (subst (λ l. ChangedAt s.endpoints l e (Some y)) (sym put) (set-changes s.endpoints e y free)) in
    let old : (d : EndpointName) (g : EndpointState) → open_under s d ≡ Some g → g.key ≢ y.key = λ d g at. apart-next g.key y.key (length s.host.endpoints) (endpoint-within s.host g (sound.endpoints_stand d g at)) key in
    let newer : (n : ℕ) (f : FutureState) → named s.futures n ≡ Some f → f.key ≢ y.key = λ n f at. apart-next f.key y.key (length s.host.endpoints) (future-within s.host f (sound.futures_wait n f at) (sound.futures_stand n f at)) key in
    record {
      idle = keeps.idle;
      device_names = sound.device_names;
      interface_names = sound.interface_names;
      endpoint_names = ap (λ (l : List (Option EndpointState)). length l) put ∙ length-set_name s.endpoints e y ∙ sound.endpoint_names;
      reader_names = sound.reader_names;
      writer_names = sound.writer_names;
      client_names = sound.client_names;
      devices_stand = λ d k at. counts-stands s.host now k keeps.devices (sound.devices_stand d k at);
      devices_counted = devices-kept s.host.devices now.devices s.devices (opened-counts s.host.devices now.devices keeps.devices) sound.devices_counted;
      devices_held = held-goes s.host now keeps.devices keeps.interfaces sound.devices_held;
      interfaces_stand = λ j f at. StandsInterface-same s.host now f keeps.interfaces (counts-there s.host.devices now.devices keeps.devices) (sound.interfaces_stand j f at);
      interfaces_counted = counted-goes s.host.interfaces now.interfaces s.interfaces keeps.interfaces sound.interfaces_counted;
      endpoints_stand = λ d h at. elim (changed-back _ _ (Own e) d h y opened at) [
        | inl here ↦ subst (Stands (bus_of now)) (sym here.1) stands
        | inr there ↦ Stands-other (bus_of s.host) (bus_of now) y.key h others (old d h there.1) (sound.endpoints_stand d h there.1)
      ];
      endpoints_small = λ d h at. elim (changed-back _ _ (Own e) d h y opened at) [
        | inl here ↦ subst (λ (z : EndpointState). z.maximum < 2048) (sym here.1) small
        | inr there ↦ sound.endpoints_small d h there.1
      ];
      endpoints_differ = λ j k g h isg ish apart. elim (changed-back _ _ (Own e) j g y opened isg) [
        | inl herej ↦ elim (changed-back _ _ (Own e) k h y opened ish) [
          | inl herek ↦ absurd (apart (herej.0 ∙ sym herek.0))
          | inr therek ↦ λ same. old k h therek.1 (sym same ∙ ap (λ (z : EndpointState). z.key) herej.1)
        ]
        | inr therej ↦ elim (changed-back _ _ (Own e) k h y opened ish) [
          | inl herek ↦ λ same. old j g therej.1 (same ∙ ap (λ (z : EndpointState). z.key) herek.1)
          | inr therek ↦ sound.endpoints_differ j k g h therej.1 therek.1 apart
        ]
      ];
      keys_named =
          named-opened s.host.endpoints now.endpoints (open_under s) (open_under (record s { host = now; endpoints = after })) s.futures (Own e) (record { interface = Some i; address = address; is_open = true }) y
          (opened-endpoints s.host now c.opened i address is) key (free-none s.endpoints e free) opened sound.keys_named;
      tickets_named = tickets-opened s.host now (open_under s) (open_under (record s { host = now; endpoints = after })) s.futures (Own e) (Some y) accounts (free-none s.endpoints e free) opened sound.tickets_named;
      tickets_counted = accounts.count sound.tickets_counted;
      claims_owned = accounts.claims.owned sound.claims_owned;
      future_names = sound.future_names;
      futures_wait = sound.futures_wait;
      futures_stand = λ n f at. future-goes s.host now f (λ t. Stands-other (bus_of s.host) (bus_of now) y.key (control_with f.key t) others (newer n f at)) keeps.past (sound.futures_stand n f at);
      futures_differ = sound.futures_differ;
      futures_apart = λ d n h f ish isf. elim (changed-back _ _ (Own e) d h y opened ish) [
        | inl here ↦ λ same. newer n f isf (sym same ∙ ap (λ (z : EndpointState). z.key) here.1)
        | inr there ↦ sound.futures_apart d n h f there.1 isf
      ];
    }

-- the state in which it is open
open-as : (state : State) (host now : HostState) (after : List (Option EndpointState)) (e address maximum : ℕ) (kind : TransferType) (x : InterfaceAt) (y : EndpointState) (t : Result ℕ ErrorState) → t ≡ Ok maximum → y ≡ fresh_endpoint x.claimed address kind maximum (length host.endpoints) → now ≡ with_endpoint host x.handle.key address → after ≡ set_name (session_of state).endpoints e y → Gives (record (session_of state) { host = now; endpoints = after }) ok_line (endpoint_as (with_host state host) e address kind x t)
open-as state host now after e address maximum kind x y (Err error) tried fresh is put = absurd (cc)
open-as state host now after e address maximum kind x y (Ok m) tried fresh is put =
    let same : maximum ≡ m = cc in
    let z = new_endpoint host x.claimed.device address kind m in
    let names : after ≡ set_name (session_of state).endpoints e z.state = put ∙ ap (set_name (session_of state).endpoints e) (fresh ∙ ap (λ (n : ℕ). fresh_endpoint x.claimed address kind n (length host.endpoints)) same) in
    let now_is = with_endpoint host x.handle.key address in
    record {
      state =
          subst (λ (g : HostState). Represents (record (session_of state) { host = g; endpoints = after }) (record state { host = now_is; endpoints = set_name state.endpoints e z })) (sym is)
          (subst (λ (l : List (Option EndpointState)). Represents (record (session_of state) { host = now_is; endpoints = l }) (record state { host = now_is; endpoints = set_name state.endpoints e z })) (sym names)
          (represents-set (session_of state) state now_is e z refl));
      same = refl;
    }

-- where the interface of this handle is claimed
abbrev EndpointGives : State → ℕ → ℕ → ℕ → TransferType → Direction → ℕ → InterfaceState → ClaimedInterface → EndpointState → HostState → List (Option EndpointState) → SessionState → Type 0
EndpointGives state e i address kind direction maximum f c y now after v =
    named v.interfaces i ≡ Some f → value_at v.host.interfaces f.key ≡ Some c → is_free v.endpoints e ≡ true → host_tries (host_asked v.host c.opened) f.key c address kind direction ≡ Ok maximum → y ≡ fresh_endpoint c address kind maximum (length v.host.endpoints) → now ≡ with_endpoint (host_asked v.host c.opened) f.key address → after ≡ set_name v.endpoints e y → Gives (record v { host = now; endpoints = after }) ok_line (endpoint_answer state e i address kind direction)

asked-endpoints : (h : HostState) (key : ℕ) → h.endpoints ≡ (host_asked h key).endpoints
asked-endpoints h key = sym (ap (λ (g : HostState). g.endpoints) (asked-is h key))

endpoint-of : (state : State) (now : HostState) (after : List (Option EndpointState)) (e i address maximum : ℕ) (kind : TransferType) (direction : Direction) (f : InterfaceState) (c : ClaimedInterface) (y : EndpointState) → EndpointGives state e i address kind direction maximum f c y now after (session_of state)
unfolding endpoint_answer
endpoint-of state now after e i address maximum kind direction f c y at there free tried fresh is put =
    let free_there : is_free state.endpoints e ≡ true = sym (is_free-map (λ (x : Endpoint). x.state) state.endpoints e) ∙ free in
    rw (at, there, free_there)
    (open-as state (host_asked state.host c.opened) now after e address maximum kind (record { handle = f; claimed = c }) y (host_tries (host_asked state.host c.opened) f.key c address kind direction) tried
    (fresh ∙ ap (λ (l : List (Option HostEndpoint)). fresh_endpoint c address kind maximum (length l)) (asked-endpoints state.host c.opened)) is put)

pub endpoint-gives : (s : SessionState) (state : State) (now : HostState) (after : List (Option EndpointState)) (e i address maximum : ℕ) (kind : TransferType) (direction : Direction) (f : InterfaceState) (c : ClaimedInterface) (y : EndpointState) → Represents s state → EndpointGives state e i address kind direction maximum f c y now after s
endpoint-gives s state now after e i address maximum kind direction f c y r =
    subst (EndpointGives state e i address kind direction maximum f c y now after) (sym r) (endpoint-of state now after e i address maximum kind direction f c y)

-- or that in which it is refused: the kernel was asked all the same
refused-as : (state : State) (host now : HostState) (e address : ℕ) (kind : TransferType) (error : ErrorState) (x : InterfaceAt) (t : Result ℕ ErrorState) → t ≡ Err error → now ≡ host → Gives (record (session_of state) { host = now }) (error_line error) (endpoint_as (with_host state host) e address kind x t)
refused-as state host now e address kind error x (Err other) tried is =
    record {
      state = subst (λ (g : HostState). Represents (record (session_of state) { host = now }) (with_host state g)) is (represents-host (session_of state) state now refl);
      same = let same : other ≡ error = cc in ap error_line same;
    }
refused-as state host now e address kind error x (Ok m) tried is = absurd (cc)

abbrev EndpointRefused : State → ℕ → ℕ → ℕ → TransferType → Direction → ErrorState → InterfaceState → ClaimedInterface → HostState → SessionState → Type 0
EndpointRefused state e i address kind direction error f c now v =
    named v.interfaces i ≡ Some f → value_at v.host.interfaces f.key ≡ Some c → is_free v.endpoints e ≡ true → host_tries (host_asked v.host c.opened) f.key c address kind direction ≡ Err error → now ≡ host_asked v.host c.opened → Gives (record v { host = now }) (error_line error) (endpoint_answer state e i address kind direction)

refused-of : (state : State) (now : HostState) (e i address : ℕ) (kind : TransferType) (direction : Direction) (error : ErrorState) (f : InterfaceState) (c : ClaimedInterface) → EndpointRefused state e i address kind direction error f c now (session_of state)
unfolding endpoint_answer
refused-of state now e i address kind direction error f c at there free tried is =
    let free_there : is_free state.endpoints e ≡ true = sym (is_free-map (λ (x : Endpoint). x.state) state.endpoints e) ∙ free in
    rw (at, there, free_there)
    (refused-as state (host_asked state.host c.opened) now e address kind error (record { handle = f; claimed = c }) (host_tries (host_asked state.host c.opened) f.key c address kind direction) tried is)

pub endpoint-refused : (s : SessionState) (state : State) (now : HostState) (e i address : ℕ) (kind : TransferType) (direction : Direction) (error : ErrorState) (f : InterfaceState) (c : ClaimedInterface) → Represents s state → EndpointRefused state e i address kind direction error f c now s
endpoint-refused s state now e i address kind direction error f c r =
    subst (EndpointRefused state e i address kind direction error f c now) (sym r) (refused-of state now e i address kind direction error f c)

-- or that in which it is barred
pub endpoint-none : (s : SessionState) (state : State) (e i address : ℕ) (kind : TransferType) (direction : Direction) → named s.interfaces i ≡ None → Represents s state → Gives s condition_line (endpoint_answer state e i address kind direction)
unfolding endpoint_answer
endpoint-none s state e i address kind direction none r =
    let here : named state.interfaces i ≡ None = ap (λ (v : SessionState). named v.interfaces i) (sym r) ∙ none in
    rw here (barred-gives s state r)

pub endpoint-used : (s : SessionState) (state : State) (e i address : ℕ) (kind : TransferType) (direction : Direction) (f : InterfaceState) (c : ClaimedInterface) → named s.interfaces i ≡ Some f → value_at s.host.interfaces f.key ≡ Some c → is_free s.endpoints e ≡ false → Represents s state → Gives s condition_line (endpoint_answer state e i address kind direction)
unfolding endpoint_answer
endpoint-used s state e i address kind direction f c at there used r =
    let here : named state.interfaces i ≡ Some f = ap (λ (v : SessionState). named v.interfaces i) (sym r) ∙ at in
    let interface : value_at state.host.interfaces f.key ≡ Some c = ap (λ (v : SessionState). value_at v.host.interfaces f.key) (sym r) ∙ there in
    let taken : is_free state.endpoints e ≡ false = sym (free_kept s state e r) ∙ used in
    rw (here, interface, taken) (barred-gives s state r)
