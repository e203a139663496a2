-- Calls on handles of interfaces: what they keep of a session.
use Rattle.std.proofs.Common.{None, set, ◌≡◌, ℕ, Bool, true, List, length, Option, Some, Result, Ok, Err, refl, ap, sym, ◌∙◌, subst, inl, inr}
use Rattle.usb_device_tables.specs.History.{value_at}
use Rattle.usb_device_host.specs.DeviceLaws.{DevicesAreHeld}
use Rattle.usb_device_ledger.proofs.DeviceLemmas.{counts-same}
use Rattle.usb_device_host.proofs.DeviceLemmas.{kept-stands}
use Rattle.usb_device_host.proofs.HeldDevices.{held-handle_closed, held-handle_cloned, held-claimed, held-written}
use Rattle.usb_session_calls.proofs.CountedDevices.{devices-kept}
use Rattle.usb_device_endpoint.specs.BusState.{BusState}
use Rattle.usb_error.specs.ErrorState.{ErrorState}
use Rattle.usb_device_endpoint.specs.Handles.{Stands}
use Rattle.usb_device_ledger.specs.declared.opened.OpenDevice.{OpenDevice}
use Rattle.usb_device_ledger.specs.Entries.{ClaimedInterface, fresh_interface}
use Rattle.usb_device_host.specs.HostState.{HostState}
use Rattle.usb_device_host.specs.HandleStates.{InterfaceState, StandsInterface}
use Rattle.usb_device_host.specs.Handles.{handle_cloned, handle_closed}
use Rattle.usb_device_ledger.specs.Owners.{has_living}
use Rattle.usb_device_host.specs.InterfaceClaims.{claim_tried, host_claimed, claimed_key}
use Rattle.usb_device_host.specs.OnInterfaces.{alt_setting_errno, setting_unless, alt_setting_set}
use Rattle.usb_device.proofs.StandLemmas.{StandsInterface-claimed}
use Rattle.usb_device.proofs.FreshKeys.{stands-within}
use Rattle.usb_device_host.proofs.CalledHosts.{setting-in_use, setting-asked}
use Rattle.std.proofs.lemmas.Bool.{cases_Bool}
use Rattle.usb_device.specs.OwnerLaws.{KeepsOwned}
use Rattle.usb_device.proofs.OwnerLaw.{claims_stay_owned}
use Rattle.usb_session_streams.proofs.AccountLemmas.{accounts-bus}
use Rattle.usb_session_calls.specs.Names.{named, is_free, freed, set_name}
use Rattle.usb_session_calls.specs.State.{State}
use Rattle.usb_session_calls.specs.SessionState.{SessionState, IsSound, open_under}
use Rattle.usb_session_calls.specs.Relation.{Represents}
use Rattle.usb_session_calls.proofs.NameLemmas.{length-set_name, length-freed, names-set}
use Rattle.usb_session_calls.proofs.CountedNames.{Counted, counted-same, counted-goes, counted-open, counted-claimed, counted-closed, counted-cloned, counted-changed}
use Rattle.usb_session_calls.proofs.Called.{names-freed}
use Rattle.usb_session_calls.proofs.NamedKeys.{none-bus, named-goes}
use Rattle.usb_session_calls.proofs.NamedTickets.{tickets-goes}
use Rattle.usb_session_calls.proofs.FutureLemmas.{future-same}
use Rattle.usb_session_calls.proofs.HandleHosts.{KeepsBeside, WritesOne, fewer, more, claimed-keeps, closed-keeps, cloned-keeps, setting-keeps, closed-writes, cloned-writes, stands-written, setting_unless-like, setting_unless-handles, claim-interfaces, claim-refused_interfaces}

-- the interfaces and their names change together
sound-handled : (s : SessionState) (now : HostState) (after : List (Option InterfaceState)) → IsSound s → KeepsBeside s.host now → length after ≡ length s.interfaces → ((n : ℕ) (f : InterfaceState) → named after n ≡ Some f → StandsInterface now f) → Counted now.interfaces after → DevicesAreHeld now → KeepsOwned s.host now → IsSound (record s { host = now; interfaces = after })
sound-handled s now after sound keeps names stands counted held claims =
    let accounts = accounts-bus s.host now claims keeps.count keeps.bus in
    record {
      idle = keeps.line.steps ∙ sound.idle;
      device_names = sound.device_names;
      interface_names = names ∙ sound.interface_names;
      endpoint_names = sound.endpoint_names;
      reader_names = sound.reader_names;
      writer_names = sound.writer_names;
      client_names = sound.client_names;
      devices_stand = λ d k at. kept-stands s.host now k keeps.devices (sound.devices_stand d k at);
      devices_counted = devices-kept s.host.devices now.devices s.devices keeps.devices sound.devices_counted;
      devices_held = held;
      interfaces_stand = stands;
      interfaces_counted = counted;
      endpoints_stand = λ e h at. subst (λ (b : BusState). Stands b h) (sym keeps.bus) (sound.endpoints_stand e h at);
      endpoints_small = sound.endpoints_small;
      endpoints_differ = sound.endpoints_differ;
      keys_named = named-goes s.host.endpoints now.endpoints (open_under s) s.futures (none-bus s.host now keeps.bus) sound.keys_named;
      tickets_named = tickets-goes s.host now (open_under s) s.futures accounts sound.tickets_named;
      tickets_counted = accounts.count sound.tickets_counted;
      claims_owned = claims.owned sound.claims_owned;
      future_names = sound.future_names;
      futures_wait = sound.futures_wait;
      futures_stand = λ n f at. future-same s.host now f keeps.bus (sound.futures_stand n f at);
      futures_differ = sound.futures_differ;
      futures_apart = sound.futures_apart;
    }

-- a handle is closed
closed-here : (s : SessionState) (after : List (Option InterfaceState)) (n : ℕ) (f : InterfaceState) → IsSound s → named s.interfaces n ≡ Some f → after ≡ freed s.interfaces n → IsSound (record s { host = handle_closed s.host f.key; interfaces = after })
closed-here s after n f sound was rest =
    let now = handle_closed s.host f.key in
    let stands = sound.interfaces_stand n f was in
    let writes = closed-writes s.host f.key stands.claim stands.at in
    let written = set s.host.interfaces f.key (Some (fewer stands.claim)) in
    let counted = counted-closed s.host.interfaces written s.interfaces after n f stands.claim (fewer stands.claim) sound.interfaces_counted stands.at refl refl was rest in
    let held = held-handle_closed s.host f.key stands.claim stands.at stands.open_handle sound.devices_held in
    sound-handled s now after sound (closed-keeps s.host f.key) (ap (λ (l : List (Option InterfaceState)). length l) rest ∙ length-freed s.interfaces n)
    (λ m g open_.
    stands-written s.host now f.key stands.claim (fewer stands.claim) g writes held
    (λ e at. counted-open written after m g e counted open_ at)
    (sound.interfaces_stand m g (names-freed s.interfaces after n m g rest open_).1))
    (counted-goes written now.interfaces after writes.goes counted) held (claims_stay_owned.close_handle s.host f stands)

pub sound-closed : (s : SessionState) (now : HostState) (after : List (Option InterfaceState)) (n : ℕ) (f : InterfaceState) → IsSound s → named s.interfaces n ≡ Some f → after ≡ freed s.interfaces n → now ≡ handle_closed s.host f.key → IsSound (record s { host = now; interfaces = after })
sound-closed s now after n f sound was rest is =
    subst (λ (h : HostState). IsSound (record s { host = h; interfaces = after })) (sym is) (closed-here s after n f sound was rest)

-- one more handle is open
cloned-here : (s : SessionState) (after : List (Option InterfaceState)) (n i : ℕ) (f : InterfaceState) → IsSound s → named s.interfaces i ≡ Some f → is_free s.interfaces n ≡ true → after ≡ set_name s.interfaces n f → IsSound (record s { host = handle_cloned s.host f.key; interfaces = after })
cloned-here s after n i f sound was free put =
    let now = handle_cloned s.host f.key in
    let stands = sound.interfaces_stand i f was in
    let writes = cloned-writes s.host f.key stands.claim stands.at in
    let written = set s.host.interfaces f.key (Some (more stands.claim)) in
    let counted = counted-cloned s.host.interfaces written s.interfaces after n f stands.claim (more stands.claim) sound.interfaces_counted stands.at refl refl free put in
    let held = held-handle_cloned s.host f.key stands.claim stands.at stands.open_handle sound.devices_held in
    let before : (m : ℕ) (g : InterfaceState) → named after m ≡ Some g → StandsInterface s.host g = λ m g open_. elim (names-set s.interfaces after n m f g free put open_) [
      | inl here ↦ subst (StandsInterface s.host) (sym here.1) stands
      | inr there ↦ sound.interfaces_stand m g there.1
    ] in
    sound-handled s now after sound (cloned-keeps s.host f.key) (ap (λ (l : List (Option InterfaceState)). length l) put ∙ length-set_name s.interfaces n f)
    (λ m g open_.
    stands-written s.host now f.key stands.claim (more stands.claim) g writes held
    (λ e at. counted-open written after m g e counted open_ at) (before m g open_))
    (counted-goes written now.interfaces after writes.goes counted) held (claims_stay_owned.clone_handle s.host f stands).kept

pub sound-cloned : (s : SessionState) (now : HostState) (after : List (Option InterfaceState)) (n i : ℕ) (f : InterfaceState) → IsSound s → named s.interfaces i ≡ Some f → is_free s.interfaces n ≡ true → after ≡ set_name s.interfaces n f → now ≡ handle_cloned s.host f.key → IsSound (record s { host = now; interfaces = after })
sound-cloned s now after n i f sound was free put is =
    subst (λ (h : HostState). IsSound (record s { host = h; interfaces = after })) (sym is) (cloned-here s after n i f sound was free put)

-- an interface is claimed
claimed-here : (s : SessionState) (after : List (Option InterfaceState)) (i key number : ℕ) (reattach : Bool) (o : OpenDevice) (f : InterfaceState) → IsSound s → value_at s.host.devices key ≡ Some o → claimed_key (length s.host.interfaces) (claim_tried s.host o number reattach) ≡ Ok f.key → f.key ≡ length s.host.interfaces → StandsInterface (host_claimed s.host key number reattach) f → is_free s.interfaces i ≡ true → after ≡ set_name s.interfaces i f → IsSound (record s { host = host_claimed s.host key number reattach; interfaces = after })
claimed-here s after i key number reattach o f sound at tried next stands free put =
    let now = host_claimed s.host key number reattach in
    let is = claim-interfaces s.host key number reattach o (length s.host.interfaces) f.key at tried in
    let counted = counted-claimed s.host.interfaces now.interfaces s.interfaces after i f (fresh_interface key o.device number reattach) sound.interfaces_counted (λ m g open_. stands-within s.host g (sound.interfaces_stand m g open_)) next refl is free put in
    sound-handled s now after sound (claimed-keeps s.host key number reattach) (ap (λ (l : List (Option InterfaceState)). length l) put ∙ length-set_name s.interfaces i f)
    (λ m g open_. elim (names-set s.interfaces after i m f g free put open_) [
      | inl here ↦ subst (StandsInterface now) (sym here.1) stands
      | inr there ↦ StandsInterface-claimed s.host key number reattach g (sound.interfaces_stand m g there.1)
    ])
    counted (held-claimed s.host key number reattach sound.devices_held) (claims_stay_owned.claim s.host key number reattach).kept

key-next : (next key : ℕ) (t : Result (Unit {0}) ErrorState) → claimed_key next t ≡ Ok key → key ≡ next
key-next next key (Err error) tried = absurd (cc)
key-next next key (Ok done) tried = cc

pub sound-claimed : (s : SessionState) (now : HostState) (after : List (Option InterfaceState)) (i key number : ℕ) (reattach : Bool) (o : OpenDevice) (f : InterfaceState) → IsSound s → value_at s.host.devices key ≡ Some o → claimed_key (length s.host.interfaces) (claim_tried s.host o number reattach) ≡ Ok f.key → now ≡ host_claimed s.host key number reattach → StandsInterface now f → is_free s.interfaces i ≡ true → after ≡ set_name s.interfaces i f → IsSound (record s { host = now; interfaces = after })
sound-claimed s now after i key number reattach o f sound at tried is stands free put =
    subst (λ (h : HostState). IsSound (record s { host = h; interfaces = after })) (sym is)
    (claimed-here s after i key number reattach o f sound at tried (key-next (length s.host.interfaces) f.key (claim_tried s.host o number reattach) tried) (subst (λ (h : HostState). StandsInterface h f) is stands) free put)

-- or the claim is refused
refused-here : (s : SessionState) (key number : ℕ) (reattach : Bool) (o : OpenDevice) (error : ErrorState) → IsSound s → value_at s.host.devices key ≡ Some o → claimed_key (length s.host.interfaces) (claim_tried s.host o number reattach) ≡ Err error → IsSound (record s { host = host_claimed s.host key number reattach })
refused-here s key number reattach o error sound at tried =
    let now = host_claimed s.host key number reattach in
    sound-handled s now s.interfaces sound (claimed-keeps s.host key number reattach) refl
    (λ m g open_. StandsInterface-claimed s.host key number reattach g (sound.interfaces_stand m g open_))
    (counted-same s.host.interfaces now.interfaces s.interfaces (claim-refused_interfaces s.host key number reattach o (length s.host.interfaces) error at tried) sound.interfaces_counted)
    (held-claimed s.host key number reattach sound.devices_held) (claims_stay_owned.claim s.host key number reattach).kept

pub sound-refused : (s : SessionState) (now : HostState) (key number : ℕ) (reattach : Bool) (o : OpenDevice) (error : ErrorState) → IsSound s → value_at s.host.devices key ≡ Some o → claimed_key (length s.host.interfaces) (claim_tried s.host o number reattach) ≡ Err error → now ≡ host_claimed s.host key number reattach → IsSound (record s { host = now })
sound-refused s now key number reattach o error sound at tried is =
    subst (λ (h : HostState). IsSound (record s { host = h })) (sym is) (refused-here s key number reattach o error sound at tried)

-- an alternate setting is set
written-sound : (s : SessionState) (now : HostState) (k : ℕ) (c d : ClaimedInterface) → IsSound s → KeepsBeside s.host now → WritesOne s.host now k c d → d.handles ≡ c.handles → DevicesAreHeld now → KeepsOwned s.host now → IsSound (record s { host = now })
written-sound s now k c d sound keeps writes handles held claims =
    let written = set s.host.interfaces k (Some d) in
    let counted = counted-changed s.host.interfaces written s.interfaces k c d sound.interfaces_counted writes.at refl handles in
    sound-handled s now s.interfaces sound keeps refl
    (λ m g open_.
    stands-written s.host now k c d g writes held
    (λ e at. counted-open written s.interfaces m g e counted open_ at) (sound.interfaces_stand m g open_))
    (counted-goes written now.interfaces s.interfaces writes.goes counted) held claims

held-setting : (s : SessionState) (now : HostState) (k setting : ℕ) (c : ClaimedInterface) (errno : Option ℕ) → IsSound s → value_at s.host.interfaces k ≡ Some c → now.devices ≡ s.host.devices → now.interfaces ≡ set s.host.interfaces k (Some (setting_unless c setting errno)) → DevicesAreHeld now
held-setting s now k setting c None sound at devices is = held-written s.host now k c (setting_unless c setting None) (counts-same s.host.devices now.devices devices) at is refl refl sound.devices_held
held-setting s now k setting c (Some errno) sound at devices is = held-written s.host now k c (setting_unless c setting (Some errno)) (counts-same s.host.devices now.devices devices) at is refl refl sound.devices_held

set-here : (s : SessionState) (k setting : ℕ) (c : ClaimedInterface) → IsSound s → value_at s.host.interfaces k ≡ Some c → IsSound (record s { host = alt_setting_set s.host k setting })
set-here s k setting c sound at =
    let now = alt_setting_set s.host k setting in
    let keeps = setting-keeps s.host k setting c at in
    let errno = alt_setting_errno s.host c setting in
    elim (cases_Bool (has_living s.host.tickets s.host.endpoints k)) [
      | inl living ↦ subst (λ (h : HostState). IsSound (record s { host = h })) (sym (setting-in_use s.host k setting c at living)) sound
      | inr none ↦
          written-sound s now k c (setting_unless c setting errno) sound keeps
          (setting_unless-like s.host now k setting c errno at (ap (λ (h : HostState). h.interfaces) (setting-asked s.host k setting c at none)))
          (setting_unless-handles c setting errno)
          (held-setting s now k setting c errno sound at (ap (λ (h : HostState). h.devices) (setting-asked s.host k setting c at none)) (ap (λ (h : HostState). h.interfaces) (setting-asked s.host k setting c at none)))
          (claims_stay_owned.set_alt_setting s.host k setting).kept
    ]

pub sound-set : (s : SessionState) (now : HostState) (k setting : ℕ) (c : ClaimedInterface) → IsSound s → value_at s.host.interfaces k ≡ Some c → now ≡ alt_setting_set s.host k setting → IsSound (record s { host = now })
sound-set s now k setting c sound at is =
    subst (λ (h : HostState). IsSound (record s { host = h })) (sym is) (set-here s k setting c sound at)

-- a state with another host and other names of interfaces
pub represents-handled : (s : SessionState) (state : State) (now host : HostState) (after names : List (Option InterfaceState)) → Represents s state → now ≡ host → after ≡ names → Represents (record s { host = now; interfaces = after }) (record state { host = host; interfaces = names })
represents-handled s state now host after names r is put = rw (is, put, r) refl
