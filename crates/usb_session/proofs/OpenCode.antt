-- Devices are opened.
use Rattle.std.proofs.Common.{[], ◌≡◌, ℕ, arith, List, length, Option, Some, Result, Ok, Err, true, false, refl, ap, sym, ◌∙◌, subst, inl, inr}
use Rattle.usb_device_tables.specs.History.{value_at}
use Rattle.usb_device_tables.proofs.ValueLemmas.{value-within, value-pushed}
use Rattle.usb_desc.specs.declared.error.Fail.{Fail}
use Rattle.usb_error.specs.ErrorState.{ErrorState}
use Rattle.usb_session_text.specs.Calls.{ok_line, condition_line, error_line}
use Rattle.usb_device_endpoint.specs.BusState.{BusState}
use Rattle.usb_device_endpoint.specs.Handles.{Stands}
use Rattle.usb_device_ledger.specs.declared.opened.OpenDevice.{OpenDevice}
use Rattle.usb_device_host.specs.HostState.{HostState}
use Rattle.usb_device_host.specs.HostBus.{bus_of}
use Rattle.usb_device_host.specs.HandleStates.{StandsDevice}
use Rattle.usb_device_host.specs.CallErrors.{Leaves}
use Rattle.usb_device_host.specs.Opens.{host_opened, open_key}
use Rattle.usb_device_host.proofs.Left.{left}
use Rattle.usb_device_host.proofs.InterfaceFrames.{opened-is}
use Rattle.usb_device_ledger.proofs.DeviceLemmas.{counts-same}
use Rattle.usb_device_host.proofs.ClaimFrames.{goes-same}
use Rattle.usb_device_host.proofs.HeldDevices.{OpensOne, opens-one, opens-none, held-opened}
use Rattle.usb_session_calls.specs.Names.{is_free, set_name}
use Rattle.usb_session_calls.specs.State.{State, with_host}
use Rattle.usb_session.specs.Opens.{open_answer, opened_as}
use Rattle.usb_session_calls.specs.SessionState.{SessionState, IsSound}
use Rattle.usb_session_calls.specs.Relation.{Represents, session_of}
use Rattle.usb_session_calls.proofs.NameLemmas.{length-set_name, names-set}
use Rattle.usb_session_calls.proofs.CountedDevices.{devices-opened}
use Rattle.usb_session_calls.proofs.SoundDevices.{sound-device}
use Rattle.usb_session_calls.proofs.Called.{KeepsSession, sound-host}
use Rattle.usb_session_calls.proofs.NamedKeys.{none-bus}
use Rattle.usb_device.specs.OwnerLaws.{KeepsOwned}
use Rattle.usb_device.proofs.OwnerLaw.{claims_stay_owned}
use Rattle.usb_session_streams.proofs.AccountLemmas.{accounts-kept}
use Rattle.usb_session_calls.proofs.Answering.{Gives, barred-gives}
use Rattle.usb_session_calls.proofs.FutureLemmas.{past-same}

-- a session whose host was refused a device
opened-keeps : (h now : HostState) (bus address : ℕ) (error : ErrorState) → h.steps ≡ [] → now ≡ host_opened h bus address → open_key h bus address ≡ Err error → KeepsSession h now
opened-keeps h now bus address error idle is refused =
    let made = is ∙ opened-is h bus address in
    record {
      idle = ap (λ (g : HostState). g.steps) made ∙ idle;
      past = past-same h now (ap bus_of made);
      devices = counts-same h.devices now.devices (ap (λ (g : HostState). g.devices) is ∙ opens-none h bus address error refused);
      interfaces = goes-same h.interfaces now.interfaces (ap (λ (g : HostState). g.interfaces) made);
    }

pub open-left : (s : SessionState) (now : HostState) (bus address : ℕ) (error : ErrorState) → IsSound s → open_key s.host bus address ≡ Err error → now ≡ host_opened s.host bus address → IsSound (record s { host = now })
open-left s now bus address error sound refused is =
    let bus_is = ap bus_of (is ∙ opened-is s.host bus address) in
    let made = is ∙ opened-is s.host bus address in
    sound-host s now sound (opened-keeps s.host now bus address error sound.idle is refused) (λ h stands. subst (λ (b : BusState). Stands b h) (sym bus_is) stands) (none-bus s.host now bus_is)
    (accounts-kept s.host now (subst (KeepsOwned s.host) (sym is) (claims_stay_owned.open_device s.host bus address).kept) (ap (λ (g : HostState). g.tickets) made) (ap (λ (g : HostState). g.kernel.past) made))

-- and one in which the device is open
open-stands : (h : HostState) (now : List (Option OpenDevice)) (key d : ℕ) → OpensOne h now key → StandsDevice h d → value_at now d ≡ value_at h.devices d
open-stands h now key d opens stands =
    let within = value-within h.devices d stands.device stands.at in
    ap (λ ds. value_at ds d) opens.devices ∙ value-pushed h.devices (Some opens.device) d (λ same. absurd (omega (arith, same, within)))

open-here : (s : SessionState) (after : List (Option ℕ)) (d key bus address : ℕ) → IsSound s → open_key s.host bus address ≡ Ok key → StandsDevice (host_opened s.host bus address) key → is_free s.devices d ≡ true → after ≡ set_name s.devices d key → IsSound (record s { host = host_opened s.host bus address; devices = after })
open-here s after d key bus address sound tried stands free put =
    let now = host_opened s.host bus address in
    let made = opened-is s.host bus address in
    let opens = opens-one s.host bus address key tried in
    sound-device s now after sound (ap (λ (g : HostState). g.steps) made) (ap (λ (g : HostState). g.interfaces) made) (ap bus_of made)
    (ap (λ (l : List (Option ℕ)). length l) put ∙ length-set_name s.devices d key)
    (λ e k at. elim (names-set s.devices after d e key k free put at) [
      | inl here ↦ subst (StandsDevice now) (sym here.1) stands
      | inr there ↦
          let was = sound.devices_stand e k there.1 in
          record { device = was.device; at = open-stands s.host now.devices key k opens was ∙ was.at; open_handle = was.open_handle }
    ])
    (devices-opened s.host now.devices s.devices after d key opens sound.devices_stand free put sound.devices_counted)
    (held-opened s.host bus address sound.devices_held)
    (accounts-kept s.host now (claims_stay_owned.open_device s.host bus address).kept (ap (λ (g : HostState). g.tickets) made) (ap (λ (g : HostState). g.kernel.past) made))

pub open-sound : (s : SessionState) (now : HostState) (after : List (Option ℕ)) (d key bus address : ℕ) → IsSound s → open_key s.host bus address ≡ Ok key → now ≡ host_opened s.host bus address → StandsDevice now key → is_free s.devices d ≡ true → after ≡ set_name s.devices d key → IsSound (record s { host = now; devices = after })
open-sound s now after d key bus address sound tried is stands free put =
    rw is
    (open-here s after d key bus address sound tried (rw is at stands) free put)

-- the state in which it is open
open-by : (state : State) (host now : HostState) (after : List (Option ℕ)) (d key : ℕ) (t : Result ℕ ErrorState) → t ≡ Ok key → now ≡ host → after ≡ set_name state.devices d key → Gives (record (session_of state) { host = now; devices = after }) ok_line (opened_as (with_host state host) d t)
open-by state host now after d key (Err error) tried is put = absurd (cc)
open-by state host now after d key (Ok k) tried is put =
    let same : k ≡ key = cc in
    record { state = rw (is, put, same) refl; same = refl }

pub open-gives : (s : SessionState) (state : State) (now : HostState) (after : List (Option ℕ)) (d key bus address : ℕ) → Represents s state → is_free s.devices d ≡ true → open_key s.host bus address ≡ Ok key → now ≡ host_opened s.host bus address → after ≡ set_name s.devices d key → Gives (record s { host = now; devices = after }) ok_line (open_answer state d bus address)
unfolding open_answer
open-gives s state now after d key bus address r free tried is put =
    rw (rw r at free, r) (open-by state (host_opened state.host bus address) now after d key (open_key state.host bus address) (rw r at tried) (rw r at is) (rw r at put))

-- or that in which it is refused
refused-by : (state : State) (host now : HostState) (d : ℕ) (error : ErrorState) (t : Result ℕ ErrorState) → t ≡ Err error → now ≡ host → Gives (record (session_of state) { host = now }) (error_line error) (opened_as (with_host state host) d t)
refused-by state host now d error (Err other) tried is =
    let same : other ≡ error = cc in record { state = rw is refl; same = ap error_line same }
refused-by state host now d error (Ok key) tried is = absurd (cc)

pub open-refused : (s : SessionState) (state : State) (now : HostState) (d bus address : ℕ) (error : ErrorState) → Represents s state → is_free s.devices d ≡ true → open_key s.host bus address ≡ Err error → now ≡ host_opened s.host bus address → Gives (record s { host = now }) (error_line error) (open_answer state d bus address)
unfolding open_answer
open-refused s state now d bus address error r free tried is =
    rw (rw r at free, r) (refused-by state (host_opened state.host bus address) now d error (open_key state.host bus address) (rw r at tried) (rw r at is))

-- or that in which it is barred
pub open-barred : (s : SessionState) (state : State) (d bus address : ℕ) → Represents s state → is_free s.devices d ≡ false → Gives s condition_line (open_answer state d bus address)
unfolding open_answer
open-barred s state d bus address r used = rw (rw r at used) (barred-gives s state r)

pub open-spare : {A : Type 0} (h now : HostState) (bus address : ℕ) (r : Result A (Fail ErrorState)) → Leaves r now (host_opened h bus address) h → now.kernel.spare ≡ h.kernel.spare
open-spare h now bus address r is =
    left (λ (g : HostState). g.kernel.spare ≡ h.kernel.spare) r now (host_opened h bus address) h is (ap (λ (g : HostState). g.kernel.spare) (opened-is h bus address)) refl

-- nor is there an event
pub open-past : {A : Type 0} (h now : HostState) (bus address : ℕ) (r : Result A (Fail ErrorState)) → Leaves r now (host_opened h bus address) h → now.kernel.past ≡ h.kernel.past
open-past h now bus address r is =
    left (λ (g : HostState). g.kernel.past ≡ h.kernel.past) r now (host_opened h bus address) h is (ap (λ (g : HostState). g.kernel.past) (opened-is h bus address)) refl
