-- Calls on open devices: the session that they leave, and what they answer.
use Rattle.std.proofs.Common.{◌≡◌, ◌∙◌, ◌≤◌, ◌+◌, ℕ, List, arith, Some, None, refl, ap, sym, subst}
use Rattle.usb_device_tables.specs.History.{value_at}
use Rattle.usb_device_tables.proofs.ValueLemmas.{value-set_same}
use Rattle.usb_session_text.specs.Calls.{condition_line}
use Rattle.usb_device_ledger.specs.declared.opened.OpenDevice.{OpenDevice}
use Rattle.usb_device_host.specs.HostState.{HostState}
use Rattle.usb_device_host.specs.EndpointOpens.{as_asked, host_asked}
use Rattle.usb_device_host.proofs.ClaimFrames.{goes-same}
use Rattle.usb_device_host.proofs.EndpointLemmas.{asked-at}
use Rattle.usb_device_ledger.specs.Entries.{HostTicket}
use Rattle.usb_device_host.specs.HostBus.{owner_at}
use Rattle.usb_device_host.specs.OnDevices.{host_reset}
use Rattle.usb_device.specs.OwnerLaws.{KeepsClaims}
use Rattle.usb_device.proofs.OwnerLaw.{claims_stay_owned}
use Rattle.usb_session_streams.specs.Accounts.{KeepsAccounts}
use Rattle.usb_session_streams.proofs.AccountLemmas.{accounts-same, accounts-kept, counted-kept}
use Rattle.usb_session_calls.specs.Names.{named}
use Rattle.usb_session_calls.specs.declared.call.DeviceCall.{DeviceCall}
use Rattle.usb_session_calls.specs.declared.call.DeviceCall.TheVariants.{Descriptor, Descriptors, ActiveConfiguration, Speed, SetConfiguration, Reset, DetachDriver, AttachDriver}
use Rattle.usb_session_calls.specs.State.{State, with_host}
use Rattle.usb_session_calls.specs.OpenAt.{DeviceAt, device_with, device_at}
use Rattle.usb_session_calls.specs.DeviceCalls.{device_called, on_device, device_places}
use Rattle.usb_session_calls.specs.SessionState.{SessionState, IsSound}
use Rattle.usb_session_calls.specs.Relation.{Represents}
use Rattle.usb_session_calls.proofs.Answering.{Gives, barred-gives, host_is}
use Rattle.usb_session_calls.proofs.Called.{sound-host, represents-host}
use Rattle.usb_session_calls.proofs.NamedKeys.{none-same}
use Rattle.usb_session_calls.proofs.DeviceHosts.{KeepsHandles, KeepsAside, handles-same, stands-handles, asked-aside, speed-aside, configured-aside, reset-handles, reset-count, reset-places, detached-aside, attached-aside}

-- what is open under a name of a device
pub device-none : (s : SessionState) (state : State) (d : ℕ) → Represents s state → named s.devices d ≡ None → device_at state d ≡ None
device-none s state d r none =
    let here : named state.devices d ≡ None = ap (λ (v : SessionState). named v.devices d) (sym r) ∙ none in
    rw here refl

pub device-some : (s : SessionState) (state : State) (d key : ℕ) (o : OpenDevice) → Represents s state → named s.devices d ≡ Some key → value_at s.host.devices key ≡ Some o → device_at state d ≡ Some (device_with key o)
device-some s state d key o r at there =
    let here : named state.devices d ≡ Some key = ap (λ (v : SessionState). named v.devices d) (sym r) ∙ at in
    let device : value_at state.host.devices key ≡ Some o = ap (λ (v : SessionState). value_at v.host.devices key) (sym r) ∙ there in
    rw (here, device) refl

-- what handles stand on is as it was
called-handles : (call : DeviceCall) (h : HostState) (x : DeviceAt) → KeepsHandles h (device_called call h x).host
called-handles Descriptor h x = handles-same h
called-handles Descriptors h x = handles-same h
called-handles ActiveConfiguration h x = (asked-aside h x.key).handles
called-handles Speed h x = (speed-aside h x.key).handles
called-handles (SetConfiguration value) h x = (configured-aside h x.key value).handles
called-handles Reset h x = reset-handles h x.key
called-handles (DetachDriver number) h x = (detached-aside h x.key number).handles
called-handles (AttachDriver number) h x = (attached-aside h x.key number).handles

-- and the accounts are kept
aside-accounts : (h next : HostState) → KeepsClaims h next → KeepsAside h next → KeepsAccounts h next
aside-accounts h next claims keeps = accounts-kept h next claims.kept keeps.handles.tickets keeps.past

called-accounts : (call : DeviceCall) (h : HostState) (x : DeviceAt) → KeepsAccounts h (device_called call h x).host
called-accounts Descriptor h x = accounts-same h
called-accounts Descriptors h x = accounts-same h
called-accounts ActiveConfiguration h x = aside-accounts h _ (claims_stay_owned.ask h x.key) (asked-aside h x.key)
called-accounts Speed h x = aside-accounts h _ (claims_stay_owned.ask_speed h x.key) (speed-aside h x.key)
called-accounts (SetConfiguration value) h x = aside-accounts h _ (claims_stay_owned.set_configuration h x.key value) (configured-aside h x.key value)
called-accounts (DetachDriver number) h x = aside-accounts h _ (claims_stay_owned.detach h x.key number) (detached-aside h x.key number)
called-accounts (AttachDriver number) h x = aside-accounts h _ (claims_stay_owned.attach h x.key number) (attached-aside h x.key number)
called-accounts Reset h x =
    record {
      claims = (claims_stay_owned.reset h x.key).kept;
      count = counted-kept h (host_reset h x.key) (reset-count h x.key);
      held = λ t k own. ap (λ (ts : List HostTicket). owner_at ts t) (sym (reset-handles h x.key).tickets) ∙ own;
    }

sound-handles : (s : SessionState) (next : HostState) → IsSound s → KeepsHandles s.host next → KeepsAccounts s.host next → IsSound (record s { host = next })
sound-handles s next sound keeps accounts =
    sound-host s next sound (record { idle = keeps.steps ∙ sound.idle; past = keeps.goes; devices = keeps.devices; interfaces = goes-same s.host.interfaces next.interfaces keeps.interfaces }) (stands-handles s.host next keeps)
    (none-same s.host.endpoints next.endpoints keeps.endpoints) accounts

pub called-sound : (s : SessionState) (now : HostState) (call : DeviceCall) (x : DeviceAt) → IsSound s → now ≡ (device_called call s.host x).host → IsSound (record s { host = now })
called-sound s now call x sound is =
    subst (λ (h : HostState). IsSound (record s { host = h })) (sym is) (sound-handles s (device_called call s.host x).host sound (called-handles call s.host x) (called-accounts call s.host x))

-- no place of the journal is used, but one at most by a reset
aside-places : (h next : HostState) → KeepsAside h next → h.kernel.spare ≤ next.kernel.spare + 0
aside-places h next keeps = let same = keeps.spare in omega (arith, same)

leaves-places : (call : DeviceCall) (h : HostState) (x : DeviceAt) → h.kernel.spare ≤ (device_called call h x).host.kernel.spare + device_places call
leaves-places Descriptor h x = omega arith
leaves-places Descriptors h x = omega arith
leaves-places ActiveConfiguration h x = aside-places h _ (asked-aside h x.key)
leaves-places Speed h x = aside-places h _ (speed-aside h x.key)
leaves-places (SetConfiguration value) h x = aside-places h _ (configured-aside h x.key value)
leaves-places Reset h x = reset-places h x.key
leaves-places (DetachDriver number) h x = aside-places h _ (detached-aside h x.key number)
leaves-places (AttachDriver number) h x = aside-places h _ (attached-aside h x.key number)

pub called-places : (h now : HostState) (call : DeviceCall) (x : DeviceAt) → now ≡ (device_called call h x).host → h.kernel.spare ≤ now.kernel.spare + device_places call
called-places h now call x is = subst (λ (g : HostState). h.kernel.spare ≤ g.kernel.spare + device_places call) (sym is) (leaves-places call h x)

-- a call is barred, or answers what it leaves
pub device-barred : (s : SessionState) (state : State) (d : ℕ) (call : DeviceCall) → named s.devices d ≡ None → Represents s state → Gives s condition_line (on_device state d call)
unfolding on_device
device-barred s state d call none r = rw (device-none s state d r none) (barred-gives s state r)

pub device-gives : (s : SessionState) (state : State) (now : HostState) (d key : ℕ) (o : OpenDevice) (call : DeviceCall) → named s.devices d ≡ Some key → value_at s.host.devices key ≡ Some o → now ≡ (device_called call s.host (device_with key o)).host → Represents s state → Gives (record s { host = now }) (device_called call s.host (device_with key o)).line (on_device state d call)
unfolding on_device
device-gives s state now d key o call at there is r =
    let host = host_is s state r in
    rw (device-some s state d key o r at there)
    (record {
      state = subst (λ (h : HostState). Represents (record s { host = now }) (with_host state h)) (is ∙ ap (λ (h : HostState). (device_called call h (device_with key o)).host) host) (represents-host s state now r);
      same = ap (λ (h : HostState). (device_called call h (device_with key o)).line) (sym host);
    })

-- an open device once it was asked for the active configuration
pub asked-device : (h now : HostState) (key : ℕ) (o : OpenDevice) → value_at h.devices key ≡ Some o → now ≡ host_asked h key → value_at now.devices key ≡ Some (as_asked h.kernel o)
asked-device h now key o at is =
    ap (λ (g : HostState). value_at g.devices key) (is ∙ asked-at h key o at) ∙ value-set_same h.devices key o (Some (as_asked h.kernel o)) at
