-- Calls on claimed interfaces: the session that they leave, and what they answer.
use Rattle.std.proofs.Common.{◌≡◌, ◌∙◌, ℕ, Some, None, ap, sym, subst}
use Rattle.usb_device_tables.specs.History.{value_at}
use Rattle.usb_session_text.specs.Calls.{condition_line}
use Rattle.usb_device_ledger.specs.Entries.{ClaimedInterface}
use Rattle.usb_device_host.specs.HostState.{HostState}
use Rattle.usb_device_host.specs.HandleStates.{InterfaceState}
use Rattle.usb_device_host.specs.EndpointOpens.{host_asked}
use Rattle.usb_device_host.specs.OnInterfaces.{alt_setting_set}
use Rattle.usb_device_host.proofs.InterfaceFrames.{asked-is}
use Rattle.usb_session_calls.specs.Names.{named}
use Rattle.usb_session_calls.specs.declared.call.InterfaceCall.{InterfaceCall}
use Rattle.usb_session_calls.specs.declared.call.InterfaceCall.TheVariants.{SetAltSetting, GetAltSetting, Descriptor}
use Rattle.usb_session_calls.specs.State.{State, with_host}
use Rattle.usb_session_calls.specs.OpenAt.{interface_with}
use Rattle.usb_session_calls.specs.InterfaceCalls.{interface_called, on_interface}
use Rattle.usb_session_calls.specs.SessionState.{SessionState, IsSound}
use Rattle.usb_session_calls.specs.Relation.{Represents}
use Rattle.usb_session_calls.proofs.Answering.{Gives, barred-gives, host_is}
use Rattle.usb_session_calls.proofs.Called.{represents-host}
use Rattle.usb_session_calls.proofs.EndpointOpened.{asked-sound, asked-spare}
use Rattle.usb_session_calls.proofs.HandleHosts.{setting-keeps, spare-beside}
use Rattle.usb_session_calls.proofs.Handled.{sound-set}
use Rattle.usb_session_calls.proofs.InterfaceHandles.{interface-none, interface-some}

pub called-sound : (s : SessionState) (now : HostState) (call : InterfaceCall) (f : InterfaceState) (c : ClaimedInterface) → IsSound s → value_at s.host.interfaces f.key ≡ Some c → now ≡ (interface_called call s.host (interface_with f c)).host → IsSound (record s { host = now })
called-sound s now (SetAltSetting setting) f c sound at is = sound-set s now f.key setting c sound at is
called-sound s now GetAltSetting f c sound at is = subst (λ (h : HostState). IsSound (record s { host = h })) (sym is) sound
called-sound s now Descriptor f c sound at is = asked-sound s now c.opened sound is

-- no place of the journal is used
pub called-spare : (h now : HostState) (call : InterfaceCall) (f : InterfaceState) (c : ClaimedInterface) → value_at h.interfaces f.key ≡ Some c → now ≡ (interface_called call h (interface_with f c)).host → now.kernel.spare ≡ h.kernel.spare
called-spare h now (SetAltSetting setting) f c at is = spare-beside h now (alt_setting_set h f.key setting) is (setting-keeps h f.key setting c at)
called-spare h now GetAltSetting f c at is = ap (λ (g : HostState). g.kernel.spare) is
called-spare h now Descriptor f c at is = asked-spare h now c.opened is

-- a call is barred, or answers what it leaves
pub interface-barred : (s : SessionState) (state : State) (i : ℕ) (call : InterfaceCall) → named s.interfaces i ≡ None → Represents s state → Gives s condition_line (on_interface state i call)
unfolding on_interface
interface-barred s state i call none r = rw (interface-none s state i r none) (barred-gives s state r)

pub interface-gives : (s : SessionState) (state : State) (now : HostState) (i : ℕ) (f : InterfaceState) (c : ClaimedInterface) (call : InterfaceCall) → named s.interfaces i ≡ Some f → value_at s.host.interfaces f.key ≡ Some c → now ≡ (interface_called call s.host (interface_with f c)).host → Represents s state → Gives (record s { host = now }) (interface_called call s.host (interface_with f c)).line (on_interface state i call)
unfolding on_interface
interface-gives s state now i f c call at there is r =
    let host = host_is s state r in
    rw (interface-some s state i f c r at there)
    (record {
      state = subst (λ (h : HostState). Represents (record s { host = now }) (with_host state h)) (is ∙ ap (λ (h : HostState). (interface_called call h (interface_with f c)).host) host) (represents-host s state now r);
      same = ap (λ (h : HostState). (interface_called call h (interface_with f c)).line) (sym host);
    })

-- a claimed interface once its device was asked for the active configuration
pub asked-claim : (h now : HostState) (key k : ℕ) (c : ClaimedInterface) → now ≡ host_asked h key → value_at h.interfaces k ≡ Some c → value_at now.interfaces k ≡ Some c
asked-claim h now key k c is at = ap (λ (g : HostState). value_at g.interfaces k) (is ∙ asked-is h key) ∙ at
