-- Handles of interfaces and of devices are closed, by the number of their name.
use Rattle.std.proofs.Common.{◌≡◌, ℕ, List, Option, Some, None, refl, ◌∙◌}
use Rattle.usb_device_host.specs.HostState.{HostState}
use Rattle.usb_device_host.specs.Handles.{device_closed, handle_closed}
use Rattle.usb_device_host.specs.HandleStates.{InterfaceState}
use Rattle.usb_session_calls.specs.Names.{named, freed}
use Rattle.usb_session_calls.specs.State.{State}
use Rattle.usb_session.specs.Ends.{interface_closed, name_closed}
use Rattle.usb_session_calls.specs.SessionState.{SessionState, IsSound}
use Rattle.usb_session_calls.specs.Relation.{Represents}
use Rattle.usb_session_calls.proofs.NameLemmas.{freed-none}

pub close_interface-code : (S s : SessionState) (now : HostState) (after : List (Option InterfaceState)) (i : ℕ) (f : InterfaceState) → s ≡ S → named s.interfaces i ≡ Some f → after ≡ freed s.interfaces i → now ≡ handle_closed s.host f.key → (state : State) → Represents S state → Represents (record s { host = now; interfaces = after }) (interface_closed state i)
unfolding interface_closed
close_interface-code S s now after i f view was rest closed state r =
    rw (rw (view ∙ r) at was, rest, closed, view ∙ r) refl

-- nothing was open under the name
pub interface-nothing : (S s : SessionState) (after : List (Option InterfaceState)) (i : ℕ) → s ≡ S → named s.interfaces i ≡ None → after ≡ freed s.interfaces i → (state : State) → Represents S state → Represents (record s { interfaces = after }) (interface_closed state i)
unfolding interface_closed
interface-nothing S s after i view none rest state r =
    rw (rw (view ∙ r) at none, rest, freed-none s.interfaces i none) (view ∙ r)

pub interface-sound_same : (s : SessionState) (after : List (Option InterfaceState)) (i : ℕ) → IsSound s → named s.interfaces i ≡ None → after ≡ freed s.interfaces i → IsSound (record s { interfaces = after })
interface-sound_same s after i sound none rest = rw (rest, freed-none s.interfaces i none) sound

-- and devices
pub close_name-code : (S s : SessionState) (now : HostState) (after : List (Option ℕ)) (d key : ℕ) → s ≡ S → named s.devices d ≡ Some key → after ≡ freed s.devices d → now ≡ device_closed s.host key → (state : State) → Represents S state → Represents (record s { host = now; devices = after }) (name_closed state d)
unfolding name_closed
close_name-code S s now after d key view was rest closed state r =
    rw (rw (view ∙ r) at was, rest, closed, view ∙ r) refl

pub device-nothing : (S s : SessionState) (after : List (Option ℕ)) (d : ℕ) → s ≡ S → named s.devices d ≡ None → after ≡ freed s.devices d → (state : State) → Represents S state → Represents (record s { devices = after }) (name_closed state d)
unfolding name_closed
device-nothing S s after d view none rest state r =
    rw (rw (view ∙ r) at none, rest, freed-none s.devices d none) (view ∙ r)

pub device-sound_same : (s : SessionState) (after : List (Option ℕ)) (d : ℕ) → IsSound s → named s.devices d ≡ None → after ≡ freed s.devices d → IsSound (record s { devices = after })
device-sound_same s after d sound none rest = rw (rest, freed-none s.devices d none) sound
