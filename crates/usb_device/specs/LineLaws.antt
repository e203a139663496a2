-- How the line of a host goes on.
use Rattle.std.specs.Prelude.{ℕ, ◌≡◌, ◌≤◌, ◌+◌, [], length}
use Rattle.usb_device_endpoint.specs.Waits.{waited}
use Rattle.usb_device_endpoint.specs.Blocking.{blocked}
use Rattle.usb_device_host.specs.HostState.{HostState}
use Rattle.usb_device_host.specs.HostTurns.{host_turned, host_rest}
use Rattle.usb_device_host.specs.HostCalls.{host_calls}
use Rattle.usb_device_host.specs.HostAwaits.{host_awaited}
use Rattle.usb_device_host.specs.HostFrames.{LineGoesOn, HostGoesOn}

-- a turn, a wait and a blocking transfer take steps only from the front of the line, and end
-- nothing that endpoints hold
abbrev pub TurnGoesOn : Type 0
TurnGoesOn = (h : HostState) → HostGoesOn h (host_turned h)

abbrev pub WaitGoesOn : Type 0
WaitGoesOn = (h : HostState) (t timeout : ℕ) → HostGoesOn h (waited host_calls t timeout h)

abbrev pub BlockingGoesOn : Type 0
BlockingGoesOn =
    (h : HostState) (t timeout : ℕ) → HostGoesOn h (blocked host_calls t timeout h)

-- so does a wait for a control transfer
abbrev pub AwaitGoesOn : Type 0
AwaitGoesOn = (h : HostState) (t deadline : ℕ) → HostGoesOn h (host_awaited h t deadline)

-- and so do the steps that are left at the end of a line
abbrev pub RestGoesOn : Type 0
RestGoesOn = (h : HostState) → HostGoesOn h (host_rest h)

-- of which none is left then
abbrev pub RestLeavesNone : Type 0
RestLeavesNone = (h : HostState) → (host_rest h).steps ≡ []

-- and each step of the line, taken by a call before or not, has used a place of the kernel
abbrev pub LineUsesPlaces : Type 0
LineUsesPlaces =
    (old new : HostState) → LineGoesOn old new → length old.steps ≤ old.kernel.spare →
    (host_rest new).kernel.spare + length old.steps ≡ old.kernel.spare
