-- The owners of interfaces over turns and waits.
use Rattle.std.proofs.Common.{ℕ}
use Rattle.usb_device_endpoint.specs.Waits.{waited}
use Rattle.usb_device_endpoint.specs.Blocking.{blocked}
use Rattle.usb_device_host.specs.HostState.{HostState}
use Rattle.usb_device_host.specs.HostTurns.{host_stepped, host_turned}
use Rattle.usb_device_host.specs.HostCalls.{host_calls}
use Rattle.usb_device_host.specs.HostAwaits.{host_awaited}
use Rattle.usb_device_host.proofs.TurnKeeps.{IsKept, kept-turned, kept-waited, kept-blocked, kept-awaited}
use Rattle.usb_device.specs.OwnerLaws.{KeepsClaims}
use Rattle.usb_device.proofs.OwnerLawKept.{stays, follow}
use Rattle.usb_device.proofs.OwnerLawTurns.{steps-owned, stepped-owned, reaped-owned, discarded-owned}
use Rattle.usb_device.proofs.OwnerLawCalls.{idled-owned}

claims_kept : IsKept KeepsClaims
claims_kept =
    record {
      same = stays;
      more = follow;
      step = λ h s ss is. let next = record h { steps = ss } in follow h next (host_stepped next s) (steps-owned h ss) (stepped-owned next s);
      reap = reaped-owned;
      discard = discarded-owned;
      idle = idled-owned;
    }

pub turned-owned : (h : HostState) → KeepsClaims h (host_turned h)
turned-owned h = kept-turned KeepsClaims claims_kept h

pub waited-owned : (h : HostState) (t timeout : ℕ) → KeepsClaims h (waited host_calls t timeout h)
waited-owned h t timeout = kept-waited KeepsClaims claims_kept h t timeout

pub blocked-owned : (h : HostState) (t timeout : ℕ) → KeepsClaims h (blocked host_calls t timeout h)
blocked-owned h t timeout = kept-blocked KeepsClaims claims_kept h t timeout

pub awaited-owned : (h : HostState) (t deadline : ℕ) → KeepsClaims h (host_awaited h t deadline)
awaited-owned h t deadline = kept-awaited KeepsClaims claims_kept h t deadline
