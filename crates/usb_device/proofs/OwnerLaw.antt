-- The owners of interfaces over all calls.
use Rattle.std.proofs.Common.{ℕ, ◌≡◌, false}
use Rattle.std.proofs.lemmas.Option.{none-some}
use Rattle.usb_kernel.specs.ClaimLaws.{is_claimed}
use Rattle.usb_kernel.specs.Value.{KernelState}
use Rattle.usb_device_host.specs.HostState.{host_of}
use Rattle.usb_device.specs.OwnerLaws.{ClaimsAreOwned, ClaimsStayOwned}
use Rattle.usb_device.proofs.OwnerLawTurns.{stepped-owned, reaped-owned, rest-owned, discarded-owned, ended-owned, taken-owned, abandoned-owned, finished-owned}
use Rattle.usb_device.proofs.OwnerLawCalls.{submitted-owned, started-owned, refused-owned, left-owned, timed-owned, idled-owned, halt-owned, opened-owned, device_cloned-owned, device_closed-owned, asked-owned, configured-owned, reset-owned, detached-owned, attached-owned, speed-owned, setting-owned, cloned-owned, closed-owned, closed-alive, closed-others, endpoint-owned}
use Rattle.usb_device.proofs.OwnerLawKernel.{fresh-claimed}
use Rattle.usb_device.proofs.OwnerLawWaits.{turned-owned, waited-owned, blocked-owned, awaited-owned}
use Rattle.usb_device.proofs.OwnerLawClaims.{claimed-owned}

-- at the start nothing is claimed, and there is no claim
start-owned : (k : KernelState) → ((d n : ℕ) → is_claimed k.devices d n ≡ false) → ClaimsAreOwned (host_of k)
start-owned k free =
    record {
      claimed = free;
      apart = λ d n i j a b at_a at_b own_a own_b. absurd (none-some a at_a);
    }

pub claims_stay_owned : ClaimsStayOwned
claims_stay_owned =
    record {
      fresh = fresh-claimed;
      start = start-owned;
      tidy = λ k i c at. absurd (none-some c at);
      none_dead = λ k i e at. absurd (none-some e at);
      step = stepped-owned;
      reap = reaped-owned;
      rest = rest-owned;
      turn = turned-owned;
      timer = timed-owned;
      idle = idled-owned;
      wait = waited-owned;
      block = blocked-owned;
      await_ticket = awaited-owned;
      submit = λ h to deadline t is_open. submitted-owned h to t is_open deadline;
      refuse = λ h to t errno is_open. refused-owned h to t is_open errno;
      start_control = started-owned;
      discard = discarded-owned;
      end_ticket = ended-owned;
      take = taken-owned;
      abandon = abandoned-owned;
      leave = left-owned;
      open_device = opened-owned;
      clone_device = device_cloned-owned;
      close_device = device_closed-owned;
      claim = claimed-owned;
      clone_handle = cloned-owned;
      close_handle = closed-owned;
      close_others = closed-others;
      close_alive = closed-alive;
      set_alt_setting = setting-owned;
      ask = asked-owned;
      open_endpoint = endpoint-owned;
      set_configuration = configured-owned;
      reset = reset-owned;
      detach = detached-owned;
      attach = attached-owned;
      ask_speed = speed-owned;
      clear_halt = halt-owned;
      finish = finished-owned;
    }
