-- The host once the interface of a device is claimed, and the answer of that claim.
use Rattle.std.proofs.Common.{ℕ, ◌≡◌, ◌∙◌, false, length, ap, refl, Ok}
use Rattle.usb_device_host.specs.HostState.{HostState}
use Rattle.usb_device_host.specs.Opens.{open_key, host_opened}
use Rattle.usb_device_host.specs.InterfaceClaims.{claim_tried}
use Rattle.usb_device_host.specs.HandleStates.{InterfaceState}
use Rattle.usb_device.specs.HandleCalls.{ClaimsAndCloses}
use Rattle.usb_device.specs.InterfaceAnswers.{interface_answer}
use Rattle.usb_device.proofs.InterfaceAnswers.{opened, claim_tried_on}
use Rattle.usb_device.proofs.StandLemmas.{claimed-next}
use Rattle.example_echo.specs.Claims.{claimed, claimed_as}

-- the interface of a device was claimed
pub record Claims (h mid : HostState) (bus address key : ℕ) : Type 0 where
  pub answer : interface_answer h bus address 0 false ≡ Ok tt
  pub host : mid ≡ claimed h bus address
  pub key_is : key ≡ claimed_as h bus address

pub claims : (h old mid : HostState) (bus address key : ℕ) (i : InterfaceState) →
    open_key h bus address ≡ Ok key → old ≡ host_opened h bus address → ClaimsAndCloses old mid key 0 false (Ok i) →
    Claims h mid bus address i.key
unfolding claimed claimed_as
claims h old mid bus address key i tried is both =
    let was = opened h bus address key tried in
    let fresh = (claimed-next (length old.interfaces) i.key (claim_tried old both.claims.device 0 false) both.claims.tried).0 in
    record {
      answer = claim_tried_on h old mid bus address key 0 false (Ok i) tried is both;
      host = rw (both.closed, both.claims.host, is, was.key_is) refl;
      key_is = fresh ∙ ap (λ (h : HostState). length h.interfaces) is;
    }
