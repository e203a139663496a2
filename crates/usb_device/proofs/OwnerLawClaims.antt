-- The owners of interfaces over a claim.
use Rattle.std.proofs.Common.{ℕ, ◌+◌, arith, ◌≡◌, ◌≢◌, length-append, sym, Bool, true, false, List, [], ◌∷◌, ◌++◌, length, Option, Some, None, inl, inr, refl, ◌∙◌, ap}
use Rattle.std.specs.Prelude.{IsSome}
use Rattle.std.specs.Option.{option_map}
use Rattle.std.proofs.lemmas.Bool.{cases_Bool, cases_eq}
use Rattle.std.proofs.lemmas.Option.{same_Some}
use Rattle.usb_kernel_devices.specs.declared.devices.DeviceState.{DeviceState}
use Rattle.usb_kernel_devices.specs.declared.step.KernelCall.TheVariants as call
use Rattle.usb_kernel_devices.specs.Claims.{claim_rules, with_claim, ok_unless}
use Rattle.usb_kernel_devices.specs.Calls.{detach_and_claim_rules, with_claimed_only}
use Rattle.usb_kernel.specs.ClaimLaws.{is_claimed}
use Rattle.usb_kernel.specs.Value.{KernelState}
use Rattle.usb_kernel_devices.proofs.InterfaceLemmas.{contains-insert_other}
use Rattle.usb_kernel.proofs.ArmedLemmas.{refused-changes_none}
use Rattle.usb_kernel.proofs.CallsKept.{claimed-refused, detach_and_claim-acts}
use Rattle.usb_kernel.proofs.ClaimCalls.{claim-claims}
use Rattle.usb_device_tables.proofs.ValueLemmas.{value-last, value-past, value-push, value-pushed}
use Rattle.usb_error.specs.Errors.{claim_error}
use Rattle.usb_device_endpoint.specs.CallErrors.{or_error}
use Rattle.usb_device_tables.specs.History.{value_at}
use Rattle.usb_device_ledger.specs.Devices.{device_changed, interface_more}
use Rattle.usb_device_ledger.specs.declared.opened.OpenDevice.{OpenDevice}
use Rattle.usb_device_ledger.specs.Entries.{ClaimedInterface, fresh_interface}
use Rattle.usb_device_host.specs.HostState.{HostState}
use Rattle.usb_device_ledger.specs.Owners.{is_owned_among}
use Rattle.usb_device.specs.OwnerLaws.{is_owned_claim, InterfacesAreOwned, HasEnded, KeepsClaimed, KeepsClaims}
use Rattle.usb_device_host.specs.InterfaceClaims.{claim_errno, kernel_claimed, claimed_by, claimed_on, host_claimed}
use Rattle.usb_device.proofs.OwnerLawKernel.{called-claimed}
use Rattle.usb_device.proofs.OwnerLawTells.{owns, at-owns, tells-from, tells-to, named, unnamed, Gains, tells-gain}
use Rattle.usb_device.proofs.OwnerLawKept.{claim_as, claim_at, same-owns, same-owned, same-ended, stays}
use Rattle.usb_device.proofs.OwnerLawTurns.{kernel-owned}

-- a claim that is refused claims nothing
refused-claimed : (k : KernelState) (o : OpenDevice) (number : ℕ) (reattach : Bool) (errno : ℕ) → claim_errno k o number reattach ≡ Some errno → (kernel_claimed k o number reattach).devices ≡ k.devices
refused-claimed k o number false errno refused = refused-changes_none k o.device errno call.Claim (claim_rules number) (with_claim number) refused
refused-claimed k o number true errno refused = refused-changes_none k o.device errno call.DetachClaim (detach_and_claim_rules number) (with_claimed_only number) refused

-- one that is not refused claims its interface, which was not claimed, and no other
claims-here : (k : KernelState) (o : OpenDevice) (number : ℕ) (reattach : Bool) → claim_errno k o number reattach ≡ None → is_claimed (kernel_claimed k o number reattach).devices o.device number ≡ true
claims-here k o number false none = claim-claims k o.device number none
claims-here k o number true none = (detach_and_claim-acts k o.device number none).0

busy : (k : KernelState) (o : OpenDevice) (number : ℕ) (reattach : Bool) → is_claimed k.devices o.device number ≡ true → IsSome (claim_errno k o number reattach)
busy k o number false claimed = (claimed-refused k o.device number number claimed).0
busy k o number true claimed = (claimed-refused k o.device number number claimed).1

was-free : (k : KernelState) (o : OpenDevice) (number : ℕ) (reattach : Bool) → claim_errno k o number reattach ≡ None → is_claimed k.devices o.device number ≡ false
was-free k o number reattach none =
    elim (cases_Bool (is_claimed k.devices o.device number)) [
      | inl claimed ↦ absurd (let e = rw none at (busy k o number reattach claimed) in cc)
      | inr free ↦ free
    ]

claims-there : (k : KernelState) (o : OpenDevice) (number : ℕ) (reattach : Bool) (d n : ℕ) → (o.device ≡ d → number ≢ n) → is_claimed (kernel_claimed k o number reattach).devices d n ≡ is_claimed k.devices d n
claims-there k o number false d n other = called-claimed k o.device call.Claim (claim_rules number) (with_claim number) (λ x. refl) d n (λ here x. contains-insert_other x.claimed number n (other here))
claims-there k o number true d n other = called-claimed k o.device call.DetachClaim (detach_and_claim_rules number) (with_claimed_only number) (λ x. refl) d n (λ here x. contains-insert_other x.claimed number n (other here))

module _ (h : HostState) (key number : ℕ) (reattach : Bool) (o : OpenDevice) where
  abbrev fresh : ClaimedInterface
  fresh = fresh_interface key o.device number reattach

  abbrev asked : HostState
  asked = record h { kernel = kernel_claimed h.kernel o number reattach }

  abbrev next : HostState
  next = record asked { devices = device_changed h.devices key interface_more; interfaces = h.interfaces ++ Some fresh ∷ [] }

  fresh-owned : is_owned_among h.tickets h.endpoints (length h.interfaces) fresh ≡ true
  unfolding is_owned_among
  fresh-owned = refl

  fresh-owns : (d n : ℕ) → owns next d n (length h.interfaces) ≡ is_owned_claim h d n (length h.interfaces, Some fresh)
  fresh-owns d n = at-owns next d n (length h.interfaces) fresh (value-last h.interfaces (Some fresh))

  none-before : (d n : ℕ) → owns h d n (length h.interfaces) ≡ false
  none-before d n = ap (λ (o : Option ClaimedInterface). is_owned_claim h d n (length h.interfaces, o)) (value-past h.interfaces (length h.interfaces) (omega arith))

  other-claim : (i : ℕ) → i ≢ length h.interfaces → claim_at next i ≡ claim_at h i
  other-claim i apart = ap (option_map (claim_as h i)) (value-pushed h.interfaces (Some fresh) i apart)

  more-given : length next.interfaces ≡ length h.interfaces + 1
  more-given = length-append h.interfaces (Some fresh ∷ [])

  still-ended : (i : ℕ) → HasEnded h i → HasEnded next i
  still-ended i e = same-ended h next i (omega (arith, more-given)) (other-claim i (λ z. absurd (omega (arith, z, e.given)))) e

  -- the new one has an owner
  still-tidy : InterfacesAreOwned h → InterfacesAreOwned next
  still-tidy own i =
      elim (cases_eq i (length h.interfaces)) [
        | inl last ↦ λ c at.
            let c_is : fresh ≡ c = same_Some fresh c (sym (value-last h.interfaces (Some fresh)) ∙ ap (value_at next.interfaces) (sym last) ∙ at) in
            ap (is_owned_among h.tickets h.endpoints i) (sym c_is) ∙ ap (λ k. is_owned_among h.tickets h.endpoints k fresh) last ∙ fresh-owned
        | inr apart ↦ same-owned h next i (other-claim i apart) (own i)
      ]

  next-claimed : KeepsClaimed h.interfaces next.interfaces
  next-claimed =
      record {
        given = omega (arith, more-given);
        stays = λ i c at some. record { claim = c; at = value-push h.interfaces (Some fresh) i c at; more = omega arith };
      }

  claim-gains : claim_errno h.kernel o number reattach ≡ None → Gains (is_claimed h.kernel.devices) (is_claimed next.kernel.devices) (owns h) (owns next) o.device number (length h.interfaces)
  claim-gains none =
      record {
        free = was-free h.kernel o number reattach none;
        none = none-before;
        here = claims-here h.kernel o number reattach none;
        there = claims-there h.kernel o number reattach;
        new = fresh-owns o.device number ∙ rw (named o.device number o.device number refl refl, fresh-owned) refl;
        only = λ d n other. fresh-owns d n ∙ rw (unnamed o.device number d n other) refl;
        others = λ d n i apart. same-owns h next i (other-claim i apart) d n;
      }

  claimed-with : (e : Option ℕ) → claim_errno h.kernel o number reattach ≡ e → KeepsClaims h (claimed_by asked fresh (or_error claim_error (ok_unless e)))
  claimed-with None none =
      record {
        kept = record {
          owned = λ own. tells-to next (tells-gain (is_claimed h.kernel.devices) (is_claimed next.kernel.devices) (owns h) (owns next) o.device number (length h.interfaces) (claim-gains none) (tells-from h own));
          tidy = still-tidy;
          ended = still-ended;
        };
        claimed = next-claimed;
        alive = λ live. live;
      }
  claimed-with (Some errno) refused =
      kernel-owned h asked.kernel (λ d n. ap (λ (ds : List DeviceState). is_claimed ds d n) (refused-claimed h.kernel o number reattach errno refused))

claimed-at : (h : HostState) (key number : ℕ) (reattach : Bool) (o : Option OpenDevice) → KeepsClaims h (claimed_on h key number reattach o)
claimed-at h key number reattach None = stays h
claimed-at h key number reattach (Some o) = claimed-with h key number reattach o (claim_errno h.kernel o number reattach) refl

pub claimed-owned : (h : HostState) (key number : ℕ) (reattach : Bool) → KeepsClaims h (host_claimed h key number reattach)
unfolding host_claimed
claimed-owned h key number reattach = claimed-at h key number reattach (value_at h.devices key)
