-- The claim of an interface when an owner of it has gone.
use Rattle.std.proofs.Common.{ℕ, arith, ◌≡◌, ◌≢◌, ◌≤◌, Bool, true, false, cond, length, length-set, Option, Some, None, inl, inr, refl, sym, ◌∙◌, ap}
use Rattle.std.specs.Prelude.{◌==◌, ◌&&◌}
use Rattle.std.proofs.lemmas.Bool.{cases_eq}
use Rattle.std.proofs.lemmas.Option.{none-some}
use Rattle.std.specs.Option.{option_map}
use Rattle.usb_device_tables.proofs.ValueLemmas.{value-set_same, value-set_other}
use Rattle.usb_device_tables.specs.History.{value_at}
use Rattle.usb_kernel_devices.specs.declared.step.KernelCall.TheVariants as call
use Rattle.usb_kernel_devices.specs.Claims.{after_release}
use Rattle.usb_kernel_devices.specs.Calls.{attach_rules, with_driver}
use Rattle.usb_kernel.specs.Calls.{called}
use Rattle.usb_kernel.specs.ClaimLaws.{is_claimed}
use Rattle.usb_kernel.specs.Value.{KernelState}
use Rattle.usb_kernel.proofs.ClaimLemmas.{release-ends}
use Rattle.usb_device_ledger.specs.declared.owners.EndedClaim.{EndedClaim}
use Rattle.usb_device_ledger.specs.Entries.{ClaimedInterface}
use Rattle.usb_device_host.specs.HostState.{HostState}
use Rattle.usb_device_ledger.specs.Owners.{is_owned_among}
use Rattle.usb_device_ledger.specs.Releases.{claim_ended}
use Rattle.usb_device_host.specs.Releases.{released, without_ended, with_ended}
use Rattle.usb_device.specs.OwnerLaws.{is_owned_claim, InterfacesAreOwned, HasEnded, KeepsOwned}
use Rattle.usb_device.proofs.OwnerLawKernel.{called-claimed, release-claimed}
use Rattle.usb_device.proofs.OwnerLawTells.{owns, at-owns, tells-from, tells-to, named, unnamed, tells-same, Loses, tells-loss}
use Rattle.usb_device.proofs.OwnerLawKept.{claim_as, claim_at, at-claim, same-owns, same-owned, same-ended}

-- a driver that is attached at the end of a claim claims nothing
attached-claimed : (k : KernelState) (claim : EndedClaim) (b : Bool) (d n : ℕ) →
    is_claimed (cond b (called (released k claim) claim.device call.Attach (attach_rules claim.number) (with_driver claim.number)) (released k claim)).devices d n ≡
    is_claimed (after_release k.devices claim.device claim.number) d n
attached-claimed k claim true d n = called-claimed (released k claim) claim.device call.Attach (attach_rules claim.number) (with_driver claim.number) (λ x. refl) d n (λ here x. refl)
attached-claimed k claim false d n = refl

ended-claimed : (k : KernelState) (claim : EndedClaim) (d n : ℕ) → is_claimed (without_ended k (Some claim)).devices d n ≡ is_claimed (after_release k.devices claim.device claim.number) d n
ended-claimed k claim d n = attached-claimed k claim claim.reattach d n

-- a host where an owner of the claimed interface of a key has gone, and nothing else has changed
pub record OwnerLeft (h g : HostState) (i : ℕ) : Type 0 where
  pub claim : ClaimedInterface
  pub left : ClaimedInterface
  pub was : value_at h.interfaces i ≡ Some claim
  pub is : value_at g.interfaces i ≡ Some left
  pub device : left.device ≡ claim.device
  pub number : left.number ≡ claim.number
  pub owned : is_owned_among h.tickets h.endpoints i claim ≡ true
  pub others : (j : ℕ) → j ≢ i → claim_at g j ≡ claim_at h j
  pub claims : (d n : ℕ) → is_claimed g.kernel.devices d n ≡ is_claimed h.kernel.devices d n
  pub count : length g.interfaces ≡ length h.interfaces

and_true : (b : Bool) → (b && true) ≡ b
and_true true = refl
and_true false = refl

and_false : (b : Bool) → (b && false) ≡ false
and_false true = refl
and_false false = refl

module _ (h g : HostState) (i : ℕ) (gone : OwnerLeft h g i) where
  -- whether the claim is one of this interface
  abbrev names : ℕ → ℕ → Bool
  names d n = gone.claim.device == d && gone.claim.number == n

  -- the key owned the interface that it claims, and owns it further or nothing
  owned-was : (d n : ℕ) → owns h d n i ≡ names d n
  owned-was d n = at-owns h d n i gone.claim gone.was ∙ rw gone.owned (and_true (names d n))

  owned-is : (d n : ℕ) (b : Bool) → is_owned_among g.tickets g.endpoints i gone.left ≡ b → owns g d n i ≡ (names d n && b)
  owned-is d n b is = at-owns g d n i gone.left gone.is ∙ rw (is, gone.device, gone.number) refl

  -- with another owner the claim goes on
  ended-none : is_owned_among g.tickets g.endpoints i gone.left ≡ true → claim_ended g.interfaces g.tickets g.endpoints i ≡ None
  unfolding claim_ended
  ended-none owned = rw (gone.is, owned) refl

  same-here : is_owned_among g.tickets g.endpoints i gone.left ≡ true → claim_at g i ≡ claim_at h i
  same-here owned =
      let after : claim_at g i ≡ Some (gone.left.device, gone.left.number, true) = at-claim g i gone.left gone.is ∙ rw owned refl in
      let before : claim_at h i ≡ Some (gone.claim.device, gone.claim.number, true) = at-claim h i gone.claim gone.was ∙ rw gone.owned refl in
      after ∙ (rw (gone.device, gone.number) refl ∙ sym before)

  same-claims : is_owned_among g.tickets g.endpoints i gone.left ≡ true → (j : ℕ) → claim_at g j ≡ claim_at h j
  same-claims owned j = elim (cases_eq j i) [ inl same ↦ rw same (same-here owned) | inr apart ↦ gone.others j apart ]

  -- with none it ends
  abbrev ended : EndedClaim
  ended = record { device = gone.left.device; number = gone.left.number; reattach = gone.left.reattach }

  ended-some : is_owned_among g.tickets g.endpoints i gone.left ≡ false → claim_ended g.interfaces g.tickets g.endpoints i ≡ Some ended
  unfolding claim_ended
  ended-some free = rw (gone.is, free) refl

  abbrev after : HostState
  after = with_ended g (Some i) (Some ended)

  none-here : value_at after.interfaces i ≡ None
  none-here = value-set_same g.interfaces i gone.left None gone.is

  after-other : (j : ℕ) → j ≢ i → claim_at after j ≡ claim_at h j
  after-other j apart = ap (option_map (claim_as g j)) (value-set_other g.interfaces i j None (λ z. apart (sym z))) ∙ gone.others j apart

  lost : is_owned_among g.tickets g.endpoints i gone.left ≡ false → Loses (is_claimed h.kernel.devices) (is_claimed after.kernel.devices) (owns h) (owns after) gone.claim.device gone.claim.number i
  lost free =
      record {
        was = owned-was gone.claim.device gone.claim.number ∙ named gone.claim.device gone.claim.number gone.claim.device gone.claim.number refl refl;
        only = λ d n other. owned-was d n ∙ unnamed gone.claim.device gone.claim.number d n other;
        gone = λ d n. ap (λ (o : Option ClaimedInterface). is_owned_claim after d n (i, o)) none-here;
        here = ended-claimed g.kernel ended gone.claim.device gone.claim.number ∙ rw (gone.device, gone.number) (release-ends g.kernel.devices gone.claim.device gone.claim.number);
        there = λ d n other. ended-claimed g.kernel ended d n ∙ rw (gone.device, gone.number) (release-claimed g.kernel.devices gone.claim.device gone.claim.number d n other) ∙ gone.claims d n;
        others = λ d n j apart. same-owns h after j (after-other j apart) d n;
      }

  count-after : length after.interfaces ≡ length g.interfaces
  count-after = length-set g.interfaces i None

  more-after : length h.interfaces ≤ length after.interfaces
  more-after = omega (arith, count-after, gone.count)

  -- the other claims have ended or not as before, and this one had an owner
  still-ended : (j : ℕ) → HasEnded h j → HasEnded after j
  still-ended j e =
      elim (cases_eq j i) [
        | inl same ↦ absurd (none-some gone.claim (sym (ap (value_at h.interfaces) (sym same) ∙ e.gone) ∙ gone.was))
        | inr apart ↦ same-ended h after j more-after (after-other j apart) e
      ]

  still-tidy : InterfacesAreOwned h → InterfacesAreOwned after
  still-tidy own j =
      elim (cases_eq j i) [
        | inl same ↦ λ c at. absurd (none-some c (sym none-here ∙ ap (value_at after.interfaces) (sym same) ∙ at))
        | inr apart ↦ same-owned h after j (after-other j apart) (own j)
      ]

  kept-by : (b : Bool) → is_owned_among g.tickets g.endpoints i gone.left ≡ b → KeepsOwned h (with_ended g (Some i) (claim_ended g.interfaces g.tickets g.endpoints i))
  kept-by true owned =
      rw (ended-none owned) (record {
        owned = λ own. tells-to g (tells-same (is_claimed h.kernel.devices) (is_claimed g.kernel.devices) (owns h) (owns g) gone.claims (λ d n j. same-owns h g j (same-claims owned j) d n) (tells-from h own));
        tidy = λ own j. same-owned h g j (same-claims owned j) (own j);
        ended = λ j e. same-ended h g j (omega (arith, gone.count)) (same-claims owned j) e;
      })
  kept-by false free =
      rw (ended-some free) (record {
        owned = λ own. tells-to after (tells-loss (is_claimed h.kernel.devices) (is_claimed after.kernel.devices) (owns h) (owns after) gone.claim.device gone.claim.number i (lost free) (tells-from h own));
        tidy = still-tidy;
        ended = still-ended;
      })

  pub owned-settled : KeepsOwned h (with_ended g (Some i) (claim_ended g.interfaces g.tickets g.endpoints i))
  owned-settled = kept-by (is_owned_among g.tickets g.endpoints i gone.left) refl
