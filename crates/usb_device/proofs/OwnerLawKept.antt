-- Hosts that keep their claims and the owners of these.
use Rattle.std.proofs.Common.{ℕ, ◌≡◌, ◌≤◌, arith, length, List, Bool, true, false, Option, Some, None, refl, sym, ◌∙◌, ap}
use Rattle.std.specs.Prelude.{◌==◌, ◌&&◌}
use Rattle.std.specs.Option.{option_map, option_map_or}
use Rattle.std.proofs.lemmas.Option.{none-some, same_Some}
use Rattle.usb_device_tables.specs.History.{value_at}
use Rattle.usb_kernel.specs.ClaimLaws.{is_claimed}
use Rattle.usb_device_ledger.specs.Entries.{ClaimedInterface}
use Rattle.usb_device_host.specs.HostState.{HostState}
use Rattle.usb_device_ledger.specs.Owners.{is_owned_among}
use Rattle.usb_device_host.specs.HostFrames.{ClaimsGoOn}
use Rattle.usb_device.specs.OwnerLaws.{is_owned_claim, IsOwned, HasEnded, KeepsOwned, KeepsClaimed, KeepsClaims, EndpointsLive}
use Rattle.usb_device.proofs.OwnerLawTells.{owns, tells-from, tells-to, tells-same}

-- the claim of a key: its device, its number, and whether it has an owner
abbrev pub claim_as : HostState → ℕ → ClaimedInterface → ℕ × ℕ × Bool
claim_as h i c = (c.device, c.number, is_owned_among h.tickets h.endpoints i c)

abbrev pub claim_at : HostState → ℕ → Option (ℕ × ℕ × Bool)
claim_at h i = option_map (claim_as h i) (value_at h.interfaces i)

pub at-claim : (h : HostState) (i : ℕ) (c : ClaimedInterface) → value_at h.interfaces i ≡ Some c → claim_at h i ≡ Some (claim_as h i c)
at-claim h i c at = ap (option_map (claim_as h i)) at

pub at-none : (h : HostState) (i : ℕ) → value_at h.interfaces i ≡ None → claim_at h i ≡ None
at-none h i none = ap (option_map (claim_as h i)) none

-- it tells what the key owns
owned-as : ℕ → ℕ → Option (ℕ × ℕ × Bool) → Bool
owned-as d n o = option_map_or (λ (s : ℕ × ℕ × Bool). (s.0 == d && s.1 == n) && s.2) o false

owns-as : (h : HostState) (d n i : ℕ) → owns h d n i ≡ owned-as d n (claim_at h i)
unfolding owned-as
owns-as h d n i = by (value_at h.interfaces i)
  where
    by : (o : Option ClaimedInterface) → is_owned_claim h d n (i, o) ≡ owned-as d n (option_map (claim_as h i) o)
    by None = refl
    by (Some c) = refl

pub same-owns : (h g : HostState) (i : ℕ) → claim_at g i ≡ claim_at h i → (d n : ℕ) → owns g d n i ≡ owns h d n i
same-owns h g i same d n = owns-as g d n i ∙ ap (owned-as d n) same ∙ sym (owns-as h d n i)

-- whether it has ended
from-none : (h : HostState) (i : ℕ) → claim_at h i ≡ None → value_at h.interfaces i ≡ None
from-none h i is = by (value_at h.interfaces i) refl is
  where
    by : (o : Option ClaimedInterface) → value_at h.interfaces i ≡ o → option_map (claim_as h i) o ≡ None → value_at h.interfaces i ≡ None
    by None at is = at
    by (Some c) at is = absurd (none-some (claim_as h i c) (sym is))

pub same-ended : (h g : HostState) (i : ℕ) → length h.interfaces ≤ length g.interfaces → claim_at g i ≡ claim_at h i → HasEnded h i → HasEnded g i
same-ended h g i given same e = record { given = omega (arith, given, e.given); gone = from-none g i (same ∙ at-none h i e.gone) }

-- and whether it has an owner, if it is there
claim-there : (h g : HostState) (i : ℕ) (c : ClaimedInterface) (o : Option ClaimedInterface) → value_at h.interfaces i ≡ o → IsOwned h i → option_map (claim_as h i) o ≡ Some (claim_as g i c) → is_owned_among g.tickets g.endpoints i c ≡ true
claim-there h g i c None at own same = absurd (none-some (claim_as g i c) same)
claim-there h g i c (Some d) at own same = sym (ap (λ (s : ℕ × ℕ × Bool). s.2) (same_Some (claim_as h i d) (claim_as g i c) same)) ∙ own d at

pub same-owned : (h g : HostState) (i : ℕ) → claim_at g i ≡ claim_at h i → IsOwned h i → IsOwned g i
same-owned h g i same own c at = claim-there h g i c (value_at h.interfaces i) refl own (sym same ∙ at-claim g i c at)

-- interfaces that stay
pub claimed-same : (old new : List (Option ClaimedInterface)) → new ≡ old → KeepsClaimed old new
claimed-same old new same =
    let count = ap (λ (cs : List (Option ClaimedInterface)). length cs) same in
    record {
      given = omega (arith, count);
      stays = λ i c at some. record { claim = c; at = ap (λ (cs : List (Option ClaimedInterface)). value_at cs i) same ∙ at; more = omega arith };
    }

pub claimed-refl : (cs : List (Option ClaimedInterface)) → KeepsClaimed cs cs
claimed-refl cs = claimed-same cs cs refl

pub claimed-goes : (old new : List (Option ClaimedInterface)) → ClaimsGoOn old new → KeepsClaimed old new
claimed-goes old new goes =
    record {
      given = omega (arith, goes.count);
      stays = λ i c at some. record { claim = c; at = goes.stays i c at some; more = omega arith };
    }

pub claimed-trans : (a b c : List (Option ClaimedInterface)) → KeepsClaimed a b → KeepsClaimed b c → KeepsClaimed a c
claimed-trans a b c first second =
    record {
      given = omega (arith, first.given, second.given);
      stays = λ i x at some.
          let one = first.stays i x at some in
          let two = second.stays i one.claim one.at (omega (arith, one.more, some)) in
          record { claim = two.claim; at = two.at; more = omega (arith, one.more, two.more) };
    }

-- a host where no claim and no owner has changed
pub owned-kept : (h g : HostState) → KeepsClaimed h.interfaces g.interfaces → ((d n : ℕ) → is_claimed g.kernel.devices d n ≡ is_claimed h.kernel.devices d n) → ((i : ℕ) → claim_at g i ≡ claim_at h i) → KeepsOwned h g
owned-kept h g keeps claims same =
    record {
      owned = λ own. tells-to g (tells-same (is_claimed h.kernel.devices) (is_claimed g.kernel.devices) (owns h) (owns g) claims (λ d n i. same-owns h g i (same i) d n) (tells-from h own));
      tidy = λ own i. same-owned h g i (same i) (own i);
      ended = λ i e. same-ended h g i keeps.given (same i) e;
    }

pub claims-kept : (h g : HostState) → KeepsClaimed h.interfaces g.interfaces → ((d n : ℕ) → is_claimed g.kernel.devices d n ≡ is_claimed h.kernel.devices d n) → ((i : ℕ) → claim_at g i ≡ claim_at h i) → (EndpointsLive h → EndpointsLive g) → KeepsClaims h g
claims-kept h g keeps claims same alive = record { kept = owned-kept h g keeps claims same; claimed = keeps; alive = alive }

pub stays : (h : HostState) → KeepsClaims h h
stays h = record { kept = record { owned = λ own. own; tidy = λ own. own; ended = λ i e. e }; claimed = claimed-refl h.interfaces; alive = λ live. live }

pub follow : (first second third : HostState) → KeepsClaims first second → KeepsClaims second third → KeepsClaims first third
follow first second third a b =
    record {
      kept = record { owned = λ own. b.kept.owned (a.kept.owned own); tidy = λ own. b.kept.tidy (a.kept.tidy own); ended = λ i e. b.kept.ended i (a.kept.ended i e) };
      claimed = claimed-trans first.interfaces second.interfaces third.interfaces a.claimed b.claimed;
      alive = λ live. b.alive (a.alive live);
    }
