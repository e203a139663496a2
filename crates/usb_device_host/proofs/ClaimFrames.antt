-- Claimed interfaces where one of them may go.
use Rattle.std.proofs.Common.{ℕ, ◌≡◌, ◌<◌, true, List, length, set, Option, Some, None, refl, sym, ap, ◌∙◌, inl, inr, length-set, lt-ltb}
use Rattle.std.specs.Prelude.{option_and_then}
use Rattle.std.proofs.lemmas.Bool.{cases_Bool, cases_eq}
use Rattle.std.proofs.lemmas.Option.{none-some}
use Rattle.usb_device_tables.specs.History.{value_at}
use Rattle.usb_device_tables.proofs.ValueLemmas.{value-set_other, value-taken}
use Rattle.usb_device_ledger.specs.declared.owners.EndedClaim.{EndedClaim}
use Rattle.usb_device_ledger.specs.Entries.{ClaimedInterface, HostTicket, HostEndpoint}
use Rattle.usb_device_ledger.specs.Owners.{if_there, lives, is_owned_among}
use Rattle.usb_device_ledger.specs.Releases.{claim_ended, interface_at, claim_of, without_claim, endpoints_left}
use Rattle.usb_device_host.specs.HostFrames.{EntriesGoOn, ClaimsGoOn, EndpointsGoOn}

module _ {T : Type 0} {IsOpen : T → Type 0} where
  pub goes-same : (old new : List (Option T)) → new ≡ old → EntriesGoOn IsOpen old new
  goes-same old new same =
      record {
        count = ap (λ (cs : List (Option T)). length cs) same;
        stays = λ i c at some. ap (λ (cs : List (Option T)). value_at cs i) same ∙ at;
        was = λ i c at. ap (λ (cs : List (Option T)). value_at cs i) (sym same) ∙ at;
      }

  pub goes-refl : (cs : List (Option T)) → EntriesGoOn IsOpen cs cs
  goes-refl cs = goes-same cs cs refl

  pub goes-trans : (a b c : List (Option T)) → EntriesGoOn IsOpen a b → EntriesGoOn IsOpen b c → EntriesGoOn IsOpen a c
  goes-trans a b c first second =
      record {
        count = second.count ∙ first.count;
        stays = λ i x at some. second.stays i x (first.stays i x at some) some;
        was = λ i x at. first.was i x (second.was i x at);
      }

  -- one that is not open goes
  pub goes-without : (entries : List (Option T)) (i : ℕ) → ((x : T) → value_at entries i ≡ Some x → IsOpen x → ⊥) → EntriesGoOn IsOpen entries (set entries i None)
  goes-without entries i none =
      record {
        count = length-set entries i None;
        stays = λ j c at some.
            elim (cases_eq i j) [
              | inl same ↦ absurd (none c (ap (value_at entries) same ∙ at) some)
              | inr apart ↦ value-set_other entries i j None apart ∙ at
            ];
        was = λ j c at. (value-taken entries i j c at).1;
      }

-- an interface with a handle has an owner, so its claim does not end
pub handles-own : (tickets : List HostTicket) (endpoints : List (Option HostEndpoint)) (i : ℕ) (c : ClaimedInterface) → 0 < c.handles → is_owned_among tickets endpoints i c ≡ true
unfolding is_owned_among
handles-own tickets endpoints i c some = rw (lt-ltb 0 c.handles some) refl

pub handles-go_on : (interfaces : List (Option ClaimedInterface)) (tickets : List HostTicket) (endpoints : List (Option HostEndpoint)) (i : ℕ) (c : ClaimedInterface) → value_at interfaces i ≡ Some c → 0 < c.handles → claim_ended interfaces tickets endpoints i ≡ None
unfolding claim_ended
handles-go_on interfaces tickets endpoints i c at some = rw (at, handles-own tickets endpoints i c some) refl

pub goes-ended : (interfaces : List (Option ClaimedInterface)) (tickets : List HostTicket) (endpoints : List (Option HostEndpoint)) (i : ℕ) → ClaimsGoOn interfaces (without_claim interfaces (Some i) (claim_ended interfaces tickets endpoints i))
goes-ended interfaces tickets endpoints i = by (claim_ended interfaces tickets endpoints i) refl
  where
    by : (o : Option EndedClaim) → claim_ended interfaces tickets endpoints i ≡ o → ClaimsGoOn interfaces (without_claim interfaces (Some i) o)
    by None is = goes-same interfaces interfaces refl
    by (Some claim) is = goes-without interfaces i (λ c at some. none-some claim (sym (handles-go_on interfaces tickets endpoints i c at some) ∙ is))

pub goes-of : (interfaces : List (Option ClaimedInterface)) (tickets : List HostTicket) (endpoints : List (Option HostEndpoint)) (k : ℕ) → ClaimsGoOn interfaces (without_claim interfaces (interface_at endpoints k) (claim_of interfaces tickets endpoints k))
unfolding claim_of
goes-of interfaces tickets endpoints k = by (interface_at endpoints k)
  where
    by : (o : Option ℕ) → ClaimsGoOn interfaces (without_claim interfaces o (option_and_then (claim_ended interfaces tickets endpoints) o))
    by None = goes-same interfaces interfaces refl
    by (Some i) = goes-ended interfaces tickets endpoints i

-- an endpoint that is open lives, so it stays
open-lives : (tickets : List HostTicket) (k : ℕ) (o : Option HostEndpoint) (e : HostEndpoint) → o ≡ Some e → e.is_open ≡ true → if_there (lives tickets) (k, o) ≡ true
open-lives tickets k o e at is_open = rw (at, is_open) refl

pub goes-left : (tickets : List HostTicket) (endpoints : List (Option HostEndpoint)) (k : ℕ) → EndpointsGoOn endpoints (endpoints_left tickets endpoints k)
unfolding endpoints_left
goes-left tickets endpoints k =
    elim (cases_Bool (if_there (lives tickets) (k, value_at endpoints k))) [
      | inl alive ↦ rw alive (goes-refl endpoints)
      | inr dead ↦
          rw dead (goes-without endpoints k (λ e at is_open.
          let alive = open-lives tickets k (value_at endpoints k) e at is_open in absurd (cc)))
    ]
