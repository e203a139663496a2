-- Where all is closed nothing is kept.
use Rattle.std.proofs.Common.{ℕ, suc, ◌≡◌, ◌+◌, arith, Bool, false, List, [], ◌∷◌, Option, Some, None, refl, ◌∙◌}
use Rattle.std.specs.Prelude.{◌||◌, nat_lt, slice_get}
use Rattle.std.specs.List.{list_any, count_by, enumerate_from}
use Rattle.usb_device_tables.specs.History.{value_at}
use Rattle.usb_device_ledger.specs.Entries.{HostTicket, HostEndpoint, ClaimedInterface, HeldBy, Abandoned, Ended}
use Rattle.usb_device_ledger.specs.declared.opened.OpenDevice.{OpenDevice}
use Rattle.usb_device_ledger.specs.Owners.{is_ticket_of, lives, lives_on, if_there, has_living, is_owned_among}
use Rattle.usb_device_ledger.specs.Devices.{is_held}
use Rattle.usb_device_host.specs.HostState.{HostState}
use Rattle.usb_device_host.specs.Finishes.{HasEnds}
use Rattle.usb_device_host.specs.DeviceLaws.{holds_at, DevicesAreHeld}
use Rattle.usb_device.specs.OwnerLaws.{InterfacesAreOwned, EndpointsLive}
use Rattle.usb_device.specs.ClosedLaws.{IsClosed, ClosedKeepsNothing}
use Rattle.usb_device_host.proofs.HeldDevices.{count-none}

-- a ticket with an end is of no endpoint
none-of : (ts : List HostTicket) (k : ℕ) → HasEnds ts → list_any (is_ticket_of k) ts ≡ false
none-of [] k ends = refl
none-of (HeldBy hold ∷ ts) k ends = absurd (cc (ends 0 (omega arith)))
none-of (Abandoned key ∷ ts) k ends = absurd (cc (ends 0 (omega arith)))
none-of (Ended end ∷ ts) k ends = none-of ts k (λ t below. ends (suc t) (omega (arith, below)))

-- no test holds of what isn't there
none-there : {T : Type 0} (test : ℕ × T → Bool) (n : ℕ) (es : List (Option T)) → ((k : ℕ) → value_at es k ≡ None) → list_any (if_there test) (enumerate_from n es) ≡ false
none-there test n [] none = refl
none-there test n (Some e ∷ es) none = absurd (cc (none 0))
none-there test n (None ∷ es) none = none-there test (n + 1) es (λ k. none (suc k))

dead-endpoint : (h : HostState) (k : ℕ) (o : Option HostEndpoint) → value_at h.endpoints k ≡ o → EndpointsLive h → IsClosed h → o ≡ None
dead-endpoint h k None at alive closed = refl
dead-endpoint h k (Some e) at alive closed =
    let dead : lives h.tickets (k, e) ≡ false = rw (closed.endpoints k e at) (none-of h.tickets k closed.tickets) in
    absurd (cc (alive k e at, dead))

free-interface : (h : HostState) (i : ℕ) (o : Option ClaimedInterface) → value_at h.interfaces i ≡ o → InterfacesAreOwned h → IsClosed h → ((k : ℕ) → value_at h.endpoints k ≡ None) → o ≡ None
unfolding is_owned_among
free-interface h i None at owned closed none = refl
free-interface h i (Some c) at owned closed none =
    let free : (nat_lt 0 c.handles || has_living h.tickets h.endpoints i) ≡ false = rw (closed.interfaces i c at) (none-there (lives_on h.tickets i) 0 h.endpoints none) in
    absurd (cc (owned i c at, free))

idle-device : (h : HostState) (k : ℕ) (o : Option OpenDevice) → value_at h.devices k ≡ o → DevicesAreHeld h → IsClosed h → ((i : ℕ) → value_at h.interfaces i ≡ None) → o ≡ None
idle-device h k None at held closed none = refl
idle-device h k (Some o) at held closed none =
    let count : count_by (holds_at k) h.interfaces ≡ 0 = count-none (holds_at k) h.interfaces (λ n x here. holds-nothing n x here) in
    let idle : is_held o ≡ false = rw (closed.devices k o at, held.counted k o at ∙ count) refl in
    absurd (cc (held.held k o at, idle))
  where
    holds-nothing : (n : ℕ) (x : Option ClaimedInterface) → slice_get h.interfaces n ≡ Some x → holds_at k x ≡ false
    holds-nothing n None here = refl
    holds-nothing n (Some c) here = absurd (cc (none n, here))

pub closed_is_empty : ClosedKeepsNothing
closed_is_empty h held owned alive closed =
    let endpoints : (k : ℕ) → value_at h.endpoints k ≡ None = λ k. dead-endpoint h k (value_at h.endpoints k) refl alive closed in
    let interfaces : (k : ℕ) → value_at h.interfaces k ≡ None = λ k. free-interface h k (value_at h.interfaces k) refl owned closed endpoints in
    record {
      devices = λ k. idle-device h k (value_at h.devices k) refl held closed interfaces;
      interfaces = interfaces;
      endpoints = endpoints;
    }
