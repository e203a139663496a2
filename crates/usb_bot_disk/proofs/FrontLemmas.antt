-- The packet that stands at an OUT endpoint.
use Rattle.std.proofs.Common.{◌≡◌, ℕ, List, ◌∷◌, slice_get, Option, Some, None, true, false, refl, sym, ap, ◌∙◌}
use Rattle.std.specs.Prelude.{nat_lt, cond, option_and_then, Bool}
use Rattle.std.specs.Option.{option_map}
use Rattle.std.proofs.lemmas.Option.{same_Some, none-some}
use Rattle.usb_kernel.specs.declared.event.Event.{Event}
use Rattle.usb_kernel.specs.declared.event.Body.{Body}
use Rattle.usb_kernel.specs.declared.event.Body.TheVariants.{Wanted, Sent}
use Rattle.usb_kernel.specs.Tickets.{Ticket, tickets}
use Rattle.usb_kernel.specs.Fates.{Fate, count_of, with_ack}
use Rattle.usb_kernel.specs.Journal.{fate, oldest, taken_of, bytes_between}
use Rattle.usb_kernel.specs.Fronts.{front_packet, front_maximum}

-- what is there of an option
pub is-there : {X Y : Type 0} (f : X → Option Y) (o : Option X) (y : Y) → option_and_then f o ≡ Some y → (x : X) × ((o ≡ Some x) × (f x ≡ Some y))
is-there f None y is = absurd (none-some y is)
is-there f (Some x) y is = (x, (refl, is))

pub is-mapped : {X Y : Type 0} (f : X → Y) (o : Option X) (y : Y) → option_map f o ≡ Some y → (x : X) × ((o ≡ Some x) × (f x ≡ y))
is-mapped f None y is = absurd (none-some y is)
is-mapped f (Some x) y is = (x, (refl, same_Some (f x) y is))

pub is-so : {X : Type 0} (v : Bool) (x y : X) → cond v (Some x) None ≡ Some y → (v ≡ true) × (x ≡ y)
is-so true x y is = (refl, same_Some x y is)
is-so false x y is = absurd (none-some y is)

-- the oldest open ticket, its maximum packet size and the packet that it has next
pub record IsFront (past : List Event) (d e : ℕ) (packet : List ℕ) (maximum : ℕ) : Type 0 where
  pub low : nat_lt e 128 ≡ true
  pub t : ℕ
  pub oldest_is : oldest past d e ≡ Some t
  pub s : Ticket
  pub at : slice_get (tickets past) t ≡ Some s
  pub maximum_is : s.maximum ≡ maximum
  pub packet_is : taken_of (Some s) (fate past t) ≡ packet

pub front-is : (past : List Event) (d e : ℕ) (packet : List ℕ) (maximum : ℕ) → front_maximum past d e ≡ Some maximum → front_packet past d e ≡ Some packet → IsFront past d e packet maximum
front-is past d e packet maximum maximum_is packet_is =
    let low = is-low (nat_lt e 128) (option_map (λ t. taken_of (slice_get (tickets past) t) (fate past t)) (oldest past d e)) packet packet_is in
    let there = is-there (λ t. option_map (λ (s : Ticket). s.maximum) (slice_get (tickets past) t)) (oldest past d e) maximum maximum_is in
    let ticket = is-mapped (λ (s : Ticket). s.maximum) (slice_get (tickets past) there.0) maximum there.1.1 in
    let taken = is-mapped (λ t. taken_of (slice_get (tickets past) t) (fate past t)) (oldest past d e) packet low.1 in
    let same : taken.0 ≡ there.0 = same_Some taken.0 there.0 (sym taken.1.0 ∙ there.1.0) in
    record {
      low = low.0;
      t = there.0;
      oldest_is = there.1.0;
      s = ticket.0;
      at = ticket.1.0;
      maximum_is = ticket.1.1;
      packet_is =
          sym (ap (λ o. taken_of o (fate past there.0)) ticket.1.0)
          ∙ sym (ap (λ t. taken_of (slice_get (tickets past) t) (fate past t)) same)
          ∙ taken.1.1;
    }
  where
    is-low : (v : Bool) (o : Option (List ℕ)) (p : List ℕ) → cond v o None ≡ Some p → (v ≡ true) × (o ≡ Some p)
    is-low true o p is = (refl, is)
    is-low false o p is = absurd (none-some p is)

-- a packet with bytes is of a ticket that sends some
pub sends-bytes : (s : Ticket) (f : Fate) (x : ℕ) (xs : List ℕ) → taken_of (Some s) f ≡ x ∷ xs → (bytes : List ℕ) × (s.body ≡ Sent bytes)
sends-bytes s f x xs is = by s.body is refl
  where
    by : (body : Body) → bytes_between body (count_of s f) (count_of s (with_ack s f)) ≡ x ∷ xs → s.body ≡ body → (bytes : List ℕ) × (s.body ≡ Sent bytes)
    by (Wanted n) is same = absurd (cc)
    by (Sent bytes) is same = (bytes, same)
