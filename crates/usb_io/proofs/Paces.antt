-- How far a ticket that sends has come.
use Rattle.std.proofs.Common.{◌∙◌, ◌≡◌, ℕ, ◌+◌, ◌*◌, ◌<◌, ◌≤◌, arith, List, [], ◌∷◌, length, Option, Some, None, Bool, true, refl, ap, sym, slice_get, inl, inr}
use Rattle.std.specs.Prelude.{is_some, min}
use Rattle.std.proofs.lemmas.Option.{none-some}
use Rattle.std.proofs.lemmas.Bool.{cases_lt, eq-eqb, le-leb, lt-leb, false≢true}
use Rattle.usb_kernel.specs.declared.event.Event.{Event}
use Rattle.usb_kernel.specs.declared.event.Event.TheVariants.{Ack}
use Rattle.usb_kernel.specs.declared.event.Body.{Body}
use Rattle.usb_kernel.specs.declared.event.Body.TheVariants.{Wanted, Sent}
use Rattle.usb_kernel.specs.Tickets.{Ticket, tickets}
use Rattle.usb_kernel.specs.Fates.{Fate, with_ack}
use Rattle.usb_kernel.specs.Journal.{fate, at_oldest, oldest, taken_of}
use Rattle.usb_io.specs.Writes.{pieces}
use Rattle.usb_io.proofs.Parts.{piece, parts, HasMore, parts-all}
use Rattle.usb_io.proofs.Sames.{IsSame, with_ack-acks}

-- what a ticket sends, if it does
abbrev pub bytes_of : Body → List ℕ
bytes_of (Wanted n) = []
bytes_of (Sent bytes) = bytes

-- what the acknowledgements of a ticket took
abbrev pub parts_by : Option Ticket → ℕ → List (List ℕ)
parts_by None acks = []
parts_by (Some s) acks = parts s.maximum (bytes_of s.body) acks

abbrev pub parts_at : List Event → ℕ → List (List ℕ)
parts_at past t = parts_by (slice_get (tickets past) t) (fate past t).acks

pub parts-none : (o : Option Ticket) → parts_by o 0 ≡ []
parts-none None = refl
parts-none (Some s) = refl

-- a ticket that is open has more to send, and one that is finished has sent all
pub record IsPaced (m : ℕ) (bytes : List ℕ) (f : Fate) : Type 0 where
  pub open_more : f.status ≡ None → HasMore m bytes f.acks
  pub all : is_some f.status ≡ true → parts m bytes f.acks ≡ pieces m bytes

pub paced-same : (m : ℕ) (bytes : List ℕ) (f g : Fate) → IsSame f g → IsPaced m bytes f → IsPaced m bytes g
paced-same m bytes f g same h = record {
  open_more = λ none. rw same.acks (h.open_more (sym same.status ∙ none));
  all = λ some. rw same.acks (h.all (rw same.status at some));
}

paced-ack : (d e m room : ℕ) (refused : Bool) (deadline : Option ℕ) (bytes : List ℕ) (ps : List (List ℕ)) (a : ℕ) (r : Bool) → 0 < m → HasMore m bytes a → IsPaced m bytes (with_ack (record { device = d; endpoint = e; maximum = m; body = Sent bytes; capacity = room; refused = refused; deadline = deadline }) (record { packets = ps; acks = a; status = None; reaped = r }))
paced-ack d e m room refused deadline bytes ps a r some more =
    elim (cases_lt (m * (a + 1)) (length bytes)) [
      | inl less ↦
          let below : min (length bytes) (m * (a + 1)) < length bytes = omega arith in
          rw (lt-leb (length bytes) (min (length bytes) (m * (a + 1))) below) (record { open_more = λ none. inr less; all = λ yet. absurd (false≢true yet) })
      | inr over ↦
          let up : length bytes ≤ min (length bytes) (m * (a + 1)) = omega arith in
          rw (le-leb (length bytes) (min (length bytes) (m * (a + 1))) up) (record { open_more = λ none. absurd (none-some 0 (sym none)); all = λ yet. parts-all m bytes a some more over })
    ]

-- the packet of an acknowledgement
taken-piece : (d e m room : ℕ) (refused : Bool) (deadline : Option ℕ) (bytes : List ℕ) (f : Fate) → taken_of (Some (record { device = d; endpoint = e; maximum = m; body = Sent bytes; capacity = room; refused = refused; deadline = deadline })) f ≡ piece m bytes f.acks
taken-piece d e m room refused deadline bytes f = rw (with_ack-acks (record { device = d; endpoint = e; maximum = m; body = Sent bytes; capacity = room; refused = refused; deadline = deadline }) f) refl

pub taken-ticket : (s : Ticket) (m : ℕ) (bytes : List ℕ) (f : Fate) → s.body ≡ Sent bytes → s.maximum ≡ m → taken_of (Some s) f ≡ piece m bytes f.acks
taken-ticket s m bytes f body maximum = fields s.device s.endpoint s.maximum s.capacity s.refused s.deadline s.body body maximum
  where
    fields : (d e q room : ℕ) (refused : Bool) (deadline : Option ℕ) (b : Body) → b ≡ Sent bytes → q ≡ m → taken_of (Some (record { device = d; endpoint = e; maximum = q; body = b; capacity = room; refused = refused; deadline = deadline })) f ≡ piece m bytes f.acks
    fields d e q room refused deadline b eb em = rw (eb, em) (taken-piece d e m room refused deadline bytes f)

pub paced-ticket : (s : Ticket) (m : ℕ) (bytes : List ℕ) (f : Fate) → s.body ≡ Sent bytes → s.maximum ≡ m → 0 < m → f.status ≡ None → HasMore m bytes f.acks → IsPaced m bytes (with_ack s f)
paced-ticket s m bytes f body maximum some none more = fields s.device s.endpoint s.maximum s.capacity s.refused s.deadline s.body f.packets f.acks f.status f.reaped body maximum none more
  where
    fields : (d e q room : ℕ) (refused : Bool) (deadline : Option ℕ) (b : Body) (ps : List (List ℕ)) (a : ℕ) (st : Option ℕ) (r : Bool) → b ≡ Sent bytes → q ≡ m → st ≡ None → HasMore m bytes a → IsPaced m bytes (with_ack (record { device = d; endpoint = e; maximum = q; body = b; capacity = room; refused = refused; deadline = deadline }) (record { packets = ps; acks = a; status = st; reaped = r }))
    fields d e q room refused deadline b ps a st r eb em es more = rw (eb, em, es) (paced-ack d e m room refused deadline bytes ps a r some more)

-- what comes to an endpoint comes to its oldest ticket
pub served-fate : (step : Ticket → Fate → Fate) (past : List Event) (d e x : ℕ) (s : Ticket) → oldest past d e ≡ Some x → slice_get (tickets past) x ≡ Some s → at_oldest (oldest past d e) step (tickets past) (fate past) x ≡ step s (fate past x)
served-fate step past d e x s is at = rw is (rw (eq-eqb x x refl, at) refl)

pub acked-acks : (past : List Event) (d e x : ℕ) (s : Ticket) → oldest past d e ≡ Some x → slice_get (tickets past) x ≡ Some s → (fate (Ack d e ∷ past) x).acks ≡ (fate past x).acks + 1
acked-acks past d e x s is at = ap (λ (f : Fate). f.acks) (served-fate with_ack past d e x s is at) ∙ with_ack-acks s (fate past x)
