use Rattle.std.proofs.Common.{◌≢◌, ◌<◌, ◌≤◌, ◌+◌, ◌-◌, ap, set, ◌≡◌, ℕ, List, ◌∷◌, length, take, drop, min, Option, Some, None, refl, sym, ◌∙◌, slice_get, arith}
use Rattle.std.proofs.lemmas.List.{set-set, set_comm}
use Rattle.std.specs.Prelude.{IsSome}
use Rattle.std.specs.Option.{ForSome}
use Rattle.std.proofs.lemmas.Bool.{false≢true}
use Rattle.std.proofs.lemmas.Option.{same_Some, none-some}
use Rattle.usb_xfer.specs.BufferState.{BufferState}
use Rattle.usb_kernel.specs.declared.event.Event.{Event}
use Rattle.usb_kernel.specs.declared.event.Event.TheVariants.{Packet, Ack, Echo}
use Rattle.usb_kernel.specs.declared.slot.TicketRow.{TicketRow}
use Rattle.usb_kernel.specs.Tickets.{Ticket, tickets}
use Rattle.usb_kernel.specs.Fates.{Fate}
use Rattle.usb_kernel.specs.Journal.{fate, oldest, taken_of, echo_comes, packet_comes, ack_comes}
use Rattle.usb_kernel.specs.Rows.{Agrees, row_with_ack}
use Rattle.usb_kernel.specs.Passing.{IsOpenOut, row_taken}
use Rattle.usb_kernel.proofs.TableLemmas.{rows_from-same}

echo-both : (x y : Option ℕ) (d o i t j u : ℕ) (ts : List Ticket) (f : ℕ → Fate) → x ≡ Some t → y ≡ Some j → echo_comes x y d o i ts f u ≡ packet_comes d i (taken_of (slice_get ts t) (f t)) ts (ack_comes d o ts f) u
echo-both x y d o i t j u ts f sends takes = rw (sends, takes) refl

-- an echo is an acknowledgement and then a packet
pub fate-echo : (past : List Event) (d o i t j u : ℕ) → oldest past d o ≡ Some t → oldest past d i ≡ Some j → fate (Echo d o i ∷ past) u ≡ fate (Packet d i (taken_of (slice_get (tickets past) t) (fate past t)) ∷ (Ack d o ∷ past)) u
fate-echo past d o i t j u sends takes = echo-both (oldest past d o) (oldest past d i) d o i t j u (tickets past) (fate past) sends takes

pub Agrees-echo : (past : List Event) (rows : List TicketRow) (d o i t j : ℕ) → oldest past d o ≡ Some t → oldest past d i ≡ Some j → Agrees (Packet d i (taken_of (slice_get (tickets past) t) (fate past t)) ∷ (Ack d o ∷ past)) rows → Agrees (Echo d o i ∷ past) rows
Agrees-echo past rows d o i t j sends takes agrees =
    record {
      table = agrees.table ∙ rows_from-same (tickets past) 0 (fate (Packet d i (taken_of (slice_get (tickets past) t) (fate past t)) ∷ (Ack d o ∷ past))) (fate (Echo d o i ∷ past)) (λ u a b. sym (fate-echo past d o i t j u sends takes));
      bodies = agrees.bodies;
      roomy = agrees.roomy;
    }

-- three writes at two places are two
pub set_around : {X : Type 0} (xs : List X) (i j : ℕ) (a b c : X) → i ≢ j → set (set (set xs i a) j b) i c ≡ set (set xs i c) j b
set_around xs i j a b c apart = sym (set_comm (set xs i a) i j c b apart) ∙ ap (λ ys. set ys j b) (set-set xs i a c)

-- an OUT row and an IN row stand at two places
pub rows-apart : (rows : List TicketRow) (from to : ℕ) (r s : TicketRow) → slice_get rows from ≡ Some r → slice_get rows to ≡ Some s → r.endpoint < 128 → 128 ≤ s.endpoint → from ≢ to
rows-apart rows from to r s at there out into same =
    let one : r ≡ s = same_Some r s (sym at ∙ (ap (slice_get rows) same ∙ there)) in
    let ends : r.endpoint ≡ s.endpoint = ap (λ (x : TicketRow). x.endpoint) one in
    absurd (omega (arith, ends, out, into))

-- the bytes between a row's count and that of the acknowledged row are those that the acknowledgement takes
taken-made : (r : TicketRow) (o : Option BufferState) (sent : BufferState) → (row_with_ack (record r { buffer = o })).buffer ≡ Some sent → take ((row_with_ack (record r { buffer = o })).count - r.count) (drop r.count sent.bytes) ≡ row_taken (record r { buffer = o })
taken-made r None sent some = absurd (none-some sent some)
taken-made r (Some b) sent some =
    let same : sent ≡ b = sym (same_Some b sent some) in
    ap (λ (x : BufferState). take (min (length b.bytes) (r.count + r.maximum) - r.count) (drop r.count x.bytes)) same

pub taken-between : (r acked : TicketRow) (sent : BufferState) → acked ≡ row_with_ack r → acked.buffer ≡ Some sent → take (acked.count - r.count) (drop r.count sent.bytes) ≡ row_taken r
taken-between r acked sent is some =
    let here : (row_with_ack r).buffer ≡ Some sent = sym (ap (λ (x : TicketRow). x.buffer) is) ∙ some in
    rw is (taken-made r r.buffer sent here)

-- an acknowledged row has its buffer, and its count goes on within this
acked_buffer : (r : TicketRow) (o : Option BufferState) → (row_with_ack (record r { buffer = o })).buffer ≡ o
acked_buffer r None = refl
acked_buffer r (Some b) = refl

pub acked-has : (r acked : TicketRow) → IsOpenOut r → acked ≡ row_with_ack r → acked.buffer ≡ None → ⊥
acked-has r acked sends is none =
    let gone : r.buffer ≡ None = sym (acked_buffer r r.buffer) ∙ (sym (ap (λ (x : TicketRow). x.buffer) is) ∙ none) in
    let has : IsSome r.buffer = (sends.1.1 sends.1.0).0 in
    false≢true (rw gone at has)

counted-made : (r : TicketRow) (o : Option BufferState) (sent : BufferState) → ForSome o (λ b. r.count ≤ length b.bytes) → o ≡ Some sent → (r.count ≤ (row_with_ack (record r { buffer = o })).count) × ((row_with_ack (record r { buffer = o })).count ≤ length sent.bytes)
counted-made r None sent few some = absurd (none-some sent some)
counted-made r (Some b) sent few some =
    let same : sent ≡ b = sym (same_Some b sent some) in
    let here : r.count ≤ length b.bytes = few b refl in
    rw same (omega arith, omega arith)

pub acked-counts : (r acked : TicketRow) (sent : BufferState) → IsOpenOut r → acked ≡ row_with_ack r → acked.buffer ≡ Some sent → (r.count ≤ acked.count) × (acked.count ≤ length sent.bytes)
acked-counts r acked sent sends is some =
    let has : r.buffer ≡ Some sent = sym (acked_buffer r r.buffer) ∙ (sym (ap (λ (x : TicketRow). x.buffer) is) ∙ some) in
    rw is (counted-made r r.buffer sent ((sends.1.1 sends.1.0).2 sends.0) has)
