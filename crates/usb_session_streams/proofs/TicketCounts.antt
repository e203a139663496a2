-- Tickets come one after another: those that came with one thing, and those that came with another.
use Rattle.std.proofs.Common.{◌∙◌, ◌≡◌, ℕ, ◌≤◌, ◌-◌, arith, List, [], ◌∷◌, ◌++◌, length, length-append, append_assoc, append-nil, ap, sym}
use Rattle.usb_kernel.specs.declared.event.Event.{Event}
use Rattle.usb_kernel.specs.declared.event.Event.TheVariants.{Submit, Refuse, Packet, Ack, Echo, Fail, Discard, Reap, Unplug}
use Rattle.usb_kernel.specs.Tickets.{Ticket, tickets}
use Rattle.usb_kernel.specs.Extends.{Extends}
use Rattle.usb_kernel.proofs.Extends.{kept-along}
use Rattle.usb_session_streams.specs.Numbers.{numbers_from}
use Rattle.usb_session_streams.proofs.TicketMoves.{numbers-between}

longer : (ts : List Ticket) (t : Ticket) → length ts ≤ length (ts ++ t ∷ [])
longer ts t = let e = length-append ts (t ∷ []) in omega (arith, e)

more-event : (event : Event) (past : List Event) → length (tickets past) ≤ length (tickets (event ∷ past))
more-event (Submit t d e m body room deadline) past = longer (tickets past) _
more-event (Refuse t d e m body room errno) past = longer (tickets past) _
more-event (Packet d e b) past = omega arith
more-event (Ack d e) past = omega arith
more-event (Echo d o i) past = omega arith
more-event (Fail d e errno) past = omega arith
more-event (Discard t) past = omega arith
more-event (Reap t) past = omega arith
more-event (Unplug d) past = omega arith

-- there are never fewer
pub more-tickets : (old new : List Event) → Extends old new → length (tickets old) ≤ length (tickets new)
more-tickets old new extends =
    kept-along (λ past. length (tickets old) ≤ length (tickets past)) (λ past event so_far. let one = more-event event past in omega (arith, so_far, one)) old new extends (omega arith)

-- none came
pub none-came : (a : ℕ) (ts : List ℕ) → ts ≡ ts ++ numbers_from a (a - a)
none-came a ts =
    let none : a - a ≡ 0 = omega arith in
    sym (ap (λ (n : ℕ). ts ++ numbers_from a n) none ∙ append-nil ts)

-- one thing took t of p, and left q; and the next took u of q, and left r
pub came-on : (a b c : ℕ) (p q r t u : List ℕ) → a ≤ b → b ≤ c → t ++ q ≡ p ++ numbers_from a (b - a) → u ++ r ≡ q ++ numbers_from b (c - b)
    → (t ++ u) ++ r ≡ p ++ numbers_from a (c - a)
came-on a b c p q r t u first second one two =
    let here = numbers_from a (b - a) in
    let there = numbers_from b (c - b) in
    append_assoc t u r
    ∙ ap (λ (l : List ℕ). t ++ l) two
    ∙ sym (append_assoc t q there)
    ∙ ap (λ (l : List ℕ). l ++ there) one
    ∙ append_assoc p here there
    ∙ ap (λ (l : List ℕ). p ++ l) (numbers-between a b c first second)
