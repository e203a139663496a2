-- The counts.
use Rattle.std.proofs.Common.{◌≡◌, ℕ, ◌+◌, ◌-◌, ◌<◌, ◌≤◌, suc, zero, arith, List, [], ◌∷◌, length, take, get_or, true, false, refl, sym, ◌∙◌, cond, Bool}
use Rattle.std.specs.Prelude.{IsSome}
use Rattle.std.specs.List.{count_by}
use Rattle.std.proofs.lemmas.List.Sums.{count_by_more_yes, count_by_more_no, sum_by-cons}
use Rattle.usb_device_ledger.specs.declared.ends.TicketEnd.{TicketEnd}
use Rattle.usb_device_ledger.specs.declared.ends.TicketEnd.TheVariants.{Taken, Dropped, Reclaimed}
use Rattle.usb_device_ledger.specs.Entries.{HostTicket, HeldBy, Abandoned, Ended}
use Rattle.usb_device_host.specs.HostState.{HostState}
use Rattle.usb_device_ledger.specs.EndedTickets.{ended_at}
use Rattle.usb_device_host.specs.Finishes.{HasEnds}
use Rattle.usb_session.specs.Sums.{has_end, ticket_has, counts_of, OneEndEach}

-- the ticket of a number, as it is read
read-as : (ts : List HostTicket) (t : ℕ) (end : TicketEnd) (b : Bool) → t < length ts → ticket_has ts t end ≡ b → (x : HostTicket) × (has_end end (get_or ts t x) ≡ b)
read-as [] t end b below is = absurd (omega arith)
read-as (x ∷ xs) zero end b below is = (x, is)
read-as (x ∷ xs) (suc t) end b below is = read-as xs t end b (omega arith) is

-- one ticket more is counted
pub count-yes : (ts : List HostTicket) (t : ℕ) (end : TicketEnd) (b : Bool) → t < length ts → b ≡ ticket_has ts t end → b ≡ true → count_by (has_end end) (take (t + 1) ts) ≡ count_by (has_end end) (take t ts) + 1
count-yes ts t end b below is has =
    let r = read-as ts t end true below (sym is ∙ has) in count_by_more_yes (has_end end) ts t r.0 below r.1

pub count-no : (ts : List HostTicket) (t : ℕ) (end : TicketEnd) (b : Bool) → t < length ts → b ≡ ticket_has ts t end → b ≡ false → count_by (has_end end) (take (t + 1) ts) ≡ count_by (has_end end) (take t ts)
count-no ts t end b below is lacks =
    let r = read-as ts t end false below (sym is ∙ lacks) in count_by_more_no (has_end end) ts t r.0 below r.1

-- exactly one of three tests holds of a ticket that has its end
one_of : (x : HostTicket) → IsSome (ended_at x) → cond (has_end Taken x) 1 0 + cond (has_end Dropped x) 1 0 + cond (has_end Reclaimed x) 1 0 ≡ 1
one_of (HeldBy hold) some = absurd (cc)
one_of (Abandoned key) some = absurd (cc)
one_of (Ended Taken) some = refl
one_of (Ended Dropped) some = refl
one_of (Ended Reclaimed) some = refl

parts : (ts : List HostTicket) → HasEnds ts → count_by (has_end Taken) ts + count_by (has_end Dropped) ts + count_by (has_end Reclaimed) ts ≡ length ts
parts [] ends = refl
parts (x ∷ ts) ends =
    let others = parts ts (λ t below. ends (suc t) (omega arith)) in
    let first = one_of x (ends 0 (omega arith)) in
    omega (arith, first, sum_by-cons (λ y. cond (has_end Taken y) 1 0) x ts, sum_by-cons (λ y. cond (has_end Dropped y) 1 0) x ts, sum_by-cons (λ y. cond (has_end Reclaimed y) 1 0) x ts)

pub one_end_each : OneEndEach
unfolding counts_of
one_end_each calls h ends = parts h.tickets ends

-- the counts of taken and dropped tickets go into that of all
pub counted-few : (ts : List HostTicket) (n taken dropped : ℕ) → HasEnds ts → n ≡ length ts → taken ≡ count_by (has_end Taken) ts → dropped ≡ count_by (has_end Dropped) ts → taken + dropped ≤ n
counted-few ts n taken dropped ends all a b = let whole = parts ts ends in omega arith

-- and leave that of the reclaimed
pub counts-are : (calls : ℕ) (h : HostState) (n taken dropped left : ℕ) → HasEnds h.tickets → n ≡ length h.tickets → taken ≡ count_by (has_end Taken) h.tickets → dropped ≡ count_by (has_end Dropped) h.tickets → left ≡ n - taken - dropped → record { calls = calls; tickets = n; taken = taken; dropped = dropped; reclaimed = left } ≡ counts_of calls h
unfolding counts_of
counts-are calls h n taken dropped left ends all a b rest =
    let whole = parts h.tickets ends in
    let others : left ≡ count_by (has_end Reclaimed) h.tickets = omega arith in
    rw (others, all, a, b) refl
