-- What a journal makes of its tickets, event by event: which of them an event belongs to. What it makes of that one is in Fates.antt.
-- A journal is read from its latest event. In what follows `ts` are the tickets before an event and
-- `fates` their fates, and u is the ticket whose fate is asked for.
use Rattle.std.specs.Prelude.{ℕ, ◌-◌, take, drop, Bool, List, [], ◌∷◌, length, Option, Some, None, is_none, slice_get, map, filter, ◌==◌, ◌&&◌, if◌then◌else◌}
use Rattle.std.specs.List.{enumerate_from}
use Rattle.usb_kernel.specs.declared.event.Event.{Event}
use Rattle.usb_kernel.specs.declared.event.Event.TheVariants.{Submit, Refuse, Packet, Ack, Echo, Fail, Discard, Reap, Unplug}
use Rattle.usb_kernel.specs.declared.event.Body.{Body}
use Rattle.usb_kernel.specs.declared.event.Body.TheVariants.{Wanted, Sent}
use Rattle.usb_kernel.specs.Tickets.{Ticket, tickets}
use Rattle.usb_kernel.specs.Fates.{Fate, fresh, refused_fate, count_of, finish, with_packet, with_ack, reap, unplug}

-- whether a ticket, in a pair behind its number, is one of an endpoint of a device and is not
-- finished (open)
abbrev pub is_open : (ℕ → Fate) → ℕ → ℕ → (ℕ × Ticket) → Bool
is_open fates d e p = p.1.device == d && (p.1.endpoint == e && is_none (fates p.0).status)

-- the numbers of those that are, ascending
abbrev pub open_among : List Ticket → (ℕ → Fate) → ℕ → ℕ → List ℕ
open_among ts fates d e = map (λ p. p.0) (filter (is_open fates d e) (enumerate_from 0 ts))

-- the least of them
abbrev pub oldest_among : List Ticket → (ℕ → Fate) → ℕ → ℕ → Option ℕ
oldest_among ts fates d e = slice_get (open_among ts fates d e) 0

-- a change of one ticket's fate, if there is such a ticket
abbrev pub change : (Ticket → Fate → Fate) → Option Ticket → Fate → Fate
change act None f = f
change act (Some s) f = act s f

-- a change of the fate of ticket t, and of no other
abbrev pub at_ticket : ℕ → (Ticket → Fate → Fate) → List Ticket → (ℕ → Fate) → ℕ → Fate
at_ticket t act ts fates u = if t == u then change act (slice_get ts u) (fates u) else fates u

-- the same of a ticket that may not be there
abbrev pub at_oldest : Option ℕ → (Ticket → Fate → Fate) → List Ticket → (ℕ → Fate) → ℕ → Fate
at_oldest None act ts fates u = fates u
at_oldest (Some t) act ts fates u = at_ticket t act ts fates u

-- a packet, or an acknowledgement, on an endpoint belongs to its oldest unfinished ticket, or to
-- nobody
abbrev pub packet_comes : ℕ → ℕ → List ℕ → List Ticket → (ℕ → Fate) → ℕ → Fate
packet_comes d e b ts fates u = at_oldest (oldest_among ts fates d e) (λ s. with_packet s b) ts fates u

abbrev pub ack_comes : ℕ → ℕ → List Ticket → (ℕ → Fate) → ℕ → Fate
ack_comes d e ts fates u = at_oldest (oldest_among ts fates d e) with_ack ts fates u

-- the packet that an acknowledgement takes: the bytes by which the count rises
abbrev pub bytes_between : Body → ℕ → ℕ → List ℕ
bytes_between (Wanted n) before now = []
bytes_between (Sent bytes) before now = take (now - before) (drop before bytes)

-- the bytes that the next acknowledgement of a ticket takes
abbrev pub taken_of : Option Ticket → Fate → List ℕ
taken_of None f = []
taken_of (Some s) f = bytes_between s.body (count_of s f) (count_of s (with_ack s f))

-- an echo, with which device d sends on what it got, is an acknowledgement on its OUT endpoint o
-- and a packet of the bytes that this takes on its IN endpoint i, where both have an unfinished
-- ticket
abbrev pub echo_comes : Option ℕ → Option ℕ → ℕ → ℕ → ℕ → List Ticket → (ℕ → Fate) → ℕ → Fate
echo_comes None j d o i ts fates u = fates u
echo_comes (Some t) None d o i ts fates u = fates u
echo_comes (Some t) (Some j) d o i ts fates u = packet_comes d i (taken_of (slice_get ts t) (fates t)) ts (ack_comes d o ts fates) u

-- the fates after one more event; a ticket that it submits has the number of tickets that were there before. A refused ticket is finished and reaped at once
abbrev pub after : Event → List Ticket → (ℕ → Fate) → ℕ → Fate
after (Submit t d e m body room deadline) ts fates u = fates u
after (Refuse t d e m body room errno) ts fates u =
    if length ts == u then refused_fate errno else fates u
after (Packet d e b) ts fates u = packet_comes d e b ts fates u
after (Ack d e) ts fates u = ack_comes d e ts fates u
after (Echo d o i) ts fates u = echo_comes (oldest_among ts fates d o) (oldest_among ts fates d i) d o i ts fates u
after (Fail d e errno) ts fates u = at_oldest (oldest_among ts fates d e) (λ s. finish errno) ts fates u
after (Discard t) ts fates u = at_ticket t (λ s. finish 2) ts fates u
after (Reap t) ts fates u = at_ticket t reap ts fates u
after (Unplug d) ts fates u = change (unplug d) (slice_get ts u) (fates u)

-- the fate of a ticket
abbrev pub fate : List Event → ℕ → Fate
fate [] u = fresh
fate (event ∷ before) u = after event (tickets before) (fate before) u

-- the unfinished tickets of an endpoint, ascending
abbrev pub open_tickets : List Event → ℕ → ℕ → List ℕ
open_tickets past d e = open_among (tickets past) (fate past) d e

-- the first of them
abbrev pub oldest : List Event → ℕ → ℕ → Option ℕ
oldest past d e = slice_get (open_tickets past d e) 0
