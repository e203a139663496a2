-- What can become of one ticket.
use Rattle.std.specs.Prelude.{ℕ, ◌+◌, ◌*◌, Bool, true, false, List, [], ◌∷◌, ◌++◌, length, min, Option, Some, None, is_none, is_some, ◌==◌, nat_lt, nat_le, not, ◌&&◌, ◌||◌, if◌then◌else◌}
use Rattle.std.specs.List.{concat}
use Rattle.usb_kernel.specs.declared.event.Body.{Body}
use Rattle.usb_kernel.specs.declared.event.Body.TheVariants.{Wanted, Sent}
use Rattle.usb_kernel.specs.Tickets.{Ticket}

-- what became of a ticket so far: the packets that came to it (not one that was longer than the
-- maximum packet size), how many acknowledgements came, its errno once it is finished (0 where all
-- went well), and whether it is reaped
pub record Fate : Type 0 where
  pub packets : List (List ℕ)
  pub acks : ℕ
  pub status : Option ℕ
  pub reaped : Bool

-- before any event of the ticket
abbrev pub fresh : Fate
fresh = record { packets = []; acks = 0; status = None; reaped = false }

-- a refused ticket counts as finished and reaped at once, with no bytes
abbrev pub refused_fate : ℕ → Fate
refused_fate errno = record { packets = []; acks = 0; status = Some errno; reaped = true }

-- a ticket waits for its reap: it is finished and not reaped
abbrev pub waits : Fate → Bool
waits f = is_some f.status && not f.reaped

-- the bytes of the accepted packets, joined
abbrev pub received : Fate → List ℕ
received f = concat f.packets

-- how many bytes were received, or acknowledged: each acknowledgement takes up to the maximum of the bytes that are left
abbrev pub count_for : Body → ℕ → List ℕ → ℕ → ℕ
count_for (Wanted n) m got acks = length got
count_for (Sent bytes) m got acks = min (length bytes) (m * acks)

-- the same of a ticket (s), by its fate
abbrev pub count_of : Ticket → Fate → ℕ
count_of s f = count_for s.body s.maximum (received f) f.acks

-- how many bytes finish a ticket
abbrev pub wanted_of : Body → ℕ
wanted_of (Wanted n) = n
wanted_of (Sent bytes) = length bytes

-- a ticket is finished once: a later errno changes nothing
abbrev pub finish : ℕ → Fate → Fate
finish errno f = if is_none f.status then record f { status = Some errno } else f

-- a packet that belongs to the ticket, and is no longer than the maximum, is appended. It finishes the ticket where it is shorter than the maximum, or reaches the wanted length
abbrev pub accept : Ticket → List ℕ → Fate → Fate
accept s b f =
    let g : Fate = record f { packets = f.packets ++ b ∷ [] } in
    if nat_lt (length b) s.maximum || nat_le (wanted_of s.body) (length (received g)) then finish 0 g else g

-- a packet that is longer than the maximum finishes the ticket with 75 (EOVERFLOW), and none of its bytes are kept
abbrev pub with_packet : Ticket → List ℕ → Fate → Fate
with_packet s b f = if nat_lt s.maximum (length b) then finish 75 f else accept s b f

-- an acknowledgement that belongs to the ticket finishes it where all bytes are acknowledged then
abbrev pub with_ack : Ticket → Fate → Fate
with_ack s f =
    let g : Fate = record f { acks = f.acks + 1 } in
    if nat_le (wanted_of s.body) (count_of s g) then finish 0 g else g

-- a reap counts where the ticket is finished
abbrev pub reap : Ticket → Fate → Fate
reap s f = if is_some f.status then record f { reaped = true } else f

-- an unplug finishes the tickets of its device with 108 (ESHUTDOWN)
abbrev pub unplug : ℕ → Ticket → Fate → Fate
unplug d s f = if s.device == d then finish 108 f else f
