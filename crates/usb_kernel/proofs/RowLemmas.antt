use Rattle.std.proofs.Common.{◌≡◌, ℕ, ◌+◌, ◌*◌, ◌<◌, ◌≤◌, suc, zero, arith, List, [], ◌∷◌, ◌++◌, length, None, false, length-append, min}
use Rattle.std.specs.List.{concat}
use Rattle.std.proofs.lemmas.List.Folds.{concat-append}
use Rattle.std.proofs.lemmas.Grind.{common_steps}
use Rattle.usb_kernel.specs.declared.event.Body.TheVariants.{Wanted, Sent}
use Rattle.usb_kernel.specs.Tickets.{Ticket}
use Rattle.usb_kernel.specs.Fates.{Fate, with_packet, with_ack, accept}
use Rattle.usb_kernel.specs.Rows.{row_of, row_with_packet, row_with_ack, row_with_bytes}

-- a whole packet leaves whole packets
pub room_left : (count more maximum wanted n : ℕ) → count + (more + 1) * maximum ≡ wanted → n ≤ maximum → maximum ≤ n → count + n < wanted → (m : ℕ) × (count + n + (m + 1) * maximum ≡ wanted)
room_left count zero maximum wanted n e below above l = absurd (omega arith)
room_left count (suc m) maximum wanted n e below above l = (m, omega arith)

-- a packet fits
pub packet_fits : (count more maximum wanted n : ℕ) → count + (more + 1) * maximum ≡ wanted → n ≤ maximum → count + n ≤ wanted
packet_fits count more maximum wanted n e l = omega (arith)

-- the fate of an open ticket
abbrev open_fate : List (List ℕ) → ℕ → Fate
open_fate ps acks = record { packets = ps; acks = acks; status = None; reaped = false }

abbrev wanting : Ticket → ℕ → Ticket
wanting s n = record s { body = Wanted n }

-- an accepted packet: the buffer grows by its bytes
row-accept : (s : Ticket) (ps : List (List ℕ)) (acks n : ℕ) (b : List ℕ) → row_with_bytes (row_of (wanting s n) (open_fate ps acks)) b (record { bytes = concat ps; requested = n; room = s.capacity }) ≡ row_of (wanting s n) (accept (wanting s n) b (open_fate ps acks))
row-accept s ps acks n b =
    let joined : concat (ps ++ b ∷ []) ≡ concat ps ++ b = grind (arith, common_steps, concat-append) in
    let sized : length (concat ps ++ b) ≡ length (concat ps) + length b = length-append (concat ps) b in
    grind (arith, common_steps)

-- appending a packet's bytes to the row is appending the packet to the fate
pub row-with_packet : (s : Ticket) (f : Fate) (n : ℕ) (b : List ℕ) → s.body ≡ Wanted n → f.status ≡ None → f.reaped ≡ false → row_with_packet (row_of s f) b ≡ row_of s (with_packet s b f)
row-with_packet s f n b is_in unfinished kept = grind (arith, common_steps, row-accept)

-- counting an acknowledgement's bytes in the row is an acknowledgement of the fate
pub row-with_ack : (s : Ticket) (f : Fate) (bytes : List ℕ) → s.body ≡ Sent bytes → f.status ≡ None → f.reaped ≡ false → row_with_ack (row_of s f) ≡ row_of s (with_ack s f)
row-with_ack s f bytes is_out unfinished kept =
    let counted : min (length bytes) (min (length bytes) (s.maximum * f.acks) + s.maximum) ≡ min (length bytes) (s.maximum * (f.acks + 1)) = omega arith in
    grind (arith, common_steps)
