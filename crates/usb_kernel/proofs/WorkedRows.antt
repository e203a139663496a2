-- The definitions at small journals, computed.
use Rattle.std.specs.Prelude.{◌≡◌, refl, ℕ, true, false, List, [], ◌∷◌, ◌++◌, length, Some, None}
use Rattle.usb_kernel.specs.declared.event.Event.{Event}
use Rattle.usb_kernel.specs.declared.event.Event.TheVariants.{Submit, Refuse, Echo, Discard, Unplug}
use Rattle.usb_kernel.specs.declared.event.Body.TheVariants.{Wanted, Sent}
use Rattle.usb_kernel.specs.declared.submission.Done.{Done}
use Rattle.usb_kernel.specs.Fates.{fresh}
use Rattle.usb_kernel.specs.Journal.{open_tickets, fate}
use Rattle.usb_kernel.specs.Completions.{reapable, completion, lowest}
use Rattle.usb_kernel.specs.Steps.{after_packet, after_ack, after_fail, after_reap, after_discard}
use Rattle.usb_kernel.specs.Info.{unreaped}

-- a transfer of 8 bytes on endpoint 81 of device 0, in packets of at most 4
abbrev submit : ℕ → List Event → List Event
submit ticket past = Submit ticket 0 129 4 (Wanted 8) 8 None ∷ past

abbrev packet : List ℕ → List Event → List Event
packet bytes past = after_packet past 0 129 bytes

abbrev done_with : ℕ → ℕ → List ℕ → Done
done_with ticket status bytes =
    record { ticket = ticket; status = status; refused = false; count = length bytes; buffer = record { bytes = bytes; requested = 8; room = 8 } }

-- a packet of three bytes ends it well, and the reap gives them
pub one_packet : reapable (packet (1 ∷ 2 ∷ 3 ∷ []) (submit 0 [])) 0 ≡ Some (done_with 0 0 (1 ∷ 2 ∷ 3 ∷ []))
one_packet = refl

pub one_completion : completion (after_reap (packet (1 ∷ 2 ∷ 3 ∷ []) (submit 0 [])) 0) 0 ≡ Some (done_with 0 0 (1 ∷ 2 ∷ 3 ∷ []))
unfolding completion
one_completion = refl

-- a full packet does not, and a second one reaches the wanted length
pub full_packet : reapable (packet (1 ∷ 2 ∷ 3 ∷ 4 ∷ []) (submit 0 [])) 0 ≡ None
full_packet = refl

pub wanted_length : reapable (packet (5 ∷ 6 ∷ 7 ∷ 8 ∷ []) (packet (1 ∷ 2 ∷ 3 ∷ 4 ∷ []) (submit 0 []))) 0 ≡ Some (done_with 0 0 (1 ∷ 2 ∷ 3 ∷ 4 ∷ 5 ∷ 6 ∷ 7 ∷ 8 ∷ []))
wanted_length = refl

-- of a packet that is longer than the maximum nothing is kept
pub long_packet : reapable (packet (1 ∷ 2 ∷ 3 ∷ 4 ∷ 5 ∷ []) (submit 0 [])) 0 ≡ Some (done_with 0 75 [])
long_packet = refl

-- two tickets: the oldest takes each packet, the second is reaped first, and the first is the lowest that waits
abbrev two : List Event
two = after_reap (packet (2 ∷ 3 ∷ []) (packet (1 ∷ []) (submit 1 (submit 0 [])))) 1

pub both_complete : (reapable two 0 ≡ Some (done_with 0 0 (1 ∷ []))) × (completion two 1 ≡ Some (done_with 1 0 (2 ∷ 3 ∷ [])))
unfolding completion
both_complete = (refl, refl)

pub first_waits : (lowest two ≡ Some 0) × (unreaped two ≡ 1)
unfolding unreaped
first_waits = (refl, refl)

-- a discard keeps the bytes so far, and a reaped ticket is reaped no more
pub discarded : reapable (after_discard (packet (1 ∷ 2 ∷ 3 ∷ 4 ∷ []) (submit 0 [])) 0) 0 ≡ Some (done_with 0 2 (1 ∷ 2 ∷ 3 ∷ 4 ∷ []))
discarded = refl

pub reaped_once : reapable two 1 ≡ None
reaped_once = refl

-- a refused ticket is not open, and counts as reaped
pub refused : (open_tickets (Refuse 0 0 129 4 (Wanted 8) 8 22 ∷ []) 0 129 ≡ []) × (unreaped (Refuse 0 0 129 4 (Wanted 8) 8 22 ∷ []) ≡ 0)
unfolding unreaped
refused = (refl, refl)

-- a transfer of these bytes on endpoint 2 of device 0, in packets of at most 4
abbrev send : ℕ → List ℕ → List Event → List Event
send ticket bytes past = Submit ticket 0 2 4 (Sent bytes) (length bytes) None ∷ past

abbrev ack : List Event → List Event
ack past = after_ack past 0 2

-- an OUT buffer keeps its bytes, whatever the count
abbrev sent_with : ℕ → ℕ → ℕ → List ℕ → Done
sent_with ticket status count bytes =
    record { ticket = ticket; status = status; refused = false; count = count; buffer = record { bytes = bytes; requested = length bytes; room = length bytes } }

abbrev six : List ℕ
six = 1 ∷ 2 ∷ 3 ∷ 4 ∷ 5 ∷ 6 ∷ []

-- six bytes take two acknowledgements
pub one_ack : reapable (ack (send 0 six [])) 0 ≡ None
one_ack = refl

pub two_acks : reapable (ack (ack (send 0 six []))) 0 ≡ Some (sent_with 0 0 6 six)
two_acks = refl

-- so do eight: no empty packet follows
pub exact_multiple : reapable (ack (ack (send 0 (six ++ 7 ∷ 8 ∷ []) []))) 0 ≡ Some (sent_with 0 0 8 (six ++ 7 ∷ 8 ∷ []))
exact_multiple = refl

-- an empty transfer takes one
pub empty_transfer : (reapable (send 0 [] []) 0 ≡ None) × (reapable (ack (send 0 [] [])) 0 ≡ Some (sent_with 0 0 0 []))
empty_transfer = (refl, refl)

-- a failure counts what was acknowledged before it
pub failed_after_ack : reapable (after_fail (ack (send 0 six [])) 0 2 32) 0 ≡ Some (sent_with 0 32 4 six)
failed_after_ack = refl

-- the oldest transfer is acknowledged first, and what nobody waits for leaves no event
pub acks_in_order :
    (reapable (ack (send 1 (9 ∷ []) (send 0 (8 ∷ []) []))) 1 ≡ None)
    × (reapable (ack (ack (send 1 (9 ∷ []) (send 0 (8 ∷ []) [])))) 1 ≡ Some (sent_with 1 0 1 (9 ∷ [])))
    × (ack (ack (send 0 (8 ∷ []) [])) ≡ ack (send 0 (8 ∷ []) []))
acks_in_order = (refl, refl, refl)

-- an echo gives the packet that it acknowledges to an IN endpoint: four bytes, and then the two that are left
abbrev echo : List Event → List Event
echo past = Echo 0 2 129 ∷ past

abbrev both : List Event
both = send 1 six (submit 0 [])

pub echoed_once : (reapable (echo both) 0 ≡ None) × (reapable (echo both) 1 ≡ None)
echoed_once = (refl, refl)

pub echoed_twice :
    (reapable (echo (echo both)) 0 ≡ Some (done_with 0 0 six)) × (reapable (echo (echo both)) 1 ≡ Some (sent_with 1 0 6 six))
echoed_twice = (refl, refl)

-- one that is longer than the IN endpoint's maximum overruns there, and is acknowledged all the same
pub echo_overruns :
    (reapable (echo (send 1 (1 ∷ 2 ∷ 3 ∷ []) (Submit 0 0 129 2 (Wanted 8) 8 None ∷ []))) 0 ≡ Some (done_with 0 75 []))
    × (reapable (echo (send 1 (1 ∷ 2 ∷ 3 ∷ []) (Submit 0 0 129 2 (Wanted 8) 8 None ∷ []))) 1 ≡ Some (sent_with 1 0 3 (1 ∷ 2 ∷ 3 ∷ [])))
echo_overruns = (refl, refl)

-- without an IN transfer nothing is acknowledged
pub echo_of_one : fate (echo (send 0 six [])) 0 ≡ fresh
echo_of_one = refl

-- an unplug keeps the bytes so far, and a discard afterwards changes nothing
abbrev unplugged : List Event
unplugged = Unplug 0 ∷ packet (1 ∷ 2 ∷ 3 ∷ 4 ∷ []) (submit 0 [])

pub unplug_first :
    (after_discard unplugged 0 ≡ unplugged) × (reapable unplugged 0 ≡ Some (done_with 0 108 (1 ∷ 2 ∷ 3 ∷ 4 ∷ [])))
    × (reapable (Discard 0 ∷ unplugged) 0 ≡ Some (done_with 0 108 (1 ∷ 2 ∷ 3 ∷ 4 ∷ [])))
unplug_first = (refl, refl, refl)

-- another device keeps its transfers
pub other_unplugged : reapable (Unplug 1 ∷ submit 0 []) 0 ≡ None
other_unplugged = refl

-- a refused OUT transfer has no count, and its bytes
pub refused_sent :
    completion (Refuse 0 0 2 4 (Sent six) 6 22 ∷ []) 0
    ≡ Some (record { ticket = 0; status = 22; refused = true; count = 0; buffer = record { bytes = six; requested = 6; room = 6 } })
unfolding completion
refused_sent = refl

-- with maximum 0 an empty packet ends an IN transfer well, and a byte is too much
abbrev none_wanted : List Event
none_wanted = Submit 0 0 128 0 (Wanted 0) 0 None ∷ []

abbrev none_with : ℕ → Done
none_with status =
    record { ticket = 0; status = status; refused = false; count = 0; buffer = record { bytes = []; requested = 0; room = 0 } }

pub maximum_of_none :
    (reapable (after_packet none_wanted 0 128 []) 0 ≡ Some (none_with 0))
    × (reapable (after_packet none_wanted 0 128 (7 ∷ [])) 0 ≡ Some (none_with 75))
maximum_of_none = (refl, refl)
