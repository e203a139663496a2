-- The calls of a client of messages see no place of the kernel.
use Rattle.std.proofs.Common.{Bool, Err, List, None, Ok, Option, Result, Some, [], ap, false, length, nat_lt, refl, suc, true, zero, ℕ, ◌-◌, ◌∙◌, ◌∷◌, ◌≡◌}
use Rattle.usb_device_host.specs.HostCalls.{host_calls}
use Rattle.usb_device_host.specs.HostState.{HostState}
use Rattle.usb_io.specs.Answered.{Answered}
use Rattle.usb_io.specs.Answers.{read_came}
use Rattle.usb_io.specs.Reads.{Reading}
use Rattle.usb_io.specs.Writers.{Writing}
use Rattle.usb_io.specs.declared.fault.ReadFault.{ReadFault}
use Rattle.usb_io.specs.declared.fault.WriteFault.{WriteFault}
use Rattle.usb_msg.specs.Clients.{ClientState}
use Rattle.usb_msg.specs.Frames.{framed}
use Rattle.usb_msg.specs.Requests.{Messaging, after_write, counted, frame_written, request_of, requested, requested_by, with_writing, writing_of}
use Rattle.usb_msg.specs.Responses.{after_piece, gathered, gathered_from, piece_by, piece_came, piece_of, reading_of, responded, responded_by, response_of, unless_long}
use Rattle.usb_msg.specs.declared.error.Ending.{Ending}
use Rattle.usb_session_beginnings.proofs.Hosts.{bare}
use Rattle.usb_session_beginnings.proofs.Readers.{bare_reading, read-blind}
use Rattle.usb_session_beginnings.proofs.Writers.{bare_writing, submit_end-blind, write-blind}

abbrev pub bare_messaging : Messaging HostState → Messaging HostState
bare_messaging w = record w { bus = bare w.bus }

abbrev pub bare_message : {A F : Type 0} → Answered A F (Messaging HostState) → Answered A F (Messaging HostState)
bare_message a = record a { left = bare_messaging a.left }

-- a request
after_write-blind : (c : ClientState) (r : Result ℕ WriteFault) (w : Writing HostState)
    → after_write host_calls c r (bare_writing w) ≡ bare_message (after_write host_calls c r w)
after_write-blind c (Ok n) w = ap (λ v. counted (with_writing v c)) (submit_end-blind w)
after_write-blind c (Err f) w = refl

requested_by-blind : (body : List ℕ) (why : Option Ending) (w : Messaging HostState)
    → requested_by host_calls body why (bare_messaging w) ≡ bare_message (requested_by host_calls body why w)
requested_by-blind body None w =
    let a = frame_written host_calls body w in
    ap (request_of host_calls w.client) (write-blind w.client.writer.timeout (framed w.client.requests body) (writing_of w))
    ∙ after_write-blind w.client a.answer a.left
requested_by-blind body (Some why) w = refl

pub requested-blind : (body : List ℕ) (w : Messaging HostState)
    → requested host_calls body (bare_messaging w) ≡ bare_message (requested host_calls body w)
requested-blind body w = requested_by-blind body w.client.ended w

-- a response: its pieces
piece_by-blind : (c : ClientState) (a : Result (List ℕ) ReadFault) (r : Reading HostState)
    → piece_by c a (bare_reading r) ≡ bare_message (piece_by c a r)
piece_by-blind c (Ok bytes) r = refl
piece_by-blind c (Err f) r = refl

piece_came-blind : (w : Messaging HostState) → piece_came host_calls (bare_messaging w) ≡ bare_message (piece_came host_calls w)
piece_came-blind w =
    let most = 4101 - length w.client.frame in
    let a = read_came host_calls true w.client.reader.timeout most (reading_of w) in
    ap (piece_of w.client) (read-blind true w.client.reader.timeout most (reading_of w)) ∙ piece_by-blind w.client a.answer a.left

-- what the response has of the reads that go on
abbrev GoesOn : ℕ → Type 0
GoesOn n =
    (v : Messaging HostState)
    → response_of (gathered_from host_calls n (bare_messaging v)) ≡ bare_message (response_of (gathered_from host_calls n v))

after_piece-blind : (n : ℕ) → GoesOn n → (r : Result (List ℕ) ReadFault) (w : Messaging HostState)
    → response_of (after_piece r (bare_messaging w) (gathered_from host_calls n))
    ≡ bare_message (response_of (after_piece r w (gathered_from host_calls n)))
after_piece-blind n goes_on (Ok []) w = refl
after_piece-blind n goes_on (Ok (b ∷ bytes)) w = goes_on w
after_piece-blind n goes_on (Err f) w = refl

unless_long-blind : (n : ℕ) → GoesOn n → (long : Bool) (w : Messaging HostState)
    → response_of (unless_long long (λ w. after_piece (piece_came host_calls w).answer (piece_came host_calls w).left (gathered_from host_calls n))
    (bare_messaging w))
    ≡ bare_message (response_of (unless_long long (λ w. after_piece (piece_came host_calls w).answer (piece_came host_calls w).left
    (gathered_from host_calls n)) w))
unless_long-blind n goes_on true w = refl
unless_long-blind n goes_on false w =
    ap (λ (a : Answered (List ℕ) ReadFault (Messaging HostState)). response_of (after_piece a.answer a.left (gathered_from host_calls n)))
    (piece_came-blind w)
    ∙ after_piece-blind n goes_on (piece_came host_calls w).answer (piece_came host_calls w).left

gathered_from-blind : (n : ℕ) → GoesOn n
gathered_from-blind zero w = refl
gathered_from-blind (suc n) w = unless_long-blind n (gathered_from-blind n) (nat_lt 4100 (length w.client.frame)) w

responded_by-blind : (why : Option Ending) (w : Messaging HostState)
    → responded_by host_calls why (bare_messaging w) ≡ bare_message (responded_by host_calls why w)
unfolding gathered
responded_by-blind None w = gathered_from-blind 4102 w
responded_by-blind (Some why) w = refl

pub responded-blind : (w : Messaging HostState) → responded host_calls (bare_messaging w) ≡ bare_message (responded host_calls w)
responded-blind w = responded_by-blind w.client.ended w
