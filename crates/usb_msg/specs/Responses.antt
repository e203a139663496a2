-- What a response came to, and what it left of the bus and the client.
use Rattle.std.specs.Prelude.{ℕ, zero, suc, ◌+◌, ◌-◌, ◌≤◌, ◌≡◌, ◌≢◌, ◌⊎◌, Bool, true, false, List, [], ◌∷◌, ◌++◌, length, Option, Some, None, Result, Ok, Err, nat_lt}
use Rattle.usb_device_endpoint.specs.BusCalls.{BusCalls}
use Rattle.usb_io.specs.Answered.{Answered, answered, FailsBy, FailedAs}
use Rattle.usb_io.specs.Readers.{is_end, without_end}
use Rattle.usb_io.specs.Reads.{Reading, reading, TurnedShort}
use Rattle.usb_io.specs.Answers.{Read, read_came}
use Rattle.usb_io.specs.StreamFaults.{read_fault}
use Rattle.usb_io.specs.declared.fault.ReadFault.{ReadFault}
use Rattle.usb_io.specs.declared.fault.ReadFault.TheVariants.{UnexpectedEof}
use Rattle.usb_desc.specs.declared.error.Fail.{Fail}
use Rattle.usb_msg.specs.Frames.{tag_in, body_in, has_tag}
use Rattle.usb_msg.specs.Clients.{ClientState}
use Rattle.usb_msg.specs.Errors.{error_of, ended_by_read}
use Rattle.usb_msg.specs.Requests.{Messaging, messaging, Message, ended_by, Unchanged}
use Rattle.usb_msg.specs.declared.error.Ending.{Ending}
use Rattle.usb_msg.specs.declared.error.Ending.TheVariants as ending
use Rattle.usb_msg.specs.declared.error.MsgError.{MsgError}
use Rattle.usb_msg.specs.declared.error.MsgError.TheVariants as error
use Rattle.usb_msg.specs.declared.gathering.Gathered.{Gathered}
use Rattle.usb_msg.specs.declared.gathering.Gathered.TheVariants.{Ended, TooLong}

-- the reader of a client on its bus, and the client with another and with these bytes of a frame
abbrev pub reading_of : {S : Type 0} → Messaging S → Reading S
reading_of w = reading w.bus w.client.reader

abbrev pub with_reading : {S : Type 0} → Reading S → List ℕ → ClientState → Messaging S
with_reading r frame c = messaging r.bus (record c { reader = r.reader; frame = frame })

-- a read's bytes go behind those of the frame
abbrev pub piece_by : {S : Type 0} → ClientState → Result (List ℕ) ReadFault → Reading S → Answered (List ℕ) ReadFault (Messaging S)
piece_by c (Ok bytes) r = answered (Ok bytes) (with_reading r (c.frame ++ bytes) c)
piece_by c (Err f) r = answered (Err f) (with_reading r c.frame c)

abbrev pub piece_of : {S : Type 0} → ClientState → Read S → Answered (List ℕ) ReadFault (Messaging S)
piece_of c a = piece_by c a.answer a.left

-- a read until a short packet, of at most a byte more than a frame has
abbrev pub piece_came : {S : Type 0} → BusCalls S → Messaging S → Answered (List ℕ) ReadFault (Messaging S)
piece_came k w = piece_of w.client (read_came k true w.client.reader.timeout (4101 - length w.client.frame) (reading_of w))

-- a read that gave no byte is at the message's end; behind one that gave some the reads go on
-- (further)
abbrev pub after_piece : {S : Type 0} → Result (List ℕ) ReadFault → Messaging S → (Messaging S → Answered Gathered ReadFault (Messaging S)) → Answered Gathered ReadFault (Messaging S)
after_piece (Ok []) w further = answered (Ok Ended) w
after_piece (Ok bytes) w further = further w
after_piece (Err f) w further = answered (Err f) w

-- a message is too long once a byte more was read of it than a frame has. (A read is computed only
-- where it is made)
abbrev pub unless_long : {S : Type 0} → Bool → (Messaging S → Answered Gathered ReadFault (Messaging S)) → Messaging S → Answered Gathered ReadFault (Messaging S)
unless_long true further w = answered (Ok TooLong) w
unless_long false further w = further w

-- read after read: to the message's end, which stays next, or until it is too long. The number only
-- ends the recursion
abbrev pub gathered_from : {S : Type 0} → BusCalls S → ℕ → Messaging S → Answered Gathered ReadFault (Messaging S)
gathered_from k zero w = answered (Ok TooLong) w
gathered_from k (suc n) w =
    unless_long (nat_lt 4100 (length w.client.frame))
    (λ w. after_piece (piece_came k w).answer (piece_came k w).left (gathered_from k n)) w

-- the reads of the next message. Each but the last gives a byte, so the number is never used up
unfoldable pub gathered : {S : Type 0} → BusCalls S → Messaging S → Answered Gathered ReadFault (Messaging S)
gathered k w = gathered_from k 4102 w

-- a client that took the message off, with its end
abbrev pub without_message : ClientState → ClientState
without_message c = record c { reader = without_end c.reader; frame = [] }

-- a client that this has ended answers its error
abbrev pub ended_with : Ending → ClientState → Answered (List ℕ) MsgError ClientState
ended_with why c = answered (Err (error_of why)) (record c { ended = Some why })

-- the message that came is taken off. Its body is the answer where its tag is the number of
-- responses so far; else it ends the client
abbrev pub by_tag : Bool → List ℕ → ClientState → Answered (List ℕ) MsgError ClientState
by_tag true message c = answered (Ok (body_in message)) (record c { responses = c.responses + 1 })
by_tag false message c = ended_with (ending.WrongTag c.responses (tag_in message)) c

abbrev pub by_length : Bool → List ℕ → ClientState → Answered (List ℕ) MsgError ClientState
by_length true message c = ended_with (ending.Short (length message)) c
by_length false message c = by_tag (has_tag c.responses message) message c

abbrev pub message_taken : ClientState → Answered (List ℕ) MsgError ClientState
message_taken c = by_length (nat_lt (length c.frame) 4) c.frame (without_message c)

-- what a client answers, on its bus
abbrev pub on_bus : {S : Type 0} → S → Answered (List ℕ) MsgError ClientState → Message (List ℕ) S
on_bus bus a = answered a.answer (messaging bus a.left)

abbrev pub after_gathered : {S : Type 0} → Result Gathered ReadFault → Messaging S → Message (List ℕ) S
after_gathered (Ok Ended) w = on_bus w.bus (message_taken w.client)
after_gathered (Ok TooLong) w = on_bus w.bus (ended_with ending.TooLong w.client)
after_gathered (Err f) w = answered (Err (error.Io (read_fault f))) (ended_by (ended_by_read f) w)

abbrev pub response_of : {S : Type 0} → Answered Gathered ReadFault (Messaging S) → Message (List ℕ) S
response_of a = after_gathered a.answer a.left

abbrev pub responded_by : {S : Type 0} → BusCalls S → Option Ending → Messaging S → Message (List ℕ) S
responded_by k None w = response_of (gathered k w)
responded_by k (Some why) w = answered (Err (error_of why)) w

-- the next response. A client that has ended tells why, and nothing changes
abbrev pub responded : {S : Type 0} → BusCalls S → Messaging S → Message (List ℕ) S
responded k w = responded_by k w.client.ended w

-- a read came to so many bytes
pub record PieceCame {S : Type 0} (k : BusCalls S) (old new : Messaging S) (n : ℕ) : Type 0 where
  pub bytes : List ℕ
  pub count : n ≡ length bytes
  pub came : piece_came k old ≡ answered (Ok bytes) new

-- a read of some bytes
pub record PieceRead {S : Type 0} (k : BusCalls S) (old new : Messaging S) : Type 0 where
  pub few : length old.client.frame ≤ 4100
  pub bytes : List ℕ
  pub some : bytes ≢ []
  pub came : piece_came k old ≡ answered (Ok bytes) new

-- such reads one after another: what was before each, from the latest on
abbrev pub PiecesRead : {S : Type 0} → BusCalls S → List (Messaging S) → Messaging S → Messaging S → Type 0
PiecesRead k [] old new = new ≡ old
PiecesRead k (w ∷ ws) old new = PiecesRead k ws old w × PieceRead k w new

-- a read found no memory
pub record PieceShort {S : Type 0} (k : BusCalls S) (old new : Messaging S) : Type 0 where
  pub short : TurnedShort k true old.client.reader.timeout (reading_of old) (reading_of new)
  pub left : new ≡ with_reading (reading_of new) old.client.frame old.client

-- the reads of a message went on until one found no memory. Their bytes are kept
pub record GatheredShort {S : Type 0} (k : BusCalls S) (old new : Messaging S) : Type 0 where
  pub ws : List (Messaging S)
  pub last : Messaging S
  pub are : PiecesRead k ws old last
  pub few : length last.client.frame ≤ 4100
  pub short : PieceShort k last new

abbrev pub GatherFails : {S : Type 0} → BusCalls S → Messaging S → Messaging S → Fail ReadFault → Type 0
GatherFails k old new e = FailedAs (gathered k old) (GatheredShort k old new) new e

-- at its end, which is next, a message is no longer than a frame
abbrev pub IsNextEnd : ClientState → Gathered → Type 0
IsNextEnd c Ended = (is_end c.reader ≡ true) × (length c.frame ≤ 4100)
IsNextEnd c TooLong = Unit {0}

-- a read of a client does not fail by that nothing is pending
abbrev pub IsKnown : Fail ReadFault → Type 0
IsKnown e = FailsBy e (λ f. f ≢ UnexpectedEof) (Unit {0})

-- no memory was there for a text, and nothing changed; or for a read; or for the body of the
-- message that came, which stays, with its end
abbrev pub ResponseShort : {S : Type 0} → BusCalls S → Messaging S → Messaging S → Type 0
ResponseShort k old new =
    Unchanged old new
    ⊎ ((old.client.ended ≡ None) × (GatheredShort k old new ⊎ (gathered k old ≡ answered (Ok Ended) new)))

-- why there is no response: as it says, or memory was lacking. The client goes on then, and no byte
-- is lost
abbrev pub ResponseFails : {S : Type 0} → BusCalls S → Messaging S → Messaging S → MsgError → Type 0
ResponseFails k old new e =
    (responded k old ≡ answered (Err e) new) ⊎ ((e ≡ error.Memory) × ResponseShort k old new)
