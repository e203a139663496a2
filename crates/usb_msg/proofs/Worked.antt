-- Two small exchanges, computed.
use Rattle.std.proofs.Common.{◌≡◌, ℕ, List, [], ◌∷◌, None, Some, Ok, Err, refl}
use Rattle.usb_io.specs.Answered.{answered}
use Rattle.usb_io.specs.Messages.{messages}
use Rattle.usb_io.specs.Readers.{ReaderState}
use Rattle.usb_io.specs.Streams.{stream_of}
use Rattle.usb_io.specs.Writers.{WriterState}
use Rattle.usb_io.specs.Writes.{Accept, Finish, written, packets_of}
use Rattle.usb_msg.specs.Clients.{ClientState}
use Rattle.usb_msg.specs.Frames.{framed, frames_from}
use Rattle.usb_msg.specs.Responses.{message_taken, without_message}
use Rattle.usb_msg.specs.declared.error.Ending.TheVariants as ending
use Rattle.usb_msg.specs.declared.error.MsgError.TheVariants as error

-- requests with the bodies aa bb and none are these frames
pub two_frames : frames_from 0 ((170 ∷ 187 ∷ []) ∷ [] ∷ []) ≡ (0 ∷ 0 ∷ 0 ∷ 0 ∷ 170 ∷ 187 ∷ []) ∷ (1 ∷ 0 ∷ 0 ∷ 0 ∷ []) ∷ []
two_frames = refl

-- each is one packet of at most 64 bytes, and one message
pub two_packets : packets_of 64 (written 64 4160 (Finish ∷ Accept (framed 1 []) ∷ Finish ∷ Accept (framed 0 (170 ∷ 187 ∷ [])) ∷ [])).transfers ≡ (0 ∷ 0 ∷ 0 ∷ 0 ∷ 170 ∷ 187 ∷ []) ∷ (1 ∷ 0 ∷ 0 ∷ 0 ∷ []) ∷ []
two_packets = refl

-- the packets of two responses are the messages of their frames
pub two_messages : messages (stream_of 64 ((0 ∷ 0 ∷ 0 ∷ 0 ∷ 204 ∷ []) ∷ (1 ∷ 0 ∷ 0 ∷ 0 ∷ []) ∷ [])) ≡ frames_from 0 ((204 ∷ []) ∷ [] ∷ [])
two_messages = refl

-- a client that read a message, and answered so many responses
abbrev having : WriterState → ReaderState → ℕ → List ℕ → ClientState
having w r responses frame = record { writer = w; reader = r; requests = 2; responses = responses; frame = frame; ended = None }

-- the first response is cc, and the second is empty
pub first_response : (w : WriterState) (r : ReaderState) → message_taken (having w r 0 (0 ∷ 0 ∷ 0 ∷ 0 ∷ 204 ∷ [])) ≡ answered (Ok (204 ∷ [])) (record (without_message (having w r 0 [])) { responses = 1 })
first_response w r = refl

pub second_response : (w : WriterState) (r : ReaderState) → message_taken (having w r 1 (1 ∷ 0 ∷ 0 ∷ 0 ∷ [])) ≡ answered (Ok []) (record (without_message (having w r 1 [])) { responses = 2 })
second_response w r = refl

-- the tag 5 in place of 0, and a message of two bytes, end a client
pub strange_tag : (w : WriterState) (r : ReaderState) → message_taken (having w r 0 (5 ∷ 0 ∷ 0 ∷ 0 ∷ [])) ≡ answered (Err (error.WrongTag 0 5)) (record (without_message (having w r 0 [])) { ended = Some (ending.WrongTag 0 5) })
strange_tag w r = refl

pub no_tag : (w : WriterState) (r : ReaderState) → message_taken (having w r 0 (1 ∷ 2 ∷ [])) ≡ answered (Err (error.Short 2)) (record (without_message (having w r 0 [])) { ended = Some (ending.Short 2) })
no_tag w r = refl
