-- A host and a client of messages stay bounded over the client's calls.
use Rattle.std.proofs.Common.{ℕ, ◌≤◌, ◌-◌, Bool, true, false, List, length, Option, Some, None, Result, Ok, Err}
use Rattle.std.specs.Prelude.{nat_lt}
use Rattle.usb_device_host.specs.HostState.{HostState}
use Rattle.usb_device_host.specs.HostCalls.{host_calls}
use Rattle.usb_io.specs.Answers.{read_came}
use Rattle.usb_io.specs.Reads.{Reading}
use Rattle.usb_io.specs.Writers.{Writing}
use Rattle.usb_io.specs.declared.fault.ReadFault.{ReadFault}
use Rattle.usb_io.specs.declared.fault.WriteFault.{WriteFault}
use Rattle.usb_msg.specs.Clients.{ClientState}
use Rattle.usb_msg.specs.Frames.{framed, has_tag}
use Rattle.usb_msg.specs.Requests.{Messaging, Message, writing_of, after_write, frame_written, requested_by, requested}
use Rattle.usb_msg.specs.Responses.{reading_of, piece_by, piece_came, without_message, by_tag, by_length, message_taken, responded_by, responded}
use Rattle.usb_msg.specs.declared.error.Ending.{Ending}
use Rattle.usb_msg.proofs.Responding.{responds}
use Rattle.usb_session_sizes.proofs.Hosts.{IsHostBounded}
use Rattle.usb_session_sizes.proofs.Readers.{IsReaderSized, IsReadingBounded, read-bounded}
use Rattle.usb_session_sizes.proofs.Writers.{IsWriterSized, IsWritingBounded, write-bounded, submit_end-bounded}

-- its writer and its reader
abbrev pub IsClientSized : ClientState → Type 0
IsClientSized c = IsWriterSized c.writer × IsReaderSized c.reader

-- with a bounded host
abbrev pub IsMessagingBounded : Messaging HostState → Type 0
IsMessagingBounded w = IsHostBounded w.bus × IsClientSized w.client

-- a request: the write of its frame, and then the end of its message
after-bounded : (r : Result ℕ WriteFault) (v : Writing HostState) (c : ClientState) → IsClientSized c → IsWritingBounded v → IsMessagingBounded (after_write host_calls c r v).left
after-bounded (Ok n) v c sized is = let ended = submit_end-bounded v is in (ended.0, (ended.1, sized.1))
after-bounded (Err f) v c sized is = (is.0, (is.1, sized.1))

requested_by-bounded : (body : List ℕ) (why : Option Ending) (w : Messaging HostState) → IsMessagingBounded w → IsMessagingBounded (requested_by host_calls body why w).left
requested_by-bounded body (Some why) w is = is
requested_by-bounded body None w is =
    let a = frame_written host_calls body w in
    after-bounded a.answer a.left w.client is.1 (write-bounded w.client.writer.timeout (framed w.client.requests body) (writing_of w) (is.0, is.1.0))

pub requested-bounded : (body : List ℕ) (w : Messaging HostState) → IsMessagingBounded w → IsMessagingBounded (requested host_calls body w).left
requested-bounded body w is = requested_by-bounded body w.client.ended w is

-- a response: reads of its pieces
by-bounded : (c : ClientState) (a : Result (List ℕ) ReadFault) (r : Reading HostState) → IsClientSized c → IsReadingBounded r → IsMessagingBounded (piece_by c a r).left
by-bounded c (Ok bytes) r sized is = (is.0, (sized.0, is.1))
by-bounded c (Err f) r sized is = (is.0, (sized.0, is.1))

piece-bounded : (w : Messaging HostState) → length w.client.frame ≤ 4100 → IsMessagingBounded w → IsMessagingBounded (piece_came host_calls w).left
piece-bounded w few is =
    let most = 4101 - length w.client.frame in
    let a = read_came host_calls true w.client.reader.timeout most (reading_of w) in
    by-bounded w.client a.answer a.left is.1 (read-bounded true w.client.reader.timeout most (reading_of w) (is.0, is.1.1))

-- and then the message is taken off
tag-sized : (b : Bool) (message : List ℕ) (c : ClientState) → IsClientSized c → IsClientSized (by_tag b message c).left
tag-sized true message c sized = sized
tag-sized false message c sized = sized

length-sized : (b : Bool) (message : List ℕ) (c : ClientState) → IsClientSized c → IsClientSized (by_length b message c).left
length-sized true message c sized = sized
length-sized false message c sized = tag-sized (has_tag c.responses message) message c sized

taken-sized : (c : ClientState) → IsClientSized c → IsClientSized (message_taken c).left
taken-sized c sized = length-sized (nat_lt (length c.frame) 4) c.frame (without_message c) sized

responded_by-bounded : (why : Option Ending) (w : Messaging HostState) → IsMessagingBounded w → IsMessagingBounded (responded_by host_calls why w).left
responded_by-bounded (Some why) w is = is
responded_by-bounded None w is =
    responds host_calls IsMessagingBounded piece-bounded (λ (a : Message (List ℕ) HostState). IsMessagingBounded a.left)
    (λ v end there. (there.0, taken-sized v.client there.1)) (λ v there. there) (λ v f there. there) w is

pub responded-bounded : (w : Messaging HostState) → IsMessagingBounded w → IsMessagingBounded (responded host_calls w).left
responded-bounded w is = responded_by-bounded w.client.ended w is
