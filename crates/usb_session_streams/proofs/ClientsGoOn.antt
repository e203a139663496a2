-- A request goes on as calls on the client's writer do, and a response as calls on its reader do.
use Rattle.std.proofs.Common.{◌-◌, ℕ, ◌≤◌, Bool, true, false, List, length, Option, Some, None, Result, Ok, Err, refl}
use Rattle.std.specs.Prelude.{nat_lt}
use Rattle.usb_device_host.specs.HostState.{HostState}
use Rattle.usb_device_host.specs.HostCalls.{host_calls}
use Rattle.usb_io.specs.Answers.{read_came}
use Rattle.usb_io.specs.Reads.{Reading, reading}
use Rattle.usb_io.specs.Readers.{without_end}
use Rattle.usb_io.specs.Writers.{Writing}
use Rattle.usb_io.specs.WriteAnswers.{submit_end_came}
use Rattle.usb_io.specs.declared.fault.ReadFault.{ReadFault}
use Rattle.usb_io.specs.declared.fault.WriteFault.{WriteFault}
use Rattle.usb_msg.specs.Clients.{ClientState}
use Rattle.usb_msg.specs.Frames.{framed, has_tag}
use Rattle.usb_msg.specs.Requests.{Messaging, Message, messaging, writing_of, after_write, frame_written, requested_by}
use Rattle.usb_msg.specs.Responses.{reading_of, piece_by, piece_came, without_message, by_tag, by_length, message_taken, responded_by}
use Rattle.usb_msg.specs.declared.error.Ending.{Ending}
use Rattle.usb_msg.proofs.Responding.{responds}
use Rattle.usb_session_streams.specs.ReaderCalls.{ReaderGoesOn}
use Rattle.usb_session_streams.specs.WriterCalls.{WriterGoesOn}
use Rattle.usb_session_streams.specs.ClientCalls.{Request, Response, ClientGoesOn, ClientCallsGoOn}
use Rattle.usb_session_streams.proofs.WritesGoOn.{call-same as write-same, call-trans as write-trans, write_goes_on, submit_end_goes_on}
use Rattle.usb_session_streams.proofs.ReadsGoOn.{call-same as read-same, call-trans as read-trans, read_goes_on}

-- a request: the write of its frame, and then the end of its message
after-goes : (body : List ℕ) (r : Result ℕ WriteFault) (v : Writing HostState) (w : Messaging HostState) → WriterGoesOn (writing_of w) v → ClientGoesOn (Request body) w (after_write host_calls w.client r v).left
after-goes body (Ok n) v w so_far = (refl, write-trans (writing_of w) v (submit_end_came host_calls v) so_far (submit_end_goes_on v))
after-goes body (Err f) v w so_far = (refl, so_far)

requested-goes : (body : List ℕ) (why : Option Ending) (w : Messaging HostState) → ClientGoesOn (Request body) w (requested_by host_calls body why w).left
requested-goes body (Some why) w = (refl, write-same (writing_of w))
requested-goes body None w =
    let a = frame_written host_calls body w in
    after-goes body a.answer a.left w (write_goes_on w.client.writer.timeout (framed w.client.requests body) (writing_of w))

-- a response: nothing yet
pub start-goes : (w : Messaging HostState) → ClientGoesOn Response w w
start-goes w = (refl, read-same (reading_of w))

-- a read
pub by-goes : (old w : Messaging HostState) (a : Result (List ℕ) ReadFault) (r : Reading HostState) → ClientGoesOn Response old w → ReaderGoesOn (reading_of w) r → ClientGoesOn Response old (piece_by w.client a r).left
by-goes old w (Ok bytes) r so_far goes = (so_far.0, read-trans (reading_of old) (reading_of w) r so_far.1 goes)
by-goes old w (Err f) r so_far goes = (so_far.0, read-trans (reading_of old) (reading_of w) r so_far.1 goes)

pub piece-goes : (old w : Messaging HostState) → length w.client.frame ≤ 4100 → ClientGoesOn Response old w → ClientGoesOn Response old (piece_came host_calls w).left
piece-goes old w few so_far =
    let r = w.client.reader in
    let most = 4101 - length w.client.frame in
    let a = read_came host_calls true r.timeout most (reading_of w) in
    by-goes old w a.answer a.left so_far (read_goes_on true r.timeout most (reading_of w))

-- an end is taken off
off-goes : (old w : Reading HostState) → ReaderGoesOn old w → ReaderGoesOn old (reading w.bus (without_end w.reader))
off-goes old w so_far =
    record {
      line = so_far.line;
      past = so_far.past;
      endpoint = so_far.endpoint;
      settings = record { n = so_far.settings.n; size = so_far.settings.size; timeout = so_far.settings.timeout };
      accounts = so_far.accounts;
    }

tag-goes : (old : Messaging HostState) (b : Bool) (message : List ℕ) (bus : HostState) (c : ClientState) → ClientGoesOn Response old (messaging bus c) → ClientGoesOn Response old (messaging bus (by_tag b message c).left)
tag-goes old true message bus c so_far = (so_far.0, so_far.1)
tag-goes old false message bus c so_far = (so_far.0, so_far.1)

length-goes : (old : Messaging HostState) (b : Bool) (message : List ℕ) (bus : HostState) (c : ClientState) → ClientGoesOn Response old (messaging bus c) → ClientGoesOn Response old (messaging bus (by_length b message c).left)
length-goes old true message bus c so_far = (so_far.0, so_far.1)
length-goes old false message bus c so_far = tag-goes old (has_tag c.responses message) message bus c so_far

taken-goes : (old w : Messaging HostState) → ClientGoesOn Response old w → ClientGoesOn Response old (messaging w.bus (message_taken w.client).left)
taken-goes old w so_far =
    length-goes old (nat_lt (length w.client.frame) 4) w.client.frame w.bus (without_message w.client) (so_far.0, off-goes (reading_of old) (reading_of w) so_far.1)

responded-goes : (why : Option Ending) (w : Messaging HostState) → ClientGoesOn Response w (responded_by host_calls why w).left
responded-goes (Some why) w = start-goes w
responded-goes None w =
    responds host_calls (ClientGoesOn Response w) (piece-goes w) (λ (a : Message (List ℕ) HostState). ClientGoesOn Response w a.left)
    (λ v end so_far. taken-goes w v so_far) (λ v so_far. (so_far.0, so_far.1)) (λ v f so_far. (so_far.0, so_far.1)) w (start-goes w)

pub client_calls-go_on : ClientCallsGoOn
client_calls-go_on (Request body) w = requested-goes body w.client.ended w
client_calls-go_on Response w = responded-goes w.client.ended w
