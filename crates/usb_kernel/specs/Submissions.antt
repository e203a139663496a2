-- What a submission is as an event and as a ticket.
use Rattle.std.specs.Prelude.{ℕ, ◌+◌, ◌*◌, ◌≡◌, true, false, None, nat_le, if◌then◌else◌}
use Rattle.usb_xfer.specs.BufferState.{BufferState}
use Rattle.usb_kernel.specs.declared.event.Event.{Event}
use Rattle.usb_kernel.specs.declared.event.Event.TheVariants.{Submit, Refuse}
use Rattle.usb_kernel.specs.declared.event.Body.{Body}
use Rattle.usb_kernel.specs.declared.event.Body.TheVariants.{Wanted, Sent}
use Rattle.usb_kernel.specs.declared.submission.Submission.{Submission}
use Rattle.usb_kernel.specs.Tickets.{Ticket}

-- an IN endpoint, which has bit 7, wants a length. An OUT endpoint sends bytes
abbrev pub body_of : ℕ → BufferState → Body
body_of endpoint b = if nat_le 128 endpoint then Wanted b.requested else Sent b.bytes

-- the event of a submission with the number t that is not refused
abbrev pub submit_event : ℕ → Submission → Event
submit_event t s = Submit t s.device s.endpoint s.maximum (body_of s.endpoint s.buffer) s.buffer.room s.deadline

-- the event of one that is refused
abbrev pub refuse_event : ℕ → Submission → ℕ → Event
refuse_event t s errno = Refuse t s.device s.endpoint s.maximum (body_of s.endpoint s.buffer) s.buffer.room errno

-- the ticket of a submission that is not refused
abbrev pub ticket_of : Submission → Ticket
ticket_of s =
    record {
      device = s.device;
      endpoint = s.endpoint;
      maximum = s.maximum;
      body = body_of s.endpoint s.buffer;
      capacity = s.buffer.room;
      refused = false;
      deadline = s.deadline;
    }

-- the ticket of one that is refused
abbrev pub refused_of : Submission → Ticket
refused_of s = record (ticket_of s) { refused = true; deadline = None }

-- an IN transfer asks for its maximum packet size, or a multiple of it, at least once. (Where the
-- maximum is 0 the length 0 is such a multiple; `is_whole` of WholePackets.antt is false there)
abbrev pub WantsWhole : ℕ → Body → Type 0
WantsWhole m (Wanted n) = (more : ℕ) × ((more + 1) * m ≡ n)
WantsWhole m (Sent bytes) = Unit {0}

-- so it is of a submission
abbrev pub IsWhole : Submission → Type 0
IsWhole s = WantsWhole s.maximum (body_of s.endpoint s.buffer)
