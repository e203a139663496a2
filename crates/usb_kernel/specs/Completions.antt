-- The completion of a ticket.
use Rattle.std.specs.Prelude.{ℕ, Bool, List, length, Option, Some, None, slice_get, option_and_then, map, filter, ◌==◌, if◌then◌else◌}
use Rattle.std.specs.List.{enumerate_from}
use Rattle.std.specs.Option.{option_map}
use Rattle.usb_xfer.specs.BufferState.{BufferState}
use Rattle.usb_kernel.specs.declared.event.Event.{Event}
use Rattle.usb_kernel.specs.declared.event.Body.{Body}
use Rattle.usb_kernel.specs.declared.event.Body.TheVariants.{Wanted, Sent}
use Rattle.usb_kernel.specs.declared.submission.Done.{Done}
use Rattle.usb_kernel.specs.declared.submission.Submission.{Submission}
use Rattle.usb_kernel.specs.Tickets.{Ticket, tickets}
use Rattle.usb_kernel.specs.Fates.{Fate, refused_fate, waits, count_of, received}
use Rattle.usb_kernel.specs.Journal.{fate}
use Rattle.usb_kernel.specs.Submissions.{refused_of}

-- the buffer of a ticket: an IN buffer has the received bytes and keeps its requested length, an OUT buffer has the submitted ones and asks for them
abbrev pub buffer_for : Body → ℕ → List ℕ → BufferState
buffer_for (Wanted n) room got = record { bytes = got; requested = n; room = room }
buffer_for (Sent bytes) room got = record { bytes = bytes; requested = length bytes; room = room }

-- the completion of a ticket t, made of what was submitted (s), its fate (f) and its errno
abbrev pub done_of : ℕ → Ticket → Fate → ℕ → Done
done_of t s f errno =
    record { ticket = t; status = errno; refused = s.refused; count = count_of s f; buffer = buffer_for s.body s.capacity (received f) }

-- the completion that a refused submission has at once
abbrev pub refused_done : ℕ → Submission → ℕ → Done
refused_done t s errno = done_of t (refused_of s) (refused_fate errno) errno

-- the completion that a finished ticket has, or will have at its reap
abbrev pub finished : ℕ → Ticket → Fate → Option Done
finished t s f = option_map (λ errno. done_of t s f errno) f.status

-- the same, but only where the ticket is not reaped yet
abbrev pub done_if : ℕ → Fate → Ticket → Option Done
done_if t f s = if waits f then finished t s f else None

-- the same, of ticket t of a journal
abbrev pub reapable : List Event → ℕ → Option Done
reapable past t = option_and_then (done_if t (fate past t)) (slice_get (tickets past) t)

-- whether a ticket, in a pair behind its number, is finished and not reaped
abbrev pub is_reapable : (ℕ → Fate) → (ℕ × Ticket) → Bool
is_reapable fates p = waits (fates p.0)

-- the numbers of those that are, ascending
abbrev pub waiting : List Event → List ℕ
waiting past = map (λ p. p.0) (filter (is_reapable (fate past)) (enumerate_from 0 (tickets past)))

-- the least of them
abbrev pub lowest : List Event → Option ℕ
lowest past = slice_get (waiting past) 0

-- the completion of a ticket, where it is reaped
abbrev pub completion_for : ℕ → Ticket → Fate → Option Done
completion_for t s f = if f.reaped then finished t s f else None

-- the same, if there is such a ticket
abbrev pub completion_if : ℕ → Option Ticket → Fate → Option Done
completion_if t None f = None
completion_if t (Some s) f = completion_for t s f

-- the completion that a journal gives of ticket t: there is one exactly where t is reaped
unfoldable pub completion : List Event → ℕ → Option Done
completion past t = completion_if t (slice_get (tickets past) t) (fate past t)

-- the completions, with one more
abbrev pub completed : Option Done → (ℕ → Option Done) → ℕ → Option Done
completed None before u = before u
completed (Some done) before u = if done.ticket == u then Some done else before u
