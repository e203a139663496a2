-- What a writer did that alone used its endpoint, and what the tickets of its calls say of it.
use Rattle.std.specs.Prelude.{ℕ, ◌≡◌, ◌-◌, ◌<◌, List, [], ◌∷◌, ◌++◌, length, All, Option, Some, None, IsSome, Result, Ok, Err}
use Rattle.std.specs.List.{filter_map}
use Rattle.std.specs.Option.{option_and_then}
use Rattle.usb_xfer.specs.declared.error.TransferError.{TransferError}
use Rattle.usb_xfer.specs.declared.transfer.Completion.{Completion}
use Rattle.usb_kernel.specs.declared.event.Event.{Event}
use Rattle.usb_kernel.specs.Tickets.{tickets}
use Rattle.usb_kernel.specs.TransferCompletions.{transfer_completion}
use Rattle.usb_device_host.specs.HostState.{HostState}
use Rattle.usb_device_host.specs.HostCalls.{host_calls}
use Rattle.usb_io.specs.declared.fault.WriteFault.{WriteFault}
use Rattle.usb_io.specs.declared.fault.WriteFault.TheVariants.{Transfer, TimedOut}
use Rattle.usb_io.specs.Writers.{Writing}
use Rattle.usb_io.specs.Writes.{Call, Flush, Finish}
use Rattle.usb_io.specs.Carried.{Tells, begun_calls, written_calls}
use Rattle.usb_session_streams.specs.Numbers.{numbers_from}
use Rattle.usb_io.specs.WriteAnswers.{write_came, flush_came, flush_end_came, poll_flush_end_came, submit_came, submit_end_came}

-- the accepted calls of a writer, from the latest on, and the failed transfers that its calls
-- answered, from the first on
pub record WriterCalls : Type 0 where
  pub accepted : List Call
  pub failures : List TransferError

-- a writer whose endpoint has no ticket yet did nothing
abbrev pub no_calls : WriterCalls
no_calls = record { accepted = []; failures = [] }

-- with a call that counts as these, and answered these failures
abbrev pub with_calls : List Call → List TransferError → WriterCalls → WriterCalls
with_calls calls failures before =
    record { accepted = calls ++ before.accepted; failures = before.failures ++ failures }

-- the failed transfer that a call answered, if it did
abbrev pub failures_of : {A : Type 0} → Result A WriteFault → List TransferError
failures_of (Ok a) = []
failures_of (Err (Transfer e)) = e ∷ []
failures_of (Err TimedOut) = []

-- with which error the transfer of a ticket failed, if it did
abbrev pub failure_in : Result (Unit {0}) TransferError → Option TransferError
failure_in (Ok done) = None
failure_in (Err e) = Some e

abbrev pub failure_at : List Event → ℕ → Option TransferError
failure_at past t = option_and_then (λ (c : Completion). failure_in c.status) (transfer_completion past t)

-- those of tickets, in order
abbrev pub failures_at : List Event → List ℕ → List TransferError
failures_at past ts = filter_map (failure_at past) ts

-- whether a ticket has its completion
abbrev pub IsComplete : List Event → ℕ → Type 0
IsComplete past t = IsSome (transfer_completion past t)

-- how many tickets there are
abbrev pub count_of : Writing HostState → ℕ
count_of w = length (tickets w.bus.kernel.past)

-- behind a call the tickets of a writer are those that were pending, and then each that came to the
-- journal. The first of them were taken: each has its completion, and they failed as the call
-- answered. Where the tickets told of the calls before, they tell of this one too
pub record CallTells (old new : Writing HostState) (calls : List Call)
    (failures : List TransferError) : Type 0 where
  pub taken : List ℕ
  pub tickets : taken ++ new.writer.endpoint.pending
      ≡ old.writer.endpoint.pending ++ numbers_from (count_of old) (count_of new - count_of old)
  pub complete : All (IsComplete new.bus.kernel.past) taken
  pub failed : failures_at new.bus.kernel.past taken ≡ failures
  pub tells : (before : List ℕ) (accepted : List Call) →
      Tells old.bus.kernel.past old.writer (record { taken = before; calls = accepted }) →
      Tells new.bus.kernel.past new.writer (record { taken = before ++ taken; calls = calls ++ accepted })

-- the calls: a write of bytes, with a timeout in nanoseconds, flushes, and submissions
pub data WriterCall : Type 0 where
  Write : (timeout : ℕ) (src : List ℕ) → WriterCall
  FlushAll : (timeout : ℕ) → WriterCall
  FlushEnd : (timeout : ℕ) → WriterCall
  PollFlushEnd : WriterCall
  Submit : WriterCall
  SubmitEnd : WriterCall

-- what a call leaves
abbrev pub left_by : WriterCall → Writing HostState → Writing HostState
left_by (Write timeout src) w = (write_came host_calls timeout src w).left
left_by (FlushAll timeout) w = (flush_came host_calls timeout w).left
left_by (FlushEnd timeout) w = (flush_end_came host_calls timeout w).left
left_by PollFlushEnd w = (poll_flush_end_came host_calls w).left
left_by Submit w = submit_came host_calls w
left_by SubmitEnd w = submit_end_came host_calls w

-- the accepted calls as which it counts: a write by the bytes that it accepted, a poll to an end by an end where none had begun
abbrev pub counts_as : WriterCall → Writing HostState → List Call
counts_as (Write timeout src) w = written_calls src (write_came host_calls timeout src w).answer
counts_as (FlushAll timeout) w = Flush ∷ []
counts_as (FlushEnd timeout) w = Finish ∷ []
counts_as PollFlushEnd w = begun_calls w.writer.begun
counts_as Submit w = Flush ∷ []
counts_as SubmitEnd w = Finish ∷ []

-- the failed transfers that it answers. Submissions take none
abbrev pub failures_by : WriterCall → Writing HostState → List TransferError
failures_by (Write timeout src) w = failures_of (write_came host_calls timeout src w).answer
failures_by (FlushAll timeout) w = failures_of (flush_came host_calls timeout w).answer
failures_by (FlushEnd timeout) w = failures_of (flush_end_came host_calls timeout w).answer
failures_by PollFlushEnd w = failures_of (poll_flush_end_came host_calls w).answer
failures_by Submit w = []
failures_by SubmitEnd w = []

-- so it is of each call on an OUT endpoint's writer
abbrev pub CallsTell : Type 0
CallsTell =
    (call : WriterCall) (w : Writing HostState) → w.writer.endpoint.address < 128 →
    CallTells w (left_by call w) (counts_as call w) (failures_by call w)
