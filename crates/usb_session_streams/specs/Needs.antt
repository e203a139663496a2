-- How many submissions a call on a writer may need, when so many are barred, and how many may be asked for.
use Rattle.std.specs.Prelude.{ℕ, ◌+◌, ◌||◌, ◌==◌, nat_lt, Bool, List, [], length, is_some, unwrap_or, if◌then◌else◌}
use Rattle.usb_kernel.specs.declared.event.Event.{Event}
use Rattle.usb_kernel.specs.Info.{unreaped}
use Rattle.usb_device_host.specs.HostState.{HostState}
use Rattle.usb_io.specs.Readers.{no_bytes}
use Rattle.usb_io.specs.Writers.{WriterState, Writing, end_need}

-- whether so many submissions are barred, where so many transfers are pending: where more than 64
-- would be, or more than 1,024 tickets would be unreaped
abbrev pub bars_need : List Event → ℕ → ℕ → Bool
bars_need past pending need = nat_lt 64 (pending + need) || nat_lt 1024 (unreaped past + need)

-- whether a call on a writer is barred that may need so many
abbrev pub bars_call : Writing HostState → ℕ → Bool
bars_call w need = bars_need w.bus.kernel.past (length w.writer.endpoint.pending) need

-- a write submits one at most. Where no buffer stands and as many are pending as are to be, it
-- takes a transfer first
abbrev pub write_need : WriterState → ℕ
write_need w = if is_some w.buffer || nat_lt (length w.endpoint.pending) w.n then 1 else 0

-- what submits bytes that stand needs one for them
abbrev pub flush_need : WriterState → ℕ
flush_need w = if no_bytes (unwrap_or w.buffer []) then 0 else 1

-- the end of a message needs one, and behind whole packets one more, which is empty
abbrev pub finish_need : WriterState → ℕ
finish_need w = end_need w.endpoint.maximum w.buffer

-- so does a poll to an end, where none has begun
abbrev pub poll_finish_need : WriterState → ℕ
poll_finish_need w = if w.begun then 0 else finish_need w

-- whether a writer can't be asked to keep so many pending: one at least, and 64 at most
abbrev pub bars_transfers : ℕ → Bool
bars_transfers n = n == 0 || nat_lt 64 n
