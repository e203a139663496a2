-- `reader`, `inner`, `num`, `timeout`, `cancel` and `close` of a reader. `inner` and `close` are barred where it is not open, and
-- `reader` where the endpoint isn't, or the reader's name is in use.
use Rattle.std.specs.Prelude.{ℕ, ◌-◌, ◌||◌, nat_lt, List, [], ◌++◌, length, take, Option, Some, None, if◌then◌else◌}
use Rattle.usb_desc.specs.declared.types.Direction.TheVariants.{In}
use Rattle.usb_device_endpoint.specs.Closes.{all_discarded, after_close}
use Rattle.usb_device_host.specs.HostState.{HostState}
use Rattle.usb_device_host.specs.HostCalls.{host_discarded}
use Rattle.usb_io.specs.Readers.{ReaderState, fresh_reader}
use Rattle.usb_io.specs.Reads.{Reading, reading, filled_to}
use Rattle.usb_io.specs.Streams.{Mark}
use Rattle.usb_device_host.specs.HostCalls.{host_calls}
use Rattle.usb_session_streams.specs.Numbers.{numbers_from}
use Rattle.usb_session_calls.specs.Names.{named, is_free, freed, set_name, change_named}
use Rattle.usb_session_streams.specs.Needs.{bars_need}
use Rattle.usb_session_calls.specs.State.{State, Endpoint, Reader, tickets_at, endpoint_of_reader, tickets_of, with_host}
use Rattle.usb_session_calls.specs.Answer.{Answer, condition_answer, ok_answer, if_open}
use Rattle.usb_session_calls.specs.Submits.{has_direction}

-- a reader is framed where its endpoint has no ticket yet: it has consumed nothing
abbrev pub nothing_consumed : List ℕ → Option (List Mark)
nothing_consumed [] = Some []
nothing_consumed tickets = None

-- an endpoint becomes a reader's, and its name is free
abbrev pub with_reader : State → ℕ → ℕ → ℕ → Endpoint → State
with_reader state r e size h =
    record state {
      endpoints = freed state.endpoints e;
      readers = set_name state.readers r (record {
        state = fresh_reader h.state size;
        before = h.taken;
        taken = [];
        given = [];
        consumed = nothing_consumed (tickets_at h);
      });
    }

-- of an endpoint that is open (h)
abbrev pub reader_on : State → ℕ → ℕ → ℕ → Endpoint → Answer
reader_on state r e size h =
    if is_free state.readers r then (if has_direction In h.state then ok_answer (with_reader state r e size h) else condition_answer state)
    else condition_answer state

-- `reader`: a reader is made of an endpoint
unfoldable pub reader_answer : State → ℕ → ℕ → ℕ → Answer
reader_answer state r e size = if_open (named state.endpoints e) (reader_on state r e size) (condition_answer state)

-- the endpoint is open under its own name again, and the reader's is free
abbrev pub without_reader : State → ℕ → ℕ → Reader → State
without_reader state e r x =
    record state {
      endpoints = set_name state.endpoints e (endpoint_of_reader x);
      readers = freed state.readers r;
    }

-- `inner`: the endpoint comes back, under a name that is free
unfoldable pub inner_answer : State → ℕ → ℕ → Answer
inner_answer state e r =
    if_open (named state.readers r) (λ x. if is_free state.endpoints e then ok_answer (without_reader state e r x) else condition_answer state) (condition_answer state)

-- what a call took of an endpoint at which these tickets were pending (`before`), by those that are behind it (`after`): of the
-- former and of each that came to the journal since (from `old` many to `new` many) all that are not pending
abbrev pub taken_by_call : ℕ → ℕ → List ℕ → List ℕ → List ℕ
taken_by_call old new before after =
    let all = before ++ numbers_from old (new - old) in take (length all - length after) all

-- the state behind a call of a reader, by what the call left of host and reader, what the reader has consumed then, and the bytes
-- that the call handed over
abbrev pub called : State → ℕ → Option (List Mark) → List ℕ → Reading HostState → State
called state r consumed bytes w =
    record state {
      host = w.bus;
      readers = change_named (λ x. record x {
        state = w.reader;
        taken = x.taken ++ taken_by_call (tickets_of state) (tickets_of (with_host state w.bus)) x.state.endpoint.pending w.reader.endpoint.pending;
        given = x.given ++ bytes;
        consumed = consumed;
      }) state.readers r;
    }

-- a reader of which so many transfers are to be pending
abbrev pub with_count : ℕ → ReaderState → ReaderState
with_count n r = record r { n = n }

-- as many transfers are submitted as are missing of one less
abbrev pub num_on : State → ℕ → ℕ → Reader → Answer
num_on state r n x =
    if nat_lt 64 n || bars_need state.host.kernel.past (length x.state.endpoint.pending) (n - 1 - length x.state.endpoint.pending) then condition_answer state
    else ok_answer (called state r x.consumed [] (filled_to host_calls (n - 1) (reading state.host (with_count n x.state))))

-- a reader whose waits have this timeout
abbrev pub with_timeout : ℕ → Reader → Reader
with_timeout timeout x = record x { state = record x.state { timeout = timeout } }

-- of a reader that is open
abbrev pub timeout_on : State → ℕ → ℕ → Answer
timeout_on state r timeout = ok_answer (record state { readers = change_named (with_timeout timeout) state.readers r })

-- a reader that keeps none pending
abbrev pub with_none : Reader → Reader
with_none x = record x { state = record x.state { n = 0 } }

-- what is pending is discarded, from the last to the first, and none is to be pending from then on
abbrev pub cancel_reader_on : State → ℕ → Reader → Answer
cancel_reader_on state r x =
    ok_answer (record state { host = all_discarded host_discarded state.host x.state.endpoint.pending; readers = change_named with_none state.readers r })

-- a reader is closed as its endpoint is, and its name is free
abbrev pub closed_reader : State → ℕ → Reader → State
closed_reader state r x =
    record state {
      host = after_close host_calls state.host x.state.endpoint;
      readers = freed state.readers r;
    }

-- `close`
unfoldable pub close_reader_answer : State → ℕ → Answer
close_reader_answer state r = if_open (named state.readers r) (λ x. ok_answer (closed_reader state r x)) (condition_answer state)

-- what is open under a name is closed, if anything is
abbrev pub reader_closed_at : State → ℕ → Option Reader → State
reader_closed_at state r None = state
reader_closed_at state r (Some x) = closed_reader state r x

-- the same, with the name looked up
unfoldable pub reader_closed : State → ℕ → State
reader_closed state r = reader_closed_at state r (named state.readers r)
