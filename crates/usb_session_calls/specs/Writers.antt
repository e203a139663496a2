-- `writer`, `inner`, `num`, `timeout` and `close` of a writer. `inner` and `close` are barred where it is not open, and `writer`
-- where the endpoint isn't, or the writer's name is in use.
use Rattle.std.specs.Prelude.{ℕ, List, [], Option, Some, None, if◌then◌else◌}
use Rattle.usb_desc.specs.declared.types.Direction.TheVariants.{Out}
use Rattle.usb_device_endpoint.specs.Closes.{after_close}
use Rattle.usb_device_host.specs.HostCalls.{host_calls}
use Rattle.usb_io.specs.Writers.{fresh_writer}
use Rattle.usb_session_streams.specs.Told.{WriterCalls, no_calls}
use Rattle.usb_session_calls.specs.Names.{named, is_free, freed, set_name, change_named}
use Rattle.usb_session_streams.specs.Needs.{bars_transfers}
use Rattle.usb_session_calls.specs.State.{State, Endpoint, Writer, tickets_at, endpoint_of_writer}
use Rattle.usb_session_calls.specs.Answer.{Answer, condition_answer, ok_answer, if_open}
use Rattle.usb_session_calls.specs.Submits.{has_direction}

-- a writer alone uses its endpoint where that has no ticket yet: it did nothing
abbrev pub nothing_called : List ℕ → Option WriterCalls
nothing_called [] = Some no_calls
nothing_called tickets = None

-- an endpoint becomes a writer's, and its name is free
abbrev pub with_writer : State → ℕ → ℕ → ℕ → Endpoint → State
with_writer state w e size h =
    record state {
      endpoints = freed state.endpoints e;
      writers = set_name state.writers w (record {
        state = fresh_writer h.state size;
        taken = h.taken;
        calls = nothing_called (tickets_at h);
      });
    }

-- of an endpoint that is open (h)
abbrev pub writer_on : State → ℕ → ℕ → ℕ → Endpoint → Answer
writer_on state w e size h =
    if is_free state.writers w then (if has_direction Out h.state then ok_answer (with_writer state w e size h) else condition_answer state)
    else condition_answer state

-- `writer`: a writer is made of an endpoint
unfoldable pub writer_answer : State → ℕ → ℕ → ℕ → Answer
writer_answer state w e size = if_open (named state.endpoints e) (writer_on state w e size) (condition_answer state)

-- the endpoint is open under its own name again, and the writer's is free
abbrev pub without_writer : State → ℕ → ℕ → Writer → State
without_writer state e w x =
    record state {
      endpoints = set_name state.endpoints e (endpoint_of_writer x);
      writers = freed state.writers w;
    }

-- `inner`: the endpoint comes back, under a name that is free
unfoldable pub writer_inner_answer : State → ℕ → ℕ → Answer
writer_inner_answer state e w =
    if_open (named state.writers w) (λ x. if is_free state.endpoints e then ok_answer (without_writer state e w x) else condition_answer state) (condition_answer state)

-- a writer of which so many transfers are to be pending
abbrev pub with_transfers : ℕ → Writer → Writer
with_transfers n x = record x { state = record x.state { n = n } }

-- it is one at least, and 64 at most
abbrev pub transfers_on : State → ℕ → ℕ → Answer
transfers_on state w n =
    if bars_transfers n then condition_answer state
    else ok_answer (record state { writers = change_named (with_transfers n) state.writers w })

-- a writer whose waits have this timeout
abbrev pub with_write_timeout : ℕ → Writer → Writer
with_write_timeout timeout x = record x { state = record x.state { timeout = timeout } }

-- of a writer that is open
abbrev pub write_timeout_on : State → ℕ → ℕ → Answer
write_timeout_on state w timeout =
    ok_answer (record state { writers = change_named (with_write_timeout timeout) state.writers w })

-- a writer is closed as its endpoint is, and its name is free. (Bytes that it did not submit are gone)
abbrev pub closed_writer : State → ℕ → Writer → State
closed_writer state w x =
    record state {
      host = after_close host_calls state.host x.state.endpoint;
      writers = freed state.writers w;
    }

-- `close`
unfoldable pub close_writer_answer : State → ℕ → Answer
close_writer_answer state w = if_open (named state.writers w) (λ x. ok_answer (closed_writer state w x)) (condition_answer state)

-- what is open under a name is closed, if anything is
abbrev pub writer_closed_at : State → ℕ → Option Writer → State
writer_closed_at state w None = state
writer_closed_at state w (Some x) = closed_writer state w x

-- the same, with the name looked up
unfoldable pub writer_closed : State → ℕ → State
writer_closed state w = writer_closed_at state w (named state.writers w)
