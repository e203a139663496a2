-- An exchange: a packet goes out as one transfer, and then one packet comes in. The bytes that came
-- are the answer, or the error of the transfer that failed.
use Rattle.std.specs.Prelude.{ℕ, ◌≡◌, ◌⊎◌, List, [], length, Option, Some, Result, Ok, Err}
use Rattle.std.specs.Option.{option_map}
use Rattle.usb_desc.specs.declared.error.Fail.{Fail}
use Rattle.usb_desc.specs.declared.error.Fail.TheVariants.{Cause, Memory}
use Rattle.usb_xfer.specs.declared.error.TransferError.{TransferError}
use Rattle.usb_device_endpoint.specs.Waits.{Polled}
use Rattle.usb_device_endpoint.specs.Blocking.{transferred}
use Rattle.usb_device_host.specs.HostState.{HostState}
use Rattle.usb_device_host.specs.HostCalls.{host_calls}
use Rattle.usb_device.specs.Futures.{answer_by}
use Rattle.example_echo.specs.Pipes.{EchoState}

-- what is answered, and the host that is left
pub record Exchange : Type 0 where
  pub answer : Option (Result (List ℕ) TransferError)
  pub host : HostState

-- the last transfer was this one
abbrev pub ended_by : Polled HostState → Exchange
ended_by p =
    record {
      answer = option_map (λ c. answer_by c.status c.buffer.bytes) p.completion;
      host = p.bus;
    }

-- a packet goes out, and is cancelled after a second (10^9 nanoseconds)
abbrev pub sent : HostState → EchoState → List ℕ → Polled HostState
sent h e packet =
    transferred host_calls 1000000000 h e.output
    (record { bytes = packet; requested = length packet; room = length packet })

-- one packet comes in, or is cancelled after a second
abbrev pub received : HostState → EchoState → Polled HostState
received h e =
    transferred host_calls 1000000000 h e.input
    (record { bytes = []; requested = e.input.maximum; room = e.input.maximum })

-- one comes in only where the packet went out well
abbrev pub replied : EchoState → Exchange → Option (Result (List ℕ) TransferError) → Exchange
replied e out (Some (Ok bytes)) = ended_by (received out.host e)
replied e out other = out

abbrev pub exchanged : HostState → EchoState → List ℕ → Exchange
exchanged h e packet =
    let out = ended_by (sent h e packet) in
    replied e out out.answer

-- what an exchange gives and leaves. Where memory was lacking nothing was done, or the packet alone
-- went out
abbrev pub Exchanges : HostState → HostState → EchoState → List ℕ →
    Result (List ℕ) (Fail TransferError) → Type 0
Exchanges old new e packet (Ok bytes) =
    exchanged old e packet ≡ record { answer = Some (Ok bytes); host = new }
Exchanges old new e packet (Err (Cause error)) =
    exchanged old e packet ≡ record { answer = Some (Err error); host = new }
Exchanges old new e packet (Err Memory) = (new ≡ old) ⊎ (new ≡ (sent old e packet).bus)
