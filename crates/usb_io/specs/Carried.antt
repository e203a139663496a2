-- That a writer's tickets carry the transfers of its accepted calls.
use Rattle.std.specs.Prelude.{ℕ, ◌≡◌, ◌⊎◌, Bool, true, false, List, [], ◌∷◌, ◌++◌, ◌==◌, if◌then◌else◌, length, take, unwrap_or, Option, Some, None, slice_get, Result, Ok, Err}
use Rattle.usb_desc.specs.declared.error.Fail.{Fail}
use Rattle.usb_desc.specs.declared.error.Fail.TheVariants.{Cause, Memory}
use Rattle.usb_kernel.specs.declared.event.Event.{Event}
use Rattle.usb_kernel.specs.declared.event.Body.TheVariants.{Sent}
use Rattle.usb_kernel.specs.Tickets.{Ticket, tickets}
use Rattle.usb_device_endpoint.specs.BusState.{BusState}
use Rattle.usb_device_endpoint.specs.EndpointState.{EndpointState}
use Rattle.usb_io.specs.declared.fault.WriteFault.{WriteFault}
use Rattle.usb_io.specs.Streams.{IsAscending}
use Rattle.usb_io.specs.Writers.{WriterState}
use Rattle.usb_io.specs.Writes.{Call, Accept, Flush, Finish, ending, written}

-- a ticket of this OUT endpoint, which sends these bytes
pub record Carries (past : List Event) (d e m t : ℕ) (bytes : List ℕ) : Type 0 where
  pub s : Ticket
  pub at : slice_get (tickets past) t ≡ Some s
  pub device : s.device ≡ d
  pub endpoint : s.endpoint ≡ e
  pub maximum : s.maximum ≡ m
  pub body : s.body ≡ Sent bytes

-- so do these tickets, one each, in order
abbrev pub AllCarry : List Event → ℕ → ℕ → ℕ → List ℕ → List (List ℕ) → Type 0
AllCarry past d e m [] [] = Unit {0}
AllCarry past d e m [] (b ∷ bs) = ⊥
AllCarry past d e m (t ∷ ts) [] = ⊥
AllCarry past d e m (t ∷ ts) (b ∷ bs) = Carries past d e m t b × AllCarry past d e m ts bs

-- so do the tickets of a handle, which ascend: those that were taken of it, and the pending ones
abbrev pub HandleCarries : List Event → EndpointState → List ℕ → List (List ℕ) → Type 0
HandleCarries past e taken transfers = AllCarry past e.device e.address e.maximum (taken ++ e.pending) transfers × IsAscending (taken ++ e.pending)

-- a call on a handle, after which it has its tickets and more, which carry these bytes too
pub record CarriesOn (old new : BusState) (e e' : EndpointState) (more : List (List ℕ)) : Type 0 where
  pub maximum : e'.maximum ≡ e.maximum
  pub all : (taken : List ℕ) (transfers : List (List ℕ)) → HandleCarries old.past e taken transfers → (taken' : List ℕ) × (submitted : List ℕ) × (taken' ++ e'.pending ≡ (taken ++ e.pending) ++ submitted) × HandleCarries new.past e' taken' (transfers ++ more)

-- what a writer did from its first call on: the tickets that it took, and its accepted calls, from
-- the latest on
pub record WriterHistory : Type 0 where
  pub taken : List ℕ
  pub calls : List Call

-- the tickets carry the transfers of the calls, and the rest of what was written stands
pub record TellsOf (past : List Event) (e : EndpointState) (size : ℕ) (buffer : Option (List ℕ)) (h : WriterHistory) : Type 0 where
  pub carries : HandleCarries past e h.taken (written e.maximum size h.calls).transfers
  pub stands : unwrap_or buffer [] ≡ (written e.maximum size h.calls).standing

abbrev pub Tells : List Event → WriterState → WriterHistory → Type 0
Tells past w h = TellsOf past w.endpoint w.size w.buffer h

-- a new writer over an endpoint with nothing pending did nothing
abbrev pub nothing_written : WriterHistory
nothing_written = record { taken = []; calls = [] }

-- a call that counts as these accepted calls, from the latest on: the handle has its tickets, and
-- those that were submitted
abbrev pub TellsOn : BusState → BusState → WriterState → WriterState → List Call → Type 0
TellsOn old new w w' calls = (h : WriterHistory) → Tells old.past w h →
    (h' : WriterHistory) × (submitted : List ℕ) × (h'.calls ≡ calls ++ h.calls) × (h'.taken ++ w'.endpoint.pending ≡ (h.taken ++ w.endpoint.pending) ++ submitted) × Tells new.past w' h'

-- the bytes that a flush submits of a buffer that may stand, and those that an end submits
abbrev pub sent_bytes : Option (List ℕ) → List (List ℕ)
sent_bytes None = []
sent_bytes (Some []) = []
sent_bytes (Some bytes) = bytes ∷ []

abbrev pub ended_bytes : ℕ → Option (List ℕ) → List (List ℕ)
ended_bytes m None = [] ∷ []
ended_bytes m (Some bytes) = ending m bytes

-- the bytes that a write submits where these stand then: a whole transfer
abbrev pub full_bytes : ℕ → List ℕ → List (List ℕ)
full_bytes size c = if length c == size then c ∷ [] else []

-- what a write that answered counts as
abbrev pub written_calls : {E : Type 0} → List ℕ → Result ℕ E → List Call
written_calls src (Ok n) = Accept (take n src) ∷ []
written_calls src (Err e) = []

-- what a flush that answered counts as: also one whose transfer failed or was not there, but none
-- that found no memory
abbrev pub flushed_calls : Result (Unit {0}) (Fail WriteFault) → List Call
flushed_calls (Ok u) = Flush ∷ []
flushed_calls (Err (Cause f)) = Flush ∷ []
flushed_calls (Err Memory) = []

-- what a submission counts as
abbrev pub submitted_calls : {E : Type 0} → Result (Unit {0}) E → List Call
submitted_calls (Ok u) = Flush ∷ []
submitted_calls (Err e) = []

-- an end that found no memory counts as nothing, or as a flush
abbrev pub TellsShort : BusState → BusState → WriterState → WriterState → Type 0
TellsShort old new w w' = TellsOn old new w w' [] ⊎ TellsOn old new w w' (Flush ∷ [])

-- what a flush to an end that answered counts as
abbrev pub TellsEnd : BusState → BusState → WriterState → WriterState → Result (Unit {0}) (Fail WriteFault) → Type 0
TellsEnd old new w w' (Ok u) = TellsOn old new w w' (Finish ∷ [])
TellsEnd old new w w' (Err (Cause f)) = TellsOn old new w w' (Finish ∷ [])
TellsEnd old new w w' (Err Memory) = TellsShort old new w w'

-- what a poll to an end counts as: where one has begun, nothing
abbrev pub begun_calls : Bool → List Call
begun_calls true = []
begun_calls false = Finish ∷ []

abbrev pub TellsPolledEnd : BusState → BusState → WriterState → WriterState → Result (Unit {0}) (Fail WriteFault) → Type 0
TellsPolledEnd old new w w' (Ok u) = TellsOn old new w w' (begun_calls w.begun)
TellsPolledEnd old new w w' (Err (Cause f)) = TellsOn old new w w' (begun_calls w.begun)
TellsPolledEnd old new w w' (Err Memory) = TellsShort old new w w'
