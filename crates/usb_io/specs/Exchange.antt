-- Two endpoints of a device on which nothing happens but submissions, reaps and echoes. A journal is
-- read from its latest event: in `event ∷ before`, `before` are the events before it.
use Rattle.std.specs.Prelude.{ℕ, ◌≡◌, ◌≢◌, ◌⊎◌, true, false, List, [], ◌∷◌, length}
use Rattle.usb_kernel.specs.declared.event.Event.{Event}
use Rattle.usb_kernel.specs.declared.event.Event.TheVariants.{Submit, Refuse, Packet, Ack, Echo, Fail, Discard, Reap, Unplug}
use Rattle.usb_kernel.specs.Tickets.{tickets}
use Rattle.usb_io.specs.Streams.{holds}

-- an OUT and an IN endpoint of a device, and the tickets of a handle on each
pub record Exchange : Type 0 where
  pub device : ℕ
  pub output : ℕ
  pub input : ℕ
  pub outs : List ℕ
  pub ins : List ℕ

-- an endpoint is neither of them
abbrev pub IsElsewhere : Exchange → ℕ → ℕ → Type 0
IsElsewhere x d e = d ≡ x.device → (e ≢ x.output) × (e ≢ x.input)

-- a new ticket on one of them is of its handle
abbrev pub IsOwned : Exchange → ℕ → ℕ → ℕ → Type 0
IsOwned x t d e =
    (d ≡ x.device → e ≡ x.output → holds x.outs t ≡ true) ×
    (d ≡ x.device → e ≡ x.input → holds x.ins t ≡ true)

-- an echo from the OUT endpoint to the IN endpoint
abbrev pub IsBetween : Exchange → ℕ → ℕ → ℕ → Type 0
IsBetween x d o i = (d ≡ x.device) × (o ≡ x.output) × (i ≡ x.input)

-- an event leaves the two endpoints alone, or is a submission by their handles, a reap, or an echo
-- between them
abbrev pub IsEchoing : Exchange → List Event → Event → Type 0
IsEchoing x before (Submit t d e m body room deadline) = IsOwned x (length (tickets before)) d e
IsEchoing x before (Refuse t d e m body room errno) = IsElsewhere x d e
IsEchoing x before (Packet d e b) = IsElsewhere x d e
IsEchoing x before (Ack d e) = IsElsewhere x d e
IsEchoing x before (Echo d o i) = IsBetween x d o i ⊎ (IsElsewhere x d o × IsElsewhere x d i)
IsEchoing x before (Fail d e errno) = IsElsewhere x d e
IsEchoing x before (Discard t) = (holds x.outs t ≡ false) × (holds x.ins t ≡ false)
IsEchoing x before (Reap t) = Unit {0}
IsEchoing x before (Unplug d) = d ≢ x.device

-- each event of a journal does so
abbrev pub OnlyEchoes : Exchange → List Event → Type 0
OnlyEchoes x [] = Unit {0}
OnlyEchoes x (event ∷ before) = IsEchoing x before event × OnlyEchoes x before
