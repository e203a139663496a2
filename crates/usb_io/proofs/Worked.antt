-- The laws at two small exchanges, computed.
use Rattle.std.proofs.Common.{◌≡◌, ℕ, ◌+◌, ◌*◌, arith, List, [], ◌∷◌, None, refl, inl}
use Rattle.usb_kernel.specs.declared.event.Event.{Event}
use Rattle.usb_kernel.specs.declared.event.Event.TheVariants.{Submit, Echo, Reap}
use Rattle.usb_kernel.specs.declared.event.Body.TheVariants.{Wanted, Sent}
use Rattle.usb_io.specs.Streams.{stream_of, delivered, IsAscending, Each}
use Rattle.usb_io.specs.Following.{IsMine}
use Rattle.usb_io.specs.Writes.{Call, Accept, Finish, written, marks_of, NoMidFlush}
use Rattle.usb_io.specs.Carried.{AllCarry}
use Rattle.usb_io.specs.Messages.{messages}
use Rattle.usb_io.specs.Exchange.{Exchange, OnlyEchoes}

-- what the laws ask of an exchange, of a journal and of a writer's calls
abbrev AreMet : Exchange → List Event → ℕ → ℕ → List Call → Type 0
AreMet x past m more calls =
    OnlyEchoes x past × NoMidFlush m ((more + 1) * m) calls × AllCarry past x.device x.output m x.outs (written m ((more + 1) * m) calls).transfers ×
    IsAscending x.outs × Each (IsMine past x.device x.input m) x.ins

-- five bytes in packets of at most 2, written in transfers of 4 and read in one of 6
abbrev five : Exchange
five = record { device = 1; output = 2; input = 129; outs = 0 ∷ 2 ∷ []; ins = 1 ∷ [] }

abbrev five_calls : List Call
five_calls = Finish ∷ Accept (5 ∷ []) ∷ Accept (1 ∷ 2 ∷ 3 ∷ 4 ∷ []) ∷ []

abbrev five_past : List Event
five_past =
    Reap 1 ∷ Echo 1 2 129 ∷ Submit 2 1 2 2 (Sent (5 ∷ [])) 1 None ∷ Echo 1 2 129 ∷ Echo 1 2 129 ∷ Submit 1 1 129 2 (Wanted 6) 6 None ∷ Submit 0 1 2 2 (Sent (1 ∷ 2 ∷ 3 ∷ 4 ∷ [])) 4 None ∷ []

pub five_are_met : AreMet five five_past 2 1 five_calls
five_are_met = (
  (tt, (inl (refl, refl, refl), ((λ a b. refl, λ a b. absurd (omega arith)), (inl (refl, refl, refl), (inl (refl, refl, refl), ((λ a b. absurd (omega arith), λ a b. refl), ((λ a b. refl, λ a b. absurd (omega arith)), tt))))))),
  tt,
  (record { s = _; at = refl; device = refl; endpoint = refl; maximum = refl; body = refl }, (record { s = _; at = refl; device = refl; endpoint = refl; maximum = refl; body = refl }, tt)),
  ((omega arith, tt), (tt, tt)),
  (record { s = _; at = refl; device = refl; endpoint = refl; maximum = refl; wanted = 6; body = refl }, tt),
)

pub five_messages : (messages (stream_of 2 (delivered five.ins five_past)) ≡ (1 ∷ 2 ∷ 3 ∷ 4 ∷ 5 ∷ []) ∷ []) × (messages (marks_of five_calls) ≡ (1 ∷ 2 ∷ 3 ∷ 4 ∷ 5 ∷ []) ∷ [])
five_messages = (refl, refl)

-- an empty message comes, and of the next one, of a byte, nothing yet
abbrev empty : Exchange
empty = record { device = 1; output = 2; input = 129; outs = 1 ∷ 2 ∷ []; ins = 0 ∷ [] }

abbrev empty_calls : List Call
empty_calls = Finish ∷ Accept (7 ∷ []) ∷ Finish ∷ []

abbrev empty_past : List Event
empty_past = Echo 1 2 129 ∷ Echo 1 2 129 ∷ Submit 2 1 2 2 (Sent (7 ∷ [])) 1 None ∷ Submit 1 1 2 2 (Sent []) 0 None ∷ Submit 0 1 129 2 (Wanted 2) 2 None ∷ []

pub empty_are_met : AreMet empty empty_past 2 0 empty_calls
empty_are_met = (
  (inl (refl, refl, refl), (inl (refl, refl, refl), ((λ a b. refl, λ a b. absurd (omega arith)), ((λ a b. refl, λ a b. absurd (omega arith)), ((λ a b. absurd (omega arith), λ a b. refl), tt))))),
  tt,
  (record { s = _; at = refl; device = refl; endpoint = refl; maximum = refl; body = refl }, (record { s = _; at = refl; device = refl; endpoint = refl; maximum = refl; body = refl }, tt)),
  ((omega arith, tt), (tt, tt)),
  (record { s = _; at = refl; device = refl; endpoint = refl; maximum = refl; wanted = 2; body = refl }, tt),
)

pub empty_messages : (messages (stream_of 2 (delivered empty.ins empty_past)) ≡ [] ∷ []) × (messages (marks_of empty_calls) ≡ [] ∷ (7 ∷ []) ∷ [])
empty_messages = (refl, refl)
