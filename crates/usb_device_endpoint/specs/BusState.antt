-- What a bus is to the endpoints on it.
use Rattle.std.specs.Prelude.{ℕ, Bool, false, List, Option, Some, None, ◌==◌, if◌then◌else◌}
use Rattle.usb_kernel.specs.declared.event.Event.{Event}

-- the events so far, the latest first; the clock in nanoseconds; for each ticket the key of the
-- endpoint that holds it, until it is taken or given up; which keys are those of open endpoints;
-- and a number that falls at each turn but `TimeUp`
pub record BusState : Type 0 where
  pub past : List Event
  pub clock : ℕ
  pub owner : ℕ → Option ℕ
  pub keys : ℕ → Bool
  pub turns_left : ℕ

-- the owners when an endpoint holds one more ticket
abbrev pub with_owner : (ℕ → Option ℕ) → ℕ → ℕ → ℕ → Option ℕ
with_owner owner t k u = if t == u then Some k else owner u

-- the owners when nobody holds a ticket any more
abbrev pub without_owner : (ℕ → Option ℕ) → ℕ → ℕ → Option ℕ
without_owner owner t u = if t == u then None else owner u

-- the open keys when an endpoint has left
abbrev pub without_key : (ℕ → Bool) → ℕ → ℕ → Bool
without_key keys k j = if k == j then false else keys j
