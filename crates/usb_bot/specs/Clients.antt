-- What a client of Bulk-Only Transport is to its users.
use Rattle.std.specs.Prelude.{ℕ, ◌%◌, ◌≡◌, ◌≢◌, true, [], Option, Some, None}
use Rattle.usb_device_endpoint.specs.BusState.{BusState}
use Rattle.usb_device_endpoint.specs.EndpointState.{EndpointState}
use Rattle.usb_device_endpoint.specs.Handles.{Stands}
use Rattle.usb_bot.specs.declared.error.BotError.{BotError}

-- its endpoints, the tag of the next command, and the error that broke it, if one did
pub record ClientState : Type 0 where
  pub out : EndpointState
  pub inp : EndpointState
  pub next_tag : ℕ
  pub ended : Option BotError

-- a client to begin with
abbrev pub fresh_client : EndpointState → EndpointState → ClientState
fresh_client out inp = record { out = out; inp = inp; next_tag = 0; ended = None }

-- between two calls nothing is pending, and a block is whole packets of the IN endpoint
pub record IsClient (out inp : EndpointState) : Type 0 where
  pub out_idle : out.pending ≡ []
  pub in_idle : inp.pending ≡ []
  pub whole_blocks : 512 % inp.maximum ≡ 0

-- its two endpoints stand in a bus, each by a key of its own
pub record StandBoth (b : BusState) (c : ClientState) : Type 0 where
  pub out : Stands b c.out
  pub inp : Stands b c.inp
  pub apart : c.out.key ≢ c.inp.key

-- what endpoints of further keys hold has not ended, and those that stood stand
pub record KeepsFurther (old new : BusState) (c : ClientState) : Type 0 where
  pub tickets : (t k : ℕ) → k ≢ c.out.key → k ≢ c.inp.key → old.owner t ≡ Some k →
      new.owner t ≡ Some k
  pub keys : (k : ℕ) → k ≢ c.out.key → k ≢ c.inp.key → old.keys k ≡ true → new.keys k ≡ true
  pub stand : (e : EndpointState) → e.key ≢ c.out.key → e.key ≢ c.inp.key → Stands old e →
      Stands new e
