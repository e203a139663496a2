-- What a line of a client of messages prints, and what it leaves of the host and the client.
use Rattle.std.specs.Prelude.{ℕ, ◌≡◌, ◌≢◌, ◌++◌, ◌⊎◌, Bool, true, false, List, Result, Err, OnOk, String, string_bytes}
use Rattle.std.specs.declared.alloc.Global.{Global}
use Rattle.usb_kernel.specs.Extends.{Extends}
use Rattle.usb_device_endpoint.specs.EndpointState.{EndpointState}
use Rattle.usb_device_endpoint.specs.Handles.{KeepsOthers}
use Rattle.usb_device_host.specs.HostState.{HostState}
use Rattle.usb_device_host.specs.HostBus.{bus_of}
use Rattle.usb_device_host.specs.HostFrames.{LineGoesOn}
use Rattle.usb_msg.specs.Clients.{StandBoth}
use Rattle.usb_msg.specs.Requests.{Messaging, Message}
use Rattle.usb_msg.specs.declared.error.MsgError.{MsgError}
use Rattle.usb_msg.specs.declared.error.MsgError.TheVariants.{Memory}
use Rattle.usb_session_text.specs.Calls.{condition_line}
use Rattle.usb_session_streams.specs.Accounts.{KeepsAccountsOf}

-- a barred call changed nothing. Any other answered otherwise than by want of memory, printed its
-- line, and left host and client so
abbrev pub ClientCameTo : {A : Type 0} → Bool → (Result A MsgError → List ℕ) → Message A HostState →
    List ℕ → List ℕ → Messaging HostState → Messaging HostState → Type 0
ClientCameTo true line a before after old new = (after ≡ before ++ condition_line) × (new ≡ old)
ClientCameTo false line a before after old new =
    (a.answer ≢ Err Memory) × (after ≡ before ++ line a.answer) × (new ≡ a.left)

-- so is it of a call that answers so; of want of memory nothing is said
abbrev pub ClientPrints : {A E : Type 0} → Bool → (Result A MsgError → List ℕ) →
    Message A HostState → String Global → String Global →
    Messaging HostState → Messaging HostState → Result Unit E → Type 0
ClientPrints barred line a before after old new result =
    OnOk result (ClientCameTo barred line a (string_bytes before) (string_bytes after) old new)

-- where memory is lacking a barred call changed nothing. Any other left what it comes to, and its
-- line lacked memory; or it lacked memory itself, and left what is so of it then
abbrev pub ClientShort : Bool → Messaging HostState →
    (Messaging HostState → Messaging HostState → Type 0) →
    Messaging HostState → Messaging HostState → Type 0
ClientShort true left short old new = new ≡ old
ClientShort false left short old new = (new ≡ left) ⊎ short old new

-- what is open stays open, steps are taken from the front of the line alone, the journal goes on,
-- both endpoints stand, the one that the call is on keeps all but what is pending (x is that one
-- before the call, and y after it), what endpoints of other keys hold has not ended, and the
-- accounts are kept
pub record ClientKeeps (old new : Messaging HostState) (x y : EndpointState) : Type 0 where
  pub line : LineGoesOn old.bus new.bus
  pub past : Extends old.bus.kernel.past new.bus.kernel.past
  pub stand : StandBoth (bus_of new.bus) new.client
  pub endpoint : y ≡ record x { pending = y.pending }
  pub others : KeepsOthers (bus_of old.bus) (bus_of new.bus) x.key
  pub accounts : KeepsAccountsOf old.bus new.bus x.key x.pending y.pending
