-- The life of a client: calls one after another, with whatever comes between.
use Rattle.std.specs.Prelude.{ℕ, ◌≡◌, List, [], ◌∷◌, ◌++◌}
use Rattle.usb_kernel.specs.declared.event.Event.{Event}
use Rattle.usb_kernel.specs.Legal.{IsLawful}
use Rattle.usb_kernel.specs.Extends.{Extends}
use Rattle.usb_device_endpoint.specs.EndpointState.{EndpointState}
use Rattle.usb_msg.specs.Clients.{ClientState, fresh_client}
use Rattle.usb_msg.specs.Histories.{ClientHistory, Keeps, KeepsOn}

-- a call: the journal and the client before it and after it, and the bodies that it asked and told:
-- that of a request which was accepted, or that of a response
pub record Called : Type 0 where
  pub before : List Event
  pub old : ClientState
  pub after : List Event
  pub new : ClientState
  pub asked : List (List ℕ)
  pub told : List (List ℕ)

-- calls in order, each of which does what its contract says. Between two of them the journal goes
-- on, and the client stays
abbrev pub Lives : List Event → ClientState → List Called → List Event → ClientState → Type 0
Lives past c [] now d = Extends past now × (c ≡ d)
Lives past c (m ∷ ms) now d =
    Extends past m.before × (c ≡ m.old) × Extends m.before m.after × KeepsOn m.before m.after m.old m.new m.asked m.told × Lives m.after m.new ms now d

-- all that was asked, and all that was told
abbrev pub asked_in : List Called → List (List ℕ)
asked_in [] = []
asked_in (m ∷ ms) = m.asked ++ asked_in ms

abbrev pub told_in : List Called → List (List ℕ)
told_in [] = []
told_in (m ∷ ms) = m.told ++ told_in ms

-- a new client over endpoints with nothing pending: after any calls its tickets say what these asked
-- and told
abbrev pub ClientsLive : Type 0
ClientsLive =
    (past now : List Event) (out inp : EndpointState) (d : ClientState) (ms : List Called) → out.pending ≡ [] → inp.pending ≡ [] →
    Lives past (fresh_client out inp) ms now d → IsLawful now →
    (h : ClientHistory) × (h.requests ≡ asked_in ms) × (h.responses ≡ told_in ms) × Keeps now d h
