-- What a client did from its first call on, and what its tickets say of it.
use Rattle.std.specs.Prelude.{ℕ, ◌≡◌, ◌≤◌, List, [], ◌++◌, length, map, None}
use Rattle.usb_kernel.specs.declared.event.Event.{Event}
use Rattle.usb_kernel.specs.Legal.{IsLawful}
use Rattle.usb_io.specs.Streams.{Mark, Byte}
use Rattle.usb_io.specs.Following.{History, Follows, no_history}
use Rattle.usb_io.specs.Writes.{marks_of, NoMidFlush}
use Rattle.usb_io.specs.Carried.{WriterHistory, Tells, nothing_written}
use Rattle.usb_msg.specs.Frames.{marks_from}
use Rattle.usb_msg.specs.Clients.{ClientState}

-- the bodies of the accepted requests and of the responses, in order; what its writer did, and what
-- its reader did
pub record ClientHistory : Type 0 where
  pub requests : List (List ℕ)
  pub responses : List (List ℕ)
  pub written : WriterHistory
  pub read : History

abbrev pub nothing_done : ClientHistory
nothing_done = record { requests = []; responses = []; written = nothing_written; read = no_history }

-- what was written are the frames of the requests, and nothing more while the client goes on
pub record WroteFrames (c : ClientState) (h : ClientHistory) : Type 0 where
  pub rest : List ℕ
  pub are : marks_of h.written.calls ≡ marks_from 0 h.requests ++ map Byte rest
  pub none : c.ended ≡ None → rest ≡ []
  pub whole : c.ended ≡ None → NoMidFlush c.writer.endpoint.maximum c.writer.size h.written.calls

-- what was consumed are the frames of the responses, and the bytes of the one that has begun while
-- the client goes on
pub record ReadFrames (c : ClientState) (h : ClientHistory) : Type 0 where
  pub rest : List Mark
  pub are : h.read.consumed ≡ marks_from 0 h.responses ++ rest
  pub begun : c.ended ≡ None → rest ≡ map Byte c.frame

-- its tickets say what it did
pub record Keeps (past : List Event) (c : ClientState) (h : ClientHistory) : Type 0 where
  pub tells : Tells past c.writer h.written
  pub wrote : WroteFrames c h
  pub follows : Follows past c.reader h.read
  pub read : ReadFrames c h
  pub requests : length h.requests ≡ c.requests
  pub responses : length h.responses ≡ c.responses
  pub few : c.responses ≤ c.requests

-- a call after which these bodies more were asked, and these more were answered
abbrev pub KeepsOn : List Event → List Event → ClientState → ClientState → List (List ℕ) → List (List ℕ) → Type 0
KeepsOn old new c c' asked told =
    IsLawful new → (h : ClientHistory) → Keeps old c h →
    (h' : ClientHistory) × (h'.requests ≡ h.requests ++ asked) × (h'.responses ≡ h.responses ++ told) × Keeps new c' h'
