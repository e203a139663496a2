-- Framed readers follow their streams.
use Rattle.std.proofs.Common.{◌≡◌, ℕ, ◌≤◌, true, List, [], ◌∷◌, ◌++◌, take, map, append_assoc, Option, Some, refl, ap, sym, ◌∙◌, subst}
use Rattle.std.proofs.lemmas.Option.{none-some, same_Some}
use Rattle.usb_kernel.specs.declared.event.Event.{Event}
use Rattle.usb_kernel.specs.Legal.{IsLawful}
use Rattle.usb_device_endpoint.specs.EndpointState.{EndpointState}
use Rattle.usb_device_host.specs.HostState.{HostState}
use Rattle.usb_io.specs.Readers.{with_read, without_end, is_end}
use Rattle.usb_io.specs.Reads.{Reading}
use Rattle.usb_io.specs.Streams.{Mark, Byte, End}
use Rattle.usb_io.specs.Following.{History, no_history, Follows}
use Rattle.usb_io.proofs.Following.{fresh_follows, later_follows, reading_follows, ending_follows}
use Rattle.usb_session_streams.specs.ReaderCalls.{ReaderCall, read_by, handed_by, is_framed}
use Rattle.usb_session_streams.specs.Framed.{GoesOnToFollow}
use Rattle.usb_session_streams.proofs.ReadsGoOn.{reader_calls-go_on}
use Rattle.usb_session_streams.proofs.FramedCalls.{lawful-before, follows-as, framed_calls-follow}
use Rattle.usb_script_words.specs.declared.framing.Framing.{Framing}
use Rattle.usb_script_words.specs.declared.framing.Framing.TheVariants.{UntilShort}
use Rattle.usb_session_calls.specs.State.{State, Endpoint, Reader, tickets_of, with_host}
use Rattle.usb_session_calls.specs.Readers.{nothing_consumed}
use Rattle.usb_session.proofs.TakenTickets.{taken-are}
use Rattle.usb_session.proofs.ReadersKeep.{made_of, set_to, off_at, called_at, reading_at, Consumes, consumes-with, ReaderLaw}

-- what a framed reader consumed, and which of its endpoint's tickets were taken
abbrev pub history_of : Reader → List Mark → History
history_of x consumed = record { taken = x.before ++ x.taken; consumed = consumed }

-- a reader of an IN endpoint follows its stream
pub record FollowsAt (past : List Event) (x : Reader) (consumed : List Mark) : Type 0 where
  pub input : 128 ≤ x.state.endpoint.address
  pub follows : Follows past x.state (history_of x consumed)

-- so it is of one that is framed
abbrev pub IsFollowing : List Event → Reader → Type 0
IsFollowing past x = (consumed : List Mark) → x.consumed ≡ Some consumed → FollowsAt past x consumed

-- as it is made it has consumed nothing
nothing-is : (taken pending : List ℕ) (consumed : List Mark) → nothing_consumed (taken ++ pending) ≡ Some consumed → (taken ≡ []) × (pending ≡ []) × (consumed ≡ [])
nothing-is [] [] consumed is = (refl, refl, sym (same_Some [] consumed is))
nothing-is [] (t ∷ ts) consumed is = absurd (none-some consumed is)
nothing-is (t ∷ ts) pending consumed is = absurd (none-some consumed is)

made-follows : (past : List Event) (h : Endpoint) (size : ℕ) → 128 ≤ h.state.address → IsFollowing past (made_of h size)
made-follows past h size input consumed is =
    let x = made_of h size in
    let none = nothing-is h.taken h.state.pending consumed is in
    record {
      input = input;
      follows = follows-as past x.state no_history (h.taken ++ []) consumed (ap (λ (l : List ℕ). l ++ []) none.0) none.2 (fresh_follows past x.state none.1 refl refl);
    }

-- behind a call
step-follows : (state : State) (x : Reader) (w : Reading HostState) (before : List Mark) (bytes : List ℕ) (now : Option (List Mark)) → w.reader.endpoint ≡ record x.state.endpoint { pending = w.reader.endpoint.pending } → 128 ≤ x.state.endpoint.address
    → GoesOnToFollow (reading_at state x) w (history_of x before) bytes → FollowsAt w.bus.kernel.past (called_at state now bytes w x) (before ++ map Byte bytes)
step-follows state x w before bytes now rest input g =
    let taken = taken-are (tickets_of state) (tickets_of (with_host state w.bus)) x.state.endpoint.pending w.reader.endpoint.pending g.taken g.came in
    let x' = called_at state now bytes w x in
    record {
      input = subst (λ (e : EndpointState). 128 ≤ e.address) (sym rest) input;
      follows =
          follows-as w.bus.kernel.past w.reader (record { taken = (x.before ++ x.taken) ++ g.taken; consumed = before ++ map Byte bytes }) (x'.before ++ x'.taken) (before ++ map Byte bytes)
          (ap (λ (l : List ℕ). x.before ++ (x.taken ++ l)) taken ∙ sym (append_assoc x.before x.taken g.taken)) refl g.follows;
    }

call-follows : (state : State) (call : ReaderCall) (now : Option (List Mark)) (x : Reader) → Consumes (is_framed call) (map Byte (handed_by call (reading_at state x))) x.consumed now
    → IsLawful (read_by call (reading_at state x)).left.bus.kernel.past → IsFollowing state.host.kernel.past x
    → IsFollowing (read_by call (reading_at state x)).left.bus.kernel.past (called_at state now (handed_by call (reading_at state x)) (read_by call (reading_at state x)).left x)
call-follows state call now x consumes lawful f consumed is =
    let w = reading_at state x in
    let left = (read_by call w).left in
    let bytes = handed_by call w in
    let b = consumes consumed is in
    let was = f b.before b.was in
    let g = framed_calls-follow call w b.within was.input lawful (history_of x b.before) was.follows in
    subst (λ (all : List Mark). FollowsAt left.bus.kernel.past (called_at state now bytes left x) all) b.is
    (step-follows state x left b.before bytes now (reader_calls-go_on call w).endpoint was.input g)

-- what is set is not what it follows by
set-follows : (past : List Event) (n timeout : ℕ) (x : Reader) → IsFollowing past x → IsFollowing past (set_to n timeout x)
set-follows past n timeout x f consumed is =
    let was = f consumed is in
    record { input = was.input; follows = record { mine = was.follows.mine; up = was.follows.up; reaped = was.follows.reaped; read = was.follows.read } }

-- what stands is taken off
read-follows : (past : List Event) (framing : Framing) (n : ℕ) (x : Reader) → IsFollowing past x → IsFollowing past (off_at framing (map Byte (take n x.state.unread)) (take n x.state.unread) (with_read n x.state) x)
read-follows past framing n x f consumed is =
    let b = consumes-with framing (map Byte (take n x.state.unread)) x.consumed consumed is in
    let was = f b.before b.was in
    record {
      input = was.input;
      follows =
          subst (λ (all : List Mark). Follows past (with_read n x.state) (history_of x all)) b.is
          (reading_follows past x.state (history_of x b.before) n was.follows);
    }

end-follows : (past : List Event) (x : Reader) → is_end x.state ≡ true → IsFollowing past x → IsFollowing past (off_at UntilShort (End ∷ []) [] (without_end x.state) x)
end-follows past x ended f consumed is =
    let b = consumes-with UntilShort (End ∷ []) x.consumed consumed is in
    let was = f b.before b.was in
    record {
      input = was.input;
      follows =
          subst (λ (all : List Mark). Follows past (without_end x.state) (history_of x all)) b.is
          (ending_follows past x.state (history_of x b.before) ended was.follows);
    }

pub following : ReaderLaw IsFollowing IsLawful
following =
    record {
      before = lawful-before;
      later = λ old new x extends f consumed is.
          let was = f consumed is in
          record { input = was.input; follows = later_follows old new x.state (history_of x consumed) extends was.follows };
      made = made-follows;
      set = set-follows;
      called = call-follows;
      read = read-follows;
      ended = end-follows;
    }
