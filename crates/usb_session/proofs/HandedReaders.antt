-- Readers hand over the bytes of their tickets.
use Rattle.std.proofs.Common.{◌≡◌, ◌∙◌, ℕ, List, ◌++◌, take, drop, take-append-drop, append-nil, append_assoc, Option, refl, ap, sym, subst}
use Rattle.std.specs.Prelude.{All}
use Rattle.std.proofs.lemmas.List.Elements.{All-nil, All-append}
use Rattle.usb_kernel.specs.declared.event.Event.{Event}
use Rattle.usb_kernel.specs.Extends.{Extends}
use Rattle.usb_device_host.specs.HostState.{HostState}
use Rattle.usb_io.specs.Reads.{Reading}
use Rattle.usb_io.specs.Streams.{Mark}
use Rattle.usb_session_streams.specs.Handed.{completed_bytes, HandsOver}
use Rattle.usb_session_streams.specs.Told.{IsComplete}
use Rattle.usb_session_streams.specs.ReaderCalls.{read_by, handed_by}
use Rattle.usb_session_streams.proofs.ReadsGoOn.{reader_calls-go_on}
use Rattle.usb_session_streams.proofs.HandedCalls.{complete-later, bytes-later, bytes-append, calls-hand_over}
use Rattle.usb_session_calls.specs.State.{State, Reader, tickets_of, with_host}
use Rattle.usb_session.specs.Output.{start, behind}
use Rattle.usb_session.specs.Behind.{ScriptsGoOn}
use Rattle.usb_session.specs.Handed.{IsHandedOver, ScriptsHandOver}
use Rattle.usb_session.proofs.TakenTickets.{taken-are}
use Rattle.usb_session.proofs.ReadersKeep.{called_at, reading_at, ReaderLaw, behind-all}

-- the bytes of the tickets that a reader took are those that it handed over, and then those that are unread
pub record HandsAt (past : List Event) (x : Reader) : Type 0 where
  pub complete : All (IsComplete past) x.taken
  pub bytes : completed_bytes past x.taken ≡ x.given ++ x.state.unread

is-handed : (past : List Event) (x : Reader) → HandsAt past x → IsHandedOver past x
is-handed past x f =
    let waiting = completed_bytes past x.state.endpoint.pending in
    record {
      complete = f.complete;
      bytes = f.bytes;
      prefix = (
        x.state.unread ++ waiting,
        sym (append_assoc x.given x.state.unread waiting) ∙ ap (λ (bytes : List ℕ). bytes ++ waiting) (sym f.bytes) ∙ sym (bytes-append past x.taken x.state.endpoint.pending),
      );
    }

at-later : (old new : List Event) (x : Reader) → Extends old new → HandsAt old x → HandsAt new x
at-later old new x extends f = record { complete = complete-later old new x.taken extends f.complete; bytes = bytes-later old new x.taken extends f.complete ∙ f.bytes }

-- behind a call, which handed over these bytes
step-hands : (state : State) (x : Reader) (w : Reading HostState) (now : Option (List Mark)) (bytes : List ℕ) → Extends state.host.kernel.past w.bus.kernel.past → HandsOver (reading_at state x) w bytes → HandsAt state.host.kernel.past x
    → HandsAt w.bus.kernel.past (called_at state now bytes w x)
step-hands state x w now bytes extends g f =
    let new = w.bus.kernel.past in
    let was = at-later state.host.kernel.past new x extends f in
    let taken = taken-are (tickets_of state) (tickets_of (with_host state w.bus)) x.state.endpoint.pending w.reader.endpoint.pending g.taken g.tickets in
    let last = completed_bytes new g.taken in
    subst (λ (ts : List ℕ). HandsAt new (record (called_at state now bytes w x) { taken = x.taken ++ ts })) (sym taken)
    (record {
      complete = All-append (IsComplete new) x.taken g.taken was.complete g.complete;
      bytes =
          bytes-append new x.taken g.taken
          ∙ ap (λ (l : List ℕ). l ++ last) was.bytes
          ∙ append_assoc x.given x.state.unread last
          ∙ ap (λ (l : List ℕ). x.given ++ l) g.bytes
          ∙ sym (append_assoc x.given bytes w.reader.unread);
    })

-- no journal is asked for
abbrev AnyPast : List Event → Type 0
AnyPast past = Unit {0}

handing : ReaderLaw HandsAt AnyPast
handing =
    record {
      before = λ old new extends legal. tt;
      later = at-later;
      made = λ past h size input. record { complete = All-nil (IsComplete past); bytes = refl };
      set = λ past n timeout x f. record { complete = f.complete; bytes = f.bytes };
      called = λ state call now x consumes legal f.
          let w = reading_at state x in
          step-hands state x (read_by call w).left now (handed_by call w) (reader_calls-go_on call w).past (calls-hand_over call w) f;
      read = λ past framing n x f.
          let unread = x.state.unread in
          record {
            complete = f.complete;
            bytes = f.bytes ∙ ap (λ (l : List ℕ). x.given ++ l) (sym (take-append-drop n unread)) ∙ sym (append_assoc x.given (take n unread) (drop n unread));
          };
      ended = λ past x is f. record { complete = f.complete; bytes = f.bytes ∙ ap (λ (l : List ℕ). l ++ x.state.unread) (sym (append-nil x.given)) };
    }

-- behind the lines of a script
pub hand-by : ScriptsGoOn → ScriptsHandOver
hand-by go items before after all r x at =
    let state = behind (start items) before in
    is-handed state.host.kernel.past x (behind-all HandsAt AnyPast handing go items before tt r x at)
