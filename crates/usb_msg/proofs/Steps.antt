-- Each step of a client keeps what its tickets say.
use Rattle.std.proofs.Common.{◌∙◌, ◌≡◌, ℕ, ◌+◌, ◌<◌, arith, List, [], ◌∷◌, ◌++◌, length, length-append, append-nil, append_assoc, Option, Some, None, true, refl, ap, sym, map}
use Rattle.std.proofs.lemmas.List.{map-append}
use Rattle.std.proofs.lemmas.Option.{none-some}
use Rattle.usb_kernel.specs.declared.event.Event.{Event}
use Rattle.usb_io.specs.Streams.{Mark, Byte, End}
use Rattle.usb_io.specs.Readers.{ReaderState, without_end, is_end}
use Rattle.usb_io.specs.Writers.{WriterState}
use Rattle.usb_io.specs.Following.{History, Follows, with_consumed}
use Rattle.usb_io.specs.Carried.{Tells}
use Rattle.usb_io.specs.Writes.{Call, Accept, Flush, Finish, marks_of}
use Rattle.usb_io.proofs.Following.{fresh_follows, later_follows, ending_follows}
use Rattle.usb_io.proofs.CarriedLaws.{fresh_tells, later_tells}
use Rattle.usb_msg.specs.Frames.{framed, marks_from}
use Rattle.usb_msg.specs.Clients.{ClientState}
use Rattle.usb_msg.specs.Histories.{ClientHistory, Keeps}
use Rattle.usb_msg.specs.declared.error.Ending.{Ending}
use Rattle.usb_msg.specs.Laws.{FreshKeeps, LaterKeeps}

pub fresh_keeps : FreshKeeps
fresh_keeps past out inp none_out none_in = record {
  tells = fresh_tells past out 4160 none_out;
  wrote = record { rest = []; are = refl; none = λ goes. refl; whole = λ goes. tt };
  follows = fresh_follows past _ none_in refl refl;
  read = record { rest = []; are = refl; begun = λ goes. refl };
  requests = refl;
  responses = refl;
  few = omega arith;
}

pub later_keeps : LaterKeeps
later_keeps old new c h extends k = record {
  tells = later_tells old new c.writer h.written extends k.tells;
  wrote = record { rest = k.wrote.rest; are = k.wrote.are; none = k.wrote.none; whole = k.wrote.whole };
  follows = later_follows old new c.reader h.read extends k.follows;
  read = record { rest = k.read.rest; are = k.read.are; begun = k.read.begun };
  requests = k.requests;
  responses = k.responses;
  few = k.few;
}

-- one more frame
items-push : (tag n : ℕ) (bodies : List (List ℕ)) (body : List ℕ) → n ≡ tag + length bodies → marks_from tag (bodies ++ body ∷ []) ≡ marks_from tag bodies ++ (map Byte (framed n body) ++ End ∷ [])
items-push tag n [] body is = let same : tag ≡ n = omega (arith, is) in ap (λ (t : ℕ). map Byte (framed t body) ++ End ∷ []) same
items-push tag n (b ∷ bodies) body is =
    let more : length (b ∷ bodies) ≡ length bodies + 1 = omega arith in
    ap (λ (xs : List Mark). map Byte (framed tag b) ++ (End ∷ xs)) (items-push (tag + 1) n bodies body (omega (arith, is, more)))
    ∙ sym (append_assoc (map Byte (framed tag b)) (End ∷ marks_from (tag + 1) bodies) (map Byte (framed n body) ++ End ∷ []))

-- where no bytes stand behind the frames
items-whole : (items frames : List Mark) (rest : List ℕ) → items ≡ frames ++ map Byte rest → rest ≡ [] → items ≡ frames
items-whole items frames rest are none = are ∙ ap (λ (xs : List ℕ). frames ++ map Byte xs) none ∙ append-nil frames

-- a new writer that is of the same endpoint and size
pub record IsSameWriter (w w' : WriterState) : Type 0 where
  pub maximum : w'.endpoint.maximum ≡ w.endpoint.maximum
  pub size : w'.size ≡ w.size

-- a writer's history that went on by these accepted calls, with these tickets taken in all
abbrev pub wrote_on : List Call → List ℕ → ClientHistory → ClientHistory
wrote_on calls taken h = record h { written = record { taken = taken; calls = calls } }

-- a reader's history that went on
abbrev pub read_on : History → ClientHistory → ClientHistory
read_on read h = record h { read = read }

-- a client that this has ended
abbrev pub ended_by : Ending → ClientState → ClientState
ended_by why c = record c { ended = Some why }

abbrev pub without_frame : ClientState → ClientState
without_frame c = record c { reader = without_end c.reader; frame = [] }

pub request_keeps :
    (past : List Event) (c : ClientState) (h : ClientHistory) (body taken : List ℕ) (w : WriterState) → c.ended ≡ None → Keeps past c h → IsSameWriter c.writer w → Tells past w (record { taken = taken; calls = Finish ∷ Accept (framed c.requests body) ∷ h.written.calls }) → Keeps past (record c { writer = w; requests = c.requests + 1 }) (wrote_on (Finish ∷ Accept (framed c.requests body) ∷ h.written.calls) taken (record h { requests = h.requests ++ body ∷ [] }))
request_keeps past c h body taken w goes k same tells =
    let so_far : marks_of h.written.calls ≡ marks_from 0 h.requests = items-whole _ _ k.wrote.rest k.wrote.are (k.wrote.none goes) in
    let count = k.requests in
    let few = k.few in
    let due : c.requests ≡ 0 + length h.requests = omega (arith, count) in
    record {
      tells = tells;
      wrote = record {
        rest = [];
        are =
            append_assoc (marks_of h.written.calls) (map Byte (framed c.requests body)) (End ∷ [])
            ∙ ap (λ (xs : List Mark). xs ++ (map Byte (framed c.requests body) ++ End ∷ [])) so_far
            ∙ sym (items-push 0 c.requests h.requests body due)
            ∙ sym (append-nil (marks_from 0 (h.requests ++ body ∷ [])));
        none = λ goes. refl;
        whole = λ goes. rw (same.maximum, same.size) (k.wrote.whole goes);
      };
      follows = k.follows;
      read = record { rest = k.read.rest; are = k.read.are; begun = k.read.begun };
      requests = length-append h.requests (body ∷ []) ∙ omega (arith, count);
      responses = k.responses;
      few = omega (arith, few);
    }

pub unsent_keeps :
    (past : List Event) (c : ClientState) (h : ClientHistory) (taken : List ℕ) (w : WriterState) → Keeps past c h → IsSameWriter c.writer w → Tells past w (record { taken = taken; calls = h.written.calls }) → Keeps past (record c { writer = w }) (wrote_on h.written.calls taken h)
unsent_keeps past c h taken w k same tells = record {
  tells = tells;
  wrote = record { rest = k.wrote.rest; are = k.wrote.are; none = k.wrote.none; whole = λ goes. rw (same.maximum, same.size) (k.wrote.whole goes) };
  follows = k.follows;
  read = record { rest = k.read.rest; are = k.read.are; begun = k.read.begun };
  requests = k.requests;
  responses = k.responses;
  few = k.few;
}

-- a client that has ended does not go on
goes-not : {A : Type 0} (why : Ending) → Some why ≡ None → A
goes-not why goes = absurd (none-some why (sym goes))

pub unended_keeps :
    (past : List Event) (c : ClientState) (h : ClientHistory) (frame taken : List ℕ) (w : WriterState) (why : Ending) → c.ended ≡ None → Keeps past c h → Tells past w (record { taken = taken; calls = Accept frame ∷ h.written.calls }) → Keeps past (ended_by why (record c { writer = w })) (wrote_on (Accept frame ∷ h.written.calls) taken h)
unended_keeps past c h frame taken w why goes k tells =
    let so_far : marks_of h.written.calls ≡ marks_from 0 h.requests = items-whole _ _ k.wrote.rest k.wrote.are (k.wrote.none goes) in
    record {
      tells = tells;
      wrote = record { rest = frame; are = ap (λ (xs : List Mark). xs ++ map Byte frame) so_far; none = λ goes. goes-not why goes; whole = λ goes. goes-not why goes };
      follows = k.follows;
      read = record { rest = k.read.rest; are = k.read.are; begun = λ goes. goes-not why goes };
      requests = k.requests;
      responses = k.responses;
      few = k.few;
    }

pub flushed_keeps :
    (past : List Event) (c : ClientState) (h : ClientHistory) (frame taken : List ℕ) (w : WriterState) (why : Ending) → c.ended ≡ None → Keeps past c h → Tells past w (record { taken = taken; calls = Flush ∷ Accept frame ∷ h.written.calls }) → Keeps past (ended_by why (record c { writer = w })) (wrote_on (Flush ∷ Accept frame ∷ h.written.calls) taken h)
flushed_keeps past c h frame taken w why goes k tells =
    let so_far : marks_of h.written.calls ≡ marks_from 0 h.requests = items-whole _ _ k.wrote.rest k.wrote.are (k.wrote.none goes) in
    record {
      tells = tells;
      wrote = record { rest = frame; are = ap (λ (xs : List Mark). xs ++ map Byte frame) so_far; none = λ goes. goes-not why goes; whole = λ goes. goes-not why goes };
      follows = k.follows;
      read = record { rest = k.read.rest; are = k.read.are; begun = λ goes. goes-not why goes };
      requests = k.requests;
      responses = k.responses;
      few = k.few;
    }

pub piece_keeps :
    (past : List Event) (c : ClientState) (h : ClientHistory) (bytes taken : List ℕ) (r : ReaderState) → c.ended ≡ None → Keeps past c h → Follows past r (record { taken = taken; consumed = h.read.consumed ++ map Byte bytes }) → Keeps past (record c { reader = r; frame = c.frame ++ bytes }) (read_on (record { taken = taken; consumed = h.read.consumed ++ map Byte bytes }) h)
piece_keeps past c h bytes taken r goes k follows = record {
  tells = k.tells;
  wrote = record { rest = k.wrote.rest; are = k.wrote.are; none = k.wrote.none; whole = k.wrote.whole };
  follows = follows;
  read = record {
    rest = k.read.rest ++ map Byte bytes;
    are = ap (λ (xs : List Mark). xs ++ map Byte bytes) k.read.are ∙ append_assoc (marks_from 0 h.responses) k.read.rest (map Byte bytes);
    begun = λ goes. ap (λ (xs : List Mark). xs ++ map Byte bytes) (k.read.begun goes) ∙ sym (map-append Byte c.frame bytes);
  };
  requests = k.requests;
  responses = k.responses;
  few = k.few;
}

pub taken_keeps :
    (past : List Event) (c : ClientState) (h : ClientHistory) (body : List ℕ) → c.ended ≡ None → is_end c.reader ≡ true → c.responses < c.requests → c.frame ≡ framed c.responses body → Keeps past c h → Keeps past (record (without_frame c) { responses = c.responses + 1 }) (read_on (with_consumed (End ∷ []) h.read) (record h { responses = h.responses ++ body ∷ [] }))
taken_keeps past c h body goes end asked is k =
    let count = k.responses in
    let due : c.responses ≡ 0 + length h.responses = omega (arith, count) in
    let begun : k.read.rest ≡ map Byte (framed c.responses body) = k.read.begun goes ∙ ap (map Byte) is in
    record {
      tells = k.tells;
      wrote = record { rest = k.wrote.rest; are = k.wrote.are; none = k.wrote.none; whole = k.wrote.whole };
      follows = ending_follows past c.reader h.read end k.follows;
      read = record {
        rest = [];
        are =
            ap (λ (xs : List Mark). xs ++ End ∷ []) (k.read.are ∙ ap (λ (xs : List Mark). marks_from 0 h.responses ++ xs) begun)
            ∙ append_assoc (marks_from 0 h.responses) (map Byte (framed c.responses body)) (End ∷ [])
            ∙ sym (items-push 0 c.responses h.responses body due)
            ∙ sym (append-nil (marks_from 0 (h.responses ++ body ∷ [])));
        begun = λ goes. refl;
      };
      requests = k.requests;
      responses = length-append h.responses (body ∷ []) ∙ omega (arith, count);
      few = omega (arith, asked);
    }

pub refused_keeps :
    (past : List Event) (c : ClientState) (h : ClientHistory) (why : Ending) → is_end c.reader ≡ true → Keeps past c h → Keeps past (ended_by why (without_frame c)) (read_on (with_consumed (End ∷ []) h.read) h)
refused_keeps past c h why end k = record {
  tells = k.tells;
  wrote = record { rest = k.wrote.rest; are = k.wrote.are; none = λ goes. goes-not why goes; whole = λ goes. goes-not why goes };
  follows = ending_follows past c.reader h.read end k.follows;
  read = record {
    rest = k.read.rest ++ End ∷ [];
    are = ap (λ (xs : List Mark). xs ++ End ∷ []) k.read.are ∙ append_assoc (marks_from 0 h.responses) k.read.rest (End ∷ []);
    begun = λ goes. goes-not why goes;
  };
  requests = k.requests;
  responses = k.responses;
  few = k.few;
}

-- a client that went on ends, or does not
pub ends_keeps : (past : List Event) (c : ClientState) (h : ClientHistory) (e : Option Ending) → c.ended ≡ None → Keeps past c h → Keeps past (record c { ended = e }) h
ends_keeps past c h e goes k = record {
  tells = k.tells;
  wrote = record { rest = k.wrote.rest; are = k.wrote.are; none = λ on. k.wrote.none goes; whole = λ on. k.wrote.whole goes };
  follows = k.follows;
  read = record { rest = k.read.rest; are = k.read.are; begun = λ on. k.read.begun goes };
  requests = k.requests;
  responses = k.responses;
  few = k.few;
}

-- no byte was read, and the reader took tickets at most
pub unread_keeps : (past : List Event) (c : ClientState) (h : ClientHistory) (taken : List ℕ) (r : ReaderState) → Keeps past c h → Follows past r (record { taken = taken; consumed = h.read.consumed }) → Keeps past (record c { reader = r }) (read_on (record { taken = taken; consumed = h.read.consumed }) h)
unread_keeps past c h taken r k follows = record {
  tells = k.tells;
  wrote = record { rest = k.wrote.rest; are = k.wrote.are; none = k.wrote.none; whole = k.wrote.whole };
  follows = follows;
  read = record { rest = k.read.rest; are = k.read.are; begun = k.read.begun };
  requests = k.requests;
  responses = k.responses;
  few = k.few;
}
