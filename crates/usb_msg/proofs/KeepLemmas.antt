-- What each part of a call keeps of what the client's tickets say.
use Rattle.std.proofs.Common.{◌∙◌, ◌≡◌, ℕ, ◌+◌, ◌<◌, ◌≤◌, List, [], ◌∷◌, ◌++◌, length, append-nil, Option, Some, None, true, refl, ap, sym, subst, map, take, inl, inr, ◌⊎◌}
use Rattle.std.proofs.lemmas.List.{take_at, length-take-le}
use Rattle.usb_kernel.specs.declared.event.Event.{Event}
use Rattle.usb_kernel.specs.Legal.{IsLawful}
use Rattle.usb_kernel.specs.Extends.{Extends}
use Rattle.usb_device_endpoint.specs.BusState.{BusState}
use Rattle.usb_io.specs.Streams.{Mark, Byte}
use Rattle.usb_io.specs.Readers.{ReaderState, without_end, is_end}
use Rattle.usb_io.specs.Writers.{WriterState, KeepsWriter}
use Rattle.usb_device_endpoint.specs.EndpointState.{EndpointState}
use Rattle.usb_io.specs.Following.{Follows, FollowsOn, FollowsRead}
use Rattle.usb_io.specs.Carried.{Tells, TellsOn}
use Rattle.usb_io.specs.Writes.{Call, Accept, Flush, Finish}
use Rattle.std.specs.Prelude.{nat_lt, Bool, false, Result, Ok, Err, IfOk, IfErr, OnErr}
use Rattle.usb_kernel.proofs.Extends.{extends-same}
use Rattle.usb_io.specs.Answered.{Answered, answered}
use Rattle.usb_msg.specs.Frames.{framed, tag_in, body_in, has_tag}
use Rattle.usb_msg.specs.Errors.{error_of}
use Rattle.usb_msg.specs.Responses.{by_tag, by_length, message_taken, without_message}
use Rattle.usb_msg.specs.declared.error.Ending.TheVariants as ending
use Rattle.usb_msg.specs.declared.error.MsgError.{MsgError}
use Rattle.usb_msg.specs.declared.error.MsgError.TheVariants as error
use Rattle.usb_msg.specs.Clients.{ClientState}
use Rattle.usb_msg.specs.Histories.{ClientHistory, Keeps, KeepsOn}
use Rattle.usb_msg.specs.declared.error.Ending.{Ending}
use Rattle.usb_msg.proofs.PieceLemmas.{frame-and}
use Rattle.usb_msg.proofs.Steps.{IsSameWriter, read_on, later_keeps, request_keeps, unsent_keeps, unended_keeps, flushed_keeps, piece_keeps, unread_keeps, ends_keeps, taken_keeps, refused_keeps}

-- the events before a lawful journal's last ones are lawful
pub lawful-before : (old new : List Event) → Extends old new → IsLawful new → IsLawful old
lawful-before old new extends lawful = go extends.more (subst IsLawful extends.is lawful)
  where
    go : (more : List Event) → IsLawful (more ++ old) → IsLawful old
    go [] lawful = lawful
    go (event ∷ more) lawful = go more lawful.1

-- where nothing was asked or told
abbrev Quiet : List Event → List Event → ClientState → ClientState → Type 0
Quiet old new c c' = KeepsOn old new c c' [] []

quiet : (new : List Event) (c' : ClientState) (h h' : ClientHistory) → h'.requests ≡ h.requests → h'.responses ≡ h.responses → Keeps new c' h'
    → (x : ClientHistory) × (x.requests ≡ h.requests ++ []) × (x.responses ≡ h.responses ++ []) × Keeps new c' x
quiet new c' h h' requests responses k = (h', requests ∙ sym (append-nil h.requests), responses ∙ sym (append-nil h.responses), k)

pub keeps-same : (past : List Event) (c : ClientState) → Quiet past past c c
keeps-same past c lawful h k = quiet past c h h refl refl k

-- one part after another
pub keeps-trans : (x y z : List Event) (a b c : ClientState) (asked told : List (List ℕ)) → Extends y z → Quiet x y a b → KeepsOn y z b c asked told → KeepsOn x z a c asked told
keeps-trans x y z a b c asked told extends first second lawful h k =
    let one = first (lawful-before y z extends lawful) h k in
    let two = second lawful one.0 one.3 in (
      two.0,
      two.1 ∙ ap (λ (xs : List (List ℕ)). xs ++ asked) (one.1 ∙ append-nil h.requests),
      two.2 ∙ ap (λ (xs : List (List ℕ)). xs ++ told) (one.2 ∙ append-nil h.responses),
      two.3,
    )

-- the same of a client that is this one
pub keeps-from : (old new : List Event) (x c c' : ClientState) (asked told : List (List ℕ)) → c ≡ x → KeepsOn old new c c' asked told → KeepsOn old new x c' asked told
keeps-from old new x c c' asked told is = subst (λ (x : ClientState). KeepsOn old new x c' asked told) is

-- a client that went on ends, or does not
pub keeps-ends : (x y : List Event) (a b : ClientState) (e : Option Ending) → b.ended ≡ None → Quiet x y a b → Quiet x y a (record b { ended = e })
keeps-ends x y a b e goes so_far lawful h k =
    let one = so_far lawful h k in (one.0, one.1, one.2, ends_keeps y b one.0 e goes one.3)

module _ (old new : BusState) (c : ClientState) (extends : Extends old.past new.past) where
  later : (h : ClientHistory) → Keeps old.past c h → Keeps new.past c h
  later h k = later_keeps old.past new.past c h extends k

  -- bytes of a message were read into the room behind a frame
  pub keeps-piece : (r r' : ReaderState) (room dest post : List ℕ) (filled n : ℕ) → c.ended ≡ None → c.frame ≡ take filled room → r ≡ c.reader → filled ≤ length room → n ≤ length dest
      → FollowsRead old new r r' (take n dest) → Quiet old.past new.past c (record c { reader = r'; frame = take (filled + n) (take filled room ++ (dest ++ post)) })
  keeps-piece r r' room dest post filled n goes frame same within count follows lawful h k =
      let bytes : c.frame ++ take n dest ≡ take (filled + n) (take filled room ++ (dest ++ post)) = ap (λ (xs : List ℕ). xs ++ take n dest) frame ∙ frame-and room dest post filled n within count in
      let on = follows lawful h.read (subst (λ (x : ReaderState). Follows old.past x h.read) (sym same) k.follows) in
      let known : Follows new.past r' (record { taken = on.0.taken; consumed = h.read.consumed ++ map Byte (take n dest) }) = subst (λ (xs : List Mark). Follows new.past r' (record { taken = on.0.taken; consumed = xs })) on.1 on.2 in
      let all = piece_keeps new.past c h (take n dest) on.0.taken r' goes (later h k) known in
      quiet new.past _ h _ refl refl (subst (λ (xs : List ℕ). Keeps new.past (record c { reader = r'; frame = xs }) (read_on (record { taken = on.0.taken; consumed = h.read.consumed ++ map Byte (take n dest) }) h)) bytes all)

  -- none was, and the room is as it was
  pub keeps-unread : (r r' : ReaderState) → r ≡ c.reader → FollowsOn old new r r' → Quiet old.past new.past c (record c { reader = r' })
  keeps-unread r r' same follows lawful h k =
      let on = follows lawful h.read (subst (λ (x : ReaderState). Follows old.past x h.read) (sym same) k.follows) in
      let known : Follows new.past r' (record { taken = on.0.taken; consumed = h.read.consumed }) = subst (λ (xs : List Mark). Follows new.past r' (record { taken = on.0.taken; consumed = xs })) on.1 on.2 in
      quiet new.past _ h _ refl refl (unread_keeps new.past c h on.0.taken r' (later h k) known)

  same-writer : (w : WriterState) → KeepsWriter c.writer w → IsSameWriter c.writer w
  same-writer w settings = record { maximum = ap (λ (e : EndpointState). e.maximum) settings.endpoint; size = settings.size }

  -- a writer went on by these calls
  told-by : (w : WriterState) (calls : List Call) (h : ClientHistory) → TellsOn old new c.writer w calls → Keeps old.past c h → (taken : List ℕ) × Tells new.past w (record { taken = taken; calls = calls ++ h.written.calls })
  told-by w calls h tells k =
      let on = tells h.written k.tells in (on.0.taken, subst (λ (cs : List Call). Tells new.past w (record { taken = on.0.taken; calls = cs })) on.2 on.4)

  -- a request was accepted
  pub keeps-request : (w : WriterState) (body : List ℕ) → c.ended ≡ None → KeepsWriter c.writer w → TellsOn old new c.writer w (Finish ∷ Accept (framed c.requests body) ∷ [])
      → KeepsOn old.past new.past c (record c { writer = w; requests = c.requests + 1 }) (body ∷ []) []
  keeps-request w body goes settings tells lawful h k =
      let on = told-by w (Finish ∷ Accept (framed c.requests body) ∷ []) h tells k in
      (_, refl, sym (append-nil h.responses), request_keeps new.past c h body on.0 w goes (later h k) (same-writer w settings) on.1)

  -- none was
  pub keeps-unsent : (w : WriterState) → KeepsWriter c.writer w → TellsOn old new c.writer w [] → Quiet old.past new.past c (record c { writer = w })
  keeps-unsent w settings tells lawful h k =
      let on = told-by w [] h tells k in
      quiet new.past _ h _ refl refl (unsent_keeps new.past c h on.0 w (later h k) (same-writer w settings) on.1)

  -- its end found no memory
  pub keeps-unended : (w : WriterState) (frame : List ℕ) (why : Ending) → c.ended ≡ None → TellsOn old new c.writer w (Accept frame ∷ []) ⊎ TellsOn old new c.writer w (Flush ∷ Accept frame ∷ [])
      → Quiet old.past new.past c (record c { writer = w; ended = Some why })
  keeps-unended w frame why goes (inl tells) lawful h k =
      let on = told-by w (Accept frame ∷ []) h tells k in
      quiet new.past _ h _ refl refl (unended_keeps new.past c h frame on.0 w why goes (later h k) on.1)
  keeps-unended w frame why goes (inr tells) lawful h k =
      let on = told-by w (Flush ∷ Accept frame ∷ []) h tells k in
      quiet new.past _ h _ refl refl (flushed_keeps new.past c h frame on.0 w why goes (later h k) on.1)

-- the same of a client (x) that is this one, with the room as it is then
module _ (old new : BusState) (x c : ClientState) (is : c ≡ x) (extends : Extends old.past new.past) where
  pub reads-piece : (r r' : ReaderState) (room room' dest post : List ℕ) (filled n : ℕ) → room' ≡ take filled room ++ (dest ++ post) → x.ended ≡ None → c.frame ≡ take filled room → r ≡ c.reader → filled ≤ length room → n ≤ length dest
      → FollowsRead old new r r' (take n dest) → Quiet old.past new.past x (record c { reader = r'; frame = take (filled + n) room' })
  reads-piece r r' room room' dest post filled n is' goes frame same within count follows =
      subst (λ (x : ClientState). Quiet old.past new.past x (record c { reader = r'; frame = take (filled + n) room' })) is
      (subst (λ (xs : List ℕ). Quiet old.past new.past c (record c { reader = r'; frame = take (filled + n) xs })) (sym is')
      (keeps-piece old new c extends r r' room dest post filled n (ap (λ (x : ClientState). x.ended) is ∙ goes) frame same within count follows))

  pub reads-none : (r r' : ReaderState) (room room' rest : List ℕ) (filled : ℕ) → room' ≡ take filled room ++ rest → c.frame ≡ take filled room → r ≡ c.reader → filled ≤ length room
      → FollowsOn old new r r' → Quiet old.past new.past x (record c { reader = r'; frame = take filled room' })
  reads-none r r' room room' rest filled is' frame same within follows =
      let here : c.frame ≡ take filled room' = frame ∙ sym (take_at (take filled room) rest filled (length-take-le filled room within)) ∙ ap (take filled) (sym is') in
      subst (λ (x : ClientState). Quiet old.past new.past x (record c { reader = r'; frame = take filled room' })) is
      (subst (λ (xs : List ℕ). Quiet old.past new.past c (record c { reader = r'; frame = xs })) here (keeps-unread old new c extends r r' same follows))

module _ (past : List Event) (c : ClientState) (goes : c.ended ≡ None) (end : is_end c.reader ≡ true) where
  -- the message that came is the frame that is due
  pub keeps-taken : (body : List ℕ) → c.responses < c.requests → c.frame ≡ framed c.responses body
      → KeepsOn past past c (record c { reader = without_end c.reader; frame = []; responses = c.responses + 1 }) [] (body ∷ [])
  keeps-taken body asked is lawful h k = (_, sym (append-nil h.requests), refl, taken_keeps past c h body goes end asked is k)

  -- or none that is due
  pub keeps-refused : (why : Ending) → Quiet past past c (record c { reader = without_end c.reader; frame = []; ended = Some why })
  keeps-refused why lawful h k = quiet past _ h _ refl refl (refused_keeps past c h why end k)

by-tag-ok : (b : Bool) (message : List ℕ) (c c' : ClientState) (body : List ℕ) → by_tag b message c ≡ answered (Ok body) c' → c' ≡ record c { responses = c.responses + 1 }
by-tag-ok true message c c' body is = sym (ap (λ (a : Answered (List ℕ) MsgError ClientState). a.left) is)
by-tag-ok false message c c' body is = absurd (let same : Err (error_of (ending.WrongTag c.responses (tag_in message))) ≡ Ok body = ap (λ (a : Answered (List ℕ) MsgError ClientState). a.answer) is in cc)

by-length-ok : (b : Bool) (message : List ℕ) (c c' : ClientState) (body : List ℕ) → by_length b message c ≡ answered (Ok body) c' → c' ≡ record c { responses = c.responses + 1 }
by-length-ok true message c c' body is = absurd (let same : Err (error_of (ending.Short (length message))) ≡ Ok body = ap (λ (a : Answered (List ℕ) MsgError ClientState). a.answer) is in cc)
by-length-ok false message c c' body is = by-tag-ok (has_tag c.responses message) message c c' body is

by-tag-err : (b : Bool) (message : List ℕ) (c c' : ClientState) (e : MsgError) → by_tag b message c ≡ answered (Err e) c' → (why : Ending) × (c' ≡ record c { ended = Some why })
by-tag-err true message c c' e is = absurd (let same : Ok (body_in message) ≡ Err e = ap (λ (a : Answered (List ℕ) MsgError ClientState). a.answer) is in cc)
by-tag-err false message c c' e is = (ending.WrongTag c.responses (tag_in message), sym (ap (λ (a : Answered (List ℕ) MsgError ClientState). a.left) is))

by-length-err : (b : Bool) (message : List ℕ) (c c' : ClientState) (e : MsgError) → by_length b message c ≡ answered (Err e) c' → (why : Ending) × (c' ≡ record c { ended = Some why })
by-length-err true message c c' e is = (ending.Short (length message), sym (ap (λ (a : Answered (List ℕ) MsgError ClientState). a.left) is))
by-length-err false message c c' e is = by-tag-err (has_tag c.responses message) message c c' e is

-- what comes of the message that came, behind its reads
module _ (x y : List Event) (a c c' : ClientState) (goes : c.ended ≡ None) (end : is_end c.reader ≡ true) (so_far : Quiet x y a c) where
  pub message-told : (body : List ℕ) → c.responses < c.requests → c.frame ≡ framed c.responses body → message_taken c ≡ answered (Ok body) c' → KeepsOn x y a c' [] (body ∷ [])
  message-told body asked is taken =
      let left = by-length-ok (nat_lt (length c.frame) 4) c.frame (without_message c) c' body taken in
      subst (λ (c' : ClientState). KeepsOn x y a c' [] (body ∷ [])) (sym left)
      (keeps-trans x y y a c _ [] (body ∷ []) (extends-same y) so_far (keeps-taken y c goes end body asked is))

  pub message-none : (e : MsgError) → (message_taken c ≡ answered (Err e) c') ⊎ ((e ≡ error.Memory) × (c' ≡ c)) → Quiet x y a c'
  message-none e (inl refused) =
      let left = by-length-err (nat_lt (length c.frame) 4) c.frame (without_message c) c' e refused in
      subst (λ (c' : ClientState). Quiet x y a c') (sym left.1)
      (keeps-trans x y y a c _ [] [] (extends-same y) so_far (keeps-refused y c goes end left.0))
  message-none e (inr short) = subst (λ (c' : ClientState). Quiet x y a c') (sym short.1) so_far

  pub ok-told : {V : Type 0} (r : Result V MsgError) (items : V → List ℕ) → c.responses < c.requests → IfOk r (λ b. message_taken c ≡ answered (Ok (items b)) c') → IfOk r (λ b. c.frame ≡ framed c.responses (items b)) → IfOk r (λ b. KeepsOn x y a c' [] (items b ∷ []))
  ok-told (Ok b) items asked taken is = message-told (items b) asked is taken
  ok-told (Err e) items asked taken is = tt

  pub err-none : {V : Type 0} (r : Result V MsgError) → IfErr r (λ e. (message_taken c ≡ answered (Err e) c') ⊎ ((e ≡ error.Memory) × (c' ≡ c))) → OnErr r (Quiet x y a c')
  err-none (Ok b) refused = tt
  err-none (Err e) refused = message-none e refused
