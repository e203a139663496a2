-- The messages of frames, and what a client's tickets say of its responses.
use Rattle.std.proofs.Common.{zero, suc, ◌∙◌, ◌≡◌, ℕ, ◌+◌, arith, List, [], ◌∷◌, ◌++◌, append-nil, append_assoc, Some, refl, ap, sym, slice_get, map, drop}
use Rattle.std.specs.Int.{w32, to_le_bytes}
use Rattle.std.proofs.lemmas.Option.{none-some, same_Some}
use Rattle.usb_io.specs.Streams.{Mark, Byte, End}
use Rattle.usb_io.specs.Following.{stream}
use Rattle.usb_io.proofs.Following.{consumed_is_prefix}
use Rattle.usb_io.specs.Messages.{messages_from, messages}
use Rattle.usb_msg.specs.Frames.{framed, frames_from, marks_from}
use Rattle.usb_msg.specs.Laws.{FramesAreMessages, RequestsAreMessages, ResponsesAreFirst, ResponsesAreMessages, ResponsesAreAsked, AnswersComeBack}

-- bytes go on with what a message began with
from-bytes : (bytes front : List ℕ) (marks : List Mark) → messages_from front (map Byte bytes ++ marks) ≡ messages_from (front ++ bytes) marks
from-bytes [] front marks = ap (λ (xs : List ℕ). messages_from xs marks) (sym (append-nil front))
from-bytes (b ∷ bytes) front marks = from-bytes bytes (front ++ b ∷ []) marks ∙ ap (λ (xs : List ℕ). messages_from xs marks) (append_assoc front (b ∷ []) bytes)

no-end : (bytes front : List ℕ) → messages_from front (map Byte bytes) ≡ []
no-end [] front = refl
no-end (b ∷ bytes) front = no-end bytes (front ++ b ∷ [])

-- frames are the first messages
first-frames : (tag : ℕ) (bodies : List (List ℕ)) (marks : List Mark) → messages (marks_from tag bodies ++ marks) ≡ frames_from tag bodies ++ messages marks
first-frames tag [] marks = refl
first-frames tag (body ∷ bodies) marks =
    ap messages (append_assoc (map Byte (framed tag body)) (End ∷ marks_from (tag + 1) bodies) marks)
    ∙ from-bytes (framed tag body) [] (End ∷ (marks_from (tag + 1) bodies ++ marks))
    ∙ ap (λ (ms : List (List ℕ)). framed tag body ∷ ms) (first-frames (tag + 1) bodies marks)

pub frames_are_messages : FramesAreMessages
frames_are_messages tag bodies bytes =
    first-frames tag bodies (map Byte bytes) ∙ ap (λ (ms : List (List ℕ)). frames_from tag bodies ++ ms) (no-end bytes []) ∙ append-nil (frames_from tag bodies)

pub requests_are_messages : RequestsAreMessages
requests_are_messages past c h keeps = ap messages keeps.wrote.are ∙ frames_are_messages 0 h.requests keeps.wrote.rest

pub responses_are_first : ResponsesAreFirst
responses_are_first past c h keeps =
    let prefix = consumed_is_prefix past c.reader h.read keeps.follows in
    let all : marks_from 0 h.responses ++ (keeps.read.rest ++ prefix.0) ≡ stream past c.reader h.read =
    sym (append_assoc (marks_from 0 h.responses) keeps.read.rest prefix.0) ∙ ap (λ (xs : List Mark). xs ++ prefix.0) (sym keeps.read.are) ∙ prefix.1 in
    (messages (keeps.read.rest ++ prefix.0), sym (first-frames 0 h.responses (keeps.read.rest ++ prefix.0)) ∙ ap messages all)

-- the place of a frame
at-front : {A : Type 0} (xs ys : List A) (k : ℕ) (x : A) → slice_get xs k ≡ Some x → slice_get (xs ++ ys) k ≡ Some x
at-front [] ys k x at = absurd (none-some x at)
at-front (x' ∷ xs) ys zero x at = at
at-front (x' ∷ xs) ys (suc k) x at = at-front xs ys k x at

frame-at : (tag n : ℕ) (bodies : List (List ℕ)) (k : ℕ) (body : List ℕ) → n ≡ tag + k → slice_get bodies k ≡ Some body → slice_get (frames_from tag bodies) k ≡ Some (framed n body)
frame-at tag n [] k body is at = absurd (none-some body at)
frame-at tag n (b ∷ bodies) zero body is at =
    let same : tag ≡ n = omega (arith, is) in
    ap (λ (t : ℕ). Some (framed t b)) same ∙ ap (λ (x : List ℕ). Some (framed n x)) (same_Some b body at)
frame-at tag n (b ∷ bodies) (suc k) body is at = frame-at (tag + 1) n bodies k body (omega (arith, is)) at

pub responses_are_messages : ResponsesAreMessages
responses_are_messages past c h k body keeps at =
    let first = responses_are_first past c h keeps in
    ap (λ (ms : List (List ℕ)). slice_get ms k) (sym first.1) ∙ at-front (frames_from 0 h.responses) first.0 k (framed k body) (frame-at 0 k h.responses k body (omega arith) at)

pub responses_are_asked : ResponsesAreAsked
responses_are_asked past c h keeps =
    let few = keeps.few in
    let asked = keeps.requests in
    let answered = keeps.responses in
    omega (arith, few, asked, answered)

-- one front has one rest
rest-same : (xs ys zs : List ℕ) → xs ++ ys ≡ xs ++ zs → ys ≡ zs
rest-same [] ys zs same = same
rest-same (x ∷ xs) ys zs same = rest-same xs ys zs (ap (drop 1) same)

pub answers_come_back : AnswersComeBack
answers_come_back past c h f keeps answers k asked body request response =
    rest-same (to_le_bytes w32 k) body (f asked) (answers k asked (framed k body) request (responses_are_messages past c h k body keeps response))
