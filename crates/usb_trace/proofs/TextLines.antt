-- The lines of a text of the form of a trace.
use Rattle.std.proofs.Common.{◌≡◌, ℕ, suc, eqb, Bool, true, false, not, List, [], ◌∷◌, ◌++◌, map, flat_map, refl, sym, ap, ◌∙◌, append_assoc, arith}
use Rattle.std.specs.List.{All, list_all}
use Rattle.std.proofs.lemmas.Bool.{and_parts}
use Rattle.std.proofs.lemmas.Bool.Decides.{nat_tests}
use Rattle.std.proofs.lemmas.List.{append-nil}
use Rattle.std.proofs.lemmas.List.Concat.{flat_map-cons}
use Rattle.usb_kernel.specs.declared.event.Event.{Event}
use Rattle.usb_session_text.specs.Words.{spaced}
use Rattle.usb_trace_lines.specs.declared.fate_line.FateLine.{FateLine}
use Rattle.usb_trace_lines.specs.declared.line.TraceLine.{TraceLine}
use Rattle.usb_trace_lines.specs.declared.line.TraceLine.TheVariants as line
use Rattle.usb_trace_lines.specs.Forms.{IsTold, IsFateTold, IsLineTold}
use Rattle.usb_trace.specs.Lines.{lines}
use Rattle.usb_trace_lines.specs.Texts.{event_text, fate_text, line_text, first_line, last_line, trace_text}
use Rattle.usb_trace_lines.proofs.Splits.{is_visible, IsWord, AreWords, line-spaced}
use Rattle.usb_trace_lines.proofs.Told.{name_of, words_behind, text-is, line-are}

-- a byte that ends no line
abbrev goes_on : ℕ → Bool
goes_on b = not (eqb b 10)

visible_goes : (b : ℕ) → is_visible b ≡ true → goes_on b ≡ true
visible_goes b visible = grind (arith, nat_tests)

word_goes : (word rest : List ℕ) → list_all is_visible word ≡ true → list_all goes_on rest ≡ true → list_all goes_on (word ++ rest) ≡ true
word_goes [] rest all more = more
word_goes (b ∷ word) rest all more =
    let parts = and_parts (is_visible b) (list_all is_visible word) all in
    let first : goes_on b ≡ true = visible_goes b parts.0 in
    let others : list_all goes_on (word ++ rest) ≡ true = word_goes word rest parts.1 more in
    rw (first, others) refl

spaced_goes : (word : List ℕ) (words : List (List ℕ)) → IsWord word → AreWords words → list_all goes_on (spaced word words) ≡ true
spaced_goes word [] is are = ap (list_all goes_on) (sym (append-nil word)) ∙ word_goes word [] is.visible refl
spaced_goes word (next ∷ words) is are =
    word_goes word (32 ∷ spaced next words) is.visible (spaced_goes next words are.0 are.1)

line-at : (text rest : List ℕ) → list_all goes_on text ≡ true → lines ((text ++ 10 ∷ []) ++ rest) ≡ (text ++ 10 ∷ []) ∷ lines rest
line-at [] rest all = refl
line-at (b ∷ text) rest all =
    let parts = and_parts (goes_on b) (list_all goes_on text) all in
    let first : eqb b 10 ≡ false = grind arith in
    let others : lines ((text ++ 10 ∷ []) ++ rest) ≡ (text ++ 10 ∷ []) ∷ lines rest = line-at text rest parts.1 in
    rw (first, others) refl

-- a line that is told is one line
pub line-told : (x : TraceLine) (rest : List ℕ) → IsLineTold x → lines (line_text x ++ rest) ≡ line_text x ∷ lines rest
line-told x rest told =
    let text = spaced (name_of x) (words_behind x) in
    let are = line-are x told in
    let whole : line_text x ≡ text ++ 10 ∷ [] = text-is x ∙ line-spaced (name_of x) (words_behind x) in
    rw whole (line-at text rest (spaced_goes (name_of x) (words_behind x) are.0 are.1))

events-told : (events : List Event) (rest : List ℕ) → All IsTold events → lines (flat_map event_text events ++ rest) ≡ map event_text events ++ lines rest
events-told [] rest told = refl
events-told (event ∷ events) rest told =
    ap (λ (t : List ℕ). lines (t ++ rest)) (flat_map-cons event_text event events)
    ∙ ap lines (append_assoc (event_text event) (flat_map event_text events) rest)
    ∙ line-told (line.Event event) (flat_map event_text events ++ rest) (told 0 event (omega arith))
    ∙ ap (λ (ls : List (List ℕ)). event_text event ∷ ls) (events-told events rest (λ k d h. told (suc k) d (omega arith)))

fates-told : (fates : List FateLine) (rest : List ℕ) → All IsFateTold fates → lines (flat_map fate_text fates ++ rest) ≡ map fate_text fates ++ lines rest
fates-told [] rest told = refl
fates-told (f ∷ fates) rest told =
    ap (λ (t : List ℕ). lines (t ++ rest)) (flat_map-cons fate_text f fates)
    ∙ ap lines (append_assoc (fate_text f) (flat_map fate_text fates) rest)
    ∙ line-told (line.Fate f) (flat_map fate_text fates ++ rest) (told 0 f (omega arith))
    ∙ ap (λ (ls : List (List ℕ)). fate_text f ∷ ls) (fates-told fates rest (λ k d h. told (suc k) d (omega arith)))

-- the lines of a text of the form of a trace
pub form-lines : (events : List Event) (fates : List FateLine) → All IsTold events → All IsFateTold fates → lines (trace_text events fates) ≡ first_line ∷ (map event_text events ++ (map fate_text fates ++ last_line ∷ []))
unfolding trace_text
form-lines events fates told fates_told =
    line-told line.First (flat_map event_text events ++ (flat_map fate_text fates ++ last_line)) tt
    ∙ ap (λ (ls : List (List ℕ)). first_line ∷ ls)
    (events-told events (flat_map fate_text fates ++ last_line) told
    ∙ ap (λ (ls : List (List ℕ)). map event_text events ++ ls) (fates-told fates last_line fates_told))
