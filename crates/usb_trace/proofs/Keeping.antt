-- The lines that were read, by what they tell.
use Rattle.std.proofs.Common.{◌≡◌, ◌≢◌, ℕ, ◌+◌, List, [], ◌∷◌, ◌++◌, length, map, flat_map, Some, refl, sym, ap, ◌∙◌, append_assoc, arith}
use Rattle.std.specs.List.{All}
use Rattle.std.proofs.lemmas.List.{append-nil, map-append, length-append, length-map}
use Rattle.std.proofs.lemmas.List.Concat.{flat_map-cons, flat_map-append}
use Rattle.usb_kernel.specs.declared.event.Event.{Event}
use Rattle.usb_trace_lines.specs.declared.fate_line.FateLine.{FateLine}
use Rattle.usb_trace_lines.specs.declared.line.TraceLine.{TraceLine}
use Rattle.usb_trace_lines.specs.declared.line.TraceLine.TheVariants as line
use Rattle.usb_trace_lines.specs.declared.order.Phase.{Phase}
use Rattle.usb_trace_lines.specs.declared.order.Phase.TheVariants.{Start, Events, Fates, End}
use Rattle.usb_trace_lines.specs.Forms.{IsTold, IsFateTold, IsLineTold}
use Rattle.usb_trace_lines.specs.Order.{next_phase, phase_behind}
use Rattle.usb_trace_lines.specs.Texts.{event_text, fate_text, line_text, last_line, trace_text}
use Rattle.usb_trace.specs.Read.{lines_up_to, FitsPhase, events_with, fates_with}
use Rattle.usb_trace.proofs.Malformed.{head-told, tail-told}
use Rattle.usb_trace.proofs.TextRead.{all-none, all-cons}

-- ---- in order

events-behind : (es : List Event) (more : List TraceLine) → phase_behind Events (map line.Event es ++ more) ≡ phase_behind Events more
events-behind [] more = refl
events-behind (e ∷ es) more = events-behind es more

fates-behind : (fs : List FateLine) (more : List TraceLine) → phase_behind Fates (map line.Fate fs ++ more) ≡ phase_behind Fates more
fates-behind [] more = refl
fates-behind (f ∷ fs) more = fates-behind fs more

ended-behind : (fs : List FateLine) → phase_behind Events (map line.Fate fs ++ line.Last ∷ []) ≡ Some End
ended-behind [] = refl
ended-behind (f ∷ fs) = fates-behind fs (line.Last ∷ [])

some-behind : (fs : List FateLine) → fs ≢ [] → phase_behind Events (map line.Fate fs) ≡ Some Fates
some-behind [] some = absurd (some refl)
some-behind (f ∷ fs) some = ap (phase_behind Fates) (sym (append-nil (map line.Fate fs))) ∙ fates-behind fs []

pub phase-is : (p : Phase) (es : List Event) (fs : List FateLine) → FitsPhase p es fs → phase_behind Start (lines_up_to p es fs) ≡ Some p
phase-is Start es fs fits = refl
phase-is Events es fs fits = ap (phase_behind Events) (sym (append-nil (map line.Event es))) ∙ events-behind es []
phase-is Fates es fs fits = events-behind es (map line.Fate fs) ∙ some-behind fs fits
phase-is End es fs fits = events-behind es (map line.Fate fs ++ line.Last ∷ []) ∙ ended-behind fs

-- ---- one line more

pushed-some : {X : Type 0} (xs : List X) (x : X) → xs ++ x ∷ [] ≢ []
pushed-some [] x is = cc
pushed-some (y ∷ xs) x is = cc

pub fits-more : (p q : Phase) (es : List Event) (fs : List FateLine) (x : TraceLine) → FitsPhase p es fs → next_phase p x ≡ Some q → FitsPhase q (events_with es x) (fates_with fs x)
fits-more Start q es fs line.First fits next = let h : Events ≡ q = cc in rw (← h) fits.1
fits-more Start q es fs (line.Event e) fits next = absurd (let h = next in cc)
fits-more Start q es fs (line.Fate f) fits next = absurd (let h = next in cc)
fits-more Start q es fs line.Last fits next = absurd (let h = next in cc)
fits-more Events q es fs line.First fits next = absurd (let h = next in cc)
fits-more Events q es fs (line.Event e) fits next = let h : Events ≡ q = cc in rw (← h) fits
fits-more Events q es fs (line.Fate f) fits next = let h : Fates ≡ q = cc in rw (← h) (pushed-some fs f)
fits-more Events q es fs line.Last fits next = let h : End ≡ q = cc in rw (← h) tt
fits-more Fates q es fs line.First fits next = absurd (let h = next in cc)
fits-more Fates q es fs (line.Event e) fits next = absurd (let h = next in cc)
fits-more Fates q es fs (line.Fate f) fits next = let h : Fates ≡ q = cc in rw (← h) (pushed-some fs f)
fits-more Fates q es fs line.Last fits next = let h : End ≡ q = cc in rw (← h) tt
fits-more End q es fs line.First fits next = absurd (let h = next in cc)
fits-more End q es fs (line.Event e) fits next = absurd (let h = next in cc)
fits-more End q es fs (line.Fate f) fits next = absurd (let h = next in cc)
fits-more End q es fs line.Last fits next = absurd (let h = next in cc)

abbrev behind_first : List TraceLine → List TraceLine
behind_first xs = line.First ∷ xs

fates-more : (es : List Event) (fs : List FateLine) (f : FateLine) → map line.Event es ++ map line.Fate (fs ++ f ∷ []) ≡ (map line.Event es ++ map line.Fate fs) ++ line.Fate f ∷ []
fates-more es fs f =
    ap (λ (l : List TraceLine). map line.Event es ++ l) (map-append line.Fate fs (f ∷ []))
    ∙ sym (append_assoc (map line.Event es) (map line.Fate fs) (line.Fate f ∷ []))

pub lines-more : (p q : Phase) (es : List Event) (fs : List FateLine) (x : TraceLine) → FitsPhase p es fs → next_phase p x ≡ Some q → lines_up_to q (events_with es x) (fates_with fs x) ≡ lines_up_to p es fs ++ x ∷ []
lines-more Start q es fs line.First fits next = let h : Events ≡ q = cc in rw (← h, fits.0) refl
lines-more Start q es fs (line.Event e) fits next = absurd (let h = next in cc)
lines-more Start q es fs (line.Fate f) fits next = absurd (let h = next in cc)
lines-more Start q es fs line.Last fits next = absurd (let h = next in cc)
lines-more Events q es fs line.First fits next = absurd (let h = next in cc)
lines-more Events q es fs (line.Event e) fits next = let h : Events ≡ q = cc in rw (← h) (ap behind_first (map-append line.Event es (e ∷ [])))
lines-more Events q es fs (line.Fate f) fits next = let h : Fates ≡ q = cc in rw (← h, fits) refl
lines-more Events q es fs line.Last fits next = let h : End ≡ q = cc in rw (← h, fits) refl
lines-more Fates q es fs line.First fits next = absurd (let h = next in cc)
lines-more Fates q es fs (line.Event e) fits next = absurd (let h = next in cc)
lines-more Fates q es fs (line.Fate f) fits next = let h : Fates ≡ q = cc in rw (← h) (ap behind_first (fates-more es fs f))
lines-more Fates q es fs line.Last fits next =
    let h : End ≡ q = cc in rw (← h) (ap behind_first (sym (append_assoc (map line.Event es) (map line.Fate fs) (line.Last ∷ []))))
lines-more End q es fs line.First fits next = absurd (let h = next in cc)
lines-more End q es fs (line.Event e) fits next = absurd (let h = next in cc)
lines-more End q es fs (line.Fate f) fits next = absurd (let h = next in cc)
lines-more End q es fs line.Last fits next = absurd (let h = next in cc)

-- ---- all lines

events-text : (es : List Event) → flat_map line_text (map line.Event es) ≡ flat_map event_text es
events-text [] = refl
events-text (e ∷ es) =
    flat_map-cons line_text (line.Event e) (map line.Event es)
    ∙ ap (λ (l : List ℕ). event_text e ++ l) (events-text es)
    ∙ sym (flat_map-cons event_text e es)

fates-text : (fs : List FateLine) → flat_map line_text (map line.Fate fs) ≡ flat_map fate_text fs
fates-text [] = refl
fates-text (f ∷ fs) =
    flat_map-cons line_text (line.Fate f) (map line.Fate fs)
    ∙ ap (λ (l : List ℕ). fate_text f ++ l) (fates-text fs)
    ∙ sym (flat_map-cons fate_text f fs)

-- the text of all lines
pub whole-text : (es : List Event) (fs : List FateLine) → flat_map line_text (lines_up_to End es fs) ≡ trace_text es fs
unfolding trace_text
whole-text es fs =
    flat_map-cons line_text line.First (map line.Event es ++ (map line.Fate fs ++ line.Last ∷ []))
    ∙ ap (λ (l : List ℕ). line_text line.First ++ l)
    (flat_map-append line_text (map line.Event es) (map line.Fate fs ++ line.Last ∷ [])
    ∙ ap (λ (l : List ℕ). l ++ flat_map line_text (map line.Fate fs ++ line.Last ∷ [])) (events-text es)
    ∙ ap (λ (l : List ℕ). flat_map event_text es ++ l)
    (flat_map-append line_text (map line.Fate fs) (line.Last ∷ [])
    ∙ ap (λ (l : List ℕ). l ++ flat_map line_text (line.Last ∷ [])) (fates-text fs)
    ∙ ap (λ (l : List ℕ). flat_map fate_text fs ++ l) (flat_map-cons line_text line.Last [] ∙ append-nil last_line)))

-- what they tell is in range
split-events : (es : List Event) (more : List TraceLine) → All IsLineTold (map line.Event es ++ more) → All IsTold es × All IsLineTold more
split-events [] more all = (all-none IsTold, all)
split-events (e ∷ es) more all =
    let rest = map line.Event es ++ more in
    let others = split-events es more (tail-told (line.Event e) rest all) in
    (all-cons IsTold e es (head-told (line.Event e) rest all) others.0, others.1)

split-fates : (fs : List FateLine) (more : List TraceLine) → All IsLineTold (map line.Fate fs ++ more) → All IsFateTold fs
split-fates [] more all = all-none IsFateTold
split-fates (f ∷ fs) more all =
    let rest = map line.Fate fs ++ more in
    all-cons IsFateTold f fs (head-told (line.Fate f) rest all) (split-fates fs more (tail-told (line.Fate f) rest all))

pub all-events : (es : List Event) (fs : List FateLine) → All IsLineTold (lines_up_to End es fs) → All IsTold es
all-events es fs all = (split-events es (map line.Fate fs ++ line.Last ∷ []) (tail-told line.First _ all)).0

pub all-fates : (es : List Event) (fs : List FateLine) → All IsLineTold (lines_up_to End es fs) → All IsFateTold fs
all-fates es fs all = split-fates fs (line.Last ∷ []) (split-events es (map line.Fate fs ++ line.Last ∷ []) (tail-told line.First _ all)).1

-- how many there are
pub count-lines : (es : List Event) (fs : List FateLine) → length (lines_up_to End es fs) ≡ length es + length fs + 2
count-lines es fs =
    let events = length-map es line.Event in
    let fates = length-map fs line.Fate in
    let behind = length-append (map line.Fate fs) (line.Last ∷ []) in
    let all = length-append (map line.Event es) (map line.Fate fs ++ line.Last ∷ []) in
    omega arith

-- nothing is left behind the last line
pub ended-text : (text rest : List ℕ) (read : List TraceLine) (es : List Event) (fs : List FateLine) → text ≡ flat_map line_text read ++ rest → length rest ≡ 0 → read ≡ lines_up_to End es fs → text ≡ trace_text es fs
ended-text text [] read es fs is none whole = is ∙ append-nil (flat_map line_text read) ∙ ap (flat_map line_text) whole ∙ whole-text es fs
ended-text text (b ∷ rest) read es fs is none whole = absurd (omega arith)
