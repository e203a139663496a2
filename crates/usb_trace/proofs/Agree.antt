-- Two texts of the form of a trace with the same first lines tell the same there, capacities aside.
use Rattle.std.proofs.Common.{◌≡◌, ℕ, ◌+◌, ◌<◌, ◌≤◌, suc, zero, List, [], ◌∷◌, ◌++◌, length, take, map, flat_map, slice_get, Some, None, refl, sym, ap, ◌∙◌, arith}
use Rattle.std.specs.List.{All}
use Rattle.std.proofs.Math.Seq.{take-append-add, take-length}
use Rattle.std.proofs.lemmas.List.{map-append, length-map}
use Rattle.std.proofs.lemmas.List.Concat.{flat_map-cons}
use Rattle.std.proofs.lemmas.List.Elements.{All-append, All-map}
use Rattle.usb_kernel.specs.declared.event.Event.{Event}
use Rattle.usb_kernel.specs.declared.event.Event.TheVariants.{Submit, Refuse, Packet, Ack, Echo, Fail, Discard, Reap, Unplug}
use Rattle.usb_trace_lines.specs.declared.fate_line.FateLine.{FateLine}
use Rattle.usb_trace_lines.specs.declared.line.TraceLine.{TraceLine}
use Rattle.usb_trace_lines.specs.declared.line.TraceLine.TheVariants as line
use Rattle.usb_trace_lines.specs.declared.order.Phase.TheVariants.{End}
use Rattle.usb_trace_lines.specs.Capacities.{without_capacity}
use Rattle.usb_trace_lines.specs.Forms.{IsTold, IsFateTold, IsLineTold}
use Rattle.usb_trace_lines.specs.Texts.{event_text, fate_text, line_text, trace_text}
use Rattle.usb_trace_lines.proofs.Told.{bare_line, told-same}
use Rattle.usb_trace.specs.Begins.{IsForm}
use Rattle.usb_trace.specs.Lines.{lines}
use Rattle.usb_trace.specs.Read.{lines_up_to}
use Rattle.usb_trace.proofs.Malformed.{heads, no-heads, head-told, tail-told}
use Rattle.usb_trace.proofs.TextRead.{all-none, all-cons, form-told}
use Rattle.usb_trace.proofs.Keeping.{phase-is, whole-text}

-- the lines that tell these
abbrev pub told_lines : List Event → List FateLine → List TraceLine
told_lines es fs = lines_up_to End es fs

pub told-all : (es : List Event) (fs : List FateLine) → All IsTold es → All IsFateTold fs → All IsLineTold (told_lines es fs)
told-all es fs events fates =
    let last : All IsLineTold (line.Last ∷ []) = all-cons IsLineTold line.Last [] tt (all-none IsLineTold) in
    let behind = All-append IsLineTold (map line.Fate fs) (line.Last ∷ []) (All-map IsLineTold line.Fate fs fates) last in
    all-cons IsLineTold line.First _ tt (All-append IsLineTold (map line.Event es) _ (All-map IsLineTold line.Event es events) behind)

-- such a text is of the form
pub told-form : (es : List Event) (fs : List FateLine) → All IsTold es → All IsFateTold fs → IsForm (trace_text es fs)
told-form es fs events fates = record {
  told = told_lines es fs;
  each = told-all es fs events fates;
  order = phase-is End es fs tt;
  is = sym (whole-text es fs);
}

-- its lines
pub text-lines : (es : List Event) (fs : List FateLine) → All IsTold es → All IsFateTold fs → lines (trace_text es fs) ≡ map line_text (told_lines es fs)
text-lines es fs events fates = ap lines (sym (whole-text es fs)) ∙ form-told (told_lines es fs) (told-all es fs events fates)

-- ---- the same first lines

both : {X : Type 0} (x y : X) (xs ys : List X) → x ≡ y → xs ≡ ys → x ∷ xs ≡ y ∷ ys
both x y xs ys first others = rw (first, others) refl

bare-lines : (k : ℕ) (xs ys : List TraceLine) → All IsLineTold xs → All IsLineTold ys → take k (map line_text xs) ≡ take k (map line_text ys) → take k (map bare_line xs) ≡ take k (map bare_line ys)
bare-lines zero xs ys told tells same = refl
bare-lines (suc k) [] [] told tells same = refl
bare-lines (suc k) [] (y ∷ ys) told tells same = absurd (no-heads _ _ same)
bare-lines (suc k) (x ∷ xs) [] told tells same = absurd (no-heads _ _ (sym same))
bare-lines (suc k) (x ∷ xs) (y ∷ ys) told tells same =
    let h = heads _ _ _ _ same in
    both (bare_line x) (bare_line y) _ _ (told-same x y (head-told x xs told) (head-told y ys tells) h.0)
    (bare-lines k xs ys (tail-told x xs told) (tail-told y ys tells) h.1)

line-heads : (a b : TraceLine) (xs ys : List TraceLine) → a ∷ xs ≡ b ∷ ys → (a ≡ b) × (xs ≡ ys)
line-heads a b xs ys is = (let h : a ≡ b = cc in h, let t : xs ≡ ys = cc in t)

-- the lines behind the first
abbrev pub later_lines : List Event → List FateLine → List TraceLine
later_lines es fs = map line.Event es ++ (map line.Fate fs ++ line.Last ∷ [])

abbrev pub SameLines : ℕ → List Event → List FateLine → List Event → List FateLine → Type 0
SameLines k es fs gs hs = take k (map bare_line (later_lines es fs)) ≡ take k (map bare_line (later_lines gs hs))

-- what two texts have in common
pub same-lines : (k : ℕ) (es gs : List Event) (fs hs : List FateLine) → All IsTold es → All IsFateTold fs → All IsTold gs → All IsFateTold hs → take (suc k) (lines (trace_text es fs)) ≡ take (suc k) (lines (trace_text gs hs)) → SameLines k es fs gs hs
same-lines k es gs fs hs es_told fs_told gs_told hs_told same =
    let mine = text-lines es fs es_told fs_told in
    let yours = text-lines gs hs gs_told hs_told in
    let texts : take (suc k) (map line_text (told_lines es fs)) ≡ take (suc k) (map line_text (told_lines gs hs)) = sym (ap (take (suc k)) mine) ∙ same ∙ ap (take (suc k)) yours in
    (line-heads _ _ _ _ (bare-lines (suc k) (told_lines es fs) (told_lines gs hs) (told-all es fs es_told fs_told) (told-all gs hs gs_told hs_told) texts)).1

-- what stands behind the events is no event
fates-first : (fs : List FateLine) (e : Event) (k : ℕ) (more : List TraceLine) → take (suc k) (map bare_line (map line.Fate fs ++ line.Last ∷ [])) ≡ line.Event e ∷ more → ⊥
fates-first [] e k more is = let h = (line-heads _ _ _ _ is).0 in cc
fates-first (f ∷ fs) e k more is = let h = (line-heads _ _ _ _ is).0 in cc

-- the event at a place, and those before it
pub record AgreesAt (es gs : List Event) (i : ℕ) (e : Event) : Type 0 where
  pub other : Event
  pub at : slice_get gs i ≡ Some other
  pub same : without_capacity other ≡ without_capacity e
  pub before : map without_capacity (take i gs) ≡ map without_capacity (take i es)

none_is_none : {A : Type 0} (x : A) → None ≡ Some x → ⊥
none_is_none x is = cc

event-same : (a b : Event) → line.Event a ≡ line.Event b → a ≡ b
event-same a b is = cc

fate-same : (a b : FateLine) → line.Fate a ≡ line.Fate b → a ≡ b
fate-same a b is = cc

some-same : {A : Type 0} (a b : A) → Some a ≡ Some b → a ≡ b
some-same a b is = cc

pub events-agree : (i : ℕ) (es gs : List Event) (fs hs : List FateLine) (e : Event) → slice_get es i ≡ Some e → SameLines (suc i) gs hs es fs → AgreesAt es gs i e
events-agree i [] gs fs hs e at same = absurd (none_is_none e at)
events-agree i (x ∷ es) [] fs hs e at same = absurd (fates-first hs (without_capacity x) i _ same)
events-agree zero (x ∷ es) (y ∷ gs) fs hs e at same =
    let first : without_capacity y ≡ without_capacity x = event-same _ _ (line-heads _ _ _ _ same).0 in
    let here : x ≡ e = some-same x e at in
    record { other = y; at = refl; same = first ∙ ap without_capacity here; before = refl }
events-agree (suc i) (x ∷ es) (y ∷ gs) fs hs e at same =
    let h = line-heads _ _ _ _ same in
    let rest = events-agree i es gs fs hs e at h.1 in
    record { other = rest.other; at = rest.at; same = rest.same; before = both _ _ _ _ (event-same _ _ h.0) rest.before }

-- fates at a place
fates-agree : (k j : ℕ) (fs hs : List FateLine) → j < k → take k (map bare_line (map line.Fate hs ++ line.Last ∷ [])) ≡ take k (map bare_line (map line.Fate fs ++ line.Last ∷ [])) → slice_get hs j ≡ slice_get fs j
fates-agree zero j fs hs within same = absurd (omega arith)
fates-agree (suc k) j [] [] within same = refl
fates-agree (suc k) j [] (h ∷ hs) within same = absurd (let e = (line-heads _ _ _ _ same).0 in cc)
fates-agree (suc k) j (f ∷ fs) [] within same = absurd (let e = (line-heads _ _ _ _ same).0 in cc)
fates-agree (suc k) zero (f ∷ fs) (h ∷ hs) within same = ap Some (fate-same h f (line-heads _ _ _ _ same).0)
fates-agree (suc k) (suc j) (f ∷ fs) (h ∷ hs) within same = fates-agree k j fs hs (omega arith) (line-heads _ _ _ _ same).1

-- all events, and the fates at a place
pub record AllAgree (es gs : List Event) (fs hs : List FateLine) (j : ℕ) : Type 0 where
  pub events : map without_capacity gs ≡ map without_capacity es
  pub fate : slice_get hs j ≡ slice_get fs j

pub all-agree : (k j : ℕ) (es gs : List Event) (fs hs : List FateLine) → length es + j < k → SameLines k gs hs es fs → AllAgree es gs fs hs j
all-agree zero j es gs fs hs within same = absurd (omega arith)
all-agree (suc k) j [] [] fs hs within same = record { events = refl; fate = fates-agree (suc k) j fs hs (omega arith) same }
all-agree (suc k) j [] (y ∷ gs) fs hs within same = absurd (fates-first fs (without_capacity y) k _ (sym same))
all-agree (suc k) j (x ∷ es) [] fs hs within same = absurd (fates-first hs (without_capacity x) k _ same)
all-agree (suc k) j (x ∷ es) (y ∷ gs) fs hs within same =
    let h = line-heads _ _ _ _ same in
    let rest = all-agree k j es gs fs hs (omega arith) h.1 in
    record { events = both _ _ _ _ (event-same _ _ h.0) rest.events; fate = rest.fate }

-- ---- texts of the same events

line-bare : (event : Event) → event_text (without_capacity event) ≡ event_text event
unfolding event_text
line-bare (Submit t d e m body room deadline) = refl
line-bare (Refuse t d e m body room errno) = refl
line-bare (Packet d e bytes) = refl
line-bare (Ack d e) = refl
line-bare (Echo d o i) = refl
line-bare (Fail d e errno) = refl
line-bare (Discard t) = refl
line-bare (Reap t) = refl
line-bare (Unplug d) = refl

map-bare : (es : List Event) → map event_text (map without_capacity es) ≡ map event_text es
map-bare [] = refl
map-bare (e ∷ es) = both _ _ _ _ (line-bare e) (map-bare es)

flat-bare : (es : List Event) → flat_map event_text (map without_capacity es) ≡ flat_map event_text es
flat-bare [] = refl
flat-bare (e ∷ es) =
    flat_map-cons event_text (without_capacity e) (map without_capacity es)
    ∙ ap (λ (l : List ℕ). l ++ flat_map event_text (map without_capacity es)) (line-bare e)
    ∙ ap (λ (l : List ℕ). event_text e ++ l) (flat-bare es)
    ∙ sym (flat_map-cons event_text e es)

pub same-text : (es gs : List Event) (fs : List FateLine) → map without_capacity es ≡ map without_capacity gs → trace_text es fs ≡ trace_text gs fs
unfolding trace_text
same-text es gs fs same =
    let texts : flat_map event_text es ≡ flat_map event_text gs = sym (flat-bare es) ∙ ap (flat_map event_text) same ∙ flat-bare gs in
    rw texts refl

-- ---- the first lines of texts of the same events

events-first : (i : ℕ) (es : List Event) (more : List TraceLine) → i ≤ length es → take i (map line_text (map line.Event es ++ more)) ≡ map event_text (take i es)
events-first zero es more within = refl
events-first (suc i) [] more within = absurd (omega arith)
events-first (suc i) (e ∷ es) more within = both _ _ _ _ refl (events-first i es more (omega arith))

take-map : (i : ℕ) (es : List Event) → map without_capacity (take i es) ≡ take i (map without_capacity es)
take-map zero es = refl
take-map (suc i) [] = refl
take-map (suc i) (e ∷ es) = both _ _ _ _ refl (take-map i es)

-- of the same events up to a place
pub first-events : (i : ℕ) (es gs : List Event) (fs hs : List FateLine) → i ≤ length es → map without_capacity gs ≡ map without_capacity (take i es) → length gs ≡ i → take (suc i) (map line_text (told_lines gs hs)) ≡ take (suc i) (map line_text (told_lines es fs))
first-events i es gs fs hs within same count =
    let short : take i gs ≡ gs = ap (λ (n : ℕ). take n gs) (sym count) ∙ take-length gs in
    both _ _ _ _ refl
    (events-first i gs _ (omega arith)
    ∙ ap (map event_text) short
    ∙ sym (map-bare gs)
    ∙ ap (map event_text) same
    ∙ map-bare (take i es)
    ∙ sym (events-first i es _ within))

map-both : (xs ys : List TraceLine) → map line_text (xs ++ ys) ≡ map line_text xs ++ map line_text ys
map-both xs ys = map-append line_text xs ys

event-lines : (es : List Event) → map line_text (map line.Event es) ≡ map event_text es
event-lines [] = refl
event-lines (e ∷ es) = both _ _ _ _ refl (event-lines es)

fates-first_lines : (j : ℕ) (fs : List FateLine) → j ≤ length fs → take j (map line_text (map line.Fate fs ++ line.Last ∷ [])) ≡ map fate_text (take j fs)
fates-first_lines zero fs within = refl
fates-first_lines (suc j) [] within = absurd (omega arith)
fates-first_lines (suc j) (f ∷ fs) within = both _ _ _ _ refl (fates-first_lines j fs (omega arith))

behind-events : (j : ℕ) (es : List Event) (fs : List FateLine) → j ≤ length fs → take (length es + j) (map line_text (later_lines es fs)) ≡ map event_text es ++ map fate_text (take j fs)
behind-events j es fs within =
    let count : length (map event_text es) ≡ length es = length-map es event_text in
    ap (take (length es + j)) (map-both (map line.Event es) (map line.Fate fs ++ line.Last ∷ []) ∙ ap (λ (l : List (List ℕ)). l ++ map line_text (map line.Fate fs ++ line.Last ∷ [])) (event-lines es))
    ∙ ap (λ (n : ℕ). take (n + j) (map event_text es ++ map line_text (map line.Fate fs ++ line.Last ∷ []))) (sym count)
    ∙ take-append-add (map event_text es) (map line_text (map line.Fate fs ++ line.Last ∷ [])) j
    ∙ ap (λ (l : List (List ℕ)). map event_text es ++ l) (fates-first_lines j fs within)

-- of all the same events and the same fates up to a place
pub first-fates : (j : ℕ) (es gs : List Event) (fs hs : List FateLine) → map without_capacity gs ≡ map without_capacity es → j ≤ length fs → j ≤ length hs → take j hs ≡ take j fs → take (suc (length es + j)) (map line_text (told_lines gs hs)) ≡ take (suc (length es + j)) (map line_text (told_lines es fs))
first-fates j es gs fs hs same within inside fates =
    let count : length gs ≡ length es = sym (length-map gs without_capacity) ∙ ap length same ∙ length-map es without_capacity in
    let texts : map event_text gs ≡ map event_text es = sym (map-bare gs) ∙ ap (map event_text) same ∙ map-bare es in
    both _ _ _ _ refl
    (ap (λ (n : ℕ). take (n + j) (map line_text (later_lines gs hs))) (sym count)
    ∙ behind-events j gs hs inside
    ∙ ap (λ (l : List (List ℕ)). l ++ map fate_text (take j hs)) texts
    ∙ ap (λ (l : List FateLine). map event_text es ++ map fate_text l) fates
    ∙ sym (behind-events j es fs within))
