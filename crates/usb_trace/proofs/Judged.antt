-- The verdict on a text.
use Rattle.std.proofs.Common.{◌≡◌, ℕ, ◌+◌, ◌≤◌, suc, zero, true, false, List, [], ◌∷◌, ◌++◌, length, take, map, reverse, slice_get, get_or, Some, None, refl, sym, ap, ◌∙◌, arith, inl, inr}
use Rattle.std.specs.List.{All, enumerate_from}
use Rattle.std.proofs.Math.Seq.{take-append_seam}
use Rattle.std.proofs.lemmas.List.{length-map, length-take-le, length-reverse, map-append, reverse-append, reverse-reverse, take-append-le}
use Rattle.std.proofs.lemmas.List.Elements.{All-map, All-take}
use Rattle.std.proofs.lemmas.Option.{slice_get_within}
use Rattle.usb_kernel.specs.declared.event.Event.{Event}
use Rattle.usb_kernel.specs.declared.event.Event.TheVariants.{Submit, Refuse, Packet, Ack, Echo, Fail, Discard, Reap, Unplug}
use Rattle.usb_kernel.specs.Tickets.{Ticket, tickets}
use Rattle.usb_kernel.specs.Fates.{Fate}
use Rattle.usb_kernel.specs.Info.{info_for}
use Rattle.usb_kernel.specs.Journal.{fate}
use Rattle.usb_kernel.proofs.Rules.{slice_get-push}
use Rattle.usb_trace_lines.specs.declared.fate_line.FateLine.{FateLine}
use Rattle.usb_trace_lines.specs.Capacities.{without_capacity}
use Rattle.usb_trace_lines.specs.Fates.{fate_told, fates_of}
use Rattle.usb_trace_lines.specs.Forms.{IsTold, IsFateTold}
use Rattle.usb_trace_lines.specs.Texts.{trace_text, trace, line_text}
use Rattle.usb_trace_lines.proofs.Each.{all-reverse}
use Rattle.usb_trace.specs.Begins.{IsForm}
use Rattle.usb_trace.specs.Fails.{FailsFirstAt, CanBegin}
use Rattle.usb_trace.specs.FirstOther.{IsFirstOther}
use Rattle.usb_kernel.specs.Acts.{acts, EachActs}
use Rattle.usb_trace.specs.Lines.{lines}
use Rattle.usb_trace.specs.Replays.{IsReplay, StopsAt}
use Rattle.usb_trace.specs.Verdicts.{IsTrace}
use Rattle.usb_trace.proofs.Agree.{told_lines, told-form, text-lines, SameLines, same-lines, events-agree, all-agree, same-text, first-events, first-fates}
use Rattle.usb_trace.proofs.Bare.{acts-bare, bare_ticket, tickets-bare, fates-bare}
use Rattle.usb_trace.proofs.Range.{fates-range}
use Rattle.usb_trace.proofs.TextRead.{all-none, all-cons}

-- ---- lists in reverse

rev-cons : {X : Type 0} (x : X) (xs : List X) → reverse (x ∷ xs) ≡ reverse xs ++ x ∷ []
rev-cons x xs = reverse-append (x ∷ []) xs

map-reverse : {X Y : Type 0} (f : X → Y) (xs : List X) → map f (reverse xs) ≡ reverse (map f xs)
map-reverse f [] = refl
map-reverse f (x ∷ xs) =
    ap (map f) (rev-cons x xs)
    ∙ map-append f (reverse xs) (x ∷ [])
    ∙ ap (λ l. l ++ f x ∷ []) (map-reverse f xs)
    ∙ sym (rev-cons (f x) (map f xs))

-- ---- journals that tell the same

none_is_none : {A : Type 0} (x : A) → None ≡ Some x → ⊥
none_is_none x is = cc

bare-reverse : (past es : List Event) → map without_capacity past ≡ reverse (map without_capacity es) → map without_capacity (reverse past) ≡ map without_capacity es
bare-reverse past es same = map-reverse without_capacity past ∙ ap reverse same ∙ reverse-reverse (map without_capacity es)

bare-forward : (p q : List Event) → map without_capacity (reverse p) ≡ map without_capacity (reverse q) → map without_capacity p ≡ map without_capacity q
bare-forward p q same =
    sym (reverse-reverse (map without_capacity p))
    ∙ ap reverse (sym (map-reverse without_capacity p) ∙ same ∙ map-reverse without_capacity q)
    ∙ reverse-reverse (map without_capacity q)

told-from : (event : Event) → IsTold (without_capacity event) → IsTold event
told-from (Submit t d e m body room deadline) is = is
told-from (Refuse t d e m body room errno) is = is
told-from (Packet d e bytes) is = is
told-from (Ack d e) is = is
told-from (Echo d o i) is = is
told-from (Fail d e errno) is = is
told-from (Discard t) is = is
told-from (Reap t) is = is
told-from (Unplug d) is = is

told-to : (event : Event) → IsTold event → IsTold (without_capacity event)
told-to (Submit t d e m body room deadline) is = is
told-to (Refuse t d e m body room errno) is = is
told-to (Packet d e bytes) is = is
told-to (Ack d e) is = is
told-to (Echo d o i) is = is
told-to (Fail d e errno) is = is
told-to (Discard t) is = is
told-to (Reap t) is = is
told-to (Unplug d) is = is

all-from : (es : List Event) → All IsTold (map without_capacity es) → All IsTold es
all-from [] all = all-none IsTold
all-from (e ∷ es) all = all-cons IsTold e es (told-from e (all 0 (without_capacity e) (omega arith))) (all-from es (λ k d h. all (suc k) d (omega arith)))

all-to : (es : List Event) → All IsTold es → All IsTold (map without_capacity es)
all-to es told = All-map IsTold without_capacity es (λ k d h. told-to (get_or es k d) (told k d h))

past-told : (past es : List Event) → map without_capacity past ≡ reverse (map without_capacity es) → All IsTold es → All IsTold past
past-told past es same told =
    let all : All IsTold (reverse (map without_capacity es)) = all-reverse IsTold (map without_capacity es) (all-to es told) in
    all-from past (rw same all)

abbrev told_by : (ℕ → Fate) → (ℕ × Ticket) → FateLine
told_by f p = fate_told p.0 (info_for p.1 (f p.0))

enumerated-bare : (k : ℕ) (ts : List Ticket) (f : ℕ → Fate) → map (told_by f) (enumerate_from k (map bare_ticket ts)) ≡ map (told_by f) (enumerate_from k ts)
enumerated-bare k [] f = refl
enumerated-bare k (s ∷ ts) f = ap (λ (l : List FateLine). told_by f (k, s) ∷ l) (enumerated-bare (k + 1) ts f)

fates-of-bare : (past : List Event) → fates_of (map without_capacity past) ≡ fates_of past
unfolding fates_of
fates-of-bare past =
    ap (λ (ts : List Ticket). map (told_by (fate (map without_capacity past))) (enumerate_from 0 ts)) (tickets-bare past)
    ∙ enumerated-bare 0 (tickets past) (fate (map without_capacity past))
    ∙ ap (λ (f : ℕ → Fate). map (told_by f) (enumerate_from 0 (tickets past))) (fates-bare past)

same-fates : (p q : List Event) → map without_capacity p ≡ map without_capacity q → fates_of p ≡ fates_of q
same-fates p q same = sym (fates-of-bare p) ∙ ap fates_of same ∙ fates-of-bare q

-- ---- an event of a journal, and those before it

record ActedAt (past : List Event) (i : ℕ) (e : Event) : Type 0 where
  before : List Event
  is : reverse before ≡ take i (reverse past)
  acted : acts before e ≡ true

acts-at : (past : List Event) → EachActs past → (i : ℕ) (e : Event) → slice_get (reverse past) i ≡ Some e → ActedAt past i e
acts-at [] acted i e at = absurd (none_is_none e at)
acts-at (x ∷ past) acted i e at =
    elim (slice_get-push (reverse past) x i e (sym (ap (λ (l : List Event). slice_get l i) (rev-cons x past)) ∙ at)) [
      | inl earlier ↦
          let r = acts-at past acted.1 i e earlier in
          let within = slice_get_within (reverse past) i e earlier in
          record {
            before = r.before;
            is = r.is ∙ sym (take-append-le i (reverse past) (x ∷ []) (omega arith)) ∙ ap (take i) (sym (rev-cons x past));
            acted = r.acted;
          }
      | inr last ↦
          record {
            before = past;
            is =
                sym (take-append_seam (reverse past) (x ∷ []))
                ∙ ap (λ (n : ℕ). take n (reverse past ++ x ∷ [])) (sym last.0)
                ∙ ap (take i) (sym (rev-cons x past));
            acted = rw (← last.1) acted.0;
          }
    ]

-- ---- traces

trace-is : (past : List Event) → trace past ≡ trace_text (reverse past) (fates_of past)
unfolding trace
trace-is past = refl

trace-text : (text : List ℕ) (t : IsTrace text) → text ≡ trace_text (reverse t.past) (fates_of t.past)
trace-text text t = t.is ∙ trace-is t.past

trace-told : (text : List ℕ) (t : IsTrace text) → All IsTold (reverse t.past)
trace-told text t = all-reverse IsTold t.past t.told

trace-fates : (text : List ℕ) (t : IsTrace text) → All IsFateTold (fates_of t.past)
trace-fates text t = fates-range t.past t.told t.acts

-- a trace is of the form
pub trace-form : (text : List ℕ) → IsTrace text → IsForm text
trace-form text t =
    let form = told-form (reverse t.past) (fates_of t.past) (trace-told text t) (trace-fates text t) in
    rw (trace-text text t) form

-- a text of a kind fails at no line
pub fails-not : (IsOfKind : List ℕ → Type 0) (text : List ℕ) (k : ℕ) → IsOfKind text → FailsFirstAt IsOfKind text k → ⊥
fails-not IsOfKind text zero is fails = fails
fails-not IsOfKind text (suc k) is fails = fails.1 (text, (is, refl))

-- the lines that a trace has in common with a text
trace-same : (k : ℕ) (es : List Event) (fs : List FateLine) (other : List ℕ) (t : IsTrace other) → All IsTold es → All IsFateTold fs → take (suc k) (lines other) ≡ take (suc k) (lines (trace_text es fs)) → SameLines k (reverse t.past) (fates_of t.past) es fs
trace-same k es fs other t told fates same =
    same-lines k (reverse t.past) es (fates_of t.past) fs (trace-told other t) (trace-fates other t) told fates
    (ap (λ (x : List ℕ). take (suc k) (lines x)) (sym (trace-text other t)) ∙ same)

-- a trace with the same first lines
trace-begins : (k : ℕ) (es : List Event) (fs : List FateLine) (past : List Event) → All IsTold past → EachActs past → All IsTold es → All IsFateTold fs → take k (map line_text (told_lines (reverse past) (fates_of past))) ≡ take k (map line_text (told_lines es fs)) → CanBegin IsTrace (trace_text es fs) k
trace-begins k es fs past past_told acted told fates same =
    let t : IsTrace (trace past) = record { past = past; told = past_told; acts = acted; is = refl } in (
      trace past,
      (
        t,
        ap (λ (x : List ℕ). take k (lines x)) (trace-is past)
            ∙ ap (take k) (text-lines (reverse past) (fates_of past) (trace-told (trace past) t) (trace-fates (trace past) t))
            ∙ same
            ∙ sym (ap (take k) (text-lines es fs told fates)),
      ),
    )

-- ---- the verdicts

pub is-trace : (es : List Event) (fs : List FateLine) (past : List Event) → All IsTold es → IsReplay es past → fs ≡ fates_of past → IsTrace (trace_text es fs)
is-trace es fs past told r fates = record {
  past = past;
  told = past-told past es r.same told;
  acts = r.acts;
  is = same-text es (reverse past) fs (sym (bare-reverse past es r.same)) ∙ ap (trace_text (reverse past)) fates ∙ sym (trace-is past);
}

count-same : (past es : List Event) → map without_capacity past ≡ reverse (map without_capacity es) → length (reverse past) ≡ length es
count-same past es same =
    length-reverse past ∙ sym (length-map past without_capacity) ∙ ap length same ∙ length-reverse (map without_capacity es) ∙ length-map es without_capacity

idle-acts : (before past : List Event) (other event : Event) → map without_capacity before ≡ map without_capacity past → without_capacity other ≡ without_capacity event → acts before other ≡ true → acts past event ≡ false → ⊥
idle-acts before past other event same is acted idle =
    let h : true ≡ false = sym acted ∙ sym (acts-bare before other) ∙ ap (λ (p : List Event). acts p (without_capacity other)) same ∙ ap (acts (map without_capacity past)) is ∙ acts-bare past event ∙ idle in
    cc

never-further : (es : List Event) (fs : List FateLine) (i : ℕ) → All IsTold es → All IsFateTold fs → StopsAt es i → CanBegin IsTrace (trace_text es fs) (suc (suc i)) → ⊥
never-further es fs i told fates s begins =
    let t : IsTrace begins.0 = begins.1.0 in
    let same = trace-same (suc i) es fs begins.0 t told fates begins.1.1 in
    let agree = events-agree i es (reverse t.past) fs (fates_of t.past) s.event s.at same in
    let acted = acts-at t.past t.acts i agree.other agree.at in
    let earlier : map without_capacity (reverse acted.before) ≡ map without_capacity (reverse s.past) =
    ap (map without_capacity) acted.is ∙ agree.before ∙ sym (bare-reverse s.past (take i es) s.before.same) in
    idle-acts acted.before s.past agree.other s.event (bare-forward acted.before s.past earlier) agree.same acted.acted s.idle

-- an event that doesn't act
pub stops-there : (es : List Event) (fs : List FateLine) (i : ℕ) → All IsTold es → All IsFateTold fs → StopsAt es i → FailsFirstAt IsTrace (trace_text es fs) (suc (suc i))
stops-there es fs i told fates s =
    let within = slice_get_within es i s.event s.at in
    let few : i ≤ length es = omega arith in
    let count : length (reverse s.past) ≡ i = count-same s.past (take i es) s.before.same ∙ length-take-le i es few in
    let s_told = past-told s.past (take i es) s.before.same (All-take IsTold i es told) in (
      trace-begins (suc i) es fs s.past s_told s.before.acts told fates
          (first-events i es (reverse s.past) fs (fates_of s.past) few (bare-reverse s.past (take i es) s.before.same) count),
      never-further es fs i told fates s,
    )

never-other : (es : List Event) (fs : List FateLine) (past : List Event) (j : ℕ) → All IsTold es → All IsFateTold fs → IsReplay es past → IsFirstOther fs (fates_of past) j → CanBegin IsTrace (trace_text es fs) (suc (suc (length es + j))) → ⊥
never-other es fs past j told fates r o begins =
    let t : IsTrace begins.0 = begins.1.0 in
    let same = trace-same (suc (length es + j)) es fs begins.0 t told fates begins.1.1 in
    let agree = all-agree (suc (length es + j)) j es (reverse t.past) fs (fates_of t.past) (omega arith) same in
    let events : map without_capacity (reverse t.past) ≡ map without_capacity (reverse past) = agree.events ∙ sym (bare-reverse past es r.same) in
    let whole : fates_of t.past ≡ fates_of past = same-fates t.past past (bare-forward t.past past events) in
    o.apart (sym agree.fate ∙ ap (λ (l : List FateLine). slice_get l j) whole)

-- a fate that is another, is missing, or is one too many
pub fate-there : (es : List Event) (fs : List FateLine) (past : List Event) (j : ℕ) → All IsTold es → All IsFateTold fs → IsReplay es past → IsFirstOther fs (fates_of past) j → FailsFirstAt IsTrace (trace_text es fs) (suc (suc (length es + j)))
fate-there es fs past j told fates r o = (
  trace-begins (suc (length es + j)) es fs past (past-told past es r.same told) r.acts told fates
      (first-fates j es (reverse past) fs (fates_of past) (bare-reverse past es r.same) o.within o.inside (sym o.same)),
  never-other es fs past j told fates r o,
)
