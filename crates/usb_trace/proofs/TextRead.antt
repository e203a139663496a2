-- A text that is read line by line, and where that fails.
use Rattle.std.proofs.Common.{◌≡◌, ◌≢◌, ℕ, ◌+◌, ◌<◌, suc, zero, get_or, slice_index, eqb, false, List, [], ◌∷◌, ◌++◌, length, take, drop, map, flat_map, Option, Some, None, option_and_then, refl, sym, ap, ◌∙◌, arith}
use Rattle.std.specs.List.{All}
use Rattle.std.proofs.Math.Seq.{take-append_seam}
use Rattle.std.proofs.lemmas.Bool.{ne_eqb, eqb-true, eq-eqb}
use Rattle.std.proofs.lemmas.List.{append-nil, length-map}
use Rattle.std.proofs.lemmas.List.Concat.{flat_map-append}
use Rattle.std.proofs.lemmas.List.Elements.{All-append}
use Rattle.memchr.specs.Find.{IsFirstByte, is_byte}
use Rattle.usb_session_text.specs.Words.{spaced}
use Rattle.usb_trace_lines.specs.declared.line.TraceLine.{TraceLine}
use Rattle.usb_trace_lines.specs.declared.line.TraceLine.TheVariants as line
use Rattle.usb_trace_lines.specs.declared.order.Phase.{Phase}
use Rattle.usb_trace_lines.specs.declared.order.Phase.TheVariants.{Start, Events, Fates, End}
use Rattle.usb_trace_lines.specs.Forms.{IsLineTold}
use Rattle.usb_trace_lines.specs.Order.{next_phase, phase_behind}
use Rattle.usb_trace_lines.specs.Texts.{line_text}
use Rattle.usb_trace_lines.proofs.Splits.{line-spaced}
use Rattle.usb_trace_lines.proofs.Told.{name_of, words_behind, text-is}
use Rattle.usb_trace.specs.Begins.{IsForm}
use Rattle.usb_trace.specs.Fails.{CanBegin, FailsFirstAt}
use Rattle.usb_trace.specs.Lines.{lines}
use Rattle.usb_trace.specs.Read.{IsStuck, HasNoEnd}
use Rattle.usb_trace.proofs.Malformed.{heads, no-heads, head-told, lines-told, phase-same, stuck}

-- ---- a text whose first lines were read

behind-by : (o : Option Phase) (q : Phase) (done more : List TraceLine) → ((p : Phase) → phase_behind p done ≡ Some q → phase_behind p (done ++ more) ≡ phase_behind q more) → option_and_then (λ (n : Phase). phase_behind n done) o ≡ Some q → option_and_then (λ (n : Phase). phase_behind n (done ++ more)) o ≡ phase_behind q more
behind-by None q done more on is = absurd (let h = is in cc)
behind-by (Some p) q done more on is = on p is

pub behind-append : (p q : Phase) (done more : List TraceLine) → phase_behind p done ≡ Some q → phase_behind p (done ++ more) ≡ phase_behind q more
behind-append p q [] more is = let here : p ≡ q = cc in rw here refl
behind-append p q (d ∷ done) more is = behind-by (next_phase p d) q done more (λ r on. behind-append r q done more on) is

-- what a trace may have behind a phase
completion : Phase → List TraceLine
completion Start = line.First ∷ line.Last ∷ []
completion Events = line.Last ∷ []
completion Fates = line.Last ∷ []
completion End = []

completed : (q : Phase) → phase_behind q (completion q) ≡ Some End
unfolding completion
completed Start = refl
completed Events = refl
completed Fates = refl
completed End = refl

pub all-none : {X : Type 0} (P : X → Type 0) → All P []
all-none P k d within = absurd (omega arith)

pub all-cons : {X : Type 0} (P : X → Type 0) (x : X) (xs : List X) → P x → All P xs → All P (x ∷ xs)
all-cons P x xs first others zero d within = first
all-cons P x xs first others (suc k) d within = others k d (omega arith)

completion-told : (q : Phase) → All IsLineTold (completion q)
unfolding completion
completion-told Start = all-cons IsLineTold line.First (line.Last ∷ []) tt (all-cons IsLineTold line.Last [] tt (all-none IsLineTold))
completion-told Events = all-cons IsLineTold line.Last [] tt (all-none IsLineTold)
completion-told Fates = all-cons IsLineTold line.Last [] tt (all-none IsLineTold)
completion-told End = all-none IsLineTold

first-lines : (text rest : List ℕ) (done : List TraceLine) → text ≡ flat_map line_text done ++ rest → All IsLineTold done → take (length done) (lines text) ≡ map line_text done
first-lines text rest done is told =
    ap (λ (t : List ℕ). take (length done) (lines t)) is
    ∙ ap (take (length done)) (lines-told done rest told)
    ∙ ap (λ (n : ℕ). take n (map line_text done ++ lines rest)) (sym (length-map done line_text))
    ∙ take-append_seam (map line_text done) (lines rest)

pub can-begin : (text rest : List ℕ) (done : List TraceLine) (q : Phase) → text ≡ flat_map line_text done ++ rest → All IsLineTold done → phase_behind Start done ≡ Some q → CanBegin IsForm text (length done)
can-begin text rest done q is told order =
    let whole = flat_map line_text (done ++ completion q) in (
      whole,
      (
        record {
          told = done ++ completion q;
          each = All-append IsLineTold done (completion q) told (completion-told q);
          order = behind-append Start q done (completion q) order ∙ completed q;
          is = refl;
        },
        first-lines whole (flat_map line_text (completion q)) done (flat_map-append line_text done (completion q)) told ∙ sym (first-lines text rest done is told),
      ),
    )

-- the lines of a text of the form
pub form-told : (xs : List TraceLine) → All IsLineTold xs → lines (flat_map line_text xs) ≡ map line_text xs
form-told xs told = ap lines (sym (append-nil (flat_map line_text xs))) ∙ lines-told xs [] told ∙ append-nil (map line_text xs)

-- a text that is stuck behind lines that were read fails at the next
pub fails-behind : (text rest : List ℕ) (done : List TraceLine) (q : Phase) → text ≡ flat_map line_text done ++ rest → All IsLineTold done → phase_behind Start done ≡ Some q → IsStuck q (lines rest) → FailsFirstAt IsForm text (suc (length done))
fails-behind text rest done q is told order none = (
  can-begin text rest done q is told order,
  λ begins.
      let form : IsForm begins.0 = begins.1.0 in
      let k = suc (length done) in
      let mine : lines begins.0 ≡ map line_text form.told = ap lines form.is ∙ form-told form.told form.each in
      let yours : lines text ≡ map line_text done ++ lines rest = ap lines is ∙ lines-told done rest told in
      stuck done Start q (lines rest) form.told told form.each order form.order (sym (ap (take k) mine) ∙ begins.1.1 ∙ ap (take k) yours) none,
)

-- ---- why a text is stuck

-- no line has this text
pub stuck-other : (q : Phase) (bytes : List ℕ) (more : List (List ℕ)) → ((x : TraceLine) → IsLineTold x → bytes ++ 10 ∷ [] ≡ line_text x → ⊥) → IsStuck q ((bytes ++ 10 ∷ []) ∷ more)
stuck-other q bytes more never [] told ends same = no-heads _ _ same
stuck-other q bytes more never (x ∷ xs) told ends same = never x (head-told x xs told) (sym (heads _ _ _ _ same).0)

ends-by : (o : Option Phase) (xs : List TraceLine) → o ≡ None → option_and_then (λ (n : Phase). phase_behind n xs) o ≡ Some End → ⊥
ends-by None xs none ends = let h = ends in cc
ends-by (Some p) xs none ends = let h = none in cc

-- the line may not stand here
pub stuck-order : (q : Phase) (x : TraceLine) (bytes : List ℕ) (more : List (List ℕ)) → IsLineTold x → bytes ++ 10 ∷ [] ≡ line_text x → next_phase q x ≡ None → IsStuck q ((bytes ++ 10 ∷ []) ∷ more)
stuck-order q x bytes more is_told is none [] told ends same = no-heads _ _ same
stuck-order q x bytes more is_told is none (y ∷ ys) told ends same =
    let text : line_text y ≡ line_text x = (heads _ _ _ _ same).0 ∙ is in
    ends-by (next_phase q y) ys (phase-same q y x (head-told y ys told) is_told text ∙ none) ends

-- a line is missing
pub stuck-missing : (q : Phase) → q ≢ End → IsStuck q []
stuck-missing q going [] told ends same = going (let h : q ≡ End = cc in h)
stuck-missing q going (x ∷ xs) told ends same = no-heads _ _ (sym same)

-- ---- a last line without LF

line-open : (b : ℕ) (bytes : List ℕ) → HasNoEnd (b ∷ bytes) → lines (b ∷ bytes) ≡ (b ∷ bytes) ∷ []
line-open b [] none = let other : eqb b 10 ≡ false = ne_eqb b 10 (none 0 (omega arith)) in rw other refl
line-open b (c ∷ bytes) none =
    let other : eqb b 10 ≡ false = ne_eqb b 10 (none 0 (omega arith)) in
    let rest = line-open c bytes (λ k h. none (suc k) (omega arith)) in
    rw (other, rest) refl

last-byte : (text : List ℕ) → get_or (text ++ 10 ∷ []) (length text) 0 ≡ 10
last-byte [] = refl
last-byte (b ∷ text) = last-byte text

within-byte : (text : List ℕ) → length text < length (text ++ 10 ∷ [])
within-byte [] = omega arith
within-byte (b ∷ text) = let h = within-byte text in omega arith

open-other : (x : TraceLine) (bytes : List ℕ) → HasNoEnd bytes → line_text x ≡ bytes → ⊥
open-other x bytes none is =
    let text = spaced (name_of x) (words_behind x) in
    let whole : bytes ≡ text ++ 10 ∷ [] = sym is ∙ text-is x ∙ line-spaced (name_of x) (words_behind x) in
    let here = rw whole at none in
    here (length text) (within-byte text) (last-byte text)

pub stuck-open : (q : Phase) (b : ℕ) (bytes : List ℕ) → HasNoEnd (b ∷ bytes) → IsStuck q (lines (b ∷ bytes))
stuck-open q b bytes none [] told ends same = no-heads _ _ (same ∙ ap (take 1) (line-open b bytes none))
stuck-open q b bytes none (x ∷ xs) told ends same =
    let alone = same ∙ ap (take 1) (line-open b bytes none) in
    open-other x (b ∷ bytes) none (heads _ _ _ _ alone).0

-- the first line ends at the first LF
pub lines-at : (bytes : List ℕ) (i : ℕ) → i < length bytes → get_or bytes i 0 ≡ 10 → ((k : ℕ) → k < i → get_or bytes k 0 ≡ 10 → ⊥) → lines bytes ≡ (take i bytes ++ 10 ∷ []) ∷ lines (drop (suc i) bytes)
lines-at [] i within here before = absurd (omega arith)
lines-at (b ∷ bytes) zero within here before = let feed : b ≡ 10 = here in rw feed refl
lines-at (b ∷ bytes) (suc i) within here before =
    let other : eqb b 10 ≡ false = ne_eqb b 10 (before 0 (omega arith)) in
    let rest = lines-at bytes i (omega arith) here (λ k h. before (suc k) (omega arith)) in
    rw (other, rest) refl

-- the first LF of a text, and a text with none
pub first-feed : (bytes : List ℕ) (i : ℕ) → IsFirstByte (is_byte 10) bytes (Some i) → (i < length bytes) × ((get_or bytes i 0 ≡ 10) × ((k : ℕ) → k < i → get_or bytes k 0 ≡ 10 → ⊥))
first-feed bytes i h = (
  h.0.high,
  (eqb-true (get_or bytes i 0) 10 h.1, λ k below is. h.0.before k (omega arith) below (eq-eqb (get_or bytes k 0) 10 is)),
)

pub no-feed : (bytes : List ℕ) → IsFirstByte (is_byte 10) bytes None → HasNoEnd bytes
no-feed bytes h = λ k within is. h k (omega arith) within (eq-eqb (slice_index bytes k) 10 is)

-- ---- where reading fails

pub fails-line : (text rest : List ℕ) (done : List TraceLine) (q : Phase) (n : ℕ) → text ≡ flat_map line_text done ++ rest → All IsLineTold done → phase_behind Start done ≡ Some q → n ≡ length done + 1 → IsStuck q (lines rest) → FailsFirstAt IsForm text n
fails-line text rest done q n is told order number none =
    let next : n ≡ suc (length done) = omega arith in
    rw next (fails-behind text rest done q is told order none)

pub stuck-rest : (q : Phase) (rest : List ℕ) → 0 < length rest → HasNoEnd rest → IsStuck q (lines rest)
stuck-rest q [] some none = absurd (omega arith)
stuck-rest q (b ∷ rest) some none = stuck-open q b rest none

pub stuck-ended : (q : Phase) (rest : List ℕ) → length rest ≡ 0 → q ≢ End → IsStuck q (lines rest)
stuck-ended q [] none going = stuck-missing q going
stuck-ended q (b ∷ rest) none going = absurd (omega arith)
