-- Why a text is not of the form of a trace.
use Rattle.std.proofs.Common.{◌≡◌, ℕ, suc, List, [], ◌∷◌, ◌++◌, length, take, map, flat_map, Option, Some, None, option_and_then, refl, sym, ap, ◌∙◌, append_assoc, arith}
use Rattle.std.specs.List.{All}
use Rattle.std.proofs.lemmas.List.Concat.{flat_map-cons}
use Rattle.usb_kernel.specs.declared.event.Event.{Event}
use Rattle.usb_trace_lines.specs.declared.line.TraceLine.{TraceLine}
use Rattle.usb_trace_lines.specs.declared.line.TraceLine.TheVariants as line
use Rattle.usb_trace_lines.specs.declared.order.Phase.{Phase}
use Rattle.usb_trace_lines.specs.declared.order.Phase.TheVariants.{Start, Events, Fates, End}
use Rattle.usb_trace_lines.specs.Forms.{IsLineTold}
use Rattle.usb_trace.specs.Lines.{lines}
use Rattle.usb_trace.specs.Read.{IsStuck}
use Rattle.usb_trace_lines.specs.Order.{next_phase, phase_behind}
use Rattle.usb_trace_lines.specs.Texts.{line_text}
use Rattle.usb_trace.proofs.TextLines.{line-told}
use Rattle.usb_trace_lines.proofs.Told.{bare_line, told-same}

-- ---- lines that are told

pub tail-told : (x : TraceLine) (xs : List TraceLine) → All IsLineTold (x ∷ xs) → All IsLineTold xs
tail-told x xs all = λ k d h. all (suc k) d (omega arith)

pub head-told : (x : TraceLine) (xs : List TraceLine) → All IsLineTold (x ∷ xs) → IsLineTold x
head-told x xs all = all 0 x (omega arith)

pub lines-told : (xs : List TraceLine) (rest : List ℕ) → All IsLineTold xs → lines (flat_map line_text xs ++ rest) ≡ map line_text xs ++ lines rest
lines-told [] rest all = refl
lines-told (x ∷ xs) rest all =
    ap (λ (t : List ℕ). lines (t ++ rest)) (flat_map-cons line_text x xs)
    ∙ ap lines (append_assoc (line_text x) (flat_map line_text xs) rest)
    ∙ line-told x (flat_map line_text xs ++ rest) (head-told x xs all)
    ∙ ap (λ (ls : List (List ℕ)). line_text x ∷ ls) (lines-told xs rest (tail-told x xs all))

-- ---- order

phase-bare-event : (p : Phase) (a b : Event) → next_phase p (line.Event a) ≡ next_phase p (line.Event b)
phase-bare-event Start a b = refl
phase-bare-event Events a b = refl
phase-bare-event Fates a b = refl
phase-bare-event End a b = refl

phase-bare : (p : Phase) (x : TraceLine) → next_phase p (bare_line x) ≡ next_phase p x
phase-bare p line.First = refl
phase-bare p (line.Event event) = phase-bare-event p _ event
phase-bare p (line.Fate f) = refl
phase-bare p line.Last = refl

-- two lines of one text may stand in the same places
pub phase-same : (p : Phase) (x y : TraceLine) → IsLineTold x → IsLineTold y → line_text x ≡ line_text y → next_phase p x ≡ next_phase p y
phase-same p x y told tells is = sym (phase-bare p x) ∙ ap (next_phase p) (told-same x y told tells is) ∙ phase-bare p y

-- ---- a text that cannot go on

pub heads : (a b : List ℕ) (more others : List (List ℕ)) → a ∷ more ≡ b ∷ others → (a ≡ b) × (more ≡ others)
heads a b more others is = (let h : a ≡ b = cc in h, let t : more ≡ others = cc in t)

pub no-heads : (b : List ℕ) (bs : List (List ℕ)) → [] ≡ b ∷ bs → ⊥
no-heads b bs is = cc

both-behind : (o other : Option Phase) (q : Phase) (done xs : List TraceLine) → other ≡ o → option_and_then (λ (n : Phase). phase_behind n done) o ≡ Some q → option_and_then (λ (n : Phase). phase_behind n xs) other ≡ Some End → (r : Phase) × ((phase_behind r done ≡ Some q) × (phase_behind r xs ≡ Some End))
both-behind None other q done xs same behind ends = absurd (let h = behind in cc)
both-behind (Some r) other q done xs same behind ends = (r, (behind, rw same at ends))

pub stuck : (done : List TraceLine) (p q : Phase) (next : List (List ℕ)) (xs : List TraceLine) → All IsLineTold done → All IsLineTold xs → phase_behind p done ≡ Some q → phase_behind p xs ≡ Some End → take (suc (length done)) (map line_text xs) ≡ take (suc (length done)) (map line_text done ++ next) → IsStuck q next → ⊥
stuck [] p q next xs told tells behind ends same is =
    let here : p ≡ q = cc in
    is xs tells (rw (← here) ends) same
stuck (d ∷ done) p q next [] told tells behind ends same is = no-heads _ _ same
stuck (d ∷ done) p q next (x ∷ xs) told tells behind ends same is =
    let h = heads (line_text x) (line_text d) _ _ same in
    let step : next_phase p x ≡ next_phase p d = phase-same p x d (head-told x xs tells) (head-told d done told) h.0 in
    let s = both-behind (next_phase p d) (next_phase p x) q done xs step behind ends in
    stuck done s.0 q next xs (tail-told d done told) (tail-told x xs tells) s.1.0 s.1.1 h.1 is
