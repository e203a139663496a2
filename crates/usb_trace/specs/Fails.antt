-- The first line at which no text of a kind can be so.
use Rattle.std.specs.Prelude.{ℕ, zero, suc, ◌≡◌, List, take}
use Rattle.usb_trace.specs.Lines.{lines}

-- a text of this kind has the same first k lines
abbrev pub CanBegin : (List ℕ → Type 0) → List ℕ → ℕ → Type 0
CanBegin IsOfKind text k = (other : List ℕ) × (IsOfKind other × (take k (lines other) ≡ take k (lines text)))

-- line k, counted from 1, is the first at which no text of this kind can be so: one has the same lines before it, and none has the same lines
-- up to it. Behind the last line of a text comes one that is missing
abbrev pub FailsFirstAt : (List ℕ → Type 0) → List ℕ → ℕ → Type 0
FailsFirstAt IsOfKind text zero = ⊥
FailsFirstAt IsOfKind text (suc k) = CanBegin IsOfKind text k × (CanBegin IsOfKind text (suc k) → ⊥)
