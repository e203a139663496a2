-- Lines written one after another.
use Rattle.std.proofs.Common.{◌≡◌, ℕ, ◌+◌, ◌<◌, suc, List, [], ◌∷◌, ◌++◌, length, get_or, drop, flat_map, Some, None, refl, sym, ap, ◌∙◌, append_assoc, drop-cons, arith}
use Rattle.std.specs.declared.option.Option.{Option}
use Rattle.std.specs.Io.KnownBytes.{Appends}
use Rattle.std.proofs.lemmas.List.{append-nil}
use Rattle.std.proofs.lemmas.List.Concat.{flat_map-cons}
use Rattle.usb_trace_lines.specs.Written.{LinesState, HasWritten, HasStopped}

Appends_none : (o : Option (List ℕ)) → Appends o o []
Appends_none None = tt
Appends_none (Some xs) = sym (append-nil xs)

Appends_more : (a b c : Option (List ℕ)) (xs ys : List ℕ) → Appends a b xs → Appends b c ys → Appends a c (xs ++ ys)
Appends_more None b c xs ys p q = tt
Appends_more (Some xs1) None c xs ys p q = absurd p
Appends_more (Some xs1) (Some xs2) None xs ys p q = absurd q
Appends_more (Some xs1) (Some xs2) (Some xs3) xs ys p q = rw (q, p) (append_assoc xs1 xs ys)

-- of the whole, whole lines were written, and these bytes are left
pub record Going (old now : LinesState) (whole left : List ℕ) : Type 0 where
  pub done : List ℕ
  pub written : HasWritten old now done
  pub complete : done ++ left ≡ whole

pub going-start : (s : LinesState) (whole : List ℕ) → s.begun ≡ [] → Going s s whole whole
going-start s whole empty =
    record { done = []; written = record { appended = Appends_none s.written; empty = empty; quiet = refl; same = refl }; complete = refl }

-- one piece more
pub going-on : {old mid : LinesState} {whole left : List ℕ} (new : LinesState) (piece rest : List ℕ) → Going old mid whole left → HasWritten mid new piece → piece ++ rest ≡ left → Going old new whole rest
going-on {old = old} {mid = mid} new piece rest g w e =
    record {
      done = g.done ++ piece;
      written = record {
        appended = Appends_more old.written mid.written new.written g.done piece g.written.appended w.appended;
        empty = w.empty;
        quiet = w.quiet ∙ g.written.quiet;
        same = w.same ∙ g.written.same;
      };
      complete = append_assoc g.done piece rest ∙ ap (λ (x : List ℕ). g.done ++ x) e ∙ g.complete;
    }

left-of-none : (xs ys : List ℕ) → xs ++ ys ≡ [] → xs ≡ []
left-of-none [] ys e = refl
left-of-none (x ∷ xs) ys e = cc

-- a write failed within the next piece
pub going-cut : {old mid : LinesState} {whole left : List ℕ} (new : LinesState) (piece rest : List ℕ) → Going old mid whole left → HasStopped mid new piece → piece ++ rest ≡ left → HasStopped old new whole
going-cut {old = old} {mid = mid} new piece rest g f e =
    record {
      done = g.done ++ f.done;
      left = f.left ++ rest;
      appended = Appends_more old.written mid.written new.written g.done f.done g.written.appended f.appended;
      complete =
          append_assoc g.done f.done (f.left ++ rest)
          ∙ ap (λ (x : List ℕ). g.done ++ x) (sym (append_assoc f.done f.left rest) ∙ ap (λ (x : List ℕ). x ++ rest) f.complete ∙ e)
          ∙ g.complete;
      part = λ none. f.part (left-of-none f.left rest none);
      rose = rw (← g.written.quiet) f.rose;
      same = f.same ∙ g.written.same;
    }

-- nothing is left
pub going-all : {old new : LinesState} {whole left : List ℕ} → Going old new whole left → left ≡ [] → HasWritten old new whole
going-all {old = old} {new = new} g none =
    let same : g.done ≡ _ = sym (append-nil g.done) ∙ ap (λ (x : List ℕ). g.done ++ x) (sym none) ∙ g.complete in
    rw (← same) g.written

-- the text of the next of several, and that of those behind it
pub piece-left : {X : Type 0} (f : X → List ℕ) (xs : List X) (i : ℕ) (x : X) → i < length xs → x ≡ get_or xs i x → f x ++ flat_map f (drop (i + 1) xs) ≡ flat_map f (drop i xs)
piece-left f xs i x within is =
    let next : i + 1 ≡ suc i = omega arith in
    rw next (sym (ap (flat_map f) (drop-cons xs i x within) ∙ flat_map-cons f (get_or xs i x) (drop (suc i) xs) ∙ ap (λ y. f y ++ flat_map f (drop (suc i) xs)) (sym is)))
