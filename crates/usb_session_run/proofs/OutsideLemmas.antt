-- What reads and writes, one after another, leave behind.
use Rattle.std.proofs.Common.{◌≡◌, ℕ, ◌+◌, ◌≤◌, List, [], ◌++◌, length, length-append, Some, None, refl, sym, ap, ◌∙◌, append_assoc, arith}
use Rattle.std.specs.declared.option.Option.{Option}
use Rattle.std.specs.Io.KnownBytes.{Appends, Keeps, Consumes}
use Rattle.std.proofs.lemmas.List.{append-nil}
use Rattle.usb_session_run.specs.Causes.{Wrote, WrotePrefix, ReadWhole, TookAtMost}

pub Appends_none : (o : Option (List ℕ)) → Appends o o []
Appends_none None = tt
Appends_none (Some xs) = sym (append-nil xs)

pub Appends_more : (a b c : Option (List ℕ)) (xs ys : List ℕ) → Appends a b xs → Appends b c ys → Appends a c (xs ++ ys)
Appends_more None b c xs ys p q = tt
Appends_more (Some xs1) None c xs ys p q = absurd p
Appends_more (Some xs1) (Some xs2) None xs ys p q = absurd q
Appends_more (Some xs1) (Some xs2) (Some xs3) xs ys p q = rw (q, p) (append_assoc xs1 xs ys)

pub Wrote_none : (old : Option (List ℕ)) (whole : List ℕ) → Wrote old old whole whole
Wrote_none old whole = record { done = []; appended = Appends_none old; complete = refl }

-- a piece of what was left was written
pub Wrote_more : {old mid : Option (List ℕ)} {whole left : List ℕ} (new : Option (List ℕ)) (piece rest : List ℕ) → Wrote old mid whole left → Appends mid new piece → piece ++ rest ≡ left → Wrote old new whole rest
Wrote_more {old = old} {mid = mid} new piece rest w a e =
    record { done = w.done ++ piece; appended = Appends_more old mid new w.done piece w.appended a; complete = append_assoc w.done piece rest ∙ ap (λ (x : List ℕ). w.done ++ x) e ∙ w.complete }

pub Wrote_all : {old new : Option (List ℕ)} {whole left : List ℕ} → Wrote old new whole left → left ≡ [] → Appends old new whole
Wrote_all {old = old} {new = new} w none =
    let same : w.done ≡ _ = sym (append-nil w.done) ∙ ap (λ (x : List ℕ). w.done ++ x) (sym none) ∙ w.complete in
    rw (← same) w.appended

-- a prefix of what was left was written
pub Wrote_prefix : {old mid : Option (List ℕ)} {whole left : List ℕ} (new : Option (List ℕ)) (piece rest : List ℕ) → Wrote old mid whole left → WrotePrefix mid new piece → piece ++ rest ≡ left → WrotePrefix old new whole
Wrote_prefix new piece rest w p e =
    (p.0 ++ rest, Wrote_more new p.1.done (p.0 ++ rest) w p.1.appended (sym (append_assoc p.1.done p.0 rest) ∙ ap (λ (x : List ℕ). x ++ rest) p.1.complete ∙ e))

pub Consumes_none : (o : Option (List ℕ)) → Consumes o o []
Consumes_none None = tt
Consumes_none (Some xs) = refl

pub Consumes_more : (a b c : Option (List ℕ)) (xs ys : List ℕ) → Consumes a b xs → Consumes b c ys → Consumes a c (xs ++ ys)
Consumes_more None b c xs ys p q = tt
Consumes_more (Some xs1) None c xs ys p q = absurd p
Consumes_more (Some xs1) (Some xs2) None xs ys p q = absurd q
Consumes_more (Some xs1) (Some xs2) (Some xs3) xs ys p q = rw (p, q) (sym (append_assoc xs ys xs3))

pub Consumes_kept : (a b c : Option (List ℕ)) (xs : List ℕ) → Consumes a b xs → Keeps b c → Consumes a c xs
Consumes_kept None b c xs p q = tt
Consumes_kept (Some xs1) None c xs p q = absurd p
Consumes_kept (Some xs1) (Some xs2) None xs p q = absurd q
Consumes_kept (Some xs1) (Some xs2) (Some xs3) xs p q = p ∙ ap (λ (x : List ℕ). xs ++ x) (sym q)

-- what was taken, and then at most so many bytes more
pub took-more : (a b c : Option (List ℕ)) (xs : List ℕ) (room most : ℕ) → Consumes a b xs → TookAtMost room b c → length xs + room ≤ most → TookAtMost most a c
took-more a b c xs room most before more fits =
    let count = more.count in
    record {
      bytes = xs ++ more.bytes;
      taken = Consumes_more a b c xs more.bytes before more.taken;
      count = rw (length-append xs more.bytes) (omega (arith, count, fits));
    }

-- what was taken before a call that took nothing
pub took-kept : (a b c : Option (List ℕ)) (xs : List ℕ) (most : ℕ) → Consumes a b xs → Keeps b c → length xs ≤ most → TookAtMost most a c
took-kept a b c xs most before kept fits = record { bytes = xs; taken = Consumes_kept a b c xs before kept; count = fits }

-- what was read to the end of a source that tells its bytes is those bytes
pub ReadWhole-known : (known bytes : List ℕ) (new : Option (List ℕ)) → ReadWhole (Some known) new bytes → known ≡ bytes
ReadWhole-known known bytes None r = absurd r.taken
ReadWhole-known known bytes (Some rest) r = r.taken ∙ ap (λ (x : List ℕ). bytes ++ x) r.end ∙ append-nil bytes
