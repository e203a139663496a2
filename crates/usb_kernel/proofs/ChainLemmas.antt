-- A ticket is taken out of a list.
use Rattle.std.proofs.Common.{◌≡◌, ◌≢◌, ◌⊎◌, ℕ, ◌+◌, ◌<◌, ◌≤◌, Bool, true, false, Option, Some, None, refl, sym, ap, ◌∙◌, arith, inl, inr}
use Rattle.std.proofs.lemmas.Grind.{common_steps}
use Rattle.std.proofs.lemmas.Option.{none-some, same_Some}
use Rattle.std.proofs.lemmas.Bool.{cases_eq, cases_lt, cases_Bool}
use Rattle.usb_kernel.specs.declared.record.Link.{Link}
use Rattle.usb_kernel.specs.declared.record.Ends.{Ends}
use Rattle.usb_kernel.specs.Chains.{IsFirst, IsLast, IsChained, IsWithout}

pub some_same : (i j : ℕ) → Some i ≡ Some j → i ≡ j
some_same i j same = grind (arith, common_steps)

module _ (p q : ℕ → Bool) (t : ℕ) (w : IsWithout p q t) where
  -- what passes still passed, and is another one
  still : (i : ℕ) → q i ≡ true → (p i ≡ true) × (i ≢ t)
  still i passes =
      elim (cases_eq i t) [
        | inl same ↦ absurd (grind (arith, common_steps, w.gone, passes, same))
        | inr other ↦ (sym (w.others i other) ∙ passes, other)
      ]

  stays : (i : ℕ) → p i ≡ true → i ≢ t → q i ≡ true
  stays i passes other = w.others i other ∙ passes

  -- the first from k on, where it is t
  pub first-gone : (k : ℕ) (o : Option ℕ) → IsFirst p k (Some t) → IsFirst p (t + 1) o → IsFirst q k o
  first-gone k o now next = record {
    least = λ i from passes.
        let was = still i passes in
        let at = now.least i from was.0 in
        let same : t ≡ at.0 = some_same t at.0 at.1 in
        let above : t + 1 ≤ i = omega (arith, at.2, same, was.1) in
        next.least i above was.0;
    passes = λ j is.
        let at = next.passes j is in
        let below = now.passes t refl in
        let apart : j ≢ t = λ z. absurd (omega (arith, at.0, z)) in
        (omega (arith, at.0, below.0), stays j at.1 apart);
  }

  -- and where it is another one, or none
  pub first-stays : (k : ℕ) (o : Option ℕ) → IsFirst p k o → o ≢ Some t → IsFirst q k o
  first-stays k o now other = record {
    least = λ i from passes. now.least i from (still i passes).0;
    passes = λ j is.
        let at = now.passes j is in
        (at.0, stays j at.1 (λ z. other (is ∙ ap (λ (n : ℕ). Some n) z)));
  }

  -- the last below k, where it is another one than t
  pub last-stays : (k : ℕ) (o : Option ℕ) → IsLast p k o → ((i : ℕ) → i < k → q i ≡ true → o ≢ Some t) → IsLast q k o
  last-stays k o now other = λ i below passes.
      let at = now i below (still i passes).0 in
      (at.0, at.1, at.2, at.3, stays at.0 at.4 (λ z. other i below passes (at.1 ∙ ap (λ (n : ℕ). Some n) z)))

  -- behind t, where o is the first behind it or k the end, what stands before t does
  pub last-before : (k : ℕ) (o : Option ℕ) → t < k → ((i : ℕ) → t < i → i < k → p i ≡ true → ⊥) → IsLast p t o → IsLast q k o
  last-before k o above none now = λ i below passes.
      let was = still i passes in
      elim (cases_lt i t) [
        | inl under ↦
            let at = now i under was.0 in
            (at.0, at.1, at.2, omega (arith, at.3, above), stays at.0 at.4 (λ z. absurd (omega (arith, z, at.3))))
        | inr over ↦ absurd (none i (omega (arith, over, was.1)) below was.0)
      ]

-- where t begins the list, the others go on as they were
module _ (p q : ℕ → Bool) (t : ℕ) (w : IsWithout p q t) (L : ℕ → Option Link) (n : ℕ) (ends : Ends) (link : Link) (c : IsChained p L n ends) (at : L t ≡ Some link) (begins : ends.first ≡ Some t) where
  -- each other ticket stands behind it
  behind : (i : ℕ) → q i ≡ true → t < i
  behind i passes =
      let was = still p q t w i passes in
      let first : IsFirst p 0 (Some t) = rw begins at c.first in
      let least = first.least i (omega arith) was.0 in
      omega (arith, some_same t least.0 least.1, least.2, was.1)

  pub chained-pop : IsChained q L n (record ends { first = link.after })
  chained-pop = record {
    first = first-gone p q t w 0 link.after (rw begins at c.first) (c.after t link w.there at);
    last = last-stays p q t w n ends.last c.last (λ i below passes same.
        let was = still p q t w i passes in
        let last = c.last i below was.0 in
        omega (arith, behind i passes, some_same t last.0 (sym same ∙ last.1), last.2));
    after = λ k l passes here.
        first-stays p q t w (k + 1) l.after (c.after k l (still p q t w k passes).0 here) (λ same.
        let next = (c.after k l (still p q t w k passes).0 here).passes t same in
        omega (arith, behind k passes, next.0));
    before = λ k l passes here.
        let now = c.before k l (still p q t w k passes).0 here in
        last-stays p q t w k l.before now (λ i below inner same.
        let last = now i below (still p q t w i inner).0 in
        omega (arith, behind i inner, some_same t last.0 (sym same ∙ last.1), last.2));
    within = λ k passes. c.within k (still p q t w k passes).0;
  }

-- the neighbours of t have each other for their neighbours, and all others have those that they had
pub record IsAtNow (link l l' : Link) (k : ℕ) : Type 0 where
  pub after_new : link.before ≡ Some k → l'.after ≡ link.after
  pub after_same : link.before ≢ Some k → l'.after ≡ l.after
  pub before_new : link.after ≡ Some k → l'.before ≡ link.before
  pub before_same : link.after ≢ Some k → l'.before ≡ l.before

abbrev pub AreRelinked : Link → (ℕ → Option Link) → (ℕ → Option Link) → Type 0
AreRelinked link L M = (k : ℕ) (l' : Link) → M k ≡ Some l' → (l : Link) × (L k ≡ Some l) × IsAtNow link l l' k

-- a number is in an option, or not
pub some_or : (o : Option ℕ) (k : ℕ) → (o ≡ Some k) ⊎ (o ≢ Some k)
some_or None k = inr (λ z. none-some k z)
some_or (Some j) k = elim (cases_eq j k) [ inl same ↦ inl (ap (λ (n : ℕ). Some n) same) | inr other ↦ inr (λ z. other (some_same j k z)) ]

pub none_or : (o : Option ℕ) → (o ≡ None) ⊎ ((a : ℕ) × (o ≡ Some a))
none_or None = inl refl
none_or (Some a) = inr (a, refl)

-- where another ticket begins the list
module _ (p q : ℕ → Bool) (t : ℕ) (w : IsWithout p q t) (L M : ℕ → Option Link) (n : ℕ) (ends : Ends) (link : Link) (c : IsChained p L n ends) (at : L t ≡ Some link) (later : ends.first ≢ Some t) (relinked : AreRelinked link L M) where
  -- one stands before t
  pub before-t : (b : ℕ) × (link.before ≡ Some b) × (b < t) × (p b ≡ true)
  before-t =
      let first = c.first.least t (omega arith) w.there in
      let apart : first.0 ≢ t = λ z. later (first.1 ∙ ap (λ (n : ℕ). Some n) z) in
      let last = c.before t link w.there at first.0 (omega (arith, first.2, apart)) (c.first.passes first.0 first.1).1 in
      (last.0, last.1, last.3, last.4)

  -- which is the last one before t
  nearest : (i : ℕ) → i < t → p i ≡ true → i ≤ before-t.0
  nearest i below passes =
      let last = c.before t link w.there at i below passes in
      let same = some_same before-t.0 last.0 (sym before-t.1 ∙ last.1) in
      omega (arith, last.2, same)

  -- one that stands behind t is not before the one that stands next to t
  next-t : (i : ℕ) → t < i → p i ≡ true → (a : ℕ) × (link.after ≡ Some a) × (a ≤ i) × (t < a) × (p a ≡ true)
  next-t i above passes =
      let least = (c.after t link w.there at).least i (omega (arith, above)) passes in
      let next = (c.after t link w.there at).passes least.0 least.1 in
      (least.0, least.1, least.2, omega (arith, next.0), next.1)

  after-now : (k : ℕ) (l' : Link) → q k ≡ true → M k ≡ Some l' → IsFirst q (k + 1) l'.after
  after-now k l' passes here =
      let was = relinked k l' here in
      let now = still p q t w k passes in
      let next = c.after k was.0 now.0 was.1 in
      elim (some_or link.before k) [
        | inl same ↦
            let is : before-t.0 ≡ k = some_same before-t.0 k (sym before-t.1 ∙ same) in
            let least = next.least t (omega (arith, before-t.2, is)) w.there in
            let from = next.passes least.0 least.1 in
            let here_t : least.0 ≡ t = elim (cases_lt least.0 t) [
              | inl under ↦ absurd (omega (arith, nearest least.0 under from.1, from.0, is))
              | inr over ↦ omega (arith, over, least.2)
            ] in
            let old : was.0.after ≡ Some t = least.1 ∙ ap (λ (n : ℕ). Some n) here_t in
            rw (was.2.after_new same) (first-gone p q t w (k + 1) link.after (rw old at next) (c.after t link w.there at))
        | inr other ↦
            rw (was.2.after_same other) (first-stays p q t w (k + 1) was.0.after next (λ same.
            let from = next.passes t same in
            let near = nearest k (omega (arith, from.0)) now.0 in
            let apart : before-t.0 ≢ k = λ z. other (before-t.1 ∙ ap (λ (n : ℕ). Some n) z) in
            let least = next.least before-t.0 (omega (arith, near, apart)) before-t.3 in
            omega (arith, some_same t least.0 (sym same ∙ least.1), least.2, before-t.2)))
      ]

  before-now : (k : ℕ) (l' : Link) → q k ≡ true → M k ≡ Some l' → IsLast q k l'.before
  before-now k l' passes here =
      let was = relinked k l' here in
      let now = still p q t w k passes in
      let old = c.before k was.0 now.0 was.1 in
      elim (some_or link.after k) [
        | inl same ↦
            let from = (c.after t link w.there at).passes k same in
            rw (was.2.before_new same) (last-before p q t w k link.before (omega (arith, from.0)) (λ i above below inner.
            let next = next-t i above inner in
            omega (arith, some_same k next.0 (sym same ∙ next.1), next.2, below)) (c.before t link w.there at))
        | inr other ↦
            rw (was.2.before_same other) (last-stays p q t w k was.0.before old (λ i below inner same.
            let last = old i below (still p q t w i inner).0 in
            let is : t ≡ last.0 = some_same t last.0 (sym same ∙ last.1) in
            let next = next-t k (omega (arith, is, last.3)) now.0 in
            let apart : next.0 ≢ k = λ z. other (next.1 ∙ ap (λ (n : ℕ). Some n) z) in
            let again = old next.0 (omega (arith, next.2, apart)) next.4 in
            omega (arith, some_same t again.0 (sym same ∙ again.1), again.2, next.3)))
      ]

  last-now : (last : Option ℕ) → (link.after ≡ None → last ≡ link.before) → (link.after ≢ None → last ≡ ends.last) → IsLast q n last
  last-now last end inner = elim (none_or link.after) [
    | inl none ↦
        rw (end none) (last-before p q t w n link.before (c.within t w.there) (λ i above below passes.
        let next = next-t i above passes in
        none-some next.0 (sym none ∙ next.1)) (c.before t link w.there at))
    | inr some ↦
        rw (inner (λ none. none-some some.0 (sym none ∙ some.1))) (last-stays p q t w n ends.last c.last (λ i below passes same.
        let from = (c.after t link w.there at).passes some.0 some.1 in
        let last = c.last some.0 (c.within some.0 from.1) from.1 in
        omega (arith, some_same t last.0 (sym same ∙ last.1), last.2, from.0)))
  ]

  pub chained-middle : (last : Option ℕ) → (link.after ≡ None → last ≡ link.before) → (link.after ≢ None → last ≡ ends.last) → IsChained q M n (record ends { last = last })
  chained-middle last end inner = record {
    first = first-stays p q t w 0 ends.first c.first later;
    last = last-now last end inner;
    after = after-now;
    before = before-now;
    within = λ k passes. c.within k (still p q t w k passes).0;
  }

-- the list of other tickets stays as it is where t is taken out of its own
pub chained-other : (r : ℕ → Bool) (L M : ℕ → Option Link) (n : ℕ) (ends : Ends) (link : Link) → IsChained r L n ends → AreRelinked link L M → ((k : ℕ) → r k ≡ true → (link.before ≢ Some k) × (link.after ≢ Some k)) → IsChained r M n ends
chained-other r L M n ends link c relinked apart = record {
  first = c.first;
  last = c.last;
  after = λ k l' passes here.
      let was = relinked k l' here in
      rw (was.2.after_same (apart k passes).0) (c.after k was.0 passes was.1);
  before = λ k l' passes here.
      let was = relinked k l' here in
      rw (was.2.before_same (apart k passes).1) (c.before k was.0 passes was.1);
  within = c.within;
}

-- the same links and tests
pub chained-same : (p q : ℕ → Bool) (L M : ℕ → Option Link) (n : ℕ) (ends : Ends) → IsChained p L n ends → ((k : ℕ) → q k ≡ p k) → ((k : ℕ) → M k ≡ L k) → IsChained q M n ends
chained-same p q L M n ends c tests same = record {
  first = first-same p q 0 ends.first tests c.first;
  last = last-same p q n ends.last tests c.last;
  after = λ k l passes here. first-same p q (k + 1) l.after tests (c.after k l (sym (tests k) ∙ passes) (sym (same k) ∙ here));
  before = λ k l passes here. last-same p q k l.before tests (c.before k l (sym (tests k) ∙ passes) (sym (same k) ∙ here));
  within = λ k passes. c.within k (sym (tests k) ∙ passes);
}
  where
    first-same : (p q : ℕ → Bool) (k : ℕ) (o : Option ℕ) → ((i : ℕ) → q i ≡ p i) → IsFirst p k o → IsFirst q k o
    first-same p q k o tests f = record { least = λ i from passes. f.least i from (sym (tests i) ∙ passes); passes = λ j is. ((f.passes j is).0, tests j ∙ (f.passes j is).1) }

    last-same : (p q : ℕ → Bool) (k : ℕ) (o : Option ℕ) → ((i : ℕ) → q i ≡ p i) → IsLast p k o → IsLast q k o
    last-same p q k o tests f = λ i below passes. let at = f i below (sym (tests i) ∙ passes) in (at.0, at.1, at.2, at.3, tests at.0 ∙ at.4)

closed_unless : (b : Bool) → (b ≡ true → ⊥) → b ≡ false
closed_unless b never = elim (cases_Bool b) [ inl opens ↦ absurd (never opens) | inr closed ↦ closed ]

-- one more ticket, which passes no test
pub chained-longer : (p q : ℕ → Bool) (L M : ℕ → Option Link) (n : ℕ) (ends : Ends) → IsChained p L n ends → q n ≡ false → ((k : ℕ) → k ≢ n → q k ≡ p k) → ((k : ℕ) → p k ≡ true → M k ≡ L k) → IsChained q M (n + 1) ends
chained-longer p q L M n ends c closed tests same =
    let none : p n ≡ false = closed_unless (p n) (λ open_now. absurd (omega (arith, c.within n open_now))) in
    let all : (k : ℕ) → q k ≡ p k = λ k. elim (cases_eq k n) [ inl is ↦ ap q is ∙ (closed ∙ (sym none ∙ sym (ap p is))) | inr other ↦ tests k other ] in
    record {
      first = record { least = λ i from passes. c.first.least i from (sym (all i) ∙ passes); passes = λ j is. ((c.first.passes j is).0, all j ∙ (c.first.passes j is).1) };
      last = λ i below passes.
          let old = sym (all i) ∙ passes in
          let at = c.last i (c.within i old) old in
          (at.0, at.1, at.2, omega (arith, at.3), all at.0 ∙ at.4);
      after = λ k l passes here.
          let old = sym (all k) ∙ passes in
          let f = c.after k l old (sym (same k old) ∙ here) in
          record { least = λ i from inner. f.least i from (sym (all i) ∙ inner); passes = λ j is. ((f.passes j is).0, all j ∙ (f.passes j is).1) };
      before = λ k l passes here.
          let old = sym (all k) ∙ passes in
          let f = c.before k l old (sym (same k old) ∙ here) in
          λ i below inner. let at = f i below (sym (all i) ∙ inner) in (at.0, at.1, at.2, at.3, all at.0 ∙ at.4);
      within = λ k passes. omega (arith, c.within k (sym (all k) ∙ passes));
    }

-- the first ticket of a list
pub chained-alone : (p q : ℕ → Bool) (L M : ℕ → Option Link) (n : ℕ) (ends : Ends) (link : Link) → IsChained p L n ends → ends.first ≡ None → q n ≡ true → ((k : ℕ) → k ≢ n → q k ≡ p k) → M n ≡ Some link → link.after ≡ None → IsChained q M (n + 1) (record { first = Some n; last = Some n })
chained-alone p q L M n ends link c empty opens tests here end =
    let only : (k : ℕ) → q k ≡ true → k ≡ n = λ k passes. elim (cases_eq k n) [
      | inl is ↦ is
      | inr other ↦
          let least = c.first.least k (omega arith) (sym (tests k other) ∙ passes) in
          absurd (none-some least.0 (sym empty ∙ least.1))
    ] in
    record {
      first = record { least = λ i from passes. (n, refl, omega (arith, only i passes)); passes = λ j is. (omega arith, ap q (sym (some_same n j is)) ∙ opens) };
      last = λ i below passes. (n, refl, omega (arith, only i passes), omega arith, opens);
      after = λ k l passes at.
          let is = only k passes in
          let same : l ≡ link = same_Some l link (sym at ∙ (ap M is ∙ here)) in
          rw (same, end) (record { least = λ i from inner. absurd (omega (arith, only i inner, is, from)); passes = λ j z. absurd (none-some j z) });
      before = λ k l passes at i below inner. absurd (omega (arith, only k passes, only i inner, below));
      within = λ k passes. omega (arith, only k passes);
    }

-- one more ticket behind the last one
pub chained-more : (p q : ℕ → Bool) (L M : ℕ → Option Link) (n : ℕ) (ends : Ends) (link : Link) → IsChained p L n ends → ends.first ≢ None → q n ≡ true → ((k : ℕ) → k ≢ n → q k ≡ p k) → M n ≡ Some link → link.after ≡ None → link.before ≡ ends.last → ((k : ℕ) (l' : Link) → k ≢ n → M k ≡ Some l' → (l : Link) × (L k ≡ Some l) × (l'.before ≡ l.before) × (ends.last ≡ Some k → l'.after ≡ Some n) × (ends.last ≢ Some k → l'.after ≡ l.after)) → IsChained q M (n + 1) (record ends { last = Some n })
chained-more p q L M n ends link c some opens tests here end start linked =
    let was : (k : ℕ) → k ≢ n → q k ≡ true → p k ≡ true = λ k other passes. sym (tests k other) ∙ passes in
    let now : (k : ℕ) → p k ≡ true → q k ≡ true = λ k passes. tests k (λ z. absurd (omega (arith, z, c.within k passes))) ∙ passes in
    let one : (a : ℕ) × (ends.first ≡ Some a) = elim (none_or ends.first) [ inl none ↦ absurd (some none) | inr is ↦ is ] in
    let last : (i : ℕ) → p i ≡ true → (j : ℕ) × (ends.last ≡ Some j) × (i ≤ j) × (j < n) × (p j ≡ true) = λ i passes. c.last i (c.within i passes) passes in
    record {
      first = record {
        least = λ i from passes. elim (cases_eq i n) [
          | inl is ↦ (one.0, one.1, omega (arith, is, c.within one.0 (c.first.passes one.0 one.1).1))
          | inr other ↦ c.first.least i from (was i other passes)
        ];
        passes = λ j is. (omega arith, now j (c.first.passes j is).1);
      };
      last = λ i below passes. (n, refl, omega (arith, below), omega arith, opens);
      after = λ k l' passes at. elim (cases_eq k n) [
        | inl is ↦
            let same : l' ≡ link = same_Some l' link (sym at ∙ (ap M is ∙ here)) in
            rw (same, end) (record { least = λ i from inner. elim (cases_eq i n) [ inl z ↦ absurd (omega (arith, z, is, from)) | inr other ↦ absurd (omega (arith, c.within i (was i other inner), from, is)) ]; passes = λ j z. absurd (none-some j z) })
        | inr other ↦
            let old = linked k l' other at in
            let f = c.after k old.0 (was k other passes) old.1 in
            elim (some_or ends.last k) [
              | inl is ↦ rw (old.3 is) (record {
                least = λ i from inner. (
                  n,
                  refl,
                  elim (cases_eq i n) [
                    | inl z ↦ omega (arith, z)
                    | inr apart ↦ let z = last i (was i apart inner) in absurd (omega (arith, some_same k z.0 (sym is ∙ z.1), z.2, from))
                  ],
                );
                passes = λ j z. let e = some_same n j z in (omega (arith, e, c.within k (was k other passes)), ap q (sym e) ∙ opens);
              })
              | inr not ↦ rw (old.4 not) (
                  let z = last k (was k other passes) in
                  let apart : z.0 ≢ k = λ e. not (z.1 ∙ ap (λ (m : ℕ). Some m) e) in
                  let next = f.least z.0 (omega (arith, z.2, apart)) z.4 in
                  record {
                    least = λ i from inner. elim (cases_eq i n) [
                      | inl e ↦ (next.0, next.1, omega (arith, next.2, z.3, e))
                      | inr far ↦ f.least i from (was i far inner)
                    ];
                    passes = λ j is. ((f.passes j is).0, now j (f.passes j is).1);
                  })
            ]
      ];
      before = λ k l' passes at. elim (cases_eq k n) [
        | inl is ↦
            let same : l' ≡ link = same_Some l' link (sym at ∙ (ap M is ∙ here)) in
            rw (same, start) (λ i below inner.
            let z = last i (was i (λ e. absurd (omega (arith, e, is, below))) inner) in
            (z.0, z.1, z.2, omega (arith, z.3, is), now z.0 z.4))
        | inr other ↦
            let old = linked k l' other at in
            let f = c.before k old.0 (was k other passes) old.1 in
            rw old.2 (λ i below inner.
            let z = f i below (was i (λ e. absurd (omega (arith, e, below, c.within k (was k other passes)))) inner) in
            (z.0, z.1, z.2, z.3, now z.0 z.4))
      ];
      within = λ k passes. elim (cases_eq k n) [ inl is ↦ omega (arith, is) | inr other ↦ omega (arith, c.within k (was k other passes)) ];
    }
