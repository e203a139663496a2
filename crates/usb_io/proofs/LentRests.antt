-- What a fill of std's leaves: its trait asks for less.
use seplogic.Ra.Ura.{Ura}
use base.Logic.{SProp, ent, sep, emp, id⊢, via, ex_i, ex_e}
use base.Fml.{GName}
use base.Stored.{Gv}
use types.Logic.{Logic, sem}
use contract.Monad.{fact, fact_i}
use denote.Follow.{such_by, follows_by}
use denote.Triple.Impl.{with_fact}
use borrow.Fn.Refines.{Gives, Turns, by_parts}
use mathlib.Core.List.{[]}
use mathlib.Core.Option.{none}

-- D is what lends, R what is answered
module _ {M : Type 1} {𝓤 : Ura M} (𝓛 : Logic 𝓤) (D : Type 0) (code : D → Gv) (γ : GName) (R X : Type 0) (P P' : R → D → Type 0) where
  -- once the loan has ended the lender is such that P
  abbrev Rest : (R → D → Type 0) → R → SProp 𝓤
  Rest Q r = sem 𝓛 (such_by D D code code γ none (λ _ _. Unit {0}) (Q r))

  -- two clauses that say nothing, of bytes that aren't known, before it
  abbrev Beside : SProp 𝓤 → SProp 𝓤
  Beside S = sep 𝓤 (fact 𝓤 (Unit {0})) (sep 𝓤 (fact 𝓤 (Unit {0})) S)

  weaker : ((r : R) (z : D) → P r z → P' r z) → (r : R) → ent 𝓤 (Rest P r) (Rest P' r)
  unfolding such_by
  weaker less r = ex_e 𝓤 _ (λ s.
      ex_i 𝓤 (λ (y : (p : (D → D) × D) × (D → Unit {0}) × P' r p.1). sem 𝓛 (follows_by D D code code γ none y.0.0 y.0.1)) (s.0, s.1, less r s.0.1 s.2))

  beside : (S : SProp 𝓤) → ent 𝓤 S (Beside S)
  beside S = via 𝓤 (sep 𝓤 (fact 𝓤 (Unit {0})) S) (with_fact 𝓤 (Unit {0}) S tt) (with_fact 𝓤 (Unit {0}) (sep 𝓤 (fact 𝓤 (Unit {0})) S) tt)

  -- a fill's own clause gives those of its trait
  pub fill_gives : ((r : R) (z : D) → P r z → P' r z)
      → Gives 𝓤 (emp 𝓤) (Unit {0}) (λ g. emp 𝓤) (λ g. Turns 𝓤 R X (λ r e. Rest P r) (λ r e. Beside (Rest P' r)))
  fill_gives less =
      by_parts 𝓤 [] [] (emp 𝓤) (emp 𝓤) R X (λ r e. []) (λ r e. []) (λ r e. Rest P r) (λ r e. Beside (Rest P' r))
      (fact_i 𝓤 (Unit {0}) (emp 𝓤) tt) (λ a. id⊢ 𝓤 (emp 𝓤)) (λ r e. fact_i 𝓤 (Unit {0}) (Rest P r) tt)
      (λ r e a. via 𝓤 (Rest P' r) (weaker less r) (beside (Rest P' r))) (λ a. a) (λ a r e b. b)
