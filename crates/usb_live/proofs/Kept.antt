-- A step that touches one cell keeps the rule of the row where it keeps the rule of that cell.
use Rattle.std.proofs.Common.{◌≡◌, ℕ, zero, suc, ◌<◌, ◌⊎◌, List, [], ◌∷◌, ◌++◌, map, length, get_or, set, replicate, sym, refl, ap, ap₂, ◌∙◌, subst, inl, inr, ⊎_elim, arith, length-set, get_or-set_other, get_or-set_same, None}
use Rattle.std.proofs.lemmas.List.{set-get_or, length-replicate, get_or-replicate, length-map}
use mathlib.Core.Logic.{dite}
use mathlib.Core.Option.{some, none, some-injective, some-ne-none}
use native.Mathlib.Decide.{ℕ_discrete}
use lib.ListN.{get_elem?}
use Rattle.atomic_table.specs.Table.{Act, keeps, takes, gives, chain, Valid, put_back, rest, homes_after, carried_after, opening, Allows, Splits}
use Rattle.usb_live.specs.declared.view.View.{View}
use Rattle.usb_live.specs.declared.view.OwnerCell.{OwnerCell}
use Rattle.usb_live.specs.declared.view.HandlerCell.{HandlerCell}
use Rattle.usb_live.specs.declared.view.Side.{Side}
use Rattle.usb_live.specs.declared.view.Side.TheVariants.{Both, Owner, Handler}
use Rattle.usb_live.specs.Cells.{SlotValue, Home, Cell}
use Rattle.usb_live.specs.Rows.{Rowed, One, Two, free_cell, idle_cell, owner_cell, handler_cell, first, owner_first, handler_first}
use Rattle.usb_live.specs.Steps.{Sat}

-- the rule of a cell, at equal parts
pub cell_at : (w w' : ℕ) (y y' : Home) (c c' : OwnerCell) (d d' : HandlerCell) → w' ≡ w → y' ≡ y → c' ≡ c → d' ≡ d → Cell w y c d → Cell w' y' c' d'
cell_at w w' y y' c c' d d' p q r s ok =
    subst (λ (z : ℕ). Cell z y' c' d') (sym p) (subst (λ (z : Home). Cell w z c' d') (sym q) (subst (λ (z : OwnerCell). Cell w y z d') (sym r) (subst (λ (z : HandlerCell). Cell w y c z) (sym s) ok)))

-- what an act does to the slot of the cell i
abbrev pub OnCell : ℕ → Home → Home → List (ℕ × SlotValue) → Act SlotValue → Type 0
OnCell i home to c keeps = to ≡ home
OnCell i home to c (takes k x) = (k ≡ i) × (home ≡ some x) × (to ≡ none)
OnCell i home to c gives = (x : SlotValue) × (c ≡ (i, x) ∷ rest c) × (to ≡ some x)
OnCell i home to c (chain a b) = ⊥

at_home : (hs : List Home) (i : ℕ) (x : SlotValue) → i < length hs → get_or hs i none ≡ some x → get_elem? hs i ≡ some (some x)
at_home [] i x h e = absurd (omega arith)
at_home (y ∷ ys) zero x h e = ap (λ (z : Home). some z) e
at_home (y ∷ ys) (suc i) x h e = at_home ys i x (omega arith) e

moved : (hs : List Home) (i : ℕ) (to : Home) (c : List (ℕ × SlotValue)) (a : Act SlotValue) → i < length hs → OnCell i (get_or hs i none) to c a → Valid hs c a × (homes_after hs c a ≡ set hs i to)
moved hs i to c keeps near p = (tt, sym (ap (λ (z : Home). set hs i z) p ∙ set-get_or hs i none))
moved hs i to c (takes k x) near p =
    (subst (λ (j : ℕ). get_elem? hs j ≡ some (some x)) (sym p.0) (at_home hs i x near p.1), ap (λ (j : ℕ). set hs j none) p.0 ∙ ap (λ (z : Home). set hs i z) (sym p.2))
moved hs i to c gives near p = (tt, ap (λ (l : List (ℕ × SlotValue)). put_back hs l) p.1 ∙ ap (λ (z : Home). set hs i z) (sym p.2))
moved hs i to c (chain a b) near p = absurd p

two_owner : (ws : List ℕ) (hs : List Home) (o h o' : View) (i n : ℕ) (y : Home) (c : OwnerCell) → length ws ≡ 64 → length hs ≡ 64 → i < 64 → Two ws hs o h
    → o'.side ≡ Owner → o'.owner ≡ set o.owner i c → Cell n y c (handler_cell h i) → Two (set ws i n) (set hs i y) o' h
two_owner ws hs o h o' i n y c lw lh near two side cells ok = record {
  owner = (side, ap length cells ∙ (length-set o.owner i c ∙ two.owner.1));
  handler = two.handler;
  each = λ j l. dite (ℕ_discrete j i)
      (λ e. subst (λ (k : ℕ). Cell (get_or (set ws i n) k 0) (get_or (set hs i y) k none) (owner_cell o' k) (handler_cell h k)) (sym e)
      (cell_at n _ y _ c _ (handler_cell h i) _ (get_or-set_same ws i n 0 (omega arith)) (get_or-set_same hs i y none (omega arith))
      (ap (λ (l : List OwnerCell). get_or l i free_cell) cells ∙ get_or-set_same o.owner i c free_cell (omega (arith, two.owner.1))) refl ok))
      (λ ne. cell_at (get_or ws j 0) _ (get_or hs j none) _ (owner_cell o j) _ (handler_cell h j) _ (get_or-set_other ws i j n 0 ne) (get_or-set_other hs i j y none ne)
      (ap (λ (l : List OwnerCell). get_or l j free_cell) cells ∙ get_or-set_other o.owner i j c free_cell ne) refl (two.each j l));
}

two_handler : (ws : List ℕ) (hs : List Home) (o h h' : View) (i n : ℕ) (y : Home) (c : HandlerCell) → length ws ≡ 64 → length hs ≡ 64 → i < 64 → Two ws hs o h
    → h'.side ≡ Handler → h'.handler ≡ set h.handler i c → Cell n y (owner_cell o i) c → Two (set ws i n) (set hs i y) o h'
two_handler ws hs o h h' i n y c lw lh near two side cells ok = record {
  owner = two.owner;
  handler = (side, ap length cells ∙ (length-set h.handler i c ∙ two.handler.1));
  each = λ j l. dite (ℕ_discrete j i)
      (λ e. subst (λ (k : ℕ). Cell (get_or (set ws i n) k 0) (get_or (set hs i y) k none) (owner_cell o k) (handler_cell h' k)) (sym e)
      (cell_at n _ y _ (owner_cell o i) _ c _ (get_or-set_same ws i n 0 (omega arith)) (get_or-set_same hs i y none (omega arith)) refl
      (ap (λ (l : List HandlerCell). get_or l i idle_cell) cells ∙ get_or-set_same h.handler i c idle_cell (omega (arith, two.handler.1))) ok))
      (λ ne. cell_at (get_or ws j 0) _ (get_or hs j none) _ (owner_cell o j) _ (handler_cell h j) _ (get_or-set_other ws i j n 0 ne) (get_or-set_other hs i j y none ne) refl
      (ap (λ (l : List HandlerCell). get_or l j idle_cell) cells ∙ get_or-set_other h.handler i j c idle_cell ne) (two.each j l));
}

one_seat : (v u : View) (id : ℕ) → get_elem? (v ∷ []) id ≡ some u → v ≡ u
one_seat v u zero e = some-injective v u e
one_seat v u (suc id) e = absurd (some-ne-none u (sym e))

one_id : (v u : View) (id : ℕ) → get_elem? (v ∷ []) id ≡ some u → id ≡ 0
one_id v u zero e = refl
one_id v u (suc id) e = absurd (some-ne-none u (sym e))

two_seats : (o h u : View) (id : ℕ) → get_elem? (o ∷ h ∷ []) id ≡ some u → ((id ≡ 0) × (o ≡ u)) ⊎ ((id ≡ 1) × (h ≡ u))
two_seats o h u zero e = inl (refl, some-injective o u e)
two_seats o h u (suc zero) e = inr (refl, some-injective h u e)
two_seats o h u (suc (suc id)) e = absurd (some-ne-none u (sym e))

abbrev side_of : View → Side
side_of v = v.side

-- how the owner goes on from a cell whose slot is `home`, when the word becomes n
pub record OwnerGoes (i : ℕ) (m : Sat) (n : ℕ) (then : Sat → Type 0) (home : Home) (h : HandlerCell) : Type 0 where
  pub to : View
  pub cell : OwnerCell
  pub act : Act SlotValue
  pub home_to : Home
  pub side : to.side ≡ Owner
  pub cells : to.owner ≡ set m.0.owner i cell
  pub moves : OnCell i home home_to m.1 act
  pub keeps : Cell n home_to cell h
  pub tells : then (to, carried_after m.1 act)

-- A step of the owner on the cell i keeps the rule of the row, where it keeps that of the cell
pub owner_step : (n id i : ℕ) (m : Sat) (f : ℕ → ℕ) (then : ℕ → Sat → Type 0) → i < 64 → m.0.side ≡ Owner
    → ((w : ℕ) (home : Home) (h : HandlerCell) → Cell w home (owner_cell m.0 i) h → OwnerGoes i m (f w) (then w) home h)
    → Allows Rowed n id m i f then
owner_step n id i m f then near side local s ok slots me wide = ⊎_elim
    (λ (one : One s.words s.homes s.views).
    let e : get_elem? (one.0 ∷ []) id ≡ some m.0 = subst (λ (vs : List View). get_elem? vs id ≡ some m.0) one.1 me in
    let b : Both ≡ Owner = sym one.2 ∙ (ap side_of (one_seat one.0 m.0 id e) ∙ side) in absurd (cc))
    (λ (it : (o : View) × (h : View) × (s.views ≡ o ∷ h ∷ []) × Two s.words s.homes o h).
    let o : View = it.0 in let h : View = it.1 in let two : Two s.words s.homes o h = it.3 in
    let e : get_elem? (o ∷ h ∷ []) id ≡ some m.0 = subst (λ (vs : List View). get_elem? vs id ≡ some m.0) it.2 me in
    ⊎_elim
    (λ (q : (id ≡ 0) × (o ≡ m.0)).
    let w : ℕ = get_or s.words i 0 in
    let c : Cell w (get_or s.homes i none) (owner_cell m.0 i) (handler_cell h i) = subst (λ (v : View). Cell w (get_or s.homes i none) (owner_cell v i) (handler_cell h i)) q.1 (two.each i near) in
    let g = local w (get_or s.homes i none) (handler_cell h i) c in
    let a = moved s.homes i g.home_to m.1 g.act (omega (arith, ok.homes)) g.moves in
    let t : Two (set s.words i (f w)) (set s.homes i g.home_to) g.to h
    = two_owner s.words s.homes o h g.to i (f w) g.home_to g.cell ok.words ok.homes near two g.side (g.cells ∙ ap (λ (v : View). set v.owner i g.cell) (sym q.1)) g.keeps in (
      g.to,
      g.act,
      a.0,
      record {
        words = length-set s.words i (f w) ∙ ok.words;
        homes = ap length a.1 ∙ (length-set s.homes i g.home_to ∙ ok.homes);
        seats = inr (
          g.to,
          h,
          ap₂ (λ (vs : List View) (k : ℕ). set vs k g.to) it.2 q.0,
          subst (λ (hs : List Home). Two (set s.words i (f w)) hs g.to h) (sym a.1) t,
        );
      },
      g.tells,
    ))
    (λ (q : (id ≡ 1) × (h ≡ m.0)). let b : Handler ≡ Owner = sym two.handler.0 ∙ (ap side_of q.1 ∙ side) in absurd (cc))
    (two_seats o h m.0 id e))
    ok.seats

pub record HandlerGoes (i : ℕ) (m : Sat) (n : ℕ) (then : Sat → Type 0) (home : Home) (o : OwnerCell) : Type 0 where
  pub to : View
  pub cell : HandlerCell
  pub act : Act SlotValue
  pub home_to : Home
  pub side : to.side ≡ Handler
  pub cells : to.handler ≡ set m.0.handler i cell
  pub moves : OnCell i home home_to m.1 act
  pub keeps : Cell n home_to o cell
  pub tells : then (to, carried_after m.1 act)

pub handler_step : (n id i : ℕ) (m : Sat) (f : ℕ → ℕ) (then : ℕ → Sat → Type 0) → i < 64 → m.0.side ≡ Handler
    → ((w : ℕ) (home : Home) (o : OwnerCell) → Cell w home o (handler_cell m.0 i) → HandlerGoes i m (f w) (then w) home o)
    → Allows Rowed n id m i f then
handler_step n id i m f then near side local s ok slots me wide = ⊎_elim
    (λ (one : One s.words s.homes s.views).
    let e : get_elem? (one.0 ∷ []) id ≡ some m.0 = subst (λ (vs : List View). get_elem? vs id ≡ some m.0) one.1 me in
    let b : Both ≡ Handler = sym one.2 ∙ (ap side_of (one_seat one.0 m.0 id e) ∙ side) in absurd (cc))
    (λ (it : (o : View) × (h : View) × (s.views ≡ o ∷ h ∷ []) × Two s.words s.homes o h).
    let o : View = it.0 in let h : View = it.1 in let two : Two s.words s.homes o h = it.3 in
    let e : get_elem? (o ∷ h ∷ []) id ≡ some m.0 = subst (λ (vs : List View). get_elem? vs id ≡ some m.0) it.2 me in
    ⊎_elim
    (λ (q : (id ≡ 0) × (o ≡ m.0)). let b : Owner ≡ Handler = sym two.owner.0 ∙ (ap side_of q.1 ∙ side) in absurd (cc))
    (λ (q : (id ≡ 1) × (h ≡ m.0)).
    let w : ℕ = get_or s.words i 0 in
    let c : Cell w (get_or s.homes i none) (owner_cell o i) (handler_cell m.0 i) = subst (λ (v : View). Cell w (get_or s.homes i none) (owner_cell o i) (handler_cell v i)) q.1 (two.each i near) in
    let g = local w (get_or s.homes i none) (owner_cell o i) c in
    let a = moved s.homes i g.home_to m.1 g.act (omega (arith, ok.homes)) g.moves in
    let t : Two (set s.words i (f w)) (set s.homes i g.home_to) o g.to
    = two_handler s.words s.homes o h g.to i (f w) g.home_to g.cell ok.words ok.homes near two g.side (g.cells ∙ ap (λ (v : View). set v.handler i g.cell) (sym q.1)) g.keeps in (
      g.to,
      g.act,
      a.0,
      record {
        words = length-set s.words i (f w) ∙ ok.words;
        homes = ap length a.1 ∙ (length-set s.homes i g.home_to ∙ ok.homes);
        seats = inr (
          o,
          g.to,
          ap₂ (λ (vs : List View) (k : ℕ). set vs k g.to) it.2 q.0,
          subst (λ (hs : List Home). Two (set s.words i (f w)) hs o g.to) (sym a.1) t,
        );
      },
      g.tells,
    ))
    (two_seats o h m.0 id e))
    ok.seats

-- the row at its start
idle_row : Cell 0 (some None) free_cell idle_cell
idle_row = record { agrees = (refl, refl); out = refl; owner_out = λ e. absurd (cc); handler_out = λ e. absurd (cc) }

home_first : (n i : ℕ) → i < n → get_or (map (λ (x : SlotValue). some x) (replicate n None)) i none ≡ some None
home_first zero i h = absurd (omega arith)
home_first (suc n) zero h = refl
home_first (suc n) (suc i) h = home_first n i (omega arith)

pub starts : (ws : List ℕ) → ws ≡ replicate 64 0 → Rowed (opening ws (replicate 64 None) first)
starts ws is = record {
  words = ap length is ∙ length-replicate {A = ℕ} 64 0;
  homes = length-map (replicate 64 None) (λ (x : SlotValue). some x) ∙ length-replicate {A = SlotValue} 64 None;
  seats = inl (
    first,
    refl,
    refl,
    λ i l. cell_at 0 _ (some None) _ free_cell _ idle_cell _ (ap (λ (l : List ℕ). get_or l i 0) is ∙ get_or-replicate 64 i 0 0 l) (home_first 64 i l) refl refl idle_row,
  );
}

-- the two seats are made
pub splits : (id : ℕ) → Splits Rowed id first owner_first handler_first
splits id s ok me = ⊎_elim
    (λ (one : One s.words s.homes s.views).
    let e : get_elem? (one.0 ∷ []) id ≡ some first = subst (λ (vs : List View). get_elem? vs id ≡ some first) one.1 me in
    record {
      words = ok.words;
      homes = ok.homes;
      seats = inr (
        owner_first,
        handler_first,
        ap (λ (vs : List View). set vs id owner_first ++ handler_first ∷ []) one.1 ∙ ap (λ (k : ℕ). set (one.0 ∷ []) k owner_first ++ handler_first ∷ []) (one_id one.0 first id e),
        record {
          owner = (refl, length-replicate 64 free_cell);
          handler = (refl, length-replicate 64 idle_cell);
          each = λ i l. cell_at _ _ _ _ free_cell _ idle_cell _ refl refl (get_or-replicate 64 i free_cell free_cell l) (get_or-replicate 64 i idle_cell idle_cell l) (one.3 i l);
        },
      );
    })
    (λ (it : (o : View) × (h : View) × (s.views ≡ o ∷ h ∷ []) × Two s.words s.homes o h).
    let e : get_elem? (it.0 ∷ it.1 ∷ []) id ≡ some first = subst (λ (vs : List View). get_elem? vs id ≡ some first) it.2 me in
    ⊎_elim
    (λ (q : (id ≡ 0) × (it.0 ≡ first)). let b : Owner ≡ Both = sym it.3.owner.0 ∙ ap side_of q.1 in absurd (cc))
    (λ (q : (id ≡ 1) × (it.1 ≡ first)). let b : Handler ≡ Both = sym it.3.handler.0 ∙ ap side_of q.1 in absurd (cc))
    (two_seats it.0 it.1 first id e))
    ok.seats
