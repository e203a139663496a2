use Rattle.std.proofs.Common.{◌≡◌, ◌∷◌, [], List, length, refl, sym, ap, ◌∙◌, append_assoc, append-nil, arith, rules}
use Rattle.std.specs.Vec.Iter.{into_iter_items}
use Rattle.usb_kernel_devices.proofs.devices.fresh_devices.Goals as goal

nothing_left : {X : Type 0} (l : List X) → length l ≡ 0 → l ≡ []
nothing_left [] h = refl
nothing_left (x ∷ xs) h = absurd (omega arith)

pub loop-number-init : goal.loop-number-init
loop-number-init c =
    let all = c.into_iter-number-iterator.ensures.into_iter_gives in
    record { made = rw (c.in-Ok.ensures.items, all.0) refl; left = search rules }

pub loop-number-preserved : goal.loop-number-preserved
loop-number-preserved c =
    let steps = c.in-Some.ensures.steps.0 in
    let gone = c.in-Some.ensures.steps.1 in
    let was = c.loop-number.invariant.left in
    let short = ap length steps in
    record {
      made = rw (c.push.ensures.items, c.if-is_err.ensures.negation, c.fresh.ensures.device, append_assoc) (rw steps at c.loop-number.invariant.made);
      left = omega arith;
    }

pub returns : goal.returns
returns c =
    let none = c.in-None.ensures.steps in
    let empty : into_iter_items c.loop-number.number-iterator ≡ [] = nothing_left _ (sym c.loop-number.invariant.left ∙ none.0) in
    record { devices = sym (append-nil c.loop-number.made.items) ∙ rw empty at c.loop-number.invariant.made }
