use Rattle.std.proofs.Common.{◌<◌, ℕ, ◌∙◌, ap, subst, refl, rules}
use Rattle.std.specs.VecDeque.{deque_len}
use Rattle.usb_live.specs.declared.view.Owned.TheVariants.{Free}
use Rattle.usb_live.specs.Seats.{OwnerState, owns, has_own}
use Rattle.usb_live.specs.Live.{Live}
use Rattle.usb_live.specs.Calls.{IsTaken}
use Rattle.usb_live.proofs.Queue.{popped, pops, cell_freed, freed_cells, now_taken}
use Rattle.usb_live.proofs.endpoint.LiveEndpoint.try_next_complete.Goals as goal

pub invariant_of-self-2 : goal.invariant_of-self-2
invariant_of-self-2 c = let v = c.self.inside.seat in let e = c.in-Some.front.now in let some_left : 0 < deque_len c.self.inside.queue = search rules in let done = c.take_front-receipt.result.completion in
    let seat = c.take_front-receipt.ensures.seat ∙ (ap (λ (z : OwnerState). has_own (owns z e.cell Free) done) c.if-not-is_done.ensures.looked ∙ cell_freed v e e.refused done) in
    pops v.view _ _ _ e _ _ c.self.invariant (popped _ _ _ e c.pop_front.ensures.items (c.pop_front.ensures.value e some_left) c.in-Some.ensures.lookup) (ap (λ (z : OwnerState). z.view.owner) seat ∙ freed_cells v e e.refused) c.take_front-receipt.ensures.used

pub returns : goal.returns
returns c = let v = c.self.inside.seat in let e = c.in-Some.front.now in let some_left : 0 < deque_len c.self.inside.queue = search rules in let done = c.take_front-receipt.result.completion in
    let seat = c.take_front-receipt.ensures.seat ∙ (ap (λ (z : OwnerState). has_own (owns z e.cell Free) done) c.if-not-is_done.ensures.looked ∙ cell_freed v e e.refused done) in
    let x : Live = record { seat = v; route = c.self.inside.to; queue = c.self.inside.queue.items; tally = c.self.inside.tally } in
    let y : Live = record x { seat = c.take_front-receipt.new.seat; queue = c.pop_front.new.self.items; tally = record c.self.inside.tally { taken = c.saturating_add-self-inside.result } } in
    record {
      told = subst (λ (z : Live). IsTaken z.queue c.take_front-receipt.result z y) c.self.view_is
          (now_taken x y _ e _
          (popped _ _ _ e c.pop_front.ensures.items (c.pop_front.ensures.value e some_left) c.in-Some.ensures.lookup) c.take_front-receipt.ensures.ticket refl seat refl
          (ap (λ (k : ℕ). record c.self.inside.tally { taken = k }) c.saturating_add-self-inside.ensures));
    }
