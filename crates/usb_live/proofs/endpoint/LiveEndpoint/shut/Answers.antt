use Rattle.std.proofs.Common.{◌≡◌, ℕ, ◌+◌, ◌<◌, min, ap, ◌∙◌, arith, rules, refl, []}
use Rattle.usb_live.specs.declared.entry.Tally.{Tally}
use Rattle.usb_live.specs.Live.{Live}
use Rattle.usb_live.specs.Calls.{freed, with_dropped}
use Rattle.usb_live.proofs.Queue.{given_cells, same_row, same_source, freed_none, drops_one, tally_is, live_is}
use Rattle.usb_live.proofs.endpoint.LiveEndpoint.shut.Goals as goal

pub entries-init : goal.entries-init
entries-init c = record {
  route = refl;
  row = refl;
  source = refl;
  orderly = c.self.invariant;
  began = c.self.invariant.queued;
  wide = c.self.invariant.wide;
  tally = let n = freed_none c.self.inside.seat.view.owner in let d : ℕ = c.self.inside.tally.dropped in let f : ℕ = freed c.self.inside.seat.view.owner c.self.inside.seat.view.owner in let n' : f ≡ 0 = n in
      let small : d < 18446744073709551616 = search rules in
      tally_is _ _ refl refl (let same : d ≡ min (d + f) 18446744073709551615 = omega arith in same) refl;
}

pub entries-preserved : goal.entries-preserved
entries-preserved c = let i = c.entries.invariant in let v0 = c.self.inside.seat.view in
    let t = ap (λ (z : Tally). z.dropped) i.tally in
    let s = drops_one v0 c.entries.self-inside.seat.view c.give_up-dropped.new.seat.view c.self.inside.tally.dropped c.entries.self-inside.tally.dropped c.give_up-dropped.result _ _ c.in-Some.e _ _ i.wide
    (record { orderly = i.orderly; began = i.began; dropped = t }) c.in-Some.ensures.items (given_cells _ _ _ c.in-Some.e _ _ c.give_up-dropped.ensures.given_up) in
    record {
      route = i.route;
      row = same_row _ _ _ c.in-Some.e _ _ c.give_up-dropped.ensures.given_up ∙ i.row;
      source = same_source _ _ _ c.in-Some.e _ _ c.give_up-dropped.ensures.given_up ∙ i.source;
      orderly = s.orderly;
      began = s.began;
      wide = i.wide;
      tally = tally_is _ _ (ap (λ (z : Tally). z.submitted) i.tally) (ap (λ (z : Tally). z.taken) i.tally) (c.saturating_add-self-inside.ensures ∙ s.dropped) (ap (λ (z : Tally). z.reclaimed) i.tally);
    }

pub returns-clause-rest : goal.returns-clause-rest
returns-clause-rest c = let i = c.entries.invariant in let same = c.self.view_is ∙ c.cancel_all.ensures.same in let cells = c.entries.self-inside.seat.view.owner in
    let empty : c.pop_front.new.self.items ≡ [] = search rules in
    live_is _ _ refl (i.route ∙ ap (λ (x : Live). x.route) same) empty
    (i.tally ∙ ap (λ (x : Live). with_dropped x.tally x.seat.view.owner cells) same)
