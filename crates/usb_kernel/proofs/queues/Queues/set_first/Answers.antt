use Rattle.std.proofs.Common.{◌≡◌, ap, ◌∙◌}
use Rattle.std.specs.Prelude.{◌==◌, ◌&&◌, unwrap_or, if◌then◌else◌}
use Rattle.std.specs.BTreeMap.{get}
use Rattle.usb_kernel.specs.declared.record.Ends.{Ends}
use Rattle.usb_kernel.specs.Queues.{by_endpoint, ends_at, no_ends}
use Rattle.usb_kernel.proofs.QueueLemmas.{ends-set}
use Rattle.usb_kernel.proofs.queues.Queues.set_first.Goals as goal

pub returns-in-Some : goal.returns-in-Some
returns-in-Some c = record {
  ends = λ has.
      let old = c.args.self.now in
      let d = c.args.device in
      let e = c.args.endpoint in
      let next : Ends = record { first = c.args.first; last = c.in-Some.entry.now.last } in
      let told = c.get_mut.follows.holds next in
      let was : c.in-Some.entry.now ≡ ends_at old d e = ap (λ o. unwrap_or o no_ends) c.in-Some.ensures.value in
      λ x y.
      ends-set (get by_endpoint old.ends) (get by_endpoint (c.get_mut.follows.lender next)) d e next (told.3 has).0 x y
      ∙ ap (λ (z : Ends). if d == x && e == y then record { first = c.args.first; last = z.last } else ends_at old x y) was;
}
