use Rattle.std.proofs.Common.{sym, ◌∙◌}
use Rattle.std.specs.BTreeMap.{get}
use Rattle.usb_kernel.specs.Queues.{by_endpoint}
use Rattle.usb_kernel.proofs.QueueLemmas.{ends-none, ends-same}
use Rattle.usb_kernel.proofs.queues.Queues.open.Goals as goal

pub returns-in-Ok-clause-same : goal.returns-in-Ok-clause-same
returns-in-Ok-clause-same c =
    let old = get by_endpoint c.args.self.now.ends in
    let was = ends-none (old (c.args.device, c.args.endpoint)) (sym c.if-contains_key.ensures) in
    ends-same old (get by_endpoint c.insert.new.self) c.args.device c.args.endpoint c.none.result c.in-Ok.ensures.updates.0 (c.none.ensures.none ∙ sym was)
