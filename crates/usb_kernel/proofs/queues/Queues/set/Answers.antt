use Rattle.std.specs.BTreeMap.{get}
use Rattle.usb_kernel.specs.Queues.{by_endpoint}
use Rattle.usb_kernel.proofs.QueueLemmas.{ends-set}
use Rattle.usb_kernel.proofs.queues.Queues.set.Goals as goal

pub returns-in-Some : goal.returns-in-Some
returns-in-Some c = record {
  ends = λ has.
      let told = c.get_mut.follows.holds c.args.ends in
      ends-set (get by_endpoint c.args.self.now.ends) (get by_endpoint (c.get_mut.follows.lender c.args.ends)) c.args.device c.args.endpoint c.args.ends (told.3 has).0;
}
