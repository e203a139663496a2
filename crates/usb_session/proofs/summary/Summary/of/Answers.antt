use Rattle.std.proofs.Common.{arith, refl}
use Rattle.usb_session.proofs.SumLemmas.{counted-few, counts-are}
use Rattle.usb_session.proofs.summary.Summary.of.Goals as goal

pub overflow_sub-result-2 : goal.overflow_sub-result-2
overflow_sub-result-2 c =
    omega (arith, counted-few c.args.host.now.tickets c.tickets-tickets.result c.count_of-taken.result c.count_of-dropped.result c.requires.ended c.tickets-tickets.ensures.count c.count_of-taken.ensures.count c.count_of-dropped.ensures.count)

pub returns : goal.returns
returns c = record {
  value = counts-are c.args.calls c.args.host.now c.tickets-tickets.result c.count_of-taken.result c.count_of-dropped.result _ c.requires.ended c.tickets-tickets.ensures.count c.count_of-taken.ensures.count c.count_of-dropped.ensures.count refl;
}
