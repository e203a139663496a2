use Rattle.std.proofs.Common.{arith, refl, ◌∙◌}
use Rattle.usb_kernel.specs.declared.record.Chain.TheVariants.{Queue, Unreaped}
use Rattle.usb_kernel.specs.Rows.{is_open_row, is_reapable_row, is_unreaped_row}
use Rattle.usb_kernel.proofs.Unreaped.{no_entries}
use Rattle.usb_kernel.proofs.ListedLemmas.{chained-empty}
use Rattle.usb_kernel.proofs.lists.TicketLists.new.Goals as goal

pub returns : goal.returns
returns c = record {
  listed = record {
    queues = λ d e. rw (c.new.ensures.none d e) (chained-empty (is_open_row d e) Queue);
    unreaped = rw c.none.ensures.none (chained-empty is_unreaped_row Unreaped);
    count = refl;
    finished = c.new-2.ensures.items ∙ no_entries is_reapable_row (λ k r. k);
    room = omega arith;
  };
}
