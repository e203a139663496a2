use Rattle.std.proofs.Common.{◌≡◌, ◌+◌, ◌*◌, ◌≤◌, length, map, filter, reverse, sum_by, vec_len, vec_capacity}
use Rattle.usb_kernel.specs.Legal.{IsLawful}
use Rattle.usb_kernel.specs.Rows.{Agrees, owed}
use Rattle.usb_kernel.specs.Timers.{is_up, discarded_in_order}
use Rattle.usb_kernel.specs.Deadlines.{KeepsDeadlines}
use Rattle.usb_kernel.proofs.timer.discard_due.Given as goal

abbrev pub invariant-due : goal.invariant-due
invariant-due g l = record {
  agrees : Agrees (reverse l.journal.items) l.table.rows;
  kept : KeepsDeadlines (reverse l.journal.items) l.deadlines.keys;
  goes : discarded_in_order (reverse l.journal.items) (map (λ p. p.1) (filter (is_up l.clock) l.deadlines.keys)) ≡ discarded_in_order (reverse l.initial.journal.items) (map (λ p. p.1) (filter (is_up l.clock) l.initial.deadlines.keys));
  lawful : IsLawful (reverse l.initial.journal.items) → IsLawful (reverse l.journal.items);
  places : sum_by owed l.table.rows + l.freed ≡ sum_by owed l.initial.table.rows;
  len : vec_len l.journal ≡ vec_len l.initial.journal + l.freed;
  capacity : vec_capacity l.initial.journal ≤ vec_capacity l.journal;
  looks : l.steps + 3 * length (filter (is_up l.clock) l.deadlines.keys) ≤ l.initial.steps + 3 * length (filter (is_up l.clock) l.initial.deadlines.keys);
}

abbrev pub decreases-due : goal.decreases-due
decreases-due g l = length l.deadlines.keys
