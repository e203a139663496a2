use Rattle.std.proofs.Common.{◌≡◌, ◌≤◌, ◌+◌, ◌-◌, vec_len}
use Rattle.std.specs.Io.KnownBytes.{Consumes}
use Rattle.usb_session_run.proofs.reading.read_whole.Given as goal

abbrev pub invariant-pieces : goal.invariant-pieces
invariant-pieces g l = record {
  taken : Consumes (g.S.Source.left l.initial.source) (g.S.Source.left l.source) l.bytes.items;
  few : vec_len l.bytes ≤ l.most + 1;
  quiet : g.S.Source.faults l.source ≡ g.S.Source.faults l.initial.source;
  goes_on : g.S.Source.has_ended l.source → ⊥;
}

abbrev pub decreases-pieces : goal.decreases-pieces
decreases-pieces g l = (l.most + 1) - vec_len l.bytes
