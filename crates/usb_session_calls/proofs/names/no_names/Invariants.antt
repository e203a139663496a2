use Rattle.std.proofs.Common.{◌≡◌, None, ◌≤◌, vec_len, vec_capacity}
use Rattle.std.specs.Prelude.{replicate}
use Rattle.usb_session_calls.proofs.names.no_names.Given as goal

abbrev pub invariant-loop-i : goal.invariant-loop-i
invariant-loop-i g l = record {
  empty : l.names.items ≡ replicate l.i None;
  room : 64 ≤ vec_capacity l.names;
  count : vec_len l.names ≡ l.i;
}
