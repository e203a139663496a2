use Rattle.std.proofs.Common.{◌≡◌, ◌+◌, ◌++◌, vec_len, vec_capacity, replicate}
use Rattle.usb_xfer.proofs.buffer.append_copies_to.Given as goal

-- as many copies were appended as the loop has turned, and there is room for the others
abbrev pub invariant-loop : goal.invariant-loop
invariant-loop l =
    (l.items.items ≡ l.initial.items.items ++ replicate l.counter l.value)
    × (vec_len l.items ≡ vec_len l.initial.items + l.counter)
    × (vec_capacity l.items ≡ vec_capacity l.initial.items)
