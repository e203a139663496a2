-- The buffers that a script's transfers hand in.
use Rattle.std.specs.Prelude.{ℕ, List, [], length}
use Rattle.usb_xfer.specs.BufferState.{BufferState}

-- an empty one that asks for so many bytes
abbrev pub in_buffer : ℕ → BufferState
in_buffer n = record { bytes = []; requested = n; room = n }

-- one with these bytes
abbrev pub out_buffer : List ℕ → BufferState
out_buffer bytes = record { bytes = bytes; requested = length bytes; room = length bytes }
