-- What the types of an event's fields say: devices and endpoints are numbers of 8 bits, tickets and deadlines of 64, and bytes are bytes.
use Rattle.std.specs.Prelude.{IfSome}
use Rattle.hex.specs.Hex.{IsBytes}
use Rattle.usb_kernel.specs.declared.event.Event.{Event}
use Rattle.usb_kernel.specs.declared.event.Event.TheVariants.{Submit, Refuse, Packet, Ack, Echo, Fail, Discard, Reap, Unplug}
use Rattle.usb_trace_lines.specs.Forms.{IsU8, IsU64, HasBytes}

-- each field is in the range of its type, but for lengths and errnos
abbrev pub IsTyped : Event → Type 0
IsTyped (Submit t d e m body room deadline) = IsU64 t × (IsU8 d × (IsU8 e × (HasBytes body × IfSome deadline IsU64)))
IsTyped (Refuse t d e m body room errno) = IsU64 t × (IsU8 d × (IsU8 e × HasBytes body))
IsTyped (Packet d e bytes) = IsU8 d × (IsU8 e × IsBytes bytes)
IsTyped (Ack d e) = IsU8 d × IsU8 e
IsTyped (Echo d o i) = IsU8 d × (IsU8 o × IsU8 i)
IsTyped (Fail d e errno) = IsU8 d × IsU8 e
IsTyped (Discard t) = IsU64 t
IsTyped (Reap t) = IsU64 t
IsTyped (Unplug d) = IsU8 d
