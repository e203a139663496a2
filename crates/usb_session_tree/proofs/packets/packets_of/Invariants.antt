use Rattle.std.proofs.Common.{◌≡◌, ◌++◌, drop}
use Rattle.std.specs.List.{filter_map}
use Rattle.usb_session_tree.specs.Packets.{packet_of}
use Rattle.usb_session_tree.proofs.packets.packets_of.Given as goal

abbrev pub invariant-loop-item : goal.invariant-loop-item
invariant-loop-item l =
    l.packets.items ++ filter_map packet_of (drop l.item-index l.items) ≡ filter_map packet_of l.items
