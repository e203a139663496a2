use Rattle.std.proofs.Common.{◌≡◌, ◌++◌, map}
use Rattle.std.specs.List.{filter_map}
use Rattle.std.specs.String.{string_bytes}
use Rattle.usb_enum_sysfs.specs.Tree.{children_of}
use Rattle.usb_enum.specs.Probing.{interface_in}
use Rattle.usb_enum.proofs.probe.find_interfaces.Given as goal

abbrev pub invariant-loop-name : goal.invariant-loop-name
invariant-loop-name l = l.found.items ++ filter_map (interface_in l.tree l.folder) (map (λ n. string_bytes n) l.name-iterator) ≡ filter_map (interface_in l.tree l.folder) (children_of l.tree l.folder)
