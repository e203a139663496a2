use Rattle.std.proofs.Common.{◌≡◌, Bool, sym, rules, tests}
use Rattle.std.specs.List.{list_any}
use Rattle.std.proofs.lemmas.Iterator.{YieldsList-from_slice}
use Rattle.std.proofs.lemmas.Iterator.Search.{any_from_yields_List}
use Rattle.usb_kernel_devices.proofs.InterfaceLemmas.{is_empty-flags}
use Rattle.usb_kernel_devices.proofs.interfaces.InterfaceSet.is_empty.Goals as goal

pub returns : goal.returns
returns c =
    let flags = c.self.inside.flags in
    let any : c.any.result ≡ list_any (λ (flag : Bool). flag) flags = any_from_yields_List (λ (flag : Bool). flag) _ _ c.any.result c.any.ensures.ran (YieldsList-from_slice flags cc) (λ x b q k. search (rules, tests)) in
    record { empty = rw (any, ← c.self.view_is) (sym (is_empty-flags flags 0)) }
