use Rattle.std.proofs.Common.{rules, ◌≡◌, ◌∙◌, ◌<◌, ap, refl, None}
use Rattle.std.specs.List.{All, flat_map, range_with_len}
use Rattle.std.proofs.lemmas.List.Sorted.{IsNonDecreasingBy-from_sort_by_key, answers_always, All-permutation}
use Rattle.usb_enum.specs.Devices.{InterfaceFacts}
use Rattle.usb_enum_sysfs.specs.Tree.{children_of}
use Rattle.usb_enum.specs.Probing.{by_number, with_number}
use Rattle.usb_enum.proofs.OrderLemmas.{sorted_parts}
use Rattle.usb_enum.proofs.InterfaceLemmas.{interfaces_below}
use Rattle.usb_enum.proofs.probe.probe_interfaces.Goals as goal

pub returns : goal.returns
unfolding by_number
returns c =
    let key = λ (i : InterfaceFacts). i.number in
    let up = IsNonDecreasingBy-from_sort_by_key key c.sort_by_key.new.self.items c.in-Ok.ensures.sorted (λ a r q k. search rules) in
    let stable = c.in-Ok.ensures.stable key (answers_always _ (λ a r. r ≡ a.0.now.number) _ (λ f a r q k. search rules)) in
    let found = c.in_ok-found.ensures.found in
    let small : All (λ i. i.number < 256) c.in_ok-found.found.items = rw found (interfaces_below c.args.tree.now c.args.folder.now (children_of c.args.tree.now c.args.folder.now)) in
    let under = All-permutation (λ i. i.number < 256) _ _ c.in-Ok.ensures.permutation small in
    record { interfaces = sorted_parts key (λ n. record { number = n; class = 0; subclass = 0; protocol = 0; name = None }) (λ n. refl) c.in_ok-found.found.items c.sort_by_key.new.self.items 256 stable up under ∙ ap (λ items. flat_map (with_number items) (range_with_len 0 256)) found }
