use Rattle.std.proofs.Common.{List, ℕ, map, sym, subst}
use Rattle.std.specs.List.Sorted.{IsStrictlyIncreasing}
use Rattle.usb_desc.specs.Interfaces.{number_of}
use Rattle.usb_desc.proofs.InterfaceLemmas.{numbers_rise}
use Rattle.usb_desc.proofs.configuration.ConfigurationDescriptor.interfaces.Goals as goal

pub returns-clause-rising : goal.returns-clause-rising
returns-clause-rising c =
    subst (λ (made : List (List (List ℕ))). IsStrictlyIncreasing (map number_of made)) (sym c.in_ok-interfaces_among.ensures.items) (numbers_rise c.interface_alt_settings.result)
