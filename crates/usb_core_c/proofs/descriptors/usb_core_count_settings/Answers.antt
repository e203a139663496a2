use Rattle.std.proofs.Common.{length, ap, sym, ◌∙◌, arith}
use mathlib.Core.Logic.{inl}
use Rattle.usb_core_c.proofs.CountLemmas.{few_settings}
use Rattle.usb_core_c.proofs.descriptors.usb_core_count_settings.Goals as goal

pub count-requires-clause-fits : goal.count-requires-clause-fits
count-requires-clause-fits c =
    let few = few_settings c.args.bytes.now c.in-Some.configuration c.type_inv.bytes (sym c.new.ensures.value ∙ c.in-Some.is) in
    inl (omega (arith, few, ap length c.interface_alt_settings.ensures.items))
