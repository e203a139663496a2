use Rattle.std.proofs.lemmas.Iterator.{items_from_collect}
use Rattle.std.proofs.lemmas.Iterator.Consumers.{YieldsList-from_first}
use Rattle.std.proofs.Common.{refl}
use Rattle.usb_desc.specs.Strings.{words}
use Rattle.usb_desc.proofs.string.collect_words.Goals as goal

pub returns : goal.returns
returns c =
    record { items = items_from_collect _ c.collect.ensures.ran (YieldsList-from_first (λ x. x) (λ items. items) (words c.args.bytes.now) refl) }
