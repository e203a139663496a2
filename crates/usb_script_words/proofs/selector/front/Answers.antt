use Rattle.std.proofs.Common.{sym, Bor}
use Rattle.std.proofs.lemmas.List.{take-map}
use Rattle.usb_script_words.specs.Fields.{Word}
use Rattle.usb_script_words.proofs.selector.front.Goals as goal

pub returns-clause-front : goal.returns-clause-front
returns-clause-front c = sym (take-map (λ (w : Bor Word). w.now) c.args.count c.args.words.now)
