use Rattle.std.proofs.Common.{◌≡◌, ◌∙◌, sym, lit<, length, arith, Some, None, false}
use Rattle.std.specs.Prelude.{◌==◌, codes}
use Rattle.std.specs.Str.{bytes_eq}
use Rattle.std.specs.List.{slice_split}
use Rattle.std.proofs.lemmas.List.{length_push}
use Rattle.std.proofs.lemmas.Iterator.Consumers.{YieldsList-turn, YieldsList-end}
use Rattle.std.proofs.lemmas.Iterator.Splits.{YieldsList-from_str_split}
use Rattle.usb_enum_sysfs.proofs.PortLemmas.{bytes_refused, bytes_go, bytes_end, ports_listed}
use Rattle.usb_enum_sysfs.proofs.ports.ports_of.Goals as goal

pub returns-in_default : goal.returns-in_default
returns-in_default c =
    let at = YieldsList-turn (YieldsList-from_str_split 46 c.args.text.now (lit< tt) (cc) (cc) (cc)) c.loop-part.yielded _ c.loop-part.yielded_by _ _ c.in-Some.part c.in-Some.is c.next.ensures.steps in
    let none = sym c.loop-part.invariant.2 ∙ bytes_refused (slice_split (λ b. b == 46) c.args.text.now) c.loop-part.ports.items (length c.loop-part.yielded) c.in-Some.part.now at (sym c.in_default.ensures.value) in
    let no_hub : bytes_eq c.args.text.now (codes "0") ≡ false = sym c.eq.ensures ∙ c.if-eq.false in
    record { ports = c.new.ensures.items ∙ sym (ports_listed c.args.text.now None no_hub none) }

pub loop-part-preserved : goal.loop-part-preserved
loop-part-preserved c =
    let at = YieldsList-turn (YieldsList-from_str_split 46 c.args.text.now (lit< tt) (cc) (cc) (cc)) c.loop-part.yielded _ c.loop-part.yielded_by _ _ c.in-Some.part c.in-Some.is c.next.ensures.steps in
    (tt, tt, rw c.in-Ok.ensures.items (bytes_go (slice_split (λ b. b == 46) c.args.text.now) c.loop-part.ports.items (length c.loop-part.yielded) c.in-Some.part.now c.in-Some-decimal_byte.port _ at (sym c.in-Some-decimal_byte.ensures.value) (length_push c.loop-part.yielded c.in-Some.part) ∙ c.loop-part.invariant.2))

pub returns : goal.returns
returns c =
    let at = YieldsList-end (YieldsList-from_str_split 46 c.args.text.now (lit< tt) (cc) (cc) (cc)) c.loop-part.yielded _ c.loop-part.yielded_by _ _ c.in-None.is c.next.ensures.steps in
    let all = sym c.loop-part.invariant.2 ∙ bytes_end (slice_split (λ b. b == 46) c.args.text.now) c.loop-part.ports.items (length c.loop-part.yielded) (omega (arith, at.1)) in
    let no_hub : bytes_eq c.args.text.now (codes "0") ≡ false = sym c.eq.ensures ∙ c.if-eq.false in
    record { ports = sym (ports_listed c.args.text.now (Some c.loop-part.ports.items) no_hub all) }
