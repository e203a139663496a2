use Rattle.std.proofs.Common.{◌∙◌, sym, refl, lit<, length, arith}
use Rattle.std.specs.Prelude.{◌==◌}
use Rattle.std.specs.List.{slice_split}
use Rattle.std.proofs.lemmas.List.{length_push}
use Rattle.std.proofs.lemmas.Iterator.Consumers.{YieldsList-turn, YieldsList-end}
use Rattle.std.proofs.lemmas.Iterator.Splits.{YieldsList-from_str_split}
use Rattle.usb_enum_sysfs.proofs.NumberLemmas.{number_from_parse, version_refused, version_goes, version_end}
use Rattle.usb_enum_sysfs.proofs.numbers.version_word.Goals as goal

pub returns-in_err-ok : goal.returns-in_err-ok
returns-in_err-ok c =
    let at = YieldsList-turn (YieldsList-from_str_split 46 c.args.text.now (lit< tt) (cc) (cc) (cc)) c.loop-part.yielded _ c.loop-part.yielded_by _ _ c.in-Some.part c.in-Some.is c.next.ensures.steps in
    let read = number_from_parse 16 16 65536 c.in-Some.part.now c.from_str_radix.result refl c.from_str_radix.ensures.value in
    record { value = c.from_residual.ensures ∙ sym (version_refused (slice_split (λ b. b == 46) c.args.text.now) c.loop-part.version (length c.loop-part.yielded) c.in-Some.part.now at (sym read ∙ sym c.ok.ensures.value ∙ c.in_err-ok.was)) ∙ c.loop-part.invariant.2 }

pub loop-part-preserved : goal.loop-part-preserved
loop-part-preserved c =
    let at = YieldsList-turn (YieldsList-from_str_split 46 c.args.text.now (lit< tt) (cc) (cc) (cc)) c.loop-part.yielded _ c.loop-part.yielded_by _ _ c.in-Some.part c.in-Some.is c.next.ensures.steps in
    let read = number_from_parse 16 16 65536 c.in-Some.part.now c.from_str_radix.result refl c.from_str_radix.ensures.value in
    (tt, tt, version_goes (slice_split (λ b. b == 46) c.args.text.now) c.loop-part.version (length c.loop-part.yielded) c.in-Some.part.now c.in_ok-ok.field-0 c.with_part-version.result _ at (sym read ∙ sym c.ok.ensures.value ∙ c.in_ok-ok.was) c.with_part-version.ensures.value (length_push c.loop-part.yielded c.in-Some.part) ∙ c.loop-part.invariant.2)

pub returns : goal.returns
returns c =
    let at = YieldsList-end (YieldsList-from_str_split 46 c.args.text.now (lit< tt) (cc) (cc) (cc)) c.loop-part.yielded _ c.loop-part.yielded_by _ _ c.in-None.is c.next.ensures.steps in
    record { value = sym (version_end (slice_split (λ b. b == 46) c.args.text.now) c.loop-part.version (length c.loop-part.yielded) (omega (arith, at.1))) ∙ c.loop-part.invariant.2 }
