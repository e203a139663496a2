use Rattle.std.proofs.Common.{rules, true, refl, sym, ap, ◌∙◌}
use Rattle.std.proofs.lemmas.List.{take_more}
use Rattle.std.proofs.Output.{has_written_append, has_written_of_eq}
use Rattle.hex.specs.Hex.{encode_lower, encode_with}
use Rattle.usb_enum_sysfs.proofs.HexLemmas.{encode_lower-more}
use Rattle.usb_enum_sysfs.proofs.sysfs.HexDisplay.fmt.Goals as goal

pub loop-byte-init : goal.loop-byte-init
unfolding encode_with
loop-byte-init g c = search rules

pub loop-byte-preserved : goal.loop-byte-preserved
loop-byte-preserved g c = λ plain.
    let before = c.loop-byte.invariant plain in
    let bytes = c.args.self.now.0.now in
    let more = ap encode_lower (take_more bytes c.loop-byte.byte-index 0 c.loop-byte-test.true) ∙ encode_lower-more _ _ _ _ c.digit-high.ensures.digit c.digit-low.ensures.digit in
    has_written_of_eq _ _ _ _ _ (sym more) (has_written_append _ _ _ _ _ _ before (c.in_ok-write.ensures.writes before.plain (refl {a = true})))
