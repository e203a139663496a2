use Rattle.std.proofs.Common.{◌≡◌, ◌∙◌, sym, ap, true, false, []}
use Rattle.usb_desc.specs.Chain.{first_descriptor, chain}
use Rattle.usb_desc.specs.Groups.{goes_on, run_bytes}
use Rattle.usb_desc.proofs.GroupLemmas.{run_goes_on, run_ends, run_none, run_stop}
use Rattle.usb_core_c.proofs.parts.run_len.Goals as goal
use Rattle.usb_core_c.proofs.parts.run_len.Goals.{in-Some+then-not-goes_on, in_default}

pub loop-descriptor-preserved : goal.loop-descriptor-preserved
loop-descriptor-preserved c =
    let rest = c.loop-descriptor.rest.now in
    let on : goes_on c.args.kind (first_descriptor rest) ≡ true = ap (goes_on c.args.kind) (sym c.in-Some.ensures.parts.0) ∙ cc in
    rw c.in-Some.ensures.parts.1 (run_goes_on c.args.kind c.args.bytes.now rest c.loop-descriptor.invariant c.in-Some.ensures.begins on)

pub returns-clause-run : goal.returns-clause-run
returns-clause-run c =
    let rest = c.loop-descriptor.rest.now in
    let none : run_bytes c.args.kind (chain rest) ≡ [] = elim c.match-split_first.branch [
      | in-Some+then-not-goes_on w ↦
          let off : goes_on c.args.kind (first_descriptor rest) ≡ false = ap (goes_on c.args.kind) (sym w.in-Some.ensures.parts.0) ∙ cc in
          run_stop c.args.kind rest w.in-Some.ensures.begins off
      | in_default w ↦ run_none c.args.kind rest w.in_default.ensures.begins
    ] in
    run_ends c.args.kind c.args.bytes.now rest c.loop-descriptor.invariant none
