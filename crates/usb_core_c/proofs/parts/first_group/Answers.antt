use Rattle.std.proofs.Common.{◌≡◌, ◌∙◌, ◌≤◌, sym, ap, true, false, take, drop, length}
use Rattle.usb_desc.specs.Bytes.{length_field}
use Rattle.usb_desc.specs.Chain.{first_descriptor, behind_first, chain}
use Rattle.usb_desc.specs.Groups.{begins_group, run_bytes, groups}
use Rattle.usb_desc.proofs.ChainLemmas.{length_first}
use Rattle.usb_desc.proofs.GroupLemmas.{groups_none}
use Rattle.usb_core_c.proofs.PartLemmas.{walk_goes_on, group_found}
use Rattle.usb_core_c.proofs.parts.first_group.Goals as goal

pub returns-then-begins_group : goal.returns-then-begins_group
returns-then-begins_group c =
    let rest = c.loop-descriptor.rest.now in
    let kind = c.args.kind in
    let least = c.args.least in
    let n = c.run_len.result in
    let begins = c.in-Some.ensures.begins in
    let first = c.in-Some.ensures.parts.0 in
    let starts : begins_group kind least (first_descriptor rest) ≡ true = ap (begins_group kind least) (sym first) ∙ cc in
    let run : run_bytes kind (chain (behind_first rest)) ≡ take n (behind_first rest) = rw c.in-Some.ensures.parts.1 at c.run_len.ensures.run in
    let behind : groups kind least (behind_first rest) ≡ groups kind least (drop n (behind_first rest)) = rw c.in-Some.ensures.parts.1 at (c.run_len.ensures.behind least) in
    let inside : n ≤ length (behind_first rest) = rw c.in-Some.ensures.parts.1 at c.run_len.ensures.within in
    let same : length c.in-Some.descriptor.now ≡ length_field rest = ap length first ∙ length_first rest begins in
    record { first = group_found kind least c.args.bytes.now rest c.loop-descriptor.invariant begins _ n same starts run behind inside }

pub loop-descriptor-preserved : goal.loop-descriptor-preserved
loop-descriptor-preserved c =
    let rest = c.loop-descriptor.rest.now in
    let kind = c.args.kind in
    let least = c.args.least in
    let begins = c.in-Some.ensures.begins in
    let other : begins_group kind least (first_descriptor rest) ≡ false = ap (begins_group kind least) (sym c.in-Some.ensures.parts.0) ∙ cc in
    rw c.in-Some.ensures.parts.1 (walk_goes_on kind least c.args.bytes.now rest c.loop-descriptor.invariant begins other)

pub returns : goal.returns
returns c = record { first = c.loop-descriptor.invariant.groups_are ∙ groups_none c.args.kind c.args.least c.loop-descriptor.rest.now c.in_default.ensures.begins }
