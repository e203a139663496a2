use Rattle.std.proofs.Common.{◌≡◌, ◌∙◌, ◌≤◌, sym, ap, true, false, take, drop, length, arith}
use Rattle.usb_desc.specs.Bytes.{length_field}
use Rattle.usb_desc.specs.Chain.{first_descriptor, behind_first, chain}
use Rattle.usb_desc.specs.Groups.{begins_group, run_bytes, groups}
use Rattle.usb_desc.proofs.ChainLemmas.{length_first, length_behind}
use Rattle.usb_desc.proofs.GroupLemmas.{groups_none, groups_skip, group_first, group_form}
use Rattle.usb_desc.proofs.chain.split_group.Goals as goal

pub returns-then-begins_group-clause-groups : goal.returns-then-begins_group-clause-groups
returns-then-begins_group-clause-groups c =
    let rest = c.loop-descriptor.rest.now in
    let kind = c.args.kind in
    let least = c.args.least in
    let n = c.run_len.result in
    let begins = c.in-Some.ensures.begins in
    let first = c.in-Some.ensures.parts.0 in
    let starts : begins_group kind least (first_descriptor rest) ≡ true = ap (begins_group kind least) (sym first) ∙ cc in
    let run : run_bytes kind (chain (behind_first rest)) ≡ take n (behind_first rest) = rw c.in-Some.ensures.parts.1 at c.run_len.ensures.run in
    let behind : groups kind least (behind_first rest) ≡ groups kind least (drop n (behind_first rest)) = rw c.in-Some.ensures.parts.1 at (c.run_len.ensures.behind least) in
    let len : length c.in-Some.descriptor.now ≡ length_field rest = ap length first ∙ length_first rest begins in
    rw (c.split_at.ensures.front, c.split_at.ensures.back, len) (c.loop-descriptor.invariant.1 ∙ group_first kind least n rest begins starts run behind)

pub returns-then-begins_group-clause-form : goal.returns-then-begins_group-clause-form
returns-then-begins_group-clause-form c =
    let rest = c.loop-descriptor.rest.now in
    let kind = c.args.kind in
    let least = c.args.least in
    let n = c.run_len.result in
    let begins = c.in-Some.ensures.begins in
    let first = c.in-Some.ensures.parts.0 in
    let starts : begins_group kind least (first_descriptor rest) ≡ true = ap (begins_group kind least) (sym first) ∙ cc in
    let inside : n ≤ length (behind_first rest) = rw c.in-Some.ensures.parts.1 at c.run_len.ensures.within in
    let len : length c.in-Some.descriptor.now ≡ length_field rest = ap length first ∙ length_first rest begins in
    rw (c.split_at.ensures.front, len) (group_form kind least n rest begins starts inside)

pub loop-descriptor-preserved : goal.loop-descriptor-preserved
loop-descriptor-preserved c =
    let rest = c.loop-descriptor.rest.now in
    let kind = c.args.kind in
    let least = c.args.least in
    let begins = c.in-Some.ensures.begins in
    let other : begins_group kind least (first_descriptor rest) ≡ false = ap (begins_group kind least) (sym c.in-Some.ensures.parts.0) ∙ cc in
    let long = length_behind rest begins in
    rw c.in-Some.ensures.parts.1 (omega arith, c.loop-descriptor.invariant.1 ∙ groups_skip kind least rest begins other)

pub returns-clause-groups : goal.returns-clause-groups
returns-clause-groups c = c.loop-descriptor.invariant.1 ∙ groups_none c.args.kind c.args.least c.loop-descriptor.rest.now c.in_default.ensures.begins
