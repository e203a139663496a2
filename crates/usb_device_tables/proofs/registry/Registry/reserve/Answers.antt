use Rattle.std.proofs.Common.{arith, ap, length}
use Rattle.usb_device_tables.specs.Entries.{find_serial}
use Rattle.usb_device_tables.specs.History.{RegistryState, live_count}
use Rattle.usb_device_tables.proofs.EntryLemmas.{count-history, has-room, room-after, on-ok}
use Rattle.usb_device_tables.proofs.SerialLemmas.{length-below}
use Rattle.usb_device_tables.proofs.registry.Registry.reserve.Goals as goal

pub returns-then-self-clause-succeeds : goal.returns-then-self-clause-succeeds
returns-then-self-clause-succeeds g c = λ room few.
    let number = length-below (find_serial c.self.inside.entries.slots) c.self.inside.next in
    let same = ap (λ (r : RegistryState _). length r.values) c.self.view_is in
    absurd (omega (arith, c.if-self.true, number, same, few))

pub returns-then-count-capacity-clause-room : goal.returns-then-count-capacity-clause-room
returns-then-count-capacity-clause-room g c =
    let counted = count-history c.self.inside.entries.slots c.self.inside.next c.self.invariant.apart c.self.invariant.below in
    let live = ap (λ (r : RegistryState _). live_count r.values) c.self.view_is in
    let capacity = ap (λ (r : RegistryState _). r.capacity) c.self.view_is in
    omega (arith, c.if-count-capacity.true, c.len-count.ensures, c.capacity.ensures.value, counted, live, capacity)

pub returns-then-count-capacity-clause-serials : goal.returns-then-count-capacity-clause-serials
returns-then-count-capacity-clause-serials g c =
    let number = length-below (find_serial c.self.inside.entries.slots) c.self.inside.next in
    let same = ap (λ (r : RegistryState _). length r.values) c.self.view_is in
    omega (arith, c.if-self.false, c.self.ranges, number, same)

pub returns-clause-room : goal.returns-clause-room
returns-clause-room g c =
    on-ok c.reserve_exact.result _ _ c.reserve_exact.ensures.room (λ room.
    room-after c.self.inside.entries c.reserve_exact.new.self c.self.inside.next c.self.invariant c.reserve_exact.ensures.rest_kept (omega (arith, room, c.max.ensures)))

pub returns-clause-serials : goal.returns-clause-serials
returns-clause-serials g c =
    on-ok c.reserve_exact.result _ _ c.reserve_exact.ensures.room (λ room.
    omega (arith, length-below (find_serial c.reserve_exact.new.self.slots) c.self.inside.next, c.if-self.false, c.self.ranges))

pub returns-clause-succeeds : goal.returns-clause-succeeds
returns-clause-succeeds g c = λ room few.
    let there = has-room c.self.inside.entries c.self.inside.next c.args.self.now c.self.invariant c.self.view_is room in
    absurd (omega (arith, there, c.if-count-capacity.false, c.len-count.ensures, c.capacity.ensures.value))

pub returns-clause-had_room : goal.returns-clause-had_room
returns-clause-had_room g c = λ room.
    let there = has-room c.self.inside.entries c.self.inside.next c.args.self.now c.self.invariant c.self.view_is room in
    absurd (omega (arith, there, c.if-count-capacity.false, c.len-count.ensures, c.capacity.ensures.value))
