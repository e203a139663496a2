use Rattle.std.proofs.Common.{◌<◌, List, length, Option, sym, ap, ◌∙◌, arith}
use Rattle.std.specs.Prelude.{is_some}
use Rattle.usb_kernel_devices.specs.declared.step.KernelStep.{KernelStep}
use Rattle.usb_kernel_devices.specs.declared.step.KernelStep.TheVariants as step
use Rattle.usb_device_host.specs.HostState.{HostState}
use Rattle.usb_device_host.specs.HostTurns.{all_stepped}
use Rattle.usb_bot_disk.specs.Machine.{Machine}
use Rattle.usb_bot_disk.specs.DiskState.{DiskState}
use Rattle.usb_bot_disk.specs.DiskTurns.{Action, Takes, steps_of, acted_by}
use Rattle.usb_bot_disk.proofs.ActLemmas.{IsAt, takes-none, takes-some, host-after, steps-after, spare-after}
use Rattle.usb_bot_disk.proofs.disk_bus.DiskBus.take_packet.Goals as goal

-- there is no room for the steps
pub returns-then-saturating_sub-ins-clause-acts : goal.returns-then-saturating_sub-ins-clause-acts
returns-then-saturating_sub-ins-clause-acts c =
    let i = c.self.inside in
    let b : DiskState = record { host = i.host; device = i.device; out = i.out; inp = i.inp; machine = i.machine; blanks = i.blanks } in
    let k = c.kernel-kernel.result.now in
    let p = c.in-Some-front_packet.packet.now in
    let m = c.in-Some.maximum in
    let accepted = c.accepts-accepted.result in
    let outs = c.open_unless-outs.result in
    let ins = c.open_unless-ins.result in
    let at : IsAt b k p m accepted outs ins = record {
      kernel = c.kernel-kernel.ensures.kernel;
      maximum = c.in-Some.ensures.maximum;
      packet = c.in-Some-front_packet.ensures.packet;
      some = omega (arith, c.if-maximum-eq0.false);
      accepts = c.accepts-accepted.ensures.accepts;
      outs_is = c.open_unless-outs.ensures.count;
      ins_is = c.open_unless-ins.ensures.count;
    } in
    let none = takes-none b k p m accepted outs ins at (omega (arith, c.room.ensures.room, c.saturating_sub.ensures, c.if-saturating_sub-ins.true)) in
    rw (← c.self.view_is) (sym (ap (λ (o : Option Action). is_some o) none))

pub returns-then-saturating_sub-ins-clause-bus : goal.returns-then-saturating_sub-ins-clause-bus
returns-then-saturating_sub-ins-clause-bus c =
    let i = c.self.inside in
    let b : DiskState = record { host = i.host; device = i.device; out = i.out; inp = i.inp; machine = i.machine; blanks = i.blanks } in
    let k = c.kernel-kernel.result.now in
    let p = c.in-Some-front_packet.packet.now in
    let m = c.in-Some.maximum in
    let accepted = c.accepts-accepted.result in
    let outs = c.open_unless-outs.result in
    let ins = c.open_unless-ins.result in
    let at : IsAt b k p m accepted outs ins = record {
      kernel = c.kernel-kernel.ensures.kernel;
      maximum = c.in-Some.ensures.maximum;
      packet = c.in-Some-front_packet.ensures.packet;
      some = omega (arith, c.if-maximum-eq0.false);
      accepts = c.accepts-accepted.ensures.accepts;
      outs_is = c.open_unless-outs.ensures.count;
      ins_is = c.open_unless-ins.ensures.count;
    } in
    let none = takes-none b k p m accepted outs ins at (omega (arith, c.room.ensures.room, c.saturating_sub.ensures, c.if-saturating_sub-ins.true)) in
    rw (← c.self.view_is) (sym (ap (acted_by b) none))

-- there is
pub fail_open-requires : goal.fail_open-requires
fail_open-requires c =
    let h = c.self.inside.host in
    let ack = step.Ack c.self.inside.device c.self.inside.out in
    let some : 0 < h.kernel.spare = omega (arith, c.room.ensures.whole, c.saturating_sub.ensures, c.if-saturating_sub-ins.false) in
    let same = ap {A = List KernelStep} length (steps-after h c.step.new.self ack c.step.ensures.stepped) in
    record { room = omega (arith, same, spare-after h c.step.new.self ack c.step.ensures.stepped some, c.room.ensures.whole, c.saturating_sub.ensures, c.if-saturating_sub-ins.false) }

pub fail_open-requires-2 : goal.fail_open-requires-2
fail_open-requires-2 c =
    let h = c.self.inside.host in
    let ack = step.Ack c.self.inside.device c.self.inside.out in
    let some : 0 < h.kernel.spare = omega (arith, c.room.ensures.whole, c.saturating_sub.ensures, c.if-saturating_sub-ins.false) in
    let same = ap {A = List KernelStep} length (steps-after h c.step.new.self ack c.step.ensures.stepped) in
    let then_same = ap {A = List KernelStep} length c.fail_open.ensures.steps in
    record { room = omega (arith, same, then_same, c.fail_open.ensures.spare, spare-after h c.step.new.self ack c.step.ensures.stepped some, c.room.ensures.whole, c.saturating_sub.ensures, c.if-saturating_sub-ins.false) }

pub returns-clause-acts : goal.returns-clause-acts
returns-clause-acts c =
    let i = c.self.inside in
    let b : DiskState = record { host = i.host; device = i.device; out = i.out; inp = i.inp; machine = i.machine; blanks = i.blanks } in
    let k = c.kernel-kernel.result.now in
    let p = c.in-Some-front_packet.packet.now in
    let m = c.in-Some.maximum in
    let accepted = c.accepts-accepted.result in
    let outs = c.open_unless-outs.result in
    let ins = c.open_unless-ins.result in
    let at : IsAt b k p m accepted outs ins = record {
      kernel = c.kernel-kernel.ensures.kernel;
      maximum = c.in-Some.ensures.maximum;
      packet = c.in-Some-front_packet.ensures.packet;
      some = omega (arith, c.if-maximum-eq0.false);
      accepts = c.accepts-accepted.ensures.accepts;
      outs_is = c.open_unless-outs.ensures.count;
      ins_is = c.open_unless-ins.ensures.count;
    } in
    let some = takes-some b k p m accepted outs ins at (omega (arith, c.room.ensures.room, c.saturating_sub.ensures, c.if-saturating_sub-ins.false)) in
    rw (← c.self.view_is) (sym (ap (λ (o : Option Action). is_some o) some))

pub returns-clause-bus : goal.returns-clause-bus
returns-clause-bus c =
    let i = c.self.inside in
    let b : DiskState = record { host = i.host; device = i.device; out = i.out; inp = i.inp; machine = i.machine; blanks = i.blanks } in
    let k = c.kernel-kernel.result.now in
    let p = c.in-Some-front_packet.packet.now in
    let m = c.in-Some.maximum in
    let accepted = c.accepts-accepted.result in
    let outs = c.open_unless-outs.result in
    let ins = c.open_unless-ins.result in
    let at : IsAt b k p m accepted outs ins = record {
      kernel = c.kernel-kernel.ensures.kernel;
      maximum = c.in-Some.ensures.maximum;
      packet = c.in-Some-front_packet.ensures.packet;
      some = omega (arith, c.if-maximum-eq0.false);
      accepts = c.accepts-accepted.ensures.accepts;
      outs_is = c.open_unless-outs.ensures.count;
      ins_is = c.open_unless-ins.ensures.count;
    } in
    let some = takes-some b k p m accepted outs ins at (omega (arith, c.room.ensures.room, c.saturating_sub.ensures, c.if-saturating_sub-ins.false)) in
    let host_is = host-after b k p m accepted outs ins at c.step.new.self c.fail_open.new.host c.fail_open-2.new.host c.step.ensures.stepped c.fail_open.ensures.host c.fail_open-2.ensures.host in
    rw (← c.self.view_is)
    (ap (λ (h : HostState). record b { host = h; machine = c.take.new.self }) host_is
    ∙ ap (λ (x : Machine). record b { host = all_stepped b.host (steps_of b (Takes p m)); machine = x }) c.take.ensures.machine
    ∙ sym (ap (acted_by b) some))
