use Rattle.std.proofs.Common.{◌≡◌, ap, length}
use Rattle.usb_device.specs.Futures.{FutureState}
use Rattle.usb_device.proofs.KeptLemmas.{stand-fresh}
use Rattle.usb_device.proofs.control.finish.Goals as goal

pub returns-in-Ok-wait-clause-handles : goal.returns-in-Ok-wait-clause-handles
returns-in-Ok-wait-clause-handles c =
    let started = c.in-Ok.ensures in
    let key : c.in-Ok.future.key ≡ length c.args.host.now.endpoints = ap (λ (f : FutureState). f.key) started.future in
    stand-fresh c.args.host.now c.start.new.host c.wait.new.host c.in-Ok.future.key key c.start.ensures.handles c.wait.ensures.handles

pub returns-in-Err-wait-clause-handles : goal.returns-in-Err-wait-clause-handles
returns-in-Err-wait-clause-handles c =
    let started = c.in-Ok.ensures in
    let key : c.in-Ok.future.key ≡ length c.args.host.now.endpoints = ap (λ (f : FutureState). f.key) started.future in
    stand-fresh c.args.host.now c.start.new.host c.wait.new.host c.in-Ok.future.key key c.start.ensures.handles c.wait.ensures.handles
