use Rattle.std.proofs.Common.{◌∙◌, ap}
use Rattle.usb_device_host.specs.HostState.{HostState}
use Rattle.usb_device_host.specs.OnInterfaces.{current_setting}
use Rattle.usb_session_calls.proofs.InterfaceCalls.{asked-claim}
use Rattle.usb_session_calls.proofs.interfaces.call_interface.Goals as goal

pub returns-in-Descriptor-clause-text : goal.returns-in-Descriptor-clause-text
returns-in-Descriptor-clause-text c = λ x at.
    let asked = c.ask_configuration.ensures.host x at in
    let there = asked-claim c.args.host.now c.ask_configuration.new.host x.opened c.args.interface.now.key x asked at in
    rw (c.in-Descriptor.is, ← (c.descriptor.ensures.descriptor x there ∙ ap (λ (h : HostState). current_setting h x) asked)) c.write_interface.ensures.text
