use Rattle.std.proofs.Common.{◌∙◌}
use Rattle.usb_session.proofs.RunLemmas.{host-start}
use Rattle.usb_session.proofs.session.host_with.Goals as goal

pub returns : goal.returns
returns c = record {
  host =
      λ all. c.new-2.ensures.host
      ∙ host-start c.in_ok-kernel.kernel c.reserve.new.self c.args.items.now c.in_ok-devices_of.field-0.items c.args.places
      c.in_ok-kernel.ensures.past c.in_ok-kernel.ensures.devices c.in_ok-devices_of.ensures.value c.in_ok-kernel.ensures.clock c.in_ok-kernel.ensures.armed c.in_ok-kernel.ensures.spare
      c.in_ok-reserve.ensures.rest c.in_ok-reserve.ensures.exact all;
}
