use Rattle.std.proofs.Common.{sym, ◌∙◌}
use Rattle.usb_desc.proofs.InterfaceLemmas.{interfaces_none}
use Rattle.usb_desc.proofs.interfaces.interfaces_among.Goals as goal

pub loop-setting-init : goal.loop-setting-init
loop-setting-init c = c.new-groups.ensures.items ∙ sym interfaces_none
