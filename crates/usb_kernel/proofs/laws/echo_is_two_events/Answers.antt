use Rattle.usb_kernel.proofs.Echoes.{fate-echo}
use Rattle.usb_kernel.proofs.OpenLists.{open-echo, fate-echo_none, open-echo_none}
use Rattle.usb_kernel.proofs.laws.echo_is_two_events.Goals as goal

pub returns : goal.returns
returns c = record {
  fate = fate-echo;
  closes = open-echo;
  alone = fate-echo_none;
  alone_closes = open-echo_none;
}
