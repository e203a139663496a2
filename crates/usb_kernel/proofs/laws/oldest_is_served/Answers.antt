use Rattle.usb_kernel.proofs.OpenLists.{open-packet, open-packet_other, open-ack, open-ack_other, open-fail, open-fail_other}
use Rattle.usb_kernel.proofs.laws.oldest_is_served.Goals as goal

pub returns : goal.returns
returns c = record {
  packet = open-packet;
  packet_others = open-packet_other;
  ack = open-ack;
  ack_others = open-ack_other;
  fail = open-fail;
  fail_others = open-fail_other;
}
