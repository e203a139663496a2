use Rattle.usb_io.proofs.Framed.{echoes_come_in_order}
use Rattle.usb_io.proofs.message_laws.echoes_come_in_order.Goals as goal

pub returns : goal.returns
returns c = record { law = echoes_come_in_order }
