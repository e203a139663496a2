use Rattle.usb_io.proofs.EchoedMessages.{messages_are_first}
use Rattle.usb_io.proofs.message_laws.messages_are_first.Goals as goal

pub returns : goal.returns
returns c = record { law = messages_are_first }
