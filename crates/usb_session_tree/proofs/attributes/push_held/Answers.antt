use Rattle.usb_session_tree.proofs.HexWords.{hex_word_is}
use Rattle.usb_session_tree.proofs.attributes.push_held.Goals as goal

pub returns : goal.returns
returns c = record { text = rw (← hex_word_is c.args.bytes.now) c.push_bytes.ensures.text }
