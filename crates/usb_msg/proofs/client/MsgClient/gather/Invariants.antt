use Rattle.std.proofs.Common.{◌≡◌, ◌-◌, [], length}
use Rattle.usb_io.specs.Along.{ReadsAlong}
use Rattle.usb_io.specs.Reads.{KeepsSettings}
use Rattle.usb_msg.specs.Requests.{messaging}
use Rattle.usb_msg.specs.Histories.{KeepsOn}
use Rattle.usb_msg.proofs.PieceLemmas.{Gathering}
use Rattle.usb_msg.proofs.client.MsgClient.gather.Given as goal

abbrev pub invariant-pieces : goal.invariant-pieces
invariant-pieces g l = record {
  gathering : Gathering g.B.Bus.calls (messaging l.initial.bus l.initial.self) (messaging l.bus l.self);
  keeps : KeepsOn (g.B.Bus.calls.state l.initial.bus).past (g.B.Bus.calls.state l.bus).past l.initial.self l.self [] [];
  rest : l.self ≡ record l.initial.self { reader = l.self.reader; frame = l.self.frame };
  settings : KeepsSettings l.initial.self.reader l.self.reader;
  goes : ReadsAlong (g.B.Bus.calls.state l.initial.bus) (g.B.Bus.calls.state l.bus) l.initial.self.reader.endpoint l.self.reader.endpoint;
}

-- each piece leaves less room
abbrev pub decreases-pieces : goal.decreases-pieces
decreases-pieces g l = 4101 - length l.self.frame
