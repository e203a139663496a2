use Rattle.usb_kernel.proofs.Extends.{extends-same, extends-trans}
use Rattle.usb_kernel.proofs.laws.extensions_compose.Goals as goal

pub returns : goal.returns
returns c = record {
  itself = extends-same;
  in_turn = extends-trans;
}
