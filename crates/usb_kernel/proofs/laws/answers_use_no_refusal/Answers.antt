use Rattle.usb_kernel.proofs.Answered.{answers-use_none, opens-use_none}
use Rattle.usb_kernel.proofs.laws.answers_use_no_refusal.Goals as goal

pub returns : goal.returns
returns c = record {
  answers = answers-use_none;
  opens = opens-use_none;
}
