use Rattle.usb_kernel.proofs.Extends.{extends-event, extends-if, extends-step, extends-turned, extends-reset}
use Rattle.usb_kernel.proofs.laws.calls_extend_journals.Goals as goal

pub returns : goal.returns
returns c = record {
  event = extends-event;
  submit = λ devices armed past s. extends-event past _;
  refuse = λ past s errno. extends-event past _;
  step = extends-step;
  timer = extends-turned;
  discard = λ past t. extends-if _ past _;
  reap = λ past t. extends-if _ past _;
  reset = extends-reset;
}
