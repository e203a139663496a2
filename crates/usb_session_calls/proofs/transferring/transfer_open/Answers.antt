use Rattle.std.proofs.Common.{ap, sym, ◌∙◌, subst}
use Rattle.usb_device_endpoint.specs.EndpointState.{EndpointState}
use Rattle.usb_kernel.specs.Extends.{Extends}
use Rattle.usb_kernel.proofs.Extends.{extends-same}
use Rattle.usb_device_host.specs.HostState.{HostState}
use Rattle.usb_device_host.specs.HostFrames.{LineGoesOn}
use Rattle.usb_device_host.proofs.CallFrames.{keeps-open}
use Rattle.usb_device_host.proofs.WaitFrames.{line-keeps}
use Rattle.usb_session_streams.proofs.AccountLemmas.{of-same, of-is}
use Rattle.usb_session_calls.specs.Transfers.{transfer_on}
use Rattle.usb_session_calls.specs.OpenCalls.{CallAnswers}
use Rattle.usb_session_calls.proofs.WaitCode.{transfer-barred, transfer-answers, transfer-keeps}
use Rattle.usb_session_calls.proofs.transferring.transfer_open.Goals as goal

pub returns-then-bars_transfer-clause-answered : goal.returns-then-bars_transfer-clause-answered
returns-then-bars_transfer-clause-answered c =
    transfer-barred c.args.host.now c.args.endpoint.now c.args.line.now c.write_condition.new.out c.write_condition.result c.args.direction c.args.buffer c.args.timeout
    (sym c.bars_transfer.ensures.barred ∙ c.if-bars_transfer.true) c.write_condition.ensures.text

pub returns-in-Ok-clause-keeps : goal.returns-in-Ok-clause-keeps
returns-in-Ok-clause-keeps c =
    transfer-keeps c.args.host.now c.transfer_blocking.new.bus c.args.endpoint.now c.transfer_blocking.new.self c.args.buffer c.nanoseconds.result c.in-Ok.completion
    c.in-Ok.ensures.transferred c.transfer_blocking.ensures.rest c.requires.stands c.transfer_blocking.ensures.stands c.transfer_blocking.ensures.others

pub returns-in-Ok-clause-answered : goal.returns-in-Ok-clause-answered
returns-in-Ok-clause-answered c =
    let x = c.args.endpoint.now in
    let y = c.transfer_blocking.new.self in
    subst (λ n. CallAnswers c.args.host.now c.transfer_blocking.new.bus x y c.args.line.now c.write_waited.new.out c.write_waited.result (λ state e h. transfer_on state c.args.direction e c.args.buffer n h)) c.nanoseconds.ensures.value
    (transfer-answers c.args.host.now c.transfer_blocking.new.bus x y c.args.line.now c.write_waited.new.out c.write_waited.result c.args.direction c.args.buffer c.nanoseconds.result c.in-Ok.completion
    (sym c.bars_transfer.ensures.barred ∙ c.if-bars_transfer.false) c.transfer_blocking.ensures.rest c.in-Ok.ensures.transferred c.write_waited.ensures.text)

-- short of memory it leaves the host as it was
pub returns-clause-keeps : goal.returns-clause-keeps
returns-clause-keeps c = record {
  line = subst (LineGoesOn c.args.host.now) (sym c.in-Err.ensures.err) (line-keeps c.args.host.now c.args.host.now (keeps-open c.args.host.now));
  past = subst (λ (h : HostState). Extends c.args.host.now.kernel.past h.kernel.past) (sym c.in-Err.ensures.err) (extends-same c.args.host.now.kernel.past);
  stands = c.transfer_blocking.ensures.stands;
  others = c.transfer_blocking.ensures.others;
  key = ap (λ (h : EndpointState). h.key) c.transfer_blocking.ensures.rest;
  maximum = ap (λ (h : EndpointState). h.maximum) c.transfer_blocking.ensures.rest;
  accounts =
      of-is _ _ _ _ _ _ _ c.in-Err.ensures.err (ap (λ (h : EndpointState). h.pending) c.transfer_blocking.ensures.rest)
      (of-same c.args.host.now c.args.endpoint.now.key c.args.endpoint.now.pending);
}
