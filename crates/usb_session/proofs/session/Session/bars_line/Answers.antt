use Rattle.std.proofs.Common.{◌∙◌, ap}
use Rattle.std.specs.Prelude.{nat_lt}
use Rattle.usb_kernel.specs.Value.{KernelState}
use Rattle.usb_kernel.specs.Info.{unreaped}
use Rattle.usb_session_calls.specs.SessionState.{SessionState}
use Rattle.usb_session.proofs.CrowdCode.{crowded-is, passes, crowds}
use Rattle.usb_session.proofs.session.Session.bars_line.Goals as goal

pub returns-then-not-is_call : goal.returns-then-not-is_call
returns-then-not-is_call c = record { value = λ state r. passes c.args.item.now c.is_call.result c.is_call.ensures.value c.if-not-is_call.true state }

pub returns : goal.returns
returns c = record {
  value = λ state r.
      crowds c.args.item.now c.is_call.result c.is_call.ensures.value c.if-not-is_call.false _ state
      (ap (nat_lt 1024) (c.unreaped.ensures.unreaped ∙ ap (λ (k : KernelState). unreaped k.past) c.kernel.ensures.kernel ∙ ap (λ (v : SessionState). unreaped v.host.kernel.past) c.self.view_is) ∙ crowded-is _ state r);
}
