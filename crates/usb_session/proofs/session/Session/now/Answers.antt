use Rattle.std.proofs.Common.{◌∙◌, sym, ap}
use Rattle.usb_kernel.specs.Value.{KernelState}
use Rattle.usb_session_text.specs.Completions.{now_line}
use Rattle.usb_session_calls.specs.SessionState.{SessionState}
use Rattle.usb_session_calls.proofs.Answering.{answers-same}
use Rattle.usb_session.proofs.session.Session.now.Goals as goal

pub returns : goal.returns
returns c =
    record {
      answered = answers-same _ _ _ c.self.view_is c.write_now.ensures.text
          (λ state r. record {
            state = r;
            same = ap now_line (ap (λ (v : SessionState). v.host.kernel.clock) (sym r) ∙ ap (λ (k : KernelState). k.clock) (sym c.kernel.ensures.kernel) ∙ sym c.now.ensures.clock);
          });
    }
