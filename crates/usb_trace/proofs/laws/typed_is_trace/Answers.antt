use Rattle.std.proofs.Common.{refl}
use Rattle.usb_trace_lines.specs.Forms.{IsSized}
use Rattle.usb_trace_lines.proofs.Each.{all-forward}
use Rattle.usb_trace_lines.proofs.Typed.{events-told}
use Rattle.usb_trace.proofs.laws.typed_is_trace.Goals as goal

pub returns : goal.returns
returns c = record {
  law = λ typed sized directed.
      let past = c.args.kernel.now.past in
      record {
        past = past;
        told = events-told past typed (all-forward IsSized past sized) directed;
        acts = c.journal-journal.ensures.acts;
        is = refl;
      };
}
