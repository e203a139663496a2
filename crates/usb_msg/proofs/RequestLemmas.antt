-- Why a request found no memory.
use Rattle.std.proofs.Common.{◌≡◌, List, ℕ, Some, None, refl, subst, inl, inr}
use Rattle.usb_device_endpoint.specs.BusCalls.{BusCalls}
use Rattle.usb_io.specs.Writers.{WriterState, writing}
use Rattle.usb_io.specs.WriteAnswers.{WriteShort}
use Rattle.usb_msg.specs.Frames.{framed}
use Rattle.usb_msg.specs.Clients.{ClientState}
use Rattle.usb_msg.specs.Requests.{messaging, RequestFails}
use Rattle.usb_msg.specs.Sending.{FrameUnended}
use Rattle.usb_msg.specs.declared.error.Ending.TheVariants as ending
use Rattle.usb_msg.specs.declared.error.MsgError.TheVariants as error

module _ {S : Type 0} (k : BusCalls S) (body frame : List ℕ) (bus bus' : S) (x c : ClientState) (w : WriterState) (is : c ≡ x) (goes : c.ended ≡ None) (same : frame ≡ framed c.requests body) where
  -- the write found none
  pub request-short : WriteShort k c.writer.timeout frame (writing bus c.writer) (writing bus' w) → RequestFails k body (messaging bus x) (messaging bus' (record c { writer = w })) error.Memory
  request-short short =
      subst (λ (x : ClientState). RequestFails k body (messaging bus x) (messaging bus' (record c { writer = w })) error.Memory) is
      (inr (
        refl,
        inr (inl (record {
          goes = goes;
          mid = writing bus' w;
          short = subst (λ (xs : List ℕ). WriteShort k c.writer.timeout xs (writing bus c.writer) (writing bus' w)) same short;
          left = refl;
        })),
      ))

  -- the end did
  pub request-unended : FrameUnended k frame (writing bus c.writer) (writing bus' w) → RequestFails k body (messaging bus x) (messaging bus' (record c { writer = w; ended = Some ending.Memory })) error.Memory
  request-unended unended =
      let here = subst (λ (xs : List ℕ). FrameUnended k xs (writing bus c.writer) (writing bus' w)) same unended in
      subst (λ (x : ClientState). RequestFails k body (messaging bus x) (messaging bus' (record c { writer = w; ended = Some ending.Memory })) error.Memory) is
      (inr (
        refl,
        inr (inr (record {
          goes = goes;
          count = here.count;
          mid = here.mid;
          written = here.written;
          end = writing bus' w;
          short = here.short;
          left = refl;
        })),
      ))
