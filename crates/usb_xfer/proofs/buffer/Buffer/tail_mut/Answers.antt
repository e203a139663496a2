use Rattle.std.proofs.Common.{rules, ◌≡◌, ◌-◌, refl, ap, sym, ◌∙◌, take, drop, length, length-drop}
use Rattle.std.proofs.Math.Seq.{take-length}
use Rattle.usb_xfer.specs.BufferState.{BufferState}
use Rattle.usb_xfer.proofs.Tails.{tail-written}
use Rattle.usb_xfer.proofs.buffer.Buffer.tail_mut.Goals as goal

pub returns : goal.returns
returns c =
    let b = c.self.inside in
    let xs = b.items.items in
    let tail = drop c.args.start xs in
    let size : b.items.len - c.args.start ≡ length tail = ap (λ n. n - c.args.start) b.items.ok.0 ∙ sym (length-drop c.args.start xs) in
    let whole = ap (λ n. take n tail) size ∙ take-length tail in (
      (refl, λ w. tail-written c.args.self.now xs w c.args.start b.items.len b.asked b.fits c.self.view_is b.items.ok.0 (search rules)),
      record { writes_back = tt; value = c.slice_mut.ensures.value ∙ whole ∙ ap (λ (f : BufferState). drop c.args.start f.bytes) c.self.view_is },
    )
