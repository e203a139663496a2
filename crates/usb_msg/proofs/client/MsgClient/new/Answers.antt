use Rattle.std.proofs.Common.{arith, refl, ◌∙◌, ap}
use Rattle.usb_xfer.specs.BufferState.{BufferState}
use Rattle.usb_io.specs.Readers.{ReaderState}
use Rattle.usb_io.specs.Writers.{WriterState}
use Rattle.usb_msg.proofs.WholeFrames.{rounded-holds, filled-length}
use Rattle.usb_msg.proofs.client.MsgClient.new.Goals as goal

pub invariant_of-result : goal.invariant_of-result
invariant_of-result g c =
    let packets = c.max_packet_size.ensures.packets in
    let maximum = c.max_packet_size.ensures.maximum in
    let holds = rounded-holds c.args.out.maximum 4160 (omega (arith, packets, maximum)) (omega arith) in
    let size = ap (λ (w : WriterState). w.size) c.with_num_transfers.ensures.set ∙ ap (λ (w : WriterState). w.size) c.new.ensures.fresh in
    record {
      room_is = filled-length c.in-Ok.room.bytes c.extend_fill.result.now c.into_vec.result.items 4101 (ap (λ (b : BufferState). b.bytes) c.in-Ok.ensures.empty) c.extend_fill.ensures.value c.into_vec.ensures.bytes;
      within = omega arith;
      out_n = ap (λ (w : WriterState). w.n) c.with_num_transfers.ensures.set;
      out_timeout = ap (λ (w : WriterState). w.timeout) c.with_num_transfers.ensures.set ∙ ap (λ (w : WriterState). w.timeout) c.new.ensures.fresh;
      in_n = ap (λ (r : ReaderState). r.n) c.new-2.ensures.fresh;
      in_timeout = ap (λ (r : ReaderState). r.timeout) c.new-2.ensures.fresh;
      holds = omega (arith, size, holds);
      answered = omega arith;
      few = omega arith;
      nothing = λ goes. rw (c.with_num_transfers.ensures.set, c.new.ensures.fresh) refl;
    }
