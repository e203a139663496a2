use Rattle.std.proofs.Common.{refl, arith, ◌≡◌, length, length-append}
use Rattle.usb_kernel.proofs.RowLemmas.{packet_fits, room_left}
use Rattle.usb_kernel.proofs.slot.TicketRow.take_packet.Goals as goal

pub overflow_add-self : goal.overflow_add-self
overflow_add-self c =
    let r = (c.requires.roomy c.requires.unfinished).1 c.requires.input c.in-Some.buffer c.in-Some.is in
    omega (arith, packet_fits c.args.self.now.count r.1.0 c.args.self.now.maximum _ (length c.args.bytes.now) r.1.1 (omega arith))

pub returns-else-self-wanted-clause-roomy : goal.returns-else-self-wanted-clause-roomy
returns-else-self-wanted-clause-roomy c =
    let r = (c.requires.roomy c.requires.unfinished).1 c.requires.input c.in-Some.buffer c.in-Some.is in
    λ a. (
      refl,
      λ b x e.
          let same : c.extend_from_slice.new.self ≡ x = cc in
          rw (← same, c.extend_from_slice.ensures.appended) (
          let lengths = length-append c.in-Some.buffer.bytes c.args.bytes.now in
          (omega (arith, r.0), room_left c.args.self.now.count r.1.0 c.args.self.now.maximum _ (length c.args.bytes.now) r.1.1 (omega arith) (omega arith) (omega arith))),
      λ out. absurd (omega arith),
    )
