use Rattle.std.proofs.Common.{refl, ap, ◌∙◌, inl}
use Rattle.usb_live.specs.declared.view.Owned.TheVariants.{Free, Mine}
use Rattle.usb_live.specs.Seats.{OwnerState, owns, has_own}
use Rattle.usb_live.proofs.Queue.{owns_twice}
use Rattle.usb_live.proofs.endpoint.give_up.Goals as goal

pub returns : goal.returns
returns c = let e = c.args.e in let done = c.take_front-2.result.completion in record {
  given_up = inl (
    refl,
    (
      done,
      c.take_front-2.ensures.seat
          ∙ (ap (λ (z : OwnerState). has_own (owns z e.cell Free) done) c.if-leave.ensures.left
          ∙ ap (λ (z : OwnerState). has_own z done) (owns_twice c.args.seat.now e.cell (Mine e.ticket) Free)),
    ),
    c.take_front-2.ensures.used,
  );
}
