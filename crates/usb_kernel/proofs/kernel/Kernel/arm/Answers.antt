use Rattle.std.proofs.Common.{◌++◌, ◌∷◌, [], ap, ◌∙◌}
use Rattle.usb_kernel.proofs.Kept.{armed_is, has_spare, spare-used, rest-armed, kept-armed, room-armed}
use Rattle.usb_kernel.proofs.kernel.Kernel.arm.Goals as goal

pub overflow_sub-self : goal.overflow_sub-self
overflow_sub-self c = has_spare c.self.inside c.self.view_is c.requires.spare

pub arm-requires : goal.arm-requires
arm-requires c = record { room = room-armed c.self.inside c.self.invariant (has_spare c.self.inside c.self.view_is c.requires.spare) }

pub invariant_of-self : goal.invariant_of-self
invariant_of-self c = kept-armed c.self.inside c.arm.new.self c.args.refusal c.self.invariant c.requires.errno c.arm.ensures.armed c.arm.ensures.room

pub returns : goal.returns
returns c = record {
  armed = c.arm.ensures.armed ∙ ap (λ xs. xs ++ c.args.refusal ∷ []) (armed_is c.self.inside c.self.view_is);
  spare = spare-used c.self.inside c.self.view_is c.requires.spare;
  rest = rest-armed c.self.inside _ _ c.self.view_is;
}
