use Rattle.std.proofs.Common.{◌≡◌, ◌<◌, ◌≤◌, ◌+◌, ◌⊎◌, inl, inr, [], ◌++◌, length, Option, Some, None, refl, ap, sym, ◌∙◌, arith}
use Rattle.std.specs.Prelude.{is_some}
use Rattle.std.specs.Option.{option_map}
use Rattle.usb_bot.specs.declared.wrapper.Command.{Command}
use Rattle.usb_bot_disk.specs.declared.stage.Stage.TheVariants.{Listening}
use Rattle.usb_bot.specs.Wrappers.{command_in}
use Rattle.usb_bot_disk.specs.Machine.{Machine, taken, begun}
use Rattle.usb_bot_disk.proofs.MachineLemmas.{made, listens_over}
use Rattle.usb_bot_disk.proofs.block_disk.BlockDisk.can_hear.Goals as goal
use Rattle.usb_bot_disk.proofs.block_disk.BlockDisk.can_hear.Goals.{else-len-lt-WRAPPER-via-then-len-lt-WRAPPER+else-packet-maximum, else-len-lt-WRAPPER-via-else-len-lt-WRAPPER}

some-same : {A B : Type 0} (f : A → B) (o : Option A) → is_some (option_map f o) ≡ is_some o
some-same f None = refl
some-same f (Some x) = refl

-- the bytes are over
pub returns : goal.returns
returns c =
    let inside = c.self.inside in
    let over : (31 ≤ length inside.got.bytes + length c.args.packet.now) ⊎ (length c.args.packet.now < c.args.maximum) = elim c.else-len-lt-WRAPPER.branch [
      | else-len-lt-WRAPPER-via-then-len-lt-WRAPPER+else-packet-maximum w ↦ inr w.if-packet-maximum.false
      | else-len-lt-WRAPPER-via-else-len-lt-WRAPPER w ↦ inl (omega (arith, w.if-len-lt-WRAPPER.false, c.len.ensures.len))
    ] in
    let stage : inside.stage ≡ Listening = ap (λ (x : Machine). x.stage) c.self.view_is ∙ c.requires.listens in
    let is : taken c.args.self.now c.args.packet.now c.args.maximum ≡ option_map (λ (x : Command). made inside.blocks [] (begun inside.blocks x)) (command_in (inside.got.bytes ++ c.args.packet.now)) =
    ap (λ (x : Machine). taken x c.args.packet.now c.args.maximum) (sym c.self.view_is)
    ∙ listens_over (made inside.blocks inside.got.bytes inside.stage) c.args.packet.now c.args.maximum stage over in
    record {
      heard =
          c.is_wrapper.ensures.wrapper
          ∙ ap (λ (x : Machine). is_some (command_in (x.got ++ c.args.packet.now))) (sym c.self.view_is)
          ∙ sym (some-same (λ (x : Command). made inside.blocks [] (begun inside.blocks x)) (command_in (inside.got.bytes ++ c.args.packet.now)))
          ∙ sym (ap (λ (o : Option Machine). is_some o) is);
    }
