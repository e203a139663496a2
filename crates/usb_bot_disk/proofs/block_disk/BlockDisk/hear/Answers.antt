use Rattle.std.proofs.Common.{◌≡◌, ◌<◌, ◌≤◌, ◌+◌, ◌++◌, ◌⊎◌, inl, inr, [], length, Some, None, ap, sym, ◌∙◌, arith}
use Rattle.std.specs.Option.{option_map}
use Rattle.usb_bot.specs.declared.wrapper.Command.{Command}
use Rattle.usb_bot_disk.specs.declared.stage.Stage.TheVariants.{Listening}
use Rattle.usb_bot.specs.Wrappers.{command_in}
use Rattle.usb_xfer.specs.BufferState.{BufferState}
use Rattle.usb_bot_disk.specs.Machine.{Machine, taken, machine_or, begun}
use Rattle.usb_bot_disk.proofs.MachineLemmas.{made, listens_over}
use Rattle.usb_bot_disk.proofs.block_disk.BlockDisk.hear.Goals as goal
use Rattle.usb_bot_disk.proofs.block_disk.BlockDisk.hear.Goals.{else-len-lt-WRAPPER-via-then-len-lt-WRAPPER+else-packet-maximum, else-len-lt-WRAPPER-via-else-len-lt-WRAPPER}

-- the bytes are over, and are a wrapper
pub returns-in-Some : goal.returns-in-Some
returns-in-Some c =
    let disk = c.self.inside.blocks in
    let over : (31 ≤ length c.self.inside.got.bytes + length c.args.packet.now) ⊎ (length c.args.packet.now < c.args.maximum) = elim c.else-len-lt-WRAPPER.branch [
      | else-len-lt-WRAPPER-via-then-len-lt-WRAPPER+else-packet-maximum w ↦ inr w.if-packet-maximum.false
      | else-len-lt-WRAPPER-via-else-len-lt-WRAPPER w ↦ inl (omega (arith, w.if-len-lt-WRAPPER.false, c.len.ensures.len))
    ] in
    let stage : c.self.inside.stage ≡ Listening = ap (λ (x : Machine). x.stage) c.self.view_is ∙ c.requires.listens in
    let read : command_in (c.self.inside.got.bytes ++ c.args.packet.now) ≡ Some c.in-Some.command = sym (c.in-Some.ensures.command ∙ ap command_in (c.as_slice.ensures.bytes ∙ ap (λ (b : BufferState). b.bytes) c.extend_from_slice.ensures.appended)) in
    let is : taken c.args.self.now c.args.packet.now c.args.maximum ≡ Some (made disk [] (begun disk c.in-Some.command)) =
    ap (λ (x : Machine). taken x c.args.packet.now c.args.maximum) (sym c.self.view_is)
    ∙ listens_over (made disk c.self.inside.got.bytes c.self.inside.stage) c.args.packet.now c.args.maximum stage over
    ∙ ap (option_map (λ (x : Command). made disk [] (begun disk x))) read in
    record {
      machine =
          ap (λ g. made disk g c.begin-self-inside.result) (ap (λ (b : BufferState). b.bytes) c.clear-2.ensures.emptied)
          ∙ ap (made disk []) c.begin-self-inside.ensures.stage
          ∙ sym (ap (machine_or c.args.self.now) is);
      sound = c.begin-self-inside.ensures.sound;
    }

-- and where they are none
pub returns-in_default : goal.returns-in_default
returns-in_default c =
    let disk = c.self.inside.blocks in
    let over : (31 ≤ length c.self.inside.got.bytes + length c.args.packet.now) ⊎ (length c.args.packet.now < c.args.maximum) = elim c.else-len-lt-WRAPPER.branch [
      | else-len-lt-WRAPPER-via-then-len-lt-WRAPPER+else-packet-maximum w ↦ inr w.if-packet-maximum.false
      | else-len-lt-WRAPPER-via-else-len-lt-WRAPPER w ↦ inl (omega (arith, w.if-len-lt-WRAPPER.false, c.len.ensures.len))
    ] in
    let stage : c.self.inside.stage ≡ Listening = ap (λ (x : Machine). x.stage) c.self.view_is ∙ c.requires.listens in
    let read : command_in (c.self.inside.got.bytes ++ c.args.packet.now) ≡ None = sym (c.in_default.ensures.command ∙ ap command_in (c.as_slice.ensures.bytes ∙ ap (λ (b : BufferState). b.bytes) c.extend_from_slice.ensures.appended)) in
    let is : taken c.args.self.now c.args.packet.now c.args.maximum ≡ None =
    ap (λ (x : Machine). taken x c.args.packet.now c.args.maximum) (sym c.self.view_is)
    ∙ listens_over (made disk c.self.inside.got.bytes c.self.inside.stage) c.args.packet.now c.args.maximum stage over
    ∙ ap (option_map (λ (x : Command). made disk [] (begun disk x))) read in
    record {
      machine =
          ap (λ g. made disk g c.self.inside.stage) (ap (λ (b : BufferState). b.bytes) c.clear-2.ensures.emptied)
          ∙ ap (λ (x : Machine). record x { got = [] }) c.self.view_is
          ∙ sym (ap (machine_or c.args.self.now) is);
      sound = c.self.invariant.0;
    }
