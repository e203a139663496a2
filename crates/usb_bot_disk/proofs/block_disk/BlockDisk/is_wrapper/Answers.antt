use Rattle.std.proofs.Common.{◌≡◌, ℕ, ◌+◌, ◌-◌, ◌≤◌, List, ◌++◌, length, take, drop, replicate, Option, ap, sym, ◌∙◌, arith}
use Rattle.std.specs.Prelude.{is_some}
use Rattle.std.proofs.Math.Seq.{take-append_seam}
use Rattle.std.proofs.lemmas.List.{length-append}
use Rattle.std.proofs.lemmas.Slice.{take-put_mid}
use borrow.Rule.Slice.PartMut.{put_mid}
use Rattle.usb_bot.specs.declared.wrapper.Command.{Command}
use Rattle.usb_bot.specs.Wrappers.{command_in}
use Rattle.usb_bot_disk.specs.Machine.{Machine}
use Rattle.usb_bot_disk.proofs.block_disk.BlockDisk.is_wrapper.Goals as goal

-- bytes that were put into an array from its start on, and others that were put behind them
module _ (zeros got packet first then : List ℕ) (had : ℕ) (long : had ≡ length got) (first_is : first ≡ got) (then_is : then ≡ packet) where
  abbrev array : List ℕ
  array = first ++ drop had zeros

  front : take had array ≡ got
  front =
      let size : had ≡ length first = long ∙ ap length (sym first_is) in
      ap (λ n. take n array) size ∙ take-append_seam first (drop had zeros) ∙ first_is

  joined : take (had + length packet) (put_mid had (had + length packet - had) array then) ≡ got ++ packet
  joined =
      let size : had + length packet ≡ had + length then = omega (arith, ap length then_is) in
      let inside : had ≤ length array = omega (arith, length-append first (drop had zeros), ap length first_is, long) in
      take-put_mid had (had + length packet - had) array then (had + length packet) size inside ∙ ap (λ xs. xs ++ then) front ∙ ap (λ xs. got ++ xs) then_is

pub returns : goal.returns
returns c =
    let got = c.self.inside.got.bytes in
    let first_is : c.copy_from_slice.new.self ≡ got = c.copy_from_slice.ensures.after ∙ c.as_slice.ensures.bytes in
    let both = joined (replicate 31 0) got c.args.packet.now c.copy_from_slice.new.self c.copy_from_slice-2.new.self c.len-had.result c.len-had.ensures.len first_is c.copy_from_slice-2.ensures.after in
    record {
      wrapper =
          c.is_some.ensures
          ∙ ap (λ (o : Option Command). is_some o) (c.from_bytes.ensures.command ∙ ap command_in both)
          ∙ ap (λ (x : Machine). is_some (command_in (x.got ++ c.args.packet.now))) c.self.view_is;
    }
