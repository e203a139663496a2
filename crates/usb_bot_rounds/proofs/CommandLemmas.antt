-- What the calls of a client say, as the laws of disks ask for it.
use Rattle.std.proofs.Common.{◌≡◌, ℕ, ◌*◌, ◌%◌, ◌<◌, List, length, IfOk, IfErr, Result, Ok, Err, arith, ap, ◌∙◌}
use Rattle.std.proofs.Math.Nat.{mod-lt, mul-mod_right}
use Rattle.usb_bot.specs.declared.error.BotError.{BotError}
use Rattle.usb_bot.specs.Commands.{Commanding, outcome, blocks_read, blocks_written}
use Rattle.usb_bot.specs.Shortages.{ReadFails, WriteFails}
use Rattle.usb_bot_disk.specs.DiskState.{DiskState}
use Rattle.usb_bot_disk.specs.DiskCalls.{disk_calls}
use Rattle.usb_bot_law.specs.Serving.{Serves}
use Rattle.usb_bot_law.specs.Steps.{CanRead, CanWrite, HasRead, HasWritten, ReadLeaves, WriteLeaves}
use Rattle.usb_bot_law.proofs.LawLemmas.{reads_answer, writes_change}
use Rattle.usb_bot_rounds.specs.Rounds.{round_block, round_count}
use Rattle.usb_bot_rounds.proofs.AnswerLemmas.{bytes_of}

-- the commands of rounds may be sent
pub can-read : (n block count : ℕ) → block ≡ round_block n → count ≡ round_count n → CanRead block count
can-read n block count place size =
    let place-small : (37 * n) % 256 < 256 = mod-lt (37 * n) (omega arith) in
    let size-small : n % 4 < 4 = mod-lt n (omega arith) in
    record { block_small = omega (arith, place, place-small); some = omega (arith, size); few = omega (arith, size, size-small) }

pub can-write : (n block : ℕ) (bytes : List ℕ) → block ≡ round_block n → length bytes ≡ 512 * round_count n → CanWrite block bytes
can-write n block bytes place size =
    let place-small : (37 * n) % 256 < 256 = mod-lt (37 * n) (omega arith) in
    let size-small : n % 4 < 4 = mod-lt n (omega arith) in
    record {
      block_small = omega (arith, place, place-small);
      some = omega (arith, size);
      few = omega (arith, size, size-small);
      whole = ap (λ m. m % 512) size ∙ mul-mod_right 512 (round_count n);
    }

module _ (old new : Commanding DiskState) (block : ℕ) (serves : Serves old.bus old.client old.bus.machine.disk) where
  has-written : (bytes : List ℕ) (r : Result (Unit {0}) BotError) → IfOk r (λ done. blocks_written disk_calls block bytes old ≡ outcome (Ok done) new) → IfErr r (WriteFails disk_calls block bytes old new) → HasWritten block bytes old r new
  has-written bytes (Ok done) ok err = ok
  has-written bytes (Err e) ok err = err

  pub write-leaves : (bytes : List ℕ) (r : Result (Unit {0}) BotError) → CanWrite block bytes → IfOk r (λ done. blocks_written disk_calls block bytes old ≡ outcome (Ok done) new) → IfErr r (WriteFails disk_calls block bytes old new) → WriteLeaves old.bus.machine.disk block bytes r new.bus new.client
  write-leaves bytes r can ok err =
      writes_change old.bus new.bus old.client new.client old.bus.machine.disk block bytes r serves can (has-written bytes r ok err)

  has-read : {A : Type 0} (f : A → List ℕ) (count : ℕ) (r : Result A BotError) → IfOk r (λ v. blocks_read disk_calls block count old ≡ outcome (Ok (f v)) new) → IfErr r (ReadFails disk_calls block count old new) → HasRead block count old (bytes_of f r) new
  has-read f count (Ok v) ok err = ok
  has-read f count (Err e) ok err = err

  pub read-leaves : {A : Type 0} (f : A → List ℕ) (count : ℕ) (r : Result A BotError) → CanRead block count → IfOk r (λ v. blocks_read disk_calls block count old ≡ outcome (Ok (f v)) new) → IfErr r (ReadFails disk_calls block count old new) → ReadLeaves old.bus.machine.disk block count (bytes_of f r) new.bus new.client
  read-leaves f count r can ok err =
      reads_answer old.bus new.bus old.client new.client old.bus.machine.disk block count (bytes_of f r) serves can (has-read f count r ok err)
