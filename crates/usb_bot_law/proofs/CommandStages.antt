-- The stages of a command at a bus with a disk.
use Rattle.std.proofs.Common.{◌≡◌, ℕ, zero, suc, ◌+◌, ◌*◌, ◌/◌, ◌%◌, ◌^◌, ◌<◌, ◌≤◌, List, [], length, Option, Some, None, true, cond, Ok, Err, refl, sym, ap, ◌∙◌, arith, subst}
use Rattle.std.specs.Prelude.{◌==◌, ◌&&◌, not}
use Rattle.std.proofs.Math.Nat.{suc-mul, zero-mul, mul-suc, mul_assoc, mul_comm, div-add-mod, lt-div-mul-add, div-lt_iff_lt-mul, mul-le-mul_right}
use Rattle.std.proofs.lemmas.Bool.{eq-eqb, ne_eqb, lt-ltb}
use Rattle.usb_xfer.specs.declared.transfer.Completion.{Completion}
use Rattle.usb_bot.specs.declared.error.BotError.TheVariants as error
use Rattle.usb_bot.specs.declared.wrapper.Command.{Command}
use Rattle.usb_bot.specs.declared.wrapper.Status.{Status}
use Rattle.usb_bot.specs.declared.wrapper.Operation.TheVariants.{Read, Write}
use Rattle.usb_bot.specs.Wrappers.{data_length, command_bytes, status_bytes}
use Rattle.usb_bot.specs.Statuses.{error_of, status_error}
use Rattle.usb_bot.specs.Clients.{ClientState}
use Rattle.usb_bot.specs.Commands.{asks, sends, status_length, judged, unless_error}
use Rattle.usb_bot.proofs.WrapperLemmas.{status_read}
use Rattle.usb_bot_disk.specs.declared.stage.Stage.{Stage}
use Rattle.usb_bot_disk.specs.declared.stage.Stage.TheVariants.{Listening, Taking, Sending, Refusing, Answering}
use Rattle.usb_bot_disk.specs.Blocks.{overwritten, blocks_at}
use Rattle.usb_bot_disk.specs.Machine.{end_of, begun, begun_as, status_for}
use Rattle.usb_bot_disk.specs.DiskState.{DiskState}
use Rattle.usb_bot_disk.proofs.MachineLemmas.{made, not-lt, passed}
use Rattle.usb_bot_law.specs.Serving.{Serves}
use Rattle.usb_bot_law.proofs.StageStarts.{Rests, Went, goes-out, comes-in}
use Rattle.usb_bot_law.proofs.TakenBytes.{IsSmall, Hears, takes-wrapper, takes-data, takes-first, failed, Drops, drops-data, drops-first}
use Rattle.usb_bot_law.proofs.SentBytes.{is-made, blocks-long, sends-blocks, sends-first, sends-none, refuses-first, sends-status, answers-first, Refuses, Answers}
use Rattle.usb_bot_disk.proofs.MachineLemmas.{Takes, Sends}

-- a number of bytes in whole packets
packets-some : (q maximum n : ℕ) → q * maximum ≡ n → 0 < n → (p : ℕ) × (n ≡ suc p * maximum)
packets-some zero maximum n is some = absurd (omega (arith, is, some, zero-mul maximum))
packets-some (suc p) maximum n is some = (p, sym is)

-- blocks are whole packets
pub block-packets : (maximum count : ℕ) → 512 % maximum ≡ 0 → 0 < count → (p : ℕ) × (512 * count ≡ suc p * maximum)
block-packets maximum count whole some =
    let n = 512 / maximum in
    let one : maximum * n ≡ 512 = omega (arith, div-add-mod 512 maximum, whole) in
    let all : count * n * maximum ≡ 512 * count = mul_assoc count n maximum ∙ ap (λ x. count * x) (mul_comm n maximum ∙ one) ∙ mul_comm count 512 in
    packets-some (count * n) maximum (512 * count) all (omega (arith, some))

-- so is what a status asks for
pub status-packets : (maximum : ℕ) → status_length maximum ≡ suc (12 / maximum) * maximum
status-packets maximum = let one : 12 / maximum + 1 ≡ suc (12 / maximum) = omega arith in ap (λ n. n * maximum) one

pub status-enough : (maximum : ℕ) → 0 < maximum → 13 ≤ status_length maximum
status-enough maximum some = omega (arith, status-packets maximum, suc-mul (12 / maximum) maximum, lt-div-mul-add {a = 12} {b = maximum} some)

pub status-ends : (maximum j : ℕ) → 0 < maximum → 13 ≡ maximum * suc j → status_length maximum ≤ 13
status-ends maximum j some is =
    let other : suc j * maximum ≡ 13 = mul_comm (suc j) maximum ∙ sym is in
    let below : 12 / maximum < suc j = (div-lt_iff_lt-mul {k = maximum} {x = 12} {y = suc j} some).1 (omega (arith, other)) in
    let few : suc (12 / maximum) ≤ suc j = omega (arith, below) in
    let product : suc (12 / maximum) * maximum ≤ suc j * maximum = mul-le-mul_right maximum few in
    omega (arith, product, other, status-packets maximum)

-- what a status of a command that passed, or failed, says
pub judged-passed : (c : Command) (d t : Completion) → c.tag < 2 ^ 32 → d.actual_len ≡ data_length c → t.buffer.bytes ≡ status_bytes (passed c) → judged c d t ≡ Ok d.buffer.bytes
judged-passed c d t small moved told =
    ap (λ (bytes : List ℕ). unless_error (status_error c d.actual_len bytes) d.buffer.bytes) told
    ∙ ap (λ (o : Option Status). unless_error (error_of c d.actual_len o) d.buffer.bytes) (status_read (passed c) small (omega arith))
    ∙ ap (λ v. unless_error (cond (not v) (Some error.BadStatus) (cond (d.actual_len == data_length c && true) None (Some (error.Length d.actual_len 0)))) d.buffer.bytes) (eq-eqb c.tag c.tag refl)
    ∙ ap (λ v. unless_error (cond (v && true) None (Some (error.Length d.actual_len 0))) d.buffer.bytes) (eq-eqb d.actual_len (data_length c) moved)

pub judged-failed : (c : Command) (d t : Completion) → IsSmall c → t.buffer.bytes ≡ status_bytes (failed c) → judged c d t ≡ Err (error.Failed (data_length c))
judged-failed c d t small told =
    ap (λ (bytes : List ℕ). unless_error (status_error c d.actual_len bytes) d.buffer.bytes) told
    ∙ ap (λ (o : Option Status). unless_error (error_of c d.actual_len o) d.buffer.bytes) (status_read (failed c) small.tag (omega (arith, small.count)))
    ∙ ap (λ v. unless_error (cond (not v) (Some error.BadStatus) (Some (error.Failed (data_length c)))) d.buffer.bytes) (eq-eqb c.tag c.tag refl)

-- how the commands begin
counts : (c : Command) (a : Stage) (b : Stage) → 0 < c.count → cond (c.count == 0) a b ≡ b
counts c a b some = ap (λ v. cond v a b) (ne_eqb c.count 0 (λ same. omega (arith, same, some)))

pub begun-sends : (disk : List ℕ) (c : Command) → c.operation ≡ Read → 0 < c.count → end_of c ≤ length disk → begun disk c ≡ Sending c (data_length c)
begun-sends disk c read some within =
    counts c (Answering (status_for disk c 0) 0) (begun_as disk c c.operation) some ∙ ap (begun_as disk c) read
    ∙ ap (λ v. cond v (Refusing c) (Sending c (data_length c))) (not-lt (length disk) (end_of c) within)

pub begun-refuses : (disk : List ℕ) (c : Command) → c.operation ≡ Read → 0 < c.count → length disk < end_of c → begun disk c ≡ Refusing c
begun-refuses disk c read some beyond =
    counts c (Answering (status_for disk c 0) 0) (begun_as disk c c.operation) some ∙ ap (begun_as disk c) read
    ∙ ap (λ v. cond v (Refusing c) (Sending c (data_length c))) (lt-ltb (length disk) (end_of c) beyond)

pub begun-takes : (disk : List ℕ) (c : Command) → c.operation ≡ Write → 0 < c.count → begun disk c ≡ Taking c (data_length c)
begun-takes disk c write some =
    counts c (Answering (status_for disk c 0) 0) (begun_as disk c c.operation) some ∙ ap (begun_as disk c) write

-- a disk that serves a client rests
pub serves-rests : (b : DiskState) (k : ClientState) (blocks : List ℕ) → Serves b k blocks → Rests k (made blocks [] Listening) b
serves-rests b k blocks serves = record {
  over = serves.over;
  ready = serves.ready;
  machine = is-made b.machine blocks [] Listening serves.disk serves.heard serves.listens;
}

rests-at : (k : ClientState) (disk : List ℕ) (s t : Stage) (b : DiskState) → s ≡ t → Rests k (made disk [] s) b → Rests k (made disk [] t) b
rests-at k disk s t b same rests = subst (λ (x : Stage). Rests k (made disk [] x) b) same rests

module _ (k : ClientState) (disk : List ℕ) (c : Command) (b : DiskState) where
  -- the wrapper goes over
  pub wrapper-went : IsSmall c → Rests k (made disk [] Listening) b → Went k k.out (sends (command_bytes c)) (command_bytes c) (made disk [] (begun disk c)) b
  wrapper-went small rests =
      goes-out k (made disk [] Listening) b rests (command_bytes c) (Hears disk c) (made disk [] (begun disk c)) (takes-wrapper disk c k.out.maximum small) (omega arith)
      (record { disk_is = refl; got = refl; stage = refl })

  -- the data of a read in range
  pub blocks-went : c.operation ≡ Read → 0 < c.count → c.count < 2 ^ 16 → end_of c ≤ length disk → Rests k (made disk [] (begun disk c)) b
      → Went k k.inp (asks (512 * c.count)) (blocks_at disk c.block c.count) (made disk [] (Answering (passed c) 0)) b
  blocks-went read some few within rests =
      let packets = block-packets k.inp.maximum c.count rests.over.whole_blocks some in
      let long = blocks-long disk c within in
      comes-in k (made disk [] (Sending c (data_length c))) b (rests-at k disk (begun disk c) (Sending c (data_length c)) b (begun-sends disk c read some within) rests)
      (blocks_at disk c.block c.count) (512 * c.count) packets.0 (Sends disk c) (made disk [] (Answering (passed c) 0)) (sends-blocks disk c k.inp.maximum few within)
      packets.1 (omega (arith, long)) (λ j all. omega (arith, long)) (sends-first disk c)

  -- the empty packet of one out of range
  pub none-went : c.operation ≡ Read → 0 < c.count → length disk < end_of c → Rests k (made disk [] (begun disk c)) b
      → Went k k.inp (asks (512 * c.count)) [] (made disk [] (Answering (failed c) 0)) b
  none-went read some beyond rests =
      let packets = block-packets k.inp.maximum c.count rests.over.whole_blocks some in
      comes-in k (made disk [] (Refusing c)) b (rests-at k disk (begun disk c) (Refusing c) b (begun-refuses disk c read some beyond) rests)
      [] (512 * c.count) packets.0 (Refuses disk c) (made disk [] (Answering (failed c) 0)) (sends-none disk c k.inp.maximum beyond)
      packets.1 (omega arith) (λ j all. absurd (omega (arith, all, mul-suc k.inp.maximum j, rests.over.in_at.some))) (refuses-first disk c)

  -- the data of a write in range
  pub data-went : (bytes : List ℕ) → c.operation ≡ Write → 0 < c.count → length bytes ≡ data_length c → end_of c ≤ length disk → Rests k (made disk [] (begun disk c)) b
      → Went k k.out (sends bytes) bytes (made (overwritten disk (512 * c.block) bytes) [] (Answering (passed c) 0)) b
  data-went bytes write some long within rests =
      goes-out k (made disk [] (Taking c (data_length c))) b (rests-at k disk (begun disk c) (Taking c (data_length c)) b (begun-takes disk c write some) rests)
      bytes (Takes disk c bytes) (made (overwritten disk (512 * c.block) bytes) [] (Answering (passed c) 0)) (takes-data disk c bytes k.out.maximum long within)
      (omega (arith, long, some)) (takes-first disk c bytes)

  -- of one out of range
  pub dropped-went : (bytes : List ℕ) → c.operation ≡ Write → 0 < c.count → length bytes ≡ data_length c → length disk < end_of c → Rests k (made disk [] (begun disk c)) b
      → Went k k.out (sends bytes) bytes (made disk [] (Answering (failed c) 0)) b
  dropped-went bytes write some long beyond rests =
      goes-out k (made disk [] (Taking c (data_length c))) b (rests-at k disk (begun disk c) (Taking c (data_length c)) b (begun-takes disk c write some) rests)
      bytes (Drops disk c) (made disk [] (Answering (failed c) 0)) (drops-data disk c bytes k.out.maximum long beyond)
      (omega (arith, long, some)) (drops-first disk c)

-- a status
pub status-went : (k : ClientState) (disk : List ℕ) (s : Status) (b : DiskState) → Rests k (made disk [] (Answering s 0)) b
    → Went k k.inp (asks (status_length k.inp.maximum)) (status_bytes s) (made disk [] Listening) b
status-went k disk s b rests =
    comes-in k (made disk [] (Answering s 0)) b rests (status_bytes s) (status_length k.inp.maximum) (12 / k.inp.maximum) (Answers disk s) (made disk [] Listening) (sends-status disk s k.inp.maximum)
    (status-packets k.inp.maximum) (status-enough k.inp.maximum rests.over.in_at.some) (λ j all. status-ends k.inp.maximum j rests.over.in_at.some all) (answers-first disk s)
