-- How a disk takes a wrapper and the data of a write, whatever the packets are.
use Rattle.std.proofs.Common.{◌≡◌, ℕ, ◌+◌, ◌-◌, ◌*◌, ◌^◌, ◌<◌, ◌≤◌, List, [], ◌++◌, length, take, Some, true, false, cond, refl, ap, ◌∙◌, arith}
use Rattle.std.specs.Prelude.{nat_le, nat_lt, ◌||◌}
use Rattle.std.proofs.lemmas.List.{length-take}
use Rattle.std.proofs.lemmas.Bool.{le-leb, lt-ltb}
use Rattle.usb_bot.specs.declared.wrapper.Command.{Command}
use Rattle.usb_bot.specs.declared.wrapper.Status.{Status}
use Rattle.usb_bot.specs.Wrappers.{data_length, command_bytes}
use Rattle.usb_bot_disk.specs.declared.stage.Stage.TheVariants.{Listening, Taking, Answering}
use Rattle.usb_bot_disk.specs.Blocks.{overwritten}
use Rattle.usb_bot_disk.specs.Machine.{Machine, end_of, passes_end, listens, begun, taken, taken_at, data_came, data_over, status_for}
use Rattle.usb_bot_disk.proofs.MachineLemmas.{made, packet_at, packet-length, not-le, not-lt, heard-more, heard-last, passed, Takes, takes-more, takes-last}
use Rattle.usb_bot_law.proofs.OutStages.{TakesAll}

-- a command's fields fit its wrapper
pub record IsSmall (c : Command) : Type 0 where
  pub tag : c.tag < 2 ^ 32
  pub block : c.block < 2 ^ 32
  pub count : c.count < 2 ^ 16

-- a disk that has got the first n bytes of a wrapper
pub record Hears (disk : List ℕ) (c : Command) (n : ℕ) (m : Machine) : Type 0 where
  pub disk_is : m.disk ≡ disk
  pub got : m.got ≡ take n (command_bytes c)
  pub stage : m.stage ≡ Listening

pub takes-wrapper : (disk : List ℕ) (c : Command) (maximum : ℕ) → IsSmall c → TakesAll (command_bytes c) maximum (Hears disk c) (made disk [] (begun disk c))
takes-wrapper disk c maximum small = record {
  hears = λ n m at. ap listens at.stage;
  more = λ n m at more. (
    record m { got = take (n + maximum) (command_bytes c) },
    (
      heard-more m (command_bytes c) maximum n refl more at.got at.stage,
      record { disk_is = at.disk_is; got = refl; stage = at.stage },
    ),
  );
  last = λ n m at inside last.
      heard-last m c maximum n small.tag small.block small.count last at.got at.stage
      ∙ ap (λ (d : List ℕ). Some (made d [] (begun d c))) at.disk_is;
}

-- the data of a write in range
pub takes-data : (disk : List ℕ) (c : Command) (bytes : List ℕ) (maximum : ℕ) → length bytes ≡ data_length c → end_of c ≤ length disk
    → TakesAll bytes maximum (Takes disk c bytes) (made (overwritten disk (512 * c.block) bytes) [] (Answering (passed c) 0))
takes-data disk c bytes maximum long within = record {
  hears = λ n m at. ap listens at.stage;
  more = λ n m at more.
      let next = takes-more disk c bytes maximum n m long within at more in (
        data_came m c (data_length c - n) (take (data_length c - n) (packet_at bytes maximum n)),
        next,
      );
  last = λ n m at inside last. takes-last disk c bytes maximum n m long within at last;
}

-- before the first of them
pub takes-first : (disk : List ℕ) (c : Command) (bytes : List ℕ) → Takes disk c bytes 0 (made disk [] (Taking c (data_length c)))
takes-first disk c bytes =
    let all : data_length c ≡ data_length c - 0 = omega arith in
    record { disk_is = refl; got = refl; stage = ap (Taking c) all }

-- the status of a command that asks for blocks that are not there
abbrev pub failed : Command → Status
failed c = record { tag = c.tag; residue = data_length c; outcome = 1 }

pub status_for-failed : (disk : List ℕ) (c : Command) (left : ℕ) → length disk < end_of c → status_for disk c left ≡ failed c
status_for-failed disk c left beyond = rw (lt-ltb (length disk) (end_of c) beyond) refl

-- a disk that drops the data of a write out of range, of which n bytes have come
pub record Drops (disk : List ℕ) (c : Command) (n : ℕ) (m : Machine) : Type 0 where
  pub disk_is : m.disk ≡ disk
  pub got : m.got ≡ []
  pub stage : m.stage ≡ Taking c (data_length c - n)

module _ (disk : List ℕ) (c : Command) (bytes : List ℕ) (maximum : ℕ) (long : length bytes ≡ data_length c) (beyond : length disk < end_of c) (n : ℕ) (m : Machine) (at : Drops disk c n m) where
  abbrev p : List ℕ
  p = packet_at bytes maximum n

  abbrev left : ℕ
  left = data_length c - n

  abbrev next : Machine
  next = data_came m c left (take left p)

  passes : passes_end m.disk c ≡ true
  passes = ap (λ (d : List ℕ). nat_lt (length d) (end_of c)) at.disk_is ∙ lt-ltb (length disk) (end_of c) beyond

  dropped : next.got ≡ []
  dropped = ap (λ v. cond v m.got (m.got ++ take left p)) passes ∙ at.got

  drops-more : n + maximum < length bytes → (x : Machine) × ((taken m p maximum ≡ Some x) × Drops disk c (n + maximum) x)
  drops-more more =
      let full : length p ≡ maximum = omega (arith, packet-length bytes maximum n, more) in
      let shown : length (take left p) ≡ maximum = omega (arith, length-take left p, full, long, more) in
      let on : (nat_le left (length p) || nat_lt (length p) maximum) ≡ false =
      rw (not-le left (length p) (omega (arith, full, long, more)), not-lt (length p) maximum (omega (arith, full))) refl in
      let fewer : left - length (take left p) ≡ data_length c - (n + maximum) = omega (arith, shown) in (
        next,
        (
          ap (λ st. taken_at m st p maximum) at.stage
              ∙ ap (λ v. Some (cond v (data_over next c (left - length (take left p))) next)) on,
          record { disk_is = at.disk_is; got = dropped; stage = ap (Taking c) fewer },
        ),
      )

  drops-last : n < length bytes → length bytes ≤ n + maximum → taken m p maximum ≡ Some (made disk [] (Answering (failed c) 0))
  drops-last inside last =
      let all : length p ≡ left = omega (arith, packet-length bytes maximum n, long, last) in
      let over : (nat_le left (length p) || nat_lt (length p) maximum) ≡ true = rw (le-leb left (length p) (omega (arith, all))) refl in
      ap (λ st. taken_at m st p maximum) at.stage
      ∙ ap (λ v. Some (cond v (data_over next c (left - length (take left p))) next)) over
      ∙ ap (λ v. Some (made (cond v m.disk (overwritten m.disk (512 * c.block) next.got)) [] (Answering (status_for m.disk c (left - length (take left p))) 0))) passes
      ∙ ap (λ (d : List ℕ). Some (made d [] (Answering (status_for d c (left - length (take left p))) 0))) at.disk_is
      ∙ ap (λ (st : Status). Some (made disk [] (Answering st 0))) (status_for-failed disk c (left - length (take left p)) beyond)

pub drops-first : (disk : List ℕ) (c : Command) → Drops disk c 0 (made disk [] (Taking c (data_length c)))
drops-first disk c =
    let all : data_length c ≡ data_length c - 0 = omega arith in
    record { disk_is = refl; got = refl; stage = ap (Taking c) all }

pub drops-data : (disk : List ℕ) (c : Command) (bytes : List ℕ) (maximum : ℕ) → length bytes ≡ data_length c → length disk < end_of c
    → TakesAll bytes maximum (Drops disk c) (made disk [] (Answering (failed c) 0))
drops-data disk c bytes maximum long beyond = record {
  hears = λ n m at. ap listens at.stage;
  more = λ n m at more. drops-more disk c bytes maximum long beyond n m at more;
  last = λ n m at inside last. drops-last disk c bytes maximum long beyond n m at inside last;
}
