-- What the disk has to send falls.
use Rattle.std.proofs.Common.{◌≡◌, ℕ, ◌+◌, ◌-◌, ◌<◌, ◌≤◌, ◌^◌, List, [], ◌++◌, length, take, drop, min, None, true, false, refl, ap, ◌∙◌, arith, inl, inr}
use Rattle.std.specs.Prelude.{nat_le, nat_lt, cond, ◌||◌}
use Rattle.std.specs.Option.{option_map}
use Rattle.std.proofs.Math.Bool.{or-true}
use Rattle.std.proofs.lemmas.Bool.{lt-ltb, cases_lt, le-leb}
use Rattle.std.proofs.lemmas.List.{length-append, length-take, length-drop}
use Rattle.usb_bot.specs.declared.wrapper.Command.{Command}
use Rattle.usb_bot.specs.Wrappers.{data_length, status_bytes}
use Rattle.usb_bot.proofs.WrapperLemmas.{no_command}
use Rattle.usb_bot_disk.specs.declared.stage.Stage.{Stage}
use Rattle.usb_bot_disk.specs.declared.stage.Stage.TheVariants.{Listening, Taking, Sending, Refusing, Answering}
use Rattle.usb_bot_disk.specs.Machine.{Machine, end_of, begun, status_for, listens, taken, taken_at, machine_or, taken_data, data_came, data_over, to_send, sent_at, weight}
use Rattle.usb_bot_disk.specs.MachineFacts.{IsSound}
use Rattle.usb_bot_disk.proofs.MachineLemmas.{listens_over, not-le}

-- a stage never weighs more than an OUT packet
pub weight-light : (disk : List ℕ) (stage : Stage) → IsSound disk stage → weight stage < 2 ^ 26
weight-light disk Listening sound = omega arith
weight-light disk (Taking c left) sound = omega arith
weight-light disk (Sending c left) sound = omega (arith, sound.asked, sound.count)
weight-light disk (Refusing c) sound = omega arith
weight-light disk (Answering s gone) sound = omega arith

-- the next packet, by its length
sending-length : (disk : List ℕ) (c : Command) (left m : ℕ) → left ≤ data_length c → end_of c ≤ length disk → length (take m (take left (drop (end_of c - left) disk))) ≡ min m left
sending-length disk c left m asked within =
    omega (arith, length-take m (take left (drop (end_of c - left) disk)), length-take left (drop (end_of c - left) disk), length-drop (end_of c - left) disk, asked, within)

answering-length : (wrapper : List ℕ) (gone m : ℕ) → length wrapper ≡ 13 → length (take m (drop gone wrapper)) ≡ min m (13 - gone)
answering-length wrapper gone m long = omega (arith, length-take m (drop gone wrapper), length-drop gone wrapper, long)

-- a packet that goes leaves less
pub weight-sent : (disk : List ℕ) (stage : Stage) (m : ℕ) → IsSound disk stage → 0 < m → listens stage ≡ false → weight (sent_at disk stage (length (take m (to_send disk stage)))) < weight stage
weight-sent disk Listening m sound some quiet = absurd (cc)
weight-sent disk (Taking c left) m sound some quiet = absurd (cc)
weight-sent disk (Sending c left) m sound some quiet =
    let n = length (take m (to_send disk (Sending c left))) in
    let len : n ≡ min m left = sending-length disk c left m sound.asked sound.within in
    elim (cases_lt n left) [
      | inl more ↦
          let on : weight (sent_at disk (Sending c left) n) ≡ left - n + 15 = ap (λ v. weight (cond v (Answering (status_for disk c 0) 0) (Sending c (left - n)))) (not-le left n more) in
          omega (arith, on, len, more, some)
      | inr all ↦
          let over : weight (sent_at disk (Sending c left) n) ≡ 14 = ap (λ v. weight (cond v (Answering (status_for disk c 0) 0) (Sending c (left - n)))) (le-leb left n all) in
          omega (arith, over)
    ]
weight-sent disk (Refusing c) m sound some quiet = omega arith
weight-sent disk (Answering s gone) m sound some quiet =
    let n = length (take m (to_send disk (Answering s gone))) in
    let len : n ≡ min m (13 - gone) = answering-length (status_bytes s) gone m refl in
    elim (cases_lt (gone + n) 13) [
      | inl more ↦
          let on : weight (sent_at disk (Answering s gone) n) ≡ 14 - (gone + n) = ap (λ v. weight (cond v Listening (Answering s (gone + n)))) (not-le 13 (gone + n) more) in
          omega (arith, on, len, more, some, sound)
      | inr all ↦
          let over : weight (sent_at disk (Answering s gone) n) ≡ 0 = ap (λ v. weight (cond v Listening (Answering s (gone + n)))) (le-leb 13 (gone + n) all) in
          omega (arith, over, sound)
    ]

-- an empty packet ends the data of a WRITE(10)
weight-over : (k : Machine) (c : Command) (left m : ℕ) (packet : List ℕ) → (nat_le left (length packet) || nat_lt (length packet) m) ≡ true → weight (taken_data k c left packet m).stage ≡ 14
weight-over k c left m packet over =
    ap (λ v. weight (cond v (data_over (data_came k c left (take left packet)) c (left - length (take left packet))) (data_came k c left (take left packet))).stage) over

pub weight-empty : (k : Machine) (c : Command) (left m : ℕ) → 0 < m → weight (machine_or k (taken_at k (Taking c left) [] m)).stage ≡ 14
weight-empty k c left m some = weight-over k c left m [] (ap (λ v. nat_le left 0 || v) (lt-ltb 0 m some) ∙ or-true (nat_le left 0))

-- and makes no wrapper of fewer bytes
pub empty-none : (k : Machine) (m : ℕ) → k.stage ≡ Listening → length k.got < 31 → 0 < m → taken k [] m ≡ None
empty-none k m stage short some =
    listens_over k [] m stage (inr some)
    ∙ ap (option_map (λ (c : Command). record k { got = []; stage = begun k.disk c })) (no_command (k.got ++ []) (λ same. omega (arith, same, short, length-append k.got [])))
