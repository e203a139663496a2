-- How a disk sends the data of a read, the empty packet for blocks that are not there, and a status,
-- whatever the packets are.
use Rattle.std.proofs.Common.{◌≡◌, ℕ, ◌+◌, ◌-◌, ◌*◌, ◌^◌, ◌<◌, ◌≤◌, List, [], length, take, drop, refl, sym, ap, ◌∙◌, arith, subst}
use Rattle.std.proofs.lemmas.List.{length-take, length-drop}
use Rattle.usb_bot.specs.declared.wrapper.Command.{Command}
use Rattle.usb_bot.specs.declared.wrapper.Status.{Status}
use Rattle.usb_bot.specs.Wrappers.{data_length, status_bytes}
use Rattle.usb_bot_disk.specs.declared.stage.Stage.{Stage}
use Rattle.usb_bot_disk.specs.declared.stage.Stage.TheVariants.{Listening, Sending, Refusing, Answering}
use Rattle.usb_bot_disk.specs.Blocks.{blocks_at}
use Rattle.usb_bot_disk.specs.Machine.{Machine, end_of, listens, to_send, sent, sent_at, status_for}
use Rattle.usb_bot_disk.specs.MachineFacts.{IsSound}
use Rattle.usb_bot_disk.proofs.MachineLemmas.{made, packet_at, packet-length, passed, Sends, sends-packet, sends-more, sends-last, answers-more, answers-last}
use Rattle.usb_bot_law.proofs.InStages.{SendsAll}
use Rattle.usb_bot_law.proofs.TakenBytes.{failed, status_for-failed}

-- a machine by its parts
pub is-made : (m : Machine) (disk got : List ℕ) (stage : Stage) → m.disk ≡ disk → m.got ≡ got → m.stage ≡ stage → m ≡ made disk got stage
is-made m disk got stage disk_is got_is stage_is =
    ap (λ (d : List ℕ). made d m.got m.stage) disk_is ∙ ap (λ (g : List ℕ). made disk g m.stage) got_is ∙ ap (λ (st : Stage). made disk got st) stage_is

-- the blocks of a read in range
pub blocks-long : (disk : List ℕ) (c : Command) → end_of c ≤ length disk → length (blocks_at disk c.block c.count) ≡ data_length c
blocks-long disk c within = omega (arith, length-take (data_length c) (drop (512 * c.block) disk), length-drop (512 * c.block) disk, within)

pub sends-blocks : (disk : List ℕ) (c : Command) (maximum : ℕ) → c.count < 2 ^ 16 → end_of c ≤ length disk
    → SendsAll (blocks_at disk c.block c.count) maximum (Sends disk c) (made disk [] (Answering (passed c) 0))
sends-blocks disk c maximum few within =
    let long = blocks-long disk c within in
    record {
      quiet = λ n m at. ap listens at.stage;
      sound = λ n m at.
          let same : length m.disk ≡ length disk = ap (λ (d : List ℕ). length d) at.disk_is in
          subst (λ (st : Stage). IsSound m.disk st) (sym at.stage) (record { asked = omega arith; within = omega (arith, within, same); count = few });
      packet = λ n m at inside. sends-packet disk c maximum n m within (omega (arith, inside, long)) at;
      more = λ n m at more. sends-more disk c maximum n m within (omega (arith, more, long)) at (omega (arith, more, long));
      last = λ n m at inside last.
          let p = packet_at (blocks_at disk c.block c.count) maximum n in
          let all : data_length c ≤ n + length p = omega (arith, packet-length (blocks_at disk c.block c.count) maximum n, inside, last, long) in
          is-made (sent m (length p)) disk [] (Answering (passed c) 0) at.disk_is at.got
          (sends-last disk c maximum n m within (omega (arith, inside, long)) at (length p) all);
    }

pub sends-first : (disk : List ℕ) (c : Command) → Sends disk c 0 (made disk [] (Sending c (data_length c)))
sends-first disk c =
    let all : data_length c ≡ data_length c - 0 = omega arith in
    record { disk_is = refl; got = refl; stage = ap (Sending c) all }

-- the empty packet of a read out of range
pub record Refuses (disk : List ℕ) (c : Command) (n : ℕ) (m : Machine) : Type 0 where
  pub disk_is : m.disk ≡ disk
  pub got : m.got ≡ []
  pub stage : m.stage ≡ Refusing c

pub refuses-first : (disk : List ℕ) (c : Command) → Refuses disk c 0 (made disk [] (Refusing c))
refuses-first disk c = record { disk_is = refl; got = refl; stage = refl }

pub sends-none : (disk : List ℕ) (c : Command) (maximum : ℕ) → length disk < end_of c → SendsAll [] maximum (Refuses disk c) (made disk [] (Answering (failed c) 0))
sends-none disk c maximum beyond = record {
  quiet = λ n m at. ap listens at.stage;
  sound = λ n m at. subst (λ (st : Stage). IsSound m.disk st) (sym at.stage) tt;
  packet = λ n m at inside.
      let none : n ≡ 0 = omega (arith, inside) in
      ap (λ st. take maximum (to_send m.disk st)) at.stage ∙ ap (λ (x : ℕ). take maximum (drop x [])) (sym none);
  more = λ n m at more. absurd (omega (arith, more));
  last = λ n m at inside last.
      let x = length (packet_at [] maximum n) in
      is-made (sent m x) disk [] (Answering (failed c) 0) at.disk_is at.got
      (ap (λ st. sent_at m.disk st x) at.stage
      ∙ ap (λ (d : List ℕ). Answering (status_for d c (data_length c)) 0) at.disk_is
      ∙ ap (λ (st : Status). Answering st 0) (status_for-failed disk c (data_length c) beyond));
}

-- a status, of which n bytes have gone
pub record Answers (disk : List ℕ) (s : Status) (n : ℕ) (m : Machine) : Type 0 where
  pub disk_is : m.disk ≡ disk
  pub got : m.got ≡ []
  pub stage : m.stage ≡ Answering s n
  pub inside : n ≤ 13

pub answers-first : (disk : List ℕ) (s : Status) → Answers disk s 0 (made disk [] (Answering s 0))
answers-first disk s = record { disk_is = refl; got = refl; stage = refl; inside = omega arith }

pub sends-status : (disk : List ℕ) (s : Status) (maximum : ℕ) → SendsAll (status_bytes s) maximum (Answers disk s) (made disk [] Listening)
sends-status disk s maximum = record {
  quiet = λ n m at. ap listens at.stage;
  sound = λ n m at. subst (λ (st : Stage). IsSound m.disk st) (sym at.stage) at.inside;
  packet = λ n m at inside. ap (λ st. take maximum (to_send m.disk st)) at.stage;
  more = λ n m at more. record {
    disk_is = at.disk_is;
    got = at.got;
    stage = ap (λ st. sent_at m.disk st maximum) at.stage ∙ answers-more m.disk s n maximum more;
    inside = omega (arith, more);
  };
  last = λ n m at inside last.
      let p = packet_at (status_bytes s) maximum n in
      let all : 13 ≤ n + length p = omega (arith, packet-length (status_bytes s) maximum n, inside, last) in
      is-made (sent m (length p)) disk [] Listening at.disk_is at.got
      (ap (λ st. sent_at m.disk st (length p)) at.stage ∙ answers-last m.disk s n (length p) all);
}
