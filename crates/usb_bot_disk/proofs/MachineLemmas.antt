-- How the disk goes on in a command, packet by packet.
use Rattle.std.proofs.Common.{◌≡◌, ℕ, ◌+◌, ◌-◌, ◌*◌, ◌^◌, ◌<◌, ◌≤◌, List, [], ◌++◌, length, take, drop, min, Some, None, Option, Bool, ◌⊎◌, inl, inr, true, false, refl, sym, ap, ◌∙◌, arith}
use Rattle.std.specs.Prelude.{nat_le, nat_lt, cond, ◌||◌}
use Rattle.std.specs.Option.{option_map}
use Rattle.std.proofs.Math.Seq.{take-add}
use Rattle.std.proofs.Math.Bool.{or-true}
use Rattle.std.proofs.lemmas.List.{length-append, length-take, length-drop, take_all, drop-drop, drop-take}
use Rattle.std.proofs.lemmas.Bool.{le-leb, lt-ltb, false≢true}
use Rattle.std.proofs.lemmas.Bool.Decides.{nat_tests}
use Rattle.usb_bot.specs.declared.wrapper.Command.{Command}
use Rattle.usb_bot.specs.declared.wrapper.Status.{Status}
use Rattle.usb_bot_disk.specs.declared.stage.Stage.{Stage}
use Rattle.usb_bot_disk.specs.declared.stage.Stage.TheVariants.{Listening, Taking, Sending, Refusing, Answering}
use Rattle.usb_bot.specs.Wrappers.{data_length, command_bytes, command_in}
use Rattle.usb_bot_disk.specs.Blocks.{overwritten, blocks_at}
use Rattle.usb_bot_disk.specs.Machine.{Machine, end_of, passes_end, listens, begun, taken, taken_at, machine_or, data_came, data_over, stored, heard, to_send, next_packet, sent, sent_at, status_for}
use Rattle.usb_bot.proofs.WrapperLemmas.{command_read, no_command}

pub not-le : (a b : ℕ) → b < a → nat_le a b ≡ false
not-le a b below = grind (arith, nat_tests)

pub not-lt : (a b : ℕ) → b ≤ a → nat_lt a b ≡ false
not-lt a b below = grind (arith, nat_tests)

-- a machine by its parts
abbrev pub made : List ℕ → List ℕ → Stage → Machine
made disk got stage = record { disk = disk; got = got; stage = stage }

-- the next packet of bytes of which n are over: as many as the maximum, or those that are left
abbrev pub packet_at : List ℕ → ℕ → ℕ → List ℕ
packet_at bytes maximum n = take maximum (drop n bytes)

pub packet-length : (bytes : List ℕ) (maximum n : ℕ) → length (packet_at bytes maximum n) ≡ min maximum (length bytes - n)
packet-length bytes maximum n = length-take maximum (drop n bytes) ∙ ap (min maximum) (length-drop n bytes)

-- a wrapper whose next packet is not the last
heard-on : (k : Machine) (joined packet : List ℕ) (maximum : ℕ) → length joined < 31 → maximum ≤ length packet → heard k joined packet maximum ≡ Some (record k { got = joined })
heard-on k joined packet maximum short full = rw (not-le 31 (length joined) short, not-lt (length packet) maximum full) refl

pub heard-more : (k : Machine) (bytes : List ℕ) (maximum n : ℕ) → length bytes ≡ 31 → n + maximum < 31 → k.got ≡ take n bytes → k.stage ≡ Listening →
    taken k (packet_at bytes maximum n) maximum ≡ Some (record k { got = take (n + maximum) bytes })
heard-more k bytes maximum n long more got stage =
    let packet = packet_at bytes maximum n in
    let full : length packet ≡ maximum = omega (arith, packet-length bytes maximum n) in
    let joined : k.got ++ packet ≡ take (n + maximum) bytes = rw got (sym (take-add n maximum bytes)) in
    let short : length (take (n + maximum) bytes) < 31 = omega (arith, length-take (n + maximum) bytes) in
    ap (λ st. taken_at k st packet maximum) stage
    ∙ ap (λ j. heard k j packet maximum) joined
    ∙ heard-on k (take (n + maximum) bytes) packet maximum short (omega (arith, full))

-- and one whose next packet is
heard-end : (k : Machine) (joined packet : List ℕ) (maximum : ℕ) (c : Command) → length joined ≡ 31 → command_in joined ≡ Some c → heard k joined packet maximum ≡ Some (record k { got = []; stage = begun k.disk c })
heard-end k joined packet maximum c long is = rw (le-leb 31 (length joined) (omega (arith, long)), is) refl

-- what a disk that listens makes of a packet: it goes on, or the bytes are over
pub listens_on : (k : Machine) (packet : List ℕ) (maximum : ℕ) → k.stage ≡ Listening → length k.got + length packet < 31 → maximum ≤ length packet → taken k packet maximum ≡ Some (record k { got = k.got ++ packet })
listens_on k packet maximum stage short full =
    ap (λ st. taken_at k st packet maximum) stage
    ∙ heard-on k (k.got ++ packet) packet maximum (omega (arith, short, length-append k.got packet)) full

pub listens_over : (k : Machine) (packet : List ℕ) (maximum : ℕ) → k.stage ≡ Listening → (31 ≤ length k.got + length packet) ⊎ (length packet < maximum) →
    taken k packet maximum ≡ option_map (λ (c : Command). record k { got = []; stage = begun k.disk c }) (command_in (k.got ++ packet))
listens_over k packet maximum stage over =
    let long = length-append k.got packet in
    let test : (nat_le 31 (length (k.got ++ packet)) || nat_lt (length packet) maximum) ≡ true = elim over [
      | inl many ↦ ap (λ v. v || nat_lt (length packet) maximum) (le-leb 31 (length (k.got ++ packet)) (omega (arith, long, many)))
      | inr few ↦ ap (λ v. nat_le 31 (length (k.got ++ packet)) || v) (lt-ltb (length packet) maximum few) ∙ or-true (nat_le 31 (length (k.got ++ packet)))
    ] in
    ap (λ st. taken_at k st packet maximum) stage
    ∙ ap (λ v. cond v (option_map (λ (c : Command). record k { got = []; stage = begun k.disk c }) (command_in (k.got ++ packet))) (Some (record k { got = k.got ++ packet }))) test

pub listens_long : (k : Machine) (packet : List ℕ) (maximum : ℕ) → k.stage ≡ Listening → 31 < length k.got + length packet → taken k packet maximum ≡ None
listens_long k packet maximum stage long =
    listens_over k packet maximum stage (inl (omega (arith, long)))
    ∙ ap (option_map (λ (c : Command). record k { got = []; stage = begun k.disk c })) (no_command (k.got ++ packet) (λ same. omega (arith, same, long, length-append k.got packet)))

pub heard-last : (k : Machine) (c : Command) (maximum n : ℕ) → c.tag < 2 ^ 32 → c.block < 2 ^ 32 → c.count < 2 ^ 16 → 31 ≤ n + maximum → k.got ≡ take n (command_bytes c) → k.stage ≡ Listening →
    taken k (packet_at (command_bytes c) maximum n) maximum ≡ Some (record k { got = []; stage = begun k.disk c })
heard-last k c maximum n tag block count last got stage =
    let bytes = command_bytes c in
    let joined : k.got ++ packet_at bytes maximum n ≡ bytes = rw got (sym (take-add n maximum bytes)) ∙ take_all (n + maximum) bytes last in
    rw stage (rw joined (heard-end k bytes (packet_at bytes maximum n) maximum c refl (command_read c tag block count)))

-- a disk that still waits for a packet behind one has the blocks that it had
heard-kept : (k : Machine) (o : Option Command) → (machine_or k (option_map (λ (c : Command). record k { got = []; stage = begun k.disk c }) o)).disk ≡ k.disk
heard-kept k None = refl
heard-kept k (Some c) = refl

heard-kept_if : (k : Machine) (over : Bool) (joined : List ℕ) → (machine_or k (cond over (option_map (λ (c : Command). record k { got = []; stage = begun k.disk c }) (command_in joined)) (Some (record k { got = joined })))).disk ≡ k.disk
heard-kept_if k true joined = heard-kept k (command_in joined)
heard-kept_if k false joined = refl

data-kept : (k : Machine) (over : Bool) (c : Command) (left : ℕ) (next : Machine) → next.disk ≡ k.disk → listens (cond over (data_over next c left) next).stage ≡ true → (cond over (data_over next c left) next).disk ≡ k.disk
data-kept k true c left next same hears = absurd (false≢true hears)
data-kept k false c left next same hears = same

kept-at : (k : Machine) (stage : Stage) (packet : List ℕ) (maximum : ℕ) → listens (machine_or k (taken_at k stage packet maximum)).stage ≡ true → (machine_or k (taken_at k stage packet maximum)).disk ≡ k.disk
kept-at k Listening packet maximum hears =
    heard-kept_if k (nat_le 31 (length (k.got ++ packet)) || nat_lt (length packet) maximum) (k.got ++ packet)
kept-at k (Taking c left) packet maximum hears =
    data-kept k (nat_le left (length packet) || nat_lt (length packet) maximum) c (left - length (take left packet)) (data_came k c left (take left packet)) refl hears
kept-at k (Sending c left) packet maximum hears = refl
kept-at k (Refusing c) packet maximum hears = refl
kept-at k (Answering s gone) packet maximum hears = refl

pub kept_listening : (k next : Machine) (packet : List ℕ) (maximum : ℕ) → next ≡ machine_or k (taken k packet maximum) → listens next.stage ≡ true → next.disk ≡ k.disk
kept_listening k next packet maximum is hears =
    ap (λ (x : Machine). x.disk) is ∙ kept-at k k.stage packet maximum (ap (λ (x : Machine). listens x.stage) (sym is) ∙ hears)

-- the status of a command that passed
abbrev pub passed : Command → Status
passed c = record { tag = c.tag; residue = 0; outcome = 0 }

status_for-passed : (disk : List ℕ) (c : Command) → end_of c ≤ length disk → status_for disk c 0 ≡ passed c
status_for-passed disk c within = rw (not-lt (length disk) (end_of c) within) refl

-- a disk that has gathered the first n bytes of the data of a WRITE(10), and stored none
pub record Takes (disk : List ℕ) (c : Command) (bytes : List ℕ) (n : ℕ) (k : Machine) : Type 0 where
  pub disk_is : k.disk ≡ disk
  pub got : k.got ≡ take n bytes
  pub stage : k.stage ≡ Taking c (data_length c - n)

module _ (disk : List ℕ) (c : Command) (bytes : List ℕ) (maximum n : ℕ) (k : Machine) (long : length bytes ≡ data_length c) (within : end_of c ≤ length disk) (takes : Takes disk c bytes n k) where
  abbrev p : List ℕ
  p = packet_at bytes maximum n

  abbrev left : ℕ
  left = data_length c - n

  abbrev next : Machine
  next = data_came k c left (take left p)

  there : passes_end k.disk c ≡ false
  there = ap (λ d. passes_end d c) takes.disk_is ∙ not-lt (length disk) (end_of c) within

  gathers : next.got ≡ take (n + maximum) bytes
  gathers =
      let whole : take left p ≡ p = take_all left p (omega (arith, packet-length bytes maximum n, long)) in
      ap (λ v. cond v k.got (k.got ++ take left p)) there
      ∙ ap (λ x. k.got ++ x) whole
      ∙ ap (λ g. g ++ p) takes.got
      ∙ sym (take-add n maximum bytes)

  stores : length bytes ≤ n + maximum → stored next c ≡ overwritten disk (512 * c.block) bytes
  stores last =
      ap (λ v. cond v k.disk (overwritten k.disk (512 * c.block) next.got)) there
      ∙ ap (overwritten k.disk (512 * c.block)) (gathers ∙ take_all (n + maximum) bytes last)
      ∙ ap (λ d. overwritten d (512 * c.block) bytes) takes.disk_is

  -- a packet of the data that is not the last
  pub takes-more : n + maximum < length bytes → (taken k p maximum ≡ Some next) × Takes disk c bytes (n + maximum) next
  takes-more more =
      let full : length p ≡ maximum = omega (arith, packet-length bytes maximum n, more) in
      let shown : length (take left p) ≡ maximum = omega (arith, length-take left p, full, long, more) in
      let on : (nat_le left (length p) || nat_lt (length p) maximum) ≡ false =
      rw (not-le left (length p) (omega (arith, full, long, more)), not-lt (length p) maximum (omega (arith, full))) refl in
      let fewer : left - length (take left p) ≡ data_length c - (n + maximum) = omega (arith, shown) in (
        ap (λ st. taken_at k st p maximum) takes.stage
            ∙ ap (λ v. Some (cond v (data_over next c (left - length (take left p))) next)) on,
        record { disk_is = takes.disk_is; got = gathers; stage = ap (Taking c) fewer },
      )

  -- and the last: what came is stored
  pub takes-last : length bytes ≤ n + maximum →
      taken k p maximum ≡ Some (record { disk = overwritten disk (512 * c.block) bytes; got = []; stage = Answering (passed c) 0 })
  takes-last last =
      let all : length p ≡ left = omega (arith, packet-length bytes maximum n, long, last) in
      let none : left - length (take left p) ≡ 0 = omega (arith, length-take left p, all) in
      let over : (nat_le left (length p) || nat_lt (length p) maximum) ≡ true = rw (le-leb left (length p) (omega (arith, all))) refl in
      ap (λ st. taken_at k st p maximum) takes.stage
      ∙ ap (λ v. Some (cond v (data_over next c (left - length (take left p))) next)) over
      ∙ ap (λ m. Some (data_over next c m)) none
      ∙ ap (λ d. Some (made d [] (Answering (status_for k.disk c 0) 0))) (stores last)
      ∙ ap (λ d. Some (made (overwritten disk (512 * c.block) bytes) [] (Answering (status_for d c 0) 0))) takes.disk_is
      ∙ ap (λ st. Some (made (overwritten disk (512 * c.block) bytes) [] (Answering st 0))) (status_for-passed disk c within)

-- a disk that has sent the first n bytes of the data of a READ(10)
pub record Sends (disk : List ℕ) (c : Command) (n : ℕ) (k : Machine) : Type 0 where
  pub disk_is : k.disk ≡ disk
  pub got : k.got ≡ []
  pub stage : k.stage ≡ Sending c (data_length c - n)

blocks-length : (disk : List ℕ) (c : Command) → end_of c ≤ length disk → length (blocks_at disk c.block c.count) ≡ data_length c
blocks-length disk c within = omega (arith, length-take (data_length c) (drop (512 * c.block) disk), length-drop (512 * c.block) disk, within)

module _ (disk : List ℕ) (c : Command) (maximum n : ℕ) (k : Machine) (within : end_of c ≤ length disk) (inside : n ≤ data_length c) (sends : Sends disk c n k) where
  -- the next packet is the next of the blocks
  pub sends-packet : next_packet k maximum ≡ packet_at (blocks_at disk c.block c.count) maximum n
  sends-packet =
      let place : end_of c - (data_length c - n) ≡ 512 * c.block + n = omega (arith, inside) in
      let sum : n + (data_length c - n) ≡ data_length c = omega (arith, inside) in
      ap (λ st. take maximum (to_send k.disk st)) sends.stage
      ∙ ap (λ d. take maximum (take (data_length c - n) (drop (end_of c - (data_length c - n)) d))) sends.disk_is
      ∙ ap (λ x. take maximum (take (data_length c - n) (drop x disk))) place
      ∙ ap (λ xs. take maximum (take (data_length c - n) xs)) (sym (drop-drop n (512 * c.block) disk))
      ∙ ap (take maximum) (sym (drop-take n (data_length c - n) (drop (512 * c.block) disk)))
      ∙ ap (λ x. take maximum (drop n (take x (drop (512 * c.block) disk)))) sum

  pub sends-more : n + maximum < data_length c → Sends disk c (n + maximum) (sent k maximum)
  sends-more more =
      let on : nat_le (data_length c - n) maximum ≡ false = not-le (data_length c - n) maximum (omega (arith, more)) in
      let fewer : data_length c - n - maximum ≡ data_length c - (n + maximum) = omega arith in
      record {
        disk_is = sends.disk_is;
        got = sends.got;
        stage =
            ap (λ st. sent_at k.disk st maximum) sends.stage
            ∙ ap (λ v. cond v (Answering (status_for k.disk c 0) 0) (Sending c (data_length c - n - maximum))) on
            ∙ ap (Sending c) fewer;
      }

  pub sends-last : (m : ℕ) → data_length c ≤ n + m → (sent k m).stage ≡ Answering (passed c) 0
  sends-last m last =
      let over : nat_le (data_length c - n) m ≡ true = le-leb (data_length c - n) m (omega (arith, last)) in
      ap (λ st. sent_at k.disk st m) sends.stage
      ∙ ap (λ v. cond v (Answering (status_for k.disk c 0) 0) (Sending c (data_length c - n - m))) over
      ∙ ap (λ d. Answering (status_for d c 0) 0) sends.disk_is
      ∙ ap (λ st. Answering st 0) (status_for-passed disk c within)

-- a disk that has sent the first n bytes of a status
pub answers-more : (disk : List ℕ) (s : Status) (gone m : ℕ) → gone + m < 13 → sent_at disk (Answering s gone) m ≡ Answering s (gone + m)
answers-more disk s gone m more = rw (not-le 13 (gone + m) more) refl

pub answers-last : (disk : List ℕ) (s : Status) (gone m : ℕ) → 13 ≤ gone + m → sent_at disk (Answering s gone) m ≡ Listening
answers-last disk s gone m last = rw (le-leb 13 (gone + m) last) refl
