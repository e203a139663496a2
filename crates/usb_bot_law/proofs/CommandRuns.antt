-- What a command of a client comes to at a bus with a disk, and what it leaves where memory lacks.
use Rattle.std.proofs.Common.{◌≡◌, ℕ, ◌+◌, ◌^◌, ◌⊎◌, List, [], Option, Some, None, Result, Err, refl, sym, ap, ◌∙◌, arith, subst, inl, inr}
use Rattle.std.proofs.Math.Nat.{mod-lt}
use Rattle.usb_xfer.specs.BufferState.{BufferState}
use Rattle.usb_xfer.specs.declared.transfer.Completion.{Completion}
use Rattle.usb_bot.specs.declared.error.BotError.{BotError}
use Rattle.usb_bot.specs.declared.error.BotError.TheVariants as error
use Rattle.usb_bot.specs.declared.wrapper.Command.{Command}
use Rattle.usb_bot.specs.Wrappers.{command_bytes}
use Rattle.usb_bot.specs.Errors.{breaks}
use Rattle.usb_bot.specs.Clients.{ClientState}
use Rattle.usb_bot.specs.Commands.{Commanding, commanding, Outcome, outcome, and_then, asks, sends, status_length, data_endpoint, judged, data_staged, counted, behind, commanded}
use Rattle.usb_bot.specs.Shortages.{unstaged, without_data, without_status, LacksMemory}
use Rattle.usb_bot.proofs.StageLemmas.{later-came, command-came}
use Rattle.usb_bot_disk.specs.declared.stage.Stage.{Stage}
use Rattle.usb_bot_disk.specs.declared.stage.Stage.TheVariants.{Listening}
use Rattle.usb_bot_disk.specs.Machine.{Machine}
use Rattle.usb_bot_disk.specs.DiskState.{DiskState}
use Rattle.usb_bot_disk.specs.DiskCalls.{disk_calls}
use Rattle.usb_bot_disk.proofs.MachineLemmas.{made}
use Rattle.usb_bot_law.specs.Serving.{Serves, Spoiled}
use Rattle.usb_bot_law.proofs.StageStarts.{Rests, Went}

-- a client whose command did not break it is served again
pub rests-serve : (k : ClientState) (blocks : List ℕ) (b : DiskState) (ended : Option BotError) → ended ≡ None → Rests k (made blocks [] Listening) b → Serves b (counted ended k) blocks
rests-serve k blocks b ended none rests = record {
  ready = rests.ready;
  over = record {
    out_at = rests.over.out_at;
    in_at = rests.over.in_at;
    low = rests.over.low;
    high = rests.over.high;
    whole_blocks = rests.over.whole_blocks;
  };
  disk = ap (λ (m : Machine). m.disk) rests.machine;
  heard = ap (λ (m : Machine). m.got) rests.machine;
  listens = ap (λ (m : Machine). m.stage) rests.machine;
  goes = none;
  tag = mod-lt (k.next_tag + 1) {m = 2 ^ 32} (omega arith);
}

-- and one that lacked memory is spoiled
pub rests-spoil : (k : ClientState) (blocks : List ℕ) (stage : Stage) (b : DiskState) → Rests k (made blocks [] stage) b → Spoiled b (counted (Some error.Memory) k) blocks
rests-spoil k blocks stage b rests = record { disk = ap (λ (m : Machine). m.disk) rests.machine; ended = refl }

-- the wrapper and the data of a command went over
module _ (k : ClientState) (c : Command) (buffer : BufferState) (bytes : List ℕ) (disk after : List ℕ) (begun answers : Stage) (b : DiskState) (goes : k.ended ≡ None)
    (w : Went k k.out (sends (command_bytes c)) (command_bytes c) (made disk [] begun) b)
    (d : Went k (data_endpoint c.operation k) buffer bytes (made after [] answers) w.new) where
  -- with its status it has come to what this says
  pub command-runs : (told : List ℕ) (s : Went k k.inp (asks (status_length k.inp.maximum)) told (made after [] Listening) d.new) (a : Result (List ℕ) BotError) → judged c d.c s.c ≡ a
      → commanded disk_calls c buffer (commanding b k) ≡ outcome a (commanding s.new (counted (breaks a) k))
  command-runs told s a is = command-came disk_calls k c buffer b w.new s.new w.c a goes w.is (later-came disk_calls k c buffer w.new d.new s.new d.c s.c a d.is s.is is)

  -- where memory lacked, the blocks are as before or as after the data
  abbrev Lacked : Commanding DiskState → Type 0
  Lacked left = Spoiled left.bus left.client disk ⊎ Spoiled left.bus left.client after

  no-data : without_data disk_calls c (commanding b k) ≡ outcome (Err error.Memory) (commanding w.new (counted (Some error.Memory) k))
  no-data = ap (λ (o : Outcome Completion DiskState). behind k (and_then o (λ c s. unstaged s))) w.is

  no-status : without_status disk_calls c buffer (commanding b k) ≡ outcome (Err error.Memory) (commanding d.new (counted (Some error.Memory) k))
  no-status =
      ap (λ (o : Outcome Completion DiskState). behind k (and_then o (λ w s. data_staged disk_calls k c buffer (λ d s. unstaged s) s))) w.is
      ∙ ap (λ (o : Outcome Completion DiskState). behind k (and_then o (λ d s. unstaged s))) d.is

  left-same : (o : Outcome (List ℕ) (Commanding DiskState)) (x y : Commanding DiskState) → o ≡ outcome (Err error.Memory) x → o ≡ outcome (Err error.Memory) y → x ≡ y
  left-same o x y one two = ap (λ (p : Outcome (List ℕ) (Commanding DiskState)). p.left) (sym one ∙ two)

  pub command-lacks : (left : Commanding DiskState) → LacksMemory disk_calls c buffer (commanding b k) left → (left ≡ commanding b k) ⊎ Lacked left
  command-lacks left lacks = elim lacks.1 [
    | inl same ↦ inl same
    | inr later ↦ inr (elim later [
      | inl is ↦ inl (subst (λ (x : Commanding DiskState). Spoiled x.bus x.client disk) (left-same (without_data disk_calls c (commanding b k)) (commanding w.new (counted (Some error.Memory) k)) left no-data is) (rests-spoil k disk begun w.new w.rests))
      | inr is ↦ inr (subst (λ (x : Commanding DiskState). Spoiled x.bus x.client after) (left-same (without_status disk_calls c buffer (commanding b k)) (commanding d.new (counted (Some error.Memory) k)) left no-status is) (rests-spoil k after answers d.new d.rests))
    ])
  ]

-- a command comes to an answer that breaks no client, and leaves the disk with these blocks (after);
-- where memory lacked, it has them or those of before
pub record Runs (k : ClientState) (c : Command) (buffer : BufferState) (blocks after : List ℕ) (b : DiskState) (a : Result (List ℕ) BotError) : Type 0 where
  pub n : DiskState
  pub is : commanded disk_calls c buffer (commanding b k) ≡ outcome a (commanding n (counted (breaks a) k))
  pub serves : Serves n (counted (breaks a) k) after
  pub lacks : (left : Commanding DiskState) → LacksMemory disk_calls c buffer (commanding b k) left → (left ≡ commanding b k) ⊎ (Spoiled left.bus left.client blocks ⊎ Spoiled left.bus left.client after)

pub command-is : (k : ClientState) (c : Command) (buffer : BufferState) (bytes : List ℕ) (disk after : List ℕ) (begun answers : Stage) (b : DiskState) → k.ended ≡ None
    → (w : Went k k.out (sends (command_bytes c)) (command_bytes c) (made disk [] begun) b)
    → (d : Went k (data_endpoint c.operation k) buffer bytes (made after [] answers) w.new)
    → (told : List ℕ) (s : Went k k.inp (asks (status_length k.inp.maximum)) told (made after [] Listening) d.new)
    → (a : Result (List ℕ) BotError) → judged c d.c s.c ≡ a → breaks a ≡ None → Runs k c buffer disk after b a
command-is k c buffer bytes disk after begun answers b goes w d told s a is none = record {
  n = s.new;
  is = command-runs k c buffer bytes disk after begun answers b goes w d told s a is;
  serves = rests-serve k after s.new (breaks a) none s.rests;
  lacks = command-lacks k c buffer bytes disk after begun answers b goes w d;
}
