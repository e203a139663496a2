-- What a command of a served client answers is the answer of a plain list of blocks.
use Rattle.std.proofs.Common.{◌≡◌, ℕ, ◌+◌, ◌*◌, ◌≤◌, drop, List, length, IfOk, IfErr, IfSome, OnOk, Option, is_some, Result, Ok, Err, refl, sym, ap, subst, arith}
use Rattle.std.specs.Option.{option_map}
use Rattle.std.proofs.lemmas.Bool.{le-leb, lt-leb}
use Rattle.std.proofs.lemmas.List.{length-take}
use Rattle.usb_desc.specs.declared.error.NoMemory.{NoMemory}
use Rattle.usb_bot.specs.declared.error.BotError.{BotError}
use Rattle.usb_bot.specs.declared.error.BotError.TheVariants as error
use Rattle.usb_bot.specs.Clients.{ClientState}
use Rattle.usb_bot_disk.specs.DiskState.{DiskState}
use Rattle.usb_bot_law.specs.Serving.{Serves}
use Rattle.usb_bot_law.specs.Steps.{ReadLeaves, WriteLeaves}
use Rattle.usb_bot_rounds.specs.Plain.{Writes, Reads, Gave, plain_answer, list_behind}
use Rattle.usb_bot_rounds.specs.Runs.{IsRefusal, Passes, written_answer, read_answer}

-- the disk serves the client with the bytes that it has
pub own-bytes : (b : DiskState) (k : ClientState) (blocks : List ℕ) → Serves b k blocks → Serves b k b.machine.disk
own-bytes b k blocks s = subst (Serves b k) (sym s.disk) s

module _ (blocks : List ℕ) (block : ℕ) (b : DiskState) (k : ClientState) where
  pub write-refused : (bytes : List ℕ) (r : Result (Unit {0}) BotError) → WriteLeaves blocks block bytes r b k → IfErr r IsRefusal
  write-refused bytes (Ok done) left = tt
  write-refused bytes (Err (error.Failed residue)) left = tt
  write-refused bytes (Err error.Memory) left = tt
  write-refused bytes (Err (error.Transfer why)) left = left
  write-refused bytes (Err error.BadStatus) left = left
  write-refused bytes (Err error.Phase) left = left
  write-refused bytes (Err (error.Length got residue)) left = left

  pub write-answer : (bytes : List ℕ) (r : Result (Unit {0}) BotError) (o : Option (Unit {0})) → WriteLeaves blocks block bytes r b k → Passes r (Ok o) → written_answer (is_some o) ≡ plain_answer blocks (Writes block bytes)
  write-answer bytes (Ok done) o left passed = rw (passed, le-leb (512 * block + length bytes) (length blocks) left.0) refl
  write-answer bytes (Err (error.Failed residue)) o left passed = rw (passed, lt-leb (512 * block + length bytes) (length blocks) left.0) refl
  write-answer bytes (Err error.Memory) o left passed = absurd passed
  write-answer bytes (Err (error.Transfer why)) o left passed = absurd left
  write-answer bytes (Err error.BadStatus) o left passed = absurd left
  write-answer bytes (Err error.Phase) o left passed = absurd left
  write-answer bytes (Err (error.Length got residue)) o left passed = absurd left

  pub write-list : (bytes : List ℕ) (r : Result (Unit {0}) BotError) (o : Option (Unit {0})) → WriteLeaves blocks block bytes r b k → Passes r (Ok o) → Serves b k (list_behind blocks (Writes block bytes))
  write-list bytes (Ok done) o left passed = rw (le-leb (512 * block + length bytes) (length blocks) left.0) left.1
  write-list bytes (Err (error.Failed residue)) o left passed = rw (lt-leb (512 * block + length bytes) (length blocks) left.0) left.2
  write-list bytes (Err error.Memory) o left passed = absurd passed
  write-list bytes (Err (error.Transfer why)) o left passed = absurd left
  write-list bytes (Err error.BadStatus) o left passed = absurd left
  write-list bytes (Err error.Phase) o left passed = absurd left
  write-list bytes (Err (error.Length got residue)) o left passed = absurd left

-- an answer whose bytes a value has
abbrev pub bytes_of : {A : Type 0} → (A → List ℕ) → Result A BotError → Result (List ℕ) BotError
bytes_of f (Ok v) = Ok (f v)
bytes_of f (Err e) = Err e

module _ {A : Type 0} (f : A → List ℕ) (blocks : List ℕ) (block count : ℕ) (b : DiskState) (k : ClientState) where
  same-place : 512 * block + 512 * count ≡ 512 * (block + count)
  same-place = omega arith

  pub read-refused : (r : Result A BotError) → ReadLeaves blocks block count (bytes_of f r) b k → IfErr r IsRefusal
  read-refused (Ok v) left = tt
  read-refused (Err (error.Failed residue)) left = tt
  read-refused (Err error.Memory) left = tt
  read-refused (Err (error.Transfer why)) left = left
  read-refused (Err error.BadStatus) left = left
  read-refused (Err error.Phase) left = left
  read-refused (Err (error.Length got residue)) left = left

  pub read-answer : (r : Result A BotError) (o : Option A) → ReadLeaves blocks block count (bytes_of f r) b k → Passes r (Ok o) → read_answer (option_map f o) ≡ plain_answer blocks (Reads block count)
  read-answer (Ok v) o left passed =
      rw (passed, le-leb (512 * block + 512 * count) (length blocks) (rw same-place left.0)) (ap Gave left.1)
  read-answer (Err (error.Failed residue)) o left passed =
      rw (passed, lt-leb (512 * block + 512 * count) (length blocks) (rw same-place left.0)) refl
  read-answer (Err error.Memory) o left passed = absurd passed
  read-answer (Err (error.Transfer why)) o left passed = absurd left
  read-answer (Err error.BadStatus) o left passed = absurd left
  read-answer (Err error.Phase) o left passed = absurd left
  read-answer (Err (error.Length got residue)) o left passed = absurd left

  pub read-list : (r : Result A BotError) (o : Option A) → ReadLeaves blocks block count (bytes_of f r) b k → Passes r (Ok o) → Serves b k blocks
  read-list (Ok v) o left passed = left.2
  read-list (Err (error.Failed residue)) o left passed = left.2
  read-list (Err error.Memory) o left passed = absurd passed
  read-list (Err (error.Transfer why)) o left passed = absurd left
  read-list (Err error.BadStatus) o left passed = absurd left
  read-list (Err error.Phase) o left passed = absurd left
  read-list (Err (error.Length got residue)) o left passed = absurd left

  pub read-answers : (r : Result A BotError) (p : Result (Option A) NoMemory) → ReadLeaves blocks block count (bytes_of f r) b k → Passes r p → IfOk p (λ o. read_answer (option_map f o) ≡ plain_answer blocks (Reads block count))
  read-answers r (Ok o) left passed = read-answer r o left passed
  read-answers r (Err e) left passed = tt

  pub read-lists : (r : Result A BotError) (p : Result (Option A) NoMemory) → ReadLeaves blocks block count (bytes_of f r) b k → Passes r p → OnOk p (Serves b k blocks)
  read-lists r (Ok o) left passed = read-list r o left passed
  read-lists r (Err e) left passed = tt

  read-length : (r : Result A BotError) (o : Option A) → count ≤ 64 → ReadLeaves blocks block count (bytes_of f r) b k → Passes r (Ok o) → IfSome o (λ v. length (f v) ≤ 32768)
  read-length (Ok v) o few left passed =
      subst (λ p. IfSome p (λ v. length (f v) ≤ 32768)) (sym passed) (omega (arith, few, ap length left.1, length-take (512 * count) (drop (512 * block) blocks)))
  read-length (Err (error.Failed residue)) o few left passed = subst (λ p. IfSome p (λ v. length (f v) ≤ 32768)) (sym passed) tt
  read-length (Err error.Memory) o few left passed = absurd passed
  read-length (Err (error.Transfer why)) o few left passed = absurd left
  read-length (Err error.BadStatus) o few left passed = absurd left
  read-length (Err error.Phase) o few left passed = absurd left
  read-length (Err (error.Length got residue)) o few left passed = absurd left

  pub read-short : (r : Result A BotError) (p : Result (Option A) NoMemory) → count ≤ 64 → ReadLeaves blocks block count (bytes_of f r) b k → Passes r p → IfOk p (λ o. IfSome o (λ v. length (f v) ≤ 32768))
  read-short r (Ok o) few left passed = read-length r o few left passed
  read-short r (Err e) few left passed = tt
