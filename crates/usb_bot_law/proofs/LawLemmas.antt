-- The laws of disks and their clients.
use Rattle.std.proofs.Common.{◌≡◌, ℕ, ◌+◌, ◌*◌, ◌/◌, ◌≤◌, List, [], ◌∷◌, length, Option, None, Result, Ok, Err, refl, sym, ap, ◌∙◌, arith, subst, inl, inr}
use Rattle.std.proofs.lemmas.Option.{none-some}
use Rattle.usb_xfer.specs.BufferState.{BufferState}
use Rattle.usb_bot.specs.declared.error.BotError.{BotError}
use Rattle.usb_bot.specs.declared.error.BotError.TheVariants as error
use Rattle.usb_bot.specs.declared.wrapper.Command.{Command}
use Rattle.usb_bot.specs.declared.wrapper.Operation.TheVariants.{Read, Write}
use Rattle.usb_bot.specs.Clients.{ClientState}
use Rattle.usb_bot.specs.Commands.{Commanding, commanding, outcome, asks, sends, next_command, written, commanded, unless_broken, all_staged}
use Rattle.usb_bot_disk.specs.Blocks.{overwritten}
use Rattle.usb_bot_disk.specs.DiskState.{DiskState}
use Rattle.usb_bot_disk.specs.DiskCalls.{disk_calls}
use Rattle.usb_bot_law.specs.Serving.{Serves, Spoiled}
use Rattle.usb_bot_law.specs.Steps.{HasRead, HasWritten, ReadLeaves, WriteLeaves}
use Rattle.usb_bot_law.specs.Lists.{Answered, WasRead, WasWritten, CanBe, HasGone, HaveGone, list_after, list_after_all, IsOfList, AreOfList, HoldsList}
use Rattle.usb_bot_law.specs.DiskLaws.{NewDiskServes, ReadsAnswerBlocks, WritesChangeBlocks, BrokenClientsReadNothing, BrokenClientsWriteNothing, zeros, new_disk, DiskIsList}
use Rattle.usb_bot_law.proofs.CallLemmas.{same-left, same-answer, not-both, read-leaves, write-leaves}

pub new_serves : NewDiskServes
new_serves h blocks d out inp e f ready over =
    record { ready = ready; over = over; disk = refl; heard = refl; listens = refl; goes = refl; tag = omega arith }

pub reads_answer : ReadsAnswerBlocks
reads_answer b b' k k' blocks block count answer serves can has = read-leaves b k blocks serves block count can answer (commanding b' k') has

pub writes_change : WritesChangeBlocks
writes_change b b' k k' blocks block bytes answer serves can has = write-leaves b k blocks serves block bytes can answer (commanding b' k') has

-- a broken client
broken-is : (b : DiskState) (k : ClientState) (blocks : List ℕ) (c : Command) (buffer : BufferState) → Spoiled b k blocks → commanded disk_calls c buffer (commanding b k) ≡ outcome (Err error.Memory) (commanding b k)
broken-is b k blocks c buffer spoiled = ap (λ (e : Option BotError). unless_broken e (commanding b k) (all_staged disk_calls c buffer (commanding b k))) spoiled.ended

not-broken : (b : DiskState) (k : ClientState) (blocks : List ℕ) → Spoiled b k blocks → k.ended ≡ None → ⊥
not-broken b k blocks spoiled goes = none-some error.Memory (sym goes ∙ spoiled.ended)

pub broken_reads : BrokenClientsReadNothing
broken_reads b k blocks block count (Ok bytes) left spoiled has =
    let is = sym (broken-is b k blocks (next_command Read block count k) (asks (512 * count)) spoiled) ∙ has in
    absurd (not-both bytes error.Memory (Ok bytes) (Err error.Memory) refl refl (sym (same-answer (Err error.Memory) (Ok bytes) (commanding b k) left is)))
broken_reads b k blocks block count (Err e) left spoiled has =
    elim has [
      | inl came ↦
          let is = sym (broken-is b k blocks (next_command Read block count k) (asks (512 * count)) spoiled) ∙ came in (
            sym (same-answer (Err error.Memory) (Err e) (commanding b k) left is),
            sym (same-left (Err error.Memory) (Err e) (commanding b k) left is),
          )
      | inr lacks ↦ absurd (not-broken b k blocks spoiled lacks.1.0)
    ]

pub broken_writes : BrokenClientsWriteNothing
broken_writes b k blocks block bytes (Ok done) left spoiled has =
    let is = sym (ap written (broken-is b k blocks (next_command Write block (length bytes / 512) k) (sends bytes) spoiled)) ∙ has in
    absurd (not-both done error.Memory (Ok done) (Err error.Memory) refl refl (sym (same-answer (Err error.Memory) (Ok done) (commanding b k) left is)))
broken_writes b k blocks block bytes (Err e) left spoiled has =
    elim has [
      | inl came ↦
          let is = sym (ap written (broken-is b k blocks (next_command Write block (length bytes / 512) k) (sends bytes) spoiled)) ∙ came in (
            sym (same-answer (Err error.Memory) (Err e) (commanding b k) left is),
            sym (same-left (Err error.Memory) (Err e) (commanding b k) left is),
          )
      | inr lacks ↦ absurd (not-broken b k blocks spoiled lacks.1.0)
    ]

-- calls of a broken client: all lack memory, and nothing changes
record StaysBroken (calls : List Answered) (list : List ℕ) (old new : Commanding DiskState) : Type 0 where
  answers : AreOfList list calls
  same : list_after_all list calls ≡ list
  left : new ≡ old

stays-broken : (calls : List Answered) (list blocks : List ℕ) (old new : Commanding DiskState) → Spoiled old.bus old.client blocks → HaveGone calls old new → StaysBroken calls list old new
stays-broken [] list blocks old new spoiled gone = record { answers = tt; same = refl; left = gone }
stays-broken (WasRead block count answer ∷ calls) list blocks old new spoiled gone =
    let mid = gone.1 in
    let none = broken_reads old.bus old.client blocks block count answer mid spoiled gone.2 in
    let rest = stays-broken calls list blocks mid new (subst (λ (x : Commanding DiskState). Spoiled x.bus x.client blocks) (sym none.1) spoiled) gone.3 in
    subst (λ (a : Result (List ℕ) BotError). StaysBroken (WasRead block count a ∷ calls) list old new) (sym none.0)
    (record { answers = (tt, rest.answers); same = rest.same; left = rest.left ∙ none.1 })
stays-broken (WasWritten block bytes answer ∷ calls) list blocks old new spoiled gone =
    let mid = gone.1 in
    let none = broken_writes old.bus old.client blocks block bytes answer mid spoiled gone.2 in
    let rest = stays-broken calls list blocks mid new (subst (λ (x : Commanding DiskState). Spoiled x.bus x.client blocks) (sym none.1) spoiled) gone.3 in
    subst (λ (a : Result (Unit {0}) BotError). StaysBroken (WasWritten block bytes a ∷ calls) list old new) (sym none.0)
    (record { answers = (tt, rest.answers); same = rest.same; left = rest.left ∙ none.1 })

-- one call more
behind-call : (call : Answered) (calls : List Answered) (list : List ℕ) (first mid left : Commanding DiskState) → CanBe call → HasGone call first mid → HoldsList calls mid list left → HoldsList (call ∷ calls) first list left
behind-call call calls list first mid left can has holds =
    elim holds [
      | inl serves ↦ inl serves
      | inr later ↦ inr (elim later [
        | inl spoiled ↦ inl spoiled
        | inr by ↦
            inr (record {
              before = call ∷ by.before;
              block = by.block;
              bytes = by.bytes;
              behind = by.behind;
              are = ap (λ (xs : List Answered). call ∷ xs) by.are;
              at = by.at;
              gone = (can, mid, has, by.gone);
              serves = by.serves;
              write = by.write;
              within = by.within;
              spoiled = by.spoiled;
            })
      ])
    ]

-- what calls answer and leave
record Follows (calls : List Answered) (list : List ℕ) (old new : Commanding DiskState) : Type 0 where
  answers : AreOfList list calls
  holds : HoldsList calls old (list_after_all list calls) new

-- a client that is broken, while the disk has these blocks
spoiled-follows : (calls : List Answered) (list : List ℕ) (old new : Commanding DiskState) → Spoiled old.bus old.client list → HaveGone calls old new → Follows calls list old new
spoiled-follows calls list old new spoiled gone =
    let stays = stays-broken calls list list old new spoiled gone in
    record {
      answers = stays.answers;
      holds = subst (λ (xs : List ℕ). HoldsList calls old xs new) (sym stays.same) (inr (inl (subst (λ (x : Commanding DiskState). Spoiled x.bus x.client list) (sym stays.left) spoiled)));
    }

serves-follows : (calls : List Answered) (list : List ℕ) (old new : Commanding DiskState) → Serves old.bus old.client list → HaveGone calls old new → Follows calls list old new
serves-follows [] list old new serves gone =
    record { answers = tt; holds = inl (subst (λ (x : Commanding DiskState). Serves x.bus x.client list) (sym gone) serves) }
serves-follows (WasRead block count answer ∷ calls) list old new serves gone =
    read-follows answer gone.2 (read-leaves old.bus old.client list serves block count gone.0 answer gone.1 gone.2) (λ again. serves-follows calls list gone.1 new again gone.3)
  where
    mid : Commanding DiskState
    mid = gone.1

    on : (a : Result (List ℕ) BotError) → HasRead block count old a mid → IsOfList list (WasRead block count a) → Follows calls list mid new → Follows (WasRead block count a ∷ calls) list old new
    on a has answer rest = record { answers = (answer, rest.answers); holds = behind-call (WasRead block count a) calls (list_after_all list calls) old mid new gone.0 has rest.holds }

    read-follows : (a : Result (List ℕ) BotError) → HasRead block count old a mid → ReadLeaves list block count a mid.bus mid.client → (Serves mid.bus mid.client list → Follows calls list mid new) → Follows (WasRead block count a ∷ calls) list old new
    read-follows (Ok bytes) has leaves rest = on (Ok bytes) has (leaves.0, leaves.1) (rest leaves.2)
    read-follows (Err (error.Failed residue)) has leaves rest = on (Err (error.Failed residue)) has (leaves.0, leaves.1) (rest leaves.2)
    read-follows (Err error.Memory) has leaves rest =
        on (Err error.Memory) has tt (elim leaves [
          | inl again ↦ rest again
          | inr spoiled ↦ spoiled-follows calls list mid new spoiled gone.3
        ])
    read-follows (Err (error.Transfer why)) has leaves rest = absurd leaves
    read-follows (Err error.BadStatus) has leaves rest = absurd leaves
    read-follows (Err error.Phase) has leaves rest = absurd leaves
    read-follows (Err (error.Length got residue)) has leaves rest = absurd leaves
serves-follows (WasWritten block bytes answer ∷ calls) list old new serves gone =
    write-follows answer gone.2 (write-leaves old.bus old.client list serves block bytes gone.0 answer gone.1 gone.2) (λ xs again. serves-follows calls xs gone.1 new again gone.3)
  where
    mid : Commanding DiskState
    mid = gone.1

    on : (a : Result (Unit {0}) BotError) → HasWritten block bytes old a mid → IsOfList list (WasWritten block bytes a) → Follows calls (list_after list (WasWritten block bytes a)) mid new → Follows (WasWritten block bytes a ∷ calls) list old new
    on a has answer rest = record { answers = (answer, rest.answers); holds = behind-call (WasWritten block bytes a) calls (list_after_all (list_after list (WasWritten block bytes a)) calls) old mid new gone.0 has rest.holds }

    -- its data stand in the blocks, and it broke the client
    half : HasWritten block bytes old (Err error.Memory) mid → (512 * block + length bytes ≤ length list) → Spoiled mid.bus mid.client (overwritten list (512 * block) bytes) → Follows (WasWritten block bytes (Err error.Memory) ∷ calls) list old new
    half has within spoiled =
        let stays = stays-broken calls list (overwritten list (512 * block) bytes) mid new spoiled gone.3 in
        record {
          answers = (tt, stays.answers);
          holds = subst (λ (xs : List ℕ). HoldsList (WasWritten block bytes (Err error.Memory) ∷ calls) old xs new) (sym stays.same)
              (inr (inr (record {
                before = [];
                block = block;
                bytes = bytes;
                behind = calls;
                are = refl;
                at = old;
                gone = refl;
                serves = serves;
                write = subst (λ (x : Commanding DiskState). HasWritten block bytes old (Err error.Memory) x) (sym stays.left) has;
                within = within;
                spoiled = subst (λ (x : Commanding DiskState). Spoiled x.bus x.client (overwritten list (512 * block) bytes)) (sym stays.left) spoiled;
              })));
        }

    write-follows : (a : Result (Unit {0}) BotError) → HasWritten block bytes old a mid → WriteLeaves list block bytes a mid.bus mid.client → ((xs : List ℕ) → Serves mid.bus mid.client xs → Follows calls xs mid new) → Follows (WasWritten block bytes a ∷ calls) list old new
    write-follows (Ok done) has leaves rest = on (Ok done) has leaves.0 (rest (overwritten list (512 * block) bytes) leaves.1)
    write-follows (Err (error.Failed residue)) has leaves rest = on (Err (error.Failed residue)) has (leaves.0, leaves.1) (rest list leaves.2)
    write-follows (Err error.Memory) has leaves rest =
        elim leaves [
          | inl again ↦ on (Err error.Memory) has tt (rest list again)
          | inr later ↦ elim later [
            | inl spoiled ↦ on (Err error.Memory) has tt (spoiled-follows calls list mid new spoiled gone.3)
            | inr some ↦ half has some.0 some.1
          ]
        ]
    write-follows (Err (error.Transfer why)) has leaves rest = absurd leaves
    write-follows (Err error.BadStatus) has leaves rest = absurd leaves
    write-follows (Err error.Phase) has leaves rest = absurd leaves
    write-follows (Err (error.Length got residue)) has leaves rest = absurd leaves

pub disk_is_list : DiskIsList
disk_is_list h n d out inp e f calls left ready over gone =
    let follows = serves-follows calls (zeros n) (new_disk h n d out inp e f) left (new_serves h (zeros n) d out inp e f ready over) gone in
    (follows.answers, follows.holds)
