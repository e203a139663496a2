-- One read or one write of a client that is served.
use Rattle.std.proofs.Common.{◌≡◌, ℕ, ◌+◌, ◌*◌, ◌/◌, ◌<◌, ◌≤◌, List, [], length, None, Bool, true, false, Result, Ok, Err, refl, sym, ap, ◌∙◌, arith, subst, inl, inr}
use Rattle.std.proofs.Math.Nat.{div-add-mod}
use Rattle.std.proofs.lemmas.Bool.{false≢true, cases_lt}
use Rattle.usb_bot.specs.declared.error.BotError.{BotError}
use Rattle.usb_bot.specs.declared.error.BotError.TheVariants as error
use Rattle.usb_bot.specs.declared.wrapper.Command.{Command}
use Rattle.usb_bot.specs.declared.wrapper.Operation.TheVariants.{Read, Write}
use Rattle.usb_bot.specs.Wrappers.{status_bytes}
use Rattle.usb_bot.specs.Clients.{ClientState}
use Rattle.usb_bot.specs.Commands.{Commanding, commanding, Outcome, outcome, asks, sends, next_command, written, counted}
use Rattle.usb_bot.specs.Shortages.{LacksMemory}
use Rattle.usb_bot_disk.specs.declared.stage.Stage.TheVariants.{Answering}
use Rattle.usb_bot_disk.specs.Blocks.{overwritten, blocks_at}
use Rattle.usb_bot_disk.specs.Machine.{end_of, begun}
use Rattle.usb_bot_disk.specs.DiskState.{DiskState}
use Rattle.usb_bot_disk.specs.DiskCalls.{disk_calls}
use Rattle.usb_bot_disk.proofs.MachineLemmas.{passed}
use Rattle.usb_bot_law.specs.Serving.{Serves}
use Rattle.usb_bot_law.specs.Steps.{HasRead, HasWritten, CanRead, CanWrite, ReadLeaves, WriteLeaves}
use Rattle.usb_bot_law.proofs.TakenBytes.{IsSmall, failed}
use Rattle.usb_bot_law.proofs.SentBytes.{blocks-long}
use Rattle.usb_bot_law.proofs.CommandStages.{serves-rests, wrapper-went, blocks-went, none-went, data-went, dropped-went, status-went, judged-passed, judged-failed}
use Rattle.usb_bot_law.proofs.CommandRuns.{Runs, command-is}

-- what an outcome says of its parts
pub same-left : {A : Type 0} (a a' : Result A BotError) (x y : Commanding DiskState) → outcome a x ≡ outcome a' y → x ≡ y
same-left {A} a a' x y is = ap (λ (o : Outcome A (Commanding DiskState)). o.left) is

pub same-answer : {A : Type 0} (a a' : Result A BotError) (x y : Commanding DiskState) → outcome a x ≡ outcome a' y → a ≡ a'
same-answer {A} a a' x y is = ap (λ (o : Outcome A (Commanding DiskState)). o.answer) is

ok-part : {A : Type 0} → A → Result A BotError → A
ok-part other (Ok x) = x
ok-part other (Err e) = other

err-part : {A : Type 0} → Result A BotError → BotError
err-part (Ok x) = error.Memory
err-part (Err e) = e

went-well : {A : Type 0} → Result A BotError → Bool
went-well (Ok x) = true
went-well (Err e) = false

module _ {A : Type 0} where
  same-ok : (x y : A) (a a' : Result A BotError) → a ≡ Ok x → a' ≡ Ok y → a ≡ a' → x ≡ y
  unfolding ok-part
  same-ok x y a a' is is' same = ap (λ (r : Result A BotError). ok-part x r) (sym is ∙ same ∙ is')

  pub same-err : (x y : BotError) (a a' : Result A BotError) → a ≡ Err x → a' ≡ Err y → a ≡ a' → x ≡ y
  unfolding err-part
  same-err x y a a' is is' same = ap (λ (r : Result A BotError). err-part r) (sym is ∙ same ∙ is')

  pub not-both : (x : A) (y : BotError) (a a' : Result A BotError) → a ≡ Ok x → a' ≡ Err y → a ≡ a' → ⊥
  unfolding went-well
  not-both x y a a' is is' same = false≢true (sym (ap (λ (r : Result A BotError). went-well r) (sym is ∙ same ∙ is')))

module _ (b : DiskState) (k : ClientState) (blocks : List ℕ) (serves : Serves b k blocks) where
  -- a read
  module _ (block count : ℕ) (can : CanRead block count) where
    abbrev c : Command
    c = next_command Read block count k

    small : IsSmall c
    small = record { tag = serves.tag; block = can.block_small; count = omega (arith, can.few) }

    read-within : end_of c ≤ length blocks → Runs k c (asks (512 * count)) blocks blocks b (Ok (blocks_at blocks block count))
    read-within within =
        let first = wrapper-went k blocks c b small (serves-rests b k blocks serves) in
        let second = blocks-went k blocks c first.new refl can.some small.count within first.rests in
        let third = status-went k blocks (passed c) second.new second.rests in
        let long = second.moved in
        command-is k c (asks (512 * count)) (blocks_at blocks block count) blocks blocks (begun blocks c) (Answering (passed c) 0) b serves.goes first second (status_bytes (passed c)) third
        (Ok (blocks_at blocks block count))
        (judged-passed c second.c third.c serves.tag (second.moved ∙ blocks-long blocks c within) third.bytes_are ∙ ap (λ (xs : List ℕ). Ok xs) second.bytes_are) refl

    read-beyond : length blocks < end_of c → Runs k c (asks (512 * count)) blocks blocks b (Err (error.Failed (512 * count)))
    read-beyond beyond =
        let first = wrapper-went k blocks c b small (serves-rests b k blocks serves) in
        let second = none-went k blocks c first.new refl can.some beyond first.rests in
        let third = status-went k blocks (failed c) second.new second.rests in
        command-is k c (asks (512 * count)) [] blocks blocks (begun blocks c) (Answering (failed c) 0) b serves.goes first second (status_bytes (failed c)) third
        (Err (error.Failed (512 * count))) (judged-failed c second.c third.c small third.bytes_are) refl

    -- what one leaves that lacked memory
    read-lacked : (a : Result (List ℕ) BotError) (runs : Runs k c (asks (512 * count)) blocks blocks b a) (left : Commanding DiskState) (e : BotError) → e ≡ error.Memory
        → LacksMemory disk_calls c (asks (512 * count)) (commanding b k) left → ReadLeaves blocks block count (Err e) left.bus left.client
    read-lacked a runs left e memory lacks =
        subst (λ (x : BotError). ReadLeaves blocks block count (Err x) left.bus left.client) (sym memory)
        (elim (runs.lacks left lacks) [
          | inl same ↦ inl (subst (λ (x : Commanding DiskState). Serves x.bus x.client blocks) (sym same) serves)
          | inr later ↦ inr (elim later [ inl spoiled ↦ spoiled | inr spoiled ↦ spoiled ])
        ])

    leaves-within : end_of c ≤ length blocks → (answer : Result (List ℕ) BotError) (left : Commanding DiskState) → HasRead block count (commanding b k) answer left → ReadLeaves blocks block count answer left.bus left.client
    leaves-within within (Ok bytes) left has =
        let runs = read-within within in
        let is = sym runs.is ∙ has in (
          within,
          sym (same-ok (blocks_at blocks block count) bytes (Ok (blocks_at blocks block count)) (Ok bytes) refl refl (same-answer (Ok (blocks_at blocks block count)) (Ok bytes) (commanding runs.n (counted None k)) left is)),
          subst (λ (x : Commanding DiskState). Serves x.bus x.client blocks) (same-left (Ok (blocks_at blocks block count)) (Ok bytes) (commanding runs.n (counted None k)) left is) runs.serves,
        )
    leaves-within within (Err e) left has =
        let runs = read-within within in
        elim has [
          | inl is ↦ absurd (not-both (blocks_at blocks block count) e (Ok (blocks_at blocks block count)) (Err e) refl refl (same-answer (Ok (blocks_at blocks block count)) (Err e) (commanding runs.n (counted None k)) left (sym runs.is ∙ is)))
          | inr lacks ↦ read-lacked (Ok (blocks_at blocks block count)) runs left e lacks.0 lacks.1
        ]

    leaves-beyond : length blocks < end_of c → (answer : Result (List ℕ) BotError) (left : Commanding DiskState) → HasRead block count (commanding b k) answer left → ReadLeaves blocks block count answer left.bus left.client
    leaves-beyond beyond (Ok bytes) left has =
        let runs = read-beyond beyond in
        absurd (not-both bytes (error.Failed (512 * count)) (Ok bytes) (Err (error.Failed (512 * count))) refl refl (sym (same-answer (Err (error.Failed (512 * count))) (Ok bytes) (commanding runs.n (counted None k)) left (sym runs.is ∙ has))))
    leaves-beyond beyond (Err e) left has =
        let runs = read-beyond beyond in
        elim has [
          | inl is ↦
              let both = sym runs.is ∙ is in
              let same = same-err (error.Failed (512 * count)) e (Err (error.Failed (512 * count))) (Err e) refl refl (same-answer (Err (error.Failed (512 * count))) (Err e) (commanding runs.n (counted None k)) left both) in
              subst (λ (x : BotError). ReadLeaves blocks block count (Err x) left.bus left.client) same (
                beyond,
                refl,
                subst (λ (x : Commanding DiskState). Serves x.bus x.client blocks) (same-left (Err (error.Failed (512 * count))) (Err e) (commanding runs.n (counted None k)) left both) runs.serves,
              )
          | inr lacks ↦ read-lacked (Err (error.Failed (512 * count))) runs left e lacks.0 lacks.1
        ]

    pub read-leaves : (answer : Result (List ℕ) BotError) (left : Commanding DiskState) → HasRead block count (commanding b k) answer left → ReadLeaves blocks block count answer left.bus left.client
    read-leaves answer left has =
        elim (cases_lt (length blocks) (end_of c)) [
          | inl beyond ↦ leaves-beyond beyond answer left has
          | inr within ↦ leaves-within within answer left has
        ]

  -- a write
  module _ (block : ℕ) (bytes : List ℕ) (can : CanWrite block bytes) where
    abbrev c' : Command
    c' = next_command Write block (length bytes / 512) k

    abbrev after : List ℕ
    after = overwritten blocks (512 * block) bytes

    long : length bytes ≡ 512 * (length bytes / 512)
    long = omega (arith, div-add-mod (length bytes) 512, can.whole)

    some : 0 < length bytes / 512
    some = omega (arith, long, can.some)

    small' : IsSmall c'
    small' = record { tag = serves.tag; block = can.block_small; count = omega (arith, can.few, long) }

    write-within : end_of c' ≤ length blocks → Runs k c' (sends bytes) blocks after b (Ok bytes)
    write-within within =
        let first = wrapper-went k blocks c' b small' (serves-rests b k blocks serves) in
        let second = data-went k blocks c' first.new bytes refl some long within first.rests in
        let third = status-went k after (passed c') second.new second.rests in
        command-is k c' (sends bytes) bytes blocks after (begun blocks c') (Answering (passed c') 0) b serves.goes first second (status_bytes (passed c')) third
        (Ok bytes)
        (judged-passed c' second.c third.c serves.tag (second.moved ∙ long) third.bytes_are ∙ ap (λ (xs : List ℕ). Ok xs) second.bytes_are) refl

    write-beyond : length blocks < end_of c' → Runs k c' (sends bytes) blocks blocks b (Err (error.Failed (512 * (length bytes / 512))))
    write-beyond beyond =
        let first = wrapper-went k blocks c' b small' (serves-rests b k blocks serves) in
        let second = dropped-went k blocks c' first.new bytes refl some long beyond first.rests in
        let third = status-went k blocks (failed c') second.new second.rests in
        command-is k c' (sends bytes) bytes blocks blocks (begun blocks c') (Answering (failed c') 0) b serves.goes first second (status_bytes (failed c')) third
        (Err (error.Failed (512 * (length bytes / 512)))) (judged-failed c' second.c third.c small' third.bytes_are) refl

    place : end_of c' ≤ length blocks → 512 * block + length bytes ≤ length blocks
    place within = omega (arith, within, long)

    -- what one leaves that lacked memory
    written-within : end_of c' ≤ length blocks → (answer : Result (Unit {0}) BotError) (left : Commanding DiskState) → HasWritten block bytes (commanding b k) answer left → WriteLeaves blocks block bytes answer left.bus left.client
    written-within within (Ok done) left has =
        let runs = write-within within in
        let is = sym (ap written runs.is) ∙ has in (
          place within,
          subst (λ (x : Commanding DiskState). Serves x.bus x.client after) (same-left (Ok tt) (Ok done) (commanding runs.n (counted None k)) left is) runs.serves,
        )
    written-within within (Err e) left has =
        let runs = write-within within in
        elim has [
          | inl is ↦ absurd (not-both tt e (Ok tt) (Err e) refl refl (same-answer (Ok tt) (Err e) (commanding runs.n (counted None k)) left (sym (ap written runs.is) ∙ is)))
          | inr lacks ↦
              subst (λ (x : BotError). WriteLeaves blocks block bytes (Err x) left.bus left.client) (sym lacks.0)
              (elim (runs.lacks left lacks.1) [
                | inl same ↦ inl (subst (λ (x : Commanding DiskState). Serves x.bus x.client blocks) (sym same) serves)
                | inr later ↦ inr (elim later [ inl spoiled ↦ inl spoiled | inr spoiled ↦ inr (place within, spoiled) ])
              ])
        ]

    written-beyond : length blocks < end_of c' → (answer : Result (Unit {0}) BotError) (left : Commanding DiskState) → HasWritten block bytes (commanding b k) answer left → WriteLeaves blocks block bytes answer left.bus left.client
    written-beyond beyond (Ok done) left has =
        let runs = write-beyond beyond in
        absurd (not-both done (error.Failed (512 * (length bytes / 512))) (Ok done) (Err (error.Failed (512 * (length bytes / 512)))) refl refl
        (sym (same-answer (Err (error.Failed (512 * (length bytes / 512)))) (Ok done) (commanding runs.n (counted None k)) left (sym (ap written runs.is) ∙ has))))
    written-beyond beyond (Err e) left has =
        let runs = write-beyond beyond in
        elim has [
          | inl is ↦
              let both = sym (ap written runs.is) ∙ is in
              let same = same-err (error.Failed (512 * (length bytes / 512))) e (Err (error.Failed (512 * (length bytes / 512)))) (Err e) refl refl (same-answer (Err (error.Failed (512 * (length bytes / 512)))) (Err e) (commanding runs.n (counted None k)) left both) in
              subst (λ (x : BotError). WriteLeaves blocks block bytes (Err x) left.bus left.client) same (
                omega (arith, beyond, long),
                sym long,
                subst (λ (x : Commanding DiskState). Serves x.bus x.client blocks) (same-left (Err (error.Failed (512 * (length bytes / 512)))) (Err e) (commanding runs.n (counted None k)) left both) runs.serves,
              )
          | inr lacks ↦
              subst (λ (x : BotError). WriteLeaves blocks block bytes (Err x) left.bus left.client) (sym lacks.0)
              (elim (runs.lacks left lacks.1) [
                | inl same ↦ inl (subst (λ (x : Commanding DiskState). Serves x.bus x.client blocks) (sym same) serves)
                | inr later ↦ inr (inl (elim later [ inl spoiled ↦ spoiled | inr spoiled ↦ spoiled ]))
              ])
        ]

    pub write-leaves : (answer : Result (Unit {0}) BotError) (left : Commanding DiskState) → HasWritten block bytes (commanding b k) answer left → WriteLeaves blocks block bytes answer left.bus left.client
    write-leaves answer left has =
        elim (cases_lt (length blocks) (end_of c')) [
          | inl beyond ↦ written-beyond beyond answer left has
          | inr within ↦ written-within within answer left has
        ]
