-- The reports that tickets brought, while the journal goes on.
use Rattle.std.proofs.Common.{ℕ, zero, suc, arith, ◌≡◌, ◌∙◌, ◌+◌, ◌-◌, ◌<◌, ◌≤◌, List, [], ◌∷◌, ◌++◌, length, append_assoc, append-nil, ap, sym, subst, refl, inl, inr, Option, Some, None, Result, Ok, Err}
use Rattle.std.specs.Prelude.{is_some, is_ok, IsSome, IsSomeAnd, option_and_then, if◌then◌else◌}
use Rattle.std.specs.Option.{option_map}
use Rattle.std.proofs.lemmas.Bool.{cases_lt}
use Rattle.usb_xfer.specs.declared.transfer.Completion.{Completion}
use Rattle.usb_xfer.specs.declared.error.TransferError.{TransferError}
use Rattle.usb_kernel.specs.declared.event.Event.{Event}
use Rattle.usb_kernel.specs.Tickets.{Ticket, tickets}
use Rattle.usb_kernel.specs.Extends.{Extends}
use Rattle.usb_kernel.specs.Steps.{after_discard}
use Rattle.usb_kernel.specs.TransferCompletions.{completion_of, transfer_completion}
use Rattle.usb_kernel.proofs.Completions.{tickets-discard, completion-discard}
use Rattle.usb_device_endpoint.specs.Closes.{all_discarded}
use Rattle.example_keyboard.specs.declared.report.Report.{Report}
use Rattle.example_keyboard.specs.declared.end.End.{End}
use Rattle.example_keyboard.specs.Reports.{report_of}
use Rattle.example_keyboard.specs.Reading.{report_in, report_at, listed, reports_from, brought, last_completion, EndsBy}
use Rattle.example_keyboard.proofs.TicketLemmas.{completion-lasts}

-- where tickets complete alike they brought the same
reports-alike : (a b : List Event) (first n : ℕ) →
    ((t : ℕ) → first ≤ t → t < first + n → transfer_completion b t ≡ transfer_completion a t) →
    reports_from b first n ≡ reports_from a first n
reports-alike a b first zero alike = refl
reports-alike a b first (suc n) alike =
    let before = reports-alike a b first n (λ t from below. alike t from (omega arith)) in
    let last : transfer_completion b (first + n) ≡ transfer_completion a (first + n) = alike (first + n) (omega arith) (omega arith) in
    rw (before, last) refl

-- nothing was brought where the tickets are as many
pub brought-none : (a b : List Event) → length (tickets b) ≡ length (tickets a) → brought a b ≡ []
unfolding brought
brought-none a b same =
    let none : length (tickets b) - length (tickets a) ≡ 0 = omega arith in
    ap (λ n. reports_from b (length (tickets a)) n) none

-- what was brought is the same in a journal with the same tickets and completions
pub brought-alike : (a b c : List Event) → length (tickets c) ≡ length (tickets b) →
    ((t : ℕ) → transfer_completion c t ≡ transfer_completion b t) → brought a c ≡ brought a b
unfolding brought
brought-alike a b c same alike =
    ap (λ n. reports_from c (length (tickets a)) (n - length (tickets a))) same
    ∙ reports-alike b c (length (tickets a)) (length (tickets b) - length (tickets a)) (λ t from below. alike t)

-- each ticket since the first journal has its completion, and the reports are those that they brought
pub record Follows (first now : List Event) (before after : List Report) : Type 0 where
  pub more : length (tickets first) ≤ length (tickets now)
  pub come : (t : ℕ) → length (tickets first) ≤ t → t < length (tickets now) → IsSome (transfer_completion now t)
  pub reports : after ≡ before ++ brought first now

pub follows-start : (past : List Event) (reports : List Report) → Follows past past reports reports
follows-start past reports =
    record {
      more = omega arith;
      come = λ t from below. absurd (omega arith);
      reports = sym (ap (λ (rs : List Report). reports ++ rs) (brought-none past past refl) ∙ append-nil reports);
    }

-- one more ticket
pub brought-more : (first old new : List Event) (before reports : List Report) (found : Option Completion) → Follows first old before reports →
    Extends old new → length (tickets new) ≡ length (tickets old) + 1 → transfer_completion new (length (tickets old)) ≡ found →
    reports ++ listed (option_and_then report_in found) ≡ before ++ brought first new
unfolding brought
brought-more first old new before reports found follows extends one at =
    let start = length (tickets first) in
    let count = length (tickets old) - start in
    let more = follows.more in
    let counts : length (tickets new) - start ≡ suc count = omega arith in
    let seam : start + count ≡ length (tickets old) = omega arith in
    let same = reports-alike old new start count
    (λ t from below. completion-lasts old new t extends (follows.come t from (omega arith))) in
    let last : report_at new (start + count) ≡ option_and_then report_in found =
    ap (λ t. report_at new t) seam ∙ ap (option_and_then report_in) at in
    let all : reports_from new start (length (tickets new) - start) ≡ reports_from old start count ++ listed (option_and_then report_in found) =
    ap (λ n. reports_from new start n) counts
    ∙ (ap (λ (rs : List Report). rs ++ listed (report_at new (start + count))) same
    ∙ ap (λ (o : Option Report). reports_from old start count ++ listed o) last) in
    ap (λ (rs : List Report). rs ++ listed (option_and_then report_in found)) follows.reports
    ∙ (append_assoc before (reports_from old start count) (listed (option_and_then report_in found))
    ∙ ap (λ (rs : List Report). before ++ rs) (sym all))

pub follows-on : (first old new : List Event) (before reports after : List Report) (c : Completion) → Follows first old before reports →
    Extends old new → length (tickets new) ≡ length (tickets old) + 1 → transfer_completion new (length (tickets old)) ≡ Some c →
    after ≡ reports ++ listed (report_in c) → Follows first new before after
follows-on first old new before reports after c follows extends one at added =
    let more = follows.more in
    record {
      more = omega arith;
      come = λ t from below.
          elim (cases_lt t (length (tickets old))) [
            | inl within ↦
                let there = follows.come t from within in
                ap is_some (completion-lasts old new t extends there) ∙ there
            | inr beyond ↦
                let last : t ≡ length (tickets old) = omega arith in
                ap (λ t. is_some (transfer_completion new t)) last ∙ ap is_some at
          ];
      reports = added ∙ brought-more first old new before reports (Some c) follows extends one at;
    }

-- so more tickets came
pub more-asked : (first old new : List Event) (before reports : List Report) → Follows first old before reports →
    length (tickets new) ≡ length (tickets old) + 1 → length (tickets first) < length (tickets new)
more-asked first old new before reports follows one = let more = follows.more in omega arith

-- the last ticket brought no report
pub follows-end : (first old new : List Event) (before reports : List Report) (found : Option Completion) → Follows first old before reports →
    Extends old new → length (tickets new) ≡ length (tickets old) + 1 → transfer_completion new (length (tickets old)) ≡ found →
    option_and_then report_in found ≡ None → reports ≡ before ++ brought first new
follows-end first old new before reports found follows extends one at none =
    sym (append-nil reports)
    ∙ (ap (λ (o : Option Report). reports ++ listed o) (sym none)
    ∙ brought-more first old new before reports found follows extends one at)

-- the completion of the last ticket is this
pub last-is : (old new : List Event) (found : Option Completion) → length (tickets new) ≡ length (tickets old) + 1 →
    transfer_completion new (length (tickets old)) ≡ found → last_completion new ≡ found
last-is old new found one at =
    let last : length (tickets new) - 1 ≡ length (tickets old) = omega arith in
    ap (λ t. transfer_completion new t) last ∙ at

-- so it tells why the last transfer failed
pub failed-last : (old new : List Event) (found : Option Completion) (c : Completion) (error : TransferError) →
    length (tickets new) ≡ length (tickets old) + 1 → transfer_completion new (length (tickets old)) ≡ found →
    found ≡ Some c → c.status ≡ Err error → IsSomeAnd (last_completion new) (λ c. c.status ≡ Err error)
failed-last old new found c error one at some failed =
    subst (λ (o : Option Completion). IsSomeAnd o (λ c. c.status ≡ Err error))
    (sym (last-is old new (Some c) one (at ∙ some))) failed

-- the tickets and their completions are the same
pub record IsAlike (a b : List Event) : Type 0 where
  pub count : length (tickets b) ≡ length (tickets a)
  pub completion : (t : ℕ) → transfer_completion b t ≡ transfer_completion a t

-- so they are when tickets are discarded
discarded-alike : (past : List Event) (ts : List ℕ) → IsAlike past (all_discarded after_discard past ts)
unfolding transfer_completion
discarded-alike past [] = record { count = refl; completion = λ t. refl }
discarded-alike past (u ∷ ts) =
    let before = discarded-alike past ts in
    let mid = all_discarded after_discard past ts in
    record {
      count = ap (λ (ts : List Ticket). length ts) (tickets-discard mid u) ∙ before.count;
      completion = λ t. ap (option_map completion_of) (completion-discard mid u t) ∙ before.completion t;
    }

pub closed-alike : (past new : List Event) (ts : List ℕ) → new ≡ all_discarded after_discard past ts → IsAlike past new
closed-alike past new ts is = subst (IsAlike past) (sym is) (discarded-alike past ts)

-- what was read between is what was brought since the beginning
pub read-between : (first mid last closed : List Event) (before after : List Report) → mid ≡ first → IsAlike last closed →
    after ≡ before ++ brought mid last → after ≡ before ++ brought first closed
read-between first mid last closed before after same alike read =
    read
    ∙ ap (λ (rs : List Report). before ++ rs)
    (ap (λ (past : List Event). brought past last) same ∙ sym (brought-alike first last closed alike.count alike.completion))

pub ends-alike : (last closed : List Event) (end : End) → IsAlike last closed → EndsBy end (last_completion last) →
    EndsBy end (last_completion closed)
ends-alike last closed end alike ends =
    subst (EndsBy end)
    (sym (ap (λ n. transfer_completion closed (n - 1)) alike.count ∙ alike.completion (length (tickets last) - 1))) ends

-- where nothing came nothing was read
pub nothing-read : (first now : List Event) (reports : List Report) → now ≡ first → reports ≡ reports ++ brought first now
nothing-read first now reports same =
    sym (append-nil reports)
    ∙ ap (λ (rs : List Report). reports ++ rs)
    (sym (brought-none first now (ap (λ (past : List Event). length (tickets past)) same)))

-- a transfer that failed brought no report, and one that went well that of its packet
pub failed-none : (found : Option Completion) (c : Completion) (error : TransferError) → found ≡ Some c → c.status ≡ Err error →
    option_and_then report_in found ≡ None
failed-none found c error some failed =
    ap (option_and_then report_in) some
    ∙ ap (λ (status : Result (Unit {0}) TransferError). if is_ok status then report_of c.buffer.bytes else None) failed

pub report-added : (after items reports : List Report) (packet : List ℕ) (c : Completion) (done : Unit {0}) →
    after ≡ items ++ listed (report_of packet) → items ≡ reports → packet ≡ c.buffer.bytes → c.status ≡ Ok done →
    after ≡ reports ++ listed (report_in c)
report-added after items reports packet c done added same bytes well =
    let is : report_of packet ≡ report_in c =
    ap report_of bytes
    ∙ sym (ap (λ (status : Result (Unit {0}) TransferError). if is_ok status then report_of c.buffer.bytes else None) well) in
    added
    ∙ (ap (λ (rs : List Report). rs ++ listed (report_of packet)) same
    ∙ ap (λ (o : Option Report). reports ++ listed o) is)

-- what is opened and closed around the reading asks for nothing
pub asked-between : (first mid last closed : List Event) → mid ≡ first → IsAlike last closed →
    length (tickets mid) < length (tickets last) → length (tickets first) < length (tickets closed)
asked-between first mid last closed same alike asked =
    let at = ap (λ (past : List Event). length (tickets past)) same in
    let count = alike.count in
    omega (arith, at, count, asked)
