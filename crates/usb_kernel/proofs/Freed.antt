-- Where the table's functions leave no event, and how many places they free.
use Rattle.std.proofs.Common.{◌≡◌, ℕ, ◌+◌, ◌<◌, ◌≤◌, arith, List, ◌∷◌, length, set, get_or, Option, Some, None, true, false, refl, ap, sym, ◌∙◌, cond}
use Rattle.std.specs.Prelude.{is_some, IsSome, nat_lt, ◌&&◌}
use Rattle.std.specs.List.{sum_by}
use Rattle.std.proofs.lemmas.Bool.{lt-leb, le-ltb, false≢true}
use Rattle.usb_xfer.specs.BufferState.{BufferState}
use Rattle.usb_kernel.specs.declared.event.Event.{Event}
use Rattle.usb_kernel.specs.declared.event.Event.TheVariants.{Echo}
use Rattle.usb_kernel.specs.declared.slot.TicketRow.{TicketRow}
use Rattle.usb_kernel.specs.Journal.{oldest}
use Rattle.usb_kernel.specs.Steps.{after_packet, after_ack, after_echo}
use Rattle.usb_kernel.specs.Rows.{owed}
use Rattle.usb_kernel.proofs.StepLemmas.{owed-set}

-- at an endpoint of the other direction there is no event
pub after_packet-out : (past : List Event) (d e : ℕ) (b : List ℕ) → e < 128 → after_packet past d e b ≡ past
after_packet-out past d e b out = rw (lt-leb 128 e out) refl

pub after_ack-in : (past : List Event) (d e : ℕ) → 128 ≤ e → after_ack past d e ≡ past
after_ack-in past d e into = rw (le-ltb e 128 into) refl

pub after_echo-from_in : (past : List Event) (d o i : ℕ) → 128 ≤ o → after_echo past d o i ≡ past
after_echo-from_in past d o i into = rw (le-ltb o 128 into) refl

pub after_echo-to_out : (past : List Event) (d o i : ℕ) → i < 128 → after_echo past d o i ≡ past
after_echo-to_out past d o i out =
    rw (lt-leb 128 i out) (elim (nat_lt o 128) as (λ v. cond (v && false && is_some (oldest past d o) && is_some (oldest past d i)) (Echo d o i ∷ past) past ≡ past) [ true ↦ refl | false ↦ refl ])

-- nothing is freed
pub no_more : (n : ℕ) → n + 0 ≡ n
no_more n = omega arith

-- what is freed where a row is written
pub freed-one : (rows : List TicketRow) (i : ℕ) (r next : TicketRow) → i < length rows → r ≡ get_or rows i r → owed next + 1 ≡ owed r → sum_by owed (set rows i next) + 1 ≡ sum_by owed rows
freed-one rows i r next inside read one =
    let total = owed-set rows i (sum_by owed rows) r next refl inside read in
    omega (arith, total.0, total.1)

-- and where a ticket is reaped
owed-finished : (r : TicketRow) (s : Option ℕ) (b : Option BufferState) → IsSome s → IsSome b → owed (record r { status = s; buffer = b }) ≡ 1
owed-finished r None b finished waiting = absurd (false≢true finished)
owed-finished r (Some x) None finished waiting = absurd (false≢true waiting)
owed-finished r (Some x) (Some y) finished waiting = refl

pub freed-reap : (rows : List TicketRow) (i : ℕ) (r next : TicketRow) → i < length rows → r ≡ get_or rows i r → IsSome r.status → IsSome r.buffer → next ≡ record r { buffer = None } → sum_by owed (set rows i next) + 1 ≡ sum_by owed rows
freed-reap rows i r next inside read finished waiting is =
    freed-one rows i r next inside read (ap (λ x. owed x + 1) is ∙ sym (owed-finished r r.status r.buffer finished waiting))
