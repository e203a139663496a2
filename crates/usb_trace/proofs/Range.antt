-- The fates of a journal in which each event acts are in range.
use Rattle.std.proofs.Common.{◌≡◌, ◌≢◌, ℕ, ◌<◌, ◌≤◌, ◌^◌, suc, eqb, Bool, true, false, not, ◌&&◌, List, [], ◌∷◌, length, length-append, Option, Some, None, IfSome, unwrap_or, Ok, Err, if◌then◌else◌, refl, arith}
use Rattle.std.specs.List.{All}
use Rattle.std.proofs.lemmas.Bool.{and_parts, eqb-true, eqb-false}
use Rattle.std.proofs.lemmas.Option.{get_or_from_slice_get}
use Rattle.usb_kernel.specs.declared.event.Event.{Event}
use Rattle.usb_kernel.specs.declared.event.Event.TheVariants.{Submit, Refuse, Packet, Ack, Echo, Fail, Discard, Reap, Unplug}
use Rattle.usb_kernel.specs.declared.event.Body.{Body}
use Rattle.usb_kernel.specs.declared.event.Body.TheVariants.{Wanted, Sent}
use Rattle.usb_kernel.specs.Tickets.{Ticket, tickets}
use Rattle.usb_kernel.specs.Fates.{Fate, count_of}
use Rattle.usb_kernel.specs.Info.{info_for}
use Rattle.usb_kernel.specs.Journal.{fate}
use Rattle.usb_kernel.proofs.Rules.{slice_get-here}
use Rattle.usb_kernel_devices.specs.Errnos.{IsErrno}
use Rattle.usb_xfer.specs.TransferStatus.{status_of}
use Rattle.usb_xfer.specs.TransferErrors.{errno_table, look_up, error_of_errno, never_cancelled, error_of_refusal}
use Rattle.usb_xfer.specs.declared.error.TransferError.{TransferError}
use Rattle.usb_xfer.specs.declared.error.TransferError.TheVariants.{Cancelled, Stall, Disconnected, Fault, InvalidArgument, Unknown}
use Rattle.usb_trace_lines.specs.Fates.{fate_told, fates_of}
use Rattle.usb_trace_lines.specs.Forms.{IsTold, IsFateTold, IsStatus, IsBodySized}
use Rattle.usb_trace_lines.proofs.FatesTold.{fate-of, length-fates}
use Rattle.usb_kernel.specs.Acts.{is_gone, wants_whole, EachActs}
use Rattle.usb_trace.proofs.Counted.{CountedFor, InRange, AllRanged, in-range}
use Rattle.usb_trace.proofs.Whole.{whole-wants}

-- ---- statuses

KnownRows : List (ℕ × TransferError) → ℕ → Type 0
KnownRows [] errno = Unit {0}
KnownRows (row ∷ rows) errno = IsStatus (Err row.1) × KnownRows rows errno

look-by : (b : Bool) (e f : TransferError) → IsStatus (Err e) → IsStatus (Err f) → IsStatus (Err (if b then e else f))
look-by true e f is other = is
look-by false e f is other = other

look-range : (rows : List (ℕ × TransferError)) (errno : ℕ) → KnownRows rows errno → IsErrno errno → IsStatus (Err (look_up rows errno))
unfolding KnownRows
look-range [] errno known is = is
look-range (row ∷ rows) errno known is = look-by (eqb errno row.0) row.1 (look_up rows errno) known.0 (look-range rows errno known.1 is)

table-known : (errno : ℕ) → KnownRows errno_table errno
unfolding KnownRows
table-known errno = (tt, (tt, (tt, (tt, (tt, (tt, (tt, (tt, (tt, (tt, (tt, (tt, tt))))))))))))

never-range : (errno : ℕ) (e : TransferError) → IsErrno errno → IsStatus (Err e) → IsStatus (Err (never_cancelled errno e))
never-range errno Cancelled small is = small
never-range errno Stall small is = is
never-range errno Disconnected small is = is
never-range errno Fault small is = is
never-range errno InvalidArgument small is = is
never-range errno (Unknown n) small is = is

error-by : (refused : Bool) (errno : ℕ) → IsErrno errno → IsStatus (Err (if refused then error_of_refusal errno else error_of_errno errno))
error-by true errno small = never-range errno (error_of_errno errno) small (look-range errno_table errno (table-known errno) small)
error-by false errno small = look-range errno_table errno (table-known errno) small

status-by : (zero_is : Bool) (refused : Bool) (errno : ℕ) → eqb errno 0 ≡ zero_is → errno ≤ 4095 → IsStatus (if zero_is then Ok tt else Err (if refused then error_of_refusal errno else error_of_errno errno))
status-by true refused errno is small = tt
status-by false refused errno is small =
    let apart : errno ≢ 0 = eqb-false errno 0 is in
    let least : 1 ≤ errno = omega arith in
    error-by refused errno (least, small)

status-range : (refused : Bool) (errno : ℕ) → errno ≤ 4095 → IsStatus (status_of refused errno)
status-range refused errno small = status-by (eqb errno 0) refused errno refl small

told-status : (reaped refused : Bool) (status : Option ℕ) → IfSome status (λ e. e ≤ 4095) → IfSome (if reaped then Some (status_of refused (unwrap_or status 0)) else None) IsStatus
told-status true refused None is = status-range refused 0 (omega arith)
told-status true refused (Some errno) is = status-range refused errno is
told-status false refused status is = tt

-- ---- fates

count-range : (s : Ticket) (f : Fate) (body : Body) → s.body ≡ body → IsBodySized body → CountedFor s.maximum body f → count_of s f ≤ 67582
count-range s f (Wanted n) is sized counted = rw is (let h = counted.count in omega arith)
count-range s f (Sent bytes) is sized counted = rw is (omega arith)

told-range : (t : ℕ) (s : Ticket) (f : Fate) → t < 2 ^ 64 → InRange s f → IsFateTold (fate_told t (info_for s f))
told-range t s f small h = record {
  ticket = small;
  status = told-status f.reaped s.refused f.status h.ends;
  count = count-range s f s.body refl h.sized h.counted;
}

-- ---- journals

tail-is : (event : Event) (past : List Event) → All IsTold (event ∷ past) → All IsTold past
tail-is event past told = λ k d h. told (suc k) d (omega arith)

head-is : (event : Event) (past : List Event) → All IsTold (event ∷ past) → IsTold event
head-is event past told = told 0 event (omega arith)

pub ranged : (past : List Event) → All IsTold past → EachActs past → AllRanged past
ranged [] told acted = tt
ranged (Submit t d e m body room deadline ∷ past) told acted =
    let parts = and_parts (eqb t (length (tickets past))) (not (is_gone past d) && wants_whole m body) acted.0 in
    let whole = and_parts (not (is_gone past d)) (wants_whole m body) parts.1 in
    let is = head-is (Submit t d e m body room deadline) past told in
    ((whole-wants m body whole.1, is.0.sized), ranged past (tail-is (Submit t d e m body room deadline) past told) acted.1)
ranged (Refuse t d e m body room errno ∷ past) told acted =
    let is = head-is (Refuse t d e m body room errno) past told in
    ((is.0.sized, is.1), ranged past (tail-is (Refuse t d e m body room errno) past told) acted.1)
ranged (Packet d e b ∷ past) told acted = (tt, ranged past (tail-is (Packet d e b) past told) acted.1)
ranged (Ack d e ∷ past) told acted = (tt, ranged past (tail-is (Ack d e) past told) acted.1)
ranged (Echo d o i ∷ past) told acted = (tt, ranged past (tail-is (Echo d o i) past told) acted.1)
ranged (Fail d e errno ∷ past) told acted =
    let is = head-is (Fail d e errno) past told in
    (is.1.1, ranged past (tail-is (Fail d e errno) past told) acted.1)
ranged (Discard t ∷ past) told acted = (tt, ranged past (tail-is (Discard t) past told) acted.1)
ranged (Reap t ∷ past) told acted = (tt, ranged past (tail-is (Reap t) past told) acted.1)
ranged (Unplug d ∷ past) told acted = (tt, ranged past (tail-is (Unplug d) past told) acted.1)

-- the tickets' numbers have 64 bits
numbers : (past : List Event) → All IsTold past → EachActs past → length (tickets past) ≤ 2 ^ 64
numbers [] told acted = omega arith
numbers (Submit t d e m body room deadline ∷ past) told acted =
    let parts = and_parts (eqb t (length (tickets past))) (not (is_gone past d) && wants_whole m body) acted.0 in
    let number = eqb-true t (length (tickets past)) parts.0 in
    let small = (head-is (Submit t d e m body room deadline) past told).0.ticket in
    omega (arith, length-append {A = Ticket})
numbers (Refuse t d e m body room errno ∷ past) told acted =
    let number = eqb-true t (length (tickets past)) acted.0 in
    let small = (head-is (Refuse t d e m body room errno) past told).0.ticket in
    omega (arith, length-append {A = Ticket})
numbers (Packet d e b ∷ past) told acted = numbers past (tail-is (Packet d e b) past told) acted.1
numbers (Ack d e ∷ past) told acted = numbers past (tail-is (Ack d e) past told) acted.1
numbers (Echo d o i ∷ past) told acted = numbers past (tail-is (Echo d o i) past told) acted.1
numbers (Fail d e errno ∷ past) told acted = numbers past (tail-is (Fail d e errno) past told) acted.1
numbers (Discard t ∷ past) told acted = numbers past (tail-is (Discard t) past told) acted.1
numbers (Reap t ∷ past) told acted = numbers past (tail-is (Reap t) past told) acted.1
numbers (Unplug d ∷ past) told acted = numbers past (tail-is (Unplug d) past told) acted.1

-- all fates of the journal are in range
pub fates-range : (past : List Event) → All IsTold past → EachActs past → All IsFateTold (fates_of past)
fates-range past told acted k d within =
    let count = length-fates past in
    let few = numbers past told acted in
    let here = slice_get-here (tickets past) k (omega arith) in
    let s = here.0 in
    let range = in-range past (ranged past told acted) k s here.1 in
    let at = get_or_from_slice_get (fates_of past) k (fate_told k (info_for s (fate past k))) d (fate-of past k s here.1) in
    rw at (told-range k s (fate past k) (omega arith) range)
