-- A reader with a lasting error and no unread byte doesn't turn, so each read tells the error.
use Rattle.std.proofs.Common.{◌≡◌, ◌-◌, ℕ, zero, suc, length, Bool, true, false, List, [], ◌∷◌, Err, refl, ap}
use Rattle.usb_xfer.specs.declared.error.TransferError.{TransferError}
use Rattle.usb_device_endpoint.specs.BusCalls.{BusCalls}
use Rattle.usb_io.specs.Readers.{ReaderState, turns}
use Rattle.usb_io.specs.Reads.{Reading, Turns, submit_more, pending_of, turned}
use Rattle.usb_io.specs.Answers.{answer, read_of}
use Rattle.usb_io.specs.LastingErrors.{HasFailed, ReadTellsError, FillTellsError, NeedsNoMemory, SubmissionsKeepError, CancelledLeavesBytes}
use Rattle.usb_io.specs.declared.turned.Turned.TheVariants.{Stands}
use Rattle.usb_io.specs.declared.fault.ReadFault.TheVariants.{Transfer}
use Rattle.usb_io.proofs.AnswerLemmas.{fill_is}
use Rattle.usb_io.proofs.TurnLemmas.{turning-first, turning-stands}

-- it doesn't turn
failed-turns : (us : Bool) (r : ReaderState) (e : TransferError) → HasFailed r e → turns us r ≡ false
failed-turns us r e h = rw (h.unread, h.error) refl

failed-stands : {S : Type 0} (k : BusCalls S) (us : Bool) (timeout : ℕ) (w : Reading S) (e : TransferError) → HasFailed w.reader e → turned k us timeout w ≡ (Stands, w)
failed-stands k us timeout w e h = turning-stands k us timeout w w _ (turning-first k us timeout w) (failed-turns us w.reader e h)

failed-answer : (us : Bool) (r : ReaderState) (e : TransferError) → HasFailed r e → answer us Stands r ≡ Err (Transfer e)
failed-answer us r e h = rw (h.unread, h.error) refl

-- calls that lend the bytes, and reads
pub fill_tells_error : {S : Type 0} (k : BusCalls S) → FillTellsError k
fill_tells_error k us timeout w e h = fill_is k us timeout w w Stands (Err (Transfer e)) (failed-stands k us timeout w e h) (failed-answer us w.reader e h)

pub read_tells_error : {S : Type 0} (k : BusCalls S) → ReadTellsError k
read_tells_error k us timeout most w e h = ap (read_of most) (fill_tells_error k us timeout w e h)

-- no turn lacks memory
turns-stay : {S : Type 0} (k : BusCalls S) (us : Bool) (timeout : ℕ) (ws : List (Reading S)) (old last : Reading S) → turns us old.reader ≡ false → Turns k us timeout ws old last → turns us last.reader ≡ true → ⊥
turns-stay k us timeout [] old last off are goes = cc (off, ap (λ (w : Reading _). turns us w.reader) are, goes)
turns-stay k us timeout (w ∷ ws) old last off are goes = cc (off, are.0)

pub needs_no_memory : {S : Type 0} (k : BusCalls S) → NeedsNoMemory k
needs_no_memory k us timeout old new e h short = turns-stay k us timeout short.ws old short.last (failed-turns us old.reader e h) short.are short.goes

-- submissions
submitted-failed : {S : Type 0} (k : BusCalls S) (i : ℕ) (w : Reading S) (e : TransferError) → HasFailed w.reader e → HasFailed (submit_more k i w).reader e
submitted-failed k zero w e h = h
submitted-failed k (suc i) w e h = let was = submitted-failed k i w e h in record { unread = was.unread; error = was.error }

pub submissions_keep_error : {S : Type 0} (k : BusCalls S) → SubmissionsKeepError k
submissions_keep_error k goal w e h = submitted-failed k (goal - length (pending_of w)) w e h

-- a transfer that was cancelled
pub cancelled_leaves_bytes : CancelledLeavesBytes
cancelled_leaves_bytes c others r is = rw is refl
