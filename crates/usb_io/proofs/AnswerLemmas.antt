-- The bytes that a read answers once it has turned.
use Rattle.std.proofs.Common.{◌≡◌, ◌≤◌, ◌∙◌, ℕ, arith, Bool, List, ◌++◌, length, take, drop, min, Result, Ok, Err, ap, sym}
use Rattle.std.proofs.Math.Seq.{take-length}
use Rattle.std.proofs.lemmas.List.{take-append-le, length-take-le}
use Rattle.std.proofs.lemmas.Slice.{drop-append-drop}
use Rattle.usb_device_endpoint.specs.BusCalls.{BusCalls}
use Rattle.usb_io.specs.Readers.{with_read}
use Rattle.usb_io.specs.Reads.{Reading, reading, turned}
use Rattle.usb_io.specs.Answered.{answered}
use Rattle.usb_io.specs.Answers.{answer, answered_by, fill_came, read_of, read_came}
use Rattle.usb_io.specs.declared.turned.Turned.{Turned}
use Rattle.usb_io.specs.declared.fault.ReadFault.{ReadFault}

-- what turns came to is answered
pub fill_is : {S : Type 0} (k : BusCalls S) (until_short : Bool) (timeout : ℕ) (old new : Reading S) (to : Turned) (a : Result (List ℕ) ReadFault)
    → turned k until_short timeout old ≡ (to, new) → answer until_short to new.reader ≡ a → fill_came k until_short timeout old ≡ answered a new
fill_is k until_short timeout old new to a came is = ap (answered_by until_short) came ∙ ap (λ (a : Result (List ℕ) ReadFault). answered a new) is

-- the bytes that were copied are the first of what is there then
first-bytes : (n : ℕ) (bytes dest after : List ℕ) → n ≤ length bytes → after ≡ take n bytes ++ drop n dest → take n after ≡ take n bytes
first-bytes n bytes dest after few copied =
    let all = length-take-le n bytes few in
    let le : n ≤ length (take n bytes) = omega (arith, all) in
    ap (take n) copied ∙ take-append-le n (take n bytes) (drop n dest) le ∙ ap (λ (i : ℕ). take i (take n bytes)) (sym all) ∙ take-length (take n bytes)

-- and behind them nothing was written
pub behind_copied : (n : ℕ) (bytes dest after : List ℕ) → n ≡ min (length dest) (length bytes) → after ≡ take n bytes ++ drop n dest → drop n after ≡ drop n dest
behind_copied n bytes dest after count copied =
    let few : n ≤ length bytes = omega (arith, count) in
    ap (drop n) copied ∙ drop-append-drop n dest (take n bytes) n (omega arith) (length-take-le n bytes few)

-- of which as many are handed over as fit
pub read_is : {S : Type 0} (k : BusCalls S) (until_short : Bool) (timeout : ℕ) (old mid new : Reading S) (bytes dest after : List ℕ) (n : ℕ)
    → fill_came k until_short timeout old ≡ answered (Ok bytes) mid → n ≡ min (length dest) (length bytes) → after ≡ take n bytes ++ drop n dest → new ≡ reading mid.bus (with_read n mid.reader)
    → read_came k until_short timeout (length dest) old ≡ answered (Ok (take n after)) new
read_is {S = S} k until_short timeout old mid new bytes dest after n came count copied rest =
    let few : n ≤ length bytes = omega (arith, count) in
    ap (read_of (length dest)) came
    ∙ ap (λ (i : ℕ). answered (Ok (take i bytes)) (reading mid.bus (with_read i mid.reader))) (sym count)
    ∙ ap (λ (bs : List ℕ). answered (Ok bs) (reading mid.bus (with_read n mid.reader))) (sym (first-bytes n bytes dest after few copied))
    ∙ ap (λ (w : Reading S). answered (Ok (take n after)) w) (sym rest)

-- a read fails where a call does that lends the bytes
pub read_failed : {S : Type 0} (k : BusCalls S) (until_short : Bool) (timeout most : ℕ) (old new : Reading S) (e : ReadFault)
    → fill_came k until_short timeout old ≡ answered (Err e) new → read_came k until_short timeout most old ≡ answered (Err e) new
read_failed k until_short timeout most old new e is = ap (read_of most) is
