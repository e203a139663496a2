-- What the calls of a writer and of a reader come to, one after another.
use Rattle.std.proofs.Common.{◌≡◌, ◌∙◌, ◌≤◌, ◌+◌, ◌-◌, ℕ, arith, List, [], ◌∷◌, ◌++◌, length, take, drop, map, Result, Ok, Err, inl, inr, refl, ap, sym, subst, append_assoc, length-drop}
use Rattle.std.specs.Prelude.{true, ◌⊎◌, OnOk}
use Rattle.std.proofs.Math.Seq.{take-add, take-length}
use Rattle.std.proofs.lemmas.List.{append-nil, map-append}
use Rattle.usb_desc.specs.declared.error.Fail.{Fail}
use Rattle.usb_desc.specs.declared.error.Fail.TheVariants.{Cause, Memory}
use Rattle.usb_xfer.specs.declared.error.TransferError.{TransferError}
use Rattle.usb_xfer.specs.declared.error.TransferError.TheVariants as error
use Rattle.usb_kernel.specs.declared.event.Event.{Event}
use Rattle.usb_kernel.specs.Legal.{IsLawful}
use Rattle.usb_kernel.specs.Extends.{Extends}
use Rattle.usb_device_endpoint.specs.BusState.{BusState}
use Rattle.usb_device_endpoint.specs.BusCalls.{BusCalls}
use Rattle.usb_device_host.specs.HostState.{HostState}
use Rattle.usb_device_host.specs.HostBus.{bus_of}
use Rattle.usb_device_host.specs.HostCalls.{host_calls}
use Rattle.usb_io.specs.Streams.{Mark, Byte, End}
use Rattle.usb_io.specs.Following.{Follows, FollowsRead}
use Rattle.usb_io.specs.Readers.{ReaderState, is_end, without_end}
use Rattle.usb_io.specs.Reads.{Reading, reading}
use Rattle.usb_io.specs.Writers.{WriterState, Writing, writing}
use Rattle.usb_io.specs.Writes.{Accept, Finish, after_writes}
use Rattle.usb_io.specs.Carried.{TellsOn}
use Rattle.usb_io.specs.Fronts.{Drained}
use Rattle.usb_io.specs.Answered.{Answered, answered}
use Rattle.usb_io.specs.Answers.{ReadFails}
use Rattle.usb_io.specs.WriteAnswers.{accepted_count, accepting, write_drained, write_came, WriteFails, flush_end_came, FlushEndFails}
use Rattle.usb_io.specs.declared.fault.ReadFault.{ReadFault}
use Rattle.usb_io.specs.declared.fault.ReadFault.TheVariants as read
use Rattle.usb_io.specs.declared.fault.WriteFault.{WriteFault}
use Rattle.usb_io.specs.declared.fault.WriteFault.TheVariants as write
use Rattle.usb_io.proofs.Following.{later_follows, ending_follows}
use Rattle.usb_io.proofs.Carrying.{tells_same, tells_trans}
use Rattle.usb_io.proofs.CarriedLaws.{later_tells}
use Rattle.example_messages.specs.declared.fault.Fault.{Fault}
use Rattle.example_messages.specs.declared.fault.Fault.TheVariants as fault
use Rattle.example_messages.specs.Endpoints.{MessagesState}
use Rattle.example_messages.specs.Faults.{write_fault, read_fault, fail_with}
use Rattle.example_messages.specs.Asking.{WritesBytes, WritesMessage, ReadsMessage, WriteFailed, ReadFailed, CameTooLong, SendFails, ReceiveFails, Fails}

-- a write accepts no more than it was given
accepted-few : {S : Type 0} (k : BusCalls S) (src : List ℕ) (d : Drained S) (n : ℕ) (new : Writing S) →
    accepting k src d.answer d.left ≡ answered (Ok n) new → n ≤ length src
accepted-few {S = S} k src d n new is = by d.answer is
  where
    by : (a : Result (Unit {0}) WriteFault) → accepting k src a d.left ≡ answered (Ok n) new → n ≤ length src
    by (Ok u) is =
        let same : Ok (accepted_count src d.left.writer) ≡ Ok n = ap (λ (a : Answered ℕ WriteFault (Writing S)). a.answer) is in
        let count : accepted_count src d.left.writer ≡ n = cc in
        omega (arith, count)
    by (Err f) is = absurd (let same : Err f ≡ Ok n = ap (λ (a : Answered ℕ WriteFault (Writing S)). a.answer) is in cc)

pub write-few : {S : Type 0} (k : BusCalls S) (timeout : ℕ) (src : List ℕ) (old new : Writing S) (n : ℕ) →
    write_came k timeout src old ≡ answered (Ok n) new → n ≤ length src
write-few k timeout src old new n is = accepted-few k src (write_drained k timeout old) n new is

-- the rest of a request is what is behind the bytes that were done
rest-is : (done : ℕ) (request : List ℕ) → take (length request - done) (drop done request) ≡ drop done request
rest-is done request =
    ap (λ i. take i (drop done request)) (sym (length-drop done request)) ∙ take-length (drop done request)

pub rest-few : (done n : ℕ) (request : List ℕ) → done ≤ length request → n ≤ length (take (length request - done) (drop done request)) →
    done + n ≤ length request
rest-few done n request within few =
    let count : length (take (length request - done) (drop done request)) ≡ length request - done =
    ap length (rest-is done request) ∙ length-drop done request in
    omega (arith, count, few, within)

-- nothing is written to begin with, then more, and then the end
pub writes-none : (b : BusState) (w : WriterState) (request : List ℕ) → WritesBytes b b w w (take 0 request)
writes-none b w request = record { writes = []; are = refl; tells = tells_same b w }

pub writes-more : (x y z : BusState) (r s t : WriterState) (request src : List ℕ) (done n : ℕ) →
    src ≡ take (length request - done) (drop done request) → WritesBytes x y r s (take done request) → TellsOn y z s t (Accept (take n src) ∷ []) → WritesBytes x z r t (take (done + n) request)
writes-more x y z r s t request src done n rest before tells = record {
  writes = take n src ∷ before.writes;
  are = ap (λ (ms : List Mark). ms ++ map Byte (take n src)) before.are
      ∙ (sym (map-append Byte (take done request) (take n src))
      ∙ ap (map Byte) (ap (λ (bs : List ℕ). take done request ++ take n bs) (rest ∙ rest-is done request) ∙ sym (take-add done n request)));
  tells = tells_trans x y z r s t (after_writes before.writes []) (Accept (take n src) ∷ []) before.tells tells;
}

pub writes-end : (x y z : BusState) (r s t : WriterState) (bytes : List ℕ) (mid new : HostState) → WritesBytes x y r s bytes →
    TellsOn y z s t (Finish ∷ []) → flush_end_came host_calls s.timeout (writing mid s) ≡ answered (Ok tt) (writing new t) → WritesMessage x z r t bytes
writes-end x y z r s t bytes mid new before tells well = record {
  writes = before.writes;
  are = before.are;
  tells = tells_trans x y z r s t (after_writes before.writes []) (Finish ∷ []) before.tells tells;
  before = writing mid s;
  behind = new;
  went_well = well;
}

-- it stays so, whatever comes
pub writes-later : (x y z : BusState) (w w' : WriterState) (bytes : List ℕ) → Extends y.past z.past → WritesMessage x y w w' bytes →
    WritesMessage x z w w' bytes
writes-later x y z w w' bytes extends message = record {
  writes = message.writes;
  are = message.are;
  tells = λ h t. let one = message.tells h t in (one.0, one.1, one.2, one.3, later_tells y.past z.past w' one.0 extends one.4);
  before = message.before;
  behind = message.behind;
  went_well = message.went_well;
}

-- the events before a lawful journal's last ones are lawful
lawful-before : (old new : List Event) → Extends old new → IsLawful new → IsLawful old
lawful-before old new extends lawful = go extends.more (subst IsLawful extends.is lawful)
  where
    go : (more : List Event) → IsLawful (more ++ old) → IsLawful old
    go [] lawful = lawful
    go (event ∷ more) lawful = go more lawful.1

-- nothing is read to begin with, and then more
pub reads-none : (b : BusState) (r : ReaderState) → FollowsRead b b r r []
reads-none b r lawful h follows = (h, sym (append-nil h.consumed), follows)

pub reads-more : (x y z : BusState) (r s t : ReaderState) (first second : List ℕ) → Extends y.past z.past → FollowsRead x y r s first →
    FollowsRead y z s t second → FollowsRead x z r t (first ++ second)
reads-more x y z r s t first second extends before more lawful h follows =
    let one = before (lawful-before y.past z.past extends lawful) h follows in
    let two = more lawful one.0 one.2 in (
      two.0,
      two.1 ∙ (ap (λ (ms : List Mark). ms ++ map Byte second) one.1
          ∙ (append_assoc h.consumed (map Byte first) (map Byte second) ∙ ap (λ (ms : List Mark). h.consumed ++ ms) (sym (map-append Byte first second)))),
      two.2,
    )

-- and then the end
pub reads-end : (x z : BusState) (r t u : ReaderState) (bytes : List ℕ) → FollowsRead x z r t bytes → is_end t ≡ true → u ≡ without_end t →
    ReadsMessage x z r u bytes
reads-end x z r t u bytes before ended taken lawful h follows =
    let one = before lawful h follows in (
      record one.0 { consumed = one.0.consumed ++ End ∷ [] },
      ap (λ (ms : List Mark). ms ++ End ∷ []) one.1,
      subst (λ (u : ReaderState). Follows z.past u (record one.0 { consumed = one.0.consumed ++ End ∷ [] })) (sym taken)
          (ending_follows z.past t one.0 ended one.2),
    )

-- it is so also where the journal went on before
pub answer-later : (x y z : BusState) (r u : ReaderState) (bytes : List ℕ) → Extends x.past y.past → ReadsMessage y z r u bytes →
    ReadsMessage x z r u bytes
answer-later x y z r u bytes extends message lawful h follows = message lawful h (later_follows x.past y.past r h extends follows)

pub long-later : (x y z : BusState) (r u : ReaderState) → Extends x.past y.past → CameTooLong y z r u → CameTooLong x z r u
long-later x y z r u extends long = record {
  bytes = long.bytes;
  long = long.long;
  read = λ lawful h follows. long.read lawful h (later_follows x.past y.past r h extends follows);
}

-- the fault of a writer, and of a reader
sent-fails : (new : Writing HostState) (f : WriteFault) → WriteFailed new (write_fault f) → SendFails new (Cause (write_fault f))
sent-fails new write.TimedOut failed = failed
sent-fails new (write.Transfer e) failed = by e failed
  where
    by : (e : TransferError) → WriteFailed new (write_fault (write.Transfer e)) → SendFails new (Cause (write_fault (write.Transfer e)))
    by error.Cancelled failed = failed
    by error.Stall failed = failed
    by error.Disconnected failed = failed
    by error.Fault failed = failed
    by error.InvalidArgument failed = failed
    by (error.Unknown code) failed = failed

pub write-fails : (old new : Writing HostState) (src : List ℕ) (fail : Fail WriteFault) →
    WriteFails host_calls old.writer.timeout src old new fail → SendFails new (fail_with write_fault fail)
write-fails old new src Memory failed = tt
write-fails old new src (Cause f) failed =
    sent-fails new f (record { before = old; bytes = src; answer = f; is = inl failed; fault_is = refl })

pub end-fails : (old new : Writing HostState) (fail : Fail WriteFault) →
    FlushEndFails host_calls old.writer.timeout old new fail → SendFails new (fail_with write_fault fail)
end-fails old new Memory failed = tt
end-fails old new (Cause f) failed =
    sent-fails new f (record { before = old; bytes = []; answer = f; is = inr failed; fault_is = refl })

received-fails : (b : BusState) (r : ReaderState) (new : Reading HostState) (f : ReadFault) → ReadFailed new (read_fault f) →
    ReceiveFails b r new (Cause (read_fault f))
received-fails b r new read.TimedOut failed = failed
received-fails b r new read.UnexpectedEof failed = tt
received-fails b r new (read.Transfer e) failed = by e failed
  where
    by : (e : TransferError) → ReadFailed new (read_fault (read.Transfer e)) → ReceiveFails b r new (Cause (read_fault (read.Transfer e)))
    by error.Cancelled failed = failed
    by error.Stall failed = failed
    by error.Disconnected failed = failed
    by error.Fault failed = failed
    by error.InvalidArgument failed = failed
    by (error.Unknown code) failed = failed

pub read-fails : (b : BusState) (r : ReaderState) (old new : Reading HostState) (most : ℕ) (fail : Fail ReadFault) →
    ReadFails host_calls true old.reader.timeout most old new fail → ReceiveFails b r new (fail_with read_fault fail)
read-fails b r old new most Memory failed = tt
read-fails b r old new most (Cause f) failed =
    received-fails b r new f (record { before = old; most = most; answer = f; is = failed; fault_is = refl })

-- neither fails as what is no fault of theirs
not-write : (f : Fault) (a : WriteFault) → f ≡ write_fault a → (f ≡ fault.Unsettled) ⊎ (f ≡ fault.TooLong) → ⊥
not-write f write.TimedOut is other = elim other [ inl same ↦ cc (is, same) | inr same ↦ cc (is, same) ]
not-write f (write.Transfer e) is other = by e is
  where
    by : (e : TransferError) → f ≡ write_fault (write.Transfer e) → ⊥
    by error.Cancelled is = elim other [ inl same ↦ cc (is, same) | inr same ↦ cc (is, same) ]
    by error.Stall is = elim other [ inl same ↦ cc (is, same) | inr same ↦ cc (is, same) ]
    by error.Disconnected is = elim other [ inl same ↦ cc (is, same) | inr same ↦ cc (is, same) ]
    by error.Fault is = elim other [ inl same ↦ cc (is, same) | inr same ↦ cc (is, same) ]
    by error.InvalidArgument is = elim other [ inl same ↦ cc (is, same) | inr same ↦ cc (is, same) ]
    by (error.Unknown code) is = elim other [ inl same ↦ cc (is, same) | inr same ↦ cc (is, same) ]

not-read : (a : ReadFault) → fault.Unsettled ≡ read_fault a → ⊥
not-read read.TimedOut is = cc
not-read read.UnexpectedEof is = cc
not-read (read.Transfer e) is = by e is
  where
    by : (e : TransferError) → fault.Unsettled ≡ read_fault (read.Transfer e) → ⊥
    by error.Cancelled is = cc
    by error.Stall is = cc
    by error.Disconnected is = cc
    by error.Fault is = cc
    by error.InvalidArgument is = cc
    by (error.Unknown code) is = cc

-- so a request fails where it is not sent, and where no answer is received
pub fails-sending : (old new : HostState) (m m' : MessagesState) (e : Fail Fault) → SendFails (writing new m'.writer) e → Fails old new m m' e
fails-sending old new m m' Memory failed = tt
fails-sending old new m m' (Cause fault.Stuck) failed = tt
fails-sending old new m m' (Cause fault.Unsettled) failed = absurd (not-write fault.Unsettled failed.answer failed.fault_is (inl refl))
fails-sending old new m m' (Cause fault.TooLong) failed = absurd (not-write fault.TooLong failed.answer failed.fault_is (inr refl))
fails-sending old new m m' (Cause fault.Stalled) failed = inl failed
fails-sending old new m m' (Cause fault.Unplugged) failed = inl failed
fails-sending old new m m' (Cause fault.TimedOut) failed = inl failed
fails-sending old new m m' (Cause (fault.Failed error)) failed = inl failed

pub fails-receiving : (old mid new : HostState) (m m' : MessagesState) (r : ReaderState) (e : Fail Fault) → Extends (bus_of old).past (bus_of mid).past →
    r ≡ m.reader → ReceiveFails (bus_of mid) r (reading new m'.reader) e → Fails old new m m' e
fails-receiving old mid new m m' r Memory extends same failed = tt
fails-receiving old mid new m m' r (Cause fault.Stuck) extends same failed = tt
fails-receiving old mid new m m' r (Cause fault.Unsettled) extends same failed = absurd (not-read failed.answer failed.fault_is)
fails-receiving old mid new m m' r (Cause fault.TooLong) extends same failed =
    long-later (bus_of old) (bus_of mid) (bus_of new) m.reader m'.reader extends
    (subst (λ (r : ReaderState). CameTooLong (bus_of mid) (bus_of new) r m'.reader) same failed)
fails-receiving old mid new m m' r (Cause fault.Stalled) extends same failed = inr failed
fails-receiving old mid new m m' r (Cause fault.Unplugged) extends same failed = inr failed
fails-receiving old mid new m m' r (Cause fault.TimedOut) extends same failed = inr failed
fails-receiving old mid new m m' r (Cause (fault.Failed error)) extends same failed = inr failed

-- what is so anyway is so where a call went well
pub on-ok : {A E : Type 0} (r : Result A E) (P : Type 0) → P → OnOk r P
on-ok (Ok x) P holds = holds
on-ok (Err error) P holds = tt
