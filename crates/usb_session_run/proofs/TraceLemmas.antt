-- Why a script has no trace.
use Rattle.std.proofs.Common.{IfErr, OnOk, IsErrOf, ◌≡◌, ℕ, ◌<◌, true, false, List, [], ◌∷◌, codes, length, reverse, Result, Ok, Err, refl, sym, ap, subst, arith}
use Rattle.std.specs.List.{All}
use Rattle.std.specs.Str.{bytes_eq}
use Rattle.std.proofs.lemmas.Slice.Eq.{bytes_eq-Decides}
use Rattle.std.specs.declared.option.Option.{Option}
use Rattle.std.specs.Io.KnownBytes.{Appends, Keeps}
use Rattle.usb_kernel.specs.declared.event.Event.{Event}
use Rattle.usb_kernel.specs.Value.{KernelState}
use Rattle.usb_kernel.specs.Legal.{IsLawful}
use Rattle.usb_script_lines.specs.declared.item.Item.{Item}
use Rattle.usb_script.specs.declared.error.SessionError.{SessionError}
use Rattle.usb_script.specs.declared.error.SessionError.TheVariants.{Malformed, TooLong, ReadFault, WriteFault, Memory}
use Rattle.usb_script.specs.Outcome.{OrMemory}
use Rattle.usb_script.specs.Parse.{script_of}
use Rattle.usb_session.specs.Output.{final_host}
use Rattle.usb_session_sizes.specs.Bounds.{AreBounded}
use Rattle.usb_session_sizes.proofs.Law.{journals_are_bounded}
use Rattle.usb_session_sizes.proofs.Directed.{bounded_journals_are_directed}
use Rattle.usb_session_sizes.proofs.Sized.{bounded_journals_are_sized}
use Rattle.usb_trace_lines.specs.Directions.{IsDirected}
use Rattle.usb_trace_lines.specs.Forms.{IsSized}
use Rattle.usb_trace_lines.specs.Texts.{trace}
use Rattle.usb_trace.specs.Verdicts.{IsTrace}
use Rattle.usb_session_run.specs.Causes.{ReadWhole, FailedLast, WrotePart, IsWritingError}
use Rattle.usb_session_run.specs.Session.{Streams, ReadAs}
use Rattle.usb_session_run.specs.Checks.{is_check}
use Rattle.usb_session_run.specs.Traces.{is_trace, IsTraced, IsUntraced, WroteTrace}
use Rattle.usb_session_run.proofs.SessionLemmas.{parsing_reason, small_is_malformed}

-- what was read doesn't parse
pub parsing_untraced : (old new : Streams) (e : SessionError) (bytes : List ℕ) → ReadWhole old.left new.left bytes → length bytes < 1048577 → OrMemory {X = List Item} (Err e) (script_of bytes) → Keeps old.written new.written → IsUntraced old new e
parsing_untraced old new (Malformed line) bytes read few parsed kept = parsing_reason old new (Malformed line) bytes read few parsed kept
parsing_untraced old new TooLong bytes read few parsed kept = parsing_reason old new TooLong bytes read few parsed kept
parsing_untraced old new ReadFault bytes read few parsed kept = parsing_reason old new ReadFault bytes read few parsed kept
parsing_untraced old new WriteFault bytes read few parsed kept = let m = small_is_malformed bytes WriteFault few parsed in let e = m.1 in cc
parsing_untraced old new Memory bytes read few parsed kept = kept

-- of a run whose kernel is that of a script's last host, the trace is that of the script
module _ (old new : Streams) (items : List Item) (k : KernelState) (read : ReadAs old new (Ok items)) (is : k ≡ (final_host items).kernel) where
  pub traced : Appends old.written new.written (trace k.past) → IsTraced old new
  traced wrote =
      record {
        items = items;
        script = read;
        wrote = subst (λ (x : KernelState). Appends old.written new.written (trace x.past)) is wrote;
      }

  -- writing failed, or memory was lacking before anything was written
  pub writing_untraced : (last : Type 0) (r : Result (Unit {0}) SessionError) → (IsErrOf r WriteFault → WrotePart old.written new.written (trace k.past)) → (IsErrOf r WriteFault → FailedLast old.write_faults new.write_faults last) → (IsErrOf r Memory → Keeps old.written new.written) → IfErr r IsWritingError → IfErr r (IsUntraced old new)
  writing_untraced last (Ok done) part stops memory only = tt
  writing_untraced last (Err (Malformed line)) part stops memory only = absurd only
  writing_untraced last (Err TooLong) part stops memory only = absurd only
  writing_untraced last (Err ReadFault) part stops memory only = absurd only
  writing_untraced last (Err WriteFault) part stops memory only =
      let rose = (stops refl).one in (
        omega (arith, rose),
        record {
          items = items;
          script = read;
          wrote = subst (λ (x : KernelState). WrotePart old.written new.written (trace x.past)) is (part refl);
        },
      )
  writing_untraced last (Err Memory) part stops memory only = memory refl

-- a trace can tell each event of the last journal of a script
pub script_is_sized : (bytes : List ℕ) (items : List Item) (k : KernelState) → script_of bytes ≡ Ok items → k ≡ (final_host items).kernel → IsLawful k.past → All IsSized (reverse k.past)
script_is_sized bytes items k parsed is lawful =
    bounded_journals_are_sized k.past (subst (λ (x : KernelState). AreBounded x.past) (sym is) (journals_are_bounded.end bytes items parsed)) lawful

-- and each body goes with the direction of its endpoint
pub script_is_directed : (bytes : List ℕ) (items : List Item) (k : KernelState) → script_of bytes ≡ Ok items → k ≡ (final_host items).kernel → All IsDirected k.past
script_is_directed bytes items k parsed is = bounded_journals_are_directed k.past (subst (λ (x : KernelState). AreBounded x.past) (sym is) (journals_are_bounded.end bytes items parsed))

-- what was written whole is the trace of a journal in which each event acts
pub wrote_trace : (old new : Option (List ℕ)) (past : List Event) (r : Result (Unit {0}) SessionError) → All IsDirected past → OnOk r (Appends old new (trace past)) → OnOk r (All IsDirected past → IsTrace (trace past)) → OnOk r (WroteTrace old new)
wrote_trace old new past (Ok done) directed wrote right = record { text = trace past; right = right directed; wrote = wrote }
wrote_trace old new past (Err e) directed wrote right = tt

-- the word `check` is not the word `trace`
pub check-no-trace : (words : List (List ℕ)) → is_check words ≡ true → is_trace words ≡ false
check-no-trace [] is = refl
check-no-trace (word ∷ []) is = ap (λ (w : List ℕ). bytes_eq w (codes "trace")) ((bytes_eq-Decides word (codes "check")).0 is)
check-no-trace (word ∷ next ∷ words) is = refl
