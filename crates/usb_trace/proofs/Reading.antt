-- A text that is read line by line, whose events are done again on the way.
use Rattle.std.proofs.Common.{◌≡◌, ℕ, ◌+◌, ◌≤◌, ◌<◌, List, [], ◌∷◌, ◌++◌, length, flat_map, Some, refl, sym, ap, ◌∙◌, append_assoc, arith}
use Rattle.std.specs.List.{All}
use Rattle.std.proofs.lemmas.List.{append-nil, length-append}
use Rattle.std.proofs.lemmas.List.Concat.{flat_map-append}
use Rattle.std.proofs.lemmas.List.Elements.{All-append}
use Rattle.usb_kernel.specs.declared.event.Event.{Event}
use Rattle.usb_trace_lines.specs.declared.line.TraceLine.{TraceLine}
use Rattle.usb_trace_lines.specs.declared.order.Phase.TheVariants.{Start, End}
use Rattle.usb_trace_lines.specs.Forms.{IsLineTold}
use Rattle.usb_trace_lines.specs.Order.{next_phase, phase_behind}
use Rattle.usb_trace_lines.specs.Texts.{line_text}
use Rattle.usb_trace.specs.Begins.{IsForm}
use Rattle.usb_trace.specs.Fails.{FailsFirstAt}
use Rattle.usb_trace.specs.Lines.{lines}
use Rattle.usb_trace.specs.Read.{lines_up_to, events_with, fates_with, IsStuck, HasLines, HasRead, HasText}
use Rattle.usb_trace.specs.Replayed.{IsReplayed}
use Rattle.usb_trace.specs.declared.text.LinesRead.{LinesRead}
use Rattle.usb_trace.specs.declared.text.TraceText.{TraceText}
use Rattle.usb_trace.proofs.Keeping.{phase-is, fits-more, lines-more, ended-text, all-events, all-fates, count-lines}
use Rattle.usb_trace.proofs.TextRead.{all-none, all-cons, fails-line}

-- how far a text was read
pub record ReadTo (bytes rest : List ℕ) (read : LinesRead) (line : ℕ) : Type 0 where
  pub told : List TraceLine
  pub lines : HasLines told read
  pub text : bytes ≡ flat_map line_text told ++ rest
  pub each : All IsLineTold told
  pub count : line ≡ length told + 1
  pub room : line + length rest ≤ 16777217

-- nothing was read
pub nothing-read : (bytes : List ℕ) (read : LinesRead) → HasLines [] read → length bytes ≤ 16777216 → ReadTo bytes bytes read 1
nothing-read bytes read none few = record {
  told = [];
  lines = none;
  text = refl;
  each = all-none IsLineTold;
  count = refl;
  room = omega arith;
}

-- one line more
pub line-read : (bytes rest behind first : List ℕ) (old new : LinesRead) (n : ℕ) → ReadTo bytes rest old n → rest ≡ (first ++ 10 ∷ []) ++ behind → length behind < length rest → HasRead old new first → ReadTo bytes behind new (n + 1)
line-read bytes rest behind first old new n r parts shorter more =
    let tail : flat_map line_text (more.told ∷ []) ≡ line_text more.told = append-nil (line_text more.told) in
    let grown = length-append r.told (more.told ∷ []) in
    let counted = r.count in
    let room = r.room in
    record {
      told = r.told ++ more.told ∷ [];
      lines = more.more r.told r.lines;
      text =
          r.text
          ∙ ap (λ (l : List ℕ). flat_map line_text r.told ++ l) (parts ∙ ap (λ (l : List ℕ). l ++ behind) (more.text ∙ sym tail))
          ∙ sym (append_assoc (flat_map line_text r.told) (flat_map line_text (more.told ∷ [])) behind)
          ∙ ap (λ (l : List ℕ). l ++ behind) (sym (flat_map-append line_text r.told (more.told ∷ [])));
      each = All-append IsLineTold r.told (more.told ∷ []) r.each (all-cons IsLineTold more.told [] more.is_told (all-none IsLineTold));
      count = omega arith;
      room = omega arith;
    }

-- the phase is that behind the lines
pub read-phase : (told : List TraceLine) (read : LinesRead) → HasLines told read → phase_behind Start told ≡ Some read.phase
read-phase told read h = ap (phase_behind Start) h.lines ∙ phase-is read.phase h.events read.fates.items h.fits

-- reading fails at the next line
pub fails-next : (bytes rest : List ℕ) (read : LinesRead) (n : ℕ) → ReadTo bytes rest read n → IsStuck read.phase (lines rest) → FailsFirstAt IsForm bytes n
fails-next bytes rest read n r stuck =
    fails-line bytes rest r.told read.phase n r.text r.each (read-phase r.told read r.lines) r.count stuck

-- a line is added
pub lines-next : (before : List TraceLine) (x : TraceLine) (old new : LinesRead) → HasLines before old → next_phase old.phase x ≡ Some new.phase → new.fates.items ≡ fates_with old.fates.items x → ((events : List Event) → IsReplayed events old.replay → IsReplayed (events_with events x) new.replay) → HasLines (before ++ x ∷ []) new
lines-next before x old new h next fates replayed = record {
  events = events_with h.events x;
  lines =
      ap (λ (l : List TraceLine). l ++ x ∷ []) h.lines
      ∙ sym (lines-more old.phase new.phase h.events old.fates.items x h.fits next)
      ∙ ap (lines_up_to new.phase (events_with h.events x)) (sym fates);
  fits = rw fates (fits-more old.phase new.phase h.events old.fates.items x h.fits next);
  replayed = replayed h.events h.replayed;
}

-- all was read
pub text-read : (bytes rest : List ℕ) (read : LinesRead) (n : ℕ) (text : TraceText) → ReadTo bytes rest read n → length rest ≡ 0 → read.phase ≡ End → text.replay ≡ read.replay → text.fates.items ≡ read.fates.items → HasText bytes text
text-read bytes rest read n text r none ended replay fates =
    let h = r.lines in
    let es = h.events in
    let fs = read.fates.items in
    let whole : r.told ≡ lines_up_to End es fs = rw ended at h.lines in
    let told : All IsLineTold (lines_up_to End es fs) = rw whole at r.each in
    let count = ap length whole ∙ count-lines es fs in
    let counted = r.count in
    let room = r.room in
    record {
      events = es;
      is = ended-text bytes rest r.told es text.fates.items r.text none (rw fates whole);
      told = all-events es fs told;
      fates = rw fates (all-fates es fs told);
      few = rw fates (omega arith);
      replayed = rw replay h.replayed;
    }
