use Rattle.std.proofs.Common.{◌≡◌, ℕ, List, [], ◌++◌, flat_map, reverse, refl}
use Rattle.std.proofs.lemmas.List.{append-nil}
use Rattle.std.proofs.lemmas.Result.{err_from_is_err_and, on_ok_weaker, on_err_weaker}
use Rattle.usb_kernel.specs.declared.event.Event.{Event}
use Rattle.usb_trace_lines.specs.Fates.{fates_of}
use Rattle.usb_trace_lines.specs.Texts.{first_line, last_line, event_text, fate_text, trace}
use Rattle.usb_trace_lines.specs.Types.{IsTyped}
use Rattle.usb_trace_lines.specs.Written.{LinesState, HasWritten}
use Rattle.usb_trace_lines.proofs.Each.{all-forward}
use Rattle.usb_trace_lines.proofs.FatesTold.{trace-parts}
use Rattle.usb_trace_lines.proofs.Going.{Going, going-start, going-on, going-cut, going-all}
use Rattle.usb_trace_lines.proofs.writing.write_trace.Goals as goal

abbrev events : List Event → List ℕ
events past = flat_map event_text (reverse past)

abbrev fates : List Event → List ℕ
fates past = flat_map fate_text (fates_of past)

after_first : (s first : LinesState) (past : List Event) → s.begun ≡ [] → HasWritten s first first_line → Going s first (trace past) (events past ++ (fates past ++ last_line))
after_first s first past empty w = going-on first first_line (events past ++ (fates past ++ last_line)) (going-start s (trace past) empty) w (trace-parts past)

after_events : (s first second : LinesState) (past : List Event) → s.begun ≡ [] → HasWritten s first first_line → HasWritten first second (events past) → Going s second (trace past) (fates past ++ last_line)
after_events s first second past empty w v = going-on second (events past) (fates past ++ last_line) (after_first s first past empty w) v refl

after_fates : (s first second third : LinesState) (past : List Event) → s.begun ≡ [] → HasWritten s first first_line → HasWritten first second (events past) → HasWritten second third (fates past) → Going s third (trace past) last_line
after_fates s first second third past empty w v u = going-on third (fates past) last_line (after_events s first second past empty w v) u refl

pub returns-in_err-write_line-clause-err : goal.returns-in_err-write_line-clause-err
returns-in_err-write_line-clause-err g c =
    let p = err_from_is_err_and c.from_residual.result c.from_residual.ensures.1 in
    let past = c.args.kernel.now.past in
    rw p.1
    (going-cut (g.K.Lines.state c.write_line.new.out) first_line (events past ++ (fates past ++ last_line)) (going-start (g.K.Lines.state c.args.out.now) (trace past) c.requires.empty) c.in_err-write_line.ensures.err (trace-parts past))

pub write_events-requires-clause-sized : goal.write_events-requires-clause-sized
write_events-requires-clause-sized g c = rw c.journal.ensures.events c.requires.sized

pub returns-in_err-write_events-clause-err : goal.returns-in_err-write_events-clause-err
returns-in_err-write_events-clause-err g c =
    let p = err_from_is_err_and c.from_residual-in_err-write_events.result c.from_residual-in_err-write_events.ensures.1 in
    let past = c.args.kernel.now.past in
    rw p.1
    (going-cut (g.K.Lines.state c.write_events.new.out) (events past) (fates past ++ last_line)
    (after_first (g.K.Lines.state c.args.out.now) (g.K.Lines.state c.write_line.new.out) past c.requires.empty c.in_ok-write_line.ensures.ok)
    (rw c.journal.ensures.events at c.in_err-write_events.ensures.err) refl)

pub returns-in_err-write_fates-clause-err : goal.returns-in_err-write_fates-clause-err
returns-in_err-write_fates-clause-err g c =
    let p = err_from_is_err_and c.from_residual-in_err-write_fates.result c.from_residual-in_err-write_fates.ensures.1 in
    let past = c.args.kernel.now.past in
    rw p.1
    (going-cut (g.K.Lines.state c.write_fates.new.out) (fates past) last_line
    (after_events (g.K.Lines.state c.args.out.now) (g.K.Lines.state c.write_line.new.out) (g.K.Lines.state c.write_events.new.out) past c.requires.empty c.in_ok-write_line.ensures.ok (rw c.journal.ensures.events at c.in_ok-write_events.ensures.ok))
    c.in_err-write_fates.ensures.err refl)

pub returns-clause-ok : goal.returns-clause-ok
returns-clause-ok g c =
    let past = c.args.kernel.now.past in
    let going = after_fates (g.K.Lines.state c.args.out.now) (g.K.Lines.state c.write_line.new.out) (g.K.Lines.state c.write_events.new.out) (g.K.Lines.state c.write_fates.new.out) past c.requires.empty c.in_ok-write_line.ensures.ok (rw c.journal.ensures.events at c.in_ok-write_events.ensures.ok) c.in_ok-write_fates.ensures.ok in
    on_ok_weaker c.write_line-2.result (λ w. going-all (going-on (g.K.Lines.state c.write_line-2.new.out) last_line [] going w (append-nil last_line)) refl) c.write_line-2.ensures.ok

pub returns-clause-err : goal.returns-clause-err
returns-clause-err g c =
    let past = c.args.kernel.now.past in
    let going = after_fates (g.K.Lines.state c.args.out.now) (g.K.Lines.state c.write_line.new.out) (g.K.Lines.state c.write_events.new.out) (g.K.Lines.state c.write_fates.new.out) past c.requires.empty c.in_ok-write_line.ensures.ok (rw c.journal.ensures.events at c.in_ok-write_events.ensures.ok) c.in_ok-write_fates.ensures.ok in
    on_err_weaker c.write_line-2.result (λ f. going-cut (g.K.Lines.state c.write_line-2.new.out) last_line [] going f (append-nil last_line)) c.write_line-2.ensures.err

pub returns-clause-typed : goal.returns-clause-typed
returns-clause-typed g c =
    let past = c.args.kernel.now.past in
    let typed = all-forward IsTyped past (rw c.journal.ensures.events at c.in_ok-write_events.ensures.typed) in
    on_ok_weaker c.write_line-2.result (λ w. typed) c.write_line-2.ensures.ok
