use Rattle.std.proofs.Common.{◌≡◌, [], ◌∷◌, false, ap, sym, ◌∙◌, rules}
use Rattle.std.proofs.lemmas.List.{append_cancel_right}
use Rattle.std.proofs.lemmas.Result.{err_from_is_err_and}
use Rattle.usb_script_words.specs.Fields.{texts}
use Rattle.usb_script_words.specs.Lines.{words_of}
use Rattle.usb_script_words.specs.declared.line_error.LineError.TheVariants.{Malformed}
use Rattle.usb_trace_lines.specs.Readings.{line_of_words}
use Rattle.usb_trace_lines.proofs.Told.{never-told, other-told, gives-none}
use Rattle.usb_trace_lines.proofs.telling.read_line.Goals as goal

pub returns-in_err-told-clause-malformed : goal.returns-in_err-told-clause-malformed
returns-in_err-told-clause-malformed c = λ is told are same.
    let p = err_from_is_err_and c.from_residual-in_err-told.result c.from_residual-in_err-told.ensures.1 in
    let first = p.1 in
    let second = p.2 in
    let bad : c.in_err-told.field-0.0 ≡ Malformed = cc in
    let words : texts c.as_slice.result.now ≡ words_of c.args.bytes.now = ap texts c.as_slice.ensures.value ∙ c.in_ok-split_words.ensures.value in
    never-told c.args.bytes.now (ap line_of_words (sym words) ∙ gives-none c.in_err-told.field-0.0 (line_of_words (texts c.as_slice.result.now)) c.in_err-told.ensures.value bad) told are same

pub returns-then-not-reads-clause-malformed : goal.returns-then-not-reads-clause-malformed
returns-then-not-reads-clause-malformed c = λ is told are same.
    let words : texts c.as_slice.result.now ≡ words_of c.args.bytes.now = ap texts c.as_slice.ensures.value ∙ c.in_ok-split_words.ensures.value in
    let differs : c.reads.result ≡ false = search rules in
    other-told c.args.bytes.now c.in_ok-told.told (ap line_of_words (sym words) ∙ c.in_ok-told.ensures.value)
    (λ e. c.reads.ensures.other differs (append_cancel_right c.tell.new.text c.args.bytes.now (10 ∷ []) (c.tell.ensures.text ∙ sym e))) told are same
