-- The lines of calls that give no value: done, barred or refused.
use Rattle.std.specs.Prelude.{ℕ, List, [], ◌∷◌, codes, Result, Ok, Err}
use Rattle.usb_error.specs.ErrorState.{ErrorState}
use Rattle.usb_error.specs.Kinds.{kind_word}
use Rattle.usb_error.specs.Texts.{error_text}
use Rattle.usb_session_text.specs.Words.{line_of}

-- a call that is done
abbrev pub ok_line : List ℕ
ok_line = line_of (codes "ok") []

-- a barred call: one that can't be made now
abbrev pub condition_line : List ℕ
condition_line = line_of (codes "condition") []

-- an error: its kind and its text
unfoldable pub error_line : ErrorState → List ℕ
error_line error = line_of (codes "error") (kind_word error.kind ∷ error_text error ∷ [])

-- the answer of a call that gives no value: done, or refused
abbrev pub result_line : Result (Unit {0}) ErrorState → List ℕ
result_line (Ok done) = ok_line
result_line (Err error) = error_line error
