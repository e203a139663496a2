-- The line of what a writer accepted.
use Rattle.std.specs.Prelude.{ℕ, List, [], ◌∷◌, codes}
use Rattle.std.specs.Fmt.{decimal}
use Rattle.usb_session_text.specs.Words.{line_of}

-- how many bytes a write accepted
unfoldable pub wrote_line : ℕ → List ℕ
wrote_line count = line_of (codes "wrote") (decimal count ∷ [])
