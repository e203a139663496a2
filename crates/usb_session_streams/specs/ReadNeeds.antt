-- How many submissions a call on a reader may need.
use Rattle.std.specs.Prelude.{ℕ, ◌-◌, Bool, length, if◌then◌else◌}
use Rattle.usb_io.specs.Readers.{ReaderState, turns}

-- those that are missing, where the reader turns
abbrev pub read_need : Bool → ReaderState → ℕ
read_need until_short r = if turns until_short r then r.n - length r.endpoint.pending else 0
