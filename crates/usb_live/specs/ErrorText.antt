-- What a refused submission prints.
use Rattle.std.specs.Prelude.{ℕ, List, codes}
use Rattle.usb_live.specs.declared.entry.LiveError.{LiveError}
use Rattle.usb_live.specs.declared.entry.LiveError.TheVariants.{Full, Memory}

abbrev pub error_text : LiveError → List ℕ
error_text (Full buffer) = codes "all 64 cells are occupied"
error_text (Memory buffer) = codes "out of memory"
