-- What a fault of input or output is to its users: its kind, and its text.
use Rattle.std.specs.Prelude.{ℕ, List}
use Rattle.usb_error.specs.declared.io_kind.IoKind.{IoKind}

pub record FaultState : Type 0 where
  pub kind : IoKind
  pub text : List ℕ
