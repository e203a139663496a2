-- What an error is to its users: its kind, its message, and the code of the system where one stands.
use Rattle.std.specs.Prelude.{ℕ, Option, Some, None}
use Rattle.usb_error.specs.declared.kind.ErrorKind.{ErrorKind}
use Rattle.usb_error.specs.declared.message.Message.{Message}

pub record ErrorState : Type 0 where
  pub kind : ErrorKind
  pub message : Message
  pub code : Option ℕ

-- an error that carries the errno that it comes from
abbrev pub coded : ErrorKind → Message → ℕ → ErrorState
coded k m errno = record { kind = k; message = m; code = Some errno }

-- an error that carries no code
abbrev pub plain : ErrorKind → Message → ErrorState
plain k m = record { kind = k; message = m; code = None }
