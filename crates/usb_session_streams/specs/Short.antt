-- What a line of a writer leaves of the host and the writer where memory is lacking.
use Rattle.std.specs.Prelude.{◌≡◌, ◌⊎◌, Bool, true, false}
use Rattle.usb_device_host.specs.HostState.{HostState}
use Rattle.usb_io.specs.Writers.{Writing}

-- a barred call changed nothing. Any other left what it comes to, and its line lacked memory; or it
-- lacked memory itself, and left what is so of it then
abbrev pub LeftShort : Bool → Writing HostState →
    (Writing HostState → Writing HostState → Type 0) → Writing HostState → Writing HostState →
    Type 0
LeftShort true left short old new = new ≡ old
LeftShort false left short old new = (new ≡ left) ⊎ short old new
