-- What the kernel asks of its callers, as it stands in every journal. A journal is read from its latest event.
use Rattle.std.specs.Prelude.{List, [], ◌∷◌}
use Rattle.usb_kernel.specs.declared.event.Event.{Event}
use Rattle.usb_kernel.specs.declared.event.Event.TheVariants.{Submit, Refuse, Fail}
use Rattle.usb_kernel_devices.specs.Errnos.{IsErrno}
use Rattle.usb_kernel.specs.Submissions.{WantsWhole}

-- a submission wants whole packets, and the errno of a refusal or of a failure is from 1 to 4095
abbrev pub IsLegal : Event → Type 0
IsLegal (Submit t d e m body room deadline) = WantsWhole m body
IsLegal (Refuse t d e m body room errno) = IsErrno errno
IsLegal (Fail d e errno) = IsErrno errno
IsLegal _ = Unit {0}

-- every event of a journal is so
abbrev pub IsLawful : List Event → Type 0
IsLawful [] = Unit {0}
IsLawful (event ∷ before) = IsLegal event × IsLawful before
