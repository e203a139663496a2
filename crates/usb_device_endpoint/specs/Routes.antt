-- What a route and a buffer ask of the kernel.
use Rattle.std.specs.Prelude.{ℕ, Option, None, ◌≡◌}
use Rattle.std.specs.Option.{ForSome}
use Rattle.usb_xfer.specs.BufferState.{BufferState}
use Rattle.usb_xfer.specs.declared.transfer.TransferData.{TransferData}
use Rattle.usb_xfer.specs.Transfers.{buffer_held, IsFilled}
use Rattle.usb_kernel.specs.declared.submission.Submission.{Submission}
use Rattle.usb_kernel.specs.Submissions.{IsWhole}
use Rattle.usb_device_endpoint.specs.declared.route.Route.{Route}

-- a transfer with no setup packet, and with a deadline or none
abbrev pub submission_of : Route → Option ℕ → BufferState → Submission
submission_of to deadline b =
    record { device = to.device; endpoint = to.endpoint; kind = to.kind; maximum = to.maximum; deadline = deadline; setup = None; buffer = b }

-- a transfer goes by a route where it is of the route's endpoint and holds a buffer
pub record GoesBy (t : TransferData) (to : Route) : Type 0 where
  pub endpoint : t.endpoint ≡ to.endpoint
  pub kind : t.kind ≡ to.kind
  pub filled : IsFilled t

-- an IN endpoint is asked for its maximum, or a multiple of it, at least once (`WantsWhole`: usb_kernel, Submissions.antt)
abbrev pub AsksWhole : TransferData → Route → Type 0
AsksWhole t to = ForSome (buffer_held t.held) (λ b. IsWhole (submission_of to None b))
