-- What the type of buffers keeps.
use Rattle.std.specs.Prelude.{◌≤◌, ◌<◌, ◌^◌, vec_len, vec_capacity}
use Rattle.usb_xfer.specs.declared.buffer.Buffer.TheInside.{Inside}

-- the bytes fit, and so does what was asked for
pub record IsFitting (b : Inside) : Type 0 where
  pub bytes_fit : vec_len b.items ≤ b.fits
  pub asked_fits : b.asked ≤ b.fits
  pub allocated : b.fits ≤ vec_capacity b.items
  pub small : b.fits < 2 ^ 31
