-- What calls leave of the handles that the user of a bus has beside its endpoints.
use Rattle.std.specs.Prelude.{ℕ, Option}
use Rattle.usb_xfer.specs.declared.transfer.TransferData.{TransferData}
use Rattle.usb_device_endpoint.specs.declared.route.Route.{Route}
use Rattle.usb_device_endpoint.specs.BusCalls.{BusCalls}

-- they stand over each call, whatever it is given. (`stand old new` says that those that stood on
-- the old bus stand on the new one)
pub record KeepsHandles {S : Type 0} (k : BusCalls S) (stand : S → S → Type 0) : Type 0 where
  pub submitted : (s : S) (to : Route) (deadline : Option ℕ) (t : TransferData) →
      stand s (k.submitted s to deadline t)
  pub refused : (s : S) (to : Route) (t : TransferData) (errno : ℕ) →
      stand s (k.refused s to t errno)
  pub discarded : (s : S) (ticket : ℕ) → stand s (k.discarded s ticket)
  pub abandoned : (s : S) (ticket : ℕ) → stand s (k.abandoned s ticket)
  pub taken : (s : S) (ticket : ℕ) → stand s (k.taken s ticket)
  pub closed : (s : S) (key : ℕ) → stand s (k.closed s key)
  pub turned : (s : S) → stand s (k.turned s)
  pub idled : (s : S) (until : ℕ) → stand s (k.idled s until)
  pub halt_cleared : (s : S) (device endpoint : ℕ) → stand s (k.halt_cleared s device endpoint)
