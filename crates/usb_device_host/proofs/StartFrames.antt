-- Control transfers that start at a host: the endpoint that they open.
use Rattle.std.proofs.Common.{◌≡◌, ◌++◌, ◌∷◌, [], Some, refl}
use Rattle.usb_kernel.specs.declared.submission.Submission.{Submission}
use Rattle.usb_device_ledger.specs.Entries.{control_endpoint}
use Rattle.usb_device_host.specs.HostState.{HostState}
use Rattle.usb_device_host.specs.Controls.{host_started}

-- it is the last
pub started-endpoints : (h : HostState) (s : Submission) → (host_started h s).endpoints ≡ h.endpoints ++ Some (control_endpoint s.endpoint) ∷ []
unfolding host_started
started-endpoints h s = refl
