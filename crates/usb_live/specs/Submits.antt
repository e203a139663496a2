-- What an endpoint hands in, and what the kernel makes of it.
use Rattle.std.specs.Prelude.{ℕ, Bool, true, false, nat_lt, ◌||◌, if◌then◌else◌}
use Rattle.usb_kernel.specs.declared.submission.Submission.{Submission}
use Rattle.usb_kernel.specs.declared.submission.Submitted.{Submitted}
use Rattle.usb_kernel.specs.declared.submission.Submitted.TheVariants.{Queued, Refused}
use Rattle.usb_kernel.specs.Submits.{submit_result, kernel_submitted, refuse_result, kernel_refused, number_of}
use Rattle.usb_kernel.specs.Value.{KernelState}
use Rattle.usb_kernel.specs.WholePackets.{is_whole}
use Rattle.usb_live.specs.declared.entry.Entry.{Entry}

-- an IN endpoint, which has bit 7, is asked for whole packets. An OUT endpoint sends any bytes
abbrev pub is_valid : Submission → Bool
is_valid s = nat_lt s.endpoint 128 || is_whole s.maximum s.buffer.requested

-- a submission that is valid goes to the kernel. Another one is refused with 22 (EINVAL), whatever the kernel would answer
abbrev pub submitted : KernelState → Submission → Submitted
submitted k s = if is_valid s then submit_result k.devices k.armed k.past s else refuse_result k.past s 22

-- the kernel has one Submit or one Refuse more, and may have used up a refusal that was armed
abbrev pub after_submitted : KernelState → Submission → KernelState
after_submitted k s =
    if is_valid s then kernel_submitted k s else kernel_refused k s 22

-- the kernel refused it
abbrev pub is_refused : Submitted → Bool
is_refused (Queued t) = false
is_refused (Refused done) = true

-- what an endpoint keeps of a submission that lies in the cell i
abbrev pub entry_of : Submitted → ℕ → Entry
entry_of s i = record { ticket = number_of s; cell = i; refused = is_refused s }
