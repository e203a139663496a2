-- What a submission comes to (`Submitted`: src/submission.rt): a queued ticket, which the kernel has taken in and not finished
-- yet, or a refused one, which has its completion at once.
use Rattle.std.specs.Prelude.{ℕ, List, ◌∷◌, length, Option, Some, None}
use Rattle.usb_kernel.specs.declared.event.Event.{Event}
use Rattle.usb_kernel_devices.specs.declared.devices.DeviceState.{DeviceState}
use Rattle.usb_kernel_devices.specs.declared.step.Armed.{Armed}
use Rattle.usb_kernel_devices.specs.declared.step.KernelCall.TheVariants as call
use Rattle.usb_kernel.specs.declared.submission.Submission.{Submission}
use Rattle.usb_kernel.specs.declared.submission.Submitted.{Submitted}
use Rattle.usb_kernel.specs.declared.submission.Submitted.TheVariants.{Queued, Refused}
use Rattle.usb_kernel.specs.Tickets.{tickets}
use Rattle.usb_kernel.specs.Submissions.{submit_event, refuse_event}
use Rattle.usb_kernel.specs.Completions.{refused_done}
use Rattle.usb_kernel_devices.specs.Refusals.{call_refusal, armed_left}
use Rattle.usb_kernel.specs.Value.{KernelState}

-- the errno with which a submission to a device is refused: 19 (ENODEV) where it is not plugged,
-- else that of an armed refusal
abbrev pub submit_refusal : List DeviceState → List Armed → ℕ → Option ℕ
submit_refusal devices armed d = call_refusal devices armed d call.Submit

-- the event of the submission s with the number t, by the errno with which it is refused, if it is
abbrev pub submit_or_refuse : ℕ → Submission → Option ℕ → Event
submit_or_refuse t s None = submit_event t s
submit_or_refuse t s (Some errno) = refuse_event t s errno

abbrev pub queued_or_refused : ℕ → Submission → Option ℕ → Submitted
queued_or_refused t s None = Queued t
queued_or_refused t s (Some errno) = Refused (refused_done t s errno)

-- a submission gets the next number
abbrev pub submit_result : List DeviceState → List Armed → List Event → Submission → Submitted
submit_result devices armed past s = queued_or_refused (length (tickets past)) s (submit_refusal devices armed s.device)

-- the journal after it
abbrev pub after_submit : List DeviceState → List Armed → List Event → Submission → List Event
after_submit devices armed past s = submit_or_refuse (length (tickets past)) s (submit_refusal devices armed s.device) ∷ past

-- and uses up the refusal that was armed for it
abbrev pub armed_after_submit : List DeviceState → List Armed → Submission → List Armed
armed_after_submit devices armed s = armed_left devices armed s.device call.Submit

-- the kernel after a submission
abbrev pub kernel_submitted : KernelState → Submission → KernelState
kernel_submitted k s =
    record k {
      past = after_submit k.devices k.armed k.past s;
      armed = armed_after_submit k.devices k.armed s;
    }

-- a submission that is refused whatever the device is
abbrev pub refuse_result : List Event → Submission → ℕ → Submitted
refuse_result past s errno = Refused (refused_done (length (tickets past)) s errno)

-- the journal and the kernel after it
abbrev pub after_refuse : List Event → Submission → ℕ → List Event
after_refuse past s errno = refuse_event (length (tickets past)) s errno ∷ past

abbrev pub kernel_refused : KernelState → Submission → ℕ → KernelState
kernel_refused k s errno = record k { past = after_refuse k.past s errno }

-- the number that a submission got
abbrev pub number_of : Submitted → ℕ
number_of (Queued t) = t
number_of (Refused done) = done.ticket
