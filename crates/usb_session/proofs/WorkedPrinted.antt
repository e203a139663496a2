-- What is printed of the tickets of endpoints and of control transfers, worked out for some scripts.
use Rattle.std.proofs.Common.{◌≡◌, ℕ, List, [], ◌∷◌, ◌++◌, codes, None, refl}
use Rattle.std.specs.Prelude.{true, map}
use Rattle.usb_kernel_devices.specs.declared.step.KernelStep.TheVariants.{Packet, Reap}
use Rattle.usb_device_ledger.specs.declared.ends.TicketEnd.{TicketEnd}
use Rattle.usb_device_ledger.specs.declared.ends.TicketEnd.TheVariants.{Dropped, Reclaimed}
use Rattle.usb_script_words.specs.declared.control.ControlTarget.TheVariants.{Device}
use Rattle.usb_script_words.specs.declared.framing.Framing.TheVariants.{Plain}
use Rattle.usb_script_lines.specs.declared.item.Item.TheVariants as item
use Rattle.usb_session_calls.specs.State.{State}
use Rattle.usb_session_calls.specs.EndpointNames.{Own}
use Rattle.usb_session.specs.Answers.{answer}
use Rattle.usb_session.specs.Output.{start, behind}
use Rattle.usb_session.specs.Served.{taken_under, was_streamed_under, control_tickets, end_given_up}
use Rattle.usb_session.specs.ControlAnswers.{ControlAnswer, control_answers}
use Rattle.usb_session.specs.ClosedFutures.{ClosedFuture, closed_futures}
use Rattle.usb_session.proofs.WorkedOutput.{output_on_literals, Line, with_end, items}
use Rattle.usb_session.proofs.WorkedDevices.{bulk_device, with_endpoint}
use Rattle.usb_session.proofs.WorkedControls.{vendor_request}

-- an endpoint that is polled, is a reader's, which reads its second ticket, comes back, and is asked for its third
abbrev back_again : List Line
back_again =
    with_endpoint
    ((codes "submitin e0 64", item.SubmitIn 0 64, codes "ok")
    ∷ (codes "! pkt k0 81 01 ; reap", item.Steps (Packet 0 129 (1 ∷ []) ∷ Reap None ∷ []), [])
    ∷ (codes "poll e0", item.Poll 0, codes "done ok 1 64 01")
    ∷ (codes "reader r0 e0 64", item.Reader 0 0 64, codes "ok")
    ∷ (codes "read r0 1 : pkt k0 81 02", item.Read Plain 0 1 (Packet 0 129 (2 ∷ []) ∷ []), codes "read 1 02")
    ∷ (codes "inner e0 r0", item.IntoInner 0 0, codes "ok")
    ∷ (codes "submitin e0 64", item.SubmitIn 0 64, codes "ok")
    ∷ [])

-- the wait prints a completion, two tickets were taken of this endpoint before, and a reader was made of it
abbrev polled_last : List Line
polled_last = (codes "wait e0 9 : pkt k0 81 03", item.Wait 0 9 (Packet 0 129 (3 ∷ []) ∷ []), codes "done ok 1 64 03") ∷ []

abbrev before_last : State
before_last = behind (start (items (back_again ++ polled_last))) (items back_again)

printed_behind_a_reader : ((answer before_last (item.Wait 0 9 (Packet 0 129 (3 ∷ []) ∷ []))).line ≡ with_end (codes "done ok 1 64 03")) × (taken_under before_last (Own 0) ≡ 0 ∷ 1 ∷ []) × (was_streamed_under before_last (Own 0) ≡ true)
unfolding output_on_literals
printed_behind_a_reader = (refl, refl, refl)

-- the control transfers that lines answer, each by its ticket with the line, and those that are given up, with their ends
abbrev answers_of : List Line → List (ℕ × List ℕ)
answers_of lines = map (λ (x : ControlAnswer). (x.ticket, x.line)) (control_answers (items lines))

abbrev given_up_of : List Line → List (ℕ × TicketEnd)
given_up_of lines = map (λ (x : ClosedFuture). (x.ticket, end_given_up x.past x.ticket)) (closed_futures (items lines))

-- the second is answered before the first; the third is closed when it is reaped, the fourth when it is not, and the fifth at the end
abbrev all_ways : List Line
all_ways =
    bulk_device
    ∷ (codes "open d0 1 6", item.Open 0 1 6, codes "ok")
    ∷ (codes "fin f0 d0 vendor device 30 0000 0000 64 100", item.StartControlIn 0 (Device 0) (vendor_request 48) 64 100, codes "ok")
    ∷ (codes "ctlin d0 vendor device 30 0000 0000 64 1000 : pkt k0 80 0102 ; pkt k0 80 03", item.ControlIn (Device 0) (vendor_request 48) 64 1000 (Packet 0 128 (1 ∷ 2 ∷ []) ∷ Packet 0 128 (3 ∷ []) ∷ []), codes "data 03")
    ∷ (codes "fpoll f0", item.PollFuture 0, codes "data 0102")
    ∷ (codes "fin f0 d0 vendor device 30 0000 0000 64 100", item.StartControlIn 0 (Device 0) (vendor_request 48) 64 100, codes "ok")
    ∷ (codes "! pkt k0 80 0102 ; reap", item.Steps (Packet 0 128 (1 ∷ 2 ∷ []) ∷ Reap None ∷ []), [])
    ∷ (codes "fin f1 d0 vendor device 30 0000 0000 64 100", item.StartControlIn 1 (Device 0) (vendor_request 48) 64 100, codes "ok")
    ∷ (codes "fpoll f1", item.PollFuture 1, codes "pending")
    ∷ (codes "close f0", item.CloseFuture 0, codes "ok")
    ∷ (codes "close f1", item.CloseFuture 1, codes "ok")
    ∷ (codes "fin f0 d0 vendor device 30 0000 0000 64 100", item.StartControlIn 0 (Device 0) (vendor_request 48) 64 100, codes "ok")
    ∷ []

ways_of_controls : (answers_of all_ways ≡ (1, with_end (codes "data 03")) ∷ (0, with_end (codes "data 0102")) ∷ []) × (given_up_of all_ways ≡ (2, Dropped) ∷ (3, Reclaimed) ∷ (4, Reclaimed) ∷ []) × (control_tickets (items all_ways) ≡ 0 ∷ 1 ∷ 2 ∷ 3 ∷ 4 ∷ [])
unfolding output_on_literals control_answers closed_futures control_tickets
ways_of_controls = (refl, refl, refl)
