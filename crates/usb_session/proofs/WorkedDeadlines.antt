-- Scripts of transfers with deadlines and of a reader whose halt is cleared, and what is written for them, worked out by hand.
use Rattle.std.proofs.Common.{[], ◌∷◌, ◌++◌, codes, Some, refl}
use Rattle.std.specs.Prelude.{replicate}
use Rattle.usb_kernel_devices.specs.declared.step.KernelCall.TheVariants.{Halt}
use Rattle.usb_kernel_devices.specs.declared.step.KernelStep.TheVariants.{Packet, Fail, Clock, Timer, Reap, Refuse}
use Rattle.usb_script_words.specs.declared.control.ControlTarget.TheVariants.{Device}
use Rattle.usb_script_words.specs.declared.framing.Framing.TheVariants.{UntilShort}
use Rattle.usb_script_lines.specs.declared.item.Item.TheVariants as item
use Rattle.usb_script.proofs.OnLiterals.{script_on_literals}
use Rattle.usb_session.proofs.WorkedOutput.{output_on_literals, IsWorkedOut}
use Rattle.usb_session.proofs.WorkedDevices.{with_endpoint}
use Rattle.usb_session.proofs.WorkedControls.{vendor_request}

-- a turn of the timer at the deadline discards the transfer with the packet that came, and no turn before does; one with no deadline stays
due_by_a_step : IsWorkedOut
    (with_endpoint
    ((codes "dsubmitin e0 128 100", item.SubmitInWithDeadline 0 128 100, codes "ok")
    ∷ (codes "submitin e0 64", item.SubmitIn 0 64, codes "ok")
    ∷ (codes "! pkt k0 81 " ++ (replicate 128 49 ++ codes " ; clock 99 ; timer"), item.Steps (Packet 0 129 (replicate 64 17) ∷ Clock 99 ∷ Timer ∷ []), [])
    ∷ (codes "poll e0", item.Poll 0, codes "pending")
    ∷ (codes "! clock 100 ; timer ; reap 0", item.Steps (Clock 100 ∷ Timer ∷ Reap (Some 0) ∷ []), [])
    ∷ (codes "poll e0", item.Poll 0, codes "done cancelled 64 128 " ++ replicate 128 49)
    ∷ (codes "poll e0", item.Poll 0, codes "pending")
    ∷ []))
    (codes "ticket 0 k0 81 cancelled 64 taken"
    ∷ codes "ticket 1 k0 81 cancelled 0 reclaimed" ∷ [])
unfolding script_on_literals output_on_literals
due_by_a_step = (refl, refl)

-- the wait for a control transfer goes to its deadline, and the turn of the timer there discards what was due before too
due_by_a_wait : IsWorkedOut
    (with_endpoint
    ((codes "dsubmitin e0 64 50", item.SubmitInWithDeadline 0 64 50, codes "ok")
    ∷ (codes "ctlin d0 vendor device 30 0000 0000 64 100", item.ControlIn (Device 0) (vendor_request 48) 64 100 [], codes "failed cancelled")
    ∷ (codes "poll e0", item.Poll 0, codes "done cancelled 0 64 -")
    ∷ (codes "now", item.Now, codes "now 100")
    ∷ []))
    (codes "ticket 0 k0 81 cancelled 0 taken"
    ∷ codes "ticket 1 k0 80 cancelled 0 taken" ∷ [])
unfolding script_on_literals output_on_literals
due_by_a_wait = (refl, refl)

-- a transfer stalls: where the kernel refuses to clear the halt the error lasts, and where it doesn't the reader goes on
cleared : IsWorkedOut
    (with_endpoint
    ((codes "reader r0 e0 128", item.Reader 0 0 128, codes "ok")
    ∷ (codes "sread r0 100 : pkt k0 81 " ++ (replicate 128 49 ++ codes " ; fail k0 81 32"), item.Read UntilShort 0 100 (Packet 0 129 (replicate 64 17) ∷ Fail 0 129 32 ∷ []), codes "read 64 " ++ replicate 128 49)
    ∷ (codes "sread r0 100", item.Read UntilShort 0 100 [], codes "io ConnectionReset endpoint stalled")
    ∷ (codes "! refuse k0 halt 71", item.Steps (Refuse 0 Halt 71 ∷ []), [])
    ∷ (codes "halt r0", item.ClearReaderHalt 0, codes "error Other failed to clear halt (errno 71)")
    ∷ (codes "sread r0 100", item.Read UntilShort 0 100 [], codes "io ConnectionReset endpoint stalled")
    ∷ (codes "halt r0", item.ClearReaderHalt 0, codes "ok")
    ∷ (codes "isend r0", item.IsEnd 0, codes "end false")
    ∷ (codes "sread r0 100 : pkt k0 81 222222", item.Read UntilShort 0 100 (Packet 0 129 (34 ∷ 34 ∷ 34 ∷ []) ∷ []), codes "read 3 222222")
    ∷ (codes "sread r0 100", item.Read UntilShort 0 100 [], codes "read 0 -")
    ∷ (codes "endmsg r0", item.ConsumeEnd 0, codes "ok")
    ∷ []))
    (codes "ticket 0 k0 81 stall 64 taken"
    ∷ codes "ticket 1 k0 81 ok 3 taken" ∷ [])
unfolding script_on_literals output_on_literals
cleared = (refl, refl)
