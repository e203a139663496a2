-- Scripts of control transfers and what is written for them, worked out by hand.
use Rattle.std.proofs.Common.{◌≡◌, ℕ, [], ◌∷◌, codes, None, refl}
use Rattle.usb_desc.specs.declared.control.ControlType.TheVariants.{Vendor}
use Rattle.usb_desc.specs.declared.control.Recipient.TheVariants as recipient
use Rattle.usb_kernel_devices.specs.declared.step.KernelStep.TheVariants.{Packet, Ack, Fail, Clock, Timer, Reap}
use Rattle.usb_script_words.specs.declared.control.Setup.{Setup}
use Rattle.usb_script_words.specs.declared.control.ControlTarget.TheVariants.{Device}
use Rattle.usb_script_lines.specs.declared.item.Item.TheVariants as item
use Rattle.usb_script.proofs.OnLiterals.{script_on_literals}
use Rattle.usb_session.specs.Served.{control_tickets}
use Rattle.usb_session.proofs.WorkedOutput.{output_on_literals, items, IsWorkedOut}
use Rattle.usb_session.proofs.WorkedDevices.{bulk_device, with_endpoint}

-- a control transfer of the vendor's request 30 to the device, with no value and no index
abbrev pub vendor_request : ℕ → Setup
vendor_request request = record { control_type = Vendor; recipient = recipient.Device; request = request; value = 0; index = 0 }

-- control transfers that are awaited: data come and go, a string and the languages of strings are asked for, a descriptor that counts more bytes than came, and a halt
control_and_strings : IsWorkedOut
    (bulk_device
    ∷ (codes "open d0 1 6", item.Open 0 1 6, codes "ok")
    ∷ (codes "claim d0 0 i0", item.Claim 0 0 0, codes "ok")
    ∷ (codes "ctlin d0 vendor device 30 0000 0000 64 1000 : pkt k0 80 0102", item.ControlIn (Device 0) (vendor_request 48) 64 1000 (Packet 0 128 (1 ∷ 2 ∷ []) ∷ []), codes "data 0102")
    ∷ (codes "ctlout d0 vendor device 32 0000 0000 01020304 1000 : ack k0 00", item.ControlOut (Device 0) (vendor_request 50) (1 ∷ 2 ∷ 3 ∷ 4 ∷ []) 1000 (Ack 0 0 ∷ []), codes "ok")
    ∷ (codes "string d0 1 0409 1000 : pkt k0 80 060341004200", item.StringDescriptor 0 1 1033 1000 (Packet 0 128 (6 ∷ 3 ∷ 65 ∷ 0 ∷ 66 ∷ 0 ∷ []) ∷ []), codes "string 4142")
    ∷ (codes "langs d0 1000 : pkt k0 80 04030904", item.SupportedLanguages 0 1000 (Packet 0 128 (4 ∷ 3 ∷ 9 ∷ 4 ∷ []) ∷ []), codes "langs 0409")
    ∷ (codes "string d0 1 0409 1000 : pkt k0 80 06034100", item.StringDescriptor 0 1 1033 1000 (Packet 0 128 (6 ∷ 3 ∷ 65 ∷ 0 ∷ []) ∷ []), codes "failed invalid-descriptor")
    ∷ (codes "getdesc d0 1 0 0000 1000 : fail k0 80 32", item.GetDescriptor 0 1 0 0 1000 (Fail 0 128 32 ∷ []), codes "failed stall")
    ∷ [])
    (codes "ticket 0 k0 80 ok 2 taken"
    ∷ codes "ticket 1 k0 00 ok 4 taken"
    ∷ codes "ticket 2 k0 80 ok 6 taken"
    ∷ codes "ticket 3 k0 80 ok 4 taken"
    ∷ codes "ticket 4 k0 80 ok 4 taken"
    ∷ codes "ticket 5 k0 80 stall 0 taken" ∷ [])
unfolding script_on_literals output_on_literals
control_and_strings = (refl, refl)

-- control transfers on their way: at the deadline the timer discards the first, and the wait for the second goes on to its deadline
control_deadlines : IsWorkedOut
    (bulk_device
    ∷ (codes "open d0 1 6", item.Open 0 1 6, codes "ok")
    ∷ (codes "claim d0 0 i0", item.Claim 0 0 0, codes "ok")
    ∷ (codes "fin f0 d0 vendor device 30 0000 0000 64 100", item.StartControlIn 0 (Device 0) (vendor_request 48) 64 100, codes "ok")
    ∷ (codes "fin f1 d0 vendor device 30 0000 0000 64 200", item.StartControlIn 1 (Device 0) (vendor_request 48) 64 200, codes "ok")
    ∷ (codes "! clock 100 ; timer", item.Steps (Clock 100 ∷ Timer ∷ []), [])
    ∷ (codes "fpoll f0", item.PollFuture 0, codes "pending")
    ∷ (codes "! reap", item.Steps (Reap None ∷ []), [])
    ∷ (codes "fpoll f0", item.PollFuture 0, codes "failed cancelled")
    ∷ (codes "fpoll f1", item.PollFuture 1, codes "pending")
    ∷ (codes "fwait f1", item.WaitFuture 1 [], codes "failed cancelled")
    ∷ (codes "now", item.Now, codes "now 200")
    ∷ [])
    (codes "ticket 0 k0 80 cancelled 0 taken"
    ∷ codes "ticket 1 k0 80 cancelled 0 taken" ∷ [])
unfolding script_on_literals output_on_literals
control_deadlines = (refl, refl)

-- control transfers that are given up: the first is reaped before, the second is not, and the third has its name still at the end
given_up : IsWorkedOut
    (bulk_device
    ∷ (codes "open d0 1 6", item.Open 0 1 6, codes "ok")
    ∷ (codes "fin f0 d0 vendor device 30 0000 0000 64 100", item.StartControlIn 0 (Device 0) (vendor_request 48) 64 100, codes "ok")
    ∷ (codes "fin f1 d0 vendor device 30 0000 0000 64 100", item.StartControlIn 1 (Device 0) (vendor_request 48) 64 100, codes "ok")
    ∷ (codes "fin f0 d0 vendor device 30 0000 0000 64 100", item.StartControlIn 0 (Device 0) (vendor_request 48) 64 100, codes "condition")
    ∷ (codes "! pkt k0 80 0102 ; reap", item.Steps (Packet 0 128 (1 ∷ 2 ∷ []) ∷ Reap None ∷ []), [])
    ∷ (codes "close f0", item.CloseFuture 0, codes "ok")
    ∷ (codes "close f1", item.CloseFuture 1, codes "ok")
    ∷ (codes "fpoll f1", item.PollFuture 1, codes "condition")
    ∷ (codes "fin f0 d0 vendor device 30 0000 0000 64 100", item.StartControlIn 0 (Device 0) (vendor_request 48) 64 100, codes "ok")
    ∷ [])
    (codes "ticket 0 k0 80 ok 2 dropped"
    ∷ codes "ticket 1 k0 80 cancelled 0 reclaimed"
    ∷ codes "ticket 2 k0 80 cancelled 0 reclaimed" ∷ [])
unfolding script_on_literals output_on_literals
given_up = (refl, refl)

-- between them a transfer of an endpoint, whose ticket is not theirs
own_tickets : control_tickets (items
    (with_endpoint
    ((codes "ctlin d0 vendor device 30 0000 0000 64 100", item.ControlIn (Device 0) (vendor_request 48) 64 100 [], codes "failed cancelled")
    ∷ (codes "submitin e0 64", item.SubmitIn 0 64, codes "ok")
    ∷ (codes "fin f0 d0 vendor device 30 0000 0000 64 100", item.StartControlIn 0 (Device 0) (vendor_request 48) 64 100, codes "ok")
    ∷ (codes "fpoll f0", item.PollFuture 0, codes "pending")
    ∷ [])))
    ≡ 0 ∷ 2 ∷ []
unfolding output_on_literals control_tickets
own_tickets = refl
