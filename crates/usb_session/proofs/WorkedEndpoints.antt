-- Scripts of transfers at endpoints and what is written for them. The answers were worked out by hand from the description of the script language.
use Rattle.std.proofs.Common.{[], ◌∷◌, codes, Some, None, refl}
use Rattle.usb_kernel_devices.specs.declared.step.KernelCall.TheVariants.{Submit}
use Rattle.usb_kernel_devices.specs.declared.step.KernelStep.TheVariants.{Packet, Ack, Fail, Unplug, Clock, Reap, Refuse}
use Rattle.usb_script_words.specs.declared.endpoint_kind.EndpointKind.TheVariants.{BulkIn, BulkOut, InterruptIn, InterruptOut}
use Rattle.usb_script_lines.specs.declared.item.Item.TheVariants as item
use Rattle.usb_script.proofs.OnLiterals.{script_on_literals}
use Rattle.usb_session.proofs.WorkedOutput.{output_on_literals, IsWorkedOut}
use Rattle.usb_session.proofs.WorkedDevices.{bulk_bytes, bulk_device, with_endpoint, with_interface, unusable_bytes}

-- no line, and nothing is written
no_line : IsWorkedOut
    []
    []
unfolding script_on_literals output_on_literals
no_line = (refl, refl)

-- one packet: the transfer is pending until it is reaped
first_packet : IsWorkedOut
    (with_endpoint
    ((codes "submitin e0 64", item.SubmitIn 0 64, codes "ok")
    ∷ (codes "poll e0", item.Poll 0, codes "pending")
    ∷ (codes "! pkt k0 81 010203", item.Steps (Packet 0 129 (1 ∷ 2 ∷ 3 ∷ []) ∷ []), [])
    ∷ (codes "poll e0", item.Poll 0, codes "pending")
    ∷ (codes "! reap 0", item.Steps (Reap (Some 0) ∷ []), [])
    ∷ (codes "poll e0", item.Poll 0, codes "done ok 3 64 010203")
    ∷ []))
    (codes "ticket 0 k0 81 ok 3 taken" ∷ [])
unfolding script_on_literals output_on_literals
first_packet = (refl, refl)

-- two packets: the second is reaped first, and waits behind the first
second_reaped_first : IsWorkedOut
    (with_endpoint
    ((codes "submitin e0 64", item.SubmitIn 0 64, codes "ok")
    ∷ (codes "submitin e0 64", item.SubmitIn 0 64, codes "ok")
    ∷ (codes "! pkt k0 81 01 ; pkt k0 81 0203 ; reap 1", item.Steps (Packet 0 129 (1 ∷ []) ∷ Packet 0 129 (2 ∷ 3 ∷ []) ∷ Reap (Some 1) ∷ []), [])
    ∷ (codes "poll e0", item.Poll 0, codes "pending")
    ∷ (codes "! reap 0", item.Steps (Reap (Some 0) ∷ []), [])
    ∷ (codes "poll e0", item.Poll 0, codes "done ok 1 64 01")
    ∷ (codes "poll e0", item.Poll 0, codes "done ok 2 64 0203")
    ∷ (codes "poll e0", item.Poll 0, codes "condition")
    ∷ []))
    (codes "ticket 0 k0 81 ok 1 taken"
    ∷ codes "ticket 1 k0 81 ok 2 taken" ∷ [])
unfolding script_on_literals output_on_literals
second_reaped_first = (refl, refl)

-- an endpoint is closed with a ticket that is reaped, one that is finished and one that is open
closed_with_tickets : IsWorkedOut
    (with_endpoint
    ((codes "submitin e0 64", item.SubmitIn 0 64, codes "ok")
    ∷ (codes "submitin e0 64", item.SubmitIn 0 64, codes "ok")
    ∷ (codes "submitin e0 64", item.SubmitIn 0 64, codes "ok")
    ∷ (codes "! pkt k0 81 01 ; reap ; pkt k0 81 0203", item.Steps (Packet 0 129 (1 ∷ []) ∷ Reap None ∷ Packet 0 129 (2 ∷ 3 ∷ []) ∷ []), [])
    ∷ (codes "close e0", item.CloseEndpoint 0, codes "ok")
    ∷ []))
    (codes "ticket 0 k0 81 ok 1 dropped"
    ∷ codes "ticket 1 k0 81 ok 2 reclaimed"
    ∷ codes "ticket 2 k0 81 cancelled 0 reclaimed" ∷ [])
unfolding script_on_literals output_on_literals
closed_with_tickets = (refl, refl)

-- the address of a closed endpoint stays in use until the last of its tickets is reaped
address_in_use : IsWorkedOut
    (with_endpoint
    ((codes "submitin e0 64", item.SubmitIn 0 64, codes "ok")
    ∷ (codes "submitin e0 64", item.SubmitIn 0 64, codes "ok")
    ∷ (codes "! pkt k0 81 01 ; reap", item.Steps (Packet 0 129 (1 ∷ []) ∷ Reap None ∷ []), [])
    ∷ (codes "close e0", item.CloseEndpoint 0, codes "ok")
    ∷ (codes "endpoint e0 i0 81 bulk-in", item.Endpoint 0 0 129 BulkIn, codes "error Busy endpoint already in use")
    ∷ (codes "! reap 1", item.Steps (Reap (Some 1) ∷ []), [])
    ∷ (codes "endpoint e0 i0 81 bulk-in", item.Endpoint 0 0 129 BulkIn, codes "ok")
    ∷ (codes "submitin e0 64", item.SubmitIn 0 64, codes "ok")
    ∷ (codes "! pkt k0 81 02 ; reap", item.Steps (Packet 0 129 (2 ∷ []) ∷ Reap None ∷ []), [])
    ∷ (codes "poll e0", item.Poll 0, codes "done ok 1 64 02")
    ∷ []))
    (codes "ticket 0 k0 81 ok 1 dropped"
    ∷ codes "ticket 1 k0 81 cancelled 0 reclaimed"
    ∷ codes "ticket 2 k0 81 ok 1 taken" ∷ [])
unfolding script_on_literals output_on_literals
address_in_use = (refl, refl)

-- a blocking transfer to which nothing comes is cancelled; the second gets its packet while it waits; the packet of the third comes too late
blocking_transfers : IsWorkedOut
    (with_endpoint
    ((codes "xferin e0 64 5", item.TransferIn 0 64 5 [], codes "done cancelled 0 64 -")
    ∷ (codes "xferin e0 64 100 : pkt k0 81 05 ; clock 50 ; reap", item.TransferIn 0 64 100 (Packet 0 129 (5 ∷ []) ∷ Clock 50 ∷ Reap None ∷ []), codes "done ok 1 64 05")
    ∷ (codes "xferin e0 64 100 : clock 150 ; pkt k0 81 05 ; reap", item.TransferIn 0 64 100 (Clock 150 ∷ Packet 0 129 (5 ∷ []) ∷ Reap None ∷ []), codes "done cancelled 0 64 -")
    ∷ []))
    (codes "ticket 0 k0 81 cancelled 0 taken"
    ∷ codes "ticket 1 k0 81 ok 1 taken"
    ∷ codes "ticket 2 k0 81 cancelled 0 taken" ∷ [])
unfolding script_on_literals output_on_literals
blocking_transfers = (refl, refl)

-- waits of an OUT endpoint: the first leaves the step behind the reap, which is taken right after it
waits : IsWorkedOut
    (with_endpoint
    ((codes "endpoint e1 i0 02 bulk-out", item.Endpoint 1 0 2 BulkOut, codes "ok")
    ∷ (codes "submitout e1 010203", item.SubmitOut 1 (1 ∷ 2 ∷ 3 ∷ []), codes "ok")
    ∷ (codes "submitout e1 -", item.SubmitOut 1 [], codes "ok")
    ∷ (codes "pending e1", item.Pending 1, codes "count 2")
    ∷ (codes "! ack k0 02", item.Steps (Ack 0 2 ∷ []), [])
    ∷ (codes "wait e1 10 : clock 7 ; reap ; clock 20", item.Wait 1 10 (Clock 7 ∷ Reap None ∷ Clock 20 ∷ []), codes "done ok 3 3 010203")
    ∷ (codes "now", item.Now, codes "now 20")
    ∷ (codes "wait e1 5", item.Wait 1 5 [], codes "none")
    ∷ (codes "wait e1 0", item.Wait 1 0 [], codes "none")
    ∷ (codes "! ack k0 02", item.Steps (Ack 0 2 ∷ []), [])
    ∷ (codes "wait e1 max", item.Wait 1 18446744073709551615 [], codes "done ok 0 0 -")
    ∷ (codes "pending e1", item.Pending 1, codes "count 0")
    ∷ (codes "xferout e1 0a0b 10 : ack k0 02", item.TransferOut 1 (10 ∷ 11 ∷ []) 10 (Ack 0 2 ∷ []), codes "done ok 2 2 0a0b")
    ∷ []))
    (codes "ticket 0 k0 02 ok 3 taken"
    ∷ codes "ticket 1 k0 02 ok 0 taken"
    ∷ codes "ticket 2 k0 02 ok 2 taken" ∷ [])
unfolding script_on_literals output_on_literals
waits = (refl, refl)

-- a blocking transfer is barred while others are pending, and its steps are taken all the same; the others are cancelled but for the finished one
cancelled_transfers : IsWorkedOut
    (with_endpoint
    ((codes "submitin e0 64", item.SubmitIn 0 64, codes "ok")
    ∷ (codes "submitin e0 64", item.SubmitIn 0 64, codes "ok")
    ∷ (codes "submitin e0 64", item.SubmitIn 0 64, codes "ok")
    ∷ (codes "xferin e0 64 5 : pkt k0 81 01", item.TransferIn 0 64 5 (Packet 0 129 (1 ∷ []) ∷ []), codes "condition")
    ∷ (codes "cancel e0", item.Cancel 0, codes "ok")
    ∷ (codes "pending e0", item.Pending 0, codes "count 3")
    ∷ (codes "poll e0", item.Poll 0, codes "pending")
    ∷ (codes "! reap 2 ; reap", item.Steps (Reap (Some 2) ∷ Reap None ∷ []), [])
    ∷ (codes "poll e0", item.Poll 0, codes "done ok 1 64 01")
    ∷ (codes "poll e0", item.Poll 0, codes "pending")
    ∷ (codes "wait e0 1", item.Wait 0 1 [], codes "done cancelled 0 64 -")
    ∷ (codes "poll e0", item.Poll 0, codes "done cancelled 0 64 -")
    ∷ []))
    (codes "ticket 0 k0 81 ok 1 taken"
    ∷ codes "ticket 1 k0 81 cancelled 0 taken"
    ∷ codes "ticket 2 k0 81 cancelled 0 taken" ∷ [])
unfolding script_on_literals output_on_literals
cancelled_transfers = (refl, refl)

-- two submissions that the kernel refuses, one of a wrong length, and an unplug, behind which all are refused
refused_and_unplugged : IsWorkedOut
    (with_endpoint
    ((codes "! refuse k0 submit 5 ; refuse k0 submit 2", item.Steps (Refuse 0 Submit 5 ∷ Refuse 0 Submit 2 ∷ []), [])
    ∷ (codes "submitin e0 64", item.SubmitIn 0 64, codes "ok")
    ∷ (codes "submitin e0 64", item.SubmitIn 0 64, codes "ok")
    ∷ (codes "submitin e0 64", item.SubmitIn 0 64, codes "ok")
    ∷ (codes "submitin e0 63", item.SubmitIn 0 63, codes "ok")
    ∷ (codes "! unplug k0", item.Steps (Unplug 0 ∷ []), [])
    ∷ (codes "submitin e0 64", item.SubmitIn 0 64, codes "ok")
    ∷ (codes "poll e0", item.Poll 0, codes "done unknown:5 0 64 -")
    ∷ (codes "poll e0", item.Poll 0, codes "done unknown:2 0 64 -")
    ∷ (codes "poll e0", item.Poll 0, codes "pending")
    ∷ (codes "! reap", item.Steps (Reap None ∷ []), [])
    ∷ (codes "poll e0", item.Poll 0, codes "done disconnected 0 64 -")
    ∷ (codes "poll e0", item.Poll 0, codes "done invalid 0 63 -")
    ∷ (codes "poll e0", item.Poll 0, codes "done disconnected 0 64 -")
    ∷ (codes "open d1 1 6", item.Open 1 1 6, codes "error Disconnected device not found (errno 2)")
    ∷ (codes "claim d0 0 i1", item.Claim 0 0 1, codes "error Disconnected device disconnected (errno 19)")
    ∷ []))
    (codes "ticket 0 k0 81 unknown:5 0 taken"
    ∷ codes "ticket 1 k0 81 unknown:2 0 taken"
    ∷ codes "ticket 2 k0 81 disconnected 0 taken"
    ∷ codes "ticket 3 k0 81 invalid 0 taken"
    ∷ codes "ticket 4 k0 81 disconnected 0 taken" ∷ [])
unfolding script_on_literals output_on_literals
refused_and_unplugged = (refl, refl)

-- what is open at the end is closed: the endpoints, and with them their tickets
left_open : IsWorkedOut
    (with_endpoint
    ((codes "endpoint e1 i0 02 bulk-out", item.Endpoint 1 0 2 BulkOut, codes "ok")
    ∷ (codes "submitin e0 64", item.SubmitIn 0 64, codes "ok")
    ∷ (codes "submitout e1 01", item.SubmitOut 1 (1 ∷ []), codes "ok")
    ∷ (codes "submitin e0 64", item.SubmitIn 0 64, codes "ok")
    ∷ (codes "! pkt k0 81 01 ; ack k0 02 ; reap 0", item.Steps (Packet 0 129 (1 ∷ []) ∷ Ack 0 2 ∷ Reap (Some 0) ∷ []), [])
    ∷ []))
    (codes "ticket 0 k0 81 ok 1 dropped"
    ∷ codes "ticket 1 k0 02 ok 1 reclaimed"
    ∷ codes "ticket 2 k0 81 cancelled 0 reclaimed" ∷ [])
unfolding script_on_literals output_on_literals
left_open = (refl, refl)

-- steps with nothing to act on change nothing, and the clock never falls
idle_steps : IsWorkedOut
    (with_endpoint
    ((codes "! pkt k0 81 01 ; ack k0 02 ; fail k0 81 32 ; reap ; reap 7", item.Steps (Packet 0 129 (1 ∷ []) ∷ Ack 0 2 ∷ Fail 0 129 32 ∷ Reap None ∷ Reap (Some 7) ∷ []), [])
    ∷ (codes "! unplug k9 ; pkt k9 81 01 ; clock 9 ; clock 4", item.Steps (Unplug 9 ∷ Packet 9 129 (1 ∷ []) ∷ Clock 9 ∷ Clock 4 ∷ []), [])
    ∷ (codes "now", item.Now, codes "now 9")
    ∷ (codes "submitin e0 64", item.SubmitIn 0 64, codes "ok")
    ∷ (codes "! ack k0 02 ; ack k0 81 ; reap 0", item.Steps (Ack 0 2 ∷ Ack 0 129 ∷ Reap (Some 0) ∷ []), [])
    ∷ (codes "poll e0", item.Poll 0, codes "pending")
    ∷ (codes "! pkt k0 81 - ; reap 0 ; reap 0", item.Steps (Packet 0 129 [] ∷ Reap (Some 0) ∷ Reap (Some 0) ∷ []), [])
    ∷ (codes "poll e0", item.Poll 0, codes "done ok 0 64 -")
    ∷ []))
    (codes "ticket 0 k0 81 ok 0 taken" ∷ [])
unfolding script_on_literals output_on_literals
idle_steps = (refl, refl)

-- two devices with the same endpoints: a reap without a number takes the least that is finished
two_devices : IsWorkedOut
    (bulk_device
    ∷ (codes "device k1 1 7 3 1 1201000200000040aaaabbbb0001000000010902200001010080320904000002ff0000000705810240000007050202400000", item.Device 1 1 7 3 1 bulk_bytes, [])
    ∷ (codes "open d0 1 6", item.Open 0 1 6, codes "ok")
    ∷ (codes "open d1 1 7", item.Open 1 1 7, codes "ok")
    ∷ (codes "claim d0 0 i0", item.Claim 0 0 0, codes "ok")
    ∷ (codes "claim d1 0 i1", item.Claim 1 0 1, codes "ok")
    ∷ (codes "endpoint e0 i0 81 bulk-in", item.Endpoint 0 0 129 BulkIn, codes "ok")
    ∷ (codes "endpoint e1 i1 81 bulk-in", item.Endpoint 1 1 129 BulkIn, codes "ok")
    ∷ (codes "submitin e1 64", item.SubmitIn 1 64, codes "ok")
    ∷ (codes "submitin e0 64", item.SubmitIn 0 64, codes "ok")
    ∷ (codes "! pkt k0 81 01 ; pkt k1 81 02 ; reap", item.Steps (Packet 0 129 (1 ∷ []) ∷ Packet 1 129 (2 ∷ []) ∷ Reap None ∷ []), [])
    ∷ (codes "poll e0", item.Poll 0, codes "pending")
    ∷ (codes "poll e1", item.Poll 1, codes "done ok 1 64 02")
    ∷ (codes "! unplug k1 ; reap", item.Steps (Unplug 1 ∷ Reap None ∷ []), [])
    ∷ (codes "poll e0", item.Poll 0, codes "done ok 1 64 01")
    ∷ [])
    (codes "ticket 0 k1 81 ok 1 taken"
    ∷ codes "ticket 1 k0 81 ok 1 taken" ∷ [])
unfolding script_on_literals output_on_literals
two_devices = (refl, refl)

-- calls that are refused or barred, and the two that print descriptors
refused_calls : IsWorkedOut
    (bulk_device
    ∷ (codes "open d0 1 7", item.Open 0 1 7, codes "error Disconnected device not found (errno 2)")
    ∷ (codes "devdesc d0", item.DeviceDescriptor 0, codes "condition")
    ∷ (codes "open d0 1 6", item.Open 0 1 6, codes "ok")
    ∷ (codes "open d0 1 6", item.Open 0 1 6, codes "condition")
    ∷ (codes "devdesc d0", item.DeviceDescriptor 0, codes "device 0200 00 00 00 64 aaaa bbbb 0100 0 0 0 1")
    ∷ (codes "descriptors d0", item.Descriptors 0, codes "desc cfg 1 if 0.0 ff 00 00 ep 81 bulk 64 0 ep 02 bulk 64 0")
    ∷ (codes "claim d0 1 i0", item.Claim 0 1 0, codes "error NotFound interface not found (errno 2)")
    ∷ (codes "claim d1 0 i0", item.Claim 1 0 0, codes "condition")
    ∷ (codes "claim d0 0 i0", item.Claim 0 0 0, codes "ok")
    ∷ (codes "claim d0 0 i1", item.Claim 0 0 1, codes "error Busy interface is busy (errno 16)")
    ∷ (codes "endpoint e0 i0 82 bulk-in", item.Endpoint 0 0 130 BulkIn, codes "error NotFound specified endpoint does not exist on this interface")
    ∷ (codes "endpoint e0 i0 81 bulk-out", item.Endpoint 0 0 129 BulkOut, codes "error Other incorrect endpoint direction")
    ∷ (codes "endpoint e0 i0 81 int-in", item.Endpoint 0 0 129 InterruptIn, codes "error Other incorrect endpoint type")
    ∷ (codes "endpoint e0 i0 81 bulk-in", item.Endpoint 0 0 129 BulkIn, codes "ok")
    ∷ (codes "endpoint e0 i0 81 bulk-in", item.Endpoint 0 0 129 BulkIn, codes "condition")
    ∷ (codes "endpoint e1 i0 81 bulk-in", item.Endpoint 1 0 129 BulkIn, codes "error Busy endpoint already in use")
    ∷ (codes "endpoint e1 i1 02 bulk-out", item.Endpoint 1 1 2 BulkOut, codes "condition")
    ∷ (codes "poll e0", item.Poll 0, codes "condition")
    ∷ (codes "submitout e0 00", item.SubmitOut 0 (0 ∷ []), codes "condition")
    ∷ (codes "submitin e1 64", item.SubmitIn 1 64, codes "condition")
    ∷ (codes "close e1", item.CloseEndpoint 1, codes "condition")
    ∷ (codes "cancel e1", item.Cancel 1, codes "condition")
    ∷ (codes "pending e1", item.Pending 1, codes "condition")
    ∷ (codes "pending e0", item.Pending 0, codes "count 0")
    ∷ (codes "now", item.Now, codes "now 0")
    ∷ [])
    []
unfolding script_on_literals output_on_literals
refused_calls = (refl, refl)

-- a device without descriptors, one without an active configuration, and one with an endpoint whose packets have no bytes
refused_devices : IsWorkedOut
    ((codes "device k0 1 1 3 1 -", item.Device 0 1 1 3 1 [], [])
    ∷ (codes "device k1 1 2 3 0 1201000200000040aaaabbbb0001000000010902200001010080320904000002ff0000000705810240000007050202400000", item.Device 1 1 2 3 0 bulk_bytes, [])
    ∷ (codes "device k2 1 3 3 1 1201000200000040aaaabbbb0001000000010902190001010080320904000001ff00000007058102000000", item.Device 2 1 3 3 1 unusable_bytes, [])
    ∷ (codes "open d0 1 1", item.Open 0 1 1, codes "error Other invalid device descriptor")
    ∷ (codes "open d1 1 2", item.Open 1 1 2, codes "ok")
    ∷ (codes "claim d1 0 i1", item.Claim 1 0 1, codes "error NotFound interface not found (errno 2)")
    ∷ (codes "open d2 1 3", item.Open 2 1 3, codes "ok")
    ∷ (codes "claim d2 0 i2", item.Claim 2 0 2, codes "ok")
    ∷ (codes "endpoint e2 i2 81 bulk-in", item.Endpoint 2 2 129 BulkIn, codes "error Other endpoint has max packet size 0")
    ∷ [])
    []
unfolding script_on_literals output_on_literals
refused_devices = (refl, refl)

-- packets of 4 bytes: a length is reached by two of them, one that is too long is a fault, an empty one ends a transfer, and a transfer that is cancelled keeps its bytes
packets : IsWorkedOut
    (with_interface
    ((codes "endpoint e7 i9 81 int-in", item.Endpoint 7 9 129 InterruptIn, codes "ok")
    ∷ (codes "submitin e7 8", item.SubmitIn 7 8, codes "ok")
    ∷ (codes "submitin e7 4", item.SubmitIn 7 4, codes "ok")
    ∷ (codes "submitin e7 8", item.SubmitIn 7 8, codes "ok")
    ∷ (codes "submitin e7 6", item.SubmitIn 7 6, codes "ok")
    ∷ (codes "submitin e7 0", item.SubmitIn 7 0, codes "ok")
    ∷ (codes "! pkt k3 81 01020304 ; pkt k3 81 05060708", item.Steps (Packet 3 129 (1 ∷ 2 ∷ 3 ∷ 4 ∷ []) ∷ Packet 3 129 (5 ∷ 6 ∷ 7 ∷ 8 ∷ []) ∷ []), [])
    ∷ (codes "! pkt k3 81 0102030405", item.Steps (Packet 3 129 (1 ∷ 2 ∷ 3 ∷ 4 ∷ 5 ∷ []) ∷ []), [])
    ∷ (codes "! pkt k3 81 01020304 ; pkt k3 81 -", item.Steps (Packet 3 129 (1 ∷ 2 ∷ 3 ∷ 4 ∷ []) ∷ Packet 3 129 [] ∷ []), [])
    ∷ (codes "! reap ; reap ; reap", item.Steps (Reap None ∷ Reap None ∷ Reap None ∷ []), [])
    ∷ (codes "poll e7", item.Poll 7, codes "done ok 8 8 0102030405060708")
    ∷ (codes "poll e7", item.Poll 7, codes "done fault 0 4 -")
    ∷ (codes "poll e7", item.Poll 7, codes "done ok 4 8 01020304")
    ∷ (codes "poll e7", item.Poll 7, codes "done invalid 0 6 -")
    ∷ (codes "poll e7", item.Poll 7, codes "done invalid 0 0 -")
    ∷ (codes "xferin e7 8 5 : pkt k3 81 01020304 ; clock 5", item.TransferIn 7 8 5 (Packet 3 129 (1 ∷ 2 ∷ 3 ∷ 4 ∷ []) ∷ Clock 5 ∷ []), codes "done cancelled 4 8 01020304")
    ∷ []))
    (codes "ticket 0 k3 81 ok 8 taken"
    ∷ codes "ticket 1 k3 81 fault 0 taken"
    ∷ codes "ticket 2 k3 81 ok 4 taken"
    ∷ codes "ticket 3 k3 81 invalid 0 taken"
    ∷ codes "ticket 4 k3 81 invalid 0 taken"
    ∷ codes "ticket 5 k3 81 cancelled 4 taken" ∷ [])
unfolding script_on_literals output_on_literals
packets = (refl, refl)

-- each acknowledgement takes up to 4 bytes; a failure keeps the count so far
acknowledgements : IsWorkedOut
    (with_interface
    ((codes "endpoint e8 i9 02 int-out", item.Endpoint 8 9 2 InterruptOut, codes "ok")
    ∷ (codes "submitout e8 01020304050607", item.SubmitOut 8 (1 ∷ 2 ∷ 3 ∷ 4 ∷ 5 ∷ 6 ∷ 7 ∷ []), codes "ok")
    ∷ (codes "submitout e8 0102030405", item.SubmitOut 8 (1 ∷ 2 ∷ 3 ∷ 4 ∷ 5 ∷ []), codes "ok")
    ∷ (codes "! ack k3 02 ; ack k3 02 ; ack k3 02 ; fail k3 02 32", item.Steps (Ack 3 2 ∷ Ack 3 2 ∷ Ack 3 2 ∷ Fail 3 2 32 ∷ []), [])
    ∷ (codes "! reap ; reap", item.Steps (Reap None ∷ Reap None ∷ []), [])
    ∷ (codes "poll e8", item.Poll 8, codes "done ok 7 7 01020304050607")
    ∷ (codes "poll e8", item.Poll 8, codes "done stall 4 5 0102030405")
    ∷ []))
    (codes "ticket 0 k3 02 ok 7 taken"
    ∷ codes "ticket 1 k3 02 stall 4 taken" ∷ [])
unfolding script_on_literals output_on_literals
acknowledgements = (refl, refl)
