-- Scripts of a client of messages, and what is written for them, worked out by hand.
use Rattle.std.proofs.Common.{ℕ, zero, suc, List, [], ◌∷◌, ◌++◌, codes, refl}
use Rattle.std.specs.Prelude.{replicate}
use Rattle.usb_kernel_devices.specs.declared.step.KernelStep.{KernelStep}
use Rattle.usb_kernel_devices.specs.declared.step.KernelStep.TheVariants.{Packet, Ack, Fail}
use Rattle.usb_script_words.specs.declared.endpoint_kind.EndpointKind.TheVariants.{BulkIn, BulkOut}
use Rattle.usb_script_lines.specs.declared.item.Item.TheVariants as item
use Rattle.usb_script.proofs.OnLiterals.{script_on_literals}
use Rattle.usb_session.proofs.WorkedOutput.{output_on_literals, Line, IsWorkedOut}
use Rattle.usb_session.proofs.WorkedDevices.{with_out_endpoint}

-- a client is made of both endpoints before these lines
abbrev with_client : List Line → List Line
with_client lines =
    with_out_endpoint
    ((codes "endpoint e1 i0 81 bulk-in", item.Endpoint 1 0 129 BulkIn, codes "ok")
    ∷ (codes "msg m0 e0 e1", item.Client 0 0 1, codes "ok")
    ∷ lines)

-- the second response has the tag of none: the client has ended, and submits no further request
wrong_tag : IsWorkedOut
    (with_client
    ((codes "mreq m0 aabb", item.Request 0 (170 ∷ 187 ∷ []) [], codes "request 0")
    ∷ (codes "mreq m0 -", item.Request 0 [] [], codes "request 1")
    ∷ (codes "mcount m0", item.Outstanding 0, codes "count 2")
    ∷ (codes "mresp m0 : pkt k0 81 00000000cc", item.Response 0 (Packet 0 129 (0 ∷ 0 ∷ 0 ∷ 0 ∷ 204 ∷ []) ∷ []), codes "response cc")
    ∷ (codes "mresp m0 : pkt k0 81 05000000", item.Response 0 (Packet 0 129 (5 ∷ 0 ∷ 0 ∷ 0 ∷ []) ∷ []), codes "msgerror wrong-tag 1 5")
    ∷ (codes "mreq m0 dd", item.Request 0 (221 ∷ []) [], codes "msgerror wrong-tag 1 5")
    ∷ (codes "mcount m0", item.Outstanding 0, codes "count 1")
    ∷ []))
    (codes "ticket 0 k0 02 cancelled 0 reclaimed"
    ∷ codes "ticket 1 k0 02 cancelled 0 reclaimed"
    ∷ codes "ticket 2 k0 81 ok 5 taken"
    ∷ codes "ticket 3 k0 81 ok 4 taken" ∷ [])
unfolding script_on_literals output_on_literals
wrong_tag = (refl, refl)

-- the packets of one transfer: the tag 0 with 60 bytes of a body, and seven times 64 bytes more
abbrev more : ℕ → List KernelStep
more zero = []
more (suc n) = Packet 0 129 (replicate 64 51) ∷ more n

abbrev more_text : ℕ → List ℕ
more_text zero = []
more_text (suc n) = codes " ; pkt k0 81 " ++ (replicate 128 51 ++ more_text n)

-- the time of a response is over inside its frame: its bytes stay, and the next call takes them with the last one
time_inside : IsWorkedOut
    (with_client
    ((codes "mreq m0 aa : ack k0 02", item.Request 0 (170 ∷ []) (Ack 0 2 ∷ []), codes "request 0")
    ∷ (codes "mresp m0 : pkt k0 81 00000000" ++ (replicate 120 50 ++ more_text 7), item.Response 0 (Packet 0 129 (0 ∷ 0 ∷ 0 ∷ 0 ∷ replicate 60 34) ∷ more 7), codes "io TimedOut timeout waiting for read")
    ∷ (codes "mcount m0", item.Outstanding 0, codes "count 1")
    ∷ (codes "mresp m0 : pkt k0 81 44", item.Response 0 (Packet 0 129 (68 ∷ []) ∷ []), codes "response " ++ (replicate 120 50 ++ (replicate 896 51 ++ codes "44")))
    ∷ (codes "mcount m0", item.Outstanding 0, codes "count 0")
    ∷ (codes "close m0", item.CloseClient 0, codes "ok")
    ∷ (codes "mcount m0", item.Outstanding 0, codes "condition")
    ∷ []))
    (codes "ticket 0 k0 02 ok 5 dropped"
    ∷ codes "ticket 1 k0 81 ok 512 taken"
    ∷ codes "ticket 2 k0 81 ok 1 taken" ∷ [])
unfolding script_on_literals output_on_literals
time_inside = (refl, refl)

-- a failed transfer ends a client, which tells it from then on; and its endpoints are under its name alone
ended : IsWorkedOut
    (with_client
    ((codes "mresp m0", item.Response 0 [], codes "condition")
    ∷ (codes "mreq m0 aa", item.Request 0 (170 ∷ []) [], codes "request 0")
    ∷ (codes "mresp m0 : fail k0 81 32", item.Response 0 (Fail 0 129 32 ∷ []), codes "io ConnectionReset endpoint stalled")
    ∷ (codes "mreq m0 bb", item.Request 0 (187 ∷ []) [], codes "io ConnectionReset endpoint stalled")
    ∷ (codes "msg m1 e0 e1", item.Client 1 0 1, codes "condition")
    ∷ (codes "close m0", item.CloseClient 0, codes "ok")
    ∷ []))
    (codes "ticket 0 k0 02 cancelled 0 reclaimed"
    ∷ codes "ticket 1 k0 81 stall 0 taken" ∷ [])
unfolding script_on_literals output_on_literals
ended = (refl, refl)

-- so does a message with no tag in it; and a client is made of an OUT endpoint and an IN endpoint alone
short : IsWorkedOut
    (with_out_endpoint
    ((codes "endpoint e1 i0 81 bulk-in", item.Endpoint 1 0 129 BulkIn, codes "ok")
    ∷ (codes "msg m1 e1 e0", item.Client 1 1 0, codes "condition")
    ∷ (codes "msg m1 e0 e0", item.Client 1 0 0, codes "condition")
    ∷ (codes "msg m1 e0 e1", item.Client 1 0 1, codes "ok")
    ∷ (codes "mreq m1 -", item.Request 1 [] [], codes "request 0")
    ∷ (codes "mresp m1 : pkt k0 81 0102", item.Response 1 (Packet 0 129 (1 ∷ 2 ∷ []) ∷ []), codes "msgerror short 2")
    ∷ (codes "mresp m1", item.Response 1 [], codes "msgerror short 2")
    ∷ []))
    (codes "ticket 0 k0 02 cancelled 0 reclaimed"
    ∷ codes "ticket 1 k0 81 ok 2 taken" ∷ [])
unfolding script_on_literals output_on_literals
short = (refl, refl)
