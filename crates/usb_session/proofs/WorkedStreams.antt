-- Scripts of readers and writers and what is written for them, worked out by hand.
use Rattle.std.proofs.Common.{[], ◌∷◌, ◌++◌, codes, None, refl}
use Rattle.std.specs.Fmt.{decimal}
use Rattle.std.specs.Prelude.{map, replicate}
use Rattle.usb_kernel_devices.specs.declared.step.KernelStep.TheVariants.{Packet, Ack, Fail, Clock, Reap}
use Rattle.usb_script_words.specs.declared.endpoint_kind.EndpointKind.TheVariants.{BulkIn, InterruptIn}
use Rattle.usb_script_words.specs.declared.framing.Framing.TheVariants.{Plain, UntilShort}
use Rattle.usb_script_lines.specs.declared.item.Item.TheVariants as item
use Rattle.usb_script.proofs.OnLiterals.{script_on_literals}
use Rattle.usb_session_streams.specs.Numbers.{numbers_from}
use Rattle.usb_session.proofs.WorkedOutput.{output_on_literals, IsWorkedOut}
use Rattle.usb_session.proofs.WorkedDevices.{with_endpoint, interrupt_bytes, with_out_endpoint}

-- a reader of transfers of two packets, which ends at short packets: a message of a full and a short packet, and an empty one; then
-- it keeps none pending, and a read of its own finds nothing more
messages : IsWorkedOut
    ((codes "device k0 1 6 2 7 1201000200000040aaaabbbb0001000000010902200001070080320904050002030000000705810304000a0705020304000a", item.Device 0 1 6 2 7 interrupt_bytes, [])
    ∷ (codes "open d0 1 6", item.Open 0 1 6, codes "ok")
    ∷ (codes "claim d0 5 i0", item.Claim 0 5 0, codes "ok")
    ∷ (codes "endpoint e0 i0 81 int-in", item.Endpoint 0 0 129 InterruptIn, codes "ok")
    ∷ (codes "reader r0 e0 5", item.Reader 0 0 5, codes "ok")
    ∷ (codes "num r0 2", item.SetNumTransfers 0 2, codes "ok")
    ∷ (codes "! pkt k0 81 11111111 ; pkt k0 81 2222", item.Steps (Packet 0 129 (17 ∷ 17 ∷ 17 ∷ 17 ∷ []) ∷ Packet 0 129 (34 ∷ 34 ∷ []) ∷ []), [])
    ∷ (codes "sread r0 5", item.Read UntilShort 0 5 [], codes "read 5 1111111122")
    ∷ (codes "isend r0", item.IsEnd 0, codes "end false")
    ∷ (codes "pollsread r0 5", item.PollRead UntilShort 0 5, codes "read 1 22")
    ∷ (codes "sread r0 5", item.Read UntilShort 0 5 [], codes "read 0 -")
    ∷ (codes "endmsg r0", item.ConsumeEnd 0, codes "ok")
    ∷ (codes "endmsg r0", item.ConsumeEnd 0, codes "expected short packet")
    ∷ (codes "sfill r0 : pkt k0 81 -", item.FillBuf UntilShort 0 (Packet 0 129 [] ∷ []), codes "buf 0 -")
    ∷ (codes "isend r0", item.IsEnd 0, codes "end true")
    ∷ (codes "cancel r0", item.CancelReader 0, codes "ok")
    ∷ (codes "read r0 4 : reap", item.Read Plain 0 4 (Reap None ∷ []), codes "read 0 -")
    ∷ [])
    (codes "ticket 0 k0 81 ok 6 taken"
    ∷ codes "ticket 1 k0 81 ok 0 taken"
    ∷ codes "ticket 2 k0 81 cancelled 0 taken" ∷ [])
unfolding script_on_literals output_on_literals
messages = (refl, refl)

-- bytes that stand are lent and taken off, a read times out, a fault lasts, and the endpoint comes back; what is barred does nothing
further_reads : IsWorkedOut
    (with_endpoint
    ((codes "reader r3 e0 64", item.Reader 3 0 64, codes "ok")
    ∷ (codes "reader r3 e0 64", item.Reader 3 0 64, codes "condition")
    ∷ (codes "fill r3 : pkt k0 81 010203", item.FillBuf Plain 3 (Packet 0 129 (1 ∷ 2 ∷ 3 ∷ []) ∷ []), codes "buf 3 010203")
    ∷ (codes "consume r3 4", item.Consume Plain 3 4, codes "condition")
    ∷ (codes "sconsume r3 1", item.Consume UntilShort 3 1, codes "ok")
    ∷ (codes "read r3 1", item.Read Plain 3 1 [], codes "read 1 02")
    ∷ (codes "consume r3 1", item.Consume Plain 3 1, codes "ok")
    ∷ (codes "timeout r3 7", item.SetReadTimeout 3 7, codes "ok")
    ∷ (codes "read r3 1 : clock 7", item.Read Plain 3 1 (Clock 7 ∷ []), codes "io TimedOut timeout waiting for read")
    ∷ (codes "pollfill r3", item.PollFillBuf Plain 3, codes "pending")
    ∷ (codes "num r3 65", item.SetNumTransfers 3 65, codes "condition")
    ∷ (codes "read r3 1 : fail k0 81 32", item.Read Plain 3 1 (Fail 0 129 32 ∷ []), codes "io ConnectionReset endpoint stalled")
    ∷ (codes "pollsread r3 1", item.PollRead UntilShort 3 1, codes "io ConnectionReset endpoint stalled")
    ∷ (codes "inner e5 r3", item.IntoInner 5 3, codes "ok")
    ∷ (codes "isend r3", item.IsEnd 3, codes "condition")
    ∷ (codes "reader r0 e5 1", item.Reader 0 5 1, codes "ok")
    ∷ (codes "num r0 2", item.SetNumTransfers 0 2, codes "ok")
    ∷ (codes "close r0", item.CloseReader 0, codes "ok")
    ∷ []))
    (codes "ticket 0 k0 81 ok 3 taken"
    ∷ codes "ticket 1 k0 81 stall 0 taken"
    ∷ codes "ticket 2 k0 81 cancelled 0 reclaimed" ∷ [])
unfolding script_on_literals output_on_literals
further_reads = (refl, refl)

-- a writer of transfers of two packets: an empty message; one of two full packets, which an empty transfer ends; and one that ends with a
-- short packet, whose flush is too early by an acknowledgement
ends_of_messages : IsWorkedOut
    (with_out_endpoint
    ((codes "writer w0 e0 128", item.Writer 0 0 128, codes "ok")
    ∷ (codes "wend w0", item.SubmitEnd 0, codes "ok")
    ∷ (codes "! ack k0 02", item.Steps (Ack 0 2 ∷ []), [])
    ∷ (codes "write w0 " ++ replicate 256 49, item.Write 0 (replicate 128 17) [], codes "wrote 128")
    ∷ (codes "wend w0", item.SubmitEnd 0, codes "ok")
    ∷ (codes "flush w0 : ack k0 02 ; ack k0 02 ; ack k0 02", item.Flush 0 (Ack 0 2 ∷ Ack 0 2 ∷ Ack 0 2 ∷ []), codes "ok")
    ∷ (codes "write w0 " ++ replicate 200 50, item.Write 0 (replicate 100 34) [], codes "wrote 100")
    ∷ (codes "wend w0", item.SubmitEnd 0, codes "ok")
    ∷ (codes "flush w0 : ack k0 02", item.Flush 0 (Ack 0 2 ∷ []), codes "io TimedOut write timeout")
    ∷ (codes "flush w0 : ack k0 02", item.Flush 0 (Ack 0 2 ∷ []), codes "ok")
    ∷ []))
    (codes "ticket 0 k0 02 ok 0 taken"
    ∷ codes "ticket 1 k0 02 ok 128 taken"
    ∷ codes "ticket 2 k0 02 ok 0 taken"
    ∷ codes "ticket 3 k0 02 ok 100 taken" ∷ [])
unfolding script_on_literals output_on_literals
ends_of_messages = (refl, refl)

-- a failed transfer is told once
told_once : IsWorkedOut
    (with_out_endpoint
    ((codes "writer w0 e0 64", item.Writer 0 0 64, codes "ok")
    ∷ (codes "write w0 111111", item.Write 0 (17 ∷ 17 ∷ 17 ∷ []) [], codes "wrote 3")
    ∷ (codes "flush w0 : fail k0 02 32", item.Flush 0 (Fail 0 2 32 ∷ []), codes "io ConnectionReset endpoint stalled")
    ∷ (codes "flush w0", item.Flush 0 [], codes "ok")
    ∷ []))
    (codes "ticket 0 k0 02 stall 0 taken" ∷ [])
unfolding script_on_literals output_on_literals
told_once = (refl, refl)

-- a writer and a reader that are polled: an end is submitted by the first of the polls to it alone
polled_messages : IsWorkedOut
    (with_out_endpoint
    ((codes "writer w0 e0 64", item.Writer 0 0 64, codes "ok")
    ∷ (codes "pollwrite w0 0102", item.PollWrite 0 (1 ∷ 2 ∷ []), codes "wrote 2")
    ∷ (codes "pollflushend w0", item.PollFlushEnd 0, codes "pending")
    ∷ (codes "! ack k0 02 ; reap", item.Steps (Ack 0 2 ∷ Reap None ∷ []), [])
    ∷ (codes "pollflushend w0", item.PollFlushEnd 0, codes "ok")
    ∷ (codes "endpoint e1 i0 81 bulk-in", item.Endpoint 1 0 129 BulkIn, codes "ok")
    ∷ (codes "reader r0 e1 64", item.Reader 0 1 64, codes "ok")
    ∷ (codes "pollread r0 5", item.PollRead Plain 0 5, codes "pending")
    ∷ (codes "! pkt k0 81 0a ; reap", item.Steps (Packet 0 129 (10 ∷ []) ∷ Reap None ∷ []), [])
    ∷ (codes "pollsread r0 5", item.PollRead UntilShort 0 5, codes "read 1 0a")
    ∷ (codes "pollsread r0 5", item.PollRead UntilShort 0 5, codes "read 0 -")
    ∷ (codes "pollread r0 5", item.PollRead Plain 0 5, codes "pending")
    ∷ []))
    (codes "ticket 0 k0 02 ok 2 taken"
    ∷ codes "ticket 1 k0 81 ok 1 taken"
    ∷ codes "ticket 2 k0 81 cancelled 0 reclaimed" ∷ [])
unfolding script_on_literals output_on_literals
polled_messages = (refl, refl)

-- a buffer that is filled, submitted, waited for and used again; and a message of a whole packet
messages_out : IsWorkedOut
    (with_out_endpoint
    ((codes "writer w0 e0 128", item.Writer 0 0 128, codes "ok")
    ∷ (codes "write w0 " ++ replicate 128 50, item.Write 0 (replicate 64 34) [], codes "wrote 64")
    ∷ (codes "write w0 " ++ replicate 128 50 ++ codes "2233", item.Write 0 (replicate 64 34 ++ 34 ∷ 51 ∷ []) [], codes "wrote 64")
    ∷ (codes "write w0 2233 : ack k0 02 ; ack k0 02", item.Write 0 (34 ∷ 51 ∷ []) (Ack 0 2 ∷ Ack 0 2 ∷ []), codes "wrote 2")
    ∷ (codes "wend w0", item.SubmitEnd 0, codes "ok")
    ∷ (codes "flush w0 : ack k0 02", item.Flush 0 (Ack 0 2 ∷ []), codes "ok")
    ∷ (codes "write w0 " ++ replicate 128 50, item.Write 0 (replicate 64 34) [], codes "wrote 64")
    ∷ (codes "flushend w0 : ack k0 02 ; ack k0 02", item.FlushEnd 0 (Ack 0 2 ∷ Ack 0 2 ∷ []), codes "ok")
    ∷ (codes "flush w0", item.Flush 0 [], codes "ok")
    ∷ []))
    (codes "ticket 0 k0 02 ok 128 taken"
    ∷ codes "ticket 1 k0 02 ok 2 taken"
    ∷ codes "ticket 2 k0 02 ok 64 taken"
    ∷ codes "ticket 3 k0 02 ok 0 taken" ∷ [])
unfolding script_on_literals output_on_literals
messages_out = (refl, refl)

-- what is set of a writer; a write that is too early by a poll, by its time and not at all; flushes that are polled; and the endpoint comes
-- back, and is closed as that of another writer. What is barred does nothing
further_writes : IsWorkedOut
    (with_out_endpoint
    ((codes "endpoint e1 i0 81 bulk-in", item.Endpoint 1 0 129 BulkIn, codes "ok")
    ∷ (codes "writer w1 e1 64", item.Writer 1 1 64, codes "condition")
    ∷ (codes "writer w3 e0 64", item.Writer 3 0 64, codes "ok")
    ∷ (codes "writer w1 e0 64", item.Writer 1 0 64, codes "condition")
    ∷ (codes "num w3 0", item.SetWriterTransfers 3 0, codes "condition")
    ∷ (codes "num w3 65", item.SetWriterTransfers 3 65, codes "condition")
    ∷ (codes "num w3 2", item.SetWriterTransfers 3 2, codes "ok")
    ∷ (codes "timeout w3 7", item.SetWriteTimeout 3 7, codes "ok")
    ∷ (codes "write w3 010203", item.Write 3 (1 ∷ 2 ∷ 3 ∷ []) [], codes "wrote 3")
    ∷ (codes "wsubmit w3", item.Submit 3, codes "ok")
    ∷ (codes "wsubmit w3", item.Submit 3, codes "ok")
    ∷ (codes "pollwrite w3 " ++ replicate 128 50, item.PollWrite 3 (replicate 64 34), codes "wrote 64")
    ∷ (codes "pollwrite w3 04", item.PollWrite 3 (4 ∷ []), codes "pending")
    ∷ (codes "write w3 04 : clock 7", item.Write 3 (4 ∷ []) (Clock 7 ∷ []), codes "io TimedOut write timeout")
    ∷ (codes "write w3 04 : ack k0 02", item.Write 3 (4 ∷ []) (Ack 0 2 ∷ []), codes "wrote 1")
    ∷ (codes "pollflush w3", item.PollFlush 3, codes "pending")
    ∷ (codes "! ack k0 02 ; ack k0 02", item.Steps (Ack 0 2 ∷ Ack 0 2 ∷ []), [])
    ∷ (codes "pollflush w3", item.PollFlush 3, codes "pending")
    ∷ (codes "! reap ; reap", item.Steps (Reap None ∷ Reap None ∷ []), [])
    ∷ (codes "pollflush w3", item.PollFlush 3, codes "ok")
    ∷ (codes "inner e5 w3", item.WriterIntoInner 5 3, codes "ok")
    ∷ (codes "wend w3", item.SubmitEnd 3, codes "condition")
    ∷ (codes "writer w0 e5 1", item.Writer 0 5 1, codes "ok")
    ∷ (codes "pollflushend w0", item.PollFlushEnd 0, codes "pending")
    ∷ (codes "close w0", item.CloseWriter 0, codes "ok")
    ∷ (codes "flushend w0", item.FlushEnd 0 [], codes "condition")
    ∷ []))
    (codes "ticket 0 k0 02 ok 3 taken"
    ∷ codes "ticket 1 k0 02 ok 64 taken"
    ∷ codes "ticket 2 k0 02 ok 1 taken"
    ∷ codes "ticket 3 k0 02 cancelled 0 reclaimed" ∷ [])
unfolding script_on_literals output_on_literals
further_writes = (refl, refl)

-- where 63 transfers are pending, and a whole packet stands, an end is barred, which may need two; and where 64 are, one that needs one. A
-- write is not, since it waits first
full_writer : IsWorkedOut
    (with_out_endpoint
    ((codes "writer w0 e0 128", item.Writer 0 0 128, codes "ok")
    ∷ (codes "num w0 64", item.SetWriterTransfers 0 64, codes "ok")
    ∷ replicate 63 (codes "wend w0", item.SubmitEnd 0, codes "ok")
    ++ (codes "write w0 " ++ replicate 128 50, item.Write 0 (replicate 64 34) [], codes "wrote 64")
    ∷ (codes "wend w0", item.SubmitEnd 0, codes "condition")
    ∷ (codes "flushend w0", item.FlushEnd 0 [], codes "condition")
    ∷ (codes "pollflushend w0", item.PollFlushEnd 0, codes "condition")
    ∷ (codes "wsubmit w0", item.Submit 0, codes "ok")
    ∷ (codes "wend w0", item.SubmitEnd 0, codes "condition")
    ∷ (codes "pollflush w0", item.PollFlush 0, codes "pending")
    ∷ (codes "pollwrite w0 01", item.PollWrite 0 (1 ∷ []), codes "pending")
    ∷ []))
    (map (λ t. codes "ticket " ++ decimal t ++ codes " k0 02 cancelled 0 reclaimed") (numbers_from 0 64))
unfolding script_on_literals output_on_literals
full_writer = (refl, refl)
