-- What became of the endpoints of a script, and when a call at an endpoint is barred.
use Rattle.std.proofs.Common.{◌≡◌, ℕ, List, [], ◌∷◌, codes, Option, Some, None, refl}
use Rattle.std.specs.Prelude.{true, false, map, replicate}
use Rattle.usb_desc.specs.declared.types.Direction.TheVariants.{In}
use Rattle.usb_desc.specs.declared.types.TransferType.TheVariants.{Bulk}
use Rattle.usb_kernel_devices.specs.declared.step.KernelStep.TheVariants.{Packet, Reap}
use Rattle.usb_kernel.specs.Info.{unreaped}
use Rattle.usb_device_endpoint.specs.EndpointState.{EndpointState}
use Rattle.usb_script_words.specs.declared.endpoint_kind.EndpointKind.TheVariants.{BulkIn}
use Rattle.usb_script_lines.specs.declared.item.Item.TheVariants as item
use Rattle.usb_session_calls.specs.Submits.{bars_submission}
use Rattle.usb_session_streams.specs.Needs.{bars_need, write_need, flush_need, finish_need}
use Rattle.usb_io.specs.Writers.{WriterState}
use Rattle.usb_session.specs.Served.{ClosedEndpoint, closed_endpoints}
use Rattle.usb_session.proofs.WorkedOutput.{output_on_literals, Line, with_end, items}
use Rattle.usb_session.proofs.WorkedDevices.{with_endpoint}

-- what became of each endpoint of a script: the tickets that were taken, those that were pending at its close, and the lines that
-- printed the former
abbrev endpoints_of : List Line → List (List ℕ × List ℕ × List (List ℕ))
endpoints_of lines = map (λ (h : ClosedEndpoint). (h.endpoint.taken, h.endpoint.state.pending, h.lines)) (closed_endpoints (items lines))

-- two endpoints under one name, the first closed with two tickets; and one whose tickets are polled, cancelled and transferred
one_name_twice : endpoints_of
    (with_endpoint
    ((codes "submitin e0 64", item.SubmitIn 0 64, codes "ok")
    ∷ (codes "submitin e0 64", item.SubmitIn 0 64, codes "ok")
    ∷ (codes "! pkt k0 81 01 ; reap", item.Steps (Packet 0 129 (1 ∷ []) ∷ Reap None ∷ []), [])
    ∷ (codes "poll e0", item.Poll 0, codes "done ok 1 64 01")
    ∷ (codes "poll e0", item.Poll 0, codes "pending")
    ∷ (codes "close e0", item.CloseEndpoint 0, codes "ok")
    ∷ (codes "! reap 1", item.Steps (Reap (Some 1) ∷ []), [])
    ∷ (codes "endpoint e0 i0 81 bulk-in", item.Endpoint 0 0 129 BulkIn, codes "ok")
    ∷ (codes "xferin e0 64 5", item.TransferIn 0 64 5 [], codes "done cancelled 0 64 -")
    ∷ (codes "submitin e0 64", item.SubmitIn 0 64, codes "ok")
    ∷ (codes "submitin e0 64", item.SubmitIn 0 64, codes "ok")
    ∷ (codes "wait e0 9 : pkt k0 81 02 ; reap", item.Wait 0 9 (Packet 0 129 (2 ∷ []) ∷ Reap None ∷ []), codes "done ok 1 64 02")
    ∷ []))
    ≡ (0 ∷ [], 1 ∷ [], with_end (codes "done ok 1 64 01") ∷ [])
    ∷ (2 ∷ 3 ∷ [], 4 ∷ [], with_end (codes "done cancelled 0 64 -") ∷ with_end (codes "done ok 1 64 02") ∷ [])
    ∷ []
unfolding output_on_literals closed_endpoints
one_name_twice = refl

-- an endpoint with so many pending transfers
abbrev endpoint_with : ℕ → EndpointState
endpoint_with n = record { device = 0; address = 129; kind = Bulk; maximum = 64; key = 0; pending = replicate n 0 }

-- a submission is barred from the 65th pending transfer on
not_full : bars_submission [] In (endpoint_with 63) ≡ false
unfolding unreaped
not_full = refl

full : bars_submission [] In (endpoint_with 64) ≡ true
full = refl

-- so are calls of a writer that may need one or two
none_needed : bars_need [] 64 0 ≡ false
unfolding unreaped
none_needed = refl

one_needed : (bars_need [] 63 1 ≡ false) × (bars_need [] 64 1 ≡ true)
unfolding unreaped
one_needed = (refl, refl)

two_needed : (bars_need [] 62 2 ≡ false) × (bars_need [] 63 2 ≡ true)
unfolding unreaped
two_needed = (refl, refl)

-- a writer of transfers of two packets, of which two may be pending, with so many pending, and with this buffer
abbrev writer_at_two : ℕ → Option (List ℕ) → WriterState
writer_at_two pending buffer = record { endpoint = record (endpoint_with pending) { address = 2 }; n = 2; size = 128; timeout = 0; buffer = buffer; begun = false }

-- where a buffer stands, or less are pending than may be, a write may need one
needs_of_writes : (write_need (writer_at_two 1 None) ≡ 1) × (write_need (writer_at_two 2 None) ≡ 0) × (write_need (writer_at_two 2 (Some [])) ≡ 1)
needs_of_writes = (refl, refl, refl)

-- what flushes needs one where bytes stand
needs_of_flushes : (flush_need (writer_at_two 0 None) ≡ 0) × (flush_need (writer_at_two 0 (Some [])) ≡ 0) × (flush_need (writer_at_two 0 (Some (1 ∷ []))) ≡ 1)
needs_of_flushes = (refl, refl, refl)

-- an end needs one, and behind whole packets two
needs_of_ends : (finish_need (writer_at_two 0 None) ≡ 1) × (finish_need (writer_at_two 0 (Some [])) ≡ 1) × (finish_need (writer_at_two 0 (Some (replicate 63 0))) ≡ 1) × (finish_need (writer_at_two 0 (Some (replicate 64 0))) ≡ 2)
needs_of_ends = (refl, refl, refl, refl)
