-- The devices of the scripts that are worked out, and the lines that open their endpoints.
use Rattle.std.proofs.Common.{ℕ, List, [], ◌∷◌, codes}
use Rattle.usb_script_words.specs.declared.endpoint_kind.EndpointKind.TheVariants.{BulkIn, BulkOut}
use Rattle.usb_script_lines.specs.declared.item.Item.TheVariants as item
use Rattle.usb_session.proofs.WorkedOutput.{Line}

-- a device with a bulk IN endpoint 81 and a bulk OUT endpoint 02, with packets of at most 64 bytes
abbrev pub bulk_bytes : List ℕ
bulk_bytes = 18 ∷ 1 ∷ 0 ∷ 2 ∷ 0 ∷ 0 ∷ 0 ∷ 64 ∷ 170 ∷ 170 ∷ 187 ∷ 187 ∷ 0 ∷ 1 ∷ 0 ∷ 0 ∷ 0 ∷ 1
    ∷ 9 ∷ 2 ∷ 32 ∷ 0 ∷ 1 ∷ 1 ∷ 0 ∷ 128 ∷ 50
    ∷ 9 ∷ 4 ∷ 0 ∷ 0 ∷ 2 ∷ 255 ∷ 0 ∷ 0 ∷ 0
    ∷ 7 ∷ 5 ∷ 129 ∷ 2 ∷ 64 ∷ 0 ∷ 0
    ∷ 7 ∷ 5 ∷ 2 ∷ 2 ∷ 64 ∷ 0 ∷ 0
    ∷ []

abbrev pub bulk_device : Line
bulk_device =
    (codes "device k0 1 6 3 1 1201000200000040aaaabbbb0001000000010902200001010080320904000002ff0000000705810240000007050202400000", item.Device 0 1 6 3 1 bulk_bytes, [])

-- its endpoint 81 is opened before these lines
abbrev pub with_endpoint : List Line → List Line
with_endpoint lines =
    bulk_device
    ∷ (codes "open d0 1 6", item.Open 0 1 6, codes "ok")
    ∷ (codes "claim d0 0 i0", item.Claim 0 0 0, codes "ok")
    ∷ (codes "endpoint e0 i0 81 bulk-in", item.Endpoint 0 0 129 BulkIn, codes "ok")
    ∷ lines

-- a device with an interface 5 in a configuration 7: an interrupt IN endpoint 81 and an interrupt OUT endpoint 02, with packets of at most 4 bytes
abbrev pub interrupt_bytes : List ℕ
interrupt_bytes = 18 ∷ 1 ∷ 0 ∷ 2 ∷ 0 ∷ 0 ∷ 0 ∷ 64 ∷ 170 ∷ 170 ∷ 187 ∷ 187 ∷ 0 ∷ 1 ∷ 0 ∷ 0 ∷ 0 ∷ 1
    ∷ 9 ∷ 2 ∷ 32 ∷ 0 ∷ 1 ∷ 7 ∷ 0 ∷ 128 ∷ 50
    ∷ 9 ∷ 4 ∷ 5 ∷ 0 ∷ 2 ∷ 3 ∷ 0 ∷ 0 ∷ 0
    ∷ 7 ∷ 5 ∷ 129 ∷ 3 ∷ 4 ∷ 0 ∷ 10
    ∷ 7 ∷ 5 ∷ 2 ∷ 3 ∷ 4 ∷ 0 ∷ 10
    ∷ []

abbrev pub with_interface : List Line → List Line
with_interface lines =
    (codes "device k3 2 9 2 7 1201000200000040aaaabbbb0001000000010902200001070080320904050002030000000705810304000a0705020304000a", item.Device 3 2 9 2 7 interrupt_bytes, [])
    ∷ (codes "open d2 2 9", item.Open 2 2 9, codes "ok")
    ∷ (codes "claim d2 5 i9", item.Claim 2 5 9, codes "ok")
    ∷ lines

-- a device whose only endpoint has packets of no bytes
abbrev pub unusable_bytes : List ℕ
unusable_bytes = 18 ∷ 1 ∷ 0 ∷ 2 ∷ 0 ∷ 0 ∷ 0 ∷ 64 ∷ 170 ∷ 170 ∷ 187 ∷ 187 ∷ 0 ∷ 1 ∷ 0 ∷ 0 ∷ 0 ∷ 1
    ∷ 9 ∷ 2 ∷ 25 ∷ 0 ∷ 1 ∷ 1 ∷ 0 ∷ 128 ∷ 50
    ∷ 9 ∷ 4 ∷ 0 ∷ 0 ∷ 1 ∷ 255 ∷ 0 ∷ 0 ∷ 0
    ∷ 7 ∷ 5 ∷ 129 ∷ 2 ∷ 0 ∷ 0 ∷ 0
    ∷ []

-- its endpoint 02 is opened before these lines
abbrev pub with_out_endpoint : List Line → List Line
with_out_endpoint lines =
    bulk_device
    ∷ (codes "open d0 1 6", item.Open 0 1 6, codes "ok")
    ∷ (codes "claim d0 0 i0", item.Claim 0 0 0, codes "ok")
    ∷ (codes "endpoint e0 i0 02 bulk-out", item.Endpoint 0 0 2 BulkOut, codes "ok")
    ∷ lines
