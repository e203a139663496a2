-- The lines that are written out, each with its item.
use Rattle.std.proofs.Common.{◌≡◌, ℕ, List, [], ◌∷◌, ◌++◌, codes, refl}
use Rattle.usb_script_words.specs.declared.endpoint_kind.EndpointKind.TheVariants.{BulkIn, BulkOut}
use Rattle.usb_script_words.specs.declared.framing.Framing.TheVariants.{UntilShort}
use Rattle.usb_script_words.specs.Lines.{lines_of}
use Rattle.usb_kernel_devices.specs.declared.step.KernelStep.TheVariants.{Echo}
use Rattle.usb_script_lines.specs.declared.item.Item.{Item}
use Rattle.usb_script_lines.specs.declared.item.Item.TheVariants.{Device, Open, Claim, Endpoint, Writer, SetWriterTransfers, Reader, SetNumTransfers, SubmitEnd, Flush, Read, ConsumeEnd, Steps}
use Rattle.usb_script.specs.Parse.{parse_from}
use Rattle.usb_script.proofs.OnLiterals.{script_on_literals}
use Rattle.usb_script.specs.Generated.{line, opening}
use Rattle.usb_script.proofs.ReadOn.{Reads, line_reads}

pub end_reads : Reads (line (codes "wend w0"))
unfolding script_on_literals
end_reads = line_reads (codes "wend w0") (SubmitEnd 0) (λ rest. refl) refl (λ before. refl)

pub echo_reads : Reads (line (codes "! echo k0 02 81"))
unfolding script_on_literals
echo_reads =
    line_reads (codes "! echo k0 02 81") (Steps (Echo 0 2 129 ∷ [])) (λ rest. refl) refl (λ before. refl)

pub flush_reads : Reads (line (codes "flush w0"))
unfolding script_on_literals
flush_reads = line_reads (codes "flush w0") (Flush 0 []) (λ rest. refl) refl (λ before. refl)

pub read_reads : Reads (line (codes "sread r0 200"))
unfolding script_on_literals
read_reads =
    line_reads (codes "sread r0 200") (Read UntilShort 0 200 []) (λ rest. refl) refl (λ before. refl)

pub taken_end_reads : Reads (line (codes "endmsg r0"))
unfolding script_on_literals
taken_end_reads = line_reads (codes "endmsg r0") (ConsumeEnd 0) (λ rest. refl) refl (λ before. refl)

-- the bytes of the descriptors
abbrev descriptors : List ℕ
descriptors =
    18 ∷ 1 ∷ 0 ∷ 2 ∷ 0 ∷ 0 ∷ 0 ∷ 64 ∷ 170 ∷ 170 ∷ 187 ∷ 187 ∷ 0 ∷ 1 ∷ 0 ∷ 0 ∷ 0 ∷ 1 ∷ 9 ∷ 2 ∷ 32 ∷ 0 ∷ 1 ∷ 1 ∷ 0 ∷ 128 ∷ 50 ∷ 9 ∷ 4 ∷ 0 ∷ 0 ∷ 2 ∷ 255 ∷ 0 ∷ 0 ∷ 0 ∷ 7 ∷ 5 ∷ 129 ∷ 2 ∷ 64 ∷ 0 ∷ 0 ∷ 7 ∷ 5 ∷ 2 ∷ 2 ∷ 64 ∷ 0 ∷ 0 ∷ []

-- the items of the first lines
abbrev pub opening_items : List Item
opening_items =
    Device 0 1 6 3 1 descriptors
    ∷ Open 0 1 6
    ∷ Claim 0 0 0
    ∷ Endpoint 0 0 2 BulkOut
    ∷ Endpoint 1 0 129 BulkIn
    ∷ Writer 0 0 128
    ∷ SetWriterTransfers 0 8
    ∷ Reader 0 1 192
    ∷ SetNumTransfers 0 4
    ∷ []

-- the first lines, which begin a script
pub opening_reads : (rest : List ℕ) → parse_from [] 1 (lines_of (opening ++ rest)) ≡ parse_from opening_items 10 (lines_of rest)
unfolding script_on_literals opening
opening_reads rest = refl
