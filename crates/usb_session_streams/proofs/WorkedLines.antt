-- Whole lines, computed by the definitions alone.
use Rattle.std.proofs.Common.{◌≡◌, [], ◌∷◌, codes, true, refl}
use Rattle.std.specs.Fmt.{digits}
use Rattle.hex.specs.Hex.{encode_with}
use Rattle.usb_xfer.specs.declared.error.TransferError.TheVariants as transfer
use Rattle.usb_io.specs.declared.fault.ReadFault.TheVariants.{Transfer, TimedOut, UnexpectedEof}
use Rattle.usb_session_text.specs.Words.{hex_word}
use Rattle.usb_session_streams.specs.Faults.{io_line, read_fault_line}
use Rattle.usb_session_streams.specs.Reads.{read_line, buffer_line, is_end_line}

bytes_are_read : read_line (1 ∷ 2 ∷ 255 ∷ []) ≡ codes "read 3 0102ff\n"
unfolding read_line hex_word digits encode_with
bytes_are_read = refl

no_byte_is_read : read_line [] ≡ codes "read 0 -\n"
unfolding read_line hex_word digits
no_byte_is_read = refl

bytes_stand : buffer_line (16 ∷ []) ≡ codes "buf 1 10\n"
unfolding buffer_line hex_word digits encode_with
bytes_stand = refl

an_end_is_next : is_end_line true ≡ codes "end true\n"
an_end_is_next = refl

transfer_was_cancelled : read_fault_line (Transfer transfer.Cancelled) ≡ codes "io Interrupted transfer was cancelled\n"
unfolding io_line
transfer_was_cancelled = refl

endpoint_stalled : read_fault_line (Transfer transfer.Stall) ≡ codes "io ConnectionReset endpoint stalled\n"
unfolding io_line
endpoint_stalled = refl

device_disconnected : read_fault_line (Transfer transfer.Disconnected) ≡ codes "io ConnectionAborted device disconnected\n"
unfolding io_line
device_disconnected = refl

hardware_fault : read_fault_line (Transfer transfer.Fault) ≡ codes "io Other hardware fault or protocol violation\n"
unfolding io_line
hardware_fault = refl

invalid_argument : read_fault_line (Transfer transfer.InvalidArgument) ≡ codes "io InvalidInput invalid or unsupported argument\n"
unfolding io_line
invalid_argument = refl

unknown_error : read_fault_line (Transfer (transfer.Unknown 5)) ≡ codes "io Other unknown (errno 5)\n"
unfolding io_line digits
unknown_error = refl

time_is_up : read_fault_line TimedOut ≡ codes "io TimedOut timeout waiting for read\n"
unfolding io_line
time_is_up = refl

nothing_comes : read_fault_line UnexpectedEof ≡ codes "io UnexpectedEof ended without short packet\n"
unfolding io_line
nothing_comes = refl
