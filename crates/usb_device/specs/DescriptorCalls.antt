-- Descriptors that are asked of a device (USB 2.0, section 9.4.3): what the calls answer, and what
-- they leave.
use Rattle.std.specs.Prelude.{ℕ, ◌≡◌, ◌+◌, ◌*◌, List, Option, Some, Result, Ok, Err, ◌⊎◌, if◌then◌else◌}
use Rattle.std.specs.Option.{option_map}
use Rattle.usb_desc.specs.declared.control.ControlIn.{ControlIn}
use Rattle.usb_desc.specs.declared.control.ControlType.TheVariants.{Standard}
use Rattle.usb_desc.specs.declared.control.Recipient.TheVariants.{Device}
use Rattle.usb_desc.specs.declared.error.Fail.{Fail}
use Rattle.usb_desc.specs.declared.error.Fail.TheVariants.{Cause, Memory}
use Rattle.usb_desc.specs.Strings.{is_string, text, words_of_string}
use Rattle.usb_xfer.specs.Transfers.{request_in}
use Rattle.usb_xfer.specs.declared.error.TransferError.{TransferError}
use Rattle.usb_error.specs.Outcomes.{◌>>=◌}
use Rattle.usb_error.specs.declared.descriptor_error.GetDescriptorError.{GetDescriptorError}
use Rattle.usb_error.specs.declared.descriptor_error.GetDescriptorError.TheVariants.{Transfer, InvalidDescriptor}
use Rattle.usb_device_host.specs.HostState.{HostState}
use Rattle.usb_device.specs.ControlCalls.{controlled, control_answered}

-- the request GET_DESCRIPTOR for a type, an index and a language
abbrev pub descriptor_request : ℕ → ℕ → ℕ → ControlIn
descriptor_request type index language =
    record {
      control_type = Standard;
      recipient = Device;
      request = 6;
      value = type * 256 + index;
      index = language;
      length = 4096;
    }

-- a device was asked for a descriptor
abbrev pub descriptor_asked : HostState → ℕ → ControlIn → ℕ → HostState
descriptor_asked h device request timeout = controlled h device (request_in request) timeout

-- its answer: the bytes, or why the transfer failed
abbrev pub transferred : Result (List ℕ) TransferError → Result (List ℕ) GetDescriptorError
transferred (Ok bytes) = Ok bytes
transferred (Err error) = Err (Transfer error)

abbrev pub descriptor_answered : HostState → ℕ → ControlIn → ℕ →
    Option (Result (List ℕ) GetDescriptorError)
descriptor_answered h device request timeout =
    option_map transferred (control_answered h device (request_in request) timeout)

-- the text of a string descriptor
abbrev pub text_of : List ℕ → Result (List ℕ) GetDescriptorError
text_of bytes = if is_string bytes then Ok (text bytes) else Err InvalidDescriptor

abbrev pub text_answered : HostState → ℕ → ControlIn → ℕ →
    Option (Result (List ℕ) GetDescriptorError)
text_answered h device request timeout =
    option_map (λ r. r >>= text_of) (descriptor_answered h device request timeout)

-- the languages of string descriptor 0
abbrev pub languages_of : List ℕ → Result (List ℕ) GetDescriptorError
languages_of bytes = if is_string bytes then Ok (words_of_string bytes) else Err InvalidDescriptor

abbrev pub languages_answered : HostState → ℕ → ControlIn → ℕ →
    Option (Result (List ℕ) GetDescriptorError)
languages_answered h device request timeout =
    option_map (λ r. r >>= languages_of) (descriptor_answered h device request timeout)

-- a call that takes memory once more for the answer that came leaves `called`. Where it answers lack of
-- memory, either the answer was good (`came`) and it leaves `called` too, or nothing has changed (`kept`)
abbrev pub LeavesEither : {A B E F S : Type 0} → Result A (Fail E) → Option (Result B F) → S → S → S →
    Type 0
LeavesEither (Ok x) came new called kept = new ≡ called
LeavesEither (Err (Cause error)) came new called kept = new ≡ called
LeavesEither {A} {B} (Err Memory) came new called kept =
    ((b : B) × (came ≡ Some (Ok b)) × (new ≡ called)) ⊎ (new ≡ kept)
