-- The lines of control transfers, and of the descriptors, languages and strings that a device tells by them.
use Rattle.std.specs.Prelude.{ℕ, List, [], ◌∷◌, ◌++◌, codes, flat_map, Result, Ok, Err}
use Rattle.usb_xfer.specs.declared.error.TransferError.{TransferError}
use Rattle.usb_xfer.specs.TransferTexts.{error_word}
use Rattle.usb_error.specs.declared.descriptor_error.GetDescriptorError.{GetDescriptorError}
use Rattle.usb_error.specs.declared.descriptor_error.GetDescriptorError.TheVariants.{Transfer, InvalidDescriptor}
use Rattle.usb_session_text.specs.Calls.{ok_line}
use Rattle.usb_session_text.specs.Words.{line_of, hex_word, four_digits, part}

-- a transfer that is on its way
abbrev pub pending_line : List ℕ
pending_line = line_of (codes "pending") []

-- bytes of the device
unfoldable pub data_line : List ℕ → List ℕ
data_line bytes = line_of (codes "data") (hex_word bytes ∷ [])

-- why a transfer failed
unfoldable pub failed_line : TransferError → List ℕ
failed_line error = line_of (codes "failed") (error_word error ∷ [])

-- why a descriptor was not read: the transfer failed, or what came is no such descriptor
abbrev pub descriptor_failed_line : GetDescriptorError → List ℕ
descriptor_failed_line (Transfer error) = failed_line error
descriptor_failed_line InvalidDescriptor = line_of (codes "failed") (codes "invalid-descriptor" ∷ [])

-- the answer of a transfer that brings bytes, and of one that takes bytes away
abbrev pub received_line : Result (List ℕ) TransferError → List ℕ
received_line (Ok bytes) = data_line bytes
received_line (Err error) = failed_line error

abbrev pub sent_line : Result (Unit {0}) TransferError → List ℕ
sent_line (Ok done) = ok_line
sent_line (Err error) = failed_line error

-- a descriptor, or why it was not read
abbrev pub descriptor_line : Result (List ℕ) GetDescriptorError → List ℕ
descriptor_line (Ok bytes) = data_line bytes
descriptor_line (Err error) = descriptor_failed_line error

abbrev pub language_part : ℕ → List ℕ
language_part language = part (four_digits language)

-- the languages of strings (USB 2.0, section 9.6.7)
unfoldable pub languages_told : List ℕ → List ℕ
languages_told languages = codes "langs" ++ flat_map language_part languages ++ 10 ∷ []

abbrev pub languages_line : Result (List ℕ) GetDescriptorError → List ℕ
languages_line (Ok languages) = languages_told languages
languages_line (Err error) = descriptor_failed_line error

-- a string in UTF-8
unfoldable pub string_told : List ℕ → List ℕ
string_told text = line_of (codes "string") (hex_word text ∷ [])

abbrev pub string_line : Result (List ℕ) GetDescriptorError → List ℕ
string_line (Ok text) = string_told text
string_line (Err error) = descriptor_failed_line error
