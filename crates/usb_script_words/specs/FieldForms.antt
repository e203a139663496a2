-- The fields of a line, by the words that docs/SCRIPT.md has for them, and what each spells.
use Rattle.std.specs.Prelude.{ℕ, List, Option}
use Rattle.usb_kernel_devices.specs.declared.step.KernelCall.{KernelCall}
use Rattle.usb_script_words.specs.declared.endpoint_kind.EndpointKind.{EndpointKind}
use Rattle.usb_script_words.specs.declared.selector.Criterion.{Criterion}
use Rattle.usb_script_words.specs.Words.{number_of, time_of, name_of, hex_byte_of, hex_word_of, bytes_of, kind_of, errno_of, read_length_of, call_of}
use Rattle.usb_script_words.specs.Fields.{Word}
use Rattle.usb_script_words.specs.Letters.{simulated_letter, device_letter, interface_letter, endpoint_letter, reader_letter, writer_letter, client_letter, future_letter}
use Rattle.usb_script_words.specs.Places.{path_of, file_name_of, target_of, value_of}
use Rattle.usb_script_words.specs.Selectors.{selector_of}

-- ---- names

abbrev pub k : Word → Option ℕ
k = name_of simulated_letter

abbrev pub d : Word → Option ℕ
d = name_of device_letter

abbrev pub i : Word → Option ℕ
i = name_of interface_letter

abbrev pub e : Word → Option ℕ
e = name_of endpoint_letter

abbrev pub r : Word → Option ℕ
r = name_of reader_letter

abbrev pub w : Word → Option ℕ
w = name_of writer_letter

abbrev pub m : Word → Option ℕ
m = name_of client_letter

abbrev pub f : Word → Option ℕ
f = name_of future_letter

-- ---- numbers and times

abbrev pub N : Word → Option ℕ
N = number_of 65536

abbrev pub B : Word → Option ℕ
B = number_of 255

abbrev pub R : Word → Option ℕ
R = read_length_of

abbrev pub T : Word → Option ℕ
T = number_of 4294967295

abbrev pub HH : Word → Option ℕ
HH = hex_byte_of

abbrev pub HHHH : Word → Option ℕ
HHHH = hex_word_of

abbrev pub TIME : Word → Option ℕ
TIME = time_of

abbrev pub ERRNO : Word → Option ℕ
ERRNO = errno_of

-- ---- bytes and texts

abbrev pub BYTES : Word → Option (List ℕ)
BYTES = bytes_of

abbrev pub PATH : Word → Option (List ℕ)
PATH = path_of

abbrev pub NAME : Word → Option (List ℕ)
NAME = file_name_of

abbrev pub TEXT : Word → Option (List ℕ)
TEXT = target_of

abbrev pub VALUE : Word → Option (List ℕ)
VALUE = value_of

-- ---- kinds, and the criteria of a selector

abbrev pub KIND : Word → Option EndpointKind
KIND = kind_of

abbrev pub CALL : Word → Option KernelCall
CALL = call_of

abbrev pub SEL : List Word → Option (List Criterion)
SEL = selector_of
