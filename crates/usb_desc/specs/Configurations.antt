-- What stands in the descriptors of a device: USB 2.0, sections 9.6.1, 9.6.3, 9.6.5 and 9.6.6.
use Rattle.std.specs.Prelude.{ℕ, zero, suc, Bool, ◌&&◌, ◌==◌, nat_le, List, [], ◌∷◌, length, take, drop, Option, Some, None, if◌then◌else◌}
use Rattle.usb_desc.specs.Bytes.{length_field, type_field, word_at}
use Rattle.usb_desc.specs.Groups.{groups}

-- a device descriptor: 18 bytes of type 1
abbrev pub is_device : List ℕ → Bool
is_device bytes = nat_le 18 (length bytes) && nat_le 18 (length_field bytes) && type_field bytes == 1

abbrev pub device_of : List ℕ → Option (List ℕ)
device_of bytes = if is_device bytes then Some (take 18 bytes) else None

-- wTotalLength of a configuration: the bytes of all its descriptors together
abbrev pub total_length : List ℕ → ℕ
total_length bytes = word_at bytes 2

-- a configuration stands at the front: 9 bytes of type 2, whose total length counts at least the
-- first descriptor and no more than there are
abbrev pub is_configuration : List ℕ → Bool
is_configuration bytes = nat_le 9 (length bytes) && nat_le 9 (length_field bytes) && type_field bytes == 2
    && nat_le (length_field bytes) (total_length bytes) && nat_le (total_length bytes) (length bytes)

-- that configuration, cut to its total length
abbrev pub configuration_of : List ℕ → Option (List ℕ)
configuration_of bytes = if is_configuration bytes then Some (take (total_length bytes) bytes) else None

-- at most so many configurations
abbrev pub concatenated_at_most : ℕ → List ℕ → List (List ℕ)
concatenated_at_most zero bytes = []
concatenated_at_most (suc count) bytes =
    if is_configuration bytes
    then take (total_length bytes) bytes ∷ concatenated_at_most count (drop (total_length bytes) bytes)
    else []

-- the configurations that stand one behind the other, up to the first place where none stands
unfoldable pub concatenated : List ℕ → List (List ℕ)
concatenated bytes = concatenated_at_most (length bytes) bytes

-- the configurations of a device, which stand behind the 18 bytes of its own descriptor
unfoldable pub configurations : List ℕ → List (List ℕ)
configurations bytes = concatenated (drop 18 bytes)

-- the settings of a configuration's interfaces: groups of type 4 behind its first descriptor
abbrev pub alt_settings : List ℕ → List (List ℕ)
alt_settings configuration = groups 4 9 (drop (length_field configuration) configuration)

-- the endpoints of a setting: groups of type 5 behind its first descriptor
abbrev pub endpoints : List ℕ → List (List ℕ)
endpoints setting = groups 5 7 (drop (length_field setting) setting)
