-- Fields of descriptors: USB 2.0, section 9.6.
use Rattle.std.specs.Prelude.{ℕ, ◌+◌, ◌/◌, ◌%◌, ◌==◌, List, Option, Some, None, nat_le, if◌then◌else◌}
use Rattle.usb_desc.specs.Bytes.{byte_at, word_at}
use Rattle.usb_desc.specs.declared.types.Direction.{Direction}
use Rattle.usb_desc.specs.declared.types.Direction.TheVariants.{Out, In}
use Rattle.usb_desc.specs.declared.types.TransferType.{TransferType}
use Rattle.usb_desc.specs.declared.types.TransferType.TheVariants.{Control, Isochronous, Bulk, Interrupt}

-- the index of a string descriptor, where 0 says that there is none
abbrev pub index_at : List ℕ → ℕ → Option ℕ
index_at bytes offset = if byte_at bytes offset == 0 then None else Some (byte_at bytes offset)

-- of a device (table 9-8)
abbrev pub usb_version : List ℕ → ℕ
usb_version device = word_at device 2

abbrev pub device_class : List ℕ → ℕ
device_class device = byte_at device 4

abbrev pub device_subclass : List ℕ → ℕ
device_subclass device = byte_at device 5

abbrev pub device_protocol : List ℕ → ℕ
device_protocol device = byte_at device 6

abbrev pub max_packet_size_0 : List ℕ → ℕ
max_packet_size_0 device = byte_at device 7

abbrev pub vendor_id : List ℕ → ℕ
vendor_id device = word_at device 8

abbrev pub product_id : List ℕ → ℕ
product_id device = word_at device 10

abbrev pub device_version : List ℕ → ℕ
device_version device = word_at device 12

abbrev pub manufacturer_string_index : List ℕ → Option ℕ
manufacturer_string_index device = index_at device 14

abbrev pub product_string_index : List ℕ → Option ℕ
product_string_index device = index_at device 15

abbrev pub serial_number_string_index : List ℕ → Option ℕ
serial_number_string_index device = index_at device 16

abbrev pub num_configurations : List ℕ → ℕ
num_configurations device = byte_at device 17

-- of a configuration (table 9-10)
abbrev pub num_interfaces : List ℕ → ℕ
num_interfaces configuration = byte_at configuration 4

abbrev pub configuration_value : List ℕ → ℕ
configuration_value configuration = byte_at configuration 5

abbrev pub configuration_string_index : List ℕ → Option ℕ
configuration_string_index configuration = index_at configuration 6

abbrev pub configuration_attributes : List ℕ → ℕ
configuration_attributes configuration = byte_at configuration 7

abbrev pub max_power : List ℕ → ℕ
max_power configuration = byte_at configuration 8

-- of an interface (table 9-12)
abbrev pub interface_number : List ℕ → ℕ
interface_number setting = byte_at setting 2

abbrev pub alternate_setting : List ℕ → ℕ
alternate_setting setting = byte_at setting 3

abbrev pub num_endpoints : List ℕ → ℕ
num_endpoints setting = byte_at setting 4

abbrev pub interface_class : List ℕ → ℕ
interface_class setting = byte_at setting 5

abbrev pub interface_subclass : List ℕ → ℕ
interface_subclass setting = byte_at setting 6

abbrev pub interface_protocol : List ℕ → ℕ
interface_protocol setting = byte_at setting 7

abbrev pub interface_string_index : List ℕ → Option ℕ
interface_string_index setting = index_at setting 8

-- of an endpoint (table 9-13)
abbrev pub address : List ℕ → ℕ
address endpoint = byte_at endpoint 2

abbrev pub attributes : List ℕ → ℕ
attributes endpoint = byte_at endpoint 3

abbrev pub max_packet_size_raw : List ℕ → ℕ
max_packet_size_raw endpoint = word_at endpoint 4

abbrev pub interval : List ℕ → ℕ
interval endpoint = byte_at endpoint 6

-- bits 0 to 10 of wMaxPacketSize
abbrev pub max_packet_size : List ℕ → ℕ
max_packet_size endpoint = max_packet_size_raw endpoint % 2048

-- bits 11 and 12 of wMaxPacketSize count the further packets of a microframe
abbrev pub packets_per_microframe : List ℕ → ℕ
packets_per_microframe endpoint = max_packet_size_raw endpoint / 2048 % 4 + 1

-- bit 7 of an endpoint's address is set for IN
abbrev pub direction_of_address : ℕ → Direction
direction_of_address address = if nat_le 128 address then In else Out

abbrev pub direction : List ℕ → Direction
direction endpoint = direction_of_address (address endpoint)

-- bits 0 and 1 of an endpoint's attributes
abbrev pub transfer_type_of_attributes : ℕ → TransferType
transfer_type_of_attributes attributes =
    if attributes % 4 == 0 then Control
    else if attributes % 4 == 1 then Isochronous
    else if attributes % 4 == 2 then Bulk
    else Interrupt

abbrev pub transfer_type : List ℕ → TransferType
transfer_type endpoint = transfer_type_of_attributes (attributes endpoint)
