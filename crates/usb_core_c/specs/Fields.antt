-- What a caller in C gets of descriptors: USB 2.0, tables 9-8, 9-12 and 9-13.
use Rattle.std.specs.Prelude.{ℕ, List, Option, Some, None}
use Rattle.usb_desc.specs.Fields as fields
use Rattle.usb_core_c.specs.declared.descriptors.Device.{Device}
use Rattle.usb_core_c.specs.declared.descriptors.Setting.{Setting}
use Rattle.usb_core_c.specs.declared.descriptors.Endpoint.{Endpoint}

-- what C gets of a device
abbrev pub device_fields : List ℕ → Device
device_fields device =
    record {
      usb_version = fields.usb_version device;
      class = fields.device_class device;
      subclass = fields.device_subclass device;
      protocol = fields.device_protocol device;
      max_packet_size_0 = fields.max_packet_size_0 device;
      vendor = fields.vendor_id device;
      product = fields.product_id device;
      version = fields.device_version device;
      configurations = fields.num_configurations device;
    }

-- what C gets of a setting
abbrev pub setting_fields : List ℕ → Setting
setting_fields setting =
    record {
      number = fields.interface_number setting;
      alternate = fields.alternate_setting setting;
      class = fields.interface_class setting;
      subclass = fields.interface_subclass setting;
      protocol = fields.interface_protocol setting;
    }

-- what C gets of an endpoint
abbrev pub endpoint_fields : List ℕ → Endpoint
endpoint_fields endpoint =
    record {
      address = fields.address endpoint;
      attributes = fields.attributes endpoint;
      interval = fields.interval endpoint;
      max_packet_size = fields.max_packet_size endpoint;
    }

-- what is written for an answer: where there is a descriptor its fields, and else what stood there
abbrev pub device_written : Option (List ℕ) → Device → Device
device_written None before = before
device_written (Some device) before = device_fields device

abbrev pub setting_written : Option (List ℕ) → Setting → Setting
setting_written None before = before
setting_written (Some setting) before = setting_fields setting

abbrev pub endpoint_written : Option (List ℕ) → Endpoint → Endpoint
endpoint_written None before = before
endpoint_written (Some endpoint) before = endpoint_fields endpoint
