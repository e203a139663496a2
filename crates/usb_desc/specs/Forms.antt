-- What every value of a descriptor's type keeps, so that its fields can be read.
use Rattle.std.specs.Prelude.{◌≡◌, ℕ, ◌<◌, ◌≤◌, List, length, All}
use Rattle.usb_desc.specs.Bytes.{length_field, type_field, word_at}
use Rattle.usb_desc.specs.Fields.{interface_number}
use Rattle.usb_desc.specs.Interfaces.{number_of}

-- bytes that begin with a whole descriptor of this type with at least so many bytes
pub record BeginsWith (kind least : ℕ) (bytes : List ℕ) : Type 0 where
  pub type : type_field bytes ≡ kind
  pub long_enough : least ≤ length_field bytes
  pub whole : length_field bytes ≤ length bytes

-- the 18 bytes of a device descriptor
pub record IsDevice (bytes : List ℕ) : Type 0 where
  pub type : type_field bytes ≡ 1
  pub long_enough : 18 ≤ length_field bytes
  pub whole : length bytes ≡ 18

-- the bytes of a configuration, which its total length counts
pub record IsConfiguration (bytes : List ℕ) : Type 0 where
  pub first : BeginsWith 2 9 bytes
  pub whole : word_at bytes 2 ≡ length bytes

-- the bytes of a single descriptor
pub record IsDescriptor (bytes : List ℕ) : Type 0 where
  pub two : 2 ≤ length bytes
  pub whole : length_field bytes ≤ length bytes

-- the settings of one interface: at least one, and all with one number
pub record IsInterface (settings : List (List ℕ)) : Type 0 where
  pub any : 0 < length settings
  pub same : All (λ setting. interface_number setting ≡ number_of settings) settings
