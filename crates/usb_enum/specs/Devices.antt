-- What enumeration tells of a device.
use Rattle.std.specs.Prelude.{ℕ, ◌+◌, ◌/◌, ◌%◌, List, [], ◌∷◌, Option}
use Rattle.usb_enum.specs.declared.device.DeviceId.{DeviceId}
use Rattle.usb_enum.specs.declared.numbers.Numbers.{Numbers}
use Rattle.usb_enum_sysfs.specs.declared.speed.Speed.{Speed}

pub record InterfaceFacts : Type 0 where
  pub number : ℕ
  pub class : ℕ
  pub subclass : ℕ
  pub protocol : ℕ
  pub name : Option (List ℕ)

pub record DeviceFacts : Type 0 where
  pub path : List ℕ  -- of its folder
  pub numbers : Numbers
  pub bus_id : List ℕ
  pub port_chain : List ℕ
  pub speed : Option Speed
  pub manufacturer : Option (List ℕ)
  pub product : Option (List ℕ)
  pub serial : Option (List ℕ)
  pub interfaces : List InterfaceFacts

-- the number of a bus in three decimal digits
abbrev pub bus_id_of : ℕ → List ℕ
bus_id_of n = (48 + n / 100) ∷ (48 + n / 10 % 10) ∷ (48 + n % 10) ∷ []

-- where a device with these numbers is
abbrev pub id_of : Numbers → DeviceId
id_of n = record { bus = n.busnum; address = n.address }
