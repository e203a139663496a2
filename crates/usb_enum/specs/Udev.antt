-- Packets of udev: a header, and properties with zero bytes between them.
use Rattle.std.specs.Prelude.{ℕ, ◌+◌, ◌*◌, ◌==◌, ◌&&◌, ◌||◌, not, nat_le, nat_eq, Bool, List, [], ◌∷◌, length, take, drop, slice_index, codes, Option, Some, None, if◌then◌else◌}
use Rattle.std.specs.List.{filter_map, list_any, slice_split, starts_with, before_first, after_first}
use Rattle.std.specs.Option.{option_and_then}
use Rattle.std.specs.Str.{bytes_eq, is_utf8}
use Rattle.usb_enum_sysfs.specs.Numbers.{decimal_byte}

-- `libudev`, a zero, and the number FEEDCAFE, high bytes first
abbrev pub magic : List ℕ
magic = 108 ∷ 105 ∷ 98 ∷ 117 ∷ 100 ∷ 101 ∷ 118 ∷ 0 ∷ 254 ∷ 237 ∷ 202 ∷ 254 ∷ []

-- a number of 32 bits, low bytes first
abbrev pub number_at : List ℕ → ℕ → ℕ
number_at bytes i = slice_index bytes i + 256 * slice_index bytes (i + 1) + 65536 * slice_index bytes (i + 2) + 16777216 * slice_index bytes (i + 3)

-- the bytes of a section, where all of it is there
abbrev pub section : ℕ → ℕ → List ℕ → Option (List ℕ)
section offset len bytes = if nat_le (offset + len) (length bytes) then Some (take len (drop offset bytes)) else None

-- the properties of a packet: bytes 16 to 19 are their offset, and 20 to 23 their length
abbrev pub property_bytes : List ℕ → Option (List ℕ)
property_bytes bytes =
    if nat_le 24 (length bytes) && starts_with nat_eq bytes magic then section (number_at bytes 16) (number_at bytes 20) bytes else None

-- a property is text, in which the first `=` divides key and value
abbrev pub property : List ℕ → Option (List ℕ × List ℕ)
property entry =
    if is_utf8 entry && list_any (λ b. b == 61) entry then Some (before_first (λ b. b == 61) entry, after_first (λ b. b == 61) entry) else None

abbrev pub properties : List ℕ → List (List ℕ × List ℕ)
properties bytes = filter_map property (slice_split (λ b. b == 0) bytes)

-- the last value of a key, or this one where there is none
abbrev pub last_or : Option (List ℕ) → List ℕ → List (List ℕ × List ℕ) → Option (List ℕ)
last_or found key [] = found
last_or found key (p ∷ ps) = last_or (if bytes_eq p.0 key then Some p.1 else found) key ps

abbrev pub last_value : List ℕ → List (List ℕ × List ℕ) → Option (List ℕ)
last_value key ps = last_or None key ps

-- a property by which the packet tells of no device that comes or goes
abbrev pub is_foreign : List ℕ × List ℕ → Bool
is_foreign p =
    (bytes_eq p.0 (codes "SUBSYSTEM") && not (bytes_eq p.1 (codes "usb")))
    || (bytes_eq p.0 (codes "DEVTYPE") && not (bytes_eq p.1 (codes "usb_device")))
    || (bytes_eq p.0 (codes "ACTION") && not (bytes_eq p.1 (codes "add") || bytes_eq p.1 (codes "remove")))

-- what a packet tells
pub record Notice : Type 0 where
  pub added : Bool  -- else removed
  pub busnum : ℕ
  pub address : ℕ
  pub path : List ℕ  -- of the device's folder below /sys

infixl 10 ◌>>=◌
abbrev ◌>>=◌ : {A B : Type 0} → Option A → (A → Option B) → Option B
o >>= f = option_and_then f o

abbrev pub notice_of : List (List ℕ × List ℕ) → Option Notice
notice_of ps = if list_any is_foreign ps then None else do
  action ← last_value (codes "ACTION") ps
  busnum ← last_value (codes "BUSNUM") ps >>= decimal_byte
  address ← last_value (codes "DEVNUM") ps >>= decimal_byte
  path ← last_value (codes "DEVPATH") ps
  Some (record { added = bytes_eq action (codes "add"); busnum = busnum; address = address; path = path })

-- a packet, as far as it is received
unfoldable pub received : List ℕ → List ℕ
received packet = take 8192 packet

abbrev pub notice_in : List ℕ → Option Notice
notice_in packet = option_and_then (λ bytes. notice_of (properties bytes)) (property_bytes (received packet))
