-- The letters that names begin with.
use Rattle.std.specs.Prelude.{ℕ}

-- k: a simulated device
abbrev pub simulated_letter : ℕ
simulated_letter = 107

-- d: an open device
abbrev pub device_letter : ℕ
device_letter = 100

-- i: a claimed interface
abbrev pub interface_letter : ℕ
interface_letter = 105

-- e: an open endpoint
abbrev pub endpoint_letter : ℕ
endpoint_letter = 101

-- f: a control transfer on its way
abbrev pub future_letter : ℕ
future_letter = 102

-- r: a reader of an endpoint
abbrev pub reader_letter : ℕ
reader_letter = 114

-- w: a writer of an endpoint
abbrev pub writer_letter : ℕ
writer_letter = 119

-- m: a client of messages
abbrev pub client_letter : ℕ
client_letter = 109
