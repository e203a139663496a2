-- A generated script of any length, in which a writer sends messages whose sizes go through all of 0 to 199, a device
-- echoes each packet, and a reader reads each message to its end.
use Rattle.std.specs.Prelude.{ℕ, zero, suc, ◌+◌, ◌*◌, ◌/◌, ◌%◌, nat_lt, List, [], ◌∷◌, ◌++◌, length, take, drop, map, codes, if◌then◌else◌}
use Rattle.std.specs.List.{range_with_len}
use Rattle.hex.specs.Hex.{encode_lower}

-- a line: its words, and LF
abbrev pub line : List ℕ → List ℕ
line words = words ++ 10 ∷ []

-- so many times these lines
abbrev pub times : ℕ → List ℕ → List ℕ
times zero lines = []
times (suc n) lines = times n lines ++ lines

-- first there is a device with two bulk endpoints for packets of 64 bytes, one in each direction; the host opens it,
-- claims its interface, and makes a writer and a reader of its endpoints, whose transfers have at most 128 and 192
-- bytes, and of which at most 8 and 4 are on their way
unfoldable pub opening : List ℕ
opening =
    line (codes "device k0 1 6 3 1 1201000200000040aaaabbbb0001000000010902200001010080320904000002ff0000000705810240000007050202400000")
    ++ line (codes "open d0 1 6")
    ++ line (codes "claim d0 0 i0")
    ++ line (codes "endpoint e0 i0 02 bulk-out")
    ++ line (codes "endpoint e1 i0 81 bulk-in")
    ++ line (codes "writer w0 e0 128")
    ++ line (codes "num w0 8")
    ++ line (codes "reader r0 e1 192")
    ++ line (codes "num r0 4")

-- how many bytes the j-th message has, counted from 0: since 37 and 200 have no common divisor but 1, any 200
-- messages one behind another have each size from 0 to 199 once
abbrev pub size_of : ℕ → ℕ
size_of j = 37 * j % 200

-- the bytes of the j-th message count up from j, modulo 256
unfoldable pub message : ℕ → List ℕ
message j = map (λ i. (j + i) % 256) (range_with_len 0 (size_of j))

-- the writer gets these bytes in one call, if there are any
unfoldable pub write_of : List ℕ → List ℕ
write_of [] = []
write_of (b ∷ bytes) = line (codes "write w0 " ++ encode_lower (b ∷ bytes))

-- how many packets a message of so many bytes has: full ones, and one that is shorter and ends it
abbrev pub packet_count : ℕ → ℕ
packet_count size = size / 64 + 1

-- how many reads it takes until one finds the end of the message: what one transfer of the reader holds comes in one
-- read, and the read that finds the end gives no bytes
abbrev pub read_count : ℕ → ℕ
read_count size = if nat_lt 192 size then 3 else if nat_lt 0 size then 2 else 1

-- a message goes there and back: the writer gets its bytes, what one transfer of the writer holds in one call, and its
-- end; the device sends back each packet; the writer waits until all is sent; and the reader reads the message, and
-- takes its end off
unfoldable pub round_trip : List ℕ → List ℕ
round_trip bytes =
    write_of (take 128 bytes)
    ++ write_of (drop 128 bytes)
    ++ line (codes "wend w0")
    ++ times (packet_count (length bytes)) (line (codes "! echo k0 02 81"))
    ++ line (codes "flush w0")
    ++ times (read_count (length bytes)) (line (codes "sread r0 200"))
    ++ line (codes "endmsg r0")

-- the first n messages, one behind another
unfoldable pub round_trips : ℕ → List ℕ
round_trips zero = []
round_trips (suc n) = round_trips n ++ round_trip (message n)

-- the script of n messages
unfoldable pub generated : ℕ → List ℕ
generated n = opening ++ round_trips n
