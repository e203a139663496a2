-- The frames of requests and responses: a tag of four bytes, and a body of at most 4096.
use Rattle.std.specs.Prelude.{ℕ, ◌+◌, Bool, List, [], ◌∷◌, ◌++◌, map, take, drop}
use Rattle.std.specs.Int.{w32, to_le_bytes, from_le_bytes}
use Rattle.std.specs.Str.{bytes_eq}
use Rattle.usb_io.specs.Streams.{Mark, Byte, End}

-- a frame: the bytes of its tag, the lowest first, and its body
abbrev pub framed : ℕ → List ℕ → List ℕ
framed tag body = to_le_bytes w32 tag ++ body

-- the tag of a message of four bytes or more, and its body
abbrev pub tag_in : List ℕ → ℕ
tag_in message = from_le_bytes w32 (take 4 message)

abbrev pub body_in : List ℕ → List ℕ
body_in message = drop 4 message

-- whether this is its tag: the message begins with the tag's four bytes
abbrev pub has_tag : ℕ → List ℕ → Bool
has_tag tag message = bytes_eq (take 4 message) (to_le_bytes w32 tag)

-- the frames of bodies, with the tags from this one on
abbrev pub frames_from : ℕ → List (List ℕ) → List (List ℕ)
frames_from tag [] = []
frames_from tag (body ∷ bodies) = framed tag body ∷ frames_from (tag + 1) bodies

-- each as it stands in a stream: its bytes, and an end
abbrev pub marks_from : ℕ → List (List ℕ) → List Mark
marks_from tag [] = []
marks_from tag (body ∷ bodies) = map Byte (framed tag body) ++ (End ∷ marks_from (tag + 1) bodies)
