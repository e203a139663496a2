-- Memory for the text of a fault, which is made before anything is submitted.
use Rattle.std.specs.Prelude.{◌≡◌, ◌≤◌, [], String, string_bytes, string_len, string_capacity}

-- an empty text with room for the longest one
pub record IsTextRoom {A : Type 0} (text : String A) : Type 0 where
  pub bytes : string_bytes text ≡ []
  pub len : string_len text ≡ 0
  pub room : 40 ≤ string_capacity text
