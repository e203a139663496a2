-- The lines of a client of messages: what its calls answer.
use Rattle.std.specs.Prelude.{ℕ, ◌-◌, List, [], ◌∷◌, codes, Result, Ok, Err}
use Rattle.std.specs.Fmt.{decimal}
use Rattle.usb_msg.specs.Clients.{ClientState}
use Rattle.usb_msg.specs.declared.error.MsgError.{MsgError}
use Rattle.usb_msg.specs.declared.error.MsgError.TheVariants.{Short, TooLong, WrongTag, Io, Memory}
use Rattle.usb_session_text.specs.Completions.{count_line}
use Rattle.usb_session_text.specs.Words.{line_of, hex_word}
use Rattle.usb_session_streams.specs.Faults.{io_line}

-- a message that ends a client
abbrev pub message_line : List ℕ → List (List ℕ) → List ℕ
message_line what parts = line_of (codes "msgerror") (what ∷ parts)

-- why there is no tag or no response. Want of memory has no line
abbrev pub message_error_line : MsgError → List ℕ
message_error_line (Short len) = message_line (codes "short") (decimal len ∷ [])
message_error_line TooLong = message_line (codes "too-long") []
message_error_line (WrongTag expected got) =
    message_line (codes "wrong-tag") (decimal expected ∷ decimal got ∷ [])
message_error_line (Io fault) = io_line fault
message_error_line Memory = []

-- the tag of a request that was accepted
unfoldable pub tag_line : ℕ → List ℕ
tag_line tag = line_of (codes "request") (decimal tag ∷ [])

abbrev pub request_line : Result ℕ MsgError → List ℕ
request_line (Ok tag) = tag_line tag
request_line (Err error) = message_error_line error

-- the body of a response
unfoldable pub body_line : List ℕ → List ℕ
body_line body = line_of (codes "response") (hex_word body ∷ [])

abbrev pub response_line : Result (List ℕ) MsgError → List ℕ
response_line (Ok body) = body_line body
response_line (Err error) = message_error_line error

-- how many requests were accepted whose responses are to come
abbrev pub outstanding_line : ClientState → List ℕ
outstanding_line c = count_line (c.requests - c.responses)
