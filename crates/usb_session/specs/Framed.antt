-- What framed readers consume, over a script.
use Rattle.std.specs.Prelude.{ℕ, ◌≡◌, ◌≤◌, List, [], ◌∷◌, ◌++◌, Some}
use Rattle.usb_kernel.specs.declared.event.Event.{Event}
use Rattle.usb_kernel.specs.Legal.{IsLawful}
use Rattle.usb_script_words.specs.declared.framing.Framing.TheVariants.{UntilShort}
use Rattle.usb_script_lines.specs.declared.item.Item.{Item}
use Rattle.usb_script_lines.specs.declared.item.Item.TheVariants.{Read, PollRead, FillBuf, PollFillBuf}
use Rattle.usb_io.specs.Streams.{Mark, End, stream_of, delivered}
use Rattle.usb_io.specs.Following.{IsPrefixOf}
use Rattle.usb_session_streams.specs.Reads.{read_line, buffer_line}
use Rattle.usb_session_calls.specs.Names.{named}
use Rattle.usb_session_calls.specs.State.{State, Endpoint, Reader, tickets_at, endpoint_of_reader}
use Rattle.usb_session_calls.specs.Answer.{Answer}
use Rattle.usb_session.specs.Answers.{answer}
use Rattle.usb_session.specs.Output.{start, final_host, behind}

-- the packets that an endpoint's tickets accepted, in the order of the journal: their bytes, with an end after each packet
-- that is shorter than the maximum
abbrev pub stream_at : List Event → Endpoint → List Mark
stream_at past h = stream_of h.state.maximum (delivered (tickets_at h) past)

-- what each framed reader consumed so far is a prefix of the stream of its endpoint
abbrev pub ConsumedIsPrefix : State → Type 0
ConsumedIsPrefix state =
    (r : ℕ) (x : Reader) (consumed : List Mark) → named state.readers r ≡ Some x → x.consumed ≡ Some consumed →
    IsPrefixOf consumed (stream_at state.host.kernel.past (endpoint_of_reader x))

-- where an answer gives no byte, by the line that is printed of bytes, the reader of this name, if it is framed, has an end next in
-- its stream
abbrev pub GivesNoneAtEnds : (List ℕ → List ℕ) → ℕ → Answer → Type 0
GivesNoneAtEnds print r a =
    (x : Reader) (consumed : List Mark) → named a.state.readers r ≡ Some x → x.consumed ≡ Some consumed → a.line ≡ print [] →
    IsPrefixOf (consumed ++ End ∷ []) (stream_at a.state.host.kernel.past (endpoint_of_reader x))

-- so it is of a line that reads until a short packet, and has room for a byte, and of one that lends the bytes until there
abbrev pub EmptyReadIsEnd : State → Item → Type 0
EmptyReadIsEnd state (Read UntilShort r most steps) = 1 ≤ most → GivesNoneAtEnds read_line r (answer state (Read UntilShort r most steps))
EmptyReadIsEnd state (PollRead UntilShort r most) = 1 ≤ most → GivesNoneAtEnds read_line r (answer state (PollRead UntilShort r most))
EmptyReadIsEnd state (FillBuf UntilShort r steps) = GivesNoneAtEnds buffer_line r (answer state (FillBuf UntilShort r steps))
EmptyReadIsEnd state (PollFillBuf UntilShort r) = GivesNoneAtEnds buffer_line r (answer state (PollFillBuf UntilShort r))
EmptyReadIsEnd state line = Unit {0}

-- before the first line of a script and behind each, what the framed readers have consumed is a prefix of their streams; and
-- each line that reads until a short packet, or lends the bytes, gives no byte only where an end is next
pub record FramedReadersFollow (items : List Item) : Type 0 where
  pub prefix : (before after : List Item) → before ++ after ≡ items → ConsumedIsPrefix (behind (start items) before)
  pub empty : (before after : List Item) (line : Item) → before ++ line ∷ after ≡ items →
      EmptyReadIsEnd (behind (start items) before) line

-- the law: so it is of each script at whose end the journal is lawful
abbrev pub FramedScriptsFollow : Type 0
FramedScriptsFollow = (items : List Item) → IsLawful (final_host items).kernel.past → FramedReadersFollow items
