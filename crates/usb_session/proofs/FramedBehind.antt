-- Framed readers follow their streams behind the lines of a script.
use Rattle.std.proofs.Common.{◌≡◌, ◌∙◌, List, [], ◌∷◌, ◌++◌, append_assoc, subst}
use Rattle.usb_kernel.specs.Legal.{IsLawful}
use Rattle.usb_session_streams.proofs.FramedCalls.{lawful-before}
use Rattle.usb_script_lines.specs.declared.item.Item.{Item}
use Rattle.usb_script_lines.specs.declared.item.Item.TheVariants as item
use Rattle.usb_script_words.specs.declared.framing.Framing.TheVariants.{UntilShort}
use Rattle.usb_session_streams.specs.Reads.{read_line, buffer_line}
use Rattle.usb_session_calls.specs.declared.call.ReaderCall.TheVariants as readers
use Rattle.usb_session_calls.specs.State.{State}
use Rattle.usb_session_calls.specs.Steps.{stepped_all}
use Rattle.usb_session.specs.Crowded.{is_crowded}
use Rattle.usb_session_calls.specs.Calls.{call_of}
use Rattle.usb_session.specs.CallAnswers.{call_answer}
use Rattle.usb_session.specs.Answers.{answer}
use Rattle.usb_session.specs.Output.{start, behind, final_host}
use Rattle.usb_session.specs.Behind.{ScriptsGoOn}
use Rattle.usb_session.specs.Framed.{EmptyReadIsEnd, FramedScriptsFollow}
use Rattle.usb_session.proofs.ReadersKeep.{AllReaders, behind-all}
use Rattle.usb_session.proofs.FramedReaders.{IsFollowing, following}
use Rattle.usb_session.proofs.FramedEnds.{read-none, buffer-none, line-ends, read-ends, poll_read-ends, fill-ends, poll_fill-ends, prefix-at, end-at}
use Rattle.usb_session.proofs.LinesBehind.{past_of, behind-push, final-extends}

-- a line that reads until a short packet, or lends the bytes
empty-is-end : (state : State) (line : Item) → AllReaders IsFollowing (answer state line).state → EmptyReadIsEnd state line
unfolding answer call_answer call_of
empty-is-end state (item.Read UntilShort r most steps) f =
    λ some x consumed at is said.
    let ends = line-ends read_line read-none state (is_crowded state) (stepped_all state steps) r (readers.Read UntilShort most) steps (read-ends r most some) in
    end-at _ x consumed (f r x at consumed is) (ends x at said)
empty-is-end state (item.PollRead UntilShort r most) f =
    λ some x consumed at is said.
    let ends = line-ends read_line read-none state (is_crowded state) (stepped_all state []) r (readers.PollRead UntilShort most) [] (poll_read-ends r most some) in
    end-at _ x consumed (f r x at consumed is) (ends x at said)
empty-is-end state (item.FillBuf UntilShort r steps) f =
    λ x consumed at is said.
    let ends = line-ends buffer_line buffer-none state (is_crowded state) (stepped_all state steps) r (readers.FillBuf UntilShort) steps (fill-ends r) in
    end-at _ x consumed (f r x at consumed is) (ends x at said)
empty-is-end state (item.PollFillBuf UntilShort r) f =
    λ x consumed at is said.
    let ends = line-ends buffer_line buffer-none state (is_crowded state) (stepped_all state []) r (readers.PollFillBuf UntilShort) [] (poll_fill-ends r) in
    end-at _ x consumed (f r x at consumed is) (ends x at said)
empty-is-end state line f = tt

-- behind the lines of a script
pub follow-at : ScriptsGoOn → (items : List Item) → IsLawful (final_host items).kernel.past → (before after : List Item) → before ++ after ≡ items → AllReaders IsFollowing (behind (start items) before)
follow-at go items lawful before after all =
    behind-all IsFollowing IsLawful following go items before (lawful-before (past_of (behind (start items) before)) (final_host items).kernel.past (final-extends go items before after all) lawful)

follow-line : ScriptsGoOn → (items : List Item) → IsLawful (final_host items).kernel.past → (before after : List Item) (line : Item) → before ++ line ∷ after ≡ items → AllReaders IsFollowing (answer (behind (start items) before) line).state
follow-line go items lawful before after line all =
    subst (AllReaders IsFollowing) (behind-push (start items) before line) (follow-at go items lawful (before ++ line ∷ []) after (append_assoc before (line ∷ []) after ∙ all))

pub follow-by : ScriptsGoOn → FramedScriptsFollow
follow-by go items lawful =
    record {
      prefix = λ before after all r x consumed at is. prefix-at _ x consumed (follow-at go items lawful before after all r x at consumed is);
      empty = λ before after line all. empty-is-end (behind (start items) before) line (follow-line go items lawful before after line all);
    }
