use Rattle.std.proofs.Common.{length, ap, ◌∙◌}
use Rattle.usb_bot.specs.Commands.{commanding}
use Rattle.usb_bot_rounds.specs.Runs.{written_answer}
use Rattle.usb_bot_rounds.proofs.AnswerLemmas.{write-refused, write-answer, write-list}
use Rattle.usb_bot_rounds.proofs.CommandLemmas.{can-write, write-leaves}
use Rattle.usb_bot_rounds.proofs.rounds.write_round.Goals as goal

pub passed-requires : goal.passed-requires
passed-requires c =
    let bytes = c.as_slice.result.now in
    let leaves = write-leaves (commanding c.args.bus.now c.args.client.now) (commanding c.write-answer.new.bus c.write-answer.new.self) c.block.result c.requires.serves bytes c.write-answer.result (can-write c.args.round.number c.block.result bytes c.block.ensures.block (ap length c.as_slice.ensures.value ∙ c.in_ok-bytes.ensures.length)) c.write-answer.ensures.passed c.write-answer.ensures.failed in
    record { known = write-refused c.args.bus.now.machine.disk c.block.result c.write-answer.new.bus c.write-answer.new.self bytes c.write-answer.result leaves }

pub returns-clause-answer : goal.returns-clause-answer
returns-clause-answer c =
    let bytes = c.as_slice.result.now in
    let leaves = write-leaves (commanding c.args.bus.now c.args.client.now) (commanding c.write-answer.new.bus c.write-answer.new.self) c.block.result c.requires.serves bytes c.write-answer.result (can-write c.args.round.number c.block.result bytes c.block.ensures.block (ap length c.as_slice.ensures.value ∙ c.in_ok-bytes.ensures.length)) c.write-answer.ensures.passed c.write-answer.ensures.failed in
    let told = write-answer c.args.bus.now.machine.disk c.block.result c.write-answer.new.bus c.write-answer.new.self bytes c.write-answer.result c.in_ok-passed.field-0 leaves c.in_ok-passed.ensures.passes in
    ap written_answer c.is_some.ensures ∙ (rw (c.block.ensures.block, c.as_slice.ensures.value, c.in_ok-bytes.ensures.bytes) at told)

pub returns-clause-blocks : goal.returns-clause-blocks
returns-clause-blocks c =
    let bytes = c.as_slice.result.now in
    let leaves = write-leaves (commanding c.args.bus.now c.args.client.now) (commanding c.write-answer.new.bus c.write-answer.new.self) c.block.result c.requires.serves bytes c.write-answer.result (can-write c.args.round.number c.block.result bytes c.block.ensures.block (ap length c.as_slice.ensures.value ∙ c.in_ok-bytes.ensures.length)) c.write-answer.ensures.passed c.write-answer.ensures.failed in
    let told = write-list c.args.bus.now.machine.disk c.block.result c.write-answer.new.bus c.write-answer.new.self bytes c.write-answer.result c.in_ok-passed.field-0 leaves c.in_ok-passed.ensures.passes in
    rw (c.block.ensures.block, c.as_slice.ensures.value, c.in_ok-bytes.ensures.bytes) at told
