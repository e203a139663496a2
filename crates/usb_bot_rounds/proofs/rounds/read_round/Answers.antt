use Rattle.std.proofs.Common.{◌<◌, ◌%◌, arith}
use Rattle.std.proofs.Math.Nat.{mod-lt}
use Rattle.usb_bot.specs.Commands.{commanding}
use Rattle.usb_bot_rounds.proofs.AnswerLemmas.{read-refused, read-answers, read-lists, read-short}
use Rattle.usb_bot_rounds.proofs.CommandLemmas.{can-read, read-leaves}
use Rattle.usb_bot_rounds.proofs.rounds.read_round.Goals as goal

pub passed-requires : goal.passed-requires
passed-requires c =
    let leaves = read-leaves (commanding c.args.bus.now c.args.client.now) (commanding c.read.new.bus c.read.new.self) c.block.result c.requires.serves (λ v. v.items) c.count.result c.read.result (can-read c.args.round.number c.block.result c.count.result c.block.ensures.block c.count.ensures.count) c.read.ensures.passed c.read.ensures.failed in
    record { known = read-refused (λ v. v.items) c.args.bus.now.machine.disk c.block.result c.count.result c.read.new.bus c.read.new.self c.read.result leaves }

pub returns-clause-answer : goal.returns-clause-answer
returns-clause-answer c =
    let leaves = read-leaves (commanding c.args.bus.now c.args.client.now) (commanding c.read.new.bus c.read.new.self) c.block.result c.requires.serves (λ v. v.items) c.count.result c.read.result (can-read c.args.round.number c.block.result c.count.result c.block.ensures.block c.count.ensures.count) c.read.ensures.passed c.read.ensures.failed in
    rw (c.block.ensures.block, c.count.ensures.count) at (read-answers (λ v. v.items) c.args.bus.now.machine.disk c.block.result c.count.result c.read.new.bus c.read.new.self c.read.result c.passed.result leaves c.passed.ensures.passes)

pub returns-clause-short : goal.returns-clause-short
returns-clause-short c =
    let leaves = read-leaves (commanding c.args.bus.now c.args.client.now) (commanding c.read.new.bus c.read.new.self) c.block.result c.requires.serves (λ v. v.items) c.count.result c.read.result (can-read c.args.round.number c.block.result c.count.result c.block.ensures.block c.count.ensures.count) c.read.ensures.passed c.read.ensures.failed in
    let size-small : c.args.round.number % 4 < 4 = mod-lt c.args.round.number (omega arith) in
    read-short (λ v. v.items) c.args.bus.now.machine.disk c.block.result c.count.result c.read.new.bus c.read.new.self c.read.result c.passed.result (omega (arith, c.count.ensures.count, size-small)) leaves c.passed.ensures.passes

pub returns-clause-blocks : goal.returns-clause-blocks
returns-clause-blocks c =
    let leaves = read-leaves (commanding c.args.bus.now c.args.client.now) (commanding c.read.new.bus c.read.new.self) c.block.result c.requires.serves (λ v. v.items) c.count.result c.read.result (can-read c.args.round.number c.block.result c.count.result c.block.ensures.block c.count.ensures.count) c.read.ensures.passed c.read.ensures.failed in
    read-lists (λ v. v.items) c.args.bus.now.machine.disk c.block.result c.count.result c.read.new.bus c.read.new.self c.read.result c.passed.result leaves c.passed.ensures.passes
