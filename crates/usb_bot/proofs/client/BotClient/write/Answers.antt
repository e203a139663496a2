use Rattle.std.proofs.Common.{Ok, ap, ◌/◌, length}
use Rattle.std.proofs.lemmas.Result.{err_from_is_err_and}
use Rattle.usb_bot.specs.declared.wrapper.Operation.TheVariants.{Write}
use Rattle.usb_bot.specs.Commands.{commanding, outcome, sends, written, next_command}
use Rattle.usb_bot.proofs.CallLemmas.{same-came, same-fails, write-fails}
use Rattle.usb_bot.proofs.client.BotClient.write.Goals as goal

pub returns-in_err-command-clause-failed : goal.returns-in_err-command-clause-failed
returns-in_err-command-clause-failed g c =
    let residual = c.from_residual-in_err-command in
    let err = err_from_is_err_and residual.result residual.ensures.1 in
    let old = commanding c.args.bus.now c.args.self.now in
    let new = commanding c.command.new.bus c.command.new.self in
    rw (err.1, err.2)
    (write-fails g.B.Bus.calls c.args.lba c.args.bytes.now old new c.in_err-command.field-0.0
    (same-fails g.B.Bus.calls c.next_command-command.result (next_command Write c.args.lba (length c.args.bytes.now / 512) c.args.self.now) c.in_ok-buf.buf (sends c.args.bytes.now) old new c.in_err-command.field-0.0
    c.next_command-command.ensures.command c.in_ok-buf.ensures.sends c.in_err-command.ensures.failed))

pub returns-clause-passed : goal.returns-clause-passed
returns-clause-passed g c =
    ap written
    (same-came g.B.Bus.calls c.next_command-command.result (next_command Write c.args.lba (length c.args.bytes.now / 512) c.args.self.now) c.in_ok-buf.buf (sends c.args.bytes.now)
    (commanding c.args.bus.now c.args.self.now) (outcome (Ok c.in_ok-command.field-0.bytes) (commanding c.command.new.bus c.command.new.self))
    c.next_command-command.ensures.command c.in_ok-buf.ensures.sends c.in_ok-command.ensures.passed)
