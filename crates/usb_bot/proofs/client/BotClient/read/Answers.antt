use Rattle.std.proofs.Common.{Ok, ap, sym, ◌∙◌, ◌*◌, ℕ, List}
use Rattle.std.proofs.lemmas.Result.{err_from_is_err_and}
use Rattle.usb_bot.specs.declared.wrapper.Operation.TheVariants.{Read}
use Rattle.usb_bot.specs.Commands.{commanding, outcome, asks, next_command}
use Rattle.usb_bot.proofs.CallLemmas.{same-came, same-fails}
use Rattle.usb_bot.proofs.client.BotClient.read.Goals as goal

pub returns-in_err-command-clause-failed : goal.returns-in_err-command-clause-failed
returns-in_err-command-clause-failed g c =
    let residual = c.from_residual-in_err-command in
    let err = err_from_is_err_and residual.result residual.ensures.1 in
    rw (err.1, err.2)
    (same-fails g.B.Bus.calls c.next_command-command.result (next_command Read c.args.lba c.args.count c.args.self.now) c.in_ok-buf.buf (asks (512 * c.args.count))
    (commanding c.args.bus.now c.args.self.now) (commanding c.command.new.bus c.command.new.self) c.in_err-command.field-0.0
    c.next_command-command.ensures.command c.in_ok-buf.ensures.asks c.in_err-command.ensures.failed)

pub returns-clause-passed : goal.returns-clause-passed
returns-clause-passed g c =
    let left = commanding c.command.new.bus c.command.new.self in
    same-came g.B.Bus.calls c.next_command-command.result (next_command Read c.args.lba c.args.count c.args.self.now) c.in_ok-buf.buf (asks (512 * c.args.count))
    (commanding c.args.bus.now c.args.self.now) (outcome (Ok c.in_ok-command.field-0.bytes) left)
    c.next_command-command.ensures.command c.in_ok-buf.ensures.asks c.in_ok-command.ensures.passed
    ∙ ap (λ (bytes : List ℕ). outcome (Ok bytes) left) (sym c.into_vec.ensures.bytes)
