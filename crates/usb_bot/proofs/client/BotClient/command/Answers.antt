use Rattle.std.proofs.Common.{Ok, ap, sym, subst, ◌∙◌, ◌≡◌}
use Rattle.std.proofs.lemmas.Result.{err_from_is_err_and}
use Rattle.std.specs.Prelude.{IfOk, IfErr}
use Rattle.usb_bot.specs.Errors.{breaks}
use Rattle.usb_xfer.specs.BufferState.{BufferState}
use Rattle.usb_bot.specs.Clients.{ClientState, KeepsFurther}
use Rattle.usb_bot.specs.Commands.{commanding, sends, staged, outcome, data_staged, status_staged, counted, commanded}
use Rattle.usb_bot.specs.Shortages.{WrapperFails, LaterFails, CommandFails}
use Rattle.usb_bot.proofs.StageLemmas.{wrapper-fails, command-passed, command-failed}
use Rattle.usb_bot.proofs.Standing.{further-trans}
use Rattle.usb_bot.proofs.client.BotClient.command.Goals as goal

pub returns-in_err-send_wrapper-clause-failed : goal.returns-in_err-send_wrapper-clause-failed
returns-in_err-send_wrapper-clause-failed g c =
    let residual = c.from_residual-in_err-send_wrapper in
    let err = err_from_is_err_and residual.result residual.ensures.1 in
    let sent = c.in_ok-wrapper.ensures.sends ∙ ap sends c.to_bytes.ensures.bytes in
    rw (err.1, err.2)
    (wrapper-fails g.B.Bus.calls c.args.self.now c.args.command c.args.buf c.args.bus.now c.send_wrapper.new.bus c.send_wrapper.new.self c.in_err-send_wrapper.field-0.0 c.requires.goes
    (subst (λ (x : BufferState). WrapperFails g.B.Bus.calls x (commanding c.args.bus.now c.args.self.now) (commanding c.send_wrapper.new.bus c.send_wrapper.new.self) c.in_err-send_wrapper.field-0.0) sent c.in_err-send_wrapper.ensures.failed))

pub returns-clause-passed : goal.returns-clause-passed
returns-clause-passed g c =
    let k = g.B.Bus.calls in
    let client = c.args.self.now in
    let mid = c.send_wrapper.new.bus in
    let new = c.finish-answer.new.bus in
    let r = c.finish-answer.result in
    let sent = c.in_ok-wrapper.ensures.sends ∙ ap sends c.to_bytes.ensures.bytes in
    let went = subst (λ (x : BufferState). staged k client.out x c.args.bus.now ≡ outcome (Ok c.in_ok-send_wrapper.field-0) mid) sent c.in_ok-send_wrapper.ensures.went in
    let later = subst (λ (x : ClientState). IfOk r (λ b. data_staged k x c.args.command c.args.buf (status_staged k x c.args.command) mid ≡ outcome (Ok b.bytes) new)) c.in_ok-send_wrapper.ensures.same c.finish-answer.ensures.passed in
    let ends = c.count.ensures.counted ∙ ap (λ o. counted o c.finish-answer.new.self) c.broken_by.ensures.error ∙ ap (λ x. counted (breaks r) x) (c.finish-answer.ensures.rest ∙ c.in_ok-send_wrapper.ensures.same) in
    subst (λ (x : ClientState). IfOk r (λ b. commanded k c.args.command c.args.buf (commanding c.args.bus.now client) ≡ outcome (Ok b.bytes) (commanding new x))) (sym ends)
    (command-passed k client c.args.command c.args.buf c.args.bus.now mid new c.in_ok-send_wrapper.field-0 c.requires.goes went r later)

pub returns-clause-failed : goal.returns-clause-failed
returns-clause-failed g c =
    let k = g.B.Bus.calls in
    let client = c.args.self.now in
    let mid = c.send_wrapper.new.bus in
    let new = c.finish-answer.new.bus in
    let r = c.finish-answer.result in
    let sent = c.in_ok-wrapper.ensures.sends ∙ ap sends c.to_bytes.ensures.bytes in
    let went = subst (λ (x : BufferState). staged k client.out x c.args.bus.now ≡ outcome (Ok c.in_ok-send_wrapper.field-0) mid) sent c.in_ok-send_wrapper.ensures.went in
    let later = subst (λ (x : ClientState). IfErr r (LaterFails k x c.args.command c.args.buf mid new)) c.in_ok-send_wrapper.ensures.same c.finish-answer.ensures.failed in
    let ends = c.count.ensures.counted ∙ ap (λ o. counted o c.finish-answer.new.self) c.broken_by.ensures.error ∙ ap (λ x. counted (breaks r) x) (c.finish-answer.ensures.rest ∙ c.in_ok-send_wrapper.ensures.same) in
    subst (λ (x : ClientState). IfErr r (CommandFails k c.args.command c.args.buf (commanding c.args.bus.now client) (commanding new x))) (sym ends)
    (command-failed k client c.args.command c.args.buf c.args.bus.now mid new c.in_ok-send_wrapper.field-0 c.requires.goes went r later)

pub returns-clause-others : goal.returns-clause-others
returns-clause-others g c =
    let mid = g.B.Bus.calls.state c.send_wrapper.new.bus in
    let new = g.B.Bus.calls.state c.finish-answer.new.bus in
    further-trans (g.B.Bus.calls.state c.args.bus.now) mid new c.args.self.now c.send_wrapper.ensures.others
    (subst (λ (x : ClientState). KeepsFurther mid new x) c.in_ok-send_wrapper.ensures.same c.finish-answer.ensures.others)
