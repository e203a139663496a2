use Rattle.std.proofs.Common.{Ok, sym, subst, ◌∙◌}
use Rattle.usb_device_endpoint.specs.Handles.{KeepsOthers}
use Rattle.usb_bot.specs.Clients.{ClientState, StandBoth}
use Rattle.usb_bot.proofs.StageLemmas.{later-passed, later-failed, told}
use Rattle.usb_bot.proofs.Standing.{in-stand, in-further, further-trans}
use Rattle.usb_bot.proofs.client.BotClient.finish.Goals as goal

pub returns-in_err-told-clause-others : goal.returns-in_err-told-clause-others
returns-in_err-told-clause-others g c =
    let mid = g.B.Bus.calls.state c.move_data.new.bus in
    let new = g.B.Bus.calls.state c.stage.new.bus in
    further-trans (g.B.Bus.calls.state c.args.bus.now) mid new c.args.self.now c.move_data.ensures.others
    (in-further mid new c.args.self.now (subst (λ (x : ClientState). KeepsOthers mid new x.inp.key) (c.self.view_is ∙ c.move_data.ensures.rest) c.stage.ensures.others))

pub returns-clause-passed : goal.returns-clause-passed
returns-clause-passed g c =
    let came = told g.B.Bus.calls c.args.self.now _ c.args.command c.args.buf c.args.status (c.self.view_is ∙ c.move_data.ensures.rest) c.requires.status c.move_data.new.bus c.stage.new.bus (Ok c.in_ok-told.told) c.in_ok-told.ensures.went in
    later-passed g.B.Bus.calls c.args.self.now c.args.command c.args.buf c.args.bus.now c.move_data.new.bus c.stage.new.bus c.in_ok-done.done c.in_ok-told.told c.in_ok-done.ensures.went came c.judge.result c.judge.ensures.passed

pub returns-clause-failed : goal.returns-clause-failed
returns-clause-failed g c =
    let came = told g.B.Bus.calls c.args.self.now _ c.args.command c.args.buf c.args.status (c.self.view_is ∙ c.move_data.ensures.rest) c.requires.status c.move_data.new.bus c.stage.new.bus (Ok c.in_ok-told.told) c.in_ok-told.ensures.went in
    later-failed g.B.Bus.calls c.args.self.now c.args.command c.args.buf c.args.bus.now c.move_data.new.bus c.stage.new.bus c.in_ok-done.done c.in_ok-told.told c.in_ok-done.ensures.went came c.judge.result c.judge.ensures.failed

pub returns-clause-stand : goal.returns-clause-stand
returns-clause-stand g c =
    let kept : ClientState = record { out = c.self.inside.out; inp = c.self.inside.inp; next_tag = c.self.inside.next_tag; ended = c.self.inside.ended } in
    let mid = g.B.Bus.calls.state c.move_data.new.bus in
    in-stand mid (g.B.Bus.calls.state c.stage.new.bus) kept c.stage.new.endpoint (subst (λ (x : ClientState). StandBoth mid x) (sym c.self.view_is) c.move_data.ensures.stand) c.stage.ensures.rest c.stage.ensures.stands c.stage.ensures.others

pub returns-clause-others : goal.returns-clause-others
returns-clause-others g c =
    let mid = g.B.Bus.calls.state c.move_data.new.bus in
    let new = g.B.Bus.calls.state c.stage.new.bus in
    further-trans (g.B.Bus.calls.state c.args.bus.now) mid new c.args.self.now c.move_data.ensures.others
    (in-further mid new c.args.self.now (subst (λ (x : ClientState). KeepsOthers mid new x.inp.key) (c.self.view_is ∙ c.move_data.ensures.rest) c.stage.ensures.others))
