use Rattle.std.proofs.Common.{arith, ◌≡◌, ◌∙◌, None, ap, sym}
use Rattle.usb_msg.specs.Clients.{ClientState}
use Rattle.usb_msg.proofs.KeepLemmas.{ok-told, err-none}
use Rattle.usb_msg.proofs.client.MsgClient.response.Goals as goal

pub returns-in-Ok-Ended-clause-told : goal.returns-in-Ok-Ended-clause-told
returns-in-Ok-Ended-clause-told g c =
    let rest = c.gather.ensures.rest in
    let goes : c.gather.new.self.ended ≡ None = ap (λ (x : ClientState). x.ended) rest ∙ ap (λ (x : ClientState). x.ended) (sym c.self.view_is) ∙ c.in_default.is in
    let asked = c.requires.outstanding in
    let responses = ap (λ (x : ClientState). x.responses) rest in
    let requests = ap (λ (x : ClientState). x.requests) rest in
    let end = rw c.in-Ok-Ended.field-0-is at c.in-Ok-Ended.ensures.end in
    ok-told (g.B.Bus.calls.state c.args.bus.now).past (g.B.Bus.calls.state c.gather.new.bus).past c.args.self.now c.gather.new.self c.take_message.new.self goes end.0 c.gather.ensures.keeps c.take_message.result (λ body. body.items) (omega (arith, asked, responses, requests)) c.take_message.ensures.ok c.take_message.ensures.framed

pub returns-in-Ok-Ended-clause-none : goal.returns-in-Ok-Ended-clause-none
returns-in-Ok-Ended-clause-none g c =
    let goes : c.gather.new.self.ended ≡ None = ap (λ (x : ClientState). x.ended) c.gather.ensures.rest ∙ ap (λ (x : ClientState). x.ended) (sym c.self.view_is) ∙ c.in_default.is in
    let end = rw c.in-Ok-Ended.field-0-is at c.in-Ok-Ended.ensures.end in
    err-none (g.B.Bus.calls.state c.args.bus.now).past (g.B.Bus.calls.state c.gather.new.bus).past c.args.self.now c.gather.new.self c.take_message.new.self goes end.0 c.gather.ensures.keeps c.take_message.result c.take_message.ensures.failed
