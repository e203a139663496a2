use Rattle.usb_msg.specs.Requests.{messaging}
use Rattle.usb_session_streams.proofs.ClientsLeave.{response-goes, response-keeps}
use Rattle.usb_session_streams.proofs.clients.response.Goals as goal

pub returns-in-Ok-clause-keeps : goal.returns-in-Ok-clause-keeps
returns-in-Ok-clause-keeps c =
    let old = messaging c.args.host.now c.args.client.now in
    let new = messaging c.response.new.bus c.response.new.self in
    response-keeps old new c.requires.stand (response-goes old new _ (λ body. body.items) c.response.result c.response.ensures.ok c.response.ensures.failed) c.response.ensures.goes

pub returns-in-Err-clause-keeps : goal.returns-in-Err-clause-keeps
returns-in-Err-clause-keeps c =
    let old = messaging c.args.host.now c.args.client.now in
    let new = messaging c.response.new.bus c.response.new.self in
    response-keeps old new c.requires.stand (response-goes old new _ (λ body. body.items) c.response.result c.response.ensures.ok c.response.ensures.failed) c.response.ensures.goes
