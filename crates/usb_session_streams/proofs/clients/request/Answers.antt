use Rattle.usb_msg.specs.Requests.{messaging}
use Rattle.usb_session_streams.proofs.ClientsLeave.{request-goes, request-keeps}
use Rattle.usb_session_streams.proofs.clients.request.Goals as goal

pub returns-in-Ok-clause-keeps : goal.returns-in-Ok-clause-keeps
returns-in-Ok-clause-keeps c =
    let old = messaging c.args.host.now c.args.client.now in
    let new = messaging c.request.new.bus c.request.new.self in
    request-keeps c.args.body.now old new c.requires.stand (request-goes c.args.body.now old new c.request.result c.request.ensures.ok c.request.ensures.failed) c.request.ensures.goes

pub returns-in-Err-clause-keeps : goal.returns-in-Err-clause-keeps
returns-in-Err-clause-keeps c =
    let old = messaging c.args.host.now c.args.client.now in
    let new = messaging c.request.new.bus c.request.new.self in
    request-keeps c.args.body.now old new c.requires.stand (request-goes c.args.body.now old new c.request.result c.request.ensures.ok c.request.ensures.failed) c.request.ensures.goes
