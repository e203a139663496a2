use Rattle.std.proofs.Common.{◌∙◌, ap, sym}
use Rattle.std.specs.Option.{option_copied}
use Rattle.usb_desc.specs.declared.control.ControlIn.{ControlIn}
use Rattle.usb_xfer.specs.Transfers.{request_in}
use Rattle.usb_device.specs.ControlCalls.{controlled, control_answered}
use Rattle.usb_script_words.specs.Controls.{control_in_of}
use Rattle.usb_session_text.specs.Controls.{received_line}
use Rattle.usb_session_calls.proofs.ControlCode.{device-found, interface-found, came-answers, left-as}
use Rattle.usb_session_calls.proofs.ControlHosts.{keeps-left}
use Rattle.usb_session_calls.proofs.controlling.control_in_open.Goals as goal

pub returns-in_err-answer_of-in-Device-clause-keeps : goal.returns-in_err-answer_of-in-Device-clause-keeps
returns-in_err-answer_of-in-Device-clause-keeps c =
    let found = device-found c.args.host.now c.args.devices.now c.args.interfaces.now c.in-Device.name c.number.result c.open_at.result c.in-Some.device.now c.requires.devices c.number.ensures.value c.open_at.ensures.value (ap option_copied c.in-Some.is) in
    keeps-left c.args.host.now found.device.device (request_in c.control_in-request.result) c.nanoseconds.result c.control_in-tried.result c.control_in-tried.new.host c.bars_control.ensures.count (c.control_in-tried.ensures.host found.device found.at)

pub returns-in_ok-answer_of-in-Device-clause-keeps : goal.returns-in_ok-answer_of-in-Device-clause-keeps
returns-in_ok-answer_of-in-Device-clause-keeps c =
    let found = device-found c.args.host.now c.args.devices.now c.args.interfaces.now c.in-Device.name c.number.result c.open_at.result c.in-Some.device.now c.requires.devices c.number.ensures.value c.open_at.ensures.value (ap option_copied c.in-Some.is) in
    keeps-left c.args.host.now found.device.device (request_in c.control_in-request.result) c.nanoseconds.result c.control_in-tried.result c.control_in-tried.new.host c.bars_control.ensures.count (c.control_in-tried.ensures.host found.device found.at)

pub returns-in_ok-answer_of-in-Device-clause-answered : goal.returns-in_ok-answer_of-in-Device-clause-answered
returns-in_ok-answer_of-in-Device-clause-answered c =
    let found = device-found c.args.host.now c.args.devices.now c.args.interfaces.now c.in-Device.name c.number.result c.open_at.result c.in-Some.device.now c.requires.devices c.number.ensures.value c.open_at.ensures.value (ap option_copied c.in-Some.is) in
    let answer = c.in_ok-answer_of-in-Device.field-0 in
    rw c.in-Device.is
    (came-answers (λ (r : ControlIn) t h d. controlled h d (request_in r) t) c.control_in-request.result (control_in_of c.args.setup c.args.wanted) c.nanoseconds.result c.args.timeout c.control_in-request.ensures.value c.nanoseconds.ensures.value _ received_line (λ (r : ControlIn) t h d. control_answered h d (request_in r) t)
    c.args.host.now c.control_in-tried.new.host c.args.line.now c.write_received.new.out c.write_received.result _ found.device.device c.control_in-tried.result answer
    (sym c.bars_control.ensures.barred ∙ c.if-bars_control.false) found.number c.in_ok-answer_of-in-Device.ensures.answer (c.control_in-tried.ensures.answer found.device found.at)
    (left-as c.control_in-tried.result answer _ _ _ c.in_ok-answer_of-in-Device.ensures.answer (c.control_in-tried.ensures.host found.device found.at)) c.write_received.ensures.text)

pub returns-in_err-answer_of-in-Interface-clause-keeps : goal.returns-in_err-answer_of-in-Interface-clause-keeps
returns-in_err-answer_of-in-Interface-clause-keeps c =
    let found = interface-found c.args.host.now c.args.devices.now c.args.interfaces.now c.in-Interface.name c.number-in-Interface.result c.open_at-in-Interface.result c.in-Some-open_at.interface.now c.requires.interfaces c.number-in-Interface.ensures.value c.open_at-in-Interface.ensures.value (ap option_copied c.in-Some-open_at.is) in
    keeps-left c.args.host.now found.claim.device (request_in c.control_in-request.result) c.nanoseconds-in-Interface.result c.control_in-tried-in-Interface.result c.control_in-tried-in-Interface.new.host c.bars_control.ensures.count (c.control_in-tried-in-Interface.ensures.host found.claim found.at)

pub returns-in_ok-answer_of-in-Interface-clause-keeps : goal.returns-in_ok-answer_of-in-Interface-clause-keeps
returns-in_ok-answer_of-in-Interface-clause-keeps c =
    let found = interface-found c.args.host.now c.args.devices.now c.args.interfaces.now c.in-Interface.name c.number-in-Interface.result c.open_at-in-Interface.result c.in-Some-open_at.interface.now c.requires.interfaces c.number-in-Interface.ensures.value c.open_at-in-Interface.ensures.value (ap option_copied c.in-Some-open_at.is) in
    keeps-left c.args.host.now found.claim.device (request_in c.control_in-request.result) c.nanoseconds-in-Interface.result c.control_in-tried-in-Interface.result c.control_in-tried-in-Interface.new.host c.bars_control.ensures.count (c.control_in-tried-in-Interface.ensures.host found.claim found.at)

pub returns-in_ok-answer_of-in-Interface-clause-answered : goal.returns-in_ok-answer_of-in-Interface-clause-answered
returns-in_ok-answer_of-in-Interface-clause-answered c =
    let found = interface-found c.args.host.now c.args.devices.now c.args.interfaces.now c.in-Interface.name c.number-in-Interface.result c.open_at-in-Interface.result c.in-Some-open_at.interface.now c.requires.interfaces c.number-in-Interface.ensures.value c.open_at-in-Interface.ensures.value (ap option_copied c.in-Some-open_at.is) in
    let answer = c.in_ok-answer_of-in-Interface.field-0 in
    rw c.in-Interface.is
    (came-answers (λ (r : ControlIn) t h d. controlled h d (request_in r) t) c.control_in-request.result (control_in_of c.args.setup c.args.wanted) c.nanoseconds-in-Interface.result c.args.timeout c.control_in-request.ensures.value c.nanoseconds-in-Interface.ensures.value _ received_line (λ (r : ControlIn) t h d. control_answered h d (request_in r) t)
    c.args.host.now c.control_in-tried-in-Interface.new.host c.args.line.now c.write_received-in-Interface.new.out c.write_received-in-Interface.result _ found.claim.device c.control_in-tried-in-Interface.result answer
    (sym c.bars_control.ensures.barred ∙ c.if-bars_control.false) found.number c.in_ok-answer_of-in-Interface.ensures.answer (c.control_in-tried-in-Interface.ensures.answer found.claim found.at)
    (left-as c.control_in-tried-in-Interface.result answer _ _ _ c.in_ok-answer_of-in-Interface.ensures.answer (c.control_in-tried-in-Interface.ensures.host found.claim found.at)) c.write_received-in-Interface.ensures.text)
