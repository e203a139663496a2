use Rattle.std.proofs.Common.{◌∙◌, ap, sym, ℕ, List, []}
use Rattle.std.specs.Option.{option_copied}
use Rattle.usb_desc.specs.declared.control.ControlOut.{ControlOut}
use Rattle.usb_error.specs.Outcomes.{result_map}
use Rattle.usb_xfer.specs.Transfers.{request_out}
use Rattle.usb_device.specs.ControlCalls.{controlled, control_answered}
use Rattle.usb_script_words.specs.Controls.{control_out_of}
use Rattle.usb_session_text.specs.Controls.{sent_line}
use Rattle.usb_session_calls.proofs.ControlCode.{device-found, interface-found, came-answers, left-as, sent-same}
use Rattle.usb_session_calls.proofs.ControlHosts.{keeps-left}
use Rattle.usb_session_calls.proofs.controlling.control_out_open.Goals as goal

pub returns-in_err-answer_of-in-Device-clause-keeps : goal.returns-in_err-answer_of-in-Device-clause-keeps
returns-in_err-answer_of-in-Device-clause-keeps c =
    let found = device-found c.args.host.now c.args.devices.now c.args.interfaces.now c.in-Device.name c.number.result c.open_at.result c.in-Some.device.now c.requires.devices c.number.ensures.value c.open_at.ensures.value (ap option_copied c.in-Some.is) in
    keeps-left c.args.host.now found.device.device (request_out c.control_out-request.result) c.nanoseconds.result c.control_out-tried.result c.control_out-tried.new.host c.bars_control.ensures.count (c.control_out-tried.ensures.host found.device found.at)

pub returns-in_ok-answer_of-in-Device-clause-keeps : goal.returns-in_ok-answer_of-in-Device-clause-keeps
returns-in_ok-answer_of-in-Device-clause-keeps c =
    let found = device-found c.args.host.now c.args.devices.now c.args.interfaces.now c.in-Device.name c.number.result c.open_at.result c.in-Some.device.now c.requires.devices c.number.ensures.value c.open_at.ensures.value (ap option_copied c.in-Some.is) in
    keeps-left c.args.host.now found.device.device (request_out c.control_out-request.result) c.nanoseconds.result c.control_out-tried.result c.control_out-tried.new.host c.bars_control.ensures.count (c.control_out-tried.ensures.host found.device found.at)

pub returns-in_ok-answer_of-in-Device-clause-answered : goal.returns-in_ok-answer_of-in-Device-clause-answered
returns-in_ok-answer_of-in-Device-clause-answered c =
    let found = device-found c.args.host.now c.args.devices.now c.args.interfaces.now c.in-Device.name c.number.result c.open_at.result c.in-Some.device.now c.requires.devices c.number.ensures.value c.open_at.ensures.value (ap option_copied c.in-Some.is) in
    let answer = c.in_ok-answer_of-in-Device.field-0 in
    rw c.in-Device.is
    (came-answers (λ (r : ControlOut) t h d. controlled h d (request_out r) t) c.control_out-request.result (control_out_of c.args.setup c.args.bytes) c.nanoseconds.result c.args.timeout c.control_out-request.ensures.value c.nanoseconds.ensures.value (λ _. []) (λ r. sent_line (result_map (λ _. tt) r)) (λ (r : ControlOut) t h d. control_answered h d (request_out r) t)
    c.args.host.now c.control_out-tried.new.host c.args.line.now c.write_sent.new.out c.write_sent.result _ found.device.device c.control_out-tried.result answer
    (sym c.bars_control.ensures.barred ∙ c.if-bars_control.false) found.number c.in_ok-answer_of-in-Device.ensures.answer (c.control_out-tried.ensures.answer found.device found.at)
    (left-as c.control_out-tried.result answer _ _ _ c.in_ok-answer_of-in-Device.ensures.answer (c.control_out-tried.ensures.host found.device found.at)) (rw (sent-same {X = List ℕ} [] answer) c.write_sent.ensures.text))

pub returns-in_err-answer_of-in-Interface-clause-keeps : goal.returns-in_err-answer_of-in-Interface-clause-keeps
returns-in_err-answer_of-in-Interface-clause-keeps c =
    let found = interface-found c.args.host.now c.args.devices.now c.args.interfaces.now c.in-Interface.name c.number-in-Interface.result c.open_at-in-Interface.result c.in-Some-open_at.interface.now c.requires.interfaces c.number-in-Interface.ensures.value c.open_at-in-Interface.ensures.value (ap option_copied c.in-Some-open_at.is) in
    keeps-left c.args.host.now found.claim.device (request_out c.control_out-request.result) c.nanoseconds-in-Interface.result c.control_out-tried-in-Interface.result c.control_out-tried-in-Interface.new.host c.bars_control.ensures.count (c.control_out-tried-in-Interface.ensures.host found.claim found.at)

pub returns-in_ok-answer_of-in-Interface-clause-keeps : goal.returns-in_ok-answer_of-in-Interface-clause-keeps
returns-in_ok-answer_of-in-Interface-clause-keeps c =
    let found = interface-found c.args.host.now c.args.devices.now c.args.interfaces.now c.in-Interface.name c.number-in-Interface.result c.open_at-in-Interface.result c.in-Some-open_at.interface.now c.requires.interfaces c.number-in-Interface.ensures.value c.open_at-in-Interface.ensures.value (ap option_copied c.in-Some-open_at.is) in
    keeps-left c.args.host.now found.claim.device (request_out c.control_out-request.result) c.nanoseconds-in-Interface.result c.control_out-tried-in-Interface.result c.control_out-tried-in-Interface.new.host c.bars_control.ensures.count (c.control_out-tried-in-Interface.ensures.host found.claim found.at)

pub returns-in_ok-answer_of-in-Interface-clause-answered : goal.returns-in_ok-answer_of-in-Interface-clause-answered
returns-in_ok-answer_of-in-Interface-clause-answered c =
    let found = interface-found c.args.host.now c.args.devices.now c.args.interfaces.now c.in-Interface.name c.number-in-Interface.result c.open_at-in-Interface.result c.in-Some-open_at.interface.now c.requires.interfaces c.number-in-Interface.ensures.value c.open_at-in-Interface.ensures.value (ap option_copied c.in-Some-open_at.is) in
    let answer = c.in_ok-answer_of-in-Interface.field-0 in
    rw c.in-Interface.is
    (came-answers (λ (r : ControlOut) t h d. controlled h d (request_out r) t) c.control_out-request.result (control_out_of c.args.setup c.args.bytes) c.nanoseconds-in-Interface.result c.args.timeout c.control_out-request.ensures.value c.nanoseconds-in-Interface.ensures.value (λ _. []) (λ r. sent_line (result_map (λ _. tt) r)) (λ (r : ControlOut) t h d. control_answered h d (request_out r) t)
    c.args.host.now c.control_out-tried-in-Interface.new.host c.args.line.now c.write_sent-in-Interface.new.out c.write_sent-in-Interface.result _ found.claim.device c.control_out-tried-in-Interface.result answer
    (sym c.bars_control.ensures.barred ∙ c.if-bars_control.false) found.number c.in_ok-answer_of-in-Interface.ensures.answer (c.control_out-tried-in-Interface.ensures.answer found.claim found.at)
    (left-as c.control_out-tried-in-Interface.result answer _ _ _ c.in_ok-answer_of-in-Interface.ensures.answer (c.control_out-tried-in-Interface.ensures.host found.claim found.at)) (rw (sent-same {X = List ℕ} [] answer) c.write_sent-in-Interface.ensures.text))
