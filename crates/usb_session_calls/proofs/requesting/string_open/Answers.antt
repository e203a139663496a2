use Rattle.std.proofs.Common.{◌∙◌, ap, sym, []}
use Rattle.std.specs.Int.NonZero.{non_zero_u8_get}
use Rattle.std.specs.Option.{option_copied}
use Rattle.usb_desc.specs.declared.control.ControlIn.{ControlIn}
use Rattle.usb_xfer.specs.Transfers.{request_in}
use Rattle.usb_device.specs.DescriptorCalls.{descriptor_request, descriptor_asked, text_answered}
use Rattle.usb_session_text.specs.Controls.{string_line}
use Rattle.usb_session_calls.proofs.ControlCode.{device-found, came-answers, either-as}
use Rattle.usb_session_calls.proofs.ControlHosts.{keeps-either}
use Rattle.usb_session_calls.proofs.requesting.string_open.Goals as goal

pub returns-in_err-answer_of-clause-keeps : goal.returns-in_err-answer_of-clause-keeps
returns-in_err-answer_of-clause-keeps c =
    let found = device-found c.args.host.now c.args.devices.now [] c.args.name c.number.result c.open_at.result c.in-Some.device.now c.requires.devices c.number.ensures.value c.open_at.ensures.value (ap option_copied c.in-Some.is) in
    keeps-either c.args.host.now found.device.device (request_in (descriptor_request 3 (non_zero_u8_get c.get.result) c.args.language)) c.nanoseconds.result c.get_string_descriptor-tried.result _ c.get_string_descriptor-tried.new.host c.bars_control.ensures.count (c.get_string_descriptor-tried.ensures.host found.device found.at)

pub returns-clause-keeps : goal.returns-clause-keeps
returns-clause-keeps c =
    let found = device-found c.args.host.now c.args.devices.now [] c.args.name c.number.result c.open_at.result c.in-Some.device.now c.requires.devices c.number.ensures.value c.open_at.ensures.value (ap option_copied c.in-Some.is) in
    keeps-either c.args.host.now found.device.device (request_in (descriptor_request 3 (non_zero_u8_get c.get.result) c.args.language)) c.nanoseconds.result c.get_string_descriptor-tried.result _ c.get_string_descriptor-tried.new.host c.bars_control.ensures.count (c.get_string_descriptor-tried.ensures.host found.device found.at)

pub returns-clause-answered : goal.returns-clause-answered
returns-clause-answered c =
    let found = device-found c.args.host.now c.args.devices.now [] c.args.name c.number.result c.open_at.result c.in-Some.device.now c.requires.devices c.number.ensures.value c.open_at.ensures.value (ap option_copied c.in-Some.is) in
    let answer = c.in_ok-answer_of.field-0 in
    came-answers (λ (r : ControlIn) t h d. descriptor_asked h d r t) (descriptor_request 3 (non_zero_u8_get c.get.result) c.args.language) (descriptor_request 3 c.args.index.now c.args.language) c.nanoseconds.result c.args.timeout (ap (λ n. descriptor_request 3 n c.args.language) c.get.ensures.value) c.nanoseconds.ensures.value _ string_line (λ (r : ControlIn) t h d. text_answered h d r t)
    c.args.host.now c.get_string_descriptor-tried.new.host c.args.line.now c.write_string.new.out c.write_string.result _ found.device.device c.get_string_descriptor-tried.result answer
    (sym c.bars_control.ensures.barred ∙ c.if-bars_control.false) found.number c.in_ok-answer_of.ensures.answer (c.get_string_descriptor-tried.ensures.answer found.device found.at)
    (either-as c.get_string_descriptor-tried.result answer _ _ _ _ c.in_ok-answer_of.ensures.answer (c.get_string_descriptor-tried.ensures.host found.device found.at)) c.write_string.ensures.text
