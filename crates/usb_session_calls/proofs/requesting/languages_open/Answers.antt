use Rattle.std.proofs.Common.{◌∙◌, ap, sym, refl, []}
use Rattle.std.specs.Option.{option_copied}
use Rattle.usb_desc.specs.declared.control.ControlIn.{ControlIn}
use Rattle.usb_xfer.specs.Transfers.{request_in}
use Rattle.usb_device.specs.DescriptorCalls.{descriptor_request, descriptor_asked, languages_answered}
use Rattle.usb_session_text.specs.Controls.{languages_line}
use Rattle.usb_session_calls.proofs.ControlCode.{device-found, plain-answers, left-as}
use Rattle.usb_session_calls.proofs.ControlHosts.{keeps-left}
use Rattle.usb_session_calls.proofs.requesting.languages_open.Goals as goal

pub returns-in_err-answer_of-clause-keeps : goal.returns-in_err-answer_of-clause-keeps
returns-in_err-answer_of-clause-keeps c =
    let found = device-found c.args.host.now c.args.devices.now [] c.args.name c.number.result c.open_at.result c.in-Some.device.now c.requires.devices c.number.ensures.value c.open_at.ensures.value (ap option_copied c.in-Some.is) in
    keeps-left c.args.host.now found.device.device (request_in (descriptor_request 3 0 0)) c.nanoseconds.result c.get_string_descriptor_supported_languages-tried.result c.get_string_descriptor_supported_languages-tried.new.host c.bars_control.ensures.count (c.get_string_descriptor_supported_languages-tried.ensures.host found.device found.at)

pub returns-clause-keeps : goal.returns-clause-keeps
returns-clause-keeps c =
    let found = device-found c.args.host.now c.args.devices.now [] c.args.name c.number.result c.open_at.result c.in-Some.device.now c.requires.devices c.number.ensures.value c.open_at.ensures.value (ap option_copied c.in-Some.is) in
    keeps-left c.args.host.now found.device.device (request_in (descriptor_request 3 0 0)) c.nanoseconds.result c.get_string_descriptor_supported_languages-tried.result c.get_string_descriptor_supported_languages-tried.new.host c.bars_control.ensures.count (c.get_string_descriptor_supported_languages-tried.ensures.host found.device found.at)

pub returns-clause-answered : goal.returns-clause-answered
returns-clause-answered c =
    let found = device-found c.args.host.now c.args.devices.now [] c.args.name c.number.result c.open_at.result c.in-Some.device.now c.requires.devices c.number.ensures.value c.open_at.ensures.value (ap option_copied c.in-Some.is) in
    let answer = c.in_ok-answer_of.field-0 in
    plain-answers (λ (r : ControlIn) t h d. descriptor_asked h d r t) (descriptor_request 3 0 0) (descriptor_request 3 0 0) c.nanoseconds.result c.args.timeout refl c.nanoseconds.ensures.value languages_line (λ (r : ControlIn) t h d. languages_answered h d r t)
    c.args.host.now c.get_string_descriptor_supported_languages-tried.new.host c.args.line.now c.write_languages.new.out c.write_languages.result _ found.device.device c.get_string_descriptor_supported_languages-tried.result answer
    (sym c.bars_control.ensures.barred ∙ c.if-bars_control.false) found.number c.in_ok-answer_of.ensures.answer (c.get_string_descriptor_supported_languages-tried.ensures.answer found.device found.at)
    (left-as c.get_string_descriptor_supported_languages-tried.result answer _ _ _ c.in_ok-answer_of.ensures.answer (c.get_string_descriptor_supported_languages-tried.ensures.host found.device found.at)) c.write_languages.ensures.text
