use Rattle.std.proofs.Common.{ap}
use Rattle.std.specs.Option.{option_copied}
use Rattle.usb_xfer.specs.Transfers.{request_in}
use Rattle.usb_session_calls.specs.Controls.{request_for}
use Rattle.usb_session_calls.proofs.ControlCode.{device-found, interface-found}
use Rattle.usb_session.proofs.FutureCalls.{started-future, started-host}
use Rattle.usb_session.proofs.awaiting.start_in_open.Goals as goal

pub returns-in_ok-future-in-Device-clause-future : goal.returns-in_ok-future-in-Device-clause-future
returns-in_ok-future-in-Device-clause-future c =
    let found = device-found c.args.host.now c.args.devices.now c.args.interfaces.now c.in-Device.name c.number.result c.open_at.result c.in-Some.device.now c.requires.devices c.number.ensures.value c.open_at.ensures.value (ap option_copied c.in-Some.is) in
    rw c.in-Device.is (started-future c.args.host.now (request_in c.control_in-request.result) (request_for c.args.setup c.args.wanted) c.nanoseconds.result c.args.timeout _ found.device.device c.in_ok-future-in-Device.future (ap request_in c.control_in-request.ensures.value) c.nanoseconds.ensures.value found.number c.in_ok-future-in-Device.ensures.future)

pub returns-in_ok-future-in-Device-clause-ok : goal.returns-in_ok-future-in-Device-clause-ok
returns-in_ok-future-in-Device-clause-ok c =
    let found = device-found c.args.host.now c.args.devices.now c.args.interfaces.now c.in-Device.name c.number.result c.open_at.result c.in-Some.device.now c.requires.devices c.number.ensures.value c.open_at.ensures.value (ap option_copied c.in-Some.is) in
    rw c.in-Device.is (started-host c.args.host.now c.start_control_in.new.host (request_in c.control_in-request.result) (request_for c.args.setup c.args.wanted) c.nanoseconds.result c.args.timeout _ found.device.device (ap request_in c.control_in-request.ensures.value) c.nanoseconds.ensures.value found.number (c.in_ok-future-in-Device.ensures.ok found.device found.at))

pub returns-in_ok-future-in-Interface-clause-future : goal.returns-in_ok-future-in-Interface-clause-future
returns-in_ok-future-in-Interface-clause-future c =
    let found = interface-found c.args.host.now c.args.devices.now c.args.interfaces.now c.in-Interface.name c.number-in-Interface.result c.open_at-in-Interface.result c.in-Some-open_at.interface.now c.requires.interfaces c.number-in-Interface.ensures.value c.open_at-in-Interface.ensures.value (ap option_copied c.in-Some-open_at.is) in
    rw c.in-Interface.is (started-future c.args.host.now (request_in c.control_in-request.result) (request_for c.args.setup c.args.wanted) c.nanoseconds-in-Interface.result c.args.timeout _ found.claim.device c.in_ok-future-in-Interface.future (ap request_in c.control_in-request.ensures.value) c.nanoseconds-in-Interface.ensures.value found.number c.in_ok-future-in-Interface.ensures.future)

pub returns-in_ok-future-in-Interface-clause-ok : goal.returns-in_ok-future-in-Interface-clause-ok
returns-in_ok-future-in-Interface-clause-ok c =
    let found = interface-found c.args.host.now c.args.devices.now c.args.interfaces.now c.in-Interface.name c.number-in-Interface.result c.open_at-in-Interface.result c.in-Some-open_at.interface.now c.requires.interfaces c.number-in-Interface.ensures.value c.open_at-in-Interface.ensures.value (ap option_copied c.in-Some-open_at.is) in
    rw c.in-Interface.is (started-host c.args.host.now c.start_control_in-in-Interface.new.host (request_in c.control_in-request.result) (request_for c.args.setup c.args.wanted) c.nanoseconds-in-Interface.result c.args.timeout _ found.claim.device (ap request_in c.control_in-request.ensures.value) c.nanoseconds-in-Interface.ensures.value found.number (c.in_ok-future-in-Interface.ensures.ok found.claim found.at))
