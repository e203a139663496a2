use Rattle.usb_device_host.proofs.WaitFrames.{went-turned, went-waited, went-blocked, went-awaited, went-rest, rest-steps, rest-spare}
use Rattle.usb_device.proofs.laws.lines_go_on.Goals as goal

pub returns : goal.returns
returns c = record {
  turn = went-turned;
  wait = went-waited;
  blocking = went-blocked;
  await_ticket = went-awaited;
  rest = went-rest;
  none_left = rest-steps;
  places = rest-spare;
}
