use Rattle.std.proofs.Common.{sym}
use Rattle.usb_desc.proofs.DeviceLemmas.{device_few, device_short, device_other, device_form, device_there}
use Rattle.usb_desc.proofs.device.DeviceDescriptor.new.Goals as goal
use Rattle.usb_desc.proofs.device.DeviceDescriptor.new.Goals.{then-from-lt-DEVICE_LEN-via-then-from-lt-DEVICE_LEN, then-from-lt-DEVICE_LEN-via-else-from-lt-DEVICE_LEN+then-bytes-ne-DEVICE_TYPE}

pub returns-in_err-bytes : goal.returns-in_err-bytes
returns-in_err-bytes c = record { value = rw c.from_residual.ensures (sym (device_few c.args.buf.now c.in_err-bytes.ensures.cases)) }

pub returns-then-from-lt-DEVICE_LEN : goal.returns-then-from-lt-DEVICE_LEN
returns-then-from-lt-DEVICE_LEN c = record {
  value = sym (elim c.then-from-lt-DEVICE_LEN.branch [
    | then-from-lt-DEVICE_LEN-via-then-from-lt-DEVICE_LEN w ↦ device_short c.args.buf.now c.in_ok-bytes.field-0.now c.from.result c.in_ok-bytes.ensures.cases c.from.ensures w.if-from-lt-DEVICE_LEN.true
    | then-from-lt-DEVICE_LEN-via-else-from-lt-DEVICE_LEN+then-bytes-ne-DEVICE_TYPE w ↦ device_other c.args.buf.now c.in_ok-bytes.field-0.now c.in_ok-bytes.ensures.cases w.if-bytes-ne-DEVICE_TYPE.true
  ]);
}

pub invariant_of-result : goal.invariant_of-result
invariant_of-result c = device_form c.args.buf.now c.in_ok-bytes.field-0.now c.from.result c.in_ok-bytes.ensures.cases c.from.ensures c.if-from-lt-DEVICE_LEN.false c.if-bytes-ne-DEVICE_TYPE.false

pub returns : goal.returns
returns c = record { value = device_there c.args.buf.now c.in_ok-bytes.field-0.now c.from.result c.in_ok-bytes.ensures.cases c.from.ensures c.if-from-lt-DEVICE_LEN.false c.if-bytes-ne-DEVICE_TYPE.false }
