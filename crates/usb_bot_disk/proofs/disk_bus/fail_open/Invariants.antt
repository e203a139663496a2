use Rattle.std.proofs.Common.{◌≡◌, ◌+◌, replicate}
use Rattle.usb_kernel_devices.specs.declared.step.KernelStep.TheVariants as step
use Rattle.usb_device_host.specs.HostTurns.{all_stepped}
use Rattle.usb_bot_disk.proofs.disk_bus.fail_open.Given as goal

abbrev pub invariant-loop : goal.invariant-loop
invariant-loop l =
    record {
      host_is : l.host ≡ all_stepped l.initial.host (replicate l.counter (step.Fail l.device l.endpoint 32));
      steps : l.host.steps ≡ l.initial.host.steps;
      spare : l.host.kernel.spare + l.counter ≡ l.initial.host.kernel.spare;
    }
