use Rattle.usb_kernel.proofs.kernel.Kernel.reset.Given as goal

abbrev pub ghosts-unplug_with : goal.ghosts-unplug_with
ghosts-unplug_with a = record { name = a.blank.name; parts = a.blank.parts }
