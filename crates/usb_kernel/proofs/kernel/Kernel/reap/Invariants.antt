use Rattle.usb_kernel.proofs.kernel.Kernel.reap.Given as goal

abbrev pub ghosts-reap_with : goal.ghosts-reap_with
ghosts-reap_with a = record { name = a.blank.name; parts = a.blank.parts }
