use Rattle.usb_kernel.proofs.kernel.Kernel.front_maximum.Given as goal

abbrev pub ghosts-front_with : goal.ghosts-front_with
ghosts-front_with a = record { name = a.blank.name; parts = a.blank.parts }
