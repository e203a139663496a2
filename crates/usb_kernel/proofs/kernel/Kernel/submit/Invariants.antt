use Rattle.usb_kernel.proofs.kernel.Kernel.submit.Given as goal

abbrev pub ghosts-submit_with : goal.ghosts-submit_with
ghosts-submit_with a = record { name = a.blank.name; parts = a.blank.parts }
