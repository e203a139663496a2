use Rattle.usb_kernel.proofs.kernel.Kernel.discard.Given as goal

abbrev pub ghosts-discard_with : goal.ghosts-discard_with
ghosts-discard_with a = record { name = a.blank.name; parts = a.blank.parts }
