use Rattle.usb_kernel.proofs.kernel.Kernel.open_count.Given as goal

abbrev pub ghosts-count_with : goal.ghosts-count_with
ghosts-count_with a = record { name = a.blank.name; parts = a.blank.parts }
