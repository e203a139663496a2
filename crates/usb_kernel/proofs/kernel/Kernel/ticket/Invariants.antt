use Rattle.usb_kernel.proofs.kernel.Kernel.ticket.Given as goal

abbrev pub ghosts-info_with : goal.ghosts-info_with
ghosts-info_with a = record { name = a.blank.name; parts = a.blank.parts }
