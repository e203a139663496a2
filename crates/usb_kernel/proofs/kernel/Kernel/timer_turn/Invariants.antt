use Rattle.usb_kernel.proofs.kernel.Kernel.timer_turn.Given as goal

abbrev pub ghosts-timer_turn_with : goal.ghosts-timer_turn_with
ghosts-timer_turn_with a = record { name = a.blank.name; parts = a.blank.parts }
