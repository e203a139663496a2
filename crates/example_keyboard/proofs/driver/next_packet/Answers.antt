-- The packet's ticket is the one that was submitted.
use Rattle.example_keyboard.proofs.TicketLemmas.{brings}
use Rattle.example_keyboard.proofs.KeptHandles.{none-packet}
use Rattle.example_keyboard.proofs.driver.next_packet.Goals as goal

pub returns-clause-packet : goal.returns-clause-packet
returns-clause-packet c =
    brings _ _ _ _ _ _ _ _ _ _ c.requires.none c.in-Ok.ensures.pending c.in-Ok.ensures.bus c.in-Ok.ensures.enters
    (c.in-Ok.ensures.left c.requires.input) c.wait_next_complete.ensures.waited c.wait_next_complete.ensures.found_why
    c.wait_next_complete.ensures.goes_on

pub returns-clause-closed : goal.returns-clause-closed
returns-clause-closed c = none-packet _ _ _ c.args.endpoint.now _ _ c.in_ok-buffer.buffer _ _ c.in-Ok.ensures.bus c.wait_next_complete.ensures.waited
