-- A trace can tell each event of a journal that is bounded and lawful.
use Rattle.std.proofs.Common.{List, [], ◌∷◌, reverse, sym, subst}
use Rattle.std.specs.List.{All}
use Rattle.std.proofs.lemmas.List.{reverse-append}
use Rattle.std.proofs.lemmas.List.Elements.{All-nil, All-cons, All-append}
use Rattle.usb_kernel.specs.declared.event.Event.{Event}
use Rattle.usb_kernel.specs.declared.event.Event.TheVariants.{Submit, Refuse, Packet, Ack, Echo, Fail, Discard, Reap, Unplug}
use Rattle.usb_kernel.specs.Legal.{IsLegal, IsLawful}
use Rattle.usb_trace_lines.specs.Forms.{IsSized}
use Rattle.usb_session_sizes.specs.Bounds.{IsBounded, AreBounded}
use Rattle.usb_session_sizes.specs.Scripts.{BoundedJournalsAreSized}

event-sized : (event : Event) → IsBounded event → IsLegal event → IsSized event
event-sized (Submit t d e m body room deadline) is legal = (is.0, is.1)
event-sized (Refuse t d e m body room errno) is legal = (is.0, (is.1, legal))
event-sized (Packet d e bytes) is legal = is
event-sized (Ack d e) is legal = tt
event-sized (Echo d o i) is legal = tt
event-sized (Fail d e errno) is legal = legal
event-sized (Discard t) is legal = tt
event-sized (Reap t) is legal = tt
event-sized (Unplug d) is legal = tt

journal-sized : (past : List Event) → AreBounded past → IsLawful past → All IsSized (reverse past)
journal-sized [] bounded lawful = All-nil IsSized
journal-sized (event ∷ before) bounded lawful =
    subst (λ (events : List Event). All IsSized events) (sym (reverse-append (event ∷ []) before))
    (All-append IsSized (reverse before) (event ∷ []) (journal-sized before bounded.1 lawful.1) (All-cons IsSized event [] (event-sized event bounded.0 lawful.0) (All-nil IsSized)))

pub bounded_journals_are_sized : BoundedJournalsAreSized
bounded_journals_are_sized = journal-sized
