use Rattle.usb_session.proofs.TakeLemmas.{completions-taken}
use Rattle.usb_session.proofs.PlaceLemmas.{polls-for_their_place, polls-of_scripts}
use Rattle.usb_session.proofs.laws.polls_answer_for_their_place.Goals as goal

pub returns : goal.returns
returns c = record { poll = polls-for_their_place; scripts = polls-of_scripts; taken = completions-taken }
