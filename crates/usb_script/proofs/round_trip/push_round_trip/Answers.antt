use Rattle.std.proofs.Common.{append_assoc, rules}
use Rattle.std.proofs.lemmas.Result.{IfOk-equal}
use Rattle.usb_script.specs.Generated.{round_trip}
use Rattle.usb_script.proofs.round_trip.push_round_trip.Goals as goal

pub returns : goal.returns
unfolding round_trip
returns c = search (rules, IfOk-equal, append_assoc)
