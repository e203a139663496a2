use Rattle.std.proofs.Common.{◌≡◌, ◌+◌, suc, length, sym, ap, ◌∙◌, arith}
use Rattle.std.proofs.lemmas.List.{length-reverse}
use Rattle.usb_trace_lines.specs.Fates.{fates_of}
use Rattle.usb_trace.specs.FirstOther.{IsFirstOther}
use Rattle.usb_trace.specs.Replays.{StopsAt}
use Rattle.usb_trace.proofs.Judged.{is-trace, stops-there, fate-there}
use Rattle.usb_trace.proofs.Replaying.{replay-length}
use Rattle.usb_trace.proofs.check.judge.Goals as goal

pub returns-in-Some-clause-no : goal.returns-in-Some-clause-no
returns-in-Some-clause-no c = λ line is bytes h.
    let past = c.in-Going.kernel.past in
    let fs = c.args.text.now.fates.items in
    let place = c.in-Some.place in
    let replay = (rw c.in-Going.is at h.replayed).1 in
    let here : length c.journal.result.now + place + 2 ≡ line = cc in
    let journal : length c.journal.result.now ≡ length past = ap length c.journal.ensures.events ∙ length-reverse past in
    let count = replay-length h.events past replay in
    let number : line ≡ suc (suc (length h.events + place)) = omega arith in
    let other : IsFirstOther fs (fates_of past) place = rw c.as_slice.ensures.value at c.in-Some.ensures.some in
    rw number (rw h.is (fate-there h.events fs past place h.told h.fates replay other))

pub returns-in-None-clause-yes : goal.returns-in-None-clause-yes
returns-in-None-clause-yes c = λ is bytes h.
    let past = c.in-Going.kernel.past in
    let replay = (rw c.in-Going.is at h.replayed).1 in
    rw h.is (is-trace h.events c.args.text.now.fates.items past h.told replay (sym c.as_slice.ensures.value ∙ c.first_other_fate.ensures.none c.in-None.is))

pub returns-in-Stopped-clause-no : goal.returns-in-Stopped-clause-no
returns-in-Stopped-clause-no c = λ line is bytes h.
    let place = c.in-Stopped.place in
    let stops : StopsAt h.events place = rw c.in-Stopped.is at h.replayed in
    let here : place + 2 ≡ line = cc in
    let number : line ≡ suc (suc place) = omega arith in
    rw number (rw h.is (stops-there h.events c.args.text.now.fates.items place h.told h.fates stops))
