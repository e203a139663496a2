use Rattle.std.proofs.Common.{◌≡◌, ℕ, ◌+◌, suc, List, ◌++◌, append-nil, append_assoc, sym, ap, ◌∙◌, subst, arith, rules}
use Rattle.usb_script.specs.Generated.{opening, message, round_trip, round_trips, generated}
use Rattle.usb_script.specs.Scripts.{IsScript}
use Rattle.usb_script.proofs.ScriptsParse.{generated_scripts_parse}
use Rattle.usb_script.proofs.generated.generate.Goals as goal

-- before the first message
none_yet : (text : List ℕ) → text ≡ opening → text ≡ opening ++ round_trips 0
unfolding round_trips
none_yet text is = is ∙ sym (append-nil opening)

-- one message more
one_more : (before after bytes : List ℕ) (number : ℕ) → before ≡ opening ++ round_trips number → bytes ≡ message number → after ≡ before ++ round_trip bytes → after ≡ opening ++ round_trips (number + 1)
unfolding round_trips
one_more before after bytes number sofar is pushed =
    let next : number + 1 ≡ suc number = omega arith in
    rw (pushed, sofar, is, next) (append_assoc opening (round_trips number) (round_trip (message number)))

-- all messages
all_made : (text : List ℕ) (number messages : ℕ) → number ≡ messages → text ≡ opening ++ round_trips number → text ≡ generated messages
unfolding generated
all_made text number messages all sofar = sofar ∙ ap (λ n. opening ++ round_trips n) all

pub loop-number-init : goal.loop-number-init
loop-number-init c = none_yet c.push_opening.new.script.items (search rules)

pub loop-number-preserved : goal.loop-number-preserved
loop-number-preserved c =
    one_more c.loop-number.script.items c.push_round_trip.new.script.items c.as_slice.result.now c.loop-number.number c.loop-number.invariant (search rules) c.in_ok-push_round_trip.ensures.text

pub returns-clause-text : goal.returns-clause-text
returns-clause-text c =
    all_made c.loop-number.script.items c.loop-number.number c.args.messages (omega arith) c.loop-number.invariant

pub returns-clause-valid : goal.returns-clause-valid
returns-clause-valid c = λ some few.
    let made = all_made c.loop-number.script.items c.loop-number.number c.args.messages (omega arith) c.loop-number.invariant in
    subst IsScript (sym made) (generated_scripts_parse c.args.messages some few)
