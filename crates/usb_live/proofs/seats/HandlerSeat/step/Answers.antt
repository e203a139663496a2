use Rattle.std.proofs.Common.{◌+◌, ◌<◌, length, Bool, refl, ◌≡◌, ◌/◌, List, ℕ, subst, ap, ◌∙◌, false, Some, Option}
use Rattle.usb_xfer.specs.declared.transfer.Completion.{Completion}
use Rattle.usb_kernel.specs.declared.event.Event.{Event}
use Rattle.usb_kernel.specs.Value.{KernelState}
use Rattle.usb_live.specs.Seats.{SeatState}
use Rattle.usb_live.specs.declared.view.Handled.TheVariants.{Idle, Working, Reclaim, Reclaimed}
use Rattle.usb_live.specs.Rows.{handler_cell}
use Rattle.usb_live.specs.Steps.{Sat, handling, looked, MayFind}
use Rattle.usb_live.proofs.Reaped.{reaps}
use Rattle.usb_live.proofs.StepFacts.{looked_then, last_is, finished_tells, reclaimed_tells, rests_on, changed, counts, near_of}
use Rattle.usb_live.specs.Answers.{reclaimed_in}
use Rattle.usb_live.specs.declared.seats.CellStep.TheVariants as CellStep
use Rattle.usb_live.proofs.seats.HandlerSeat.step.Goals as goal

pub invariant_of-self-then-finish : goal.invariant_of-self-then-finish
invariant_of-self-then-finish c = let v = c.self.inside.seat.me.0 in let i : ℕ = c.args.cell in let r : ℕ = c.handler_look-word.result in let ne = c.if-word-eq0.false in let d = c.completion_from-completion.result in
    let m = looked_then v i r _ Idle _ false _ (Some d) _ _ _ (c.handler_look-word.ensures.busy ne) c.if-finish.ensures.finished in
    rests_on _ _ _ i r Idle _ c.self.invariant c.requires.below (c.finish.ensures.seat.0 ∙ c.handler_look-word.ensures.seat.0) m tt

pub returns-then-finish-clause-answer : goal.returns-then-finish-clause-answer
returns-then-finish-clause-answer c = let v = c.self.inside.seat.me.0 in let i : ℕ = c.args.cell in let r : ℕ = c.handler_look-word.result in let ne = c.if-word-eq0.false in let d = c.completion_from-completion.result in
    let m = looked_then v i r _ Idle _ false _ (Some d) _ _ _ (c.handler_look-word.ensures.busy ne) c.if-finish.ensures.finished in
    let may = subst (λ (s : SeatState). MayFind (handler_cell s.view i).stage r) c.self.view_is c.handler_look-word.ensures.found in
    let k : KernelState = c.args.kernel.now in let e = c.in-Some.ensures in
    finished_tells i r c.args.self.now.view _ k _ d
    (ap (λ (z : Sat). z.0) m ∙ ap (λ (s : SeatState). looked (handling s.view i Idle false (Some d)) i r) c.self.view_is) ne may
    (reaps k _ (r / 4) c.in-Some.done d e.done (e.rest ∙ ap (λ (p : List Event). record k { past = p }) e.past) c.completion_from-completion.ensures.completion)

pub invariant_of-self-2 : goal.invariant_of-self-2
invariant_of-self-2 c = let v = c.self.inside.seat.me.0 in let i : ℕ = c.args.cell in let r : ℕ = c.handler_look-word.result in let ne = c.if-word-eq0.false in let d = c.completion_from-completion.result in
    let m = looked_then v i r _ (Reclaim (r / 4)) _ false _ (Some d) _ _ _ (c.handler_look-word.ensures.busy ne) c.if-finish.ensures.finished in
    let n = looked_then v i r _ (Reclaimed (r / 4)) _ false _ _ _ _ _ m c.reclaim.ensures.reclaimed in
    rests_on _ _ _ i r (Reclaimed (r / 4)) _ c.self.invariant c.requires.below (c.reclaim.ensures.seat.0 ∙ (c.finish.ensures.seat.0 ∙ c.handler_look-word.ensures.seat.0)) n tt

pub returns-clause-answer : goal.returns-clause-answer
returns-clause-answer c = let v = c.self.inside.seat.me.0 in let i : ℕ = c.args.cell in let r : ℕ = c.handler_look-word.result in let ne = c.if-word-eq0.false in let d = c.completion_from-completion.result in
    let m = looked_then v i r _ (Reclaim (r / 4)) _ false _ (Some d) _ _ _ (c.handler_look-word.ensures.busy ne) c.if-finish.ensures.finished in
    let n = looked_then v i r _ (Reclaimed (r / 4)) _ false _ _ _ _ _ m c.reclaim.ensures.reclaimed in
    let may = subst (λ (s : SeatState). MayFind (handler_cell s.view i).stage r) c.self.view_is c.handler_look-word.ensures.found in
    let k : KernelState = c.args.kernel.now in let e = c.in-Some.ensures in
    reclaimed_tells i r c.args.self.now.view _ k _ d
    (ap (λ (z : Sat). z.0) n ∙ (ap (λ (l : Option Completion). looked (handling v i (Reclaimed (r / 4)) false l) i r) (last_is v i r _ _ _ _ _ c.requires.below c.self.invariant.handler m)
    ∙ ap (λ (s : SeatState). looked (handling s.view i (Reclaimed (r / 4)) false (Some d)) i r) c.self.view_is)) ne may
    (reaps k _ (r / 4) c.in-Some.done d e.done (e.rest ∙ ap (λ (p : List Event). record k { past = p }) e.past) c.completion_from-completion.ensures.completion)

pub returns-in_default-clause-count : goal.returns-in_default-clause-count
returns-in_default-clause-count c = let i : ℕ = c.args.cell in let r : ℕ = c.handler_look-word.result in let v = c.self.inside.seat.me.0 in
    let e = ap (λ (z : Sat). z.0) (c.handler_look-word.ensures.busy c.if-word-eq0.false) in
    subst (λ (s : SeatState). reclaimed_in c.handler_look-word.new.seat.me.0.handler ≡ reclaimed_in s.view.handler + 0) c.self.view_is
    (changed v c.handler_look-word.new.seat.me.0 i r (Working (r / 4)) _ 0 (near_of i v c.requires.below c.self.invariant.handler) (e ∙ ap (λ (b : Bool). looked (handling v i (Working (r / 4)) b (handler_cell v i).last) i r) (c.self.invariant.each i c.requires.below).0)
    c.handler_look-word.ensures.found c.if-word-eq0.false refl)

pub returns-then-finish-clause-count : goal.returns-then-finish-clause-count
returns-then-finish-clause-count c = let i : ℕ = c.args.cell in
    counts CellStep.Finished i c.args.self.now.view _ c.args.kernel.now _ (subst (λ (s : SeatState). i < length s.view.handler) c.self.view_is (near_of i c.self.inside.seat.me.0 c.requires.below c.self.invariant.handler)) (returns-then-finish-clause-answer c)

pub returns-clause-count : goal.returns-clause-count
returns-clause-count c = let i : ℕ = c.args.cell in
    counts CellStep.Reclaimed i c.args.self.now.view _ c.args.kernel.now _ (subst (λ (s : SeatState). i < length s.view.handler) c.self.view_is (near_of i c.self.inside.seat.me.0 c.requires.below c.self.invariant.handler)) (returns-clause-answer c)
