use Rattle.std.proofs.Common.{◌≡◌, ◌<◌, ◌∷◌, ◌++◌, [], ℕ, List, length, ap, ◌∙◌}
use Rattle.usb_kernel.specs.Tickets.{tickets}
use Rattle.usb_device_endpoint.specs.BusState.{BusState}
use Rattle.usb_device_endpoint.specs.EndpointState.{EndpointState, route_of}
use Rattle.usb_device_endpoint.proofs.HandleLemmas.{others_in_turn}
use Rattle.usb_device_endpoint.proofs.PollLemmas.{found-one}
use Rattle.usb_device_endpoint.proofs.WaitLemmas.{wait-vain}
use Rattle.usb_device_endpoint.proofs.BlockingLemmas.{IsFinished-cancelled}
use Rattle.usb_device_endpoint.proofs.SecondLemmas.{wait-same, seconds-same, submitted-some, transferred-found, transferred-later}
use Rattle.usb_device_endpoint.proofs.endpoint.Endpoint.transfer_blocking.Goals as goal

pub wait_finished-requires-clause-finished : goal.wait_finished-requires-clause-finished
wait_finished-requires-clause-finished g c =
    let enters = c.in_ok-submit.ensures.enters in
    let one : c.submit.new.self ≡ record c.args.self.now { pending = length (tickets (g.B.Bus.calls.state c.args.bus.now).past) ∷ [] } =
    c.in_ok-submit.ensures.pending ∙ ap (λ (ts : List ℕ). record c.args.self.now { pending = ts ++ length (tickets (g.B.Bus.calls.state c.args.bus.now).past) ∷ [] }) c.requires.none in
    let some : 0 < length c.submit.new.self.pending = submitted-some c.submit.new.self c.args.self.now _ one in
    let vain = wait-vain g.B.Bus.calls c.args.timeout c.submit.new.bus c.wait_next_complete.new.bus c.submit.new.self c.wait_next_complete.new.self some c.in_default.ensures.waited in
    let pending : c.wait_next_complete.new.self.pending ≡ length (tickets (g.B.Bus.calls.state c.args.bus.now).past) ∷ [] = ap (λ (e : EndpointState). e.pending) (vain.1 ∙ one) in
    let finished = IsFinished-cancelled (g.B.Bus.calls.state c.args.bus.now) (g.B.Bus.calls.state c.submit.new.bus) (g.B.Bus.calls.state c.wait_next_complete.new.bus) (g.B.Bus.calls.state c.cancel_all.new.bus) (route_of c.args.self.now) c.args.buf enters.refusal c.wait_next_complete.new.self.pending c.extensions_keep_tickets.ensures.ticket c.calls_extend_journals.ensures.discard c.finished_can_be_reaped.ensures.discarded enters.ticket c.wait_next_complete.ensures.goes_on.past pending (ap (λ (b : BusState). b.past) c.cancel_all.ensures.state) in
    rw (c.cancel_all.ensures.rest) finished

pub returns-in-Some-clause-transferred : goal.returns-in-Some-clause-transferred
returns-in-Some-clause-transferred g c =
    let one : c.submit.new.self ≡ record c.args.self.now { pending = length (tickets (g.B.Bus.calls.state c.args.bus.now).past) ∷ [] } =
    c.in_ok-submit.ensures.pending ∙ ap (λ (ts : List ℕ). record c.args.self.now { pending = ts ++ length (tickets (g.B.Bus.calls.state c.args.bus.now).past) ∷ [] }) c.requires.none in
    transferred-found g.B.Bus.calls c.args.timeout c.args.bus.now c.submit.new.bus _ c.args.self.now c.submit.new.self _ c.args.buf _ c.in_ok-submit.ensures.bus one c.in-Some.ensures.waited

pub returns-in-Some-clause-rest : goal.returns-in-Some-clause-rest
returns-in-Some-clause-rest g c =
    let one : c.submit.new.self ≡ record c.args.self.now { pending = length (tickets (g.B.Bus.calls.state c.args.bus.now).past) ∷ [] } =
    c.in_ok-submit.ensures.pending ∙ ap (λ (ts : List ℕ). record c.args.self.now { pending = ts ++ length (tickets (g.B.Bus.calls.state c.args.bus.now).past) ∷ [] }) c.requires.none in
    let wait = wait-same g.B.Bus.calls c.args.timeout c.submit.new.bus c.submit.new.self _ _ one c.in-Some.ensures.waited in
    found-one g.B.Bus.calls _ _ c.args.self.now _ _ _ c.requires.none wait

pub returns-clause-transferred : goal.returns-clause-transferred
returns-clause-transferred g c =
    let one : c.submit.new.self ≡ record c.args.self.now { pending = length (tickets (g.B.Bus.calls.state c.args.bus.now).past) ∷ [] } =
    c.in_ok-submit.ensures.pending ∙ ap (λ (ts : List ℕ). record c.args.self.now { pending = ts ++ length (tickets (g.B.Bus.calls.state c.args.bus.now).past) ∷ [] }) c.requires.none in
    let some : 0 < length c.submit.new.self.pending = submitted-some c.submit.new.self c.args.self.now _ one in
    let vain = wait-vain g.B.Bus.calls c.args.timeout c.submit.new.bus c.wait_next_complete.new.bus c.submit.new.self c.wait_next_complete.new.self some c.in_default.ensures.waited in
    let pending : c.wait_next_complete.new.self.pending ≡ length (tickets (g.B.Bus.calls.state c.args.bus.now).past) ∷ [] = ap (λ (e : EndpointState). e.pending) (vain.1 ∙ one) in
    let left : c.cancel_all.new.self ≡ record c.args.self.now { pending = length (tickets (g.B.Bus.calls.state c.args.bus.now).past) ∷ [] } = c.cancel_all.ensures.rest ∙ vain.1 ∙ one in
    let found = seconds-same g.B.Bus.calls c.cancel_all.new.bus c.cancel_all.new.self _ _ left c.wait_finished.ensures.found in
    let discarded = rw pending at c.cancel_all.ensures.bus in
    transferred-later g.B.Bus.calls c.args.timeout c.args.bus.now c.submit.new.bus c.wait_next_complete.new.bus c.cancel_all.new.bus _ c.args.self.now c.submit.new.self c.wait_next_complete.new.self _ c.args.buf _ c.in_ok-submit.ensures.bus one c.in_default.ensures.waited discarded found

pub returns-clause-rest : goal.returns-clause-rest
returns-clause-rest g c =
    let one : c.submit.new.self ≡ record c.args.self.now { pending = length (tickets (g.B.Bus.calls.state c.args.bus.now).past) ∷ [] } =
    c.in_ok-submit.ensures.pending ∙ ap (λ (ts : List ℕ). record c.args.self.now { pending = ts ++ length (tickets (g.B.Bus.calls.state c.args.bus.now).past) ∷ [] }) c.requires.none in
    let some : 0 < length c.submit.new.self.pending = submitted-some c.submit.new.self c.args.self.now _ one in
    let vain = wait-vain g.B.Bus.calls c.args.timeout c.submit.new.bus c.wait_next_complete.new.bus c.submit.new.self c.wait_next_complete.new.self some c.in_default.ensures.waited in
    let pending : c.wait_next_complete.new.self.pending ≡ length (tickets (g.B.Bus.calls.state c.args.bus.now).past) ∷ [] = ap (λ (e : EndpointState). e.pending) (vain.1 ∙ one) in
    let left : c.cancel_all.new.self ≡ record c.args.self.now { pending = length (tickets (g.B.Bus.calls.state c.args.bus.now).past) ∷ [] } = c.cancel_all.ensures.rest ∙ vain.1 ∙ one in
    let found = seconds-same g.B.Bus.calls c.cancel_all.new.bus c.cancel_all.new.self _ _ left c.wait_finished.ensures.found in
    found-one g.B.Bus.calls _ _ c.args.self.now _ _ _ c.requires.none found

pub returns-in-Some-clause-others : goal.returns-in-Some-clause-others
returns-in-Some-clause-others g c =
    others_in_turn _ _ _ _ c.submit.ensures.others (rw c.submit.ensures.rest at c.wait_next_complete.ensures.others)

pub returns-clause-others : goal.returns-clause-others
returns-clause-others g c =
    let after = others_in_turn _ _ _ _ c.submit.ensures.others (rw c.submit.ensures.rest at c.wait_next_complete.ensures.others) in
    let key = ap (λ (e : EndpointState). e.key) c.wait_next_complete.ensures.rest ∙ ap (λ (e : EndpointState). e.key) c.submit.ensures.rest in
    let cancelled = others_in_turn _ _ _ _ after (rw key at c.cancel_all.ensures.others) in
    others_in_turn _ _ _ _ cancelled (rw (c.cancel_all.ensures.rest, key) at c.wait_finished.ensures.others)
