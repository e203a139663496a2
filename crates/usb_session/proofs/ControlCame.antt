-- What calls of control transfers tell of what came of their tickets.
use Rattle.std.proofs.Common.{◌≡◌, ℕ, arith, ◌⊎◌, Bool, true, false, List, [], ◌∷◌, ◌++◌, map, length, slice_get, Option, Some, None, Result, inl, inr, refl, ap, sym, ◌∙◌, subst, append-nil}
use Rattle.std.specs.Prelude.{All, nat_lt, option_and_then}
use Rattle.std.specs.Option.{option_map}
use Rattle.std.proofs.lemmas.Bool.{cond_both}
use Rattle.std.proofs.lemmas.List.Elements.{All-nil, All-cons}
use Rattle.usb_xfer.specs.declared.error.TransferError.{TransferError}
use Rattle.usb_xfer.specs.declared.transfer.Completion.{Completion}
use Rattle.usb_error.specs.Outcomes.{◌>>=◌, result_map}
use Rattle.usb_kernel_devices.specs.declared.step.KernelStep.{KernelStep}
use Rattle.usb_kernel.specs.declared.event.Event.{Event}
use Rattle.usb_kernel.specs.Tickets.{tickets}
use Rattle.usb_kernel.specs.TransferCompletions.{transfer_completion}
use Rattle.usb_device_tables.specs.History.{value_at}
use Rattle.usb_device_ledger.specs.Entries.{HostTicket}
use Rattle.usb_desc.specs.Fields.{direction_of_address}
use Rattle.usb_xfer.specs.Transfers.{request_in}
use Rattle.usb_xfer.specs.declared.transfer.TransferData.{TransferData}
use Rattle.usb_device_endpoint.specs.Waits.{is_reaped}
use Rattle.usb_device_host.specs.HostState.{HostState}
use Rattle.usb_device_host.specs.Controls.{control_submission, request_started}
use Rattle.usb_kernel.specs.Timers.{deadline_after}
use Rattle.usb_device_host.specs.HostCalls.{host_left, host_calls}
use Rattle.usb_device_host.specs.TicketEnds.{host_taken, host_abandoned}
use Rattle.usb_device_host.proofs.AwaitLemmas.{awaited-finds}
use Rattle.usb_device_host.proofs.CloseLemmas.{left-tickets}
use Rattle.usb_device_host.proofs.ControlLemmas.{started-due}
use Rattle.usb_device_host.proofs.FollowLemmas.{KeepsTickets, on-same, on-rest, taken-here, GivenUp, abandoned-here}
use Rattle.usb_device_host.proofs.StartedLemmas.{adds-started, on-awaited, parts-taken}
use Rattle.usb_device.specs.Futures.{FutureState, taken_by, awaited_by, future_taken, future_awaited, future_closed, closed_by, future_answer, control_answer}
use Rattle.usb_device.specs.ControlCalls.{request_awaited, controlled, control_answered}
use Rattle.usb_device.specs.DescriptorCalls.{descriptor_request, transferred, text_of, languages_of}
use Rattle.usb_session_text.specs.Calls.{condition_line}
use Rattle.usb_session_text.specs.Controls.{pending_line, received_line, sent_line, descriptor_line, languages_line, string_line}
use Rattle.usb_session_calls.specs.Names.{named, is_free}
use Rattle.usb_session_calls.proofs.NameLemmas.{freed-free}
use Rattle.usb_script_lines.specs.declared.item.Item.{Item}
use Rattle.usb_script_lines.specs.ItemKinds.{steps_in}
use Rattle.usb_session_calls.specs.declared.call.Call.{Call}
use Rattle.usb_session_calls.specs.declared.call.Call.TheVariants.{Close, Control, Future}
use Rattle.usb_session_calls.specs.declared.call.CloseCall.TheVariants as closes
use Rattle.usb_session_calls.specs.declared.call.ControlCall.{ControlCall}
use Rattle.usb_session_calls.specs.declared.call.ControlCall.TheVariants.{In, Out, Descriptor, Languages, Text}
use Rattle.usb_session_calls.specs.declared.call.FutureCall.{FutureCall}
use Rattle.usb_session_calls.specs.declared.call.FutureCall.TheVariants.{Poll, Wait}
use Rattle.usb_session_calls.specs.State.{State, tickets_of}
use Rattle.usb_session_calls.specs.Answer.{Answer, answer_with, at_host, condition_answer, ok_answer, if_open}
use Rattle.usb_session_calls.specs.Steps.{with_steps, then_applied, along_steps, stepped_all}
use Rattle.usb_session_calls.specs.Calls.{call_of, answers_control}
use Rattle.usb_session_calls.specs.Controls.{device_of_target, bars_control, request_for, request_with, came_line, target_of, control_called, control_on, on_control}
use Rattle.usb_session.specs.Futures.{future_polled, future_waited, on_future}
use Rattle.usb_session_calls.specs.Closes.{without_future, close_future_answer}
use Rattle.usb_session.specs.Ends.{future_closed_at, future_closed_under}
use Rattle.usb_session.specs.Crowded.{bars_line}
use Rattle.usb_session.specs.CallAnswers.{call_answer}
use Rattle.usb_session.specs.Answers.{answer}
use Rattle.usb_session.specs.ControlAnswers.{ControlAnswer, told_of, listed, future_gone, answered_future, answered_by}
use Rattle.usb_session.specs.ClosedFutures.{ClosedFuture, future_closed_as, future_closed_by}
use Rattle.usb_session.proofs.OrderLemmas.{IsTaken, IsHeld, held-stays, stays-keeps, LeavesTickets, WasGiven, given-goes, taken-goes}
use Rattle.usb_session.proofs.PrintLemmas.{transfer-stays, mapped-some, not_more, one_more}
use Rattle.usb_session.proofs.Views.{view_of}
use Rattle.usb_session.proofs.Does.{Quiet, quiet-lent, quiet-stepped}
use Rattle.usb_session.proofs.EndpointLines.{some-of}
use Rattle.usb_session.proofs.StepLemmas.{Inv, step-quiet}
use Rattle.usb_session.proofs.ControlLines.{handed_in, handed-applied, gone_if, future_parted, parted_by, parted-quiet, called-controls, open-not_free, awaited-quiet}
use Rattle.usb_session.proofs.FuturesAwaited.{AllAwait, parting-same}

-- a line tells what the journal of a host has as the completion of the ticket, which was taken
pub record Came (h : HostState) (x : ControlAnswer) : Type 0 where
  pub completion : Completion
  pub came : transfer_completion h.kernel.past x.ticket ≡ Some completion
  pub told_ : x.line ≡ x.tells completion
  pub taken : IsTaken h x.ticket

pub came-on : (old new : HostState) (x : ControlAnswer) → LeavesTickets old new → Came old x → Came new x
came-on old new x goes was =
    record {
      completion = was.completion;
      came = transfer-stays old.kernel.past new.kernel.past x.ticket was.completion goes.past was.came;
      told_ = was.told_;
      taken = taken-goes (slice_get old.tickets x.ticket) (slice_get new.tickets x.ticket) (goes.tickets x.ticket) was.taken;
    }

-- what an answer tells of control transfers; where it tells of none it is one of these lines
pub record Tells (a : Answer) (xs : List ControlAnswer) : Type 0 where
  pub each : All (Came a.state.host) xs
  pub others : xs ≡ [] → (a.line ≡ condition_line) ⊎ (a.line ≡ pending_line)

tells-none : (a : Answer) (xs : List ControlAnswer) → xs ≡ [] → (a.line ≡ condition_line) ⊎ (a.line ≡ pending_line) → Tells a xs
tells-none a xs none line = record { each = subst (λ l. All (Came a.state.host) l) (sym none) (All-nil (Came a.state.host)); others = λ is. line }

tells-one : (a : Answer) (x : ControlAnswer) (xs : List ControlAnswer) → xs ≡ x ∷ [] → Came a.state.host x → Tells a xs
tells-one a x xs one came =
    record {
      each = subst (λ l. All (Came a.state.host) l) (sym one) (All-cons (Came a.state.host) x [] came (All-nil (Came a.state.host)));
      others = λ is. absurd (let wrong : x ∷ [] ≡ [] = sym one ∙ is in cc);
    }

-- the completion of a ticket that is found is taken, the endpoint left, and the steps that are left applied
left-at : (h : HostState) (key t : ℕ) → slice_get (host_left h key).tickets t ≡ slice_get h.tickets t
unfolding host_left
left-at h key t = ap (λ (ts : List HostTicket). slice_get ts t) (left-tickets h key (value_at h.endpoints key))

taken-left : (h : HostState) (t key : ℕ) → IsHeld h t → IsTaken (host_left (host_taken h t) key) t
taken-left h t key was = left-at (host_taken h t) key t ∙ taken-here h t was.hold was.is

taken-came : (h : HostState) (x : ControlAnswer) (key : ℕ) (c : Completion) → IsHeld h x.ticket → transfer_completion h.kernel.past x.ticket ≡ Some c → x.line ≡ x.tells c → Came (host_left (host_taken h x.ticket) key) x
taken-came h x key c held came line =
    let last = host_left (host_taken h x.ticket) key in
    record {
      completion = c;
      came = transfer-stays h.kernel.past last.kernel.past x.ticket c (parts-taken h x.ticket key).past came;
      told_ = line;
      taken = taken-left h x.ticket key held;
    }

came-keeps : (old new : HostState) (x : ControlAnswer) → KeepsTickets old new → Came old x → Came new x
came-keeps old new x keeps was =
    record {
      completion = was.completion;
      came = transfer-stays old.kernel.past new.kernel.past x.ticket was.completion keeps.past was.came;
      told_ = was.told_;
      taken = (stays-keeps old new x.ticket keeps).taken was.taken;
    }

-- a request is handed in, awaited and taken
module _ (h : HostState) (device : ℕ) (request : TransferData) (timeout : ℕ) (counted : length h.tickets ≡ length (tickets h.kernel.past)) where
  abbrev its : ℕ
  its = length (tickets h.kernel.past)

  abbrev begun : HostState
  begun = request_started h device request timeout

  abbrev over : HostState
  over = request_awaited h device request timeout

  over-held : IsHeld over its
  over-held =
      let adds = adds-started h (control_submission h device request timeout) in
      let first : IsHeld begun its = record { hold = adds.hold; is = ap (slice_get begun.tickets) (sym counted) ∙ adds.last } in
      held-stays begun over its (stays-keeps begun over its (on-awaited begun its (deadline_after h.kernel.clock timeout))) first

  over-found : is_reaped host_calls its over ≡ true
  over-found =
      awaited-finds its (deadline_after h.kernel.clock timeout) begun (λ none. started-due h (control_submission h device request timeout) (deadline_after h.kernel.clock timeout) refl none)

  controlled-came : (x : ControlAnswer) → x.ticket ≡ its → ((c : Completion) → control_answered h device request timeout ≡ Some (control_answer (direction_of_address request.endpoint) c) → x.line ≡ x.tells c) → Came (controlled h device request timeout) x
  controlled-came x same line =
      let found = some-of (transfer_completion over.kernel.past its) over-found in
      let c = found.0 in
      let came : transfer_completion over.kernel.past x.ticket ≡ Some c = ap (transfer_completion over.kernel.past) same ∙ found.1 in
      let answered : control_answered h device request timeout ≡ Some (control_answer (direction_of_address request.endpoint) c) = ap (option_map (control_answer (direction_of_address request.endpoint))) found.1 in
      subst (λ (t : ℕ). Came (host_left (host_taken over t) (length h.endpoints)) x) same
      (taken-came over x (length h.endpoints) c (subst (IsHeld over) (sym same) over-held) came (line c answered))

-- with the steps of its line
rest-tells : (a : Answer) (xs : List ControlAnswer) → Tells a xs → Tells (then_applied a) xs
rest-tells a xs tells = record { each = λ k d below. came-keeps a.state.host (then_applied a).state.host _ (on-rest a.state.host) (tells.each k d below); others = tells.others }

-- each control transfer that is awaited tells of its completion
called-came : (call : ControlCall) (h : HostState) (d : ℕ) → length h.tickets ≡ length (tickets h.kernel.past)
    → Came (control_called call h d).host (record { ticket = length (tickets h.kernel.past); line = (control_called call h d).line; tells = told_of call })
called-came (In target setup wanted timeout) h d counted = controlled-came h d (request_for setup wanted) timeout counted _ refl (λ c is. ap (came_line received_line) is)
called-came (Out target setup bytes timeout) h d counted = controlled-came h d (request_with setup bytes) timeout counted _ refl (λ c is. ap (came_line (λ r. sent_line (result_map (λ _. tt) r))) is)
called-came (Descriptor device kind index language timeout) h d counted =
    controlled-came h d (request_in (descriptor_request kind index language)) timeout counted _ refl (λ c is. ap (λ o. came_line descriptor_line (option_map transferred o)) is)
called-came (Languages device timeout) h d counted =
    controlled-came h d (request_in (descriptor_request 3 0 0)) timeout counted _ refl (λ c is. ap (λ o. came_line languages_line (option_map (λ r. r >>= languages_of) (option_map transferred o))) is)
called-came (Text device index language timeout) h d counted =
    controlled-came h d (request_in (descriptor_request 3 index language)) timeout counted _ refl (λ c is. ap (λ o. came_line string_line (option_map (λ r. r >>= text_of) (option_map transferred o))) is)

-- or is barred
module _ (call : ControlCall) where
  abbrev told_by : State → Answer → List ControlAnswer
  told_by state a = map (λ t. record { ticket = t; line = a.line; tells = told_of call }) (handed_in state a)

  none-told : (state : State) → Tells (condition_answer state) (told_by state (condition_answer state))
  none-told state = tells-none (condition_answer state) _ (let no_ = not_more (tickets_of state) (tickets_of state) refl in rw no_ refl) (inl refl)

  control_on-tells : (state : State) (device : ℕ) → length state.host.tickets ≡ tickets_of state → Tells (control_on call state device) (told_by state (control_on call state device))
  control_on-tells state device counted =
      let a = at_host state (control_called call state.host device) in
      cond_both (bars_control state.host.kernel.past) (condition_answer state) a (λ b. Tells b (told_by state b))
      (λ yes_. none-told state)
      (λ no_.
      let x : ControlAnswer = record { ticket = tickets_of state; line = a.line; tells = told_of call } in
      let began = (called-controls call state.host device).0 in
      let more : nat_lt (tickets_of state) (tickets_of a.state) ≡ true = one_more (tickets_of state) (tickets_of a.state) (omega (arith, began.past)) in
      tells-one a x (told_by state a) (rw more refl) (called-came call state.host device counted))

  on_control-tells : (state : State) → length state.host.tickets ≡ tickets_of state → Tells (on_control state call) (told_by state (on_control state call))
  unfolding on_control
  on_control-tells state counted = by (device_of_target state (target_of call))
    where
      by : (o : Option ℕ) → Tells (if_open o (control_on call state) (condition_answer state)) (told_by state (if_open o (control_on call state) (condition_answer state)))
      by None = none-told state
      by (Some device) = control_on-tells state device counted

  control-tells : (state : State) (steps : List KernelStep) → length state.host.tickets ≡ tickets_of state
      → Tells (along_steps state steps (λ s. on_control s call)) (told_by state (along_steps state steps (λ s. on_control s call)))
  control-tells state steps counted =
      let now = with_steps state steps in
      let a = on_control now call in
      subst (λ ts. Tells (then_applied a) (map (λ t. record { ticket = t; line = a.line; tells = told_of call }) ts)) (sym (handed-applied state a))
      (rest-tells a (told_by now a) (on_control-tells now counted))

-- a future that gave its answer
module _ (state : State) (n : ℕ) (f : FutureState) (a : Answer) (mid : HostState) (t : ℕ) (c : Completion) (has : f.ticket ≡ Some t) where
  future-tells : is_free a.state.futures n ≡ true → IsHeld mid t → transfer_completion mid.kernel.past t ≡ Some c → a.line ≡ received_line (control_answer f.direction c) → KeepsTickets (future_taken mid f) a.state.host
      → Tells a (answered_future a.line (gone_if (is_free a.state.futures n) (Some f)))
  future-tells free held came line keeps =
      let x : ControlAnswer = record { ticket = t; line = a.line; tells = λ c. received_line (control_answer f.direction c) } in
      tells-one a x (answered_future a.line (gone_if (is_free a.state.futures n) (Some f))) (rw (free, has) refl)
      (came-keeps (future_taken mid f) a.state.host x keeps (subst (λ (o : Option ℕ). Came (taken_by mid f.key o) x) (sym has) (taken-came mid x f.key c held came line)))

answered-none : (line : List ℕ) (free : Bool) → answered_future line (gone_if free None) ≡ []
answered-none line true = refl
answered-none line false = refl

answer-with : (h : HostState) (f : FutureState) (t : ℕ) → f.ticket ≡ Some t → future_answer h f ≡ option_map (control_answer f.direction) (transfer_completion h.kernel.past t)
answer-with h f t has = ap (λ o. option_map (control_answer f.direction) (option_and_then (transfer_completion h.kernel.past) o)) has

-- it is polled, or awaited
abbrev future_told : State → ℕ → Option FutureState → Answer → List ControlAnswer
future_told state n o a = answered_future a.line (gone_if (is_free a.state.futures n) o)

future_polled-tells : (state : State) (n : ℕ) (f : FutureState) (o : Option (Result (List ℕ) TransferError)) → Inv (view_of state) → AllAwait (view_of state) → named state.futures n ≡ Some f → future_answer state.host f ≡ o
    → Tells (future_polled state n f o) (future_told state n (Some f) (future_polled state n f o))
future_polled-tells state n f None inv all here none =
    tells-none (answer_with state pending_line) _ (rw (open-not_free state.futures n f here) refl) (inr refl)
future_polled-tells state n f (Some r) inv all here some =
    let awaits = all n f here in
    let t = awaits.ticket in
    let d = mapped-some (control_answer f.direction) (transfer_completion state.host.kernel.past t) r (sym (answer-with state.host f t awaits.is) ∙ some) in
    future-tells state n f (future_polled state n f (Some r)) state.host t d.0 awaits.is (freed-free state.futures n f here) (inv.waits n f t here awaits.is) d.1 (ap received_line (sym d.2)) (on-same (future_taken state.host f))

future_waited-tells : (state : State) (n : ℕ) (f : FutureState) → Inv (view_of state) → AllAwait (view_of state) → named state.futures n ≡ Some f → Tells (future_waited state n f) (future_told state n (Some f) (future_waited state n f))
future_waited-tells state n f inv all here =
    let awaits = all n f here in
    let t = awaits.ticket in
    let mid = future_awaited state.host f in
    let held : IsHeld mid t = held-stays state.host mid t (stays-keeps state.host mid t (awaited-quiet state f.deadline f.ticket).keeps) (inv.waits n f t here awaits.is) in
    let found : is_reaped host_calls t mid ≡ true = subst (λ (o : Option ℕ). is_reaped host_calls t (awaited_by state.host f.deadline o) ≡ true) (sym awaits.is) (awaited-finds t f.deadline state.host awaits.due) in
    let came = some-of (transfer_completion mid.kernel.past t) found in
    let line : came_line received_line (future_answer mid f) ≡ received_line (control_answer f.direction came.0) = ap (came_line received_line) (answer-with mid f t awaits.is ∙ ap (option_map (control_answer f.direction)) came.1) in
    future-tells state n f (future_waited state n f) mid t came.0 awaits.is (freed-free state.futures n f here) held came.1 line (on-same (future_taken mid f))

named-tells : (state : State) (n : ℕ) (call : FutureState → Answer) → ((f : FutureState) → named state.futures n ≡ Some f → Tells (call f) (future_told state n (Some f) (call f)))
    → Tells (if_open (named state.futures n) call (condition_answer state)) (future_told state n (named state.futures n) (if_open (named state.futures n) call (condition_answer state)))
named-tells state n call tells = by (named state.futures n) refl
  where
    by : (o : Option FutureState) → named state.futures n ≡ o → Tells (if_open o call (condition_answer state)) (future_told state n o (if_open o call (condition_answer state)))
    by None here = tells-none (condition_answer state) _ (answered-none condition_line (is_free state.futures n)) (inl refl)
    by (Some f) here = tells f here

on_future-tells : (state : State) (n : ℕ) (call : FutureCall) → Inv (view_of state) → AllAwait (view_of state) → Tells (on_future state n call) (future_told state n (named state.futures n) (on_future state n call))
unfolding on_future
on_future-tells state n Poll inv all =
    named-tells state n (λ f. future_polled state n f (future_answer state.host f)) (λ f here. future_polled-tells state n f (future_answer state.host f) inv all here refl)
on_future-tells state n (Wait steps) inv all =
    let now = with_steps state steps in
    let over = quiet-lent state steps in
    rest-tells (if_open (named now.futures n) (future_waited now n) (condition_answer now)) _
    (named-tells now n (future_waited now n) (λ f here. future_waited-tells now n f (step-quiet inv over).inv (parting-same (view_of state) (view_of now) over.futures over.keeps.past all).awaits here))

-- a future is closed
abbrev pub Gave : HostState → ClosedFuture → Type 0
Gave h x = WasGiven x.past x.ticket (slice_get h.tickets x.ticket)

pub gave-on : (old new : HostState) (xs : List ClosedFuture) → LeavesTickets old new → All (Gave old) xs → All (Gave new) xs
gave-on old new xs goes all k d below = given-goes _ _ _ _ (goes.tickets _) (all k d below)

closed-gives : (h : HostState) (f : FutureState) → ((t : ℕ) → f.ticket ≡ Some t → IsHeld h t) → All (Gave (future_closed h f)) (future_closed_as h.kernel.past (Some f))
closed-gives h f held = by f.ticket held
  where
    by : (o : Option ℕ) → ((t : ℕ) → o ≡ Some t → IsHeld h t) → All (Gave (closed_by h f.key o)) (map (λ t. record { ticket = t; past = h.kernel.past }) (listed o))
    by None held = All-nil (Gave h)
    by (Some t) held =
        let was = held t refl in
        let last = host_left (host_abandoned h t) f.key in
        All-cons (Gave last) (record { ticket = t; past = h.kernel.past }) []
        (inl (subst (GivenUp h.kernel.past t) (sym (left-at (host_abandoned h t) f.key t)) (abandoned-here h t was.hold was.is))) (All-nil (Gave last))

gave-none : (h : HostState) (past : List Event) (free : Bool) → All (Gave h) (future_closed_as past (gone_if free None))
gave-none h past true = All-nil (Gave h)
gave-none h past false = All-nil (Gave h)

abbrev future_left : State → ℕ → Option FutureState → State
future_left state n o = (if_open o (λ f. ok_answer (without_future state n f)) (condition_answer state)).state

close-gives : (state : State) (n : ℕ) → Inv (view_of state)
    → All (Gave (close_future_answer state n).state.host) (future_closed_as state.host.kernel.past (gone_if (is_free (close_future_answer state n).state.futures n) (named state.futures n)))
unfolding close_future_answer
close-gives state n inv = by (named state.futures n) refl
  where
    by : (o : Option FutureState) → named state.futures n ≡ o → All (Gave (future_left state n o).host) (future_closed_as state.host.kernel.past (gone_if (is_free (future_left state n o).futures n) o))
    by None here = gave-none state.host state.host.kernel.past (is_free state.futures n)
    by (Some f) here = rw (freed-free state.futures n f here) (closed-gives state.host f (λ t is. inv.waits n f t here is))

-- at the end of the session
closed_at-gives : (state : State) (n : ℕ) (o : Option FutureState) → named state.futures n ≡ o → Inv (view_of state) → All (Gave (future_closed_at state n o).host) (future_closed_as state.host.kernel.past o)
closed_at-gives state n None here inv = All-nil (Gave state.host)
closed_at-gives state n (Some f) here inv = closed-gives state.host f (λ t is. inv.waits n f t here is)

pub closed_under-gives : (state : State) (n : ℕ) → Inv (view_of state) → All (Gave (future_closed_under state n).host) (future_closed_as state.host.kernel.past (named state.futures n))
unfolding future_closed_under
closed_under-gives state n inv = closed_at-gives state n (named state.futures n) refl inv

-- the host parts with the tickets of both
abbrev pub tickets_told : List ControlAnswer → List ℕ
tickets_told xs = map (λ (x : ControlAnswer). x.ticket) xs

abbrev pub tickets_closed : List ClosedFuture → List ℕ
tickets_closed xs = map (λ (x : ClosedFuture). x.ticket) xs

told-back : (line : List ℕ) (tells : Completion → List ℕ) (ts : List ℕ) → tickets_told (map (λ t. record { ticket = t; line = line; tells = tells }) ts) ≡ ts
told-back line tells [] = refl
told-back line tells (t ∷ ts) = ap (λ us. t ∷ us) (told-back line tells ts)

closed-back : (past : List Event) (ts : List ℕ) → tickets_closed (map (λ t. record { ticket = t; past = past }) ts) ≡ ts
closed-back past [] = refl
closed-back past (t ∷ ts) = ap (λ us. t ∷ us) (closed-back past ts)

future-told : (line : List ℕ) (o : Option FutureState) → tickets_told (answered_future line o) ≡ future_parted o
future-told line None = refl
future-told line (Some f) = told-back line (λ c. received_line (control_answer f.direction c)) (listed f.ticket)

pub future-given : (past : List Event) (o : Option FutureState) → tickets_closed (future_closed_as past o) ≡ future_parted o
future-given past None = refl
future-given past (Some f) = closed-back past (listed f.ticket)

-- the host parts with the tickets that a call answers or gives up
abbrev pub both_by : State → Call → Answer → List ℕ
both_by state call a = tickets_told (answered_by state call a) ++ tickets_closed (future_closed_by state call a)

pub both-parted : (state : State) (call : Call) (a : Answer) → both_by state call a ≡ parted_by state call a
both-parted state (Control call steps) a = append-nil _ ∙ told-back a.line (told_of call) (handed_in state a)
both-parted state (Future n call) a = append-nil _ ∙ future-told a.line (future_gone state a.state n)
both-parted state (Close (closes.Future n)) a = future-given state.host.kernel.past (future_gone state a.state n)
both-parted state call a = refl

-- what the answer of a call tells of control transfers, and what it gives up
call-tells : (state : State) (call : Call) → Inv (view_of state) → AllAwait (view_of state) → answers_control call ≡ true → Tells (call_answer state call) (answered_by state call (call_answer state call))
unfolding call_answer
call-tells state (Control call steps) inv all is = control-tells call state steps inv.count
call-tells state (Future n call) inv all is = on_future-tells state n call inv all
call-tells state call inv all is = absurd (cc)

call-came : (state : State) (call : Call) → Inv (view_of state) → AllAwait (view_of state) → All (Came (call_answer state call).state.host) (answered_by state call (call_answer state call))
call-came state (Control call steps) inv all = (call-tells state (Control call steps) inv all refl).each
call-came state (Future n call) inv all = (call-tells state (Future n call) inv all refl).each
call-came state call inv all = All-nil (Came (call_answer state call).state.host)

call-gives : (state : State) (call : Call) → Inv (view_of state) → All (Gave (call_answer state call).state.host) (future_closed_by state call (call_answer state call))
unfolding call_answer
call-gives state (Close (closes.Future n)) inv = close-gives state n inv
call-gives state call inv = All-nil (Gave (call_answer state call).state.host)

-- where it only goes on it answers none, and gives up none
none-mapped : {X Y : Type 0} (f : X → Y) (xs : List X) → map f xs ≡ [] → xs ≡ []
none-mapped f [] none = refl
none-mapped f (x ∷ xs) none = absurd (cc)

none-first : {X : Type 0} (xs ys : List X) → xs ++ ys ≡ [] → xs ≡ []
none-first [] ys none = refl
none-first (x ∷ xs) ys none = absurd (cc)

none-second : {X : Type 0} (xs ys : List X) → xs ++ ys ≡ [] → ys ≡ []
none-second [] ys none = none
none-second (x ∷ xs) ys none = absurd (cc)

quiet-none : (state : State) (call : Call) (a : Answer) → Quiet (view_of state) (view_of a.state) → both_by state call a ≡ []
quiet-none state call a quiet = both-parted state call a ∙ parted-quiet state call a quiet

quiet-answers : (state : State) (call : Call) (a : Answer) → Quiet (view_of state) (view_of a.state) → answered_by state call a ≡ []
quiet-answers state call a quiet =
    none-mapped (λ (x : ControlAnswer). x.ticket) (answered_by state call a) (none-first (tickets_told (answered_by state call a)) (tickets_closed (future_closed_by state call a)) (quiet-none state call a quiet))

quiet-gives : (state : State) (call : Call) (a : Answer) → Quiet (view_of state) (view_of a.state) → future_closed_by state call a ≡ []
quiet-gives state call a quiet =
    none-mapped (λ (x : ClosedFuture). x.ticket) (future_closed_by state call a) (none-second (tickets_told (answered_by state call a)) (tickets_closed (future_closed_by state call a)) (quiet-none state call a quiet))

-- so also where the session is crowded
module _ (state : State) (line : Item) (inv : Inv (view_of state)) where
  abbrev its_call : Call
  its_call = call_of line

  abbrev crowded : Answer
  crowded = condition_answer (stepped_all state (steps_in line))

  over-crowd : Quiet (view_of state) (view_of crowded.state)
  over-crowd = quiet-stepped state (steps_in line)

  by-crowd : (P : Answer → Type 0) → P crowded → P (call_answer state its_call) → P (answer state line)
  unfolding answer
  by-crowd P barred called = cond_both (bars_line state line) crowded (call_answer state its_call) P (λ yes_. barred) (λ no_. called)

  pub answer-tells : AllAwait (view_of state) → answers_control its_call ≡ true → Tells (answer state line) (answered_by state its_call (answer state line))
  answer-tells all is =
      by-crowd (λ a. Tells a (answered_by state its_call a)) (tells-none crowded (answered_by state its_call crowded) (quiet-answers state its_call crowded over-crowd) (inl refl)) (call-tells state its_call inv all is)

  pub answer-came : AllAwait (view_of state) → All (Came (answer state line).state.host) (answered_by state its_call (answer state line))
  answer-came all =
      by-crowd (λ a. All (Came a.state.host) (answered_by state its_call a))
      (subst (λ xs. All (Came crowded.state.host) xs) (sym (quiet-answers state its_call crowded over-crowd)) (All-nil (Came crowded.state.host))) (call-came state its_call inv all)

  pub answer-gives : All (Gave (answer state line).state.host) (future_closed_by state its_call (answer state line))
  answer-gives =
      by-crowd (λ a. All (Gave a.state.host) (future_closed_by state its_call a))
      (subst (λ xs. All (Gave crowded.state.host) xs) (sym (quiet-gives state its_call crowded over-crowd)) (All-nil (Gave crowded.state.host))) (call-gives state its_call inv)
