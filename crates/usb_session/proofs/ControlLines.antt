-- What control transfers do, and the calls on those that are on their way.
use Rattle.std.proofs.Common.{◌≡◌, ℕ, arith, true, false, Bool, List, [], ◌∷◌, ◌++◌, map, length, Option, Some, None, Result, Ok, Err, refl, ap, sym, ◌∙◌, subst, inl, inr, append-nil}
use Rattle.std.specs.Prelude.{nat_lt, ◌&&◌, if◌then◌else◌}
use Rattle.std.proofs.lemmas.Bool.{cond_both, cases_Bool}
use Rattle.std.proofs.lemmas.Option.{none-some}
use Rattle.usb_xfer.specs.declared.error.TransferError.{TransferError}
use Rattle.usb_kernel_devices.specs.declared.step.KernelStep.{KernelStep}
use Rattle.usb_error.specs.Outcomes.{result_map}
use Rattle.usb_error.specs.declared.descriptor_error.GetDescriptorError.{GetDescriptorError}
use Rattle.usb_error.specs.declared.descriptor_error.GetDescriptorError.TheVariants.{Transfer, InvalidDescriptor}
use Rattle.usb_xfer.specs.declared.transfer.TransferData.{TransferData}
use Rattle.usb_device_host.specs.HostState.{HostState}
use Rattle.usb_xfer.specs.Transfers.{request_in}
use Rattle.usb_kernel.specs.Timers.{deadline_after}
use Rattle.usb_device_host.specs.Controls.{control_submission}
use Rattle.usb_device_host.proofs.CountLemmas.{KeepsCount, CountsOneMore, count-trans, rest-count}
use Rattle.usb_device_host.proofs.StartedLemmas.{Parts, AddsTaken, parts-none, parts-taken, parts-abandoned, started-count, controlled-count, controlled-adds, on-awaited, awaited-count}
use Rattle.usb_device.specs.Futures.{FutureState, taken_by, closed_by, awaited_by, future_taken, future_closed, future_awaited, future_answer}
use Rattle.usb_device.specs.ControlCalls.{controlled, control_answered}
use Rattle.usb_device.specs.DescriptorCalls.{descriptor_request, descriptor_answered, languages_answered, text_answered}
use Rattle.usb_script_words.specs.declared.control.ControlTarget.{ControlTarget}
use Rattle.usb_session_text.specs.Calls.{ok_line}
use Rattle.usb_session_text.specs.Controls.{pending_line, data_line, failed_line, descriptor_failed_line, received_line, sent_line, descriptor_line, languages_told, languages_line, string_told, string_line}
use Rattle.usb_session_calls.specs.Names.{named, is_free}
use Rattle.usb_session_calls.proofs.NameLemmas.{named_of, free_place, freed-free}
use Rattle.usb_session_calls.specs.declared.call.Call.{Call}
use Rattle.usb_session_calls.specs.declared.call.Call.TheVariants.{Close, Control, Future}
use Rattle.usb_session_calls.specs.declared.call.CloseCall.TheVariants as closes
use Rattle.usb_session_calls.specs.declared.call.ControlCall.{ControlCall}
use Rattle.usb_session_calls.specs.declared.call.ControlCall.TheVariants.{In, Out, Descriptor, Languages, Text}
use Rattle.usb_session_calls.specs.declared.call.FutureCall.{FutureCall}
use Rattle.usb_session_calls.specs.declared.call.FutureCall.TheVariants.{Poll, Wait}
use Rattle.usb_session_calls.specs.State.{State, tickets_of, with_host}
use Rattle.usb_session_calls.specs.Answer.{Answer, answer_with, at_host, condition_answer, ok_answer, silent, if_open}
use Rattle.usb_session_calls.specs.Calls.{is_of_control}
use Rattle.usb_session.specs.Served.{control_ticket_by}
use Rattle.usb_session.specs.ControlAnswers.{listed, future_gone}
use Rattle.usb_session_calls.specs.Controls.{device_of_target, bars_control, request_for, request_with, came_line, target_of, control_called, control_on, on_control}
use Rattle.usb_session.specs.Futures.{with_future, start_on, start_answer, future_polled, future_waited, on_future}
use Rattle.usb_session_calls.specs.Closes.{without_future, close_future_answer}
use Rattle.usb_session.specs.Ends.{future_closed_at, future_closed_under}
use Rattle.usb_session_calls.specs.Steps.{with_steps, then_applied, along_steps}
use Rattle.usb_session.proofs.PrintLemmas.{not_more, one_more}
use Rattle.usb_session.proofs.Views.{view_of}
use Rattle.usb_session.proofs.Does.{Quiet, ControlMove, Handed, Parted, Acts, CountsAlike, says_done, goes, starts, controls, frees, ends, quiet-same, told-does, ok-does, along-does}

-- the ticket of a control transfer that an answer hands in, if it does
abbrev pub handed_in : State → Answer → List ℕ
handed_in state a = if nat_lt (tickets_of state) (tickets_of a.state) then tickets_of state ∷ [] else []

-- the tickets of control transfers that the answer of a call parts with
abbrev pub future_parted : Option FutureState → List ℕ
future_parted None = []
future_parted (Some f) = listed f.ticket

abbrev pub parted_by : State → Call → Answer → List ℕ
parted_by state (Control call steps) a = control_ticket_by state (Control call steps) a
parted_by state (Future n call) a = future_parted (future_gone state a.state n)
parted_by state (Close (closes.Future n)) a = future_parted (future_gone state a.state n)
parted_by state call a = []

-- what becomes of control transfers in the answer of a call
abbrev pub control_moves : State → Call → Answer → List ControlMove
control_moves state call a = map Handed (control_ticket_by state call a) ++ map Parted (parted_by state call a)

-- what the answer of such a call does: it closes no endpoint, and parts with these tickets
abbrev DoesParting : State → Answer → (List ℕ → List ℕ) → Type 0
DoesParting state a parted = Acts a (view_of state) [] (map Handed (handed_in state a) ++ map Parted (parted (handed_in state a)))

-- it parts with the ticket that it hands in, with none, or with that of a future
abbrev DoesControl : State → Answer → Type 0
DoesControl state a = DoesParting state a (λ ts. ts)

abbrev DoesStart : State → Answer → Type 0
DoesStart state a = DoesParting state a (λ ts. [])

abbrev pub gone_if : Bool → Option FutureState → Option FutureState
gone_if free o = if free then o else None

abbrev DoesFuture : State → ℕ → Option FutureState → Answer → Type 0
DoesFuture state n o a = DoesParting state a (λ ts. future_parted (gone_if (is_free a.state.futures n) o))

handed-none : (state : State) (a : Answer) → KeepsCount state.host a.state.host → handed_in state a ≡ []
handed-none state a keeps = let no_ = not_more (tickets_of state) (tickets_of a.state) keeps.past in rw no_ refl

handed-one : (state : State) (a : Answer) → CountsOneMore state.host a.state.host → handed_in state a ≡ tickets_of state ∷ []
handed-one state a more = let yes_ = one_more (tickets_of state) (tickets_of a.state) (omega (arith, more.past)) in rw yes_ refl

hands : (state : State) (a : Answer) (ts : List ℕ) (parted : List ℕ → List ℕ) → handed_in state a ≡ ts → Acts a (view_of state) [] (map Handed ts ++ map Parted (parted ts)) → DoesParting state a parted
hands state a ts parted is does = subst (λ us. Acts a (view_of state) [] (map Handed us ++ map Parted (parted us))) (sym is) does

-- it hands in none, and parts with none
hands-none : (state : State) (a : Answer) (parted : List ℕ → List ℕ) → parted [] ≡ [] → KeepsCount state.host a.state.host → Acts a (view_of state) [] [] → DoesParting state a parted
hands-none state a parted none keeps does =
    hands state a [] parted (handed-none state a keeps) (subst (λ us. Acts a (view_of state) [] (map Parted us)) (sym none) does)

hands-quiet : (state : State) (a : Answer) (parted : List ℕ → List ℕ) → parted [] ≡ [] → says_done a.line ≡ false → Quiet (view_of state) (view_of a.state) → DoesParting state a parted
hands-quiet state a parted none other quiet = hands-none state a parted none quiet.count (ends other quiet)

barred-hands : (state : State) (parted : List ℕ → List ℕ) → parted [] ≡ [] → DoesParting state (condition_answer state) parted
barred-hands state parted none = hands-quiet state (condition_answer state) parted none refl (quiet-same state)

-- with the steps of its line
pub handed-applied : (state : State) (a : Answer) → handed_in state (then_applied a) ≡ handed_in state a
handed-applied state a = ap (λ n. if nat_lt (tickets_of state) n then tickets_of state ∷ [] else []) (rest-count a.state.host).past

along-hands : (state : State) (steps : List KernelStep) (call : State → Answer) (parted : List ℕ → List ℕ) → DoesParting (with_steps state steps) (call (with_steps state steps)) parted → DoesParting state (along_steps state steps call) parted
along-hands state steps call parted does =
    let a = call (with_steps state steps) in
    hands state (then_applied a) (handed_in state a) parted (handed-applied state a) (along-does state steps call does)

-- a future whose name is open still is not gone, and none is where none was
gone-none : (free : Bool) → future_parted (gone_if free None) ≡ []
gone-none true = refl
gone-none false = refl

pub open-not_free : {X : Type 0} (names : List (Option X)) (n : ℕ) (x : X) → named names n ≡ Some x → is_free names n ≡ false
open-not_free names n x here =
    elim (cases_Bool (is_free names n)) [
      | inl free ↦ absurd (none-some x (sym (named_of names n None (free_place names n free)) ∙ here))
      | inr open_ ↦ open_
    ]

gone-open : (names : List (Option FutureState)) (n : ℕ) (f : FutureState) → named names n ≡ Some f → future_parted (gone_if (is_free names n) (Some f)) ≡ []
gone-open names n f here = rw (open-not_free names n f here) refl

-- where the host only went on nothing is handed in, and nothing parted with
gone-kept : (old new : List (Option FutureState)) (n : ℕ) → new ≡ old → future_parted (gone_if (is_free new n) (named old n)) ≡ []
gone-kept old new n same = by (named old n) refl
  where
    by : (o : Option FutureState) → named old n ≡ o → future_parted (gone_if (is_free new n) o) ≡ []
    by None here = gone-none (is_free new n)
    by (Some f) here = gone-open new n f (ap (λ (l : List (Option FutureState)). named l n) same ∙ here)

ticket-none : (state : State) (call : Call) (a : Answer) → KeepsCount state.host a.state.host → control_ticket_by state call a ≡ []
ticket-none state call a keeps = by (is_of_control call)
  where
    by : (b : Bool) → (if b && nat_lt (tickets_of state) (tickets_of a.state) then tickets_of state ∷ [] else []) ≡ []
    by true = handed-none state a keeps
    by false = refl

pub parted-quiet : (state : State) (call : Call) (a : Answer) → Quiet (view_of state) (view_of a.state) → parted_by state call a ≡ []
parted-quiet state (Control call steps) a quiet = handed-none state a quiet.count
parted-quiet state (Future n call) a quiet = gone-kept state.futures a.state.futures n quiet.futures
parted-quiet state (Close (closes.Future n)) a quiet = gone-kept state.futures a.state.futures n quiet.futures
parted-quiet state call a quiet = refl

pub moves-quiet : (state : State) (call : Call) (a : Answer) → Quiet (view_of state) (view_of a.state) → control_moves state call a ≡ []
moves-quiet state call a quiet =
    ap (λ ts. map Handed ts ++ map Parted (parted_by state call a)) (ticket-none state call a quiet.count) ∙ ap (map Parted) (parted-quiet state call a quiet)

-- where its name is free behind the line it is gone
hands-future : (state : State) (n : ℕ) (f : FutureState) (a : Answer) → is_free a.state.futures n ≡ true → KeepsCount state.host a.state.host → Acts a (view_of state) [] (map Parted (listed f.ticket) ++ []) → DoesParting state a (λ ts. future_parted (gone_if (is_free a.state.futures n) (Some f)))
hands-future state n f a free keeps does =
    let gone : future_parted (gone_if (is_free a.state.futures n) (Some f)) ≡ listed f.ticket = rw free refl in
    hands state a [] (λ ts. future_parted (gone_if (is_free a.state.futures n) (Some f))) (handed-none state a keeps)
    (subst (λ us. Acts a (view_of state) [] (map Parted us)) (sym gone) (subst (λ ms. Acts a (view_of state) [] ms) (append-nil (map Parted (listed f.ticket))) does))

-- no line of a control transfer is one of a completion
failed-other : (error : TransferError) → says_done (failed_line error) ≡ false
unfolding failed_line
failed-other error = refl

descriptor_failed-other : (error : GetDescriptorError) → says_done (descriptor_failed_line error) ≡ false
descriptor_failed-other (Transfer error) = failed-other error
descriptor_failed-other InvalidDescriptor = refl

received-other : (r : Result (List ℕ) TransferError) → says_done (received_line r) ≡ false
unfolding data_line
received-other (Ok bytes) = refl
received-other (Err error) = failed-other error

sent-other : (r : Result (Unit {0}) TransferError) → says_done (sent_line r) ≡ false
sent-other (Ok done) = refl
sent-other (Err error) = failed-other error

descriptor-other : (r : Result (List ℕ) GetDescriptorError) → says_done (descriptor_line r) ≡ false
unfolding data_line
descriptor-other (Ok bytes) = refl
descriptor-other (Err error) = descriptor_failed-other error

languages-other : (r : Result (List ℕ) GetDescriptorError) → says_done (languages_line r) ≡ false
unfolding languages_told
languages-other (Ok languages) = refl
languages-other (Err error) = descriptor_failed-other error

string-other : (r : Result (List ℕ) GetDescriptorError) → says_done (string_line r) ≡ false
unfolding string_told
string-other (Ok text) = refl
string-other (Err error) = descriptor_failed-other error

came-other : {A : Type 0} (line : A → List ℕ) (came : Option A) → ((r : A) → says_done (line r) ≡ false) → says_done (came_line line came) ≡ false
came-other line None other = refl
came-other line (Some r) other = other r

-- a request is handed in, awaited and taken, within one line
abbrev Controls : HostState → HostState → Type 0
Controls old new = CountsOneMore old new × (CountsAlike old → AddsTaken old new)

controlled-controls : (h : HostState) (d : ℕ) (request : TransferData) (timeout : ℕ) → Controls h (controlled h d request timeout)
controlled-controls h d request timeout =
    let s = control_submission h d request timeout in
    let until = deadline_after h.kernel.clock timeout in
    (controlled-count h s until (length h.endpoints), controlled-adds h s until (length h.endpoints))

pub called-controls : (call : ControlCall) (h : HostState) (d : ℕ) → Controls h (control_called call h d).host
called-controls (In target setup wanted timeout) h d = controlled-controls h d (request_for setup wanted) timeout
called-controls (Out target setup bytes timeout) h d = controlled-controls h d (request_with setup bytes) timeout
called-controls (Descriptor device kind index language timeout) h d = controlled-controls h d (request_in (descriptor_request kind index language)) timeout
called-controls (Languages device timeout) h d = controlled-controls h d (request_in (descriptor_request 3 0 0)) timeout
called-controls (Text device index language timeout) h d = controlled-controls h d (request_in (descriptor_request 3 index language)) timeout

called-other : (call : ControlCall) (h : HostState) (d : ℕ) → says_done (control_called call h d).line ≡ false
called-other (In target setup wanted timeout) h d = came-other received_line (control_answered h d (request_for setup wanted) timeout) received-other
called-other (Out target setup bytes timeout) h d = came-other _ (control_answered h d (request_with setup bytes) timeout) (λ r. sent-other (result_map (λ _. tt) r))
called-other (Descriptor device kind index language timeout) h d = came-other descriptor_line (descriptor_answered h d (descriptor_request kind index language) timeout) descriptor-other
called-other (Languages device timeout) h d = came-other languages_line (languages_answered h d (descriptor_request 3 0 0) timeout) languages-other
called-other (Text device index language timeout) h d = came-other string_line (text_answered h d (descriptor_request 3 index language) timeout) string-other

control_on-does : (state : State) (call : ControlCall) (device : ℕ) → DoesControl state (control_on call state device)
control_on-does state call device =
    let after = control_called call state.host device in
    let done = at_host state after in
    let both = called-controls call state.host device in
    cond_both (bars_control state.host.kernel.past) (condition_answer state) done (DoesControl state)
    (λ yes_. barred-hands state (λ ts. ts) refl)
    (λ no_. hands state done (tickets_of state ∷ []) (λ ts. ts) (handed-one state done both.0)
    (controls after.host both.0 both.1 (told-does done.state after.line (called-other call state.host device))))

on_control-does : (state : State) (call : ControlCall) → DoesControl state (on_control state call)
unfolding on_control
on_control-does state call = by (device_of_target state (target_of call))
  where
    by : (o : Option ℕ) → DoesControl state (if_open o (control_on call state) (condition_answer state))
    by None = barred-hands state (λ ts. ts) refl
    by (Some device) = control_on-does state call device

pub control-does : (state : State) (call : ControlCall) (steps : List KernelStep) → DoesControl state (along_steps state steps (λ s. on_control s call))
control-does state call steps = along-hands state steps (λ s. on_control s call) (λ ts. ts) (on_control-does (with_steps state steps) call)

-- a request is handed in, and its future is open under a name
start_on-does : (state : State) (n : ℕ) (request : TransferData) (timeout device : ℕ) → is_free state.futures n ≡ true → DoesStart state (start_on state n request timeout device)
start_on-does state n request timeout device free =
    cond_both (bars_control state.host.kernel.past) (condition_answer state) (ok_answer (with_future state n request timeout device)) (DoesStart state)
    (λ yes_. barred-hands state (λ ts. []) refl)
    (λ no_. hands state (ok_answer (with_future state n request timeout device)) (tickets_of state ∷ []) (λ ts. []) (handed-one state (ok_answer (with_future state n request timeout device)) (started-count state.host (control_submission state.host device request timeout)))
    (starts n request timeout device free (ok-does (with_future state n request timeout device))))

pub start-does : (state : State) (n : ℕ) (target : ControlTarget) (request : TransferData) (timeout : ℕ) → DoesStart state (start_answer state n target request timeout)
unfolding start_answer
start-does state n target request timeout = by (device_of_target state target)
  where
    by : (o : Option ℕ) → DoesStart state (if_open o (λ device. if is_free state.futures n then start_on state n request timeout device else condition_answer state) (condition_answer state))
    by None = barred-hands state (λ ts. []) refl
    by (Some device) =
        cond_both (is_free state.futures n) (start_on state n request timeout device) (condition_answer state) (DoesStart state)
        (λ free. start_on-does state n request timeout device free) (λ no_. barred-hands state (λ ts. []) refl)

-- the host parts with the ticket of a future
parts-future_taken : (h : HostState) (key : ℕ) (ticket : Option ℕ) → Parts h (taken_by h key ticket) ticket
parts-future_taken h key None = parts-none h
parts-future_taken h key (Some t) = parts-taken h t key

parts-future_closed : (h : HostState) (key : ℕ) (ticket : Option ℕ) → Parts h (closed_by h key ticket) ticket
parts-future_closed h key None = parts-none h
parts-future_closed h key (Some t) = parts-abandoned h t key

-- it is polled
future_polled-does : (state : State) (n : ℕ) (f : FutureState) (o : Option (Result (List ℕ) TransferError)) → named state.futures n ≡ Some f → DoesFuture state n (Some f) (future_polled state n f o)
future_polled-does state n f None here =
    hands-quiet state (answer_with state pending_line) (λ ts. future_parted (gone_if (is_free state.futures n) (Some f))) (gone-open state.futures n f here) refl (quiet-same state)
future_polled-does state n f (Some r) here =
    let parts = parts-future_taken state.host f.key f.ticket in
    hands-future state n f (future_polled state n f (Some r)) (freed-free state.futures n f here) parts.count (frees n f (future_taken state.host f) here parts (told-does _ (received_line r) (received-other r)))

-- it is awaited
pub awaited-quiet : (state : State) (deadline : ℕ) (ticket : Option ℕ) → Quiet (view_of state) (view_of (with_host state (awaited_by state.host deadline ticket)))
awaited-quiet state deadline None = quiet-same state
awaited-quiet state deadline (Some t) =
    record { keeps = on-awaited state.host t deadline; count = awaited-count state.host t deadline; endpoints = λ d. refl; names = refl; futures = refl }

future_waited-does : (state : State) (n : ℕ) (f : FutureState) → named state.futures n ≡ Some f → DoesFuture state n (Some f) (future_waited state n f)
future_waited-does state n f here =
    let host = future_awaited state.host f in
    let first = awaited-quiet state f.deadline f.ticket in
    let parts = parts-future_taken host f.key f.ticket in
    hands-future state n f (future_waited state n f) (freed-free state.futures n f here) (count-trans state.host host (future_taken host f) first.count parts.count)
    (goes first (frees n f (future_taken host f) here parts (told-does _ _ (came-other received_line (future_answer host f) received-other))))

-- a call on what may be a future
future-does : (state : State) (n : ℕ) (call : FutureState → Answer) → ((f : FutureState) → named state.futures n ≡ Some f → DoesFuture state n (Some f) (call f)) → DoesFuture state n (named state.futures n) (if_open (named state.futures n) call (condition_answer state))
future-does state n call does = by (named state.futures n) refl
  where
    by : (o : Option FutureState) → named state.futures n ≡ o → DoesFuture state n o (if_open o call (condition_answer state))
    by None here = barred-hands state (λ ts. future_parted (gone_if (is_free state.futures n) None)) (gone-none (is_free state.futures n))
    by (Some f) here = does f here

pub on_future-does : (state : State) (n : ℕ) (call : FutureCall) → DoesFuture state n (named state.futures n) (on_future state n call)
unfolding on_future
on_future-does state n Poll = future-does state n (λ f. future_polled state n f (future_answer state.host f)) (λ f here. future_polled-does state n f (future_answer state.host f) here)
on_future-does state n (Wait steps) =
    let now = with_steps state steps in
    let call : State → Answer = λ s. if_open (named s.futures n) (future_waited s n) (condition_answer s) in
    along-hands state steps call (λ ts. future_parted (gone_if (is_free (call now).state.futures n) (named state.futures n))) (future-does now n (future_waited now n) (λ f here. future_waited-does now n f here))

-- it is closed
abbrev pub moves_parting : Option FutureState → List ControlMove
moves_parting None = []
moves_parting (Some f) = map Parted (listed f.ticket) ++ []

future_closed_at-does : (state : State) (n : ℕ) (line : List ℕ) (o : Option FutureState) → named state.futures n ≡ o → says_done line ≡ false → Acts (answer_with (future_closed_at state n o) line) (view_of state) [] (moves_parting o)
future_closed_at-does state n line None here other = told-does state line other
future_closed_at-does state n line (Some f) here other =
    frees n f (future_closed state.host f) here (parts-future_closed state.host f.key f.ticket) (told-does (without_future state n f) line other)

pub future_closed_under-does : (state : State) (n : ℕ) → Acts (silent (future_closed_under state n)) (view_of state) [] (moves_parting (named state.futures n))
unfolding future_closed_under
future_closed_under-does state n = future_closed_at-does state n [] (named state.futures n) refl refl

pub close_future-does : (state : State) (n : ℕ) → DoesFuture state n (named state.futures n) (close_future_answer state n)
unfolding close_future_answer
close_future-does state n =
    future-does state n (λ f. ok_answer (without_future state n f)) (λ f here.
    hands-future state n f (ok_answer (without_future state n f)) (freed-free state.futures n f here) (parts-future_closed state.host f.key f.ticket).count (future_closed_at-does state n ok_line (Some f) here refl))
