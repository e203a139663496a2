-- Futures as the code makes them: they start, are polled and are waited for.
use Rattle.std.proofs.Common.{◌≡◌, ℕ, ◌≤◌, ◌+◌, Bool, true, false, cond, List, [], length, Option, Some, None, Result, refl, ap, sym, ◌∙◌, subst}
use Rattle.std.specs.Prelude.{IsSome, if◌then◌else◌}
use Rattle.std.proofs.lemmas.Option.{same_Some}
use Rattle.usb_xfer.specs.declared.error.TransferError.{TransferError}
use Rattle.usb_kernel_devices.specs.declared.step.KernelStep.{KernelStep}
use Rattle.usb_kernel.specs.Extends.{Extends}
use Rattle.usb_kernel.proofs.Extends.{extends-same}
use Rattle.usb_device_ledger.specs.Entries.{control_endpoint}
use Rattle.usb_device_ledger.proofs.DeviceLemmas.{counts-same}
use Rattle.usb_xfer.specs.declared.transfer.TransferData.{TransferData}
use Rattle.usb_device_host.specs.HostState.{HostState}
use Rattle.usb_device_host.specs.HostTurns.{host_rest}
use Rattle.usb_device_host.specs.Controls.{control_submission, request_started}
use Rattle.usb_device_host.proofs.StartFrames.{started-endpoints}
use Rattle.usb_device.specs.Futures.{FutureState, StandsFuture, fresh_future, spent_future, future_taken, future_closed, future_awaited, future_answer}
use Rattle.usb_device.proofs.FutureFrames.{stays-started, others-started, stays-taken}
use Rattle.usb_script_words.specs.declared.control.ControlTarget.{ControlTarget}
use Rattle.usb_session_text.specs.Calls.{condition_line, ok_line}
use Rattle.usb_session_text.specs.Controls.{pending_line, received_line}
use Rattle.usb_session_calls.specs.Names.{named, is_free, freed, set_name}
use Rattle.usb_session_calls.specs.State.{State}
use Rattle.usb_session_calls.specs.Answer.{Answer, condition_answer, if_open}
use Rattle.usb_session_calls.specs.Controls.{device_of_target, bars_control, came_line}
use Rattle.usb_session.specs.Futures.{start_on, start_answer, future_polled, future_waited, on_future}
use Rattle.usb_session_calls.specs.declared.call.FutureCall.TheVariants.{Poll}
use Rattle.usb_session_calls.specs.SessionState.{SessionState, IsSound}
use Rattle.usb_session_calls.specs.Relation.{Represents}
use Rattle.usb_session_calls.specs.TargetCalls.{number_of_target, started_host, started_future}
use Rattle.usb_session_calls.proofs.Answering.{Gives, barred-gives}
use Rattle.usb_session_calls.proofs.Called.{KeepsSession}
use Rattle.usb_session_calls.proofs.ControlCode.{number-is, sound-controlled}
use Rattle.usb_session_calls.proofs.ControlHosts.{keeps-same, leaves-taken, leaves-waited, spare-waited, stands-lent_host}
use Rattle.usb_session_calls.proofs.FutureSessions.{sound-future_opened, sound-future_freed}
use Rattle.usb_session_calls.proofs.NameLemmas.{freed-none, put-back}
use Rattle.usb_session.proofs.Later.{later-by}
use Rattle.usb_session_streams.specs.Accounts.{KeepsAccountsOf}
use Rattle.usb_session_calls.proofs.FutureAccounts.{of-started}
use Rattle.std.specs.List.{cons_option}

-- the device that is found under a name
pub started-future : (h : HostState) (given request : TransferData) (nanoseconds timeout : ℕ) (o : Option ℕ) (d : ℕ) (f : FutureState) → given ≡ request → nanoseconds ≡ timeout → o ≡ Some d → f ≡ fresh_future h given nanoseconds → Some f ≡ started_future h request timeout o
started-future h given request nanoseconds timeout o d f same also some fresh =
    rw some (ap (λ x. Some x) (fresh ∙ ap (λ r. fresh_future h r nanoseconds) same ∙ ap (fresh_future h request) also))

pub started-host : (h now : HostState) (given request : TransferData) (nanoseconds timeout : ℕ) (o : Option ℕ) (d : ℕ) → given ≡ request → nanoseconds ≡ timeout → o ≡ Some d → now ≡ request_started h d given nanoseconds → now ≡ started_host h request timeout o
started-host h now given request nanoseconds timeout o d same also some is =
    rw some (is ∙ ap (λ r. request_started h d r nanoseconds) same ∙ ap (request_started h d request) also)

-- a start that found what is open under a name
record Begun (o : Option ℕ) (f : FutureState) (h : HostState) (request : TransferData) (timeout : ℕ) : Type 0 where
  device : ℕ
  some : o ≡ Some device
  fresh : f ≡ fresh_future h request timeout

begun : (o : Option ℕ) (f : FutureState) (h : HostState) (request : TransferData) (timeout : ℕ) → Some f ≡ started_future h request timeout o → Begun o f h request timeout
begun None f h request timeout is = absurd (cc)
begun (Some d) f h request timeout is = record { device = d; some = refl; fresh = same_Some f (fresh_future h request timeout) is }

keeps-started : (h : HostState) (device : ℕ) (request : TransferData) (timeout : ℕ) → h.steps ≡ [] → KeepsSession h (request_started h device request timeout)
keeps-started h device request timeout idle =
    let stays = stays-started h device request timeout in
    record {
      idle = stays.line.steps ∙ idle;
      past = stays.past;
      devices = counts-same h.devices (request_started h device request timeout).devices stays.line.devices;
      interfaces = stays.interfaces;
    }

pub start-sound : (s : SessionState) (now : HostState) (after : List (Option FutureState)) (n : ℕ) (f : FutureState) (request : TransferData) (timeout : ℕ) (o : Option ℕ) → IsSound s → is_free s.futures n ≡ true → after ≡ set_name s.futures n f → Some f ≡ started_future s.host request timeout o → now ≡ started_host s.host request timeout o → StandsFuture now f → IsSound (record s { host = now; futures = after })
start-sound s now after n f request timeout o sound free put future is stands =
    let b = begun o f s.host request timeout future in
    let then_ : HostState = request_started s.host b.device request timeout in
    let host : now ≡ then_ = is ∙ ap (started_host s.host request timeout) b.some in
    let submission = control_submission s.host b.device request timeout in
    subst (λ (h : HostState). IsSound (record s { host = h; futures = after })) (sym host)
    (sound-future_opened s then_ after n f (control_endpoint submission.endpoint) sound free put (ap (λ (z : FutureState). z.key) b.fresh)
    (subst (λ (z : FutureState). IsSome z.ticket) (sym b.fresh) refl) (subst (λ (h : HostState). StandsFuture h f) host stands)
    (keeps-started s.host b.device request timeout sound.idle) (others-started s.host b.device request timeout f.key) (started-endpoints s.host submission)
    (subst (λ (z : FutureState). KeepsAccountsOf s.host then_ z.key [] (cons_option z.ticket [])) (sym b.fresh) (of-started s.host b.device request timeout)))

pub start-spare : (h now : HostState) (request : TransferData) (timeout : ℕ) (o : Option ℕ) → now ≡ started_host h request timeout o → now.kernel.spare ≡ h.kernel.spare
start-spare h now request timeout o is = ap (λ (g : HostState). g.kernel.spare) is ∙ by o
  where
    by : (o : Option ℕ) → (started_host h request timeout o).kernel.spare ≡ h.kernel.spare
    by None = refl
    by (Some device) = (stays-started h device request timeout).line.spare

pub start-later : {s whole : SessionState} (now : HostState) (request : TransferData) (timeout : ℕ) (o : Option ℕ) → s ≡ whole → now ≡ started_host s.host request timeout o → Extends whole.host.kernel.past now.kernel.past
start-later {s = s} now request timeout o view is =
    later-by now.kernel.past view (subst (λ (h : HostState). Extends s.host.kernel.past h.kernel.past) (sym is) (by o))
  where
    by : (o : Option ℕ) → Extends s.host.kernel.past (started_host s.host request timeout o).kernel.past
    by None = extends-same s.host.kernel.past
    by (Some device) = (stays-started s.host device request timeout).past

pub start-gives : (s : SessionState) (state : State) (now : HostState) (after : List (Option FutureState)) (n : ℕ) (f : FutureState) (request : TransferData) (timeout : ℕ) (target : ControlTarget) (o : Option ℕ) → Represents s state → bars_control s.host.kernel.past ≡ false → is_free s.futures n ≡ true → o ≡ number_of_target s.host s.devices s.interfaces target → after ≡ set_name s.futures n f → Some f ≡ started_future s.host request timeout o → now ≡ started_host s.host request timeout o → Gives (record s { host = now; futures = after }) ok_line (start_answer state n target request timeout)
unfolding start_answer
start-gives s state now after n f request timeout target o r bars free number put future is =
    let b = begun o f s.host request timeout future in
    let there : device_of_target state target ≡ Some b.device = number-is s state target r ∙ sym number ∙ b.some in
    let host : now ≡ request_started s.host b.device request timeout = is ∙ ap (started_host s.host request timeout) b.some in
    rw (there, rw r at free, rw r at bars)
    (record {
      state =
          ap (λ (h : HostState). record s { host = h; futures = after }) host
          ∙ ap (λ (l : List (Option FutureState)). record s { host = request_started s.host b.device request timeout; futures = l }) (put ∙ ap (set_name s.futures n) b.fresh)
          ∙ ap (λ (v : SessionState). record v { host = request_started v.host b.device request timeout; futures = set_name v.futures n (fresh_future v.host request timeout) }) r;
      same = refl;
    })

-- one that found nothing
none-begun : (o : Option ℕ) (h : HostState) (request : TransferData) (timeout : ℕ) → None ≡ started_future h request timeout o → o ≡ None
none-begun None h request timeout is = refl
none-begun (Some d) h request timeout is = absurd (cc)

none-host : (h now : HostState) (request : TransferData) (timeout : ℕ) (o : Option ℕ) → None ≡ started_future h request timeout o → now ≡ started_host h request timeout o → now ≡ h
none-host h now request timeout o none is = is ∙ ap (started_host h request timeout) (none-begun o h request timeout none)

pub none-sound : (s : SessionState) (now : HostState) (request : TransferData) (timeout : ℕ) (o : Option ℕ) → IsSound s → None ≡ started_future s.host request timeout o → now ≡ started_host s.host request timeout o → IsSound (record s { host = now })
none-sound s now request timeout o sound none is = rw (none-host s.host now request timeout o none is) sound

barred-by : (s : SessionState) (state : State) (n : ℕ) (request : TransferData) (timeout : ℕ) (o : Option ℕ) → Represents s state → ((device : ℕ) → o ≡ Some device → Gives s condition_line (if is_free state.futures n then start_on state n request timeout device else condition_answer state)) → Gives s condition_line (if_open o (λ device. if is_free state.futures n then start_on state n request timeout device else condition_answer state) (condition_answer state))
barred-by s state n request timeout None r gives = barred-gives s state r
barred-by s state n request timeout (Some device) r gives = gives device refl

pub start-none : (s : SessionState) (state : State) (now : HostState) (n : ℕ) (request : TransferData) (timeout : ℕ) (target : ControlTarget) (o : Option ℕ) → Represents s state → o ≡ number_of_target s.host s.devices s.interfaces target → None ≡ started_future s.host request timeout o → now ≡ started_host s.host request timeout o → Gives (record s { host = now }) condition_line (start_answer state n target request timeout)
unfolding start_answer
start-none s state now n request timeout target o r number none is =
    let there : device_of_target state target ≡ None = number-is s state target r ∙ sym number ∙ none-begun o s.host request timeout none in
    rw (there, none-host s.host now request timeout o none is) (barred-gives s state r)

pub start-used : (s : SessionState) (state : State) (n : ℕ) (request : TransferData) (timeout : ℕ) (target : ControlTarget) → Represents s state → is_free s.futures n ≡ false → Gives s condition_line (start_answer state n target request timeout)
unfolding start_answer
start-used s state n request timeout target r used =
    barred-by s state n request timeout (device_of_target state target) r (λ device some. rw (rw r at used) (barred-gives s state r))

pub start-bars : (s : SessionState) (state : State) (n : ℕ) (request : TransferData) (timeout : ℕ) (target : ControlTarget) → Represents s state → bars_control s.host.kernel.past ≡ true → Gives s condition_line (start_answer state n target request timeout)
unfolding start_answer
start-bars s state n request timeout target r bars =
    barred-by s state n request timeout (device_of_target state target) r (λ device some. rw (rw r at bars) (both (is_free state.futures n) (barred-gives s state r)))
  where
    both : (b : Bool) → Gives s condition_line (condition_answer state) → Gives s condition_line (cond b (condition_answer state) (condition_answer state))
    both true gives = gives
    both false gives = gives

pub future-same_sound : (s : SessionState) (after : List (Option FutureState)) → IsSound s → after ≡ s.futures → IsSound (record s { futures = after })
future-same_sound s after sound same = rw same sound

-- nothing is
pub none-gives : (s : SessionState) (state : State) (after : List (Option FutureState)) (n : ℕ) (call : FutureState → Answer) → Represents s state → named s.futures n ≡ None → after ≡ freed s.futures n → Gives (record s { futures = after }) condition_line (if_open (named state.futures n) call (condition_answer state))
none-gives s state after n call r none rest = rw (rw r at none, rest, freed-none s.futures n none) (barred-gives s state r)

-- its answer was taken
taken-is : (h now : HostState) (f after : FutureState) (last : HostState) → now ≡ future_taken h f → after ≡ spent_future f → last ≡ future_closed now after → last ≡ future_taken h f
taken-is h now f after last taken spent closed = closed ∙ ap (future_closed now) spent ∙ taken

pub polled-sound : (s : SessionState) (now last : HostState) (after : List (Option FutureState)) (n : ℕ) (f y : FutureState) → IsSound s → named s.futures n ≡ Some f → after ≡ freed s.futures n → now ≡ future_taken s.host f → y ≡ spent_future f → last ≡ future_closed now y → IsSound (record s { host = last; futures = after })
polled-sound s now last after n f y sound was rest taken spent closed =
    rw (taken-is s.host now f y last taken spent closed)
    (sound-future_freed s (future_taken s.host f) after n f sound was rest (leaves-taken s.host f sound.idle (sound.futures_wait n f was) (sound.futures_stand n f was)))

pub polled-spare : (h now last : HostState) (f y : FutureState) → now ≡ future_taken h f → y ≡ spent_future f → last ≡ future_closed now y → last.kernel.spare ≡ h.kernel.spare
polled-spare h now last f y taken spent closed = ap (λ (g : HostState). g.kernel.spare) (taken-is h now f y last taken spent closed) ∙ (stays-taken h f).line.spare

pub polled-later : {s whole : SessionState} (now last : HostState) (f y : FutureState) → s ≡ whole → now ≡ future_taken s.host f → y ≡ spent_future f → last ≡ future_closed now y → Extends whole.host.kernel.past last.kernel.past
polled-later {s = s} now last f y view taken spent closed =
    later-by last.kernel.past view
    (subst (λ (h : HostState). Extends s.host.kernel.past h.kernel.past) (sym (taken-is s.host now f y last taken spent closed)) (stays-taken s.host f).past)

polled-by : (s : SessionState) (state : State) (last : HostState) (after : List (Option FutureState)) (n : ℕ) (f : FutureState) (o : Option (Result (List ℕ) TransferError)) (answer : Result (List ℕ) TransferError) → Represents s state → after ≡ freed s.futures n → last ≡ future_taken s.host f → o ≡ Some answer → Gives (record s { host = last; futures = after }) (received_line answer) (future_polled state n f o)
polled-by s state last after n f None answer r rest is came = absurd (cc)
polled-by s state last after n f (Some given) answer r rest is came =
    record {
      state = rw (is, rest, r) refl;
      same = ap received_line (same_Some given answer came);
    }

pub polled-gives : (s : SessionState) (state : State) (now last : HostState) (after : List (Option FutureState)) (n : ℕ) (f y : FutureState) (answer : Result (List ℕ) TransferError) → Represents s state → named s.futures n ≡ Some f → after ≡ freed s.futures n → now ≡ future_taken s.host f → y ≡ spent_future f → last ≡ future_closed now y → future_answer s.host f ≡ Some answer → Gives (record s { host = last; futures = after }) (received_line answer) (on_future state n Poll)
unfolding on_future
polled-gives s state now last after n f y answer r was rest taken spent closed came =
    rw (rw r at was)
    (polled-by s state last after n f (future_answer state.host f) answer r rest (taken-is s.host now f y last taken spent closed) (rw r at came))

-- or is not there yet
pub pending-same : (s : SessionState) (mid after : List (Option FutureState)) (n : ℕ) (f y : FutureState) → named s.futures n ≡ Some f → mid ≡ freed s.futures n → y ≡ f → after ≡ set_name mid n y → after ≡ s.futures
pending-same s mid after n f y was rest same put = put ∙ ap (λ l. set_name l n y) rest ∙ ap (set_name (freed s.futures n) n) same ∙ put-back s.futures n f was

pub pending-sound : (s : SessionState) (now : HostState) (after : List (Option FutureState)) → IsSound s → now ≡ s.host → after ≡ s.futures → IsSound (record s { host = now; futures = after })
pending-sound s now after sound host same = rw (host, same) sound

pending-by : (s : SessionState) (state : State) (n : ℕ) (f : FutureState) (o : Option (Result (List ℕ) TransferError)) → Represents s state → o ≡ None → Gives s pending_line (future_polled state n f o)
pending-by s state n f None r none = record { state = r; same = refl }
pending-by s state n f (Some given) r none = absurd (cc)

pub pending-gives : (s : SessionState) (state : State) (now : HostState) (after : List (Option FutureState)) (n : ℕ) (f : FutureState) → Represents s state → named s.futures n ≡ Some f → now ≡ s.host → after ≡ s.futures → future_answer s.host f ≡ None → Gives (record s { host = now; futures = after }) pending_line (on_future state n Poll)
unfolding on_future
pending-gives s state now after n f r was host same none =
    rw (rw r at was, host, same)
    (pending-by s state n f (future_answer state.host f) r (rw r at none))

-- one that is waited for, with the steps of the line
pub wait-stands : (s : SessionState) (steps : List KernelStep) (at : HostState) (n : ℕ) (f : FutureState) → IsSound s → at ≡ record s.host { steps = steps } → named s.futures n ≡ Some f → StandsFuture at f
wait-stands s steps at n f sound is was = rw is (stands-lent_host s.host steps f (sound.futures_wait n f was) (sound.futures_stand n f was))

waited-is : (h at now last : HostState) (steps : List KernelStep) (f : FutureState) → at ≡ record h { steps = steps } → now ≡ future_taken (future_awaited at f) f → last ≡ host_rest now → last ≡ host_rest (future_taken (future_awaited (record h { steps = steps }) f) f)
waited-is h at now last steps f is taken rest = rest ∙ ap host_rest (taken ∙ ap (λ (g : HostState). future_taken (future_awaited g f) f) is)

pub waited-sound : (s : SessionState) (steps : List KernelStep) (at now last : HostState) (after : List (Option FutureState)) (n : ℕ) (f : FutureState) → IsSound s → at ≡ record s.host { steps = steps } → named s.futures n ≡ Some f → after ≡ freed s.futures n → now ≡ future_taken (future_awaited at f) f → last ≡ host_rest now → IsSound (record s { host = last; futures = after })
waited-sound s steps at now last after n f sound is was free taken rest =
    rw (waited-is s.host at now last steps f is taken rest)
    (sound-future_freed s (host_rest (future_taken (future_awaited (record s.host { steps = steps }) f) f)) after n f sound was free
    (leaves-waited s.host steps f (sound.futures_wait n f was) (sound.futures_stand n f was)))

pub waited-spare : (S s : SessionState) (steps : List KernelStep) (at now last : HostState) (n : ℕ) (f : FutureState) → IsSound s → s ≡ S → at ≡ record s.host { steps = steps } → named s.futures n ≡ Some f → now ≡ future_taken (future_awaited at f) f → last ≡ host_rest now → length steps ≤ S.host.kernel.spare → last.kernel.spare + length steps ≡ S.host.kernel.spare
waited-spare S s steps at now last n f sound view is was taken rest room =
    let spare : s.host.kernel.spare ≡ S.host.kernel.spare = ap (λ (v : SessionState). v.host.kernel.spare) view in
    ap (λ (h : HostState). h.kernel.spare + length steps) (waited-is s.host at now last steps f is taken rest)
    ∙ spare-waited s.host steps f (sound.futures_wait n f was) (sound.futures_stand n f was) (rw spare room) ∙ spare

pub waited-later : (S s : SessionState) (steps : List KernelStep) (at now last : HostState) (n : ℕ) (f : FutureState) → IsSound s → s ≡ S → at ≡ record s.host { steps = steps } → named s.futures n ≡ Some f → now ≡ future_taken (future_awaited at f) f → last ≡ host_rest now → Extends S.host.kernel.past last.kernel.past
waited-later S s steps at now last n f sound view is was taken rest =
    later-by last.kernel.past view
    (subst (λ (h : HostState). Extends s.host.kernel.past h.kernel.past) (sym (waited-is s.host at now last steps f is taken rest))
    (leaves-waited s.host steps f (sound.futures_wait n f was) (sound.futures_stand n f was)).session.past)

pub waited-gives : (s : SessionState) (state : State) (now : HostState) (after : List (Option FutureState)) (n : ℕ) (f : FutureState) (answer : Result (List ℕ) TransferError) → Represents s state → named s.futures n ≡ Some f → after ≡ freed s.futures n → now ≡ future_taken (future_awaited s.host f) f → future_answer (future_awaited s.host f) f ≡ Some answer
    → Gives (record s { host = now; futures = after }) (received_line answer) (if_open (named state.futures n) (future_waited state n) (condition_answer state))
waited-gives s state now after n f answer r was free taken came =
    rw (rw r at was)
    (record {
      state = rw (taken, free, r) refl;
      same = ap (came_line received_line) (rw r at came);
    })

-- nothing was open under the name: the steps are applied all the same
pub wait-none_sound : (s : SessionState) (steps : List KernelStep) (at last : HostState) (after : List (Option FutureState)) (n : ℕ) → IsSound s → at ≡ record s.host { steps = steps } → last ≡ host_rest at → named s.futures n ≡ None → after ≡ freed s.futures n → IsSound (record s { host = last; futures = after })
wait-none_sound s steps at last after n sound is rest none free =
    future-same_sound (record s { host = last }) after (sound-controlled s steps at at last sound is (keeps-same at) rest) (free ∙ freed-none s.futures n none)
