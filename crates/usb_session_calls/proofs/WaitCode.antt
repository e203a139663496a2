-- What waits and blocking transfers answer.
use Rattle.std.proofs.Common.{◌≡◌, ℕ, List, [], ◌∷◌, ◌++◌, length, Option, Some, None, Result, Bool, true, false, refl, ap, sym, ◌∙◌, subst, slice_get, String, string_bytes}
use Rattle.std.specs.Prelude.{OnOk, if◌then◌else◌}
use Rattle.std.specs.declared.alloc.Global.{Global}
use Rattle.std.proofs.lemmas.Option.{none-some}
use Rattle.usb_desc.specs.declared.types.Direction.{Direction}
use Rattle.usb_xfer.specs.BufferState.{BufferState}
use Rattle.usb_xfer.specs.declared.transfer.Completion.{Completion}
use Rattle.usb_kernel.specs.Tickets.{tickets}
use Rattle.usb_kernel.proofs.Extends.{extends-trans}
use Rattle.usb_kernel.specs.TransferCompletions.{transfer_completion}
use Rattle.usb_device_endpoint.specs.EndpointState.{EndpointState}
use Rattle.usb_device_endpoint.specs.Handles.{Stands, KeepsOthers}
use Rattle.usb_device_endpoint.specs.Submits.{entered}
use Rattle.usb_device_endpoint.specs.Waits.{Polled, front_found, taken_if, polled, front_of, waited, wait_next}
use Rattle.usb_device_endpoint.specs.Blocking.{blocked, transferred}
use Rattle.usb_device_host.specs.HostState.{HostState}
use Rattle.usb_device_host.specs.HostBus.{bus_of}
use Rattle.usb_device_host.specs.HostCalls.{host_calls}
use Rattle.usb_device_host.specs.TicketEnds.{host_taken}
use Rattle.usb_device_host.proofs.WaitFrames.{line-trans, went-waited, went-blocked}
use Rattle.usb_session_text.specs.Calls.{condition_line}
use Rattle.usb_session_text.specs.Completions.{waited_line}
use Rattle.usb_session_streams.specs.Accounts.{KeepsAccountsOf}
use Rattle.usb_session_streams.proofs.AccountLemmas.{accounts-of, accounts-waited, accounts-blocked, of-then, of-entered}
use Rattle.usb_session_calls.specs.Names.{change_named}
use Rattle.usb_session_calls.specs.State.{State, Endpoint}
use Rattle.usb_session_calls.specs.Answer.{Answer, answer_with, condition_answer}
use Rattle.usb_session_calls.specs.Waits.{wait_on, wait_ended}
use Rattle.usb_session_calls.specs.Transfers.{bars_transfer, with_taken, transfer_ended, transfer_on}
use Rattle.usb_session_calls.specs.OpenCalls.{CallKeeps, CallAnswers}
use Rattle.usb_session_calls.proofs.PollCode.{some-front}
use Rattle.usb_session_calls.proofs.Queue.{call-comes, call-told, front_kept, front-answers, polled-goes, polled-past, polled-rest, polled-accounts}
use Rattle.usb_session_calls.proofs.SubmitCode.{line-entered, past-entered}

abbrev pub wait : ℕ → State → ℕ → Endpoint → Answer
wait timeout state e h = wait_on state e timeout (slice_get h.state.pending 0)

pub wait-barred : {E : Type 0} (host : HostState) (x : EndpointState) (before text : String Global) (result : Result Unit E) (timeout : ℕ) → x.pending ≡ [] → OnOk result (string_bytes text ≡ string_bytes before ++ condition_line) → CallAnswers host host x x before text result (wait timeout)
wait-barred host x before text result timeout none printed =
    call-told host host x x before text result condition_line (wait timeout) refl refl printed
    (λ state e h host_was same. ap (wait_on state e timeout) (front_kept h x [] same none))

-- the wait is for the front
front-waited : (host : HostState) (x : EndpointState) (timeout t : ℕ) (ts : List ℕ) (p : Polled HostState) → x.pending ≡ t ∷ ts → wait_next host_calls timeout host x ≡ p → polled host_calls (waited host_calls t timeout host) x ≡ p
front-waited host x timeout t ts p was is = sym (ap (λ (l : List ℕ). polled host_calls (waited host_calls (front_of l) timeout host) x) was) ∙ is

pub wait-answers : {E : Type 0} (r : Option Completion) (host now : HostState) (x y : EndpointState) (before text : String Global) (result : Result Unit E) (timeout : ℕ) → (x.pending ≡ [] → ⊥) → wait_next host_calls timeout host x ≡ front_found r now y → OnOk result (string_bytes text ≡ string_bytes before ++ waited_line r) → CallAnswers host now x y before text result (wait timeout)
wait-answers r host now x y before text result timeout some is printed =
    let f = some-front x.pending some in
    front-answers waited_line host (waited host_calls f.front timeout host) now x y before text result (wait timeout) f.front f.others r f.is printed
    (λ state e h host_was at.
    ap (wait_on state e timeout) at
    ∙ ap (λ (g : HostState). wait_ended state e f.front (waited host_calls f.front timeout g)) host_was)
    (front-waited host x timeout f.front f.others (front_found r now y) f.is is)

pub wait-keeps : (r : Option Completion) (host now : HostState) (x y : EndpointState) (timeout : ℕ) → wait_next host_calls timeout host x ≡ front_found r now y → Stands (bus_of now) y → KeepsOthers (bus_of host) (bus_of now) x.key → CallKeeps host now x y
wait-keeps r host now x y timeout is stands others =
    let mid : HostState = waited host_calls (front_of x.pending) timeout host in
    let went = went-waited host (front_of x.pending) timeout in
    let rest = polled-rest mid x r now y is in
    record {
      line = line-trans host mid now went.line (polled-goes mid x r now y is);
      past = extends-trans host.kernel.past mid.kernel.past now.kernel.past went.later.past (polled-past mid x r now y is);
      stands = stands;
      others = others;
      key = ap (λ (z : EndpointState). z.key) rest;
      maximum = ap (λ (z : EndpointState). z.maximum) rest;
      accounts =
          of-then host mid now x.key x.pending x.pending y.pending (accounts-of host mid x.key x.pending (accounts-waited host (front_of x.pending) timeout))
          (polled-accounts mid x r now y is);
    }

-- a blocking transfer by the host and by what its calls see of the endpoint
abbrev count_of : HostState → ℕ
count_of g = length (tickets g.kernel.past)

abbrev transfer_seen : State → ℕ → BufferState → ℕ → HostState → EndpointState → Bool → Answer
transfer_seen state e b timeout g z bars =
    if bars then condition_answer state else transfer_ended state e (count_of g) (blocked host_calls (count_of g) timeout (entered host_calls g z None b))

transfer-seen : (state : State) (direction : Direction) (e : ℕ) (b : BufferState) (timeout : ℕ) (h : Endpoint) (old : HostState) (x : EndpointState) (bars : Bool) → state.host ≡ old → h.state ≡ x → bars_transfer old.kernel.past direction x ≡ bars → transfer_on state direction e b timeout h ≡ transfer_seen state e b timeout old x bars
transfer-seen state direction e b timeout h old x bars host_was same is =
    ap (λ (z : EndpointState). transfer_seen state e b timeout state.host z (bars_transfer state.host.kernel.past direction z)) same
    ∙ ap (λ (g : HostState). transfer_seen state e b timeout g x (bars_transfer g.kernel.past direction x)) host_was
    ∙ ap (transfer_seen state e b timeout old x) is

pub transfer-barred : {E : Type 0} (host : HostState) (x : EndpointState) (before text : String Global) (result : Result Unit E) (direction : Direction) (b : BufferState) (timeout : ℕ) → bars_transfer host.kernel.past direction x ≡ true → OnOk result (string_bytes text ≡ string_bytes before ++ condition_line) → CallAnswers host host x x before text result (λ state e h. transfer_on state direction e b timeout h)
transfer-barred host x before text result direction b timeout bars printed =
    call-told host host x x before text result condition_line (λ state e h. transfer_on state direction e b timeout h) refl refl printed
    (λ state e h host_was same. transfer-seen state direction e b timeout h host x true host_was same bars)

-- the completion that was taken is the journal's
took-is : (mid now : HostState) (x y : EndpointState) (t : ℕ) (ts : List ℕ) (c : Completion) (o : Option Completion) → taken_if host_calls mid x t ts o ≡ front_found (Some c) now y → (o ≡ Some c) × (host_taken mid t ≡ now) × (ts ≡ y.pending)
took-is mid now x y t ts c None is = absurd (none-some c (ap (λ (p : Polled HostState). p.completion) is))
took-is mid now x y t ts c (Some d) is = (ap (λ (p : Polled HostState). p.completion) is, ap (λ (p : Polled HostState). p.bus) is, ap (λ (p : Polled HostState). p.endpoint.pending) is)

-- what is left before it is taken
abbrev made_by : HostState → EndpointState → BufferState → ℕ → HostState
made_by host x b timeout = blocked host_calls (count_of host) timeout (entered host_calls host x None b)

pub transfer-answers : {E : Type 0} (host now : HostState) (x y : EndpointState) (before text : String Global) (result : Result Unit E) (direction : Direction) (b : BufferState) (timeout : ℕ) (c : Completion) → bars_transfer host.kernel.past direction x ≡ false → y ≡ x → transferred host_calls timeout host x b ≡ front_found (Some c) now y → OnOk result (string_bytes text ≡ string_bytes before ++ waited_line (Some c)) → CallAnswers host now x y before text result (λ state e h. transfer_on state direction e b timeout h)
transfer-answers host now x y before text result direction b timeout c bars same_y is printed =
    let t = count_of host in
    let mid : HostState = made_by host x b timeout in
    let took = took-is mid now (record x { pending = t ∷ [] }) y t [] c (transfer_completion mid.kernel.past t) is in
    call-comes host now x y before text result (with_taken t) (waited_line (Some c)) (λ state e h. transfer_on state direction e b timeout h) printed
    (λ state e h host_was same.
    let after = λ (g : HostState). record state { host = g; endpoints = change_named (with_taken t) state.endpoints e } in
    record {
      is =
          transfer-seen state direction e b timeout h host x false host_was same bars
          ∙ ap (λ (v : Option Completion). answer_with (after (host_taken mid t)) (waited_line v)) took.0
          ∙ ap (λ (g : HostState). answer_with (after g) (waited_line (Some c))) took.1;
      kept_is = same ∙ sym same_y;
    })

pub transfer-keeps : (host now : HostState) (x y : EndpointState) (b : BufferState) (timeout : ℕ) (c : Completion) → transferred host_calls timeout host x b ≡ front_found (Some c) now y → y ≡ x → Stands (bus_of host) x → Stands (bus_of now) y → KeepsOthers (bus_of host) (bus_of now) x.key → CallKeeps host now x y
transfer-keeps host now x y b timeout c is same was stands others =
    let first = entered host_calls host x None b in
    let mid : HostState = made_by host x b timeout in
    let one = record x { pending = count_of host ∷ [] } in
    let went = went-blocked first (count_of host) timeout in
    let took = took-is mid now one y (count_of host) [] c (transfer_completion mid.kernel.past (count_of host)) is in
    let none : x.pending ≡ [] = sym (ap (λ (z : EndpointState). z.pending) same) ∙ sym took.2 in
    record {
      line = line-trans host mid now (line-trans host first mid (line-entered host x None b) went.line) (polled-goes mid one (Some c) now y is);
      past =
          extends-trans host.kernel.past mid.kernel.past now.kernel.past
          (extends-trans host.kernel.past first.kernel.past mid.kernel.past (past-entered host x None b) went.later.past) (polled-past mid one (Some c) now y is);
      stands = stands;
      others = others;
      key = ap (λ (z : EndpointState). z.key) same;
      maximum = ap (λ (z : EndpointState). z.maximum) same;
      accounts =
          of-then host first now x.key x.pending one.pending y.pending (subst (λ (l : List ℕ). KeepsAccountsOf host first x.key x.pending (l ++ count_of host ∷ [])) none (of-entered host x None b was.key_is_open))
          (of-then first mid now x.key one.pending one.pending y.pending (accounts-of first mid x.key one.pending (accounts-blocked first (count_of host) timeout)) (polled-accounts mid one (Some c) now y is));
    }
