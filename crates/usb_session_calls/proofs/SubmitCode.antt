-- What a submission and a cancel answer.
use Rattle.std.proofs.Common.{◌≡◌, ℕ, List, [], ◌∷◌, ◌++◌, length, Option, Result, Ok, Err, Bool, true, false, refl, ap, sym, ◌∙◌, subst, String, string_bytes}
use Rattle.std.specs.Prelude.{OnOk, OnErr, if◌then◌else◌}
use Rattle.std.specs.declared.alloc.Global.{Global}
use Rattle.usb_desc.specs.declared.types.Direction.{Direction}
use Rattle.usb_xfer.specs.BufferState.{BufferState}
use Rattle.usb_kernel.specs.Extends.{Extends}
use Rattle.usb_kernel.specs.Tickets.{tickets}
use Rattle.usb_kernel.proofs.Extends.{extends-same}
use Rattle.usb_device_endpoint.specs.EndpointState.{EndpointState, route_of}
use Rattle.usb_device_endpoint.specs.Submits.{entered, handed_over, transfer_by, is_valid}
use Rattle.usb_device_endpoint.specs.Closes.{all_discarded}
use Rattle.usb_device_host.specs.HostState.{HostState}
use Rattle.usb_device_host.specs.HostFrames.{LineGoesOn}
use Rattle.usb_device_host.proofs.HostKeeps.{KeepsOpen}
use Rattle.usb_device_host.specs.HostCalls.{host_discarded, host_calls}
use Rattle.usb_device_host.proofs.HostFrames.{uses-discarded}
use Rattle.usb_device_host.proofs.FollowLemmas.{adds-entered}
use Rattle.usb_device_host.proofs.CallFrames.{keeps-open, keeps-submitted, keeps-refused}
use Rattle.usb_device_host.proofs.WaitFrames.{line-keeps, line-trans}
use Rattle.usb_session_text.specs.Calls.{condition_line, ok_line}
use Rattle.usb_device_endpoint.specs.Handles.{Stands}
use Rattle.usb_device_host.specs.HostBus.{bus_of}
use Rattle.usb_session_streams.specs.Accounts.{KeepsAccountsOf}
use Rattle.usb_session_streams.proofs.AccountLemmas.{of-same, of-is, of-entered}
use Rattle.usb_session_calls.specs.Names.{change_named}
use Rattle.usb_session_calls.specs.State.{State, Endpoint, with_host}
use Rattle.usb_session_calls.specs.Answer.{Answer, condition_answer, ok_answer}
use Rattle.usb_session_calls.specs.Submits.{bars_submission, deadline_by, with_submission, submit_on}
use Rattle.usb_session_calls.specs.Closes.{cancelled}
use Rattle.usb_session_calls.specs.OpenCalls.{CallAnswers}
use Rattle.usb_session_calls.proofs.Queue.{call-comes, call-told, call-host}

-- a submission by the host and by what its calls see of the endpoint
abbrev submit_seen : State → Direction → ℕ → BufferState → Option ℕ → HostState → EndpointState → Bool → Answer
submit_seen state direction e b timeout g z bars =
    if bars then condition_answer state
    else ok_answer (record state { host = entered host_calls g z (deadline_by g timeout) b; endpoints = change_named (with_submission (length (tickets g.kernel.past))) state.endpoints e })

submit-seen : (state : State) (direction : Direction) (e : ℕ) (b : BufferState) (timeout : Option ℕ) (h : Endpoint) (old : HostState) (x : EndpointState) (bars : Bool) → state.host ≡ old → h.state ≡ x → bars_submission old.kernel.past direction x ≡ bars → submit_on state direction e b timeout h ≡ submit_seen state direction e b timeout old x bars
submit-seen state direction e b timeout h old x bars host_was same is =
    ap (λ (z : EndpointState). submit_seen state direction e b timeout state.host z (bars_submission state.host.kernel.past direction z)) same
    ∙ ap (λ (g : HostState). submit_seen state direction e b timeout g x (bars_submission g.kernel.past direction x)) host_was
    ∙ ap (submit_seen state direction e b timeout old x) is

pub submit-barred : {E : Type 0} (host : HostState) (x : EndpointState) (before text : String Global) (result : Result Unit E) (direction : Direction) (b : BufferState) (timeout : Option ℕ) → bars_submission host.kernel.past direction x ≡ true → OnOk result (string_bytes text ≡ string_bytes before ++ condition_line) → CallAnswers host host x x before text result (λ state e h. submit_on state direction e b timeout h)
submit-barred host x before text result direction b timeout bars printed =
    call-told host host x x before text result condition_line (λ state e h. submit_on state direction e b timeout h) refl refl printed
    (λ state e h host_was same. submit-seen state direction e b timeout h host x true host_was same bars)

pub submit-made : {E : Type 0} (host now : HostState) (x y : EndpointState) (before text : String Global) (result : Result Unit E) (direction : Direction) (b : BufferState) (timeout : Option ℕ) → bars_submission host.kernel.past direction x ≡ false → now ≡ entered host_calls host x (deadline_by host timeout) b → y ≡ record x { pending = x.pending ++ length (tickets host.kernel.past) ∷ [] } → OnOk result (string_bytes text ≡ string_bytes before ++ ok_line) → CallAnswers host now x y before text result (λ state e h. submit_on state direction e b timeout h)
submit-made host now x y before text result direction b timeout bars bus pending printed =
    let t = length (tickets host.kernel.past) in
    call-comes host now x y before text result (with_submission t) ok_line (λ state e h. submit_on state direction e b timeout h) printed
    (λ state e h host_was same.
    record {
      is =
          submit-seen state direction e b timeout h host x false host_was same bars
          ∙ ap (λ (g : HostState). ok_answer (record state { host = g; endpoints = change_named (with_submission t) state.endpoints e })) (sym bus);
      kept_is = ap (λ (z : EndpointState). record z { pending = z.pending ++ t ∷ [] }) same ∙ sym pending;
    })

keeps-handed : (h : HostState) (e : EndpointState) (deadline : Option ℕ) (b : BufferState) (valid : Bool) → KeepsOpen h (handed_over host_calls h (route_of e) deadline (transfer_by (route_of e) b) valid)
keeps-handed h e deadline b true = keeps-submitted h (route_of e) deadline (transfer_by (route_of e) b)
keeps-handed h e deadline b false = keeps-refused h (route_of e) (transfer_by (route_of e) b) 22

pub line-entered : (h : HostState) (e : EndpointState) (deadline : Option ℕ) (b : BufferState) → LineGoesOn h (entered host_calls h e deadline b)
line-entered h e deadline b = line-keeps h (entered host_calls h e deadline b) (keeps-handed h e deadline b (is_valid e b))

pub submit-line : (r : Result Unit BufferState) (host now : HostState) (x y : EndpointState) (deadline : Option ℕ) (b : BufferState) → OnOk r (now ≡ entered host_calls host x deadline b) → OnErr r ((y ≡ x) × (now ≡ host)) → LineGoesOn host now
submit-line (Ok done) host now x y deadline b ok err = subst (LineGoesOn host) (sym ok) (line-entered host x deadline b)
submit-line (Err back) host now x y deadline b ok err = subst (LineGoesOn host) (sym err.1) (line-keeps host host (keeps-open host))

pub past-entered : (h : HostState) (e : EndpointState) (deadline : Option ℕ) (b : BufferState) → Extends h.kernel.past (entered host_calls h e deadline b).kernel.past
past-entered h e deadline b = (adds-entered h e deadline b).goes.past

pub submit-past : (r : Result Unit BufferState) (host now : HostState) (x y : EndpointState) (deadline : Option ℕ) (b : BufferState) → OnOk r (now ≡ entered host_calls host x deadline b) → OnErr r ((y ≡ x) × (now ≡ host)) → Extends host.kernel.past now.kernel.past
submit-past (Ok done) host now x y deadline b ok err = subst (λ (h : HostState). Extends host.kernel.past h.kernel.past) (sym ok) (past-entered host x deadline b)
submit-past (Err back) host now x y deadline b ok err = subst (λ (h : HostState). Extends host.kernel.past h.kernel.past) (sym err.1) (extends-same host.kernel.past)

pub submit-same : {X : Type 0} (f : EndpointState → X) (of_others : (z : EndpointState) (ts : List ℕ) → f (record z { pending = ts }) ≡ f z) (r : Result Unit BufferState) (host now : HostState) (x y : EndpointState) (t : ℕ) → OnOk r (y ≡ record x { pending = x.pending ++ t ∷ [] }) → OnErr r ((y ≡ x) × (now ≡ host)) → f y ≡ f x
submit-same f of_others (Ok done) host now x y t ok err = ap f ok ∙ of_others x (x.pending ++ t ∷ [])
submit-same f of_others (Err back) host now x y t ok err = ap f err.0

pub submit-accounts : (r : Result Unit BufferState) (host now : HostState) (x y : EndpointState) (deadline : Option ℕ) (b : BufferState) → Stands (bus_of host) x → OnOk r (now ≡ entered host_calls host x deadline b) → OnOk r (y ≡ record x { pending = x.pending ++ length (tickets host.kernel.past) ∷ [] }) → OnErr r ((y ≡ x) × (now ≡ host)) → KeepsAccountsOf host now x.key x.pending y.pending
submit-accounts (Ok done) host now x y deadline b stands bus pending err =
    of-is host (entered host_calls host x deadline b) now x.key x.pending (x.pending ++ length (tickets host.kernel.past) ∷ []) y.pending bus (ap (λ (z : EndpointState). z.pending) pending) (of-entered host x deadline b stands.key_is_open)
submit-accounts (Err back) host now x y deadline b stands bus pending err =
    of-is host host now x.key x.pending x.pending y.pending err.1 (ap (λ (z : EndpointState). z.pending) err.0) (of-same host x.key x.pending)

-- what holds where a call was not refused
pub ok-holds : {A B P : Type 0} (r : Result A B) (x : A) → r ≡ Ok x → OnOk r P → P
ok-holds (Ok y) x is holds = holds
ok-holds (Err y) x is holds = absurd (cc)

-- a cancel
pub cancel-made : {E : Type 0} (host now : HostState) (x y : EndpointState) (before text : String Global) (result : Result Unit E) → now ≡ all_discarded host_discarded host x.pending → y ≡ x → OnOk result (string_bytes text ≡ string_bytes before ++ ok_line) → CallAnswers host now x y before text result (λ state e h. ok_answer (cancelled state h))
cancel-made host now x y before text result bus same_y printed =
    call-host host now x y before text result ok_line (λ state e h. ok_answer (cancelled state h)) same_y printed
    (λ state e h host_was same.
    ap (λ (g : HostState). ok_answer (with_host state g))
    (ap (λ (z : EndpointState). all_discarded host_discarded state.host z.pending) same ∙ ap (λ (g : HostState). all_discarded host_discarded g x.pending) host_was ∙ sym bus))

line-discarded : (h : HostState) (t : ℕ) → LineGoesOn h (host_discarded h t)
line-discarded h t =
    let uses = uses-discarded h t in
    record { front = []; steps = sym uses.steps; spare = uses.spare; devices = uses.devices; interfaces = uses.interfaces; endpoints = uses.endpoints }

pub line-all_discarded : (h : HostState) (ts : List ℕ) → LineGoesOn h (all_discarded host_discarded h ts)
line-all_discarded h [] = line-keeps h h (keeps-open h)
line-all_discarded h (t ∷ ts) =
    line-trans h (all_discarded host_discarded h ts) (host_discarded (all_discarded host_discarded h ts) t) (line-all_discarded h ts) (line-discarded (all_discarded host_discarded h ts) t)
