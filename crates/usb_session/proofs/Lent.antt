-- Lines with steps of their own: the steps are lent, a call is made, and the rest of them is applied.
use Rattle.std.proofs.Common.{◌≡◌, ℕ, ◌≤◌, ◌+◌, List, length, Option, Some, Result, Ok, Err, Bool, String, string_bytes, refl, ap, ◌∙◌}
use Rattle.std.specs.declared.alloc.Global.{Global}
use Rattle.usb_device_ledger.proofs.DeviceLemmas.{counts-same}
use Rattle.usb_kernel_devices.specs.declared.step.KernelStep.{KernelStep}
use Rattle.usb_kernel.specs.Extends.{Extends}
use Rattle.usb_kernel.proofs.Extends.{extends-trans}
use Rattle.usb_device_endpoint.specs.EndpointState.{EndpointState}
use Rattle.usb_device_endpoint.specs.Handles.{Stands, KeepsOthers}
use Rattle.usb_device_endpoint.proofs.Frames.{Stands-later, keeps_others}
use Rattle.usb_device_host.specs.HostState.{HostState}
use Rattle.usb_device_host.specs.HostBus.{bus_of}
use Rattle.usb_device_host.specs.HostFrames.{LineGoesOn}
use Rattle.usb_device_host.specs.HostTurns.{host_rest}
use Rattle.usb_device_host.proofs.WaitFrames.{went-rest, rest-steps, rest-spare}
use Rattle.usb_io.specs.Readers.{ReaderState}
use Rattle.usb_io.specs.Writers.{WriterState}
use Rattle.usb_msg.specs.Clients.{ClientState}
use Rattle.usb_session_calls.specs.State.{State}
use Rattle.usb_session_calls.specs.Answer.{Answer}
use Rattle.usb_session_calls.specs.Steps.{with_steps, then_applied, along_steps, stepped_all}
use Rattle.usb_session_calls.specs.EndpointNames.{EndpointName}
use Rattle.usb_session_calls.specs.SessionState.{SessionState, IsSound, open_under}
use Rattle.usb_session_calls.specs.Relation.{Represents}
use Rattle.usb_session_calls.specs.Answered.{Answered, Answers}
use Rattle.usb_session_calls.specs.OpenCalls.{CallKeeps}
use Rattle.usb_device_host.proofs.ClaimFrames.{goes-trans}
use Rattle.usb_session_calls.proofs.Called.{KeepsSession, with_open, sound-put}
use Rattle.usb_session_calls.proofs.ControlCode.{sound-controlled}
use Rattle.usb_session_calls.proofs.ControlHosts.{keeps-same}
use Rattle.usb_session_calls.proofs.NamedKeys.{OpensNone, none-goes, none-then}
use Rattle.usb_session.proofs.Replaced.{Replaces}
use Rattle.usb_session_streams.proofs.AccountLemmas.{of-lent}

abbrev lent_host : HostState → List KernelStep → HostState
lent_host host steps = record host { steps = steps }

pub lent_is : (host at : HostState) (items steps : List KernelStep) → at ≡ record host { steps = items } → items ≡ steps → at ≡ record host { steps = steps }
lent_is host at items steps is same = is ∙ ap (λ (l : List KernelStep). record host { steps = l }) same

-- what stands in the host stands in it behind the steps
stands-rested : (now : HostState) (x : EndpointState) → Stands (bus_of now) x → Stands (bus_of (host_rest now)) x
stands-rested now x stands = Stands-later (bus_of now) (bus_of (host_rest now)) x stands (went-rest now).later

-- over the line no step is left, and what is claimed stays
keeps-lent : (host now : HostState) (steps : List KernelStep) → Extends host.kernel.past now.kernel.past → LineGoesOn (lent_host host steps) now → KeepsSession host (host_rest now)
keeps-lent host now steps past line =
    let rest = (went-rest now).line in
    record { idle = rest-steps now; past = extends-trans host.kernel.past now.kernel.past (host_rest now).kernel.past past (went-rest now).later.past; devices = counts-same host.devices (host_rest now).devices (rest.devices ∙ line.devices); interfaces = goes-trans host.interfaces now.interfaces (host_rest now).interfaces line.interfaces rest.interfaces }

others-lent : (host now : HostState) (steps : List KernelStep) (key : ℕ) → KeepsOthers (bus_of (lent_host host steps)) (bus_of now) key → KeepsOthers (bus_of host) (bus_of (host_rest now)) key
others-lent host now steps key others =
    let later = (went-rest now).later in
    keeps_others (bus_of host) (bus_of (host_rest now)) key
    (λ t k apart is. ap (λ (f : ℕ → Option ℕ). f t) later.owner ∙ others.tickets t k apart is)
    (λ k apart is. ap (λ (f : ℕ → Bool). f k) later.keys ∙ others.keys k apart is)

none-lent : (host now : HostState) (steps : List KernelStep) → LineGoesOn (lent_host host steps) now → OpensNone host.endpoints (host_rest now).endpoints
none-lent host now steps line =
    none-then host.endpoints now.endpoints (host_rest now).endpoints (none-goes host.endpoints now.endpoints line.endpoints)
    (none-goes now.endpoints (host_rest now).endpoints (went-rest now).line.endpoints)

-- the endpoint of a name was called between
pub sound-lent : (s : SessionState) (steps : List KernelStep) (at now last : HostState) (es : List (Option EndpointState)) (rs : List (Option ReaderState)) (ws : List (Option WriterState)) (cs : List (Option ClientState)) (e : EndpointName) (x y : EndpointState) → IsSound s → at ≡ record s.host { steps = steps } → open_under s e ≡ Some x → Replaces s es rs ws cs e (Some y) → CallKeeps at now x y → last ≡ host_rest now → IsSound (with_open s last es rs ws cs)
sound-lent s steps at now last es rs ws cs e x y sound is was replaces keeps rest =
    let k = rw is at keeps in
    rw rest
    (sound-put s (host_rest now) es rs ws cs e x sound was replaces.counts (keeps-lent s.host now steps k.past k.line) (others-lent s.host now steps x.key k.others) (none-lent s.host now steps k.line)
    y replaces.changed (stands-rested now y k.stands) k.key k.maximum
    (of-lent s.host now steps x.key x.pending y.pending k.accounts))

-- the session to which the steps are lent
represents-lent : (s : SessionState) (steps : List KernelStep) (at : HostState) → at ≡ record s.host { steps = steps } → (state : State) → Represents s state → Represents (record s { host = at }) (with_steps state steps)
represents-lent s steps at is state r = rw (is, r) refl

-- its answer, and then the rest of the steps
rested-answered : (s : SessionState) (now : HostState) (before after : List ℕ) (a : Answer) → s.host ≡ now → Answered s before after a → Answered (record s { host = host_rest now }) before after (then_applied a)
rested-answered s now before after a is answered =
    record {
      state = rw (← is, answered.state) refl;
      line = answered.line;
    }

-- what a call answers to which the steps were lent
pub answers-along : {E : Type 0} (S s after : SessionState) (steps : List KernelStep) (at now last : HostState) (before text : String Global) (result : Result Unit E) (call : State → Answer) → s ≡ S → at ≡ record s.host { steps = steps } → after.host ≡ now → last ≡ host_rest now → Answers (record s { host = at }) after before text result call
    → Answers S (record after { host = last }) before text result (λ state. along_steps state steps call)
answers-along S s after steps at now last before text (Err error) call view is host rest answers = tt
answers-along S s after steps at now last before text (Ok done) call view is host rest answers =
    λ state r.
    rw rest
    (rested-answered after now (string_bytes before) (string_bytes text) (call (with_steps state steps)) host
    (answers (with_steps state steps) (represents-lent s steps at is state (view ∙ r))))

-- nothing was called
pub sound-stepped : (s : SessionState) (steps : List KernelStep) (at last : HostState) → IsSound s → at ≡ record s.host { steps = steps } → last ≡ host_rest at → IsSound (record s { host = last })
sound-stepped s steps at last sound is rest = sound-controlled s steps at at last sound is (keeps-same at) rest

pub steps-represent : (s S : SessionState) (steps : List KernelStep) (at last : HostState) → s ≡ S → at ≡ record s.host { steps = steps } → last ≡ host_rest at → (state : State) → Represents S state → Represents (record s { host = last }) (stepped_all state steps)
unfolding stepped_all
steps-represent s S steps at last view is rest state r = rw (rest, is, view ∙ r) refl

-- each step of the line used a place
pub spare-lent : (s S : SessionState) (steps : List KernelStep) (at now last : HostState) → s ≡ S → at ≡ record s.host { steps = steps } → LineGoesOn at now → last ≡ host_rest now → length steps ≤ S.host.kernel.spare → last.kernel.spare + length steps ≡ S.host.kernel.spare
spare-lent s S steps at now last view is line rest room =
    let h = is ∙ ap (λ (v : SessionState). record v.host { steps = steps }) view in
    rw rest
    (rest-spare (lent_host S.host steps) now (rw h at line) room)
