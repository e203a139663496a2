-- Control transfers as the code makes them: of a device or of an interface that is open under a name, with the steps of the line.
use Rattle.std.proofs.Common.{◌≡◌, ℕ, ◌≤◌, ◌+◌, Bool, true, false, cond, List, ◌++◌, length, Option, Some, None, Result, Ok, Err, String, string_bytes, refl, ap, sym, ◌∙◌, subst}
use Rattle.std.specs.Prelude.{OnOk, option_and_then}
use Rattle.std.specs.Borrow.{Bor}
use Rattle.std.specs.Option.{option_map, option_copied}
use Rattle.std.specs.declared.alloc.Global.{Global}
use Rattle.usb_desc.specs.declared.error.Fail.{Fail}
use Rattle.usb_device_tables.specs.History.{value_at}
use Rattle.usb_error.specs.Outcomes.{result_map}
use Rattle.usb_kernel_devices.specs.declared.step.KernelStep.{KernelStep}
use Rattle.usb_kernel.proofs.Extends.{extends-trans}
use Rattle.usb_device_endpoint.proofs.Frames.{Stands-later}
use Rattle.usb_device_ledger.specs.declared.opened.OpenDevice.{OpenDevice}
use Rattle.usb_device_ledger.specs.Entries.{ClaimedInterface}
use Rattle.usb_device_ledger.proofs.DeviceLemmas.{counts-same}
use Rattle.usb_device_host.specs.HostState.{HostState}
use Rattle.usb_device_host.specs.HostBus.{bus_of}
use Rattle.usb_device_host.specs.HostTurns.{host_rest}
use Rattle.usb_device_host.specs.CallErrors.{Leaves}
use Rattle.usb_device_host.proofs.ClaimFrames.{goes-trans}
use Rattle.usb_device_host.proofs.WaitFrames.{went-rest, rest-steps}
use Rattle.usb_device_host.specs.HandleStates.{InterfaceState, StandsDevice, StandsInterface}
use Rattle.usb_device.specs.ControlCalls as calls
use Rattle.usb_device.specs.DescriptorCalls.{LeavesEither}
use Rattle.usb_script_words.specs.declared.control.ControlTarget.{ControlTarget}
use Rattle.usb_script_words.specs.declared.control.ControlTarget.TheVariants.{Device, Interface}
use Rattle.usb_session_text.specs.Calls.{condition_line}
use Rattle.usb_session_calls.specs.Names.{named}
use Rattle.usb_session_calls.specs.State.{State, with_host}
use Rattle.usb_session_calls.specs.OpenAt.{DeviceAt, InterfaceAt, device_with, interface_with}
use Rattle.usb_session_calls.specs.Answer.{answer_with, condition_answer, if_open}
use Rattle.usb_session_calls.specs.Controls.{device_of_target, target_of, bars_control, control_called, control_on, on_control, came_line}
use Rattle.usb_session_calls.specs.declared.call.ControlCall.{ControlCall}
use Rattle.usb_session_calls.specs.SessionState.{SessionState, IsSound}
use Rattle.usb_session_calls.specs.Relation.{Represents}
use Rattle.usb_session_calls.specs.Answered.{Answered, Answers}
use Rattle.usb_session_calls.specs.TargetCalls.{DevicesStand, InterfacesStand, KeepsHandles, TargetAnswered, TargetAnswers, number_of_target, as_tried}
use Rattle.usb_session_calls.proofs.Answering.{told-answered, host_is}
use Rattle.usb_session_calls.proofs.Called.{KeepsSession, sound-host, represents-host}
use Rattle.usb_session_calls.proofs.ControlHosts.{spare-rested}
use Rattle.usb_session_streams.proofs.AccountLemmas.{accounts-lent}
use Rattle.usb_session_calls.proofs.LentHosts.{stands-lent}
use Rattle.usb_session_calls.proofs.NameLemmas.{found_at}
use Rattle.usb_session_calls.proofs.NamedKeys.{OpensNone}

-- what is open under a name, and the number of its device
pub record DeviceFound (h : HostState) (devices : List (Option ℕ)) (interfaces : List (Option InterfaceState)) (target : ControlTarget) (key : ℕ) : Type 0 where
  pub device : OpenDevice
  pub at : value_at h.devices key ≡ Some device
  pub number : number_of_target h devices interfaces target ≡ Some device.device

number-device : (h : HostState) (devices : List (Option ℕ)) (interfaces : List (Option InterfaceState)) (d key : ℕ) (o : OpenDevice) → named devices d ≡ Some key → value_at h.devices key ≡ Some o → number_of_target h devices interfaces (Device d) ≡ Some o.device
number-device h devices interfaces d key o at there = rw (at, there) refl

pub device-found : (h : HostState) (devices : List (Option ℕ)) (interfaces : List (Option InterfaceState)) (name number : ℕ) (o : Option (Bor ℕ)) (key : ℕ) → DevicesStand h devices → number ≡ name → option_copied o ≡ named devices number → option_copied o ≡ Some key → DeviceFound h devices interfaces (Device name) key
device-found h devices interfaces name number o key stand same is some =
    let here = found_at devices devices name number o (Some key) refl same is some in
    let stands = stand name key here in
    record { device = stands.device; at = stands.at; number = number-device h devices interfaces name key stands.device here stands.at }

pub record InterfaceFound (h : HostState) (devices : List (Option ℕ)) (interfaces : List (Option InterfaceState)) (target : ControlTarget) (key : ℕ) : Type 0 where
  pub claim : ClaimedInterface
  pub at : value_at h.interfaces key ≡ Some claim
  pub number : number_of_target h devices interfaces target ≡ Some claim.device

number-interface : (h : HostState) (devices : List (Option ℕ)) (interfaces : List (Option InterfaceState)) (i : ℕ) (f : InterfaceState) (c : ClaimedInterface) → named interfaces i ≡ Some f → value_at h.interfaces f.key ≡ Some c → number_of_target h devices interfaces (Interface i) ≡ Some c.device
number-interface h devices interfaces i f c at there = rw (at, there) refl

pub interface-found : (h : HostState) (devices : List (Option ℕ)) (interfaces : List (Option InterfaceState)) (name number : ℕ) (o : Option (Bor InterfaceState)) (f : InterfaceState) → InterfacesStand h interfaces → number ≡ name → option_copied o ≡ named interfaces number → option_copied o ≡ Some f → InterfaceFound h devices interfaces (Interface name) f.key
interface-found h devices interfaces name number o f stand same is some =
    let here = found_at interfaces interfaces name number o (Some f) refl same is some in
    let stands = stand name f here in
    record { claim = stands.claim; at = stands.at; number = number-interface h devices interfaces name f stands.claim here stands.at }

pub number-shown : (h : HostState) (devices names : List (Option ℕ)) (interfaces others : List (Option InterfaceState)) (target : ControlTarget) → devices ≡ names → interfaces ≡ others → number_of_target h devices interfaces target ≡ number_of_target h names others target
number-shown h devices names interfaces others target same also = ap (λ l. number_of_target h l interfaces target) same ∙ ap (λ l. number_of_target h names l target) also

-- what a call answered that did not lack memory
pub came-as : {A X E : Type 0} (view : A → X) (tried : Result A (Fail E)) (answer : Result A E) (came : Option (Result X E)) → tried ≡ as_tried answer → calls.Answers (result_map view tried) came → came ≡ Some (result_map view answer)
came-as view tried (Ok x) came is answers = rw is at answers
came-as view tried (Err error) came is answers = rw is at answers

pub left-as : {A E S : Type 0} (tried : Result A (Fail E)) (answer : Result A E) (new called kept : S) → tried ≡ as_tried answer → Leaves tried new called kept → new ≡ called
left-as tried (Ok x) new called kept is leaves = rw is at leaves
left-as tried (Err error) new called kept is leaves = rw is at leaves

pub either-as : {A B E F S : Type 0} (tried : Result A (Fail E)) (answer : Result A E) (came : Option (Result B F)) (new called kept : S) → tried ≡ as_tried answer → LeavesEither tried came new called kept → new ≡ called
either-as tried (Ok x) came new called kept is leaves = rw is at leaves
either-as tried (Err error) came new called kept is leaves = rw is at leaves

pub plain-as : {A E : Type 0} (tried : Result A (Fail E)) (answer : Result A E) (came : Option (Result A E)) → tried ≡ as_tried answer → calls.Answers tried came → came ≡ Some answer
plain-as tried (Ok x) came is answers = rw is at answers
plain-as tried (Err error) came is answers = rw is at answers

pub sent-same : {X E : Type 0} (x : X) (r : Result (Unit {0}) E) → result_map (λ _. tt) (result_map (λ _. x) r) ≡ r
sent-same x (Ok done) = refl
sent-same x (Err error) = refl

-- a call that is made
called-answers : {E : Type 0} (after : HostState → ℕ → HostState) (line : HostState → ℕ → List ℕ) (h new : HostState) (before text : String Global) (result : Result Unit E) (o : Option ℕ) (d : ℕ) (printed : List ℕ) → bars_control h.kernel.past ≡ false → o ≡ Some d → new ≡ after h d → printed ≡ line h d → OnOk result (string_bytes text ≡ string_bytes before ++ printed) → TargetAnswers h new before text result after line o
called-answers after line h new before text (Err error) o d printed free some is told_ text_is = tt
called-answers after line h new before text (Ok done) o d printed free some is told_ text_is =
    rw some (record { host = rw free is; line = rw free (text_is ∙ ap (λ l. string_bytes before ++ l) told_) })

-- whose answer came
asked : {R Y : Type 0} (f : R → ℕ → Y) (given request : R) (nanoseconds timeout : ℕ) → given ≡ request → nanoseconds ≡ timeout → f given nanoseconds ≡ f request timeout
asked f given request nanoseconds timeout same also = ap (λ r. f r nanoseconds) same ∙ ap (f request) also

module _ {F E R : Type 0} (after : R → ℕ → HostState → ℕ → HostState) (given request : R) (nanoseconds timeout : ℕ) (same : given ≡ request) (also : nanoseconds ≡ timeout) where
  pub came-answers : {A X : Type 0} (view : A → X) (print : Result X F → List ℕ) (came : R → ℕ → HostState → ℕ → Option (Result X F)) (h new : HostState) (before text : String Global) (result : Result Unit E) (o : Option ℕ) (d : ℕ) (tried : Result A (Fail F)) (answer : Result A F)
      → bars_control h.kernel.past ≡ false → o ≡ Some d → tried ≡ as_tried answer → calls.Answers (result_map view tried) (came given nanoseconds h d) → new ≡ after given nanoseconds h d → OnOk result (string_bytes text ≡ string_bytes before ++ print (result_map view answer))
      → TargetAnswers h new before text result (after request timeout) (λ g n. came_line print (came request timeout g n)) o
  came-answers view print came h new before text result o d tried answer free some is answers left text_is =
      let came_is : came request timeout h d ≡ Some (result_map view answer) = sym (asked (λ r t. came r t h d) given request nanoseconds timeout same also) ∙ came-as view tried answer (came given nanoseconds h d) is answers in
      called-answers (after request timeout) (λ g n. came_line print (came request timeout g n)) h new before text result o d (print (result_map view answer)) free some (left ∙ asked (λ r t. after r t h d) given request nanoseconds timeout same also) (sym (ap (came_line print) came_is)) text_is

  -- which is printed as it is
  pub plain-answers : {A : Type 0} (print : Result A F → List ℕ) (came : R → ℕ → HostState → ℕ → Option (Result A F)) (h new : HostState) (before text : String Global) (result : Result Unit E) (o : Option ℕ) (d : ℕ) (tried : Result A (Fail F)) (answer : Result A F)
      → bars_control h.kernel.past ≡ false → o ≡ Some d → tried ≡ as_tried answer → calls.Answers tried (came given nanoseconds h d) → new ≡ after given nanoseconds h d → OnOk result (string_bytes text ≡ string_bytes before ++ print answer)
      → TargetAnswers h new before text result (after request timeout) (λ g n. came_line print (came request timeout g n)) o
  plain-answers print came h new before text result o d tried answer free some is answers left text_is =
      let came_is : came request timeout h d ≡ Some answer = sym (asked (λ r t. came r t h d) given request nanoseconds timeout same also) ∙ plain-as tried answer (came given nanoseconds h d) is answers in
      called-answers (after request timeout) (λ g n. came_line print (came request timeout g n)) h new before text result o d (print answer) free some (left ∙ asked (λ r t. after r t h d) given request nanoseconds timeout same also) (sym (ap (came_line print) came_is)) text_is

-- what is open under names stands in the host with the steps too
pub devices-lent : (s : SessionState) (steps : List KernelStep) (at : HostState) (names : List (Option ℕ)) → IsSound s → at ≡ record s.host { steps = steps } → names ≡ s.devices → DevicesStand at names
devices-lent s steps at names sound is same d key open_ =
    let was = sound.devices_stand d key (sym (ap (λ l. named l d) same) ∙ open_) in
    subst (λ (h : HostState). StandsDevice h key) (sym is) (record { device = was.device; at = was.at; open_handle = was.open_handle })

pub interfaces-lent : (s : SessionState) (steps : List KernelStep) (at : HostState) (names : List (Option InterfaceState)) → IsSound s → at ≡ record s.host { steps = steps } → names ≡ s.interfaces → InterfacesStand at names
interfaces-lent s steps at names sound is same i f open_ =
    let was = sound.interfaces_stand i f (sym (ap (λ l. named l i) same) ∙ open_) in
    subst (λ (h : HostState). StandsInterface h f) (sym is) (record { claim = was.claim; at = was.at; number = was.number; open_handle = was.open_handle; device = was.device })

-- the session behind the call and the rest of the steps
pub sound-controlled : (s : SessionState) (steps : List KernelStep) (at now last : HostState) → IsSound s → at ≡ record s.host { steps = steps } → KeepsHandles at now → last ≡ host_rest now → IsSound (record s { host = last })
sound-controlled s steps at now last sound is keeps rest =
    let here : HostState = record s.host { steps = steps } in
    let k = subst (λ (h : HostState). KeepsHandles h now) is keeps in
    let goes = went-rest now in
    let session : KeepsSession s.host (host_rest now) = record {
      idle = rest-steps now;
      past = extends-trans s.host.kernel.past now.kernel.past (host_rest now).kernel.past k.past goes.later.past;
      devices = counts-same s.host.devices (host_rest now).devices (goes.line.devices ∙ k.devices);
      interfaces = goes-trans s.host.interfaces now.interfaces (host_rest now).interfaces k.interfaces goes.line.interfaces;
    } in
    let none : OpensNone s.host.endpoints (host_rest now).endpoints = λ key open_. k.opened key (sym (ap (λ (keys : ℕ → Bool). keys key) goes.later.keys) ∙ open_) in
    subst (λ (h : HostState). IsSound (record s { host = h })) (sym rest)
    (sound-host s (host_rest now) sound session
    (λ x stands. Stands-later (bus_of now) (bus_of (host_rest now)) x (k.stands x (stands-lent s.host (record s.host { steps = steps }) steps x refl stands)) goes.later) none
    (accounts-lent s.host now steps k.accounts))

pub spare-controlled : (S s : SessionState) (steps : List KernelStep) (at now last : HostState) → s ≡ S → at ≡ record s.host { steps = steps } → KeepsHandles at now → last ≡ host_rest now → length steps ≤ S.host.kernel.spare → last.kernel.spare + length steps ≡ S.host.kernel.spare
spare-controlled S s steps at now last view is keeps rest room =
    let k = subst (λ (h : HostState). KeepsHandles h now) (is ∙ ap (λ (v : SessionState). record v.host { steps = steps }) view) keeps in
    ap (λ (h : HostState). h.kernel.spare + length steps) rest ∙ spare-rested (record S.host { steps = steps }) now k.front k.steps k.spare room

-- whom the state has under a name
number-at : (key : ℕ) (o : Option OpenDevice) → option_map (λ (x : DeviceAt). x.opened.device) (option_map (device_with key) o) ≡ option_map (λ (o : OpenDevice). o.device) o
number-at key None = refl
number-at key (Some o) = refl

number-by : (devices : List (Option OpenDevice)) (o : Option ℕ) → option_map (λ (x : DeviceAt). x.opened.device) (option_and_then (λ key. option_map (device_with key) (value_at devices key)) o) ≡ option_map (λ (o : OpenDevice). o.device) (option_and_then (λ key. value_at devices key) o)
number-by devices None = refl
number-by devices (Some key) = number-at key (value_at devices key)

claimed-at : (f : InterfaceState) (o : Option ClaimedInterface) → option_map (λ (x : InterfaceAt). x.claimed.device) (option_map (interface_with f) o) ≡ option_map (λ (c : ClaimedInterface). c.device) o
claimed-at f None = refl
claimed-at f (Some c) = refl

claimed-by : (interfaces : List (Option ClaimedInterface)) (o : Option InterfaceState) → option_map (λ (x : InterfaceAt). x.claimed.device) (option_and_then (λ (f : InterfaceState). option_map (interface_with f) (value_at interfaces f.key)) o) ≡ option_map (λ (c : ClaimedInterface). c.device) (option_and_then (λ (f : InterfaceState). value_at interfaces f.key) o)
claimed-by interfaces None = refl
claimed-by interfaces (Some f) = claimed-at f (value_at interfaces f.key)

number-of : (state : State) (target : ControlTarget) → device_of_target state target ≡ number_of_target state.host state.devices state.interfaces target
number-of state (Device d) = number-by state.host.devices (named state.devices d)
number-of state (Interface i) = claimed-by state.host.interfaces (named state.interfaces i)

pub number-is : (s : SessionState) (state : State) (target : ControlTarget) → Represents s state → device_of_target state target ≡ number_of_target s.host s.devices s.interfaces target
number-is s state target r = number-of state target ∙ ap (λ (v : SessionState). number_of_target v.host v.devices v.interfaces target) (sym r)

-- the state behind a call: it may be barred
control-made : (s : SessionState) (state : State) (now made : HostState) (before text line : List ℕ) (b : Bool) → Represents s state → now ≡ cond b s.host made → text ≡ before ++ cond b condition_line line → Answered (record s { host = now }) before text (cond b (condition_answer state) (answer_with (with_host state made) line))
control-made s state now made before text line true r is printed =
    told-answered (record s { host = now }) state before text condition_line (subst (λ (h : HostState). Represents (record s { host = h }) state) (sym is) r) printed
control-made s state now made before text line false r is printed =
    told-answered (record s { host = now }) (with_host state made) before text line
    (subst (λ (h : HostState). Represents (record s { host = h }) (with_host state made)) (sym is) (represents-host s state made r)) printed

-- or what it names is not open
module _ (call : ControlCall) where
  abbrev after : HostState → ℕ → HostState
  after h n = (control_called call h n).host

  abbrev print : HostState → ℕ → List ℕ
  print h n = (control_called call h n).line

  answered-by : (s : SessionState) (state : State) (now : HostState) (before text : List ℕ) (o : Option ℕ) → Represents s state → TargetAnswered state.host now before text after print o → Answered (record s { host = now }) before text (if_open o (control_on call state) (condition_answer state))
  answered-by s state now before text None r a =
      told-answered (record s { host = now }) state before text condition_line (subst (λ (h : HostState). Represents (record s { host = h }) state) (host_is s state r ∙ sym a.host) r) a.line
  answered-by s state now before text (Some n) r a =
      control-made s state now (after state.host n) before text (print state.host n) (bars_control state.host.kernel.past) r (a.host ∙ ap (λ (h : HostState). cond (bars_control state.host.kernel.past) h (after state.host n)) (sym (host_is s state r))) a.line

  -- what a control transfer answers, where the session has this host
  pub answers-controlled : {E : Type 0} (s : SessionState) (at now : HostState) (before text : String Global) (result : Result Unit E) → TargetAnswers at now before text result after print (number_of_target at s.devices s.interfaces (target_of call)) → Answers (record s { host = at }) (record s { host = now }) before text result (λ state. on_control state call)
  unfolding on_control
  answers-controlled s at now before text (Err error) answered = tt
  answers-controlled s at now before text (Ok done) answered =
      λ state r.
      let lent : SessionState = record s { host = at } in
      answered-by lent state now (string_bytes before) (string_bytes text) (device_of_target state (target_of call)) r
      (subst (λ (h : HostState). TargetAnswered h now (string_bytes before) (string_bytes text) after print (device_of_target state (target_of call))) (host_is lent state r)
      (subst (λ o. TargetAnswered at now (string_bytes before) (string_bytes text) after print o) (sym (number-is lent state (target_of call) r)) answered))
