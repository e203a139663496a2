-- Handles of interfaces are cloned, closed and released.
use Rattle.std.proofs.Common.{◌≡◌, ℕ, Bool, true, false, List, Option, Some, None, Ok, Err, refl, ap, sym, ◌∙◌, subst}
use Rattle.usb_device_tables.specs.History.{value_at}
use Rattle.usb_error.specs.ErrorState.{ErrorState}
use Rattle.usb_error.specs.Errors.{interface_in_use_error}
use Rattle.usb_session_text.specs.Calls.{ok_line, condition_line, error_line}
use Rattle.usb_device_ledger.specs.Entries.{ClaimedInterface}
use Rattle.usb_device_host.specs.HostState.{HostState}
use Rattle.usb_device_host.specs.HandleStates.{InterfaceState}
use Rattle.usb_device.specs.HandleCalls as calls
use Rattle.usb_device_host.specs.Handles.{handle_cloned, handle_closed}
use Rattle.usb_device_host.specs.Owners.{is_shared}
use Rattle.usb_session_calls.specs.Names.{named, is_free, freed, set_name}
use Rattle.usb_session_calls.specs.State.{State}
use Rattle.usb_session_calls.specs.OpenAt.{interface_at}
use Rattle.usb_session_calls.specs.Clones.{clone_interface_answer}
use Rattle.usb_session_calls.specs.Closes.{release_answer}
use Rattle.usb_session_calls.specs.SessionState.{SessionState, IsSound}
use Rattle.usb_session_calls.specs.Relation.{Represents}
use Rattle.usb_session_calls.proofs.NameLemmas.{freed-none, put-back}
use Rattle.usb_session_calls.proofs.Answering.{Gives, barred-gives, host_is}
use Rattle.usb_session_calls.proofs.Handled.{represents-handled}

-- what a session has open under a name is open in the state
interface_is : (s : SessionState) (state : State) (i : ℕ) (o : Option InterfaceState) → Represents s state → named s.interfaces i ≡ o → named state.interfaces i ≡ o
interface_is s state i o r at = ap (λ (v : SessionState). named v.interfaces i) (sym r) ∙ at

pub interface-none : (s : SessionState) (state : State) (i : ℕ) → Represents s state → named s.interfaces i ≡ None → interface_at state i ≡ None
interface-none s state i r none = rw (interface_is s state i None r none) refl

pub interface-some : (s : SessionState) (state : State) (i : ℕ) (f : InterfaceState) (c : ClaimedInterface) → Represents s state → named s.interfaces i ≡ Some f → value_at s.host.interfaces f.key ≡ Some c → interface_at state i ≡ Some (record { handle = f; claimed = c })
interface-some s state i f c r at there =
    let interface : value_at state.host.interfaces f.key ≡ Some c = ap (λ (v : SessionState). value_at v.host.interfaces f.key) (sym r) ∙ there in
    rw (interface_is s state i (Some f) r at, interface) refl

-- one more handle of an interface
pub clone_interface-none : (s : SessionState) (state : State) (n i : ℕ) → named s.interfaces i ≡ None → Represents s state → Gives s condition_line (clone_interface_answer state n i)
unfolding clone_interface_answer
clone_interface-none s state n i none r = rw (interface_is s state i None r none) (barred-gives s state r)

pub clone_interface-used : (s : SessionState) (state : State) (n i : ℕ) (f : InterfaceState) → named s.interfaces i ≡ Some f → is_free s.interfaces n ≡ false → Represents s state → Gives s condition_line (clone_interface_answer state n i)
unfolding clone_interface_answer
clone_interface-used s state n i f at used r =
    let here : is_free state.interfaces n ≡ false = ap (λ (v : SessionState). is_free v.interfaces n) (sym r) ∙ used in
    rw (interface_is s state i (Some f) r at, here) (barred-gives s state r)

pub clone_interface-gives : (s : SessionState) (state : State) (now : HostState) (after : List (Option InterfaceState)) (n i : ℕ) (f : InterfaceState) → named s.interfaces i ≡ Some f → is_free s.interfaces n ≡ true → now ≡ handle_cloned s.host f.key → after ≡ set_name s.interfaces n f → Represents s state → Gives (record s { host = now; interfaces = after }) ok_line (clone_interface_answer state n i)
unfolding clone_interface_answer
clone_interface-gives s state now after n i f at free is put r =
    let here : is_free state.interfaces n ≡ true = ap (λ (v : SessionState). is_free v.interfaces n) (sym r) ∙ free in
    let host : now ≡ handle_cloned state.host f.key = is ∙ ap (λ (h : HostState). handle_cloned h f.key) (host_is s state r) in
    let names : after ≡ set_name state.interfaces n f = put ∙ ap (λ (v : SessionState). set_name v.interfaces n f) r in
    rw (interface_is s state i (Some f) r at, here)
    (record { state = represents-handled s state now (handle_cloned state.host f.key) after (set_name state.interfaces n f) r host names; same = refl })

-- a claim ends, or its interface has another owner
pub release-none : (s : SessionState) (state : State) (after : List (Option InterfaceState)) (i : ℕ) → named s.interfaces i ≡ None → after ≡ freed s.interfaces i → Represents s state → Gives (record s { interfaces = after }) condition_line (release_answer state i)
unfolding release_answer
release-none s state after i none rest r =
    let names : after ≡ state.interfaces = rest ∙ freed-none s.interfaces i none ∙ ap (λ (v : SessionState). v.interfaces) r in
    rw (interface-none s state i r none)
    (record { state = represents-handled s state s.host state.host after state.interfaces r (host_is s state r) names; same = refl })

shared_is : (s : SessionState) (state : State) (f : InterfaceState) (c : ClaimedInterface) (b : Bool) → Represents s state → is_shared s.host f.key c ≡ b → is_shared state.host f.key c ≡ b
shared_is s state f c b r is = ap (λ (h : HostState). is_shared h f.key c) (sym (host_is s state r)) ∙ is

pub release-gives : (s : SessionState) (state : State) (now : HostState) (after : List (Option InterfaceState)) (i : ℕ) (f : InterfaceState) (c : ClaimedInterface) → named s.interfaces i ≡ Some f → value_at s.host.interfaces f.key ≡ Some c → is_shared s.host f.key c ≡ false → now ≡ handle_closed s.host f.key → after ≡ freed s.interfaces i → Represents s state → Gives (record s { host = now; interfaces = after }) ok_line (release_answer state i)
unfolding release_answer
release-gives s state now after i f c at there alone is rest r =
    let host : now ≡ handle_closed state.host f.key = is ∙ ap (λ (h : HostState). handle_closed h f.key) (host_is s state r) in
    let names : after ≡ freed state.interfaces i = rest ∙ ap (λ (v : SessionState). freed v.interfaces i) r in
    rw (interface-some s state i f c r at there, shared_is s state f c false r alone)
    (record { state = represents-handled s state now (handle_closed state.host f.key) after (freed state.interfaces i) r host names; same = refl })

pub release-refused : (s : SessionState) (state : State) (now : HostState) (after : List (Option InterfaceState)) (i : ℕ) (f : InterfaceState) (c : ClaimedInterface) (error : ErrorState) → named s.interfaces i ≡ Some f → value_at s.host.interfaces f.key ≡ Some c → is_shared s.host f.key c ≡ true → error ≡ interface_in_use_error → now ≡ s.host → after ≡ s.interfaces → Represents s state → Gives (record s { host = now; interfaces = after }) (error_line error) (release_answer state i)
unfolding release_answer
release-refused s state now after i f c error at there shared in_use same put r =
    rw (interface-some s state i f c r at there, shared_is s state f c true r shared)
    (record {
      state = represents-handled s state now state.host after state.interfaces r (same ∙ host_is s state r) (put ∙ ap (λ (v : SessionState). v.interfaces) r);
      same = ap error_line (sym in_use);
    })

-- the name stays
pub sound-given_back : (s : SessionState) (now : HostState) (after : List (Option InterfaceState)) → IsSound s → now ≡ s.host → after ≡ s.interfaces → IsSound (record s { host = now; interfaces = after })
sound-given_back s now after sound same put =
    subst (λ l. IsSound (record s { host = now; interfaces = l })) (sym put) (subst (λ (h : HostState). IsSound (record s { host = h })) (sym same) sound)

pub given_back : {X : Type 0} (xs mid after : List (Option X)) (n : ℕ) (x y : X) → named xs n ≡ Some x → mid ≡ freed xs n → y ≡ x → after ≡ set_name mid n y → after ≡ xs
given_back xs mid after n x y was rest back put =
    put ∙ ap (λ l. set_name l n y) rest ∙ ap (set_name (freed xs n) n) back ∙ put-back xs n x was

-- what the answer to a release says
pub alone-answer : (handle : InterfaceState) (b : Bool) (done : Unit {0}) → Ok done ≡ calls.release_answer handle b → b ≡ false
alone-answer handle true done is = absurd (cc)
alone-answer handle false done is = refl

pub shared-answer : (handle back : InterfaceState) (error : ErrorState) (b : Bool) → Err (back, error) ≡ calls.release_answer handle b → (b ≡ true) × (back ≡ handle) × (error ≡ interface_in_use_error)
shared-answer handle back error true is =
    let same : (back, error) ≡ (handle, interface_in_use_error) = cc in
    (refl, ap (λ (p : InterfaceState × ErrorState). p.0) same, ap (λ (p : InterfaceState × ErrorState). p.1) same)
shared-answer handle back error false is = absurd (cc)
