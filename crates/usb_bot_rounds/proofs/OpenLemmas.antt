-- What is opened on the first host is refused nothing.
use Rattle.std.proofs.Common.{◌≡◌, ℕ, IfOk, IfErr, OnOk, arith, false, ◌*◌, List, replicate, length, Option, Some, None, Result, Ok, Err, refl, sym, ap, subst, ◌∙◌}
use Rattle.std.proofs.Math.Nat.{suc-ne-zero}
use Rattle.std.specs.Result.{result_unwrap_or}
use Rattle.usb_desc.specs.declared.error.Fail.{Fail}
use Rattle.usb_desc.specs.declared.error.Fail.TheVariants.{Cause, Memory}
use Rattle.usb_desc.specs.declared.types.TransferType.TheVariants.{Bulk}
use Rattle.usb_desc.specs.declared.types.Direction.{Direction}
use Rattle.usb_desc.specs.declared.types.Direction.TheVariants.{Out, In}
use Rattle.usb_error.specs.ErrorState.{ErrorState}
use Rattle.usb_error.specs.Outcomes.{Tried}
use Rattle.usb_device.specs.HandleCalls.{ClaimsAndCloses, OpensAndCloses}
use Rattle.usb_device_tables.specs.History.{value_at}
use Rattle.usb_device_ledger.specs.declared.opened.OpenDevice.{OpenDevice}
use Rattle.usb_device_ledger.specs.Entries.{ClaimedInterface}
use Rattle.usb_device_ledger.specs.Devices.{device_changed}
use Rattle.usb_device_ledger.specs.Owners.{is_used_among, is_owned_among}
use Rattle.usb_device_ledger.specs.Releases.{claim_ended}
use Rattle.usb_device_endpoint.specs.EndpointState.{EndpointState}
use Rattle.usb_kernel.specs.Calls.{called}
use Rattle.usb_desc.specs.Chain.{chain}
use Rattle.usb_desc.specs.Groups.{groups}
use Rattle.usb_desc.specs.Configurations.{configurations, concatenated}
use Rattle.usb_device_host.specs.HostState.{HostState}
use Rattle.usb_device_host.specs.HandleStates.{InterfaceState}
use Rattle.usb_device_host.specs.CallErrors.{Leaves}
use Rattle.usb_device_host.specs.Opens.{open_key, open_tried, descriptors_tried, host_opened}
use Rattle.usb_device_host.specs.InterfaceClaims.{claimed_key, claim_tried, host_claimed}
use Rattle.usb_device_host.specs.EndpointOpens.{host_asked, host_tries, endpoint_of_setting, with_endpoint, fresh_endpoint, OpensEndpoint}
use Rattle.usb_device_host.specs.Handles.{device_closed, handle_closed}
use Rattle.usb_device_host.specs.HostBus.{bus_of}
use Rattle.usb_device_host.specs.Releases.{owner_gone}
use Rattle.usb_device_endpoint.specs.Handles.{Stands}
use Rattle.usb_bot.specs.Clients.{ClientState, StandBoth, fresh_client}
use Rattle.usb_bot_disk.specs.DiskState.{DiskState, disk_made}
use Rattle.usb_bot_disk.specs.DiskCalls.{disk_bus_of}
use Rattle.usb_bot_law.specs.Serving.{IsReady, IsOver, Serves}
use Rattle.usb_bot_law.proofs.LawLemmas.{new_serves}
use Rattle.usb_bot_rounds.specs.Rounds.{zeros}
use Rattle.usb_bot_rounds.specs.Starts.{first_host, held_host, claimed_host, listening_host, opened_host, first_interface, out, inp}

-- a handle was given at a host (new), unless memory was lacking
abbrev pub IsGiven : {A : Type 0} → Result A (Fail ErrorState) → A → HostState → HostState → Type 0
IsGiven given handle new host = IfErr given (λ e. e ≡ Memory) × IfOk given (λ it. (it ≡ handle) × (new ≡ host))

-- what passes it on
pub passes-on : {A E F : Type 0} (P : A → Type 0) (r : Result A E) (given : Result A F) → IfOk r (λ it. given ≡ Ok it) → IfOk given P → IfOk r P
passes-on P (Ok it) given is holds = subst (λ g. IfOk g P) is holds
passes-on P (Err e) given is holds = tt

same-value : {E : Type 0} (t : Result ℕ E) (x y : ℕ) → t ≡ Ok x → t ≡ Ok y → x ≡ y
same-value t x y is also = ap (λ r. result_unwrap_or r 0) (sym is ∙ also)

abbrev fails : {A E : Type 0} → Result A E → Type 0
fails (Ok x) = ⊥
fails (Err e) = Unit {0}

not-both : {A E : Type 0} (t : Result A E) (e : E) (x : A) → t ≡ Err e → t ≡ Ok x → ⊥
not-both t e x is also = subst fails (sym is ∙ also) tt

-- of a handle that was given: which it is, and the host
pub handle-of : {A E : Type 0} (x : A) (Q : Type 0) (r : Result A E) → IfOk r (λ it. (it ≡ x) × Q) → IfOk r (λ it. it ≡ x)
handle-of x Q (Ok it) given = given.0
handle-of x Q (Err e) given = tt

pub host-of : {A E : Type 0} (x : A) (Q : Type 0) (r : Result A E) → IfOk r (λ it. (it ≡ x) × Q) → OnOk r Q
host-of x Q (Ok it) given = given.1
host-of x Q (Err e) given = tt

opens : open_key first_host 1 6 ≡ Ok 0
unfolding first_host open_key open_tried descriptors_tried called
opens = refl

device-found : (new : HostState) (r : Result ℕ (Fail ErrorState)) → Tried r (open_key first_host 1 6) → Leaves r new (host_opened first_host 1 6) first_host → IsGiven r 0 new held_host
unfolding held_host
device-found new (Ok d) tried leaves = (tt, (same-value (open_key first_host 1 6) d 0 tried opens, leaves))
device-found new (Err (Cause e)) tried leaves = absurd (not-both (open_key first_host 1 6) e 0 tried opens)
device-found new (Err Memory) tried leaves = (refl, tt)

pub device-given : (old new : HostState) (r : Result ℕ (Fail ErrorState)) → old ≡ first_host → Tried r (open_key old 1 6) → Leaves r new (host_opened old 1 6) old → IsGiven r 0 new held_host
device-given old new r first tried leaves =
    device-found new r (subst (λ h. Tried r (open_key h 1 6)) first tried) (subst (λ h. Leaves r new (host_opened h 1 6) h) first leaves)

-- the claim of the interface
claim-goes : Option OpenDevice → Type 0
claim-goes None = Unit {0}
claim-goes (Some o) = claimed_key (length held_host.interfaces) (claim_tried held_host o 0 false) ≡ Ok 0

claims : claim-goes (value_at held_host.devices 0)
unfolding claim-goes held_host first_host host_opened open_tried descriptors_tried called configurations concatenated groups chain
claims = refl

same-interface : (k n : ℕ) → k ≡ 0 → n ≡ 0 → Path InterfaceState (record { key = k; number = n }) first_interface
same-interface k n a b = rw (a, b) refl

claim-key : (o : OpenDevice) → value_at held_host.devices 0 ≡ Some o → claimed_key (length held_host.interfaces) (claim_tried held_host o 0 false) ≡ Ok 0
unfolding claim-goes
claim-key o at = subst claim-goes at claims

interface-found : (new : HostState) (r : Result InterfaceState (Fail ErrorState)) → ClaimsAndCloses held_host new 0 0 false r → IsGiven r first_interface new claimed_host
unfolding claimed_host
interface-found new (Ok i) c =
    let key = claim-key c.claims.device c.claims.at in
    (tt, (same-interface i.key i.number (same-value (claimed_key (length held_host.interfaces) (claim_tried held_host c.claims.device 0 false)) i.key 0 c.claims.tried key) c.claims.number, c.closed ∙ ap (λ h. device_closed h 0) c.claims.host))
interface-found new (Err (Cause e)) c =
    absurd (not-both (claimed_key (length held_host.interfaces) (claim_tried held_host c.claims.device 0 false)) e 0 c.claims.tried (claim-key c.claims.device c.claims.at))
interface-found new (Err Memory) c = (refl, tt)

pub interface-given : (old new : HostState) (key : ℕ) (r : Result InterfaceState (Fail ErrorState)) → old ≡ held_host → key ≡ 0 → ClaimsAndCloses old new key 0 false r → IsGiven r first_interface new claimed_host
interface-given old new key r is-host is-key claims =
    interface-found new r (subst (λ k. ClaimsAndCloses held_host new k 0 false r) is-key (subst (λ h. ClaimsAndCloses h new key 0 false r) is-host claims))

-- an endpoint of the claimed interface (c) is opened at a host (h), with this key, and this host comes of it
record Opening (h : HostState) (c : ClaimedInterface) (e : EndpointState) (way : Direction) (next : HostState) : Type 0 where
  tried : host_tries (host_asked h c.opened) 0 c e.address Bulk way ≡ Ok 64
  fresh : fresh_endpoint c e.address Bulk 64 (length h.endpoints) ≡ e
  host : with_endpoint (host_asked h c.opened) 0 e.address ≡ next

abbrev opening-of : HostState → EndpointState → Direction → HostState → Option ClaimedInterface → Type 0
opening-of h e way next None = Unit {0}
opening-of h e way next (Some c) = Opening h c e way next

endpoint-found : (h new next : HostState) (e : EndpointState) (way : Direction) (r : Result EndpointState (Fail ErrorState)) → opening-of h e way next (value_at h.interfaces 0) → OpensEndpoint h new 0 e.address Bulk way r → IsGiven r e new next
endpoint-found h new next e way (Ok f) goes o =
    let g : Opening h o.interface e way next = subst (opening-of h e way next) o.at goes in
    let maximum : f.maximum ≡ 64 = same-value (host_tries (host_asked h o.interface.opened) 0 o.interface e.address Bulk way) f.maximum 64 o.tried g.tried in
    (tt, (o.endpoint ∙ ap (λ m. fresh_endpoint o.interface e.address Bulk m (length h.endpoints)) maximum ∙ g.fresh, o.ok ∙ g.host))
endpoint-found h new next e way (Err (Cause error)) goes o =
    let g : Opening h o.interface e way next = subst (opening-of h e way next) o.at goes in
    absurd (not-both (host_tries (host_asked h o.interface.opened) 0 o.interface e.address Bulk way) error 64 o.tried g.tried)
endpoint-found h new next e way (Err Memory) goes o = (refl, tt)

in-opening : opening-of claimed_host inp In listening_host (value_at claimed_host.interfaces 0)
unfolding listening_host claimed_host held_host first_host host_opened open_tried descriptors_tried called configurations concatenated groups chain host_claimed device_changed host_asked host_tries endpoint_of_setting is_used_among
in-opening = record { tried = refl; fresh = refl; host = refl }

-- the host before the handle of the interface is closed
abbrev pub both_host : HostState
both_host = with_endpoint (host_asked listening_host 0) 0 2

out-opening : opening-of listening_host out Out both_host (value_at listening_host.interfaces 0)
unfolding listening_host claimed_host held_host first_host host_opened open_tried descriptors_tried called configurations concatenated groups chain host_claimed device_changed host_asked host_tries endpoint_of_setting is_used_among
out-opening = record { tried = refl; fresh = refl; host = refl }

pub in-given : (old new : HostState) (key : ℕ) (r : Result EndpointState (Fail ErrorState)) → old ≡ claimed_host → key ≡ 0 → OpensEndpoint old new key 129 Bulk In r → IsGiven r inp new listening_host
in-given old new key r is-host is-key opens =
    endpoint-found claimed_host new listening_host inp In r in-opening (subst (λ k. OpensEndpoint claimed_host new k 129 Bulk In r) is-key (subst (λ h. OpensEndpoint h new key 129 Bulk In r) is-host opens))

closed-host : (between new : HostState) (r : Result EndpointState (Fail ErrorState)) → new ≡ handle_closed between 0 → IsGiven r out between both_host → IsGiven r out new opened_host
unfolding opened_host
closed-host between new (Ok f) closed given = (tt, (given.1.0, closed ∙ ap (λ h. handle_closed h 0) given.1.1))
closed-host between new (Err e) closed given = given

pub out-given : (old new : HostState) (key : ℕ) (r : Result EndpointState (Fail ErrorState)) → old ≡ listening_host → key ≡ 0 → OpensAndCloses old new key 2 Bulk Out r → IsGiven r out new opened_host
out-given old new key r is-host is-key opens =
    let at-first : OpensAndCloses listening_host new 0 2 Bulk Out r = subst (λ k. OpensAndCloses listening_host new k 2 Bulk Out r) is-key (subst (λ h. OpensAndCloses h new key 2 Bulk Out r) is-host opens) in
    closed-host at-first.between new r at-first.closed (endpoint-found listening_host at-first.between both_host out Out r out-opening at-first.opens)

-- what is open then serves a client
pub is-ready : IsReady opened_host 0 2 129
unfolding opened_host listening_host claimed_host held_host first_host host_opened open_tried descriptors_tried called configurations concatenated groups chain host_claimed device_changed host_asked handle_closed owner_gone claim_ended is_owned_among is_used_among
is-ready = record { no_steps = refl; accepts = refl; out_idle = refl; in_idle = refl }

pub is-over : IsOver 0 2 129 (fresh_client out inp)
is-over = record {
  out_at = record { device = refl; address_is = refl; some = omega arith };
  in_at = record { device = refl; address_is = refl; some = omega arith };
  low = omega arith;
  high = omega arith;
  whole_blocks = refl;
}

pub both-stand : StandBoth (bus_of opened_host) (fresh_client out inp)
unfolding opened_host listening_host claimed_host held_host first_host host_opened open_tried descriptors_tried called configurations concatenated groups chain host_claimed device_changed host_asked handle_closed owner_gone claim_ended is_owned_among is_used_among
both-stand = record {
  out = record { key_is_open = refl; held = tt };
  inp = record { key_is_open = refl; held = tt };
  apart = suc-ne-zero 0;
}

pub disk-serves : (b : DiskState) (k : ClientState) (h : HostState) (disk : List ℕ) (e f : EndpointState) → b ≡ disk_made h disk 0 2 129 → k ≡ fresh_client e f → h ≡ opened_host → e ≡ out → f ≡ inp → disk ≡ replicate (512 * 256) 0 → Serves b k zeros
unfolding zeros
disk-serves b k h disk e f is-bus is-client is-host is-out is-inp is-zeros =
    let bus : b ≡ disk_made opened_host (replicate (512 * 256) 0) 0 2 129 = is-bus ∙ ap (λ h. disk_made h disk 0 2 129) is-host ∙ ap (λ d. disk_made opened_host d 0 2 129) is-zeros in
    let client : k ≡ fresh_client out inp = is-client ∙ ap (λ e. fresh_client e f) is-out ∙ ap (fresh_client out) is-inp in
    subst (λ b. Serves b k (replicate (512 * 256) 0)) (sym bus) (
    subst (λ k. Serves (disk_made opened_host (replicate (512 * 256) 0) 0 2 129) k (replicate (512 * 256) 0)) (sym client)
    (new_serves opened_host (replicate (512 * 256) 0) 0 2 129 out inp is-ready is-over)
    )

pub disk-stands : (b : DiskState) (k : ClientState) (h : HostState) (e f : EndpointState) → k ≡ fresh_client e f → h ≡ opened_host → e ≡ out → f ≡ inp → ((e : EndpointState) → Stands (bus_of h) e → Stands (disk_bus_of b) e) → StandBoth (disk_bus_of b) k
disk-stands b k h e f is-client is-host is-out is-inp stand =
    let client : k ≡ fresh_client out inp = is-client ∙ ap (λ e. fresh_client e f) is-out ∙ ap (fresh_client out) is-inp in
    let here : (e : EndpointState) → Stands (bus_of opened_host) e → Stands (disk_bus_of b) e = subst (λ h. (e : EndpointState) → Stands (bus_of h) e → Stands (disk_bus_of b) e) is-host stand in
    subst (StandBoth (disk_bus_of b)) (sym client) (record { out = here out both-stand.out; inp = here inp both-stand.inp; apart = both-stand.apart })
