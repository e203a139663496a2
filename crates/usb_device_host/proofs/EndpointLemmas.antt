-- Endpoints are opened.
use Rattle.std.proofs.Common.{ℕ, zero, suc, arith, ◌≡◌, ◌<◌, Bool, true, false, List, [], ◌∷◌, ◌++◌, length, set, Option, Some, None, Ok, refl, ◌∙◌, ap, inl, inr}
use Rattle.std.specs.Prelude.{not, ◌==◌}
use Rattle.std.proofs.lemmas.Grind.{common_steps}
use Rattle.std.proofs.lemmas.Bool.{cases_Bool}
use Rattle.usb_desc.specs.declared.types.Direction.{Direction}
use Rattle.usb_desc.specs.declared.types.TransferType.{TransferType}
use Rattle.usb_desc.specs.Fields.{direction_of_address, transfer_type, max_packet_size}
use Rattle.usb_device_tables.specs.History.{value_at}
use Rattle.usb_device_ledger.specs.declared.opened.OpenDevice.{OpenDevice}
use Rattle.usb_device_ledger.specs.Entries.{ClaimedInterface}
use Rattle.usb_device_host.specs.HostState.{HostState}
use Rattle.usb_device_ledger.specs.Entries.{HostEndpoint, HostTicket}
use Rattle.usb_device_host.specs.HostBus.{bus_of, key_at, owner_at}
use Rattle.usb_device_host.specs.EndpointOpens.{with_endpoint}
use Rattle.usb_device_endpoint.specs.EndpointState.{EndpointState}
use Rattle.usb_device_endpoint.specs.Handles.{Stands, KeepsOthers}
use Rattle.usb_device_endpoint.proofs.Frames.{keeps_others}
use Rattle.usb_device_host.specs.Owners.{is_in_use}
use Rattle.usb_device_host.specs.EndpointRefusals.{endpoint_tried, same_direction, is_type}
use Rattle.usb_kernel_devices.specs.declared.step.KernelCall.TheVariants as call
use Rattle.usb_kernel_devices.specs.Claims.{no_rules}
use Rattle.usb_kernel_devices.specs.Calls.{same}
use Rattle.usb_kernel.specs.Calls.{called}
use Rattle.usb_device_host.proofs.InterfaceFrames.{asked-is}
use Rattle.usb_device_host.specs.EndpointOpens.{active_value, host_asked, asked_on, endpoint_in, endpoint_of_setting, host_tries}

pub asked-at : (h : HostState) (key : ℕ) (o : OpenDevice) → value_at h.devices key ≡ Some o → host_asked h key ≡ record h { kernel = called h.kernel o.device call.GetConfig no_rules same; devices = set h.devices key (Some (record o { configuration = active_value h.kernel o })) }
unfolding host_asked
asked-at h key o at = ap (asked_on h key) at

pub tries-at : (h : HostState) (i : ℕ) (c : ClaimedInterface) (o : OpenDevice) (address : ℕ) (kind : TransferType) (direction : Direction) → value_at h.devices c.opened ≡ Some o
    → host_tries h i c address kind direction ≡ endpoint_tried (endpoint_of_setting o c.number c.setting address) address kind direction (is_in_use h i address)
unfolding host_tries
tries-at h i c o address kind direction at = ap (λ d. endpoint_tried (endpoint_in c address d) address kind direction (is_in_use h i address)) at

-- a bit that is in use refuses
used-refused : (found : Option (List ℕ)) (address : ℕ) (kind : TransferType) (direction : Direction) (used : Bool) (maximum : ℕ) → endpoint_tried found address kind direction used ≡ Ok maximum → used ≡ false
used-refused None address kind direction used maximum ok = absurd (cc)
used-refused (Some e) address kind direction false maximum ok = refl
used-refused (Some e) address kind direction true maximum ok =
    elim (cases_Bool (not (same_direction (direction_of_address address) direction))) [
      | inl wrong ↦ let x = rw wrong at ok in absurd (cc)
      | inr right ↦ elim (cases_Bool (not (is_type (transfer_type e) kind))) [
        | inl other ↦ let x = rw (right, other) at ok in absurd (cc)
        | inr same ↦ elim (cases_Bool (max_packet_size e == 0)) [ inl none ↦ let x = rw (right, same, none) at ok in absurd (cc) | inr some ↦ let x = rw (right, same, some) at ok in absurd (cc) ]
      ]
    ]

pub tried-unused : (h : HostState) (i : ℕ) (c : ClaimedInterface) (address : ℕ) (kind : TransferType) (direction : Direction) (maximum : ℕ) → host_tries h i c address kind direction ≡ Ok maximum → is_in_use h i address ≡ false
unfolding host_tries
tried-unused h i c address kind direction maximum ok = used-refused (endpoint_in c address (value_at h.devices c.opened)) address kind direction (is_in_use h i address) maximum ok

-- the maximum packet size of an endpoint that is opened is not 0
size-some : (found : Option (List ℕ)) (address : ℕ) (kind : TransferType) (direction : Direction) (used : Bool) (maximum : ℕ) → endpoint_tried found address kind direction used ≡ Ok maximum → 0 < maximum
size-some None address kind direction used maximum ok = absurd (cc)
size-some (Some e) address kind direction used maximum ok =
    elim (cases_Bool (not (same_direction (direction_of_address address) direction))) [
      | inl wrong ↦ let x = rw wrong at ok in absurd (cc)
      | inr right ↦ elim (cases_Bool (not (is_type (transfer_type e) kind))) [
        | inl other ↦ let x = rw (right, other) at ok in absurd (cc)
        | inr same ↦ elim (cases_Bool (max_packet_size e == 0)) [
          | inl none ↦ let x = rw (right, same, none) at ok in absurd (cc)
          | inr some ↦ elim (cases_Bool used) [
            | inl in_use ↦ let x = rw (right, same, some, in_use) at ok in absurd (cc)
            | inr free ↦
                let size : max_packet_size e ≡ maximum = let x = rw (right, same, some, free) at ok in cc in
                positive (max_packet_size e) maximum some size
          ]
        ]
      ]
    ]
  where
    positive : (n m : ℕ) → (n == 0) ≡ false → n ≡ m → 0 < m
    positive n m some same = grind (arith, common_steps)

pub tried-some : (h : HostState) (i : ℕ) (c : ClaimedInterface) (address : ℕ) (kind : TransferType) (direction : Direction) (maximum : ℕ) → host_tries h i c address kind direction ≡ Ok maximum → 0 < maximum
unfolding host_tries
tried-some h i c address kind direction maximum ok = size-some (endpoint_in c address (value_at h.devices c.opened)) address kind direction (is_in_use h i address) maximum ok

-- an endpoint that was opened stands, and the others stand as before
pub key-new : (endpoints : List (Option HostEndpoint)) (e : HostEndpoint) → e.is_open ≡ true → key_at (endpoints ++ Some e ∷ []) (length endpoints) ≡ true
key-new [] e open_ = open_
key-new (x ∷ xs) e open_ = key-new xs e open_

pub key-kept : (endpoints : List (Option HostEndpoint)) (e : HostEndpoint) (k : ℕ) → key_at endpoints k ≡ true → key_at (endpoints ++ Some e ∷ []) k ≡ true
key-kept [] e k open_ = absurd (cc)
key-kept (x ∷ xs) e zero open_ = open_
key-kept (x ∷ xs) e (suc k) open_ = key-kept xs e k open_

asked-endpoints : (h : HostState) (key : ℕ) → (host_asked h key).endpoints ≡ h.endpoints
asked-endpoints h key = ap (λ (x : HostState). x.endpoints) (asked-is h key)

pub endpoint-stands : (h new : HostState) (device i address : ℕ) (n : EndpointState) → new ≡ with_endpoint (host_asked h device) i address → n.key ≡ length h.endpoints → n.pending ≡ [] → Stands (bus_of new) n
endpoint-stands h new device i address n is key none =
    let e : HostEndpoint = record { interface = Some i; address = address; is_open = true } in
    let endpoints : new.endpoints ≡ h.endpoints ++ Some e ∷ [] = ap (λ (x : HostState). x.endpoints) is ∙ ap (λ (es : List (Option HostEndpoint)). es ++ Some e ∷ []) (asked-endpoints h device) in
    record {
      key_is_open = ap (key_at new.endpoints) key ∙ ap (λ (es : List (Option HostEndpoint)). key_at es (length h.endpoints)) endpoints ∙ key-new h.endpoints e refl;
      held = rw none tt;
    }

pub endpoint-others : (h new : HostState) (device i address key : ℕ) → new ≡ with_endpoint (host_asked h device) i address → KeepsOthers (bus_of h) (bus_of new) key
endpoint-others h new device i address key is =
    let e : HostEndpoint = record { interface = Some i; address = address; is_open = true } in
    let endpoints : new.endpoints ≡ h.endpoints ++ Some e ∷ [] = ap (λ (x : HostState). x.endpoints) is ∙ ap (λ (es : List (Option HostEndpoint)). es ++ Some e ∷ []) (asked-endpoints h device) in
    let tickets : new.tickets ≡ h.tickets = ap (λ (x : HostState). x.tickets) is ∙ ap (λ (x : HostState). x.tickets) (asked-is h device) in
    keeps_others (bus_of h) (bus_of new) key
    (λ t k other held. ap (λ (ts : List HostTicket). owner_at ts t) tickets ∙ held)
    (λ k other open_. ap (λ (es : List (Option HostEndpoint)). key_at es k) endpoints ∙ key-kept h.endpoints e k open_)
