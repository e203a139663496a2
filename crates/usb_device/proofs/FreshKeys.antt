-- The keys of what is opened last.
use Rattle.std.proofs.Common.{ℕ, zero, suc, arith, ◌≡◌, ◌<◌, true, false, List, [], ◌∷◌, length, Option}
use Rattle.usb_device_tables.proofs.ValueLemmas.{value-within}
use Rattle.usb_device_endpoint.specs.EndpointState.{EndpointState}
use Rattle.usb_device_endpoint.specs.Handles.{Stands}
use Rattle.usb_device_ledger.specs.Entries.{HostEndpoint}
use Rattle.usb_device_host.specs.HostState.{HostState}
use Rattle.usb_device_host.specs.HostBus.{key_at, bus_of}
use Rattle.usb_device_host.specs.HandleStates.{InterfaceState, StandsInterface}

-- a handle that stands has a key below the next one
pub stands-within : (h : HostState) (f : InterfaceState) → StandsInterface h f → f.key < length h.interfaces
stands-within h f stands = value-within h.interfaces f.key stands.claim stands.at

-- an endpoint that is open has a key below the next one
pub key-within : (es : List (Option HostEndpoint)) (k : ℕ) → key_at es k ≡ true → k < length es
key-within [] k is = let no_ : false ≡ true = is in absurd (cc)
key-within (e ∷ es) zero is = omega arith
key-within (e ∷ es) (suc k) is = let below : k < length es = key-within es k is in omega (arith, below)

pub endpoint-within : (h : HostState) (e : EndpointState) → Stands (bus_of h) e → e.key < length h.endpoints
endpoint-within h e stands = key-within h.endpoints e.key stands.key_is_open
