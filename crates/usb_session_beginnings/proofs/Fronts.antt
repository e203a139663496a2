-- A wait for the front of an endpoint sees no place of the kernel.
use Rattle.std.proofs.Common.{List, None, Option, Some, [], ap, refl, ℕ, ◌∙◌, ◌∷◌, ◌≡◌}
use Rattle.usb_device_endpoint.specs.EndpointState.{EndpointState}
use Rattle.usb_device_endpoint.specs.Waits.{Polled, front_found, front_of, polled, polled_of, taken_if, wait_next, waited}
use Rattle.usb_device_host.specs.HostCalls.{host_calls}
use Rattle.usb_device_host.specs.HostState.{HostState}
use Rattle.usb_kernel.specs.TransferCompletions.{transfer_completion}
use Rattle.usb_session_beginnings.proofs.Hosts.{bare, taken-blind, waited-blind}
use Rattle.usb_xfer.specs.declared.transfer.Completion.{Completion}

abbrev pub bare_polled : Polled HostState → Polled HostState
bare_polled p = record p { bus = bare p.bus }

taken_if-blind : (h : HostState) (e : EndpointState) (front : ℕ) (others : List ℕ) (o : Option Completion)
    → taken_if host_calls (bare h) e front others o ≡ bare_polled (taken_if host_calls h e front others o)
taken_if-blind h e front others None = refl
taken_if-blind h e front others (Some c) = ap (λ g. front_found (Some c) g (record e { pending = others })) (taken-blind front h)

polled_of-blind : (h : HostState) (e : EndpointState) (ts : List ℕ) → polled_of host_calls (bare h) e ts ≡ bare_polled (polled_of host_calls h e ts)
polled_of-blind h e [] = refl
polled_of-blind h e (front ∷ others) = taken_if-blind h e front others (transfer_completion h.kernel.past front)

pub wait_next-blind : (timeout : ℕ) (h : HostState) (e : EndpointState)
    → wait_next host_calls timeout (bare h) e ≡ bare_polled (wait_next host_calls timeout h e)
wait_next-blind timeout h e =
    ap (λ g. polled host_calls g e) (waited-blind (front_of e.pending) timeout h)
    ∙ polled_of-blind (waited host_calls (front_of e.pending) timeout h) e e.pending
