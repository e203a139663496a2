-- What the calls of an endpoint leave as it was at a host.
use Rattle.std.proofs.Common.{ℕ, true, false, cond, List, [], ◌∷◌, Option, refl, ◌∙◌}
use Rattle.usb_xfer.specs.BufferState.{BufferState}
use Rattle.usb_device_endpoint.specs.EndpointState.{EndpointState, route_of}
use Rattle.usb_device_endpoint.specs.Submits.{is_valid, transfer_by, entered}
use Rattle.usb_device_endpoint.specs.Closes.{all_discarded, all_abandoned, after_close}
use Rattle.usb_device_host.specs.HostState.{HostState}
use Rattle.usb_device_host.specs.TicketEnds.{host_abandoned}
use Rattle.usb_device_host.specs.HostCalls.{host_submitted, host_refused, host_discarded, host_left, host_calls}
use Rattle.usb_device_host.specs.HostFrames.{HostGoesOn}
use Rattle.usb_device_host.proofs.HostKeeps.{KeepsLine, KeepsOpen}
use Rattle.usb_device_host.specs.HostFrames.{ClaimsGoOn}
use Rattle.usb_device_host.proofs.ClaimFrames.{goes-refl, goes-trans}
use Rattle.usb_device_host.proofs.CallFrames.{keeps-open, keeps-submitted, keeps-refused, keeps-abandoned, line-left, interfaces-left}
use Rattle.usb_device_host.proofs.HostFrames.{uses-discarded}
use Rattle.usb_device_host.proofs.WaitFrames.{went-uses, went-nowhere, went-trans}

-- a submission keeps what is open, valid or not
pub keeps-entered : (h : HostState) (e : EndpointState) (deadline : Option ℕ) (b : BufferState) → KeepsOpen h (entered host_calls h e deadline b)
keeps-entered h e deadline b =
    elim (is_valid e b) as (λ v. KeepsOpen h (cond v (host_submitted h (route_of e) deadline (transfer_by (route_of e) b)) (host_refused h (route_of e) (transfer_by (route_of e) b) 22))) [
      | true ↦ keeps-submitted h (route_of e) deadline (transfer_by (route_of e) b)
      | false ↦ keeps-refused h (route_of e) (transfer_by (route_of e) b) 22
    ]

-- the discards of a queue
pub went-all_discarded : (h : HostState) (ts : List ℕ) → HostGoesOn h (all_discarded host_discarded h ts)
went-all_discarded h [] = went-nowhere h
went-all_discarded h (t ∷ ts) =
    let mid = all_discarded host_discarded h ts in
    went-trans h mid (host_discarded mid t) (went-all_discarded h ts) (went-uses mid (host_discarded mid t) (uses-discarded mid t))

keeps-discarded : (h : HostState) (t : ℕ) → KeepsOpen h (host_discarded h t)
unfolding host_discarded
keeps-discarded h t = record { line = record { steps = refl; spare = refl; devices = refl }; interfaces = goes-refl h.interfaces; endpoints = goes-refl h.endpoints }

keeps-trans : (a b c : HostState) → KeepsOpen a b → KeepsOpen b c → KeepsOpen a c
keeps-trans a b c first second =
    record {
      line = record { steps = second.line.steps ∙ first.line.steps; spare = second.line.spare ∙ first.line.spare; devices = second.line.devices ∙ first.line.devices };
      interfaces = goes-trans a.interfaces b.interfaces c.interfaces first.interfaces second.interfaces;
      endpoints = goes-trans a.endpoints b.endpoints c.endpoints first.endpoints second.endpoints;
    }

pub keeps-all_discarded : (h : HostState) (ts : List ℕ) → KeepsOpen h (all_discarded host_discarded h ts)
keeps-all_discarded h [] = keeps-open h
keeps-all_discarded h (t ∷ ts) =
    let mid = all_discarded host_discarded h ts in keeps-trans h mid (host_discarded mid t) (keeps-all_discarded h ts) (keeps-discarded mid t)

pub keeps-all_abandoned : (h : HostState) (ts : List ℕ) → KeepsOpen h (all_abandoned host_abandoned h ts)
keeps-all_abandoned h [] = keeps-open h
keeps-all_abandoned h (t ∷ ts) =
    keeps-trans h (host_abandoned h t) (all_abandoned host_abandoned (host_abandoned h t) ts) (keeps-abandoned h t) (keeps-all_abandoned (host_abandoned h t) ts)

-- the close of an endpoint keeps the line and the open devices, and claimed interfaces go on
given_up-all : (h : HostState) (e : EndpointState) → KeepsOpen h (all_abandoned host_abandoned (all_discarded host_discarded h e.pending) e.pending)
given_up-all h e =
    let mid = all_discarded host_discarded h e.pending in
    keeps-trans h mid (all_abandoned host_abandoned mid e.pending) (keeps-all_discarded h e.pending) (keeps-all_abandoned mid e.pending)

pub line-closed : (h : HostState) (e : EndpointState) → KeepsLine h (after_close host_calls h e)
line-closed h e =
    let keeps = given_up-all h e in
    let left = line-left (all_abandoned host_abandoned (all_discarded host_discarded h e.pending) e.pending) e.key in
    record { steps = left.steps ∙ keeps.line.steps; spare = left.spare ∙ keeps.line.spare; devices = left.devices ∙ keeps.line.devices }

pub interfaces-closed : (h : HostState) (e : EndpointState) → ClaimsGoOn h.interfaces (after_close host_calls h e).interfaces
interfaces-closed h e =
    let given = all_abandoned host_abandoned (all_discarded host_discarded h e.pending) e.pending in
    goes-trans h.interfaces given.interfaces (host_left given e.key).interfaces (given_up-all h e).interfaces (interfaces-left given e.key)
