-- The line of a host goes on over the submissions of a reader, and where a halt is cleared.
use Rattle.std.proofs.Common.{ℕ, Bool, true, false, None, refl}
use Rattle.usb_xfer.specs.BufferState.{BufferState}
use Rattle.usb_kernel.specs.Calls.{called}
use Rattle.usb_device_endpoint.specs.EndpointState.{EndpointState, route_of}
use Rattle.usb_device_endpoint.specs.Submits.{is_valid, transfer_by, handed_over, entered}
use Rattle.usb_device_host.specs.HostState.{HostState}
use Rattle.usb_device_host.specs.HostCalls.{host_halt_cleared, host_calls}
use Rattle.usb_device_host.specs.HostFrames.{LineGoesOn}
use Rattle.usb_device_host.proofs.HostKeeps.{KeepsOpen}
use Rattle.usb_device_host.proofs.CallFrames.{keeps-open, keeps-submitted, keeps-refused}
use Rattle.usb_device_host.proofs.ClaimFrames.{goes-refl}
use Rattle.usb_device_host.proofs.WaitFrames.{line-keeps}
use Rattle.usb_io.specs.Readers.{fresh_buffer}
use Rattle.usb_io.specs.Reads.{Reading, submit_one}

pub line-same : (h : HostState) → LineGoesOn h h
line-same h = line-keeps h h (keeps-open h)

keeps-handed : (h : HostState) (e : EndpointState) (b : BufferState) (valid : Bool) → KeepsOpen h (handed_over host_calls h (route_of e) None (transfer_by (route_of e) b) valid)
keeps-handed h e b true = keeps-submitted h (route_of e) None (transfer_by (route_of e) b)
keeps-handed h e b false = keeps-refused h (route_of e) (transfer_by (route_of e) b) 22

pub line-one : (w : Reading HostState) → LineGoesOn w.bus (submit_one host_calls w).bus
line-one w =
    let b = fresh_buffer w.reader.size in
    line-keeps w.bus (entered host_calls w.bus w.reader.endpoint None b) (keeps-handed w.bus w.reader.endpoint b (is_valid w.reader.endpoint b))

pub line-halt : (h : HostState) (device endpoint : ℕ) → LineGoesOn h (host_halt_cleared h device endpoint)
unfolding called
line-halt h device endpoint =
    line-keeps h (host_halt_cleared h device endpoint) (record { line = record { steps = refl; spare = refl; devices = refl }; interfaces = goes-refl h.interfaces; endpoints = goes-refl h.endpoints })
