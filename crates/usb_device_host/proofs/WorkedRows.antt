-- The definitions at a small host, computed.
use Rattle.std.specs.Prelude.{◌≡◌, refl, ℕ, Bool, true, false, List, [], ◌∷◌, Some, None, slice_get, Option, ◌||◌}
use Rattle.usb_desc.specs.declared.types.TransferType.TheVariants.{Bulk}
use Rattle.usb_desc.specs.Chain.{chain}
use Rattle.usb_desc.specs.Groups.{groups}
use Rattle.usb_desc.specs.Configurations.{concatenated, configurations}
use Rattle.usb_kernel.specs.declared.event.Event.{Event}
use Rattle.usb_kernel.specs.declared.event.Event.TheVariants.{Submit}
use Rattle.usb_kernel.specs.declared.event.Body.TheVariants.{Wanted}
use Rattle.usb_kernel_devices.specs.declared.devices.DeviceState.{DeviceState}
use Rattle.usb_kernel_devices.specs.declared.step.Armed.{Armed}
use Rattle.usb_kernel_devices.specs.declared.step.KernelCall.TheVariants as call
use Rattle.usb_kernel.specs.Completions.{completion}
use Rattle.usb_kernel.specs.Steps.{after_packet, after_reap}
use Rattle.usb_kernel_devices.specs.Interfaces.{contains, set_of}
use Rattle.usb_kernel.specs.Calls.{called}
use Rattle.usb_device_ledger.specs.declared.ends.TicketEnd.TheVariants.{Dropped, Reclaimed}
use Rattle.usb_device_ledger.specs.Entries.{HostTicket, HeldBy, Abandoned, Ended, fresh_interface}
use Rattle.usb_device_host.specs.HostState.{HostState, host_of}
use Rattle.usb_device_ledger.specs.Owners.{is_used_among, is_owned_among}
use Rattle.usb_device_host.specs.Owners.{is_in_use}
use Rattle.usb_device_ledger.specs.Releases.{claim_ended, claim_of, endpoints_left}
use Rattle.usb_device_host.specs.Releases.{endpoint_left, settled, owner_gone}
use Rattle.usb_device_host.specs.TicketEnds.{host_ended, host_taken, host_abandoned, came}
use Rattle.usb_device_host.specs.HostTurns.{host_reaped}
use Rattle.usb_device_host.specs.HostCalls.{host_discarded, host_left}
use Rattle.usb_device_host.specs.Handles.{handle_closed}
use Rattle.usb_device_host.specs.Opens.{descriptors_tried, open_tried, host_opened}
use Rattle.usb_device_host.specs.InterfaceClaims.{host_claimed}

-- a transfer of 8 bytes on endpoint 81 of device 0, in packets of at most 4
abbrev submit : ℕ → List Event → List Event
submit ticket past = Submit ticket 0 129 4 (Wanted 8) 8 None ∷ past

-- three of them: the first is reaped, the second is finished and the third is not
abbrev past : List Event
past =
    after_packet (after_reap (after_packet (submit 2 (submit 1 (submit 0 []))) 0 129 (7 ∷ [])) 0) 0 129 (8 ∷ [])

-- device 0 with its interface 1 claimed
abbrev device : DeviceState
device =
    record {
      number = 0;
      bus = 1;
      address = 6;
      speed = 3;
      configuration = 1;
      bytes = [];
      plugged = true;
      claimed = 1 ∷ [];
      bound = [];
    }

abbrev held : HostTicket
held = HeldBy (record { key = 0; endpoint = 129; kind = Bulk })

-- an endpoint of the interface holds the three
abbrev open_endpoint : HostState
open_endpoint =
    record {
      kernel = record { past = past; devices = device ∷ []; clock = 0; armed = []; spare = 0 };
      devices = [];
      interfaces = Some (fresh_interface 0 0 1 false) ∷ [];
      endpoints = Some (record { interface = Some 0; address = 129; is_open = true }) ∷ [];
      tickets = held ∷ held ∷ held ∷ [];
      steps = [];
      slot_count = 3;
    }

-- it is closed: the tickets are discarded from the last to the first, and then given up
abbrev cancelled : HostState
cancelled = host_discarded (host_discarded (host_discarded open_endpoint 2) 1) 0

abbrev closed : HostState
closed = host_left (host_abandoned (host_abandoned (host_abandoned cancelled 0) 1) 2) 0

-- whether the interface is claimed at the kernel
abbrev claimed_of : Option DeviceState → Bool
claimed_of None = false
claimed_of (Some d) = contains d.claimed 1

abbrev is_claimed : HostState → Bool
is_claimed h = claimed_of (slice_get h.kernel.devices 0)

-- the reaped ticket is dropped, the others are given up, and the bit stays in use
pub closed_tickets : closed.tickets ≡ Ended Dropped ∷ Abandoned 0 ∷ Abandoned 0 ∷ []
unfolding is_used_among is_owned_among claim_ended claim_of settled endpoint_left endpoints_left owner_gone host_ended host_taken host_abandoned came host_reaped host_discarded host_left handle_closed completion
closed_tickets = refl

pub closed_use : is_in_use closed 0 129 ≡ true
unfolding is_used_among is_owned_among claim_ended claim_of settled endpoint_left endpoints_left owner_gone host_ended host_taken host_abandoned came host_reaped host_discarded host_left handle_closed completion
closed_use = refl

-- other bits are not: not that of OUT endpoint 1, and not those of another interface
pub closed_other : is_in_use closed 0 1 || is_in_use closed 1 129 ≡ false
unfolding is_used_among is_owned_among claim_ended claim_of settled endpoint_left endpoints_left owner_gone host_ended host_taken host_abandoned came host_reaped host_discarded host_left handle_closed completion
closed_other = refl

-- it stays so when one of the two is reaped
pub one_reaped : is_in_use (host_reaped closed 2) 0 129 ≡ true
unfolding is_used_among is_owned_among claim_ended claim_of settled endpoint_left endpoints_left owner_gone host_ended host_taken host_abandoned came host_reaped host_discarded host_left handle_closed completion
one_reaped = refl

-- with the other one it is free, and the interface is claimed while its handle is open
pub both_reaped : is_in_use (host_reaped (host_reaped closed 2) 1) 0 129 ≡ false
unfolding is_used_among is_owned_among claim_ended claim_of settled endpoint_left endpoints_left owner_gone host_ended host_taken host_abandoned came host_reaped host_discarded host_left handle_closed completion
both_reaped = refl

pub both_claimed : is_claimed (host_reaped (host_reaped closed 2) 1) ≡ true
unfolding is_used_among is_owned_among claim_ended claim_of settled endpoint_left endpoints_left owner_gone host_ended host_taken host_abandoned came host_reaped host_discarded host_left handle_closed completion
both_claimed = refl

pub handle_last : is_claimed (handle_closed (host_reaped (host_reaped closed 2) 1) 0) ≡ false
unfolding is_used_among is_owned_among claim_ended claim_of settled endpoint_left endpoints_left owner_gone host_ended host_taken host_abandoned came host_reaped host_discarded host_left handle_closed completion
handle_last = refl

-- where the handle is closed first, the claim ends with the last ticket
pub ticket_first : is_claimed (host_reaped (handle_closed closed 0) 2) ≡ true
unfolding is_used_among is_owned_among claim_ended claim_of settled endpoint_left endpoints_left owner_gone host_ended host_taken host_abandoned came host_reaped host_discarded host_left handle_closed completion
ticket_first = refl

pub ticket_last : is_claimed (host_reaped (host_reaped (handle_closed closed 0) 2) 1) ≡ false
unfolding is_used_among is_owned_among claim_ended claim_of settled endpoint_left endpoints_left owner_gone host_ended host_taken host_abandoned came host_reaped host_discarded host_left handle_closed completion
ticket_last = refl

pub last_ends : (host_reaped (host_reaped (handle_closed closed 0) 2) 1).tickets ≡ Ended Dropped ∷ Ended Reclaimed ∷ Ended Reclaimed ∷ []
unfolding is_used_among is_owned_among claim_ended claim_of settled endpoint_left endpoints_left owner_gone host_ended host_taken host_abandoned came host_reaped host_discarded host_left handle_closed completion
last_ends = refl

-- and its entry goes then
pub entry_first : (host_reaped (handle_closed closed 0) 2).interfaces ≡ Some (record (fresh_interface 0 0 1 false) { handles = 0 }) ∷ []
unfolding is_used_among is_owned_among claim_ended claim_of settled endpoint_left endpoints_left owner_gone host_ended host_taken host_abandoned came host_reaped host_discarded host_left handle_closed completion
entry_first = refl

pub entry_last : (host_reaped (host_reaped (handle_closed closed 0) 2) 1).interfaces ≡ None ∷ []
unfolding is_used_among is_owned_among claim_ended claim_of settled endpoint_left endpoints_left owner_gone host_ended host_taken host_abandoned came host_reaped host_discarded host_left handle_closed completion
entry_last = refl

-- what is kept of the endpoint goes with the last of its tickets
pub endpoint_first : (host_reaped closed 2).endpoints ≡ Some (record { interface = Some 0; address = 129; is_open = false }) ∷ []
unfolding is_used_among is_owned_among claim_ended claim_of settled endpoint_left endpoints_left owner_gone host_ended host_taken host_abandoned came host_reaped host_discarded host_left handle_closed completion
endpoint_first = refl

pub endpoint_last : (host_reaped (host_reaped closed 2) 1).endpoints ≡ None ∷ []
unfolding is_used_among is_owned_among claim_ended claim_of settled endpoint_left endpoints_left owner_gone host_ended host_taken host_abandoned came host_reaped host_discarded host_left handle_closed completion
endpoint_last = refl

-- a device with one configuration, of value 1, which has the interface 1
abbrev bytes : List ℕ
bytes =
    18 ∷ 1 ∷ 0 ∷ 2 ∷ 0 ∷ 0 ∷ 0 ∷ 64 ∷ 170 ∷ 170 ∷ 187 ∷ 187 ∷ 0 ∷ 1 ∷ 0 ∷ 0 ∷ 0 ∷ 1 ∷
    9 ∷ 2 ∷ 18 ∷ 0 ∷ 1 ∷ 1 ∷ 0 ∷ 128 ∷ 50 ∷ 9 ∷ 4 ∷ 1 ∷ 0 ∷ 0 ∷ 255 ∷ 0 ∷ 0 ∷ 0 ∷ []

-- it is opened, with these refusals armed, and with the driver of these interfaces bound
abbrev opened : List Armed → List ℕ → HostState
opened armed drivers =
    host_opened
    (host_of (record {
      past = [];
      devices = record device { bytes = bytes; claimed = []; bound = set_of drivers } ∷ [];
      clock = 0;
      armed = armed;
      spare = 0;
    })) 1 6

-- whether the driver of the interface is bound
abbrev bound_of : Option DeviceState → Bool
bound_of None = false
bound_of (Some d) = contains d.bound 1

abbrev has_driver : HostState → Bool
has_driver h = bound_of (slice_get h.kernel.devices 0)

-- a claim with the driver detached: it is attached again at the close
abbrev taken : HostState
taken = host_claimed (opened [] (1 ∷ [])) 0 1 true

pub taken_claimed : (is_claimed taken ≡ true) × (has_driver taken ≡ false)
unfolding is_owned_among claim_ended owner_gone handle_closed host_opened open_tried descriptors_tried host_claimed called chain groups concatenated configurations
taken_claimed = (refl, refl)

pub taken_closed : (is_claimed (handle_closed taken 0) ≡ false) × (has_driver (handle_closed taken 0) ≡ true)
unfolding is_owned_among claim_ended owner_gone handle_closed host_opened open_tried descriptors_tried host_claimed called chain groups concatenated configurations
taken_closed = (refl, refl)

-- also where none was bound before
pub taken_bare : has_driver (handle_closed (host_claimed (opened [] []) 0 1 true) 0) ≡ true
unfolding is_owned_among claim_ended owner_gone handle_closed host_opened open_tried descriptors_tried host_claimed called chain groups concatenated configurations
taken_bare = refl

-- after a claim as it is none is attached
abbrev plain : HostState
plain = host_claimed (opened [] []) 0 1 false

pub plain_closed : (is_claimed plain ≡ true) × (is_claimed (handle_closed plain 0) ≡ false) × (has_driver (handle_closed plain 0) ≡ false)
unfolding is_owned_among claim_ended owner_gone handle_closed host_opened open_tried descriptors_tried host_claimed called chain groups concatenated configurations
plain_closed = (refl, refl, refl)

-- a refusal that is armed for the attach is used up by it, and no driver is bound then
abbrev armed_attach : Armed
armed_attach = record { device = 0; call = call.Attach; errno = 71 }

abbrev refused : HostState
refused = host_claimed (opened (armed_attach ∷ []) (1 ∷ [])) 0 1 true

pub refused_closed : (is_claimed (handle_closed refused 0) ≡ false) × (has_driver (handle_closed refused 0) ≡ false) × ((handle_closed refused 0).kernel.armed ≡ [])
unfolding is_owned_among claim_ended owner_gone handle_closed host_opened open_tried descriptors_tried host_claimed called chain groups concatenated configurations
refused_closed = (refl, refl, refl)

-- a claim as it is leaves it armed
pub refused_plain : (handle_closed (host_claimed (opened (armed_attach ∷ []) []) 0 1 false) 0).kernel.armed ≡ armed_attach ∷ []
unfolding is_owned_among claim_ended owner_gone handle_closed host_opened open_tried descriptors_tried host_claimed called chain groups concatenated configurations
refused_plain = refl
