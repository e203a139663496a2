-- What a session is to its users.
use Rattle.std.specs.Prelude.{ℕ, ◌≡◌, ◌≢◌, ◌<◌, ◌==◌, Bool, true, false, List, [], Option, Some, None, IsSome, length, ◌⊎◌}
use Rattle.std.specs.List.{count_by}
use Rattle.usb_device_tables.specs.History.{value_at}
use Rattle.usb_enum_sysfs.specs.Tree.{Tree}
use Rattle.usb_enum.specs.declared.hotplug.UdevPacket.{UdevPacket}
use Rattle.usb_device_endpoint.specs.EndpointState.{EndpointState}
use Rattle.usb_device_endpoint.specs.Handles.{Stands}
use Rattle.usb_device_ledger.specs.Entries.{ClaimedInterface, HostEndpoint}
use Rattle.usb_device_ledger.specs.declared.opened.OpenDevice.{OpenDevice}
use Rattle.usb_device_host.specs.HostState.{HostState}
use Rattle.usb_device_host.specs.HostBus.{bus_of, key_at}
use Rattle.usb_io.specs.Readers.{ReaderState}
use Rattle.usb_io.specs.Writers.{WriterState}
use Rattle.usb_msg.specs.Clients.{ClientState}
use Rattle.usb_device_host.specs.HandleStates.{InterfaceState, StandsDevice, StandsInterface}
use Rattle.usb_device.specs.Futures.{FutureState, StandsFuture}
use Rattle.usb_device_host.specs.DeviceLaws.{DevicesAreHeld}
use Rattle.usb_device.specs.OwnerLaws.{ClaimsAreOwned}
use Rattle.usb_session_streams.specs.Accounts.{TicketsAreCounted}
use Rattle.usb_session_calls.specs.Names.{named}
use Rattle.usb_session_calls.specs.EndpointNames.{EndpointName, held_under}
use Rattle.usb_session_calls.specs.HeldTickets.{TicketsAreNamed}

-- the host, and what is open by the number of its name: the keys of devices, the interfaces, the endpoints, readers, writers and
-- clients of messages as their calls see them, and the futures; the tree of attributes, and the packets of udev that are left
pub record SessionState : Type 0 where
  pub host : HostState
  pub devices : List (Option ℕ)
  pub interfaces : List (Option InterfaceState)
  pub endpoints : List (Option EndpointState)
  pub readers : List (Option ReaderState)
  pub writers : List (Option WriterState)
  pub clients : List (Option ClientState)
  pub futures : List (Option FutureState)
  pub tree : Tree
  pub packets : List UdevPacket

-- whether what is open under a name is a handle of the interface of a key
abbrev pub is_handle_of : ℕ → Option InterfaceState → Bool
is_handle_of key None = false
is_handle_of key (Some f) = f.key == key

-- whether it is a handle of the device of a key
abbrev pub is_device_of : ℕ → Option ℕ → Bool
is_device_of key None = false
is_device_of key (Some k) = k == key

-- what is open under some name has this key
pub record IsNamed {X : Type 0} (key_of : X → ℕ) (names : List (Option X)) (key : ℕ) : Type 0 where
  pub name : ℕ
  pub entry : X
  pub at : named names name ≡ Some entry
  pub key_is : key_of entry ≡ key

abbrev pub future_key : FutureState → ℕ
future_key f = f.key

-- the endpoint that is open under a name, as its calls see it
abbrev pub open_under : SessionState → EndpointName → Option EndpointState
open_under s =
    held_under (λ (x : ReaderState). x.endpoint) (λ (x : WriterState). x.endpoint)
    (λ (x : ClientState). x.writer.endpoint) (λ (x : ClientState). x.reader.endpoint)
    s.endpoints s.readers s.writers s.clients

-- an endpoint that is open under some name has this key
pub record IsUnder (opened : EndpointName → Option EndpointState) (key : ℕ) : Type 0 where
  pub name : EndpointName
  pub entry : EndpointState
  pub at : opened name ≡ Some entry
  pub key_is : entry.key ≡ key

-- each endpoint that is open at the host is open under a name, or is that of a future
abbrev pub KeysAreNamed : List (Option HostEndpoint) → (EndpointName → Option EndpointState) → List (Option FutureState) → Type 0
KeysAreNamed keys opened futures =
    (key : ℕ) → key_at keys key ≡ true → IsUnder opened key ⊎ IsNamed future_key futures key

-- between calls no step is left; there are 64 names of each kind; the maximum packet size of an endpoint has 11 bits; what is open under a name stands in the host; a device and an interface have as many open handles as there
-- are names of them; each device that the host keeps is held; no endpoint and no future is open under two names, and no two of them have one key;
-- a future that is open under a name still has its ticket; each endpoint that is open at the host is open under a name, or is a future's; so is each ticket that one holds, and
-- there are as many as in the journal; and the claims of the kernel are those that have an owner.
-- (In `futures_differ` m and n are numbers of names of futures)
pub record IsSound (s : SessionState) : Type 0 where
  pub idle : s.host.steps ≡ []
  pub device_names : length s.devices ≡ 64
  pub interface_names : length s.interfaces ≡ 64
  pub endpoint_names : length s.endpoints ≡ 64
  pub reader_names : length s.readers ≡ 64
  pub writer_names : length s.writers ≡ 64
  pub client_names : length s.clients ≡ 64
  pub future_names : length s.futures ≡ 64
  pub devices_stand : (d key : ℕ) → named s.devices d ≡ Some key → StandsDevice s.host key
  pub devices_counted : (key : ℕ) (o : OpenDevice) → value_at s.host.devices key ≡ Some o → count_by (is_device_of key) s.devices ≡ o.handles
  pub devices_held : DevicesAreHeld s.host
  pub interfaces_stand : (i : ℕ) (f : InterfaceState) → named s.interfaces i ≡ Some f → StandsInterface s.host f
  pub interfaces_counted : (key : ℕ) (c : ClaimedInterface) → value_at s.host.interfaces key ≡ Some c → count_by (is_handle_of key) s.interfaces ≡ c.handles
  pub endpoints_stand : (e : EndpointName) (h : EndpointState) → open_under s e ≡ Some h → Stands (bus_of s.host) h
  pub endpoints_small : (e : EndpointName) (h : EndpointState) → open_under s e ≡ Some h → h.maximum < 2048
  pub endpoints_differ : (d e : EndpointName) (g h : EndpointState) → open_under s d ≡ Some g → open_under s e ≡ Some h → d ≢ e → g.key ≢ h.key
  pub futures_wait : (n : ℕ) (f : FutureState) → named s.futures n ≡ Some f → IsSome f.ticket
  pub futures_stand : (n : ℕ) (f : FutureState) → named s.futures n ≡ Some f → StandsFuture s.host f
  pub futures_differ : (m n : ℕ) (f g : FutureState) → named s.futures m ≡ Some f → named s.futures n ≡ Some g → m ≢ n → f.key ≢ g.key
  pub futures_apart : (e : EndpointName) (n : ℕ) (h : EndpointState) (f : FutureState) → open_under s e ≡ Some h → named s.futures n ≡ Some f → h.key ≢ f.key
  pub keys_named : KeysAreNamed s.host.endpoints (open_under s) s.futures
  pub tickets_named : TicketsAreNamed (λ (h : EndpointState). h) s.host.tickets (open_under s) s.futures
  pub tickets_counted : TicketsAreCounted s.host
  pub claims_owned : ClaimsAreOwned s.host
