-- A sound session over a host, with endpoints under their names: what is true of both, whatever lists have these.
use Rattle.std.proofs.Common.{◌≡◌, ◌≢◌, ℕ, ◌<◌, [], Option, Some}
use Rattle.std.specs.List.{count_by}
use Rattle.usb_device_tables.specs.History.{value_at}
use Rattle.usb_device_endpoint.specs.EndpointState.{EndpointState}
use Rattle.usb_device_endpoint.specs.Handles.{Stands}
use Rattle.usb_device_ledger.specs.Entries.{ClaimedInterface}
use Rattle.usb_device_ledger.specs.declared.opened.OpenDevice.{OpenDevice}
use Rattle.usb_device_host.specs.HostState.{HostState}
use Rattle.usb_device_host.specs.HostBus.{bus_of}
use Rattle.usb_device_host.specs.HandleStates.{InterfaceState, StandsDevice, StandsInterface}
use Rattle.usb_device_host.specs.DeviceLaws.{DevicesAreHeld}
use Rattle.usb_device.specs.Futures.{FutureState, StandsFuture}
use Rattle.usb_device.specs.OwnerLaws.{ClaimsAreOwned}
use Rattle.usb_session_streams.specs.Accounts.{TicketsAreCounted}
use Rattle.usb_session_calls.specs.Names.{named}
use Rattle.usb_session_calls.specs.EndpointNames.{EndpointName}
use Rattle.usb_session_calls.specs.HeldTickets.{TicketsAreNamed}
use Rattle.usb_session_calls.specs.SessionState.{SessionState, IsSound, KeysAreNamed, is_handle_of, is_device_of, open_under}

-- the devices, interfaces and futures are those of a session, its host is h, and these endpoints are open under names
pub record SoundOver (s : SessionState) (h : HostState) (opened : EndpointName → Option EndpointState) : Type 0 where
  pub idle : h.steps ≡ []
  pub devices_stand : (d key : ℕ) → named s.devices d ≡ Some key → StandsDevice h key
  pub devices_counted : (key : ℕ) (o : OpenDevice) → value_at h.devices key ≡ Some o → count_by (is_device_of key) s.devices ≡ o.handles
  pub devices_held : DevicesAreHeld h
  pub interfaces_stand : (i : ℕ) (f : InterfaceState) → named s.interfaces i ≡ Some f → StandsInterface h f
  pub interfaces_counted : (key : ℕ) (c : ClaimedInterface) → value_at h.interfaces key ≡ Some c → count_by (is_handle_of key) s.interfaces ≡ c.handles
  pub endpoints_stand : (e : EndpointName) (x : EndpointState) → opened e ≡ Some x → Stands (bus_of h) x
  pub endpoints_small : (e : EndpointName) (x : EndpointState) → opened e ≡ Some x → x.maximum < 2048
  pub endpoints_differ : (d e : EndpointName) (x y : EndpointState) → opened d ≡ Some x → opened e ≡ Some y → d ≢ e → x.key ≢ y.key
  pub futures_stand : (n : ℕ) (f : FutureState) → named s.futures n ≡ Some f → StandsFuture h f
  pub futures_apart : (e : EndpointName) (n : ℕ) (x : EndpointState) (f : FutureState) → opened e ≡ Some x → named s.futures n ≡ Some f → x.key ≢ f.key
  pub keys_named : KeysAreNamed h.endpoints opened s.futures
  pub tickets_named : TicketsAreNamed (λ (x : EndpointState). x) h.tickets opened s.futures
  pub tickets_counted : TicketsAreCounted h
  pub claims_owned : ClaimsAreOwned h

-- a sound session is
pub over-session : (s : SessionState) → IsSound s → SoundOver s s.host (open_under s)
over-session s sound =
    record {
      idle = sound.idle;
      devices_stand = sound.devices_stand;
      devices_counted = sound.devices_counted;
      devices_held = sound.devices_held;
      interfaces_stand = sound.interfaces_stand;
      interfaces_counted = sound.interfaces_counted;
      endpoints_stand = sound.endpoints_stand;
      endpoints_small = sound.endpoints_small;
      endpoints_differ = sound.endpoints_differ;
      futures_stand = sound.futures_stand;
      futures_apart = sound.futures_apart;
      keys_named = sound.keys_named;
      tickets_named = sound.tickets_named;
      tickets_counted = sound.tickets_counted;
      claims_owned = sound.claims_owned;
    }
