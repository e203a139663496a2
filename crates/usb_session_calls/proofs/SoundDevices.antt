-- Sessions in which devices and their names change together.
use Rattle.std.proofs.Common.{◌≡◌, ℕ, ◌<◌, List, length, Option, Some, ap, sym, ◌∙◌, subst}
use Rattle.usb_device_tables.specs.History.{value_at}
use Rattle.usb_device_ledger.specs.Entries.{ClaimedInterface}
use Rattle.usb_device_ledger.specs.declared.opened.OpenDevice.{OpenDevice}
use Rattle.usb_device_endpoint.specs.BusState.{BusState}
use Rattle.usb_device_endpoint.specs.Handles.{Stands}
use Rattle.usb_device_host.specs.HostState.{HostState}
use Rattle.usb_device_host.specs.HostBus.{bus_of}
use Rattle.usb_device_host.specs.HandleStates.{InterfaceState, StandsDevice, StandsInterface}
use Rattle.usb_device_host.specs.DeviceLaws.{DevicesAreHeld}
use Rattle.usb_session_streams.specs.Accounts.{KeepsAccounts}
use Rattle.usb_session_calls.specs.Names.{named}
use Rattle.usb_session_calls.specs.SessionState.{SessionState, IsSound, open_under}
use Rattle.usb_session_calls.proofs.CountedNames.{counted-same}
use Rattle.usb_session_calls.proofs.CountedDevices.{CountedDevices}
use Rattle.usb_session_calls.proofs.NamedKeys.{none-bus, named-goes}
use Rattle.usb_session_calls.proofs.NamedTickets.{tickets-goes}
use Rattle.usb_session_calls.proofs.FutureLemmas.{future-same}

-- the device of a handle that stands
pub device-of : (h : HostState) (key : ℕ) → StandsDevice h key → (o : OpenDevice) × (value_at h.devices key ≡ Some o)
device-of h key stands = (stands.device, stands.at)

-- an interface with an open handle has its device
pub stands-held : (h : HostState) (f : InterfaceState) (c : ClaimedInterface) → DevicesAreHeld h → value_at h.interfaces f.key ≡ Some c → c.number ≡ f.number → 0 < c.handles → StandsInterface h f
stands-held h f c held at number some = record { claim = c; at = at; number = number; open_handle = some; device = held.there f.key c at some }

pub sound-device : (s : SessionState) (now : HostState) (after : List (Option ℕ)) → IsSound s → now.steps ≡ s.host.steps → now.interfaces ≡ s.host.interfaces → bus_of now ≡ bus_of s.host → length after ≡ length s.devices
    → ((d key : ℕ) → named after d ≡ Some key → StandsDevice now key) → CountedDevices now.devices after → DevicesAreHeld now → KeepsAccounts s.host now → IsSound (record s { host = now; devices = after })
sound-device s now after sound steps interfaces bus names stand counted held accounts =
    record {
      idle = steps ∙ sound.idle;
      device_names = names ∙ sound.device_names;
      interface_names = sound.interface_names;
      endpoint_names = sound.endpoint_names;
      reader_names = sound.reader_names;
      writer_names = sound.writer_names;
      client_names = sound.client_names;
      devices_stand = stand;
      devices_counted = counted;
      devices_held = held;
      interfaces_stand = λ i f at.
          let was = sound.interfaces_stand i f at in
          stands-held now f was.claim held (ap (λ (l : List (Option ClaimedInterface)). value_at l f.key) interfaces ∙ was.at) was.number was.open_handle;
      interfaces_counted = counted-same s.host.interfaces now.interfaces s.interfaces interfaces sound.interfaces_counted;
      endpoints_stand = λ e h at. subst (λ (b : BusState). Stands b h) (sym bus) (sound.endpoints_stand e h at);
      endpoints_small = sound.endpoints_small;
      endpoints_differ = sound.endpoints_differ;
      keys_named = named-goes s.host.endpoints now.endpoints (open_under s) s.futures (none-bus s.host now bus) sound.keys_named;
      tickets_named = tickets-goes s.host now (open_under s) s.futures accounts sound.tickets_named;
      tickets_counted = accounts.count sound.tickets_counted;
      claims_owned = accounts.claims.owned sound.claims_owned;
      future_names = sound.future_names;
      futures_wait = sound.futures_wait;
      futures_stand = λ n f at. future-same s.host now f bus (sound.futures_stand n f at);
      futures_differ = sound.futures_differ;
      futures_apart = sound.futures_apart;
    }
