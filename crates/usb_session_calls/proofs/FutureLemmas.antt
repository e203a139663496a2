-- Futures of a session: what they stand on stays while the host goes on.
use Rattle.std.proofs.Common.{◌≡◌, ℕ, ◌<◌, length, true, false, List, [], ◌∷◌, Option, Some, None, slice_get, refl, ap, sym, ◌∙◌, subst}
use Rattle.std.specs.Prelude.{is_some, IsSome}
use Rattle.std.specs.Option.{option_map}
use Rattle.std.proofs.lemmas.Option.{none-some}
use Rattle.usb_desc.specs.declared.types.TransferType.TheVariants as kind
use Rattle.usb_kernel.specs.declared.event.Event.{Event}
use Rattle.usb_kernel.specs.declared.submission.Done.{Done}
use Rattle.usb_kernel.specs.Extends.{Extends}
use Rattle.usb_kernel.specs.Tickets.{Ticket, tickets}
use Rattle.usb_kernel.specs.Completions.{completion}
use Rattle.usb_kernel.proofs.Extends.{ticket-stays, completion-stays}
use Rattle.usb_device_endpoint.specs.BusState.{BusState}
use Rattle.usb_kernel.specs.TransferCompletions.{transfer_completion, completion_of}
use Rattle.usb_device_endpoint.specs.EndpointState.{EndpointState}
use Rattle.usb_device_endpoint.specs.Handles.{Stands}
use Rattle.usb_device_host.specs.HostState.{HostState}
use Rattle.usb_device_host.specs.HostBus.{bus_of}
use Rattle.usb_device_host.specs.HostAwaits.{deadline_of}
use Rattle.usb_device.specs.Futures.{FutureState, IsOnItsWay, StandsFuture}
use Rattle.usb_device.proofs.FreshKeys.{endpoint-within}

-- an endpoint of this key with one ticket pending
abbrev pub control_with : ℕ → ℕ → EndpointState
control_with key t =
    record { device = 0; address = 0; kind = kind.Control; maximum = 0; key = key; pending = t ∷ [] }

way-stands : (h : HostState) (f : FutureState) (t : ℕ) → IsOnItsWay h f t → Stands (bus_of h) (control_with f.key t)
way-stands h f t was = record { key_is_open = was.key_is_open; held = (was.held, tt, tt) }

pub deadline-stays : (old new : List Event) (t d : ℕ) → Extends old new → deadline_of old t ≡ Some d → deadline_of new t ≡ Some d
deadline-stays old new t d goes is = by (slice_get (tickets old) t) refl
  where
    by : (o : Option Ticket) → slice_get (tickets old) t ≡ o → deadline_of new t ≡ Some d
    by None at = absurd (none-some d (rw at at is))
    by (Some s) at = rw (ticket-stays old new t s goes at) (rw at at is)

unfound-by : (old new : List Event) (t : ℕ) (o : Option Done) → Extends old new → completion old t ≡ o → is_some (transfer_completion new t) ≡ false → is_some (option_map completion_of o) ≡ false
unfolding transfer_completion
unfound-by old new t None goes at none = refl
unfound-by old new t (Some done) goes at none =
    absurd (let there : true ≡ false = ap (λ d. is_some (option_map completion_of d)) (sym (completion-stays old new t done goes at)) ∙ none in cc)

pub unfound : (old new : List Event) (t : ℕ) → Extends old new → is_some (transfer_completion new t) ≡ false → is_some (transfer_completion old t) ≡ false
unfolding transfer_completion
unfound old new t goes none = unfound-by old new t (completion old t) goes refl none

-- where the host keeps what endpoints hold, and its journal goes on
pub future-goes : (old new : HostState) (f : FutureState) → ((t : ℕ) → Stands (bus_of old) (control_with f.key t) → Stands (bus_of new) (control_with f.key t)) → Extends old.kernel.past new.kernel.past → StandsFuture old f → StandsFuture new f
future-goes old new f keeps goes was =
    record {
      on_its_way = λ t at.
          let before = was.on_its_way t at in
          let now = keeps t (way-stands old f t before) in
          record {
            key_is_open = now.key_is_open;
            held = now.held.0;
            due = λ none. deadline-stays old.kernel.past new.kernel.past t f.deadline goes (before.due (unfound old.kernel.past new.kernel.past t goes none));
          };
    }

-- so also where the host is the same bus
pub past-same : (old new : HostState) → bus_of new ≡ bus_of old → Extends old.kernel.past new.kernel.past
past-same old new bus = record { more = []; is = ap (λ (b : BusState). b.past) bus }

pub future-same : (old new : HostState) (f : FutureState) → bus_of new ≡ bus_of old → StandsFuture old f → StandsFuture new f
future-same old new f bus =
    future-goes old new f (λ t. subst (λ (b : BusState). Stands b (control_with f.key t)) (sym bus)) (past-same old new bus)

-- the key of a future that has a ticket is that of an endpoint of the host
pub future-within : (h : HostState) (f : FutureState) → IsSome f.ticket → StandsFuture h f → f.key < length h.endpoints
future-within h f some was = by f.ticket refl some
  where
    by : (o : Option ℕ) → f.ticket ≡ o → IsSome o → f.key < length h.endpoints
    by None at some = absurd (cc)
    by (Some t) at some = endpoint-within h (control_with f.key t) (way-stands h f t (was.on_its_way t at))
