-- What the calls of handles make of a host as a bus, and what they leave as it was.
use Rattle.std.proofs.Common.{ℕ, zero, suc, ◌≡◌, ◌≢◌, Bool, true, false, cond, List, [], ◌∷◌, set, slice_get, Option, Some, None, refl, sym, ◌∙◌, ap, inl, inr}
use Rattle.std.specs.Prelude.{is_some, option_and_then}
use Rattle.std.specs.Option.{option_map, option_map_or}
use Rattle.std.proofs.Math.Path.{fun_ext}
use Rattle.std.proofs.lemmas.Bool.{cases_eq, eq-eqb, ne_eqb}
use Rattle.usb_xfer.specs.BufferState.{BufferState}
use Rattle.usb_xfer.specs.declared.transfer.TransferData.{TransferData}
use Rattle.usb_xfer.specs.Transfers.{buffer_held}
use Rattle.usb_kernel.specs.Completions.{completion}
use Rattle.usb_device_endpoint.specs.declared.route.Route.{Route}
use Rattle.usb_device_endpoint.specs.BusState.{without_owner, without_key}
use Rattle.usb_device_endpoint.proofs.HandleLemmas.{without_owner-other}
use Rattle.usb_device_ledger.specs.declared.ends.TicketEnd.{TicketEnd}
use Rattle.usb_device_ledger.specs.declared.ends.TicketEnd.TheVariants.{Taken, Dropped}
use Rattle.usb_device_ledger.specs.Entries.{HostTicket, HostEndpoint, Hold, HeldBy, Abandoned, Ended}
use Rattle.usb_device_host.specs.HostState.{HostState}
use Rattle.usb_device_host.specs.Releases.{endpoint_left, settled}
use Rattle.usb_device_host.specs.TicketEnds.{ended_as, host_ended, host_taken, given_up, host_abandoned}
use Rattle.usb_device_host.specs.HostCalls.{submitted_with, host_submitted, refused_with, host_refused, closed_if, host_left}
use Rattle.usb_device_host.specs.HostBus.{held_as, owner_at, key_at, bus_of}
use Rattle.usb_device_host.proofs.HostKeeps.{KeepsLine, KeepsOpen}
use Rattle.usb_device_host.proofs.HostFrames.{ended_as-is, ended_as-goes, owner-set_other}
use Rattle.usb_device_host.specs.HostBusFacts.{key-left}
use Rattle.usb_device_tables.specs.History.{value_at}
use Rattle.usb_device_tables.proofs.ValueLemmas.{value-set_other}
use Rattle.usb_device_host.proofs.ClaimFrames.{goes-refl, goes-of}
use Rattle.usb_device_host.specs.HostFrames.{ClaimsGoOn}

-- nothing that handles stand on has changed
pub keeps-open : (h : HostState) → KeepsOpen h h
keeps-open h = record { line = record { steps = refl; spare = refl; devices = refl }; interfaces = goes-refl h.interfaces; endpoints = goes-refl h.endpoints }

-- a submission adds a ticket, and changes the journal and the armed refusals
submitted_with-keeps : (h : HostState) (to : Route) (deadline : Option ℕ) (t : TransferData) (o : Option BufferState) → KeepsOpen h (submitted_with h to deadline t o)
submitted_with-keeps h to deadline t None = keeps-open h
submitted_with-keeps h to deadline t (Some b) = record { line = record { steps = refl; spare = refl; devices = refl }; interfaces = goes-refl h.interfaces; endpoints = goes-refl h.endpoints }

pub keeps-submitted : (h : HostState) (to : Route) (deadline : Option ℕ) (t : TransferData) → KeepsOpen h (host_submitted h to deadline t)
unfolding host_submitted
keeps-submitted h to deadline t = submitted_with-keeps h to deadline t (buffer_held t.held)

-- so does one that is refused
refused_with-keeps : (h : HostState) (to : Route) (t : TransferData) (errno : ℕ) (o : Option BufferState) → KeepsOpen h (refused_with h to t errno o)
refused_with-keeps h to t errno None = keeps-open h
refused_with-keeps h to t errno (Some b) = record { line = record { steps = refl; spare = refl; devices = refl }; interfaces = goes-refl h.interfaces; endpoints = goes-refl h.endpoints }

pub keeps-refused : (h : HostState) (to : Route) (t : TransferData) (errno : ℕ) → KeepsOpen h (host_refused h to t errno)
unfolding host_refused
keeps-refused h to t errno = refused_with-keeps h to t errno (buffer_held t.held)

-- the owners without one
without_owner-at : (owner owner' : ℕ → Option ℕ) (t : ℕ) → owner' t ≡ None → ((u : ℕ) → t ≢ u → owner' u ≡ owner u) → (u : ℕ) → owner' u ≡ without_owner owner t u
without_owner-at owner owner' t none other u =
    elim (cases_eq t u) [
      | inl same ↦ let now : without_owner owner t u ≡ None = rw (eq-eqb t u same) refl in ap owner' (sym same) ∙ (none ∙ sym now)
      | inr ne ↦ other u ne ∙ sym (without_owner-other owner t u ne)
    ]

owner-set_none : (ts : List HostTicket) (t : ℕ) (new : HostTicket) → held_as new ≡ None → owner_at (set ts t new) t ≡ None
owner-set_none [] t new none = refl
owner-set_none (x ∷ xs) zero new none = ap (option_map (λ (hold : Hold). hold.key)) none
owner-set_none (x ∷ xs) (suc t) new none = owner-set_none xs t new none

-- nobody holds a ticket that is not there, or that was given up, or that has its end
owner-none : (ts : List HostTicket) (t : ℕ) (o : Option HostTicket) → slice_get ts t ≡ o → option_and_then held_as o ≡ None → owner_at ts t ≡ None
owner-none ts t o at none = ap (λ (o : Option HostTicket). option_map (λ (hold : Hold). hold.key) (option_and_then held_as o)) at ∙ ap (option_map (λ (hold : Hold). hold.key)) none

without_owner-same : (h : HostState) (t : ℕ) (o : Option HostTicket) → slice_get h.tickets t ≡ o → option_and_then held_as o ≡ None → (u : ℕ) → owner_at h.tickets u ≡ without_owner (owner_at h.tickets) t u
without_owner-same h t o at none = without_owner-at (owner_at h.tickets) (owner_at h.tickets) t (owner-none h.tickets t o at none) (λ u ne. refl)

without_owner-set : (h : HostState) (t : ℕ) (new : HostTicket) → held_as new ≡ None → (u : ℕ) → owner_at (set h.tickets t new) u ≡ without_owner (owner_at h.tickets) t u
without_owner-set h t new none = without_owner-at (owner_at h.tickets) (owner_at (set h.tickets t new)) t (owner-set_none h.tickets t new none) (λ u ne. owner-set_other h.tickets t u new ne)

ended_as-owner : (h : HostState) (t : ℕ) (end : TicketEnd) (o : Option HostTicket) → slice_get h.tickets t ≡ o → (u : ℕ) → owner_at (ended_as h t end o).tickets u ≡ without_owner (owner_at h.tickets) t u
unfolding settled endpoint_left
ended_as-owner h t end None at = without_owner-same h t None at refl
ended_as-owner h t end (Some (HeldBy hold)) at = without_owner-set h t (Ended end) refl
ended_as-owner h t end (Some (Abandoned key)) at = without_owner-set h t (Ended end) refl
ended_as-owner h t end (Some (Ended before)) at = without_owner-same h t (Some (Ended before)) at refl

-- the end of a ticket, to a bus
pub bus-ended : (h : HostState) (t : ℕ) (end : TicketEnd) → bus_of (host_ended h t end) ≡ record (bus_of h) { owner = without_owner (owner_at h.tickets) t }
unfolding host_ended
bus-ended h t end =
    ap bus_of (ended_as-is h t end (slice_get h.tickets t))
    ∙ (ap (λ (keys : ℕ → Bool). record (bus_of h) { owner = owner_at (ended_as h t end (slice_get h.tickets t)).tickets; keys = keys }) (fun_ext (ended_as-goes h t end (slice_get h.tickets t)).keys)
    ∙ ap (λ (owner : ℕ → Option ℕ). record (bus_of h) { owner = owner }) (fun_ext (ended_as-owner h t end (slice_get h.tickets t) refl)))

pub bus-taken : (h : HostState) (t : ℕ) → bus_of (host_taken h t) ≡ record (bus_of h) { owner = without_owner (owner_at h.tickets) t }
unfolding host_taken
bus-taken h t = bus-ended h t Taken

given_up-bus : (h : HostState) (t : ℕ) (o : Option HostTicket) → slice_get h.tickets t ≡ o → bus_of (given_up h t o) ≡ record (bus_of h) { owner = without_owner (owner_at h.tickets) t }
given_up-bus h t None at = ap (λ (owner : ℕ → Option ℕ). record (bus_of h) { owner = owner }) (fun_ext (without_owner-same h t None at refl))
given_up-bus h t (Some (HeldBy hold)) at = ap (λ (owner : ℕ → Option ℕ). record (bus_of h) { owner = owner }) (fun_ext (without_owner-set h t (Abandoned hold.key) refl))
given_up-bus h t (Some (Abandoned key)) at = ap (λ (owner : ℕ → Option ℕ). record (bus_of h) { owner = owner }) (fun_ext (without_owner-same h t (Some (Abandoned key)) at refl))
given_up-bus h t (Some (Ended end)) at = ap (λ (owner : ℕ → Option ℕ). record (bus_of h) { owner = owner }) (fun_ext (without_owner-same h t (Some (Ended end)) at refl))

-- what holds of both outcomes
of_two : (P : HostState → Type 0) (b : Bool) (x y : HostState) → P x → P y → P (cond b x y)
of_two P true x y px py = px
of_two P false x y px py = py

pub bus-abandoned : (h : HostState) (t : ℕ) → bus_of (host_abandoned h t) ≡ record (bus_of h) { owner = without_owner (owner_at h.tickets) t }
unfolding host_abandoned
bus-abandoned h t =
    of_two (λ g. bus_of g ≡ record (bus_of h) { owner = without_owner (owner_at h.tickets) t }) (is_some (completion h.kernel.past t)) (host_ended h t Dropped) (given_up h t (slice_get h.tickets t))
    (bus-ended h t Dropped) (given_up-bus h t (slice_get h.tickets t) refl)

-- what ends a ticket keeps what is open
pub keeps-ended : (h : HostState) (t : ℕ) (end : TicketEnd) → KeepsOpen h (host_ended h t end)
unfolding host_ended
keeps-ended h t end =
    let is = ended_as-is h t end (slice_get h.tickets t) in
    record {
      line = record { steps = ap (λ (g : HostState). g.steps) is; spare = ap (λ (g : HostState). g.kernel.spare) is; devices = ap (λ (g : HostState). g.devices) is };
      interfaces = (ended_as-goes h t end (slice_get h.tickets t)).interfaces;
      endpoints = (ended_as-goes h t end (slice_get h.tickets t)).endpoints;
    }

pub keeps-taken : (h : HostState) (t : ℕ) → KeepsOpen h (host_taken h t)
unfolding host_taken
keeps-taken h t = keeps-ended h t Taken

given_up-keeps : (h : HostState) (t : ℕ) (o : Option HostTicket) → KeepsOpen h (given_up h t o)
given_up-keeps h t None = keeps-open h
given_up-keeps h t (Some (HeldBy hold)) = record { line = record { steps = refl; spare = refl; devices = refl }; interfaces = goes-refl h.interfaces; endpoints = goes-refl h.endpoints }
given_up-keeps h t (Some (Abandoned key)) = keeps-open h
given_up-keeps h t (Some (Ended end)) = keeps-open h

pub keeps-abandoned : (h : HostState) (t : ℕ) → KeepsOpen h (host_abandoned h t)
unfolding host_abandoned
keeps-abandoned h t =
    of_two (λ g. KeepsOpen h g) (is_some (completion h.kernel.past t)) (host_ended h t Dropped) (given_up h t (slice_get h.tickets t))
    (keeps-ended h t Dropped) (given_up-keeps h t (slice_get h.tickets t))

-- the keys without that of a handle that is closed
key-set : (es : List (Option HostEndpoint)) (k : ℕ) (e : HostEndpoint) → key_at (set es k (Some (record e { is_open = false }))) k ≡ false
key-set [] k e = refl
key-set (x ∷ xs) zero e = refl
key-set (x ∷ xs) (suc k) e = key-set xs k e

key-set_other : (es : List (Option HostEndpoint)) (k j : ℕ) (o : Option HostEndpoint) → k ≢ j → key_at (set es k o) j ≡ key_at es j
key-set_other es k j o ne = ap (λ (o : Option HostEndpoint). option_map_or (λ (e : HostEndpoint). e.is_open) o false) (value-set_other es k j o ne)

without_key-at : (keys keys' : ℕ → Bool) (k : ℕ) → keys' k ≡ false → ((j : ℕ) → k ≢ j → keys' j ≡ keys j) → (j : ℕ) → keys' j ≡ without_key keys k j
without_key-at keys keys' k none other j =
    elim (cases_eq k j) [
      | inl same ↦ let now : without_key keys k j ≡ false = rw (eq-eqb k j same) refl in ap keys' (sym same) ∙ (none ∙ sym now)
      | inr ne ↦ let now : without_key keys k j ≡ keys j = rw (ne_eqb k j ne) refl in other j ne ∙ sym now
    ]

closed_if-keys : (h : HostState) (k : ℕ) (o : Option HostEndpoint) → value_at h.endpoints k ≡ o → (j : ℕ) → key_at (closed_if h k o).endpoints j ≡ without_key (key_at h.endpoints) k j
unfolding settled endpoint_left
closed_if-keys h k None at =
    without_key-at (key_at h.endpoints) (key_at h.endpoints) k (ap (λ (o : Option HostEndpoint). option_map_or (λ (e : HostEndpoint). e.is_open) o false) at) (λ j ne. refl)
closed_if-keys h k (Some e) at = λ j.
    key-left h.tickets (set h.endpoints k (Some (record e { is_open = false }))) k j
    ∙ without_key-at (key_at h.endpoints) (key_at (set h.endpoints k (Some (record e { is_open = false })))) k (key-set h.endpoints k e)
    (λ j ne. key-set_other h.endpoints k j (Some (record e { is_open = false })) ne) j

-- the close of an endpoint changes endpoints, claimed interfaces, devices of the kernel and what is armed there
closed_if-is : (h : HostState) (k : ℕ) (o : Option HostEndpoint) → closed_if h k o ≡ record h { kernel = record h.kernel { devices = (closed_if h k o).kernel.devices; armed = (closed_if h k o).kernel.armed }; interfaces = (closed_if h k o).interfaces; endpoints = (closed_if h k o).endpoints }
unfolding settled endpoint_left
closed_if-is h k None = refl
closed_if-is h k (Some e) = refl

pub bus-left : (h : HostState) (k : ℕ) → bus_of (host_left h k) ≡ record (bus_of h) { keys = without_key (key_at h.endpoints) k }
unfolding host_left
bus-left h k =
    ap bus_of (closed_if-is h k (value_at h.endpoints k))
    ∙ ap (λ (keys : ℕ → Bool). record (bus_of h) { keys = keys }) (fun_ext (closed_if-keys h k (value_at h.endpoints k) refl))

pub line-left : (h : HostState) (k : ℕ) → KeepsLine h (host_left h k)
unfolding host_left
line-left h k =
    let is = closed_if-is h k (value_at h.endpoints k) in
    record { steps = ap (λ (g : HostState). g.steps) is; spare = ap (λ (g : HostState). g.kernel.spare) is; devices = ap (λ (g : HostState). g.devices) is }

closed_if-goes : (h : HostState) (k : ℕ) (o : Option HostEndpoint) → ClaimsGoOn h.interfaces (closed_if h k o).interfaces
unfolding settled endpoint_left
closed_if-goes h k None = goes-refl h.interfaces
closed_if-goes h k (Some e) = goes-of h.interfaces h.tickets (set h.endpoints k (Some (record e { is_open = false }))) k

pub interfaces-left : (h : HostState) (k : ℕ) → ClaimsGoOn h.interfaces (host_left h k).interfaces
unfolding host_left
interfaces-left h k = closed_if-goes h k (value_at h.endpoints k)
