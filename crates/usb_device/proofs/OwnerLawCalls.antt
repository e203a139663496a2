-- The owners of interfaces over the calls of endpoints, devices and interfaces.
use Rattle.std.proofs.Common.{ℕ, arith, ◌≡◌, ◌≢◌, ◌+◌, ◌-◌, ◌≤◌, length-set, Bool, true, false, cond, List, [], ◌∷◌, ◌++◌, length, set, Option, Some, None, inl, inr, refl, sym, ◌∙◌, ap, subst}
use Rattle.std.specs.Prelude.{◌||◌, nat_lt}
use Rattle.std.specs.Option.{option_map, option_map_or}
use Rattle.std.proofs.lemmas.Bool.{cases_eq, eq-eqb, ne_eqb}
use Rattle.std.proofs.lemmas.Option.{same_Some}
use Rattle.usb_xfer.specs.BufferState.{BufferState}
use Rattle.usb_xfer.specs.declared.transfer.TransferData.{TransferData}
use Rattle.usb_xfer.specs.declared.transfer.Held.TheVariants.{Nothing}
use Rattle.usb_kernel.specs.declared.submission.Submission.{Submission}
use Rattle.usb_xfer.specs.Transfers.{buffer_held}
use Rattle.usb_kernel_devices.specs.declared.step.KernelCall.TheVariants as call
use Rattle.usb_kernel.specs.ClaimLaws.{is_claimed}
use Rattle.usb_kernel.specs.Value.{KernelState}
use Rattle.usb_kernel_devices.specs.Claims.{no_rules}
use Rattle.usb_kernel_devices.specs.Calls.{same, set_configuration_rules, with_configuration, detach_rules, without_driver, attach_rules, with_driver, set_interface_rules}
use Rattle.usb_kernel.specs.Calls.{called, after_reset}
use Rattle.usb_kernel.specs.Submits.{kernel_submitted, kernel_refused}
use Rattle.usb_kernel.proofs.Places.{slice_get-append_seam}
use Rattle.usb_device_tables.proofs.ValueLemmas.{value-set_same, value-set_other, value-push_cases}
use Rattle.usb_device_endpoint.specs.declared.route.Route.{Route}
use Rattle.usb_device_endpoint.specs.Routes.{submission_of}
use Rattle.usb_device_tables.specs.History.{value_at}
use Rattle.usb_device_host.specs.Handles.{devices_left}
use Rattle.usb_device_ledger.specs.declared.opened.OpenDevice.{OpenDevice}
use Rattle.usb_device_ledger.specs.Entries.{ClaimedInterface, HostTicket, HostEndpoint, HeldBy, control_endpoint}
use Rattle.usb_device_host.specs.HostState.{HostState}
use Rattle.usb_device_host.specs.HostBus.{key_at}
use Rattle.usb_device_ledger.specs.Owners.{is_ticket_of, if_there, lives, is_of, lives_on, has_living, is_owned_among}
use Rattle.usb_device.specs.OwnerLaws.{KeepsOwned, KeepsClaimed, KeepsClaims, KeepsOthers, EndpointsLive, IsOwned}
use Rattle.usb_device_host.proofs.ClaimFrames.{handles-own, goes-ended}
use Rattle.usb_device_host.specs.Releases.{owner_gone}
use Rattle.usb_device_host.specs.HostCalls.{with_held, submitted_with, host_submitted, refused_with, host_refused, closed_if, host_left, host_timed, host_idled, host_halt_cleared}
use Rattle.usb_device_host.specs.HandleStates.{InterfaceState, StandsInterface}
use Rattle.usb_device_host.specs.Handles.{device_cloned, device_closed, handle_added, handle_cloned, handle_gone, handle_closed}
use Rattle.usb_device_host.specs.Opens.{open_tried, host_opened}
use Rattle.usb_device_host.specs.EndpointOpens.{asked_on, host_asked, with_endpoint}
use Rattle.usb_device_host.specs.OnDevices.{detached_on, host_detached, attached_on, host_attached, reset_on, host_reset, configured_on, host_configured, speed_asked_on, host_speed_asked}
use Rattle.usb_device_host.specs.OnInterfaces.{alt_setting_errno, setting_unless, alt_setting_asked, alt_setting_on, alt_setting_set}
use Rattle.usb_device_host.proofs.InterfaceFrames.{armed_as, opened-is}
use Rattle.usb_device_host.specs.Controls.{host_started}
use Rattle.usb_device_host.proofs.EndpointLemmas.{key-new}
use Rattle.usb_device.proofs.OwnerLawLists.{any-at, any-push, any-push_at, or_true}
use Rattle.usb_device.proofs.OwnerLawKernel.{called-claimed, reset-claimed}
use Rattle.usb_device.proofs.OwnerLawKept.{claim_as, claim_at, at-claim, at-none, claims-kept, stays, claimed-refl, follow}
use Rattle.usb_device.proofs.OwnerLawLosses.{OwnerLeft, owned-settled}
use Rattle.usb_device.proofs.OwnerLawTickets.{claim-living, endpoint-settled, closed-left, closed-live}
use Rattle.usb_device.proofs.OwnerLawTurns.{kernel-owned, claim-tickets}

-- a new ticket of an open endpoint
open-at : (endpoints : List (Option HostEndpoint)) (k : ℕ) (e : HostEndpoint) → value_at endpoints k ≡ Some e → key_at endpoints k ≡ true → e.is_open ≡ true
open-at endpoints k e at is_open = sym (ap (λ (o : Option HostEndpoint). option_map_or (λ (e : HostEndpoint). e.is_open) o false) at) ∙ is_open

module _ (h : HostState) (to : Route) (t : TransferData) (is_open : key_at h.endpoints to.key ≡ true) where
  abbrev held : HostTicket
  held = HeldBy (record { key = to.key; endpoint = t.endpoint; kind = t.kind })

  lives-held : (m : ℕ) (e : HostEndpoint) → value_at h.endpoints m ≡ Some e → lives (h.tickets ++ held ∷ []) (0 + m, e) ≡ lives h.tickets (0 + m, e)
  lives-held m e at =
      elim (cases_eq to.key m) [
        | inl here ↦ let opened : e.is_open ≡ true = open-at h.endpoints m e at (ap (key_at h.endpoints) (sym here) ∙ is_open) in rw opened refl
        | inr apart ↦ ap (λ b. e.is_open || b) (any-push (is_ticket_of (0 + m)) h.tickets held (ne_eqb to.key (0 + m) (λ z. apart (omega arith))))
      ]

  held-owned : (k : KernelState) → ((d n : ℕ) → is_claimed k.devices d n ≡ is_claimed h.kernel.devices d n) → KeepsClaims h (with_held h to t k)
  held-owned k claims = claims-kept h (with_held h to t k) (claimed-refl h.interfaces) claims (claim-tickets h (h.tickets ++ held ∷ []) lives-held) (λ live m e here. let z : 0 + m ≡ m = omega arith in (rw z at (lives-held m e here)) ∙ live m e here)

  submitted-by : (deadline : Option ℕ) (o : Option BufferState) → KeepsClaims h (submitted_with h to deadline t o)
  submitted-by deadline None = stays h
  submitted-by deadline (Some b) = held-owned (kernel_submitted h.kernel (submission_of to deadline b)) (λ d n. refl)

  pub submitted-owned : (deadline : Option ℕ) → KeepsClaims h (host_submitted h to deadline t)
  unfolding host_submitted
  submitted-owned deadline = submitted-by deadline (buffer_held t.held)

  refused-by : (errno : ℕ) (o : Option BufferState) → KeepsClaims h (refused_with h to t errno o)
  refused-by errno None = stays h
  refused-by errno (Some b) = held-owned (kernel_refused h.kernel (submission_of to None b) errno) (λ d n. refl)

  pub refused-owned : (errno : ℕ) → KeepsClaims h (host_refused h to t errno)
  unfolding host_refused
  refused-owned errno = refused-by errno (buffer_held t.held)

-- the handle of an open endpoint is closed
left-by : (h : HostState) (k : ℕ) (o : Option HostEndpoint) → value_at h.endpoints k ≡ o → key_at h.endpoints k ≡ true → KeepsClaims h (closed_if h k o)
left-by h k None at is_open = stays h
left-by h k (Some e) at is_open = endpoint-settled h h.tickets (set h.endpoints k (Some (record e { is_open = false }))) k (closed-left h k e at (open-at h.endpoints k e at is_open)) (closed-live h k e at (open-at h.endpoints k e at is_open))

pub left-owned : (h : HostState) (k : ℕ) → key_at h.endpoints k ≡ true → KeepsClaims h (host_left h k)
unfolding host_left
left-owned h k is_open = left-by h k (value_at h.endpoints k) refl is_open

pub timed-owned : (h : HostState) → KeepsClaims h (host_timed h)
timed-owned h = claims-kept h (host_timed h) (claimed-refl h.interfaces) (λ d n. refl) (λ i. refl) (λ live. live)

pub idled-owned : (h : HostState) (until : ℕ) → KeepsClaims h (host_idled h until)
idled-owned h until = claims-kept h (host_idled h until) (claimed-refl h.interfaces) (λ d n. refl) (λ i. refl) (λ live. live)

pub halt-owned : (h : HostState) (device endpoint : ℕ) → KeepsClaims h (host_halt_cleared h device endpoint)
halt-owned h device endpoint =
    let next = called h.kernel device call.Halt no_rules same in
    kernel-owned h next (λ d n. called-claimed h.kernel device call.Halt no_rules same (λ x. refl) d n (λ here x. refl))

-- calls of devices
pub opened-owned : (h : HostState) (bus address : ℕ) → KeepsClaims h (host_opened h bus address)
opened-owned h bus address =
    let next : HostState = record h { kernel = armed_as h.kernel (open_tried bus address h.kernel).kernel; devices = (host_opened h bus address).devices } in
    subst (λ (g : HostState). KeepsClaims h g) (sym (opened-is h bus address)) (claims-kept h next (claimed-refl h.interfaces) (λ d n. refl) (λ i. refl) (λ live. live))

pub device_cloned-owned : (h : HostState) (key : ℕ) → KeepsClaims h (device_cloned h key)
device_cloned-owned h key = claims-kept h (device_cloned h key) (claimed-refl h.interfaces) (λ d n. refl) (λ i. refl) (λ live. live)

pub device_closed-owned : (h : HostState) (key : ℕ) → KeepsClaims h (device_closed h key)
device_closed-owned h key = claims-kept h (device_closed h key) (claimed-refl h.interfaces) (λ d n. refl) (λ i. refl) (λ live. live)

asked-by : (h : HostState) (key : ℕ) (o : Option OpenDevice) → KeepsClaims h (asked_on h key o)
asked-by h key None = stays h
asked-by h key (Some o) = claims-kept h (asked_on h key (Some o)) (claimed-refl h.interfaces) (λ d n. called-claimed h.kernel o.device call.GetConfig no_rules same (λ x. refl) d n (λ here x. refl)) (λ i. refl) (λ live. live)

pub asked-owned : (h : HostState) (key : ℕ) → KeepsClaims h (host_asked h key)
unfolding host_asked
asked-owned h key = asked-by h key (value_at h.devices key)

configured-by : (h : HostState) (key value : ℕ) (o : Option OpenDevice) → KeepsClaims h (configured_on h key value o)
configured-by h key value None = stays h
configured-by h key value (Some o) = claims-kept h (configured_on h key value (Some o)) (claimed-refl h.interfaces) (λ d n. called-claimed h.kernel o.device call.SetConfig (set_configuration_rules value) (with_configuration value) (λ x. refl) d n (λ here x. refl)) (λ i. refl) (λ live. live)

pub configured-owned : (h : HostState) (key value : ℕ) → KeepsClaims h (host_configured h key value)
unfolding host_configured
configured-owned h key value = configured-by h key value (value_at h.devices key)

reset-by : (h : HostState) (o : Option OpenDevice) → KeepsClaims h (reset_on h o)
reset-by h None = stays h
reset-by h (Some o) = kernel-owned h (after_reset h.kernel o.device) (reset-claimed h.kernel o.device)

pub reset-owned : (h : HostState) (key : ℕ) → KeepsClaims h (host_reset h key)
unfolding host_reset
reset-owned h key = reset-by h (value_at h.devices key)

detached-by : (h : HostState) (number : ℕ) (o : Option OpenDevice) → KeepsClaims h (detached_on h number o)
detached-by h number None = stays h
detached-by h number (Some o) =
    kernel-owned h (called h.kernel o.device call.Detach (detach_rules number) (without_driver number))
    (λ d n. called-claimed h.kernel o.device call.Detach (detach_rules number) (without_driver number) (λ x. refl) d n (λ here x. refl))

pub detached-owned : (h : HostState) (key number : ℕ) → KeepsClaims h (host_detached h key number)
unfolding host_detached
detached-owned h key number = detached-by h number (value_at h.devices key)

attached-by : (h : HostState) (number : ℕ) (o : Option OpenDevice) → KeepsClaims h (attached_on h number o)
attached-by h number None = stays h
attached-by h number (Some o) =
    kernel-owned h (called h.kernel o.device call.Attach (attach_rules number) (with_driver number))
    (λ d n. called-claimed h.kernel o.device call.Attach (attach_rules number) (with_driver number) (λ x. refl) d n (λ here x. refl))

pub attached-owned : (h : HostState) (key number : ℕ) → KeepsClaims h (host_attached h key number)
unfolding host_attached
attached-owned h key number = attached-by h number (value_at h.devices key)

speed-by : (h : HostState) (o : Option OpenDevice) → KeepsClaims h (speed_asked_on h o)
speed-by h None = stays h
speed-by h (Some o) =
    kernel-owned h (called h.kernel o.device call.Speed no_rules same)
    (λ d n. called-claimed h.kernel o.device call.Speed no_rules same (λ x. refl) d n (λ here x. refl))

pub speed-owned : (h : HostState) (key : ℕ) → KeepsClaims h (host_speed_asked h key)
unfolding host_speed_asked
speed-owned h key = speed-by h (value_at h.devices key)

-- a claimed interface is written back
module _ (h : HostState) (i : ℕ) (c next : ClaimedInterface) (at : value_at h.interfaces i ≡ Some c) where
  abbrev written : HostState
  written = record h { interfaces = set h.interfaces i (Some next) }

  written-at : value_at written.interfaces i ≡ Some next
  written-at = value-set_same h.interfaces i c (Some next) at

  written-other : (j : ℕ) → j ≢ i → claim_at written j ≡ claim_at h j
  written-other j apart = ap (option_map (claim_as h j)) (value-set_other h.interfaces i j (Some next) (λ z. apart (sym z)))

  module _ (device : next.device ≡ c.device) (number : next.number ≡ c.number) where
    written-claim : is_owned_among h.tickets h.endpoints i next ≡ is_owned_among h.tickets h.endpoints i c → (j : ℕ) → claim_at written j ≡ claim_at h j
    written-claim owned j =
        elim (cases_eq j i) [
          | inl here ↦ rw here (at-claim written i next written-at ∙ (rw (owned, device, number) refl ∙ sym (at-claim h i c at)))
          | inr apart ↦ written-other j apart
        ]

    written-left : is_owned_among h.tickets h.endpoints i c ≡ true → OwnerLeft h written i
    written-left owned =
        record {
          claim = c;
          left = next;
          was = at;
          is = written-at;
          device = device;
          number = number;
          owned = owned;
          others = written-other;
          claims = λ d n. refl;
          count = length-set h.interfaces i (Some next);
        }

    written-claimed : c.handles ≤ next.handles → KeepsClaimed h.interfaces written.interfaces
    written-claimed more =
        record {
          given = let count : length written.interfaces ≡ length h.interfaces = length-set h.interfaces i (Some next) in omega (arith, count);
          stays = λ j d there some.
              elim (cases_eq j i) [
                | inl here ↦
                    let d_is : d ≡ c = same_Some d c (sym there ∙ ap (value_at h.interfaces) here ∙ at) in
                    let handles : d.handles ≡ c.handles = ap (λ (x : ClaimedInterface). x.handles) d_is in
                    record { claim = next; at = ap (value_at written.interfaces) here ∙ written-at; more = omega (arith, handles, more) }
                | inr apart ↦ record { claim = d; at = value-set_other h.interfaces i j (Some next) (λ z. apart (sym z)) ∙ there; more = omega arith }
              ];
        }

-- a setting that is set
setting-claim : (h : HostState) (i setting : ℕ) (c : ClaimedInterface) → value_at h.interfaces i ≡ Some c → (o : Option ℕ) → (j : ℕ) → claim_at (record h { interfaces = set h.interfaces i (Some (setting_unless c setting o)) }) j ≡ claim_at h j
unfolding is_owned_among
setting-claim h i setting c at None = written-claim h i c (record c { setting = setting }) at refl refl refl
setting-claim h i setting c at (Some errno) = written-claim h i c c at refl refl refl

setting-claimed : (h : HostState) (i setting : ℕ) (c : ClaimedInterface) → value_at h.interfaces i ≡ Some c → (o : Option ℕ) → KeepsClaimed h.interfaces (set h.interfaces i (Some (setting_unless c setting o)))
setting-claimed h i setting c at None = written-claimed h i c (record c { setting = setting }) at refl refl (omega arith)
setting-claimed h i setting c at (Some errno) = written-claimed h i c c at refl refl (omega arith)

asked-setting : (h : HostState) (i setting : ℕ) (c : ClaimedInterface) → value_at h.interfaces i ≡ Some c → KeepsClaims h (alt_setting_asked h i setting c)
asked-setting h i setting c at =
    claims-kept h (alt_setting_asked h i setting c) (setting-claimed h i setting c at (alt_setting_errno h c setting)) (λ d n. called-claimed h.kernel c.device call.Alt (set_interface_rules c.number setting) same (λ x. refl) d n (λ here x. refl)) (setting-claim h i setting c at (alt_setting_errno h c setting)) (λ live. live)

setting-unless : (h : HostState) (i setting : ℕ) (c : ClaimedInterface) → value_at h.interfaces i ≡ Some c → (living : Bool) → KeepsClaims h (cond living h (alt_setting_asked h i setting c))
setting-unless h i setting c at true = stays h
setting-unless h i setting c at false = asked-setting h i setting c at

setting-by : (h : HostState) (i setting : ℕ) (o : Option ClaimedInterface) → value_at h.interfaces i ≡ o → KeepsClaims h (alt_setting_on h i setting o)
setting-by h i setting None at = stays h
setting-by h i setting (Some c) at = setting-unless h i setting c at (has_living h.tickets h.endpoints i)

pub setting-owned : (h : HostState) (i setting : ℕ) → KeepsClaims h (alt_setting_set h i setting)
unfolding alt_setting_set
setting-owned h i setting = setting-by h i setting (value_at h.interfaces i) refl

module _ (h : HostState) (handle : InterfaceState) (stands : StandsInterface h handle) where
  abbrev claim : ClaimedInterface
  claim = stands.claim

  -- a handle that is cloned
  more-owned : is_owned_among h.tickets h.endpoints handle.key (record claim { handles = claim.handles + 1 }) ≡ is_owned_among h.tickets h.endpoints handle.key claim
  more-owned = handles-own h.tickets h.endpoints handle.key (record claim { handles = claim.handles + 1 }) (omega arith) ∙ sym (handles-own h.tickets h.endpoints handle.key claim stands.open_handle)

  added-owned : KeepsClaims h (handle_added h handle.key (Some claim))
  added-owned = claims-kept h (handle_added h handle.key (Some claim)) (written-claimed h handle.key claim (record claim { handles = claim.handles + 1 }) stands.at refl refl (omega arith)) (λ d n. refl) (written-claim h handle.key claim (record claim { handles = claim.handles + 1 }) stands.at refl refl more-owned) (λ live. live)

  pub cloned-owned : KeepsClaims h (handle_cloned h handle.key)
  unfolding handle_cloned
  cloned-owned = subst (λ (o : Option ClaimedInterface). KeepsClaims h (handle_added h handle.key o)) (sym stands.at) added-owned

  -- and one that is closed
  abbrev less : ClaimedInterface
  less = record claim { handles = claim.handles - 1 }

  abbrev fewer : HostState
  fewer = record h { devices = devices_left h.devices claim; interfaces = set h.interfaces handle.key (Some less) }

  gone-owned : KeepsOwned h (handle_gone h handle.key (Some claim))
  unfolding owner_gone
  gone-owned =
      let gone = written-left h handle.key claim less stands.at refl refl (handles-own h.tickets h.endpoints handle.key claim stands.open_handle) in
      owned-settled h fewer handle.key
      (record { claim = gone.claim; left = gone.left; was = gone.was; is = gone.is; device = gone.device; number = gone.number; owned = gone.owned; others = gone.others; claims = gone.claims; count = gone.count })

  pub closed-owned : KeepsOwned h (handle_closed h handle.key)
  unfolding handle_closed
  closed-owned = subst (λ (o : Option ClaimedInterface). KeepsOwned h (handle_gone h handle.key o)) (sym stands.at) gone-owned

  gone-alive : EndpointsLive h → EndpointsLive (handle_gone h handle.key (Some claim))
  unfolding owner_gone
  gone-alive live = live

  pub closed-alive : EndpointsLive h → EndpointsLive (handle_closed h handle.key)
  unfolding handle_closed
  closed-alive = subst (λ (o : Option ClaimedInterface). EndpointsLive h → EndpointsLive (handle_gone h handle.key o)) (sym stands.at) gone-alive

  gone-others : KeepsOthers h.interfaces (handle_gone h handle.key (Some claim)).interfaces handle.key
  unfolding owner_gone
  gone-others i c apart at some =
      let goes = goes-ended fewer.interfaces h.tickets h.endpoints handle.key in
      let other = value-set_other h.interfaces handle.key i (Some less) (λ z. apart (sym z)) ∙ at in
      record { claim = c; at = goes.stays i c other some; more = omega arith }

  pub closed-others : KeepsOthers h.interfaces (handle_closed h handle.key).interfaces handle.key
  unfolding handle_closed
  closed-others = subst (λ (o : Option ClaimedInterface). KeepsOthers h.interfaces (handle_gone h handle.key o).interfaces handle.key) (sym stands.at) gone-others

-- a control transfer starts, on an endpoint of no interface
module _ (h : HostState) (s : Submission) where
  abbrev control : HostState
  control = record h { endpoints = h.endpoints ++ Some (control_endpoint s.endpoint) ∷ [] }

  control-owned : KeepsClaims h control
  control-owned =
      claims-kept h control (claimed-refl h.interfaces) (λ d n. refl)
      (λ j. claim-living h h.tickets control.endpoints j (any-push_at (if_there (lives_on h.tickets j)) 0 h.endpoints (Some (control_endpoint s.endpoint)) refl))
      (λ live k e at. elim (value-push_cases h.endpoints (control_endpoint s.endpoint) e k at) [ inl w ↦ rw w.1 refl | inr w ↦ live k e w.1 ])

  pub started-owned : KeepsClaims h (host_started h s)
  unfolding host_started
  started-owned =
      let to : Route = record { device = s.device; endpoint = s.endpoint; kind = s.kind; maximum = s.maximum; key = length h.endpoints } in
      let t : TransferData = record { endpoint = s.endpoint; kind = s.kind; held = Nothing } in
      let kernel = kernel_submitted h.kernel s in
      follow h control (with_held control to t kernel) control-owned
      (held-owned control to t (key-new h.endpoints (control_endpoint s.endpoint) refl) kernel (λ d n. refl))

-- an endpoint of an owned interface is opened
module _ (h : HostState) (i address : ℕ) (owned : IsOwned h i) where
  abbrev fresh : HostEndpoint
  fresh = record { interface = Some i; address = address; is_open = true }

  abbrev opened : HostState
  opened = with_endpoint h i address

  opened-living : has_living h.tickets opened.endpoints i ≡ true
  opened-living = any-at (if_there (lives_on h.tickets i)) 0 opened.endpoints (length h.endpoints) (Some fresh) (slice_get-append_seam h.endpoints (Some fresh)) (rw (eq-eqb i i refl) refl)

  opened-among : (c : ClaimedInterface) → is_owned_among h.tickets opened.endpoints i c ≡ true
  unfolding is_owned_among
  opened-among c = rw opened-living (or_true (nat_lt 0 c.handles))

  opened-here : (o : Option ClaimedInterface) → value_at h.interfaces i ≡ o → claim_at opened i ≡ claim_at h i
  opened-here None none = at-none opened i none ∙ sym (at-none h i none)
  opened-here (Some c) at = at-claim opened i c at ∙ (rw (opened-among c, owned c at) refl ∙ sym (at-claim h i c at))

  opened-other : (j : ℕ) → j ≢ i → claim_at opened j ≡ claim_at h j
  opened-other j apart =
      let other : is_of j fresh.interface ≡ false = ne_eqb i j (λ z. apart (sym z)) in
      claim-living h h.tickets opened.endpoints j (any-push_at (if_there (lives_on h.tickets j)) 0 h.endpoints (Some fresh) (rw other refl))

  pub endpoint-owned : KeepsClaims h (with_endpoint h i address)
  endpoint-owned =
      claims-kept h opened (claimed-refl h.interfaces) (λ d n. refl)
      (λ j. elim (cases_eq j i) [ inl here ↦ rw here (opened-here (value_at h.interfaces i) refl) | inr apart ↦ opened-other j apart ])
      (λ live k e at. elim (value-push_cases h.endpoints fresh e k at) [ inl w ↦ rw w.1 refl | inr w ↦ live k e w.1 ])
