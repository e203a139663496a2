-- What the calls of the driver leave open.
use Rattle.std.proofs.Common.{ℕ, arith, ◌≡◌, ◌≢◌, ◌-◌, ◌∙◌, Bool, false, List, [], ◌∷◌, ◌++◌, length, set, ap, sym, subst, refl, Option, Some, None, Result, Ok, Err, OnErr, IfOk}
use Rattle.std.specs.Option.{option_map_or}
use Rattle.usb_desc.specs.declared.error.Fail.{Fail}
use Rattle.usb_desc.specs.declared.error.Fail.TheVariants.{Cause, Memory}
use Rattle.usb_desc.specs.declared.types.Direction.{Direction}
use Rattle.usb_desc.specs.declared.types.TransferType.{TransferType}
use Rattle.usb_error.specs.ErrorState.{ErrorState}
use Rattle.usb_device_tables.specs.History.{value_at}
use Rattle.usb_device_tables.proofs.ValueLemmas.{value-pushed}
use Rattle.usb_device_ledger.specs.declared.opened.OpenDevice.{OpenDevice}
use Rattle.usb_device_ledger.specs.Entries.{ClaimedInterface, HostEndpoint, fresh_interface}
use Rattle.usb_device_ledger.proofs.DeviceLemmas.{opened-counts}
use Rattle.usb_device_endpoint.specs.BusState.{BusState}
use Rattle.usb_device_endpoint.specs.EndpointState.{EndpointState}
use Rattle.usb_device_host.specs.HostState.{HostState}
use Rattle.usb_device_host.specs.HostBus.{bus_of, key_at}
use Rattle.usb_device_host.specs.CallErrors.{Leaves}
use Rattle.usb_device_host.specs.Opens.{open_key, host_opened}
use Rattle.usb_device_host.specs.Handles.{device_closed, handle_gone, handle_closed}
use Rattle.usb_device_host.specs.Releases.{owner_gone}
use Rattle.usb_device_host.specs.InterfaceClaims.{claimed_key, claim_tried, host_claimed}
use Rattle.usb_device_host.specs.EndpointOpens.{host_asked, with_endpoint}
use Rattle.usb_device_host.proofs.ClaimFrames.{goes-ended}
use Rattle.usb_device_host.proofs.OpeningLemmas.{claimed-at, claimed-refused}
use Rattle.usb_device_host.proofs.InterfaceFrames.{bus-claimed, bus-handle_closed, asked-is, asked-counts, opened-is}
use Rattle.usb_error.specs.Outcomes.{Tried}
use Rattle.usb_device_host.specs.HandleStates.{InterfaceState}
use Rattle.usb_device.specs.HandleCalls.{ClaimsInterface, ClaimsAndCloses, OpensAndCloses}
use Rattle.usb_device_host.proofs.HeldDevices.{opens-one, opens-none, opened-claimed, opened-handle_closed}
use Rattle.example_keyboard.specs.Closing.{NoMoreDevices, NoMoreInterfaces, LeavesNoneOpen, LeavesOneOpen}
use Rattle.example_keyboard.proofs.HandleCounts.{OneMore, OneLess, more-goes, more-same, more-trans, one-pushed, one-then, less-then, one-closed, less-set, less-none, more-opened, less-closed}

abbrev pub device_count : OpenDevice → ℕ
device_count o = o.handles

abbrev pub claim_count : ClaimedInterface → ℕ
claim_count c = c.handles

pub none-refl : (h : HostState) → LeavesNoneOpen h h
none-refl h = record { devices = λ k. omega arith; interfaces = λ k. omega arith; endpoints = λ k is. is }

pub none-trans : (a b c : HostState) → LeavesNoneOpen a b → LeavesNoneOpen b c → LeavesNoneOpen a c
none-trans a b c first second =
    record {
      devices = more-trans device_count a.devices b.devices c.devices first.devices second.devices;
      interfaces = more-trans claim_count a.interfaces b.interfaces c.interfaces first.interfaces second.interfaces;
      endpoints = λ k is. first.endpoints k (second.endpoints k is);
    }

-- the same endpoints, as a bus sees them
keys-same : (a b : HostState) (k : ℕ) → bus_of b ≡ bus_of a → key_at b.endpoints k ≡ key_at a.endpoints k
keys-same a b k same = ap (λ (b : BusState). b.keys k) same

-- a device was opened, or not
record OpensDevice (old new : HostState) (key : ℕ) : Type 0 where
  devices : OneMore device_count old.devices new.devices key
  interfaces : new.interfaces ≡ old.interfaces
  keys : (k : ℕ) → key_at new.endpoints k ≡ key_at old.endpoints k

opened-device : (old new : HostState) (bus address key : ℕ) → open_key old bus address ≡ Ok key →
    new ≡ host_opened old bus address → OpensDevice old new key
opened-device old new bus address key tried is =
    let one = opens-one old bus address key tried in
    let made : new.devices ≡ old.devices ++ Some one.device ∷ [] = ap (λ (h : HostState). h.devices) is ∙ one.devices in
    let frame = is ∙ opened-is old bus address in
    let few = one.handles in
    record {
      devices = subst (λ k. OneMore device_count old.devices new.devices k) (sym one.key_is)
          (subst (λ (ds : List (Option OpenDevice)). OneMore device_count old.devices ds (length old.devices)) (sym made)
          (one-pushed device_count old.devices one.device (omega arith)));
      interfaces = ap (λ (h : HostState). h.interfaces) frame;
      keys = λ k. ap (λ (h : HostState). key_at h.endpoints k) frame;
    }

pub device-refused : (old new : HostState) (bus address : ℕ) (error : Fail ErrorState) →
    Tried {A = ℕ} (Err error) (open_key old bus address) → Leaves {A = ℕ} (Err error) new (host_opened old bus address) old → LeavesNoneOpen old new
device-refused old new bus address (Cause error) tried is =
    let frame = is ∙ opened-is old bus address in
    record {
      devices = more-same device_count old.devices new.devices (ap (λ (h : HostState). h.devices) is ∙ opens-none old bus address error tried);
      interfaces = more-same claim_count old.interfaces new.interfaces (ap (λ (h : HostState). h.interfaces) frame);
      endpoints = λ k there. sym (ap (λ (h : HostState). key_at h.endpoints k) frame) ∙ there;
    }
device-refused old new bus address Memory tried is = subst (LeavesNoneOpen old) (sym is) (none-refl old)

-- an interface is claimed on the device, whose handle is closed
record OpensInterface (old new : HostState) (key : ℕ) : Type 0 where
  devices : NoMoreDevices old new
  interfaces : OneMore claim_count old.interfaces new.interfaces key
  keys : (k : ℕ) → key_at new.endpoints k ≡ key_at old.endpoints k

claim-pushes : (old : HostState) (key number next : ℕ) (reattach : Bool) (o : OpenDevice) (r : Result (Unit {0}) ErrorState) (given : ℕ) →
    value_at old.devices key ≡ Some o → claim_tried old o number reattach ≡ r → claimed_key (length old.interfaces) r ≡ Ok given →
    OneMore claim_count old.interfaces (host_claimed old key number reattach).interfaces given
claim-pushes old key number next reattach o (Err error) given at tried is = absurd (cc)
claim-pushes old key number next reattach o (Ok done) given at tried is =
    let made = ap (λ (h : HostState). h.interfaces) (claimed-at old key number reattach o done at tried) in
    let given_is : length old.interfaces ≡ given = cc in
    subst (λ k. OneMore claim_count old.interfaces (host_claimed old key number reattach).interfaces k) given_is
    (subst (λ (cs : List (Option ClaimedInterface)). OneMore claim_count old.interfaces cs (length old.interfaces)) (sym made)
    (one-pushed claim_count old.interfaces (fresh_interface key o.device number reattach) (omega arith)))

claim-refused : (old : HostState) (key number : ℕ) (reattach : Bool) (o : OpenDevice) (r : Result (Unit {0}) ErrorState) (error : ErrorState) →
    value_at old.devices key ≡ Some o → claim_tried old o number reattach ≡ r → claimed_key (length old.interfaces) r ≡ Err error →
    (host_claimed old key number reattach).interfaces ≡ old.interfaces
claim-refused old key number reattach o (Err error) given at tried is =
    ap (λ (h : HostState). h.interfaces) (claimed-refused old key number reattach o error at tried)
claim-refused old key number reattach o (Ok done) given at tried is = absurd (cc)

-- the device's handle is closed behind the claim
device-then : (first old between new : HostState) (key : ℕ) → OneMore device_count first.devices old.devices key →
    NoMoreDevices old between → new ≡ device_closed between key → NoMoreDevices first new
device-then first old between new key opened more is =
    subst (λ (h : HostState). NoMoreDevices first h) (sym is)
    (one-closed device_count first.devices between.devices (device_closed between key).devices key
    (one-then device_count first.devices old.devices between.devices key opened more) (less-closed between.devices key))

claimed-devices : (old new : HostState) (key number : ℕ) (reattach : Bool) → new ≡ host_claimed old key number reattach → NoMoreDevices old new
claimed-devices old new key number reattach is =
    subst (λ (h : HostState). NoMoreDevices old h) (sym is)
    (more-opened old.devices (host_claimed old key number reattach).devices (opened-claimed old key number reattach))

claimed-interface : (first old new : HostState) (key number : ℕ) (reattach : Bool) (i : InterfaceState) → OpensDevice first old key →
    ClaimsAndCloses old new key number reattach (Ok i) → OpensInterface first new i.key
claimed-interface first old new key number reattach i opened both =
    let claims = both.claims in
    let mid = both.between in
    let pushed = claim-pushes old key number 0 reattach claims.device (claim_tried old claims.device number reattach) i.key claims.at refl claims.tried in
    let now : new.interfaces ≡ (host_claimed old key number reattach).interfaces =
    ap (λ (h : HostState). h.interfaces) both.closed ∙ ap (λ (h : HostState). h.interfaces) claims.host in
    record {
      devices = device-then first old mid new key opened.devices (claimed-devices old mid key number reattach claims.host) both.closed;
      interfaces = subst (λ (cs : List (Option ClaimedInterface)). OneMore claim_count cs new.interfaces i.key) opened.interfaces
          (subst (λ (cs : List (Option ClaimedInterface)). OneMore claim_count old.interfaces cs i.key) (sym now) pushed);
      keys = λ k. ap (λ (h : HostState). key_at h.endpoints k) both.closed
          ∙ (ap (λ (h : HostState). key_at h.endpoints k) claims.host
          ∙ (keys-same old (host_claimed old key number reattach) k (bus-claimed old key number reattach) ∙ opened.keys k));
    }

refused-between : (old between : HostState) (key number : ℕ) (reattach : Bool) (error : Fail ErrorState) →
    ClaimsInterface old between key number reattach (Err error) → LeavesNoneOpen old between
refused-between old between key number reattach (Cause error) claims =
    let is = claims.host in
    let same = claim-refused old key number reattach claims.device (claim_tried old claims.device number reattach) error claims.at refl claims.tried in
    record {
      devices = claimed-devices old between key number reattach is;
      interfaces = more-same claim_count old.interfaces between.interfaces (ap (λ (h : HostState). h.interfaces) is ∙ same);
      endpoints = λ k there.
          sym (ap (λ (h : HostState). key_at h.endpoints k) is ∙ keys-same old (host_claimed old key number reattach) k (bus-claimed old key number reattach)) ∙ there;
    }
refused-between old between key number reattach Memory claims = subst (LeavesNoneOpen old) (sym claims.host) (none-refl old)

pub interface-refused : (first old new : HostState) (bus address key number : ℕ) (reattach : Bool) (error : Fail ErrorState) →
    open_key first bus address ≡ Ok key → old ≡ host_opened first bus address →
    ClaimsAndCloses old new key number reattach (Err error) → LeavesNoneOpen first new
interface-refused first old new bus address key number reattach error tried is both =
    let opened = opened-device first old bus address key tried is in
    let mid = refused-between old both.between key number reattach error both.claims in
    record {
      devices = device-then first old both.between new key opened.devices mid.devices both.closed;
      interfaces = more-trans claim_count first.interfaces old.interfaces new.interfaces
          (more-same claim_count first.interfaces old.interfaces opened.interfaces)
          (subst (λ (h : HostState). NoMoreInterfaces old h) (sym both.closed) mid.interfaces);
      endpoints = λ k there.
          sym (opened.keys k) ∙ mid.endpoints k (sym (ap (λ (h : HostState). key_at h.endpoints k) both.closed) ∙ there);
    }

-- the handle of an interface is closed
gone-interfaces : (h : HostState) (i : ℕ) (o : Option ClaimedInterface) → value_at h.interfaces i ≡ o →
    OneLess claim_count h.interfaces (handle_gone h i o).interfaces i
unfolding owner_gone
gone-interfaces h i None at = less-none claim_count h.interfaces i at
gone-interfaces h i (Some c) at =
    let written = set h.interfaces i (Some (record c { handles = c.handles - 1 })) in
    less-then claim_count h.interfaces written (handle_gone h i (Some c)).interfaces i
    (less-set claim_count h.interfaces i c (record c { handles = c.handles - 1 }) at (omega arith))
    (more-goes claim_count (λ (c : ClaimedInterface). _) written (handle_gone h i (Some c)).interfaces
    (goes-ended written h.tickets h.endpoints i))

closed-interfaces : (h : HostState) (i : ℕ) → OneLess claim_count h.interfaces (handle_closed h i).interfaces i
unfolding handle_closed
closed-interfaces h i = gone-interfaces h i (value_at h.interfaces i) refl

-- an endpoint of the interface is opened, or not, and the interface's handle is closed behind it
record Asked (old new : HostState) : Type 0 where
  devices : NoMoreDevices old new
  interfaces : new.interfaces ≡ old.interfaces

asked : (h : HostState) (key : ℕ) → Asked h (host_asked h key)
asked h key =
    record {
      devices = more-opened h.devices (host_asked h key).devices (opened-counts h.devices (host_asked h key).devices (asked-counts h key));
      interfaces = ap (λ (h : HostState). h.interfaces) (asked-is h key);
    }

interface-then : (first old between new : HostState) (key : ℕ) → OpensInterface first old key → Asked old between → new ≡ handle_closed between key →
    (NoMoreDevices first new) × (NoMoreInterfaces first new)
interface-then first old between new key opened mid is = (
  more-trans device_count first.devices old.devices new.devices opened.devices
      (more-trans device_count old.devices between.devices new.devices mid.devices
      (subst (λ (h : HostState). NoMoreDevices between h) (sym is)
      (more-opened between.devices (handle_closed between key).devices (opened-handle_closed between key)))),
  one-closed claim_count first.interfaces between.interfaces new.interfaces key
      (subst (λ (cs : List (Option ClaimedInterface)). OneMore claim_count first.interfaces cs key) (sym mid.interfaces) opened.interfaces)
      (subst (λ (h : HostState). OneLess claim_count between.interfaces h.interfaces key) (sym is) (closed-interfaces between key)),
)

keys-closed : (between new : HostState) (key k : ℕ) → new ≡ handle_closed between key → key_at new.endpoints k ≡ key_at between.endpoints k
keys-closed between new key k is =
    ap (λ (h : HostState). key_at h.endpoints k) is ∙ keys-same between (handle_closed between key) k (bus-handle_closed between key)

keys-asked : (h : HostState) (key k : ℕ) → key_at (host_asked h key).endpoints k ≡ key_at h.endpoints k
keys-asked h key k = ap (λ (h : HostState). key_at h.endpoints k) (asked-is h key)

keys-pushed : (es : List (Option HostEndpoint)) (e : HostEndpoint) (k : ℕ) → length es ≢ k → key_at (es ++ Some e ∷ []) k ≡ key_at es k
keys-pushed es e k apart =
    ap (λ (o : Option HostEndpoint). option_map_or (λ (e : HostEndpoint). e.is_open) o false) (value-pushed es (Some e) k (λ z. apart (sym z)))

keys-with : (h between : HostState) (device key address k : ℕ) → between ≡ with_endpoint (host_asked h device) key address → length h.endpoints ≢ k →
    key_at between.endpoints k ≡ key_at h.endpoints k
keys-with h between device key address k is apart =
    let many : length (host_asked h device).endpoints ≡ length h.endpoints = ap (λ (h : HostState). length h.endpoints) (asked-is h device) in
    ap (λ (h : HostState). key_at h.endpoints k) is
    ∙ (keys-pushed (host_asked h device).endpoints _ k (λ z. apart (sym many ∙ z)) ∙ keys-asked h device k)

asked-with : (h between : HostState) (device key address : ℕ) → between ≡ with_endpoint (host_asked h device) key address → Asked h between
asked-with h between device key address is =
    let was = asked h device in
    subst (Asked h) (sym is) (record { devices = was.devices; interfaces = was.interfaces })

module _ (first old mid new : HostState) (bus address device number : ℕ) (reattach : Bool) (i : InterfaceState)
    (endpoint : ℕ) (kind : TransferType) (direction : Direction)
    (tried : open_key first bus address ≡ Ok device) (is : old ≡ host_opened first bus address)
    (claims : ClaimsAndCloses old mid device number reattach (Ok i)) where
  interface : OpensInterface first mid i.key
  interface = claimed-interface first old mid device number reattach i (opened-device first old bus address device tried is) claims

  endpoint-opened : (e : EndpointState) → OpensAndCloses mid new i.key endpoint kind direction (Ok e) → LeavesOneOpen first new e.key
  endpoint-opened e both =
      let opens = both.opens in
      let both_less = interface-then first mid both.between new i.key interface
      (asked-with mid both.between opens.interface.opened i.key endpoint opens.ok) both.closed in
      let key : e.key ≡ length mid.endpoints = ap (λ (e : EndpointState). e.key) opens.endpoint in
      record {
        devices = both_less.0;
        interfaces = both_less.1;
        endpoints = λ k apart there.
            sym (keys-closed both.between new i.key k both.closed
            ∙ (keys-with mid both.between opens.interface.opened i.key endpoint k opens.ok (λ z. apart (key ∙ z)) ∙ interface.keys k))
            ∙ there;
      }

  endpoint-refused : (error : Fail ErrorState) → OpensAndCloses mid new i.key endpoint kind direction (Err error) → LeavesNoneOpen first new
  endpoint-refused error both =
      let opens = both.opens in
      let both_less = interface-then first mid both.between new i.key interface
      (subst (Asked mid) (sym opens.err) (asked mid opens.interface.opened)) both.closed in
      record {
        devices = both_less.0;
        interfaces = both_less.1;
        endpoints = λ k there.
            sym (keys-closed both.between new i.key k both.closed
            ∙ (ap (λ (h : HostState). key_at h.endpoints k) opens.err ∙ (keys-asked mid opens.interface.opened k ∙ interface.keys k)))
            ∙ there;
      }

  pub leaves-one : (r : Result EndpointState (Fail ErrorState)) → OpensAndCloses mid new i.key endpoint kind direction r →
      IfOk r (λ e. LeavesOneOpen first new e.key)
  leaves-one (Ok e) both = endpoint-opened e both
  leaves-one (Err error) both = tt

  pub leaves-none : (r : Result EndpointState (Fail ErrorState)) → OpensAndCloses mid new i.key endpoint kind direction r →
      OnErr r (LeavesNoneOpen first new)
  leaves-none (Ok e) both = tt
  leaves-none (Err error) both = endpoint-refused error both

-- what holds holds where a call fails
pub on-err : {A E : Type 0} (r : Result A E) (P : Type 0) → P → OnErr r P
on-err (Ok x) P holds = tt
on-err (Err error) P holds = holds
