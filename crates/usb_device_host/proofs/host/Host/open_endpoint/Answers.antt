use Rattle.std.specs.Prelude.{IsSome}
use Rattle.usb_device_tables.specs.History.{value_at}
use Rattle.usb_device_ledger.proofs.DeviceLemmas.{KeepsThere, counts-there}
use Rattle.std.proofs.Common.{subst, ◌≡◌, ◌∙◌, ℕ, ap, sym, length, Option, Some, List}
use Rattle.std.specs.Option.{ForSome}
use Rattle.std.proofs.lemmas.Option.{same_Some}
use Rattle.usb_device_ledger.specs.Entries.{ClaimedInterface}
use Rattle.usb_device_host.specs.HostState.{HostState}
use Rattle.usb_device_host.specs.Owners.{is_in_use}
use Rattle.usb_device_host.specs.EndpointOpens.{host_asked, host_tries, endpoint_route}
use Rattle.usb_device_tables.proofs.ValueLemmas.{some-of}
use Rattle.usb_device_host.proofs.InterfaceFrames.{asked-is, asked-counts}
use Rattle.usb_device_host.proofs.EndpointLemmas.{tried-unused, tried-some}
use Rattle.usb_device_host.proofs.host.Host.open_endpoint.Goals as goal

-- the interface of a key, and the host whose kernel was asked for the configuration of its device
record Asked (now next : HostState) (i : ℕ) : Type 0 where
  claim : ClaimedInterface
  at : value_at now.interfaces i ≡ Some claim
  made : next ≡ host_asked now claim.opened
  interfaces : next.interfaces ≡ now.interfaces
  places : KeepsThere now.devices next.devices

asked : (view now next : HostState) (i opened : ℕ) → view ≡ now → IsSome (value_at now.interfaces i) → ForSome (value_at view.interfaces i) (λ c. opened ≡ c.opened) → next ≡ host_asked now opened → Asked now next i
asked view now next i opened seen within opened_of asks =
    let there = some-of (value_at now.interfaces i) within in
    let is : opened ≡ there.0.opened = opened_of there.0 (ap (λ (h : HostState). value_at h.interfaces i) seen ∙ there.1) in
    let made : next ≡ host_asked now there.0.opened = asks ∙ ap (host_asked now) is in
    record {
      claim = there.0;
      at = there.1;
      made = made;
      interfaces = ap (λ (h : HostState). h.interfaces) (made ∙ asked-is now there.0.opened);
      places = λ k here. subst (λ (h : HostState). IsSome (value_at h.devices k)) (sym made) (counts-there now.devices (host_asked now there.0.opened).devices (asked-counts now there.0.opened) k here);
    }

-- what was tried at that host
host-asked : (now next : HostState) (i : ℕ) (a : Asked now next i) (x : ClaimedInterface) → value_at now.interfaces i ≡ Some x → host_asked now x.opened ≡ next
host-asked now next i a x here = ap (λ (y : ClaimedInterface). host_asked now y.opened) (same_Some x a.claim (sym here ∙ a.at)) ∙ sym a.made

at-asked : (now next : HostState) (i : ℕ) (a : Asked now next i) (x : ClaimedInterface) → value_at now.interfaces i ≡ Some x → value_at next.interfaces i ≡ Some x
at-asked now next i a x here = ap (λ (xs : List (Option ClaimedInterface)). value_at xs i) a.interfaces ∙ here

pub ask_configuration-requires : goal.ask_configuration-requires
ask_configuration-requires c =
    let there = some-of (value_at c.args.self.now.interfaces c.args.interface.serial) c.requires.interface in
    let opened : c.opened-opened.result.serial ≡ there.0.opened = c.opened-opened.ensures.opened there.0 (ap (λ (h : HostState). value_at h.interfaces c.args.interface.serial) c.self.view_is ∙ there.1) in
    record { device = rw opened (c.requires.device there.0 there.1) }

pub try_endpoint-requires-clause-interface : goal.try_endpoint-requires-clause-interface
try_endpoint-requires-clause-interface c =
    let a = asked _ c.args.self.now c.ask_configuration.new.self c.args.interface.serial c.opened-opened.result.serial c.self.view_is c.requires.interface c.opened-opened.ensures.opened c.ask_configuration.ensures.asked in
    rw a.interfaces c.requires.interface

pub try_endpoint-requires-clause-device : goal.try_endpoint-requires-clause-device
try_endpoint-requires-clause-device c = λ x here.
    let a = asked _ c.args.self.now c.ask_configuration.new.self c.args.interface.serial c.opened-opened.result.serial c.self.view_is c.requires.interface c.opened-opened.ensures.opened c.ask_configuration.ensures.asked in
    a.places x.opened (c.requires.device x (sym (ap (λ (xs : List (Option ClaimedInterface)). value_at xs c.args.interface.serial) a.interfaces) ∙ here))

pub returns-in-Err-clause-tried : goal.returns-in-Err-clause-tried
returns-in-Err-clause-tried c = λ x here.
    let now = c.args.self.now in
    let next = c.ask_configuration.new.self in
    let i = c.args.interface.serial in
    let a = asked _ now next i c.opened-opened.result.serial c.self.view_is c.requires.interface c.opened-opened.ensures.opened c.ask_configuration.ensures.asked in
    ap (λ h. host_tries h i x c.args.address c.args.kind c.args.direction) (host-asked now next i a x here) ∙ sym (c.in-Err.ensures.tried x (at-asked now next i a x here))

pub open_endpoint-requires-clause-there : goal.open_endpoint-requires-clause-there
open_endpoint-requires-clause-there c =
    let a = asked _ c.args.self.now c.ask_configuration.new.self c.args.interface.serial c.opened-opened.result.serial c.self.view_is c.requires.interface c.opened-opened.ensures.opened c.ask_configuration.ensures.asked in
    let interfaces = ap (λ (h : HostState). h.interfaces) c.self-2.view_is ∙ a.interfaces in
    rw interfaces c.requires.interface

pub open_endpoint-requires-clause-unused : goal.open_endpoint-requires-clause-unused
open_endpoint-requires-clause-unused c =
    let now = c.args.self.now in
    let next = c.ask_configuration.new.self in
    let i = c.args.interface.serial in
    let a = asked _ now next i c.opened-opened.result.serial c.self.view_is c.requires.interface c.opened-opened.ensures.opened c.ask_configuration.ensures.asked in
    let tried = sym (c.in-Ok.ensures.tried a.claim (at-asked now next i a a.claim a.at)) in
    ap (λ (h : HostState). is_in_use h i c.args.address) c.self-2.view_is ∙ tried-unused next i a.claim c.args.address c.args.kind c.args.direction c.in-Ok.maximum tried

pub returns-clause-tried : goal.returns-clause-tried
returns-clause-tried c = λ x here.
    let now = c.args.self.now in
    let next = c.ask_configuration.new.self in
    let i = c.args.interface.serial in
    let a = asked _ now next i c.opened-opened.result.serial c.self.view_is c.requires.interface c.opened-opened.ensures.opened c.ask_configuration.ensures.asked in
    ap (λ h. host_tries h i x c.args.address c.args.kind c.args.direction) (host-asked now next i a x here) ∙ sym (c.in-Ok.ensures.tried x (at-asked now next i a x here))

pub returns-clause-packets : goal.returns-clause-packets
returns-clause-packets c =
    let now = c.args.self.now in
    let next = c.ask_configuration.new.self in
    let i = c.args.interface.serial in
    let a = asked _ now next i c.opened-opened.result.serial c.self.view_is c.requires.interface c.opened-opened.ensures.opened c.ask_configuration.ensures.asked in
    tried-some next i a.claim c.args.address c.args.kind c.args.direction c.in-Ok.maximum (sym (c.in-Ok.ensures.tried a.claim (at-asked now next i a a.claim a.at)))

pub returns-clause-route : goal.returns-clause-route
returns-clause-route c = λ x here.
    let device = c.device-device.ensures.device x (ap (λ (h : HostState). value_at h.interfaces c.args.interface.serial) c.self.view_is ∙ here) in
    let made = c.ask_configuration.ensures.asked ∙ asked-is c.args.self.now c.opened-opened.result.serial in
    let key = c.in-Ok-open_endpoint.ensures.key ∙ ap (λ (h : HostState). length h.endpoints) (c.self-2.view_is ∙ made) in
    ap (λ d. endpoint_route (record x { device = d }) c.args.address c.args.kind c.in-Ok.maximum c.in-Ok-open_endpoint.key) device ∙ ap (endpoint_route x c.args.address c.args.kind c.in-Ok.maximum) key
