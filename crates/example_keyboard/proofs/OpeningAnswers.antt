-- What the calls of `open` answer is what opening the keyboard answers.
use Rattle.std.proofs.Common.{ℕ, ◌≡◌, ◌∙◌, true, length, ap, sym, refl, Some, Result, Ok, Err}
use Rattle.std.proofs.lemmas.Option.{same_Some}
use Rattle.usb_desc.specs.declared.error.Fail.{Fail}
use Rattle.usb_desc.specs.declared.error.Fail.TheVariants.{Cause, Memory}
use Rattle.usb_desc.specs.declared.types.Direction.TheVariants.{In}
use Rattle.usb_desc.specs.declared.types.TransferType.TheVariants.{Interrupt}
use Rattle.usb_error.specs.ErrorState.{ErrorState}
use Rattle.usb_error.specs.Outcomes.{◌>>=◌, Tried, result_map}
use Rattle.usb_device_tables.specs.History.{value_at}
use Rattle.usb_device_tables.proofs.ValueLemmas.{value-last}
use Rattle.usb_device_ledger.specs.declared.opened.OpenDevice.{OpenDevice}
use Rattle.usb_device_ledger.specs.Entries.{ClaimedInterface, fresh_interface}
use Rattle.usb_device_endpoint.specs.EndpointState.{EndpointState}
use Rattle.usb_device_host.specs.HostState.{HostState}
use Rattle.usb_device_host.specs.Opens.{open_key, host_opened}
use Rattle.usb_device_host.specs.Handles.{device_closed}
use Rattle.usb_device_host.specs.InterfaceClaims.{claimed_key}
use Rattle.usb_device_host.proofs.OpeningLemmas.{claimed-at}
use Rattle.usb_device_host.specs.HandleStates.{InterfaceState}
use Rattle.usb_device.specs.HandleCalls.{ClaimsAndCloses, OpensAndCloses}
use Rattle.usb_device.proofs.InterfaceAnswers.{opened, device_refused, claimed_device, claimed_answer, claimed_key-error}
use Rattle.example_keyboard.specs.Opening.{claim_answer, interface_left, endpoint_answer, keyboard_answer}

-- the device is refused
pub device-tried : (h : HostState) (bus address : ℕ) (error : Fail ErrorState) →
    Tried {A = ℕ} (Err error) (open_key h bus address) → Tried {A = Unit {0}} (Err error) (keyboard_answer h bus address)
unfolding keyboard_answer
device-tried h bus address (Cause error) tried =
    rw (device_refused h bus address error tried) refl
device-tried h bus address Memory tried = tt

-- its interface is refused
pub interface-tried : (h old new : HostState) (bus address key : ℕ) (error : Fail ErrorState) →
    open_key h bus address ≡ Ok key → old ≡ host_opened h bus address → ClaimsAndCloses old new key 0 true (Err error) →
    Tried {A = Unit {0}} (Err error) (keyboard_answer h bus address)
unfolding keyboard_answer
interface-tried h old new bus address key (Cause error) tried is both =
    let was = opened h bus address key tried in
    let claims = both.claims in
    let answer = claimed_answer h old both.between bus address key 0 true (Err (Cause error)) is claims was
    ∙ claimed_key-error (length old.interfaces) (claim_answer old claims.device) error claims.tried in
    rw (was.answer, answer) refl
interface-tried h old new bus address key Memory tried is both = tt

-- the interface was claimed
record Claimed (old : HostState) (key i : ℕ) (device : OpenDevice) : Type 0 where
  answer : claim_answer old device ≡ Ok tt
  key_is : i ≡ length old.interfaces
  at : value_at (interface_left old key).interfaces i ≡ Some (fresh_interface key device.device 0 true)

interface-claimed : (old : HostState) (key i : ℕ) (device : OpenDevice) (r : Result (Unit {0}) ErrorState) →
    value_at old.devices key ≡ Some device → claim_answer old device ≡ r → claimed_key (length old.interfaces) r ≡ Ok i →
    Claimed old key i device
interface-claimed old key i device (Err error) at answer given = absurd (cc)
interface-claimed old key i device (Ok done) at answer given =
    let key_is : i ≡ length old.interfaces = cc in
    let made = ap (λ (h : HostState). h.interfaces) (claimed-at old key 0 true device done at answer) in
    record {
      answer = answer;
      key_is = key_is;
      at = rw (key_is, made) (value-last old.interfaces (Some (fresh_interface key device.device 0 true)));
    }

fresh-same : (a b : ℕ) (c d : OpenDevice) → a ≡ b → c ≡ d → fresh_interface a c.device 0 true ≡ fresh_interface b d.device 0 true
fresh-same a b c d key device =
    ap (λ (k : ℕ). fresh_interface k c.device 0 true) key ∙ ap (λ (o : OpenDevice). fresh_interface b o.device 0 true) device

left-same : (a b : HostState) (i j : ℕ) → a ≡ b → i ≡ j → interface_left a i ≡ interface_left b j
left-same a b i j host key = ap (λ (h : HostState). interface_left h i) host ∙ ap (interface_left b) key

endpoint-same : (a b : HostState) (i j : ℕ) (c d : ClaimedInterface) → a ≡ b → i ≡ j → c ≡ d →
    endpoint_answer a i c ≡ endpoint_answer b j d
endpoint-same a b i j c d host key interface = cc

endpoint-answered : (r : Result EndpointState (Fail ErrorState)) (t : Result ℕ ErrorState) →
    Tried (result_map (λ (e : EndpointState). e.maximum) r) t → Tried {A = Unit {0}} (result_map (λ (e : EndpointState). tt) r) (t >>= (λ size. Ok tt))
endpoint-answered (Ok e) t tried = rw tried refl
endpoint-answered (Err (Cause error)) t tried = rw tried refl
endpoint-answered (Err Memory) t tried = tt

-- the endpoint is opened, or it is refused
pub endpoint-tried : (h old mid new : HostState) (bus address key : ℕ) (i : InterfaceState) (r : Result EndpointState (Fail ErrorState)) →
    open_key h bus address ≡ Ok key → old ≡ host_opened h bus address → ClaimsAndCloses old mid key 0 true (Ok i) →
    OpensAndCloses mid new i.key 129 Interrupt In r → Tried (result_map (λ (e : EndpointState). tt) r) (keyboard_answer h bus address)
unfolding keyboard_answer
endpoint-tried h old mid new bus address key i r tried is both opens =
    let was = opened h bus address key tried in
    let claims = both.claims in
    let made = interface-claimed old key i.key claims.device (claim_answer old claims.device) claims.at refl claims.tried in
    let answer : claim_answer (host_opened h bus address) was.device ≡ Ok tt =
    claimed_answer h old both.between bus address key 0 true (Ok i) is claims was ∙ made.answer in
    let left : mid ≡ interface_left old key = both.closed ∙ ap (λ (h : HostState). device_closed h key) claims.host in
    let interface : opens.opens.interface ≡ fresh_interface key claims.device.device 0 true =
    same_Some opens.opens.interface (fresh_interface key claims.device.device 0 true)
    (sym opens.opens.at ∙ ap (λ (h : HostState). value_at h.interfaces i.key) left ∙ made.at) in
    let device = claimed_device h old both.between bus address key 0 true (Ok i) is claims was in
    let same = endpoint-same (interface_left (host_opened h bus address) (length h.devices)) mid
    (length (host_opened h bus address).interfaces) i.key
    (fresh_interface (length h.devices) was.device.device 0 true) opens.opens.interface
    (sym (left ∙ left-same old (host_opened h bus address) key (length h.devices) is was.key_is))
    (sym (made.key_is ∙ ap (λ (h : HostState). length h.interfaces) is))
    (sym (interface ∙ fresh-same key (length h.devices) claims.device was.device was.key_is device)) in
    rw (was.answer, answer, same) (endpoint-answered r (endpoint_answer mid i.key opens.opens.interface) opens.opens.tried)
