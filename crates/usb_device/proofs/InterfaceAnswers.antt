-- For proofs of drivers: what they answer that open a device and claim an interface of it.
use Rattle.std.proofs.Common.{ℕ, ◌≡◌, ◌∙◌, Bool, length, ap, sym, refl, Some, Result, Ok, Err}
use Rattle.std.proofs.lemmas.Option.{same_Some}
use Rattle.usb_desc.specs.declared.error.Fail.{Fail}
use Rattle.usb_desc.specs.declared.error.Fail.TheVariants.{Cause, Memory}
use Rattle.usb_error.specs.ErrorState.{ErrorState}
use Rattle.usb_error.specs.Outcomes.{◌>>=◌, Tried, result_map}
use Rattle.usb_device_tables.specs.History.{value_at}
use Rattle.usb_device_tables.proofs.ValueLemmas.{value-last}
use Rattle.usb_device_ledger.specs.declared.opened.OpenDevice.{OpenDevice}
use Rattle.usb_device_host.specs.HostState.{HostState}
use Rattle.usb_device_host.specs.Opens.{open_key, with_key, host_opened}
use Rattle.usb_device_host.specs.InterfaceClaims.{claimed_key, claim_tried}
use Rattle.usb_device_host.specs.HandleStates.{InterfaceState}
use Rattle.usb_device.specs.HandleCalls.{ClaimsInterface, ClaimsAndCloses}
use Rattle.usb_device.specs.InterfaceAnswers.{device_answer, interface_answer}

-- the device of a key was opened
pub record Opened (h : HostState) (bus address key : ℕ) : Type 0 where
  pub device : OpenDevice
  pub answer : device_answer h bus address ≡ Ok device
  pub key_is : key ≡ length h.devices
  pub at : value_at (host_opened h bus address).devices key ≡ Some device

device-opened : (h : HostState) (bus address key : ℕ) (r : Result OpenDevice ErrorState) →
    device_answer h bus address ≡ r → with_key (length h.devices) r ≡ Ok key → Opened h bus address key
unfolding host_opened
device-opened h bus address key (Err error) answer given = absurd (cc)
device-opened h bus address key (Ok device) answer given =
    let key_is : key ≡ length h.devices = cc in
    record {
      device = device;
      answer = answer;
      key_is = key_is;
      at = rw (key_is, answer) (value-last h.devices (Some device));
    }

pub opened : (h : HostState) (bus address key : ℕ) → open_key h bus address ≡ Ok key → Opened h bus address key
unfolding open_key
opened h bus address key tried = device-opened h bus address key (device_answer h bus address) refl tried

key-error : (n : ℕ) (r : Result OpenDevice ErrorState) (error : ErrorState) → with_key n r ≡ Err error → r ≡ Err error
key-error n (Err other) error is = cc
key-error n (Ok device) error is = absurd (cc)

-- the device is refused
pub device_refused : (h : HostState) (bus address : ℕ) (error : ErrorState) → open_key h bus address ≡ Err error →
    device_answer h bus address ≡ Err error
unfolding open_key
device_refused h bus address error tried = key-error (length h.devices) (device_answer h bus address) error tried

claimed_key-given : (n key : ℕ) (r : Result (Unit {0}) ErrorState) → claimed_key n r ≡ Ok key → r ≡ Ok tt
claimed_key-given n key (Err other) is = absurd (cc)
claimed_key-given n key (Ok done) is = refl

pub claimed_key-error : (n : ℕ) (r : Result (Unit {0}) ErrorState) (error : ErrorState) → claimed_key n r ≡ Err error → r ≡ Err error
claimed_key-error n (Err other) error is = cc
claimed_key-error n (Ok done) error is = absurd (cc)

-- the device that an interface is claimed on is the one that was opened
pub claimed_device : (h old between : HostState) (bus address key number : ℕ) (detach : Bool) (r : Result InterfaceState (Fail ErrorState)) →
    old ≡ host_opened h bus address → (claims : ClaimsInterface old between key number detach r) (was : Opened h bus address key) →
    claims.device ≡ was.device
claimed_device h old between bus address key number detach r is claims was =
    same_Some claims.device was.device (sym claims.at ∙ ap (λ (h : HostState). value_at h.devices key) is ∙ was.at)

-- and so is what that claim answers
pub claimed_answer : (h old between : HostState) (bus address key number : ℕ) (detach : Bool) (r : Result InterfaceState (Fail ErrorState)) →
    old ≡ host_opened h bus address → (claims : ClaimsInterface old between key number detach r) (was : Opened h bus address key) →
    claim_tried (host_opened h bus address) was.device number detach ≡ claim_tried old claims.device number detach
claimed_answer h old between bus address key number detach r is claims was =
    ap (λ (h : HostState). claim_tried h was.device number detach) (sym is)
    ∙ ap (λ (o : OpenDevice). claim_tried old o number detach) (sym (claimed_device h old between bus address key number detach r is claims was))

-- what a claim answered
pub claim_answered : (h old between : HostState) (bus address key number : ℕ) (detach : Bool) (r : Result InterfaceState (Fail ErrorState)) →
    open_key h bus address ≡ Ok key → old ≡ host_opened h bus address → ClaimsInterface old between key number detach r →
    Tried (result_map (λ (i : InterfaceState). tt) r) (interface_answer h bus address number detach)
unfolding interface_answer
claim_answered h old between bus address key number detach (Ok i) tried is claims =
    let was = opened h bus address key tried in
    let answer = claimed_answer h old between bus address key number detach (Ok i) is claims was
    ∙ claimed_key-given (length old.interfaces) i.key (claim_tried old claims.device number detach) claims.tried in
    rw (was.answer, answer) refl
claim_answered h old between bus address key number detach (Err (Cause error)) tried is claims =
    let was = opened h bus address key tried in
    let answer = claimed_answer h old between bus address key number detach (Err (Cause error)) is claims was
    ∙ claimed_key-error (length old.interfaces) (claim_tried old claims.device number detach) error claims.tried in
    rw (was.answer, answer) refl
claim_answered h old between bus address key number detach (Err Memory) tried is claims = tt

-- the device is refused, and so no interface is claimed
pub not_opened : (h : HostState) (bus address number : ℕ) (detach : Bool) (error : Fail ErrorState) →
    Tried {A = ℕ} (Err error) (open_key h bus address) → Tried {A = Unit {0}} (Err error) (interface_answer h bus address number detach)
unfolding interface_answer
not_opened h bus address number detach (Cause error) tried = rw (device_refused h bus address error tried) refl
not_opened h bus address number detach Memory tried = tt

-- it is opened, and an interface is claimed or refused
pub claim_tried_on : (h old new : HostState) (bus address key number : ℕ) (detach : Bool) (r : Result InterfaceState (Fail ErrorState)) →
    open_key h bus address ≡ Ok key → old ≡ host_opened h bus address → ClaimsAndCloses old new key number detach r →
    Tried (result_map (λ (i : InterfaceState). tt) r) (interface_answer h bus address number detach)
claim_tried_on h old new bus address key number detach r tried is both =
    claim_answered h old both.between bus address key number detach r tried is both.claims
