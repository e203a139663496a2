-- Claims of interfaces, as calls.
use Rattle.std.proofs.Common.{◌≡◌, ℕ, false, true, List, Some, None, refl, ap, sym, ◌∙◌, inl, inr}
use Rattle.std.proofs.lemmas.Bool.{cases_Bool}
use Rattle.usb_kernel_devices.specs.declared.calls.DeviceCall.TheVariants.{Claim}
use Rattle.usb_kernel_devices.specs.declared.devices.DeviceState.{DeviceState}
use Rattle.usb_kernel_devices.specs.declared.step.KernelCall.TheVariants as call
use Rattle.usb_kernel_devices.specs.Interfaces.{contains}
use Rattle.usb_kernel_devices.specs.Devices.{device_of, change_device}
use Rattle.usb_kernel_devices.specs.Claims.{has_interface, claim_rules, with_claim, without_claim}
use Rattle.usb_kernel_devices.specs.Refusals.{armed_errno}
use Rattle.usb_kernel.specs.Calls.{called}
use Rattle.usb_kernel.specs.DeviceCalls.{call_errno, after_call}
use Rattle.usb_kernel.specs.ClaimLaws.{ClaimedIsBusy, ClaimMakesClaimed, SecondClaimIsBusy, ClaimsKeep, ReleaseUndoes, RefusedClaims}
use Rattle.usb_kernel.specs.Value.{KernelState}
use Rattle.usb_kernel_devices.proofs.InterfaceLemmas.{contains-insert, remove-insert}
use Rattle.usb_kernel.proofs.ClaimLemmas.{undone}
use Rattle.usb_kernel.proofs.CallsKept.{Accepted, accepted, keeps-armed, acts, calls-keep}

free-row : (i : ℕ) (x : DeviceState) → claim_rules i x ≡ None → (has_interface i x ≡ true) × (contains x.claimed i ≡ false)
free-row i x none =
    elim (cases_Bool (has_interface i x)) [
      | inl has ↦
          elim (cases_Bool (contains x.claimed i)) [
            | inl claimed ↦ absurd (let e = rw (has, claimed) at none in cc)
            | inr free ↦ (has, free)
          ]
      | inr lacks ↦ absurd (let e = rw lacks at none in cc)
    ]

busy-row : (i : ℕ) (x : DeviceState) → has_interface i x ≡ true → contains x.claimed i ≡ true → claim_rules i x ≡ Some 16
busy-row i x has claimed = rw (has, claimed) refl

pub claimed-busy : ClaimedIsBusy
claimed-busy k d i x device plugged unarmed has claimed =
    let here : contains x.claimed i ≡ true = rw device at claimed in
    rw (device, plugged, unarmed, busy-row i x has here) refl

-- the device of a claim that is not refused
made : (k : KernelState) (d i : ℕ) → call_errno k d (Claim i) ≡ None → Accepted k d call.Claim (claim_rules i)
made k d i none = accepted k d call.Claim (claim_rules i) none

after : (k : KernelState) (d i : ℕ) (none : call_errno k d (Claim i) ≡ None) → device_of (after_call k d (Claim i)).devices d ≡ Some (with_claim i (made k d i none).x)
after k d i none = acts k d call.Claim (claim_rules i) (with_claim i) (λ x. refl) (made k d i none) none

pub claim-claims : ClaimMakesClaimed
claim-claims k d i none = rw (after k d i none) (contains-insert (made k d i none).x.claimed i)

pub second-busy : SecondClaimIsBusy
unfolding called
second-busy k d i none =
    let a = made k d i none in
    let unarmed : armed_errno (after_call k d (Claim i)).armed d call.Claim ≡ None = ap (λ armed. armed_errno armed d call.Claim) (keeps-armed k d call.Claim (claim_rules i) a) ∙ a.armed in
    claimed-busy (after_call k d (Claim i)) d i (with_claim i a.x) (after k d i none) a.plugged unarmed (free-row i a.x a.row).0 (claim-claims k d i none)

pub claims-keep : ClaimsKeep
claims-keep k l j d i claimed = (calls-keep k l d i (Claim j) claimed).0

free-again : (i : ℕ) (x : DeviceState) → contains x.claimed i ≡ false → without_claim i (with_claim i x) ≡ x
free-again i x free = ap (λ (ns : List ℕ). record x { claimed = ns }) (remove-insert x.claimed i free)

of_same : (k : KernelState) (d i : ℕ) (a : Accepted k d call.Claim (claim_rules i)) (x : DeviceState) → device_of k.devices d ≡ Some x → contains x.claimed i ≡ false
of_same k d i a x at = let same : Some a.x ≡ Some x = sym a.device ∙ at in let is : a.x ≡ x = cc in rw is at (free-row i a.x a.row).1

pub release-undoes : ReleaseUndoes
unfolding called
release-undoes k d i none =
    let changed : (after_call k d (Claim i)).devices ≡ change_device (with_claim i) d k.devices = rw none refl in
    ap (change_device (without_claim i) d) changed
    ∙ undone (with_claim i) (without_claim i) (λ x. refl) k.devices d (λ x at. free-again i x (of_same k d i (made k d i none) x at))

pub claim-refused : RefusedClaims
unfolding called
claim-refused k d i errno refused = rw refused refl
