-- Devices are opened and interfaces claimed.
use Rattle.std.proofs.Common.{ℕ, ◌≡◌, Bool, List, [], ◌∷◌, ◌++◌, length, set, Option, Some, Result, Ok, Err, refl, ◌∙◌, ap, sym}
use Rattle.std.specs.Prelude.{IfOk, IfErr, OnOk, OnErr}
use Rattle.usb_desc.specs.declared.error.Fail.{Fail}
use Rattle.usb_desc.specs.declared.error.Fail.TheVariants.{Cause, Memory}
use Rattle.usb_kernel.specs.Calls.{open_answer, after_open}
use Rattle.usb_kernel.proofs.Answered.{opens-use_none}
use Rattle.usb_error.specs.ErrorState.{ErrorState}
use Rattle.usb_device_tables.specs.declared.registry.Key.{Key}
use Rattle.usb_device_tables.specs.History.{value_at}
use Rattle.usb_device_ledger.specs.declared.opened.OpenDevice.{OpenDevice}
use Rattle.usb_device_host.specs.HostState.{HostState}
use Rattle.usb_device_host.specs.Opens.{descriptors_tried, open_tried, open_key, with_key, host_opened, with_opened, opened_by}
use Rattle.usb_error.specs.Outcomes.{Tried, result_map}
use Rattle.std.specs.Prelude.{◌-◌, map}
use Rattle.usb_kernel_devices.specs.declared.step.KernelStep.{KernelStep}
use Rattle.usb_kernel.specs.Value.{KernelState}
use Rattle.usb_device_ledger.specs.declared.owners.EndedClaim.{EndedClaim}
use Rattle.usb_device_ledger.specs.Entries.{ClaimedInterface, fresh_interface}
use Rattle.usb_device_host.specs.HostFacts.{host_made}
use Rattle.usb_device_host.specs.Handles.{devices_left, handle_closed}
use Rattle.usb_device_ledger.specs.Devices.{device_changed, interface_more}
use Rattle.usb_device_host.specs.InterfaceClaims.{host_claimed, kernel_claimed, claimed_by, claimed_on, claim_tried}
use Rattle.usb_device_host.specs.CallErrors.{Leaves}
use Rattle.usb_device_host.proofs.Left.{left}
use Rattle.usb_device_host.proofs.TryLemmas.{open-uses_none, open-arms}
use Rattle.usb_device_host.proofs.KernelFrames.{released-as}
use Rattle.usb_device_ledger.specs.LedgerState.{LedgerState, host_ticket}
use Rattle.usb_device_ledger.specs.Releases.{claim_ended, without_claim}
use Rattle.usb_device_host.specs.Releases.{without_ended, owner_gone}

-- a device is opened: the key, and the host
pub opened-key : (h : HostState) (bus address : ℕ) (o : OpenDevice) (r : Result Key (Fail ErrorState)) → (open_tried bus address h.kernel).answer ≡ Ok o → IfOk r (λ key. key.serial ≡ length h.devices) → IfErr r (λ error. error ≡ Memory) → Tried (result_map (λ (key : Key). key.serial) r) (open_key h bus address)
unfolding open_key
opened-key h bus address o (Ok key) is here err = rw (is, here) refl
opened-key h bus address o (Err (Cause error)) is here err = absurd (cc)
opened-key h bus address o (Err Memory) is here err = tt

pub opened-leaves :
    (h mid new : HostState) (bus address : ℕ) (o : OpenDevice) (r : Result Key (Fail ErrorState))
    → (open_tried bus address h.kernel).answer ≡ Ok o → mid ≡ record h { kernel = (open_tried bus address h.kernel).kernel }
    → OnOk r (new ≡ with_opened mid o) → OnErr r (new ≡ mid) → IfErr r (λ error. error ≡ Memory)
    → Leaves r new (host_opened h bus address) h
unfolding host_opened
opened-leaves h mid new bus address o (Ok key) is made ok err memory =
    let left : HostState = record h { kernel = (open_tried bus address h.kernel).kernel } in
    ok ∙ ap (λ (m : HostState). with_opened m o) made ∙ sym (ap (opened_by left) is)
opened-leaves h mid new bus address o (Err (Cause error)) is made ok err memory = absurd (cc)
opened-leaves h mid new bus address o (Err Memory) is made ok err memory =
    err ∙ made ∙ ap (λ (k : KernelState). record h { kernel = k }) (open-uses_none bus address h.kernel o is)

-- or it is refused
pub open-refused : (h : HostState) (bus address : ℕ) (error : Fail ErrorState) → Tried {A = OpenDevice} (Err error) (open_tried bus address h.kernel).answer → Tried {A = ℕ} (Err error) (open_key h bus address)
unfolding open_key
open-refused h bus address (Cause error) is = ap (with_key (length h.devices)) is
open-refused h bus address Memory is = tt

pub refused-leaves :
    (h new : HostState) (kernel : KernelState) (bus address : ℕ) (error : Fail ErrorState)
    → Tried {A = OpenDevice} (Err error) (open_tried bus address h.kernel).answer → new ≡ record h { kernel = kernel }
    → Leaves {A = OpenDevice} (Err error) kernel (open_tried bus address h.kernel).kernel h.kernel
    → Leaves {A = Key} (Err error) new (host_opened h bus address) h
unfolding host_opened
refused-leaves h new kernel bus address (Cause error) is made left =
    let after : HostState = record h { kernel = (open_tried bus address h.kernel).kernel } in
    made ∙ ap (λ (k : KernelState). record h { kernel = k }) left ∙ sym (ap (opened_by after) is)
refused-leaves h new kernel bus address Memory is made left = made ∙ ap (λ (k : KernelState). record h { kernel = k }) left

-- whatever an open answers, only what is armed changes at the kernel
pub left-arms : (r : Result OpenDevice (Fail ErrorState)) (kernel k : KernelState) (bus address : ℕ) → Leaves r kernel (open_tried bus address k).kernel k → kernel ≡ record k { armed = kernel.armed }
left-arms r kernel k bus address is = left (λ (x : KernelState). x ≡ record k { armed = x.armed }) r kernel (open_tried bus address k).kernel k is (open-arms bus address k) refl

-- descriptors that the kernel refuses, or that want memory
pub read-refused :
    (k new : KernelState) (bus address device : ℕ) (error : Fail ErrorState) → open_answer k bus address ≡ Ok device
    → Tried {A = List ℕ} (Err error) (descriptors_tried device (after_open k bus address)).answer
    → Leaves {A = List ℕ} (Err error) new (descriptors_tried device (after_open k bus address)).kernel (after_open k bus address)
    → Leaves {A = OpenDevice} (Err error) new (open_tried bus address k).kernel k
unfolding open_tried
read-refused k new bus address device (Cause error) opened tried left = rw (opened, tried) left
read-refused k new bus address device Memory opened tried left = left ∙ opens-use_none k bus address device opened

-- what a claim leaves
pub claimed-refused : (h : HostState) (key number : ℕ) (reattach : Bool) (o : OpenDevice) (error : ErrorState) → value_at h.devices key ≡ Some o → claim_tried h o number reattach ≡ Err error
    → host_claimed h key number reattach ≡ record h { kernel = kernel_claimed h.kernel o number reattach }
unfolding host_claimed
claimed-refused h key number reattach o error at refused =
    ap (claimed_on h key number reattach) at ∙ ap (claimed_by (record h { kernel = kernel_claimed h.kernel o number reattach }) (fresh_interface key o.device number reattach)) refused

pub claimed-at : (h : HostState) (key number : ℕ) (reattach : Bool) (o : OpenDevice) (done : Unit {0}) → value_at h.devices key ≡ Some o → claim_tried h o number reattach ≡ Ok done
    → host_claimed h key number reattach ≡ record h { kernel = kernel_claimed h.kernel o number reattach; devices = device_changed h.devices key interface_more; interfaces = h.interfaces ++ Some (fresh_interface key o.device number reattach) ∷ [] }
unfolding host_claimed
claimed-at h key number reattach o done at made =
    ap (claimed_on h key number reattach) at ∙ ap (claimed_by (record h { kernel = kernel_claimed h.kernel o number reattach }) (fresh_interface key o.device number reattach)) made

-- a handle that is closed
pub closed-made : (k : KernelState) (devices left : List (Option OpenDevice)) (l : LedgerState) (steps : List KernelStep) (i : ℕ) (c : ClaimedInterface) (l' : LedgerState) (ended : Option EndedClaim) (k' : KernelState) → value_at l.interfaces i ≡ Some c → left ≡ devices_left devices c
    → l' ≡ record l { interfaces = without_claim (set l.interfaces i (Some (record c { handles = c.handles - 1 }))) (Some i) (claim_ended (set l.interfaces i (Some (record c { handles = c.handles - 1 }))) (map host_ticket l.slots) l.endpoints i) } → ended ≡ claim_ended (set l.interfaces i (Some (record c { handles = c.handles - 1 }))) (map host_ticket l.slots) l.endpoints i → k' ≡ without_ended k ended → host_made k' left l' steps ≡ handle_closed (host_made k devices l steps) i
unfolding handle_closed owner_gone
closed-made k devices left l steps i c l' ended k' at less is claim kernel = rw (at, released-as k k' ended kernel, claim, is, less) refl
