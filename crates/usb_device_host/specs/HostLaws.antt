-- What the slots of a host hold.
use Rattle.std.specs.Prelude.{ℕ, ◌≡◌, Option, Some, None, IsSome, is_some, option_and_then, refl}
use Rattle.std.specs.Option.{option_map}
use Rattle.usb_xfer.specs.declared.transfer.Completion.{Completion}
use Rattle.usb_xfer.specs.declared.transfer.TransferData.{TransferData}
use Rattle.usb_xfer.specs.Transfers.{completion_held}
use Rattle.usb_kernel.specs.TransferCompletions.{transfer_completion}
use Rattle.usb_device_endpoint.specs.Values.{HoldsCompletion}
use Rattle.usb_kernel.specs.Holds.{transfer_with}
use Rattle.usb_device_ledger.specs.Entries.{Hold}
use Rattle.usb_device_host.specs.HostState.{HostState}
use Rattle.usb_device_host.specs.HostBus.{owner_at, hold_at, host_value}

-- a ticket is held exactly where it has an owner
pub held-owned : (h : HostState) (t : ℕ) →
    is_some (hold_at h.tickets t) ≡ is_some (owner_at h.tickets t)
held-owned h t = some-map (hold_at h.tickets t)
  where
    some-map : (o : Option Hold) → is_some o ≡ is_some (option_map (λ (hold : Hold). hold.key) o)
    some-map None = refl
    some-map (Some hold) = refl

-- and holds its completion once it is reaped
pub value-held : (h : HostState) (t : ℕ) → IsSome (owner_at h.tickets t) →
    HoldsCompletion h.kernel.past t (host_value h t)
value-held h t some = by (hold_at h.tickets t) (transfer_completion h.kernel.past t) some
  where
    by : (o : Option Hold) (c : Option Completion) →
        IsSome (option_map (λ (hold : Hold). hold.key) o) →
        option_map (λ (v : TransferData). completion_held v.held)
        (option_and_then (λ hold. option_map (transfer_with hold) c) o) ≡ option_map Some c
    by None c some = absurd (cc)
    by (Some hold) None some = refl
    by (Some hold) (Some c) some = refl
