-- The queues of armed refusals.
use Rattle.std.specs.Prelude.{ℕ, suc, ◌≡◌, ◌+◌, ◌*◌, ◌<◌, ◌≤◌, ◌==◌, ◌&&◌, not, Bool, true, false, List, [], ◌∷◌, length, set, Option, Some, None, slice_get, if◌then◌else◌}
use Rattle.std.specs.Option.{option_map_or}
use Rattle.usb_kernel_devices.specs.declared.step.Armed.{Armed}
use Rattle.usb_kernel_devices.specs.declared.refusals.Arming.{Arming}
use Rattle.usb_kernel_devices.specs.declared.refusals.Queue.{Queue}
use Rattle.usb_kernel_devices.specs.Refusals.{call_number}

-- there is a queue for each of the 13 calls on each of the 256 numbers of devices, 3328 in all; the place of that of a refusal's device
-- and call
abbrev pub kind_of : Armed → ℕ
kind_of a = a.device * 13 + call_number a.call

-- the refusals of a log that are not used, in the order of arming
abbrev pub unused : List Arming → List Armed
unused [] = []
unused (x ∷ others) = if x.is_used then unused others else x.refusal ∷ unused others

-- whether it is not used, and for the device and the call of a queue
abbrev pub is_queued : ℕ → Arming → Bool
is_queued kind x = not x.is_used && kind_of x.refusal == kind

-- whether one is queued at a place of the log
abbrev pub queued_at : ℕ → List Arming → ℕ → Bool
queued_at kind log i = option_map_or (is_queued kind) (slice_get log i) false

-- it is the first place from here on of which this is true
abbrev pub IsFirst : (ℕ → Bool) → ℕ → Option ℕ → Type 0
IsFirst w from None = (i : ℕ) → from ≤ i → w i ≡ false
IsFirst w from (Some j) = (from ≤ j) × (w j ≡ true) × ((i : ℕ) → from ≤ i → i < j → w i ≡ false)

-- where there is a first, it is the last place of which this is true
abbrev pub IsLast : (ℕ → Bool) → Option ℕ → ℕ → Type 0
IsLast w None last = Unit {0}
IsLast w (Some j) last = (w last ≡ true) × ((i : ℕ) → last < i → w i ≡ false)

-- each queue names the first and the last that are queued, and each of these the next
pub record IsLinked (queues : List Queue) (log : List Arming) : Type 0 where
  pub count : length queues ≡ 3328
  pub first : (kind : ℕ) (q : Queue) → slice_get queues kind ≡ Some q → IsFirst (queued_at kind log) 0 q.first
  pub last : (kind : ℕ) (q : Queue) → slice_get queues kind ≡ Some q → IsLast (queued_at kind log) q.first q.last
  pub next : (i : ℕ) (x : Arming) → slice_get log i ≡ Some x → x.is_used ≡ false → IsFirst (queued_at (kind_of x.refusal) log) (suc i) x.next

-- one is armed behind the last of its queue
abbrev pub fresh_arming : Armed → Arming
fresh_arming refusal = record { refusal = refusal; is_used = false; next = None }

abbrev pub next_set : List Arming → ℕ → ℕ → Option Arming → List Arming
next_set log i place None = log
next_set log i place (Some x) = set log i (record x { next = Some place })

abbrev pub linked_behind : List Arming → Option ℕ → ℕ → ℕ → List Arming
linked_behind log None last place = log
linked_behind log (Some first) last place = next_set log last place (slice_get log last)
