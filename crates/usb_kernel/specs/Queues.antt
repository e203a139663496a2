-- The ends of the lists of unfinished tickets, by endpoint.
use Rattle.std.specs.Prelude.{ℕ, Bool, Option, None, is_some, unwrap_or}
use Rattle.std.specs.declared.cmp.Ordering.{Ordering}
use Rattle.std.specs.Ordering.{nat_cmp, ordering_then}
use Rattle.std.specs.BTreeMap.{get}
use Rattle.usb_kernel.specs.declared.record.Ends.{Ends}
use Rattle.usb_kernel.specs.declared.queues.Queues.{Queues}

-- the ends of an empty list
abbrev pub no_ends : Ends
no_ends = record { first = None; last = None }

-- endpoints are in the order of their devices, and then of their addresses
abbrev pub by_endpoint : ℕ × ℕ → ℕ × ℕ → Ordering
by_endpoint a b = ordering_then (nat_cmp a.0 b.0) (nat_cmp a.1 b.1)

-- the entry of an endpoint, if it has one
abbrev pub queue_at : Queues → ℕ → ℕ → Option Ends
queue_at q d e = get by_endpoint q.ends (d, e)

abbrev pub ends_at : Queues → ℕ → ℕ → Ends
ends_at q d e = unwrap_or (queue_at q d e) no_ends

abbrev pub has_queue : Queues → ℕ → ℕ → Bool
has_queue q d e = is_some (queue_at q d e)
