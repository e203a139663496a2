use Rattle.std.proofs.Common.{length, sym, ap, subst, ◌∙◌}
use Rattle.std.specs.List.{count_by}
use Rattle.usb_device_ledger.specs.Pools.{PoolState, kept_count}
use Rattle.usb_device_ledger.specs.Places.{is_at}
use Rattle.usb_device_ledger.proofs.PlaceLemmas.{Stand}
use Rattle.usb_device_ledger.proofs.ticket_slots.TicketSlots.reserve.Goals as goal

pub invariant_of-self : goal.invariant_of-self
invariant_of-self c =
    let items = sym c.reserve.ensures.items in
    record {
      standing = subst (Stand c.self.inside.pool) items c.self.invariant.standing;
      count = c.self.invariant.count ∙ ap length items;
      kept = c.self.invariant.kept ∙ ap (count_by is_at) items;
    }

pub invariant_of-self-then-is_err-2 : goal.invariant_of-self-then-is_err-2
invariant_of-self-then-is_err-2 c =
    let items = sym c.reserve.ensures.items in
    let pool = c.reserve-2.ensures.rest in
    record {
      standing = subst (λ p. Stand p c.reserve.new.self.items) (sym pool) (subst (Stand c.self.inside.pool) items c.self.invariant.standing);
      count = ap (λ (p : PoolState _). p.count) pool ∙ c.self.invariant.count ∙ ap length items;
      kept = ap kept_count pool ∙ c.self.invariant.kept ∙ ap (count_by is_at) items;
    }

pub invariant_of-self-2 : goal.invariant_of-self-2
invariant_of-self-2 c =
    let items = sym c.reserve.ensures.items in
    let pool = c.reserve-2.ensures.rest in
    record {
      standing = subst (λ p. Stand p c.reserve.new.self.items) (sym pool) (subst (Stand c.self.inside.pool) items c.self.invariant.standing);
      count = ap (λ (p : PoolState _). p.count) pool ∙ c.self.invariant.count ∙ ap length items;
      kept = ap kept_count pool ∙ c.self.invariant.kept ∙ ap (count_by is_at) items;
    }
