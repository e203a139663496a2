use Rattle.std.proofs.Common.{◌≡◌, ◌∙◌, ap, sym, subst, length, arith}
use Rattle.usb_kernel.specs.Tickets.{tickets}
use Rattle.std.proofs.Common.{ℕ, None}
use Rattle.usb_device_host.specs.HostState.{HostState}
use Rattle.usb_device_host.specs.HostBus.{owner_at}
use Rattle.usb_device_host.specs.HostFacts.{host_made}
use Rattle.usb_device_host.proofs.FinishLemmas.{Waits, matched-waits, finished-ended, finished-reaped}
use Rattle.usb_device_host.specs.Finishes.{finished, discarded_below, reaped_below, HasCompletions}
use Rattle.usb_device_host.proofs.host.Host.finish.Goals as goal

pub returns-clause-finished : goal.returns-clause-finished
unfolding finished
returns-clause-finished c =
    let h = c.args.self.now in
    let n : c.tickets-count.result ≡ length (tickets h.kernel.past) = c.tickets-count.ensures.tickets ∙ ap (λ (g : HostState). length (tickets g.kernel.past)) c.self.view_is in
    let a : c.loop-ticket.ticket ≡ length (tickets h.kernel.past) = omega (arith, n, c.loop-ticket-test.false, c.loop-ticket.auto) in
    let b : c.loop-ticket-2.ticket ≡ length (tickets h.kernel.past) = omega (arith, n, c.loop-ticket-2-test.false, c.loop-ticket-2.auto) in
    c.loop-ticket-2.invariant ∙ ap (reaped_below c.loop-ticket.self) b ∙ ap (λ g. reaped_below g (length (tickets h.kernel.past))) (c.loop-ticket.invariant ∙ ap (discarded_below h) a)

pub returns-clause-ended : goal.returns-clause-ended
unfolding finished
returns-clause-ended c = λ free t below.
    let h = c.args.self.now in
    let k = c.self.inside.kernel in
    let l = c.self.inside.ledger in
    let n : c.tickets-count.result ≡ length (tickets h.kernel.past) = c.tickets-count.ensures.tickets ∙ ap (λ (g : HostState). length (tickets g.kernel.past)) c.self.view_is in
    let a : c.loop-ticket.ticket ≡ length (tickets h.kernel.past) = omega (arith, n, c.loop-ticket-test.false, c.loop-ticket.auto) in
    let b : c.loop-ticket-2.ticket ≡ length (tickets h.kernel.past) = omega (arith, n, c.loop-ticket-2-test.false, c.loop-ticket-2.auto) in
    let last : c.loop-ticket-2.self ≡ finished h = c.loop-ticket-2.invariant ∙ ap (reaped_below c.loop-ticket.self) b ∙ ap (λ g. reaped_below g (length (tickets h.kernel.past))) (c.loop-ticket.invariant ∙ ap (discarded_below h) a) in
    let free_then : (t : ℕ) → owner_at (host_made k c.self.inside.devices l c.self.inside.steps.items).tickets t ≡ None = λ t. ap (λ (g : HostState). owner_at g.tickets t) c.self.view_is ∙ free t in
    let waits = matched-waits k c.self.inside.devices l c.self.inside.steps.items c.self.invariant.agree free_then in
    let waits_now : Waits h (length (tickets h.kernel.past)) = rw (← c.self.view_is) waits in
    rw last (finished-ended h waits_now t (rw last at below))

pub returns-clause-reaped : goal.returns-clause-reaped
returns-clause-reaped c =
    let last : c.loop-ticket-2.self ≡ finished c.args.self.now = returns-clause-finished c in
    subst (λ (h : HostState). HasCompletions h.kernel.past) (sym last) (finished-reaped c.args.self.now)
