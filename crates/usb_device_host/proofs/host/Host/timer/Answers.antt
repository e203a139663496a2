use Rattle.std.proofs.Common.{◌≡◌, ap, ◌∙◌, sym, subst, arith}
use Rattle.usb_kernel.specs.Value.{KernelState}
use Rattle.usb_kernel.specs.Timers.{timer_turned}
use Rattle.usb_device_host.specs.HostState.{HostState}
use Rattle.usb_device_host.specs.HostFacts.{host_made}
use Rattle.usb_device_host.specs.HostFrames.{HostGoesOn}
use Rattle.usb_device_host.specs.HostCalls.{host_timed}
use Rattle.usb_device_host.proofs.HostFrames.{uses-timed}
use Rattle.usb_device_host.proofs.WaitFrames.{went-uses}
use Rattle.usb_device_host.proofs.ArrivalLemmas.{CompletesOnly-timer, TicketsAgree-none, TicketsAgree-at}
use Rattle.usb_device_host.proofs.host.Host.timer.Goals as goal

pub invariant_of-self : goal.invariant_of-self
invariant_of-self c =
    let k = c.self.inside.kernel in
    let slots = c.self.inside.ledger.slots in
    let past = timer_turned k.clock k.past in
    record {
      agree = TicketsAgree-at past c.timer_turn.new.self.past slots c.timer_turn.ensures.past (TicketsAgree-none k.past past slots c.self.invariant.agree (CompletesOnly-timer k.clock k.past));
      room = omega (arith, ap (λ (x : KernelState). x.spare) c.timer_turn.ensures.rest, c.self.invariant.room);
      errnos = c.self.invariant.errnos;
    }

pub returns-clause-went : goal.returns-clause-went
returns-clause-went c =
    let k = c.self.inside.kernel in
    let devices = c.self.inside.devices in
    let l = c.self.inside.ledger in
    let steps = c.self.inside.steps.items in
    let h = host_made k devices l steps in
    let is : c.timer_turn.new.self ≡ record k { past = timer_turned k.clock k.past } = c.timer_turn.ensures.rest ∙ ap (λ past. record k { past = past }) c.timer_turn.ensures.past in
    let went = subst (λ (x : KernelState). HostGoesOn h (host_made x devices l steps)) (sym is) (went-uses h (host_timed h) (uses-timed h)) in
    subst (λ (g : HostState). HostGoesOn g (host_made c.timer_turn.new.self devices l steps)) c.self.view_is went
