use Rattle.std.proofs.Common.{sym, ap, ◌∙◌}
use Rattle.std.specs.Prelude.{◌&&◌, is_some, is_none, option_and_then}
use Rattle.usb_kernel.specs.Completions.{completion}
use Rattle.usb_device_ledger.specs.EndedTickets.{end_at}
use Rattle.usb_device_host.specs.HostBus.{host_value}
use Rattle.usb_device_host.specs.HostState.{HostState}
use Rattle.usb_device_host.proofs.ReapedLemmas.{lent_of, lent-some, lent-none, lent-value, lent-there}
use Rattle.usb_device_host.proofs.host.Host.reaped.Goals as goal

pub returns-in_err-transfer-clause-there : goal.returns-in_err-transfer-clause-there
returns-in_err-transfer-clause-there c =
    let l = c.self.inside.ledger in
    rw c.from_residual.ensures
    (ap (λ o. is_some (option_and_then lent_of o)) c.in_err-transfer.ensures.transfer ∙ lent-there c.self.inside.kernel.past l.slots c.args.ticket c.self.invariant.agree ∙ ap (λ (h : HostState). is_some (completion h.kernel.past c.args.ticket) && is_none (end_at h.tickets c.args.ticket)) c.self.view_is)

pub returns-in-Complete-clause-value : goal.returns-in-Complete-clause-value
returns-in-Complete-clause-value c =
    let l = c.self.inside.ledger in
    let lent = lent-some c.in_ok-transfer.transfer.now c.in-Complete.field-0 c.in-Complete.is in
    sym lent ∙ ap (option_and_then lent_of) c.in_ok-transfer.ensures.transfer ∙ lent-value c.self.inside.kernel c.self.inside.devices l c.self.inside.steps.items c.args.ticket c.self.invariant.agree ∙ ap (λ h. host_value h c.args.ticket) c.self.view_is

pub returns-in-Complete-clause-there : goal.returns-in-Complete-clause-there
returns-in-Complete-clause-there c =
    let l = c.self.inside.ledger in
    let lent = lent-some c.in_ok-transfer.transfer.now c.in-Complete.field-0 c.in-Complete.is in
    ap is_some (sym lent ∙ ap (option_and_then lent_of) c.in_ok-transfer.ensures.transfer) ∙ lent-there c.self.inside.kernel.past l.slots c.args.ticket c.self.invariant.agree ∙ ap (λ (h : HostState). is_some (completion h.kernel.past c.args.ticket) && is_none (end_at h.tickets c.args.ticket)) c.self.view_is

pub returns-in_default : goal.returns-in_default
returns-in_default c =
    let l = c.self.inside.ledger in
    let none = lent-none c.in_ok-transfer.transfer.now c.in_default.not-Complete in
    let lent = sym none ∙ ap (option_and_then lent_of) c.in_ok-transfer.ensures.transfer in
    record {
      value = lent ∙ lent-value c.self.inside.kernel c.self.inside.devices l c.self.inside.steps.items c.args.ticket c.self.invariant.agree ∙ ap (λ h. host_value h c.args.ticket) c.self.view_is;
      there = ap is_some lent ∙ lent-there c.self.inside.kernel.past l.slots c.args.ticket c.self.invariant.agree ∙ ap (λ (h : HostState). is_some (completion h.kernel.past c.args.ticket) && is_none (end_at h.tickets c.args.ticket)) c.self.view_is;
    }
