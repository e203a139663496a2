use Rattle.std.proofs.Common.{ℕ, Bool, Option, ap, sym, ◌∙◌, subst, ◌≡◌, rules}
use Rattle.usb_device_host.specs.HostBus.{owner_at}
use Rattle.usb_device.specs.Futures.{StandsFuture, future_taken, future_awaited}
use Rattle.usb_device.proofs.KeptLemmas.{beside-waited}
use Rattle.usb_device.proofs.future.TransferFuture.wait.Goals as goal

pub take_control-requires-clause-held : goal.take_control-requires-clause-held
take_control-requires-clause-held c =
    let host = c.args.host.now in
    let way = (subst (StandsFuture host) (sym c.self.view_is) c.requires.stands).on_its_way c.unwrap.result c.unwrap.ensures in
    ap (λ (owner : ℕ → Option ℕ). owner c.spend-ticket.result) c.await_ticket.ensures.went.later.owner
    ∙ (ap (owner_at host.tickets) c.spend-ticket.ensures.ticket ∙ way.held)

pub take_control-requires-clause-key : goal.take_control-requires-clause-key
take_control-requires-clause-key c =
    let way = (subst (StandsFuture c.args.host.now) (sym c.self.view_is) c.requires.stands).on_its_way c.unwrap.result c.unwrap.ensures in
    ap (λ (keys : ℕ → Bool). keys c.self.inside.key) c.await_ticket.ensures.went.later.keys ∙ way.key_is_open

pub returns-clause-handles : goal.returns-clause-handles
returns-clause-handles c =
    let f = c.args.self in
    let is : c.take_control.new.self ≡ future_taken (future_awaited c.args.host.now f) f = search rules in
    rw is (beside-waited c.args.host.now f c.requires.stands)
