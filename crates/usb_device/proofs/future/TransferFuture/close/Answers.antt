use Rattle.std.proofs.Common.{ap, sym, ◌∙◌, subst, ◌≡◌, rules}
use Rattle.usb_device_endpoint.specs.BusState.{BusState}
use Rattle.usb_device_host.specs.HostBus.{bus_of}
use Rattle.usb_device.specs.Futures.{StandsFuture, future_closed}
use Rattle.usb_device_host.proofs.CallFrames.{bus-abandoned}
use Rattle.usb_device.proofs.KeptLemmas.{beside-closed}
use Rattle.usb_device.proofs.future.TransferFuture.close.Goals as goal

pub leave_endpoint-requires : goal.leave_endpoint-requires
leave_endpoint-requires c =
    let host = c.args.host.now in
    let way = (subst (StandsFuture host) (sym c.self.view_is) c.requires.stands).on_its_way c.in-Some.pending c.in-Some.is in
    let same = ap bus_of c.abandon_ticket.ensures.abandoned ∙ bus-abandoned host c.spend.result in
    record { key = ap (λ (b : BusState). b.keys c.self.inside.key) same ∙ way.key_is_open }

pub returns-in-Some-clause-handles : goal.returns-in-Some-clause-handles
returns-in-Some-clause-handles c =
    let is : c.leave_endpoint.new.self ≡ future_closed c.args.host.now c.args.self = search rules in
    rw is (beside-closed c.args.host.now c.args.self c.requires.stands)
