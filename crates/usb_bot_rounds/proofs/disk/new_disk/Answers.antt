use Rattle.usb_bot_rounds.proofs.OpenLemmas.{disk-serves, disk-stands}
use Rattle.usb_bot_rounds.proofs.disk.new_disk.Goals as goal

pub returns-clause-serves : goal.returns-clause-serves
returns-clause-serves c =
    let ends = c.in_ok-out.ensures.endpoints in
    disk-serves c.new-2.result c.new-client.result c.open_endpoints.new.host c.in_ok-disk.disk.disk c.in_ok-out.out c.in_ok-out.inp c.new-2.ensures.bus c.new-client.ensures.fresh c.in_ok-out.ensures.host ends.0 ends.1 c.in_ok-disk.ensures.zeros

pub returns-clause-stand : goal.returns-clause-stand
returns-clause-stand c =
    let ends = c.in_ok-out.ensures.endpoints in
    disk-stands c.new-2.result c.new-client.result c.open_endpoints.new.host c.in_ok-out.out c.in_ok-out.inp c.new-client.ensures.fresh c.in_ok-out.ensures.host ends.0 ends.1 c.new-2.ensures.stand
