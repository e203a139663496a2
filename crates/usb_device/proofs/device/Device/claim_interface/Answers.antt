use Rattle.std.proofs.Common.{ℕ, refl, false, Ok, Err}
use Rattle.usb_device.proofs.StandLemmas.{claimed-stands, claimed-device}
use Rattle.usb_device_host.specs.InterfaceClaims.{host_claimed}
use Rattle.usb_device_host.proofs.Left.{left}
use Rattle.usb_device.specs.KeptHandles.{HandlesStand}
use Rattle.usb_device.proofs.KeptLemmas.{stand-none, stand-claimed}
use Rattle.usb_device.proofs.ForDrivers.{interface_apart}
use Rattle.usb_device.proofs.device.Device.claim_interface.Goals as goal

pub returns-in-Ok-clause-claims : goal.returns-in-Ok-clause-claims
returns-in-Ok-clause-claims c =
    let key = c.self.view_is in
    let stands = c.requires.stands in
    record {
      device = stands.device;
      at = stands.at;
      tried = (rw key at c.in-Ok.ensures.tried) stands.device stands.at;
      number = refl;
      host = rw key at c.in-Ok.ensures.host;
    }

pub returns-in-Ok-clause-stands : goal.returns-in-Ok-clause-stands
returns-in-Ok-clause-stands c =
    let key = c.self.view_is in
    let stands = c.requires.stands in
    let tried = rw key at c.in-Ok.ensures.tried in
    claimed-stands c.args.host.now c.claim.new.self c.args.self.now c.args.interface c.in-Ok.key.serial false stands.device stands.at stands (tried stands.device stands.at) (rw key at c.in-Ok.ensures.host)

pub returns-in-Ok-clause-device : goal.returns-in-Ok-clause-device
returns-in-Ok-clause-device c =
    let key = c.self.view_is in
    claimed-device c.args.host.now c.claim.new.self c.args.self.now c.args.interface false (Ok c.in-Ok.key) c.requires.stands (rw key at c.in-Ok.ensures.host)

pub returns-in-Err-clause-claims : goal.returns-in-Err-clause-claims
returns-in-Err-clause-claims c =
    let key = c.self.view_is in
    let stands = c.requires.stands in
    record {
      device = stands.device;
      at = stands.at;
      tried = (rw key at c.in-Err.ensures.tried) stands.device stands.at;
      number = tt;
      host = rw key at c.in-Err.ensures.host;
    }

pub returns-in-Err-clause-device : goal.returns-in-Err-clause-device
returns-in-Err-clause-device c =
    let key = c.self.view_is in
    claimed-device {A = ℕ} c.args.host.now c.claim.new.self c.args.self.now c.args.interface false (Err c.in-Err.error) c.requires.stands (rw key at c.in-Err.ensures.host)

pub returns-in-Ok-clause-handles : goal.returns-in-Ok-clause-handles
returns-in-Ok-clause-handles c = rw c.in-Ok.ensures.host (stand-claimed c.args.host.now c.self.inside.key.serial c.args.interface false)

pub returns-in-Err-clause-handles : goal.returns-in-Err-clause-handles
returns-in-Err-clause-handles c =
    let host = c.args.host.now in
    left {A = ℕ} (HandlesStand host) (Err c.in-Err.error) c.claim.new.self (host_claimed host c.self.inside.key.serial c.args.interface false) host c.in-Err.ensures.host (stand-claimed host c.self.inside.key.serial c.args.interface false) (stand-none host)

pub returns-in-Ok-clause-apart : goal.returns-in-Ok-clause-apart
returns-in-Ok-clause-apart c = λ i stands. interface_apart c.args.host.now c.claim.new.self c.args.self.now c.args.interface false _ i (returns-in-Ok-clause-claims c) stands
