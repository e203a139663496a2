use Rattle.std.proofs.Common.{length, sym, ap, ◌∙◌}
use Rattle.usb_device_tables.specs.History.{live_count}
use Rattle.usb_device_tables.proofs.EntryLemmas.{count-history}
use Rattle.usb_device_tables.proofs.PlaceLemmas.{sound-placed}
use Rattle.usb_device_tables.proofs.serial_map.SerialMap.len.Goals as goal

pub returns : goal.returns
returns g c =
    let sound = sound-placed c.self.inside.entries.slots c.self.inside.places.items c.self.invariant in
    record { live = c.len.ensures ∙ sym (count-history c.self.inside.entries.slots (length c.self.inside.places.items) sound.apart sound.below) ∙ ap live_count c.self.view_is }
