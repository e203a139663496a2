use Rattle.usb_bot_disk.proofs.disk_bus.DiskBus.new.Goals as goal

pub returns-clause-stand : goal.returns-clause-stand
returns-clause-stand c = λ e stands. record { key_is_open = stands.key_is_open; held = stands.held }
