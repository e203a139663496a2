-- What a bus with a simulated disk is to its users.
use Rattle.std.specs.Prelude.{ℕ, ◌-◌, List, [], length}
use Rattle.usb_device_host.specs.HostState.{HostState}
use Rattle.usb_bot_disk.specs.declared.stage.Stage.TheVariants.{Listening}
use Rattle.usb_bot_disk.specs.Machine.{Machine}

-- the host; the numbers of the device and of its two endpoints; the disk by itself; and the sizes of
-- the empty packets that are ready for what it sends, of which the first is the next
pub record DiskState : Type 0 where
  pub host : HostState
  pub device : ℕ
  pub out : ℕ
  pub inp : ℕ
  pub machine : Machine
  pub blanks : List ℕ

-- a bus whose disk, of these bytes, waits for a wrapper
abbrev pub disk_made : HostState → List ℕ → ℕ → ℕ → ℕ → DiskState
disk_made host disk device out inp =
    record {
      host = host;
      device = device;
      out = out;
      inp = inp;
      machine = record { disk = disk; got = []; stage = Listening };
      blanks = [];
    }

-- how many steps there is room for beside those of the line that are left
abbrev pub room_of : HostState → ℕ
room_of h = h.kernel.spare - length h.steps
