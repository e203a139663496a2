-- Handles of devices and interfaces over the calls on a bus with a disk.
use Rattle.std.proofs.Common.{ℕ, Option, Some, None}
use Rattle.usb_xfer.specs.BufferState.{BufferState}
use Rattle.usb_xfer.specs.declared.transfer.TransferData.{TransferData}
use Rattle.usb_xfer.specs.Transfers.{buffer_held}
use Rattle.usb_device_endpoint.specs.declared.route.Route.{Route}
use Rattle.usb_device_endpoint.specs.BusHandles.{KeepsHandles}
use Rattle.usb_device_host.specs.HostState.{HostState}
use Rattle.usb_device_host.specs.HostCalls.{host_submitted}
use Rattle.usb_device_host.specs.HostTurns.{all_stepped}
use Rattle.usb_device_host.specs.DeviceHandles.{DeviceHandlesStand}
use Rattle.usb_device_host.proofs.HostFrames.{uses-all}
use Rattle.usb_device_host.proofs.CallFrames.{keeps-submitted}
use Rattle.usb_device_host.proofs.LeftDevices.{leaves-open, leaves-stand, calls-keep_handles}
use Rattle.usb_bot_disk.specs.DiskState.{DiskState}
use Rattle.usb_bot_disk.specs.DiskTurns.{Action, steps_of, turned_by, action_of, disk_turned}
use Rattle.usb_bot_disk.specs.DiskCalls.{roomier, room_for, length_by, submitted_by, disk_submitted, disk_calls, DiskHandlesStand}

stand-roomier : (h : HostState) (n : ℕ) (to : Route) (deadline : Option ℕ) (t : TransferData) → DeviceHandlesStand h (host_submitted (roomier h n) to deadline t)
stand-roomier h n to deadline t =
    let new = host_submitted (roomier h n) to deadline t in
    let l = leaves-open (roomier h n) new (keeps-submitted (roomier h n) to deadline t) in
    leaves-stand h new (record { devices = l.devices; interfaces = l.interfaces })

stand-submitted_by : (b : DiskState) (to : Route) (deadline : Option ℕ) (t : TransferData) (o : Option BufferState) → DiskHandlesStand b (submitted_by b to deadline t o)
stand-submitted_by b to deadline t None = calls-keep_handles.submitted b.host to deadline t
stand-submitted_by b to deadline t (Some buffer) = stand-roomier b.host (room_for to (length_by to buffer)) to deadline t

stand-submitted : (b : DiskState) (to : Route) (deadline : Option ℕ) (t : TransferData) → DiskHandlesStand b (disk_submitted b to deadline t)
unfolding disk_submitted
stand-submitted b to deadline t = stand-submitted_by b to deadline t (buffer_held t.held)

stand-turned_by : (b : DiskState) (o : Option Action) → DiskHandlesStand b (turned_by b o)
stand-turned_by b None = calls-keep_handles.turned b.host
stand-turned_by b (Some a) =
    let new = all_stepped b.host (steps_of b a) in
    let uses = uses-all b.host (steps_of b a) in
    leaves-stand b.host new (record { devices = uses.devices; interfaces = uses.interfaces })

stand-turned : (b : DiskState) → DiskHandlesStand b (disk_turned b)
unfolding disk_turned
stand-turned b = stand-turned_by b (action_of b)

pub disk-keeps_handles : KeepsHandles disk_calls DiskHandlesStand
disk-keeps_handles =
    record {
      submitted = stand-submitted;
      refused = λ b to t errno. calls-keep_handles.refused b.host to t errno;
      discarded = λ b t. calls-keep_handles.discarded b.host t;
      abandoned = λ b t. calls-keep_handles.abandoned b.host t;
      taken = λ b t. calls-keep_handles.taken b.host t;
      closed = λ b key. calls-keep_handles.closed b.host key;
      turned = stand-turned;
      idled = λ b until. calls-keep_handles.idled b.host until;
      halt_cleared = λ b device endpoint. calls-keep_handles.halt_cleared b.host device endpoint;
    }
