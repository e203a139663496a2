-- A submission that is ready.
use Rattle.std.proofs.Common.{◌≡◌, ℕ, ◌≤◌, List, ◌++◌, drop, Option, Some, None, Result, Ok, Err, refl, sym, ap, ◌∙◌, subst}
use Rattle.std.specs.Prelude.{OnOk}
use Rattle.usb_device_endpoint.specs.BusState.{BusState}
use Rattle.usb_device_endpoint.specs.Routes.{GoesBy}
use Rattle.usb_device_endpoint.specs.Submitted.{IsSubmitted}
use Rattle.usb_device_host.specs.HostBus.{bus_of}
use Rattle.std.specs.Option.{ForSome}
use Rattle.usb_xfer.specs.BufferState.{BufferState}
use Rattle.usb_xfer.specs.declared.transfer.TransferData.{TransferData}
use Rattle.usb_xfer.specs.Transfers.{buffer_held, IsFilled}
use Rattle.usb_device_endpoint.specs.declared.route.Route.{Route}
use Rattle.usb_device_host.specs.HostState.{HostState}
use Rattle.usb_device_host.specs.HostCalls.{host_submitted}
use Rattle.usb_device_host.proofs.BusLemmas.{some-buffer}
use Rattle.usb_bot_disk.specs.DiskState.{DiskState}
use Rattle.usb_bot_disk.specs.DiskCalls.{length_by, blanks_for, dropped_by, room_for, roomier, prepared, submitted_by, disk_submitted, disk_bus_of, with_host}
use Rattle.usb_bot_disk.proofs.DiskBusLemmas.{submitted-left}

pub submitted-is : (b mid : DiskState) (to : Route) (deadline : Option ℕ) (t : TransferData) (n : ℕ) (h : HostState) (blanks : List ℕ) → IsFilled t → ForSome (buffer_held t.held) (λ buffer. n ≡ length_by to buffer) → mid ≡ prepared b to n
    → h ≡ host_submitted mid.host to deadline t → blanks ≡ drop (dropped_by b to) mid.blanks → record mid { host = h; blanks = blanks } ≡ disk_submitted b to deadline t
unfolding disk_submitted
submitted-is b mid to deadline t n h blanks filled len ready host_is blanks_is =
    let some = some-buffer t filled in
    let same : n ≡ length_by to some.0 = len some.0 some.1 in
    ap (λ (x : HostState). record mid { host = x; blanks = blanks }) host_is
    ∙ ap (λ (xs : List ℕ). record mid { host = host_submitted mid.host to deadline t; blanks = xs }) blanks_is
    ∙ ap (λ (x : DiskState). record x { host = host_submitted x.host to deadline t; blanks = drop (dropped_by b to) x.blanks }) ready
    ∙ ap (λ m. record b { host = host_submitted (roomier b.host (room_for to m)) to deadline t; blanks = drop (dropped_by b to) (b.blanks ++ blanks_for b to m) }) same
    ∙ sym (ap (submitted_by b to deadline t) some.1)

-- the number of the bus after it
pub submitted-number : (b new : DiskState) (to : Route) (deadline : Option ℕ) (t : TransferData) → GoesBy t to → IsSubmitted (bus_of b.host) (bus_of new.host) to deadline t.held → (128 ≤ to.endpoint → (bus_of new.host).turns_left ≤ (bus_of b.host).turns_left)
    → new ≡ disk_submitted b to deadline t → 128 ≤ to.endpoint → (disk_bus_of new).turns_left ≤ (disk_bus_of b).turns_left
unfolding disk_submitted
submitted-number b new to deadline t goes is turns made high =
    subst (λ (s : BusState). s.turns_left ≤ (disk_bus_of b).turns_left) (sym (by (buffer_held t.held) made))
    (submitted-left b new.host to deadline t goes is high (turns high))
  where
    by : (o : Option BufferState) → new ≡ submitted_by b to deadline t o → disk_bus_of new ≡ disk_bus_of (with_host b new.host)
    by None same = subst (λ (x : DiskState). disk_bus_of x ≡ disk_bus_of (with_host b x.host)) (sym same) refl
    by (Some buffer) same = subst (λ (x : DiskState). disk_bus_of x ≡ disk_bus_of (with_host b x.host)) (sym same) refl

-- a fact of an `Ok` from three of them
pub on_ok_three : {T E P Q R V : Type 0} (r : Result T E) → (P → Q → R → V) → OnOk r P → OnOk r Q → OnOk r R → OnOk r V
on_ok_three (Ok x) all p q s = all p q s
on_ok_three (Err e) all p q s = tt
