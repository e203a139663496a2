-- Scripts that declare the same start alike, but for the places.
use Rattle.std.proofs.Common.{List, None, Option, Some, [], ap, append-nil, false, filter_map, fold, map, refl, replicate, sym, true, true≢false, ℕ, ◌++◌, ◌∙◌, ◌∷◌, ◌≡◌}
use Rattle.std.proofs.lemmas.List.Elements.{filter_map-append}
use Rattle.std.proofs.lemmas.List.Sums.{fold-append}
use Rattle.std.specs.List.{cons_option}
use Rattle.usb_device_host.specs.HostState.{host_of}
use Rattle.usb_enum.specs.declared.hotplug.UdevPacket.{UdevPacket}
use Rattle.usb_enum_sysfs.specs.Tree.{Tree}
use Rattle.usb_kernel_devices.specs.Devices.{fresh_device}
use Rattle.usb_kernel_devices.specs.declared.devices.SimDevice.{SimDevice}
use Rattle.usb_script_lines.specs.ItemKinds.{is_setup}
use Rattle.usb_script_lines.specs.declared.item.Item.{Item}
use Rattle.usb_session.specs.Answers.{answer}
use Rattle.usb_session.specs.CallAnswers.{call_answer}
use Rattle.usb_session.specs.Output.{device_of_item, devices_of, driver_of_item, start, with_device}
use Rattle.usb_session_beginnings.proofs.States.{bare_state}
use Rattle.usb_session_beginnings.specs.Beginnings.{DeclareNothing}
use Rattle.usb_session_calls.specs.Answer.{silent}
use Rattle.usb_session_calls.specs.Calls.{call_of}
use Rattle.usb_session_calls.specs.State.{State}
use Rattle.usb_session_tree.specs.Packets.{packet_of, packets_of}
use Rattle.usb_session_tree.specs.Trees.{tree_of, with_item}
use Rattle.usb_script_lines.specs.declared.item.Item.TheVariants as lines
use Rattle.usb_enum_sysfs.specs.Tree.{bare as no_tree}

-- items that declare nothing give no device, driver, packet or attribute
driver-none : (k : ℕ) (item : Item) → is_setup item ≡ false → driver_of_item k item ≡ None
driver-none k (lines.Driver j number) is = absurd (true≢false is)
driver-none k item is = refl

device-none : (item : Item) (rest : List Item) → is_setup item ≡ false → device_of_item item rest ≡ None
device-none (lines.Device k bus address speed configuration descriptors) rest is = absurd (true≢false is)
device-none item rest is = refl

packet-none : (item : Item) → is_setup item ≡ false → packet_of item ≡ None
packet-none (lines.Uevent groups bytes) is = absurd (true≢false is)
packet-none item is = refl

item-none : (t : Tree) (item : Item) → is_setup item ≡ false → with_item t item ≡ t
item-none t (lines.Attribute path name value) is = absurd (true≢false is)
item-none t (lines.Denied path name errno) is = absurd (true≢false is)
item-none t (lines.Child path name) is = absurd (true≢false is)
item-none t (lines.Link path name target) is = absurd (true≢false is)
item-none t (lines.Entry name path) is = absurd (true≢false is)
item-none t (lines.Root errno) is = absurd (true≢false is)
item-none t item is = refl

-- and so several of them
gives-none : {A : Type 0} (f : Item → Option A) → ((item : Item) → is_setup item ≡ false → f item ≡ None) → (items : List Item) → DeclareNothing items
    → filter_map f items ≡ []
gives-none f none [] nothing = refl
gives-none f none (item ∷ items) nothing = ap (λ o. cons_option o (filter_map f items)) (none item nothing.0) ∙ gives-none f none items nothing.1

gives-alike : {A : Type 0} (f : Item → Option A) → ((item : Item) → is_setup item ≡ false → f item ≡ None) → (before after : List Item)
    → DeclareNothing after → filter_map f (before ++ after) ≡ filter_map f before
gives-alike f none before after nothing =
    filter_map-append f before after ∙ (ap (λ more. filter_map f before ++ more) (gives-none f none after nothing) ∙ append-nil (filter_map f before))

no-devices : (items : List Item) → DeclareNothing items → devices_of items ≡ []
no-devices [] nothing = refl
no-devices (item ∷ items) nothing = ap (λ o. with_device o (devices_of items)) (device-none item items nothing.0) ∙ no-devices items nothing.1

device-alike : (item : Item) (before after : List Item) → DeclareNothing after → device_of_item item (before ++ after) ≡ device_of_item item before
device-alike (lines.Device k bus address speed configuration descriptors) before after nothing =
    ap (λ drivers. let o : Option (ℕ × SimDevice) = Some
    (k, record { bus = bus; address = address; speed = speed; config = configuration; bytes = descriptors; drivers = drivers }) in o)
    (gives-alike (driver_of_item k) (driver-none k) before after nothing)
device-alike item before after nothing = refl

devices-alike : (before after : List Item) → DeclareNothing after → devices_of (before ++ after) ≡ devices_of before
devices-alike [] after nothing = no-devices after nothing
devices-alike (item ∷ before) after nothing =
    ap (λ o. with_device o (devices_of (before ++ after))) (device-alike item before after nothing)
    ∙ ap (with_device (device_of_item item before)) (devices-alike before after nothing)

tree-kept : (items : List Item) (t : Tree) → DeclareNothing items → fold with_item t items ≡ t
tree-kept [] t nothing = refl
tree-kept (item ∷ items) t nothing = ap (λ u. fold with_item u items) (item-none t item nothing.0) ∙ tree-kept items t nothing.1

tree-alike : (before after : List Item) → DeclareNothing after → tree_of (before ++ after) ≡ tree_of before
unfolding tree_of
tree-alike before after nothing = fold-append with_item no_tree before after ∙ tree-kept after (fold with_item no_tree before) nothing

packets-alike : (before after : List Item) → DeclareNothing after → packets_of (before ++ after) ≡ packets_of before
unfolding packets_of
packets-alike before after nothing = gives-alike packet_of packet-none before after nothing

-- a session to begin with
abbrev started : List (ℕ × SimDevice) → Tree → List UdevPacket → State
started devices tree packets =
    record {
      host = host_of (record { past = []; devices = map fresh_device devices; clock = 0; armed = []; spare = 0 });
      devices = replicate 64 None;
      interfaces = replicate 64 None;
      endpoints = replicate 64 None;
      readers = replicate 64 None;
      writers = replicate 64 None;
      clients = replicate 64 None;
      futures = replicate 64 None;
      tree = tree;
      packets = packets;
    }

pub starts-alike : (before after : List Item) → DeclareNothing after → bare_state (start (before ++ after)) ≡ bare_state (start before)
unfolding start
starts-alike before after nothing =
    ap (λ devices. started devices (tree_of (before ++ after)) (packets_of (before ++ after))) (devices-alike before after nothing)
    ∙ (ap (λ tree. started (devices_of before) tree (packets_of (before ++ after))) (tree-alike before after nothing)
    ∙ ap (started (devices_of before) (tree_of before)) (packets-alike before after nothing))

-- setup lines have no answer
pub setup-silent : (item : Item) (s : State) → is_setup item ≡ true → answer s item ≡ silent s
unfolding answer call_answer call_of
setup-silent (lines.Device k bus address speed configuration descriptors) s is = refl
setup-silent (lines.Driver j number) s is = refl
setup-silent (lines.Attribute path name value) s is = refl
setup-silent (lines.Denied path name errno) s is = refl
setup-silent (lines.Child path name) s is = refl
setup-silent (lines.Link path name target) s is = refl
setup-silent (lines.Entry name path) s is = refl
setup-silent (lines.Root errno) s is = refl
setup-silent (lines.Uevent groups bytes) s is = refl
setup-silent item s is = absurd (true≢false (sym is))
