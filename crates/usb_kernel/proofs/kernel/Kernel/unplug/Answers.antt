use Rattle.std.proofs.Common.{arith, refl, sym, ap, ◌∙◌, reverse}
use Rattle.std.specs.List.{sum_by}
use Rattle.usb_kernel_devices.specs.Devices.{devices_unplugged}
use Rattle.usb_kernel.specs.declared.event.Event.TheVariants.{Unplug}
use Rattle.usb_kernel.specs.Rows.{Agrees, owed}
use Rattle.usb_kernel.specs.Steps.{after_unplug}
use Rattle.usb_kernel.specs.Value.{KernelState}
use Rattle.usb_kernel.proofs.Freed.{no_more}
use Rattle.usb_kernel.proofs.Lowest.{unreaped_count}
use Rattle.usb_kernel.proofs.Gone.{gone-unplug, gone-still}
use Rattle.usb_kernel.proofs.Acts.{unplug-acts}
use Rattle.usb_kernel.proofs.Kept.{past_is, has_spare, devices_is, spare-used, rest-devices, owed-left, has-room, kept-event, kept-quiet, used-one, less-spare, after_unplug-some, after_unplug-none}
use Rattle.usb_kernel.proofs.kernel.Kernel.unplug.Goals as goal

pub overflow_sub-self : goal.overflow_sub-self
overflow_sub-self g c = has_spare c.self.inside c.self.view_is c.requires.spare

pub unplug_tickets-requires : goal.unplug_tickets-requires
unplug_tickets-requires g c = record { roomy = c.self.invariant.agrees.roomy }

pub overflow_sub-self-then-unplug_device : goal.overflow_sub-self-then-unplug_device
overflow_sub-self-then-unplug_device g c = owed-left c.self.inside _ c.unplug_tickets.result c.self.invariant c.unplug_tickets.ensures.places

pub put-requires : goal.put-requires
put-requires g c = record { room = has-room c.self.inside c.self.invariant (has_spare c.self.inside c.self.view_is c.requires.spare) }

pub invariant_of-self : goal.invariant_of-self
invariant_of-self g c =
    let past = reverse c.self.inside.journal.items in
    let agrees : Agrees (reverse c.put.new.journal.items) c.unplug_tickets.new.self.rows = rw c.put.ensures.items (c.unplug_tickets.ensures.agrees past c.self.invariant.agrees) in
    let few = owed-left c.self.inside _ c.unplug_tickets.result c.self.invariant c.unplug_tickets.ensures.places in
    kept-event c.self.inside _ (Unplug c.args.device) c.unplug_tickets.result c.self.invariant (c.put.ensures.lawful tt c.self.invariant.lawful) (c.put.ensures.acts (unplug-acts past c.self.inside.devices.items c.args.device c.self.invariant.gone (sym c.if-unplug_device.ensures.was)) c.self.invariant.acts) (rw (c.put.ensures.items, c.if-unplug_device.ensures.devices) (gone-unplug past c.self.inside.devices.items c.args.device c.self.invariant.gone)) agrees (c.put.ensures.timed c.self.inside.deadlines.keys refl c.self.invariant.timed) c.put.ensures.items refl c.unplug_tickets.ensures.places refl c.put.ensures.len c.put.ensures.capacity (used-one c.self.inside.spare c.self.inside.owed c.unplug_tickets.result (has_spare c.self.inside c.self.view_is c.requires.spare) few) (less-spare c.self.inside.spare) refl

pub invariant_of-self-else-unplug_device : goal.invariant_of-self-else-unplug_device
invariant_of-self-else-unplug_device g c = kept-quiet c.self.inside _ c.self.invariant refl (rw c.if-unplug_device.ensures.devices (gone-still (reverse c.self.inside.journal.items) c.self.inside.devices.items c.args.device c.self.invariant.gone)) c.self.invariant.agrees refl (no_more (sum_by owed c.self.inside.tickets.rows)) refl (less-spare c.self.inside.spare) refl

pub returns-then-unplug_device : goal.returns-then-unplug_device
returns-then-unplug_device g c = record {
  past = c.put.ensures.items ∙ (sym (after_unplug-some c.self.inside.devices.items (reverse c.self.inside.journal.items) c.args.device c.if-unplug_device.ensures.was) ∙ ap (λ (k : KernelState). after_unplug k.devices k.past c.args.device) c.self.view_is);
  devices = c.if-unplug_device.ensures.devices ∙ ap (λ ds. devices_unplugged ds c.args.device) (devices_is c.self.inside c.self.view_is);
  spare = spare-used c.self.inside c.self.view_is c.requires.spare;
  rest = rest-devices c.self.inside _ _ _ c.self.view_is;
  looks = rw (← past_is c.self.inside c.self.view_is) (omega (arith, c.unplug_tickets.ensures.looks, unreaped_count (reverse c.self.inside.journal.items) c.self.inside.tickets.rows c.self.invariant.agrees));
}

pub returns-else-unplug_device : goal.returns-else-unplug_device
returns-else-unplug_device g c = record {
  past = sym (after_unplug-none c.self.inside.devices.items (reverse c.self.inside.journal.items) c.args.device c.if-unplug_device.ensures.was) ∙ ap (λ (k : KernelState). after_unplug k.devices k.past c.args.device) c.self.view_is;
  devices = c.if-unplug_device.ensures.devices ∙ ap (λ ds. devices_unplugged ds c.args.device) (devices_is c.self.inside c.self.view_is);
  spare = spare-used c.self.inside c.self.view_is c.requires.spare;
  rest = rest-devices c.self.inside _ _ _ c.self.view_is;
  looks = omega arith;
}
