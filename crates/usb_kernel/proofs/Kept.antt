-- What is true of every kernel stays so over an event that submits nothing, and where there is none.
use Rattle.std.proofs.Common.{◌≡◌, ℕ, ◌+◌, ◌-◌, ◌*◌, ◌<◌, ◌≤◌, arith, List, ◌∷◌, length, reverse, ap, subst, sym, ◌∙◌, refl, true, false, [], ◌++◌, Vec, Global, vec_len, vec_capacity, Fits, w64, ◌^◌}
use Rattle.std.specs.List.{All, sum_by}
use Rattle.std.specs.Prelude.{is_some}
use Rattle.std.proofs.lemmas.List.Elements.{All-push}
use Rattle.usb_kernel_devices.specs.Devices.{plugged_device}
use Rattle.usb_kernel_devices.specs.Errnos.{IsErrno}
use Rattle.usb_kernel_devices.specs.Refusals.{HasArmedErrno}
use Rattle.usb_kernel_devices.specs.declared.devices.DeviceState.{DeviceState}
use Rattle.usb_kernel_devices.specs.declared.step.Armed.{Armed}
use Rattle.usb_kernel_devices.specs.declared.refusals.Refusals.{Refusals}
use Rattle.usb_kernel.specs.declared.event.Event.TheVariants.{Unplug}
use Rattle.usb_kernel.specs.Steps.{after_unplug}
use Rattle.usb_kernel.specs.declared.event.Event.{Event}
use Rattle.usb_kernel.specs.declared.kernel.Kernel.TheInside.{Inside}
use Rattle.usb_kernel.specs.contracts.kernel.Kernel.{the_view}
use Rattle.usb_kernel.specs.Value.{KernelState}
use Rattle.usb_kernel.specs.Tickets.{tickets}
use Rattle.usb_kernel.specs.Legal.{IsLegal, IsLawful}
use Rattle.usb_kernel.specs.Acts.{acts, EachActs}
use Rattle.usb_kernel.specs.Deadlines.{KeepsDeadlines}
use Rattle.usb_kernel.specs.declared.slot.TicketRow.{TicketRow}
use Rattle.usb_kernel.proofs.Fresh.{length-rows}
use Rattle.usb_kernel.specs.Rows.{Agrees, owed}
use Rattle.usb_kernel.specs.KernelFacts.{GoneAreUnplugged, IsKept}

-- what a kernel is to its users, part by part
pub past_is : (k : Inside) {s : KernelState} → the_view k ≡ s → reverse k.journal.items ≡ s.past
past_is k is = ap (λ (x : KernelState). x.past) is

pub devices_is : (k : Inside) {s : KernelState} → the_view k ≡ s → k.devices.items ≡ s.devices
devices_is k is = ap (λ (x : KernelState). x.devices) is

pub clock_is : (k : Inside) {s : KernelState} → the_view k ≡ s → k.clock ≡ s.clock
clock_is k is = ap (λ (x : KernelState). x.clock) is

pub armed_is : (k : Inside) {s : KernelState} → the_view k ≡ s → k.armed.armed ≡ s.armed
armed_is k is = ap (λ (x : KernelState). x.armed) is

pub spare_is : (k : Inside) {s : KernelState} → the_view k ≡ s → k.spare ≡ s.spare
spare_is k is = ap (λ (x : KernelState). x.spare) is

-- a place that is used
pub has_spare : (k : Inside) {s : KernelState} → the_view k ≡ s → 1 ≤ s.spare → 1 ≤ k.spare
has_spare k is some = rw (spare_is k is) some

less_one : (n m : ℕ) → n ≡ m → 1 ≤ m → (n - 1) + 1 ≡ m
less_one n m same some = omega arith

pub spare-used : (k : Inside) {s : KernelState} → the_view k ≡ s → 1 ≤ s.spare → (k.spare - 1) + 1 ≡ s.spare
spare-used k {s} is some = less_one k.spare s.spare (spare_is k is) some

-- the rest stays
pub rest-spare : (k : Inside) {s : KernelState} (past : List Event) (spare : ℕ) → the_view k ≡ s → ◌≡◌ {A = KernelState} (record { past = past; devices = k.devices.items; clock = k.clock; armed = k.armed.armed; spare = spare }) (record s { past = past; spare = spare })
rest-spare k past spare is = rw (← is) refl

pub rest-past : (k : Inside) {s : KernelState} (past : List Event) → the_view k ≡ s → ◌≡◌ {A = KernelState} (record { past = past; devices = k.devices.items; clock = k.clock; armed = k.armed.armed; spare = k.spare }) (record s { past = past })
rest-past k past is = rw (← is) refl

pub rest-devices : (k : Inside) {s : KernelState} (past : List Event) (devices : List DeviceState) (spare : ℕ) → the_view k ≡ s → ◌≡◌ {A = KernelState} (record { past = past; devices = devices; clock = k.clock; armed = k.armed.armed; spare = spare }) (record s { past = past; devices = devices; spare = spare })
rest-devices k past devices spare is = rw (← is) refl

pub rest-armed : (k : Inside) {s : KernelState} (armed : List Armed) (spare : ℕ) → the_view k ≡ s → ◌≡◌ {A = KernelState} (record { past = reverse k.journal.items; devices = k.devices.items; clock = k.clock; armed = armed; spare = spare }) (record s { armed = armed; spare = spare })
rest-armed k armed spare is = rw (← is) refl

-- what the tickets may still need
pub owed-left : (k : Inside) (m n : ℕ) → IsKept k → m + n ≡ sum_by owed k.tickets.rows → n ≤ k.owed
owed-left k m n kept freed = omega (arith, kept.owes)

-- there is room for an event
pub has-room : (k : Inside) → IsKept k → 1 ≤ k.spare → vec_len k.journal < vec_capacity k.journal
has-room k kept some = omega (arith, kept.space)

pub has-room_owed : (k : Inside) → IsKept k → 1 ≤ k.owed → vec_len k.journal < vec_capacity k.journal
has-room_owed k kept some = omega (arith, kept.space)

-- an event came that submits nothing, used so many places and freed so many
pub kept-event : (k next : Inside) (event : Event) (freed : ℕ) → IsKept k → IsLawful (reverse next.journal.items) → EachActs (reverse next.journal.items) → GoneAreUnplugged (reverse next.journal.items) next.devices.items → Agrees (reverse next.journal.items) next.tickets.rows → KeepsDeadlines (reverse next.journal.items) next.deadlines.keys → reverse next.journal.items ≡ event ∷ reverse k.journal.items → tickets (event ∷ reverse k.journal.items) ≡ tickets (reverse k.journal.items) → sum_by owed next.tickets.rows + freed ≡ sum_by owed k.tickets.rows → next.owed ≡ k.owed - freed → vec_len next.journal ≡ vec_len k.journal + 1 → vec_capacity k.journal ≤ vec_capacity next.journal → next.spare + next.owed + 1 ≤ k.spare + k.owed → next.spare ≤ k.spare → next.armed ≡ k.armed → IsKept next
kept-event k next event freed kept lawful each gone agrees timed items same places owes len more used less armed =
    record {
      lawful = lawful;
      acts = each;
      gone = gone;
      agrees = agrees;
      timed = timed;
      owes = omega (arith, kept.owes);
      space = omega (arith, kept.space);
      four = rw (items, same) (omega (arith, kept.four));
      errnos = rw armed kept.errnos;
      places = rw armed (omega (arith, kept.places));
    }

-- no event came
pub kept-quiet : (k next : Inside) → IsKept k → next.journal ≡ k.journal → GoneAreUnplugged (reverse k.journal.items) next.devices.items → Agrees (reverse k.journal.items) next.tickets.rows → next.deadlines ≡ k.deadlines → sum_by owed next.tickets.rows + 0 ≡ sum_by owed k.tickets.rows → next.owed ≡ k.owed → next.spare ≤ k.spare → next.armed ≡ k.armed → IsKept next
kept-quiet k next kept journal gone agrees deadlines places owes less armed =
    record {
      lawful = rw journal kept.lawful;
      acts = rw journal kept.acts;
      gone = rw journal gone;
      agrees = rw journal agrees;
      timed = rw (journal, deadlines) kept.timed;
      owes = omega (arith, kept.owes);
      space = rw (journal, owes) (omega (arith, kept.space));
      four = rw journal kept.four;
      errnos = rw armed kept.errnos;
      places = rw armed (omega (arith, kept.places));
    }

-- the places that are left where one was used, and others were freed
pub used-one : (spare owed freed : ℕ) → 1 ≤ spare → freed ≤ owed → (spare - 1) + (owed - freed) + 1 ≤ spare + owed
used-one spare owed freed some few = omega arith

pub used-freed : (spare owed : ℕ) → 1 ≤ owed → spare + (owed - 1) + 1 ≤ spare + owed
used-freed spare owed some = omega arith

pub less-spare : (n : ℕ) → n - 1 ≤ n
less-spare n = omega arith

pub same-spare : (n : ℕ) → n ≤ n
same-spare n = omega arith

-- an unplug
pub after_unplug-some : (devices : List DeviceState) (past : List Event) (d : ℕ) → true ≡ is_some (plugged_device devices d) → after_unplug devices past d ≡ Unplug d ∷ past
after_unplug-some devices past d was = rw (sym was) refl

pub after_unplug-none : (devices : List DeviceState) (past : List Event) (d : ℕ) → false ≡ is_some (plugged_device devices d) → after_unplug devices past d ≡ past
after_unplug-none devices past d was = rw (sym was) refl

-- a refusal was armed
pub room-armed : (k : Inside) → IsKept k → 1 ≤ k.spare → 1 ≤ k.armed.room
room-armed k kept some = omega (arith, kept.places)

pub kept-armed : (k : Inside) (armed : Refusals) (refusal : Armed) → IsKept k → IsErrno refusal.errno → armed.armed ≡ k.armed.armed ++ refusal ∷ [] → k.armed.room ≤ armed.room + 1 → IsKept (record k { armed = armed; spare = k.spare - 1 })
kept-armed k armed refusal kept errno more room =
    record {
      lawful = kept.lawful;
      acts = kept.acts;
      gone = kept.gone;
      agrees = kept.agrees;
      timed = kept.timed;
      owes = kept.owes;
      space = omega (arith, kept.space);
      four = kept.four;
      errnos = rw more (All-push HasArmedErrno k.armed.armed refusal kept.errnos errno);
      places = omega (arith, kept.places);
    }

-- there is room for one more ticket
pub fits-places : (k : Inside) → IsKept k → Fits w64 (k.spare + k.owed)
fits-places k kept = omega (arith, kept.space)

pub fits-owed : (journal : Vec Event Global) (spare owed : ℕ) → vec_len journal + (spare + owed) + 3 ≤ vec_capacity journal → Fits w64 (owed + 2)
fits-owed journal spare owed room = omega (arith, room)

pub room-more : (journal : Vec Event Global) (places : ℕ) → vec_len journal + places + 3 ≤ vec_capacity journal → vec_len journal < vec_capacity journal
room-more journal places room = omega (arith, room)

pub number-small : (t : ℕ) (rows next : List TicketRow) → t ≡ length next → next ≡ rows → 4 * (length rows + 1) < 2 ^ 64 → 4 * t + 3 < 2 ^ 64
number-small t rows next is same small = omega (arith, ap length same)

pub kept-ready : (k next : Inside) → IsKept k → next.journal.items ≡ k.journal.items → vec_len next.journal ≡ vec_len k.journal → vec_capacity k.journal ≤ vec_capacity next.journal → next.devices ≡ k.devices → next.tickets.rows ≡ k.tickets.rows → next.deadlines.keys ≡ k.deadlines.keys → next.owed ≡ k.owed → next.spare ≡ k.spare → next.armed ≡ k.armed → IsKept next
kept-ready k next kept items len more devices rows keys owes spare armed =
    let past : reverse k.journal.items ≡ reverse next.journal.items = ap (λ (xs : List Event). reverse xs) (sym items) in
    record {
      lawful = subst IsLawful past kept.lawful;
      acts = subst EachActs past kept.acts;
      gone = rw devices (subst (λ p. GoneAreUnplugged p k.devices.items) past kept.gone);
      agrees = rw rows (subst (λ p. Agrees p k.tickets.rows) past kept.agrees);
      timed = rw keys (subst (λ p. KeepsDeadlines p k.deadlines.keys) past kept.timed);
      owes = rw (owes, rows) kept.owes;
      space = omega (arith, kept.space);
      four = subst (λ p. 4 * length (tickets p) ≤ vec_capacity next.journal) past (omega (arith, kept.four));
      errnos = rw armed kept.errnos;
      places = rw (spare, armed) kept.places;
    }

pub view-ready : (k : Inside) {s : KernelState} (items : List Event) → items ≡ k.journal.items → the_view k ≡ s → ◌≡◌ {A = KernelState} (record { past = reverse items; devices = k.devices.items; clock = k.clock; armed = k.armed.armed; spare = k.spare }) s
view-ready k items same is = rw same is

-- one more ticket came
pub kept-ticket : (k next : Inside) (ready : Vec Event Global) (event : Event) → IsKept k → IsLegal event → acts (reverse k.journal.items) event ≡ true → GoneAreUnplugged (event ∷ reverse k.journal.items) next.devices.items → Agrees (event ∷ reverse k.journal.items) next.tickets.rows → KeepsDeadlines (event ∷ reverse k.journal.items) next.deadlines.keys → reverse next.journal.items ≡ event ∷ reverse k.journal.items → length (tickets (event ∷ reverse k.journal.items)) ≡ length (tickets (reverse k.journal.items)) + 1 → next.owed ≡ sum_by owed next.tickets.rows → next.owed ≤ k.owed + 2 → next.spare ≡ k.spare → vec_len ready + (k.spare + k.owed) + 3 ≤ vec_capacity ready → 4 * (length k.tickets.rows + 1) ≤ vec_capacity ready → vec_len next.journal ≡ vec_len ready + 1 → vec_capacity ready ≤ vec_capacity next.journal → next.armed ≡ k.armed → IsKept next
kept-ticket k next ready event kept legal acted gone agrees timed items one owes few spare room four len more armed =
    record {
      lawful = rw items (legal, kept.lawful);
      acts = rw items (acted, kept.acts);
      gone = rw items gone;
      agrees = rw items agrees;
      timed = rw items timed;
      owes = owes;
      space = omega (arith, room);
      four = rw items (omega (arith, four, one, length-rows (reverse k.journal.items) k.tickets.rows kept.agrees));
      errnos = rw armed kept.errnos;
      places = rw (spare, armed) kept.places;
    }

pub owes-two : (n : ℕ) (before between after : List TicketRow) → n ≡ sum_by owed before → between ≡ before → sum_by owed after ≡ sum_by owed between + 2 → n + 2 ≡ sum_by owed after
owes-two n before between after is same two = omega (arith, ap (sum_by owed) same)

-- a number is that of the tickets so far
pub next-number : (past : List Event) (rows next : List TicketRow) (n : ℕ) → Agrees past rows → n ≡ length next → next ≡ rows → n ≡ length (tickets past)
next-number past rows next n agrees is same = is ∙ (ap length same ∙ length-rows past rows agrees)

pub less-two : (n : ℕ) → n ≤ n + 2
less-two n = omega arith

-- an armed refusal was used up
pub kept-disarmed : (k : Inside) (armed : Refusals) → IsKept k → All HasArmedErrno armed.armed → armed.room ≡ k.armed.room → IsKept (record k { armed = armed })
kept-disarmed k armed kept errnos room =
    record {
      lawful = kept.lawful;
      acts = kept.acts;
      gone = kept.gone;
      agrees = kept.agrees;
      timed = kept.timed;
      owes = kept.owes;
      space = kept.space;
      four = kept.four;
      errnos = errnos;
      places = omega (arith, kept.places);
    }

-- there is room for the event that a place is owed for
pub room-one : (journal : Vec Event Global) (left total : ℕ) → left + 1 ≡ total → vec_len journal + total ≤ vec_capacity journal → vec_len journal < vec_capacity journal
room-one journal left total one room = omega arith

-- what is kept of devices is another
pub kept-devices : (k : Inside) (devices : Vec DeviceState Global) → IsKept k → GoneAreUnplugged (reverse k.journal.items) devices.items → IsKept (record k { devices = devices })
kept-devices k devices kept gone =
    record {
      lawful = kept.lawful;
      acts = kept.acts;
      gone = gone;
      agrees = kept.agrees;
      timed = kept.timed;
      owes = kept.owes;
      space = kept.space;
      four = kept.four;
      errnos = kept.errnos;
      places = kept.places;
    }
