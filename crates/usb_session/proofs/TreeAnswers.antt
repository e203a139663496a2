-- Answers of lines on the tree of attributes and on packets of udev.
use Rattle.std.proofs.Common.{◌≡◌, ℕ, true, false, Bool, List, drop, Result, Ok, Err, refl, ap, sym, subst}
use Rattle.std.specs.Prelude.{String, string_bytes}
use Rattle.std.specs.declared.alloc.Global.{Global}
use Rattle.futures.specs.declared.task.Poll.{Poll}
use Rattle.usb_error.specs.ErrorState.{ErrorState}
use Rattle.usb_enum_sysfs.specs.declared.sysfs.SysfsError.{SysfsError}
use Rattle.usb_enum.specs.Buses.{BusFacts, buses}
use Rattle.usb_enum.specs.Devices.{DeviceFacts}
use Rattle.usb_enum.specs.Hotplug.{hotplug_polled}
use Rattle.usb_enum.specs.Listing.{devices}
use Rattle.usb_enum.specs.Probing.{probe}
use Rattle.usb_enum.specs.declared.hotplug.HotplugEvent.{HotplugEvent}
use Rattle.usb_enum.specs.declared.hotplug.UdevPacket.{UdevPacket}
use Rattle.usb_script_words.specs.declared.selector.Criterion.{Criterion}
use Rattle.usb_session_tree.specs.Selecting.{matched}
use Rattle.usb_session_text.specs.Calls.{condition_line, error_line}
use Rattle.usb_session_tree.specs.Attributes.{match_line, sysfs_line}
use Rattle.usb_session_tree.specs.Buses.{buses_line}
use Rattle.usb_session_tree.specs.Devices.{info_line}
use Rattle.usb_session_tree.specs.Events.{hotplug_line}
use Rattle.usb_session_tree.specs.Listings.{devices_line}
use Rattle.usb_session_calls.specs.Names.{is_free}
use Rattle.usb_session_calls.specs.State.{State}
use Rattle.usb_session_calls.specs.Answer.{Answer}
use Rattle.usb_session_calls.specs.Answered.{Answered, Answers}
use Rattle.usb_session_calls.specs.SessionState.{SessionState, IsSound}
use Rattle.usb_session_calls.specs.Relation.{Represents}
use Rattle.usb_session.specs.Listings.{list_answer, buses_answer}
use Rattle.usb_session.specs.Probes.{probe_answer, match_answer}
use Rattle.usb_session.specs.Hotplugs.{hotplug_answer}
use Rattle.usb_session.specs.Opens.{open_answer, open_path_answer}
use Rattle.usb_session_calls.proofs.Answering.{Gives, barred-gives}

pub list-gives : (s : SessionState) (state : State) (found : List DeviceFacts) → devices s.tree ≡ Ok found → Represents s state → Gives s (devices_line found) (list_answer state)
unfolding list_answer
list-gives s state found is r = rw (rw r at is) (record { state = r; same = refl })

pub list-refused : (s : SessionState) (state : State) (error : ErrorState) → devices s.tree ≡ Err error → Represents s state → Gives s (error_line error) (list_answer state)
unfolding list_answer
list-refused s state error is r = rw (rw r at is) (record { state = r; same = refl })

pub buses-gives : (s : SessionState) (state : State) (found : List BusFacts) → buses s.tree ≡ Ok found → Represents s state → Gives s (buses_line found) (buses_answer state)
unfolding buses_answer
buses-gives s state found is r = rw (rw r at is) (record { state = r; same = refl })

pub buses-refused : (s : SessionState) (state : State) (error : ErrorState) → buses s.tree ≡ Err error → Represents s state → Gives s (error_line error) (buses_answer state)
unfolding buses_answer
buses-refused s state error is r = rw (rw r at is) (record { state = r; same = refl })

pub probe-gives : (s : SessionState) (state : State) (path : List ℕ) (device : DeviceFacts) → probe s.tree path ≡ Ok device → Represents s state → Gives s (info_line device) (probe_answer state path)
unfolding probe_answer
probe-gives s state path device is r = rw (rw r at is) (record { state = r; same = refl })

pub probe-refused : (s : SessionState) (state : State) (path : List ℕ) (error : SysfsError) → probe s.tree path ≡ Err error → Represents s state → Gives s (sysfs_line error) (probe_answer state path)
unfolding probe_answer
probe-refused s state path error is r = rw (rw r at is) (record { state = r; same = refl })

pub match-gives : (s : SessionState) (state : State) (path : List ℕ) (selector : List Criterion) (is_match : Bool) → matched s.tree path selector ≡ Ok is_match → Represents s state → Gives s (match_line is_match) (match_answer state path selector)
unfolding match_answer
match-gives s state path selector is_match is r = rw (rw r at is) (record { state = r; same = refl })

pub match-refused : (s : SessionState) (state : State) (path : List ℕ) (selector : List Criterion) (error : SysfsError) → matched s.tree path selector ≡ Err error → Represents s state → Gives s (sysfs_line error) (match_answer state path selector)
unfolding match_answer
match-refused s state path selector error is r = rw (rw r at is) (record { state = r; same = refl })

-- one packet is looked at
pub hotplug-gives : (s : SessionState) (state : State) (after : List UdevPacket) (event : Poll HotplugEvent) → event ≡ hotplug_polled s.tree s.packets → after ≡ drop 1 s.packets → Represents s state → Gives (record s { packets = after }) (hotplug_line event) (hotplug_answer state)
unfolding hotplug_answer
hotplug-gives s state after event answer_with left r =
    record {
      state = rw (left, r) refl;
      same = ap hotplug_line (sym (rw r at answer_with));
    }

pub sound-packets : (s : SessionState) (after : List UdevPacket) → IsSound s → IsSound (record s { packets = after })
sound-packets s after sound =
    record {
      idle = sound.idle;
      device_names = sound.device_names;
      interface_names = sound.interface_names;
      endpoint_names = sound.endpoint_names;
      reader_names = sound.reader_names;
      writer_names = sound.writer_names;
      client_names = sound.client_names;
      devices_stand = sound.devices_stand;
      devices_counted = sound.devices_counted;
      devices_held = sound.devices_held;
      interfaces_stand = sound.interfaces_stand;
      interfaces_counted = sound.interfaces_counted;
      endpoints_stand = sound.endpoints_stand;
      endpoints_small = sound.endpoints_small;
      endpoints_differ = sound.endpoints_differ;
      keys_named = sound.keys_named;
      future_names = sound.future_names;
      futures_wait = sound.futures_wait;
      futures_stand = sound.futures_stand;
      futures_differ = sound.futures_differ;
      futures_apart = sound.futures_apart;
      tickets_named = sound.tickets_named;
      tickets_counted = sound.tickets_counted;
      claims_owned = sound.claims_owned;
    }

-- the device of a folder is opened as one is at its bus and its address
opens_found : (state : State) (d : ℕ) (path : List ℕ) (device : DeviceFacts) → is_free state.devices d ≡ true → probe state.tree path ≡ Ok device → open_answer state d device.numbers.busnum device.numbers.address ≡ open_path_answer state d path
unfolding open_answer open_path_answer
opens_found state d path device free found = rw (free, found) refl

pub answers-found : {E : Type 0} (S now : SessionState) (before after : String Global) (r : Result Unit E) (d : ℕ) (path : List ℕ) (device : DeviceFacts) → is_free S.devices d ≡ true → probe S.tree path ≡ Ok device → Answers S now before after r (λ state. open_answer state d device.numbers.busnum device.numbers.address) → Answers S now before after r (λ state. open_path_answer state d path)
answers-found S now before after (Ok done) d path device free found answers =
    λ state r.
    subst (λ (a : Answer). Answered now (string_bytes before) (string_bytes after) a) (opens_found state d path device (rw r at free) (rw r at found)) (answers state r)
answers-found S now before after (Err error) d path device free found answers = tt

pub open_path-refused : (s : SessionState) (state : State) (d : ℕ) (path : List ℕ) (error : SysfsError) → is_free s.devices d ≡ true → probe s.tree path ≡ Err error → Represents s state → Gives s (sysfs_line error) (open_path_answer state d path)
unfolding open_path_answer
open_path-refused s state d path error free is r =
    rw (rw r at free, rw r at is) (record { state = r; same = refl })

pub open_path-barred : (s : SessionState) (state : State) (d : ℕ) (path : List ℕ) → is_free s.devices d ≡ false → Represents s state → Gives s condition_line (open_path_answer state d path)
unfolding open_path_answer
open_path-barred s state d path used r = rw (rw r at used) (barred-gives s state r)
