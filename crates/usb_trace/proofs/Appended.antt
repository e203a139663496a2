-- Events that are done again as steps.
use Rattle.std.proofs.Common.{◌≡◌, ℕ, ◌<◌, ltb, Bool, true, false, not, List, [], ◌∷◌, length, is_some, if◌then◌else◌, refl, sym, ap, ◌∙◌, arith}
use Rattle.std.proofs.lemmas.Bool.Decides.{nat_tests}
use Rattle.usb_kernel.specs.declared.event.Event.{Event}
use Rattle.usb_kernel.specs.declared.event.Event.TheVariants.{Submit, Refuse, Packet, Ack, Echo, Fail, Discard, Reap, Unplug}
use Rattle.usb_kernel.specs.Steps.{stepped, devices_stepped, armed_stepped}
use Rattle.usb_kernel.specs.Value.{KernelState}
use Rattle.usb_kernel_devices.specs.declared.step.KernelStep.{KernelStep}
use Rattle.usb_kernel_devices.specs.Devices.{plugged_device}
use Rattle.usb_kernel.specs.Acts.{acts, is_gone}
use Rattle.usb_trace.specs.Replays.{IsReplaying, CanBeDone, is_below, step_for}
use Rattle.usb_kernel.proofs.Gone.{plugged-unplugged}

-- a step appends its event where that acts
pub stepped-acts : (k : KernelState) (event : Event) → IsReplaying k → CanBeDone event → is_below event ≡ true → stepped k.devices k.clock k.past (step_for event) ≡ (if acts k.past event then event ∷ k.past else k.past)
stepped-acts k (Submit t d e m body room deadline) r done below = absurd (let h = below in cc)
stepped-acts k (Refuse t d e m body room errno) r done below = absurd (let h = below in cc)
stepped-acts k (Packet d e bytes) r done below = refl
stepped-acts k (Ack d e) r done below = refl
stepped-acts k (Echo d o i) r done below = refl
stepped-acts k (Fail d e errno) r done below = refl
stepped-acts k (Discard t) r done below = absurd (let h = below in cc)
stepped-acts k (Reap t) r done below = refl
stepped-acts k (Unplug d) r done below = let plugged = r.plugged d done in rw plugged refl

-- whether a list grew by one
pub grew : (b : Bool) (event : Event) (old new : List Event) → new ≡ (if b then event ∷ old else old) → ltb (length old) (length new) ≡ b
grew true event old new is = rw is (grind (arith, nat_tests))
grew false event old new is = rw is (grind (arith, nat_tests))

appended : (b : Bool) (event : Event) (old new : List Event) → new ≡ (if b then event ∷ old else old) → b ≡ true → new ≡ event ∷ old
appended b event old new is true_is = rw true_is at is

-- the devices are as the longer journal says
plugged-on : (k new : KernelState) (event : Event) → IsReplaying k → CanBeDone event → new.devices ≡ devices_stepped k.devices (step_for event) → new.past ≡ event ∷ k.past → (d : ℕ) → d < 256 → is_some (plugged_device new.devices d) ≡ not (is_gone new.past d)
plugged-on k new (Submit t d e m body room deadline) r done devices past u small = rw (devices, past) (r.plugged u small)
plugged-on k new (Refuse t d e m body room errno) r done devices past u small = rw (devices, past) (r.plugged u small)
plugged-on k new (Packet d e bytes) r done devices past u small = rw (devices, past) (r.plugged u small)
plugged-on k new (Ack d e) r done devices past u small = rw (devices, past) (r.plugged u small)
plugged-on k new (Echo d o i) r done devices past u small = rw (devices, past) (r.plugged u small)
plugged-on k new (Fail d e errno) r done devices past u small = rw (devices, past) (r.plugged u small)
plugged-on k new (Discard t) r done devices past u small = rw (devices, past) (r.plugged u small)
plugged-on k new (Reap t) r done devices past u small = rw (devices, past) (r.plugged u small)
plugged-on k new (Unplug d) r done devices past u small =
    let plugged = r.plugged u small in
    rw (devices, past, plugged-unplugged k.devices d u, plugged) (grind arith)

armed-on : (k new : KernelState) (event : Event) → IsReplaying k → new.armed ≡ armed_stepped k.armed (step_for event) → new.armed ≡ []
armed-on k new (Submit t d e m body room deadline) r armed = armed ∙ r.unarmed
armed-on k new (Refuse t d e m body room errno) r armed = armed ∙ r.unarmed
armed-on k new (Packet d e bytes) r armed = armed ∙ r.unarmed
armed-on k new (Ack d e) r armed = armed ∙ r.unarmed
armed-on k new (Echo d o i) r armed = armed ∙ r.unarmed
armed-on k new (Fail d e errno) r armed = armed ∙ r.unarmed
armed-on k new (Discard t) r armed = armed ∙ r.unarmed
armed-on k new (Reap t) r armed = armed ∙ r.unarmed
armed-on k new (Unplug d) r armed = armed ∙ r.unarmed

replaying-on : (k new : KernelState) (event : Event) → IsReplaying k → CanBeDone event → new.devices ≡ devices_stepped k.devices (step_for event) → new.armed ≡ armed_stepped k.armed (step_for event) → new.past ≡ event ∷ k.past → IsReplaying new
replaying-on k new event r done devices armed past = record {
  plugged = plugged-on k new event r done devices past;
  unarmed = armed-on k new event r armed;
}

-- a step that acted leaves a kernel that goes on so
pub replaying-step : (k new : KernelState) (event : Event) (s : KernelStep) (went : Bool) → IsReplaying k → CanBeDone event → is_below event ≡ true → s ≡ step_for event → new.past ≡ stepped k.devices k.clock k.past s → new.devices ≡ devices_stepped k.devices s → new.armed ≡ armed_stepped k.armed s → went ≡ ltb (length k.past) (length new.past) → went ≡ true → IsReplaying new
replaying-step k new event s went r done below same past devices armed longer is =
    let whole : new.past ≡ (if acts k.past event then event ∷ k.past else k.past) = past ∙ ap (stepped k.devices k.clock k.past) same ∙ stepped-acts k event r done below in
    let acted : acts k.past event ≡ true = sym (grew (acts k.past event) event k.past new.past whole) ∙ sym longer ∙ is in
    replaying-on k new event r done (devices ∙ ap (devices_stepped k.devices) same) (armed ∙ ap (armed_stepped k.armed) same) (appended (acts k.past event) event k.past new.past whole acted)
