-- How a bus with a disk is while a stage of a command goes on, and what its ticket, once finished,
-- makes of its turns.
use Rattle.std.proofs.Common.{◌≡◌, ℕ, ◌-◌, ◌<◌, ◌≤◌, List, [], ◌∷◌, length, Option, Some, None, Bool, true, false, cond, refl, sym, ap, ◌∙◌, arith, subst, inl, inr, slice_get}
use Rattle.std.specs.Prelude.{is_some, IsSome, nat_lt, nat_le, option_and_then, ◌&&◌}
use Rattle.std.specs.Option.{option_map}
use Rattle.std.proofs.lemmas.Bool.{cases_Bool, cases_eq, ne_eqb, false≢true}
use Rattle.std.proofs.lemmas.Bool.Decides.{nat_tests}
use Rattle.std.proofs.lemmas.Option.{slice_get_within}
use Rattle.usb_kernel.specs.declared.event.Event.{Event}
use Rattle.usb_kernel.specs.declared.event.Event.TheVariants.{Reap}
use Rattle.usb_kernel.specs.Tickets.{Ticket, tickets}
use Rattle.usb_kernel.specs.Fates.{Fate}
use Rattle.usb_kernel.specs.Journal.{open_tickets}
use Rattle.usb_kernel.specs.Steps.{after_reap}
use Rattle.usb_kernel.specs.Completions.{done_of, waiting, lowest}
use Rattle.usb_kernel.specs.TransferCompletions.{completion_of, transfer_completion}
use Rattle.usb_kernel.specs.Fronts.{front_packet, front_maximum}
use Rattle.usb_kernel.proofs.OpenLists.{open-reap}
use Rattle.usb_kernel.proofs.Waiting.{lowest-reapable, waiting-one_less}
use Rattle.usb_device_endpoint.specs.BusState.{BusState}
use Rattle.usb_device_endpoint.specs.Waits.{time_is_up, is_reaped}
use Rattle.usb_device_host.specs.HostState.{HostState}
use Rattle.usb_device_host.specs.HostTurns.{host_reaped}
use Rattle.usb_device_host.proofs.BusLemmas.{bus_of-reaped}
use Rattle.usb_device_host.proofs.HostFrames.{uses-reaped}
use Rattle.usb_device_host.proofs.TurnLemmas.{reaped-clock, turn-nil, turned-nil}
use Rattle.usb_bot.specs.Clients.{ClientState}
use Rattle.usb_bot.specs.Commands.{longest}
use Rattle.usb_bot_disk.specs.Machine.{Machine, listens, next_packet}
use Rattle.usb_bot_disk.specs.Standing.{packets_standing}
use Rattle.usb_bot_disk.specs.DiskState.{DiskState}
use Rattle.usb_bot_disk.specs.DiskTurns.{Takes, Sends, some_if, fits_blank, next_taken, next_sent, with_room, action_of, turned_by, disk_turned, turn_by, disk_turn}
use Rattle.usb_bot_disk.specs.DiskCalls.{with_host, disk_calls}
use Rattle.usb_bot_disk.proofs.QuietLemmas.{quiet-event}
use Rattle.usb_bot_disk.proofs.DiskBusLemmas.{standing-le}
use Rattle.usb_bot_law.specs.Serving.{IsOver}
use Rattle.usb_bot_law.proofs.ServedLemmas.{IsServed, served-reap_other, served-reap, served-waits}
use Rattle.usb_bot_law.proofs.ReadyHosts.{refusal_at, reaped-same}
use Rattle.usb_bot_law.proofs.PhaseLemmas.{HasMoved, not-come, has-come}

-- what stays so while a stage of a client goes on
pub record Holds (k : ClientState) (clock : ℕ) (b : DiskState) : Type 0 where
  pub over : IsOver b.device b.out b.inp k
  pub no_steps : b.host.steps ≡ []
  pub clock_is : b.host.kernel.clock ≡ clock
  pub accepts : refusal_at b.host.kernel b.device ≡ None

-- a stage is over but for the reap of its ticket: all its bytes went over, and the disk is so
pub record AtEnd (t : ℕ) (s : Ticket) (bytes : List ℕ) (end : Machine) (b : DiskState) : Type 0 where
  pub e : ℕ
  pub f : Fate
  pub served : IsServed b.host.kernel.past b.device e t s f
  pub status : f.status ≡ Some 0
  pub moved : HasMoved s f bytes
  pub out_idle : open_tickets b.host.kernel.past b.device b.out ≡ []
  pub in_idle : open_tickets b.host.kernel.past b.device b.inp ≡ []
  pub machine : b.machine ≡ end

-- the time is never over
pub never-late : (clock start : ℕ) → clock ≡ start → nat_le longest (clock - start) ≡ false
never-late clock start same = grind (arith, nat_tests)

pub the-some : {X : Type 0} (o : Option X) → IsSome o → (x : X) × (o ≡ Some x)
the-some None some = absurd (false≢true some)
the-some (Some x) some = (x, refl)

both-none : {X : Type 0} (v : Bool) (a b : Option X) → a ≡ None → b ≡ None → cond v a b ≡ None
both-none true a b none other = none
both-none false a b none other = other

-- with no open ticket the disk does nothing
front-none : (past : List Event) (d e : ℕ) → open_tickets past d e ≡ [] → front_maximum past d e ≡ None
front-none past d e none =
    ap (λ (ts : List ℕ). option_and_then (λ t. option_map (λ (s : Ticket). s.maximum) (slice_get (tickets past) t)) (slice_get ts 0)) none

pub action-none : (b : DiskState) → open_tickets b.host.kernel.past b.device b.out ≡ [] → open_tickets b.host.kernel.past b.device b.inp ≡ [] → action_of b ≡ None
action-none b out_idle in_idle =
    let taken : next_taken b ≡ None =
    ap (option_and_then (λ m. option_and_then (λ p. some_if (nat_lt 0 m) (Takes p m)) (front_packet b.host.kernel.past b.device b.out)))
    (front-none b.host.kernel.past b.device b.out out_idle) in
    let sent : next_sent b ≡ None =
    ap (option_and_then (λ m. some_if (nat_lt 0 m && fits_blank (next_packet b.machine m) b.blanks) (Sends (next_packet b.machine m))))
    (front-none b.host.kernel.past b.device b.inp in_idle) in
    ap (option_and_then (with_room b)) (both-none (listens b.machine.stage) (next_taken b) (next_sent b) taken sent)

module _ (k : ClientState) (clock t : ℕ) (s : Ticket) (bytes : List ℕ) (end : Machine) (b : DiskState) (holds : Holds k clock b) (over : AtEnd t s bytes end b) where
  reaped-found : over.f.reaped ≡ true → transfer_completion b.host.kernel.past t ≡ Some (completion_of (done_of t s over.f 0))
  unfolding transfer_completion
  reaped-found reaped = ap (option_map completion_of) (has-come b.host.kernel.past b.device over.e t s over.f over.served 0 reaped over.status)

  unreaped-none : over.f.reaped ≡ false → transfer_completion b.host.kernel.past t ≡ None
  unfolding transfer_completion
  unreaped-none unreaped = ap (option_map completion_of) (not-come b.host.kernel.past b.device over.e t s over.f over.served unreaped)

  -- once it is found, its completion has all bytes
  pub found-come : is_reaped disk_calls t b ≡ true → transfer_completion b.host.kernel.past t ≡ Some (completion_of (done_of t s over.f 0))
  found-come found =
      elim (cases_Bool over.f.reaped) [
        | inl reaped ↦ reaped-found reaped
        | inr unreaped ↦ absurd (false≢true (sym (ap is_some (unreaped-none unreaped)) ∙ found))
      ]

  -- and until then some ticket waits for its reap
  module _ (none : is_reaped disk_calls t b ≡ false) where
    pub unreaped : over.f.reaped ≡ false
    unreaped =
        elim (cases_Bool over.f.reaped) [
          | inl reaped ↦ absurd (false≢true (sym none ∙ ap is_some (reaped-found reaped)))
          | inr still ↦ still
        ]

    pub within : t < length (tickets b.host.kernel.past)
    within = slice_get_within (tickets b.host.kernel.past) t s over.served.ticket

    abbrev first : (u : ℕ) × (lowest b.host.kernel.past ≡ Some u)
    first = the-some (lowest b.host.kernel.past) (served-waits b.host.kernel.past b.device over.e t s over.f over.served within (ap is_some over.status) unreaped)

    abbrev left : HostState
    left = host_reaped b.host first.0

    idle : action_of b ≡ None
    idle = action-none b over.out_idle over.in_idle

    pub end-turned : disk_turned b ≡ with_host b left
    unfolding disk_turned
    end-turned = ap (turned_by b) idle ∙ ap (with_host b) (turned-nil b.host (Some first.0) holds.no_steps first.1)

    pub end-turns : time_is_up (disk_turn b) ≡ false
    unfolding disk_turn
    end-turns = ap (λ o. time_is_up (turn_by b o)) idle ∙ turn-nil b.host (Some first.0) holds.no_steps first.1

    reaped-past : left.kernel.past ≡ Reap first.0 ∷ b.host.kernel.past
    reaped-past =
        let acts : after_reap b.host.kernel.past first.0 ≡ Reap first.0 ∷ b.host.kernel.past = rw (lowest-reapable b.host.kernel.past first.0 first.1) refl in
        ap (λ (x : BusState). x.past) (bus_of-reaped b.host first.0) ∙ acts

    pub end-holds : Holds k clock (with_host b left)
    end-holds = record {
      over = holds.over;
      no_steps = (uses-reaped b.host first.0).steps ∙ holds.no_steps;
      clock_is = reaped-clock b.host first.0 ∙ holds.clock_is;
      accepts = reaped-same b.host first.0 b.device ∙ holds.accepts;
    }

    -- the ticket after the reap of this one or of another
    after-reap : (f : Fate) × ((IsServed (Reap first.0 ∷ b.host.kernel.past) b.device over.e t s f) × ((f.status ≡ Some 0) × HasMoved s f bytes))
    after-reap =
        elim (cases_eq first.0 t) [
          | inl own ↦ (
            record over.f { reaped = true },
            (
              subst (λ (u : ℕ). IsServed (Reap u ∷ b.host.kernel.past) b.device over.e t s (record over.f { reaped = true })) (sym own)
                  (served-reap b.host.kernel.past b.device over.e t s over.f over.served (ap is_some over.status)),
              (over.status, record { count = over.moved.count; buffer = over.moved.buffer }),
            ),
          )
          | inr apart ↦ (over.f, (served-reap_other b.host.kernel.past b.device over.e t s over.f over.served first.0 (ne_eqb first.0 t apart), (over.status, over.moved)))
        ]

    pub end-stays : AtEnd t s bytes end (with_host b left)
    end-stays =
        let after = after-reap in
        record {
          e = over.e;
          f = after.0;
          served = subst (λ (past : List Event). IsServed past b.device over.e t s after.0) (sym reaped-past) after.1.0;
          status = after.1.1.0;
          moved = after.1.1.1;
          out_idle = ap (λ (past : List Event). open_tickets past b.device b.out) reaped-past ∙ open-reap b.host.kernel.past first.0 b.device b.out ∙ over.out_idle;
          in_idle = ap (λ (past : List Event). open_tickets past b.device b.inp) reaped-past ∙ open-reap b.host.kernel.past first.0 b.device b.inp ∙ over.in_idle;
          machine = over.machine;
        }

    -- one less waits, and no more packets stand
    pub end-fewer : length (waiting left.kernel.past) < length (waiting b.host.kernel.past)
    end-fewer =
        let less = waiting-one_less b.host.kernel.past first.0 (lowest-reapable b.host.kernel.past first.0 first.1) in
        let same : length (waiting left.kernel.past) ≡ length (waiting (Reap first.0 ∷ b.host.kernel.past)) = ap (λ past. length (waiting past)) reaped-past in
        omega (arith, less, same)

    pub end-stand : packets_standing left.kernel.past b.device b.out ≤ packets_standing b.host.kernel.past b.device b.out
    end-stand =
        subst (λ (past : List Event). packets_standing past b.device b.out ≤ packets_standing b.host.kernel.past b.device b.out) (sym reaped-past)
        (standing-le b.host.kernel.past (Reap first.0 ∷ b.host.kernel.past) b.device b.out (λ low. (quiet-event b.device b.out b.host.kernel.past (Reap first.0) refl).fewer))
