-- A stage in which bytes go out: a wrapper, or the data of a write.
use Rattle.std.proofs.Common.{◌≡◌, ◌≢◌, ℕ, zero, suc, ◌+◌, ◌*◌, ◌<◌, ◌≤◌, ◌⊎◌, List, [], ◌∷◌, length, Some, true, false, cond, refl, sym, ap, ◌∙◌, arith, subst, inl, inr}
use Rattle.std.specs.Prelude.{nat_lt, is_some, option_and_then}
use Rattle.std.specs.Option.{option_map}
use Rattle.std.proofs.lemmas.Bool.{cases_lt, lt-ltb, false≢true}
use Rattle.std.proofs.Math.Nat.{suc-mul, zero-mul}
use Rattle.usb_kernel.specs.declared.event.Event.{Event}
use Rattle.usb_kernel.specs.declared.event.Event.TheVariants.{Ack}
use Rattle.usb_kernel.specs.Tickets.{Ticket}
use Rattle.usb_kernel.specs.Fates.{Fate}
use Rattle.usb_kernel.specs.Journal.{open_tickets}
use Rattle.usb_kernel.specs.Completions.{waiting}
use Rattle.usb_kernel.specs.Steps.{after_ack}
use Rattle.usb_kernel.specs.Fronts.{front_packet}
use Rattle.usb_kernel.specs.TransferCompletions.{completion_of, transfer_completion}
use Rattle.usb_device_endpoint.specs.Waits.{time_is_up, is_reaped}
use Rattle.usb_bot.specs.Clients.{ClientState}
use Rattle.usb_bot.specs.Commands.{longest}
use Rattle.usb_bot_disk.specs.Machine.{Machine, listens, taken}
use Rattle.usb_bot_disk.specs.Standing.{packets_open, packets_standing}
use Rattle.usb_bot_disk.specs.DiskState.{DiskState}
use Rattle.usb_bot_disk.specs.DiskTurns.{Takes, some_if, next_taken, next_sent, possible, disk_turned, disk_turn}
use Rattle.usb_bot_disk.specs.DiskCalls.{disk_calls}
use Rattle.usb_bot_disk.proofs.MachineLemmas.{packet_at}
use Rattle.usb_bot_disk.proofs.StandingLemmas.{open-ack-less}
use Rattle.usb_bot_law.proofs.FindLemmas.{GoesOnTo}
use Rattle.usb_bot_law.proofs.ServedLemmas.{served-oldest}
use Rattle.usb_bot_law.proofs.PhaseLemmas.{GoesOut, out-packet, out-maximum, out-acked, other-acked, out-more, out-last, ack-waits, not-come}
use Rattle.usb_bot_law.proofs.StageStates.{Holds, AtEnd, never-late, end-turned, end-turns, end-holds, end-stays, end-fewer, end-stand}
use Rattle.usb_bot_law.proofs.Acted.{went_to, take-turned, take-turns}

-- a disk takes bytes packet by packet: it is so (At) when the first n have come, and so (end) with
-- the last
pub record TakesAll (bytes : List ℕ) (maximum : ℕ) (At : ℕ → Machine → Type 0) (end : Machine) : Type 0 where
  pub hears : (n : ℕ) (m : Machine) → At n m → listens m.stage ≡ true
  pub more : (n : ℕ) (m : Machine) → At n m → n + maximum < length bytes → (next : Machine) × ((taken m (packet_at bytes maximum n) maximum ≡ Some next) × At (n + maximum) next)
  pub last : (n : ℕ) (m : Machine) → At n m → n < length bytes → length bytes ≤ n + maximum → taken m (packet_at bytes maximum n) maximum ≡ Some end

-- so many packets are enough for what is left
pub fewer-left : (all n maximum r : ℕ) → n + maximum < all → all ≤ n + suc r * maximum → (q : ℕ) × ((r ≡ suc q) × (all ≤ (n + maximum) + suc q * maximum))
fewer-left all n maximum zero more fits = absurd (omega (arith, more, fits, suc-mul 0 maximum, zero-mul maximum))
fewer-left all n maximum (suc q) more fits = (q, (refl, omega (arith, fits, suc-mul (suc q) maximum)))

-- the packets that stand, and the tickets that wait
abbrev pub out_left : DiskState → ℕ
out_left b = 2 * packets_standing b.host.kernel.past b.device b.out + length (waiting b.host.kernel.past)

module _ (k : ClientState) (clock t : ℕ) (s : Ticket) (bytes : List ℕ) (maximum : ℕ) (At : ℕ → Machine → Type 0) (end : Machine) where
  -- n of the bytes are acknowledged, and there is room for r packets and one more
  pub record Outgoing (b : DiskState) : Type 0 where
    pub n : ℕ
    pub f : Fate
    pub r : ℕ
    pub goes : GoesOut b.host.kernel.past b.device b.out t s bytes maximum n f
    pub others : open_tickets b.host.kernel.past b.device b.inp ≡ []
    pub inside : n < length bytes
    pub at : At n b.machine
    pub room : r < b.host.kernel.spare
    pub fits : length bytes ≤ n + suc r * maximum

  pub record OutStage (b : DiskState) : Type 0 where
    pub holds : Holds k clock b
    pub on : Outgoing b ⊎ AtEnd t s bytes end b

  module _ (takes : TakesAll bytes maximum At end) (some : 0 < maximum) where
    module _ (b : DiskState) (holds : Holds k clock b) (going : Outgoing b) where
      abbrev p : List ℕ
      p = packet_at bytes maximum going.n

      abbrev past : List Event
      past = b.host.kernel.past

      apart : b.out ≢ b.inp
      apart same = omega (arith, same, holds.over.low, holds.over.high)

      can : possible b ≡ Some (Takes p maximum)
      can =
          ap (λ v. cond v (next_taken b) (next_sent b)) (takes.hears going.n b.machine going.at)
          ∙ ap (option_and_then (λ m. option_and_then (λ q. some_if (nat_lt 0 m) (Takes q m)) (front_packet past b.device b.out)))
          (out-maximum past b.device b.out t s bytes maximum going.n going.f going.goes)
          ∙ ap (option_and_then (λ q. some_if (nat_lt 0 maximum) (Takes q maximum)))
          (out-packet past b.device b.out t s bytes maximum going.n going.f going.goes holds.over.low (omega (arith, going.inside)))
          ∙ ap (λ v. some_if v (Takes p maximum)) (lt-ltb 0 maximum some)

      acts : after_ack past b.device b.out ≡ Ack b.device b.out ∷ past
      acts = out-acked past b.device b.out t s bytes maximum going.n going.f going.goes holds.over.low

      spare : 0 < b.host.kernel.spare
      spare = omega (arith, going.room)

      others : open_tickets (Ack b.device b.out ∷ past) b.device b.inp ≡ []
      others = other-acked past b.device b.out t s bytes maximum going.n going.f going.goes b.inp apart going.others

      went-holds : (next : Machine) → Holds k clock (went_to b (Ack b.device b.out) next b.blanks)
      went-holds next = record { over = holds.over; no_steps = holds.no_steps; clock_is = holds.clock_is; accepts = holds.accepts }

      -- a turn takes the next packet
      record Took : Type 0 where
        next : Machine
        is : taken b.machine p maximum ≡ Some next
        stays : OutStage (went_to b (Ack b.device b.out) next b.blanks)

      took-more : going.n + maximum < length bytes → Took
      took-more more =
          let next = takes.more going.n b.machine going.at more in
          let left = fewer-left (length bytes) going.n maximum going.r more going.fits in
          record {
            next = next.0;
            is = next.1.0;
            stays = record {
              holds = went-holds next.0;
              on = inl (record {
                n = going.n + maximum;
                f = record going.f { acks = going.f.acks + 1 };
                r = left.0;
                goes = out-more past b.device b.out t s bytes maximum going.n going.f going.goes more;
                others = others;
                inside = more;
                at = next.1.1;
                room = omega (arith, left.1.0, going.room);
                fits = left.1.1;
              });
            };
          }

      took-last : length bytes ≤ going.n + maximum → Took
      took-last last =
          let over = out-last past b.device b.out t s bytes maximum going.n going.f going.goes last in
          record {
            next = end;
            is = takes.last going.n b.machine going.at going.inside last;
            stays = record {
              holds = went-holds end;
              on = inr (record {
                e = b.out;
                f = record going.f { acks = going.f.acks + 1; status = Some 0 };
                served = over.served;
                status = over.status;
                moved = over.moved;
                out_idle = over.served.open_is;
                in_idle = others;
                machine = refl;
              });
            };
          }

      took : Took
      took = elim (cases_lt (going.n + maximum) (length bytes)) [ inl more ↦ took-more more | inr last ↦ took-last last ]

      going-turned : disk_turned b ≡ went_to b (Ack b.device b.out) took.next b.blanks
      going-turned = take-turned b holds.no_steps spare p maximum took.next can took.is acts

      going-turns : time_is_up (disk_turn b) ≡ false
      going-turns = take-turns b holds.no_steps spare p maximum took.next can took.is acts

      going-stays : OutStage (disk_turned b)
      going-stays = subst OutStage (sym going-turned) took.stays

      standing : packets_standing (Ack b.device b.out ∷ past) b.device b.out < packets_standing past b.device b.out
      standing =
          let low = lt-ltb b.out 128 holds.over.low in
          let size : 0 < s.maximum = omega (arith, going.goes.ticket.maximum_is, some) in
          let less = open-ack-less past b.device b.out t s bytes (served-oldest past b.device b.out t s going.f going.goes.served going.goes.unfinished) going.goes.served.ticket going.goes.ticket.body size in
          let now : packets_standing (Ack b.device b.out ∷ past) b.device b.out ≡ packets_open (Ack b.device b.out ∷ past) b.device b.out = ap (λ v. cond v (packets_open (Ack b.device b.out ∷ past) b.device b.out) 0) low in
          let was : packets_standing past b.device b.out ≡ packets_open past b.device b.out = ap (λ v. cond v (packets_open past b.device b.out) 0) low in
          omega (arith, less, now, was)

      going-falls : out_left (disk_turned b) < out_left b
      going-falls =
          let more = ack-waits past b.device b.out t s going.f going.goes.served going.goes.unfinished in
          subst (λ (x : DiskState). out_left x < out_left b) (sym going-turned) (omega (arith, more, standing))

    -- so a wait goes on to the end of the stage
    pub out-goes_on : GoesOnTo disk_calls t longest clock OutStage out_left
    out-goes_on = record {
      early = λ b stage. never-late b.host.kernel.clock clock stage.holds.clock_is;
      turns = λ b stage none. elim stage.on [
        | inl going ↦ going-turns b stage.holds going
        | inr over ↦ end-turns k clock t s bytes end b stage.holds over none
      ];
      stays = λ b stage none. elim stage.on [
        | inl going ↦ going-stays b stage.holds going
        | inr over ↦ subst OutStage (sym (end-turned k clock t s bytes end b stage.holds over none)) (record { holds = end-holds k clock t s bytes end b stage.holds over none; on = inr (end-stays k clock t s bytes end b stage.holds over none) })
      ];
      falls = λ b stage none. elim stage.on [
        | inl going ↦ going-falls b stage.holds going
        | inr over ↦
            let fewer = end-fewer k clock t s bytes end b stage.holds over none in
            let stand = end-stand k clock t s bytes end b stage.holds over none in
            subst (λ (x : DiskState). out_left x < out_left b) (sym (end-turned k clock t s bytes end b stage.holds over none)) (omega (arith, fewer, stand))
      ];
    }

    -- where the ticket is found, the stage is at its end
    going-not_found : (b : DiskState) → Outgoing b → is_reaped disk_calls t b ≡ true → ⊥
    unfolding transfer_completion
    going-not_found b going found =
        false≢true (sym (ap (λ o. is_some (option_map completion_of o)) (not-come b.host.kernel.past b.device b.out t s going.f going.goes.served going.goes.unreaped)) ∙ found)

    pub out-found : (b : DiskState) → OutStage b → is_reaped disk_calls t b ≡ true → AtEnd t s bytes end b
    out-found b stage found = elim stage.on [
      | inl going ↦ absurd (going-not_found b going found)
      | inr over ↦ over
    ]
