-- A stage in which bytes come in: the data of a read, or a status.
use Rattle.std.proofs.Common.{◌≡◌, ◌≢◌, ℕ, suc, ◌+◌, ◌*◌, ◌<◌, ◌≤◌, ◌⊎◌, List, [], ◌∷◌, ◌++◌, length, drop, replicate, Some, true, false, cond, sym, ap, ◌∙◌, arith, subst, inl, inr}
use Rattle.std.specs.Prelude.{nat_lt, nat_le, is_some, option_and_then, ◌&&◌}
use Rattle.std.specs.Option.{option_map}
use Rattle.std.proofs.lemmas.Bool.{cases_lt, lt-ltb, le-leb, false≢true}
use Rattle.std.proofs.lemmas.List.{length-take}
use Rattle.std.proofs.Math.Nat.{mul-suc}
use Rattle.usb_kernel.specs.declared.event.Event.{Event}
use Rattle.usb_kernel.specs.declared.event.Event.TheVariants.{Packet}
use Rattle.usb_kernel.specs.Tickets.{Ticket}
use Rattle.usb_kernel.specs.Fates.{Fate}
use Rattle.usb_kernel.specs.Journal.{open_tickets}
use Rattle.usb_kernel.specs.Steps.{after_packet}
use Rattle.usb_kernel.specs.Completions.{waiting}
use Rattle.usb_kernel.specs.TransferCompletions.{completion_of, transfer_completion}
use Rattle.usb_device_endpoint.specs.Waits.{time_is_up, is_reaped}
use Rattle.usb_bot.specs.Clients.{ClientState}
use Rattle.usb_bot.specs.Commands.{longest}
use Rattle.usb_bot_disk.specs.Machine.{Machine, listens, next_packet, sent, weight}
use Rattle.usb_bot_disk.specs.MachineFacts.{IsSound}
use Rattle.usb_bot_disk.specs.DiskState.{DiskState}
use Rattle.usb_bot_disk.specs.DiskTurns.{Sends, some_if, fits_blank, next_taken, next_sent, possible, disk_turned, disk_turn}
use Rattle.usb_bot_disk.specs.DiskCalls.{disk_calls}
use Rattle.usb_bot_disk.proofs.MachineLemmas.{packet_at, packet-length}
use Rattle.usb_bot_disk.proofs.WeightLemmas.{weight-sent}
use Rattle.usb_bot_law.proofs.FindLemmas.{GoesOnTo}
use Rattle.usb_bot_law.proofs.PhaseLemmas.{ComesIn, in-maximum, in-packet, other-sent, in-more, in-last, packet-waits, not-come}
use Rattle.usb_bot_law.proofs.StageStates.{Holds, AtEnd, never-late, end-turned, end-turns, end-holds, end-stays, end-fewer}
use Rattle.usb_bot_law.proofs.Acted.{went_to, send-turned, send-turns}
use Rattle.usb_bot_law.proofs.OutStages.{fewer-left}

-- a disk sends bytes packet by packet: it is so (At) when the first n have gone, and so (end) behind
-- the last
pub record SendsAll (bytes : List ℕ) (maximum : ℕ) (At : ℕ → Machine → Type 0) (end : Machine) : Type 0 where
  pub quiet : (n : ℕ) (m : Machine) → At n m → listens m.stage ≡ false
  pub sound : (n : ℕ) (m : Machine) → At n m → IsSound m.disk m.stage
  pub packet : (n : ℕ) (m : Machine) → At n m → n ≤ length bytes → next_packet m maximum ≡ packet_at bytes maximum n
  pub more : (n : ℕ) (m : Machine) → At n m → n + maximum < length bytes → At (n + maximum) (sent m maximum)
  pub last : (n : ℕ) (m : Machine) → At n m → n ≤ length bytes → length bytes ≤ n + maximum → sent m (length (packet_at bytes maximum n)) ≡ end

-- what the disk has to send, and the tickets that wait
abbrev pub in_left : DiskState → ℕ
in_left b = 2 * weight b.machine.stage + length (waiting b.host.kernel.past)

module _ (k : ClientState) (clock t : ℕ) (s : Ticket) (bytes : List ℕ) (wanted maximum : ℕ) (At : ℕ → Machine → Type 0) (end : Machine) where
  -- n of the bytes have come, in whole packets, and there is room for r packets and one more, and an
  -- empty packet for each
  pub record Incoming (b : DiskState) : Type 0 where
    pub n : ℕ
    pub f : Fate
    pub r : ℕ
    pub j : ℕ
    pub comes : ComesIn b.host.kernel.past b.device b.inp t s bytes wanted maximum n f
    pub others : open_tickets b.host.kernel.past b.device b.out ≡ []
    pub inside : n ≤ length bytes
    pub whole : n ≡ maximum * j
    pub at : At n b.machine
    pub blanks : b.blanks ≡ replicate (suc r) maximum
    pub room : r < b.host.kernel.spare
    pub fits : length bytes ≤ n + suc r * maximum

  pub record InStage (b : DiskState) : Type 0 where
    pub holds : Holds k clock b
    pub on : Incoming b ⊎ AtEnd t s bytes end b

  -- what is sent fits what is wanted, and whole packets alone end a ticket that wants no more
  module _ (sends : SendsAll bytes maximum At end) (some : 0 < maximum) (enough : length bytes ≤ wanted) (ends : (j : ℕ) → length bytes ≡ maximum * suc j → wanted ≤ length bytes) where
    module _ (b : DiskState) (holds : Holds k clock b) (going : Incoming b) where
      abbrev p : List ℕ
      p = packet_at bytes maximum going.n

      abbrev past : List Event
      past = b.host.kernel.past

      apart : b.inp ≢ b.out
      apart same = omega (arith, same, holds.over.low, holds.over.high)

      short : length p ≤ maximum
      short = omega (arith, length-take maximum (drop going.n bytes))

      fits-first : (nat_lt 0 maximum && fits_blank p b.blanks) ≡ true
      fits-first =
          ap (λ xs. nat_lt 0 maximum && fits_blank p xs) going.blanks
          ∙ ap (λ v. v && nat_le (length p) maximum) (lt-ltb 0 maximum some)
          ∙ le-leb (length p) maximum short

      can : possible b ≡ Some (Sends p)
      can =
          ap (λ v. cond v (next_taken b) (next_sent b)) (sends.quiet going.n b.machine going.at)
          ∙ ap (option_and_then (λ m. some_if (nat_lt 0 m && fits_blank (next_packet b.machine m) b.blanks) (Sends (next_packet b.machine m))))
          (in-maximum past b.device b.inp t s bytes wanted maximum going.n going.f going.comes)
          ∙ ap (λ (q : List ℕ). some_if (nat_lt 0 maximum && fits_blank q b.blanks) (Sends q)) (sends.packet going.n b.machine going.at going.inside)
          ∙ ap (λ v. some_if v (Sends p)) fits-first

      acts : after_packet past b.device b.inp p ≡ Packet b.device b.inp p ∷ past
      acts = in-packet past b.device b.inp t s bytes wanted maximum going.n going.f going.comes p holds.over.high

      spare : 0 < b.host.kernel.spare
      spare = omega (arith, going.room)

      others : open_tickets (Packet b.device b.inp p ∷ past) b.device b.out ≡ []
      others = other-sent past b.device b.inp t s bytes wanted maximum going.n going.f going.comes p b.out apart going.others

      abbrev after : DiskState
      after = went_to b (Packet b.device b.inp p) (sent b.machine (length p)) (drop 1 b.blanks)

      went-holds : Holds k clock after
      went-holds = record { over = holds.over; no_steps = holds.no_steps; clock_is = holds.clock_is; accepts = holds.accepts }

      stays-more : going.n + maximum < length bytes → InStage after
      stays-more more =
          let left = fewer-left (length bytes) going.n maximum going.r more going.fits in
          let full : length p ≡ maximum = omega (arith, packet-length bytes maximum going.n, more) in
          record {
            holds = went-holds;
            on = inl (record {
              n = going.n + maximum;
              f = record going.f { packets = going.f.packets ++ p ∷ [] };
              r = left.0;
              j = suc going.j;
              comes = in-more past b.device b.inp t s bytes wanted maximum going.n going.f going.comes enough more;
              others = others;
              inside = omega (arith, more);
              whole = omega (arith, going.whole, mul-suc maximum going.j);
              at = subst (λ (x : ℕ). At (going.n + maximum) (sent b.machine x)) (sym full) (sends.more going.n b.machine going.at more);
              blanks = ap (λ (xs : List ℕ). drop 1 xs) going.blanks ∙ ap (λ (x : ℕ). replicate x maximum) left.1.0;
              room = omega (arith, left.1.0, going.room);
              fits = left.1.1;
            });
          }

      stays-last : length bytes ≤ going.n + maximum → InStage after
      stays-last last =
          let over = in-last past b.device b.inp t s bytes wanted maximum going.n going.f going.comes going.inside last (λ all. ends going.j (omega (arith, all, going.whole, mul-suc maximum going.j))) in
          record {
            holds = went-holds;
            on = inr (record {
              e = b.inp;
              f = record going.f { packets = going.f.packets ++ p ∷ []; status = Some 0 };
              served = over.served;
              status = over.status;
              moved = over.moved;
              out_idle = others;
              in_idle = over.served.open_is;
              machine = sends.last going.n b.machine going.at going.inside last;
            });
          }

      going-turned : disk_turned b ≡ after
      going-turned = send-turned b holds.no_steps spare p can acts

      going-turns : time_is_up (disk_turn b) ≡ false
      going-turns = send-turns b holds.no_steps spare p can acts

      going-stays : InStage (disk_turned b)
      going-stays = subst InStage (sym going-turned) (elim (cases_lt (going.n + maximum) (length bytes)) [ inl more ↦ stays-more more | inr last ↦ stays-last last ])

      lighter : weight (sent b.machine (length p)).stage < weight b.machine.stage
      lighter =
          subst (λ (q : List ℕ). weight (sent b.machine (length q)).stage < weight b.machine.stage) (sends.packet going.n b.machine going.at going.inside)
          (weight-sent b.machine.disk b.machine.stage maximum (sends.sound going.n b.machine going.at) some (sends.quiet going.n b.machine going.at))

      going-falls : in_left (disk_turned b) < in_left b
      going-falls =
          let more = packet-waits past b.device b.inp t s going.f p going.comes.served going.comes.unfinished in
          subst (λ (x : DiskState). in_left x < in_left b) (sym going-turned) (omega (arith, more, lighter))

    -- so a wait goes on to the end of the stage
    pub in-goes_on : GoesOnTo disk_calls t longest clock InStage in_left
    in-goes_on = record {
      early = λ b stage. never-late b.host.kernel.clock clock stage.holds.clock_is;
      turns = λ b stage none. elim stage.on [
        | inl going ↦ going-turns b stage.holds going
        | inr over ↦ end-turns k clock t s bytes end b stage.holds over none
      ];
      stays = λ b stage none. elim stage.on [
        | inl going ↦ going-stays b stage.holds going
        | inr over ↦ subst InStage (sym (end-turned k clock t s bytes end b stage.holds over none)) (record { holds = end-holds k clock t s bytes end b stage.holds over none; on = inr (end-stays k clock t s bytes end b stage.holds over none) })
      ];
      falls = λ b stage none. elim stage.on [
        | inl going ↦ going-falls b stage.holds going
        | inr over ↦
            let fewer = end-fewer k clock t s bytes end b stage.holds over none in
            subst (λ (x : DiskState). in_left x < in_left b) (sym (end-turned k clock t s bytes end b stage.holds over none)) (omega (arith, fewer))
      ];
    }

    -- where the ticket is found, the stage is at its end
    going-not_found : (b : DiskState) → Incoming b → is_reaped disk_calls t b ≡ true → ⊥
    unfolding transfer_completion
    going-not_found b going found =
        false≢true (sym (ap (λ o. is_some (option_map completion_of o)) (not-come b.host.kernel.past b.device b.inp t s going.f going.comes.served going.comes.unreaped)) ∙ found)

    pub in-found : (b : DiskState) → InStage b → is_reaped disk_calls t b ≡ true → AtEnd t s bytes end b
    in-found b stage found = elim stage.on [
      | inl going ↦ absurd (going-not_found b going found)
      | inr over ↦ over
    ]
