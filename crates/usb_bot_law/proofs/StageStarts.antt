-- How a stage of a command begins and ends at a bus with a disk.
use Rattle.std.proofs.Common.{◌≡◌, ℕ, suc, ◌+◌, ◌*◌, ◌/◌, ◌%◌, ◌<◌, ◌≤◌, List, [], ◌∷◌, ◌++◌, length, drop, replicate, None, true, false, cond, Ok, refl, sym, ap, ◌∙◌, arith, subst, inl, slice_get}
use Rattle.std.specs.Prelude.{nat_lt, nat_le, is_some, not, ◌==◌, ◌&&◌}
use Rattle.std.proofs.lemmas.Bool.{eq-eqb, ne_eqb, lt-ltb, le-leb}
use Rattle.std.proofs.Math.Nat.{suc-mul, mul-zero, lt-div-mul-add, mul-mod_left, mul-div_cancel}
use Rattle.std.proofs.Math.Seq.{drop-append_seam}
use Rattle.usb_xfer.specs.BufferState.{BufferState}
use Rattle.usb_xfer.specs.declared.transfer.Completion.{Completion}
use Rattle.usb_kernel_devices.specs.declared.step.Armed.{Armed}
use Rattle.usb_kernel.specs.declared.event.Event.{Event}
use Rattle.usb_kernel.specs.declared.event.Event.TheVariants.{Submit}
use Rattle.usb_kernel.specs.declared.event.Body.TheVariants.{Wanted, Sent}
use Rattle.usb_kernel.specs.Tickets.{Ticket, tickets}
use Rattle.usb_kernel.specs.Fates.{fresh}
use Rattle.usb_kernel.specs.Journal.{open_tickets, oldest}
use Rattle.usb_kernel.specs.WholePackets.{is_whole}
use Rattle.usb_kernel.specs.Submissions.{body_of}
use Rattle.usb_kernel.specs.Submits.{submit_refusal, submit_or_refuse}
use Rattle.usb_kernel.specs.Completions.{done_of}
use Rattle.usb_kernel.specs.TransferCompletions.{completion_of}
use Rattle.usb_kernel.proofs.OpenLists.{open-submit_other}
use Rattle.usb_device_endpoint.specs.EndpointState.{EndpointState, route_of}
use Rattle.usb_device_endpoint.specs.Routes.{submission_of}
use Rattle.usb_device_endpoint.specs.Submits.{is_valid, transfer_by, handed_over, entered}
use Rattle.usb_device_host.specs.HostState.{HostState}
use Rattle.usb_device_host.specs.HostCalls.{host_submitted}
use Rattle.usb_device_host.specs.TicketEnds.{host_taken, host_ended}
use Rattle.usb_device_host.proofs.HostFrames.{ended_as-is}
use Rattle.usb_device_ledger.specs.declared.ends.TicketEnd.TheVariants.{Taken}
use Rattle.usb_bot.specs.Clients.{ClientState}
use Rattle.usb_bot.specs.Commands.{asks, sends, outcome, staged}
use Rattle.usb_bot_disk.specs.Machine.{Machine}
use Rattle.usb_bot_disk.specs.DiskState.{DiskState}
use Rattle.usb_bot_disk.specs.DiskCalls.{length_by, full_packets, room_for, is_inp, blanks_for, dropped_by, disk_submitted, with_host, disk_bus_of, disk_calls}
use Rattle.usb_bot_disk.proofs.MachineLemmas.{not-le}
use Rattle.usb_bot_law.specs.Serving.{IsReady, IsAt, IsOver}
use Rattle.usb_bot_law.proofs.FindLemmas.{stage-finds}
use Rattle.usb_bot_law.proofs.ServedLemmas.{IsServed, served-submit}
use Rattle.usb_bot_law.proofs.ReadyHosts.{taken-same, submitted-same}
use Rattle.usb_bot_law.proofs.StageStates.{Holds, AtEnd, found-come}
use Rattle.usb_bot_law.proofs.OutStages.{TakesAll, OutStage, out_left, out-goes_on, out-found}
use Rattle.usb_bot_law.proofs.InStages.{SendsAll, InStage, in_left, in-goes_on, in-found}

-- between two stages of a client: its endpoints are idle, and the disk is so
pub record Rests (k : ClientState) (m : Machine) (b : DiskState) : Type 0 where
  pub over : IsOver b.device b.out b.inp k
  pub ready : IsReady b.host b.device b.out b.inp
  pub machine : b.machine ≡ m

-- a stage went well: its transfer moved all these bytes
pub record Went (k : ClientState) (e : EndpointState) (buffer : BufferState) (bytes : List ℕ) (end : Machine) (b : DiskState) : Type 0 where
  pub c : Completion
  pub new : DiskState
  pub is : staged disk_calls e buffer b ≡ outcome (Ok c) new
  pub rests : Rests k end new
  pub moved : c.actual_len ≡ length bytes
  pub bytes_are : c.buffer.bytes ≡ bytes

-- the bus when the completion is taken
module _ (k : ClientState) (clock t : ℕ) (s : Ticket) (bytes : List ℕ) (end : Machine) (mid : DiskState) (holds : Holds k clock mid) (over : AtEnd t s bytes end mid) where
  taken-steps : (host_taken mid.host t).steps ≡ mid.host.steps
  unfolding host_taken host_ended
  taken-steps = ap (λ (h : HostState). h.steps) (ended_as-is mid.host t Taken (slice_get mid.host.tickets t))

  taken-past : (host_taken mid.host t).kernel.past ≡ mid.host.kernel.past
  unfolding host_taken host_ended
  taken-past = ap (λ (h : HostState). h.kernel.past) (ended_as-is mid.host t Taken (slice_get mid.host.tickets t))

  pub taken-rests : Rests k end (with_host mid (host_taken mid.host t))
  taken-rests = record {
    over = holds.over;
    ready = record {
      no_steps = taken-steps ∙ holds.no_steps;
      accepts = taken-same mid.host t mid.device ∙ holds.accepts;
      out_idle = ap (λ (past : List Event). open_tickets past mid.device mid.out) taken-past ∙ over.out_idle;
      in_idle = ap (λ (past : List Event). open_tickets past mid.device mid.inp) taken-past ∙ over.in_idle;
    };
    machine = over.machine;
  }

-- a stage that was found at its end went well
module _ (k : ClientState) (clock t : ℕ) (s : Ticket) (bytes : List ℕ) (end : Machine) (e : EndpointState) (buffer : BufferState) (b mid : DiskState) where
  pub stage-went : Holds k clock mid → (over : AtEnd t s bytes end mid)
      → staged disk_calls e buffer b ≡ outcome (Ok (completion_of (done_of t s over.f 0))) (with_host mid (host_taken mid.host t))
      → Went k e buffer bytes end b
  stage-went holds over is = record {
    c = completion_of (done_of t s over.f 0);
    new = with_host mid (host_taken mid.host t);
    is = is;
    rests = taken-rests k clock t s bytes end mid holds over;
    moved = over.moved.count;
    bytes_are = over.moved.buffer;
  }

-- the start of a stage: a buffer is submitted at an endpoint (e) of this address
module _ (k : ClientState) (m : Machine) (b : DiskState) (rests : Rests k m b) (e : EndpointState) (address : ℕ) (at : IsAt b.device address e) (buffer : BufferState) (valid : is_valid e buffer ≡ true) where
  abbrev past : List Event
  past = b.host.kernel.past

  abbrev t : ℕ
  t = length (tickets past)

  abbrev sent : DiskState
  sent = entered disk_calls b e None buffer

  abbrev made : DiskState
  made = disk_submitted b (route_of e) None (transfer_by (route_of e) buffer)

  pub sent-is : sent ≡ made
  sent-is = ap (λ v. handed_over disk_calls b (route_of e) None (transfer_by (route_of e) buffer) v) valid

  accepted : submit_refusal b.host.kernel.devices b.host.kernel.armed e.device ≡ None
  accepted = ap (λ d. submit_refusal b.host.kernel.devices b.host.kernel.armed d) at.device ∙ rests.ready.accepts

  pub made-past : made.host.kernel.past ≡ Submit t b.device address e.maximum (body_of address buffer) buffer.room None ∷ past
  unfolding disk_submitted host_submitted
  made-past =
      ap (λ o. submit_or_refuse t (submission_of (route_of e) None buffer) o ∷ past) accepted
      ∙ ap (λ d. Submit t d e.address e.maximum (body_of e.address buffer) buffer.room None ∷ past) at.device
      ∙ ap (λ a. Submit t b.device a e.maximum (body_of a buffer) buffer.room None ∷ past) at.address_is

  pub made-holds : (clock : ℕ) → made.host.kernel.clock ≡ clock → Holds k clock made
  unfolding disk_submitted host_submitted
  made-holds clock is = record {
    over = rests.over;
    no_steps = rests.ready.no_steps;
    clock_is = is;
    accepts =
        ap (λ (armed : List Armed). submit_refusal b.host.kernel.devices armed b.device) (submitted-same b.host.kernel.devices b.host.kernel.armed e.device accepted)
        ∙ rests.ready.accepts;
  }

  pub made-spare : made.host.kernel.spare ≡ b.host.kernel.spare + room_for (route_of e) (length_by (route_of e) buffer)
  unfolding disk_submitted host_submitted
  made-spare = refl

  pub made-machine : made.machine ≡ b.machine
  unfolding disk_submitted
  made-machine = refl

  pub made-blanks : made.blanks ≡ drop (dropped_by b (route_of e)) (b.blanks ++ blanks_for b (route_of e) (length_by (route_of e) buffer))
  unfolding disk_submitted
  made-blanks = refl

  pub made-device : made.device ≡ b.device
  unfolding disk_submitted
  made-device = refl

  pub made-out : made.out ≡ b.out
  unfolding disk_submitted
  made-out = refl

  pub made-inp : made.inp ≡ b.inp
  unfolding disk_submitted
  made-inp = refl

full-is : (n maximum : ℕ) → 0 < maximum → full_packets n maximum ≡ n / maximum
full-is n maximum some = ap (λ v. cond v 0 (n / maximum)) (ne_eqb maximum 0 (λ same. omega (arith, same, some)))

-- turns enough are left
out-few : (b : DiskState) → out_left b ≤ (disk_bus_of b).turns_left
out-few b = omega arith

in-few : (b : DiskState) → in_left b ≤ (disk_bus_of b).turns_left
in-few b = omega arith

-- bytes go out
module _ (k : ClientState) (m : Machine) (b : DiskState) (rests : Rests k m b) (bytes : List ℕ) (At : ℕ → Machine → Type 0) (end : Machine) (takes : TakesAll bytes k.out.maximum At end) (some : 0 < length bytes) (first : At 0 m) where
  abbrev e : EndpointState
  e = k.out

  abbrev maximum : ℕ
  maximum = k.out.maximum

  abbrev buffer : BufferState
  buffer = sends bytes

  low-address : nat_le 128 e.address ≡ false
  low-address = not-le 128 e.address (omega (arith, rests.over.out_at.address_is, rests.over.low))

  out-valid : is_valid e buffer ≡ true
  out-valid = ap (λ v. cond v (is_whole e.maximum buffer.requested) true) low-address

  abbrev s : Ticket
  s = record { device = b.device; endpoint = b.out; maximum = maximum; body = body_of b.out buffer; capacity = buffer.room; refused = false; deadline = None }

  out-body : body_of b.out buffer ≡ Sent bytes
  out-body = ap (λ v. cond v (Wanted buffer.requested) (Sent buffer.bytes)) (not-le 128 b.out rests.over.low)

  out-length : length_by (route_of e) buffer ≡ length bytes
  out-length = ap (λ v. cond v buffer.requested (length buffer.bytes)) low-address

  out-room : (spare : ℕ) → spare ≡ b.host.kernel.spare + room_for (route_of e) (length_by (route_of e) buffer) → length bytes / maximum < spare
  out-room spare is =
      let full : full_packets (length_by (route_of e) buffer) maximum ≡ length bytes / maximum = ap (λ n. full_packets n maximum) out-length ∙ full-is (length bytes) maximum rests.over.out_at.some in
      omega (arith, is, full)

  out-made : (clock : ℕ) → (disk_submitted b (route_of e) None (transfer_by (route_of e) buffer)).host.kernel.clock ≡ clock → OutStage k clock (length (tickets b.host.kernel.past)) s bytes maximum At end (disk_submitted b (route_of e) None (transfer_by (route_of e) buffer))
  unfolding disk_submitted host_submitted
  out-made clock is =
      let spare = made-spare k m b rests e b.out rests.over.out_at buffer out-valid in
      let made_past = made-past k m b rests e b.out rests.over.out_at buffer out-valid in
      let served = served-submit b.host.kernel.past b.device b.out maximum (body_of b.out buffer) buffer.room None rests.ready.out_idle in
      record {
        holds = made-holds k m b rests e b.out rests.over.out_at buffer out-valid clock is;
        on = inl (record {
          n = 0;
          f = fresh;
          r = length bytes / maximum;
          goes = record {
            served = subst (λ (past : List Event). IsServed past b.device b.out (length (tickets b.host.kernel.past)) s fresh) (sym made_past) served;
            ticket = record { body = out-body; maximum_is = refl; count = sym (mul-zero maximum) };
            unfinished = refl;
            unreaped = refl;
          };
          others =
              ap (λ (past : List Event). open_tickets past b.device b.inp) made_past
              ∙ open-submit_other b.host.kernel.past (length (tickets b.host.kernel.past)) b.device b.out maximum (body_of b.out buffer) buffer.room None b.device b.inp (λ same other. omega (arith, other, rests.over.low, rests.over.high))
              ∙ rests.ready.in_idle;
          inside = some;
          at = subst (At 0) (sym rests.machine) first;
          room = out-room (disk_submitted b (route_of e) None (transfer_by (route_of e) buffer)).host.kernel.spare spare;
          fits = omega (arith, suc-mul (length bytes / maximum) maximum, lt-div-mul-add {a = length bytes} {b = maximum} rests.over.out_at.some);
        });
      }

  -- the stage goes well
  pub goes-out : Went k e buffer bytes end b
  goes-out =
      let sent = entered disk_calls b e None buffer in
      let is = sent-is k m b rests e b.out rests.over.out_at buffer out-valid in
      let clock = sent.host.kernel.clock in
      let t = length (tickets b.host.kernel.past) in
      let P = OutStage k clock t s bytes maximum At end in
      let start : P sent = subst P (sym is) (out-made clock (ap (λ (x : DiskState). x.host.kernel.clock) (sym is))) in
      let found = stage-finds disk_calls e buffer b P out_left (out-goes_on k clock t s bytes maximum At end takes rests.over.out_at.some) start (out-few sent) in
      let over = out-found k clock t s bytes maximum At end takes rests.over.out_at.some found.mid found.finds.is found.finds.found in
      let holds : Holds k clock found.mid = found.finds.is.holds in
      stage-went k clock t s bytes end e buffer b found.mid holds over
      (found.is (completion_of (done_of t s over.f 0)) (found-come k clock t s bytes end found.mid holds over found.finds.found))

-- bytes come in, by a transfer that wants so many whole packets
module _ (k : ClientState) (m : Machine) (b : DiskState) (rests : Rests k m b) (bytes : List ℕ) (wanted packets : ℕ) (At : ℕ → Machine → Type 0) (end : Machine) (gives : SendsAll bytes k.inp.maximum At end)
    (many : wanted ≡ suc packets * k.inp.maximum) (enough : length bytes ≤ wanted) (ends : (j : ℕ) → length bytes ≡ k.inp.maximum * suc j → wanted ≤ length bytes) (first : At 0 m) where
  abbrev f : EndpointState
  f = k.inp

  abbrev size : ℕ
  size = k.inp.maximum

  abbrev asked : BufferState
  asked = asks wanted

  high-address : nat_le 128 f.address ≡ true
  high-address = le-leb 128 f.address (omega (arith, rests.over.in_at.address_is, rests.over.high))

  some-wanted : 0 < wanted
  some-wanted = omega (arith, many, suc-mul packets size, rests.over.in_at.some)

  no-rest : wanted % size ≡ 0
  no-rest = ap (λ n. n % size) many ∙ mul-mod_left (suc packets) size

  in-valid : is_valid f asked ≡ true
  in-valid =
      ap (λ v. cond v (is_whole f.maximum asked.requested) true) high-address
      ∙ ap (λ v. v && (nat_lt 0 wanted && wanted % size == 0)) (lt-ltb 0 size rests.over.in_at.some)
      ∙ ap (λ v. v && wanted % size == 0) (lt-ltb 0 wanted some-wanted)
      ∙ eq-eqb (wanted % size) 0 no-rest

  abbrev u : Ticket
  u = record { device = b.device; endpoint = b.inp; maximum = size; body = body_of b.inp asked; capacity = asked.room; refused = false; deadline = None }

  in-body : body_of b.inp asked ≡ Wanted wanted
  in-body = ap (λ v. cond v (Wanted asked.requested) (Sent asked.bytes)) (le-leb 128 b.inp rests.over.high)

  in-length : length_by (route_of f) asked ≡ wanted
  in-length = ap (λ v. cond v asked.requested (length asked.bytes)) high-address

  in-full : full_packets (length_by (route_of f) asked) size ≡ suc packets
  in-full =
      ap (λ n. full_packets n size) in-length ∙ full-is wanted size rests.over.in_at.some
      ∙ ap (λ n. n / size) many ∙ mul-div_cancel (suc packets) {n = size} rests.over.in_at.some

  in-room : (spare : ℕ) → spare ≡ b.host.kernel.spare + room_for (route_of f) (length_by (route_of f) asked) → packets < spare
  in-room spare is = omega (arith, is, in-full)

  leads : is_inp b (route_of f) ≡ true
  leads =
      ap (λ v. v && f.address == b.inp) (eq-eqb f.device b.device rests.over.in_at.device)
      ∙ eq-eqb f.address b.inp rests.over.in_at.address_is

  all-dropped : dropped_by b (route_of f) ≡ length b.blanks
  all-dropped =
      ap (λ v. cond (v && not (is_some (oldest b.host.kernel.past b.device b.inp))) (length b.blanks) 0) leads
      ∙ ap (λ (ts : List ℕ). cond (not (is_some (slice_get ts 0))) (length b.blanks) 0) rests.ready.in_idle

  in-blanks : drop (dropped_by b (route_of f)) (b.blanks ++ blanks_for b (route_of f) (length_by (route_of f) asked)) ≡ replicate (suc packets) size
  in-blanks =
      ap (λ n. drop n (b.blanks ++ blanks_for b (route_of f) (length_by (route_of f) asked))) all-dropped
      ∙ drop-append_seam b.blanks (blanks_for b (route_of f) (length_by (route_of f) asked))
      ∙ ap (λ v. cond v (replicate (full_packets (length_by (route_of f) asked) size) size) []) leads
      ∙ ap (λ n. replicate n size) in-full

  in-made : (clock : ℕ) → (disk_submitted b (route_of f) None (transfer_by (route_of f) asked)).host.kernel.clock ≡ clock → InStage k clock (length (tickets b.host.kernel.past)) u bytes wanted size At end (disk_submitted b (route_of f) None (transfer_by (route_of f) asked))
  unfolding disk_submitted host_submitted
  in-made clock is =
      let spare = made-spare k m b rests f b.inp rests.over.in_at asked in-valid in
      let made_past = made-past k m b rests f b.inp rests.over.in_at asked in-valid in
      let served = served-submit b.host.kernel.past b.device b.inp size (body_of b.inp asked) asked.room None rests.ready.in_idle in
      record {
        holds = made-holds k m b rests f b.inp rests.over.in_at asked in-valid clock is;
        on = inl (record {
          n = 0;
          f = fresh;
          r = packets;
          j = 0;
          comes = record {
            served = subst (λ (past : List Event). IsServed past b.device b.inp (length (tickets b.host.kernel.past)) u fresh) (sym made_past) served;
            ticket = record { body = in-body; maximum_is = refl; got_is = refl };
            unfinished = refl;
            unreaped = refl;
          };
          others =
              ap (λ (past : List Event). open_tickets past b.device b.out) made_past
              ∙ open-submit_other b.host.kernel.past (length (tickets b.host.kernel.past)) b.device b.inp size (body_of b.inp asked) asked.room None b.device b.out (λ same other. omega (arith, other, rests.over.low, rests.over.high))
              ∙ rests.ready.out_idle;
          inside = omega arith;
          whole = sym (mul-zero size);
          at = subst (At 0) (sym rests.machine) first;
          blanks = in-blanks;
          room = in-room (disk_submitted b (route_of f) None (transfer_by (route_of f) asked)).host.kernel.spare spare;
          fits = omega (arith, many, enough);
        });
      }

  -- the stage goes well
  pub comes-in : Went k f asked bytes end b
  comes-in =
      let sent = entered disk_calls b f None asked in
      let is = sent-is k m b rests f b.inp rests.over.in_at asked in-valid in
      let clock = sent.host.kernel.clock in
      let t = length (tickets b.host.kernel.past) in
      let P = InStage k clock t u bytes wanted size At end in
      let start : P sent = subst P (sym is) (in-made clock (ap (λ (x : DiskState). x.host.kernel.clock) (sym is))) in
      let found = stage-finds disk_calls f asked b P in_left (in-goes_on k clock t u bytes wanted size At end gives rests.over.in_at.some enough ends) start (in-few sent) in
      let over = in-found k clock t u bytes wanted size At end gives rests.over.in_at.some enough ends found.mid found.finds.is found.finds.found in
      let holds : Holds k clock found.mid = found.finds.is.holds in
      stage-went k clock t u bytes end f asked b found.mid holds over
      (found.is (completion_of (done_of t u over.f 0)) (found-come k clock t u bytes end found.mid holds over found.finds.found))
