-- What a control transfer makes of the tickets of a host: it starts, it is awaited, and it is taken or given up.
use Rattle.std.proofs.Common.{ℕ, zero, suc, arith, ◌≡◌, ◌≢◌, ◌≤◌, List, [], ◌∷◌, length, length-append, slice_get, Option, Some, None, inl, inr, ◌⊎◌, refl, sym, ◌∙◌, ap, subst}
use Rattle.std.specs.Prelude.{option_and_then}
use Rattle.std.specs.Option.{option_map}
use Rattle.std.proofs.lemmas.Bool.{cases_eq}
use Rattle.std.proofs.lemmas.Option.{none-some, same_Some, slice_get_past}
use Rattle.usb_kernel.specs.declared.submission.Submission.{Submission}
use Rattle.usb_kernel.specs.Extends.{Extends}
use Rattle.usb_kernel.specs.Tickets.{tickets}
use Rattle.usb_kernel.specs.Submits.{submit_refusal}
use Rattle.usb_kernel.proofs.Extends.{extends-trans}
use Rattle.usb_kernel.proofs.Places.{slice_get-append_seam}
use Rattle.usb_device_endpoint.specs.BusState.{BusState}
use Rattle.usb_device_tables.specs.History.{value_at}
use Rattle.usb_device_ledger.specs.Entries.{HostTicket, HeldBy, Abandoned, Ended}
use Rattle.usb_device_host.specs.HostState.{HostState}
use Rattle.usb_device_host.specs.HostBus.{held_as, owner_at}
use Rattle.usb_device_host.specs.Controls.{host_started}
use Rattle.usb_device_host.specs.TicketEnds.{host_taken, host_abandoned}
use Rattle.usb_device_host.specs.HostCalls.{host_left}
use Rattle.usb_device_host.specs.HostAwaits.{host_awaited}
use Rattle.usb_device_host.proofs.TurnKeeps.{kept-awaited}
use Rattle.usb_device_host.proofs.CallFrames.{bus-left}
use Rattle.usb_device_host.proofs.CloseLemmas.{abandoned-past, abandoned-others, left-tickets}
use Rattle.usb_device_host.proofs.CountLemmas.{KeepsCount, CountsOneMore, count_kept, count-same, count-trans, taken-count, abandoned-count, left-count, submit_event-count}
use Rattle.usb_device_host.proofs.FollowLemmas.{Follows, KeepsTickets, Adds, tickets_kept, on-same, on-then, on-left, follows-push, submit_event-on, taken-past, taken-others}
use Rattle.usb_device_host.proofs.HeldLemmas.{HoldsNoMore, taken-held, abandoned-held, owner-last}

-- a request is handed in: one more ticket, which is held under the next key
pub adds-started : (h : HostState) (s : Submission) → Adds h (host_started h s)
unfolding host_started
adds-started h s =
    record {
      goes = record {
        past = submit_event-on h.kernel.past (length (tickets h.kernel.past)) s (submit_refusal h.kernel.devices h.kernel.armed s.device);
        tickets = λ t. follows-push h.tickets _ t (slice_get h.tickets t) refl;
      };
      hold = _;
      last = slice_get-append_seam h.tickets _;
    }

pub started-count : (h : HostState) (s : Submission) → CountsOneMore h (host_started h s)
unfolding host_started
started-count h s =
    record {
      count = length-append h.tickets _ ∙ refl;
      past = submit_event-count h.kernel.past (length (tickets h.kernel.past)) s (submit_refusal h.kernel.devices h.kernel.armed s.device);
    }

pub started-owner : (h : HostState) (s : Submission) (t k : ℕ) → owner_at (host_started h s).tickets t ≡ Some k → ((t ≡ length h.tickets) × (k ≡ length h.endpoints)) ⊎ (owner_at h.tickets t ≡ Some k)
unfolding host_started
started-owner h s t k own =
    owner-last h.tickets (record { key = length h.endpoints; endpoint = s.endpoint; kind = s.kind }) t k own

-- a wait until a ticket is found
pub on-awaited : (h : HostState) (t d : ℕ) → KeepsTickets h (host_awaited h t d)
on-awaited h t d = kept-awaited KeepsTickets tickets_kept h t d

pub awaited-count : (h : HostState) (t d : ℕ) → KeepsCount h (host_awaited h t d)
awaited-count h t d = kept-awaited KeepsCount count_kept h t d

-- while a host goes on, whoever holds a ticket held it before
abbrev owner_of : Option HostTicket → Option ℕ
owner_of o = option_map (λ hold. hold.key) (option_and_then held_as o)

held-before : (o p : Option HostTicket) (k : ℕ) → Follows o p → (o ≡ None → p ≡ None) → owner_of p ≡ Some k → owner_of o ≡ Some k
held-before None p k follows none own = absurd (none-some k (sym (ap owner_of (none refl)) ∙ own))
held-before (Some (HeldBy hold)) p k follows none own = sym (ap owner_of follows) ∙ own
held-before (Some (Ended end)) p k follows none own = absurd (none-some k (sym (ap owner_of follows) ∙ own))
held-before (Some (Abandoned key)) p k follows none own =
    elim follows [ inl still ↦ absurd (none-some k (sym (ap owner_of still) ∙ own)) | inr gone ↦ absurd (none-some k (sym (ap owner_of gone) ∙ own)) ]

none-beyond : {X : Type 0} (xs : List X) (t : ℕ) → slice_get xs t ≡ None → length xs ≤ t
none-beyond [] t none = omega arith
none-beyond (x ∷ xs) zero none = absurd (none-some x (sym none))
none-beyond (x ∷ xs) (suc t) none = let IH = none-beyond xs t none in omega arith

pub holds-follows : (old new : HostState) → KeepsTickets old new → KeepsCount old new → HoldsNoMore old new
holds-follows old new keeps count t k own =
    held-before (slice_get old.tickets t) (slice_get new.tickets t) k (keeps.tickets t)
    (λ none. let beyond = none-beyond old.tickets t none in slice_get_past new.tickets t (omega (arith, count.count))) own

-- a host parts with a ticket, if this is one: it is held no more, and the others are as they were
pub record Parts (old new : HostState) (ticket : Option ℕ) : Type 0 where
  pub past : Extends old.kernel.past new.kernel.past
  pub count : KeepsCount old new
  pub others : (u : ℕ) → ticket ≢ Some u → slice_get new.tickets u ≡ slice_get old.tickets u
  pub held : (u k : ℕ) → owner_at new.tickets u ≡ Some k → (ticket ≢ Some u) × (owner_at old.tickets u ≡ Some k)

pub parts-none : (h : HostState) → Parts h h None
parts-none h =
    record { past = (on-same h).past; count = count-same h; others = λ u apart. refl; held = λ u k own. (λ same. none-some u same, own) }

left-ticket : (h : HostState) (key u : ℕ) → slice_get (host_left h key).tickets u ≡ slice_get h.tickets u
unfolding host_left
left-ticket h key u = ap (λ (ts : List HostTicket). slice_get ts u) (left-tickets h key (value_at h.endpoints key))

left-owner : (h : HostState) (key u k : ℕ) → owner_at (host_left h key).tickets u ≡ Some k → owner_at h.tickets u ≡ Some k
left-owner h key u k own = sym (ap (λ (b : BusState). b.owner u) (bus-left h key)) ∙ own

apart-some : (t u : ℕ) → u ≢ t → Some t ≢ Some u
apart-some t u apart same = apart (sym (same_Some t u same))

some-apart : (t u : ℕ) → Some t ≢ Some u → u ≢ t
some-apart t u apart same = apart (ap (λ x. Some x) (sym same))

-- its completion is taken, and its endpoint left
pub parts-taken : (h : HostState) (t key : ℕ) → Parts h (host_left (host_taken h t) key) (Some t)
parts-taken h t key =
    let mid = host_taken h t in
    record {
      past = subst (λ past. Extends past (host_left mid key).kernel.past) (taken-past h t) (on-left mid key).past;
      count = count-trans h mid (host_left mid key) (taken-count h t) (left-count mid key);
      others = λ u apart. left-ticket mid key u ∙ taken-others h t u (some-apart t u apart);
      held = λ u k own. let was = taken-held h t u k (left-owner mid key u k own) in (apart-some t u was.0, was.1);
    }

-- or it is given up
pub parts-abandoned : (h : HostState) (t key : ℕ) → Parts h (host_left (host_abandoned h t) key) (Some t)
parts-abandoned h t key =
    let mid = host_abandoned h t in
    record {
      past = subst (λ past. Extends past (host_left mid key).kernel.past) (abandoned-past h t) (on-left mid key).past;
      count = count-trans h mid (host_left mid key) (abandoned-count h t) (left-count mid key);
      others = λ u apart. left-ticket mid key u ∙ abandoned-others h t u (some-apart t u apart);
      held = λ u k own. let was = abandoned-held h t u k (left-owner mid key u k own) in (apart-some t u was.0, was.1);
    }

-- a request is handed in, awaited, and taken at once: nobody holds its ticket then, and the host goes on
pub record AddsTaken (old new : HostState) : Type 0 where
  pub goes : KeepsTickets old new
  pub held : HoldsNoMore old new

abbrev pub taken_at_once : HostState → Submission → ℕ → ℕ → HostState
taken_at_once h s d key =
    host_left (host_taken (host_awaited (host_started h s) (length (tickets h.kernel.past)) d) (length (tickets h.kernel.past))) key

pub controlled-count : (h : HostState) (s : Submission) (d key : ℕ) → CountsOneMore h (taken_at_once h s d key)
controlled-count h s d key =
    let t = length (tickets h.kernel.past) in
    let first = host_started h s in
    let mid = host_awaited first t d in
    let one = started-count h s in
    let rest = count-trans first mid (taken_at_once h s d key) (awaited-count first t d) (parts-taken mid t key).count in
    record { count = rest.count ∙ one.count; past = rest.past ∙ one.past }

follows-fresh : (o p : Option HostTicket) → o ≡ None → Follows o p
follows-fresh None p is = tt
follows-fresh (Some x) p is = absurd (none-some x (sym is))

pub controlled-adds : (h : HostState) (s : Submission) (d key : ℕ) → length h.tickets ≡ length (tickets h.kernel.past) → AddsTaken h (taken_at_once h s d key)
controlled-adds h s d key counted =
    let t = length (tickets h.kernel.past) in
    let first = host_started h s in
    let mid = host_awaited first t d in
    let last = taken_at_once h s d key in
    let parts = parts-taken mid t key in
    let adds = adds-started h s in
    let waits = on-awaited first t d in
    let goes = on-then h first mid adds.goes waits in
    record {
      goes = record {
        past = extends-trans h.kernel.past mid.kernel.past last.kernel.past goes.past parts.past;
        tickets = λ u. elim (cases_eq u t) [
          | inl same ↦ follows-fresh (slice_get h.tickets u) (slice_get last.tickets u) (slice_get_past h.tickets u (omega arith))
          | inr apart ↦ subst (Follows (slice_get h.tickets u)) (sym (parts.others u (apart-some t u apart))) (goes.tickets u)
        ];
      };
      held = λ u k own.
          let was = parts.held u k own in
          let before = holds-follows first mid waits (awaited-count first t d) u k was.1 in
          elim (started-owner h s u k before) [
            | inl new ↦ absurd (was.0 (ap (λ x. Some x) (sym (new.0 ∙ counted))))
            | inr old ↦ old
          ];
    }
