-- A call of a reader or a writer submits and takes tickets of the endpoint that it holds, and leads to what it left of the host and the endpoint.
use Rattle.std.proofs.Common.{◌≡◌, ℕ, ◌≤◌, ◌+◌, ◌-◌, suc, arith, true, false, List, [], ◌∷◌, ◌++◌, length, drop, Option, Some, None, inl, inr, refl, ap, sym, ◌∙◌, subst, append_assoc, append-nil}
use Rattle.usb_xfer.specs.BufferState.{BufferState}
use Rattle.usb_kernel.specs.Tickets.{tickets}
use Rattle.usb_device_endpoint.specs.EndpointState.{EndpointState}
use Rattle.usb_device_endpoint.specs.Submits.{entered}
use Rattle.usb_device_endpoint.specs.Waits.{waited}
use Rattle.usb_device_host.specs.HostState.{HostState}
use Rattle.usb_device_host.specs.HostCalls.{host_calls}
use Rattle.usb_device_host.specs.TicketEnds.{host_taken}
use Rattle.usb_device_host.proofs.CountLemmas.{entered-count, waited-count, taken-count}
use Rattle.usb_device_host.proofs.FollowLemmas.{on-waited}
use Rattle.usb_session_streams.specs.Numbers.{numbers_from}
use Rattle.usb_session_calls.specs.EndpointNames.{EndpointName}
use Rattle.usb_session_calls.proofs.EndpointNameLemmas.{Changed, cases_name}
use Rattle.usb_session_calls.specs.State.{Endpoint}
use Rattle.usb_session_calls.specs.Readers.{taken_by_call}
use Rattle.usb_session_calls.specs.Answer.{Answer}
use Rattle.usb_session_calls.specs.Polls.{front_taken}
use Rattle.usb_session.proofs.TakenTickets.{taken-are}
use Rattle.usb_session.proofs.Views.{View, view_of, tickets_seen, with_open}
use Rattle.usb_session.proofs.Does.{Acts, Changes, IsStream, says_done, goes, submits, reads, ends, quiet-beside, open-changes}

-- how many tickets a host has had
abbrev count_in : HostState → ℕ
count_in host = length (tickets host.kernel.past)

-- a call goes on: the endpoint (h before the call) is this one to it by now (x), and these tickets were taken
abbrev by_now : Endpoint → List ℕ → EndpointState → Endpoint
by_now h taken x = record h { state = x; taken = h.taken ++ taken }

abbrev at_call : (v : View) (e : EndpointName) (h : Endpoint) → v.opened e ≡ Some h → HostState → Endpoint → View
at_call v e h here host g = with_open v host e (Some g) (λ y some. v.within e h here)

-- two changes under one name
pub then-changes : {old mid new : View} {first second : HostState} {e : EndpointName} {o p : Option Endpoint} → Changes old mid first e o → Changes old new second e p → Changes mid new second e p
then-changes one two =
    record {
      host_is = two.host_is;
      endpoints = record { here = two.endpoints.here; others = λ d apart. two.endpoints.others d apart ∙ sym (one.endpoints.others d apart) };
      names = two.names ∙ sym one.names;
      futures = two.futures ∙ sym one.futures;
    }

same-changed : {X : Type 0} {old mid new : EndpointName → Option X} {e : EndpointName} {o p : Option X} → Changed old mid e o → Changed old new e p → p ≡ o → (d : EndpointName) → new d ≡ mid d
same-changed {mid = mid} {new = new} {e = e} first second same d =
    elim (cases_name d e) [
      | inl is ↦ ap new is ∙ second.here ∙ same ∙ sym first.here ∙ ap mid (sym is)
      | inr apart ↦ second.others d apart ∙ sym (first.others d apart)
    ]

-- it has come to this host, and the endpoint is this one to it (x)
pub record Leads (a : Answer) (v : View) (e : EndpointName) (h : Endpoint) (here : v.opened e ≡ Some h) (host : HostState) (x : EndpointState) : Type 0 where
  taken : List ℕ
  are : taken ++ x.pending ≡ h.state.pending ++ numbers_from (tickets_seen v) (count_in host - tickets_seen v)
  more : tickets_seen v ≤ count_in host
  leads : Acts a (at_call v e h here host (by_now h taken x)) [] [] → Acts a v [] []

module _ (a : Answer) (v : View) (e : EndpointName) (h : Endpoint) (stream : IsStream e) (here : v.opened e ≡ Some h) (other : says_done a.line ≡ false) where
  at-changes : (g : Endpoint) (host : HostState) → Changes v (at_call v e h here host g) host e (Some g)
  at-changes g host = open-changes v host e (Some g) (λ y some. v.within e h here)

  -- from one of its states to another
  changes-at : (taken next : List ℕ) (x y : EndpointState) (host after : HostState) → Changes (at_call v e h here host (by_now h taken x)) (at_call v e h here after (by_now h next y)) after e (Some (by_now h next y))
  changes-at taken next x y host after = then-changes (at-changes (by_now h taken x) host) (at-changes (by_now h next y) after)

  here-now : (taken : List ℕ) (x : EndpointState) (host : HostState) → (at_call v e h here host (by_now h taken x)).opened e ≡ Some (by_now h taken x)
  here-now taken x host = (at-changes (by_now h taken x) host).endpoints.here

  pub leads-start : (x : EndpointState) → x ≡ h.state → Leads a v e h here v.host x
  leads-start x same =
      let m = tickets_seen v in
      let none : m - m ≡ 0 = omega arith in
      let first : by_now h [] x ≡ h = ap (λ (z : EndpointState). by_now h [] z) same ∙ ap (λ (l : List ℕ). record h { taken = l }) (append-nil h.taken) in
      let c = at-changes (by_now h [] x) v.host in
      record {
        taken = [];
        are = ap (λ (z : EndpointState). z.pending) same ∙ sym (ap (λ n. h.state.pending ++ numbers_from m n) none ∙ append-nil h.state.pending);
        more = omega arith;
        leads = λ rest. goes (quiet-beside v (at_call v e h here v.host (by_now h [] x)) refl refl (λ d. sym (same-changed c.endpoints (stays here) (ap (λ (z : Endpoint). Some z) (sym first)) d)) c.names c.futures) rest;
      }
    where
      stays : v.opened e ≡ Some h → Changed v.opened v.opened e (Some h)
      stays at = record { here = at; others = λ d apart. refl }

  -- a submission
  pub leads-send : (host : HostState) (x : EndpointState) (b : BufferState) → Leads a v e h here host x → Leads a v e h here (entered host_calls host x None b) (record x { pending = x.pending ++ count_in host ∷ [] })
  leads-send host x b l =
      let m = tickets_seen v in
      let n = count_in host in
      let after = entered host_calls host x None b in
      let one = (entered-count host x None b).past in
      let more = l.more in
      let next : count_in after - m ≡ suc (n - m) = omega (arith, one, more) in
      let last : m + (n - m) ≡ n = omega (arith, more) in
      let y : EndpointState = record x { pending = x.pending ++ n ∷ [] } in
      record {
        taken = l.taken;
        are =
            sym (append_assoc l.taken x.pending (n ∷ []))
            ∙ ap (λ (ts : List ℕ). ts ++ n ∷ []) l.are
            ∙ append_assoc h.state.pending (numbers_from m (n - m)) (n ∷ [])
            ∙ ap (λ (j : ℕ). h.state.pending ++ (numbers_from m (n - m) ++ j ∷ [])) (sym last)
            ∙ sym (ap (λ (k : ℕ). h.state.pending ++ numbers_from m k) next);
        more = omega (arith, one, more);
        leads = λ rest. l.leads (submits e None b (by_now h l.taken x) (here-now l.taken x host) (changes-at l.taken l.taken x y host after) rest);
      }

  -- a wait
  pub leads-wait : (host : HostState) (x : EndpointState) (front timeout : ℕ) → Leads a v e h here host x → Leads a v e h here (waited host_calls front timeout host) x
  leads-wait host x front timeout l =
      let m = tickets_seen v in
      let count = waited-count host front timeout in
      let same = count.past in
      let more = l.more in
      record {
        taken = l.taken;
        are = l.are ∙ sym (ap (λ (k : ℕ). h.state.pending ++ numbers_from m (k - m)) same);
        more = omega (arith, same, more);
        leads = λ rest. l.leads (goes (record { keeps = on-waited host front timeout; count = count; endpoints = λ d. refl; names = refl; futures = refl }) rest);
      }

  -- journal and tickets stay as they were
  pub leads-aside : (host now : HostState) (x : EndpointState) → now.kernel.past ≡ host.kernel.past → now.tickets ≡ host.tickets → Leads a v e h here host x → Leads a v e h here now x
  leads-aside host now x past held l =
      let m = tickets_seen v in
      let same : count_in now ≡ count_in host = ap (λ p. length (tickets p)) past in
      let more = l.more in
      record {
        taken = l.taken;
        are = l.are ∙ sym (ap (λ (k : ℕ). h.state.pending ++ numbers_from m (k - m)) same);
        more = omega (arith, same, more);
        leads = λ rest. l.leads (goes (quiet-beside (at_call v e h here host (by_now h l.taken x)) (at_call v e h here now (by_now h l.taken x)) past held (λ d. refl) refl refl) rest);
      }

  -- the front is taken
  pub leads-take : (host : HostState) (x : EndpointState) (front : ℕ) (others : List ℕ) → x.pending ≡ front ∷ others → Leads a v e h here host x → Leads a v e h here (host_taken host front) (record x { pending = others })
  leads-take host x front others is l =
      let m = tickets_seen v in
      let same = (taken-count host front).past in
      let more = l.more in
      let y : EndpointState = record x { pending = others } in
      let next = l.taken ++ front ∷ [] in
      let now : front_taken front (by_now h l.taken x) ≡ by_now h next y =
      ap (λ (p : List ℕ). record h { state = record x { pending = drop 1 p }; taken = (h.taken ++ l.taken) ++ front ∷ [] }) is
      ∙ ap (λ (ts : List ℕ). record h { state = y; taken = ts }) (append_assoc h.taken l.taken (front ∷ [])) in
      record {
        taken = next;
        are =
            append_assoc l.taken (front ∷ []) others ∙ ap (λ (p : List ℕ). l.taken ++ p) (sym is) ∙ l.are
            ∙ sym (ap (λ (k : ℕ). h.state.pending ++ numbers_from m (k - m)) same);
        more = omega (arith, same, more);
        leads = λ rest. l.leads (reads e front others (by_now h l.taken x) stream (here-now l.taken x host) is other
            (subst (λ g. Changes (at_call v e h here host (by_now h l.taken x)) (at_call v e h here (host_taken host front) (by_now h next y)) (host_taken host front) e (Some g)) (sym now)
            (changes-at l.taken next x y host (host_taken host front))) rest);
      }

  -- so it comes to the state behind the call, where the endpoint is this one to it (x)
  pub called-acts : (host : HostState) (x : EndpointState)
      → Changes v (view_of a.state) host e (Some (record h { state = x; taken = h.taken ++ taken_by_call (tickets_seen v) (count_in host) h.state.pending x.pending })) → Leads a v e h here host x → Acts a v [] []
  called-acts host x changes l =
      let m = tickets_seen v in
      let by_call = taken-are m (count_in host) h.state.pending x.pending l.taken (sym l.are) in
      let at = at-changes (by_now h l.taken x) host in
      let c = then-changes at changes in
      l.leads (ends other (quiet-beside (at_call v e h here host (by_now h l.taken x)) (view_of a.state) (ap (λ (g : HostState). g.kernel.past) changes.host_is) (ap (λ (g : HostState). g.tickets) changes.host_is)
      (same-changed at.endpoints changes.endpoints (ap (λ (ts : List ℕ). Some (by_now h ts x)) by_call)) c.names c.futures))
