-- An endpoint is taken out of its name and closed, or a reader or a writer with its endpoint, or a client with both.
use Rattle.std.proofs.Common.{◌≡◌, ℕ, arith, List, [], ◌∷◌, ◌+◌, ◌++◌, ◌≢◌, length, length-append, Option, Some, None, Bool, true, false, refl, ap, sym, ◌∙◌}
use Rattle.std.specs.Prelude.{◌==◌, option_and_then}
use Rattle.std.specs.Option.{option_map}
use Rattle.std.proofs.lemmas.Bool.{cond_both, eq-eqb, eqb-true}
use Rattle.std.proofs.lemmas.Option.{same_Some}
use Rattle.usb_device_endpoint.specs.BusState.{BusState, without_key}
use Rattle.usb_kernel_devices.specs.declared.step.KernelStep.{KernelStep}
use Rattle.usb_kernel.specs.Extends.{Extends}
use Rattle.usb_device_host.proofs.ClaimFrames.{goes-trans}
use Rattle.usb_device_ledger.proofs.DeviceLemmas.{counts-same}
use Rattle.usb_device_endpoint.specs.EndpointState.{EndpointState}
use Rattle.usb_device_endpoint.specs.Handles.{AreHeld, Stands, KeepsOthers}
use Rattle.usb_device_endpoint.proofs.Frames.{Stands-other, keeps_others}
use Rattle.usb_device_endpoint.specs.Closes.{all_discarded, all_abandoned, after_close}
use Rattle.usb_device_host.specs.HostState.{HostState}
use Rattle.usb_device_ledger.specs.Entries.{Hold, HostTicket}
use Rattle.usb_device_host.specs.HostBus.{bus_of, held_as, key_at, owner_at}
use Rattle.usb_device_host.specs.HostFrames.{LineGoesOn}
use Rattle.usb_device_host.specs.HostCalls.{host_discarded, host_left, host_calls}
use Rattle.usb_device_host.specs.TicketEnds.{host_abandoned}
use Rattle.usb_device_host.proofs.CallFrames.{keeps-open, keeps-abandoned, line-left, interfaces-left, bus-left}
use Rattle.usb_device_host.proofs.WaitFrames.{line-keeps, line-trans}
use Rattle.usb_io.specs.Readers.{ReaderState}
use Rattle.usb_io.specs.Writers.{WriterState}
use Rattle.usb_msg.specs.Clients.{ClientState, StandBoth}
use Rattle.usb_session_calls.specs.Names.{named, freed}
use Rattle.usb_session_calls.specs.EndpointNames.{EndpointName, Own, OfReader, OfWriter}
use Rattle.usb_session_calls.specs.State.{State}
use Rattle.usb_session_calls.specs.Closes.{closed}
use Rattle.usb_session_calls.specs.Readers.{reader_closed}
use Rattle.usb_session_calls.specs.Writers.{writer_closed}
use Rattle.usb_session_calls.specs.Clients.{client_closed}
use Rattle.usb_session_calls.specs.SessionState.{SessionState, IsSound, open_under}
use Rattle.usb_session_calls.specs.Relation.{Represents}
use Rattle.usb_session_calls.proofs.Answering.{host_is}
use Rattle.usb_session_calls.proofs.Called.{KeepsSession, with_open, sound-gone, represents-freed, represents-reader_freed, represents-writer_freed, represents-client_freed, endpoints_kept, readers_kept, writers_kept, clients_kept}
use Rattle.usb_session_calls.proofs.ClientNames.{client-stands, closed-sound as clients-closed-sound}
use Rattle.usb_session_calls.proofs.FutureSessions.{LeavesKey}
use Rattle.usb_session_calls.proofs.EndpointNameLemmas.{freed-changes}
use Rattle.usb_session_calls.proofs.NameLemmas.{freed-none}
use Rattle.usb_session_calls.proofs.NamedKeys.{OpensNone, none-goes}
use Rattle.usb_session_calls.proofs.SubmitCode.{line-all_discarded}
use Rattle.usb_session.proofs.KeptNames.{kept-at, kept-none}
use Rattle.usb_session.proofs.Replaced.{Replaces, reader_endpoint, writer_endpoint, client_writer_endpoint, client_reader_endpoint, own-replaces, reader-replaces, writer-replaces}
use Rattle.usb_session.proofs.OrderLemmas.{before-past, left-past, left-apart}
use Rattle.usb_session.proofs.TimesLemmas.{times, one-apart}
use Rattle.usb_session_streams.proofs.AccountLemmas.{of-is, of-closed, key-goes}

line-all_abandoned : (h : HostState) (ts : List ℕ) → LineGoesOn h (all_abandoned host_abandoned h ts)
line-all_abandoned h [] = line-keeps h h (keeps-open h)
line-all_abandoned h (t ∷ ts) =
    line-trans h (host_abandoned h t) (all_abandoned host_abandoned (host_abandoned h t) ts) (line-keeps h (host_abandoned h t) (keeps-abandoned h t)) (line-all_abandoned (host_abandoned h t) ts)

abbrev before_left : HostState → EndpointState → HostState
before_left h e = all_abandoned host_abandoned (all_discarded host_discarded h e.pending) e.pending

line-before_left : (h : HostState) (e : EndpointState) → LineGoesOn h (before_left h e)
line-before_left h e =
    line-trans h (all_discarded host_discarded h e.pending) (before_left h e) (line-all_discarded h e.pending) (line-all_abandoned (all_discarded host_discarded h e.pending) e.pending)

no_front : (front rest : List KernelStep) → [] ≡ front ++ rest → rest ≡ []
no_front [] rest is = sym is
no_front (s ∷ ss) rest is = absurd (cc)

-- between lines no step is left
keeps-line : (old new : HostState) → old.steps ≡ [] → Extends old.kernel.past new.kernel.past → LineGoesOn old new → KeepsSession old new
keeps-line old new idle past line =
    record { idle = no_front line.front new.steps (sym idle ∙ line.steps); past = past; devices = counts-same old.devices new.devices line.devices; interfaces = line.interfaces }

-- the line, what is claimed and the places for steps are kept
keeps-closed : (h : HostState) (e : EndpointState) → h.steps ≡ [] → KeepsSession h (after_close host_calls h e)
keeps-closed h e idle =
    let before = keeps-line h (before_left h e) idle (before-past h e) (line-before_left h e) in
    let line = line-left (before_left h e) e.key in
    record {
      idle = line.steps ∙ before.idle;
      past = left-past h e;
      devices = λ k. counts-same (before_left h e).devices _ line.devices k ∙ before.devices k;
      interfaces = goes-trans h.interfaces (before_left h e).interfaces (host_left (before_left h e) e.key).interfaces before.interfaces (interfaces-left (before_left h e) e.key);
    }

-- its key is open no more, and no other is that was not
left-key : (h : HostState) (key k : ℕ) → key_at (host_left h key).endpoints k ≡ without_key (key_at h.endpoints) key k
left-key h key k = ap (λ (b : BusState). b.keys k) (bus-left h key)

without-open : (keys : ℕ → Bool) (key k : ℕ) → without_key keys key k ≡ true → keys k ≡ true
without-open keys key k open_ = cond_both (key == k) false (keys k) (λ b. b ≡ true → keys k ≡ true) (λ same no_. absurd (cc)) (λ other is. is) open_

none-closed : (h : HostState) (e : EndpointState) → OpensNone h.endpoints (after_close host_calls h e).endpoints
none-closed h e k open_ =
    let before = before_left h e in
    none-goes h.endpoints before.endpoints (line-before_left h e).endpoints k (without-open (key_at before.endpoints) e.key k (sym (left-key before e.key k) ∙ open_))

key-closed : (h : HostState) (e : EndpointState) → key_at (after_close host_calls h e).endpoints e.key ≡ false
key-closed h e = left-key (before_left h e) e.key e.key ∙ rw (eq-eqb e.key e.key refl) refl

pub closed-spare : (h now : HostState) (e : EndpointState) → h.steps ≡ [] → now ≡ after_close host_calls h e → now.kernel.spare ≡ h.kernel.spare
closed-spare h now e idle bus =
    let before = line-before_left h e in
    let none : length before.front + length (before_left h e).steps ≡ 0 = sym (length-append before.front (before_left h e).steps) ∙ ap length (sym before.steps ∙ idle) in
    ap (λ (g : HostState). g.kernel.spare) bus ∙ (line-left (before_left h e) e.key).spare ∙ omega (arith, before.spare, none)

-- what endpoints of other keys hold has not ended
held-apart : (owner : ℕ → Option ℕ) (key k : ℕ) (ts : List ℕ) (u : ℕ) → AreHeld owner key ts → owner u ≡ Some k → k ≢ key → times u ts ≡ 0
held-apart owner key k [] u held own other = refl
held-apart owner key k (t ∷ ts) u held own other =
    let apart : t ≢ u = λ same. other (same_Some k key (sym own ∙ ap owner (sym same) ∙ held.0)) in
    let first = one-apart u t apart in
    let rest = held-apart owner key k ts u held.2 own other in omega arith

kept-key : (keys : ℕ → Bool) (key k : ℕ) → k ≢ key → keys k ≡ true → without_key keys key k ≡ true
kept-key keys key k other is = cond_both (key == k) false (keys k) (λ b. b ≡ true) (λ same. absurd (other (sym (eqb-true key k same)))) (λ no_. is)

others-closed : (h : HostState) (e : EndpointState) → Stands (bus_of h) e → KeepsOthers (bus_of h) (bus_of (after_close host_calls h e)) e.key
others-closed h e stands =
    let before = before_left h e in
    keeps_others (bus_of h) (bus_of (after_close host_calls h e)) e.key
    (λ u k other own. ap (λ (o : Option HostTicket). option_map (λ (hold : Hold). hold.key) (option_and_then held_as o)) (left-apart h e u (held-apart (owner_at h.tickets) e.key k e.pending u stands.held own other)) ∙ own)
    (λ k other is. left-key before e.key k ∙ kept-key (key_at before.endpoints) e.key k other (key-goes h.endpoints before.endpoints k (line-before_left h e).endpoints is))

pub closed-leaves : (h : HostState) (e : EndpointState) → h.steps ≡ [] → Stands (bus_of h) e → LeavesKey h (after_close host_calls h e) e.key e.pending
closed-leaves h e idle stands =
    record {
      session = keeps-closed h e idle;
      others = others-closed h e stands;
      none = none-closed h e;
      closed = key-closed h e;
      accounts = of-closed h e stands.key_is_open;
    }

-- so two of them are closed, one after the other
pub both-leave : (h : HostState) (x : ClientState) → h.steps ≡ [] → StandBoth (bus_of h) x
    → LeavesKey h (after_close host_calls h x.writer.endpoint) x.writer.endpoint.key x.writer.endpoint.pending
    × LeavesKey (after_close host_calls h x.writer.endpoint) (after_close host_calls (after_close host_calls h x.writer.endpoint) x.reader.endpoint) x.reader.endpoint.key x.reader.endpoint.pending
both-leave h x idle stand =
    let mid = after_close host_calls h x.writer.endpoint in
    let first = closed-leaves h x.writer.endpoint idle stand.out in
    (first, closed-leaves mid x.reader.endpoint first.session.idle (Stands-other (bus_of h) (bus_of mid) x.writer.endpoint.key x.reader.endpoint first.others (λ same. stand.apart (sym same)) stand.inp))

pub both-spare : (h now : HostState) (x : ClientState) → h.steps ≡ [] → StandBoth (bus_of h) x → now ≡ after_close host_calls (after_close host_calls h x.writer.endpoint) x.reader.endpoint → now.kernel.spare ≡ h.kernel.spare
both-spare h now x idle stand bus =
    let mid = after_close host_calls h x.writer.endpoint in
    let leaves = both-leave h x idle stand in
    closed-spare mid now x.reader.endpoint leaves.0.session.idle bus ∙ closed-spare h mid x.writer.endpoint idle refl

-- the session in which the endpoint of a name was closed
sound-closed_under : (s : SessionState) (now : HostState) (es : List (Option EndpointState)) (rs : List (Option ReaderState)) (ws : List (Option WriterState)) (e : EndpointName) (x : EndpointState) → IsSound s → open_under s e ≡ Some x → Replaces s es rs ws s.clients e None → now ≡ after_close host_calls s.host x → KeepsOthers (bus_of s.host) (bus_of now) x.key → IsSound (with_open s now es rs ws s.clients)
sound-closed_under s now es rs ws e x sound was gone bus others =
    sound-gone s now es rs ws s.clients e x sound was gone.counts (rw bus (keeps-closed s.host x sound.idle)) others
    (rw bus (none-closed s.host x))
    gone.changed (ap (λ (g : HostState). key_at g.endpoints x.key) bus ∙ key-closed s.host x)
    (of-is s.host (after_close host_calls s.host x) now x.key x.pending [] [] bus refl (of-closed s.host x (sound.endpoints_stand e x was).key_is_open))

-- the host is that of the state
closed-host : (s : SessionState) (state : State) (now : HostState) (x y : EndpointState) → Represents s state → x ≡ y → now ≡ after_close host_calls s.host y → now ≡ after_close host_calls state.host x
closed-host s state now x y r same bus = bus ∙ ap (λ (g : HostState). after_close host_calls g y) (host_is s state r) ∙ ap (after_close host_calls state.host) (sym same)

module _ (s S : SessionState) (now : HostState) (n : ℕ) (sound : IsSound s) (view : s ≡ S) where
  -- an endpoint was closed, or nothing was open under its name
  module _ (mid : List (Option EndpointState)) (rest : mid ≡ freed s.endpoints n) where
    pub closed-sound : (x : EndpointState) → named s.endpoints n ≡ Some x → now ≡ after_close host_calls s.host x → KeepsOthers (bus_of s.host) (bus_of now) x.key → IsSound (record s { host = now; endpoints = mid })
    closed-sound x was bus others =
        rw rest (sound-closed_under s now (freed s.endpoints n) s.readers s.writers (Own n) x sound was (own-replaces s n (freed s.endpoints n) None (freed-changes s.endpoints n)) bus others)

    pub closed-represents : (x : EndpointState) → named s.endpoints n ≡ Some x → now ≡ after_close host_calls s.host x → (state : State) → Represents S state → Represents (record s { host = now; endpoints = mid }) (closed state n)
    unfolding closed
    closed-represents x was bus state r =
        let here = view ∙ r in
        let k = kept-at _ _ _ (endpoints_kept s state here) n x was in
        let host = closed-host s state now k.entry.state x here k.same bus in
        rw (k.is, rest, ← host) (represents-freed s state now n here)

    pub none-closed_represents : named s.endpoints n ≡ None → (state : State) → Represents S state → Represents (record s { endpoints = mid }) (closed state n)
    unfolding closed
    none-closed_represents none state r =
        let here = view ∙ r in
        rw (kept-none _ _ _ (endpoints_kept s state here) n none, rest, freed-none s.endpoints n none) here

  -- a reader, with its endpoint
  module _ (mid : List (Option ReaderState)) (rest : mid ≡ freed s.readers n) where
    pub reader-sound : (x : ReaderState) → named s.readers n ≡ Some x → now ≡ after_close host_calls s.host x.endpoint → KeepsOthers (bus_of s.host) (bus_of now) x.endpoint.key → IsSound (record s { host = now; readers = mid })
    reader-sound x was bus others =
        rw rest (sound-closed_under s now s.endpoints (freed s.readers n) s.writers (OfReader n) x.endpoint sound (ap (option_map reader_endpoint) was) (reader-replaces s n (freed s.readers n) None (freed-changes s.readers n)) bus others)

    pub reader-represents : (x : ReaderState) → named s.readers n ≡ Some x → now ≡ after_close host_calls s.host x.endpoint → (state : State) → Represents S state → Represents (record s { host = now; readers = mid }) (reader_closed state n)
    unfolding reader_closed
    reader-represents x was bus state r =
        let here = view ∙ r in
        let k = kept-at _ _ _ (readers_kept s state here) n x was in
        let host = closed-host s state now k.entry.state.endpoint x.endpoint here (ap reader_endpoint k.same) bus in
        rw (k.is, rest, ← host) (represents-reader_freed s state now n here)

    pub none-reader_represents : named s.readers n ≡ None → (state : State) → Represents S state → Represents (record s { readers = mid }) (reader_closed state n)
    unfolding reader_closed
    none-reader_represents none state r =
        let here = view ∙ r in
        rw (kept-none _ _ _ (readers_kept s state here) n none, rest, freed-none s.readers n none) here

  -- a writer, with its endpoint
  module _ (mid : List (Option WriterState)) (rest : mid ≡ freed s.writers n) where
    pub writer-sound : (x : WriterState) → named s.writers n ≡ Some x → now ≡ after_close host_calls s.host x.endpoint → KeepsOthers (bus_of s.host) (bus_of now) x.endpoint.key → IsSound (record s { host = now; writers = mid })
    writer-sound x was bus others =
        rw rest (sound-closed_under s now s.endpoints s.readers (freed s.writers n) (OfWriter n) x.endpoint sound (ap (option_map writer_endpoint) was) (writer-replaces s n (freed s.writers n) None (freed-changes s.writers n)) bus others)

    pub writer-represents : (x : WriterState) → named s.writers n ≡ Some x → now ≡ after_close host_calls s.host x.endpoint → (state : State) → Represents S state → Represents (record s { host = now; writers = mid }) (writer_closed state n)
    unfolding writer_closed
    writer-represents x was bus state r =
        let here = view ∙ r in
        let k = kept-at _ _ _ (writers_kept s state here) n x was in
        let host = closed-host s state now k.entry.state.endpoint x.endpoint here (ap writer_endpoint k.same) bus in
        rw (k.is, rest, ← host) (represents-writer_freed s state now n here)

    pub none-writer_represents : named s.writers n ≡ None → (state : State) → Represents S state → Represents (record s { writers = mid }) (writer_closed state n)
    unfolding writer_closed
    none-writer_represents none state r =
        let here = view ∙ r in
        rw (kept-none _ _ _ (writers_kept s state here) n none, rest, freed-none s.writers n none) here

  -- a client, with both endpoints
  module _ (mid : List (Option ClientState)) (rest : mid ≡ freed s.clients n) where
    pub client-sound : (x : ClientState) → named s.clients n ≡ Some x → now ≡ after_close host_calls (after_close host_calls s.host x.writer.endpoint) x.reader.endpoint → IsSound (record s { host = now; clients = mid })
    client-sound x was bus =
        let leaves = both-leave s.host x sound.idle (client-stands s n x sound was) in
        rw (rest, bus) (clients-closed-sound s (after_close host_calls s.host x.writer.endpoint) (after_close host_calls (after_close host_calls s.host x.writer.endpoint) x.reader.endpoint) n x was sound leaves.0 leaves.1)

    pub client-represents : (x : ClientState) → named s.clients n ≡ Some x → now ≡ after_close host_calls (after_close host_calls s.host x.writer.endpoint) x.reader.endpoint → (state : State) → Represents S state → Represents (record s { host = now; clients = mid }) (client_closed state n)
    unfolding client_closed
    client-represents x was bus state r =
        let here = view ∙ r in
        let k = kept-at _ _ _ (clients_kept s state here) n x was in
        let first : after_close host_calls s.host x.writer.endpoint ≡ after_close host_calls state.host k.entry.state.writer.endpoint = closed-host s state (after_close host_calls s.host x.writer.endpoint) k.entry.state.writer.endpoint x.writer.endpoint here (ap client_writer_endpoint k.same) refl in
        let host : now ≡ after_close host_calls (after_close host_calls state.host k.entry.state.writer.endpoint) k.entry.state.reader.endpoint =
        bus ∙ ap (λ (g : HostState). after_close host_calls g x.reader.endpoint) first ∙ ap (after_close host_calls (after_close host_calls state.host k.entry.state.writer.endpoint)) (sym (ap client_reader_endpoint k.same)) in
        rw (k.is, rest, ← host) (represents-client_freed s state now n here)

    pub none-client_represents : named s.clients n ≡ None → (state : State) → Represents S state → Represents (record s { clients = mid }) (client_closed state n)
    unfolding client_closed
    none-client_represents none state r =
        let here = view ∙ r in
        rw (kept-none _ _ _ (clients_kept s state here) n none, rest, freed-none s.clients n none) here
