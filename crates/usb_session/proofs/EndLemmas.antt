-- The end of a session.
use Rattle.std.proofs.Common.{Bool, true, false, ◌≡◌, ◌≢◌, ℕ, ◌<◌, ◌+◌, arith, suc, zero, List, slice_get, length, Option, Some, None, refl, ap, sym, ◌∙◌, subst, inl, inr}
use Rattle.std.specs.Option.{option_map}
use Rattle.std.proofs.lemmas.Bool.{cases_eq, cases_lt}
use Rattle.std.proofs.lemmas.Bool.Decides.{nat_tests}
use Rattle.std.proofs.lemmas.Option.{none-some, same_Some}
use Rattle.usb_device_endpoint.specs.EndpointState.{EndpointState}
use Rattle.usb_device_host.specs.HostState.{HostState}
use Rattle.usb_device_ledger.specs.Devices.{is_held}
use Rattle.usb_device_host.specs.DeviceLaws.{holds_at}
use Rattle.std.specs.Prelude.{option_and_then, nat_le, if◌then◌else◌}
use Rattle.usb_device_ledger.specs.Entries.{ClaimedInterface}
use Rattle.usb_device_ledger.specs.declared.opened.OpenDevice.{OpenDevice}
use Rattle.usb_device_ledger.specs.Kept.{EachIsOwned, EachLives}
use Rattle.usb_device_host.specs.HostFrames.{LineGoesOn}
use Rattle.usb_device_host.specs.HostCalls.{host_discarded}
use Rattle.usb_device_host.specs.HostTurns.{host_reaped}
use Rattle.usb_device_host.proofs.CallFrames.{keeps-open}
use Rattle.usb_device.proofs.ClosedLaw.{closed_is_empty}
use Rattle.usb_device.specs.OwnerLaws.{ClaimsAreOwned, has_owner, is_owned_claim}
use Rattle.usb_device.proofs.OwnerLaw.{claims_stay_owned}
use Rattle.usb_device.proofs.OwnerLawLists.{any-found}
use Rattle.usb_kernel.specs.ClaimLaws.{is_claimed}
use Rattle.usb_device_host.specs.HostBus.{owner_at}
use Rattle.usb_device_ledger.proofs.DeviceLemmas.{counts-same}
use Rattle.usb_device_host.proofs.HeldDevices.{held-goes}
use Rattle.usb_device_host.proofs.HostFrames.{uses-discarded, uses-reaped}
use Rattle.usb_device_host.proofs.WaitFrames.{line-trans, line-keeps, went-uses}
use Rattle.usb_session_calls.proofs.NamedKeys.{named-none}
use Rattle.usb_device_tables.specs.History.{value_at}
use Rattle.usb_kernel.specs.Tickets.{tickets}
use Rattle.std.specs.List.{count_by}
use Rattle.usb_device_host.specs.Finishes.{discarded_below, reaped_below, finished, HasEnds, KeepsNothing}
use Rattle.usb_script_words.specs.Words.{at_most}
use Rattle.usb_session_calls.specs.Names.{named, freed}
use Rattle.usb_session_calls.specs.State.{State}
use Rattle.usb_session.specs.Below.{below}
use Rattle.usb_session.specs.Ends.{interfaces_closed, devices_closed, streams_closed, endpoints_closed, futures_closed, all_closed, ended}
use Rattle.usb_session_calls.specs.EndpointNames.{EndpointName, Own, OfReader, OfWriter, OfClientWriter, OfClientReader}
use Rattle.usb_session_calls.specs.SessionState.{SessionState, IsSound, open_under}
use Rattle.usb_session.proofs.Replaced.{reader_endpoint, writer_endpoint, client_writer_endpoint, client_reader_endpoint}
use Rattle.usb_session_calls.specs.Relation.{Represents}
use Rattle.usb_session_calls.proofs.CountedNames.{count-none, count-no_name}
use Rattle.usb_session_calls.proofs.CountedDevices.{count-no_device}
use Rattle.usb_session_calls.proofs.NameLemmas.{named-freed, named-freed_other, named-past}

-- the names below a number are free, and one more
pub none-more : {X : Type 0} (xs after : List (Option X)) (n : ℕ) → after ≡ freed xs n → ((e : ℕ) → e < n → named xs e ≡ None) → (e : ℕ) → e < n + 1 → named after e ≡ None
none-more xs after n rest none e below =
    elim (cases_eq e n) [
      | inl same ↦ ap (λ l. named l e) rest ∙ ap (named (freed xs n)) same ∙ named-freed xs n
      | inr apart ↦ ap (λ l. named l e) rest ∙ named-freed_other xs n e apart ∙ none e (lower e n apart below)
    ]
  where
    lower : (a b : ℕ) → a ≢ b → a < b + 1 → a < b
    lower a b apart small = omega arith

-- no name is open where none of the 64 is
pub none-all : {X : Type 0} (xs : List (Option X)) → length xs ≡ 64 → ((n : ℕ) → n < 64 → named xs n ≡ None) → (n : ℕ) → named xs n ≡ None
none-all xs all none n =
    elim (cases_lt n 64) [
      | inl within ↦ none n within
      | inr beyond ↦ named-past xs n (omega arith)
    ]

-- where none of the 64 names of each kind is open, nothing is under the name of an endpoint
module _ (closed last : SessionState) (sound : IsSound last) (clients : (m : ℕ) → m < 64 → named closed.clients m ≡ None) (readers : (r : ℕ) → r < 64 → named closed.readers r ≡ None)
    (writers : (w : ℕ) → w < 64 → named closed.writers w ≡ None) (endpoints : (e : ℕ) → e < 64 → named closed.endpoints e ≡ None) (same : open_under last ≡ open_under closed) where
  -- a name is seen so in both
  seen : (e : EndpointName) → open_under closed e ≡ None → open_under last e ≡ None
  seen e none = ap (λ (opened : EndpointName → Option EndpointState). opened e) same ∙ none

  pub none-open : (e : EndpointName) → open_under last e ≡ None
  none-open (Own e) = none-all last.endpoints sound.endpoint_names (λ n below. seen (Own n) (endpoints n below)) e
  none-open (OfReader r) =
      elim (cases_lt r 64) [
        | inl within ↦ seen (OfReader r) (ap (option_map reader_endpoint) (readers r within))
        | inr beyond ↦ ap (option_map reader_endpoint) (named-past last.readers r (omega (arith, sound.reader_names, beyond)))
      ]
  none-open (OfWriter w) =
      elim (cases_lt w 64) [
        | inl within ↦ seen (OfWriter w) (ap (option_map writer_endpoint) (writers w within))
        | inr beyond ↦ ap (option_map writer_endpoint) (named-past last.writers w (omega (arith, sound.writer_names, beyond)))
      ]
  none-open (OfClientWriter m) =
      elim (cases_lt m 64) [
        | inl within ↦ seen (OfClientWriter m) (ap (option_map client_writer_endpoint) (clients m within))
        | inr beyond ↦ ap (option_map client_writer_endpoint) (named-past last.clients m (omega (arith, sound.client_names, beyond)))
      ]
  none-open (OfClientReader m) =
      elim (cases_lt m 64) [
        | inl within ↦ seen (OfClientReader m) (ap (option_map client_reader_endpoint) (clients m within))
        | inr beyond ↦ ap (option_map client_reader_endpoint) (named-past last.clients m (omega (arith, sound.client_names, beyond)))
      ]

-- a number below 64 is a name's
pub is_name : (n m : ℕ) → at_most 63 n ≡ Some m → m ≡ n
is_name n m is = by (nat_le n 63) is
  where
    by : (b : Bool) → (if b then Some n else None) ≡ Some m → m ≡ n
    by true is = sym (same_Some n m is)
    by false is = absurd (none-some m is)

pub no_name : (n : ℕ) → n < 64 → at_most 63 n ≡ None → ⊥
no_name n below is = let few : nat_le n 63 ≡ true = grind (arith, nat_tests) in none-some n (sym is ∙ ap (λ (b : Bool). if b then Some n else None) few)

-- the host of a session at the end
pub end-host : (s : SessionState) (host now : HostState) (state : State) → s.host ≡ host → now ≡ finished host → Represents s (devices_closed (interfaces_closed (futures_closed (endpoints_closed (streams_closed state) 64) 64) 64) 64) → now ≡ ended state
unfolding ended all_closed
end-host s host now state here done r =
    done ∙ ap finished (sym here ∙ ap (λ (v : SessionState). v.host) r)

-- one number more
pub below-more : {S : Type 0} (act : S → ℕ → S) (state : S) (n : ℕ) → below act state (n + 1) ≡ act (below act state n) n
below-more act state n = let more : n + 1 ≡ suc n = omega arith in rw more refl

-- where no name is open no interface has a handle, and no open device is left
no-handles : (s : SessionState) → IsSound s → ((i : ℕ) → named s.interfaces i ≡ None) → (i : ℕ) (c : ClaimedInterface) → value_at s.host.interfaces i ≡ Some c → c.handles ≡ 0
no-handles s sound none i c at = sym (sound.interfaces_counted i c at) ∙ count-no_name i s.interfaces (λ n f open_ same. none-some f (sym (none n) ∙ open_))

none-held : (s : SessionState) → IsSound s → ((i : ℕ) → named s.interfaces i ≡ None) → (key : ℕ) → count_by (holds_at key) s.host.interfaces ≡ 0
none-held s sound none key = count-none (holds_at key) s.host.interfaces (λ i o at. by i o at)
  where
    by : (i : ℕ) (o : Option ClaimedInterface) → slice_get s.host.interfaces i ≡ Some o → holds_at key o ≡ false
    by i None at = refl
    by i (Some c) at = rw (no-handles s sound none i c (ap (option_and_then (λ v. v)) at)) refl

pub none-left : (s : SessionState) → IsSound s → ((d : ℕ) → named s.devices d ≡ None) → ((i : ℕ) → named s.interfaces i ≡ None) → (key : ℕ) → value_at s.host.devices key ≡ None
none-left s sound closed none key = by (value_at s.host.devices key) refl
  where
    by : (o : Option OpenDevice) → value_at s.host.devices key ≡ o → value_at s.host.devices key ≡ None
    by None at = at
    by (Some o) at =
        let names = count-no_device key s.devices (λ n k open_ same. none-some k (sym (closed n) ∙ open_)) in
        let handles : o.handles ≡ 0 = sym (sound.devices_counted key o at) ∙ names in
        let interfaces : o.interfaces ≡ 0 = sound.devices_held.counted key o at ∙ none-held s sound none key in
        let held : is_held o ≡ true = sound.devices_held.held key o at in
        let gone : is_held o ≡ false = rw (handles, interfaces) refl in
        absurd (cc)

-- nothing holds a ticket where nothing is open under a name
pub none-holds : (s : SessionState) → IsSound s → ((e : EndpointName) → open_under s e ≡ None) → ((n : ℕ) → named s.futures n ≡ None) → (t : ℕ) → owner_at s.host.tickets t ≡ None
none-holds s sound endpoints futures t = by (owner_at s.host.tickets t) refl
  where
    by : (o : Option ℕ) → owner_at s.host.tickets t ≡ o → owner_at s.host.tickets t ≡ None
    by None is = is
    by (Some key) is = elim (sound.tickets_named t key is) [
      | inl c ↦ absurd (none-some c.entry (sym (endpoints c.name) ∙ c.at))
      | inr w ↦ absurd (none-some w.future (sym (futures w.name) ∙ w.at))
    ]

-- an interface that is not there has no owner
none-owned : (h : HostState) (d n : ℕ) → ((k : ℕ) → value_at h.interfaces k ≡ None) → has_owner h d n ≡ false
none-owned h d n none = by (has_owner h d n) refl
  where
    gone : (k : ℕ) (o : Option ClaimedInterface) → slice_get h.interfaces k ≡ Some o → is_owned_claim h d n (0 + k, o) ≡ false
    gone k None at = refl
    gone k (Some c) at = absurd (none-some c (sym (none k) ∙ ap (option_and_then (λ v. v)) at))

    by : (b : Bool) → has_owner h d n ≡ b → has_owner h d n ≡ false
    by false is = is
    by true is =
        let found = any-found (is_owned_claim h d n) 0 h.interfaces is in
        let no_ : false ≡ true = sym (gone found.place found.item found.at) ∙ found.passes in
        absurd (cc)

-- so at the end no interface is claimed
pub none-claimed : (before now : HostState) → now ≡ finished before → ClaimsAreOwned before → ((k : ℕ) → value_at now.interfaces k ≡ None) → (d n : ℕ) → is_claimed now.kernel.devices d n ≡ false
none-claimed before now done claims none d n =
    let owned : ClaimsAreOwned now = subst ClaimsAreOwned (sym done) ((claims_stay_owned.finish before).kept.owned claims) in
    owned.claimed d n ∙ none-owned now d n none

-- the end opens nothing, and leaves the open devices
discarded-line : (h : HostState) (n : ℕ) → LineGoesOn h (discarded_below h n)
discarded-line h zero = line-keeps h h (keeps-open h)
discarded-line h (suc n) =
    let before = discarded_below h n in
    line-trans h before (host_discarded before n) (discarded-line h n) (went-uses before (host_discarded before n) (uses-discarded before n)).line

reaped-line : (h : HostState) (n : ℕ) → LineGoesOn h (reaped_below h n)
reaped-line h zero = line-keeps h h (keeps-open h)
reaped-line h (suc n) =
    let before = reaped_below h n in
    line-trans h before (host_reaped before n) (reaped-line h n) (went-uses before (host_reaped before n) (uses-reaped before n)).line

finished-line : (h : HostState) → LineGoesOn h (finished h)
unfolding finished
finished-line h =
    let n = length (tickets h.kernel.past) in
    let discarded = discarded_below h n in
    line-trans h discarded (reaped_below discarded n) (discarded-line h n) (reaped-line discarded n)

pub end-none : (s : SessionState) (before now : HostState) → before ≡ s.host → now ≡ finished before → IsSound s → ((d : ℕ) → named s.devices d ≡ None) → ((i : ℕ) → named s.interfaces i ≡ None) → (d : ℕ) → value_at now.devices d ≡ None
end-none s before now same done sound closed none d =
    ap (λ (h : HostState). value_at h.devices d) done ∙ ap (λ ds. value_at ds d) (finished-line before).devices ∙ ap (λ (h : HostState). value_at h.devices d) same ∙ none-left s sound closed none d

-- once all is closed and each ticket has its end, nothing is kept
pub end-empty : (s : SessionState) (before now : HostState) → before ≡ s.host → now ≡ finished before → IsSound s → ((d : ℕ) → named s.devices d ≡ None) → ((i : ℕ) → named s.interfaces i ≡ None) → ((e : EndpointName) → open_under s e ≡ None) → ((n : ℕ) → named s.futures n ≡ None)
    → EachIsOwned now.tickets now.endpoints now.interfaces → EachLives now.tickets now.endpoints → HasEnds now.tickets → KeepsNothing now
end-empty s before now same done sound devices interfaces endpoints futures owned alive ends =
    let line : LineGoesOn s.host now = subst (LineGoesOn s.host) (sym (done ∙ ap finished same)) (finished-line s.host) in
    closed_is_empty now (held-goes s.host now (counts-same s.host.devices now.devices line.devices) line.interfaces sound.devices_held) owned alive
    (record {
      devices = λ k o at.
          sym (sound.devices_counted k o (ap (λ ds. value_at ds k) (sym line.devices) ∙ at))
          ∙ count-no_device k s.devices (λ n j open_ same. none-some j (sym (devices n) ∙ open_));
      interfaces = λ k c at. no-handles s sound interfaces k c (line.interfaces.was k c at);
      endpoints = λ k e at. named-none s.host.endpoints (open_under s) s.futures endpoints futures sound.keys_named k e (line.endpoints.was k e at);
      tickets = ends;
    })
