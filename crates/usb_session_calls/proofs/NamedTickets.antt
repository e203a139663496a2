-- Each ticket that an endpoint holds at the host is pending at one that is open under a name, or is that of a future that is.
use Rattle.std.proofs.Common.{◌≡◌, ◌≢◌, ◌<◌, ℕ, zero, suc, arith, length, get_or, List, [], ◌∷◌, Option, Some, None, true, ap, sym, ◌∙◌, subst, inl, inr}
use Rattle.std.specs.List.{Contains, cons_option}
use Rattle.std.proofs.lemmas.Bool.{cases_eq}
use Rattle.std.proofs.lemmas.List.Elements.{Contains-push}
use Rattle.std.proofs.lemmas.Option.{none-some, same_Some}
use Rattle.usb_device_endpoint.specs.EndpointState.{EndpointState}
use Rattle.usb_device_host.specs.HostState.{HostState}
use Rattle.usb_device.specs.Futures.{FutureState}
use Rattle.usb_session_streams.specs.Accounts.{HoldsOnly, KeepsAccounts, KeepsAccountsOf}
use Rattle.usb_session_calls.specs.Names.{named, is_free, freed, set_name}
use Rattle.usb_session_calls.specs.EndpointNames.{EndpointName}
use Rattle.usb_session_calls.specs.HeldTickets.{Covered, IsAwaited, TicketsAreNamed}
use Rattle.usb_session_calls.specs.SessionState.{SessionState, IsSound, open_under}
use Rattle.usb_session_calls.proofs.EndpointNameLemmas.{Changed, cases_name}
use Rattle.usb_session_calls.proofs.SoundOver.{SoundOver}
use Rattle.usb_session_calls.proofs.NameLemmas.{free-none, named-set, named-set_other, named-freed_other}

-- so it is of endpoints as their calls see them
abbrev pub AreNamed : HostState → (EndpointName → Option EndpointState) → List (Option FutureState) → Type 0
AreNamed h opened futures = TicketsAreNamed (λ (x : EndpointState). x) h.tickets opened futures

abbrev IsCovered : (EndpointName → Option EndpointState) → ℕ → ℕ → Type 0
IsCovered opened t key = Covered (λ (x : EndpointState). x) opened t key

-- what is open stays open under its name, but under the name of the endpoint of another key
covered-same : (opened after : EndpointName → Option EndpointState) (t key : ℕ) (c : IsCovered opened t key) → after c.name ≡ opened c.name → IsCovered after t key
covered-same opened after t key c same = record { name = c.name; entry = c.entry; at = same ∙ c.at; key_is = c.key_is; in_pending = c.in_pending }

covered-other : (opened after : EndpointName → Option EndpointState) (e : EndpointName) (o : Option EndpointState) (x : EndpointState) (t key : ℕ) → opened e ≡ Some x → Changed opened after e o → key ≢ x.key → IsCovered opened t key → IsCovered after t key
covered-other opened after e o x t key was changed apart c =
    elim (cases_name c.name e) [
      | inl same ↦
          let entry : x ≡ c.entry = same_Some x c.entry (sym was ∙ ap opened (sym same) ∙ c.at) in
          absurd (apart (sym c.key_is ∙ sym (ap (λ (z : EndpointState). z.key) entry)))
      | inr other ↦ covered-same opened after t key c (changed.others c.name other)
    ]

awaited-other : (futures after : List (Option FutureState)) (n : ℕ) (f : FutureState) (t key : ℕ) → named futures n ≡ Some f → after ≡ freed futures n → key ≢ f.key → IsAwaited futures t key → IsAwaited after t key
awaited-other futures after n f t key was rest apart w =
    elim (cases_eq w.name n) [
      | inl same ↦
          let entry : f ≡ w.future = same_Some f w.future (sym was ∙ ap (named futures) (sym same) ∙ w.at) in
          absurd (apart (sym w.key_is ∙ sym (ap (λ (z : FutureState). z.key) entry)))
      | inr other ↦
          record {
            name = w.name;
            future = w.future;
            at = ap (λ l. named l w.name) rest ∙ named-freed_other futures n w.name other ∙ w.at;
            key_is = w.key_is;
            ticket_is = w.ticket_is;
          }
    ]

-- a call on no endpoint
pub tickets-goes : (old new : HostState) (opened : EndpointName → Option EndpointState) (futures : List (Option FutureState)) → KeepsAccounts old new → AreNamed old opened futures → AreNamed new opened futures
tickets-goes old new opened futures keeps was t key own = was t key (keeps.held t key own)

-- an endpoint is open under a name under which none was
pub tickets-opened : (old new : HostState) (opened after : EndpointName → Option EndpointState) (futures : List (Option FutureState)) (e : EndpointName) (o : Option EndpointState) → KeepsAccounts old new → opened e ≡ None → Changed opened after e o → AreNamed old opened futures → AreNamed new after futures
tickets-opened old new opened after futures e o keeps free changed was t key own =
    elim (was t key (keeps.held t key own)) [
      | inl c ↦ inl (covered-same opened after t key c (changed.others c.name (λ same. none-some c.entry (sym free ∙ ap opened (sym same) ∙ c.at))))
      | inr w ↦ inr w
    ]

-- what a list of few has
pub no-element : (t : ℕ) → Contains [] t → ⊥
no-element t there = let below : there.0 < 0 = there.1 in absurd (omega arith)

only-one : (o : Option ℕ) (t : ℕ) → Contains (cons_option o []) t → o ≡ Some t
only-one None t there = absurd (no-element t there)
only-one (Some u) t there = by there.0 there.1 there.2
  where
    by : (k : ℕ) → k < length (u ∷ []) → get_or (u ∷ []) k t ≡ t → Some u ≡ Some t
    by zero below is = ap (λ v. Some v) is
    by (suc k) below is = absurd (omega arith)

-- of a sound session: what an endpoint holds is pending at it
module _ (s : SessionState) (h : HostState) (opened : EndpointName → Option EndpointState) (sound : SoundOver s h opened) where
  pub holds-pending : (e : EndpointName) (x : EndpointState) → opened e ≡ Some x → HoldsOnly h x.key x.pending
  holds-pending e x was t own =
      elim (sound.tickets_named t x.key own) [
        | inl c ↦ elim (cases_name c.name e) [
          | inl same ↦ subst (λ (z : EndpointState). Contains z.pending t) (same_Some c.entry x (sym c.at ∙ ap opened same ∙ was)) c.in_pending
          | inr other ↦ absurd (sound.endpoints_differ c.name e c.entry x c.at was other c.key_is)
        ]
        | inr w ↦ absurd (sound.futures_apart e w.name x w.future was w.at (sym w.key_is))
      ]

  -- an endpoint was called, and put back under its name
  module _ (now : HostState) (after : EndpointName → Option EndpointState) (e : EndpointName) (x : EndpointState) (was : opened e ≡ Some x) where
    pub tickets-put : (y : EndpointState) → Changed opened after e (Some y) → y.key ≡ x.key → KeepsAccountsOf h now x.key x.pending y.pending → AreNamed now after s.futures
    tickets-put y put same_key keeps t key own =
        elim (cases_eq key x.key) [
          | inl same ↦
              inl (record {
                name = e;
                entry = y;
                at = put.here;
                key_is = same_key ∙ sym same;
                in_pending = keeps.own sound.tickets_counted (holds-pending e x was) t (own ∙ ap (λ k. Some k) same);
              })
          | inr apart ↦ elim (sound.tickets_named t key (keeps.others t key apart own)) [
            | inl c ↦ inl (covered-other opened after e (Some y) x t key was put apart c)
            | inr w ↦ inr w
          ]
        ]

    -- or it was closed
    pub tickets-gone : Changed opened after e None → KeepsAccountsOf h now x.key x.pending [] → AreNamed now after s.futures
    tickets-gone gone keeps t key own =
        elim (cases_eq key x.key) [
          | inl same ↦ absurd (no-element t (keeps.own sound.tickets_counted (holds-pending e x was) t (own ∙ ap (λ k. Some k) same)))
          | inr apart ↦ elim (sound.tickets_named t key (keeps.others t key apart own)) [
            | inl c ↦ inl (covered-other opened after e None x t key was gone apart c)
            | inr w ↦ inr w
          ]
        ]

-- of a session: what the endpoint of a future holds is the future's ticket
module _ (s : SessionState) (sound : IsSound s) where
  pub holds-ticket : (n : ℕ) (f : FutureState) → named s.futures n ≡ Some f → HoldsOnly s.host f.key (cons_option f.ticket [])
  holds-ticket n f was t own =
      elim (sound.tickets_named t f.key own) [
        | inl c ↦ absurd (sound.futures_apart c.name n c.entry f c.at was c.key_is)
        | inr w ↦ elim (cases_eq w.name n) [
          | inl same ↦
              let future : w.future ≡ f = same_Some w.future f (sym w.at ∙ ap (named s.futures) same ∙ was) in
              subst (λ (o : Option ℕ). Contains (cons_option o []) t) (sym w.ticket_is ∙ ap (λ (z : FutureState). z.ticket) future) (Contains-push [] t)
          | inr other ↦ absurd (sound.futures_differ w.name n w.future f w.at was other w.key_is)
        ]
      ]

  -- a future is open no more
  pub tickets-future_gone : (now : HostState) (after : List (Option FutureState)) (n : ℕ) (f : FutureState) → named s.futures n ≡ Some f → after ≡ freed s.futures n → KeepsAccountsOf s.host now f.key (cons_option f.ticket []) [] → AreNamed now (open_under s) after
  tickets-future_gone now after n f was rest keeps t key own =
      elim (cases_eq key f.key) [
        | inl same ↦ absurd (no-element t (keeps.own sound.tickets_counted (holds-ticket n f was) t (own ∙ ap (λ k. Some k) same)))
        | inr apart ↦ elim (sound.tickets_named t key (keeps.others t key apart own)) [
          | inl c ↦ inl c
          | inr w ↦ inr (awaited-other s.futures after n f t key was rest apart w)
        ]
      ]

  -- or it is open under a name that was free, with a key that none had
  module _ (now : HostState) (after : List (Option FutureState)) (n : ℕ) (f : FutureState) (free : is_free s.futures n ≡ true) (put : after ≡ set_name s.futures n f)
      (endpoints : (e : EndpointName) (h : EndpointState) → open_under s e ≡ Some h → h.key ≢ f.key) (futures : (m : ℕ) (g : FutureState) → named s.futures m ≡ Some g → g.key ≢ f.key) where
    holds-none : HoldsOnly s.host f.key []
    holds-none t own =
        elim (sound.tickets_named t f.key own) [
          | inl c ↦ absurd (endpoints c.name c.entry c.at c.key_is)
          | inr w ↦ absurd (futures w.name w.future w.at w.key_is)
        ]

    awaited-set : (t key : ℕ) → IsAwaited s.futures t key → IsAwaited after t key
    awaited-set t key w =
        elim (cases_eq w.name n) [
          | inl same ↦ absurd (none-some w.future (sym (free-none s.futures n free) ∙ ap (named s.futures) (sym same) ∙ w.at))
          | inr other ↦
              record {
                name = w.name;
                future = w.future;
                at = ap (λ l. named l w.name) put ∙ named-set_other s.futures n w.name f other ∙ w.at;
                key_is = w.key_is;
                ticket_is = w.ticket_is;
              }
        ]

    pub tickets-future_opened : KeepsAccountsOf s.host now f.key [] (cons_option f.ticket []) → AreNamed now (open_under s) after
    tickets-future_opened keeps t key own =
        elim (cases_eq key f.key) [
          | inl same ↦
              inr (record {
                name = n;
                future = f;
                at = ap (λ l. named l n) put ∙ named-set s.futures n f free;
                key_is = sym same;
                ticket_is = only-one f.ticket t (keeps.own sound.tickets_counted holds-none t (own ∙ ap (λ k. Some k) same));
              })
          | inr apart ↦ elim (sound.tickets_named t key (keeps.others t key apart own)) [
            | inl c ↦ inl c
            | inr w ↦ inr (awaited-set t key w)
          ]
        ]
