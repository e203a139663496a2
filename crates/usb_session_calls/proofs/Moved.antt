-- An endpoint that is open moves to another name: it becomes a reader's, a writer's or a client's, or comes back.
use Rattle.std.proofs.Common.{◌≡◌, ◌≢◌, ◌<◌, ℕ, Option, Some, None, ap, sym, ◌∙◌, subst, inl, inr, ◌⊎◌}
use Rattle.std.specs.List.{Contains}
use Rattle.std.proofs.lemmas.Option.{none-some, same_Some}
use Rattle.usb_device_endpoint.specs.EndpointState.{EndpointState}
use Rattle.usb_device_endpoint.specs.Handles.{Stands}
use Rattle.usb_device_host.specs.HostState.{HostState}
use Rattle.usb_device_host.specs.HostBus.{bus_of}
use Rattle.usb_session_calls.specs.EndpointNames.{EndpointName}
use Rattle.usb_session_calls.specs.HeldTickets.{Covered}
use Rattle.usb_session_calls.specs.SessionState.{SessionState, IsUnder}
use Rattle.usb_session_calls.proofs.EndpointNameLemmas.{Changed, cases_name, changed-back, changed-gone}
use Rattle.usb_session_calls.proofs.SoundOver.{SoundOver}

-- what was open under the name p is taken out, and open under q, where nothing was
pub record Moves {X : Type 0} (old new : EndpointName → Option X) (p q : EndpointName) (x : X) : Type 0 where
  pub mid : EndpointName → Option X
  pub was : old p ≡ Some x
  pub gone : Changed old mid p None
  pub free : mid q ≡ None
  pub put : Changed mid new q (Some x)

-- what is open under a name then
moved-back : {X : Type 0} (old new : EndpointName → Option X) (p q d : EndpointName) (x z : X) → Moves old new p q x → new d ≡ Some z → ((d ≡ q) × (z ≡ x)) ⊎ ((d ≢ p) × (old d ≡ Some z))
moved-back old new p q d x z moves is =
    elim (changed-back moves.mid new q d z x moves.put is) [
      | inl here ↦ inl here
      | inr there ↦ inr (changed-gone old moves.mid p d z moves.gone there.1)
    ]

-- what was open under a name still is, there or under q
module _ (old new : EndpointName → Option EndpointState) (p q : EndpointName) (x : EndpointState) (moves : Moves old new p q x) where
  moved-on : (d : EndpointName) (z : EndpointState) → old d ≡ Some z → ((d ≡ p) × (x ≡ z)) ⊎ (new d ≡ Some z)
  moved-on d z is =
      elim (cases_name d p) [
        | inl same ↦ inl (same, same_Some x z (sym moves.was ∙ ap old (sym same) ∙ is))
        | inr apart ↦
            let there : moves.mid d ≡ Some z = moves.gone.others d apart ∙ is in
            elim (cases_name d q) [
              | inl same ↦ absurd (none-some z (sym moves.free ∙ ap moves.mid (sym same) ∙ there))
              | inr other ↦ inr (moves.put.others d other ∙ there)
            ]
      ]

  is_under-moved : (key : ℕ) → IsUnder old key → IsUnder new key
  is_under-moved key n =
      elim (moved-on n.name n.entry n.at) [
        | inl here ↦ record { name = q; entry = x; at = moves.put.here; key_is = ap (λ (z : EndpointState). z.key) here.1 ∙ n.key_is }
        | inr there ↦ record { name = n.name; entry = n.entry; at = there; key_is = n.key_is }
      ]

  covered-moved : (t key : ℕ) → Covered (λ z. z) old t key → Covered (λ z. z) new t key
  covered-moved t key n =
      elim (moved-on n.name n.entry n.at) [
        | inl here ↦
            record {
              name = q;
              entry = x;
              at = moves.put.here;
              key_is = ap (λ (z : EndpointState). z.key) here.1 ∙ n.key_is;
              in_pending = subst (λ (z : EndpointState). Contains z.pending t) (sym here.1) n.in_pending;
            }
        | inr there ↦ record { name = n.name; entry = n.entry; at = there; key_is = n.key_is; in_pending = n.in_pending }
      ]

  -- so a session is as sound as before
  pub over-moved : (s : SessionState) (h : HostState) → SoundOver s h old → SoundOver s h new
  over-moved s h sound =
      let from : (d : EndpointName) (z : EndpointState) → new d ≡ Some z → ((d ≡ q) × (z ≡ x)) ⊎ ((d ≢ p) × (old d ≡ Some z)) = λ d z is. moved-back old new p q d x z moves is in
      record {
        idle = sound.idle;
        devices_stand = sound.devices_stand;
        devices_counted = sound.devices_counted;
        devices_held = sound.devices_held;
        interfaces_stand = sound.interfaces_stand;
        interfaces_counted = sound.interfaces_counted;
        endpoints_stand = λ d z is. elim (from d z is) [
          | inl here ↦ subst (Stands (bus_of h)) (sym here.1) (sound.endpoints_stand p x moves.was)
          | inr there ↦ sound.endpoints_stand d z there.1
        ];
        endpoints_small = λ d z is. elim (from d z is) [
          | inl here ↦ subst (λ (v : EndpointState). v.maximum < 2048) (sym here.1) (sound.endpoints_small p x moves.was)
          | inr there ↦ sound.endpoints_small d z there.1
        ];
        endpoints_differ = λ c d g z isg isz apart. elim (from c g isg) [
          | inl herec ↦ elim (from d z isz) [
            | inl hered ↦ absurd (apart (herec.0 ∙ sym hered.0))
            | inr thered ↦ λ same. sound.endpoints_differ d p z x thered.1 moves.was thered.0 (sym same ∙ ap (λ (v : EndpointState). v.key) herec.1)
          ]
          | inr therec ↦ elim (from d z isz) [
            | inl hered ↦ λ same. sound.endpoints_differ c p g x therec.1 moves.was therec.0 (same ∙ ap (λ (v : EndpointState). v.key) hered.1)
            | inr thered ↦ sound.endpoints_differ c d g z therec.1 thered.1 apart
          ]
        ];
        keys_named = λ key open_. elim (sound.keys_named key open_) [
          | inl n ↦ inl (is_under-moved key n)
          | inr f ↦ inr f
        ];
        tickets_named = λ t key own. elim (sound.tickets_named t key own) [
          | inl c ↦ inl (covered-moved t key c)
          | inr w ↦ inr w
        ];
        tickets_counted = sound.tickets_counted;
        claims_owned = sound.claims_owned;
        futures_stand = sound.futures_stand;
        futures_apart = λ d n z f isz isf. elim (from d z isz) [
          | inl here ↦ λ same. sound.futures_apart p n x f moves.was isf (sym (ap (λ (v : EndpointState). v.key) here.1) ∙ same)
          | inr there ↦ sound.futures_apart d n z f there.1 isf
        ];
      }
