-- Each endpoint that is open at the host is open under a name, or is that of a future that is.
use Rattle.std.proofs.Common.{◌≡◌, ◌≢◌, ℕ, Bool, true, false, List, [], ◌∷◌, ◌++◌, length, Option, Some, None, refl, ap, sym, ◌∙◌, inl, inr}
use Rattle.std.specs.Option.{option_map_or}
use Rattle.std.proofs.lemmas.Bool.{cases_eq}
use Rattle.std.proofs.lemmas.Option.{none-some, same_Some}
use Rattle.usb_device_tables.specs.History.{value_at}
use Rattle.usb_device_tables.proofs.ValueLemmas.{value-pushed}
use Rattle.usb_device_endpoint.specs.BusState.{BusState}
use Rattle.usb_device_endpoint.specs.EndpointState.{EndpointState}
use Rattle.usb_device_ledger.specs.Entries.{HostEndpoint}
use Rattle.usb_device_host.specs.HostState.{HostState}
use Rattle.usb_device_host.specs.HostBus.{bus_of, key_at}
use Rattle.usb_device_host.specs.HostFrames.{EndpointsGoOn}
use Rattle.usb_device.specs.Futures.{FutureState}
use Rattle.usb_session_calls.specs.Names.{named, is_free, freed, set_name}
use Rattle.usb_session_calls.specs.SessionState.{IsNamed, IsUnder, KeysAreNamed, future_key}
use Rattle.usb_session_calls.specs.EndpointNames.{EndpointName}
use Rattle.usb_session_calls.proofs.EndpointNameLemmas.{Changed, cases_name}
use Rattle.usb_session_calls.proofs.NameLemmas.{free-none, named-set, named-set_other, named-freed_other}

-- no endpoint was opened
abbrev pub OpensNone : List (Option HostEndpoint) → List (Option HostEndpoint) → Type 0
OpensNone old new = (key : ℕ) → key_at new key ≡ true → key_at old key ≡ true

pub none-same : (old new : List (Option HostEndpoint)) → new ≡ old → OpensNone old new
none-same old new same key open_ = ap (λ (es : List (Option HostEndpoint)). key_at es key) (sym same) ∙ open_

pub none-bus : (old new : HostState) → bus_of new ≡ bus_of old → OpensNone old.endpoints new.endpoints
none-bus old new bus key open_ = sym (ap (λ (b : BusState). b.keys key) bus) ∙ open_

pub none-goes : (old new : List (Option HostEndpoint)) → EndpointsGoOn old new → OpensNone old new
none-goes old new goes key open_ = by (value_at new key) refl open_
  where
    by : (o : Option HostEndpoint) → value_at new key ≡ o → option_map_or (λ (e : HostEndpoint). e.is_open) o false ≡ true → key_at old key ≡ true
    by None at open_ = absurd (cc)
    by (Some e) at open_ = ap (λ (o : Option HostEndpoint). option_map_or (λ (e : HostEndpoint). e.is_open) o false) (goes.was key e at) ∙ open_

pub none-then : (a b c : List (Option HostEndpoint)) → OpensNone a b → OpensNone b c → OpensNone a c
none-then a b c first second key open_ = first key (second key open_)

-- what is open under a name stays so: another was put back, freed, or opened
module _ {X : Type 0} (key_of : X → ℕ) (names after : List (Option X)) (e : ℕ) where
  is_named-freed : (x : X) (key : ℕ) → named names e ≡ Some x → after ≡ freed names e → (key_of x ≡ key → ⊥) → IsNamed key_of names key → IsNamed key_of after key
  is_named-freed x key at rest other n =
      elim (cases_eq n.name e) [
        | inl same ↦
            let entry : x ≡ n.entry = same_Some x n.entry (sym at ∙ ap (named names) (sym same) ∙ n.at) in
            absurd (other (ap key_of entry ∙ n.key_is))
        | inr apart ↦
            record {
              name = n.name;
              entry = n.entry;
              at = ap (λ l. named l n.name) rest ∙ named-freed_other names e n.name apart ∙ n.at;
              key_is = n.key_is;
            }
      ]

  is_named-other : (y : X) (key : ℕ) → is_free names e ≡ true → after ≡ set_name names e y → IsNamed key_of names key → IsNamed key_of after key
  is_named-other y key free put n =
      elim (cases_eq n.name e) [
        | inl same ↦ absurd (none-some n.entry (sym (free-none names e free) ∙ ap (named names) (sym same) ∙ n.at))
        | inr apart ↦
            record {
              name = n.name;
              entry = n.entry;
              at = ap (λ l. named l n.name) put ∙ named-set_other names e n.name y apart ∙ n.at;
              key_is = n.key_is;
            }
      ]

  is_named-new : (y : X) (key : ℕ) → is_free names e ≡ true → after ≡ set_name names e y → key_of y ≡ key → IsNamed key_of after key
  is_named-new y key free put is =
      record { name = e; entry = y; at = ap (λ l. named l e) put ∙ named-set names e y free; key_is = is }

-- an endpoint that is open under a name stays so: another was put back, closed, or opened
module _ (opened after : EndpointName → Option EndpointState) (e : EndpointName) (key : ℕ) where
  is_under-put : (x y : EndpointState) → opened e ≡ Some x → Changed opened after e (Some y) → y.key ≡ x.key → IsUnder opened key → IsUnder after key
  is_under-put x y at put same_key n =
      elim (cases_name n.name e) [
        | inl same ↦
            let entry : x ≡ n.entry = same_Some x n.entry (sym at ∙ ap opened (sym same) ∙ n.at) in
            record { name = e; entry = y; at = put.here; key_is = same_key ∙ ap (λ (z : EndpointState). z.key) entry ∙ n.key_is }
        | inr apart ↦ record { name = n.name; entry = n.entry; at = put.others n.name apart ∙ n.at; key_is = n.key_is }
      ]

  is_under-gone : (x : EndpointState) → opened e ≡ Some x → Changed opened after e None → (x.key ≡ key → ⊥) → IsUnder opened key → IsUnder after key
  is_under-gone x at gone other n =
      elim (cases_name n.name e) [
        | inl same ↦
            let entry : x ≡ n.entry = same_Some x n.entry (sym at ∙ ap opened (sym same) ∙ n.at) in
            absurd (other (ap (λ (z : EndpointState). z.key) entry ∙ n.key_is))
        | inr apart ↦ record { name = n.name; entry = n.entry; at = gone.others n.name apart ∙ n.at; key_is = n.key_is }
      ]

  is_under-other : (y : EndpointState) → opened e ≡ None → Changed opened after e (Some y) → IsUnder opened key → IsUnder after key
  is_under-other y free put n =
      elim (cases_name n.name e) [
        | inl same ↦ absurd (none-some n.entry (sym free ∙ ap opened (sym same) ∙ n.at))
        | inr apart ↦ record { name = n.name; entry = n.entry; at = put.others n.name apart ∙ n.at; key_is = n.key_is }
      ]

-- the names stay
pub named-goes : (old new : List (Option HostEndpoint)) (opened : EndpointName → Option EndpointState) (futures : List (Option FutureState)) → OpensNone old new → KeysAreNamed old opened futures → KeysAreNamed new opened futures
named-goes old new opened futures none was key open_ = was key (none key open_)

-- an endpoint was called, and put back under its name
pub named-put : (old new : List (Option HostEndpoint)) (opened after : EndpointName → Option EndpointState) (futures : List (Option FutureState)) (e : EndpointName) (x y : EndpointState) → OpensNone old new → opened e ≡ Some x → Changed opened after e (Some y) → y.key ≡ x.key → KeysAreNamed old opened futures → KeysAreNamed new after futures
named-put old new opened after futures e x y none at put same_key was key open_ =
    elim (was key (none key open_)) [
      | inl n ↦ inl (is_under-put opened after e key x y at put same_key n)
      | inr f ↦ inr f
    ]

-- an endpoint was closed, and its name freed; or a future
shut : (new : List (Option HostEndpoint)) (k key : ℕ) → key_at new k ≡ false → key_at new key ≡ true → k ≡ key → ⊥
shut new k key closed open_ is = let no_ : false ≡ true = sym closed ∙ ap (key_at new) is ∙ open_ in cc

pub named-closed : (old new : List (Option HostEndpoint)) (opened after : EndpointName → Option EndpointState) (futures : List (Option FutureState)) (e : EndpointName) (x : EndpointState) → OpensNone old new → key_at new x.key ≡ false → opened e ≡ Some x → Changed opened after e None → KeysAreNamed old opened futures → KeysAreNamed new after futures
named-closed old new opened after futures e x none closed at gone was key open_ =
    elim (was key (none key open_)) [
      | inl n ↦ inl (is_under-gone opened after e key x at gone (shut new x.key key closed open_) n)
      | inr f ↦ inr f
    ]

pub named-future_closed : (old new : List (Option HostEndpoint)) (opened : EndpointName → Option EndpointState) (futures after : List (Option FutureState)) (n : ℕ) (x : FutureState) → OpensNone old new → key_at new x.key ≡ false → named futures n ≡ Some x → after ≡ freed futures n → KeysAreNamed old opened futures → KeysAreNamed new opened after
named-future_closed old new opened futures after n x none closed at rest was key open_ =
    elim (was key (none key open_)) [
      | inl e ↦ inl e
      | inr f ↦ inr (is_named-freed future_key futures after n x key at rest (shut new x.key key closed open_) f)
    ]

-- one more is open, under a name that was free
pub key-before : (old new : List (Option HostEndpoint)) (h : HostEndpoint) (key : ℕ) → new ≡ old ++ Some h ∷ [] → key ≢ length old → key_at new key ≡ true → key_at old key ≡ true
key-before old new h key more other open_ =
    ap (λ (o : Option HostEndpoint). option_map_or (λ (e : HostEndpoint). e.is_open) o false) (sym (value-pushed old (Some h) key other) ∙ sym (ap (λ (es : List (Option HostEndpoint)). value_at es key) more)) ∙ open_

pub named-opened : (old new : List (Option HostEndpoint)) (opened after : EndpointName → Option EndpointState) (futures : List (Option FutureState)) (e : EndpointName) (h : HostEndpoint) (y : EndpointState) → new ≡ old ++ Some h ∷ [] → y.key ≡ length old → opened e ≡ None → Changed opened after e (Some y) → KeysAreNamed old opened futures → KeysAreNamed new after futures
named-opened old new opened after futures e h y more next free put was key open_ =
    elim (cases_eq key (length old)) [
      | inl last ↦ inl (record { name = e; entry = y; at = put.here; key_is = next ∙ sym last })
      | inr other ↦ elim (was key (key-before old new h key more other open_)) [
        | inl n ↦ inl (is_under-other opened after e key y free put n)
        | inr f ↦ inr f
      ]
    ]

pub named-future_opened : (old new : List (Option HostEndpoint)) (opened : EndpointName → Option EndpointState) (futures after : List (Option FutureState)) (n : ℕ) (h : HostEndpoint) (y : FutureState) → new ≡ old ++ Some h ∷ [] → y.key ≡ length old → is_free futures n ≡ true → after ≡ set_name futures n y → KeysAreNamed old opened futures → KeysAreNamed new opened after
named-future_opened old new opened futures after n h y more next free put was key open_ =
    elim (cases_eq key (length old)) [
      | inl last ↦ inr (is_named-new future_key futures after n y key free put (next ∙ sym last))
      | inr other ↦ elim (was key (key-before old new h key more other open_)) [
        | inl e ↦ inl e
        | inr f ↦ inr (is_named-other future_key futures after n y key free put f)
      ]
    ]

-- where no name is open no endpoint is
pub named-none : (keys : List (Option HostEndpoint)) (opened : EndpointName → Option EndpointState) (futures : List (Option FutureState)) → ((e : EndpointName) → opened e ≡ None) → ((n : ℕ) → named futures n ≡ None) → KeysAreNamed keys opened futures → (k : ℕ) (h : HostEndpoint) → value_at keys k ≡ Some h → h.is_open ≡ false
named-none keys opened futures none gone was k h at = by h.is_open refl
  where
    by : (b : Bool) → h.is_open ≡ b → h.is_open ≡ false
    by false is = is
    by true is =
        let open_ : key_at keys k ≡ true = ap (λ (o : Option HostEndpoint). option_map_or (λ (e : HostEndpoint). e.is_open) o false) at ∙ is in
        elim (was k open_) [
          | inl n ↦ absurd (none-some n.entry (sym (none n.name) ∙ n.at))
          | inr f ↦ absurd (none-some f.entry (sym (gone f.name) ∙ f.at))
        ]
