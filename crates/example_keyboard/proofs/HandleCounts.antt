-- How many handles are open, when lists of what has handles change.
use Rattle.std.proofs.Common.{ℕ, arith, ◌≡◌, ◌≢◌, ◌-◌, ◌≤◌, inl, inr, true, false, List, [], ◌∷◌, ◌++◌, length, set, ap, sym, subst, refl, cond, Option, Some, None}
use Rattle.std.specs.Option.{option_map_or}
use Rattle.std.proofs.lemmas.Bool.{cases_eq}
use Rattle.usb_device_tables.specs.History.{value_at}
use Rattle.usb_device_tables.proofs.ValueLemmas.{value-pushed, value-last, value-set_other, value-set_same}
use Rattle.usb_device_ledger.specs.declared.opened.OpenDevice.{OpenDevice}
use Rattle.usb_device_ledger.specs.Devices.{is_held, if_held, device_changed, handle_less}
use Rattle.usb_device_ledger.proofs.DeviceLemmas.{KeepsOpened, changed-none, changed-at, changed-other}
use Rattle.usb_device_host.specs.HostFrames.{EntriesGoOn}
use Rattle.example_keyboard.specs.Closing.{handles_at, NoMoreOpen}

module _ {T : Type 0} (f : T → ℕ) where
  -- what is there was there, with no fewer handles
  pub more-was : (old new : List (Option T)) →
      ((k : ℕ) (x : T) → value_at new k ≡ Some x → (y : T) × (value_at old k ≡ Some y) × (f x ≤ f y)) →
      NoMoreOpen f old new
  more-was old new was k = by (value_at new k) refl
    where
      by : (o : Option T) → value_at new k ≡ o → handles_at f new k ≤ handles_at f old k
      by None none = subst (λ (o : Option T). option_map_or f o 0 ≤ handles_at f old k) (sym none) (omega arith)
      by (Some x) at =
          let w = was k x at in
          subst (λ (o : Option T). option_map_or f o 0 ≤ handles_at f old k) (sym at)
          (subst (λ (o : Option T). f x ≤ option_map_or f o 0) (sym w.1) w.2)

  pub more-goes : (IsOpen : T → Type 0) (old new : List (Option T)) → EntriesGoOn IsOpen old new → NoMoreOpen f old new
  more-goes IsOpen old new goes = more-was old new (λ k x at. (x, goes.was k x at, omega arith))

  pub more-same : (old new : List (Option T)) → new ≡ old → NoMoreOpen f old new
  more-same old new same k =
      let is : handles_at f new k ≡ handles_at f old k = ap (λ (xs : List (Option T)). handles_at f xs k) same in
      omega arith

  pub more-trans : (a b c : List (Option T)) → NoMoreOpen f a b → NoMoreOpen f b c → NoMoreOpen f a c
  more-trans a b c first second k =
      let one : handles_at f b k ≤ handles_at f a k = first k in
      let two : handles_at f c k ≤ handles_at f b k = second k in
      omega arith

  -- one handle more is open, of what has this key
  pub record OneMore (old new : List (Option T)) (key : ℕ) : Type 0 where
    pub others : (k : ℕ) → key ≢ k → handles_at f new k ≤ handles_at f old k
    pub here : handles_at f new key ≤ 1

  -- or one less
  pub record OneLess (old new : List (Option T)) (key : ℕ) : Type 0 where
    pub others : (k : ℕ) → key ≢ k → handles_at f new k ≤ handles_at f old k
    pub here : handles_at f new key ≤ handles_at f old key - 1

  pub one-pushed : (xs : List (Option T)) (x : T) → f x ≤ 1 → OneMore xs (xs ++ Some x ∷ []) (length xs)
  one-pushed xs x one =
      record {
        others = λ k apart.
            let same : handles_at f (xs ++ Some x ∷ []) k ≡ handles_at f xs k =
            ap (λ (o : Option T). option_map_or f o 0) (value-pushed xs (Some x) k (λ z. apart (sym z))) in
            omega arith;
        here =
            let same : handles_at f (xs ++ Some x ∷ []) (length xs) ≡ f x =
            ap (λ (o : Option T). option_map_or f o 0) (value-last xs (Some x)) in
            omega arith;
      }

  pub one-then : (a b c : List (Option T)) (key : ℕ) → OneMore a b key → NoMoreOpen f b c → OneMore a c key
  one-then a b c key one more =
      record {
        others = λ k apart.
            let first = one.others k apart in
            let second : handles_at f c k ≤ handles_at f b k = more k in
            omega arith;
        here =
            let first = one.here in
            let second : handles_at f c key ≤ handles_at f b key = more key in
            omega arith;
      }

  pub less-then : (a b c : List (Option T)) (key : ℕ) → OneLess a b key → NoMoreOpen f b c → OneLess a c key
  less-then a b c key one more =
      record {
        others = λ k apart.
            let first = one.others k apart in
            let second : handles_at f c k ≤ handles_at f b k = more k in
            omega arith;
        here =
            let first = one.here in
            let second : handles_at f c key ≤ handles_at f b key = more key in
            omega arith;
      }

  -- what was opened is closed
  pub one-closed : (a b c : List (Option T)) (key : ℕ) → OneMore a b key → OneLess b c key → NoMoreOpen f a c
  one-closed a b c key more less k =
      elim (cases_eq key k) [
        | inl same ↦ subst (λ k. handles_at f c k ≤ handles_at f a k) same (let first = more.here in let second = less.here in omega arith)
        | inr apart ↦ let first = more.others k apart in let second = less.others k apart in omega arith
      ]

  -- what has fewer handles is written
  pub less-set : (xs : List (Option T)) (key : ℕ) (x y : T) → value_at xs key ≡ Some x → f y ≤ f x - 1 →
      OneLess xs (set xs key (Some y)) key
  less-set xs key x y at fewer =
      record {
        others = λ k apart.
            let same : handles_at f (set xs key (Some y)) k ≡ handles_at f xs k =
            ap (λ (o : Option T). option_map_or f o 0) (value-set_other xs key k (Some y) apart) in
            omega arith;
        here =
            let now : handles_at f (set xs key (Some y)) key ≡ f y =
            ap (λ (o : Option T). option_map_or f o 0) (value-set_same xs key x (Some y) at) in
            let before : handles_at f xs key ≡ f x = ap (λ (o : Option T). option_map_or f o 0) at in
            omega arith;
      }

  pub less-none : (xs : List (Option T)) (key : ℕ) → value_at xs key ≡ None → OneLess xs xs key
  less-none xs key none =
      record {
        others = λ k apart. omega arith;
        here = let gone : handles_at f xs key ≡ 0 = ap (λ (o : Option T). option_map_or f o 0) none in omega arith;
      }

-- open devices that keep their handles, and one of which a handle is closed
pub more-opened : (old new : List (Option OpenDevice)) → KeepsOpened old new → NoMoreOpen (λ (o : OpenDevice). o.handles) old new
more-opened old new keeps =
    more-was (λ (o : OpenDevice). o.handles) old new
    (λ k o at. let was = keeps.was k o at in let same = was.handles in (was.device, was.at, omega arith))

held-most : (o : OpenDevice) → option_map_or (λ (o : OpenDevice). o.handles) (if_held o) 0 ≤ o.handles
held-most o =
    elim (is_held o) as (λ v. option_map_or (λ (o : OpenDevice). o.handles) (cond v (Some o) None) 0 ≤ o.handles)
    [ true ↦ omega arith | false ↦ omega arith ]

pub less-closed : (devices : List (Option OpenDevice)) (key : ℕ) →
    OneLess (λ (o : OpenDevice). o.handles) devices (device_changed devices key handle_less) key
less-closed devices key = by (value_at devices key) refl
  where
    by : (o : Option OpenDevice) → value_at devices key ≡ o →
        OneLess (λ (o : OpenDevice). o.handles) devices (device_changed devices key handle_less) key
    by None none =
        subst (λ (ds : List (Option OpenDevice)). OneLess (λ (o : OpenDevice). o.handles) devices ds key)
        (sym (changed-none devices key handle_less none)) (less-none (λ (o : OpenDevice). o.handles) devices key none)
    by (Some o) at =
        record {
          others = λ k apart.
              let same : handles_at (λ (o : OpenDevice). o.handles) (device_changed devices key handle_less) k ≡ handles_at (λ (o : OpenDevice). o.handles) devices k =
              ap (λ (o : Option OpenDevice). option_map_or (λ (o : OpenDevice). o.handles) o 0) (changed-other devices key k handle_less apart) in
              omega arith;
          here =
              let now : handles_at (λ (o : OpenDevice). o.handles) (device_changed devices key handle_less) key ≡ option_map_or (λ (o : OpenDevice). o.handles) (if_held (handle_less o)) 0 =
              ap (λ (o : Option OpenDevice). option_map_or (λ (o : OpenDevice). o.handles) o 0) (changed-at devices key handle_less o at) in
              let before : handles_at (λ (o : OpenDevice). o.handles) devices key ≡ o.handles =
              ap (λ (o : Option OpenDevice). option_map_or (λ (o : OpenDevice). o.handles) o 0) at in
              let most = held-most (handle_less o) in
              omega (arith, now, before, most);
        }
