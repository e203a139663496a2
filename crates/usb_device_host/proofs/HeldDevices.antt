-- Each open device is held, and counts the interfaces that hold it, over the calls of a host.
use Rattle.std.proofs.Common.{◌≡◌, ◌≢◌, ℕ, zero, suc, ◌+◌, ◌-◌, ◌<◌, arith, Bool, true, false, cond, List, [], ◌∷◌, ◌++◌, length, set, slice_get, Option, Some, None, Result, Ok, Err, refl, sym, ap, ◌∙◌, subst, inl, inr, ltb-true, lt-ltb}
use Rattle.std.specs.Prelude.{◌&&◌, ◌||◌, nat_lt, option_and_then, IsSome}
use Rattle.std.specs.List.{count_by}
use Rattle.std.proofs.lemmas.Bool.{cases_Bool, cases_eq, cases_lt, eq-eqb, ne_eqb}
use Rattle.std.proofs.lemmas.Grind.{common_steps}
use Rattle.std.proofs.lemmas.Option.{none-some, same_Some}
use Rattle.std.proofs.lemmas.List.Sums.{sum_by-cons}
use Rattle.usb_device_tables.specs.History.{value_at}
use Rattle.usb_device_tables.proofs.ValueLemmas.{some-of, is-some, value-within, value-last, value-pushed, value-put, value-push_cases}
use Rattle.usb_error.specs.ErrorState.{ErrorState}
use Rattle.usb_kernel.specs.Value.{KernelState}
use Rattle.usb_device_ledger.specs.Entries.{ClaimedInterface, fresh_interface}
use Rattle.usb_device_ledger.specs.OwnerRows.{one_if}
use Rattle.usb_device_ledger.proofs.ListLemmas.{count-push, count-some}
use Rattle.usb_device_ledger.specs.declared.opened.OpenDevice.{OpenDevice}
use Rattle.usb_device_host.specs.HostState.{HostState, host_of}
use Rattle.usb_device_ledger.specs.Devices.{is_held, if_held, device_changed, handle_more, handle_less, interface_more, interface_less}
use Rattle.usb_device_host.specs.DeviceLaws.{holds, holds_at, DevicesAreHeld}
use Rattle.usb_device_host.specs.HostFrames.{ClaimsGoOn}
use Rattle.usb_device_host.proofs.ClaimFrames.{goes-ended}
use Rattle.usb_device_host.specs.HandleStates.{StandsDevice}
use Rattle.usb_device_host.specs.Releases.{owner_gone}
use Rattle.usb_device_host.specs.Handles.{device_cloned, device_closed, handle_added, handle_cloned, devices_left, handle_gone, handle_closed}
use Rattle.usb_device_host.specs.Opens.{open_tried, open_key, with_key, opened_by, host_opened}
use Rattle.usb_device_host.specs.InterfaceClaims.{kernel_claimed, claim_tried, claimed_by, claimed_on, host_claimed}
use Rattle.usb_device_ledger.proofs.DeviceLemmas.{KeepsOpened, opened-same, opened-changed, changed-at, changed-other, KeepsCounts, counts-same, counted-new, counted-old}
use Rattle.usb_device_host.proofs.TryLemmas.{open-counts}

-- an entry, and what is there
pub entry-at : {X : Type 0} (xs : List (Option X)) (i : ℕ) (x : X) → value_at xs i ≡ Some x → slice_get xs i ≡ Some (Some x)
entry-at [] i x at = absurd (none-some x at)
entry-at (y ∷ ys) zero x at = ap (λ o. Some o) at
entry-at (y ∷ ys) (suc i) x at = entry-at ys i x at

-- counts over lists of interfaces
count-cons : {X : Type 0} (p : X → Bool) (x : X) (xs : List X) → count_by p (x ∷ xs) ≡ one_if (p x) + count_by p xs
count-cons p x xs = sum_by-cons (λ x. cond (p x) 1 0) x xs

pub count-none : {X : Type 0} (p : X → Bool) (xs : List X) → ((n : ℕ) (x : X) → slice_get xs n ≡ Some x → p x ≡ false) → count_by p xs ≡ 0
count-none p [] none = refl
count-none p (x ∷ xs) none =
    let here : one_if (p x) ≡ 0 = ap one_if (none 0 x refl) in
    let rest = count-none p xs (λ n y at. none (suc n) y at) in
    omega (arith, here, rest, count-cons p x xs)

count-write : {X : Type 0} (p : X → Bool) (xs : List X) (i : ℕ) (x y : X) → slice_get xs i ≡ Some x → count_by p (set xs i y) + one_if (p x) ≡ count_by p xs + one_if (p y)
count-write p [] i x y at = absurd (none-some x at)
count-write p (z ∷ zs) zero x y at =
    let here : one_if (p z) ≡ one_if (p x) = ap (λ w. one_if (p w)) (same_Some z x at) in
    omega (arith, here, count-cons p z zs, count-cons p y zs)
count-write p (z ∷ zs) (suc i) x y at =
    let rest = count-write p zs i x y at in
    omega (arith, rest, count-cons p z zs, count-cons p z (set zs i y))

count-put : (p : Option ClaimedInterface → Bool) (xs : List (Option ClaimedInterface)) (i : ℕ) (c d : ClaimedInterface) → value_at xs i ≡ Some c → count_by p (set xs i (Some d)) + one_if (p (Some c)) ≡ count_by p xs + one_if (p (Some d))
count-put p xs i c d at = count-write p xs i (Some c) (Some d) (entry-at xs i c at)

count-alike : {X : Type 0} (p : X → Bool) (xs ys : List X) → length ys ≡ length xs → ((k : ℕ) (x y : X) → slice_get xs k ≡ Some x → slice_get ys k ≡ Some y → p y ≡ p x) → count_by p ys ≡ count_by p xs
count-alike p [] [] count each = refl
count-alike p [] (y ∷ ys) count each = absurd (omega (arith, count))
count-alike p (x ∷ xs) [] count each = absurd (omega (arith, count))
count-alike p (x ∷ xs) (y ∷ ys) count each =
    let here : one_if (p y) ≡ one_if (p x) = ap one_if (each 0 x y refl refl) in
    let rest = count-alike p xs ys (omega (arith, count)) (λ k a b at is. each (suc k) a b at is) in
    omega (arith, here, rest, count-cons p x xs, count-cons p y ys)

-- an interface that holds a device, and ones that do not
holds-some : (key : ℕ) (c : ClaimedInterface) → 0 < c.handles → c.opened ≡ key → holds key c ≡ true
holds-some key c some at = rw (lt-ltb 0 c.handles some, eq-eqb c.opened key at) refl

holds-none : (key : ℕ) (c : ClaimedInterface) → c.handles ≡ 0 → holds key c ≡ false
holds-none key c none = rw none refl

and-false : (b : Bool) → (b && false) ≡ false
and-false true = refl
and-false false = refl

holds-other : (key : ℕ) (c : ClaimedInterface) → c.opened ≢ key → holds key c ≡ false
holds-other key c apart = rw (ne_eqb c.opened key apart) (and-false (nat_lt 0 c.handles))

-- interfaces that go hold none
goes-holds : (old new : List (Option ClaimedInterface)) (key k : ℕ) (o q : Option ClaimedInterface) → ClaimsGoOn old new → slice_get old k ≡ Some o → slice_get new k ≡ Some q → holds_at key q ≡ holds_at key o
goes-holds old new key k None None goes at is = refl
goes-holds old new key k None (Some d) goes at is =
    let was = goes.was k d (ap (option_and_then (λ v. v)) is) in
    absurd (none-some d (sym (ap (option_and_then (λ v. v)) at) ∙ was))
goes-holds old new key k (Some c) None goes at is =
    elim (cases_lt 0 c.handles) [
      | inl some ↦ absurd (none-some c (sym (ap (option_and_then (λ v. v)) is) ∙ goes.stays k c (ap (option_and_then (λ v. v)) at) some))
      | inr none ↦ sym (holds-none key c (omega (arith, none)))
    ]
goes-holds old new key k (Some c) (Some d) goes at is =
    let was = goes.was k d (ap (option_and_then (λ v. v)) is) in
    ap (holds key) (sym (same_Some c d (sym (ap (option_and_then (λ v. v)) at) ∙ was)))

goes-count : (old new : List (Option ClaimedInterface)) (key : ℕ) → ClaimsGoOn old new → count_by (holds_at key) new ≡ count_by (holds_at key) old
goes-count old new key goes = count-alike (holds_at key) old new goes.count (λ k o q at is. goes-holds old new key k o q goes at is)

-- a device with the same counts is held as well
same-held : (o p : OpenDevice) → p.handles ≡ o.handles → p.interfaces ≡ o.interfaces → is_held o ≡ true → is_held p ≡ true
same-held o p handles interfaces held = rw (handles, interfaces) held

interface-held : (o : OpenDevice) → 0 < o.interfaces → is_held o ≡ true
interface-held o some = rw (lt-ltb 0 o.interfaces some) (or-true (nat_lt 0 o.handles))
  where
    or-true : (b : Bool) → (b || true) ≡ true
    or-true true = refl
    or-true false = refl

-- the interfaces with handles are on devices that are there
abbrev pub AreThere : List (Option OpenDevice) → List (Option ClaimedInterface) → Type 0
AreThere devices interfaces = (i : ℕ) (c : ClaimedInterface) → value_at interfaces i ≡ Some c → 0 < c.handles → IsSome (value_at devices c.opened)

-- the devices and their counts stay, and as many interfaces hold each
pub held-kept : (h g : HostState) → KeepsCounts h.devices g.devices → ((key : ℕ) → count_by (holds_at key) g.interfaces ≡ count_by (holds_at key) h.interfaces) → AreThere h.devices g.interfaces → DevicesAreHeld h → DevicesAreHeld g
held-kept h g keeps counts there own =
    record {
      held = λ key o at. let c = counted-old h.devices g.devices key o keeps at in same-held c.device o (sym c.handles) (sym c.interfaces) (own.held key c.device c.at);
      counted = λ key o at. let c = counted-old h.devices g.devices key o keeps at in sym c.interfaces ∙ own.counted key c.device c.at ∙ sym (counts key);
      there = λ i c at some.
          let d = some-of (value_at h.devices c.opened) (there i c at some) in
          let e = counted-new h.devices g.devices c.opened d.0 keeps d.1 in
          is-some _ e.device e.at;
    }

-- interfaces may go that have no handle
pub held-goes : (h g : HostState) → KeepsCounts h.devices g.devices → ClaimsGoOn h.interfaces g.interfaces → DevicesAreHeld h → DevicesAreHeld g
held-goes h g keeps goes own = held-kept h g keeps (λ key. goes-count h.interfaces g.interfaces key goes) (λ i c at some. own.there i c (goes.was i c at) some) own

-- an interface is written, which holds its device as before
pub held-written : (h g : HostState) (i : ℕ) (c d : ClaimedInterface) → KeepsCounts h.devices g.devices → value_at h.interfaces i ≡ Some c → g.interfaces ≡ set h.interfaces i (Some d) → d.opened ≡ c.opened → nat_lt 0 d.handles ≡ nat_lt 0 c.handles → DevicesAreHeld h → DevicesAreHeld g
held-written h g i c d keeps at is opened handles own =
    let same : (key : ℕ) → holds key d ≡ holds key c = λ key. rw (opened, handles) refl in
    held-kept h g keeps
    (λ key.
    let one : one_if (holds key d) ≡ one_if (holds key c) = ap one_if (same key) in
    let write = count-put (holds_at key) h.interfaces i c d at in
    let after : count_by (holds_at key) g.interfaces ≡ count_by (holds_at key) (set h.interfaces i (Some d)) = ap (count_by (holds_at key)) is in
    omega (arith, one, write, after))
    (λ j e there some. elim (value-put h.interfaces i j d e (ap (λ (l : List (Option ClaimedInterface)). value_at l j) (sym is) ∙ there)) [
      | inl here ↦
          let e_is : e ≡ d = here.1 in
          let open_ : 0 < d.handles = subst (λ (x : ClaimedInterface). 0 < x.handles) e_is some in
          let was : 0 < c.handles = ltb-true 0 c.handles (sym handles ∙ lt-ltb 0 d.handles open_) in
          subst (λ (n : ℕ). IsSome (value_at h.devices n)) (sym opened ∙ sym (ap (λ (x : ClaimedInterface). x.opened) e_is)) (own.there i c at was)
      | inr other ↦ own.there j e other.1 some
    ])
    own

-- one device changes
pub held-changed : (h g : HostState) (k : ℕ) (change : OpenDevice → OpenDevice) (o : OpenDevice) → value_at h.devices k ≡ Some o → g.devices ≡ device_changed h.devices k change → (change o).interfaces ≡ count_by (holds_at k) g.interfaces
    → ((j : ℕ) → k ≢ j → count_by (holds_at j) g.interfaces ≡ count_by (holds_at j) h.interfaces) → AreThere h.devices g.interfaces → DevicesAreHeld h → DevicesAreHeld g
held-changed h g k change o at is count others there own =
    let here : value_at g.devices k ≡ if_held (change o) = ap (λ ds. value_at ds k) is ∙ changed-at h.devices k change o at in
    let apart_is : (j : ℕ) → k ≢ j → value_at g.devices j ≡ value_at h.devices j = λ j apart. ap (λ ds. value_at ds j) is ∙ changed-other h.devices k j change apart in
    record {
      held = λ j p found. elim (cases_eq k j) [
        | inl same ↦ (if-held (change o) p (sym here ∙ ap (value_at g.devices) same ∙ found)).0
        | inr apart ↦ own.held j p (sym (apart_is j apart) ∙ found)
      ];
      counted = λ j p found. elim (cases_eq k j) [
        | inl same ↦
            let p_is : p ≡ change o = (if-held (change o) p (sym here ∙ ap (value_at g.devices) same ∙ found)).1 in
            ap (λ (x : OpenDevice). x.interfaces) p_is ∙ count ∙ ap (λ n. count_by (holds_at n) g.interfaces) same
        | inr apart ↦ own.counted j p (sym (apart_is j apart) ∙ found) ∙ sym (others j apart)
      ];
      there = λ i c found some. elim (cases_eq k c.opened) [
        | inl same ↦
            let one = count-some (holds_at k) g.interfaces i (Some c) (entry-at g.interfaces i c found) (holds-some k c some (sym same)) in
            let held : is_held (change o) ≡ true = interface-held (change o) (omega (arith, one, count)) in
            is-some _ (change o) (ap (value_at g.devices) (sym same) ∙ here ∙ ap (λ (b : Bool). cond b (Some (change o)) None) held)
        | inr apart ↦ subst (λ (x : Option OpenDevice). IsSome x) (sym (apart_is c.opened apart)) (there i c found some)
      ];
    }
  where
    if-held : (p q : OpenDevice) → if_held p ≡ Some q → (is_held q ≡ true) × (q ≡ p)
    if-held p q is =
        elim (cases_Bool (is_held p)) [
          | inl yes_ ↦
              let same : p ≡ q = same_Some p q (sym (ap (λ (b : Bool). cond b (Some p) None) yes_) ∙ is) in
              (ap is_held (sym same) ∙ yes_, sym same)
          | inr no_ ↦ absurd (none-some q (sym (ap (λ (b : Bool). cond b (Some p) None) no_) ∙ is))
        ]

-- at the start nothing is open
pub held-start : (k : KernelState) → DevicesAreHeld (host_of k)
held-start k =
    record {
      held = λ key o at. absurd (none-some o at);
      counted = λ key o at. absurd (none-some o at);
      there = λ i c at some. absurd (none-some c at);
    }

-- a device is opened
opened-held : (h : HostState) (r : Result OpenDevice ErrorState) → ((o : OpenDevice) → r ≡ Ok o → (o.handles ≡ 1) × (o.interfaces ≡ 0)) → DevicesAreHeld h → DevicesAreHeld (opened_by h r)
opened-held h (Err error) begins own = record { held = own.held; counted = own.counted; there = own.there }
opened-held h (Ok o) begins own =
    let counts = begins o refl in
    let last = value-last h.devices (Some o) in
    let none : count_by (holds_at (length h.devices)) h.interfaces ≡ 0 = count-none (holds_at (length h.devices)) h.interfaces (λ i o at. fresh i o at) in
    record {
      held = λ key p at. elim (cases_eq key (length h.devices)) [
        | inl same ↦
            let p_is : o ≡ p = same_Some o p (sym last ∙ sym (ap (value_at (h.devices ++ Some o ∷ [])) same) ∙ at) in
            ap is_held (sym p_is) ∙ rw counts.0 refl
        | inr apart ↦ own.held key p (sym (value-pushed h.devices (Some o) key apart) ∙ at)
      ];
      counted = λ key p at. elim (cases_eq key (length h.devices)) [
        | inl same ↦
            let p_is : o ≡ p = same_Some o p (sym last ∙ sym (ap (value_at (h.devices ++ Some o ∷ [])) same) ∙ at) in
            sym (ap (λ (x : OpenDevice). x.interfaces) p_is) ∙ counts.1 ∙ sym none ∙ ap (λ n. count_by (holds_at n) h.interfaces) (sym same)
        | inr apart ↦ own.counted key p (sym (value-pushed h.devices (Some o) key apart) ∙ at)
      ];
      there = λ i c at some.
          let d = some-of (value_at h.devices c.opened) (own.there i c at some) in
          let within = value-within h.devices c.opened d.0 d.1 in
          let pushed = value-pushed h.devices (Some o) c.opened (λ z. absurd (omega (arith, z, within))) in
          is-some _ d.0 (pushed ∙ d.1);
    }
  where
    fresh : (i : ℕ) (o : Option ClaimedInterface) → slice_get h.interfaces i ≡ Some o → holds_at (length h.devices) o ≡ false
    fresh i None at = refl
    fresh i (Some c) at =
        elim (cases_lt 0 c.handles) [
          | inl some ↦
              let d = some-of (value_at h.devices c.opened) (own.there i c (ap (option_and_then (λ v. v)) at) some) in
              let within = value-within h.devices c.opened d.0 d.1 in
              holds-other (length h.devices) c (λ z. absurd (omega (arith, z, within)))
          | inr none ↦ holds-none (length h.devices) c (omega (arith, none))
        ]

pub held-opened : (h : HostState) (bus address : ℕ) → DevicesAreHeld h → DevicesAreHeld (host_opened h bus address)
unfolding host_opened
held-opened h bus address own =
    let step = open_tried bus address h.kernel in
    opened-held (record h { kernel = step.kernel }) step.answer (λ o is. open-counts bus address h.kernel o is) (record { held = own.held; counted = own.counted; there = own.there })

-- a handle of a device is cloned, or closed
pub held-device_cloned : (h : HostState) (key : ℕ) → StandsDevice h key → DevicesAreHeld h → DevicesAreHeld (device_cloned h key)
held-device_cloned h key stands own =
    held-changed h (device_cloned h key) key handle_more stands.device stands.at refl (own.counted key stands.device stands.at) (λ j apart. refl) own.there own

pub held-device_closed : (h : HostState) (key : ℕ) → StandsDevice h key → DevicesAreHeld h → DevicesAreHeld (device_closed h key)
held-device_closed h key stands own =
    held-changed h (device_closed h key) key handle_less stands.device stands.at refl (own.counted key stands.device stands.at) (λ j apart. refl) own.there own

-- an interface is claimed
claimed-by-held : (h : HostState) (c : ClaimedInterface) (o : OpenDevice) (r : Result (Unit {0}) ErrorState) → value_at h.devices c.opened ≡ Some o → 0 < c.handles → DevicesAreHeld h → DevicesAreHeld (claimed_by h c r)
claimed-by-held h c o (Err error) at some own = own
claimed-by-held h c o (Ok done) at some own =
    held-changed h (claimed_by h c (Ok done)) c.opened interface_more o at refl
    (let one : one_if (holds c.opened c) ≡ 1 = ap one_if (holds-some c.opened c some refl) in
    let more = count-push (holds_at c.opened) h.interfaces (Some c) in
    let was = own.counted c.opened o at in
    omega (arith, one, more, was))
    (λ j apart.
    let none : one_if (holds j c) ≡ 0 = ap one_if (holds-other j c apart) in
    let more = count-push (holds_at j) h.interfaces (Some c) in
    omega (arith, none, more))
    (λ i d found open_. elim (value-push_cases h.interfaces c d i found) [
      | inl last ↦ subst (λ (x : ClaimedInterface). IsSome (value_at h.devices x.opened)) (sym last.1) (is-some (value_at h.devices c.opened) o at)
      | inr before ↦ own.there i d before.1 open_
    ])
    own

claimed-on-held : (h : HostState) (key number : ℕ) (reattach : Bool) (o : Option OpenDevice) → value_at h.devices key ≡ o → DevicesAreHeld h → DevicesAreHeld (claimed_on h key number reattach o)
claimed-on-held h key number reattach None at own = own
claimed-on-held h key number reattach (Some o) at own =
    claimed-by-held (record h { kernel = kernel_claimed h.kernel o number reattach }) (fresh_interface key o.device number reattach) o (claim_tried h o number reattach) at (omega arith)
    (record { held = own.held; counted = own.counted; there = own.there })

pub held-claimed : (h : HostState) (key number : ℕ) (reattach : Bool) → DevicesAreHeld h → DevicesAreHeld (host_claimed h key number reattach)
unfolding host_claimed
held-claimed h key number reattach own = claimed-on-held h key number reattach (value_at h.devices key) refl own

-- a handle of an interface is cloned
pub held-handle_cloned : (h : HostState) (i : ℕ) (c : ClaimedInterface) → value_at h.interfaces i ≡ Some c → 0 < c.handles → DevicesAreHeld h → DevicesAreHeld (handle_cloned h i)
unfolding handle_cloned
held-handle_cloned h i c at some own =
    let more : ClaimedInterface = record c { handles = c.handles + 1 } in
    let is : (handle_added h i (value_at h.interfaces i)).interfaces ≡ set h.interfaces i (Some more) = ap (λ o. (handle_added h i o).interfaces) at in
    let devices : (handle_added h i (value_at h.interfaces i)).devices ≡ h.devices = ap (λ o. (handle_added h i o).devices) at in
    let one : 0 < c.handles + 1 = omega arith in
    held-written h (handle_added h i (value_at h.interfaces i)) i c more (counts-same h.devices _ devices) at is refl (lt-ltb 0 (c.handles + 1) one ∙ sym (lt-ltb 0 c.handles some)) own

-- or closed
module _ (h : HostState) (i : ℕ) (c : ClaimedInterface) (at : value_at h.interfaces i ≡ Some c) (some : 0 < c.handles) (own : DevicesAreHeld h) where
  abbrev less : ClaimedInterface
  less = record c { handles = c.handles - 1 }

  -- it was not the last
  more-left : (g : HostState) → g.devices ≡ h.devices → g.interfaces ≡ set h.interfaces i (Some less) → 1 < c.handles → DevicesAreHeld g
  more-left g devices is many =
      let one : 0 < c.handles - 1 = omega (arith, many) in
      held-written h g i c less (counts-same h.devices g.devices devices) at is refl (lt-ltb 0 (c.handles - 1) one ∙ sym (lt-ltb 0 c.handles some)) own

  -- it was the last
  none-left : (g : HostState) → g.devices ≡ device_changed h.devices c.opened interface_less → g.interfaces ≡ set h.interfaces i (Some less) → c.handles ≡ 1 → DevicesAreHeld g
  none-left g devices is last =
      let d = some-of (value_at h.devices c.opened) (own.there i c at some) in
      let none : c.handles - 1 ≡ 0 = omega (arith, last) in
      held-changed h g c.opened interface_less d.0 d.1 devices
      (let was : one_if (holds c.opened c) ≡ 1 = ap one_if (holds-some c.opened c some refl) in
      let now : one_if (holds c.opened less) ≡ 0 = ap one_if (holds-none c.opened less none) in
      let write = count-put (holds_at c.opened) h.interfaces i c less at in
      let after : count_by (holds_at c.opened) g.interfaces ≡ count_by (holds_at c.opened) (set h.interfaces i (Some less)) = ap (count_by (holds_at c.opened)) is in
      let count = own.counted c.opened d.0 d.1 in
      omega (arith, was, now, write, after, count))
      (λ j apart.
      let was : one_if (holds j c) ≡ 0 = ap one_if (holds-other j c apart) in
      let now : one_if (holds j less) ≡ 0 = ap one_if (holds-other j less apart) in
      let write = count-put (holds_at j) h.interfaces i c less at in
      let after : count_by (holds_at j) g.interfaces ≡ count_by (holds_at j) (set h.interfaces i (Some less)) = ap (count_by (holds_at j)) is in
      omega (arith, was, now, write, after))
      (λ j e found open_. elim (value-put h.interfaces i j less e (ap (λ (l : List (Option ClaimedInterface)). value_at l j) (sym is) ∙ found)) [
        | inl here ↦
            let gone : 0 < less.handles = subst (λ (x : ClaimedInterface). 0 < x.handles) here.1 open_ in
            absurd (omega (arith, gone, none))
        | inr other ↦ own.there j e other.1 open_
      ])
      own

  abbrev fewer : HostState
  fewer = record h { devices = devices_left h.devices c; interfaces = set h.interfaces i (Some less) }

  fewer-held : DevicesAreHeld fewer
  fewer-held =
      elim (cases_Bool (nat_lt 1 c.handles)) [
        | inl many ↦ more-left fewer (ap (λ (b : Bool). cond b h.devices (device_changed h.devices c.opened interface_less)) many) refl (ltb-true 1 c.handles many)
        | inr few ↦ none-left fewer (ap (λ (b : Bool). cond b h.devices (device_changed h.devices c.opened interface_less)) few) refl (one c.handles some few)
      ]
    where
      one : (n : ℕ) → 0 < n → nat_lt 1 n ≡ false → n ≡ 1
      one n some few = grind (arith, common_steps)

  gone-held : DevicesAreHeld (handle_gone h i (Some c))
  unfolding owner_gone
  gone-held = held-goes fewer (handle_gone h i (Some c)) (counts-same fewer.devices fewer.devices refl) (goes-ended fewer.interfaces h.tickets h.endpoints i) fewer-held

  pub held-handle_closed : DevicesAreHeld (handle_closed h i)
  unfolding handle_closed
  held-handle_closed = subst (λ (o : Option ClaimedInterface). DevicesAreHeld (handle_gone h i o)) (sym at) gone-held

-- a claim, and the close of a handle of an interface, leave the handles of devices
claimed-by-opened : (h : HostState) (c : ClaimedInterface) (r : Result (Unit {0}) ErrorState) → KeepsOpened h.devices (claimed_by h c r).devices
claimed-by-opened h c (Err error) = opened-same h.devices h.devices refl
claimed-by-opened h c (Ok done) = opened-changed h.devices c.opened interface_more (λ o. refl)

claimed-on-opened : (h : HostState) (key number : ℕ) (reattach : Bool) (o : Option OpenDevice) → KeepsOpened h.devices (claimed_on h key number reattach o).devices
claimed-on-opened h key number reattach None = opened-same h.devices h.devices refl
claimed-on-opened h key number reattach (Some o) = claimed-by-opened (record h { kernel = kernel_claimed h.kernel o number reattach }) (fresh_interface key o.device number reattach) (claim_tried h o number reattach)

pub opened-claimed : (h : HostState) (key number : ℕ) (reattach : Bool) → KeepsOpened h.devices (host_claimed h key number reattach).devices
unfolding host_claimed
opened-claimed h key number reattach = claimed-on-opened h key number reattach (value_at h.devices key)

left-opened : (devices : List (Option OpenDevice)) (c : ClaimedInterface) (b : Bool) → KeepsOpened devices (cond b devices (device_changed devices c.opened interface_less))
left-opened devices c true = opened-same devices devices refl
left-opened devices c false = opened-changed devices c.opened interface_less (λ o. refl)

gone-opened : (h : HostState) (i : ℕ) (o : Option ClaimedInterface) → KeepsOpened h.devices (handle_gone h i o).devices
unfolding owner_gone
gone-opened h i None = opened-same h.devices h.devices refl
gone-opened h i (Some c) = left-opened h.devices c (nat_lt 1 c.handles)

pub opened-handle_closed : (h : HostState) (i : ℕ) → KeepsOpened h.devices (handle_closed h i).devices
unfolding handle_closed
opened-handle_closed h i = gone-opened h i (value_at h.interfaces i)

-- what an open that was not refused adds, and one that was
pub record OpensOne (h : HostState) (now : List (Option OpenDevice)) (key : ℕ) : Type 0 where
  pub device : OpenDevice
  pub key_is : key ≡ length h.devices
  pub devices : now ≡ h.devices ++ Some device ∷ []
  pub handles : device.handles ≡ 1

opens-by : (h : HostState) (key : ℕ) (r : Result OpenDevice ErrorState) → ((o : OpenDevice) → r ≡ Ok o → o.handles ≡ 1) → with_key (length h.devices) r ≡ Ok key → OpensOne h (opened_by h r).devices key
opens-by h key (Err error) one is = absurd (cc)
opens-by h key (Ok o) one is = let same : length h.devices ≡ key = cc in record { device = o; key_is = sym same; devices = refl; handles = one o refl }

pub opens-one : (h : HostState) (bus address key : ℕ) → open_key h bus address ≡ Ok key → OpensOne h (host_opened h bus address).devices key
unfolding open_key host_opened
opens-one h bus address key is =
    let step = open_tried bus address h.kernel in
    let made = opens-by (record h { kernel = step.kernel }) key step.answer (λ o answer. (open-counts bus address h.kernel o answer).0) is in
    record { device = made.device; key_is = made.key_is; devices = made.devices; handles = made.handles }

refused-by : (h : HostState) (error : ErrorState) (r : Result OpenDevice ErrorState) → with_key (length h.devices) r ≡ Err error → (opened_by h r).devices ≡ h.devices
refused-by h error (Err other) is = refl
refused-by h error (Ok o) is = absurd (cc)

pub opens-none : (h : HostState) (bus address : ℕ) (error : ErrorState) → open_key h bus address ≡ Err error → (host_opened h bus address).devices ≡ h.devices
unfolding open_key host_opened
opens-none h bus address error is = let step = open_tried bus address h.kernel in refused-by (record h { kernel = step.kernel }) error step.answer is
