-- Devices at the start.
use Rattle.std.proofs.Common.{◌≡◌, ℕ, ◌+◌, ◌<◌, inl, inr, eqb, Bool, true, List, [], ◌∷◌, ◌++◌, map, is_some, refl, sym, ◌∙◌, arith}
use Rattle.std.specs.List.{list_any}
use Rattle.std.proofs.lemmas.Bool.{cases_lt}
use Rattle.std.proofs.lemmas.Bool.Decides.{nat_tests}
use Rattle.usb_kernel_devices.specs.declared.devices.SimDevice.{SimDevice}
use Rattle.usb_kernel_devices.specs.Devices.{fresh_device, plugged_device}

abbrev has_number : ℕ → (ℕ × SimDevice) → Bool
has_number d p = eqb p.0 d

-- each is plugged
fresh-plugged : (ps : List (ℕ × SimDevice)) (d : ℕ) → is_some (plugged_device (map fresh_device ps) d) ≡ list_any (has_number d) ps
fresh-plugged [] d = refl
fresh-plugged (p ∷ ps) d = grind (arith, nat_tests, fresh-plugged ps d)

any-more : (ps qs : List (ℕ × SimDevice)) (d : ℕ) → list_any (has_number d) ps ≡ true → list_any (has_number d) (ps ++ qs) ≡ true
any-more [] qs d found = absurd (let e = found in cc)
any-more (p ∷ ps) qs d found = grind (arith, nat_tests, any-more ps qs d)

any-last : (ps : List (ℕ × SimDevice)) (p : ℕ × SimDevice) (d : ℕ) → p.0 ≡ d → list_any (has_number d) (ps ++ p ∷ []) ≡ true
any-last [] p d is = grind (arith, nat_tests)
any-last (q ∷ ps) p d is = grind (arith, nat_tests, any-last ps p d is)

-- with one more, all numbers up to its own are there
pub plugged-more : (ps : List (ℕ × SimDevice)) (p : ℕ × SimDevice) (n : ℕ) → p.0 ≡ n → ((d : ℕ) → d < n → is_some (plugged_device (map fresh_device ps) d) ≡ true) → (d : ℕ) → d < n + 1 → is_some (plugged_device (map fresh_device (ps ++ p ∷ [])) d) ≡ true
plugged-more ps p n is all d below =
    fresh-plugged (ps ++ p ∷ []) d
    ∙ elim (cases_lt d n) [
      | inl less ↦ any-more ps (p ∷ []) d (sym (fresh-plugged ps d) ∙ all d less)
      | inr top ↦ any-last ps p d (omega arith)
    ]
