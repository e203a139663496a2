-- The list of the places of all serial numbers.
use Rattle.std.proofs.Common.{◌≡◌, ℕ, suc, ◌-◌, ◌<◌, List, [], ◌∷◌, ◌++◌, length, take, set, slice_get, Option, Some, None, refl, sym, ap, ◌∙◌, inl, inr, arith, length-append}
use Rattle.std.proofs.lemmas.Option.{same_Some, slice_get_within}
use Rattle.std.proofs.lemmas.List.{length-set, take-set}
use Rattle.std.proofs.lemmas.Bool.{cases_eq}
use Rattle.slab.specs.Slab.{Updates, Slab, get}
use Rattle.usb_device_tables.specs.declared.entry.Entry.{Entry}
use Rattle.usb_device_tables.specs.Entries.{find_serial, history, HasSerialAt, IsSound, IsPlaced}
use Rattle.usb_device_tables.specs.History.{value_at}
use Rattle.usb_device_tables.proofs.SerialLemmas.{length-below, before-append, at-end}
use Rattle.usb_device_tables.proofs.ValueLemmas.{take-others, value-taken}
use Rattle.usb_device_tables.proofs.EntryLemmas.{changed, found-at, value-history}

module _ {T : Type 0} where
  -- no two entries have one serial number, and each is below the next
  pub sound-placed : (slots : List (Option (Entry T))) (places : List ℕ) → IsPlaced slots places → IsSound slots (length places)
  sound-placed slots places placed =
      record {
        below = λ place e at. slice_get_within places e.serial place (placed place e at);
        apart = λ j k e f here there same. same_Some j k (sym (placed j e here) ∙ ap (slice_get places) same ∙ placed k f there);
      }

  -- an entry with a serial number is at the place that is listed for it
  pub listed : (slots : List (Option (Entry T))) (places : List ℕ) (serial place : ℕ) → IsPlaced slots places → HasSerialAt slots serial place → slice_get places serial ≡ Some place
  listed slots places serial place placed h = ap (slice_get places) (sym h.serial_is) ∙ placed place h.entry h.at

  -- and so it is the entry there
  pub entry-listed : (slots : Slab (Entry T)) (places : List ℕ) (serial place : ℕ) → IsPlaced slots.slots places → slice_get places serial ≡ Some place → (at : ℕ) (h : HasSerialAt slots.slots serial at) → get slots place ≡ Some h.entry
  entry-listed slots places serial place placed is at h =
      let same : at ≡ place = same_Some at place (sym (listed slots.slots places serial at placed h) ∙ is) in
      ap (get slots) (sym same) ∙ h.at

  -- another entry came, with the next serial number
  pub placed-inserted : (old new : Slab (Entry T)) (places : List ℕ) (place : ℕ) (e : Entry T) → IsPlaced old.slots places → Updates old new place (Some e) → e.serial ≡ length places → IsPlaced new.slots (places ++ place ∷ [])
  placed-inserted old new places place e placed updates next k f at =
      elim (changed old new place (Some e) k f updates at) [
        | inl w ↦
            let last : f.serial ≡ length places = ap (λ (x : Entry T). x.serial) (sym (same_Some e f w.1)) ∙ next in
            ap (slice_get (places ++ place ∷ [])) last ∙ at-end places place ∙ ap Some (sym w.0)
        | inr w ↦
            let was = placed k f w.1 in
            before-append places place f.serial (length places) refl (slice_get_within places f.serial k was) ∙ was
      ]

  -- the last serial number is taken back, after its value was taken out
  module _ (slots : List (Option (Entry T))) (left : List ℕ) (place : ℕ) (before : List (Option T)) (placed : IsPlaced slots (left ++ place ∷ [])) (is : history slots (length (left ++ place ∷ [])) ≡ set before (length before - 1) None) where
    one-more : length (left ++ place ∷ []) ≡ suc (length left)
    one-more = omega (arith, length-append left (place ∷ []))

    is-last : length left ≡ length before - 1
    is-last = omega (arith, length-below (find_serial slots) (length (left ++ place ∷ [])), ap length is, length-set before (length before - 1) None, one-more)

    pub placed-taken_back : IsPlaced slots left
    placed-taken_back k e at =
        let was = placed k e at in
        elim (cases_eq e.serial (length left)) [
          | inl same ↦
              let sound = sound-placed slots (left ++ place ∷ []) placed in
              let there = sym (ap (λ values. value_at values e.serial) is) ∙ value-history slots (length (left ++ place ∷ [])) e.serial sound ∙ found-at slots k e sound.apart at in
              absurd ((value-taken before (length before - 1) e.serial e.value there).0 (same ∙ is-last))
          | inr other ↦
              let below : e.serial < length left = omega (arith, other, slice_get_within (left ++ place ∷ []) e.serial k was, one-more) in
              sym (before-append left place e.serial (length left) refl below) ∙ was
        ]

    pub history-taken_back : history slots (length left) ≡ take (length before - 1) before
    history-taken_back =
        let shorter = sym (take-others (history slots (length left)) (find_serial slots (length left))) in
        let last = sym (ap (history slots) one-more) ∙ is in
        shorter ∙ ap (λ values. take (length values - 1) values) last ∙ ap (λ n. take (n - 1) (set before (length before - 1) None)) (length-set before (length before - 1) None) ∙ take-set before (length before - 1) None
