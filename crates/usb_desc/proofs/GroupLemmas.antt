-- Lemmas on groups of descriptors.
use Rattle.std.proofs.Common.{◌≡◌, ℕ, ◌+◌, ◌-◌, ◌≤◌, true, false, List, [], ◌∷◌, ◌++◌, length, take, drop, refl, sym, ◌∙◌, ap, arith, append_assoc, append-nil, get_or-take, length-take}
use Rattle.std.proofs.lemmas.Bool.{cond-true, cond-false}
use Rattle.std.proofs.lemmas.Bool.Decides.{nat_tests}
use Rattle.std.proofs.lemmas.List.{drop-drop}
use Rattle.std.proofs.Math.Seq.{take-add}
use Rattle.usb_desc.specs.Bytes.{length_field, type_field}
use Rattle.usb_desc.specs.Chain.{begins_descriptor, first_descriptor, behind_first, chain}
use Rattle.usb_desc.specs.Groups.{begins_group, goes_on, run_bytes, groups_among, groups}
use Rattle.usb_desc.specs.Forms.{BeginsWith}
use Rattle.usb_desc.proofs.ChainLemmas.{at_least_two, chain_first, chain_none, first_byte, length_behind}

module _ (kind least : ℕ) (bytes : List ℕ) where
  pub groups_none : begins_descriptor bytes ≡ false → groups kind least bytes ≡ []
  unfolding groups
  groups_none ends = ap (groups_among kind least) (chain_none bytes ends)

  pub groups_skip : begins_descriptor bytes ≡ true → begins_group kind least (first_descriptor bytes) ≡ false → groups kind least bytes ≡ groups kind least (behind_first bytes)
  unfolding groups
  groups_skip begins other = ap (groups_among kind least) (chain_first bytes begins) ∙ cond-false _ _ _ other

  pub groups_start : begins_descriptor bytes ≡ true → begins_group kind least (first_descriptor bytes) ≡ true → groups kind least bytes ≡ (first_descriptor bytes ++ run_bytes kind (chain (behind_first bytes))) ∷ groups kind least (behind_first bytes)
  unfolding groups
  groups_start begins starts = ap (groups_among kind least) (chain_first bytes begins) ∙ cond-true _ _ _ starts

-- a descriptor that goes on with a group begins none
pub begins_none : (kind least : ℕ) (descriptor : List ℕ) → goes_on kind descriptor ≡ true → begins_group kind least descriptor ≡ false
begins_none kind least descriptor on = grind (arith, nat_tests)

module _ (kind : ℕ) (bytes : List ℕ) where
  pub run_none : begins_descriptor bytes ≡ false → run_bytes kind (chain bytes) ≡ []
  run_none ends = ap (run_bytes kind) (chain_none bytes ends)

  pub run_stop : begins_descriptor bytes ≡ true → goes_on kind (first_descriptor bytes) ≡ false → run_bytes kind (chain bytes) ≡ []
  run_stop begins off = ap (run_bytes kind) (chain_first bytes begins) ∙ cond-false _ _ _ off

  pub run_step : begins_descriptor bytes ≡ true → goes_on kind (first_descriptor bytes) ≡ true → run_bytes kind (chain bytes) ≡ first_descriptor bytes ++ run_bytes kind (chain (behind_first bytes))
  run_step begins on = ap (run_bytes kind) (chain_first bytes begins) ∙ cond-true _ _ _ on

-- what the walk along a run knows, with `rest` still to be walked
pub record WalksRun (kind : ℕ) (bytes rest : List ℕ) : Type 0 where
  pub shorter : length rest ≤ length bytes
  pub rest_is : rest ≡ drop (length bytes - length rest) bytes
  pub run_is : run_bytes kind (chain bytes) ≡ take (length bytes - length rest) bytes ++ run_bytes kind (chain rest)
  pub groups_are : (least : ℕ) → groups kind least bytes ≡ groups kind least rest

pub run_begins : (kind : ℕ) (bytes : List ℕ) → WalksRun kind bytes bytes
run_begins kind bytes =
    let none : length bytes - length bytes ≡ 0 = omega arith in
    record {
      shorter = omega arith;
      rest_is = rw none refl;
      run_is = rw none refl;
      groups_are = λ least. refl;
    }

module _ (kind : ℕ) (bytes rest : List ℕ) (walks : WalksRun kind bytes rest) (begins : begins_descriptor rest ≡ true) (on : goes_on kind (first_descriptor rest) ≡ true) where
  walked : length bytes - length (behind_first rest) ≡ (length bytes - length rest) + length_field rest
  walked =
      let shorter = walks.shorter in
      let behind = length_behind rest begins in
      omega arith

  pub run_goes_on : WalksRun kind bytes (behind_first rest)
  run_goes_on =
      let n = length bytes - length rest in
      let k = length_field rest in
      record {
        shorter = let s = walks.shorter in let b = length_behind rest begins in omega arith;
        rest_is = ap (drop k) walks.rest_is ∙ drop-drop k n bytes ∙ ap (λ i. drop i bytes) (sym walked);
        run_is = walks.run_is ∙ ap (λ run. take n bytes ++ run) (run_step kind rest begins on) ∙ sym (append_assoc (take n bytes) (first_descriptor rest) (run_bytes kind (chain (behind_first rest))))
            ∙ ap (λ front. front ++ run_bytes kind (chain (behind_first rest))) (ap (λ r. take n bytes ++ take k r) walks.rest_is ∙ sym (take-add n k bytes) ∙ ap (λ i. take i bytes) (sym walked));
        groups_are = λ least. walks.groups_are least ∙ groups_skip kind least rest begins (begins_none kind least (first_descriptor rest) on);
      }

module _ (kind : ℕ) (bytes rest : List ℕ) (walks : WalksRun kind bytes rest) where
  pub run_ends : run_bytes kind (chain rest) ≡ [] → run_bytes kind (chain bytes) ≡ take (length bytes - length rest) bytes
  run_ends none = walks.run_is ∙ ap (λ run. take (length bytes - length rest) bytes ++ run) none ∙ append-nil _

-- a descriptor that begins a group has the type and the least length
pub begins_type : (kind least : ℕ) (descriptor : List ℕ) → begins_group kind least descriptor ≡ true → type_field descriptor ≡ kind
begins_type kind least descriptor starts = grind (arith, nat_tests)

pub begins_long : (kind least : ℕ) (descriptor : List ℕ) → begins_group kind least descriptor ≡ true → least ≤ length_field descriptor
begins_long kind least descriptor starts = grind (arith, nat_tests)

-- the group at the front, given how many bytes of the run behind its first descriptor
module _ (kind least n : ℕ) (bytes : List ℕ) (begins : begins_descriptor bytes ≡ true) (starts : begins_group kind least (first_descriptor bytes) ≡ true) where
  pub group_first : run_bytes kind (chain (behind_first bytes)) ≡ take n (behind_first bytes) → groups kind least (behind_first bytes) ≡ groups kind least (drop n (behind_first bytes)) → groups kind least bytes ≡ take (length_field bytes + n) bytes ∷ groups kind least (drop (length_field bytes + n) bytes)
  group_first run behind =
      let k = length_field bytes in
      let front : first_descriptor bytes ++ run_bytes kind (chain (behind_first bytes)) ≡ take (k + n) bytes = ap (λ r. first_descriptor bytes ++ r) run ∙ sym (take-add k n bytes) in
      let back : groups kind least (behind_first bytes) ≡ groups kind least (drop (k + n) bytes) = behind ∙ ap (groups kind least) (drop-drop n k bytes) in
      groups_start kind least bytes begins starts ∙ ap (λ g. g ∷ groups kind least (behind_first bytes)) front ∙ ap (λ gs. take (k + n) bytes ∷ gs) back

  pub group_form : n ≤ length (behind_first bytes) → BeginsWith kind least (take (length_field bytes + n) bytes)
  group_form inside =
      let k = length_field bytes in
      let two = at_least_two bytes begins in
      let long = length_behind bytes begins in
      let front : length_field (take (k + n) bytes) ≡ k = get_or-take (k + n) bytes 0 0 (omega arith) in
      let kinds : type_field (take (k + n) bytes) ≡ type_field bytes = get_or-take (k + n) bytes 1 0 (omega arith) in
      let first_long = begins_long kind least (first_descriptor bytes) starts in
      let same_length = first_byte bytes 0 begins (omega arith) in
      let same_type = first_byte bytes 1 begins (omega arith) in
      record {
        type = kinds ∙ sym same_type ∙ begins_type kind least (first_descriptor bytes) starts;
        long_enough = omega arith;
        whole = omega (arith, length-take (k + n) bytes);
      }
