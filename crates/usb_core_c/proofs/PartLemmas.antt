-- Where the first group of a type stands.
use Rattle.std.proofs.Common.{◌≡◌, ℕ, ◌+◌, ◌-◌, ◌≤◌, true, false, List, ◌∷◌, length, take, drop, sym, ◌∙◌, ap, arith}
use Rattle.std.proofs.lemmas.List.{drop-drop}
use Rattle.usb_desc.specs.Bytes.{length_field}
use Rattle.usb_desc.specs.Chain.{begins_descriptor, first_descriptor, behind_first, chain}
use Rattle.usb_desc.specs.Groups.{begins_group, run_bytes, groups}
use Rattle.usb_desc.proofs.ChainLemmas.{length_behind}
use Rattle.usb_desc.proofs.GroupLemmas.{groups_skip, group_first, group_form}
use Rattle.usb_core_c.specs.Parts.{IsFirstGroup}

-- what the walk to a group knows, with `rest` still to be walked
pub record WalksTo (kind least : ℕ) (bytes rest : List ℕ) : Type 0 where
  pub shorter : length rest ≤ length bytes
  pub rest_is : rest ≡ drop (length bytes - length rest) bytes
  pub groups_are : groups kind least bytes ≡ groups kind least rest

module _ (kind least : ℕ) (bytes rest : List ℕ) (walks : WalksTo kind least bytes rest) (begins : begins_descriptor rest ≡ true) where
  walked : length bytes - length (behind_first rest) ≡ (length bytes - length rest) + length_field rest
  walked =
      let shorter = walks.shorter in
      let behind = length_behind rest begins in
      omega arith

  pub walk_goes_on : begins_group kind least (first_descriptor rest) ≡ false → WalksTo kind least bytes (behind_first rest)
  walk_goes_on other =
      let n = length bytes - length rest in
      let k = length_field rest in
      record {
        shorter = let s = walks.shorter in let b = length_behind rest begins in omega arith;
        rest_is = ap (drop k) walks.rest_is ∙ drop-drop k n bytes ∙ ap (λ i. drop i bytes) (sym walked);
        groups_are = walks.groups_are ∙ groups_skip kind least rest begins other;
      }

  -- the group is found: its first descriptor, and n bytes of the run behind that
  pub group_found : (m n : ℕ) → m ≡ length_field rest → begins_group kind least (first_descriptor rest) ≡ true
      → run_bytes kind (chain (behind_first rest)) ≡ take n (behind_first rest) → groups kind least (behind_first rest) ≡ groups kind least (drop n (behind_first rest))
      → n ≤ length (behind_first rest) → IsFirstGroup kind least bytes (record { start = length bytes - length rest; len = m + n })
  group_found m n same starts run behind inside =
      let k = length_field rest in
      let start = length bytes - length rest in
      let here : drop start bytes ≡ rest = sym walks.rest_is in
      let front : take (m + n) (drop start bytes) ≡ take (k + n) rest = ap (λ i. take (i + n) (drop start bytes)) same ∙ ap (take (k + n)) here in
      let back : drop (start + (m + n)) bytes ≡ drop (k + n) rest = sym (drop-drop (m + n) start bytes) ∙ ap (drop (m + n)) here ∙ ap (λ i. drop (i + n) rest) same in
      let shorter = walks.shorter in
      let long = length_behind rest begins in
      record {
        within = omega (arith, same, inside);
        form = rw front (group_form kind least n rest begins starts inside);
        groups_are = walks.groups_are ∙ group_first kind least n rest begins starts run behind
            ∙ ap (λ g. g ∷ groups kind least (drop (k + n) rest)) (sym front)
            ∙ ap (λ bs. take (m + n) (drop start bytes) ∷ groups kind least bs) (sym back);
      }
