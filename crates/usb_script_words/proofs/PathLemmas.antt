-- The names of a path, one after another.
use Rattle.std.proofs.Common.{◌≡◌, ℕ, ◌+◌, ◌≤◌, ◌<◌, true, false, ◌&&◌, List, length, drop, get_or, sym, ap, ◌∙◌}
use Rattle.std.specs.List.{list_all}
use Rattle.std.proofs.lemmas.List.{at_drop_more, at_drop_all}
use Rattle.usb_script_words.specs.Places.{is_step}

step_turn : (parts : List (List ℕ)) (i : ℕ) (part : List ℕ) → (i < length parts) × (part ≡ get_or parts i part) → list_all is_step (drop i parts) ≡ (is_step part && list_all is_step (drop (i + 1) parts))
step_turn parts i part at =
    at_drop_more (list_all is_step) parts i part at.0 ∙ ap (λ p. is_step p && list_all is_step (drop (i + 1) parts)) (sym at.1)

pub steps_more : (parts : List (List ℕ)) (i j : ℕ) (part : List ℕ) → (i < length parts) × (part ≡ get_or parts i part) → is_step part ≡ true → j ≡ i + 1 → list_all is_step (drop j parts) ≡ list_all is_step (drop i parts)
steps_more parts i j part at holds is_more =
    rw is_more (sym (step_turn parts i part at ∙ ap (λ b. b && list_all is_step (drop (i + 1) parts)) holds))

pub no_step : (parts : List (List ℕ)) (i : ℕ) (part : List ℕ) → (i < length parts) × (part ≡ get_or parts i part) → is_step part ≡ false → list_all is_step (drop i parts) ≡ false
no_step parts i part at holds = step_turn parts i part at ∙ ap (λ b. b && list_all is_step (drop (i + 1) parts)) holds

pub steps_end : (parts : List (List ℕ)) (i : ℕ) → length parts ≤ i → list_all is_step (drop i parts) ≡ true
steps_end parts i past = at_drop_all (list_all is_step) parts i past
