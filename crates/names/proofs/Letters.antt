-- Laws about words in lower case, one letter at a time.
-- Assumes nothing.
use Prim.Native.Nat.{ℕ, ◌<◌, ◌≤◌, ◌+◌}
use native.Mathlib.Omega.{arith}
use mathlib.Core.Path.{◌≡◌, sym, ◌∙◌}
use mathlib.Core.Bool.{true, false}
use mathlib.Core.List.{List, map}
use lib.ListN.{length, get_or, drop, length-map, get_or-map}
use Rattle.laws.specs.Logic.{when}
use Rattle.laws.specs.Tests.{same_list}
use Rattle.laws.proofs.Same.{same_lengths, same_on, same_stop, same_end}
use Rattle.names.specs.Names.{lower, same_letters}

lowered_at : (word : List ℕ) (i : ℕ) → get_or (map lower word) i 0 ≡ lower (get_or word i 0)
unfolding when
lowered_at word i = get_or-map lower word i 0

module _ (name word : List ℕ) where
  pub letters_apart : (length word ≡ length name → ⊥) → same_letters word name ≡ false
  letters_apart apart = same_lengths (map lower word) (map lower name) (λ e. apart (sym (length-map word lower) ∙ e ∙ length-map name lower))

  -- what is left of both from a place on
  module _ (i : ℕ) (same : length word ≡ length name) where
    pub letters_end : length word ≤ i → same_list (drop i (map lower word)) (drop i (map lower name)) ≡ true
    letters_end past = same_end (map lower word) (map lower name) i (omega (arith, past, length-map word lower)) (omega (arith, past, same, length-map name lower))

    module _ (inside : i < length word) {x y : ℕ} (of_word : x ≡ lower (get_or word i 0)) (of_name : y ≡ lower (get_or name i 0)) where
      in_word : i < length (map lower word)
      in_word = omega (arith, inside, length-map word lower)

      in_name : i < length (map lower name)
      in_name = omega (arith, inside, same, length-map name lower)

      pub letters_on : x ≡ y → same_list (drop i (map lower word)) (drop i (map lower name)) ≡ same_list (drop (i + 1) (map lower word)) (drop (i + 1) (map lower name))
      letters_on e = same_on (map lower word) (map lower name) i in_word in_name (lowered_at word i ∙ sym of_word ∙ e ∙ of_name ∙ sym (lowered_at name i))

      pub letters_stop : (x ≡ y → ⊥) → same_list (drop i (map lower word)) (drop i (map lower name)) ≡ false
      letters_stop differ = same_stop (map lower word) (map lower name) i in_word in_name (λ e. differ (of_word ∙ sym (lowered_at word i) ∙ e ∙ lowered_at name i ∙ sym of_name))
