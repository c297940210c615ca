-- A word stands nowhere in bits on which a table of states, made for that word, never comes to its last state: the word leads there from any
-- state, and no bit leads out again.
-- Assumes nothing.
use Prim.Native.Nat.{ℕ, suc, ◌<◌}
use native.Mathlib.Omega.{arith}
use mathlib.Core.Path.{◌≡◌, refl, sym, ap, subst, ◌∙◌}
use mathlib.Core.Bool.{Bool}
use mathlib.Core.List.{List, [], ◌∷◌, ◌++◌, append_assoc}
use lib.Dec.{T, eqb, ltb, eqb→eq, ltb→lt}
use lib.ListN.{take, drop, get_or, take-append-drop}
use Rattle.laws.specs.Logic.{when, both}
use Rattle.laws.specs.Tests.{all_below}
use Rattle.laws.proofs.Logic.{either_way}
use Rattle.laws.proofs.Computed.{both_left, both_right, below}
use Rattle.stretches.specs.Stretch.{Nowhere}

-- what stands nowhere in a list stands nowhere in a part of it
module _ (word : List ℕ) where
  pub nowhere_left : (a b : List ℕ) → Nowhere word (a ++ b) → Nowhere word a
  nowhere_left a b never before after e = never before (after ++ b) (sym (append_assoc (before ++ word) after b) ∙ ap (λ (l : List ℕ). l ++ b) e)

  pub nowhere_right : (a b : List ℕ) → Nowhere word (a ++ b) → Nowhere word b
  nowhere_right a b never before after e =
      let outer : a ++ before ++ word ++ after ≡ a ++ (before ++ word ++ after) = simp append_assoc in
      never (a ++ before) after (outer ∙ ap (λ (l : List ℕ). a ++ l) e)

  pub nowhere_take : (n : ℕ) (l : List ℕ) → Nowhere word l → Nowhere word (take n l)
  nowhere_take n l never = nowhere_left (take n l) (drop n l) (subst (Nowhere word) (sym (take-append-drop n l)) never)

  pub nowhere_drop : (n : ℕ) (l : List ℕ) → Nowhere word l → Nowhere word (drop n l)
  nowhere_drop n l never = nowhere_right (take n l) (drop n l) (subst (Nowhere word) (sym (take-append-drop n l)) never)

-- the states that follow a 0 and a 1; the last state is where the word has stood
pub record Table : Type 0 where
  pub zeros : List ℕ
  pub ones : List ℕ
  pub last : ℕ

abbrev pub step : Table → ℕ → ℕ → ℕ
step table state bit = when (eqb bit 0) (get_or table.zeros state 0) (get_or table.ones state 0)

unfoldable pub run : Table → ℕ → List ℕ → ℕ
run table state [] = state
run table state (bit ∷ bits) = run table (step table state bit) bits

pub run_append : (table : Table) (state : ℕ) (a b : List ℕ) → run table state (a ++ b) ≡ run table (run table state a) b
unfolding run
run_append table state [] b = refl
run_append table state (bit ∷ a) b = run_append table (step table state bit) a b

-- made for the word: no state leads out of the table, none out of the last state, and the word leads there from anywhere
abbrev pub inside : Table → ℕ → Bool
inside table state = both (ltb (get_or table.zeros state 0) (suc table.last)) (ltb (get_or table.ones state 0) (suc table.last))

abbrev pub stays : Table → Bool
stays table = both (eqb (get_or table.zeros table.last 0) table.last) (eqb (get_or table.ones table.last 0) table.last)

abbrev pub finds : Table → List ℕ → ℕ → Bool
finds table word state = eqb (run table state word) table.last

abbrev pub made_for : List ℕ → Table → Bool
made_for word table = both (all_below (inside table) (suc table.last)) (both (stays table) (all_below (finds table word) (suc table.last)))

module _ (word : List ℕ) (table : Table) (made : T (made_for word table)) where
  within : (state : ℕ) → state < suc table.last → T (inside table state)
  within = below (inside table) (suc table.last) (both_left _ _ made)

  kept : T (stays table)
  kept = both_left _ _ (both_right _ _ made)

  run_word : (state : ℕ) → state < suc table.last → run table state word ≡ table.last
  run_word state low = eqb→eq _ _ (below (finds table word) (suc table.last) (both_right _ _ (both_right _ _ made)) state low)

  run_inside : (state : ℕ) (bits : List ℕ) → state < suc table.last → run table state bits < suc table.last
  unfolding run
  run_inside state [] low = low
  run_inside state (bit ∷ bits) low =
      run_inside (step table state bit) bits
      (either_way (λ (n : ℕ). n < suc table.last) (eqb bit 0) _ _ (λ _. ltb→lt _ _ (both_left _ _ (within state low))) (λ _. ltb→lt _ _ (both_right _ _ (within state low))))

  run_stays : (bits : List ℕ) → run table table.last bits ≡ table.last
  unfolding run
  run_stays [] = refl
  run_stays (bit ∷ bits) =
      let next : step table table.last bit ≡ table.last = either_way (λ (n : ℕ). n ≡ table.last) (eqb bit 0) _ _ (λ _. eqb→eq _ _ (both_left _ _ kept)) (λ _. eqb→eq _ _ (both_right _ _ kept)) in
      ap (λ (n : ℕ). run table n bits) next ∙ run_stays bits

  pub nowhere : (bits : List ℕ) (state : ℕ) → state < suc table.last → run table state bits < table.last → Nowhere word bits
  nowhere bits state low alive before after e =
      let found : run table state (before ++ word ++ after) ≡ table.last =
      run_append table state (before ++ word) after ∙ ap (λ (n : ℕ). run table n after) (run_append table state before word ∙ run_word (run table state before) (run_inside state before low)) ∙ run_stays after in
      omega (arith, alive, sym (ap (run table state) e) ∙ found)
