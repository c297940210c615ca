-- The names of a set, read one by one: what is read is the set, number by number.
-- Assumes nothing.
use Rattle.std.proofs.Common.{◌≡◌, ℕ, zero, suc, ◌+◌, ◌*◌, ◌/◌, ◌%◌, ◌^◌, ◌<◌, ◌≤◌, Bool, true, false, eqb, ltb, List, [], ◌∷◌, ◌++◌, refl, ap, ◌∙◌, subst, mod-eq_of_lt, div-one, arith, pow_mono, ltb-true, lt-ltb, eqb-true}
use native.Mathlib.Nat.{div-div-eq-div-mul, div-eq_of_lt}
use borrow.Author.Tests.{eqb-false}
use Rattle.laws.specs.Logic.{when, both, either}
use Rattle.laws.specs.Tests.{every}
use Rattle.laws.proofs.Logic.{either_way, both_true}
use Rattle.items.specs.Items.{set_of, in_set}
use Rattle.items.proofs.Sets.{set_small, past_set}
use Rattle.names.specs.Bytes.{bytes}
use Rattle.names.specs.Names.{Entry, names, mode, quality, name_of, names_of}
use Rattle.plans.specs.declared.Reading.{Reading}
use Rattle.plans.specs.Text.{word_length}
use Rattle.plans.specs.Reading.{added}
use Rattle.plans.proofs.Runs.{Stops, stops_joined, Found, Run, nothing, join}
use Rattle.plans.proofs.Words.{Known, is_entry, known_entry}

-- the items of a number are the number
module _ (n : ℕ) where
  below_and_above : (k : ℕ) → n / 2 ^ k * 2 ^ k + set_of (in_set n) k ≡ n
  unfolding set_of in_set
  below_and_above zero = omega (arith, div-one n)
  below_and_above (suc k) =
      let q = n / 2 ^ k in
      let twice : 2 ^ suc k ≡ 2 ^ k * 2 = omega arith in
      let half : n / 2 ^ suc k * 2 ^ suc k ≡ q / 2 * (2 ^ k * 2) = rw (twice, ← div-div-eq-div-mul n (2 ^ k) 2) in
      let before = below_and_above k in
      ap (λ (m : ℕ). m + set_of (in_set n) (suc k)) half
      ∙ either_way (λ (w : ℕ). q / 2 * (2 ^ k * 2) + (set_of (in_set n) k + w) ≡ n) (eqb (q % 2) 1) (2 ^ k) 0
      (λ t.
      let odd : q ≡ 2 * (q / 2) + 1 = omega (arith, eqb-true (q % 2) 1 t) in
      omega (arith, before, ap (λ (m : ℕ). m * 2 ^ k) odd))
      (λ t.
      let even : q ≡ 2 * (q / 2) = omega (arith, eqb-false (q % 2) 1 t) in
      omega (arith, before, ap (λ (m : ℕ). m * 2 ^ k) even))

  all_items : (k : ℕ) → n < 2 ^ k → set_of (in_set n) k ≡ n
  all_items k small =
      let none_above : n / 2 ^ k ≡ 0 = div-eq_of_lt small in
      omega (arith, below_and_above k, ap (λ (q : ℕ). q * 2 ^ k) none_above)

-- a number more in a set of smaller numbers
one_more : (numbers k : ℕ) → k < 16 → numbers < 2 ^ k → added numbers k ≡ numbers + 2 ^ k
unfolding when
one_more numbers k h small =
    let most : 2 ^ suc k ≤ 2 ^ 16 = pow_mono h in
    let fits : numbers + 2 ^ k < 65536 = omega (arith, most, small) in
    simp (lt-ltb k 16 h, mod-eq_of_lt fits)

-- names stand behind blanks
pub names_stop : (kind set : ℕ) (es : List Entry) → Stops (names_of kind set es)
unfolding word_length names_of when either
names_stop kind set [] = refl
names_stop kind set (e ∷ es) =
    stops_joined (name_of kind set e) (names_of kind set es)
    (either_way Stops (eqb e.kind kind) (when (in_set set e.number) (32 ∷ e.name) []) [] (λ _. either_way Stops (in_set set e.number) (32 ∷ e.name) [] (λ _. refl) (λ _. refl)) (λ _. refl))
    (names_stop kind set es)

-- the numbers of a kind from one on up to a limit, in order
unfoldable pub ordered : ℕ → ℕ → ℕ → List Entry → Bool
ordered kind limit k [] = eqb k limit
ordered kind limit k (e ∷ rest) = when (eqb e.kind kind) (both (eqb e.number k) (both (ltb k limit) (ordered kind limit (suc k) rest))) (ordered kind limit k rest)

pub modes_ordered : ordered mode 16 1 names ≡ true
unfolding names ordered bytes both when
modes_ordered = refl

pub qualities_ordered : ordered quality 4 2 names ≡ true
unfolding names ordered bytes both when
qualities_ordered = refl

-- readings that differ in a set of numbers, of which ever more are read
module _ (at : ℕ → Reading) (d : Found) (set : ℕ) where
  abbrev pub up_to : ℕ → Reading
  up_to k = at (set_of (in_set set) k)

  -- a number is read from its text, or is not in the set
  pub number_run :
      (k : ℕ) (text : List ℕ) → k < 16 → ((numbers : ℕ) → in_set numbers k ≡ false → Run (at numbers) d text (at (added numbers k)) d)
      → Run (up_to k) d (when (in_set set k) text []) (up_to (suc k)) d
  unfolding set_of when
  number_run k text h run =
      let before = set_of (in_set set) k in
      let small = set_small (in_set set) k in
      go (in_set set k) (subst (λ (n : ℕ). Run (at before) d text (at n) d) (one_more before k h small) (run before (past_set k before k small (omega arith))))
    where
      go : (t : Bool) → Run (up_to k) d text (at (set_of (in_set set) k + 2 ^ k)) d → Run (up_to k) d (when t text []) (at (set_of (in_set set) k + when t (2 ^ k) 0)) d
      go true more = more
      go false _ = let same : set_of (in_set set) k ≡ set_of (in_set set) k + 0 = omega arith in subst (λ (n : ℕ). Run (up_to k) d [] (at n) d) same (nothing (up_to k) d)

  -- the names of a kind
  module _ (kind limit : ℕ) (few : limit ≤ 16) (small : set < 2 ^ limit) (run : (word : List ℕ) (n numbers : ℕ) → Known word kind n → in_set numbers n ≡ false → Run (at numbers) d (32 ∷ word) (at (added numbers n)) d) where
    name_runs : (e : Entry) (k : ℕ) → is_entry e ≡ true → e.kind ≡ kind → e.number ≡ k → k < limit → Run (up_to k) d (when (in_set set e.number) (32 ∷ e.name) []) (up_to (suc k)) d
    name_runs e k is-entry is-kind is_number h =
        let is_known : Known e.name kind k = rw (← is-kind, ← is_number) (known_entry e is-entry) in
        rw is_number (number_run k (32 ∷ e.name) (omega (arith, h, few)) (λ numbers is-new. run e.name k numbers is_known is-new))

    pub names_run : (es : List Entry) (k : ℕ) → every is_entry es ≡ true → ordered kind limit k es ≡ true → Run (up_to k) d (names_of kind set es) (at set) d
    unfolding every ordered names_of when
    names_run [] k are-entries in_order =
        subst (λ (r : Reading). Run (up_to k) d [] r d) (ap at (ap (set_of (in_set set)) (eqb-true k limit in_order) ∙ all_items set limit small)) (nothing (up_to k) d)
    names_run (e ∷ es) k are-entries in_order =
        let these = both_true (is_entry e) (every is_entry es) are-entries in
        go these.0 (λ m is-ordered. names_run es m these.1 is-ordered) (eqb e.kind kind) refl in_order
      where
        go :
            is_entry e ≡ true → ((m : ℕ) → ordered kind limit m es ≡ true → Run (up_to m) d (names_of kind set es) (at set) d)
            → (t : Bool) → eqb e.kind kind ≡ t → when t (both (eqb e.number k) (both (ltb k limit) (ordered kind limit (suc k) es))) (ordered kind limit k es) ≡ true
            → Run (up_to k) d (when t (when (in_set set e.number) (32 ∷ e.name) []) [] ++ names_of kind set es) (at set) d
        go is-entry on true is-kind these-ordered =
            let here = both_true (eqb e.number k) (both (ltb k limit) (ordered kind limit (suc k) es)) these-ordered in
            let there = both_true (ltb k limit) (ordered kind limit (suc k) es) here.1 in
            join (name_runs e k is-entry (eqb-true e.kind kind is-kind) (eqb-true e.number k here.0) (ltb-true k limit there.0)) (names_stop kind set es) (on (suc k) there.1)
        go is-entry on false is-kind these-ordered = on k these-ordered
