-- What a test says whose outcome is known.
-- Assumes nothing.
use Rattle.std.proofs.Common.{◌≡◌, ◌<◌, lit<, ℕ, eqb-true, get_or, ap, ◌∙◌, [], ◌∷◌, Bool, true, false, not, T, ◌⊎◌, sym, refl, inl, inr}
use Rattle.laws.specs.Logic.{when, both, either}
use Rattle.laws.proofs.Logic.{clash}
use Rattle.steps.specs.declared.Condition.{Condition}
use Rattle.steps.specs.declared.Condition.TheVariants.{Always, TeElapsed, NoneChosen, JmRefused, ChosenItem, NothingLeft, NoTone, BehindAnsam, BehindAns}
use Rattle.steps.specs.Table.{condition_number, same_condition}

pub is_so : (t : Bool) → T t → t ≡ true
is_so true h = refl
is_so false h = absurd h

pub is_not : (t : Bool) → T (not t) → t ≡ false
is_not true h = absurd h
is_not false h = refl

pub decide : (t : Bool) → (t ≡ true) ⊎ (t ≡ false)
decide true = inl refl
decide false = inr refl

-- the side of a choice that counts
pub taken_if : (t x y : Bool) → T (when t x y) → t ≡ true → T x
unfolding when
taken_if true x y h e = h
taken_if false x y h e = clash (sym e)

pub left_if : (t x y : Bool) → T (when t x y) → t ≡ false → T y
unfolding when
left_if true x y h e = clash e
left_if false x y h e = h

pub either_true : (a b : Bool) → either a b ≡ true → (a ≡ true) ⊎ (b ≡ true)
unfolding either
either_true true b h = inl refl
either_true false b h = inr h

pub either_right : (a b : Bool) → either a b ≡ true → a ≡ false → b ≡ true
unfolding either
either_right true b h e = clash e
either_right false b h e = h

pub both_with : (a : Bool) → both a true ≡ a
unfolding both
both_with true = refl
both_with false = refl

-- a condition is known by its number
abbrev condition_at : ℕ → Condition
condition_at n = get_or (Always ∷ TeElapsed ∷ NoneChosen ∷ JmRefused ∷ ChosenItem ∷ NothingLeft ∷ NoTone ∷ BehindAnsam ∷ BehindAns ∷ []) n Always

numbered : (c : Condition) → condition_at (condition_number c) ≡ c
numbered Always = refl
numbered TeElapsed = refl
numbered NoneChosen = refl
numbered JmRefused = refl
numbered ChosenItem = refl
numbered NothingLeft = refl
numbered NoTone = refl
numbered BehindAnsam = refl
numbered BehindAns = refl

pub one_of_nine : (c : Condition) → condition_number c < 9
one_of_nine Always = lit< tt
one_of_nine TeElapsed = lit< tt
one_of_nine NoneChosen = lit< tt
one_of_nine JmRefused = lit< tt
one_of_nine ChosenItem = lit< tt
one_of_nine NothingLeft = lit< tt
one_of_nine NoTone = lit< tt
one_of_nine BehindAnsam = lit< tt
one_of_nine BehindAns = lit< tt

pub asked_is : (a b : Condition) → same_condition a b ≡ true → a ≡ b
asked_is a b same = sym (numbered a) ∙ ap condition_at (eqb-true _ _ same) ∙ numbered b
