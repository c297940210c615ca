-- Laws about what is typed on a page: byte by byte, never past its end, and for a number in one way only.
-- Assumes nothing.
use Prim.Native.Nat.{ℕ, ◌<◌, ◌≤◌, ◌+◌, ◌-◌, ◌^◌}
use native.Mathlib.Nat.{pow-le-pow_right}
use native.Mathlib.Numerals.{add-one}
use native.Mathlib.Omega.{arith}
use mathlib.Core.Path.{◌≡◌, refl, sym, ap, subst, ◌∙◌}
use mathlib.Core.List.{List, [], ◌∷◌, ◌++◌}
use borrow.Author.Tests.{ltb-true}
use lib.Dec.{ltb, lit<}
use lib.ListN.{length, drop, get_or, set, length-set, drop_of_length-le}
use lib.Seq.{drop-cons}
use Rattle.io.specs.Digits.{last_digits, IsDigitCount}
use Rattle.laws.proofs.Logic.{either_way}
use Rattle.printing.specs.Page.{Page, struck, typed, TypedDecimal}

-- a text is typed one byte at a time
module _ (p : Page) (text : List ℕ) (i : ℕ) where
  pub typed_on : i < length text → typed p (drop i text) ≡ typed (struck p (get_or text i 0)) (drop (i + 1) text)
  unfolding typed
  typed_on more = ap (typed p) (drop-cons text i 0 more) ∙ ap (λ (next : ℕ). typed (struck p (get_or text i 0)) (drop next text)) (sym (add-one i))

  pub typed_end : length text ≤ i → typed p (drop i text) ≡ p
  unfolding typed
  typed_end over = simp (drop_of_length-le text over)

-- two texts, one behind the other
pub typed_joined : (p : Page) (a b : List ℕ) → typed p (a ++ b) ≡ typed (typed p a) b
unfolding typed
typed_joined p [] b = refl
typed_joined p (x ∷ a) b = typed_joined (struck p x) a b

-- who types one text and then another has typed both
pub typed_then : (p : Page) (a b : List ℕ) {q s : Page} → q ≡ typed p a → s ≡ typed q b → s ≡ typed p (a ++ b)
typed_then p a b first second = second ∙ ap (λ (x : Page). typed x b) first ∙ sym (typed_joined p a b)

-- the place is within the buffer, or right behind it
abbrev pub Within : Page → Type 0
Within p = p.at ≤ length p.buffer

struck_within : (p : Page) (b : ℕ) → Within p → Within (struck p b)
struck_within p b within =
    either_way Within (ltb p.at (length p.buffer)) (record p { buffer = set p.buffer p.at b; at = p.at + 1 }) p
    (λ has_room. omega (arith, ltb-true p.at (length p.buffer) has_room, length-set p.buffer p.at b))
    (λ full. within)

typed_within : (p : Page) (text : List ℕ) → Within p → Within (typed p text)
unfolding typed
typed_within p [] within = within
typed_within p (b ∷ text) within = typed_within (struck p b) text (struck_within p b within)

-- who is given a place within the buffer leaves one
module _ (before after : Page) where
  pub text_within : (text : List ℕ) → after ≡ typed before text → Within before → Within after
  text_within text is-typed within = subst Within (sym is-typed) (typed_within before text within)

  pub decimal_within : (n : ℕ) → TypedDecimal before n after → Within before → Within after
  decimal_within n number within = text_within (last_digits 10 number.count n) number.text within

-- no two counts are the fewest
fewer_clash : (n j k : ℕ) → IsDigitCount 10 1 n j → IsDigitCount 10 1 n k → j < k → ⊥
fewer_clash n j k fewest-j fewest-k fewer =
    let needs-k = fewest-k.2 (omega (arith, fewest-j.0, fewer)) in
    let grows : 10 ^ j ≤ 10 ^ (k - 1) = pow-le-pow_right (lit< tt) (omega (arith, fewer)) in
    omega (arith, needs-k, grows, fewest-j.1)

fewest_unique : (n j k : ℕ) → IsDigitCount 10 1 n j → IsDigitCount 10 1 n k → j ≡ k
fewest_unique n j k fewest-j fewest-k = omega (arith, fewer_clash n j k fewest-j fewest-k, fewer_clash n k j fewest-k fewest-j)

-- a number leaves one page and no other
pub typed_decimal_unique : (p a b : Page) (n : ℕ) → TypedDecimal p n a → TypedDecimal p n b → a ≡ b
typed_decimal_unique p a b n one other =
    one.text ∙ ap (λ (count : ℕ). typed p (last_digits 10 count n)) (fewest_unique n one.count other.count one.fewest other.fewest) ∙ sym other.text
