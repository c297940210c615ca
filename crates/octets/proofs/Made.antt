-- A category octet that is made from a tag and options has b4 = 0, and has both back where they fit into four bits and three; and every category
-- octet is made from its own.
-- Assumes nothing.
use Prim.Native.Nat.{ℕ, ◌<◌}
use native.Mathlib.Omega.{arith}
use mathlib.Core.Path.{◌≡◌, subst}
use mathlib.Core.Bool.{Bool, true}
use borrow.Author.Tests.{eq-eqb}
use lib.Dec.{T, eqb, eqb→eq}
use Rattle.laws.specs.Logic.{when, both}
use Rattle.laws.specs.Tests.{all_below}
use Rattle.laws.proofs.Computed.{below}
use Rattle.octets.specs.Octets.{b4, category, tag, options, category_octet}

module _ (t o : ℕ) where
  pub category_there : category (category_octet t o) ≡ true
  category_there = eq-eqb (b4 (category_octet t o)) 0 (omega arith)

  pub tag_there : t < 16 → tag (category_octet t o) ≡ t
  tag_there h = omega arith

  pub options_there : o < 8 → options (category_octet t o) ≡ o
  options_there h = omega arith

-- computed at each octet
abbrev is_made : ℕ → Bool
is_made b = when (category b) (eqb (category_octet (tag b) (options b)) b) true

pub made_again : (b : ℕ) → b < 256 → category b ≡ true → category_octet (tag b) (options b) ≡ b
unfolding when both all_below
made_again b h c =
    let made : T (is_made b) = below is_made 256 tt b h in
    eqb→eq (category_octet (tag b) (options b)) b (subst (λ (t : Bool). T (when t (eqb (category_octet (tag b) (options b)) b) true)) c made)
