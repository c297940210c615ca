-- The numbers that listening compares with are the bits of the line: syncs, ten 1s, CJ and framed octets, as they are heard.
-- Assumes nothing.
use Prim.Native.Nat.{ℕ, ◌/◌, ◌<◌}
use mathlib.Core.Path.{◌≡◌, refl}
use mathlib.Core.Bool.{Bool, true}
use mathlib.Core.List.{List, [], ◌∷◌}
use lib.Dec.{eqb, eqb→eq}
use Rattle.laws.specs.Logic.{when, both}
use Rattle.laws.specs.Tests.{all_below, every}
use Rattle.laws.proofs.Computed.{below}
use Rattle.octets.specs.declared.Kind.{Kind}
use Rattle.octets.specs.declared.Kind.TheVariants.{Ci, Menu}
use Rattle.sequences.specs.Line.{framed, framed_all, ten_ones, sync, cj}
use Rattle.framing.specs.Framing.{value, pushed, last_ten, octet_of, refusal_act, refusal_in}

-- the past once these bits are heard
abbrev pub hearing : ℕ → List ℕ → ℕ
hearing past [] = past
hearing past (bit ∷ bits) = hearing (pushed past bit) bits

pub ones_word : last_ten (hearing 0 ten_ones) ≡ value ten_ones
ones_word = refl

pub sync_word : (kind : Kind) → last_ten (hearing 0 (sync kind)) ≡ value (sync kind)
sync_word Ci = refl
sync_word Menu = refl

pub cj_word : hearing 0 cj / 4 ≡ value cj
unfolding cj framed_all framed
cj_word = refl

-- the same as one number
pub cj_number : value cj ≡ 537395712
unfolding cj framed_all framed
cj_number = refl

abbrev reads_back : ℕ → Bool
reads_back b = eqb (octet_of (hearing 0 (framed b))) b

pub octet_word_lem : (b : ℕ) → b < 256 → octet_of (hearing 0 (framed b)) ≡ b
unfolding framed all_below both
octet_word_lem b small = eqb→eq (octet_of (hearing 0 (framed b))) b (below reads_back 256 tt b small)

-- each act that refuses is told as the refusal that it was made from
pub refusals_back : every (λ (n : ℕ). eqb (refusal_in (refusal_act n)) n) (1 ∷ 2 ∷ 3 ∷ 4 ∷ 10 ∷ 13 ∷ []) ≡ true
unfolding refusal_in when every both
refusals_back = refl
