-- One writer behind another: what the second is lent, and what both leave.
-- Assumes nothing.
use Prim.Native.Nat.{ℕ, ◌≤◌, ◌+◌, ◌-◌}
use native.Mathlib.Omega.{arith}
use mathlib.Core.Path.{◌≡◌, ap, ◌∙◌}
use mathlib.Core.List.{List, ◌++◌}
use lib.ListN.{length, take, drop, length-append}
use borrow.Rule.Slice.PartMut.{put_mid}
use borrow.Author.Tests.{le-ltb}
use Rattle.std.specs.Prelude.{Ok, Err}
use Rattle.laws.specs.Logic.{when}
use Rattle.laws.specs.Front.{front}
use Rattle.refusals.specs.declared.Refusal.{Refusal}
use Rattle.refusals.specs.Refusals.{number}
use Rattle.refusals.specs.Lent.{count, refusal, room_fault, put, Meets}
use Rattle.laws.proofs.Rest.{lent_length, front_then}
use Rattle.offers.specs.Inner.{Writes}

module _ (first second out after : List ℕ) (at : ℕ) (written : Writes first out at after) (room : length first + length second ≤ length out) where
  before_it : at ≤ length out
  before_it = omega (arith, written.count, room)

  pub room_behind : length second ≤ length (take (length after - at) (drop at after))
  room_behind = omega (arith, lent_length first out after at written.count before_it written.buffer, written.count, room)

  pub write_behind : (n : ℕ) (rest : List ℕ) → Writes second (take (length after - at) (drop at after)) n rest → Writes (first ++ second) out (at + n) (put_mid at (length after - at) after rest)
  write_behind n rest behind = record {
    count = omega (arith, length-append first second, written.count, behind.count);
    buffer = front_then first out after at written.count before_it written.buffer second rest behind.buffer;
  }

-- what is written is known by what it is
pub same_written : (octets others out after : List ℕ) (n : ℕ) → octets ≡ others → Writes octets out n after → Writes others out n after
same_written octets others out after n same written = record { count = written.count ∙ ap length same; buffer = written.buffer ∙ ap (λ (l : List ℕ). front l out) same }

-- what is put where there is room is written, and never refused
module _ (new out after : List ℕ) (room : length new ≤ length out) where
  pub put_there : (n : ℕ) → Meets (put (room_fault new out) new out) (Ok n) after → Writes new out n after
  unfolding put when
  put_there n there =
      let fits = le-ltb _ _ room in
      let said : count n ≡ count (length new) = simp fits at there.answer in
      record { count = cc; buffer = simp fits at there.buffer }

  pub put_not_refused : (r : Refusal) → Meets (put (room_fault new out) new out) (Err r) after → ⊥
  unfolding put when
  put_not_refused r there =
      let said : refusal (number r) ≡ count (length new) = simp (le-ltb _ _ room) at there.answer in
      cc
