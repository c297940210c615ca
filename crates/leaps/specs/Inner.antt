-- What the private functions of this crate promise each other. No public promise names it.
use Rattle.std.specs.Prelude.{ℕ, zero, suc, ◌+◌, ◌*◌, ◌/◌, ◌%◌, ◌^◌, ◌<◌, ◌≤◌, ◌≡◌, Bool, true, not, List, [], ◌∷◌, ltb, eqb, length, drop, get_or}
use Rattle.laws.specs.Logic.{when, both, either}
use Rattle.laws.specs.Tests.{every}
use Rattle.octets.specs.Octets.{bad}
use Rattle.sequences.specs.Line.{ten_ones, cj}
use Rattle.framing.specs.declared.Ear.{Ear}
use Rattle.framing.specs.Framing.{value, octet_of, nothing, hunting, stay}
use Rattle.leaps.specs.declared.Advanced.{Advanced}
use Rattle.leaps.specs.declared.Passed.{Passed}
use Rattle.leaps.specs.Leaps.{advanced_to, advanced}

-- an ear that has heard thirty bits or more
abbrev pub full : ℕ → ℕ → Ear
full past place = record { past = past; heard = 30; place = place }

abbrev pub reached : ℕ → ℕ → ℕ → ℕ → Advanced
reached past place act at = advanced_to (stay (full past place) act) at

-- what is advanced to from here, if nothing was asked for yet
unfoldable pub resumed : Advanced → ℕ → List ℕ → Advanced
resumed r len bits = when (eqb r.act nothing) (advanced r.ear len (drop r.at bits) r.at) r

-- a leap is as if each of its bits were heard
pub record Leads (ear : Ear) (len : ℕ) (bits : List ℕ) (from : ℕ) (r : Advanced) : Type 0 where
  pub on : from ≤ r.at
  pub same : advanced ear len (drop from bits) from ≡ resumed r len bits

-- the bits heard last are CJ, or ten 1s and a 0
unfoldable pub stands_out : ℕ → Bool
stands_out past = either (eqb (past / 2 ^ 2) (value cj)) (eqb (past / 2 ^ 21) (value ten_ones))

-- bits that go by while hunting
pub record Passes (past : ℕ) (bits : List ℕ) (from : ℕ) (p : Passed) : Type 0 where
  pub small : p.past < 4294967296
  pub on : from ≤ p.at
  pub within : p.at ≤ length bits
  pub same : (len : ℕ) → advanced (full past hunting) len (drop from bits) from ≡ advanced (full p.past hunting) len (drop p.at bits) p.at

-- so many bytes from i on, and whether they are bits
unfoldable pub span : List ℕ → ℕ → ℕ → List ℕ
span s i zero = []
span s i (suc n) = get_or s i 0 ∷ span s (i + 1) n

abbrev pub is_bit : ℕ → Bool
is_bit b = ltb b 2

-- ten bits stand there, and make this number
pub record TenAt (s : List ℕ) (i ten : ℕ) : Type 0 where
  pub room : i + 10 ≤ length s
  pub bits : every is_bit (span s i 10) ≡ true
  pub number : ten ≡ value (span s i 10)

-- the past once ten bits are heard
abbrev pub after_ten : ℕ → ℕ → ℕ
after_ten past ten = past / 2 ^ 10 + ten * 2 ^ 22

-- ten bits are an octet other than 0 in its frame, and it is stored
unfoldable pub is_stored : ℕ → ℕ → ℕ → Bool
is_stored ten past len = both (eqb (ten % 2) 0) (both (ltb 512 ten) (both (ltb len 64) (not (bad (octet_of past)))))
