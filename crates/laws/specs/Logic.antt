-- Tests, and what is taken by a test.
use Rattle.std.specs.Prelude.{Bool, true, false}

-- the first where the test holds, otherwise the second
unfoldable pub when : {A : Type 0} → Bool → A → A → A
when true a b = a
when false a b = b

-- both tests hold
unfoldable pub both : Bool → Bool → Bool
both true b = b
both false b = false

-- one test holds, or the other
unfoldable pub either : Bool → Bool → Bool
either true b = true
either false b = b
