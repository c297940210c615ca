-- What is typed on a page: byte after byte where there is room, and what has none is left out.
use Rattle.std.specs.Prelude.{ℕ, ◌+◌, ◌/◌, ◌%◌, ◌≡◌, List, [], ◌∷◌, ltb, length, set}
use Rattle.std.specs.Borrow.{GName}
use Rattle.io.specs.Digits.{last_digits, IsDigitCount}
use Rattle.laws.specs.Logic.{when}

-- a lent buffer, which loan it is, and the place of the next byte in it
pub record Page : Type 0 where
  pub lent : GName
  pub buffer : List ℕ
  pub at : ℕ

-- a byte at the place, where that is within the buffer; every other byte keeps its value
abbrev pub struck : Page → ℕ → Page
struck p b =
    when (ltb p.at (length p.buffer))
    (record p { buffer = set p.buffer p.at b; at = p.at + 1 })
    p

-- the bytes of a text, one after the other
unfoldable pub typed : Page → List ℕ → Page
typed p [] = p
typed p (b ∷ text) = typed (struck p b) text

-- a hexadecimal digit in upper case, in ASCII
abbrev pub hex_digit : ℕ → ℕ
hex_digit n = when (ltb n 10) (48 + n) (55 + n)

-- an octet as two hexadecimal digits
abbrev pub hex_octet : ℕ → List ℕ
hex_octet b = hex_digit (b / 16) ∷ hex_digit (b % 16) ∷ []

-- a number is typed in decimal digits, as few as hold it and at least one
pub record TypedDecimal (before : Page) (n : ℕ) (after : Page) : Type 0 where
  pub count : ℕ
  pub fewest : IsDigitCount 10 1 n count
  pub text : after ≡ typed before (last_digits 10 count n)
