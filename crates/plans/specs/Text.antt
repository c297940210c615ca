-- The words, numbers and lines of a text.
use Rattle.std.specs.Prelude.{ℕ, suc, ◌+◌, ◌-◌, ◌*◌, Bool, Option, Some, None, List, [], ◌∷◌, length, take, drop, ◌==◌, nat_le, nat_lt, slice_index, count_by}
use Rattle.laws.specs.Logic.{when, either}

-- a space, a tab, a carriage return, a comma
abbrev pub blank : ℕ → Bool
blank b = either (b == 32) (either (b == 9) (either (b == 13) (b == 44)))

abbrev pub line_feed : ℕ
line_feed = 10

-- # begins a comment
abbrev pub comment : ℕ
comment = 35

abbrev pub ends_word : ℕ → Bool
ends_word b = either (blank b) (either (b == line_feed) (b == comment))

-- the length of the word at the front
unfoldable pub word_length : List ℕ → ℕ
word_length [] = 0
word_length (b ∷ rest) = when (ends_word b) 0 (suc (word_length rest))

-- the word at the front
abbrev pub word : List ℕ → List ℕ
word text = take (word_length text) text

-- a decimal number below 100,000, and none for every other word
abbrev pub with_digit : ℕ → ℕ → Option ℕ
with_digit n b = when (nat_lt b 48) None (when (nat_lt 57 b) None (when (nat_lt 9999 n) None (Some (10 * n + (b - 48)))))

abbrev pub one_digit_more : Option ℕ → ℕ → Option ℕ
one_digit_more (Some n) b = with_digit n b
one_digit_more None b = None

unfoldable pub number_on : Option ℕ → List ℕ → Option ℕ
number_on n [] = n
number_on n (b ∷ rest) = number_on (one_digit_more n b) rest

abbrev pub number : List ℕ → Option ℕ
number word = number_on (Some 0) word

-- a hexadecimal digit, in upper or lower case
unfoldable pub hex_value : ℕ → Option ℕ
hex_value b =
    when (nat_lt b 48) None
    (when (nat_le b 57) (Some (b - 48))
    (when (nat_lt b 65) None
    (when (nat_le b 70) (Some (b - 55))
    (when (nat_lt b 97) None
    (when (nat_le b 102) (Some (b - 87)) None)))))

abbrev pub two_digits : Option ℕ → Option ℕ → Option ℕ
two_digits (Some high) (Some low) = Some (16 * high + low)
two_digits (Some high) None = None
two_digits None low = None

-- an octet as two hexadecimal digits, and none for every other word
unfoldable pub octet : List ℕ → Option ℕ
octet word = when (length word == 2) (two_digits (hex_value (slice_index word 0)) (hex_value (slice_index word 1))) None

-- how many line feeds stand in a text
abbrev pub line_feeds : List ℕ → ℕ
line_feeds text = count_by (λ b. b == line_feed) text

-- how many lines stand before the line of a place
abbrev pub lines_before : List ℕ → ℕ → ℕ
lines_before text at = line_feeds (take at text)

-- the word at a place
abbrev pub word_at : List ℕ → ℕ → List ℕ
word_at text at = word (drop at text)
