-- Looking, reading, asking for one item and walking over blocks, as the numbers that cross to C.
use Rattle.std.specs.Prelude.{ℕ, ◌%◌, ◌^◌, true, false, ℤ, pos, neg_ℤ}
use Rattle.menus.specs.declared.Offer.{Offer}
use Rattle.menus.specs.Groups.{Looked, place, nowhere, refusal}
use Rattle.menus.specs.Offer.{Read, offers}
use Rattle.menus.specs.Offer as reading
use Rattle.menus.specs.Asking.{Asked, answer}
use Rattle.menus.specs.Asking as asking
use Rattle.fields.specs.Blocks.{Walked, blocks}
use Rattle.fields.specs.Blocks as walking

-- a place, 64 for nowhere since no place is as high, or a refusal n as -n
abbrev pub looked_code : Looked → ℤ
looked_code (place n) = pos n
looked_code nowhere = pos 64
looked_code (refusal n) = neg_ℤ (pos n)

-- as far as an i32 holds it
abbrev pub cut_looked : Looked → Looked
cut_looked (place n) = place (n % 2 ^ 31)
cut_looked nowhere = nowhere
cut_looked (refusal n) = refusal n

-- what stands beside a refusal
abbrev pub no_offer : Offer
no_offer = record { function = 0; items = 0; pcm = 0; lapm = false; access = false; access_options = 0 }

-- 0 with what is offered, or a refusal n as -n
abbrev pub read_code : Read → ℤ
read_code (offers o) = pos 0
read_code (reading.refusal n) = neg_ℤ (pos n)

abbrev pub read_offer : Read → Offer
read_offer (offers o) = o
read_offer (reading.refusal n) = no_offer

-- 1 where the item is offered and 0 where it is not, with how many octets were looked at, or a refusal n as -n and none
abbrev pub asked_code : Asked → ℤ
asked_code (answer true looked) = pos 1
asked_code (answer false looked) = pos 0
asked_code (asking.refusal n) = neg_ℤ (pos n)

abbrev pub asked_count : Asked → ℕ
asked_count (answer offered looked) = looked
asked_count (asking.refusal n) = 0

-- 0 with how many blocks there are, or a refusal n as -n and none
abbrev pub walk_code : Walked → ℤ
walk_code (blocks n) = pos 0
walk_code (walking.refusal n) = neg_ℤ (pos n)

abbrev pub walk_count : Walked → ℕ
walk_count (blocks n) = n
walk_count (walking.refusal n) = 0
