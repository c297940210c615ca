-- Marks stay marks, whatever text is read: each bit is marked or not. So the marks of a text, over zeros, are those of its plain form. What it gives as
-- blocks or as a CM are octets.
-- Assumes nothing.
use Rattle.std.proofs.Common.{◌≡◌, ℕ, zero, suc, Bool, true, ltb, leb, List, [], ◌∷◌, is_ok, Option, Some, None, set, replicate, refl, ap, ◌∙◌, ap₂, length-set, lt-ltb}
use lib.ListN.{length-replicate}
use Rattle.laws.specs.Logic.{both}
use Rattle.laws.specs.Tests.{every}
use Rattle.laws.proofs.Logic.{either_way, both_true}
use Rattle.laws.proofs.Computed.{every_joined}
use Rattle.plans.specs.declared.Reading.{Reading}
use Rattle.plans.specs.declared.Scan.{Scan}
use Rattle.plans.specs.Text.{word, number}
use Rattle.plans.specs.Reading.{between, scan_after, read_byte, fresh, read_text, bit_place, is_bit, is_octet, mark_at, marked_bit, marked_from, marked, octet_at, one_octet, octets_from, octets_in}
use Rattle.plans.specs.Good.{Marks, Octets, BlocksAreOctets}
use Rattle.plans.proofs.Marking.{bits, zeros}
use Rattle.plans.proofs.Numbers.{Below, octet_below}

-- a bit is marked
bits_set : (list : List ℕ) (place : ℕ) → bits list ≡ true → bits (set list place 1) ≡ true
unfolding every both
bits_set [] place are_bits = refl
bits_set (b ∷ list) zero are_bits = (both_true (leb b 1) (bits list) are_bits).1
bits_set (b ∷ list) (suc place) are_bits = let these = both_true (leb b 1) (bits list) are_bits in ap₂ both these.0 (bits_set list place these.1)

marks_set : (damaged : List ℕ) (place : ℕ) → Marks damaged → Marks (set damaged place 1)
marks_set damaged place marks = record { both_ends = length-set damaged place 1 ∙ marks.both_ends; bits = bits_set damaged place marks.bits }

mark_more : (end : ℕ) (time : Option ℕ) (damaged : List ℕ) → Marks damaged → Marks (mark_at end time damaged)
mark_more end (Some time) damaged marks = marks_set damaged (bit_place end time) marks
mark_more end None damaged marks = marks

-- a text is read
marks_on : (text : List ℕ) (r : Reading) (scan : Scan) (damaged : List ℕ) → Marks damaged → Marks (marked_from r scan text damaged)
unfolding marked_from
marks_on [] r scan damaged marks = marks
marks_on (b ∷ rest) r scan damaged marks =
    marks_on rest (read_byte r scan b rest) (scan_after scan b) (marked_bit r scan b rest damaged)
    (either_way Marks (is_bit r scan b) _ damaged (λ _. mark_more r.end (number (word (b ∷ rest))) damaged marks) (λ _. marks))

pub marked_are_marks : (text damaged : List ℕ) → Marks damaged → Marks (marked text damaged)
unfolding marked
marked_are_marks text damaged marks = either_way Marks (is_ok (read_text text)) (marked_from fresh between text damaged) damaged (λ _. marks_on text fresh between damaged marks) (λ _. marks)

-- none is marked
bits_none : (n : ℕ) → bits (zeros n) ≡ true
unfolding every both
bits_none zero = refl
bits_none (suc n) = bits_none n

marks_none : (n : ℕ) → n ≡ 18000 → Marks (zeros n)
marks_none n all = record { both_ends = length-replicate n 0 ∙ all; bits = bits_none n }

pub zeros_are_marks : Marks (replicate 18000 0)
zeros_are_marks = marks_none 18000 refl

-- one octet, and those of a text
one_is : (n : Option ℕ) → Below 256 n → Octets (one_octet n)
unfolding every both
one_is (Some n) small = ap (λ (t : Bool). both t true) (lt-ltb n 256 small)
one_is None _ = refl

octets_on : (text : List ℕ) (end : ℕ) (r : Reading) (scan : Scan) → Octets (octets_from end r scan text)
unfolding octets_from every
octets_on [] end r scan = refl
octets_on (b ∷ rest) end r scan =
    every_joined (λ (n : ℕ). ltb n 256) (one_octet (octet_at end r scan b rest)) _ (one_is (octet_at end r scan b rest) (either_way (Below 256) (is_octet end r scan b) _ None (λ _. octet_below (word (b ∷ rest))) (λ _. tt))) (octets_on rest end (read_byte r scan b rest) (scan_after scan b))

pub are_octets : (end : ℕ) (text : List ℕ) → Octets (octets_in end text)
unfolding octets_in every
are_octets end text = either_way Octets (is_ok (read_text text)) (octets_from end fresh between text) [] (λ _. octets_on text end fresh between) (λ _. refl)

pub blocks_are_octets : BlocksAreOctets
blocks_are_octets text = are_octets 0 text
