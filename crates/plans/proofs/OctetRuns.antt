-- The octets of a plain text, read one by one: those of blocks, sixteen in a line, and those of a CM, all in one.
-- Assumes nothing.
use Rattle.std.proofs.Common.{◌≡◌, ℕ, ◌+◌, ◌/◌, ◌%◌, ◌<◌, Bool, true, false, not, T, eqb, ltb, Option, Some, None, List, [], ◌∷◌, ◌++◌, length, replicate, sym, refl, ap, ◌∙◌, subst, ap₂, append_assoc, append-nil, not-suc-le-zero, arith, lit<, ltb-true, eqb-true}
use Rattle.laws.specs.Logic.{when, both, either}
use Rattle.laws.specs.Tests.{every, all_below}
use Rattle.laws.proofs.Logic.{both_true, clash}
use Rattle.laws.proofs.Computed.{below}
use Rattle.names.specs.Bytes.{bytes}
use Rattle.printing.specs.Page.{hex_digit, hex_octet}
use Rattle.plans.specs.declared.Plan.{Plan}
use Rattle.plans.specs.declared.Reading.{Reading}
use Rattle.plans.specs.Text.{ends_word, word_length, hex_value, two_digits, octet}
use Rattle.plans.specs.Reading.{first_octet, octets, is_said, read_word, at_bits, at_octets, at_number, one_octet, finish_line}
use Rattle.plans.specs.Plain.{entry_text, octets_text}
use Rattle.plans.specs.Good.{Octets}
use Rattle.plans.proofs.Runs.{Stops, stops_joined, spelled, holds, Found, found, Run, nothing, spaced, fed, join, word_run}
use Rattle.plans.proofs.Words.{no_line, reading}
use Rattle.plans.proofs.LineRuns.{blocks_known, line_begins}
use Rattle.plans.proofs.ListRuns.{Ends, Lines, Ready, ready_on, entry_stops, entry_run}

-- a digit ends no word, and has the value that it stands for
abbrev is_value : Option ℕ → ℕ → Bool
is_value (Some m) n = eqb m n
is_value None n = false

value_lem : (m : Option ℕ) (n : ℕ) → is_value m n ≡ true → m ≡ Some n
value_lem (Some m) n is = ap Some (eqb-true m n is)
value_lem None n is = clash (sym is)

abbrev is_digit : ℕ → Bool
is_digit n = both (is_value (hex_value (hex_digit n)) n) (not (ends_word (hex_digit n)))

sixteen : T (all_below is_digit 16)
unfolding hex_value all_below when both either
sixteen = tt

a_digit : (n : ℕ) → n < 16 → (hex_value (hex_digit n) ≡ Some n) × (not (ends_word (hex_digit n)) ≡ true)
a_digit n small =
    let these = both_true (is_value (hex_value (hex_digit n)) n) (not (ends_word (hex_digit n))) (holds (is_digit n) (below is_digit 16 sixteen n small)) in
    (value_lem (hex_value (hex_digit n)) n these.0, these.1)

-- two digits are a word, and are read as the octet that they stand for
module _ (b : ℕ) (small : b < 256) where
  high : (hex_value (hex_digit (b / 16)) ≡ Some (b / 16)) × (not (ends_word (hex_digit (b / 16))) ≡ true)
  high = a_digit (b / 16) (omega (arith, small))

  low : (hex_value (hex_digit (b % 16)) ≡ Some (b % 16)) × (not (ends_word (hex_digit (b % 16))) ≡ true)
  low = a_digit (b % 16) (omega arith)

  octet_read : octet (hex_octet b) ≡ Some b
  unfolding octet when
  octet_read = ap₂ two_digits high.0 low.0 ∙ ap Some (omega arith)

  octet_spelled : spelled (hex_octet b) ≡ true
  unfolding every both
  octet_spelled = ap₂ (λ (h l : Bool). both h (both l true)) high.1 low.1

-- an octet is found where it is asked for
one_given : (t : Bool) (b : ℕ) → one_octet (when t (Some b) None) ≡ when t (b ∷ []) []
unfolding when
one_given true b = refl
one_given false b = refl

none_more : (t : Bool) (so_far : List ℕ) → so_far ++ when t [] [] ≡ so_far
unfolding when
none_more true so_far = append-nil so_far
none_more false so_far = append-nil so_far

one_more : (t : Bool) (so_far : List ℕ) (b : ℕ) (list : List ℕ) → so_far ++ when t (b ∷ []) [] ++ when t list [] ≡ so_far ++ when t (b ∷ list) []
unfolding when
one_more true so_far b list = append_assoc so_far (b ∷ []) list
one_more false so_far b list = append-nil (so_far ++ [])

-- octets of an end's line, or of one about none, are found where those are asked for
abbrev pub with_octets : ℕ → List ℕ → Found → Found
with_octets end list d = found d.damaged (d.octets ++ when (eqb end d.whose) list []) d.whose

pub with_none : (end : ℕ) (d : Found) → with_octets end [] d ≡ d
with_none end d = ap (λ (octets : List ℕ). found d.damaged octets d.whose) (none_more (eqb end d.whose) d.octets)

with_more : (end b : ℕ) (list : List ℕ) (d : Found) → with_octets end list (with_octets end (b ∷ []) d) ≡ with_octets end (b ∷ list) d
with_more end b list d = ap (λ (octets : List ℕ). found d.damaged octets d.whose) (one_more (eqb end d.whose) d.octets b list)

pub octets_stop : (front : List ℕ) → Stops front → (list : List ℕ) (count : ℕ) → Stops (octets_text front count list)
unfolding octets_text word_length
octets_stop front stops [] count = refl
octets_stop front stops (b ∷ list) count =
    stops_joined (entry_text front count (hex_octet b)) (octets_text front (count + 1) list) (entry_stops front stops count (hex_octet b)) (octets_stop front stops list (count + 1))

-- the first of some octets, and the others
these_octets : (b : ℕ) (list : List ℕ) → Octets (b ∷ list) → (b < 256) × Octets list
unfolding every
these_octets b list are_octets =
    let these = both_true (ltb b 256) (every (λ (n : ℕ). ltb n 256) list) are_octets in
    (ltb-true b 256 these.0, these.1)

module _ (plan : Plan) (end : ℕ) where
  abbrev within : ℕ → Reading
  within context = reading plan (no_line end) context

  octet_run :
      (context b : ℕ) (d : Found) → at_number (within context) ≡ false → at_bits (within context) ≡ false → at_octets (within context) ≡ true → b < 256
      → Run (within context) d (32 ∷ hex_octet b) (within octets) (with_octets end (b ∷ []) d)
  unfolding read_word when both
  octet_run context b d no_number no_bits at-octets small =
      let is_read = octet_read b small in
      spaced 1 refl
      (word_run (within context) (within octets) d (with_octets end (b ∷ []) d) (hex_octet b) (lit< tt) (octet_spelled b small)
      (simp (no_number, at-octets, is_read))
      refl
      (simp no_bits)
      (simp (at-octets, is_read) (ap (λ (one : List ℕ). d.octets ++ one) (one_given (eqb end d.whose) b)))
      refl)

  -- octets in lines of sixteen
  module _ (front : List ℕ) (stops : Stops front) (lines : Lines plan front (within first_octet) (within octets)) where
    pub octets_run :
        (list : List ℕ) (count : ℕ) (d : Found) (r : Reading) → Ready plan (within octets) count r → Octets list
        → (r' : Reading) × Ends plan r' × Run r d (octets_text front count list) r' (with_octets end list d)
    unfolding octets_text either
    octets_run [] count d r ready are_octets = (r, ready.0, rw (with_none end d) (nothing r d))
    octets_run (b ∷ list) count d r ready are_octets =
        let these = these_octets b list are_octets in
        let d' = with_octets end (b ∷ []) d in
        let first = entry_run lines count (hex_octet b) d d' r ready (octet_run first_octet b d refl refl refl these.0) (octet_run octets b d refl refl refl these.0) in
        let next = octets_run list (count + 1) d' (within octets) (ready_on lines (count + 1)) these.1 in
        let all = join first (octets_stop front stops list (count + 1)) next.2 in
        (next.0, next.1, subst (Run r d (octets_text front count (b ∷ list)) next.0) (with_more end b list d) all)

  -- octets that stand in one line
  alone : (count : ℕ) (entry : List ℕ) → entry_text [] count entry ≡ 32 ∷ entry
  unfolding when bytes
  alone count entry = go (eqb (count % 16) 0)
    where
      go : (t : Bool) → when t [] [] ++ bytes " " ++ entry ≡ 32 ∷ entry
      go true = refl
      go false = refl

  next_run :
      (context count b : ℕ) (list : List ℕ) (d : Found) → Run (within context) d (32 ∷ hex_octet b) (within octets) (with_octets end (b ∷ []) d)
      → Run (within octets) (with_octets end (b ∷ []) d) (octets_text [] (count + 1) list) (within octets) (with_octets end list (with_octets end (b ∷ []) d))
      → Run (within context) d (octets_text [] count (b ∷ list)) (within octets) (with_octets end (b ∷ list) d)
  unfolding octets_text word_length
  next_run context count b list d first others =
      let all = join (subst (λ (text : List ℕ). Run (within context) d text (within octets) (with_octets end (b ∷ []) d)) (sym (alone count (hex_octet b))) first) (octets_stop [] refl list (count + 1)) others in
      subst (Run (within context) d (octets_text [] count (b ∷ list)) (within octets)) (with_more end b list d) all

  further_run : (list : List ℕ) (count : ℕ) (d : Found) → Octets list → Run (within octets) d (octets_text [] count list) (within octets) (with_octets end list d)
  unfolding octets_text either
  further_run [] count d are_octets = rw (with_none end d) (nothing (within octets) d)
  further_run (b ∷ list) count d are_octets =
      let these = these_octets b list are_octets in
      next_run octets count b list d (octet_run octets b d refl refl refl these.0) (further_run list (count + 1) (with_octets end (b ∷ []) d) these.1)

  pub line_run : (list : List ℕ) (d : Found) → Octets list → 0 < length list → Run (within first_octet) d (octets_text [] 0 list) (within octets) (with_octets end list d)
  unfolding either
  line_run [] d are_octets some = absurd (not-suc-le-zero some)
  line_run (b ∷ list) d are_octets some =
      let these = these_octets b list are_octets in
      next_run first_octet 0 b list d (octet_run first_octet b d refl refl refl these.0) (further_run list 1 (with_octets end (b ∷ []) d) these.1)

-- the lines for blocks
pub block_lines : (plan : Plan) → Lines plan (bytes "\nblocks   ") (reading plan (no_line 0) first_octet) (reading plan (no_line 0) octets)
unfolding bytes word_length is_said finish_line when either
block_lines plan = record {
  begins = λ r d ends. fed ends.1 refl (join {a = bytes "blocks"} {b = replicate 3 32} (line_begins plan ends.0 d (bytes "blocks") 8 blocks_known refl) refl (spaced 3 refl (nothing _ d)));
  ends = (no_line 0, refl);
}
