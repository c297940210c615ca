-- CI as it goes over the line: so many bits of a cadence that end with a sequence, the third or a later one, or in silence, are that CI three times or
-- more, once silence is left out.
-- Assumes nothing.
use Prim.Native.Nat.{ℕ, zero, suc, ◌+◌, ◌*◌, ◌-◌, ◌%◌, ◌/◌, ◌<◌, ◌≤◌}
use native.Mathlib.Nat.{mod-eq_of_lt, mod-add-mod, suc-mod, suc-mul, div-add-mod'}
use native.Mathlib.Omega.{arith}
use mathlib.Core.Path.{◌≡◌, refl, sym, ap, ap₂, subst, ◌∙◌}
use mathlib.Core.Bool.{true, false}
use mathlib.Core.List.{List, [], ◌∷◌, ◌++◌, append_assoc, append-nil}
use mathlib.Core.Logic.{⊎_elim}
use borrow.Author.Tests.{ltb-true, ltb-false, lt-ltb, le-ltb, eqb-true, eqb-false, ne_eqb}
use lib.Arith.{digits_mod}
use lib.Dec.{T, ltb, eqb, eqb→eq}
use lib.ListN.{length, take, drop, get_or, replicate}
use lib.Seq.{drop-cons, take-length}
use Rattle.laws.specs.Logic.{when, both, either}
use Rattle.laws.specs.Tests.{all_below, every}
use Rattle.laws.proofs.Logic.{either_way}
use Rattle.laws.proofs.Computed.{below, both_left, both_right}
use Rattle.octets.specs.declared.Kind.TheVariants.{Ci}
use Rattle.octets.specs.declared.Purpose.TheVariants.{Writing}
use Rattle.octets.specs.Octets.{call_function_tag, category_octet}
use Rattle.octets.specs.Lists.{first_fault, list_fault}
use Rattle.sequences.specs.Line.{framed, framed_all, sequence, copies}
use Rattle.stretches.specs.Stretch.{octets_all, AcceptedMessage}
use Rattle.stretches.proofs.Each.{none, more, Bits}
use Rattle.stretches.proofs.Copies.{line_bits}
use Rattle.steps.proofs.Known.{is_so, decide}
use Rattle.cadence.specs.Cadence.{ci_of, on_bits, period, silence, cadence_at, bits_from}
use Rattle.cadence.proofs.Ranges.{Lasts}
use Rattle.cadence.proofs.Bits.{bits_joined}
use Rattle.demands.specs.FromBits.{sounding}

-- the octet that names a function is one that the writer takes for a CI
accepted_below : T (all_below (λ function. both (octets_all (category_octet call_function_tag function ∷ [])) (eqb (list_fault (Writing Ci) (category_octet call_function_tag function ∷ [])) 0)) 7)
unfolding all_below both either when every first_fault
accepted_below = tt

pub ci_accepted : (function : ℕ) → function < 7 → AcceptedMessage Ci (category_octet call_function_tag function ∷ [])
ci_accepted function small =
    let tests = below (λ f. both (octets_all (category_octet call_function_tag f ∷ [])) (eqb (list_fault (Writing Ci) (category_octet call_function_tag f ∷ [])) 0)) 7 accepted_below function small in
    record { octet = is_so _ (both_left _ _ tests); taken = eqb→eq _ _ (both_right _ _ tests) }

-- bits sound
sounding_bits : (bits : List ℕ) → Bits bits → sounding bits ≡ bits
unfolding sounding when
sounding_bits [] none = refl
sounding_bits (b ∷ bits) (more small rest) = rw (ne_eqb b silence (λ z. omega (arith, z, small))) (ap (◌∷◌ b) (sounding_bits bits rest))

sounding_joined : (a b : List ℕ) → sounding (a ++ b) ≡ sounding a ++ sounding b
unfolding sounding when
sounding_joined [] b = refl
sounding_joined (x ∷ a) b =
    either_way (λ (l : List ℕ). when (eqb x silence) (sounding (a ++ b)) (x ∷ sounding (a ++ b)) ≡ l ++ sounding b) (eqb x silence) (sounding a) (x ∷ sounding a)
    (λ silent. rw silent (sounding_joined a b)) (λ sounds. rw sounds (ap (◌∷◌ x) (sounding_joined a b)))

-- one copy more, at the end
copies_more : (n : ℕ) (line : List ℕ) → copies n line ++ line ≡ copies (suc n) line
unfolding copies
copies_more zero line = sym (append-nil line)
copies_more (suc n) line = append_assoc line (copies n line) line ∙ ap (λ (l : List ℕ). line ++ l) (copies_more n line)

module _ (function on off : ℕ) (small : function < 7) (lasts : Lasts on off) where
  abbrev line : List ℕ
  line = ci_of function

  line_length : length line ≡ 30
  unfolding sequence framed_all framed
  line_length = refl

  -- a bit of an on period, and one of an off period
  on_bit : (place k : ℕ) → place % period on off < on_bits on → place % period on off % 30 ≡ k → cadence_at function on off place ≡ get_or line k 0
  unfolding cadence_at when
  on_bit place k within at = rw (lt-ltb (place % period on off) (on_bits on) within, at) refl

  off_bit : (place : ℕ) → on_bits on ≤ place % period on off → cadence_at function on off place ≡ silence
  unfolding cadence_at when
  off_bit place past = rw (le-ltb (place % period on off) (on_bits on) past) refl

  -- behind a place of a period comes the next
  next_place : (place : ℕ) → suc (place % period on off) < period on off → suc place % period on off ≡ suc (place % period on off)
  next_place place more-come = suc-mod place (period on off) ∙ mod-eq_of_lt more-come

  -- within a sequence of an on period stand its bits
  in_sequence : (n place j k : ℕ) → place % period on off ≡ j * 30 + k → k + n ≤ 30 → j * 30 + k + n ≤ on_bits on → bits_from function on off place n ≡ take n (drop k line)
  unfolding bits_from
  in_sequence zero place j k at few within = refl
  in_sequence (suc n) place j k at few within =
      let behind : suc place % period on off ≡ j * 30 + suc k = next_place place (omega (arith, at, within, lasts.long)) ∙ (let z : suc (place % period on off) ≡ j * 30 + suc k = omega (arith, at) in z) in
      ap₂ ◌∷◌ (bit_on place j k at (omega (arith, few)) (omega (arith, within))) (in_sequence n (suc place) j (suc k) behind (omega (arith, few)) (omega (arith, within)))
      ∙ ap (take (suc n)) (sym (drop-cons line k 0 (omega (arith, line_length, few))))
    where
      bit_on : (p j k : ℕ) → p % period on off ≡ j * 30 + k → k < 30 → j * 30 + k < on_bits on → cadence_at function on off p ≡ get_or line k 0
      bit_on p j k at few within = on_bit p k (omega (arith, at, within)) (omega (arith, at, few))

  -- a whole sequence
  sequence_at : (place j : ℕ) → place % period on off ≡ j * 30 → suc j ≤ on → bits_from function on off place 30 ≡ line
  sequence_at place j at within = in_sequence 30 place j 0 (at ∙ (let z : j * 30 ≡ j * 30 + 0 = omega arith in z)) (omega arith) (omega (arith, within)) ∙ ap (λ (n : ℕ). take n line) (sym line_length) ∙ take-length line

  -- a period, from its first bit on: so many sequences, and so many bit times of silence
  module _ (place : ℕ) (first : place % period on off ≡ 0) where
    behind_first : (k : ℕ) → k < period on off → (place + k) % period on off ≡ k
    behind_first k less = sym (mod-add-mod place (period on off) k) ∙ ap (λ (p : ℕ). (p + k) % period on off) first ∙ (let z : 0 + k ≡ k = omega arith in ap (λ (p : ℕ). p % period on off) z) ∙ mod-eq_of_lt less

    sequences_on : (j : ℕ) → j ≤ on → bits_from function on off place (j * 30) ≡ copies j line
    unfolding bits_from copies
    sequences_on zero few = refl
    sequences_on (suc j) few =
        ap (bits_from function on off place) (let z : suc j * 30 ≡ j * 30 + 30 = omega arith in z)
        ∙ bits_joined function on off (j * 30) 30 place
        ∙ ap₂ ◌++◌ (sequences_on j (omega (arith, few))) (sequence_at (place + j * 30) j (behind_first (j * 30) (omega (arith, few, lasts.long))) few)
        ∙ copies_more j line

    silent_off : (m k : ℕ) → k + m ≤ off → bits_from function on off (place + (on_bits on + k)) m ≡ replicate m silence
    unfolding bits_from
    silent_off zero k few = refl
    silent_off (suc m) k few =
        ap₂ ◌∷◌ (off_bit (place + (on_bits on + k)) (omega (arith, behind_first (on_bits on + k) (omega (arith, few)))))
        (ap (λ (p : ℕ). bits_from function on off p m) (let z : suc (place + (on_bits on + k)) ≡ place + (on_bits on + suc k) = omega arith in z) ∙ silent_off m (suc k) (omega (arith, few)))

    one_period : bits_from function on off place (on * 30 + off) ≡ copies on line ++ replicate off silence
    one_period =
        bits_joined function on off (on * 30) off place
        ∙ ap₂ ◌++◌ (sequences_on on (omega arith)) (ap (λ (p : ℕ). bits_from function on off p off) (let z : place + on * 30 ≡ place + (on_bits on + 0) = omega arith in z) ∙ silent_off off 0 (omega arith))

  pub periods : (n : ℕ) → bits_from function on off 0 (n * (on * 30 + off)) ≡ copies n (copies on line ++ replicate off silence)
  unfolding bits_from copies
  periods zero = ap (bits_from function on off 0) (let z : 0 * (on * 30 + off) ≡ 0 = omega arith in z)
  periods (suc n) =
      let whole-ones = n * (on * 30 + off) in
      let first : (0 + whole-ones) % period on off ≡ 0 = ap (λ (p : ℕ). p % period on off) (let z : 0 + whole-ones ≡ whole-ones + 0 = omega arith in z) ∙ digits_mod n (omega (arith, lasts.long)) in
      ap (bits_from function on off 0) (suc-mul n (on * 30 + off))
      ∙ bits_joined function on off whole-ones (on * 30 + off) 0
      ∙ ap₂ ◌++◌ (periods n) (one_period (0 + whole-ones) first)
      ∙ copies_more n (copies on line ++ replicate off silence)

  -- a whole sequence sounds as it is, and a bit time of silence as nothing
  whole : (place j : ℕ) → place % period on off ≡ j * 30 → suc j ≤ on → sounding (bits_from function on off place 30) ≡ line
  whole place j at within = ap sounding (sequence_at place j at within) ∙ sounding_bits line (line_bits Ci (category_octet call_function_tag function ∷ []) (ci_accepted function small))

  silent : (place : ℕ) → on_bits on ≤ place % period on off → sounding (bits_from function on off place 1) ≡ []
  unfolding bits_from sounding when
  silent place past = rw (off_bit place past) refl

  -- so many bits of the cadence, at the end of a sequence or in silence: the CI that often, and not less often than this
  pub record Sounded (least n : ℕ) : Type 0 where
    pub sequences : ℕ
    pub enough : least ≤ sequences
    pub all : sounding (bits_from function on off 0 n) ≡ copies sequences line

  -- what comes behind n bits
  behind : (n m : ℕ) (before after : List ℕ) → sounding (bits_from function on off 0 n) ≡ before → sounding (bits_from function on off n m) ≡ after → sounding (bits_from function on off 0 (n + m)) ≡ before ++ after
  behind n m before after first then =
      ap sounding (bits_joined function on off n m 0)
      ∙ sounding_joined (bits_from function on off 0 n) (bits_from function on off (0 + n) m)
      ∙ ap₂ ◌++◌ first (ap (λ (p : ℕ). sounding (bits_from function on off p m)) (let z : 0 + n ≡ n = omega arith in z) ∙ then)

  one_more : (least n j : ℕ) → n % period on off ≡ j * 30 → suc j ≤ on → Sounded least n → Sounded (suc least) (n + 30)
  one_more least n j at within before = record {
    sequences = suc before.sequences;
    enough = omega (arith, before.enough);
    all = behind n 30 (copies before.sequences line) line before.all (whole n j at within) ∙ copies_more before.sequences line;
  }

  no_more : (least n : ℕ) → on_bits on ≤ n % period on off → Sounded least n → Sounded least (n + 1)
  no_more least n past before = record {
    sequences = before.sequences;
    enough = before.enough;
    all = behind n 1 (copies before.sequences line) [] before.all (silent n past) ∙ append-nil (copies before.sequences line);
  }

  -- the first three
  none_yet : Sounded 0 0
  unfolding bits_from sounding copies
  none_yet = record { sequences = 0; enough = omega arith; all = refl }

  place_below : (n : ℕ) → n < 90 → n % period on off ≡ n
  place_below n few = mod-eq_of_lt (omega (arith, few, lasts.some))

  first_three : Sounded 3 90
  first_three =
      one_more 2 60 2 (place_below 60 (omega arith)) (omega (arith, lasts.some))
      (one_more 1 30 1 (place_below 30 (omega arith)) (omega (arith, lasts.some))
      (one_more 0 0 0 (place_below 0 (omega arith)) (omega (arith, lasts.some)) none_yet))

  -- nothing is left to send there
  abbrev pub Ends : ℕ → Type 0
  Ends n = n % period on off < on_bits on → n % period on off % 30 ≡ 0

  -- the end of a sequence, which is not the third: a sequence before it
  module _ (m : ℕ) (many : 90 < suc m) (in_on : m % period on off < on_bits on) (ends : Ends (suc m)) where
    abbrev within : ℕ
    within = m % period on off

    place_is : suc m % period on off ≡ suc within
    place_is = next_place m (omega (arith, in_on, lasts.long))

    whole_sequences : suc within % 30 ≡ 0
    whole_sequences =
        ⊎_elim
        (λ less. let z = ends (omega (arith, place_is, ltb-true (suc within) (on_bits on) less)) in omega (arith, z, place_is))
        (λ full. omega (arith, in_on, ltb-false (suc within) (on_bits on) full))
        (decide (ltb (suc within) (on_bits on)))

    abbrev j : ℕ
    j = within / 30

    last_one : suc within ≡ j * 30 + 30
    last_one = omega (arith, whole_sequences)

    enough_left : 120 ≤ suc m
    enough_left =
        ⊎_elim
        (λ less. let Small-one = mod-eq_of_lt {n = suc m} {m = period on off} (omega (arith, ltb-true (suc m) 120 less, lasts.some, lasts.long)) in absurd (let z : ⊥ = omega (arith, Small-one, place_is, whole_sequences, many, ltb-true (suc m) 120 less) in z))
        (λ full. ltb-false (suc m) 120 full)
        (decide (ltb (suc m) 120))

    abbrev start : ℕ
    start = suc m - 30

    start_place : start % period on off ≡ j * 30
    start_place =
        let q = suc m / period on off * period on off in
        let split : q + suc within ≡ suc m = ap (λ (k : ℕ). q + k) (sym place_is) ∙ div-add-mod' (suc m) (period on off) in
        let is : start ≡ q + j * 30 = omega (arith, split, last_one) in
        ap (λ (k : ℕ). k % period on off) is ∙ digits_mod (suc m / period on off) (omega (arith, last_one, in_on, lasts.long))

  -- from what is known of fewer bits, down to the third sequence
  module _ (m : ℕ) (earlier : (k : ℕ) → k < suc m → 90 ≤ k → Ends k → Sounded 3 k) (ends : Ends (suc m)) (past : 90 < suc m) where
    on_period : ltb (m % period on off) (on_bits on) ≡ true → Sounded 3 (suc m)
    on_period is =
        let in_on = ltb-true (m % period on off) (on_bits on) is in
        let at = start_place m past in_on ends in
        let before = earlier (start m past in_on ends) (omega arith) (omega (arith, enough_left m past in_on ends)) (λ _. omega (arith, at)) in
        let more_of = one_more 3 (start m past in_on ends) (j m past in_on ends) at (omega (arith, last_one m past in_on ends, in_on)) before in
        subst (Sounded 3) (let z : suc m - 30 + 30 ≡ suc m = omega (arith, past) in z) (record { sequences = more_of.sequences; enough = omega (arith, more_of.enough); all = more_of.all })

    off_period : ltb (m % period on off) (on_bits on) ≡ false → Sounded 3 (suc m)
    off_period is =
        let past_on = ltb-false (m % period on off) (on_bits on) is in
        subst (Sounded 3) (let z : m + 1 ≡ suc m = omega arith in z) (no_more 3 m past_on (earlier m (omega arith) (omega (arith, past)) (λ within. absurd (let z : ⊥ = omega (arith, within, past_on) in z))))

  sounded : (fuel n : ℕ) → n ≤ fuel → 90 ≤ n → Ends n → Sounded 3 n
  sounded zero n most many ends = absurd (let z : ⊥ = omega (arith, most, many) in z)
  sounded (suc fuel) zero most many ends = absurd (let z : ⊥ = omega (arith, many) in z)
  sounded (suc fuel) (suc m) most many ends =
      let earlier : (k : ℕ) → k < suc m → 90 ≤ k → Ends k → Sounded 3 k = λ k less. sounded fuel k (omega (arith, less, most)) in
      ⊎_elim (λ third. subst (Sounded 3) (sym (eqb-true (suc m) 90 third)) first_three)
      (λ later. let past : 90 < suc m = omega (arith, many, eqb-false (suc m) 90 later) in ⊎_elim (on_period m earlier ends past) (off_period m earlier ends past) (decide (ltb (m % period on off) (on_bits on))))
      (decide (eqb (suc m) 90))

  pub sounds : (n : ℕ) → 90 ≤ n → Ends n → Sounded 3 n
  sounds n = sounded n n (omega arith)
