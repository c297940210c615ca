-- The damaged bits of a plain text, read and marked one by one.
-- Assumes nothing.
use Rattle.std.proofs.Common.{◌≡◌, ℕ, ◌+◌, ◌<◌, ◌≤◌, Bool, true, false, eqb, List, [], ◌∷◌, ◌++◌, length, set, replicate, refl, subst, append-nil, arith, le-ltb}
use Rattle.laws.specs.Logic.{when, both, either}
use Rattle.laws.proofs.Logic.{either_way}
use Rattle.names.specs.Bytes.{bytes}
use Rattle.names.specs.Names.{end}
use Rattle.plans.specs.declared.Plan.{Plan}
use Rattle.plans.specs.declared.Reading.{Reading}
use Rattle.plans.specs.Text.{word_length}
use Rattle.plans.specs.Reading.{after_damaged, first_bit, bits, is_said, name_word, number_word, read_word, at_bits, at_octets, bit_place, finish_line}
use Rattle.plans.specs.Plain.{decimal, bit_text, bits_text}
use Rattle.plans.proofs.Runs.{Stops, stops_joined, Found, found, Run, nothing, spaced, fed, join, word_run}
use Rattle.plans.proofs.Decimals.{decimal_read, decimal_spelled, decimal_some}
use Rattle.plans.proofs.Marking.{marking}
use Rattle.plans.proofs.Words.{Known, no_line, reading, name_run}
use Rattle.plans.proofs.LineRuns.{damaged_known, line_begins}
use Rattle.plans.proofs.ListRuns.{Ends, Lines, Ready, ready_on, entry_stops, entry_run}

-- the damaged bits of an end, which stand from a place on
module _ (plan : Plan) (n : ℕ) (name : List ℕ) (names_it : Known name end n) (place : ℕ) (there : (time : ℕ) → bit_place n time ≡ place + time) where
  abbrev front : List ℕ
  front = 10 ∷ (bytes "damaged" ++ (replicate 3 32 ++ name))

  abbrev within : ℕ → Reading
  within context = reading plan (no_line n) context

  -- the line begins
  front_run : (r : Reading) (d : Found) → Ends plan r → Run r d front (within first_bit) d
  unfolding bytes word_length is_said name_word when either both
  front_run r d ends =
      fed ends.1 refl
      (join {a = bytes "damaged"} {b = replicate 3 32 ++ name} (line_begins plan ends.0 d (bytes "damaged") 7 damaged_known refl) refl
      (spaced 3 refl (name_run (reading plan (no_line 0) after_damaged) (within first_bit) d name end n names_it refl refl refl refl refl)))

  bit_lines : Lines plan front (within first_bit) (within bits)
  unfolding finish_line when either
  bit_lines = record { begins = front_run; ends = (no_line n, refl) }

  -- a bit
  abbrev with : ℕ → Found → Found
  with time d = found (set d.damaged (place + time) 1) d.octets d.whose

  time_run : (context time : ℕ) (d : Found) → eqb context 6 ≡ false → eqb context 23 ≡ false → eqb context 24 ≡ false → eqb context 25 ≡ false → at_bits (within context) ≡ true → at_octets (within context) ≡ false → time < 9000 → Run (within context) d (32 ∷ decimal time) (within bits) (with time d)
  unfolding read_word number_word when both either
  time_run context time d no-te no-cadence no-on no_answer is_at_bits no_octets small =
      let low : time < 100000 = omega (arith, small) in
      let is_read = decimal_read time low in
      spaced 1 refl
      (word_run (within context) (within bits) d (with time d) (decimal time) (decimal_some time low) (decimal_spelled time)
      (simp (no-te, no-cadence, no-on, no_answer, is_at_bits, is_read, le-ltb 8999 time (omega (arith, small))))
      refl
      (simp (is_at_bits, is_read, there))
      (simp (no_octets, append-nil))
      refl)

  bit_run : (count time : ℕ) (d : Found) (r : Reading) → Ready plan (within bits) count r → time < 9000 → Run r d (bit_text front count time) (within bits) (with time d)
  unfolding either
  bit_run count time d r ready small =
      entry_run bit_lines count (decimal time) d (with time d) r ready (time_run first_bit time d refl refl refl refl refl refl small) (time_run bits time d refl refl refl refl refl refl small)

  pub bits_stop : (list : List ℕ) (count time : ℕ) → Stops (bits_text front count time list)
  unfolding bits_text word_length bytes when either
  bits_stop [] count time = refl
  bits_stop (b ∷ list) count time =
      stops_joined (when (eqb b 1) (bit_text front count time) []) (bits_text front (count + when (eqb b 1) 1 0) (time + 1) list)
      (either_way Stops (eqb b 1) (bit_text front count time) [] (λ _. entry_stops front refl count (decimal time)) (λ _. refl))
      (bits_stop list (count + when (eqb b 1) 1 0) (time + 1))

  -- bits from a time on
  abbrev with_bits : ℕ → List ℕ → Found → Found
  with_bits at list d = found (marking d.damaged at list) d.octets d.whose

  -- what is read behind some bits
  abbrev Later : ℕ → ℕ → List ℕ → Found → Reading → Type 0
  Later count time list d r = (r' : Reading) × Ends plan r' × Run r d (bits_text front count time list) r' (with_bits (place + time) list d)

  -- the next place
  on_place : (time : ℕ) (list : List ℕ) (d d' : Found) (text : List ℕ) (r r' : Reading) → Run r d text r' (with_bits (place + (time + 1)) list d') → Run r d text r' (with_bits (place + time + 1) list d')
  on_place time list d d' text r r' run =
      let same : place + (time + 1) ≡ place + time + 1 = omega arith in
      subst (λ (at : ℕ). Run r d text r' (with_bits at list d')) same run

  one_bit :
      (t : Bool) (count time : ℕ) (list : List ℕ) (d : Found) (r : Reading) → Ready plan (within bits) count r → time < 9000
      → ((d' : Found) (r' : Reading) → Ready plan (within bits) (count + when t 1 0) r' → Later (count + when t 1 0) (time + 1) list d' r')
      → (r' : Reading) × Ends plan r' × Run r d (when t (bit_text front count time) [] ++ bits_text front (count + when t 1 0) (time + 1) list) r'
      (found (marking (when t (set d.damaged (place + time) 1) d.damaged) (place + time + 1) list) d.octets d.whose)
  unfolding when
  one_bit true count time list d r ready small on =
      let next = on (with time d) (within bits) (ready_on bit_lines (count + 1)) in
      (next.0, next.1, on_place time list d (with time d) _ r next.0 (join (bit_run count time d r ready small) (bits_stop list (count + 1) (time + 1)) next.2))
  one_bit false count time list d r ready small on =
      let same : count + 0 ≡ count = omega arith in
      let next = on d r (rw same ready) in
      (next.0, next.1, on_place time list d d _ r next.0 next.2)

  pub bits_run : (list : List ℕ) (count time : ℕ) (d : Found) (r : Reading) → Ready plan (within bits) count r → time + length list ≤ 9000 → Later count time list d r
  unfolding bits_text marking
  bits_run [] count time d r ready fits = (r, ready.0, nothing r d)
  bits_run (b ∷ list) count time d r ready fits =
      one_bit (eqb b 1) count time list d r ready (omega (arith, fits)) (λ d' r' is-ready. bits_run list (count + when (eqb b 1) 1 0) (time + 1) d' r' is-ready (omega (arith, fits)))
