-- How many bits were heard since a sync began: of every record since it was fresh its place in the framing and its octets say that, by the cases of
-- one more byte. So the span that a report carries is what was counted, and the record keeps that of the message reported last.
-- Assumes nothing.
use Prim.Native.Nat.{ℕ, ◌<◌, ◌≤◌, ◌+◌, ◌*◌}
use native.Mathlib.Nat.{mod-eq_of_lt}
use native.Mathlib.Omega.{arith}
use mathlib.Core.Path.{◌≡◌, refl, sym, ap, subst, ◌∙◌}
use mathlib.Core.Bool.{Bool, true, false}
use mathlib.Core.List.{List, [], ◌∷◌, ◌++◌}
use borrow.Author.Tests.{ltb-true, ne_eqb}
use lib.Dec.{ltb, eqb}
use Rattle.laws.specs.Logic.{when}
use Rattle.octets.specs.declared.Kind.{Kind}
use Rattle.octets.specs.declared.Kind.TheVariants.{Ci, Menu}
use Rattle.framing.specs.Framing.{nothing as idle, start_ci, start_menu, store, report, tell_cj, refusal_act, refusal_in, hunting, in_sync, boundary, ending_ones, pushed}
use Rattle.framing.proofs.Places.{Places, hunts, inside_sync_lem, accepts, passes_over, opens_octet, opens_end, inside_octet_lem, stop_zero_lem, bad_octet_lem, too_many, stores, cut_short, inside_end, reports as reporting, Hunted, goes_by, starts, hunted_as, hunted_low, turning, Turns, tells_cj_lem, is_placed, turned_as}
use Rattle.listening.specs.declared.Listener.{Listener}
use Rattle.listening.specs.Hearing.{HearOutcome, changed, reported, told, told_alone, acted, heard_in, heard_bit}
use Rattle.listening.specs.Record.{in_range, fresh}
use Rattle.listening.specs.Spans.{Spanned, none, spans, spanned, last_span}
use Rattle.listening.proofs.Acts.{heard_not_a_bit}
use Rattle.listening.proofs.Ranges.{range_fits, fits_range, fresh_fits, heard_range, heard_inside}
use Rattle.stretches.specs.Hearing.{Report, message, cj, refusal, noted, reports, once_heard, last_of}
use Rattle.stretches.specs.Heard.{counted}
use Rattle.stretches.proofs.Counting.{one_more, one_byte}

-- what is counted, by the record's own numbers
record Counts (n place len : ℕ) : Type 0 where
  syncing : 0 < place → place < boundary → n ≡ place
  filling : boundary ≤ place → place < ending_ones → n ≡ place + 10 * len
  ending : ending_ones ≤ place → n + 9 ≡ place + 10 * len

counts_hunting : (n len : ℕ) → Counts n hunting len
counts_hunting n len = record { syncing = λ some. absurd (omega (arith, some)); filling = λ high. absurd (omega (arith, high)); ending = λ high. absurd (omega (arith, high)) }

module _ (n len : ℕ) where
  -- behind a bit that starts no sync
  counts_on : (to : ℕ) → 1 < to → Counts (n + 1) to len → Counts (one_more to n) to len
  unfolding when
  counts_on to high counts = simp (ne_eqb to in_sync (λ e. omega (arith, e, high))) counts

  in_sync_lem : (to : ℕ) → 1 < to → to < boundary → n + 1 ≡ to → Counts (one_more to n) to len
  in_sync_lem to some few is = counts_on to some (record { syncing = λ _ _. is; filling = λ high. absurd (omega (arith, high)); ending = λ high. absurd (omega (arith, high)) })

  in_octets : (to : ℕ) → boundary ≤ to → to < ending_ones → n + 1 ≡ to + 10 * len → Counts (one_more to n) to len
  in_octets to some few is = counts_on to (omega arith) (record { syncing = λ _ low. absurd (omega (arith, low)); filling = λ _ _. is; ending = λ high. absurd (omega (arith, high)) })

  in_ending : (to : ℕ) → ending_ones ≤ to → n + 10 ≡ to + 10 * len → Counts (one_more to n) to len
  in_ending to some is = counts_on to (omega arith) (record { syncing = λ _ low. absurd (omega (arith, low)); filling = λ _ low. absurd (omega (arith, low)); ending = λ _. omega (arith, is) })

  by_hunted : {before bit to : ℕ} → Hunted before bit to → Counts (one_more to n) to len
  unfolding when
  by_hunted goes_by = counts_hunting (n + 1) len
  by_hunted (starts is_zero word) = record { syncing = λ _ _. refl; filling = λ high. absurd (omega (arith, high)); ending = λ high. absurd (omega (arith, high)) }

-- what a record holds: what was counted, and the span of the message reported last
record Spans (n : ℕ) (before : Spanned) (rec : Listener) : Type 0 where
  pub range : in_range rec ≡ true
  pub counts : Counts n rec.ear.place rec.msg.len
  pub kind : boundary ≤ rec.ear.place → rec.msg.kind ≡ 0 → ⊥
  pub last : spanned rec.last ≡ before

-- the span in what a bit notes, if it has one
abbrev span_in : List Report → ℕ → ℕ
span_in [] n = n
span_in (message kind octets flag m ∷ later) n = m
span_in (cj ∷ later) n = n
span_in (refusal number ∷ later) n = n

-- what a byte notes carries what is counted with it, and what it leaves holds that
record Carries (before : Spanned) (o : HearOutcome) (n : ℕ) : Type 0 where
  after : Spanned
  tells : (later : List Report) → last_of before (noted o.report o.rec.msg later) ≡ last_of after later
  carries : span_in (noted o.report o.rec.msg []) n ≡ n
  counts : Counts n o.rec.ear.place o.rec.msg.len
  kind : boundary ≤ o.rec.ear.place → o.rec.msg.kind ≡ 0 → ⊥
  last : spanned o.rec.last ≡ after

module _ (n : ℕ) (before : Spanned) (rec : Listener) (s : Spans n before rec) (bit : ℕ) where
  abbrev by : ℕ → ℕ → HearOutcome
  by to act = acted rec (turning rec.ear bit to act)

  abbrev len : ℕ
  len = rec.msg.len

  -- a bit that reports no message
  passes : (to act : ℕ) → ((later : List Report) → last_of before (noted (by to act).report (by to act).rec.msg later) ≡ last_of before later)
      → span_in (noted (by to act).report (by to act).rec.msg []) (one_more to n) ≡ one_more to n
      → Counts (one_more to n) to (by to act).rec.msg.len → (boundary ≤ to → (by to act).rec.msg.kind ≡ 0 → ⊥) → (by to act).rec.last ≡ rec.last → Carries before (by to act) (one_more to n)
  unfolding acted
  passes to act tells carries counts kind kept = record { after = before; tells = tells; carries = carries; counts = counts; kind = kind; last = ap spanned kept ∙ s.last }

  -- and one that does: the nine 1s before it were counted, and it is the tenth
  by_kind : (is-ci : Bool) → eqb rec.msg.kind 1 ≡ is-ci → (rec.msg.kind ≡ 0 → ⊥) → n + 1 ≡ 20 + 10 * len → Carries before (by hunting report) (one_more hunting n)
  unfolding acted changed told reported when last_of spanned
  by_kind true is some size = record { after = spans (20 + 10 * len); tells = λ later. simp is; carries = simp is (sym size); counts = counts_hunting (n + 1) len; kind = λ high. absurd (omega (arith, high)); last = simp (ne_eqb _ _ some) }
  by_kind false is some size = record { after = spans (20 + 10 * len); tells = λ later. simp is; carries = simp is (sym size); counts = counts_hunting (n + 1) len; kind = λ high. absurd (omega (arith, high)); last = simp (ne_eqb _ _ some) }

  placed_carries : {to act : ℕ} → Places rec.ear.place rec.ear.past (pushed rec.ear.past bit) rec.msg.len bit to act → Carries before (by to act) (one_more to n)
  unfolding acted changed told told_alone refusal_in when last_of
  placed_carries (hunts at) = passes _ idle (λ later. refl) refl (by_hunted n len (hunted_as rec.ear.past bit)) (λ high. absurd (omega (arith, high, hunted_low rec.ear.past bit))) refl
  placed_carries (inside_sync_lem some few) = passes _ idle (λ later. refl) refl (in_sync_lem n len _ (omega arith) (omega arith) (omega (arith, s.counts.syncing some (omega arith)))) (λ high. absurd (omega (arith, high))) refl
  placed_carries (accepts Ci at word) = passes _ start_ci (λ later. refl) refl (in_octets n 0 _ (omega arith) (omega arith) (omega (arith, at, s.counts.syncing (omega (arith, at)) (omega (arith, at))))) (λ high none. absurd (omega (arith, none))) refl
  placed_carries (accepts Menu at word) = passes _ start_menu (λ later. refl) refl (in_octets n 0 _ (omega arith) (omega arith) (omega (arith, at, s.counts.syncing (omega (arith, at)) (omega (arith, at))))) (λ high none. absurd (omega (arith, none))) refl
  placed_carries (passes_over at not-ci not-menu) = passes _ idle (λ later. refl) refl (counts_hunting (n + 1) len) (λ high. absurd (omega (arith, high))) refl
  placed_carries (opens_octet at is_zero) = passes _ idle (λ later. refl) refl (in_octets n len _ (omega arith) (omega arith) (omega (arith, at, s.counts.filling (omega (arith, at)) (omega (arith, at))))) (λ high. s.kind (omega (arith, at))) refl
  placed_carries (opens_end at one) = passes _ idle (λ later. refl) refl (in_ending n len _ (omega arith) (omega (arith, at, s.counts.filling (omega (arith, at)) (omega (arith, at))))) (λ high. s.kind (omega (arith, at))) refl
  placed_carries (inside_octet_lem some few) = passes _ idle (λ later. refl) refl (in_octets n len _ (omega arith) (omega arith) (omega (arith, s.counts.filling (omega arith) (omega arith)))) (λ high. s.kind (omega arith)) refl
  placed_carries (stop_zero_lem at is_zero) = passes _ (refusal_act 2) (λ later. refl) refl (counts_hunting (n + 1) len) (λ high. absurd (omega (arith, high))) refl
  placed_carries (bad_octet_lem at one is-bad) = passes _ (refusal_act 3) (λ later. refl) refl (counts_hunting (n + 1) len) (λ high. absurd (omega (arith, high))) refl
  placed_carries (too_many at one full) = passes _ (refusal_act 4) (λ later. refl) refl (counts_hunting (n + 1) len) (λ high. absurd (omega (arith, high))) refl
  placed_carries (stores at one fine room) =
      let few : len < 64 = omega (arith, room, (range_fits rec s.range).msg.len) in
      passes _ store (λ later. refl) refl (in_octets n _ _ (omega arith) (omega arith) (omega (arith, at, mod-eq_of_lt few, s.counts.filling (omega (arith, at)) (omega (arith, at))))) (λ high. s.kind (omega (arith, at))) refl
  placed_carries (cut_short some is_zero) = passes _ (refusal_act 13) (λ later. refl) refl (by_hunted n len (hunted_as rec.ear.past bit)) (λ high. absurd (omega (arith, high, hunted_low rec.ear.past bit))) refl
  placed_carries (inside_end some few one) = passes _ idle (λ later. refl) refl (in_ending n len _ (omega arith) (omega (arith, s.counts.ending (omega arith)))) (λ high. s.kind (omega arith)) refl
  placed_carries (reporting late one) =
      by_kind (eqb rec.msg.kind 1) refl (s.kind (omega arith)) (omega (arith, s.counts.ending (omega arith), (range_fits rec s.range).ear.place))

  turned_carries : {to act : ℕ} → Turns rec.ear rec.msg.len bit to act → Carries before (by to act) (one_more to n)
  unfolding acted changed told told_alone when last_of
  turned_carries (tells_cj_lem e) = passes _ tell_cj (λ later. refl) refl (counts_hunting (n + 1) len) (λ high. absurd (omega (arith, high))) refl
  turned_carries (is_placed e p) = placed_carries p

  byte_carries : (no_bit : Bool) → ltb 1 bit ≡ no_bit → Carries before (heard_bit rec bit) (one_byte (heard_bit rec bit).rec.ear.place n no_bit)
  unfolding heard_in acted when last_of
  byte_carries true e =
      rw (heard_inside rec bit s.range ∙ heard_not_a_bit rec bit (ltb-true 1 bit e))
      (record { after = before; tells = λ later. refl; carries = refl; counts = s.counts; kind = s.kind; last = s.last })
  byte_carries false e =
      let turn = turned_as rec.ear rec.msg.len bit in
      let heard : heard_bit rec bit ≡ by turn.to turn.act = heard_inside rec bit s.range ∙ simp (e, turn.is) in
      rw heard (turned_carries turn.by)

  abbrev next : ℕ
  next = one_byte (heard_bit rec bit).rec.ear.place n (ltb 1 bit)

  byte_spans : (c : Carries before (heard_bit rec bit) next) → Spans next c.after (heard_bit rec bit).rec
  byte_spans c = record { range = heard_range rec bit s.range; counts = c.counts; kind = c.kind; last = c.last }

spans_since : (bytes : List ℕ) (n : ℕ) (before : Spanned) (rec : Listener) → Spans n before rec → Spans (counted rec bytes n) (last_of before (reports rec bytes)) (once_heard rec bytes)
unfolding counted reports once_heard last_of
spans_since [] n before rec s = s
spans_since (byte ∷ bytes) n before rec s =
    let c = byte_carries n before rec s byte (ltb 1 byte) refl in
    let later = spans_since bytes (next n before rec s byte) c.after (heard_bit rec byte).rec (byte_spans n before rec s byte c) in
    subst (λ (t : Spanned). Spans (counted rec (byte ∷ bytes) n) t (once_heard rec (byte ∷ bytes))) (sym (c.tells (reports (heard_bit rec byte).rec bytes))) later

spans_heard : (bytes : List ℕ) → Spans (counted fresh bytes 0) (last_of none (reports fresh bytes)) (once_heard fresh bytes)
unfolding spanned when
spans_heard bytes = spans_since bytes 0 none fresh (record { range = fits_range fresh fresh_fits; counts = counts_hunting 0 0; kind = λ high. absurd (omega (arith, high)); last = refl })

-- the record of a line says the span of the message reported last
pub last_heard : (bytes : List ℕ) → last_span (once_heard fresh bytes) ≡ last_of none (reports fresh bytes)
unfolding last_span when
last_heard bytes = let s = spans_heard bytes in simp s.range s.last

counted_on : (bytes : List ℕ) (byte n : ℕ) (rec : Listener) → counted rec (bytes ++ byte ∷ []) n ≡ counted (once_heard rec bytes) (byte ∷ []) (counted rec bytes n)
unfolding counted once_heard
counted_on [] byte n rec = refl
counted_on (b ∷ bytes) byte n rec = counted_on bytes byte _ (heard_bit rec b).rec

-- and a report carries what was counted
pub report_counted : (bytes : List ℕ) (byte : ℕ) (kind : Kind) (octets : List ℕ) (flag : Bool) (n : ℕ)
    → noted (heard_bit (once_heard fresh bytes) byte).report (heard_bit (once_heard fresh bytes) byte).rec.msg [] ≡ message kind octets flag n ∷ [] → counted fresh (bytes ++ byte ∷ []) 0 ≡ n
unfolding counted
report_counted bytes byte kind octets flag n notes =
    let m = counted fresh bytes 0 in
    let rec = once_heard fresh bytes in
    let c = byte_carries m (last_of none (reports fresh bytes)) rec (spans_heard bytes) byte (ltb 1 byte) refl in
    counted_on bytes byte 0 fresh ∙ sym c.carries ∙ ap (λ (l : List Report). span_in l (when (ltb 1 byte) m (one_more (heard_bit rec byte).rec.ear.place m))) notes
