-- A record that was fresh stands where the bits that it heard lead: by the cases of one more bit. So a message is reported only behind ten 1s,
-- its sync, its octets and ten 1s.
-- Assumes nothing.
use Prim.Native.Nat.{ℕ, suc, ◌<◌, ◌≤◌, ◌+◌, ◌*◌, ◌-◌, ◌%◌, ◌/◌, ◌^◌}
use native.Mathlib.Numerals.{add-one}
use native.Mathlib.Nat.{mod-eq_of_lt}
use native.Mathlib.Omega.{arith}
use mathlib.Core.Path.{◌≡◌, refl, sym, ap, ap₂, subst, ◌∙◌}
use mathlib.Core.Bool.{Bool, true, false}
use mathlib.Core.List.{List, [], ◌∷◌, ◌++◌, append_assoc, append-nil}
use borrow.Author.Tests.{eqb-true, eqb-false}
use lib.Dec.{eqb, ltb, lit<}
use lib.ListN.{length, take, drop, set, replicate, length-append, length-drop, length-set, take-append-drop}
use lib.Seq.{take-suc-set, length-take-le}
use Rattle.laws.specs.Logic.{when}
use Rattle.laws.proofs.Logic.{either_way, clash}
use Rattle.octets.specs.declared.Kind.{Kind}
use Rattle.octets.specs.declared.Kind.TheVariants.{Ci, Menu}
use Rattle.sequences.specs.Line.{framed, framed_all, ten_ones, sync, sequence}
use Rattle.sequences.proofs.Lines.{framed_append}
use Rattle.framing.specs.Framing.{value, pushed, last_ten, octet_of, in_sync, last_of_sync, boundary, in_octet, stop_position, ending_ones, report, tell_cj}
use Rattle.framing.proofs.Words.{hearing}
use Rattle.framing.proofs.Places.{Places, hunts, inside_sync_lem, accepts, passes_over, opens_octet, opens_end, inside_octet_lem, stop_zero_lem, bad_octet_lem, too_many, stores, cut_short, inside_end, reports as reporting, Asks, no_ask, a_message, a_report, a_refusal, asks, Hunted, goes_by, starts, hunted_as, Turns, tells_cj_lem, is_placed, TurnedAs, turned_as}
use Rattle.leaps.proofs.Spans.{hearing_number}
use Rattle.listening.specs.declared.Listener.{Listener}
use Rattle.listening.specs.declared.Message.{Message}
use Rattle.listening.specs.Hearing as telling
use Rattle.listening.specs.Hearing.{Told, silence, HearOutcome, octets_of, stored, changed, agreed, span_of, reported, told, told_alone, acted, heard_bit}
use Rattle.listening.proofs.Acts.{told_report, told_other}
use Rattle.listening.specs.Record.{fresh}
use Rattle.listening.proofs.Ranges.{range_fits}
use Rattle.stretches.specs.Stretch.{Ends}
use Rattle.stretches.specs.Hearing.{Report, message, cj, refusal, noted, once_heard}
use Rattle.stretches.specs.Heard.{coded, IsOf, Led, syncs, bounds, fills, ends}
use Rattle.stretches.specs.Heard as led
use Rattle.stretches.proofs.Each.{none, more as also, each_append, each_left, each_right, each_drop, Bits, replicate_more}
use Rattle.stretches.proofs.Past.{hearing_small, hearing_append, ten_heard, ones_heard}
use Rattle.stretches.proofs.Sequences.{sync_bits, framed_bits, framed_value}
use Rattle.stretches.proofs.Heard.{Knows, heard_turned, past_on, since_fresh, knows_heard}

-- bits that make the same number are the same
pub same_bits : (v w : List ℕ) → Bits v → Bits w → length v ≡ length w → value v ≡ value w → v ≡ w
same_bits [] [] none none size number = refl
same_bits [] (y ∷ w) none (also low lows) size number = absurd (omega (arith, size))
same_bits (x ∷ v) [] (also low lows) none size number = absurd (omega (arith, size))
same_bits (x ∷ v) (y ∷ w) (also low lows) (also low' lows') size number =
    let first : x ≡ y = omega (arith, number) in
    ap₂ ◌∷◌ first (same_bits v w lows lows' (omega (arith, size)) (omega (arith, number, first)))

-- the number of bits with one more behind them
twice : (bit : ℕ) (bits : List ℕ) → 2 ^ length (bit ∷ bits) ≡ 2 * 2 ^ length bits
twice bit bits = let doubled : 2 ^ suc (length bits) ≡ 2 * 2 ^ length bits = omega arith in doubled

value_behind : (bits : List ℕ) (last : ℕ) → value (bits ++ last ∷ []) ≡ value bits + last * 2 ^ length bits
value_behind [] last = omega arith
value_behind (bit ∷ bits) last =
    let doubled : last * 2 ^ length (bit ∷ bits) ≡ 2 * (last * 2 ^ length bits) = ap (λ (n : ℕ). last * n) (twice bit bits) ∙ omega arith in
    omega (arith, value_behind bits last, doubled)

value_low : (bits : List ℕ) → Bits bits → value bits < 2 ^ length bits
value_low [] none = omega arith
value_low (bit ∷ bits) (also low lows) = omega (arith, value_low bits lows, twice bit bits)

-- both are ten bits
pub sync_length : (kind : Kind) → length (sync kind) ≡ 10
sync_length Ci = refl
sync_length Menu = refl

framed_ten : (b : ℕ) → length (framed b) ≡ 10
unfolding framed
framed_ten b = refl

-- one octet more
sequence_more : (kind : Kind) (octets : List ℕ) (b : ℕ) → sequence kind (octets ++ b ∷ []) ≡ sequence kind octets ++ framed b
unfolding sequence framed_all
sequence_more kind octets b = ap (λ (l : List ℕ). ten_ones ++ sync kind ++ l) (framed_append octets (b ∷ []) ∙ ap (λ (l : List ℕ). framed_all octets ++ l) (append-nil (framed b))) ∙ sym (append_assoc (ten_ones ++ sync kind) (framed_all octets) (framed b))

-- one bit more at the end
module _ (bit : ℕ) (bits : List ℕ) where
  pub further : (a b : List ℕ) → Ends (a ++ b) bits → Ends (a ++ (b ++ bit ∷ [])) (bits ++ bit ∷ [])
  further a b e = (e.0, sym (append_assoc e.0 (a ++ b) (bit ∷ []) ∙ ap (λ (l : List ℕ). e.0 ++ l) (append_assoc a b (bit ∷ []))) ∙ ap (λ (l : List ℕ). l ++ bit ∷ []) e.1)

  pub one_further : (a : List ℕ) → Ends a bits → Ends (a ++ bit ∷ []) (bits ++ bit ∷ [])
  one_further a e = (e.0, sym (append_assoc e.0 a (bit ∷ [])) ∙ ap (λ (l : List ℕ). l ++ bit ∷ []) e.1)

-- the number of the last ten bits
pub ends_number : (a w bits : List ℕ) → Bits bits → length w ≡ 10 → Ends (a ++ w) bits → (last_ten (hearing 0 bits) ≡ value w) × Bits w
ends_number a w bits lows ten e =
    let early = e.0 ++ a in
    let parted : early ++ w ≡ bits = append_assoc e.0 a w ∙ e.1 in
    let early_bits : Bits early = each_left early w (rw parted lows) in (
      ap (λ (l : List ℕ). last_ten (hearing 0 l)) (sym parted) ∙ ap last_ten (hearing_append 0 early w) ∙ ten_heard (hearing 0 early) w (hearing_small 0 early (lit< tt) early_bits) ten,
      each_right early w (rw parted lows),
    )

-- what led to each part of the framing
module _ {R : Type 0} {bits : List ℕ} {m : Message} {place : ℕ} where
  pub in_sync_lem : Led bits m place → 0 < place → place < boundary → ((later : List ℕ) → length later < last_of_sync → Ends (ten_ones ++ 0 ∷ later) bits → place ≡ in_sync + length later → R) → R
  in_sync_lem (led.hunts is) some few go = absurd (omega (arith, is))
  in_sync_lem (syncs later short stands is) some few go = go later short stands is
  in_sync_lem (bounds kind of stands is) some few go = absurd (omega (arith, is))
  in_sync_lem (fills kind data' of short stands is) some few go = absurd (omega (arith, is))
  in_sync_lem (ends kind n of short stands is) some few go = absurd (omega (arith, is))

  at_boundary : Led bits m place → place ≡ boundary → ((kind : Kind) → IsOf kind m → Ends (sequence kind (octets_of m)) bits → R) → R
  at_boundary (led.hunts is) at go = absurd (omega (arith, is, at))
  at_boundary (syncs later short stands is) at go = absurd (omega (arith, is, at))
  at_boundary (bounds kind of stands is) at go = go kind of stands
  at_boundary (fills kind data' of short stands is) at go = absurd (omega (arith, is, at))
  at_boundary (ends kind n of short stands is) at go = absurd (omega (arith, is, at))

  in_octet_lem : Led bits m place → boundary < place → place ≤ stop_position
      → ((kind : Kind) (data' : List ℕ) → IsOf kind m → length data' < 9 → Ends (sequence kind (octets_of m) ++ 0 ∷ data') bits → place ≡ in_octet + length data' → R) → R
  in_octet_lem (led.hunts is) some few go = absurd (omega (arith, is))
  in_octet_lem (syncs later short stands is) some few go = absurd (omega (arith, is))
  in_octet_lem (bounds kind of stands is) some few go = absurd (omega (arith, is))
  in_octet_lem (fills kind data' of short stands is) some few go = go kind data' of short stands is
  in_octet_lem (ends kind n of short stands is) some few go = absurd (omega (arith, is))

  in_end : Led bits m place → stop_position < place → ((kind : Kind) (n : ℕ) → IsOf kind m → n < 9 → Ends (sequence kind (octets_of m) ++ 1 ∷ replicate n 1) bits → place ≡ ending_ones + n → R) → R
  in_end (led.hunts is) some go = absurd (omega (arith, is))
  in_end (syncs later short stands is) some go = absurd (omega (arith, is))
  in_end (bounds kind of stands is) some go = absurd (omega (arith, is))
  in_end (fills kind data' of short stands is) some go = absurd (omega (arith, is))
  in_end (ends kind n of short stands is) some go = go kind n of short stands is

-- one bit more
module _ (sofar : List ℕ) (rec : Listener) (bits-sofar : Bits sofar) (knows : Knows sofar rec) (led-there : Led sofar rec.msg rec.ear.place) (full : length rec.msg.octets ≡ 64) (bit : ℕ) (low : bit < 2) where
  abbrev heard : List ℕ
  heard = sofar ++ bit ∷ []

  abbrev past : ℕ
  past = pushed rec.ear.past bit

  whole : Bits heard
  whole = each_append bits-sofar (also low none)

  is_one : (bit ≡ 0 → ⊥) → bit ≡ 1
  is_one not-zero = omega (arith, not-zero)

  -- "A 0 whose ten preceding heard bits are all 1 starts a sync."
  by_hunted : (m : Message) {to : ℕ} → Hunted rec.ear.past bit to → Led heard m to
  by_hunted m goes_by = led.hunts refl
  by_hunted m (starts is_zero word) =
      let ones = ones_heard sofar bits-sofar (ap last_ten (sym knows.past) ∙ word) in
      syncs [] (lit< tt) (rw is_zero (one_further 0 sofar ten_ones ones)) refl

  -- the ten bits of a frame, or of a sync
  ten_there : (a w : List ℕ) → length w ≡ 10 → Ends (a ++ w) heard → (last_ten past ≡ value w) × Bits w
  ten_there a w ten e = let number = ends_number a w heard whole ten e in (ap last_ten (past_on sofar rec knows bit low) ∙ number.0, number.1)

  accepted : (kind : Kind) → rec.ear.place ≡ last_of_sync → last_ten past ≡ value (sync kind) → Led heard (record { kind = coded kind; len = 0; octets = rec.msg.octets }) boundary
  unfolding sequence framed_all
  accepted kind at word =
      in_sync_lem led-there (omega (arith, at)) (omega (arith, at))
      (λ later short stands is.
      let w = 0 ∷ (later ++ bit ∷ []) in
      let there : Ends (ten_ones ++ w) heard = further bit sofar ten_ones (0 ∷ later) stands in
      let ten : length w ≡ 10 = omega (arith, length-append later (bit ∷ []), is, at) in
      let number = ten_there ten_ones w ten there in
      let is-sync : w ≡ sync kind = same_bits w (sync kind) number.1 (sync_bits kind) (ten ∙ sym (sync_length kind)) (sym number.0 ∙ word) in
      bounds kind refl (rw append-nil (rw (← is-sync) there)) refl)

  filled : rec.ear.place ≡ stop_position → (bit ≡ 0 → ⊥) → (rec.msg.len ≡ 64 → ⊥) → Led heard (stored rec.msg (octet_of past)) boundary
  filled at one room =
      in_octet_lem led-there (omega (arith, at)) (omega (arith, at))
      (λ kind data' of short stands is.
      let o = octet_of past in
      let m = rec.msg in
      let w = 0 ∷ (data' ++ 1 ∷ []) in
      let eight : length data' ≡ 8 = omega (arith, is, at) in
      let there : Ends (sequence kind (octets_of m) ++ w) heard = rw (is_one one) (further 1 sofar (sequence kind (octets_of m)) (0 ∷ data') stands) in
      let ten : length w ≡ 10 = omega (arith, length-append data' (1 ∷ []), eight) in
      let number = ten_there (sequence kind (octets_of m)) w ten there in
      let data-bits : Bits data' = each_left data' (1 ∷ []) (each_right (0 ∷ []) (data' ++ 1 ∷ []) number.1) in
      let top : value (data' ++ 1 ∷ []) ≡ value data' + 256 = value_behind data' 1 ∙ ap (λ (n : ℕ). value data' + 1 * 2 ^ n) eight in
      let small : value data' < 256 = subst (λ (n : ℕ). value data' < 2 ^ n) eight (value_low data' data-bits) in
      let is-data : o ≡ value data' = omega (arith, number.0, top, small) in
      let low-octet : o < 256 = omega (arith, is-data, small) in
      let frame : framed o ≡ w = same_bits (framed o) w (framed_bits o low-octet) number.1 (framed_ten o ∙ sym ten) (framed_value o low-octet ∙ omega (arith, is-data, top)) in
      let len : m.len < 64 = omega (arith, (range_fits rec knows.range).msg.len, room) in
      let added : octets_of (stored m o) ≡ octets_of m ++ o ∷ [] =
      ap (λ (n : ℕ). take (n + 1) (set m.octets n o)) (mod-eq_of_lt len) ∙ rw add-one (take-suc-set m.octets m.len o (omega (arith, full))) in
      bounds kind of (rw (added, sequence_more kind (octets_of m) o, frame) there) refl)

  placed_led : {to act : ℕ} → Places rec.ear.place rec.ear.past past rec.msg.len bit to act → (Led heard (changed rec.msg act past) to) × (length (changed rec.msg act past).octets ≡ 64)
  unfolding changed when
  placed_led (hunts at) = (by_hunted rec.msg (hunted_as rec.ear.past bit), full)
  placed_led (inside_sync_lem some few) = (
    in_sync_lem led-there some (omega arith)
        (λ later short stands is. syncs (later ++ bit ∷ []) (omega (arith, length-append later (bit ∷ []), is)) (further bit sofar ten_ones (0 ∷ later) stands) (omega (arith, length-append later (bit ∷ []), is))),
    full,
  )
  placed_led (accepts Ci at word) = (accepted Ci at word, full)
  placed_led (accepts Menu at word) = (accepted Menu at word, full)
  placed_led (passes_over at not-ci not-menu) = (led.hunts refl, full)
  placed_led (opens_octet at is_zero) = (at_boundary led-there at (λ kind of stands. fills kind [] of (lit< tt) (rw is_zero (one_further 0 sofar (sequence kind (octets_of rec.msg)) stands)) refl), full)
  placed_led (opens_end at one) = (at_boundary led-there at (λ kind of stands. ends kind 0 of (lit< tt) (rw (is_one one) (one_further 1 sofar (sequence kind (octets_of rec.msg)) stands)) refl), full)
  placed_led (inside_octet_lem some few) = (
    in_octet_lem led-there some (omega arith)
        (λ kind data' of short stands is.
        fills kind (data' ++ bit ∷ []) of (omega (arith, length-append data' (bit ∷ []), is)) (further bit sofar (sequence kind (octets_of rec.msg)) (0 ∷ data') stands) (omega (arith, length-append data' (bit ∷ []), is))),
    full,
  )
  placed_led (stop_zero_lem at is_zero) = (led.hunts refl, full)
  placed_led (bad_octet_lem at one is-bad) = (led.hunts refl, full)
  placed_led (too_many at one too-full) = (led.hunts refl, full)
  placed_led (stores at one fine room) = (filled at one room, length-set rec.msg.octets (rec.msg.len % 64) (octet_of past) ∙ full)
  placed_led (cut_short some is_zero) = (by_hunted rec.msg (hunted_as rec.ear.past bit), full)
  placed_led (inside_end some few one) = (
    in_end led-there some
        (λ kind n of short stands is.
        ends kind (suc n) of (omega (arith, is)) (rw (is_one one) (rw (← (replicate_more {A = ℕ} n 1)) (further 1 sofar (sequence kind (octets_of rec.msg)) (1 ∷ replicate n 1) stands))) (omega (arith, is))),
    full,
  )
  placed_led (reporting late one) = (led.hunts refl, full)

  turned_led : {to act : ℕ} → Turns rec.ear rec.msg.len bit to act → (Led heard (changed rec.msg act past) to) × (length (changed rec.msg act past).octets ≡ 64)
  unfolding changed when
  turned_led (tells_cj_lem e) = (led.hunts refl, full)
  turned_led (is_placed e p) = placed_led p

  led_on : (Led heard (heard_bit rec bit).rec.msg (heard_bit rec bit).rec.ear.place) × (length (heard_bit rec bit).rec.msg.octets ≡ 64)
  unfolding acted
  led_on = rw (heard_turned rec bit knows.range low) (turned_led (turned_as rec.ear rec.msg.len bit).by)

  -- what is reported stands on the line
  ended_there : {to act : ℕ} → Asks rec.ear.place bit to act → act ≡ report → (kind : Kind) × (IsOf kind rec.msg) × (Ends (sequence kind (octets_of rec.msg) ++ ten_ones) heard)
  ended_there (no_ask before-boundary is-nothing) asked = absurd (omega (arith, is-nothing, asked))
  ended_there (a_message at some few) asked = absurd (omega (arith, asked))
  ended_there (a_refusal late at high) asked = absurd (omega (arith, asked))
  ended_there (a_report late one at is-report) asked =
      in_end led-there (omega arith)
      (λ kind n of short stands is.
      let nine : suc n ≡ 9 = omega (arith, is) in
      (kind, of, rw (is_one one) (subst (λ (k : ℕ). Ends (sequence kind (octets_of rec.msg) ++ 1 ∷ replicate k 1) (sofar ++ 1 ∷ [])) nine (rw (← (replicate_more {A = ℕ} n 1)) (further 1 sofar (sequence kind (octets_of rec.msg)) (1 ∷ replicate n 1) stands)))))

  reported_there : {to act : ℕ} → Turns rec.ear rec.msg.len bit to act → act ≡ report → (kind : Kind) × (IsOf kind rec.msg) × (Ends (sequence kind (octets_of rec.msg) ++ ten_ones) heard)
  reported_there (tells_cj_lem e) asked = absurd (omega (arith, asked))
  reported_there (is_placed e p) asked = ended_there (asks p) asked

-- since a record was fresh
abbrev Stands : List ℕ → Listener → Type 0
Stands sofar rec = (Led sofar rec.msg rec.ear.place) × (length rec.msg.octets ≡ 64)

stands_heard : (bits : List ℕ) → Bits bits → Stands bits (once_heard fresh bits)
stands_heard = since_fresh Stands (led.hunts refl, refl) (λ sofar rec bits-sofar knows stands bit low. led_on sofar rec bits-sofar knows stands.0 stands.1 bit low)

pub led_heard : (bits : List ℕ) → Bits bits → Led bits (once_heard fresh bits).msg (once_heard fresh bits).ear.place
led_heard bits lows = (stands_heard bits lows).0

-- what is noted begins with a message
abbrev pub is_message : List Report → Bool
is_message [] = false
is_message (message kind octets flag span ∷ later) = true
is_message (cj ∷ later) = false
is_message (refusal n ∷ later) = false

-- what a bit notes where it reports a message, and that it notes none otherwise
module _ (m last : Message) (kind : Kind) (octets : List ℕ) (flag : Bool) (span : ℕ) where
  abbrev NotesIt : Told → Type 0
  NotesIt t = noted t m [] ≡ message kind octets flag span ∷ []

  report_noted : (kind' : Kind) → IsOf kind' m → NotesIt (reported m last) → (kind' ≡ kind) × (octets_of m ≡ octets) × (span_of m.len ≡ span)
  unfolding reported when
  report_noted Ci of e = let it : message Ci (octets_of m) false (span_of m.len) ∷ [] ≡ message kind octets flag span ∷ [] = sym (simp of) ∙ e in (cc, cc, cc)
  report_noted Menu of e = let it : message Menu (octets_of m) (agreed m last) (span_of m.len) ∷ [] ≡ message kind octets flag span ∷ [] = sym (simp of) ∙ e in (cc, cc, cc)

  none_noted : (act : ℕ) → NotesIt (told_alone act) → ⊥
  unfolding told_alone
  none_noted act =
      let Not : Told → Type 0 = λ (t : Told). NotesIt t → ⊥ in
      either_way Not (ltb act report) silence _ (λ _ e. clash (ap is_message (sym e)))
      (λ _. either_way Not (eqb act tell_cj) telling.cj _ (λ _ e. clash (ap is_message (sym e))) (λ _ e. clash (ap is_message (sym e))))

module _ (sofar : List ℕ) (bits-sofar : Bits sofar) (bit : ℕ) (low : bit < 2) (kind : Kind) (octets : List ℕ) (flag : Bool) (span : ℕ) where
  abbrev rec : Listener
  rec = once_heard fresh sofar

  abbrev turn : TurnedAs rec.ear rec.msg.len bit
  turn = turned_as rec.ear rec.msg.len bit

  -- its bits, with ten 1s before and behind them, and its span
  abbrev Stood : Type 0
  Stood = Ends (sequence kind octets ++ ten_ones) (sofar ++ bit ∷ []) × (span ≡ span_of (length octets))

  by_act : (is : Bool) → eqb turn.act report ≡ is → noted (told turn.act rec.msg rec.last) (changed rec.msg turn.act (pushed rec.ear.past bit)) [] ≡ message kind octets flag span ∷ [] → Stood
  unfolding changed when
  by_act true e notes =
      let asked = eqb-true turn.act report e in
      let stands = stands_heard sofar bits-sofar in
      let there = reported_there sofar rec bits-sofar (knows_heard sofar bits-sofar) stands.0 stands.1 bit low turn.by asked in
      let same = report_noted rec.msg rec.last kind octets flag span there.0 there.1 (sym (ap₂ (λ (t : Told) (act : ℕ). noted t (changed rec.msg act (pushed rec.ear.past bit)) []) (told_report turn.act rec.msg rec.last asked) asked) ∙ notes) in
      let size : length (octets_of rec.msg) ≡ rec.msg.len = length-take-le rec.msg.len rec.msg.octets (omega (arith, stands.1, (range_fits rec (knows_heard sofar bits-sofar).range).msg.len)) in
      (rw (← same.0, ← same.1) there.2, sym same.2 ∙ ap span_of (sym size ∙ ap length same.1))
  by_act false e notes = absurd (none_noted _ rec.last kind octets flag span turn.act (ap (λ (t : Told). noted t (changed rec.msg turn.act (pushed rec.ear.past bit)) []) (sym (told_other turn.act rec.msg rec.last (eqb-false turn.act report e))) ∙ notes))

  pub reported_stands : noted (heard_bit (once_heard fresh sofar) bit).report (heard_bit (once_heard fresh sofar) bit).rec.msg [] ≡ message kind octets flag span ∷ []
      → Ends (sequence kind octets ++ ten_ones) (sofar ++ bit ∷ []) × (span ≡ span_of (length octets))
  unfolding acted
  reported_stands notes = by_act (eqb turn.act report) refl (ap (λ (o : HearOutcome). noted o.report o.rec.msg []) (sym (heard_turned rec bit (knows_heard sofar bits-sofar).range low)) ∙ notes)

-- the last ten bits, by their number and by themselves
module _ (bits : List ℕ) (lows : Bits bits) where
  pub ten_ends : (word : List ℕ) → length word ≡ 10 → Ends word bits → last_ten (once_heard fresh bits).ear.past ≡ value word
  ten_ends word ten e = ap last_ten (knows_heard bits lows).past ∙ (ends_number [] word bits lows ten e).0

  pub ends_ten : (word : List ℕ) → Bits word → length word ≡ 10 → 10 ≤ length bits → last_ten (once_heard fresh bits).ear.past ≡ value word → Ends word bits
  ends_ten word word-bits ten long number =
      let last = drop (length bits - 10) bits in
      let parted : Ends last bits = (take (length bits - 10) bits, take-append-drop (length bits - 10) bits) in
      let size : length last ≡ 10 = omega (arith, length-drop (length bits - 10) bits) in
      rw (← (same_bits last word (each_drop (length bits - 10) bits lows) word-bits (size ∙ sym ten) (sym (ten_ends last size parted) ∙ number))) parted

  pub ends_ones : last_ten (once_heard fresh bits).ear.past ≡ value ten_ones → Ends ten_ones bits
  ends_ones number = ones_heard bits lows (ap last_ten (sym (knows_heard bits lows).past) ∙ number)

  -- the eight bits before the last
  pub octet_ends : (data' : List ℕ) (stop : ℕ) → length data' ≡ 8 → Ends (data' ++ stop ∷ []) bits → octet_of (once_heard fresh bits).ear.past ≡ value data'
  octet_ends data' stop eight e =
      let early = e.0 in
      let parted : early ++ data' ++ stop ∷ [] ≡ bits = append_assoc early data' (stop ∷ []) ∙ e.1 in
      let early_bits : Bits early = each_left early (data' ++ stop ∷ []) (rw e.1 lows) in
      let data-bits : Bits data' = each_left data' (stop ∷ []) (each_right early (data' ++ stop ∷ []) (rw e.1 lows)) in
      let past = hearing 0 early in
      let nine : length (data' ++ stop ∷ []) ≡ 9 = length-append data' (stop ∷ []) ∙ ap (λ (n : ℕ). n + 1) eight in
      let number : hearing past (data' ++ stop ∷ []) ≡ past / 2 ^ 9 + value (data' ++ stop ∷ []) * 2 ^ 23 =
      hearing_number (data' ++ stop ∷ []) past (2 ^ 23) (ap (λ (n : ℕ). 2 ^ 23 * 2 ^ n) nine) ∙ ap (λ (n : ℕ). past / 2 ^ n + value (data' ++ stop ∷ []) * 2 ^ 23) nine in
      let heard : (once_heard fresh bits).ear.past ≡ hearing past (data' ++ stop ∷ []) = (knows_heard bits lows).past ∙ ap (hearing 0) (sym e.1) ∙ hearing_append 0 early (data' ++ stop ∷ []) in
      let top : value (data' ++ stop ∷ []) ≡ value data' + stop * 256 = value_behind data' stop ∙ ap (λ (n : ℕ). value data' + stop * 2 ^ n) eight in
      let small : value data' < 256 = subst (λ (n : ℕ). value data' < 2 ^ n) eight (value_low data' data-bits) in
      let past-small = hearing_small 0 early (lit< tt) early_bits in
      ap octet_of (heard ∙ number) ∙ omega (arith, top, small, past-small)
