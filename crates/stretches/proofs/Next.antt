-- What the next bit brings, by the bits heard so far. CJ comes to its end only while hunting or at the stop position: at any other place a 1 stands
-- too near before the bit, or ten 1s do. So elsewhere the place alone decides.
-- Assumes nothing.
use Prim.Native.Nat.{ℕ, ◌<◌, ◌≤◌, ◌+◌}
use native.Mathlib.Omega.{arith}
use mathlib.Core.Path.{◌≡◌, refl, sym, ap, ◌∙◌}
use mathlib.Core.Bool.{Bool, true, false}
use mathlib.Core.List.{List, [], ◌∷◌, ◌++◌, append_assoc, append-nil}
use borrow.Author.Tests.{lt-ltb, le-ltb, ne_eqb}
use lib.Dec.{eqb, lit<}
use lib.ListN.{length, take, replicate, length-append}
use Rattle.laws.specs.Logic.{when}
use Rattle.octets.specs.declared.Kind.{Kind}
use Rattle.octets.specs.declared.Kind.TheVariants.{Ci, Menu}
use Rattle.octets.specs.Octets.{bad}
use Rattle.sequences.specs.Line.{framed, framed_all, ten_ones, sync, sequence, cj}
use Rattle.framing.specs.Framing.{value, pushed, more, last_ten, octet_of, is_cj, hunting, in_sync, last_of_sync, boundary, in_octet, stop_position, ending_ones, last_of_ending, nothing, store, report, tell_cj, refusal_act, refusal_in, go, hunted, synced, bounded, stopped, ended, placed, turned}
use Rattle.framing.proofs.Places.{Hunted, goes_by, starts, hunted_as, start_of, turning}
use Rattle.listening.specs.declared.Listener.{Listener}
use Rattle.listening.specs.declared.Message.{Message}
use Rattle.listening.specs.Hearing as telling
use Rattle.listening.specs.Hearing.{Told, silence, refusal, HearOutcome, octets_of, started, stored, changed, reported, told, told_alone, acted, heard_in, heard_bit}
use Rattle.listening.specs.Record.{fresh}
use Rattle.listening.proofs.Ranges.{heard_inside}
use Rattle.stretches.specs.Stretch.{Ends}
use Rattle.stretches.specs.Hearing.{once_heard}
use Rattle.stretches.specs.Heard.{coded, Led, syncs, bounds, fills, ends, Brings}
use Rattle.stretches.specs.Heard as led
use Rattle.stretches.proofs.Each.{none, more as also, each_append, Bits, replicate_more}
use Rattle.stretches.proofs.Sequences.{hunted_on, synced_as, sync_bits}
use Rattle.stretches.proofs.Heard.{Knows, knows_heard, past_on, ends_is_cj, no_cj_there}
use Rattle.stretches.proofs.Led.{sync_length, in_sync_lem, ends_ten, further, one_further, ends_number, led_heard, ten_ends, octet_ends, ends_ones}
use Rattle.stretches.proofs.Endings.{not_both, not_behind_one, not_in_zero}

-- a 1 ends every sequence
ends_behind : (a w b : List ℕ) → Ends w b → Ends w (a ++ b)
ends_behind a w b e = (a ++ e.0, append_assoc a e.0 w ∙ ap (λ (l : List ℕ). a ++ l) e.1)

abbrev EndsInOne : List ℕ → Type 0
EndsInOne = Ends (1 ∷ [])

frame_ends : (b : ℕ) → EndsInOne (framed b)
unfolding framed
frame_ends b = (take 9 (framed b), refl)

octets_end : (b : ℕ) (bs : List ℕ) → EndsInOne (framed_all (b ∷ bs))
unfolding framed_all
octets_end b [] = rw append-nil (frame_ends b)
octets_end b (c ∷ bs) = ends_behind (framed b) (1 ∷ []) (framed_all (c ∷ bs)) (octets_end c bs)

opening_ends : (kind : Kind) → EndsInOne (ten_ones ++ sync kind)
opening_ends Ci = (take 19 (ten_ones ++ sync Ci), refl)
opening_ends Menu = (take 19 (ten_ones ++ sync Menu), refl)

sequence_ends : (kind : Kind) (octets : List ℕ) → EndsInOne (sequence kind octets)
unfolding sequence framed_all
sequence_ends kind [] = rw append-nil (opening_ends kind)
sequence_ends kind (b ∷ bs) = ends_behind (ten_ones ++ sync kind) (1 ∷ []) (framed_all (b ∷ bs)) (octets_end b bs)

ones_end : (n : ℕ) → EndsInOne (1 ∷ replicate n 1)
ones_end n = (replicate n 1, replicate_more {A = ℕ} n 1)

-- a 1 before a word
with_one : (a w bits : List ℕ) → EndsInOne a → Ends (a ++ w) bits → Ends (1 ∷ w) bits
with_one a w bits one e =
    (e.0 ++ one.0, append_assoc e.0 one.0 (1 ∷ w) ∙ ap (λ (l : List ℕ). e.0 ++ l) (sym (append_assoc one.0 (1 ∷ []) w) ∙ ap (λ (l : List ℕ). l ++ w) one.1) ∙ e.1)

-- where CJ comes to its end
no_cj_inside : (bits : List ℕ) (m : Message) (place bit : ℕ) → Led bits m place → (place ≡ hunting → ⊥) → (place ≡ stop_position → ⊥) → Ends cj (bits ++ bit ∷ []) → ⊥
no_cj_inside bits m place bit (led.hunts is) not-hunting not-stop e = not-hunting is
no_cj_inside bits m place bit (syncs later short stands is) not-hunting not-stop e =
    not_both (0 ∷ (later ++ bit ∷ [])) (bits ++ bit ∷ []) (omega (arith, length-append later (bit ∷ []))) e (further bit bits ten_ones (0 ∷ later) stands)
no_cj_inside bits m place bit (bounds kind of stands is) not-hunting not-stop e =
    let line = sequence kind (octets_of m) in
    not_behind_one (bit ∷ []) (bits ++ bit ∷ []) (omega arith) (omega arith) e (with_one line (bit ∷ []) (bits ++ bit ∷ []) (sequence_ends kind (octets_of m)) (one_further bit bits line stands))
no_cj_inside bits m place bit (fills kind data' of short stands is) not-hunting not-stop e =
    let line = sequence kind (octets_of m) in
    let longer = length-append data' (bit ∷ []) in
    let not_eight : length data' ≡ 8 → ⊥ = λ eight. not-stop (is ∙ ap (λ (n : ℕ). in_octet + n) eight) in
    let few : length data' < 8 = omega (arith, not_eight) in
    not_behind_one (0 ∷ (data' ++ bit ∷ [])) (bits ++ bit ∷ []) (omega arith) (omega (arith, longer, few)) e (with_one line (0 ∷ (data' ++ bit ∷ [])) (bits ++ bit ∷ []) (sequence_ends kind (octets_of m)) (further bit bits line (0 ∷ data') stands))
no_cj_inside bits m place bit (ends kind n of short stands is) not-hunting not-stop e =
    let line = sequence kind (octets_of m) ++ 1 ∷ replicate n 1 in
    not_behind_one (bit ∷ []) (bits ++ bit ∷ []) (omega arith) (omega arith) e
    (with_one line (bit ∷ []) (bits ++ bit ∷ []) (ends_behind (sequence kind (octets_of m)) (1 ∷ []) (1 ∷ replicate n 1) (ones_end n)) (one_further bit bits line stands))

-- a sync was heard behind ten 1s
sync_long : (bits : List ℕ) (m : Message) (place bit : ℕ) → Led bits m place → place ≡ last_of_sync → 10 ≤ length (bits ++ bit ∷ [])
sync_long bits m place bit there here =
    in_sync_lem there (omega (arith, here)) (omega (arith, here))
    (λ later short stands is. omega (arith, ap length stands.1, length-append stands.0 (ten_ones ++ 0 ∷ later), length-append ten_ones (0 ∷ later), length-append bits (bit ∷ []), is, here))

-- the place of a bit, forward
module _ (place before past len bit : ℕ) where
  at_ending : stop_position < place → placed place before past len bit ≡ ended place before bit
  unfolding placed when
  at_ending late =
      simp (ne_eqb place 0 (λ e. omega (arith, e)), le-ltb place last_of_sync (omega arith), ne_eqb place last_of_sync (λ e. omega (arith, e)), ne_eqb place boundary (λ e. omega (arith, e)), le-ltb place stop_position (omega arith), ne_eqb place stop_position (λ e. omega (arith, e)))

  at_inside_sync : 0 < place → place < last_of_sync → placed place before past len bit ≡ go (place + 1) nothing
  unfolding placed when
  at_inside_sync some few = simp (ne_eqb place 0 (λ e. omega (arith, e)), lt-ltb place last_of_sync few)

  at_last_of_sync : place ≡ last_of_sync → ((kind : Kind) → last_ten past ≡ value (sync kind) → ⊥) → placed place before past len bit ≡ go hunting nothing
  unfolding placed synced when
  at_last_of_sync at other = simp (at, ne_eqb _ _ (other Ci), ne_eqb _ _ (other Menu))

  at_octet : boundary < place → place < stop_position → placed place before past len bit ≡ go (place + 1) nothing
  unfolding placed when
  at_octet some few =
      simp (ne_eqb place 0 (λ e. omega (arith, e)), le-ltb place last_of_sync (omega arith), ne_eqb place last_of_sync (λ e. omega (arith, e)), ne_eqb place boundary (λ e. omega (arith, e)), lt-ltb place stop_position few)

-- the next bit
module _ (bits : List ℕ) (lows : Bits bits) where
  abbrev rec : Listener
  rec = once_heard fresh bits

  knows : Knows bits rec
  knows = knows_heard bits lows

  abbrev at : ℕ
  at = rec.ear.place

  abbrev Brought : ℕ → Told → ℕ → Message → Type 0
  Brought bit t next m = Brings (once_heard fresh bits) bit t next m (once_heard fresh bits).last

  module _ (bit : ℕ) (low : bit < 2) where
    abbrev tests_cj : Bool
    tests_cj = is_cj (pushed rec.ear.past bit) (more rec.ear.heard)

    brings : (to act : ℕ) → heard_bit rec bit ≡ acted rec (turning rec.ear bit to act) → Brings rec bit (told act rec.msg rec.last) to (changed rec.msg act (pushed rec.ear.past bit)) (when (eqb act report) rec.msg rec.last)
    unfolding acted
    brings to act is = record { told = ap (λ (o : HearOutcome). o.report) is; place = ap (λ (o : HearOutcome). o.rec.ear.place) is; msg = ap (λ (o : HearOutcome). o.rec.msg) is; last = ap (λ (o : HearOutcome). o.rec.last) is }

    by_place : (to act : ℕ) → tests_cj ≡ false → placed at rec.ear.past (pushed rec.ear.past bit) rec.msg.len bit ≡ go to act → heard_bit rec bit ≡ acted rec (turning rec.ear bit to act)
    unfolding heard_in turned when
    by_place to act no_cj there = heard_inside rec bit knows.range ∙ simp (le-ltb 1 bit (omega arith), no_cj, there)

    by_cj_lem : tests_cj ≡ true → heard_bit rec bit ≡ acted rec (turning rec.ear bit hunting tell_cj)
    unfolding heard_in turned when
    by_cj_lem is_cj_lem = heard_inside rec bit knows.range ∙ simp (le-ltb 1 bit (omega arith), is_cj_lem)

    no_cj : (Ends cj (bits ++ bit ∷ []) → ⊥) → tests_cj ≡ false
    no_cj = no_cj_there bits rec knows lows bit low

    no_cj_here : (at ≡ hunting → ⊥) → (at ≡ stop_position → ⊥) → tests_cj ≡ false
    no_cj_here not-hunting not-stop = no_cj (no_cj_inside bits rec.msg at bit (led_heard bits lows) not-hunting not-stop)

    quietly : (to : ℕ) → tests_cj ≡ false → placed at rec.ear.past (pushed rec.ear.past bit) rec.msg.len bit ≡ go to nothing → Brought bit silence to rec.msg
    unfolding told told_alone changed when
    quietly to not_cj there = brings to nothing (by_place to nothing not_cj there)

    -- "CJ is reported whenever the last 30 heard bits are CJ"; hunting is next in any case
    pub brings_cj : Ends cj (bits ++ bit ∷ []) → Brings (once_heard fresh bits) bit telling.cj hunting (once_heard fresh bits).msg (once_heard fresh bits).last
    unfolding told told_alone changed when
    brings_cj e = brings hunting tell_cj (by_cj_lem (ends_is_cj bits rec knows lows bit low e))

    -- inside a sync, and inside an octet
    pub inside_sync_lem : 0 < at → at < last_of_sync → Brings (once_heard fresh bits) bit silence ((once_heard fresh bits).ear.place + 1) (once_heard fresh bits).msg (once_heard fresh bits).last
    inside_sync_lem some few = quietly (at + 1) (no_cj_here (λ e. omega (arith, e)) (λ e. omega (arith, e))) (at_inside_sync at _ _ _ bit some few)

    -- "Any other sync is passed over and hunting resumes."
    pub sync_passed : at ≡ last_of_sync → ((kind : Kind) → Ends (sync kind) (bits ++ bit ∷ []) → ⊥) → Brings (once_heard fresh bits) bit silence hunting (once_heard fresh bits).msg (once_heard fresh bits).last
    sync_passed here other =
        let heard = bits ++ bit ∷ [] in
        let whole : Bits heard = each_append lows (also low none) in
        let long : 10 ≤ length heard = sync_long bits rec.msg at bit (led_heard bits lows) here in
        quietly hunting (no_cj_here (λ e. omega (arith, here, e)) (λ e. omega (arith, here, e)))
        (at_last_of_sync at _ _ _ bit here
        (λ kind word. other kind (ends_ten heard whole (sync kind) (sync_bits kind) (sync_length kind) long (ap last_ten ((knows_heard heard whole).past ∙ sym (past_on bits rec knows bit low)) ∙ word))))

    pub inside_octet_lem : boundary < at → at < stop_position → Brings (once_heard fresh bits) bit silence ((once_heard fresh bits).ear.place + 1) (once_heard fresh bits).msg (once_heard fresh bits).last
    inside_octet_lem some few = quietly (at + 1) (no_cj_here (λ e. omega (arith, e)) (λ e. omega (arith, e))) (at_octet at _ _ _ bit some few)

    -- while hunting
    pub hunts_on : at ≡ hunting → (Ends cj (bits ++ bit ∷ []) → ⊥) → (bit ≡ 0 → Ends ten_ones bits → ⊥) → Brings (once_heard fresh bits) bit silence hunting (once_heard fresh bits).msg (once_heard fresh bits).last
    unfolding placed when
    hunts_on here not_cj unstarted =
        quietly hunting (no_cj not_cj) (simp (here, by_hunted (hunted_as rec.ear.past bit)))
      where
        by_hunted : {to : ℕ} → Hunted rec.ear.past bit to → to ≡ hunting
        by_hunted goes_by = refl
        by_hunted (starts is_zero ones) = absurd (unstarted is_zero (ends_ones bits lows ones))

    -- "If the ten bits from there are the CI or menu sync, octets follow and the stored octets start empty."
    pub sync_accepted : (kind : Kind) → at ≡ last_of_sync → Ends (sync kind) (bits ++ bit ∷ []) → Brings (once_heard fresh bits) bit silence boundary (started (once_heard fresh bits).msg (coded kind)) (once_heard fresh bits).last
    unfolding placed told told_alone changed when
    sync_accepted kind here e = by_kind kind (ap last_ten (past_on bits rec knows bit low) ∙ (ends_number [] (sync kind) (bits ++ bit ∷ []) (each_append lows (also low none)) (sync_length kind) e).0)
      where
        not_cj : tests_cj ≡ false
        not_cj = no_cj_here (λ z. omega (arith, here, z)) (λ z. omega (arith, here, z))

        by_kind : (k : Kind) → last_ten (pushed rec.ear.past bit) ≡ value (sync k) → Brought bit silence boundary (started rec.msg (coded k))
        by_kind Ci word = brings boundary (start_of Ci) (by_place boundary (start_of Ci) not_cj (simp (here, synced_as Ci (pushed rec.ear.past bit) word)))
        by_kind Menu word = brings boundary (start_of Menu) (by_place boundary (start_of Menu) not_cj (simp (here, synced_as Menu (pushed rec.ear.past bit) word)))

  -- "A 0 whose ten preceding heard bits are all 1 starts a sync."
  pub sync_opens : at ≡ hunting → Ends ten_ones bits → Brings (once_heard fresh bits) 0 silence in_sync (once_heard fresh bits).msg (once_heard fresh bits).last
  unfolding placed when
  sync_opens here ones = quietly 0 (lit< tt) in_sync (no_cj 0 (lit< tt) (not_in_zero bits)) (simp (here, hunted_on rec.ear.past (ten_ends bits lows ten_ones refl ones)))

  -- "At an octet boundary, 0 starts an octet and 1 ends the sequence."
  module _ (here : at ≡ boundary) where
    not_cj : (bit : ℕ) (low : bit < 2) → tests_cj bit low ≡ false
    not_cj bit low = no_cj_here bit low (λ z. omega (arith, here, z)) (λ z. omega (arith, here, z))

    pub octet_starts : Brings (once_heard fresh bits) 0 silence in_octet (once_heard fresh bits).msg (once_heard fresh bits).last
    unfolding placed bounded when
    octet_starts = quietly 0 (lit< tt) in_octet (not_cj 0 (lit< tt)) (simp here)

    pub sequence_stops : Brings (once_heard fresh bits) 1 silence ending_ones (once_heard fresh bits).msg (once_heard fresh bits).last
    unfolding placed bounded when
    sequence_stops = quietly 1 (lit< tt) ending_ones (not_cj 1 (lit< tt)) (simp here)

  -- the stop position
  module _ (here : at ≡ stop_position) where
    pub stop_bit_zero : Brings (once_heard fresh bits) 0 (refusal 2) hunting (once_heard fresh bits).msg (once_heard fresh bits).last
    unfolding placed stopped told told_alone refusal_in changed when
    stop_bit_zero = brings 0 (lit< tt) hunting (refusal_act 2) (by_place 0 (lit< tt) hunting (refusal_act 2) (no_cj 0 (lit< tt) (not_in_zero bits)) (simp here))

    module _ (not_cj : Ends cj (bits ++ 1 ∷ []) → ⊥) (data' : List ℕ) (eight : length data' ≡ 8) (stands : Ends data' bits) where
      octet : octet_of (pushed rec.ear.past 1) ≡ value data'
      octet =
          let whole : Bits (bits ++ 1 ∷ []) = each_append lows (also (lit< tt) none) in
          ap octet_of (past_on bits rec knows 1 (lit< tt) ∙ sym (knows_heard (bits ++ 1 ∷ []) whole).past) ∙ octet_ends (bits ++ 1 ∷ []) whole data' 1 eight (one_further 1 bits data' stands)

      pub octet_bad : bad (value data') ≡ true → Brings (once_heard fresh bits) 1 (refusal 3) hunting (once_heard fresh bits).msg (once_heard fresh bits).last
      unfolding placed stopped told told_alone refusal_in changed when
      octet_bad is-bad = brings 1 (lit< tt) hunting (refusal_act 3) (by_place 1 (lit< tt) hunting (refusal_act 3) (no_cj 1 (lit< tt) not_cj) (simp (here, octet, is-bad)))

      module _ (fine : bad (value data') ≡ false) where
        pub octet_too_many : (once_heard fresh bits).msg.len ≡ 64 → Brings (once_heard fresh bits) 1 (refusal 4) hunting (once_heard fresh bits).msg (once_heard fresh bits).last
        unfolding placed stopped told told_alone refusal_in changed when
        octet_too_many full = brings 1 (lit< tt) hunting (refusal_act 4) (by_place 1 (lit< tt) hunting (refusal_act 4) (no_cj 1 (lit< tt) not_cj) (simp (here, octet, fine, full)))

        pub octet_stored : ((once_heard fresh bits).msg.len ≡ 64 → ⊥) → Brings (once_heard fresh bits) 1 silence boundary (stored (once_heard fresh bits).msg (value data')) (once_heard fresh bits).last
        unfolding placed stopped told told_alone changed when
        octet_stored room = rw (← octet) (brings 1 (lit< tt) boundary store (by_place 1 (lit< tt) boundary store (no_cj 1 (lit< tt) not_cj) (simp (here, octet, fine, ne_eqb _ _ room))))

  -- behind the boundary's 1
  module _ (late : stop_position < at) where
    free : (bit : ℕ) (low : bit < 2) → tests_cj bit low ≡ false
    free bit low = no_cj_here bit low (λ z. omega (arith, z)) (λ z. omega (arith, z))

    cut_to : (to : ℕ) → hunted rec.ear.past 0 ≡ to → Brought 0 (refusal 13) to rec.msg
    unfolding ended told told_alone refusal_in changed when
    cut_to to there = brings 0 (lit< tt) to (refusal_act 13) (by_place 0 (lit< tt) to (refusal_act 13) (free 0 (lit< tt)) (at_ending at _ _ _ 0 late ∙ ap (λ (place : ℕ). go place (refusal_act 13)) there))

    pub cut_short : (Ends ten_ones bits → ⊥) → Brings (once_heard fresh bits) 0 (refusal 13) hunting (once_heard fresh bits).msg (once_heard fresh bits).last
    cut_short no_ones = cut_to hunting (by_hunted (hunted_as rec.ear.past 0))
      where
        by_hunted : {to : ℕ} → Hunted rec.ear.past 0 to → to ≡ hunting
        by_hunted goes_by = refl
        by_hunted (starts is_zero ones) = absurd (no_ones (ends_ones bits lows ones))

    pub cut_short_by_a_sync : Ends ten_ones bits → Brings (once_heard fresh bits) 0 (refusal 13) in_sync (once_heard fresh bits).msg (once_heard fresh bits).last
    cut_short_by_a_sync ones = cut_to in_sync (hunted_on rec.ear.past (ten_ends bits lows ten_ones refl ones))

    pub one_more_one : at < last_of_ending → Brings (once_heard fresh bits) 1 silence ((once_heard fresh bits).ear.place + 1) (once_heard fresh bits).msg (once_heard fresh bits).last
    unfolding ended when
    one_more_one few = quietly 1 (lit< tt) (at + 1) (free 1 (lit< tt)) (at_ending at _ _ _ 1 late ∙ simp (lt-ltb at last_of_ending few))

    pub tenth_one : at ≡ last_of_ending → Brings (once_heard fresh bits) 1 (reported (once_heard fresh bits).msg (once_heard fresh bits).last) hunting (once_heard fresh bits).msg (once_heard fresh bits).msg
    unfolding ended told changed when
    tenth_one here = brings 1 (lit< tt) hunting report (by_place 1 (lit< tt) hunting report (free 1 (lit< tt)) (at_ending at _ _ _ 1 late ∙ simp here))
