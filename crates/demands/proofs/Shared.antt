-- The choice from two menus is what its tests let pass: the lowest item, looked for from 1 on, that both menus have, or options that pair
-- bit by bit, or none. And it is the only one: what each choice says of the menus decides every test.
-- Assumes nothing.
use Prim.Native.Nat.{ℕ, zero, suc, ◌<◌, ◌≤◌, ◌+◌, ◌*◌}
use native.Mathlib.Nat.{eq-or-lt_of_le}
use native.Mathlib.Omega.{arith}
use mathlib.Core.Path.{◌≡◌, refl, sym, ap, ◌∙◌}
use mathlib.Core.Bool.{Bool, true, false}
use mathlib.Core.List.{List}
use mathlib.Core.Logic.{◌⊎◌, inl, inr, ⊎_elim}
use borrow.Author.Tests.{lt-ltb, ltb-true, ltb-false, eq-eqb, ne_eqb, eqb-true, eqb-false}
use lib.Dec.{ltb, eqb, eqb→eq, lit<}
use Rattle.laws.specs.Logic.{when, both}
use Rattle.laws.specs.Tests.{all_below}
use Rattle.laws.proofs.Logic.{either_way, both_true, clash}
use Rattle.laws.proofs.Computed.{below}
use Rattle.octets.specs.declared.Purpose.TheVariants.{Reading}
use Rattle.octets.specs.Lists.{list_fault}
use Rattle.items.specs.Items.{in_set, has_item, modulation}
use Rattle.items.proofs.Sets.{set_has}
use Rattle.menus.specs.Groups.{group_of}
use Rattle.menus.specs.declared.Offer.{Offer}
use Rattle.menus.specs.Offer.{Read, offers, offer_of, menu_read}
use Rattle.menus.specs.Offer as reading
use Rattle.menus.specs.Pcm.{analogue, digital, v91, paired}
use Rattle.choices.specs.Choosing.{Chosen, none, item, pcm, refusal, lowest, lowest_from, pcm_choice, item_choice, chosen_from, on_read, choice_for, choice_of}
use Rattle.menus.proofs.Pcm.{both_small, paired_small}
use Rattle.menus.proofs.Reading.{menu_read_lem}
use Rattle.demands.specs.Joint.{has}
use Rattle.demands.specs.Shared.{Readable, LowestItem, NothingOffered, SharedItem, SharedPcm, NotShared, cm_unread, jm_unread, item_missing, none_pairs, Shared, ChoiceIsShared}

-- a menu has the items that reading it gives
pub has_read : (menu : List ℕ) (i : ℕ) → i < 13 → has menu i ≡ in_set (offer_of menu).items i
has_read menu i h = sym (set_has (has_item (group_of menu modulation)) 13 i h)

-- the lowest item, where there is one, is in the set and below the end of what was looked at
lowest_in : (items i n : ℕ) → 0 < lowest_from items i n → (in_set items (lowest_from items i n) ≡ true) × (lowest_from items i n < i + n)
unfolding lowest_from
lowest_in items i zero = λ h. absurd (omega (arith, h))
lowest_in items i (suc n) =
    either_way (λ (r : ℕ). 0 < r → (in_set items r ≡ true) × (r < i + suc n)) (in_set items i) i (lowest_from items (i + 1) n)
    (λ t h. (t, omega arith))
    (λ t h. let rest = lowest_in items (i + 1) n h in (rest.0, omega (arith, rest.1)))

-- three bits are found again in the number that they make
parts : (x y z : ℕ) → x < 2 → y < 2 → z < 2 → (analogue (x + 2 * y + 4 * z) ≡ x) × (digital (x + 2 * y + 4 * z) ≡ y) × (v91 (x + 2 * y + 4 * z) ≡ z)
parts x y z p q r = (omega (arith, p, q, r), omega (arith, p, q, r), omega (arith, p, q, r))

-- the bits of the options that pair
pub crosswise : (cm jm : ℕ) → (analogue (paired cm jm) ≡ analogue jm * digital cm) × (digital (paired cm jm) ≡ digital jm * analogue cm) × (v91 (paired cm jm) ≡ v91 jm * v91 cm)
unfolding paired
crosswise cm jm =
    parts (analogue jm * digital cm) (digital jm * analogue cm) (v91 jm * v91 cm)
    (both_small (analogue jm) (digital cm) (omega arith) (omega arith))
    (both_small (digital jm) (analogue cm) (omega arith) (omega arith))
    (both_small (v91 jm) (v91 cm) (omega arith) (omega arith))

-- none below it is
below_lowest : (items i n k : ℕ) → i ≤ k → k < lowest_from items i n → in_set items k ≡ false
unfolding lowest_from
below_lowest items i zero k from = λ h. absurd (omega (arith, h))
below_lowest items i (suc n) k from =
    either_way (λ (r : ℕ). k < r → in_set items k ≡ false) (in_set items i) i (lowest_from items (i + 1) n)
    (λ _ h. absurd (omega (arith, from, h)))
    (λ t h. ⊎_elim (λ same. ap (in_set items) (sym same) ∙ t) (λ more. below_lowest items (i + 1) n k (omega (arith, more)) h) (eq-or-lt_of_le from))

-- there is a lowest item exactly where there is one
none_below : (items i n k : ℕ) → 0 < i → lowest_from items i n ≡ 0 → i ≤ k → k < i + n → in_set items k ≡ false
unfolding lowest_from
none_below items i zero k low e h l = absurd (omega (arith, h, l))
none_below items i (suc n) k low e h l =
    either_way (λ (r : ℕ). r ≡ 0 → in_set items k ≡ false) (in_set items i) i (lowest_from items (i + 1) n)
    (λ _ z. absurd (omega (arith, low, z)))
    (λ t z. ⊎_elim (λ same. ap (in_set items) (sym same) ∙ t) (λ more. none_below items (i + 1) n k (omega arith) z (omega (arith, more)) (omega (arith, l))) (eq-or-lt_of_le h)) e

none_lowest : (items i n : ℕ) → ((k : ℕ) → i ≤ k → k < i + n → in_set items k ≡ false) → lowest_from items i n ≡ 0
unfolding lowest_from when
none_lowest items i zero h = refl
none_lowest items i (suc n) h = simp (h i (omega arith) (omega arith)) (none_lowest items (i + 1) n (λ k a b. h k (omega (arith, a)) (omega (arith, b))))

-- an item with none below it is the lowest
lowest_is : (items i n k : ℕ) → i ≤ k → k < i + n → in_set items k ≡ true → ((j : ℕ) → i ≤ j → j < k → in_set items j ≡ false) → lowest_from items i n ≡ k
unfolding lowest_from when
lowest_is items i zero k from to there none-lower = absurd (omega (arith, from, to))
lowest_is items i (suc n) k from to there none-lower =
    ⊎_elim (λ same. let first : in_set items i ≡ true = ap (in_set items) same ∙ there in simp first same)
    (λ more. simp (none-lower i (omega arith) more) (lowest_is items (i + 1) n k (omega (arith, more)) (omega (arith, to)) there (λ j a b. none-lower j (omega (arith, a)) b)))
    (eq-or-lt_of_le from)

-- options are known by their bits
of_bits : (a : ℕ) → a < 8 → a ≡ analogue a + 2 * digital a + 4 * v91 a
unfolding all_below both
of_bits a h = eqb→eq a _ (below (λ (n : ℕ). eqb n (analogue n + 2 * digital n + 4 * v91 n)) 8 tt a h)

pub by_bits : (a b : ℕ) → a < 8 → b < 8 → analogue a ≡ analogue b → digital a ≡ digital b → v91 a ≡ v91 b → a ≡ b
by_bits a b p q x y z = of_bits a p ∙ omega (arith, x, y, z) ∙ sym (of_bits b q)

-- a menu is read, or gives its refusal
read_case : (menu : List ℕ) (P : Read → Type 0) → (list_fault Reading menu ≡ 0 → P (offers (offer_of menu))) → ((list_fault Reading menu ≡ 0 → ⊥) → P (reading.refusal (list_fault Reading menu))) → P (menu_read menu)
unfolding menu_read
read_case menu P read unread = either_way P _ _ _ (λ t. read (eqb-true _ _ t)) (λ t. unread (eqb-false _ _ t))

-- the choice from menus that can be read
chosen_from_lem : (cm jm : List ℕ) → list_fault Reading cm ≡ 0 → list_fault Reading jm ≡ 0 → choice_of cm jm ≡ chosen_from (offer_of cm) (offer_of jm)
chosen_from_lem cm jm asked answered =
    ap (λ (r : Read). on_read r (λ offer. choice_for jm offer)) (menu_read_lem cm asked) ∙ ap (λ (r : Read). on_read r (λ offer. chosen_from (offer_of cm) offer)) (menu_read_lem jm answered)

-- one of two tests fails
one_fails : (a b : Bool) → both a b ≡ false → (a ≡ false) ⊎ (b ≡ false)
unfolding both
one_fails true b h = inr h
one_fails false b h = inl refl

fails : (a b : Bool) → (a ≡ false) ⊎ (b ≡ false) → both a b ≡ false
unfolding both
fails true b h = ⊎_elim (λ e. clash e) (λ e. e) h
fails false b h = refl

module _ (cm jm : List ℕ) (readable : Readable cm jm) where
  abbrev asks : Offer
  asks = offer_of cm

  abbrev answers : Offer
  answers = offer_of jm

  abbrev same : Bool
  same = eqb asks.function answers.function

  pcm_shared : ltb 0 answers.pcm ≡ true → Shared cm jm (pcm_choice same (paired asks.pcm answers.pcm))
  unfolding pcm_choice
  pcm_shared counted =
      either_way (Shared cm jm) _ _ _
      (λ t.
      let tests = both_true _ _ t in
      let bits = crosswise asks.pcm answers.pcm in
      record { readable = readable; counted = ltb-true _ _ counted; function = eqb-true _ _ tests.0; some = ltb-true _ _ tests.1; high = paired_small asks.pcm answers.pcm; b5 = bits.0; b6 = bits.1; b7 = bits.2 })
      (λ t. none_pairs readable (ltb-true _ _ counted) (⊎_elim (λ e. inl (eqb-false _ _ e)) (λ e. inr (omega (arith, ltb-false 0 (paired asks.pcm answers.pcm) e))) (one_fails _ _ t)))

  module _ (uncounted : answers.pcm ≡ 0) where
    first : eqb (lowest answers.items) 0 ≡ false → LowestItem jm (lowest answers.items)
    first some =
        let above : 0 < lowest answers.items = omega (arith, eqb-false (lowest answers.items) 0 some) in
        let there = lowest_in answers.items 1 12 above in
        record {
          uncounted = uncounted;
          low = above;
          high = there.1;
          answered = has_read jm (lowest answers.items) there.1 ∙ there.0;
          lowest = λ lower low below. has_read jm lower (omega (arith, below, there.1)) ∙ below_lowest answers.items 1 12 lower low below;
        }

    item_shared : Shared cm jm (item_choice same asks.items (lowest answers.items))
    unfolding item_choice
    item_shared =
        either_way (Shared cm jm) _ _ _
        (λ t. record { readable = readable; uncounted = uncounted; items = λ i low high. has_read jm i high ∙ none_below answers.items 1 12 i (lit< tt) (eqb-true _ _ t) low high })
        (λ some.
        let here = first some in
        either_way (Shared cm jm) _ _ _
        (λ t. let tests = both_true _ _ t in record { readable = readable; item = here; function = eqb-true _ _ tests.0; asked = has_read cm _ here.high ∙ tests.1 })
        (λ t. item_missing _ readable here (⊎_elim (λ e. inl (eqb-false _ _ e)) (λ e. inr (has_read cm _ here.high ∙ e)) (one_fails _ _ t))))

  chosen_shared : Shared cm jm (chosen_from asks answers)
  unfolding chosen_from
  chosen_shared = either_way (Shared cm jm) _ _ _ pcm_shared (λ t. item_shared (omega (arith, ltb-false 0 answers.pcm t)))

  -- where no PCM group counts, the choice is that of an item
  item_choice_lem : answers.pcm ≡ 0 → choice_of cm jm ≡ item_choice same asks.items (lowest answers.items)
  unfolding chosen_from when
  item_choice_lem uncounted = chosen_from_lem cm jm readable.asked readable.answered ∙ simp uncounted

  pcm_choice_lem : 0 < answers.pcm → choice_of cm jm ≡ pcm_choice same (paired asks.pcm answers.pcm)
  unfolding chosen_from when
  pcm_choice_lem counted = chosen_from_lem cm jm readable.asked readable.answered ∙ simp (lt-ltb 0 answers.pcm counted)

  lowest_item : (i : ℕ) → LowestItem jm i → lowest answers.items ≡ i
  lowest_item i here =
      lowest_is answers.items 1 12 i here.low here.high (sym (has_read jm i here.high) ∙ here.answered)
      (λ j low below. sym (has_read jm j (omega (arith, below, here.high))) ∙ here.lowest j low below)

  none_alone : NothingOffered cm jm → choice_of cm jm ≡ none
  unfolding item_choice when
  none_alone n =
      item_choice_lem n.uncounted
      ∙ ap (item_choice same asks.items) (none_lowest answers.items 1 12 (λ i low high. sym (has_read jm i high) ∙ n.items i low high))

  item_alone : (i : ℕ) → SharedItem cm jm i → choice_of cm jm ≡ item i
  unfolding item_choice when both
  item_alone i s =
      item_choice_lem s.item.uncounted ∙ ap (item_choice same asks.items) (lowest_item i s.item)
      ∙ simp (ne_eqb i 0 (λ z. omega (arith, z, s.item.low)), eq-eqb _ _ s.function, sym (has_read cm i s.item.high) ∙ s.asked)

  pcm_alone_lem : (options : ℕ) → SharedPcm cm jm options → choice_of cm jm ≡ pcm options
  unfolding pcm_choice when both
  pcm_alone_lem options s =
      let bits = crosswise asks.pcm answers.pcm in
      let exact : paired asks.pcm answers.pcm ≡ options = by_bits _ options (paired_small asks.pcm answers.pcm) s.high (bits.0 ∙ sym s.b5) (bits.1 ∙ sym s.b6) (bits.2 ∙ sym s.b7) in
      pcm_choice_lem s.counted ∙ simp (eq-eqb _ _ s.function, exact, lt-ltb 0 options s.some)

  item_missing_lem : (i : ℕ) → LowestItem jm i → (asks.function ≡ answers.function → ⊥) ⊎ (has cm i ≡ false) → choice_of cm jm ≡ refusal 11
  unfolding item_choice when
  item_missing_lem i here why =
      item_choice_lem here.uncounted ∙ ap (item_choice same asks.items) (lowest_item i here)
      ∙ simp (ne_eqb i 0 (λ z. omega (arith, z, here.low)), fails same (in_set asks.items i) (⊎_elim (λ e. inl (ne_eqb _ _ e)) (λ e. inr (sym (has_read cm i here.high) ∙ e)) why))

  none_pairs_lem : 0 < answers.pcm → (asks.function ≡ answers.function → ⊥) ⊎ (paired asks.pcm answers.pcm ≡ 0) → choice_of cm jm ≡ refusal 11
  unfolding pcm_choice when
  none_pairs_lem counted why =
      pcm_choice_lem counted
      ∙ simp (fails same (ltb 0 (paired asks.pcm answers.pcm)) (⊎_elim (λ e. inl (ne_eqb _ _ e)) (λ e. inr (ap (ltb 0) e)) why))

module _ (cm jm : List ℕ) where
  refused_alone : (n : ℕ) → NotShared cm jm n → choice_of cm jm ≡ refusal n
  unfolding menu_read when
  refused_alone n (cm_unread bad) = simp (ne_eqb _ _ bad)
  refused_alone n (jm_unread asked bad) = simp (eq-eqb _ _ asked, ne_eqb _ _ bad)
  refused_alone n (item_missing i readable here why) = item_missing_lem cm jm readable i here why
  refused_alone n (none_pairs readable counted why) = none_pairs_lem cm jm readable counted why

  shared_alone : (chosen : Chosen) → Shared cm jm chosen → choice_of cm jm ≡ chosen
  shared_alone none s = none_alone cm jm s.readable s
  shared_alone (item i) s = item_alone cm jm s.readable i s
  shared_alone (pcm options) s = pcm_alone_lem cm jm s.readable options s
  shared_alone (refusal n) s = refused_alone n s

  pub choice_is_shared : ChoiceIsShared cm jm
  choice_is_shared = record {
    shared =
        read_case cm (λ (r : Read). Shared cm jm (on_read r (λ offer. choice_for jm offer)))
        (λ asked. read_case jm (λ (r : Read). Shared cm jm (on_read r (λ offer. chosen_from (offer_of cm) offer)))
        (λ answered. chosen_shared cm jm (record { asked = asked; answered = answered })) (λ bad. jm_unread asked bad))
        (λ bad. cm_unread bad);
    alone = shared_alone;
  }
