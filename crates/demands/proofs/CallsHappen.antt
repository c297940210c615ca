-- The calls that happen are computed: records, choices, and each event as the order takes it, by tests that say so.
-- Assumes nothing.
use Prim.Native.Nat.{ℕ}
use mathlib.Core.Path.{◌≡◌, refl, sym}
use mathlib.Core.Bool.{Bool, true, false}
use mathlib.Core.List.{List, [], ◌∷◌}
use borrow.Author.Tests.{eqb-true, leb-true}
use lib.Dec.{leb, eqb}
use lib.ListN.{length}
use Rattle.laws.specs.Logic.{when, both, either}
use Rattle.laws.specs.Joined.{joined}
use Rattle.laws.specs.Tests.{every}
use Rattle.laws.proofs.Logic.{either_way, both_true, clash}
use Rattle.octets.specs.Lists.{first_fault, until_category}
use Rattle.items.specs.Items.{places, place_of, has_item, set_of, in_set, item_bits, modulation_octet}
use Rattle.menus.specs.Groups.{first_group, front_part, group_of}
use Rattle.menus.specs.Offer.{menu_read}
use Rattle.menus.specs.Pcm.{paired}
use Rattle.fields.specs.Packing.{joined_bits, groups_of, packed}
use Rattle.fields.specs.Blocks.{blocks_behind, full, blocks_fault}
use Rattle.fields.specs.Field.{field_of}
use Rattle.records.specs.Record.{modes_at, any_bad, bad_record}
use Rattle.offers.specs.Making.{modulation_from}
use Rattle.choices.specs.Choosing.{lowest_from, pcm_choice, item_choice, chosen_from}
use Rattle.records.specs.declared.Record.{Record}
use Rattle.cadence.specs.Cadence.{is_cadence}
use Rattle.cadence.specs.Giving.{cadence_fits, left, moved_on, given}
use Rattle.steps.specs.declared.Session.{Session}
use Rattle.steps.specs.Table.{rows}
use Rattle.steps.specs.Session.{is_te, in_range, answerer_from}
use Rattle.steps.specs.Stepping.{Answered, same, entered, ended, go_on, refusal, elapsed, applies, find_row, timed, stepped_in}
use Rattle.steps.specs.Drawing.{drawn}
use Rattle.steps.specs.Runs.{Act, happens, asks, next, value_of, enters_agreed}
use Rattle.demands.specs.Joint.{cm_of, jm_of, is_available}
use Rattle.demands.specs.OneChoice.{caller_names}
use Rattle.demands.specs.WholeCall.{carried, Due, IsInTime, behind, InOrder, all, waiting, comes, caller_order, EndsJoint, by_cj, by_sig_c, answerer_order}
use Rattle.demands.specs.AnyEvents.{Carrying, done, more}
use Rattle.demands.specs.CallsHappen.{starts, Happens, CallsHappen}

-- an answer that is "same"
abbrev is_same : Answered → Bool
is_same same = true
is_same (entered state) = false
is_same (ended how) = false
is_same (go_on choice) = false
is_same (refusal n) = false

is_same_lem : (a : Answered) → is_same a ≡ true → a ≡ same
is_same_lem same e = refl
is_same_lem (entered state) e = clash (sym e)
is_same_lem (ended how) e = clash (sym e)
is_same_lem (go_on choice) e = clash (sym e)
is_same_lem (refusal n) e = clash (sym e)

-- the order, as a test that can be computed: the first that can wait does
abbrev idle : Session → Act → Bool
idle s a = both (is_same (next s a).answer) (eqb (next s a).session.cadence.tone s.cadence.tone)

abbrev is_due : Session → Due → Act → Bool
is_due s d (happens t) = both (eqb t.event d.event) (both (eqb t.value d.value) (IsInTime s d t.now))
is_due s d (asks out) = false

unfoldable ordered : List Act → Session → List Due → Bool
ordered [] s [] = true
ordered [] s (d ∷ ds) = false
ordered (a ∷ acts) s [] = true
ordered (a ∷ acts) s (d ∷ ds) = when (idle s a) (ordered acts (next s a).session (d ∷ ds)) (both (is_due s d a) (ordered acts (next s a).session (behind s d ds)))

comes_by : (s : Session) (d : Due) (ds : List Due) (a : Act) (acts : List Act) → is_due s d a ≡ true → InOrder (next s a).session (behind s d ds) acts → InOrder s (d ∷ ds) (a ∷ acts)
comes_by s d ds (asks out) acts tested order = clash (sym tested)
comes_by s d ds (happens t) acts tested order =
    let event = both_true _ _ tested in
    let value = both_true _ _ event.1 in
    comes (eqb-true _ _ event.0) (eqb-true _ _ value.0) value.1 order

in_order : (acts : List Act) (s : Session) (ds : List Due) → ordered acts s ds ≡ true → InOrder s ds acts
unfolding ordered
in_order [] s [] tested = all
in_order [] s (d ∷ ds) tested = clash (sym tested)
in_order (a ∷ acts) s [] tested = all
in_order (a ∷ acts) s (d ∷ ds) holds =
    either_way (λ (b : Bool). b ≡ true → InOrder s (d ∷ ds) (a ∷ acts)) (idle s a) (ordered acts (next s a).session (d ∷ ds)) _
    (λ early tested. let waits = both_true _ _ early in waiting (is_same_lem (next s a).answer waits.0) (eqb-true _ _ waits.1) (in_order acts (next s a).session (d ∷ ds) tested))
    (λ _ tested. let due = both_true _ _ tested in comes_by s d ds a acts due.0 (in_order acts (next s a).session (behind s d ds) due.1))
    holds

-- and what agreed menus carry
unfoldable carries : ℕ → List Act → Session → Bool
carries choice [] s = true
carries choice (a ∷ acts) s = both (when (enters_agreed (next s a).answer) (eqb (value_of a) choice) true) (carries choice acts (next s a).session)

carrying : (choice : ℕ) (acts : List Act) (s : Session) → carries choice acts s ≡ true → Carrying choice s acts
unfolding carries when
carrying choice [] s tested = done
carrying choice (a ∷ acts) s tested =
    let tests = both_true _ _ tested in
    more (carried_as (enters_agreed (next s a).answer) tests.0) (carrying choice acts (next s a).session tests.1)
  where
    carried_as : (agreed : Bool) → when agreed (eqb (value_of a) choice) true ≡ true → agreed ≡ true → value_of a ≡ choice
    carried_as true equal here = eqb-true _ _ equal
    carried_as false equal here = clash (sym here)

-- a call, by what is computed of it
computed : (choice : ℕ) (caller answerer : Record) (blocks : List ℕ) (last : Due) (callerActs answererActs : List Act)
    → (length caller.functions ≡ 6) × (bad_record caller ≡ false) → (length answerer.functions ≡ 6) × (bad_record answerer ≡ false) → is_available caller 6 ≡ true
    → (leb (length (cm_of caller 6 blocks)) 64 ≡ true) × (blocks_fault blocks ≡ 0) → carried (caller_names caller 6 blocks (jm_of answerer (cm_of caller 6 blocks))) ≡ choice → (is_te 500 ≡ true) × (is_cadence 3 120 ≡ true) → EndsJoint choice last
    → (ordered callerActs starts (caller_order 500 choice) ≡ true) × (carries choice callerActs starts ≡ true)
    → (ordered answererActs (answerer_from 0) (answerer_order last choice) ≡ true) × (carries choice answererActs (answerer_from 0) ≡ true) → Happens choice caller answerer blocks last callerActs answererActs
computed choice caller answerer blocks last callerActs answererActs calling answering available field named timed closing called answered = record {
  call = record { calling = record { six = calling.0; good = calling.1 }; answering = record { six = answering.0; good = answering.1 }; available = available; fits = leb-true _ _ field.0 };
  sent = field.1;
  named = named;
  te = timed.0;
  cadence = timed.1;
  calling = in_order callerActs _ _ called.0;
  closing = closing;
  answering = in_order answererActs _ _ answered.0;
  caller_carries = carrying choice callerActs _ called.1;
  answerer_carries = carrying choice answererActs _ answered.1;
}

pub calls_happen : CallsHappen
unfolding when both either joined first_fault until_category places place_of has_item set_of in_set item_bits modulation_octet first_group front_part group_of menu_read paired modes_at any_bad bad_record modulation_from every joined_bits groups_of packed blocks_behind full field_of lowest_from pcm_choice item_choice chosen_from rows in_range elapsed applies find_row timed stepped_in drawn given moved_on cadence_fits left ordered carries
calls_happen = record {
  goes_on = computed _ _ _ _ _ _ _ (refl, refl) (refl, refl) refl (refl, refl) refl (refl, refl) by_cj (refl, refl) (refl, refl);
  with_blocks = computed _ _ _ _ _ _ _ (refl, refl) (refl, refl) refl (refl, refl) refl (refl, refl) by_cj (refl, refl) (refl, refl);
  in_silence = computed _ _ _ _ _ _ _ (refl, refl) (refl, refl) refl (refl, refl) refl (refl, refl) by_cj (refl, refl) (refl, refl);
  by_sig_c = computed _ _ _ _ _ _ _ (refl, refl) (refl, refl) refl (refl, refl) refl (refl, refl) (by_sig_c refl) (refl, refl) (refl, refl);
  by_pcm = computed _ _ _ _ _ _ _ (refl, refl) (refl, refl) refl (refl, refl) refl (refl, refl) by_cj (refl, refl) (refl, refl);
  clears = computed _ _ _ _ _ _ _ (refl, refl) (refl, refl) refl (refl, refl) refl (refl, refl) by_cj (refl, refl) (refl, refl);
}
