-- Demand 1: one law over `put` for every lent buffer; what a bit asks for is no refusal, or one of four that leave the messages; no row of
-- the steps' table is a refusal. Ranges are cited.
-- Assumes nothing.
use Prim.Native.Nat.{ℕ, suc, ◌≤◌, ◌+◌}
use native.Mathlib.Omega.{arith}
use mathlib.Core.Path.{◌≡◌, refl, sym, ap, subst, ◌∙◌}
use mathlib.Core.Bool.{true, false}
use mathlib.Core.List.{List, [], ◌∷◌, ◌++◌}
use borrow.Author.Tests.{eqb-true, ltb-false, eqb-false}
use lib.Dec.{ltb, eqb}
use lib.ListN.{length, drop}
use lib.Seq.{drop_at}
use Rattle.laws.specs.Logic.{when, both, either}
use Rattle.laws.specs.Front.{front}
use Rattle.laws.proofs.Logic.{either_way, both_true, clash}
use Rattle.laws.proofs.Rest.{front_length}
use Rattle.refusals.specs.Refusals.{before}
use Rattle.refusals.specs.Lent.{Said, count, room_fault, put}
use Rattle.refusals.specs.Lent as lent
use Rattle.octets.specs.declared.Kind.{Kind}
use Rattle.octets.specs.declared.Purpose.TheVariants.{Reading, Writing}
use Rattle.octets.specs.Lists.{list_fault}
use Rattle.octets.proofs.Lists.{before_none}
use Rattle.sequences.specs.Line.{sequence, copies}
use Rattle.sequences.specs.Line.{cj as cjBits}
use Rattle.sequences.specs.Writing.{written}
use Rattle.menus.specs.Groups.{group_of}
use Rattle.fields.specs.Blocks.{blocks_fault}
use Rattle.fields.specs.Field.{field_tag, field_octets, packing_fault}
use Rattle.offers.specs.Making.{record_fault, function_fault, size_fault}
use Rattle.std.specs.Prelude.{Option, Some, None}
use Rattle.codes.specs.Writing.{written_as}
use Rattle.framing.specs.declared.Turned.{Turned}
use Rattle.framing.specs.Framing.{report, tell_cj, refusal_in, turned_by}
use Rattle.framing.proofs.Refused.{Refuses, fine, no_bit_lem, stop_bit, bad_octet_lem, too_many, cut_short, refuses}
use Rattle.listening.specs.declared.Message.{Message}
use Rattle.listening.specs.declared.Listener.{Listener}
use Rattle.listening.specs.Record.{in_range}
use Rattle.listening.specs.Hearing.{Told, silence, ci, menu, cj, refusal, changed, agreed, reported, told, told_alone, HearOutcome, acted, refused_bit, heard_in, heard_bit, ManyOutcome, taking, silent, listened, heard_bits}
use Rattle.listening.proofs.Acts.{heard_not_a_bit}
use Rattle.listening.proofs.Ranges.{fits_range, range_fits, fresh_fits, heard_range, heard_inside, heard_outside}
use Rattle.listening.proofs.Many.{listened_fits, bits_in}
use Rattle.stretches.specs.Hearing.{once_heard, noted, reports}
use Rattle.stretches.proofs.Parts.{is_silence}
use Rattle.cadence.specs.declared.Cadence.{Cadence}
use Rattle.cadence.specs.Cadence.{is_function, is_cadence, bits_from}
use Rattle.cadence.specs.Giving.{cadence_fits, begun, due, GiveOutcome, giving, given}
use Rattle.cadence.proofs.Bits.{bits_length}
use Rattle.cadence.proofs.Ranges.{due_most}
use Rattle.cadence.proofs.Outcomes.{given_in}
use Rattle.steps.specs.declared.Session.{Session}
use Rattle.steps.specs.Table.{calling}
use Rattle.steps.specs.Drawing.{DrawOutcome, drawing, undrawn, drawn}
use Rattle.steps.specs.Session.{is_te, ready, caller_from, started_caller}
use Rattle.steps.specs.Session as steps
use Rattle.steps.proofs.Refused.{StepNumber, after_over, clock, wrong_event, bad_session, refused_step_lem}
use Rattle.steps.proofs.Ranges.{step_keeps_range, draw_keeps_range, outside_is_refused, calling_cadence, caller_start_is_in_range, answerer_start_is_in_range}
use Rattle.demands.specs.Joint.{cm_of, jm_of}
use Rattle.demands.specs.Refusals.{one_of, KeepsItsBytes, LentBuffersKeepTheirBytes, HeardThough, place_after, RefusedAtOneBit, RefusedBitsLeaveWhatIsLaidDown, StartsInRange, RefusalsLeaveWhatIsLaidDown}

-- what tells two answers apart: 0 for a refusal, one more than what was counted otherwise
abbrev count_said : Said → ℕ
count_said (count n) = suc n
count_said (lent.refusal n) = 0

-- a call that writes keeps the bytes behind what it writes, where it tests the room
put_keeps : (f : ℕ) (new out : List ℕ) → (f ≡ 0 → length new ≤ length out) → KeepsItsBytes out (put f new out)
unfolding put
put_keeps f new out room =
    either_way (KeepsItsBytes out) (eqb f 0) _ (record { answer = lent.refusal f; buffer = out })
    (λ fine. record {
      refused = λ n said. absurd (let z : ⊥ = omega (arith, ap count_said said) in z);
      later = λ size said.
          let counted : size ≡ length new = omega (arith, ap count_said said) in
          drop_at new (drop (length new) out) size (sym counted) ∙ ap (λ (k : ℕ). drop k out) (sym counted);
      whole = front_length new out (room (eqb-true f 0 fine));
    })
    (λ _. record {
      refused = λ n said. refl;
      later = λ size said. absurd (let z : ⊥ = omega (arith, ap count_said said) in z);
      whole = refl;
    })

room_tested : (new out : List ℕ) → room_fault new out ≡ 0 → length new ≤ length out
room_tested new out =
    either_way (λ (n : ℕ). n ≡ 0 → length new ≤ length out) (ltb (length out) (length new)) 6 0
    (λ _ e. absurd (let z : ⊥ = omega (arith, e) in z))
    (λ roomy _. ltb-false (length out) (length new) roomy)

-- with any tests before that of the room
abbrev pub behind : List ℕ → ℕ → ℕ
behind [] last = last
behind (f ∷ faults) last = before f (behind faults last)

-- where nothing is refused, none of them is
pub behind_first : (faults : List ℕ) (f last : ℕ) → behind faults (before f last) ≡ 0 → f ≡ 0
behind_first [] f last e = (before_none f last e).0
behind_first (g ∷ faults) f last e = behind_first faults f last (before_none g (behind faults (before f last)) e).1

behind_none : (faults : List ℕ) (last : ℕ) → behind faults last ≡ 0 → last ≡ 0
behind_none [] last e = e
behind_none (f ∷ faults) last e = behind_none faults last (before_none f (behind faults last) e).1

keeps_behind : (faults : List ℕ) (new out : List ℕ) → KeepsItsBytes out (put (behind faults (room_fault new out)) new out)
keeps_behind faults new out = put_keeps _ new out (λ e. room_tested new out (behind_none faults (room_fault new out) e))

written_keeps : (kind : Kind) (octets : List ℕ) (n : ℕ) (out : List ℕ) → KeepsItsBytes out (written kind octets n out)
written_keeps kind octets n out = keeps_behind (list_fault (Writing kind) octets ∷ []) (copies n (sequence kind octets)) out

as_asked_lem : (asked : Option Kind) (octets : List ℕ) (n : ℕ) (out : List ℕ) → KeepsItsBytes out (written_as asked octets n out)
as_asked_lem (Some kind) octets n out = written_keeps kind octets n out
as_asked_lem None octets n out = record { refused = λ r said. refl; later = λ size said. absurd (let z : ⊥ = omega (arith, ap count_said said) in z); whole = refl }

-- asking for bits: what is refused writes nothing, and what is given stands at the front
unwritten : (said : Said) (out : List ℕ) → KeepsItsBytes out (record { answer = said; buffer = out })
unwritten said out = record { refused = λ _ _. refl; later = λ _ _. refl; whole = refl }

filled : (n : ℕ) (bits out : List ℕ) → length bits ≡ n → n ≤ length out → KeepsItsBytes out (record { answer = count n; buffer = front bits out })
unfolding put when
filled n bits out size room = subst (λ (k : ℕ). KeepsItsBytes out (record { answer = count k; buffer = front bits out })) size (put_keeps 0 bits out (λ _. omega (arith, size, room)))

abbrev Undrawn : Session → DrawOutcome → Type 0
Undrawn s o = (n : ℕ) → o.answer ≡ lent.refusal n → (o.session ≡ s) × (n ≡ 10)

abbrev refused_as : Said → ℕ
refused_as (count n) = 0
refused_as (lent.refusal n) = suc n

not_refused : (s : Session) (o : DrawOutcome) (size : ℕ) → o.answer ≡ count size → Undrawn s o
not_refused s o size counted n e = absurd (let z : ⊥ = omega (arith, ap refused_as counted, ap refused_as e) in z)

module _ (s : Session) (out : List ℕ) where
  draw_case : (P : DrawOutcome → Type 0) → P (undrawn (lent.refusal 10) s out) → P (undrawn (count 0) s out) → ((c : Cadence) → cadence_fits c ≡ true → P (drawing s (giving c (due c (length out)) out))) → P (drawn s out)
  unfolding drawn
  draw_case P refused none gives =
      either_way P (steps.in_range s) _ (undrawn (lent.refusal 10) s out)
      (λ inside. either_way P (eqb s.state calling) (drawing s (given s.cadence out)) (undrawn (count 0) s out)
      (λ called. let fits = calling_cadence s inside (eqb-true s.state calling called) in subst (λ (g : GiveOutcome). P (drawing s g)) (sym (given_in s.cadence out fits)) (gives s.cadence fits)) (λ _. none))
      (λ _. refused)

  draw_keeps : KeepsItsBytes out (record { answer = (drawn s out).answer; buffer = (drawn s out).buffer })
  draw_keeps =
      draw_case (λ (o : DrawOutcome). KeepsItsBytes out (record { answer = o.answer; buffer = o.buffer })) (unwritten (lent.refusal 10) out) (unwritten (count 0) out)
      (λ c _. let n = due c (length out) in filled n (bits_from c.function c.on c.off c.place n) out (bits_length c.function c.on c.off c.place n) (due_most c (length out)))

  draw_refused : Undrawn s (drawn s out)
  draw_refused =
      draw_case (Undrawn s) (λ n e. (refl, let z : n ≡ 10 = omega (arith, ap refused_as e) in z)) (not_refused s (undrawn (count 0) s out) 0 refl)
      (λ c _. not_refused s (drawing s (giving c (due c (length out)) out)) (due c (length out)) refl)

  draw_outside : steps.in_range s ≡ false → drawn s out ≡ undrawn (lent.refusal 10) s out
  unfolding drawn when
  draw_outside outside = simp outside

buffers_kept : LentBuffersKeepTheirBytes
buffers_kept = record {
  writing = written_keeps;
  writing_as = as_asked_lem;
  writing_cj = λ out. put_keeps (room_fault cjBits out) cjBits out (room_tested cjBits out);
  making_cm = λ own function blocks out. keeps_behind (record_fault own ∷ function_fault own function ∷ size_fault (cm_of own function blocks) ∷ blocks_fault blocks ∷ []) (cm_of own function blocks) out;
  making_jm = λ own heard_cm out. keeps_behind (record_fault own ∷ list_fault Reading heard_cm ∷ size_fault (jm_of own heard_cm) ∷ []) (jm_of own heard_cm) out;
  reading_field = λ heard_cm out.
      let group = group_of heard_cm field_tag in
      keeps_behind (list_fault Reading heard_cm ∷ packing_fault group ∷ blocks_fault (field_octets group) ∷ []) (field_octets group) out;
  drawing = draw_keeps;
}

-- what a bit tells, as one number more than its refusal
abbrev number_told : Told → ℕ
number_told silence = 0
number_told (ci span) = 0
number_told (menu agreed span) = 0
number_told cj = 0
number_told (refusal n) = suc n

-- an act that is no refusal tells none
told_fine : (act : ℕ) (m last : Message) → act ≤ tell_cj → number_told (told act m last) ≡ 0
unfolding told told_alone reported
told_fine act m last low =
    either_way (λ (t : Told). number_told t ≡ 0) (eqb act report) _ _
    (λ _. either_way (λ (t : Told). number_told t ≡ 0) (eqb m.kind 1) (ci _) (menu (agreed m last) _) (λ _. refl) (λ _. refl))
    (λ no-report. either_way (λ (t : Told). number_told t ≡ 0) (ltb act report) silence _ (λ _. refl)
    (λ loud. either_way (λ (t : Told). number_told t ≡ 0) (eqb act tell_cj) cj (refusal (refusal_in act)) (λ _. refl)
    (λ no_cj. absurd (let z : ⊥ = omega (arith, low, ltb-false act report loud, eqb-false act report no-report, eqb-false act tell_cj no_cj) in z))))

-- a refusal of one bit, by its number, and what the record is then
module _ (rec : Listener) (bit : ℕ) where
  data Refused : ℕ → Listener → Type 0 where
    one : Refused 1 rec
    two : {after : Listener} → HeardThough rec bit (place_after rec 2) after → Refused 2 after
    three : {after : Listener} → HeardThough rec bit (place_after rec 3) after → Refused 3 after
    four : {after : Listener} → HeardThough rec bit (place_after rec 4) after → Refused 4 after
    ten : Refused 10 rec
    thirteen : {after : Listener} → HeardThough rec bit (place_after rec 13) after → Refused 13 after

  -- what was told is the number
  known : (k n : ℕ) (after : Listener) → Refused k after → refusal k ≡ refusal n → Refused n after
  known k n after r e = let same : k ≡ n = omega (arith, ap number_told e) in subst (λ (m : ℕ). Refused m after) same r

  by_act : (n : ℕ) (t : Turned) → Refuses rec.ear bit t → (acted rec t).report ≡ refusal n → Refused n (acted rec t).rec
  unfolding acted changed told told_alone when refusal_in
  by_act n t (fine low) e = absurd (let z : ⊥ = omega (arith, told_fine t.act rec.msg rec.last low, ap number_told e) in z)
  by_act n t no_bit_lem e = known 1 n _ one e
  by_act n t stop_bit e = known 2 n _ (two (record { past = refl; heard = refl; place = refl; msg = refl; last = refl })) e
  by_act n t bad_octet_lem e = known 3 n _ (three (record { past = refl; heard = refl; place = refl; msg = refl; last = refl })) e
  by_act n t too_many e = known 4 n _ (four (record { past = refl; heard = refl; place = refl; msg = refl; last = refl })) e
  by_act n t cut_short e = known 13 n _ (thirteen (record { past = refl; heard = refl; place = refl; msg = refl; last = refl })) e

  refused_bit_lem : (n : ℕ) → (heard_bit rec bit).report ≡ refusal n → Refused n (heard_bit rec bit).rec
  unfolding heard_in
  refused_bit_lem n =
      either_way (λ (o : HearOutcome). o.report ≡ refusal n → Refused n o.rec) (in_range rec) (heard_in rec bit) (refused_bit 10 rec)
      (λ _. by_act n (turned_by rec.ear rec.msg.len bit) (refuses rec.ear bit rec.msg.len))
      (λ _. known 10 n rec ten)

  number_known : (n : ℕ) (after : Listener) → Refused n after → one_of (1 ∷ 2 ∷ 3 ∷ 4 ∷ 10 ∷ 13 ∷ []) n ≡ true
  unfolding either
  number_known n after one = refl
  number_known n after (two h) = refl
  number_known n after (three h) = refl
  number_known n after (four h) = refl
  number_known n after ten = refl
  number_known n after (thirteen h) = refl

  record_kept : (n : ℕ) (after : Listener) → Refused n after → one_of (1 ∷ 10 ∷ []) n ≡ true → after ≡ rec
  unfolding either
  record_kept n after one t = refl
  record_kept n after (two h) t = clash (sym t)
  record_kept n after (three h) t = clash (sym t)
  record_kept n after (four h) t = clash (sym t)
  record_kept n after ten t = refl
  record_kept n after (thirteen h) t = clash (sym t)

  heard_though : (n : ℕ) (after : Listener) → Refused n after → one_of (2 ∷ 3 ∷ 4 ∷ 13 ∷ []) n ≡ true → HeardThough rec bit (place_after rec n) after
  unfolding either
  heard_though n after one t = clash (sym t)
  heard_though n after (two h) t = h
  heard_though n after (three h) t = h
  heard_though n after (four h) t = h
  heard_though n after ten t = clash (sym t)
  heard_though n after (thirteen h) t = h

-- many bits: the first that tells something is the last that is taken
record RefusedFrom (at : ℕ) (rec : Listener) (bits : List ℕ) (n : ℕ) (all : ManyOutcome) : Type 0 where
  before : List ℕ
  bit : ℕ
  untaken : List ℕ
  split : bits ≡ before ++ bit ∷ untaken
  taken : all.taken ≡ at + length before + 1
  quietly : reports rec before ≡ []
  told : (heard_bit (once_heard rec before) bit).report ≡ refusal n
  left : all.rec ≡ (heard_bit (once_heard rec before) bit).rec

-- one bit more in front, which told nothing
one_before : (at : ℕ) (rec : Listener) (bit : ℕ) (bits : List ℕ) (n : ℕ) (all : ManyOutcome) → silent (heard_bit rec bit).report ≡ true
    → RefusedFrom (at + 1) (heard_bit rec bit).rec bits n all → RefusedFrom at rec (bit ∷ bits) n all
unfolding once_heard reports
one_before at rec bit bits n all quiet rest = record {
  before = bit ∷ rest.before;
  bit = rest.bit;
  untaken = rest.untaken;
  split = ap (λ (l : List ℕ). bit ∷ l) rest.split;
  taken = omega (arith, rest.taken);
  quietly = ap (λ (t : Told). noted t (heard_bit rec bit).rec.msg (reports (heard_bit rec bit).rec rest.before)) (is_silence (heard_bit rec bit).report quiet) ∙ rest.quietly;
  told = rest.told;
  left = rest.left;
}

-- or it is the first
none_before : (at : ℕ) (rec : Listener) (bit : ℕ) (bits : List ℕ) (n : ℕ) (o : HearOutcome) → heard_bit rec bit ≡ o → o.report ≡ refusal n → RefusedFrom at rec (bit ∷ bits) n (taking o (at + 1))
unfolding once_heard reports
none_before at rec bit bits n o alike e = record {
  before = [];
  bit = bit;
  untaken = bits;
  split = refl;
  taken = omega arith;
  quietly = refl;
  told = ap (λ (h : HearOutcome). h.report) alike ∙ e;
  left = sym (ap (λ (h : HearOutcome). h.rec) alike);
}

listened_refused : (at : ℕ) (rec : Listener) (bits : List ℕ) (n : ℕ) → in_range rec ≡ true → (listened rec bits at).report ≡ refusal n → RefusedFrom at rec bits n (listened rec bits at)
unfolding listened
listened_refused at rec [] n inside = λ e. absurd (let z : ⊥ = omega (arith, ap number_told e) in z)
listened_refused at rec (bit ∷ bits) n inside =
    let alike : heard_bit rec bit ≡ heard_in rec bit = heard_inside rec bit inside in
    either_way (λ (all : ManyOutcome). all.report ≡ refusal n → RefusedFrom at rec (bit ∷ bits) n all) (silent (heard_in rec bit).report) (listened (heard_in rec bit).rec bits (at + 1)) (taking (heard_in rec bit) (at + 1))
    (λ quiet. subst (λ (o : HearOutcome). (listened o.rec bits (at + 1)).report ≡ refusal n → RefusedFrom at rec (bit ∷ bits) n (listened o.rec bits (at + 1))) alike
    (λ e. one_before at rec bit bits n _ (ap (λ (o : HearOutcome). silent o.report) alike ∙ quiet) (listened_refused (at + 1) (heard_bit rec bit).rec bits n (heard_range rec bit inside) e)))
    (λ _ e. none_before at rec bit bits n (heard_in rec bit) alike e)

many_refused : (rec : Listener) (bits : List ℕ) (n : ℕ) (all : ManyOutcome) → listened rec bits 0 ≡ all → in_range rec ≡ true → all.report ≡ refusal n → RefusedAtOneBit rec bits n all
many_refused rec bits n all same inside e =
    let from = listened_refused 0 rec bits n inside (ap (λ (m : ManyOutcome). m.report) same ∙ e) in
    record {
      before = from.before;
      bit = from.bit;
      untaken = from.untaken;
      split = from.split;
      taken = sym (ap (λ (m : ManyOutcome). m.taken) same) ∙ from.taken ∙ omega arith;
      quietly = from.quietly;
      told = from.told;
      left = sym (ap (λ (m : ManyOutcome). m.rec) same) ∙ from.left;
    }

many_outside_lem : (rec : Listener) (bits : List ℕ) → in_range rec ≡ false → heard_bits rec bits ≡ taking (refused_bit 10 rec) 0
unfolding when
many_outside_lem rec bits tested = simp tested

bits_laid_down : RefusedBitsLeaveWhatIsLaidDown
bits_laid_down = record {
  numbers = λ rec bit n e. number_known rec bit n _ (refused_bit_lem rec bit n e);
  kept = λ rec bit n e. record_kept rec bit n _ (refused_bit_lem rec bit n e);
  heard = λ rec bit n e. heard_though rec bit n _ (refused_bit_lem rec bit n e);
  outside = heard_outside;
  no_bit = λ rec bit inside high. heard_inside rec bit inside ∙ heard_not_a_bit rec bit high;
  many_outside = many_outside_lem;
  many = λ rec bits n inside e. many_refused rec bits n (heard_bits rec bits) (sym (bits_in rec bits (range_fits rec inside))) inside e;
}

step_number_lem : (n : ℕ) → StepNumber n → one_of (10 ∷ 7 ∷ 9 ∷ 8 ∷ []) n ≡ true
unfolding either
step_number_lem n after_over = refl
step_number_lem n clock = refl
step_number_lem n wrong_event = refl
step_number_lem n bad_session = refl

starts : (now te function on off : ℕ) → StartsInRange (started_caller now te function on off)
unfolding either
starts now te function on off =
    either_way StartsInRange (both (is_te te) (is_function function)) _ (steps.refusal 10)
    (λ good. either_way StartsInRange (is_cadence on off) (ready (caller_from now te (begun function on off))) (steps.refusal 16)
    (λ lasting. caller_start_is_in_range now te function on off (both_true _ _ good).0 (both_true _ _ good).1 lasting) (λ _. refl))
    (λ _. refl)

many_range : (rec : Listener) (bits : List ℕ) → in_range rec ≡ true → in_range (heard_bits rec bits).rec ≡ true
many_range rec bits inside =
    let fits = range_fits rec inside in
    ap (λ (m : ManyOutcome). in_range m.rec) (bits_in rec bits fits) ∙ fits_range (listened rec bits 0).rec (listened_fits rec bits 0 fits)

pub refusals_leave_what_is_laid_down : RefusalsLeaveWhatIsLaidDown
refusals_leave_what_is_laid_down = record {
  buffers = buffers_kept;
  bits = bits_laid_down;
  events = record {
    kept = λ s event value now n e. (refused_step_lem s event value now n e).0;
    numbers = λ s event value now n e. step_number_lem n (refused_step_lem s event value now n e).1;
    undrawn = draw_refused;
  };
  ranges = record {
    fresh_record = fits_range _ fresh_fits;
    bit = heard_range;
    bits = many_range;
    caller = starts;
    answerer = answerer_start_is_in_range;
    event = step_keeps_range;
    drawing = draw_keeps_range;
    outside = outside_is_refused;
    drawing_outside = draw_outside;
  };
}
