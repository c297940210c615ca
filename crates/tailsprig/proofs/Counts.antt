-- How many were written, and where a tag stands, fit the signed 32-bit integer that C gets: nothing is cut off on the way there.
-- Assumes nothing.
use Prim.Native.Nat.{ℕ, ◌<◌, ◌≤◌, ◌^◌}
use native.Mathlib.Nat.{mod-eq_of_lt}
use native.Mathlib.Omega.{arith}
use mathlib.Core.Path.{◌≡◌, refl, ap, ◌∙◌}
use mathlib.Core.List.{List}
use borrow.Author.Tests.{eqb-true}
use lib.Dec.{eqb}
use lib.IntN.{ℤ}
use lib.ListN.{length}
use lib.Signed.{mag}
use mir.Syntax.{w32}
use mir.Val.{to_z, of_z}
use Rattle.laws.proofs.Logic.{either_way}
use Rattle.refusals.specs.Refusals.{before}
use Rattle.std.specs.Prelude.{Result}
use Rattle.refusals.specs.declared.Refusal.{Refusal}
use Rattle.refusals.specs.Lent.{Said, count, says_wrote, WriteOutcome, room_fault, put, Meets}
use Rattle.octets.specs.declared.Kind.{Kind}
use Rattle.octets.specs.declared.Purpose.TheVariants.{Reading, Writing}
use Rattle.octets.specs.Lists.{list_fault}
use Rattle.octets.proofs.Lists.{accepted_short, before_none}
use Rattle.sequences.specs.Line.{sequence, copies, cj}
use Rattle.sequences.specs.Writing.{written, written_cj}
use Rattle.sequences.proofs.Lines.{line_length, line_small, cj_length}
use Rattle.menus.specs.Groups.{Looked, place, nowhere, looked, group_of}
use Rattle.menus.specs.Groups as groups
use Rattle.menus.proofs.Looking.{Below, looked_below}
use Rattle.fields.specs.Blocks.{blocks_fault}
use Rattle.fields.specs.Field.{field_tag, field_octets, field_read}
use Rattle.fields.proofs.Finding.{field_few}
use Rattle.records.specs.declared.Record.{Record}
use Rattle.offers.specs.Offering.{cm_offer}
use Rattle.offers.specs.Making.{record_fault, function_fault, with_field, size_fault, made_cm, jm_menu, made_jm}
use Rattle.offers.proofs.Making.{size_short}
use Rattle.codes.specs.Writing.{write_code, cut_said}
use Rattle.codes.specs.Reading.{cut_looked}
use Rattle.codes.proofs.Codes.{read_answer}
use Rattle.tailsprig.specs.Exports.{Returns}

-- a count that nothing is cut off from
abbrev pub Whole : Said → Type 0
Whole said = cut_said said ≡ said

-- no line is too long to be counted
put_whole : (f : ℕ) (line out : List ℕ) → (f ≡ 0 → length line < 2 ^ 31) → Whole (put f line out).answer
unfolding put
put_whole f line out short = either_way (λ (o : WriteOutcome). Whole o.answer) (eqb f 0) _ _ (λ e. ap count (mod-eq_of_lt (short (eqb-true f 0 e)))) (λ e. refl)

pub written_whole : (kind : Kind) (octets : List ℕ) (n : ℕ) (out : List ℕ) → n ≤ 65535 → Whole (written kind octets n out).answer
written_whole kind octets n out low =
    let line = copies n (sequence kind octets) in
    put_whole (before (list_fault (Writing kind) octets) (room_fault line out)) line out
    (λ e. omega (arith, line_length kind octets n, line_small octets n (accepted_short (Writing kind) octets (before_none (list_fault (Writing kind) octets) (room_fault line out) e).0) low))

pub cj_whole : (out : List ℕ) → Whole (written_cj out).answer
cj_whole out = put_whole (room_fault cj out) cj out (λ e. omega (arith, cj_length))

pub cm_whole : (own : Record) (function : ℕ) (blocks out : List ℕ) → Whole (made_cm own function blocks out).answer
cm_whole own function blocks out =
    let menu = with_field (cm_offer own function) blocks in
    let others = before (size_fault menu) (before (blocks_fault blocks) (room_fault menu out)) in
    put_whole _ menu out
    (λ e. omega (arith, size_short menu (before_none (size_fault menu) _ (before_none (function_fault own function) others (before_none (record_fault own) _ e).1).1).0))

pub field_whole : (heard out : List ℕ) → Whole (field_read heard out).answer
field_whole heard out = put_whole _ (field_octets (group_of heard field_tag)) out (λ e. omega (arith, field_few heard (before_none (list_fault Reading heard) _ e).0))

pub jm_whole : (own : Record) (heard_cm out : List ℕ) → Whole (made_jm own heard_cm out).answer
jm_whole own heard_cm out =
    let menu = jm_menu own heard_cm in
    let others = before (size_fault menu) (room_fault menu out) in
    put_whole _ menu out
    (λ e. omega (arith, size_short menu (before_none (size_fault menu) _ (before_none (list_fault Reading heard_cm) others (before_none (record_fault own) _ e).1).1).0))

pub returns_as : (laid : WriteOutcome) (w : Result ℕ Refusal) (after : List ℕ) (r : ℤ) → Whole laid.answer → Meets laid w after → mag r < 2 ^ 31 → r ≡ write_code (cut_said (says_wrote w)) → Returns laid (to_z w32 (of_z w32 r)) after
returns_as laid w after r whole m fits e = record {
  answer = read_answer r fits ∙ e ∙ ap (λ (said : Said). write_code (cut_said said)) m.answer ∙ ap write_code whole;
  buffer = m.buffer;
}

-- nor is a place
place_whole : (l : Looked) → Below 64 l → cut_looked l ≡ l
place_whole (place n) low = ap place (mod-eq_of_lt (let low : n < 2 ^ 31 = omega arith in low))
place_whole nowhere low = refl
place_whole (groups.refusal n) low = refl

pub looked_whole : (octets : List ℕ) (tag : ℕ) → cut_looked (looked octets tag) ≡ looked octets tag
looked_whole octets tag = place_whole (looked octets tag) (looked_below octets tag)
