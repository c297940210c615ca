-- Calls for many bits, over any parts of a line, report what bit after bit does: a call takes the bits up to the first report, and at least one
-- of some.
-- Assumes nothing.
use Prim.Native.Nat.{ℕ, zero, suc, ◌<◌, ◌≤◌, ◌+◌, ◌-◌}
use native.Mathlib.Omega.{arith}
use mathlib.Core.Path.{◌≡◌, refl, sym, ap, ◌∙◌}
use mathlib.Core.Bool.{true}
use mathlib.Core.List.{List, [], ◌∷◌, ◌++◌}
use lib.ListN.{length, take, drop, length-drop}
use lib.Seq.{drop-nil, take-nil}
use Rattle.laws.specs.Joined.{joined}
use Rattle.laws.proofs.Logic.{either_way, clash}
use Rattle.listening.specs.declared.Listener.{Listener}
use Rattle.listening.specs.Hearing.{Told, silence, ci, menu, cj, refusal, HearOutcome, ManyOutcome, taking, heard_in, silent, listened, heard_bits}
use Rattle.listening.proofs.Ranges.{Fits, fits_range, heard_in_fits, heard_inside}
use Rattle.listening.proofs.Many.{listened_takes, listened_fits, bits_in}
use Rattle.stretches.specs.Hearing.{once_heard, Report, noted, reports, Handed, all, taken, call}

pub is_silence : (t : Told) → silent t ≡ true → t ≡ silence
is_silence silence e = refl
is_silence (ci span) e = clash (sym e)
is_silence (menu agreed span) e = clash (sym e)
is_silence cj e = clash (sym e)
is_silence (refusal n) e = clash (sym e)

-- a call, and the bits that it did not take
abbrev On : Listener → List ℕ → List ℕ → ℕ → ManyOutcome → Type 0
On rec bits rest n m = reports rec (bits ++ rest) ≡ noted m.report m.rec.msg (reports m.rec (drop (m.taken - n) bits ++ rest))

listened_on : (bits rest : List ℕ) (rec : Listener) (n : ℕ) → Fits rec → On rec bits rest n (listened rec bits n)
unfolding listened reports
listened_on [] rest rec n fits = ap (λ (l : List ℕ). reports rec (l ++ rest)) (sym (drop-nil (n - n)))
listened_on (bit ∷ bits) rest rec n fits =
    let is = heard_inside rec bit (fits_range rec fits) in
    let next = heard_in rec bit in
    let later = listened next.rec bits (n + 1) in
    let first : reports rec (bit ∷ bits ++ rest) ≡ noted next.report next.rec.msg (reports next.rec (bits ++ rest)) = rw is in
    either_way (On rec (bit ∷ bits) rest n) (silent next.report) later (taking next (n + 1))
    (λ quiet.
    let taken_more : later.taken - n ≡ suc (later.taken - (n + 1)) = omega (arith, (listened_takes next.rec bits (n + 1)).least) in
    first ∙ ap (λ (t : Told). noted t next.rec.msg (reports next.rec (bits ++ rest))) (is_silence next.report quiet)
    ∙ listened_on bits rest next.rec (n + 1) (heard_in_fits rec bit fits)
    ∙ ap (λ (k : ℕ). noted later.report later.rec.msg (reports later.rec (drop k (bit ∷ bits) ++ rest))) (sym taken_more))
    (λ _.
    let one : n + 1 - n ≡ 1 = omega arith in
    first ∙ ap (λ (k : ℕ). noted next.report next.rec.msg (reports next.rec (drop k (bit ∷ bits) ++ rest))) (sym one))

-- and it leaves the record that those bits leave
abbrev Leaves : Listener → List ℕ → ℕ → ManyOutcome → Type 0
Leaves rec bits n m = m.rec ≡ once_heard rec (take (m.taken - n) bits)

listened_leaves : (bits : List ℕ) (rec : Listener) (n : ℕ) → Fits rec → Leaves rec bits n (listened rec bits n)
unfolding listened once_heard
listened_leaves [] rec n fits = ap (once_heard rec) (sym (take-nil (n - n)))
listened_leaves (bit ∷ bits) rec n fits =
    let is = heard_inside rec bit (fits_range rec fits) in
    let next = heard_in rec bit in
    let later = listened next.rec bits (n + 1) in
    either_way (Leaves rec (bit ∷ bits) n) (silent next.report) later (taking next (n + 1))
    (λ _.
    let taken_more : later.taken - n ≡ suc (later.taken - (n + 1)) = omega (arith, (listened_takes next.rec bits (n + 1)).least) in
    listened_leaves bits next.rec (n + 1) (heard_in_fits rec bit fits)
    ∙ ap (λ (o : HearOutcome). once_heard o.rec (take (later.taken - (n + 1)) bits)) (sym is)
    ∙ ap (λ (k : ℕ). once_heard rec (take k (bit ∷ bits))) (sym taken_more))
    (λ _.
    let one : n + 1 - n ≡ 1 = omega arith in
    ap (λ (o : HearOutcome). o.rec) (sym is) ∙ ap (λ (k : ℕ). once_heard rec (take k (bit ∷ bits))) (sym one))

pub call_leaves : (part : List ℕ) (rec : Listener) → Fits rec → (heard_bits rec part).rec ≡ once_heard rec (take (heard_bits rec part).taken part)
call_leaves part rec fits =
    let m = listened rec part 0 in
    let from_0 : m.taken - 0 ≡ m.taken = omega arith in
    rw (bits_in rec part fits) (listened_leaves part rec 0 fits ∙ ap (λ (k : ℕ). once_heard rec (take k part)) from_0)

call_on : (part rest : List ℕ) (rec : Listener) → Fits rec → reports rec (part ++ rest) ≡ noted (heard_bits rec part).report (heard_bits rec part).rec.msg (reports (heard_bits rec part).rec (drop (heard_bits rec part).taken part ++ rest))
call_on part rest rec fits =
    let m = listened rec part 0 in
    let from_0 : m.taken - 0 ≡ m.taken = omega arith in
    rw (bits_in rec part fits) (listened_on part rest rec 0 fits ∙ ap (λ (k : ℕ). noted m.report m.rec.msg (reports m.rec (drop k part ++ rest))) from_0)

call_fits : (part : List ℕ) (rec : Listener) → Fits rec → Fits (heard_bits rec part).rec
call_fits part rec fits = rw (bits_in rec part fits) (listened_fits rec part 0 fits)

-- what is noted is what bit after bit reports
pub parts_told : (rec : Listener) (parts : List (List ℕ)) (told : List Report) → Fits rec → Handed rec parts told → told ≡ reports rec (joined parts)
unfolding joined reports
parts_told rec [] told fits all = refl
parts_told rec ([] ∷ parts) told fits (taken later) = parts_told rec parts told fits later
parts_told rec (part ∷ parts) told fits (call {told = later-told} later) =
    ap (noted (heard_bits rec part).report (heard_bits rec part).rec.msg) (parts_told (heard_bits rec part).rec (drop (heard_bits rec part).taken part ∷ parts) later-told (call_fits part rec fits) later) ∙ sym (call_on part (joined parts) rec fits)

-- and the calls come to an end, however the bits are parted: each leaves less of a part
module _ (parts : List (List ℕ)) (behind : (next : Listener) → Fits next → Handed next parts (reports next (joined parts))) where
  abbrev Ends : List ℕ → Listener → Type 0
  Ends part rec = Handed rec (part ∷ parts) (reports rec (joined (part ∷ parts)))

  one_call : (part : List ℕ) (rec : Listener) → Fits rec → ((less : List ℕ) (next : Listener) → length less < length part → Fits next → Ends less next) → Ends part rec
  unfolding joined
  one_call [] rec fits later = taken (behind rec fits)
  one_call (bit ∷ part) rec fits later =
      let m = heard_bits rec (bit ∷ part) in
      let some : 0 < m.taken = rw (bits_in rec (bit ∷ part) fits) ((listened_takes rec (bit ∷ part) 0).some (omega arith)) in
      rw (call_on (bit ∷ part) (joined parts) rec fits) (call (later (drop m.taken (bit ∷ part)) m.rec (omega (arith, length-drop m.taken (bit ∷ part), some)) (call_fits (bit ∷ part) rec fits)))

  calls_end : (left : ℕ) (part : List ℕ) (rec : Listener) → length part ≤ left → Fits rec → Ends part rec
  calls_end zero part rec few fits = one_call part rec fits (λ less next shorter fits'. absurd (omega arith))
  calls_end (suc left) part rec few fits = one_call part rec fits (λ less next shorter fits'. calls_end left less next (omega arith) fits')

pub parts_end : (parts : List (List ℕ)) (rec : Listener) → Fits rec → Handed rec parts (reports rec (joined parts))
unfolding joined reports
parts_end [] rec fits = all
parts_end (part ∷ parts) rec fits = calls_end parts (parts_end parts) (length part) part rec (omega arith) fits
