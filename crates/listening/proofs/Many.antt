-- Many bits, one at a time: what a loop over them cites. The idea is `advanced_heard`: to hear bits up to the first that asks for something, and
-- then to do what it asks, is to hear them one by one.
-- Assumes nothing.
use Prim.Native.Nat.{ℕ, zero, suc, ◌<◌, ◌≤◌, ◌+◌}
use native.Mathlib.Numerals.{add-one}
use native.Mathlib.Omega.{arith}
use mathlib.Core.Path.{◌≡◌, refl, sym, ap, ◌∙◌}
use mathlib.Core.Bool.{Bool, true, false}
use mathlib.Core.List.{List, [], ◌∷◌}
use borrow.Author.Tests.{lt-ltb, le-ltb, ne_eqb, ltb-true, ltb-false, eqb-true, eqb-false}
use lib.Dec.{ltb, eqb}
use lib.ListN.{length, drop, get_or, drop_of_length-le}
use lib.Seq.{drop-cons}
use Rattle.laws.specs.Logic.{when}
use Rattle.laws.proofs.Logic.{either_way}
use Rattle.framing.specs.declared.Turned.{Turned}
use Rattle.framing.specs.Framing.{report, tell_cj, turned_by}
use Rattle.leaps.specs.declared.Advanced.{Advanced}
use Rattle.leaps.specs.Leaps.{advanced_to, advanced}
use Rattle.leaps.proofs.Steps.{advanced_end, advanced_on, advanced_asked}
use Rattle.listening.specs.declared.Message.{Message}
use Rattle.listening.specs.declared.Listener.{Listener}
use Rattle.listening.specs.declared.Messages.{Messages}
use Rattle.listening.specs.Hearing.{Told, silence, ci, menu, cj, refusal, ManyOutcome, taking, listener_of, changed, agreed, reported, told, told_alone, acted, heard_in, silent, listened, heard_bits}
use Rattle.listening.proofs.Acts.{messages_other}
use Rattle.listening.proofs.Ranges.{Fits, fits_range, heard_in_fits}

-- acts below a report tell nothing, and the others something
pub told_quiet : (act : ℕ) (m last : Message) → act < report → told act m last ≡ silence
unfolding told told_alone when
told_quiet act m last low = simp (ne_eqb act report (λ z. omega (arith, low, z)), lt-ltb act report low)

abbrev Loud : Told → Type 0
Loud t = silent t ≡ false

reported_loud : (m last : Message) → Loud (reported m last)
unfolding reported
reported_loud m last = either_way Loud (eqb m.kind 1) (ci _) (menu (agreed m last) _) (λ _. refl) (λ _. refl)

told_loud : (act : ℕ) (m last : Message) → report ≤ act → Loud (told act m last)
unfolding told told_alone
told_loud act m last high =
    either_way Loud (eqb act report) (reported m last) _ (λ _. reported_loud m last)
    (λ _. either_way Loud (ltb act report) silence _ (λ low. absurd (let z : ⊥ = omega (arith, ltb-true act report low) in z))
    (λ _. either_way Loud (eqb act tell_cj) cj (refusal _) (λ _. refl) (λ _. refl)))

-- the record behind a bit that tells nothing
abbrev pub behind : Listener → Turned → Listener
behind rec t = record { ear = t.ear; msg = changed rec.msg t.act t.ear.past; last = rec.last }

-- what follows where bits were heard up to the first that asks for something
abbrev pub last_turn : Advanced → Turned
last_turn a = record { ear = a.ear; act = a.act }

abbrev pub onward : Listener → List ℕ → Advanced → ManyOutcome
onward rec s a = when (ltb a.act report) (listened (behind rec (last_turn a)) (drop a.at s) a.at) (taking (acted rec (last_turn a)) a.at)

module _ (rec : Listener) (s : List ℕ) (a : Advanced) where
  pub onward_told : report ≤ a.act → onward rec s a ≡ taking (acted rec (last_turn a)) a.at
  unfolding when
  onward_told high = simp (le-ltb a.act report high)

  pub onward_quiet : a.act < report → onward rec s a ≡ listened (behind rec (last_turn a)) (drop a.at s) a.at
  unfolding when
  onward_quiet low = simp (lt-ltb a.act report low)

-- one bit of many
module _ (rec : Listener) (s : List ℕ) (i n : ℕ) where
  pub listened_end : length s ≤ i → listened rec (drop i s) n ≡ record { report = silence; rec = rec; taken = n }
  unfolding listened
  listened_end past = simp (drop_of_length-le s past)

  module _ (there : i < length s) (turn : Turned) (is-turn : turn ≡ turned_by rec.ear rec.msg.len (get_or s i 0)) where
    heard_turn : heard_in rec (get_or s i 0) ≡ acted rec turn
    unfolding heard_in
    heard_turn = ap (acted rec) (sym is-turn)

    listened_quiet : turn.act < report → listened rec (drop i s) n ≡ listened (behind rec turn) (drop (i + 1) s) (n + 1)
    unfolding listened when acted
    listened_quiet low =
        let quiet : silent (acted rec turn).report ≡ true = ap silent (told_quiet turn.act rec.msg rec.last low) in
        simp (drop-cons s i 0 there, heard_turn, quiet, add-one i) (ap (λ (messages : Messages). listened (listener_of turn.ear messages) (drop (suc i) s) (n + 1)) (sym (messages_other rec.msg rec.last turn.act turn.ear.past (λ z. omega (arith, low, z)))))

    listened_told : report ≤ turn.act → listened rec (drop i s) n ≡ taking (acted rec turn) (n + 1)
    unfolding listened when acted
    listened_told high = simp (drop-cons s i 0 there, heard_turn, told_loud turn.act rec.msg rec.last high)

-- many bits are heard as one is
module _ (s : List ℕ) where
  first_heard : (rec : Listener) (i : ℕ) → i < length s → listened rec (drop i s) i ≡ onward rec s (advanced_to (turned_by rec.ear rec.msg.len (get_or s i 0)) (i + 1))
  first_heard rec i there =
      let turn = turned_by rec.ear rec.msg.len (get_or s i 0) in
      either_way (λ (m : ManyOutcome). listened rec (drop i s) i ≡ m) (ltb turn.act report) _ _
      (λ quiet. listened_quiet rec s i i there turn refl (ltb-true turn.act report quiet))
      (λ told. listened_told rec s i i there turn refl (ltb-false turn.act report told))

  module _ (rec : Listener) (i : ℕ) (later : (next : Listener) → i < length s → listened next (drop (i + 1) s) (i + 1) ≡ onward next s (advanced next.ear next.msg.len (drop (i + 1) s) (i + 1))) where
    by_act : i < length s → (asks : Bool) → eqb (turned_by rec.ear rec.msg.len (get_or s i 0)).act 0 ≡ asks → listened rec (drop i s) i ≡ onward rec s (advanced rec.ear rec.msg.len (drop i s) i)
    unfolding changed when acted
    by_act there true tested =
        let turn = turned_by rec.ear rec.msg.len (get_or s i 0) in
        let none = eqb-true turn.act 0 tested in
        let next : Listener = record { ear = turn.ear; msg = rec.msg; last = rec.last } in
        let on : onward rec s (advanced_to turn (i + 1)) ≡ listened next (drop (i + 1) s) (i + 1) = ap (λ (act : ℕ). onward rec s (record { ear = turn.ear; act = act; at = i + 1 })) none in
        first_heard rec i there ∙ on ∙ later next there ∙ ap (onward rec s) (sym (advanced_on rec.ear rec.msg.len s i i there turn refl none))
    by_act there false tested =
        let turn = turned_by rec.ear rec.msg.len (get_or s i 0) in
        first_heard rec i there ∙ ap (onward rec s) (sym (advanced_asked rec.ear rec.msg.len s i i there turn refl (eqb-false turn.act 0 tested)))

    by_end : (more : Bool) → ltb i (length s) ≡ more → listened rec (drop i s) i ≡ onward rec s (advanced rec.ear rec.msg.len (drop i s) i)
    unfolding changed when
    by_end true tested = by_act (ltb-true i (length s) tested) (eqb (turned_by rec.ear rec.msg.len (get_or s i 0)).act 0) refl
    by_end false tested = ap (onward rec s) (sym (advanced_end rec.ear rec.msg.len s i i (ltb-false i (length s) tested)))

  left_heard : (left : ℕ) (rec : Listener) (i : ℕ) → length s ≤ i + left → listened rec (drop i s) i ≡ onward rec s (advanced rec.ear rec.msg.len (drop i s) i)
  left_heard zero rec i all = by_end rec i (λ next more. absurd (let z : ⊥ = omega arith in z)) (ltb i (length s)) refl
  left_heard (suc left) rec i all = by_end rec i (λ next more. left_heard left next (i + 1) (omega arith)) (ltb i (length s)) refl

  pub advanced_heard : (rec : Listener) (i : ℕ) → listened rec (drop i s) i ≡ onward rec s (advanced rec.ear rec.msg.len (drop i s) i)
  advanced_heard rec i = left_heard (length s) rec i (omega arith)

-- of some bits at least one is taken, and no more than there are
module _ (bits : List ℕ) where
  pub record Takes (n : ℕ) (m : ManyOutcome) : Type 0 where
    pub least : n ≤ m.taken
    pub some : 0 < length bits → n < m.taken
    pub most : m.taken ≤ n + length bits

pub listened_takes : (rec : Listener) (bits : List ℕ) (n : ℕ) → Takes bits n (listened rec bits n)
unfolding listened
listened_takes rec [] n = record { least = omega arith; some = λ h. absurd (let z : ⊥ = omega arith in z); most = omega arith }
listened_takes rec (bit ∷ bits) n =
    either_way (Takes (bit ∷ bits) n) (silent (heard_in rec bit).report) (listened (heard_in rec bit).rec bits (n + 1)) _
    (λ _. let later = listened_takes (heard_in rec bit).rec bits (n + 1) in record { least = omega (arith, later.least); some = λ _. omega (arith, later.least); most = omega (arith, later.most) })
    (λ _. record { least = omega arith; some = λ _. omega arith; most = omega arith })

-- many bits keep a record in range, as one does
pub listened_fits : (rec : Listener) (bits : List ℕ) (n : ℕ) → Fits rec → Fits (listened rec bits n).rec
unfolding listened
listened_fits rec [] n fits = fits
listened_fits rec (bit ∷ bits) n fits =
    either_way (λ (m : ManyOutcome). Fits m.rec) (silent (heard_in rec bit).report) (listened (heard_in rec bit).rec bits (n + 1)) _
    (λ _. listened_fits (heard_in rec bit).rec bits (n + 1) (heard_in_fits rec bit fits))
    (λ _. heard_in_fits rec bit fits)

-- and so says what is laid down for them
pub bits_in : (rec : Listener) (bits : List ℕ) → Fits rec → heard_bits rec bits ≡ listened rec bits 0
unfolding when
bits_in rec bits fits = simp (fits_range rec fits)
