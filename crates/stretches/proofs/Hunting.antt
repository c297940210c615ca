-- A fresh reader hunts on, silently, through bits in which no ten 1s stand with a 0 behind them. Invariant: its past holds the bits so far,
-- so a 0 that starts a sync has ten 1s before it among them.
-- Assumes nothing.
use Prim.Native.Nat.{ℕ}
use mathlib.Core.Path.{◌≡◌, refl, sym, ap, ◌∙◌}
use mathlib.Core.List.{List, [], ◌∷◌, ◌++◌, append_assoc, append-nil}
use borrow.Author.Tests.{eqb-true}
use lib.Dec.{eqb, lit<}
use Rattle.laws.specs.Logic.{when, both}
use Rattle.laws.proofs.Logic.{either_way, both_true}
use Rattle.sequences.specs.Line.{ten_ones}
use Rattle.listening.specs.declared.Message.{Message}
use Rattle.listening.specs.declared.Listener.{Listener}
use Rattle.framing.specs.Framing.{pushed, last_ten, hunted, placed}
use Rattle.listening.specs.Hearing.{changed, told, told_alone, acted}
use Rattle.listening.specs.Record.{empty, fresh}
use Rattle.framing.proofs.Words.{hearing}
use Rattle.stretches.specs.Stretch.{Nowhere}
use Rattle.stretches.proofs.Each.{none, more, each_append, Bits}
use Rattle.stretches.proofs.Words.{start}
use Rattle.stretches.proofs.Past.{hearing_small, hearing_append, ones_heard}
use Rattle.stretches.proofs.Plain.{plain, after}
use Rattle.stretches.proofs.Sequences.{Goes, goes_on, goes_with, At, here, Idle}

hunt_one : (past bit : ℕ) (msg : Message) {rec : Listener} → hunted past bit ≡ 0 → At 0 past msg rec → Goes rec (bit ∷ []) [] (At 0 (pushed past bit) msg)
unfolding plain after acted placed told told_alone changed when
hunt_one past bit msg e (here heard last) = record { tells = refl; leaves = rw e (here _ last) }

-- behind bits that were heard
starts_not : (sofar : List ℕ) (bit : ℕ) (bits : List ℕ) → Bits sofar → Nowhere start (sofar ++ bit ∷ bits) → hunted (hearing 0 sofar) bit ≡ 0
unfolding hunted
starts_not sofar bit bits bits-sofar never =
    either_way (λ (n : ℕ). n ≡ 0) (both (eqb bit 0) (eqb (last_ten (hearing 0 sofar)) 1023)) 1 0
    (λ t.
    let tests = both_true _ _ t in
    let ones = ones_heard sofar bits-sofar (eqb-true _ _ tests.1) in
    let whole : ones.0 ++ start ++ bits ≡ sofar ++ 0 ∷ bits = simp append_assoc (sym (append_assoc ones.0 ten_ones (0 ∷ bits)) ∙ ap (λ (l : List ℕ). l ++ 0 ∷ bits) ones.1) in
    absurd (never ones.0 bits (whole ∙ ap (λ (b : ℕ). sofar ++ b ∷ bits) (sym (eqb-true _ _ tests.0)))))
    (λ _. refl)

hunts_on : (bits sofar : List ℕ) (msg : Message) (rec : Listener) → Bits sofar → Bits bits → Nowhere start (sofar ++ bits) → At 0 (hearing 0 sofar) msg rec → Goes rec bits [] (At 0 (hearing 0 (sofar ++ bits)) msg)
unfolding plain after
hunts_on [] sofar msg rec bits-sofar none never place = record { tells = refl; leaves = rw append-nil place }
hunts_on (bit ∷ bits) sofar msg rec bits-sofar (more low lows) never place =
    goes_on (hunt_one (hearing 0 sofar) bit msg (starts_not sofar bit bits bits-sofar never) place)
    (λ next at.
    rw (← (append_assoc sofar (bit ∷ []) bits))
    (hunts_on bits (sofar ++ bit ∷ []) msg next (each_append bits-sofar (more low none)) lows (rw append_assoc never) (rw hearing_append at)))

pub fresh_hunts : (bits : List ℕ) → Bits bits → Nowhere start bits → Goes fresh bits [] Idle
fresh_hunts bits lows never =
    goes_with (hunts_on bits [] empty fresh none lows never (here 0 empty))
    (λ next place. record { past = hearing 0 bits; msg = empty; place = place; small = hearing_small 0 bits (lit< tt) lows; full = refl })
