-- The test of a record's ranges says its facts; and a fresh record is in range, and stays there whatever is heard: a bit leaves the ear
-- in range, and no act makes a message longer than 64 octets.
-- Assumes nothing.
use Prim.Native.Nat.{ℕ, ◌≤◌}
use native.Mathlib.Omega.{arith}
use mathlib.Core.Path.{◌≡◌}
use mathlib.Core.Bool.{true, false}
use borrow.Author.Tests.{leb-true, le-leb}
use lib.Dec.{eqb, lit≤}
use Rattle.laws.specs.Logic.{when, both}
use Rattle.laws.proofs.Logic.{either_way, both_true}
use Rattle.framing.specs.declared.Turned.{Turned}
use Rattle.framing.specs.Framing.{octet_of, start_ci, start_menu, store, report, turned_by}
use Rattle.framing.proofs.Ranges.{EarFits, ear_fits, turned_by_fits}
use Rattle.listening.specs.declared.Message.{Message}
use Rattle.listening.specs.declared.Listener.{Listener}
use Rattle.listening.specs.Record.{message_in_range, in_range, fresh}
use Rattle.listening.specs.Hearing.{started, stored, changed, acted, refused_bit, heard_in, heard_bit}

-- the ranges, as facts
pub record MessageFits (m : Message) : Type 0 where
  pub kind : m.kind ≤ 2
  pub len : m.len ≤ 64

pub record Fits (rec : Listener) : Type 0 where
  pub ear : EarFits rec.ear
  pub msg : MessageFits rec.msg
  pub last : MessageFits rec.last

message_fits : (m : Message) → message_in_range m.kind m.len ≡ true → MessageFits m
message_fits m tested = let parts = both_true _ _ tested in record { kind = leb-true _ _ parts.0; len = leb-true _ _ parts.1 }

pub range_fits : (rec : Listener) → in_range rec ≡ true → Fits rec
range_fits rec tested =
    let parts = both_true _ _ tested in
    let messages = both_true _ _ parts.1 in
    record { ear = ear_fits rec.ear parts.0; msg = message_fits rec.msg messages.0; last = message_fits rec.last messages.1 }

pub fits_range : (rec : Listener) → Fits rec → in_range rec ≡ true
unfolding both
fits_range rec fits =
    simp (le-leb _ _ fits.ear.heard, le-leb _ _ fits.ear.place, le-leb _ _ fits.msg.kind, le-leb _ _ fits.msg.len, le-leb _ _ fits.last.kind, le-leb _ _ fits.last.len)

pub fresh_fits : Fits fresh
fresh_fits = record {
  ear = record { heard = lit≤ tt; place = lit≤ tt };
  msg = record { kind = lit≤ tt; len = lit≤ tt };
  last = record { kind = lit≤ tt; len = lit≤ tt };
}

-- the message stays in range
pub changed_fits : (m : Message) (act past : ℕ) → MessageFits m → MessageFits (changed m act past)
unfolding changed
changed_fits m act past fits =
    either_way MessageFits (eqb act start_ci) (started m 1) _ (λ _. record { kind = lit≤ tt; len = lit≤ tt })
    (λ _. either_way MessageFits (eqb act start_menu) (started m 2) _ (λ _. record { kind = lit≤ tt; len = lit≤ tt })
    (λ _. either_way MessageFits (eqb act store) (stored m (octet_of past)) m (λ _. record { kind = fits.kind; len = omega arith }) (λ _. fits)))

pub acted_fits : (rec : Listener) (t : Turned) → Fits rec → EarFits t.ear → Fits (acted rec t).rec
unfolding acted
acted_fits rec t fits ear = record {
  ear = ear;
  msg = changed_fits rec.msg t.act t.ear.past fits.msg;
  last = either_way MessageFits (eqb t.act report) rec.msg rec.last (λ _. fits.msg) (λ _. fits.last);
}

pub heard_in_fits : (rec : Listener) (bit : ℕ) → Fits rec → Fits (heard_in rec bit).rec
unfolding heard_in
heard_in_fits rec bit fits = acted_fits rec (turned_by rec.ear rec.msg.len bit) fits (turned_by_fits rec.ear rec.msg.len bit fits.ear)

-- every call keeps a record in range; one that is not is refused and keeps its value
pub heard_range : (rec : Listener) (bit : ℕ) → in_range rec ≡ true → in_range (heard_bit rec bit).rec ≡ true
unfolding when
heard_range rec bit tested = simp tested (fits_range (heard_in rec bit).rec (heard_in_fits rec bit (range_fits rec tested)))

pub heard_inside : (rec : Listener) (bit : ℕ) → in_range rec ≡ true → heard_bit rec bit ≡ heard_in rec bit
unfolding when
heard_inside rec bit tested = simp tested

pub heard_outside : (rec : Listener) (bit : ℕ) → in_range rec ≡ false → heard_bit rec bit ≡ refused_bit 10 rec
unfolding when
heard_outside rec bit tested = simp tested
