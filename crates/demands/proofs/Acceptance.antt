-- The writer accepts exactly what document 01 says: its list of faults, one octet at a time, has none exactly where each octet is accepted.
-- Assumes nothing.
use Prim.Native.Nat.{ℕ, ◌<◌}
use native.Mathlib.Omega.{arith}
use mathlib.Core.Path.{◌≡◌, refl, sym, ap, ◌∙◌}
use mathlib.Core.Bool.{Bool, true, false}
use mathlib.Core.List.{List, [], ◌∷◌}
use borrow.Author.Tests.{le-ltb}
use lib.ListN.{length, drop}
use Rattle.laws.specs.Logic.{when, both}
use Rattle.laws.specs.Tests.{every}
use Rattle.laws.proofs.Logic.{both_true, clash}
use Rattle.octets.specs.declared.Kind.{Kind}
use Rattle.octets.specs.declared.Purpose.TheVariants.{Writing}
use Rattle.octets.specs.Octets.{bad}
use Rattle.octets.specs.Lists.{octet_fault, first_fault, accepts, opens, list_fault}
use Rattle.octets.proofs.EachOctet.{accepts_or_refuses}
use Rattle.octets.proofs.Lists.{accepted_short, accepted_opens, accepted_rest, before_none}
use Rattle.demands.specs.Acceptance.{WriterAccepts, WriterAcceptsExactly}

by_fault : (taken isBad : Bool) → ◌≡◌ {A = ℕ} (when taken 0 (when isBad 3 12)) 0 → taken ≡ true
unfolding when
by_fault true isBad e = refl
by_fault false true e = absurd (let z : ⊥ = omega (arith, e) in z)
by_fault false false e = absurd (let z : ⊥ = omega (arith, e) in z)

octet_accepted : (kind : Kind) (b : ℕ) → octet_fault (Writing kind) b ≡ 0 → accepts kind b ≡ true
octet_accepted kind b fine = by_fault (accepts kind b) (bad b) (sym (accepts_or_refuses kind b) ∙ fine)

others_accepted : (kind : Kind) (octets : List ℕ) → first_fault (Writing kind) octets ≡ 0 → every (accepts kind) octets ≡ true
unfolding first_fault every both
others_accepted kind [] fine = refl
others_accepted kind (b ∷ octets) fine =
    let parts = before_none (octet_fault (Writing kind) b) (first_fault (Writing kind) octets) fine in
    simp (octet_accepted kind b parts.0, others_accepted kind octets parts.1)

octet_accepting : (kind : Kind) (b : ℕ) → accepts kind b ≡ true → octet_fault (Writing kind) b ≡ 0
unfolding when
octet_accepting kind b taken = accepts_or_refuses kind b ∙ ap (λ (t : Bool). when t 0 (when (bad b) 3 12)) taken

others_accepting : (kind : Kind) (octets : List ℕ) → every (accepts kind) octets ≡ true → first_fault (Writing kind) octets ≡ 0
unfolding first_fault every when
others_accepting kind [] taken = refl
others_accepting kind (b ∷ octets) taken =
    let parts = both_true _ _ taken in
    simp (octet_accepting kind b parts.0, others_accepting kind octets parts.1)

some_open : (octets : List ℕ) → opens octets ≡ true → 0 < length octets
some_open [] opened = clash (sym opened)
some_open (b ∷ octets) opened = omega arith

list_accepting : (kind : Kind) (octets : List ℕ) → WriterAccepts kind octets → list_fault (Writing kind) octets ≡ 0
unfolding when
list_accepting kind octets accepted = simp (le-ltb 64 (length octets) accepted.few, accepted.first, others_accepting kind (drop 1 octets) accepted.others)

pub writer_accepts_exactly : WriterAcceptsExactly
writer_accepts_exactly = record {
  accepted = λ kind octets fine.
      let opened = accepted_opens (Writing kind) octets fine in
      record {
        some = some_open octets opened;
        few = accepted_short (Writing kind) octets fine;
        first = opened;
        others = others_accepted kind (drop 1 octets) (accepted_rest (Writing kind) octets fine);
      };
  accepting = list_accepting;
}
