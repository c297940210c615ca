-- `fields::put_field` meets its contract: the room decides; the category octet stands first, and the extension octets go into what is left behind
-- it.
-- Assumes nothing.
use native.Mathlib.Omega.{arith}
use Prim.Native.Nat.{ℕ, ◌-◌, ◌<◌, ◌≤◌}
use mathlib.Core.Path.{◌≡◌, refl, sym, ap, ◌∙◌}
use mathlib.Core.List.{List, [], ◌∷◌}
use borrow.Rule.Slice.PartMut.{put_mid}
use lib.ListN.{length, set}
use Rattle.laws.specs.Front.{front}
use Rattle.laws.proofs.Rest.{front_length, lent_length, front_then}
use Rattle.refusals.proofs.Outcomes.{meets_short, meets_put}
use Rattle.octets.specs.Octets.{category_octet}
use Rattle.fields.specs.Packing.{packed}
use Rattle.fields.specs.Field.{field_tag, field_of}
use Rattle.fields.proofs.Field.{field_none, field_some, field_length, first_put, front_nothing}
use Rattle.fields.proofs.put_field.Goals.{After-pack}
use Rattle.fields.proofs.put_field.Goals as goal

pub returns-then-out-size : goal.returns-then-out-size
returns-then-out-size c =
    meets_short (field_of c.args.octets.now) c.args.out.now (omega (arith, c.field_size-size.ensures, c.if-out-size.true))

-- where the field has octets and there is room for it
module _ (octets out : List ℕ) (size : ℕ) (sized : size ≡ length (field_of octets)) (positive : 0 < size) (fits : size ≤ length out) where
  -- there are octets, since the field has some
  some : length octets ≡ 0 → ⊥
  some none = let z : ⊥ = omega (arith, positive, sized, ap length (field_none octets none)) in z

  room : length (field_of octets) ≤ length out
  room = omega (arith, fits, sized)

  first : (b : ℕ) → b ≡ category_octet field_tag 0 → set out 0 b ≡ front (category_octet field_tag 0 ∷ []) out
  first b e = ap (set out 0) e ∙ first_put (category_octet field_tag 0) out (omega (arith, room, field_length octets some))

-- the whole field stands at the front
written : (c : After-pack) →
    let xs = set c.args.out.now 0 c.category_octet.result in
    put_mid 1 (length xs - 1) xs c.pack.new.out ≡ front (field_of c.args.octets.now) c.args.out.now
written c =
    let octets = c.args.octets.now in
    let out = c.args.out.now in
    let size = c.field_size-size in
    front_then (category_octet field_tag 0 ∷ []) out _ 1 refl (omega (arith, room octets out size.result size.ensures c.if-size-gt0.true c.if-out-size.false, field_length octets (some octets out size.result size.ensures c.if-size-gt0.true c.if-out-size.false)))
    (first octets out size.result size.ensures c.if-size-gt0.true c.if-out-size.false _ c.category_octet.ensures) (packed octets) _ c.pack.ensures.buffer
    ∙ ap (λ (l : List ℕ). front l out) (sym (field_some octets (some octets out size.result size.ensures c.if-size-gt0.true c.if-out-size.false)))

pub pack-requires : goal.pack-requires
pack-requires c =
    let octets = c.args.octets.now in
    let out = c.args.out.now in
    let size = c.field_size-size in
    let sized = room octets out size.result size.ensures c.if-size-gt0.true c.if-out-size.false in
    let extensions = field_length octets (some octets out size.result size.ensures c.if-size-gt0.true c.if-out-size.false) in
    omega (arith, sized, extensions, lent_length (category_octet field_tag 0 ∷ []) out _ 1 refl (omega (arith, sized, extensions)) (first octets out size.result size.ensures c.if-size-gt0.true c.if-out-size.false _ c.category_octet.ensures))

pub shape_of-out : goal.shape_of-out
shape_of-out c =
    ap length (written (goal.at.shape_of-out c).After-pack) ∙ front_length (field_of c.args.octets.now) c.args.out.now (room c.args.octets.now c.args.out.now c.field_size-size.result c.field_size-size.ensures c.if-size-gt0.true c.if-out-size.false)

pub returns-then-size-gt0 : goal.returns-then-size-gt0
returns-then-size-gt0 c =
    meets_put (field_of c.args.octets.now) c.args.out.now _ _ (room c.args.octets.now c.args.out.now c.field_size-size.result c.field_size-size.ensures c.if-size-gt0.true c.if-out-size.false) c.field_size-size.ensures (written (goal.at.returns-then-size-gt0 c).After-pack)

pub returns-else-size-gt0 : goal.returns-else-size-gt0
returns-else-size-gt0 c =
    let field = field_of c.args.octets.now in
    let none : length field ≡ 0 = omega (arith, c.field_size-size.ensures, c.if-size-gt0.false) in
    meets_put field c.args.out.now _ _ (omega (arith, none)) c.field_size-size.ensures (front_nothing field c.args.out.now none)
