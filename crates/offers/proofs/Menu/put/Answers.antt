-- `offers::Menu::put` meets its contract: the size decides, then the blocks, then the room; the field goes into what is left behind the menu.
-- Assumes nothing.
use borrow.Author.Rules.{rules}
use native.Mathlib.Omega.{arith}
use Prim.Native.Nat.{ℕ, ◌+◌, ◌<◌, ◌≤◌}
use mathlib.Core.Path.{◌≡◌, sym, ◌∙◌}
use mathlib.Core.List.{List, ◌++◌}
use lib.ListN.{length, length-append}
use Rattle.refusals.proofs.Outcomes.{meets_put, meets_accepted}
use Rattle.fields.specs.Field.{field_of}
use Rattle.fields.proofs.Field.{field_most, blocks_fit}
use Rattle.offers.specs.Making.{menu_of}
use Rattle.offers.proofs.Making.{menu_most, size_fits}
use Rattle.offers.proofs.Writing.{room_behind, write_behind, put_there, put_not_refused}
use Rattle.offers.proofs.Menu.put.Goals.{After-field_size, After-write-size}
use Rattle.offers.proofs.Menu.put.Goals as goal

pub overflow_add-whole : goal.overflow_add-whole
overflow_add-whole c =
    let menu = c.args.self.now in
    let bound : length c.args.blocks.now < 9223372036854775808 = search rules in
    omega (arith, bound, field_most c.args.blocks.now, c.field_size.ensures, c.size.ensures, menu_most menu.count menu.offer)

-- the menu with its field, and how many octets both have
abbrev all_of_it : After-field_size → List ℕ
all_of_it c = menu_of c.args.self.now.count c.args.self.now.offer ++ field_of c.args.blocks.now

whole : (c : After-field_size) → c.size.result + c.field_size.result ≡ length (all_of_it c)
whole c =
    omega (arith, length-append (menu_of c.args.self.now.count c.args.self.now.offer) (field_of c.args.blocks.now), c.field_size.ensures, c.size.ensures)

-- there is room for the field behind the menu
fits : (written : After-write-size) → length (menu_of written.args.self.now.count written.args.self.now.offer) + length (field_of written.args.blocks.now) ≤ length written.args.out.now
fits written = omega (arith, written.field_size.ensures, written.size.ensures, written.if-out-whole.false)

pub returns-in_err-field : goal.returns-in_err-field
returns-in_err-field c =
    absurd (put_not_refused (field_of c.args.blocks.now) _ _ (room_behind _ (field_of c.args.blocks.now) _ _ _ c.write-size.ensures (fits (goal.at.returns-in_err-field c).After-write-size)) _ c.in_err-field.ensures)

pub overflow_add-result : goal.overflow_add-result
overflow_add-result c =
    let field = field_of c.args.blocks.now in
    let fit = fits (goal.at.overflow_add-result c).After-write-size in
    let behind = put_there field _ _ (room_behind _ field _ _ _ c.write-size.ensures fit) _ c.in_ok-field.ensures in
    omega (arith, behind.count, c.write-size.ensures.count, fit, c.well_formed)

pub returns : goal.returns
returns c =
    let field = field_of c.args.blocks.now in
    let out = c.args.out.now in
    let sized = (goal.at.returns c).After-field_size in
    let fit = fits (goal.at.returns c).After-write-size in
    let behind = put_there field _ _ (room_behind _ field _ _ _ c.write-size.ensures fit) _ c.in_ok-field.ensures in
    let written = write_behind _ field _ _ _ c.write-size.ensures fit _ _ behind in
    meets_accepted (all_of_it sized) out _ _ _ _ (size_fits (all_of_it sized) (omega (arith, whole sized, c.if-whole-gt-MOST_OCTETS.false)))
    (meets_accepted (all_of_it sized) out _ _ _ _ (blocks_fit c.args.blocks.now (sym c.are_blocks.ensures ∙ c.if-not-are_blocks.false))
    (meets_put (all_of_it sized) out _ _ (omega (arith, whole sized, c.if-out-whole.false)) written.count written.buffer))
