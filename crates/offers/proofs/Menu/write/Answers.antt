-- `offers::Menu::write` meets its contract: each of the five groups is written behind those before it, and all of them are the menu.
-- Assumes nothing.
use Prim.Native.Nat.{ℕ}
use native.Mathlib.Omega.{arith}
use mathlib.Core.Path.{ap, ◌∙◌}
use lib.Dec.{ltb}
use lib.ListN.{length-append}
use Rattle.offers.specs.Making.{one_octet, modulation_group}
use Rattle.offers.proofs.Making.{modulation_length, menu_length, lone_length, lone_then, five_groups}
use Rattle.offers.proofs.Writing.{room_behind, write_behind, same_written}
use Rattle.offers.proofs.Menu.write.Goals as goal

pub write_octet-at-requires : goal.write_octet-at-requires
write_octet-at-requires c = let menu = c.args.self.now in omega (arith, c.requires, menu_length menu.count menu.offer)

pub write_modulation-at-requires : goal.write_modulation-at-requires
write_modulation-at-requires c =
    let menu = c.args.self.now in
    let whole = modulation_length menu.offer.items menu.count in
    omega (arith, whole, room_behind _ (modulation_group menu.count menu.offer.items) _ _ _ c.write_octet-at.ensures (omega (arith, whole, c.requires, menu_length menu.count menu.offer)))

pub write_octet-at-requires-2 : goal.write_octet-at-requires-2
write_octet-at-requires-2 c =
    let menu = c.args.self.now in
    let whole = modulation_length menu.offer.items menu.count in
    let sizes = menu_length menu.count menu.offer in
    let two = write_behind _ _ _ _ _ c.write_octet-at.ensures (omega (arith, whole, c.requires, sizes)) _ _ c.write_modulation-at.ensures in
    room_behind _ _ _ _ _ two (omega (arith, whole, c.requires, sizes, lone_length _ _ _ c.then_some.ensures))

pub write_octet-at-requires-3 : goal.write_octet-at-requires-3
write_octet-at-requires-3 c =
    let menu = c.args.self.now in
    let whole = modulation_length menu.offer.items menu.count in
    let sizes = menu_length menu.count menu.offer in
    let pcm = lone_length _ _ _ c.then_some.ensures in
    let two = write_behind _ _ _ _ _ c.write_octet-at.ensures (omega (arith, whole, c.requires, sizes)) _ _ c.write_modulation-at.ensures in
    let three = write_behind _ _ _ _ _ two (omega (arith, whole, c.requires, sizes, pcm)) _ _ c.write_octet-at-2.ensures in
    room_behind _ _ _ _ _ three (omega (arith, whole, c.requires, sizes, pcm, lone_length _ _ _ c.then_some-2.ensures, length-append {A = ℕ}))

pub write_octet-requires : goal.write_octet-requires
write_octet-requires c =
    let menu = c.args.self.now in
    let whole = modulation_length menu.offer.items menu.count in
    let sizes = menu_length menu.count menu.offer in
    let pcm = lone_length _ _ _ c.then_some.ensures in
    let lapm = lone_length _ _ _ c.then_some-2.ensures in
    let two = write_behind _ _ _ _ _ c.write_octet-at.ensures (omega (arith, whole, c.requires, sizes)) _ _ c.write_modulation-at.ensures in
    let three = write_behind _ _ _ _ _ two (omega (arith, whole, c.requires, sizes, pcm)) _ _ c.write_octet-at-2.ensures in
    let four = write_behind _ _ _ _ _ three (omega (arith, whole, c.requires, sizes, pcm, lapm, length-append {A = ℕ})) _ _ c.write_octet-at-3.ensures in
    room_behind _ _ _ _ _ four (omega (arith, whole, c.requires, sizes, pcm, lapm, lone_length _ _ _ c.then_some-3.ensures, length-append {A = ℕ}))

pub returns : goal.returns
returns c =
    let menu = c.args.self.now in
    let offer = menu.offer in
    let whole = modulation_length offer.items menu.count in
    let sizes = menu_length menu.count offer in
    let pcm = lone_length _ _ _ c.then_some.ensures in
    let lapm = lone_length _ _ _ c.then_some-2.ensures in
    let two = write_behind _ _ _ _ _ c.write_octet-at.ensures (omega (arith, whole, c.requires, sizes)) _ _ c.write_modulation-at.ensures in
    let three = write_behind _ _ _ _ _ two (omega (arith, whole, c.requires, sizes, pcm)) _ _ c.write_octet-at-2.ensures in
    let four = write_behind _ _ _ _ _ three (omega (arith, whole, c.requires, sizes, pcm, lapm, length-append {A = ℕ})) _ _ c.write_octet-at-3.ensures in
    let five = write_behind _ _ _ _ _ four (omega (arith, whole, c.requires, sizes, pcm, lapm, lone_length _ _ _ c.then_some-3.ensures, length-append {A = ℕ})) _ _ c.write_octet.ensures in
    same_written _ _ _ _ _
    (five_groups menu.count offer menu.call _ _ _ menu.call_says
    (lone_then _ _ _ c.then_some.ensures ∙ ap (one_octet (ltb 0 offer.pcm)) c.category_octet-pcm.ensures)
    (lone_then _ _ _ c.then_some-2.ensures ∙ ap (one_octet offer.lapm) c.category_octet-protocol.ensures)
    (lone_then _ _ _ c.then_some-3.ensures ∙ ap (one_octet offer.access) c.category_octet-access.ensures))
    five
