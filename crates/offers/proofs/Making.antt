-- The menus we make: each group by its number, how long a menu is, that options are options, and which test refuses a menu.
-- Assumes nothing.
use Prim.Native.Nat.{ℕ, zero, suc, ◌<◌, ◌≤◌, ◌+◌, ◌*◌, ◌/◌}
use native.Mathlib.Nat.{not-suc-le-zero}
use native.Mathlib.Omega.{arith}
use mathlib.Core.Path.{◌≡◌, refl, sym, ap, ap₂, subst, ◌∙◌}
use mathlib.Core.Bool.{Bool, true, false}
use mathlib.Core.List.{List, [], ◌∷◌, ◌++◌, append_assoc, append-nil}
use borrow.Author.Tests.{lt-ltb, le-ltb, ltb-false, ne_eqb}
use lib.Dec.{ltb, lit<}
use mir.Val.{bool_byte}
use Rattle.std.specs.Prelude.{Option, Result}
use Rattle.std.specs.Bool.{then_some}
use lib.ListN.{length, get_or, replicate, length-append}
use Rattle.laws.specs.Logic.{when}
use Rattle.laws.specs.Joined.{joined}
use Rattle.laws.proofs.Logic.{either_way, bit_of_test}
use Rattle.refusals.specs.Refusals.{before}
use Rattle.refusals.specs.declared.Refusal.{Refusal}
use Rattle.refusals.specs.Lent.{room_fault, put, Meets}
use Rattle.laws.specs.Tests.{every}
use Rattle.fields.specs.Blocks.{blocks_fault, blocks_behind}
use Rattle.octets.specs.Octets.{call_function_tag, category_octet}
use Rattle.items.specs.Items.{in_set, no_items, modulation_octet}
use Rattle.items.proofs.Places.{octet_past}
use Rattle.menus.specs.declared.Offer.{Offer}
use Rattle.menus.specs.Offer.{pcm_tag, protocol, lapm_option, access}
use Rattle.menus.specs.Pcm.{paired}
use Rattle.menus.proofs.Pcm.{paired_small}
use Rattle.fields.specs.Field.{field_of}
use Rattle.records.specs.declared.Modes.{Modes}
use Rattle.records.specs.declared.Record.{Record}
use Rattle.records.specs.Record.{in_use, bad_record}
use Rattle.offers.specs.Offering.{bit, access_options, shared_items, jm_pcm}
use Rattle.offers.specs.Making.{one_octet, modulation_from, modulation_group, house_count, menu_of, record_fault, function_fault, with_field, size_fault}
use Rattle.offers.specs.Inner.{lone_octet}

-- a byte that a test is made into is its bit
pub bit_from : (t : Bool) → bool_byte t ≡ bit t
unfolding when
bit_from true = refl
bit_from false = refl

-- an octet that is taken by a test is a group by that test
pub lone_then : (there : Bool) (octet : ℕ) (one : Option ℕ) → one ≡ then_some there octet → lone_octet one ≡ one_octet there octet
unfolding when
lone_then true octet one e = ap lone_octet e
lone_then false octet one e = ap lone_octet e

pub lone_length : (there : Bool) (octet : ℕ) (one : Option ℕ) → one ≡ then_some there octet → length (lone_octet one) ≡ bit there
unfolding when
lone_length true octet one e = ap (λ (o : Option ℕ). length (lone_octet o)) e
lone_length false octet one e = ap (λ (o : Option ℕ). length (lone_octet o)) e

-- five groups, each behind those before it, are the menu
five_joined : (a b c d e : List ℕ) → (((a ++ b) ++ c) ++ d) ++ e ≡ joined (a ∷ b ∷ c ∷ d ∷ e ∷ [])
unfolding joined
five_joined a b c d e = simp (append_assoc, append-nil)

pub five_groups : (count : ℕ) (offer : Offer) (call : ℕ) (pcms protocols accesses : List ℕ) → call ≡ category_octet call_function_tag offer.function
    → pcms ≡ one_octet (ltb 0 offer.pcm) (category_octet pcm_tag offer.pcm)
    → protocols ≡ one_octet offer.lapm (category_octet protocol lapm_option)
    → accesses ≡ one_octet offer.access (category_octet access offer.access_options)
    → ((((call ∷ []) ++ modulation_group count offer.items) ++ pcms) ++ protocols) ++ accesses ≡ menu_of count offer
five_groups count offer call pcms protocols accesses e1 e2 e3 e4 =
    five_joined (call ∷ []) (modulation_group count offer.items) pcms protocols accesses
    ∙ simp (e1, e2, e3, e4)

-- a modulation group has the octets that it is to have, each at its place
module _ (items : ℕ) where
  from_length : (octet count : ℕ) → length (modulation_from items octet count) ≡ count
  unfolding modulation_from
  from_length octet zero = refl
  from_length octet (suc more) = ap suc (from_length (suc octet) more)

  pub modulation_length : (count : ℕ) → length (modulation_group count items) ≡ count
  modulation_length count = from_length 0 count

  from_at : (octet count k : ℕ) → k < count → get_or (modulation_from items octet count) k 0 ≡ modulation_octet items (octet + k)
  unfolding modulation_from
  from_at octet zero k h = absurd (not-suc-le-zero h)
  from_at octet (suc more) zero h = ap (modulation_octet items) (omega arith)
  from_at octet (suc more) (suc k) h = from_at (suc octet) more k (omega (arith, h)) ∙ ap (modulation_octet items) (omega arith)

  pub modulation_at : (count k : ℕ) → k < count → get_or (modulation_group count items) k 0 ≡ modulation_octet items k
  modulation_at count k h = from_at 0 count k h ∙ ap (modulation_octet items) (omega arith)

  -- one behind another: octets past the third are 10 hex
  from_more : (octet count more : ℕ) → modulation_from items octet (count + more) ≡ modulation_from items octet count ++ modulation_from items (octet + count) more
  unfolding modulation_from
  from_more octet zero more =
      let none : 0 + more ≡ more = omega arith in
      let here : octet + 0 ≡ octet = omega arith in
      rw (none, here)
  from_more octet (suc count) more =
      let one : suc count + more ≡ suc (count + more) = omega arith in
      let past : suc octet + count ≡ octet + suc count = omega arith in
      rw (one, sym past) (ap (λ (l : List ℕ). modulation_octet items octet ∷ l) (from_more (suc octet) count more))

  from_past : (octet more : ℕ) → 2 < octet → modulation_from items octet more ≡ replicate more no_items
  unfolding modulation_from
  from_past octet zero past = refl
  from_past octet (suc more) past = ap₂ (λ (b : ℕ) (l : List ℕ). b ∷ l) (octet_past items octet past) (from_past (suc octet) more (omega (arith, past)))

  pub modulation_longer : (count more : ℕ) → (0 < more → 2 < count) → modulation_group (count + more) items ≡ modulation_group count items ++ replicate more no_items
  unfolding modulation_from
  modulation_longer count zero past = from_more 0 count zero
  modulation_longer count (suc more) past = from_more 0 count (suc more) ∙ ap (λ (l : List ℕ). modulation_group count items ++ l) (from_past (0 + count) (suc more) (omega (arith, past (omega arith))))

one_length : (there : Bool) (octet : ℕ) → length (one_octet there octet) ≡ bit there
unfolding when
one_length true octet = refl
one_length false octet = refl

pub menu_length : (count : ℕ) (offer : Offer) → length (menu_of count offer) ≡ 1 + count + bit (ltb 0 offer.pcm) + bit offer.lapm + bit offer.access
unfolding joined
menu_length count offer =
    let group = modulation_group count offer.items in
    let protocols = one_octet offer.lapm (category_octet protocol lapm_option) in
    let pcms = one_octet (ltb 0 offer.pcm) (category_octet pcm_tag offer.pcm) in
    let accesses = one_octet offer.access (category_octet access offer.access_options) in
    omega (arith, length-append group (pcms ++ (protocols ++ (accesses ++ []))), modulation_length offer.items count, length-append pcms (protocols ++ (accesses ++ [])), length-append protocols (accesses ++ []), length-append accesses [], one_length (ltb 0 offer.pcm) (category_octet pcm_tag offer.pcm), one_length offer.lapm (category_octet protocol lapm_option), one_length offer.access (category_octet access offer.access_options))

-- options of an access group are options
pub bit_small : (t : Bool) → bit t < 2
bit_small t = (bit_of_test t).0

pub access_small : (there : Bool) (caller answerer digital : ℕ) → caller < 2 → answerer < 2 → digital < 2 → access_options there caller answerer digital < 8
access_small there caller answerer digital h k l =
    either_way (λ (n : ℕ). n < 8) there (caller + 2 * answerer + 4 * digital) 0 (λ _. omega (arith, h, k, l)) (λ _. lit< tt)

-- and so are the PCM options of a JM
pub jm_pcm_small : (modes : Modes) (cm : Offer) → jm_pcm modes cm < 8
jm_pcm_small modes cm =
    let options = paired cm.pcm modes.pcm in
    either_way (λ (n : ℕ). n < 8) (in_set (shared_items modes cm) 1) options (options / 4 * 4) (λ _. paired_small cm.pcm modes.pcm) (λ _. omega (arith, paired_small cm.pcm modes.pcm))

-- a menu has four octets at most beside those of its modulation group, and so seven with those of the house
pub menu_most : (count : ℕ) (offer : Offer) → length (menu_of count offer) ≤ 4 + count
menu_most count offer = omega (arith, menu_length count offer, bit_small (ltb 0 offer.pcm), bit_small offer.lapm, bit_small offer.access)

pub menu_short : (offer : Offer) → length (menu_of house_count offer) ≤ 7
menu_short offer = menu_most house_count offer

-- refusals of a menu that is made from a record, by the tests
pub bad_record_lem : (own : Record) → bad_record own ≡ true → 10 ≡ record_fault own
unfolding when
bad_record_lem own t = simp t

pub good_record : (own : Record) → bad_record own ≡ false → record_fault own ≡ 0
unfolding when
good_record own t = simp t

pub function_there : (own : Record) (function : ℕ) → (in_use own function).available ≡ 1 → function_fault own function ≡ 0
unfolding when
function_there own function t = simp t

pub function_missing : (own : Record) (function : ℕ) → ((in_use own function).available ≡ 1 → ⊥) → 5 ≡ function_fault own function
unfolding when
function_missing own function t = simp (ne_eqb (in_use own function).available 1 t)

-- a menu with a field: its size decides first
pub with_length : (offer : Offer) (blocks : List ℕ) → length (with_field offer blocks) ≡ length (menu_of house_count offer) + length (field_of blocks)
with_length offer blocks = length-append (menu_of house_count offer) (field_of blocks)

pub size_over : (menu : List ℕ) → 64 < length menu → 4 ≡ size_fault menu
unfolding when
size_over menu h = simp (lt-ltb _ _ h)

pub size_fits : (menu : List ℕ) → length menu ≤ 64 → size_fault menu ≡ 0
unfolding when
size_fits menu h = simp (le-ltb _ _ h)

pub size_short : (menu : List ℕ) → size_fault menu ≡ 0 → length menu ≤ 64
size_short menu = either_way (λ (n : ℕ). n ≡ 0 → length menu ≤ 64) (ltb 64 (length menu)) 4 0 (λ _ e. absurd (let z : ⊥ = omega (arith, e) in z)) (λ e _. ltb-false 64 (length menu) e)

-- with no blocks a menu has no field, and nothing is refused for them
pub no_field_put : (menu same out : List ℕ) (r : Result ℕ Refusal) (after : List ℕ) → menu ≡ same
    → Meets (put (before (size_fault (menu ++ field_of [])) (before (blocks_fault []) (room_fault (menu ++ field_of []) out))) (menu ++ field_of []) out) r after
    → Meets (put (before (size_fault same) (room_fault same out)) same out) r after
unfolding when field_of every blocks_behind
no_field_put menu same out r after e put_there = subst (λ (octets : List ℕ). Meets (put (before (size_fault octets) (room_fault octets out)) octets out) r after) (append-nil menu ∙ e) put_there
