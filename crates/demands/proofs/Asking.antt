-- One mode, asked quickly: how many octets are looked at goes by the octets up to the one that decides, and these have the item where the whole menu
-- has it.
-- Assumes nothing.
use Prim.Native.Nat.{ℕ, zero, suc, ◌+◌, ◌<◌, ◌≤◌}
use native.Mathlib.Omega.{arith}
use mathlib.Core.Path.{◌≡◌, refl, sym, ap, subst, ◌∙◌}
use mathlib.Core.Bool.{Bool, true, false}
use mathlib.Core.List.{List, [], ◌∷◌}
use borrow.Author.Tests.{eqb-true, eq-eqb, le-ltb, ltb-true, ltb-false}
use lib.Dec.{eqb, ltb}
use lib.ListN.{length, take, drop, get_or, length-take, length-drop, take-append-drop}
use lib.Seq.{take-take, take-add, drop-append_seam}
use Rattle.laws.specs.Logic.{when, both}
use Rattle.laws.proofs.Logic.{both_true, clash, same_either_way}
use Rattle.refusals.specs.declared.Refusal.TheVariants.{BadOctet}
use Rattle.octets.specs.declared.Purpose.TheVariants.{Reading}
use Rattle.octets.specs.Octets.{category, tag, call_function_tag, bad}
use Rattle.octets.specs.Lists.{octet_fault, first_fault, opens, list_fault, until_category}
use Rattle.octets.proofs.Lists.{accepted_short, accepted_opens, accepted_rest, faultless_parts}
use Rattle.octets.proofs.Fine.{reading_fine, accepted_by}
use Rattle.items.specs.declared.ItemPlace.{ItemPlace}
use Rattle.items.specs.Items.{places, place_of, is_mode, bit_of, has_item, set_of, in_set, modulation}
use Rattle.items.proofs.Places.{mode_is_item, item_past}
use Rattle.menus.specs.declared.Offer.{Offer}
use Rattle.menus.specs.Groups.{Looked, place, nowhere, opens_group, first_group, front_part, part_at, part_of, group_of}
use Rattle.menus.specs.Groups as groups
use Rattle.menus.specs.Offer.{offers, offer_of, menu_read}
use Rattle.menus.specs.Asking.{Asked, answer, refusal, looks_in, looks, item_in, asked_first, asked}
use Rattle.menus.specs.Inner.{decided, walked}
use Rattle.menus.proofs.Joined.{group_from, group_from_lem}
use Rattle.menus.proofs.Reading.{menu_read_lem, menu_refused, read_offered}
use Rattle.menus.proofs.Asking.{extensions, category_not_bad, item_of, asked_few, asked_mode, asked_no_mode}
use Rattle.demands.specs.Looking.{Begins, FirstGroup}
use Rattle.demands.specs.Asking.{Decides, holder, next, Ends, decides, spoils, opens_not, OneModeIsAskedQuickly}
use Rattle.demands.proofs.Looking.{begun, later_begun, begun_later, FindsFrom, found_from, from_0, part_is, no_item}

-- two lists with the same octets in front
no_front : {A : Type 0} (n x : ℕ) (a : List ℕ) → take (suc n) (x ∷ a) ≡ take (suc n) [] → A
no_front n x a same = absurd (let z : ⊥ = omega (arith, ap length same) in z)

same_first : (x y n : ℕ) (a b : List ℕ) → take (suc n) (x ∷ a) ≡ take (suc n) (y ∷ b) → x ≡ y
same_first x y n a b same = ap (λ (l : List ℕ). get_or l 0 0) same

same_behind : (x y n : ℕ) (a b : List ℕ) → take (suc n) (x ∷ a) ≡ take (suc n) (y ∷ b) → take n a ≡ take n b
same_behind x y n a b same = ap (λ (l : List ℕ). drop 1 l) same

-- within the group: the octet that holds the item is reached in both, or the next category octet is, or the end
module _ (ahead x : ℕ) (a b : List ℕ) where
  abbrev front : Bool → List ℕ
  front ends = take (when ends 0 (suc (until_category a))) (x ∷ a)

  item_by : (ends : Bool) → (ahead ≤ length (extensions a) → looks_in ahead b ≡ ahead) → suc ahead ≤ length (front ends) → suc (when ends 0 (looks_in ahead b)) ≡ suc ahead
  unfolding when
  item_by true later long = absurd (omega (arith, long))
  item_by false later long = ap suc (later (omega (arith, long)))

  next_by : (ends : Bool)
      → (length (extensions a) < ahead → length (extensions a) < length a → take (suc (length (extensions a))) a ≡ take (suc (length (extensions a))) b → looks_in ahead b ≡ suc (length (extensions a)))
      → length (front ends) < suc ahead → length (front ends) < suc (length a) → take (length (front ends)) a ≡ take (length (front ends)) b
      → suc (when ends 0 (looks_in ahead b)) ≡ suc (length (front ends))
  unfolding when
  next_by true later short there same = refl
  next_by false later short there same = ap suc (later (omega (arith, short)) (omega (arith, there)) same)

  end_by : (ends : Bool) → (length (extensions a) < ahead → length a ≤ length (extensions a) → looks_in ahead a ≡ length a)
      → length (front ends) < suc ahead → suc (length a) ≤ length (front ends) → suc (when ends 0 (looks_in ahead a)) ≡ suc (length a)
  unfolding when
  end_by true later short past = absurd (omega (arith, past))
  end_by false later short past = ap suc (later (omega (arith, short)) (omega (arith, past)))

  -- one octet in front of both
  one_more : (y n : ℕ) → take (suc n) (x ∷ a) ≡ take (suc n) (y ∷ b) → suc (when (category y) 0 (looks_in ahead b)) ≡ suc (when (category x) 0 (looks_in ahead b))
  one_more y n same = ap (λ (z : ℕ). suc (when (category z) 0 (looks_in ahead b))) (sym (same_first x y n a b same))

up_to_item : (ahead : ℕ) (a b : List ℕ) → ahead ≤ length (extensions a) → take ahead a ≡ take ahead b → looks_in ahead b ≡ ahead
unfolding looks_in until_category
up_to_item zero a b long same = refl
up_to_item (suc ahead) [] b long same = absurd (omega (arith, long))
up_to_item (suc ahead) (x ∷ a) [] long same = no_front ahead x a same
up_to_item (suc ahead) (x ∷ a) (y ∷ b) long same =
    one_more ahead x a b y ahead same ∙ item_by ahead x a b (category x) (λ long. up_to_item ahead a b long (same_behind x y ahead a b same)) long

up_to_next : (ahead : ℕ) (a b : List ℕ) → length (extensions a) < ahead → length (extensions a) < length a
    → take (suc (length (extensions a))) a ≡ take (suc (length (extensions a))) b → looks_in ahead b ≡ suc (length (extensions a))
unfolding looks_in until_category
up_to_next zero a b short there same = absurd (omega (arith, short))
up_to_next (suc ahead) [] b short there same = absurd (omega (arith, there))
up_to_next (suc ahead) (x ∷ a) [] short there same = no_front (length (extensions (x ∷ a))) x a same
up_to_next (suc ahead) (x ∷ a) (y ∷ b) short there same =
    let n = length (extensions (x ∷ a)) in
    one_more ahead x a b y n same ∙ next_by ahead x a b (category x) (up_to_next ahead a b) short there (same_behind x y n a b same)

up_to_end : (ahead : ℕ) (a : List ℕ) → length (extensions a) < ahead → length a ≤ length (extensions a) → looks_in ahead a ≡ length a
unfolding looks_in until_category
up_to_end zero a short past = absurd (omega (arith, short))
up_to_end (suc ahead) [] short past = refl
up_to_end (suc ahead) (x ∷ a) short past = end_by ahead x a a (category x) (up_to_end ahead a) short past

-- before the group
first_behind : (x : ℕ) (a : List ℕ) (t p : ℕ) → FirstGroup (x ∷ a) t (suc p) → FirstGroup a t p
first_behind x a t p group = record {
  begins = later_begun x a t p group.begins;
  first = λ q low at. group.first (suc q) (omega (arith, low)) (begun_later x a t q at);
}

not_there : (x : ℕ) (a : List ℕ) (t : ℕ) → (Begins (x ∷ a) t 0 → ⊥) → (opening : Bool) → opens_group t x ≡ opening → opening ≡ false
not_there x a t none true e = absurd (none (begun (x ∷ a) t 0 (omega arith) e))
not_there x a t none false e = refl

opens_there : (x : ℕ) (a : List ℕ) (t : ℕ) → Begins (x ∷ a) t 0 → opens_group t x ≡ true
unfolding both
opens_there x a t at = simp (at.opens, eq-eqb _ _ at.tagged)

up_to_group : (ahead p : ℕ) (a b : List ℕ) → FirstGroup a modulation p → take (suc p) a ≡ take (suc p) b → looks ahead b ≡ p + suc (looks_in ahead (drop (suc p) b))
unfolding looks when
up_to_group ahead p [] b group same = absurd (omega (arith, group.begins.there))
up_to_group ahead p (x ∷ a) [] group same = no_front p x a same
up_to_group ahead zero (x ∷ a) (y ∷ b) group same =
    simp (sym (same_first x y 0 a b same), opens_there x a modulation group.begins) (omega arith)
up_to_group ahead (suc p) (x ∷ a) (y ∷ b) group same =
    let later = up_to_group ahead p a b (first_behind x a modulation p group) (same_behind x y (suc p) a b same) in
    simp (sym (same_first x y (suc p) a b same), not_there x a modulation (group.first 0 (omega arith)) (opens_group modulation x) refl) (omega (arith, later))

-- lists that agree up to some octet agree in front of it and behind
rest_of : (m n : ℕ) (l : List ℕ) → drop (length (take m l)) (take (m + n) l) ≡ take n (drop m l)
rest_of m n l = ap (λ (r : List ℕ). drop (length (take m l)) r) (take-add m n l) ∙ drop-append_seam (take m l) (take n (drop m l))

module _ (m n : ℕ) (a b : List ℕ) (same : take (m + n) a ≡ take (m + n) b) where
  same_front : take m a ≡ take m b
  same_front = sym (take-take m (m + n) a (omega arith)) ∙ ap (λ (l : List ℕ). take m l) same ∙ take-take m (m + n) b (omega arith)

  same_rest : take n (drop m a) ≡ take n (drop m b)
  same_rest = sym (rest_of m n a) ∙ ap (λ (l : List ℕ). drop (length (take m a)) l) same ∙ ap (λ (l : List ℕ). drop (length l) (take (m + n) b)) same_front ∙ rest_of m n b

-- up to the octet that decides
part_length : (a : List ℕ) (p : ℕ) → FirstGroup a modulation p → length (part_at a p) ≡ suc (length (extensions (drop (suc p) a)))
part_length a p group = ap length (part_is a p group.begins.there group.begins.opens)

in_group : (ahead p n : ℕ) (a b : List ℕ) → FirstGroup a modulation p → take (suc (p + n)) a ≡ take (suc (p + n)) b
    → (take n (drop (suc p) a) ≡ take n (drop (suc p) b) → looks_in ahead (drop (suc p) b) ≡ n) → looks ahead b ≡ suc (p + n)
in_group ahead p n a b group same within =
    let one_more : suc (p + n) ≡ suc p + n = omega arith in
    let both_have : take (suc p + n) a ≡ take (suc p + n) b = subst (λ (m : ℕ). take m a ≡ take m b) one_more same in
    omega (arith, up_to_group ahead p a b group (same_front (suc p) n a b both_have), within (same_rest (suc p) n a b both_have))

decides_looks : (a b : List ℕ) (item n : ℕ) → Decides a item n → take (suc n) a ≡ take (suc n) b → looks (place_of item).octet b ≡ suc n
decides_looks a b item n (holder p group long) same =
    in_group (place_of item).octet p (place_of item).octet a b group same (up_to_item (place_of item).octet (drop (suc p) a) (drop (suc p) b) (omega (arith, long, part_length a p group)))
decides_looks a b item n (next p group short there) same =
    let behind = drop (suc p) a in
    let size = part_length a p group in
    in_group (place_of item).octet p (length (part_at a p)) a b group same
    (rw size (up_to_next (place_of item).octet behind (drop (suc p) b) (omega (arith, short, size)) (omega (arith, there, size, length-drop (suc p) a))))

-- or up to the end, where nothing decides: then no octet has the item
no_group_looks : (ahead : ℕ) (s : List ℕ) → ((q : ℕ) → Begins s modulation q → ⊥) → looks ahead s ≡ length s
unfolding looks when
no_group_looks ahead [] none = refl
no_group_looks ahead (b ∷ bs) none =
    simp (not_there b bs modulation (none 0) (opens_group modulation b) refl, no_group_looks ahead bs (λ q at. none (suc q) (begun_later b bs modulation q at)))

data Walk (octets : List ℕ) (item : ℕ) : Type 0 where
  stopped : (n : ℕ) → Decides octets item n → Walk octets item
  whole : looks (place_of item).octet octets ≡ length octets → has_item (group_of octets modulation) item ≡ false → Walk octets item

module _ (octets : List ℕ) (item : ℕ) (low : item < 13) where
  by_part : (p : ℕ) → FirstGroup octets modulation p → group_of octets modulation ≡ part_at octets p → (long inside : Bool) → ltb (place_of item).octet (length (part_at octets p)) ≡ long → ltb (p + length (part_at octets p)) (length octets) ≡ inside → Walk octets item
  by_part p group is-part true inside e f = stopped (p + (place_of item).octet) (holder p group (ltb-true _ _ e))
  by_part p group is-part false true e f = stopped (p + length (part_at octets p)) (next p group (ltb-false _ _ e) (ltb-true _ _ f))
  by_part p group is-part false false e f =
      let size = part_length octets p group in
      let short = ltb-false (place_of item).octet (length (part_at octets p)) e in
      let past = ltb-false (p + length (part_at octets p)) (length octets) f in
      let behind = drop (suc p) octets in
      let there = group.begins.there in
      let to_end = up_to_end (place_of item).octet behind (omega (arith, short, size)) (omega (arith, past, size, length-drop (suc p) octets)) in
      whole (omega (arith, up_to_group (place_of item).octet p octets octets group refl, to_end, length-drop (suc p) octets, there))
      (ap (λ (part : List ℕ). has_item part item) is-part ∙ item_past (part_at octets p) item low short)

  by_place : (l : Looked) → first_group modulation 0 octets ≡ l → FindsFrom octets modulation 0 l → Walk octets item
  unfolding group_of
  by_place (place p) e found = by_part p (from_0 octets modulation (place p) found) (ap (part_of octets) e) _ _ refl refl
  by_place nowhere e none = whole (no_group_looks (place_of item).octet octets none) (ap (λ (l : Looked). has_item (part_of octets l) item) e ∙ no_item item low)
  by_place (groups.refusal n) e found = absurd found

  walk_of : Walk octets item
  walk_of = by_place (first_group modulation 0 octets) refl (found_from octets modulation 0)

-- the octets looked at have the item where the whole menu has it
seen_by : (ahead x b : ℕ) (bs : List ℕ) (ends : Bool) → category b ≡ ends
    → get_or (b ∷ extensions (take (looks_in ahead bs) bs)) ahead 0 ≡ get_or (b ∷ extensions bs) ahead 0
    → get_or (x ∷ extensions (take (suc (when ends 0 (looks_in ahead bs))) (b ∷ bs))) (suc ahead) 0 ≡ get_or (x ∷ extensions (b ∷ bs)) (suc ahead) 0
unfolding when until_category
seen_by ahead x b bs true e later = simp e
seen_by ahead x b bs false e later = simp e later

seen_extensions : (ahead x : ℕ) (s : List ℕ) → get_or (x ∷ extensions (take (looks_in ahead s) s)) ahead 0 ≡ get_or (x ∷ extensions s) ahead 0
unfolding looks_in
seen_extensions zero x s = refl
seen_extensions (suc ahead) x [] = refl
seen_extensions (suc ahead) x (b ∷ bs) = seen_by ahead x b bs (category b) refl (seen_extensions ahead b bs)

seen_group_by : (ahead b : ℕ) (bs : List ℕ) (opening : Bool) → opens_group modulation b ≡ opening
    → get_or (group_from modulation (take (looks ahead bs) bs)) ahead 0 ≡ get_or (group_from modulation bs) ahead 0
    → get_or (group_from modulation (take (suc (when opening (looks_in ahead bs) (looks ahead bs))) (b ∷ bs))) ahead 0 ≡ get_or (group_from modulation (b ∷ bs)) ahead 0
unfolding when both group_from front_part
seen_group_by ahead b bs true e later =
    let tests = both_true (category b) (eqb (tag b) modulation) e in
    simp (tests.0, tests.1) (seen_extensions ahead b bs)
seen_group_by ahead b bs false e later = simp e later

seen_group : (ahead : ℕ) (s : List ℕ) → get_or (group_from modulation (take (looks ahead s) s)) ahead 0 ≡ get_or (group_from modulation s) ahead 0
unfolding looks
seen_group ahead [] = refl
seen_group ahead (b ∷ bs) = seen_group_by ahead b bs (opens_group modulation b) refl (seen_group ahead bs)

seen_item : (item : ℕ) (octets : List ℕ) → is_mode item ≡ true → in_set (offer_of (take (looks (place_of item).octet octets) octets)).items item ≡ in_set (offer_of octets).items item
unfolding has_item
seen_item item octets mode =
    let k = (place_of item).octet in
    item_of item (take (looks k octets) octets) mode
    ∙ ap (λ (b : ℕ). eqb (bit_of (place_of item).bit.0 b) 1) (seen_group k octets)
    ∙ sym (item_of item octets mode)

-- and can be read where the whole menu can
seen_fine : (ahead : ℕ) (octets : List ℕ) → list_fault Reading octets ≡ 0 → list_fault Reading (take (looks ahead octets) octets) ≡ 0
unfolding looks
seen_fine ahead [] fine = fine
seen_fine ahead (b ∷ bs) fine =
    let behind = when (opens_group modulation b) (looks_in ahead bs) (looks ahead bs) in
    let opened = both_true (category b) (eqb (tag b) call_function_tag) (accepted_opens Reading (b ∷ bs) fine) in
    let none : first_fault Reading (take behind bs) ≡ 0 = (faultless_parts Reading (take behind bs) (drop behind bs) (ap (first_fault Reading) (take-append-drop behind bs) ∙ accepted_rest Reading (b ∷ bs) fine)).0 in
    accepted_by Reading b (take behind bs) (omega (arith, accepted_short Reading (b ∷ bs) fine, length-take behind bs)) opened.0 (eqb-true _ _ opened.1) none

module _ (octets : List ℕ) (item : ℕ) (offer : Offer) (mode : is_mode item ≡ true) (e : menu_read octets ≡ offers offer) where
  abbrev ahead : ℕ
  ahead = (place_of item).octet

  is_read : (list_fault Reading octets ≡ 0) × (offer ≡ offer_of octets)
  is_read = read_offered octets offer (sym e)

  as_read : asked octets item ≡ answer (in_set offer.items item) (looks ahead octets)
  as_read =
      let seen = take (looks ahead octets) octets in
      asked_few item mode octets (accepted_short Reading octets is_read.0)
      ∙ ap (item_in item (looks ahead octets)) (menu_read_lem seen (seen_fine ahead octets is_read.0))
      ∙ ap (λ (offered : Bool). answer offered (looks ahead octets)) (seen_item item octets mode ∙ ap (λ (o : Offer). in_set o.items item) (sym is_read.1))

  decided_as_read : (n : ℕ) → Decides octets item n → asked octets item ≡ answer (in_set offer.items item) (n + 1)
  decided_as_read n d = as_read ∙ ap (answer (in_set offer.items item)) (decides_looks octets octets item n d refl ∙ omega arith)

  module _ (none : (n : ℕ) → Decides octets item n → ⊥) where
    whole_by : Walk octets item → (looks ahead octets ≡ length octets) × (has_item (group_of octets modulation) item ≡ false)
    whole_by (stopped n d) = absurd (none n d)
    whole_by (whole all lacks) = (all, lacks)

    undecided_as_read : asked octets item ≡ answer (in_set offer.items item) (length octets)
    undecided_as_read = as_read ∙ ap (answer (in_set offer.items item)) (whole_by (walk_of octets item (mode_is_item item mode))).0

    undecided_is_missing : in_set offer.items item ≡ false
    undecided_is_missing =
        ap (λ (o : Offer). in_set o.items item) is_read.1 ∙ item_of item octets mode
        ∙ ap (λ (group : List ℕ). has_item group item) (sym (group_from_lem octets modulation)) ∙ (whole_by (walk_of octets item (mode_is_item item mode))).1

-- a bad octet ends the walk where it is reached, and up to there the lists agree
module _ (bit ahead looked x n : ℕ) (a b : List ℕ) where
  abbrev within : ℕ → Asked
  within y = when (category y) (answer false (looked + 1)) (when (bad y) (refusal 3) (decided bit ahead (looked + 1) y b))

  within_spoiled : (y : ℕ) → take (suc n) (x ∷ a) ≡ take (suc n) (y ∷ b) → (bad x ≡ false → decided bit ahead (looked + 1) x a ≡ decided bit ahead (looked + 1) x b)
      → when (category x) (answer false (looked + 1)) (when (bad x) (refusal 3) (decided bit ahead (looked + 1) x a)) ≡ within y
  within_spoiled y same later =
      same_either_way (category x) _ _ _ _ (λ _. refl) (λ _. same_either_way (bad x) (refusal 3) (refusal 3) _ _ (λ _. refl) later) ∙ ap within (same_first x y n a b same)

decided_spoiled : (bit ahead looked z n : ℕ) (a b : List ℕ) → n < length a → bad (get_or a n 0) ≡ true → take (suc n) a ≡ take (suc n) b → decided bit ahead looked z a ≡ decided bit ahead looked z b
unfolding decided
decided_spoiled bit zero looked z n a b there spoiled same = refl
decided_spoiled bit (suc ahead) looked z n [] b there spoiled same = absurd (omega (arith, there))
decided_spoiled bit (suc ahead) looked z n (x ∷ a) [] there spoiled same = no_front n x a same
decided_spoiled bit (suc ahead) looked z zero (x ∷ a) (y ∷ b) there spoiled same = within_spoiled bit ahead looked x 0 a b y same (λ fine. clash (sym spoiled ∙ fine))
decided_spoiled bit (suc ahead) looked z (suc n) (x ∷ a) (y ∷ b) there spoiled same =
    within_spoiled bit ahead looked x (suc n) a b y same (λ _. decided_spoiled bit ahead (looked + 1) x n a b (omega (arith, there)) spoiled (same_behind x y (suc n) a b same))

module _ (at : ItemPlace) (looked x n : ℕ) (a b : List ℕ) where
  abbrev before : ℕ → Asked
  before y =
      when (category y) (when (eqb (tag y) modulation) (decided at.bit.0 at.octet (looked + 1) y b) (walked at (looked + 1) b))
      (when (bad y) (refusal 3) (walked at (looked + 1) b))

  before_spoiled : (y : ℕ) → take (suc n) (x ∷ a) ≡ take (suc n) (y ∷ b)
      → (bad x ≡ false → (decided at.bit.0 at.octet (looked + 1) x a ≡ decided at.bit.0 at.octet (looked + 1) x b) × (walked at (looked + 1) a ≡ walked at (looked + 1) b))
      → when (category x) (when (eqb (tag x) modulation) (decided at.bit.0 at.octet (looked + 1) x a) (walked at (looked + 1) a)) (when (bad x) (refusal 3) (walked at (looked + 1) a)) ≡ before y
  before_spoiled y same later =
      same_either_way (category x) _ _ _ _
      (λ c. let fine = later (category_not_bad x c) in same_either_way (eqb (tag x) modulation) _ _ _ _ (λ _. fine.0) (λ _. fine.1))
      (λ _. same_either_way (bad x) (refusal 3) (refusal 3) _ _ (λ _. refl) (λ fine. (later fine).1))
      ∙ ap before (same_first x y n a b same)

walked_spoiled : (at : ItemPlace) (looked n : ℕ) (a b : List ℕ) → n < length a → bad (get_or a n 0) ≡ true → take (suc n) a ≡ take (suc n) b → walked at looked a ≡ walked at looked b
unfolding walked
walked_spoiled at looked n [] b there spoiled same = absurd (omega (arith, there))
walked_spoiled at looked n (x ∷ a) [] there spoiled same = no_front n x a same
walked_spoiled at looked zero (x ∷ a) (y ∷ b) there spoiled same = before_spoiled at looked x 0 a b y same (λ fine. clash (sym spoiled ∙ fine))
walked_spoiled at looked (suc n) (x ∷ a) (y ∷ b) there spoiled same =
    let there' : n < length a = omega (arith, there) in
    let same' = same_behind x y (suc n) a b same in
    before_spoiled at looked x (suc n) a b y same (λ _. (decided_spoiled at.bit.0 at.octet (looked + 1) x n a b there' spoiled same', walked_spoiled at (looked + 1) n a b there' spoiled same'))

-- two lists that agree up to and with the octet that ends the walk
opens_bad : {A : Type 0} (x : ℕ) (a : List ℕ) → opens (x ∷ a) ≡ true → bad x ≡ true → A
opens_bad x a opened spoiled = clash (sym spoiled ∙ category_not_bad x (both_true (category x) (eqb (tag x) call_function_tag) opened).0)

first_spoiled : (at : ItemPlace) (n : ℕ) (a b : List ℕ) → n < length a → bad (get_or a n 0) ≡ true → take (suc n) a ≡ take (suc n) b → opens a ≡ true → walked at 1 (drop 1 a) ≡ walked at 1 (drop 1 b)
first_spoiled at n [] b there spoiled same opened = absurd (omega (arith, there))
first_spoiled at n (x ∷ a) [] there spoiled same opened = no_front n x a same
first_spoiled at zero (x ∷ a) (y ∷ b) there spoiled same opened = opens_bad x a opened spoiled
first_spoiled at (suc n) (x ∷ a) (y ∷ b) there spoiled same opened = walked_spoiled at 1 n a b (omega (arith, there)) spoiled (same_behind x y (suc n) a b same)

same_opens : (n : ℕ) (a b : List ℕ) → 0 < length a → take (suc n) a ≡ take (suc n) b → opens a ≡ opens b
same_opens n [] b some same = absurd (omega (arith, some))
same_opens n (x ∷ a) [] some same = no_front n x a same
same_opens n (x ∷ a) (y ∷ b) some same = ap (λ (z : ℕ). both (category z) (eqb (tag z) call_function_tag)) (same_first x y n a b same)

asked_opened : (item : ℕ) → is_mode item ≡ true → (octets : List ℕ) → length octets ≤ 64 → asked octets item ≡ when (opens octets) (walked (place_of item) 1 (drop 1 octets)) (refusal 5)
unfolding when
asked_opened item mode octets few = asked_mode item mode octets ∙ simp (le-ltb 64 (length octets) few)

module _ (a b : List ℕ) (item : ℕ) (few : length a ≤ 64) (few' : length b ≤ 64) (mode : is_mode item ≡ true) where
  behind_opening : (n : ℕ) → 0 < length a → take (suc n) a ≡ take (suc n) b → (opens a ≡ true → walked (place_of item) 1 (drop 1 a) ≡ walked (place_of item) 1 (drop 1 b)) → asked a item ≡ asked b item
  behind_opening n some same later =
      asked_opened item mode a few
      ∙ same_either_way (opens a) _ _ _ _ later (λ _. refl)
      ∙ ap (λ (opened : Bool). when opened (walked (place_of item) 1 (drop 1 b)) (refusal 5)) (same_opens n a b some same)
      ∙ sym (asked_opened item mode b few')

  one_answer : (n : ℕ) → Ends a item n → take (suc n) a ≡ take (suc n) b → asked a item ≡ asked b item
  one_answer at (decides n d) same =
      asked_few item mode a few
      ∙ ap (asked_first a item) (decides_looks a a item n d refl)
      ∙ ap (λ (seen : List ℕ). item_in item (suc n) (menu_read seen)) same
      ∙ ap (asked_first b item) (sym (decides_looks a b item n d same))
      ∙ sym (asked_few item mode b few')
  one_answer at (spoils n there spoiled) same = behind_opening n (omega (arith, there)) same (first_spoiled (place_of item) n a b there spoiled same)
  one_answer at (opens_not some unopened) same = behind_opening 0 some same (λ opened. clash (sym opened ∙ unopened))

stops_by : (a b : List ℕ) (item n : ℕ) → length a ≤ 64 → length b ≤ 64 → Ends a item n → take (suc n) a ≡ take (suc n) b → (mode : Bool) → is_mode item ≡ mode → asked a item ≡ asked b item
stops_by a b item n few few' ended same true mode = one_answer a b item few few' mode n ended same
stops_by a b item n few few' ended same false none = asked_no_mode a item none ∙ sym (asked_no_mode b item none)

-- a bad octet before the one that decides, or in its place
fault_by : (b rest : ℕ) (isBad : Bool) → bad b ≡ isBad → (isBad ≡ false → rest ≡ 3) → when (eqb (octet_fault Reading b) 0) rest (octet_fault Reading b) ≡ 3
unfolding when
fault_by b rest true spoiled later = simp spoiled
fault_by b rest false fine later = simp (reading_fine b fine) (later refl)

spoiled_fault : (m n : ℕ) (s : List ℕ) → n < m → n < length s → bad (get_or s n 0) ≡ true → first_fault Reading (take m s) ≡ 3
unfolding first_fault
spoiled_fault zero n s low there spoiled = absurd (omega (arith, low))
spoiled_fault (suc m) n [] low there spoiled = absurd (omega (arith, there))
spoiled_fault (suc m) zero (b ∷ s) low there spoiled = fault_by b (first_fault Reading (take m s)) (bad b) refl (λ fine. clash (sym spoiled ∙ fine))
spoiled_fault (suc m) (suc n) (b ∷ s) low there spoiled = fault_by b (first_fault Reading (take m s)) (bad b) refl (λ _. spoiled_fault m n s (omega (arith, low)) (omega (arith, there)) spoiled)

spoiled_list : (m n : ℕ) (octets : List ℕ) → length octets ≤ 64 → opens octets ≡ true → n < m → n < length octets → bad (get_or octets n 0) ≡ true → list_fault Reading (take m octets) ≡ 3
unfolding when
spoiled_list zero n octets few opened low there spoiled = absurd (omega (arith, low))
spoiled_list (suc m) n [] few opened low there spoiled = absurd (omega (arith, there))
spoiled_list (suc m) zero (b ∷ s) few opened low there spoiled = opens_bad b s opened spoiled
spoiled_list (suc m) (suc n) (b ∷ s) few opened low there spoiled =
    simp (le-ltb 64 (length (b ∷ take m s)) (omega (arith, few, length-take m s)), opened) (spoiled_fault m n s (omega (arith, low)) (omega (arith, there)) spoiled)

reaches : (octets : List ℕ) (item n : ℕ) → n < length octets → ((m : ℕ) → Decides octets item m → n ≤ m) → Walk octets item → n < looks (place_of item).octet octets
reaches octets item n there not-past (stopped m d) = omega (arith, not-past m d, decides_looks octets octets item m d refl)
reaches octets item n there not-past (whole all lacks) = omega (arith, there, all)

bad_octet_lem : (octets : List ℕ) (item n : ℕ) → is_mode item ≡ true → length octets ≤ 64 → opens octets ≡ true → n < length octets → bad (get_or octets n 0) ≡ true
    → ((m : ℕ) → Decides octets item m → n ≤ m) → asked octets item ≡ refusal 3
bad_octet_lem octets item n mode few opened there spoiled not-past =
    let reached = reaches octets item n there not-past (walk_of octets item (mode_is_item item mode)) in
    let three = spoiled_list (looks (place_of item).octet octets) n octets few opened reached there spoiled in
    asked_few item mode octets few ∙ ap (item_in item (looks (place_of item).octet octets)) (sym (menu_refused (take (looks (place_of item).octet octets) octets) BadOctet (sym three)))

pub one_mode_is_asked_quickly : OneModeIsAskedQuickly
unfolding asked looks looks_in menu_read place_of places first_fault group_of first_group front_part until_category set_of has_item in_set when both
one_mode_is_asked_quickly = record {
  full = λ octets item n offer mode e d. decided_as_read octets item offer mode e n d;
  undecided = λ octets item offer mode e none. undecided_as_read octets item offer mode e none;
  missing = λ octets item offer mode e none. undecided_is_missing octets item offer mode e none;
  stops = λ a b item n few few' ended same. stops_by a b item n few few' ended same (is_mode item) refl;
  bad = bad_octet_lem;
  second = refl;
}
