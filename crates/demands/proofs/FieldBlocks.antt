-- A block that is laid part behind part fits, and is read as those parts, whatever stands around it; octets in front that fit are such a block. The
-- rest is by induction over the blocks.
-- Assumes nothing.
use Prim.Native.Nat.{ℕ, zero, suc, ◌+◌, ◌-◌, ◌<◌, ◌≤◌}
use native.Mathlib.Omega.{arith}
use mathlib.Core.Path.{◌≡◌, refl, sym, ap, ap₂, subst, ◌∙◌}
use mathlib.Core.HLevel.{¬_prop, is_prop→PathP}
use mathlib.Core.Bool.{Bool, true, false}
use mathlib.Core.List.{List, [], ◌∷◌, ◌++◌, map, append-nil, append_assoc, nil≢cons, cons≢nil, head-eq_of_cons-eq, tail-eq_of_cons-eq}
use lib.ListN.{length, take, drop, get_or, replicate, length-append, length-replicate, length-drop, length-map, take-append-drop}
use lib.Seq.{take_at, drop_at, get_or_at, drop-cons, get_or-take, append_snoc, take-append_seam, drop-append_seam, length-take-le}
use Rattle.laws.specs.Logic.{when, both}
use Rattle.laws.specs.Joined.{joined}
use Rattle.laws.specs.Tests.{every}
use Rattle.laws.proofs.Logic.{both_true}
use Rattle.fields.specs.declared.Block.{Block}
use Rattle.fields.specs.Blocks.{blocks_behind, blocks_of, full, country_size, provider_size, fits, span, blocks, refusal, walked, no_block, block_in, block_at, place_of, block_of, part_in}
use Rattle.fields.proofs.Blocks.{laid, fits_parts, block_fits, block_none, blocks_first, every_first}
use Rattle.fields.proofs.Full.{Begins, full_counted, full_begins}
use Rattle.fields.proofs.Reading.{fit_by, found_none, found_past, found_there, walked_count}
use Rattle.demands.specs.FieldBlocks.{Parts, country_code, follows, block_octets, octets_of, AreBlocks, Reads, BlocksAreTheirParts}
use Rattle.demands.proofs.BadRecord.{is_gone}

-- the sizes of a block's parts, whatever stands behind them
module _ (p : Parts) where
  country_length : length (country_code p) ≡ p.fulls + 1
  country_length = omega (arith, length-append (replicate p.fulls 255) (p.last ∷ []), length-replicate {A = ℕ} p.fulls 255)

  follows_length : length (follows p) ≡ length (country_code p) + 1 + length p.provider + length p.rest
  follows_length = omega (arith, length-append (country_code p) (length p.provider ∷ (p.provider ++ p.rest)), length-append p.provider p.rest)

  last_at : get_or (country_code p) p.fulls 0 ≡ p.last
  last_at = get_or_at (replicate p.fulls 255) p.last [] 0 p.fulls (length-replicate p.fulls 255)

  country_full : (behind : List ℕ) → full (country_code p ++ behind) + 1 ≡ length (country_code p)
  country_full behind = ap (λ (l : List ℕ). full l + 1) (append_snoc (replicate p.fulls 255) p.last behind) ∙ ap (λ (k : ℕ). k + 1) (full_counted p.fulls p.last behind p.other) ∙ sym country_length

  module _ (later : List ℕ) where
    follows_on : follows p ++ later ≡ country_code p ++ length p.provider ∷ (p.provider ++ p.rest ++ later)
    follows_on = append_assoc (country_code p) (length p.provider ∷ (p.provider ++ p.rest)) later

    follows_full : full (follows p ++ later) + 1 ≡ length (country_code p)
    follows_full = ap (λ (l : List ℕ). full l + 1) follows_on ∙ country_full (length p.provider ∷ (p.provider ++ p.rest ++ later))

    provider_at : get_or (follows p ++ later) (length (country_code p)) 0 ≡ length p.provider
    provider_at = ap (λ (l : List ℕ). get_or l (length (country_code p)) 0) follows_on ∙ get_or_at (country_code p) (length p.provider) (p.provider ++ p.rest ++ later) 0 (length (country_code p)) refl

    country_size_lem : country_size (block_octets p ++ later) ≡ length (country_code p)
    country_size_lem = ap (λ (l : List ℕ). full l + 1) (take-append_seam (follows p) later) ∙ country_full (length p.provider ∷ (p.provider ++ p.rest))

    provider_size_lem : provider_size (block_octets p ++ later) ≡ length p.provider
    provider_size_lem = let behind : 1 + country_size (block_octets p ++ later) ≡ suc (length (country_code p)) = omega (arith, country_size_lem) in ap (λ (k : ℕ). get_or (block_octets p ++ later) k 0) behind ∙ provider_at

    block_fit : fits (block_octets p ++ later) ≡ true
    block_fit = fit_by (block_octets p ++ later) (omega (arith, length-append (follows p) later)) (omega (arith, country_size_lem, follows_length)) (omega (arith, country_size_lem, provider_size_lem, follows_length))

    block_laid : (place : ℕ) → block_in place (block_octets p ++ later) ≡ laid place (length (follows p)) (length (country_code p)) (length p.provider)
    block_laid place = block_fits place (block_octets p ++ later) block_fit ∙ ap₂ (laid place (length (follows p))) country_size_lem provider_size_lem

-- a part is read where it stands
read_there : (octets before part behind : List ℕ) (place size : ℕ) → octets ≡ before ++ (part ++ behind) → length before ≡ place → length part ≡ size → part_in octets (span place size) ≡ part
read_there octets before part behind place size same is-place is-size = ap (take size) (ap (drop place) same ∙ drop_at before (part ++ behind) place is-place) ∙ take_at part behind size is-size

-- parts that are laid one behind the other
module _ (front country provider rest later : List ℕ) (n : ℕ) where
  abbrev laid_out : List ℕ
  laid_out = front ++ (n ∷ (country ++ length provider ∷ (provider ++ rest))) ++ later

  country_there : laid_out ≡ (front ++ n ∷ []) ++ (country ++ (length provider ∷ (provider ++ rest) ++ later))
  country_there = simp append_assoc

  provider_there : laid_out ≡ (front ++ n ∷ (country ++ length provider ∷ [])) ++ (provider ++ (rest ++ later))
  provider_there = simp append_assoc

  rest_there : laid_out ≡ (front ++ n ∷ (country ++ length provider ∷ provider)) ++ (rest ++ later)
  rest_there = simp append_assoc

read_alone : (front : List ℕ) (p : Parts) (later : List ℕ) → Reads (front ++ block_octets p ++ later) (block_at (front ++ block_octets p ++ later) (length front)) (length front) p
read_alone front p later =
    let octets = front ++ block_octets p ++ later in
    let place = length front in
    let n = length (follows p) in
    let country = country_code p in
    let codes = length country + 1 + length p.provider in
    let same = append_assoc front (block_octets p) later in
    let at = ap (block_in place) (ap (drop place) same ∙ drop-append_seam front (block_octets p ++ later)) ∙ block_laid p later place in
    subst (λ (found : Block). Reads octets found place p) (sym at) (record {
      whole = record { begins = refl; size = omega arith; read = read_there octets front (block_octets p) later place (1 + n) same refl (omega arith) };
      country = record {
        begins = refl;
        size = refl;
        read = read_there octets (front ++ n ∷ []) country _ (place + 1) (length country) (country_there front country p.provider p.rest later n) (omega (arith, length-append front (n ∷ []))) refl;
      };
      provider = record {
        begins = refl;
        size = refl;
        read = read_there octets (front ++ n ∷ (country ++ length p.provider ∷ [])) p.provider _ (place + 1 + length country + 1) (length p.provider) (provider_there front country p.provider p.rest later n) (omega (arith, length-append front (n ∷ (country ++ length p.provider ∷ [])), length-append country (length p.provider ∷ []))) refl;
      };
      rest = record {
        begins = omega arith;
        size = omega (arith, follows_length p);
        read = read_there octets (front ++ n ∷ (country ++ length p.provider ∷ p.provider)) p.rest later (place + 1 + codes) (n - codes) (rest_there front country p.provider p.rest later n) (omega (arith, length-append front (n ∷ (country ++ length p.provider ∷ p.provider)), length-append country (length p.provider ∷ p.provider))) (omega (arith, follows_length p));
      };
    })

-- octets in front that fit are a block: what follows its length begins with the octets of 255, and has room for both codes
inner_parts : (inner : List ℕ) (k : ℕ) → Begins inner k → suc k < length inner → k + 2 + get_or inner (suc k) 0 ≤ length inner → (p : Parts) × (follows p ≡ inner)
inner_parts inner k begins country codes =
    let last = get_or inner k 0 in
    let size = get_or inner (suc k) 0 in
    let behind = drop (suc (suc k)) inner in
    let provider = take size behind in
    let rest = drop size behind in
    let there : length provider ≡ size = length-take-le size behind (omega (arith, length-drop (suc (suc k)) inner)) in
    let from-size : length provider ∷ (provider ++ rest) ≡ drop (suc k) inner = ap₂ ◌∷◌ there (take-append-drop size behind) ∙ sym (drop-cons inner (suc k) 0 country) in
    (record { fulls = k; last = last; other = begins.other; provider = provider; rest = rest }, append_snoc (replicate k 255) last (length provider ∷ (provider ++ rest)) ∙ ap (λ (l : List ℕ). replicate k 255 ++ last ∷ l) from-size ∙ begins.same)

first_parts : (n : ℕ) (octets : List ℕ) → fits (n ∷ octets) ≡ true → (p : Parts) × (n ∷ octets ≡ block_octets p ++ drop n octets)
first_parts n octets fit =
    let room = fits_parts (n ∷ octets) fit in
    let inner = take n octets in
    let k = full inner in
    let all : length inner ≡ n = length-take-le n octets (omega (arith, room.0)) in
    let behind-country : 1 + (k + 1) ≡ suc (suc k) = omega arith in
    let size : provider_size (n ∷ octets) ≡ get_or inner (suc k) 0 = ap (λ (i : ℕ). get_or (n ∷ octets) i 0) behind-country ∙ sym (get_or-take n octets (suc k) 0 (omega (arith, room.1))) in
    let parts = inner_parts inner k (full_begins inner (omega (arith, room.1))) (omega (arith, room.1)) (omega (arith, room.2, size)) in
    (parts.0, ap₂ ◌∷◌ (sym (ap length parts.1 ∙ all)) (sym (take-append-drop n octets) ∙ ap (λ (l : List ℕ). l ++ drop n octets) (sym parts.1)))

-- so octets that fit are blocks
all_parts : (k : ℕ) (octets : List ℕ) → length octets ≤ k → every fits (blocks_of octets) ≡ true → AreBlocks octets
unfolding joined
all_parts zero [] few all = ([], refl)
all_parts zero (n ∷ octets) few all = absurd (let z : ⊥ = omega arith in z)
all_parts (suc k) [] few all = ([], refl)
all_parts (suc k) (n ∷ octets) few all =
    let tests = both_true (fits (n ∷ octets)) (every fits (blocks_of (drop n octets))) (sym (every_first n octets) ∙ all) in
    let first = first_parts n octets tests.0 in
    let remain = all_parts k (drop n octets) (omega (arith, length-drop n octets)) tests.1 in
    (first.0 ∷ remain.0, first.1 ∙ ap (λ (later : List ℕ). block_octets first.0 ++ later) remain.1)

-- blocks in front, and those of what remains
blocks_front : (parts : List Parts) (later : List ℕ) → blocks_of (octets_of parts ++ later) ≡ map block_octets parts ++ blocks_of later
unfolding joined
blocks_front [] later = refl
blocks_front (p ∷ parts) later =
    let others = octets_of parts ++ later in
    let n = length (follows p) in
    ap blocks_of (append_assoc (block_octets p) (octets_of parts) later) ∙ blocks_first n (follows p ++ others) ∙ ap₂ (λ (first behind : List ℕ). (n ∷ first) ∷ blocks_of behind) (take-append_seam (follows p) others) (drop-append_seam (follows p) others) ∙ ap (λ (l : List (List ℕ)). block_octets p ∷ l) (blocks_front parts later)

fits_front : (parts : List Parts) (later : List ℕ) → every fits (blocks_of (octets_of parts ++ later)) ≡ every fits (blocks_of later)
unfolding joined both
fits_front [] later = refl
fits_front (p ∷ parts) later =
    let others = octets_of parts ++ later in
    ap (λ (l : List ℕ). every fits (blocks_of l)) (append_assoc (block_octets p) (octets_of parts) later) ∙ every_first (length (follows p)) (follows p ++ others) ∙ ap₂ (λ (t : Bool) (behind : List ℕ). both t (every fits (blocks_of behind))) (block_fit p others) (drop-append_seam (follows p) others) ∙ fits_front parts later

-- with nothing behind them
module _ (parts : List Parts) where
  blocks_of_parts : blocks_of (octets_of parts) ≡ map block_octets parts
  unfolding blocks_behind
  blocks_of_parts = ap blocks_of (sym (append-nil (octets_of parts))) ∙ blocks_front parts [] ∙ append-nil (map block_octets parts)

  count_of_parts : length (blocks_of (octets_of parts)) ≡ length parts
  count_of_parts = ap length blocks_of_parts ∙ length-map parts block_octets

  parts_fit : every fits (blocks_of (octets_of parts)) ≡ true
  unfolding blocks_behind every
  parts_fit = ap (λ (l : List ℕ). every fits (blocks_of l)) (sym (append-nil (octets_of parts))) ∙ fits_front parts []

  parts_counted : walked (octets_of parts) ≡ blocks (length parts)
  unfolding walked when
  parts_counted = simp parts_fit (ap blocks count_of_parts)

-- what is refused
no_blocks : (octets : List ℕ) → (AreBlocks octets → ⊥) → every fits (blocks_of octets) ≡ false
no_blocks octets none = is_gone (every fits (blocks_of octets)) (λ all. none (all_parts (length octets) octets (omega arith) all))

refused_by : (octets : List ℕ) → every fits (blocks_of octets) ≡ false → walked octets ≡ refusal 14
unfolding walked when
refused_by octets unfit = simp unfit

refused_behind : (parts : List Parts) (n : ℕ) (octets : List ℕ) → (fits (n ∷ octets) ≡ true → ⊥) → walked (octets_of parts ++ n ∷ octets) ≡ refusal 14
unfolding both
refused_behind parts n octets unfit = refused_by (octets_of parts ++ n ∷ octets) (fits_front parts (n ∷ octets) ∙ every_first n octets ∙ ap (λ (t : Bool). both t (every fits (blocks_of (drop n octets)))) (is_gone (fits (n ∷ octets)) unfit))

-- parts are known by the octets of the block, and of what begins with it
module _ (p q : Parts) where
  same_codes : (later later' : List ℕ) → follows p ++ later ≡ follows q ++ later' → (length (country_code p) ≡ length (country_code q)) × (length p.provider ≡ length q.provider)
  same_codes later later' same =
      let country = sym (follows_full p later) ∙ ap (λ (l : List ℕ). full l + 1) same ∙ follows_full q later' in
      (country, sym (provider_at p later) ∙ ap₂ (λ (l : List ℕ) (k : ℕ). get_or l k 0) same country ∙ provider_at q later')

  same_parts : block_octets p ≡ block_octets q → p ≡ q
  same_parts same =
      let of-p = read_alone [] p [] in
      let of-q = read_alone [] q [] in
      let octets = ap (λ (l : List ℕ). l ++ []) same in
      let country = sym of-p.country.read ∙ ap (λ (l : List ℕ). part_in l (block_at l 0).country) octets ∙ of-q.country.read in
      let fulls : p.fulls ≡ q.fulls = omega (arith, ap length country, country_length p, country_length q) in
      let last : p.last ≡ q.last = sym (last_at p) ∙ ap₂ (λ (l : List ℕ) (k : ℕ). get_or l k 0) country fulls ∙ last_at q in
      let provider = sym of-p.provider.read ∙ ap (λ (l : List ℕ). part_in l (block_at l 0).provider) octets ∙ of-q.provider.read in
      let rest = sym of-p.rest.read ∙ ap (λ (l : List ℕ). part_in l (block_at l 0).rest) octets ∙ of-q.rest.read in
      λ i. record {
        fulls = fulls i;
        last = last i;
        other = is_prop→PathP (λ j. last j ≡ 255 → ⊥) (λ j. ¬_prop) p.other q.other i;
        provider = provider i;
        rest = rest i;
      }

all_same : (parts parts' : List Parts) → map block_octets parts ≡ map block_octets parts' → parts ≡ parts'
all_same [] [] same = refl
all_same [] (q ∷ parts') same = absurd (nil≢cons same)
all_same (p ∷ parts) [] same = absurd (cons≢nil same)
all_same (p ∷ parts) (q ∷ parts') same = ap₂ ◌∷◌ (same_parts p q (head-eq_of_cons-eq same)) (all_same parts parts' (tail-eq_of_cons-eq same))

codes_unfit : (n : ℕ) (p : Parts) → n < length (country_code p) + 1 + length p.provider → fits (n ∷ follows p) ≡ true → ⊥
codes_unfit n p short fit =
    let first = first_parts n (follows p) fit in
    let same = same_codes p first.0 [] (drop n (follows p)) (append-nil (follows p) ∙ ap (drop 1) first.1) in
    omega (arith, same.0, same.1, follows_length first.0, ap (λ (l : List ℕ). get_or l 0 0) first.1)

-- the block of a number
octets_append : (before later : List Parts) → octets_of (before ++ later) ≡ octets_of before ++ octets_of later
unfolding joined
octets_append [] later = refl
octets_append (p ∷ before) later = ap (λ (l : List ℕ). block_octets p ++ l) (octets_append before later) ∙ sym (append_assoc (block_octets p) (octets_of before) (octets_of later))

read_number : (before : List Parts) (p : Parts) (later : List Parts) → Reads (octets_of (before ++ p ∷ later)) (block_of (octets_of (before ++ p ∷ later)) (length before)) (length (octets_of before)) p
unfolding joined
read_number before p later =
    let parts = before ++ p ∷ later in
    let octets = octets_of parts in
    let place = length (octets_of before) in
    let number = length before in
    let split = octets_append before (p ∷ later) in
    let is-place : place_of octets number ≡ place = ap (λ (l : List ℕ). length (joined (take number (blocks_of l)))) split ∙ ap (λ (l : List (List ℕ)). length (joined (take number l))) (blocks_front before (octets_of (p ∷ later))) ∙ ap (λ (l : List (List ℕ)). length (joined l)) (take_at (map block_octets before) (blocks_of (octets_of (p ∷ later))) number (length-map before block_octets)) in
    let found = ap (block_at octets) (sym is-place) ∙ found_there octets number (parts_fit parts) (omega (arith, count_of_parts parts, length-append before (p ∷ later))) in
    let same = append_assoc (octets_of before) (block_octets p) (octets_of later) ∙ sym split in
    subst (λ (b : Block). Reads octets b place p) found (subst (λ (l : List ℕ). Reads l (block_at l place) place p) same (read_alone (octets_of before) p (octets_of later)))

-- the block at a place
read_nowhere : (octets : List ℕ) (place : ℕ) → ((front : List ℕ) (p : Parts) (later : List ℕ) → octets ≡ front ++ block_octets p ++ later → length front ≡ place → ⊥) → block_at octets place ≡ no_block
read_nowhere octets place none = block_none place (drop place octets) (is_gone (fits (drop place octets)) (unfit (drop place octets) refl))
  where
    unfit : (remain : List ℕ) → drop place octets ≡ remain → fits remain ≡ true → ⊥
    unfit [] is-remain fit = omega (arith, (fits_parts [] fit).0)
    unfit (n ∷ remain) is-remain fit =
        let first = first_parts n remain fit in
        let front = take place octets in
        none front first.0 (drop n remain) (sym (take-append-drop place octets) ∙ ap (λ (l : List ℕ). front ++ l) (is-remain ∙ first.1) ∙ sym (append_assoc front (block_octets first.0) (drop n remain))) (length-take-le place octets (omega (arith, ap length is-remain, length-drop place octets)))

pub blocks_are_their_parts : BlocksAreTheirParts
blocks_are_their_parts = record {
  counted = parts_counted;
  only = λ octets n is-blocks. all_parts (length octets) octets (omega arith) (walked_count octets n (sym is-blocks)).0;
  others = λ octets none. refused_by octets (no_blocks octets none);
  once = λ parts parts' same. all_same parts parts' (sym (blocks_of_parts parts) ∙ ap blocks_of same ∙ blocks_of_parts parts');
  longer = λ parts n octets long. refused_behind parts n octets (λ fit. omega (arith, (fits_parts (n ∷ octets) fit).0));
  unfit = λ parts n p short. refused_behind parts n (follows p) (codes_unfit n p short);
  read = read_number;
  past = λ parts number over. sym (found_past (octets_of parts) number (omega (arith, count_of_parts parts)));
  refused = λ octets number none. sym (found_none octets number (no_blocks octets none));
  alone = read_alone;
  nowhere = read_nowhere;
}
