-- Laws about what stands on the line: lengths, one octet or one copy more, and ten bits as one number.
-- Assumes nothing.
use Prim.Native.Nat.{ℕ, zero, suc, ◌<◌, ◌≤◌, ◌+◌, ◌*◌, ◌-◌, ◌%◌, ◌/◌}
use native.Mathlib.Nat.{zero-mul, suc-mul, mul-le-mul_right}
use native.Mathlib.Numerals.{add-one}
use native.Mathlib.Omega.{arith}
use mathlib.Core.Path.{◌≡◌, refl, sym, ap, ◌∙◌}
use mathlib.Core.Bool.{Bool}
use mathlib.Core.List.{List, [], ◌∷◌, ◌++◌, append_assoc, append-nil}
use lib.Dec.{lit<}
use lib.ListN.{length, take, drop, get_or, length-append}
use lib.Seq.{drop-cons, length-take-le, take-add}
use borrow.Rule.Slice.PartMut.{put_mid}
use Rattle.laws.specs.Logic.{both}
use Rattle.laws.specs.Front.{front}
use Rattle.laws.specs.Tests.{all_below, same_list}
use Rattle.laws.proofs.Computed.{below, same_list_lem}
use Rattle.laws.proofs.Rest.{front_length, lent_length, front_then}
use Rattle.octets.specs.declared.Kind.{Kind}
use Rattle.octets.specs.declared.Kind.TheVariants.{Ci, Menu}
use Rattle.sequences.specs.Line.{framed, framed_all, ten_ones, sync, sequence, copies, cj}
use Rattle.sequences.specs.Inner.{ten_bits, spreads, ones_ten, sync_ten, octet_ten}

-- ten bits from the bytes of two spreads
abbrev pub stored_ten : ℕ → ℕ → ℕ → List ℕ
stored_ten low high v = low % 256 ∷ low / 256 % 256 ∷ low / 65536 % 256 ∷ low / 16777216 % 256 ∷ high % 256 ∷ high / 256 % 256 ∷ high / 65536 % 256 ∷ high / 16777216 % 256 ∷ v / 256 % 2 ∷ v / 512 % 2 ∷ []

abbrev stores_ten : ℕ → Bool
stores_ten v = same_list (stored_ten (get_or spreads (v % 16) 0) (get_or spreads (v / 16 % 16) 0) v) (ten_bits v)

pub ten_stored : (v : ℕ) → v < 1024 → stored_ten (get_or spreads (v % 16) 0) (get_or spreads (v / 16 % 16) 0) v ≡ ten_bits v
unfolding ten_bits all_below same_list both
ten_stored v small = same_list_lem (stored_ten (get_or spreads (v % 16) 0) (get_or spreads (v / 16 % 16) 0) v) (ten_bits v) (below stores_ten 1024 tt v small)

-- the numbers of `Inner` are the bits of `Line`
ten_ones_lem : ten_bits ones_ten ≡ ten_ones
unfolding ten_bits
ten_ones_lem = refl

ten_sync : (kind : Kind) → ten_bits (sync_ten kind) ≡ sync kind
unfolding ten_bits
ten_sync Ci = refl
ten_sync Menu = refl

pub sync_small : (kind : Kind) → sync_ten kind < 1024
sync_small Ci = lit< tt
sync_small Menu = lit< tt

abbrev ten_is_framed : ℕ → Bool
ten_is_framed b = same_list (ten_bits (octet_ten b)) (framed b)

pub ten_octet : (b : ℕ) → b < 256 → ten_bits (octet_ten b) ≡ framed b
unfolding ten_bits framed all_below same_list both
ten_octet b small = same_list_lem (ten_bits (octet_ten b)) (framed b) (below ten_is_framed 256 tt b small)

pub preambled : (kind : Kind) (octets : List ℕ) (v : ℕ) → v ≡ sync_ten kind → (ten_bits ones_ten ++ ten_bits v) ++ framed_all octets ≡ sequence kind octets
unfolding sequence
preambled kind octets v is-sync =
    ap (λ (bits : List ℕ). ten_bits ones_ten ++ bits ++ framed_all octets) (ap ten_bits is-sync ∙ ten_sync kind) ∙ ap (λ (bits : List ℕ). bits ++ sync kind ++ framed_all octets) ten_ones_lem

-- lengths
pub ten_length : (v : ℕ) → length (ten_bits v) ≡ 10
unfolding ten_bits
ten_length v = refl

pub framed_length : (octets : List ℕ) → length (framed_all octets) ≡ 10 * length octets
unfolding framed_all framed
framed_length [] = refl
framed_length (b ∷ octets) = omega (arith, framed_length octets)

pub sequence_length : (kind : Kind) (octets : List ℕ) → length (sequence kind octets) ≡ 20 + 10 * length octets
unfolding sequence
sequence_length Ci octets = omega (arith, framed_length octets)
sequence_length Menu octets = omega (arith, framed_length octets)

pub cj_length : length cj ≡ 30
unfolding cj
cj_length = framed_length (0 ∷ 0 ∷ 0 ∷ [])

-- one more, behind what stands already
pub framed_append : (a b : List ℕ) → framed_all (a ++ b) ≡ framed_all a ++ framed_all b
unfolding framed_all
framed_append [] b = refl
framed_append (x ∷ a) b = ap (λ (l : List ℕ). framed x ++ l) (framed_append a b) ∙ sym (append_assoc (framed x) (framed_all a) (framed_all b))

pub framed_join : (octets : List ℕ) (i r : ℕ) → framed_all (take (i + r) octets) ≡ framed_all (take i octets) ++ framed_all (take r (drop i octets))
framed_join octets i r = rw take-add (framed_append (take i octets) (take r (drop i octets)))

pub framed_one : (octets : List ℕ) (i : ℕ) → i < length octets → get_or octets i 0 < 256 → ten_bits (octet_ten (get_or octets i 0)) ≡ framed_all (take 1 (drop i octets))
unfolding framed_all
framed_one octets i h b = ten_octet (get_or octets i 0) b ∙ sym (append-nil (framed (get_or octets i 0))) ∙ rw (drop-cons octets i 0 h)

-- the first i octets stand at the front of the buffer, and a writer is lent what lies behind them
module _ (octets lent now : List ℕ) (i : ℕ) (room : 10 * length octets ≤ length lent) (within : i ≤ length octets) (stands : now ≡ front (framed_all (take i octets)) lent) where
  pub done_length : 10 * i ≡ length (framed_all (take i octets))
  done_length = omega (arith, framed_length (take i octets), length-take-le i octets within)

  pub out_length : length now ≡ length lent
  out_length = ap length stands ∙ front_length (framed_all (take i octets)) lent (omega (arith, done_length))

  pub rest_length : length (take (length now - 10 * i) (drop (10 * i) now)) ≡ length lent - 10 * i
  rest_length = lent_length (framed_all (take i octets)) lent now (10 * i) done_length (omega arith) stands

  pub framed_more : (r : ℕ) (rest : List ℕ) → rest ≡ front (framed_all (take r (drop i octets))) (take (length now - 10 * i) (drop (10 * i) now))
      → put_mid (10 * i) (length now - 10 * i) now rest ≡ front (framed_all (take (i + r) octets)) lent
  framed_more r rest rest-stands =
      front_then (framed_all (take i octets)) lent now (10 * i) done_length (omega arith) stands (framed_all (take r (drop i octets))) rest rest-stands
      ∙ ap (λ (bits : List ℕ). front bits lent) (sym (framed_join octets i r))

-- copies: how long they are, and one more behind the others
pub copies_length : (n : ℕ) (line : List ℕ) → length (copies n line) ≡ n * length line
unfolding copies
copies_length zero line = sym (zero-mul (length line))
copies_length (suc n) line = omega (arith, length-append line (copies n line), copies_length n line, suc-mul n (length line))

copies_turn : (n : ℕ) (line : List ℕ) → line ++ copies n line ≡ copies n line ++ line
unfolding copies
copies_turn zero line = append-nil line
copies_turn (suc n) line = ap (λ (l : List ℕ). line ++ l) (copies_turn n line) ∙ sym (append_assoc line (copies n line) line)

pub copies_more : (n : ℕ) (line : List ℕ) → copies (n + 1) line ≡ copies n line ++ line
unfolding copies
copies_more n line = rw add-one (copies_turn n line)

pub copies_more_length : (n : ℕ) (line : List ℕ) → length (copies (n + 1) line) ≡ length (copies n line) + length line
copies_more_length n line = ap length (copies_more n line) ∙ length-append (copies n line) line

pub copies_within : (k n : ℕ) (line : List ℕ) → k ≤ n → length (copies k line) ≤ length (copies n line)
copies_within k n line fewer = omega (arith, copies_length k line, copies_length n line, mul-le-mul_right (length line) fewer)

-- what the writer counts: at most 65,535 copies of at most 660 bits
pub line_length : (kind : Kind) (octets : List ℕ) (n : ℕ) → length (copies n (sequence kind octets)) ≡ n * (20 + 10 * length octets)
line_length kind octets n = copies_length n (sequence kind octets) ∙ ap (λ (size : ℕ). n * size) (sequence_length kind octets)

pub line_small : (octets : List ℕ) (n : ℕ) → length octets ≤ 64 → n ≤ 65535 → n * (20 + 10 * length octets) ≤ 43253100
line_small octets n few times = omega (arith, mul-le-mul_right (20 + 10 * length octets) times)
