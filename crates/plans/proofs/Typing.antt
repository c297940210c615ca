-- Laws about the plain form as it is typed, one piece, one octet and one bit at a time.
-- Assumes nothing.
use Rattle.std.proofs.Common.{◌≡◌, ℕ, suc, ◌+◌, ◌-◌, ◌<◌, ◌≤◌, Bool, eqb, List, [], ◌∷◌, length, get_or, drop, sym, ap, ◌∙◌, add-one, arith, drop_of_length-le, drop-cons, eq-eqb, ne_eqb}
use Rattle.laws.specs.Logic.{when}
use Rattle.printing.specs.Page.{Page, typed, hex_octet}
use Rattle.printing.proofs.Pages.{typed_joined}
use Rattle.plans.specs.declared.Plan.{Plan}
use Rattle.plans.specs.Reading.{set_at}
use Rattle.plans.specs.Plain.{function_text, functions_text, entry_text, octets_text, bit_text, bits_text}

module _ (p : Page) (plan : Plan) (end f last : ℕ) where
  pub functions_on : f < last → typed p (functions_text plan end f (last - f)) ≡ typed (typed p (function_text f (set_at plan end f))) (functions_text plan end (f + 1) (last - (f + 1)))
  unfolding functions_text
  functions_on more =
      let one_more : last - f ≡ suc (last - (f + 1)) = omega (arith, more) in
      ap (λ (count : ℕ). typed p (functions_text plan end f count)) one_more ∙ typed_joined p (function_text f (set_at plan end f)) (functions_text plan end (f + 1) (last - (f + 1)))

  pub functions_end : last ≤ f → typed p (functions_text plan end f (last - f)) ≡ p
  unfolding functions_text typed
  functions_end over =
      let none_left : last - f ≡ 0 = omega (arith, over) in
      ap (λ (count : ℕ). typed p (functions_text plan end f count)) none_left

module _ (p : Page) (front octets : List ℕ) (i : ℕ) where
  pub octet_on : i < length octets → typed p (octets_text front i (drop i octets)) ≡ typed (typed p (entry_text front i (hex_octet (get_or octets i 0)))) (octets_text front (i + 1) (drop (i + 1) octets))
  unfolding octets_text
  octet_on more =
      let here = drop-cons octets i 0 more ∙ ap (λ (next : ℕ). get_or octets i 0 ∷ drop next octets) (sym (add-one i)) in
      ap (λ (rest : List ℕ). typed p (octets_text front i rest)) here ∙ typed_joined p (entry_text front i (hex_octet (get_or octets i 0))) (octets_text front (i + 1) (drop (i + 1) octets))

  pub octets_end : length octets ≤ i → typed p (octets_text front i (drop i octets)) ≡ p
  unfolding octets_text typed
  octets_end over = ap (λ (rest : List ℕ). typed p (octets_text front i rest)) (drop_of_length-le octets over)

module _ (p : Page) (front : List ℕ) (count : ℕ) (bits : List ℕ) (i : ℕ) where
  rest : Bool → Page
  rest here = typed (typed p (when here (bit_text front count i) [])) (bits_text front (count + when here 1 0) (i + 1) (drop (i + 1) bits))

  one_on : i < length bits → typed p (bits_text front count i (drop i bits)) ≡ rest (eqb (get_or bits i 0) 1)
  unfolding bits_text rest
  one_on more =
      let here = drop-cons bits i 0 more ∙ ap (λ (next : ℕ). get_or bits i 0 ∷ drop next bits) (sym (add-one i)) in
      let bit = get_or bits i 0 in
      ap (λ (rest : List ℕ). typed p (bits_text front count i rest)) here
      ∙ typed_joined p (when (eqb bit 1) (bit_text front count i) []) (bits_text front (count + when (eqb bit 1) 1 0) (i + 1) (drop (i + 1) bits))

  pub bit_on : i < length bits → get_or bits i 0 ≡ 1 → typed p (bits_text front count i (drop i bits)) ≡ typed (typed p (bit_text front count i)) (bits_text front (count + 1) (i + 1) (drop (i + 1) bits))
  unfolding rest when
  bit_on more is_one = one_on more ∙ ap rest (eq-eqb _ _ is_one)

  pub bit_off : i < length bits → (get_or bits i 0 ≡ 1 → ⊥) → typed p (bits_text front count i (drop i bits)) ≡ typed p (bits_text front count (i + 1) (drop (i + 1) bits))
  unfolding rest when typed
  bit_off more is_none =
      let as_many : count + 0 ≡ count = omega arith in
      one_on more ∙ ap rest (ne_eqb _ _ is_none) ∙ ap (λ (n : ℕ). typed p (bits_text front n (i + 1) (drop (i + 1) bits))) as_many

  pub bits_end : length bits ≤ i → typed p (bits_text front count i (drop i bits)) ≡ p
  unfolding bits_text typed
  bits_end over = ap (λ (rest : List ℕ). typed p (bits_text front count i rest)) (drop_of_length-le bits over)
