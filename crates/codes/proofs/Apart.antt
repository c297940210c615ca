-- No two choices, answers, spans, places or items asked for share a number: each is found again from its number, where an item is one from 1 to 12, PCM options
-- are some, an answer is one that a step can give, a place is below 64, and a refusal has a number.
-- Assumes nothing.
use Prim.Native.Nat.{ℕ, zero, suc, ◌+◌, ◌-◌}
use native.Mathlib.Omega.{arith}
use mathlib.Core.Path.{◌≡◌, refl, sym, ap, ap₂, ◌∙◌}
use mathlib.Core.Bool.{Bool, true, false}
use borrow.Author.Tests.{lt-ltb, le-ltb, ne_eqb}
use lib.Dec.{ltb, eqb}
use lib.IntN.{ℤ, pos, negsuc}
use Rattle.laws.specs.Logic.{when, both}
use Rattle.laws.proofs.Logic.{clash}
use Rattle.choices.specs.Choosing.{Chosen, none, item, pcm}
use Rattle.choices.specs.Choosing as choosing
use Rattle.steps.specs.Session.{is_item}
use Rattle.steps.specs.Stepping.{Answered, same, entered, ended, go_on, refusal}
use Rattle.steps.proofs.Ticks.{between_true}
use Rattle.steps.proofs.Answers.{possible_answer}
use Rattle.listening.specs.Spans.{Spanned, spans}
use Rattle.listening.specs.Spans as spanning
use Rattle.menus.specs.Groups.{Looked, place, nowhere}
use Rattle.menus.specs.Groups as looking
use Rattle.menus.specs.Asking.{Asked, answer}
use Rattle.menus.specs.Asking as asking
use Rattle.codes.specs.Choosing.{choice_code}
use Rattle.codes.specs.Steps.{step_code}
use Rattle.codes.specs.Hearing.{span_code}
use Rattle.codes.specs.Reading.{looked_code, asked_code, asked_count}

-- a choice that is known by its number
abbrev pub known_choice : Chosen → Bool
known_choice none = true
known_choice (item i) = is_item i
known_choice (pcm options) = ltb 0 options
known_choice (choosing.refusal n) = ltb 0 n

abbrev choice_from : ℤ → Chosen
choice_from (pos n) = when (eqb n 0) none (when (ltb n 13) (item n) (pcm (n - 16)))
choice_from (negsuc n) = choosing.refusal (suc n)

choice_back : (c : Chosen) → known_choice c ≡ true → choice_from (choice_code c) ≡ c
unfolding when
choice_back none known = refl
choice_back (item i) known =
    let ends = between_true 1 12 i known in
    simp (ne_eqb i 0 (λ z. omega (arith, z, ends.0)), lt-ltb i 13 (omega (arith, ends.1)))
choice_back (pcm options) known = simp (ne_eqb (16 + options) 0 (λ z. omega (arith, z)), le-ltb (16 + options) 13 (omega arith)) (ap pcm (omega arith))
choice_back (choosing.refusal zero) known = clash (sym known)
choice_back (choosing.refusal (suc n)) known = refl

pub choice_code_injective : (c d : Chosen) → known_choice c ≡ true → known_choice d ≡ true → choice_code c ≡ choice_code d → c ≡ d
choice_code_injective c d p q e = sym (choice_back c p) ∙ ap choice_from e ∙ choice_back d q

-- an answer that a step can give
abbrev answer_from : ℤ → Answered
answer_from (pos n) = when (eqb n 0) same (when (ltb n 16) (entered n) (when (ltb n 32) (ended (n - 16)) (go_on (n - 32))))
answer_from (negsuc n) = refusal (suc n)

answer_back : (a : Answered) → possible_answer a ≡ true → answer_from (step_code a) ≡ a
unfolding when both
answer_back same known = refl
answer_back (entered state) known =
    let ends = between_true 1 9 state known in
    simp (ne_eqb state 0 (λ z. omega (arith, z, ends.0)), lt-ltb state 16 (omega (arith, ends.1)))
answer_back (ended how) known =
    let ends = between_true 1 4 how known in
    simp (ne_eqb (16 + how) 0 (λ z. omega (arith, z)), le-ltb (16 + how) 16 (omega arith), lt-ltb (16 + how) 32 (omega (arith, ends.1))) (ap ended (omega arith))
answer_back (go_on choice) known =
    simp (ne_eqb (32 + choice) 0 (λ z. omega (arith, z)), le-ltb (32 + choice) 16 (omega arith), le-ltb (32 + choice) 32 (omega arith)) (ap go_on (omega arith))
answer_back (refusal zero) known = clash (sym known)
answer_back (refusal (suc n)) known = refl

pub step_code_injective : (a b : Answered) → possible_answer a ≡ true → possible_answer b ≡ true → step_code a ≡ step_code b → a ≡ b
step_code_injective a b p q e = sym (answer_back a p) ∙ ap answer_from e ∙ answer_back b q

-- and the span of the message reported last
abbrev pub known_span : Spanned → Bool
known_span spanning.none = true
known_span (spans n) = ltb 0 n
known_span (spanning.refusal n) = ltb 0 n

abbrev span_from : ℤ → Spanned
span_from (pos n) = when (eqb n 0) spanning.none (spans n)
span_from (negsuc n) = spanning.refusal (suc n)

span_back : (s : Spanned) → known_span s ≡ true → span_from (span_code s) ≡ s
unfolding when
span_back spanning.none known = refl
span_back (spans zero) known = clash (sym known)
span_back (spans (suc n)) known = simp (ne_eqb (suc n) 0 (λ z. omega (arith, z)))
span_back (spanning.refusal zero) known = clash (sym known)
span_back (spanning.refusal (suc n)) known = refl

pub span_code_injective : (s t : Spanned) → known_span s ≡ true → known_span t ≡ true → span_code s ≡ span_code t → s ≡ t
span_code_injective s t p q e = sym (span_back s p) ∙ ap span_from e ∙ span_back t q

-- and what looking answers
abbrev pub known_place : Looked → Bool
known_place (place n) = ltb n 64
known_place nowhere = true
known_place (looking.refusal n) = ltb 0 n

abbrev place_from : ℤ → Looked
place_from (pos n) = when (ltb n 64) (place n) nowhere
place_from (negsuc n) = looking.refusal (suc n)

place_back : (l : Looked) → known_place l ≡ true → place_from (looked_code l) ≡ l
unfolding when
place_back (place n) known = simp known
place_back nowhere known = refl
place_back (looking.refusal zero) known = clash (sym known)
place_back (looking.refusal (suc n)) known = refl

pub looked_code_injective : (l k : Looked) → known_place l ≡ true → known_place k ≡ true → looked_code l ≡ looked_code k → l ≡ k
looked_code_injective l k p q e = sym (place_back l p) ∙ ap place_from e ∙ place_back k q

-- and what asking for an item does
abbrev pub known_asked : Asked → Bool
known_asked (answer offered looked) = true
known_asked (asking.refusal n) = ltb 0 n

abbrev asked_from : ℤ → ℕ → Asked
asked_from (pos n) looked = answer (eqb n 1) looked
asked_from (negsuc n) looked = asking.refusal (suc n)

asked_back : (a : Asked) → known_asked a ≡ true → asked_from (asked_code a) (asked_count a) ≡ a
asked_back (answer false looked) known = refl
asked_back (answer true looked) known = refl
asked_back (asking.refusal zero) known = clash (sym known)
asked_back (asking.refusal (suc n)) known = refl

pub asked_code_injective : (a b : Asked) → known_asked a ≡ true → known_asked b ≡ true → asked_code a ≡ asked_code b → asked_count a ≡ asked_count b → a ≡ b
asked_code_injective a b p q e alike = sym (asked_back a p) ∙ ap₂ asked_from e alike ∙ asked_back b q
