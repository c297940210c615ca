-- What the numbers of spans and of items asked for tell: parts of the proof that every number is one that the header lists (`Numbers`).
-- Assumes nothing.
use Prim.Native.Nat.{ℕ, suc, ◌<◌, ◌%◌}
use native.Mathlib.Omega.{arith}
use mathlib.Core.Path.{◌≡◌, refl}
use mathlib.Core.Bool.{Bool, true, false}
use borrow.Author.Tests.{lt-ltb, le-leb, eq-eqb, ne_eqb}
use lib.Dec.{eqb}
use lib.IntN.{pos}
use Rattle.laws.specs.Logic.{when, both, either}
use Rattle.laws.proofs.Logic.{either_way}
use Rattle.menus.specs.Asking.{Asked, answer}
use Rattle.menus.specs.Asking as asking
use Rattle.listening.specs.declared.Listener.{Listener}
use Rattle.listening.specs.Record as record_of
use Rattle.listening.specs.Hearing.{span_of}
use Rattle.listening.specs.Spans.{Spanned, spanned, last_span}
use Rattle.listening.specs.Spans as spanning
use Rattle.listening.proofs.Ranges as record-ranges
use Rattle.steps.specs.Session.{between}
use Rattle.codes.specs.Hearing.{span_code}
use Rattle.codes.specs.Reading.{asked_code}
use Rattle.codes.proofs.Apart.{known_span, known_asked}
use Rattle.demands.specs.Numbers.{span_number, asked_number}

pub in_range_lem : (low high n : ℕ) → low < suc n → n < suc high → between low high n ≡ true
unfolding both
in_range_lem low high n from to = simp (le-leb low n (omega (arith, from)), le-leb n high (omega (arith, to)))

-- what asking for an item answers
abbrev pub looks_at : Asked → ℕ
looks_at (answer offered n) = n
looks_at (asking.refusal n) = 1

pub record TellsAsked (a : Asked) : Type 0 where
  pub number : asked_number (asked_code a) ≡ true
  pub known : known_asked a ≡ true
  pub looks : between 1 64 (looks_at a) ≡ true

pub offered_code : (offered : Bool) (n : ℕ) → asked_code (answer offered n) ≡ pos (when offered 1 0)
unfolding when
offered_code true n = refl
offered_code false n = refl

-- a span that is asked for
pub record TellsSpan (s : Spanned) : Type 0 where
  pub number : span_number (span_code s) ≡ true
  pub known : known_span s ≡ true

pub span_tells : (rec : Listener) → TellsSpan (last_span rec)
unfolding last_span spanned either both
span_tells rec =
    either_way TellsSpan (record_of.in_range rec) (spanned rec.last) (spanning.refusal 10)
    (λ inside.
    let few = (record-ranges.range_fits rec inside).last.len in
    either_way TellsSpan (eqb rec.last.kind 0) spanning.none (spanning.spans (span_of rec.last.len)) (λ _. record { number = refl; known = refl })
    (λ _. record {
      number = simp (ne_eqb (span_of rec.last.len) 0 (λ z. omega (arith, z)), in_range_lem 20 660 (span_of rec.last.len) (omega arith) (omega (arith, few)), eq-eqb (span_of rec.last.len % 10) 0 (omega arith));
      known = lt-ltb 0 (span_of rec.last.len) (omega arith);
    }))
    (λ _. record { number = refl; known = refl })
