-- What a bit does at its place in the framing, case by case, with what the definition tested on the way there.
-- Assumes nothing.
use Prim.Native.Nat.{ℕ, ◌<◌, ◌≤◌, ◌+◌}
use native.Mathlib.Omega.{arith}
use mathlib.Core.Path.{◌≡◌, refl}
use mathlib.Core.Bool.{true, false}
use borrow.Author.Tests.{eqb-true, eqb-false, ltb-true, ltb-false}
use lib.Dec.{eqb, ltb, lit<}
use Rattle.laws.specs.Logic.{both}
use Rattle.laws.proofs.Logic.{either_way, both_true}
use Rattle.octets.specs.declared.Kind.{Kind}
use Rattle.octets.specs.declared.Kind.TheVariants.{Ci, Menu}
use Rattle.octets.specs.Octets.{bad}
use Rattle.sequences.specs.Line.{ten_ones, sync}
use Rattle.framing.specs.declared.Ear.{Ear}
use Rattle.framing.specs.declared.Placed.{Placed}
use Rattle.framing.specs.declared.Turned.{Turned}
use Rattle.framing.specs.Framing.{value, pushed, more, last_ten, octet_of, is_cj, hunting, in_sync, last_of_sync, boundary, in_octet, stop_position, ending_ones, last_of_ending, nothing, start_ci, start_menu, store, report, tell_cj, refusal_act, hunted, synced, bounded, stopped, ended, placed, turned}

-- the act that accepts a sync
abbrev pub start_of : Kind → ℕ
start_of Ci = start_ci
start_of Menu = start_menu

pub data Places (place before past len bit : ℕ) : (to act : ℕ) → Type 0 where
  hunts : place ≡ hunting → Places place before past len bit (hunted before bit) nothing
  inside_sync_lem : 0 < place → place < last_of_sync → Places place before past len bit (place + 1) nothing
  accepts : (kind : Kind) → place ≡ last_of_sync → last_ten past ≡ value (sync kind) → Places place before past len bit boundary (start_of kind)
  passes_over : place ≡ last_of_sync → (last_ten past ≡ value (sync Ci) → ⊥) → (last_ten past ≡ value (sync Menu) → ⊥) → Places place before past len bit hunting nothing
  opens_octet : place ≡ boundary → bit ≡ 0 → Places place before past len bit in_octet nothing
  opens_end : place ≡ boundary → (bit ≡ 0 → ⊥) → Places place before past len bit ending_ones nothing
  inside_octet_lem : boundary < place → place < stop_position → Places place before past len bit (place + 1) nothing
  stop_zero_lem : place ≡ stop_position → bit ≡ 0 → Places place before past len bit hunting (refusal_act 2)
  bad_octet_lem : place ≡ stop_position → (bit ≡ 0 → ⊥) → bad (octet_of past) ≡ true → Places place before past len bit hunting (refusal_act 3)
  too_many : place ≡ stop_position → (bit ≡ 0 → ⊥) → len ≡ 64 → Places place before past len bit hunting (refusal_act 4)
  stores : place ≡ stop_position → (bit ≡ 0 → ⊥) → bad (octet_of past) ≡ false → (len ≡ 64 → ⊥) → Places place before past len bit boundary store
  cut_short : stop_position < place → bit ≡ 0 → Places place before past len bit (hunted before bit) (refusal_act 13)
  inside_end : stop_position < place → place < last_of_ending → (bit ≡ 0 → ⊥) → Places place before past len bit (place + 1) nothing
  reports : last_of_ending ≤ place → (bit ≡ 0 → ⊥) → Places place before past len bit hunting report

module _ (place before past len bit : ℕ) where
  abbrev P : Placed → Type 0
  P p = Places place before past len bit p.place p.act

  synced_as : place ≡ last_of_sync → P (synced past)
  unfolding synced
  synced_as at =
      either_way P (eqb (last_ten past) (value (sync Ci))) _ _ (λ ci. accepts Ci at (eqb-true _ _ ci))
      (λ not-ci. either_way P (eqb (last_ten past) (value (sync Menu))) _ _ (λ menu. accepts Menu at (eqb-true _ _ menu)) (λ not-menu. passes_over at (eqb-false _ _ not-ci) (eqb-false _ _ not-menu)))

  bounded_as : place ≡ boundary → P (bounded bit)
  unfolding bounded
  bounded_as at = either_way P (eqb bit 0) _ _ (λ zero. opens_octet at (eqb-true _ _ zero)) (λ one. opens_end at (eqb-false _ _ one))

  stopped_as : place ≡ stop_position → P (stopped past len bit)
  unfolding stopped
  stopped_as at =
      either_way P (eqb bit 0) _ _ (λ zero. stop_zero_lem at (eqb-true _ _ zero))
      (λ one. either_way P (bad (octet_of past)) _ _ (λ is-bad. bad_octet_lem at (eqb-false _ _ one) is-bad)
      (λ fine. either_way P (eqb len 64) _ _ (λ full. too_many at (eqb-false _ _ one) (eqb-true _ _ full)) (λ room. stores at (eqb-false _ _ one) fine (eqb-false _ _ room))))

  ended_as_lem : stop_position < place → P (ended place before bit)
  unfolding ended
  ended_as_lem at =
      either_way P (eqb bit 0) _ _ (λ zero. cut_short at (eqb-true _ _ zero))
      (λ one. either_way P (ltb place last_of_ending) _ _ (λ early. inside_end at (ltb-true _ _ early) (eqb-false _ _ one)) (λ late. reports (ltb-false _ _ late) (eqb-false _ _ one)))

  pub placed_as : Places place before past len bit (placed place before past len bit).place (placed place before past len bit).act
  unfolding placed
  placed_as =
      either_way P (eqb place hunting) _ _ (λ hunting-there. hunts (eqb-true _ _ hunting-there))
      (λ not-hunting. let some = eqb-false place hunting not-hunting in either_way P (ltb place last_of_sync) _ _ (λ in_sync_lem. inside_sync_lem (omega (arith, some)) (ltb-true _ _ in_sync_lem))
      (λ past-sync. either_way P (eqb place last_of_sync) _ _ (λ at. synced_as (eqb-true _ _ at))
      (λ behind-sync. let high = ltb-false place last_of_sync past-sync in let not_last = eqb-false place last_of_sync behind-sync in either_way P (eqb place boundary) _ _ (λ at. bounded_as (eqb-true _ _ at))
      (λ inside. let not-boundary = eqb-false place boundary inside in either_way P (ltb place stop_position) _ _ (λ in_octet_lem. inside_octet_lem (omega (arith, high, not_last, not-boundary)) (ltb-true _ _ in_octet_lem))
      (λ past-octet. either_way P (eqb place stop_position) _ _ (λ at. stopped_as (eqb-true _ _ at))
      (λ in_end. ended_as_lem (omega (arith, ltb-false place stop_position past-octet, eqb-false place stop_position in_end))))))))

-- hunting, or one bit into a sync
pub data Hunted (before bit : ℕ) : ℕ → Type 0 where
  goes_by : Hunted before bit hunting
  starts : bit ≡ 0 → last_ten before ≡ value ten_ones → Hunted before bit in_sync

pub hunted_as : (before bit : ℕ) → Hunted before bit (hunted before bit)
unfolding hunted
hunted_as before bit =
    either_way (Hunted before bit) (both (eqb bit 0) (eqb (last_ten before) (value ten_ones))) _ _
    (λ tested. let tests = both_true _ _ tested in starts (eqb-true _ _ tests.0) (eqb-true _ _ tests.1))
    (λ _. goes_by)

pub hunted_low : (before bit : ℕ) → hunted before bit ≤ in_sync
unfolding hunted
hunted_low before bit = either_way (λ (place : ℕ). place ≤ in_sync) (both (eqb bit 0) (eqb (last_ten before) (value ten_ones))) _ _ (λ _. omega arith) (λ _. omega arith)

-- what a bit at its place asks for: nothing, and a place before the boundary stays before it; a message that begins or grows, at an octet
-- boundary; a report, behind nine 1s; or a refusal, from the stop position on. CJ it never asks for
pub data Asks (place bit to act : ℕ) : Type 0 where
  no_ask : (place ≤ last_of_sync → to ≤ last_of_sync) → act ≡ nothing → Asks place bit to act
  a_message : to ≡ boundary → 0 < act → act < report → Asks place bit to act
  a_report : last_of_ending ≤ place → (bit ≡ 0 → ⊥) → to ≡ hunting → act ≡ report → Asks place bit to act
  a_refusal : stop_position ≤ place → to ≤ in_sync → tell_cj < act → Asks place bit to act

pub asks : {place before past len bit to act : ℕ} → Places place before past len bit to act → Asks place bit to act
asks {before = before} {bit = bit} (hunts at) = no_ask (λ _. omega (arith, hunted_low before bit)) refl
asks (inside_sync_lem some few) = no_ask (λ _. omega arith) refl
asks (accepts Ci at word) = a_message refl (lit< tt) (lit< tt)
asks (accepts Menu at word) = a_message refl (lit< tt) (lit< tt)
asks (passes_over at not-ci not-menu) = no_ask (λ _. omega arith) refl
asks (opens_octet at is_zero) = no_ask (λ low. absurd (omega (arith, at))) refl
asks (opens_end at one) = no_ask (λ low. absurd (omega (arith, at))) refl
asks (inside_octet_lem some few) = no_ask (λ low. absurd (omega arith)) refl
asks (stop_zero_lem at is_zero) = a_refusal (omega (arith, at)) (omega arith) (lit< tt)
asks (bad_octet_lem at one is-bad) = a_refusal (omega (arith, at)) (omega arith) (lit< tt)
asks (too_many at one full) = a_refusal (omega (arith, at)) (omega arith) (lit< tt)
asks (stores at one fine room) = a_message refl (lit< tt) (lit< tt)
asks {before = before} {bit = bit} (cut_short some is_zero) = a_refusal (omega arith) (hunted_low before bit) (lit< tt)
asks (inside_end some few one) = no_ask (λ low. absurd (omega arith)) refl
asks (reports late one) = a_report late one refl refl

-- a bit that turns the ear: CJ is told, or it is at its place
pub data Turns (ear : Ear) (len bit : ℕ) : (to act : ℕ) → Type 0 where
  tells_cj_lem : is_cj (pushed ear.past bit) (more ear.heard) ≡ true → Turns ear len bit hunting tell_cj
  is_placed : {to act : ℕ} → is_cj (pushed ear.past bit) (more ear.heard) ≡ false → Places ear.place ear.past (pushed ear.past bit) len bit to act → Turns ear len bit to act

abbrev pub turning : Ear → ℕ → ℕ → ℕ → Turned
turning ear bit to act = record { ear = record { past = pushed ear.past bit; heard = more ear.heard; place = to }; act = act }

pub record TurnedAs (ear : Ear) (len bit : ℕ) : Type 0 where
  pub to : ℕ
  pub act : ℕ
  pub is : turned ear len bit ≡ turning ear bit to act
  pub by : Turns ear len bit to act

pub turned_as : (ear : Ear) (len bit : ℕ) → TurnedAs ear len bit
unfolding turned
turned_as ear len bit = record {
  to = _;
  act = _;
  is = refl;
  by = either_way (λ (p : Placed). Turns ear len bit p.place p.act) (is_cj (pushed ear.past bit) (more ear.heard)) _ _ tells_cj_lem (λ other. is_placed other (placed_as ear.place ear.past (pushed ear.past bit) len bit));
}
