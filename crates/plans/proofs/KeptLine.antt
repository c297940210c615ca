-- What stays good while a text is read: an end whose line was read is accepted, the function called is the caller's, and of a stranger the CM is known,
-- and nothing else. What an end's line says keeps it.
-- Assumes nothing.
use Rattle.std.proofs.Common.{◌≡◌, ℕ, ◌%◌, ◌<◌, ◌≤◌, Bool, true, false, eqb, ltb, ◌⊎◌, List, [], length, get_or, set, Option, Some, None, is_some, sym, refl, ap, ◌∙◌, inl, ⊎_elim, not-suc-le-zero, arith, lit<, lit≤, get_or-set_other}
use borrow.Author.Tests.{eqb-false}
use Rattle.laws.specs.Logic.{when, both, either}
use Rattle.laws.proofs.Logic.{either_way, clash}
use Rattle.items.specs.Items.{in_set}
use Rattle.records.specs.Record.{bad_record}
use Rattle.cadence.specs.Cadence.{is_cadence}
use Rattle.steps.specs.Session.{is_te}
use Rattle.plans.specs.declared.Plan.{Plan}
use Rattle.plans.specs.declared.Reading.{Reading}
use Rattle.plans.specs.Reading.{in_end, after_call, mode_first, call_not_had, twice, first_octet, octets, stranger, default_on, is_on, is_answer, with_sets, mistaken, begin_line, place, home, set_at, store, added, say, first_of, name_function, name_home, name_mode, lacks_call, one_of, record_of}
use Rattle.plans.proofs.Places.{set_here, ends_apart}
use Rattle.plans.proofs.KeptSets.{Fits, Sound, sound_at, sound_set, fits_home, fits_wanted, fits_more, named_odd, added_odd}

-- what a plan holds at any time
pub record Parts (plan : Plan) : Type 0 where
  pub sets : Sound plan.sets
  pub function : plan.function ≤ stranger
  pub te : either (eqb plan.te 0) (is_te plan.te) ≡ true
  pub on : either (eqb plan.on 0) (is_on plan.on) ≡ true
  pub off : either (eqb plan.off 0) (is_cadence default_on plan.off) ≡ true
  pub answers : either (eqb plan.answers 0) (is_answer plan.answers) ≡ true

-- the functions of a line are such, and the last is named
pub record Named (plan : Plan) (end last first : ℕ) : Type 0 where
  pub first_one : first ≤ 6
  pub last_one : last ≤ 6
  pub odd : 0 < last → set_at plan end last % 2 ≡ 1

-- an end whose line was read is accepted
abbrev pub Done : Plan → ℕ → Type 0
Done plan e = 0 < set_at plan e home → bad_record (record_of plan e) ≡ false

-- within an end's line the other is; behind it both are, and the call can be made
pub record Inside (plan : Plan) (end : ℕ) : Type 0 where
  pub low : 1 ≤ end
  pub high : end ≤ 2
  pub other : (e : ℕ) → 1 ≤ e → e ≤ 2 → (e ≡ end → ⊥) → Done plan e

pub record Outside (plan : Plan) : Type 0 where
  pub each : (e : ℕ) → 1 ≤ e → e ≤ 2 → Done plan e
  pub has_call : lacks_call plan ≡ false

-- what may come next says whether an end's line is read
abbrev pub within : ℕ → Bool
within context = both (ltb 1 context) (ltb context 5)

-- who calls, as far as it is read
pub record Calling (sets : List ℕ) (function end context : ℕ) (cm : List ℕ) : Type 0 where
  -- of a stranger nothing is said, and it is not its line that names functions
  pub nothing_said : function ≡ stranger → (k : ℕ) → k < 8 → get_or sets (place 1 k) 0 ≡ 0
  pub other : function ≡ stranger → within context ≡ true → end ≡ 1 → ⊥
  -- octets in the caller's line are a stranger's
  pub its_own : end ≡ 1 → one_of context first_octet octets ≡ true → function ≡ stranger
  -- a function is called where none was
  pub not_yet : context ≡ after_call → function ≡ 0
  -- a stranger's CM has octets, or the first of them is asked for; no other caller has any
  pub some : function ≡ stranger → (0 < length cm) ⊎ ((context ≡ first_octet) × (end ≡ 1))
  pub none : (function ≡ stranger → ⊥) → cm ≡ []

-- no octet is asked for in the caller's line
abbrev pub Settled : ℕ → ℕ → Type 0
Settled end context = context ≡ first_octet → end ≡ 1 → ⊥

module _ {sets : List ℕ} {function end context : ℕ} {cm : List ℕ} (calling : Calling sets function end context cm) (settled : Settled end context) where
  pub cm_known : function ≡ stranger → 0 < length cm
  cm_known is = ⊎_elim (λ known. known) (λ asked. absurd (settled asked.0 asked.1)) (calling.some is)

  -- something else comes next, in this line or in another
  pub calling_on :
      (end' context' : ℕ) → (function ≡ stranger → within context' ≡ true → end' ≡ 1 → ⊥) → (end' ≡ 1 → one_of context' first_octet octets ≡ false) → (context' ≡ after_call → function ≡ 0)
      → Calling sets function end' context' cm
  calling_on end' context' other no_octets not_yet = record {
    nothing_said = calling.nothing_said;
    other = other;
    its_own = λ is-caller at-octets. clash (sym at-octets ∙ no_octets is-caller);
    not_yet = not_yet;
    some = λ is. inl (cm_known is);
    none = calling.none;
  }

-- within an end's line no octet is asked for
pub settled_within : (end context : ℕ) → within context ≡ true → Settled end context
unfolding both
settled_within end context is-inside is _ = clash (sym is-inside ∙ ap within is)

pub record Holds (plan : Plan) (end last first context : ℕ) (cm : List ℕ) : Type 0 where
  pub parts : Parts plan
  pub names : Named plan end last first
  pub inside : within context ≡ true → Inside plan end
  pub outside : within context ≡ false → Outside plan
  pub calling : Calling plan.sets plan.function end context cm

-- a mistake changes nothing of this
abbrev pub Kept : List ℕ → Reading → Type 0
Kept cm r = Holds r.plan r.end r.function r.first r.context cm

-- a mistake is made, or none is
pub not_none : {n : ℕ} → Some n ≡ None → ⊥
not_none e = clash (ap is_some e)

-- what is kept where no mistake is made
abbrev pub Later : List ℕ → Reading → Type 0
Later cm r = r.what ≡ None → Kept cm r

-- a call that is no mistake is one that the caller has
pub call_had : (lacks : Bool) (what : Option ℕ) → when lacks (Some call_not_had) what ≡ None → lacks ≡ false
unfolding when
call_had true what right = absurd (not_none right)
call_had false what right = refl

-- the record of an end is that of its sets
same_record : (plan plan' : Plan) (e : ℕ) → ((i : ℕ) → set_at plan' e i ≡ set_at plan e i) → record_of plan' e ≡ record_of plan e
unfolding record_of
same_record plan plan' e same = simp (same 0, same 1, same 2, same 3, same 4, same 5, same 6, same 7)

pub no_names : (plan : Plan) (end : ℕ) → Named plan end 0 0
no_names plan end = record { first_one = omega arith; last_one = omega arith; odd = λ h. absurd (not-suc-le-zero h) }

module _ (cm : List ℕ) (r : Reading) (kept : Kept cm r) where
  abbrev old : ℕ → ℕ
  old k = set_at r.plan r.end k

  -- a line is begun
  pub new_line :
      (end context : ℕ) → (within context ≡ true → Inside r.plan end) → (within context ≡ false → Outside r.plan) → Calling r.plan.sets r.plan.function end context cm
      → Kept cm (begin_line r end context)
  new_line end context inside outside calling = record { parts = kept.parts; names = no_names r.plan end; inside = inside; outside = outside; calling = calling }

  -- one of its sets is changed
  module _ (is-inside : within r.context ≡ true) (k numbers : ℕ) (h : k < 8) (fits : Fits k numbers) where
    abbrev after : Plan
    after = with_sets r.plan (set r.plan.sets (place r.end k) numbers)

    other_done : (e : ℕ) → 1 ≤ e → e ≤ 2 → (e ≡ r.end → ⊥) → Done after e
    other_done e low high apart some =
        let now = kept.inside is-inside in
        let same : (i : ℕ) → set_at after e i ≡ set_at r.plan e i =
        λ i. get_or-set_other r.plan.sets (place r.end k) (place e i) numbers 0 (ends_apart r.end e k i now.low now.high low high apart) in
        ap bad_record (same_record r.plan after e same) ∙ now.other e low high apart (rw (same home) at some)

    -- the line is not that of a stranger, of which nothing is said
    calling_after : Calling after.sets r.plan.function r.end in_end cm
    unfolding both either
    calling_after =
        let now = kept.inside is-inside in
        let old-calling = kept.calling in
        let stays = calling_on old-calling (settled_within r.end r.context is-inside) r.end in_end (λ is _. old-calling.other is is-inside) (λ _. refl) (λ e. absurd (omega (arith, e))) in
        record {
          nothing_said = λ is i h'.
              get_or-set_other r.plan.sets (place r.end k) (place 1 i) numbers 0 (ends_apart r.end 1 k i now.low now.high (lit≤ tt) (lit≤ tt) (λ e. old-calling.other is is-inside (sym e)))
              ∙ old-calling.nothing_said is i h';
          other = stays.other;
          its_own = stays.its_own;
          not_yet = stays.not_yet;
          some = stays.some;
          none = stays.none;
        }

    kept_store : (last first : ℕ) → Named after r.end last first → Kept cm (store r k numbers last first)
    unfolding both
    kept_store last first names = record {
      parts = record { sets = sound_set r.plan.sets kept.parts.sets r.end k h numbers fits; function = kept.parts.function; te = kept.parts.te; on = kept.parts.on; off = kept.parts.off; answers = kept.parts.answers };
      names = names;
      inside = λ _. record { low = (kept.inside is-inside).low; high = (kept.inside is-inside).high; other = other_done };
      outside = λ e. clash e;
      calling = calling_after;
    }

    -- no function is named, or the one of the set
    pub kept_alone : Kept cm (store r k numbers 0 r.first)
    kept_alone = kept_store 0 r.first (record { first_one = kept.names.first_one; last_one = omega arith; odd = λ l. absurd (not-suc-le-zero l) })

    kept_last : (first : ℕ) → first ≤ 6 → k ≤ 6 → numbers % 2 ≡ 1 → Kept cm (store r k numbers k first)
    kept_last first is-first six odd =
        kept_store k first (record { first_one = is-first; last_one = six; odd = λ _. ap (λ (n : ℕ). n % 2) (set_here r.plan.sets kept.parts.sets.0 r.end k numbers) ∙ odd })

  -- something is said of the end, or of a function
  pub kept_wanted : within r.context ≡ true → (n : ℕ) → n ≤ 3 → Later cm (say r 0 n 0 r.first)
  unfolding say
  kept_wanted is-inside n is_one =
      either_way (Later cm) (in_set (old 0) n) (mistaken r twice) (store r 0 (added (old 0) n) 0 r.first) (λ _ _. kept)
      (λ is-new _. kept_alone is-inside 0 (added (old 0) n) (lit< tt) (fits_wanted (old 0) n (sound_at r.plan.sets kept.parts.sets r.end 0 (lit< tt)) is_one is-new))

  kept_modes : within r.context ≡ true → (f n first : ℕ) → first ≤ 6 → 1 ≤ f → f ≤ 6 → (in_set (old f) n ≡ false → added (old f) n % 2 ≡ 1) → Later cm (say r f n f first)
  unfolding say
  kept_modes is-inside f n first is-first some six odd =
      let h : f < 8 = omega (arith, six) in
      either_way (Later cm) (in_set (old f) n) (mistaken r twice) (store r f (added (old f) n) f first) (λ _ _. kept)
      (λ is-new _. kept_last is-inside f (added (old f) n) h (fits_more f (old f) n some six (sound_at r.plan.sets kept.parts.sets r.end f h) (odd is-new)) first is-first six (odd is-new))

  pub kept_mode : within r.context ≡ true → (n : ℕ) → Later cm (name_mode r n)
  unfolding name_mode
  kept_mode is-inside n =
      let f = r.function in
      either_way (Later cm) (eqb f 0) (mistaken r mode_first) (say r f n f r.first) (λ _ _. kept)
      (λ is_one.
      let some : 1 ≤ f = omega (arith, eqb-false f 0 is_one) in
      kept_modes is-inside f n r.first kept.names.first_one some kept.names.last_one (λ is-new. added_odd (old f) n (kept.names.odd some) is-new))

  pub kept_home : within r.context ≡ true → (f : ℕ) → f ≤ 6 → Later cm (name_home r f)
  unfolding name_home
  kept_home is-inside f six = either_way (Later cm) (ltb 0 (old home)) (mistaken r twice) (store r home f 0 r.first) (λ _ _. kept) (λ _ _. kept_alone is-inside home f (lit< tt) (fits_home f six))

-- a function is named, and is the first if none was before
pub kept_function : (cm : List ℕ) (r : Reading) → Kept cm r → within r.context ≡ true → (f : ℕ) → 1 ≤ f → f ≤ 6 → Later cm (name_function r f)
unfolding name_function
kept_function cm r kept is-inside f some six =
    kept_modes cm r kept is-inside f 0 (first_of r.first f) (either_way (λ (n : ℕ). n ≤ 6) (eqb r.first 0) f r.first (λ _. six) (λ _. kept.names.first_one)) some six (λ is-new. named_odd (set_at r.plan r.end f) is-new)
