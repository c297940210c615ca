-- From two records to both ends' sessions: what is written is heard as it was made, so the whole call holds of what the bits bring. And there
-- is such an exchange for every call: each buffer is as long as what is put there.
-- Assumes nothing.
use Prim.Native.Nat.{ℕ, zero, suc, ◌+◌, ◌-◌, ◌%◌, ◌<◌, ◌≤◌}
use native.Mathlib.Omega.{arith}
use mathlib.Core.Path.{◌≡◌, refl, sym, ap, ap₂, subst, ◌∙◌}
use mathlib.Core.Bool.{Bool, true, false}
use mathlib.Core.List.{List, [], ◌∷◌, ◌++◌}
use mathlib.Core.Logic.{⊎_elim}
use borrow.Author.Tests.{le-ltb, lt-ltb, ltb-true, ltb-false}
use lib.Dec.{ltb, eqb}
use lib.ListN.{length, replicate}
use Rattle.laws.specs.Logic.{when, both, either}
use Rattle.laws.specs.Front.{front}
use Rattle.laws.specs.Joined.{joined}
use Rattle.laws.specs.Tests.{every}
use Rattle.laws.proofs.Computed.{every_joined}
use Rattle.laws.proofs.Logic.{either_way, clash}
use Rattle.octets.specs.declared.Kind.TheVariants.{Ci, Menu}
use Rattle.octets.specs.declared.Purpose.TheVariants.{Writing}
use Rattle.octets.specs.Octets.{call_function_tag, category_octet}
use Rattle.octets.specs.Lists.{list_fault}
use Rattle.items.specs.Items.{modulation_octet}
use Rattle.items.proofs.Places.{octet_0, octet_1, octet_2, octet_past}
use Rattle.menus.specs.declared.Offer.{Offer}
use Rattle.menus.specs.Offer.{pcm_tag, protocol, lapm_option, access, offer_of}
use Rattle.refusals.specs.Refusals.{before}
use Rattle.refusals.specs.Lent.{count, WriteOutcome, room_fault, put}
use Rattle.refusals.proofs.Outcomes.{counted}
use Rattle.sequences.specs.Line.{ten_ones, sequence, copies}
use Rattle.sequences.specs.Writing.{written}
use Rattle.listening.specs.Record.{fresh}
use Rattle.stretches.specs.Stretch.{octets_all, AcceptedMessage}
use Rattle.stretches.specs.Hearing.{Report, message_of, reports, repeated}
use Rattle.stretches.proofs.Copies.{copies_read, ci_then_copies}
use Rattle.fields.specs.Packing.{packed}
use Rattle.fields.specs.Blocks.{blocks_fault}
use Rattle.fields.specs.Field.{field_tag, field_of}
use Rattle.fields.proofs.Packing.{packed_small}
use Rattle.records.specs.declared.Record.{Record}
use Rattle.offers.specs.Offering.{cm_offer, jm_offer}
use Rattle.offers.specs.Making.{one_octet, modulation_from, house_count, menu_of, with_field, modulation_count}
use Rattle.offers.proofs.Making.{size_fits}
use Rattle.offers.proofs.Meaning.{menu_writable}
use Rattle.offers.proofs.Fields.{with_readable, with_writable}
use Rattle.octets.proofs.Lists.{before_none}
use Rattle.cadence.specs.Cadence.{is_function, is_cadence, ci_of, on_bits, period}
use Rattle.cadence.specs.Giving.{begun, left}
use Rattle.cadence.proofs.Ranges.{function_small, cadence_lasts}
use Rattle.cadence.proofs.Placed.{placed, begun_placed, left_placed}
use Rattle.steps.specs.declared.Session.{Session}
use Rattle.steps.specs.Table.{tick}
use Rattle.steps.specs.Session.{is_te, in_range, caller_from}
use Rattle.steps.specs.Stepping.{StepOutcome}
use Rattle.steps.specs.Runs.{happens, run, given_out}
use Rattle.steps.proofs.Known.{decide}
use Rattle.steps.proofs.Ranges.{caller_start_is_in_range}
use Rattle.steps.proofs.Drawings.{Goes, run_goes, run_joined}
use Rattle.steps.proofs.Finished.{run_has_sent}
use Rattle.demands.specs.QuietBeforeCm.{finishes_ci}
use Rattle.demands.specs.QuietBeforeCm.{later as later-time}
use Rattle.demands.specs.Joint.{cm_of, jm_of}
use Rattle.demands.specs.OneChoice.{Call}
use Rattle.demands.specs.FromBits.{Makes, Sends, Agreed, here, later, sounding, Calls, ci_bits, Exchange, HearsCiThenCm, ExchangeEnds}
use Rattle.demands.proofs.Joint.{available_used}
use Rattle.demands.proofs.OneChoice.{answered_fits}
use Rattle.demands.proofs.QuietBeforeCm.{quiet_goes_by_the_start}
use Rattle.demands.proofs.WholeCall.{call_names, both_ends_end_with_the_named_choice}
use Rattle.demands.proofs.Sounding.{ci_accepted, Sounded, Ends, sounds}

-- the octets of a menu that is made are octets
category_small : (t o : ℕ) → ltb (category_octet t o) 256 ≡ true
category_small t o = lt-ltb (category_octet t o) 256 (omega arith)

octet_small : (t o : ℕ) → octets_all (category_octet t o ∷ []) ≡ true
unfolding every both
octet_small t o = simp (category_small t o)

one_small : (there : Bool) (t o : ℕ) → octets_all (one_octet there (category_octet t o)) ≡ true
unfolding when every
one_small true t o = octet_small t o
one_small false t o = refl

item_octet_small : (items octet : ℕ) → modulation_octet items octet < 256
item_octet_small items zero = omega (arith, octet_0 items)
item_octet_small items (suc zero) = omega (arith, octet_1 items)
item_octet_small items (suc (suc zero)) = omega (arith, octet_2 items)
item_octet_small items (suc (suc (suc octet))) = omega (arith, octet_past items (suc (suc (suc octet))) (omega arith))

modulation_small : (n items octet : ℕ) → octets_all (modulation_from items octet n) ≡ true
unfolding modulation_from every both
modulation_small zero items octet = refl
modulation_small (suc more) items octet = simp (lt-ltb (modulation_octet items octet) 256 (item_octet_small items octet), modulation_small more items (suc octet))

none_small : octets_all (joined []) ≡ true
unfolding joined every
none_small = refl

more_small : (group : List ℕ) (groups : List (List ℕ)) → octets_all group ≡ true → octets_all (joined groups) ≡ true → octets_all (joined (group ∷ groups)) ≡ true
unfolding joined
more_small group groups = every_joined (λ (b : ℕ). ltb b 256) group (joined groups)

menu_small : (n : ℕ) (offer : Offer) → octets_all (menu_of n offer) ≡ true
menu_small n offer =
    more_small _ _ (octet_small call_function_tag offer.function)
    (more_small _ _ (modulation_small n offer.items 0)
    (more_small _ _ (one_small (ltb 0 offer.pcm) pcm_tag offer.pcm)
    (more_small _ _ (one_small offer.lapm protocol lapm_option)
    (more_small _ _ (one_small offer.access access offer.access_options) none_small))))

jm_small : (own : Record) (heard : List ℕ) → octets_all (jm_of own heard) ≡ true
jm_small own heard = let jm = jm_offer own (offer_of heard) in menu_small (modulation_count jm heard) jm

-- what is made stands in its buffer
pub made_as : (f : ℕ) (menu lent octets : List ℕ) → Makes (put f menu lent) octets → octets ≡ menu
made_as f menu lent octets makes = sym makes.stands ∙ (counted f menu lent makes.size makes.told).stands

-- what is sent of it are copies, with ten 1s behind them, and the writer takes its octets
sent_as : (octets bits : List ℕ) → octets_all octets ≡ true → (sends : Sends octets bits) → AcceptedMessage Menu octets × (bits ≡ copies sends.copies (sequence Menu octets) ++ ten_ones)
sent_as octets bits small sends =
    let line = copies sends.copies (sequence Menu octets) in
    let wrote = counted (before (list_fault (Writing Menu) octets) (room_fault line sends.lent)) line sends.lent sends.size sends.told in
    (record { octet = small; taken = (before_none (list_fault (Writing Menu) octets) (room_fault line sends.lent) wrote.fine).0 }, sym sends.stands ∙ ap (λ (l : List ℕ). l ++ ten_ones) wrote.stands)

-- and that is heard, agreed from the second copy on
heard_copies : (octets bits : List ℕ) → octets_all octets ≡ true → (sends : Sends octets bits) → reports fresh bits ≡ repeated Menu octets sends.copies
heard_copies octets bits small sends = let are = sent_as octets bits small sends in ap (reports fresh) are.1 ∙ copies_read Menu octets are.0 sends.copies

agreed_again : (n : ℕ) (heard octets : List ℕ) → Agreed heard (replicate n (message_of Menu octets true)) → heard ≡ octets
agreed_again zero heard octets agreed = elim agreed [ ]
agreed_again (suc n) heard octets here = refl
agreed_again (suc n) heard octets (later unlike rest) = clash unlike

agreed_as : (n : ℕ) (heard octets : List ℕ) → Agreed heard (repeated Menu octets n) → heard ≡ octets
agreed_as zero heard octets agreed = elim agreed [ ]
agreed_as (suc n) heard octets (later unlike rest) = agreed_again n heard octets rest

-- a CI in front is not agreed
agreed_behind : (n : ℕ) (heard ci : List ℕ) (menus : List Report) → Agreed heard (replicate n (message_of Ci ci false) ++ menus) → Agreed heard menus
agreed_behind zero heard ci menus agreed = agreed
agreed_behind (suc n) heard ci menus (later unlike rest) = agreed_behind n heard ci menus rest

heard_as : (octets bits heard : List ℕ) → octets_all octets ≡ true → Sends octets bits → Agreed heard (reports fresh bits) → heard ≡ octets
heard_as octets bits heard small sends agreed = agreed_as sends.copies heard octets (subst (Agreed heard) (heard_copies octets bits small sends) agreed)

-- and so are those of a field
field_small : (blocks : List ℕ) → octets_all (field_of blocks) ≡ true
unfolding field_of every both
field_small blocks =
    either_way (λ (l : List ℕ). octets_all l ≡ true) (eqb (length blocks) 0) [] (category_octet field_tag 0 ∷ packed blocks) (λ _. refl) (λ _. packed_small blocks)

pub with_small : (offer : Offer) (blocks : List ℕ) → octets_all (with_field offer blocks) ≡ true
with_small offer blocks = every_joined (λ (b : ℕ). ltb b 256) (menu_of house_count offer) (field_of blocks) (menu_small house_count offer) (field_small blocks)

-- a caller that sends CM, by its start
module _ (function on off callerStart te : ℕ) (timed : is_te te ≡ true) (named : is_function function ≡ true) (lasting : is_cadence on off ≡ true) (calls : Calls function on off callerStart te) where
  abbrev started : Session
  started = caller_from callerStart te (begun function on off)

  abbrev calling : Session
  calling = run started calls.acts

  abbrev given : ℕ
  given = length (given_out started calls.acts)

  inside : in_range started ≡ true
  inside = caller_start_is_in_range callerStart te function on off timed named lasting

  goes : Goes function on off 0 (given_out started calls.acts) calling
  goes = run_goes function on off 0 started calls.acts (record { inside = inside; cadence = begun_placed function on off })

  -- its CI is finished
  nothing_left : left (placed function on off given calling.cadence.tone) ≡ 0
  unfolding either
  nothing_left =
      sym (ap left (goes.along.cadence ∙ ap (λ (n : ℕ). placed function on off n calling.cadence.tone) (let z : 0 + given ≡ given = omega arith in z)))
      ∙ run_has_sent started calls.acts inside (λ is. clash (sym is)) (rw calls.sends_cm refl)

  -- by how many bits were given out
  given_all : given ≡ when (ltb given 90) 90 (when (ltb (given % period on off) (on_bits on)) (given + (30 - given % period on off % 30) % 30) given)
  given_all = (let z : given ≡ given + left (placed function on off given calling.cadence.tone) = omega (arith, nothing_left) in z) ∙ left_placed function on off given calling.cadence.tone

  ninety : 90 ≤ given
  unfolding when
  ninety = ⊎_elim (λ few. absurd (let z : given ≡ 90 = given_all ∙ rw few in let w : ⊥ = omega (arith, z, ltb-true given 90 few) in w)) (λ many. ltb-false given 90 many) (decide (ltb given 90))

  ends : Ends function on off (function_small function named) (cadence_lasts on off lasting) given
  unfolding when
  ends within =
      let whole : given ≡ given + (30 - given % period on off % 30) % 30 = given_all ∙ rw (le-ltb given 90 ninety, lt-ltb (given % period on off) (on_bits on) within) in
      omega (arith, whole)

  -- so it is there three times or more
  ci_sounds : Sounded function on off (function_small function named) (cadence_lasts on off lasting) 3 given
  ci_sounds = sounds function on off (function_small function named) (cadence_lasts on off lasting) given ninety ends

  ci_is : ci_bits function on off callerStart te calls ≡ copies ci_sounds.sequences (ci_of function)
  ci_is = ap sounding goes.bits ∙ ci_sounds.all

  -- and heard so, in front of CM
  pub hears_ci_then_cm : (cm cm_bits : List ℕ) → octets_all cm ≡ true → (sends : Sends cm cm_bits) → HearsCiThenCm function cm (ci_bits function on off callerStart te calls) cm_bits sends.copies
  hears_ci_then_cm cm cm_bits small sends =
      let are = sent_as cm cm_bits small sends in
      record {
        sequences = ci_sounds.sequences;
        three = ci_sounds.enough;
        all = ap₂ (λ (ci bits : List ℕ). reports fresh (ci ++ bits)) ci_is are.1 ∙ ci_then_copies (category_octet call_function_tag function ∷ []) cm (ci_accepted function (function_small function named)) are.0 ci_sounds.sequences sends.copies;
      }

module _ (caller answerer : Record) (function : ℕ) (blocks : List ℕ) (call : Call caller answerer function blocks) (on off callerStart te : ℕ) (timed : is_te te ≡ true) (lasting : is_cadence on off ≡ true)
    (calls : Calls function on off callerStart te) (e : Exchange caller answerer function blocks (ci_bits function on off callerStart te calls))
  where
    cm_made : e.cm ≡ cm_of caller function blocks
    cm_made = made_as _ (cm_of caller function blocks) e.cm_lent e.cm e.makes_cm

    jm_made : e.jm ≡ jm_of answerer e.heard_cm
    jm_made = made_as _ (jm_of answerer e.heard_cm) e.jm_lent e.jm e.makes_jm

    cm_told : HearsCiThenCm function e.cm (ci_bits function on off callerStart te calls) e.cm_bits e.sends_cm.copies
    cm_told = hears_ci_then_cm function on off callerStart te timed (call_names caller answerer function blocks call) lasting calls e.cm e.cm_bits (rw cm_made (with_small (cm_offer caller function) blocks)) e.sends_cm

    cm_heard : e.heard_cm ≡ e.cm
    cm_heard = agreed_as e.sends_cm.copies e.heard_cm e.cm (agreed_behind cm_told.sequences e.heard_cm (category_octet call_function_tag function ∷ []) (repeated Menu e.cm e.sends_cm.copies) (subst (Agreed e.heard_cm) cm_told.all e.agreed_cm))

    jm_heard : e.heard_jm ≡ e.jm
    jm_heard = heard_as e.jm e.jm_bits e.heard_jm (rw jm_made (jm_small answerer e.heard_cm)) e.sends_jm e.agreed_jm

    pub exchange_ends : ExchangeEnds caller answerer function on off callerStart te blocks calls e
    exchange_ends = record {
      heard = cm_told;
      cm_arrives = cm_heard;
      jm_arrives = jm_heard;
      ends = λ answererStart callerActs answererActs last.
          rw (cm_made, jm_made) (both_ends_end_with_the_named_choice caller answerer function blocks call e.heard_cm e.heard_jm (cm_heard ∙ cm_made) (jm_heard ∙ jm_made) on off callerStart te answererStart callerActs answererActs last timed lasting);
    }

-- a buffer as long as what is put there
pub room_fits : (new lent : List ℕ) → length new ≤ length lent → room_fault new lent ≡ 0
unfolding when
room_fits new lent room = simp (le-ltb (length lent) (length new) room)

room_there : (new : List ℕ) → room_fault new new ≡ 0
room_there new = room_fits new new (omega arith)

pub put_fine : (f : ℕ) (new lent : List ℕ) → f ≡ 0 → put f new lent ≡ record { answer = count (length new); buffer = front new lent }
unfolding put when
put_fine f new lent none = simp none

makes_it : (f : ℕ) (menu : List ℕ) → f ≡ 0 → Makes (put f menu menu) menu
makes_it f menu none =
    let is = put_fine f menu menu none in
    let told : (put f menu menu).answer ≡ count (length menu) = ap (λ (o : WriteOutcome). o.answer) is in
    record { size = length menu; told = told; stands = (counted f menu menu (length menu) told).stands }

sends_it : (octets : List ℕ) → list_fault (Writing Menu) octets ≡ 0 → Sends octets (copies 2 (sequence Menu octets) ++ ten_ones)
unfolding when
sends_it octets fine =
    let line = copies 2 (sequence Menu octets) in
    let f = before (list_fault (Writing Menu) octets) (room_fault line line) in
    let is = put_fine f line line (simp (fine, room_there line)) in
    let told : (written Menu octets 2 line).answer ≡ count (length line) = ap (λ (o : WriteOutcome). o.answer) is in
    record { copies = 2; two = omega arith; lent = line; size = length line; told = told; stands = ap (λ (l : List ℕ). l ++ ten_ones) (counted f line line (length line) told).stands }

agrees_it : (octets : List ℕ) → octets_all octets ≡ true → list_fault (Writing Menu) octets ≡ 0 → Agreed octets (reports fresh (copies 2 (sequence Menu octets) ++ ten_ones))
agrees_it octets small fine = rw (copies_read Menu octets (record { octet = small; taken = fine }) 2) (later refl here)

-- two copies or more are agreed
two_by : (n : ℕ) (octets : List ℕ) → 2 ≤ n → Agreed octets (repeated Menu octets n)
two_by zero octets two = absurd (let z : ⊥ = omega (arith, two) in z)
two_by (suc zero) octets two = absurd (let z : ⊥ = omega (arith, two) in z)
two_by (suc (suc n)) octets two = later refl here

two_agree : (octets : List ℕ) {bits : List ℕ} (sends : Sends octets bits) → Agreed octets (repeated Menu octets sends.copies)
two_agree octets sends = two_by sends.copies octets sends.two

-- behind a CI it is agreed as without one
agrees_behind : (n : ℕ) (octets ci : List ℕ) (menus : List Report) → Agreed octets menus → Agreed octets (replicate n (message_of Ci ci false) ++ menus)
agrees_behind zero octets ci menus agreed = agreed
agrees_behind (suc n) octets ci menus agreed = later refl (agrees_behind n octets ci menus agreed)

pub exchange_happens : (caller answerer : Record) (function : ℕ) (blocks : List ℕ) (on off callerStart te : ℕ) → is_te te ≡ true → is_cadence on off ≡ true → (calls : Calls function on off callerStart te)
    → Call caller answerer function blocks → blocks_fault blocks ≡ 0 → Exchange caller answerer function blocks (ci_bits function on off callerStart te calls)
unfolding when
exchange_happens caller answerer function blocks on off callerStart te timed lasting calls call fine =
    let cm = cm_of caller function blocks in
    let writable = with_writable (cm_offer caller function) blocks (size_fits cm call.fits) in
    let jm = jm_of answerer cm in
    let answer = jm_offer answerer (offer_of cm) in
    let short = answered_fits caller answerer function blocks call in
    let answerable = menu_writable (modulation_count answer cm) answer short in
    let told = hears_ci_then_cm function on off callerStart te timed (call_names caller answerer function blocks call) lasting calls cm (copies 2 (sequence Menu cm) ++ ten_ones) (with_small (cm_offer caller function) blocks) (sends_it cm writable) in
    record {
      cm_lent = cm;
      cm = cm;
      makes_cm = makes_it _ cm (simp (call.calling.good, sym (available_used caller function) ∙ call.available, size_fits cm call.fits, fine, room_there cm));
      cm_bits = copies 2 (sequence Menu cm) ++ ten_ones;
      sends_cm = sends_it cm writable;
      heard_cm = cm;
      agreed_cm = subst (Agreed cm) (sym told.all) (agrees_behind told.sequences cm (category_octet call_function_tag function ∷ []) (repeated Menu cm (sends_it cm writable).copies) (two_agree cm (sends_it cm writable)));
      jm_lent = jm;
      jm = jm;
      makes_jm = makes_it _ jm (simp (call.answering.good, with_readable (cm_offer caller function) blocks (size_fits cm call.fits), size_fits jm short, room_there jm));
      jm_bits = copies 2 (sequence Menu jm) ++ ten_ones;
      sends_jm = sends_it jm answerable;
      heard_jm = jm;
      agreed_jm = agrees_it jm (jm_small answerer cm) answerable;
    }

-- and there is a caller that comes to send CM: a tick, ANSam, three sequences, a tick, and one once Te has passed
pub calls_there : (function on off : ℕ) → is_function function ≡ true → is_cadence on off ≡ true → Calls function on off 0 1000
unfolding run
calls_there function on off named lasting =
    let quiets = (quiet_goes_by_the_start 0 function on off named lasting).without_value in
    let acts = finishes_ci 1000 1000 (replicate 90 0) 1300 in
    let started = caller_from 0 1000 (begun function on off) in
    let quiet-now = quiets.reaches 1000 0 300 (replicate 90 0) (omega arith) (omega arith) (omega arith) (omega arith) (omega arith) (omega arith) in
    let is-quiet = ap (λ (s : Session). s.state) quiet-now in
    let entered = ap (λ (s : Session). s.entry) quiet-now in
    let ticked = (quiets.lasts acts is-quiet (omega (arith, entered)) 1000 0).ends (omega arith) (omega arith) in
    record { acts = acts ++ happens (record { event = tick; value = 0; now = later-time 1000 (run started acts).entry }) ∷ []; sends_cm = ap (λ (s : Session). s.state) (run_joined started acts (happens (record { event = tick; value = 0; now = later-time 1000 (run started acts).entry }) ∷ [])) ∙ ap (λ (o : StepOutcome). o.session.state) ticked }
